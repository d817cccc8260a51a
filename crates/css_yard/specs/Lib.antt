pub mod Values
pub mod Yards
pub mod Submits
pub mod Kept
pub mod Standings
pub mod InOrders
