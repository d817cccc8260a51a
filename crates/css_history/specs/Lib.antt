pub mod Terms
pub mod Histories
pub mod Rules
pub mod Bodies
pub mod Legal
pub mod Seats
pub mod Laws
