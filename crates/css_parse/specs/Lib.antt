pub mod Fronts
pub mod Unsupported
pub mod Refusals
pub mod Words
pub mod Forms
pub mod Readings
pub mod ItemReadings
