pub mod Scopes
pub mod Names
pub mod Tables
pub mod Firsts
pub mod FirstPlaces
pub mod Libraries
pub mod Shapes
pub mod Laws
