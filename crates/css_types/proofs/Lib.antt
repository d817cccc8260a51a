pub mod RightOperands
pub mod Pieces
