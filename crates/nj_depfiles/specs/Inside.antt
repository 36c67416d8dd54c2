pub mod PiecesCut
pub mod Readings
