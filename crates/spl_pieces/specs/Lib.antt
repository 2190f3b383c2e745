pub mod SignViews
pub mod PieceViews
