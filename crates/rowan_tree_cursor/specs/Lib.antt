pub mod TreeCursor
pub mod TreeCursorMoves
