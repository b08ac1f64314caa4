pub mod block
pub mod count
