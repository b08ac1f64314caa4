pub mod Casts
pub mod Eval
pub mod Grammar
pub mod Operation
pub mod Parsing
pub mod Sexp
pub mod Wrappers
