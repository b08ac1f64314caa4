pub mod TreeCursorLemmas
pub mod TreeCursorMoveLemmas
pub mod TreeCursorReplaceLemmas
pub mod TreeCursorSearchLemmas
