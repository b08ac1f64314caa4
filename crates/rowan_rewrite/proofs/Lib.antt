pub mod LeafOffsets
pub mod PassLemmas
pub mod PassSteps
pub mod RewriteChangeLemmas
pub mod RewritingCallLemmas
pub mod RewritingLemmas
