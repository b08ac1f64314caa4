pub mod JsonLemmas
pub mod PrintedLemmas
pub mod QuoteLemmas
pub mod SpelledLemmas
pub mod WalkLemmas
