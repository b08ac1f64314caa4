pub mod ArrangedLaw
pub mod KeptTokens
pub mod OrderLaw
pub mod SiteLaw
pub mod TriviaLemmas
