pub mod CastLemmas
pub mod SetLemmas
