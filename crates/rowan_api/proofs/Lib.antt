pub mod RefLemmas
