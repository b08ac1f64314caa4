pub mod Drafts
pub mod Rewriting
pub mod RewritingCalls
pub mod TokenAts
pub mod Trivia
