mod HoldingLemmas
mod ReplacedLemmas
