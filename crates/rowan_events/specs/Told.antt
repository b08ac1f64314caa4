-- A complaint of a grammar.
use Rattle.std.specs.Prelude.{ℕ, List}
use Rattle.rowan_events.specs.declared.parser.Spot.{Spot}

-- how many tokens were taken before it, where it stands, and the bytes of its message
pub record Told : Type 0 where
  pub place : ℕ
  pub spot : Spot
  pub message : List ℕ
