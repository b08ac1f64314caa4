-- Runs: what a list of calls does to a builder. Its word is rewritten, and its cache is asked for
-- what the calls add and close.
use Rattle.std.specs.Prelude.{◌≡◌, ℕ, List}
use Rattle.rowan_builder.specs.Builder.{BuilderValue}
use Rattle.rowan_builder.specs.Stream.{intern_all}
use Rattle.rowan_script.specs.declared.script.calls.Call.{Call}
use Rattle.rowan_script.specs.declared.script.calls.Outcome.{Outcome}
use Rattle.rowan_script.specs.Rewriting.{Performs, Rewrites}
use Rattle.rowan_script.specs.Requests.{requests_of, stream}

-- one call from a builder's value to the next, where these marks were taken before
pub record Advances (marks : List ℕ) (old : BuilderValue) (call : Call) (outcome : Outcome)
    (new : BuilderValue) : Type 0 where
  pub performs : Performs marks old.word call outcome new.word
  pub interns : new.cache
      ≡ intern_all old.cache (requests_of marks old.word call outcome new.word performs.gives)

-- the calls, with one outcome each, go from one builder's value to another
pub record Run (old : BuilderValue) (calls : List Call) (outcomes : List Outcome)
    (new : BuilderValue) : Type 0 where
  pub words : Rewrites old.word calls outcomes new.word
  pub interns : new.cache ≡ intern_all old.cache (stream words)
