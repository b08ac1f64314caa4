-- A grammar was called with a parser as it begins, and the parser had these events and errors in the
-- end.
use Rattle.std.specs.Prelude.{◌≡◌, IsTrue, List}
use Rattle.std.specs.Borrow.{MutBor}
use Rattle.std.specs.Fn.{Once, FnOnceReturnsAtMut}
use Rattle.rowan_events.specs.Log.{Seen}
use Rattle.rowan_events.specs.Told.{Told}
use Rattle.rowan_events.specs.declared.event.Event.{Event}

pub record Makes {G : Type 0}
    (calls : Once G (MutBor Seen × Unit {0}) (Unit {0} × (MutBor Seen × Unit {0})))
    (grammar : G) (first : Seen) (events : List Event) (errors : List Told) : Type 0 where
  pub last : Seen
  pub ran : FnOnceReturnsAtMut calls grammar first tt last
  pub whole : IsTrue last.is_whole
  pub made : last.events ≡ events
  pub told : last.errors ≡ errors
