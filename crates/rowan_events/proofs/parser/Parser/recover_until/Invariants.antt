use Rattle.std.proofs.Common.{length}
use Rattle.rowan_events.specs.Log.{with_event}
use Rattle.rowan_events.specs.Seen.{has}
use Rattle.rowan_events.specs.declared.event.Event.TheVariants.{Nothing}
use Rattle.rowan_events.proofs.Skipping.{IsSkipping}
use Rattle.rowan_events.proofs.parser.Parser.recover_until.Given as goal

abbrev pub invariant-skip : goal.invariant-skip
invariant-skip g l = IsSkipping (has l.set.0) (with_event Nothing l.fn.self) l.self

abbrev pub decreases-skip : goal.decreases-skip
decreases-skip g l = length l.self.left
