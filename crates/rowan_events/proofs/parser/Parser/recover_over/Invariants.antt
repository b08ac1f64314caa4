use Rattle.std.proofs.Common.{◌+◌, ◌≤◌, length}
use Rattle.rowan_events.specs.Log.{with_event, halts_outside, level_behind}
use Rattle.rowan_events.specs.Seen.{has}
use Rattle.rowan_events.specs.declared.event.Event.TheVariants.{Nothing}
use Rattle.rowan_events.proofs.Skipping.{IsSkippingBy}
use Rattle.rowan_events.proofs.parser.Parser.recover_over.Given as goal

abbrev pub invariant-skip : goal.invariant-skip
invariant-skip g l = record {
  skips : IsSkippingBy (halts_outside (has l.set.0))
      (level_behind (has l.brackets.open.0) (has l.brackets.close.0))
      (with_event Nothing l.fn.self) l.level l.self;
  within : l.level + length l.self.left ≤ l.most;
}

abbrev pub decreases-skip : goal.decreases-skip
decreases-skip g l = length l.self.left
