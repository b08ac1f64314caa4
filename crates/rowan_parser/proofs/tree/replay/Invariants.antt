use Rattle.std.proofs.Common.{◌≡◌, ◌∷◌, [], length}
use Rattle.rowan_builder.specs.Loan.{value_of, word_of, loan_of}
use Rattle.rowan_builder.specs.Stream.{BuildsOn}
use Rattle.rowan_green.specs.Word.{Open}
use Rattle.rowan_parser.specs.Building.{IsBuilding, to_come}
use Rattle.rowan_parser.specs.Events.{spelled_by}
use Rattle.rowan_parser.specs.Shape.{steps}
use Rattle.rowan_parser.proofs.tree.replay.Given as goal

abbrev pub invariant-loop-event : goal.invariant-loop-event
invariant-loop-event l = record {
  building : IsBuilding l.source (word_of l.builder) l.progress;
  no_kinds : l.kinds.items ≡ [];
  stream : BuildsOn (value_of l.fn.builder) (value_of l.builder);
  loan : loan_of l.builder ≡ loan_of l.fn.builder;
  spells : to_come l.source (word_of l.builder) l.progress (steps l.events)
      ≡ Open l.source.root_kind.0 ∷ spelled_by l.source.trivia 0 (steps l.source.events.now)
      l.source.tokens.now;
}

abbrev pub decreases-loop-event : goal.decreases-loop-event
decreases-loop-event l = length l.events
