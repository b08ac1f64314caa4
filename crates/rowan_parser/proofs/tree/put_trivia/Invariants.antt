use Rattle.std.proofs.Common.{◌≡◌, ◌-◌, length}
use Rattle.rowan_builder.specs.Loan.{value_of, word_of, loan_of}
use Rattle.rowan_builder.specs.Stream.{BuildsOn}
use Rattle.rowan_parser.specs.Building.{IsBuilding}
use Rattle.rowan_parser.specs.Events.{is_trivia}
use Rattle.rowan_parser.proofs.Passing.{IsPassing}
use Rattle.rowan_parser.proofs.tree.put_trivia.Given as goal

abbrev pub invariant-loop-builder : goal.invariant-loop-builder
invariant-loop-builder l = record {
  building : IsBuilding l.source (word_of l.builder) l.progress;
  stream : BuildsOn (value_of l.fn.builder) (value_of l.builder);
  loan : loan_of l.builder ≡ loan_of l.fn.builder;
  passing : IsPassing (is_trivia l.source.trivia) l.source.tokens.now (word_of l.fn.builder) l.fn.progress.put
      (word_of l.builder) l.progress.put;
  same : l.progress.depth ≡ l.fn.progress.depth;
}

abbrev pub decreases-loop-builder : goal.decreases-loop-builder
decreases-loop-builder l = length l.source.tokens.now - l.progress.put
