use Rattle.std.proofs.Common.{◌≡◌}
use Rattle.rowan_builder.specs.Loan.{value_of, word_of, loan_of}
use Rattle.rowan_builder.specs.Stream.{BuildsOn}
use Rattle.rowan_parser.specs.Building.{IsBuilding}
use Rattle.rowan_parser.proofs.Passing.{IsPuttingSome}
use Rattle.rowan_parser.proofs.tree.put_some.Given as goal

abbrev pub invariant-loop-count : goal.invariant-loop-count
invariant-loop-count l = record {
  building : IsBuilding l.source (word_of l.builder) l.progress;
  stream : BuildsOn (value_of l.fn.builder) (value_of l.builder);
  loan : loan_of l.builder ≡ loan_of l.fn.builder;
  putting : IsPuttingSome l.source.tokens.now (word_of l.fn.builder) l.fn.progress.put l.fn.count
      (word_of l.builder) l.progress.put l.count;
  same : l.progress.depth ≡ l.fn.progress.depth;
}

abbrev pub decreases-loop-count : goal.decreases-loop-count
decreases-loop-count l = l.count
