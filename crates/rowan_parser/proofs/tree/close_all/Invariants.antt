use Rattle.std.proofs.Common.{◌≡◌, ◌++◌}
use Rattle.rowan_builder.specs.Loan.{value_of, word_of, loan_of}
use Rattle.rowan_builder.specs.Stream.{BuildsOn}
use Rattle.rowan_parser.specs.Building.{IsBuilding}
use Rattle.rowan_parser.specs.Events.{closings}
use Rattle.rowan_parser.proofs.tree.close_all.Given as goal

abbrev pub invariant-loop-progress : goal.invariant-loop-progress
invariant-loop-progress l = record {
  building : IsBuilding l.source (word_of l.builder) l.progress;
  stream : BuildsOn (value_of l.fn.builder) (value_of l.builder);
  loan : loan_of l.builder ≡ loan_of l.fn.builder;
  closes : word_of l.builder ++ closings l.progress.depth ≡ word_of l.fn.builder ++ closings
      l.fn.progress.depth;
  same : l.progress.put ≡ l.fn.progress.put;
}

abbrev pub decreases-loop-progress : goal.decreases-loop-progress
decreases-loop-progress l = l.progress.depth
