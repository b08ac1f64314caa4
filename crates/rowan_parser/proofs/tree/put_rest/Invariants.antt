use Rattle.std.proofs.Common.{◌≡◌, ◌-◌, ◌++◌, length, drop}
use Rattle.rowan_builder.specs.Loan.{value_of, word_of, loan_of}
use Rattle.rowan_builder.specs.Stream.{BuildsOn}
use Rattle.rowan_parser.specs.Building.{IsBuilding}
use Rattle.rowan_parser.specs.Events.{leaves}
use Rattle.rowan_parser.proofs.tree.put_rest.Given as goal

abbrev pub invariant-loop-progress : goal.invariant-loop-progress
invariant-loop-progress l = record {
  building : IsBuilding l.source (word_of l.builder) l.progress;
  same : l.progress.depth ≡ l.fn.progress.depth;
  stream : BuildsOn (value_of l.fn.builder) (value_of l.builder);
  loan : loan_of l.builder ≡ loan_of l.fn.builder;
  puts : word_of l.builder ++ leaves (drop l.progress.put l.source.tokens.now) ≡ word_of
      l.fn.builder ++ leaves (drop l.fn.progress.put l.source.tokens.now);
}

abbrev pub decreases-loop-progress : goal.decreases-loop-progress
decreases-loop-progress l = length l.source.tokens.now - l.progress.put
