use Rattle.std.proofs.Common.{◌≡◌, length}
use Rattle.rowan_builder.specs.Loan.{value_of, word_of, loan_of}
use Rattle.rowan_builder.specs.Stream.{BuildsOn}
use Rattle.rowan_parser.specs.Building.{IsBuilding}
use Rattle.rowan_parser.proofs.Spelling.{IsOpening}
use Rattle.rowan_parser.proofs.tree.open_nodes.Given as goal

abbrev pub invariant-loop-outer : goal.invariant-loop-outer
invariant-loop-outer l = record {
  building : IsBuilding l.source (word_of l.builder) l.progress;
  stream : BuildsOn (value_of l.fn.builder) (value_of l.builder);
  loan : loan_of l.builder ≡ loan_of l.fn.builder;
  opens : IsOpening l.source l.fn.kinds.items (word_of l.fn.builder) l.fn.progress l.kinds.items
      (word_of l.builder) l.progress;
}

abbrev pub decreases-loop-outer : goal.decreases-loop-outer
decreases-loop-outer l = length l.kinds.items
