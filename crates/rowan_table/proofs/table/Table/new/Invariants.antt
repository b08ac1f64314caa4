use Rattle.std.proofs.Common.{◌≡◌}
use Rattle.rowan_table.specs.DraftView.{IsFilled, HasTheirs, draft_root, size_left}
use Rattle.rowan_table.proofs.table.Table.new.Given as goal

abbrev pub invariant-loop-parent : goal.invariant-loop-parent
invariant-loop-parent l = record {
  filled : IsFilled l.draft;
  children : HasTheirs l.draft;
  root : draft_root l.draft ≡ l.fn.green;
}

abbrev pub decreases-loop-parent : goal.decreases-loop-parent
decreases-loop-parent l = size_left l.draft
