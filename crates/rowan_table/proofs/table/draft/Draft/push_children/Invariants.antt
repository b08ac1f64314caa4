use Rattle.std.proofs.Common.{◌≡◌, ℕ, ◌+◌, ◌≤◌, length, take}
use Rattle.rowan_green.specs.Sizes.{terms_size}
use Rattle.rowan_green.specs.Term.{node_children}
use Rattle.rowan_table.specs.DraftView.{IsFilled, IsNextIndex, HasRoom, draft_root}
use Rattle.rowan_table.specs.DraftView.{draft_root_with, size_left}
use Rattle.rowan_table.specs.Table.{child_counts}
use Rattle.rowan_table.proofs.table.draft.Draft.push_children.Given as goal

-- the children so far have entries
abbrev pub invariant-loop-index : goal.invariant-loop-index
invariant-loop-index l = record {
  filled : IsFilled l.self;
  place : IsNextIndex l.self l.parent l.index;
  entries : length l.self.entries.items ≡ l.first_child + l.index;
  children : child_counts l.self.nodes ≡ child_counts l.fn.self.nodes
      + length (node_children l.parent.node.now);
  root : draft_root l.self ≡ draft_root_with l.fn.self l.parent;
  size : size_left l.self ≤ size_left l.fn.self
      + terms_size (take l.index (node_children l.parent.node.now));
  more : l.waited ≤ length l.self.waiting.items;
  room : (n : ℕ) → l.index + n ≤ l.count → HasRoom l.self n;
}
