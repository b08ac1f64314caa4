use Rattle.std.proofs.Common.{◌≤◌, ◌+◌, ◌*◌}
use Rattle.rowan_green.specs.Term.{joined_text, node_text, node_size}
use Rattle.rowan_green.specs.Sizes.{children_size}
use Rattle.rowan_green.specs.Unread.{left_terms, left_size, WritesUpTo}
use Rattle.rowan_green.proofs.green.node.+display.Given as goal

abbrev pub decreases-display::GreenNodeDisplay::fmt : goal.decreases-display::GreenNodeDisplay::fmt
decreases-display::GreenNodeDisplay::fmt g l = 2 * node_size l.self.now + 1

abbrev pub decreases-GreenNode::fmt_within : goal.decreases-GreenNode::fmt_within
decreases-GreenNode::fmt_within g l = 2 * node_size l.self.now

abbrev pub decreases-GreenChild::display_first : goal.decreases-GreenChild::display_first
decreases-GreenChild::display_first g l = 2 * children_size l.children.now + 1

abbrev pub invariant-GreenNode::fmt_within-loop-next :
    goal.invariant-GreenNode::fmt_within-loop-next
invariant-GreenNode::fmt_within-loop-next g l = record {
  writes : WritesUpTo g.W.Write.write_str_gives l.initial.f (node_text l.self)
      (joined_text (left_terms l.next l.rest.items)) l.f;
  smaller : left_size l.next l.rest.items ≤ node_size l.self;
}

abbrev pub decreases-GreenNode::fmt_within-loop-next :
    goal.decreases-GreenNode::fmt_within-loop-next
decreases-GreenNode::fmt_within-loop-next g l = left_size l.next l.rest.items
