use Rattle.std.proofs.Common.{◌≡◌, ◌+◌, ◌*◌, ◌≤◌, [], map, drop}
use lib.Pointwise.{pointwise}
use Rattle.rowan_green.specs.Term.{node_size}
use Rattle.rowan_green.specs.Sizes.{children_size, term_size}
use Rattle.rowan_green.specs.View.{child_term}
use Rattle.rowan_green.specs.Same.{same_term}
use Rattle.rowan_green.specs.Unread.{same_rows, rows_size}
use Rattle.rowan_green.proofs.green.node.+eq.Given as goal

abbrev pub decreases-compare::GreenNodePartialEq::eq :
    goal.decreases-compare::GreenNodePartialEq::eq
decreases-compare::GreenNodePartialEq::eq l = 4 * node_size l.self.now + 2

abbrev pub decreases-GreenNode::is_same_within : goal.decreases-GreenNode::is_same_within
decreases-GreenNode::is_same_within l = 4 * node_size l.self.now + 1

abbrev pub decreases-GreenNode::is_same_or_listed : goal.decreases-GreenNode::is_same_or_listed
decreases-GreenNode::is_same_or_listed l = 4 * node_size l.self.now + 3

abbrev pub decreases-GreenChild::is_same_within : goal.decreases-GreenChild::is_same_within
decreases-GreenChild::is_same_within l = 4 * term_size (child_term l.self.now) + 2

abbrev pub decreases-GreenChild::are_same_within : goal.decreases-GreenChild::are_same_within
decreases-GreenChild::are_same_within l = 4 * children_size l.children.now + 3

abbrev pub invariant-GreenChild::are_same_within-loop-i :
    goal.invariant-GreenChild::are_same_within-loop-i
invariant-GreenChild::are_same_within-loop-i l = record {
  same : pointwise same_term (map child_term l.children) (map child_term l.others)
      ≡ pointwise same_term (map child_term (drop l.i l.children))
      (map child_term (drop l.i l.others));
  empty : l.rest.items ≡ [];
}

abbrev pub decreases-GreenChild::are_same_by_list : goal.decreases-GreenChild::are_same_by_list
decreases-GreenChild::are_same_by_list l = 4 * children_size l.children.now + 4

abbrev pub invariant-GreenChild::are_same_by_list-loop-row :
    goal.invariant-GreenChild::are_same_by_list-loop-row
invariant-GreenChild::are_same_by_list-loop-row l = record {
  same : pointwise same_term (map child_term l.children) (map child_term l.others)
      ≡ same_rows l.rest.items;
  smaller : rows_size l.rest.items ≤ children_size l.children;
}

abbrev pub decreases-GreenChild::are_same_by_list-loop-row :
    goal.decreases-GreenChild::are_same_by_list-loop-row
decreases-GreenChild::are_same_by_list-loop-row l = rows_size l.rest.items

abbrev pub decreases-GreenChild::are_same_or_listed :
    goal.decreases-GreenChild::are_same_or_listed
decreases-GreenChild::are_same_or_listed l = 4 * children_size l.children.now + 3

abbrev pub invariant-GreenChild::are_same_or_listed-loop-i :
    goal.invariant-GreenChild::are_same_or_listed-loop-i
invariant-GreenChild::are_same_or_listed-loop-i l = record {
  same : pointwise same_term (map child_term l.children) (map child_term l.others)
      ≡ pointwise same_term (map child_term (drop l.i l.children))
      (map child_term (drop l.i l.others));
  left : l.rest.items ≡ l.initial.rest.items;
  smaller : children_size (drop l.i l.children) ≤ children_size l.children;
}

abbrev pub decreases-GreenChild::is_same_or_listed : goal.decreases-GreenChild::is_same_or_listed
decreases-GreenChild::is_same_or_listed l = 4 * term_size (child_term l.self.now) + 2
