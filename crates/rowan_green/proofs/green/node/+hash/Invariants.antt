use Rattle.std.proofs.Common.{◌≡◌, ◌+◌, ◌*◌, ◌≤◌, fold}
use Rattle.rowan_green.specs.Term.{node_size}
use Rattle.rowan_green.specs.Sizes.{children_size}
use Rattle.rowan_green.specs.Feeds.{fed_terms, fed_node}
use Rattle.rowan_green.specs.Unread.{left_terms, left_size}
use Rattle.rowan_green.proofs.green.node.+hash.Given as goal

abbrev pub decreases-hash::GreenNodeHash::hash : goal.decreases-hash::GreenNodeHash::hash
decreases-hash::GreenNodeHash::hash g l = 2 * node_size l.self.now + 1

abbrev pub decreases-GreenNode::hash_within : goal.decreases-GreenNode::hash_within
decreases-GreenNode::hash_within g l = 2 * node_size l.self.now

abbrev pub decreases-GreenChild::hash_first : goal.decreases-GreenChild::hash_first
decreases-GreenChild::hash_first g l = 2 * children_size l.children.now + 1

abbrev pub invariant-GreenNode::hash_within-loop-next :
    goal.invariant-GreenNode::hash_within-loop-next
invariant-GreenNode::hash_within-loop-next g l = record {
  fed : fold g.H.Hasher.write l.fn.state (fed_node l.self)
      ≡ fold g.H.Hasher.write l.state (fed_terms (left_terms l.next l.rest.items));
  smaller : left_size l.next l.rest.items ≤ node_size l.self;
}

abbrev pub decreases-GreenNode::hash_within-loop-next :
    goal.decreases-GreenNode::hash_within-loop-next
decreases-GreenNode::hash_within-loop-next g l = left_size l.next l.rest.items
