-- The changes of an editor's edits, once the new tree is within the limits.
use Rattle.std.proofs.Common.{◌≡◌, ◌+◌, ◌≤◌, List, sym, subst, arith}
use Rattle.rowan_green.specs.declared.utility_types.NodeOrToken.TheVariants.{Node}
use Rattle.rowan_green.specs.Fits.{FitsNode, byte_limit}
use Rattle.rowan_green.specs.Term.{NodeTerm, Term, term_len}
use Rattle.rowan_green.proofs.Terms.{Fits-len}
use Rattle.rowan_changes.specs.declared.changes.Change.{Change}
use Rattle.rowan_changes.specs.declared.edit.Splice.{Splice}
use Rattle.rowan_changes.specs.Changes.{changes_of, old_bytes, new_bytes}
use Rattle.rowan_changes.specs.ChangesKept.{Follow, last_end}
use Rattle.rowan_changes.specs.Edit.{edited}
use Rattle.rowan_changes.specs.GreenEditor.{edits_of, AreListed, ArePairs}
use Rattle.rowan_changes.specs.Plan.{Plan}
use Rattle.rowan_changes.proofs.ChangeLemmas.{pairs-are}
use Rattle.rowan_edit.proofs.RangeLaw.{follow-start, last-within, old-within, total}

-- the list has the changes of the plan, and they are within the limits
pub record AreWhole (plan : Plan) (cs : List Change) : Type 0 where
  pub is : cs ≡ changes_of (Node plan.root) plan.edits
  pub follow : Follow 0 cs
  pub fits : last_end 0 cs + new_bytes cs ≤ byte_limit + old_bytes cs

pub whole-inside : (root : NodeTerm) (ss : List Splice) (cs : List Change) (n : NodeTerm)
    → AreListed root ss → ArePairs ss cs → Node n ≡ edited (Node root) (edits_of ss) → FitsNode n
    → AreWhole (record { root = root; edits = edits_of ss }) cs
whole-inside root ss cs n h pairs same fits =
    let t : Term = Node root in
    let es = edits_of ss in
    let ds = changes_of t es in
    let len = total root es h.order.of_tree h.order.in_turn in
    let follow = follow-start t es h.order.in_turn in
    let limit : term_len (edited t es) ≤ byte_limit =
    subst (λ u. term_len u ≤ byte_limit) same (Fits-len (Node n) fits) in
    let last = last-within t es 0 (omega arith) in
    let old = old-within ds 0 follow in
    let few : new_bytes ds ≤ byte_limit = omega (arith, len, limit, last, old) in
    let is : cs ≡ ds = pairs-are root ss cs h.ranges pairs few in
    let room : last_end 0 ds + new_bytes ds ≤ byte_limit + old_bytes ds =
    omega (arith, len, limit, last) in
    record {
      is = is;
      follow = subst (Follow 0) (sym is) follow;
      fits = subst (λ xs. last_end 0 xs + new_bytes xs ≤ byte_limit + old_bytes xs) (sym is) room;
    }
