use Rattle.std.proofs.Common.{◌≡◌, true, false, ◌-◌, Some, length, refl, sym, ◌∙◌, ap, arith}
use Rattle.std.specs.Prelude.{slice_get}
use Rattle.std.proofs.lemmas.Option.{slice_get_within}
use Rattle.rowan_green.specs.Term.{NodeTerm, node_children}
use Rattle.rowan_table.specs.Table.{facts_of, entry_facts}
use Rattle.rowan_table.specs.TableView.{entries_of}
use Rattle.rowan_table.proofs.EndLemmas.{token_behind}
use Rattle.rowan_table.proofs.InnerLemmas.{token_bare}
use Rattle.rowan_table.proofs.TableLemmas.{child_of_above, node_above}
use Rattle.rowan_table.proofs.table.Table.element.Goals as goal

pub unreachable-requires : goal.unreachable-requires
unreachable-requires c =
    let s = c.args.self.now in
    let e = facts_of s.nodes c.entry.result.now in
    let behind = token_behind s c.args.number (c.in_default.ensures.none refl) in
    let both : true ≡ false = sym (node_above (entries_of s) s.complete c.args.number e
    c.entry.ensures.at behind) ∙ (c.in_default-node_number.ensures.none refl).is in
    cc both

pub first_child-requires : goal.first_child-requires
first_child-requires c =
    let above = c.in-Some-node_number.ensures.some in
    slice_get_within c.args.self.now.nodes c.in-Some-node_number.above above.inner above.node

pub overflow_sub-index : goal.overflow_sub-index
overflow_sub-index c =
    let s = c.args.self.now in
    let n = c.args.number in
    let e = facts_of s.nodes c.entry.result.now in
    let above = c.in-Some-node_number.ensures.some in
    let p = entry_facts above.entry (Some above.inner) in
    omega (
      arith,
      c.first_child.ensures above.inner above.node,
      (s.complete.parents n e p c.entry.ensures.at
          (token_behind s n (c.in_default.ensures.none refl))
          above.is.at).place,
    )

pub green-requires-2 : goal.green-requires-2
green-requires-2 c =
    let above = c.in-Some-node_number.ensures.some in
    slice_get_within c.args.self.now.nodes c.in-Some-node_number.above above.inner above.node

pub unreachable-requires-in_default-child_ref : goal.unreachable-requires-in_default-child_ref
unreachable-requires-in_default-child_ref c =
    let s = c.args.self.now in
    let n = c.args.number in
    let e = facts_of s.nodes c.entry.result.now in
    let at = c.entry.ensures.at in
    let above = c.in-Some-node_number.ensures.some in
    let p = entry_facts above.entry (Some above.inner) in
    omega (
      arith,
      (child_of_above (entries_of s) s.complete n e p at
          (token_bare s n e (c.in_default.ensures.none refl) at) above.is.at).1,
      ap (λ (m : NodeTerm). length (node_children m)) (c.green-2.ensures above.inner above.node),
      c.first_child.ensures above.inner above.node,
      c.in_default-child_ref.ensures.none.0 refl,
    )

pub returns : goal.returns
returns c =
    let s = c.args.self.now in
    let n = c.args.number in
    let e = facts_of s.nodes c.entry.result.now in
    let at = c.entry.ensures.at in
    let above = c.in-Some-node_number.ensures.some in
    let p = entry_facts above.entry (Some above.inner) in
    (child_of_above (entries_of s) s.complete n e p at
    (token_bare s n e (c.in_default.ensures.none refl) at) above.is.at).0
    ∙ ap (λ (m : NodeTerm). slice_get (node_children m) (n - above.inner.first_child))
    (sym (c.green-2.ensures above.inner above.node))
    ∙ ap (λ k. slice_get (node_children c.green-2.result.now) (n - k))
    (sym (c.first_child.ensures above.inner above.node))
    ∙ c.in-Some-child_ref.ensures.some.1
