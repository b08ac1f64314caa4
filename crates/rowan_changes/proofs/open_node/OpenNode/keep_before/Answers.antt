use Rattle.std.proofs.Common.{◌≡◌, ◌-◌, ◌++◌, take, Some, sym, ◌∙◌, ap, arith}
use Rattle.std.specs.Prelude.{slice_get, reverse}
use Rattle.rowan_green.specs.Term.{node_children}
use Rattle.rowan_changes.proofs.OpenNodeLemmas.{kept-done}
use Rattle.rowan_changes.proofs.open_node.OpenNode.keep_before.Goals as goal

pub loop-kept-preserved : goal.loop-kept-preserved
loop-kept-preserved c =
    let cs = node_children c.args.self.node.now in
    let k = c.loop-kept.kept in
    let x = c.in_ok-to_owned.field-0 in
    let got : slice_get cs (k - 1) ≡ Some x =
    c.in-Some.ensures.some.1 ∙ ap (λ y. Some y) (sym c.in_ok-to_owned.ensures.ok) in (
      omega arith,
      omega arith,
      ap (λ d. take (k - 1) cs ++ reverse d) c.in_ok-push.ensures.items
          ∙ kept-done cs (k - 1) k x c.loop-kept.done.items (omega arith) got
          ∙ c.loop-kept.invariant.2,
    )
