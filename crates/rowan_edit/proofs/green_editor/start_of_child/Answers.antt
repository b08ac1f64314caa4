use Rattle.std.proofs.Common.{◌≤◌, length, refl, sym, ◌∙◌, ap}
use Rattle.std.proofs.lemmas.List.{take_all}
use Rattle.rowan_green.specs.Term.{node_children, sum_of_lens}
use Rattle.rowan_green.proofs.Terms.{node_len-children}
use Rattle.rowan_edit.proofs.green_editor.start_of_child.Goals as goal

pub returns-in-None : goal.returns-in-None
returns-in-None c =
    let n = c.args.node.now in
    let past : length (node_children n) ≤ c.args.index = c.in-None.ensures.none.0 refl in
    c.text_len.ensures.len ∙ node_len-children n
    ∙ ap sum_of_lens (sym (take_all c.args.index (node_children n) past))
