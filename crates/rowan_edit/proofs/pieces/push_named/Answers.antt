use Rattle.std.proofs.Common.{◌++◌, refl, sym, ◌∙◌, ap}
use Rattle.std.specs.Option.{option_to_list}
use Rattle.std.proofs.lemmas.List.{append-nil}
use Rattle.std.proofs.lemmas.Option.{slice_get_past}
use Rattle.rowan_green.specs.Term.{node_children}
use Rattle.rowan_edit.specs.Pieces.{piece_in}
use Rattle.rowan_edit.proofs.pieces.push_named.Goals as goal

pub returns-in_default-clause-ok : goal.returns-in_default-clause-ok
returns-in_default-clause-ok c =
    let cs = node_children c.args.node.now in
    let old = c.args.elements.now.items in
    sym (ap (λ xs. old ++ xs) (ap (piece_in cs) c.in-Old.is
    ∙ ap option_to_list (slice_get_past cs c.in-Old.index (c.in_default.ensures.none.0 refl)))
    ∙ append-nil old)
