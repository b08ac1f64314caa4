use Rattle.std.proofs.lemmas.Result.{err_from_is_err_and}
use Rattle.rowan_table.specs.Moves.{place_of}
use Rattle.rowan_api.specs.Refs.{node_place, element_place}
use Rattle.rowan_edit.specs.Edges.{at_edge}
use Rattle.rowan_edit.proofs.EdgeLemmas.{edited-at-edge, why-at-edge}
use Rattle.rowan_edit.proofs.EditorLemmas.{on-ok, if-err}
use Rattle.rowan_edit.proofs.syntax_editor.SyntaxEditor.edit_element.Goals as goal

pub returns-in_err-children-clause-err : goal.returns-in_err-children-clause-err
returns-in_err-children-clause-err g c =
    let p = err_from_is_err_and c.from_residual.result c.from_residual.ensures.1 in
    rw (p.1, p.2) (c.in_err-children.ensures.err (at_edge c.args.edge c.args.new.items))

pub returns-clause-ok : goal.returns-clause-ok
returns-clause-ok g c =
    let cs = c.in_ok-children.children in
    on-ok c.splice_in.result (λ h. edited-at-edge (place_of (element_place c.args.element))
    (node_place cs.parent) c.args.edge cs.start cs.end c.args.new.items
    c.in_ok-children.ensures.parent c.in_ok-children.ensures.range c.args.self.now
    c.splice_in.new.self h) c.splice_in.ensures.ok

pub returns-clause-err : goal.returns-clause-err
returns-clause-err g c =
    let cs = c.in_ok-children.children in
    if-err c.splice_in.result (λ r h. why-at-edge (place_of (element_place c.args.element))
    (node_place cs.parent) c.args.edge cs.start cs.end c.args.new.items
    c.in_ok-children.ensures.parent c.in_ok-children.ensures.range c.args.self.now r
    c.in_ok-children.ensures.tree h) c.splice_in.ensures.err
