use Rattle.std.proofs.Common.{refl, ◌∙◌}
use Rattle.std.proofs.lemmas.Result.{err_from_is_err_and}
use Rattle.rowan_changes.specs.GreenEditor.{edits_of}
use Rattle.rowan_edit.proofs.ArrangedPlanLemmas.{halfway-begins, halfway-last, halfway-next}
use Rattle.rowan_edit.proofs.ArrangedPlanLemmas.{halfway-fails, path-ordered}
use Rattle.rowan_edit.proofs.plain_edits.plain_edits.Goals as goal

pub loop-path-init : goal.loop-path-init
loop-path-init c =
    halfway-begins c.args.root.now c.args.edits.items c.args.arrangements.entries
    (record { front = c.args.edits; behind = c.reserve.new.self }) c.requires.listed c.requires.clear
    refl (c.reserve.ensures.items ∙ c.new-behind.ensures.items)

pub arrange-requires-clause-ready : goal.arrange-requires-clause-ready
arrange-requires-clause-ready c =
    (halfway-last c.args.root.now (edits_of c.args.edits.items) c.args.arrangements.entries
    c.loop-path.left.entries c.pop_last.new.self.entries (c.in-Some.path, c.in-Some.pieces)
    c.loop-path.halves c.loop-path.invariant c.in-Some.ensures.removal).1

pub arrange-requires-clause-node : goal.arrange-requires-clause-node
arrange-requires-clause-node c =
    (halfway-last c.args.root.now (edits_of c.args.edits.items) c.args.arrangements.entries
    c.loop-path.left.entries c.pop_last.new.self.entries (c.in-Some.path, c.in-Some.pieces)
    c.loop-path.halves c.loop-path.invariant c.in-Some.ensures.removal).0

pub returns-in_err-halves-clause-err : goal.returns-in_err-halves-clause-err
returns-in_err-halves-clause-err c =
    let p = err_from_is_err_and c.from_residual-in_err-halves.result
    c.from_residual-in_err-halves.ensures.1 in
    rw (p.1, p.2) (λ other. halfway-fails c.args.root.now (edits_of c.args.edits.items)
    c.args.arrangements.entries c.loop-path.left.entries c.pop_last.new.self.entries
    (c.in-Some.path, c.in-Some.pieces) c.loop-path.halves c.in_err-halves.field-0.0
    c.loop-path.invariant c.in-Some.ensures.removal (c.in_err-halves.ensures.err other))

pub loop-path-preserved : goal.loop-path-preserved
loop-path-preserved c =
    halfway-next c.args.root.now (edits_of c.args.edits.items) c.args.arrangements.entries
    c.loop-path.left.entries c.pop_last.new.self.entries (c.in-Some.path, c.in-Some.pieces)
    c.loop-path.halves c.in_ok-halves.halves c.loop-path.invariant c.in-Some.ensures.removal
    c.in_ok-halves.ensures.listed c.in_ok-halves.ensures.edits c.in_ok-halves.ensures.ready
    c.in-Some.ensures.all_below

pub returns-clause-order : goal.returns-clause-order
returns-clause-order c = path-ordered c.args.arrangements.entries c.len.ensures.ordered
