use Rattle.std.proofs.Common.{subst}
use Rattle.std.proofs.lemmas.Result.{err_from_is_err_and}
use Rattle.rowan_edit.specs.ArrangedLimits.{PassesLimitOf}
use Rattle.rowan_edit.specs.Arrangements.{Arrangement, edited_at}
use Rattle.rowan_edit.specs.ArrangementsKept.{IsAt, IsParted}
use Rattle.rowan_edit.proofs.ArrangeLemmas.{parts, edits-at, inside-of, arranged-there}
use Rattle.rowan_edit.proofs.plain_edits.Halves.arrange.Goals as goal

pub arranged_splice-requires : goal.arranged_splice-requires
arranged_splice-requires c =
    let root = c.args.root.now in
    let p = c.args.path.items in
    let a : Arrangement = record { path = p; pieces = c.args.pieces.items } in
    let h = c.args.self in
    let g = c.in_ok-halves.halves in
    let new = c.in_ok-inside.field-0 in
    edits-at root h a new c.requires.ready c.requires.node (parts root h g p new c.requires.ready
    (subst (λ q. IsAt q h g) c.deref.ensures.value c.in_ok-halves.ensures)
    (subst (λ q. IsParted q g new) c.deref-2.ensures.value c.in_ok-inside.ensures))

pub returns-in_err-splice-clause-err : goal.returns-in_err-splice-clause-err
returns-in_err-splice-clause-err c =
    let e = err_from_is_err_and c.from_residual-in_err-splice.result
    c.from_residual-in_err-splice.ensures.1 in
    let root = c.args.root.now in
    let p = c.args.path.items in
    let h = c.args.self in
    let g = c.in_ok-halves.halves in
    let new = c.in_ok-inside.field-0 in
    let fault = c.in_err-splice.field-0.0 in
    rw (e.1, e.2) (λ other. subst (λ es. PassesLimitOf (edited_at root p es) fault)
    (inside-of root h p new c.requires.ready (parts root h g p new c.requires.ready
    (subst (λ q. IsAt q h g) c.deref.ensures.value c.in_ok-halves.ensures)
    (subst (λ q. IsParted q g new) c.deref-2.ensures.value c.in_ok-inside.ensures)))
    (c.in_err-splice.ensures.err other))

pub returns-clause-listed : goal.returns-clause-listed
returns-clause-listed c =
    let root = c.args.root.now in
    let p = c.args.path.items in
    let a : Arrangement = record { path = p; pieces = c.args.pieces.items } in
    let h = c.args.self in
    let g = c.in_ok-halves.halves in
    let new = c.in_ok-inside.field-0 in
    (arranged-there root h a new c.in_ok-splice.splice c.in_ok-with.field-0 c.requires.ready
    c.requires.node (parts root h g p new c.requires.ready
    (subst (λ q. IsAt q h g) c.deref.ensures.value c.in_ok-halves.ensures)
    (subst (λ q. IsParted q g new) c.deref-2.ensures.value c.in_ok-inside.ensures))
    c.in_ok-splice.ensures.edit c.in_ok-splice.ensures.range c.in_ok-with.ensures.front
    c.in_ok-with.ensures.behind).listed

pub returns-clause-edits : goal.returns-clause-edits
returns-clause-edits c =
    let root = c.args.root.now in
    let p = c.args.path.items in
    let a : Arrangement = record { path = p; pieces = c.args.pieces.items } in
    let h = c.args.self in
    let g = c.in_ok-halves.halves in
    let new = c.in_ok-inside.field-0 in
    (arranged-there root h a new c.in_ok-splice.splice c.in_ok-with.field-0 c.requires.ready
    c.requires.node (parts root h g p new c.requires.ready
    (subst (λ q. IsAt q h g) c.deref.ensures.value c.in_ok-halves.ensures)
    (subst (λ q. IsParted q g new) c.deref-2.ensures.value c.in_ok-inside.ensures))
    c.in_ok-splice.ensures.edit c.in_ok-splice.ensures.range c.in_ok-with.ensures.front
    c.in_ok-with.ensures.behind).edits

pub returns-clause-ready : goal.returns-clause-ready
returns-clause-ready c =
    let root = c.args.root.now in
    let p = c.args.path.items in
    let a : Arrangement = record { path = p; pieces = c.args.pieces.items } in
    let h = c.args.self in
    let g = c.in_ok-halves.halves in
    let new = c.in_ok-inside.field-0 in
    (arranged-there root h a new c.in_ok-splice.splice c.in_ok-with.field-0 c.requires.ready
    c.requires.node (parts root h g p new c.requires.ready
    (subst (λ q. IsAt q h g) c.deref.ensures.value c.in_ok-halves.ensures)
    (subst (λ q. IsParted q g new) c.deref-2.ensures.value c.in_ok-inside.ensures))
    c.in_ok-splice.ensures.edit c.in_ok-splice.ensures.range c.in_ok-with.ensures.front
    c.in_ok-with.ensures.behind).ready
