use Rattle.std.proofs.Common.{◌≡◌, [], ◌∷◌, Some, sym, ◌∙◌, subst}
use Rattle.std.specs.Prelude.{Result, Ok, Err}
use Rattle.std.proofs.lemmas.Result.{err_from_is_err_and}
use Rattle.rowan_green.specs.declared.fault.Fault.{Fault}
use Rattle.rowan_table.specs.Yields.{Rest}
use Rattle.rowan_table.specs.Cursor.{Cursor}
use Rattle.rowan.specs.Ast.{YieldsWrappers}
use Rattle.rowan_sexp.specs.declared.sexp.ast.Sexp.{Sexp}
use Rattle.rowan_sexp.specs.Wrappers.{node_in}
use Rattle.rowan_sexp.proofs.EvalLemmas.{is_sexp_at, left-start, left-next, left-refused}
use Rattle.rowan_sexp.proofs.EvalLemmas.{none-at-all, only-one, only-two, not-operator, operates}
use Rattle.rowan_sexp.proofs.sexp.ast.List.operation.Goals as goal

-- an expression came
came : (rest after : Rest Cursor) (r : Result Sexp Fault) (x : Sexp) → r ≡ Ok x
    → YieldsWrappers is_sexp_at node_in rest (Some r) after
    → YieldsWrappers is_sexp_at node_in rest (Some (Ok x)) after
came rest after r x e y = subst (λ r. YieldsWrappers is_sexp_at node_in rest (Some r) after) e y

-- a refusal came
refused : (rest after : Rest Cursor) (r : Result Sexp Fault) (e : Fault) → r ≡ Err e
    → YieldsWrappers is_sexp_at node_in rest (Some r) after
    → YieldsWrappers is_sexp_at node_in rest (Some (Err e)) after
refused rest after r e is y = subst
    (λ r. YieldsWrappers is_sexp_at node_in rest (Some r) after) is y

pub returns-in_default-clause-ok : goal.returns-in_default-clause-ok
returns-in_default-clause-ok c =
    let list = c.args.self.now in
    let all = c.sexps-sexps.result in
    none-at-all list all c.next.new.self c.sexps-sexps.ensures.list
    (left-start list all c.sexps-sexps.ensures.ok c.sexps-sexps.ensures.err)
    c.in_default.ensures.steps

pub returns-in_default-operator_of-clause-ok : goal.returns-in_default-operator_of-clause-ok
returns-in_default-operator_of-clause-ok c =
    let list = c.args.self.now in
    let all = c.sexps-sexps.result in
    let first = came all c.next.new.self c.in-Some.first c.in_ok-first.field-0 c.in_ok-first.was
    c.in-Some.ensures.steps in
    not-operator list all c.next.new.self c.in_ok-first.field-0 c.sexps-sexps.ensures.list
    (left-start list all c.sexps-sexps.ensures.ok c.sexps-sexps.ensures.err) first
    (sym c.operator_of.ensures ∙ c.in_default-operator_of.is)

pub returns-in_default-next-clause-ok : goal.returns-in_default-next-clause-ok
returns-in_default-next-clause-ok c =
    let list = c.args.self.now in
    let all = c.sexps-sexps.result in
    let first = came all c.next.new.self c.in-Some.first c.in_ok-first.field-0 c.in_ok-first.was
    c.in-Some.ensures.steps in
    let one = left-next list [] all c.next.new.self c.in_ok-first.field-0
    (left-start list all c.sexps-sexps.ensures.ok c.sexps-sexps.ensures.err) first in
    only-one list c.next.new.self c.next-2.new.self
    (node_in c.in_ok-first.field-0) c.sexps-sexps.ensures.list one c.in_default-next.ensures.steps

pub returns-in_default-next-2-clause-ok : goal.returns-in_default-next-2-clause-ok
returns-in_default-next-2-clause-ok c =
    let list = c.args.self.now in
    let all = c.sexps-sexps.result in
    let first = came all c.next.new.self c.in-Some.first c.in_ok-first.field-0 c.in_ok-first.was
    c.in-Some.ensures.steps in
    let one = left-next list [] all c.next.new.self c.in_ok-first.field-0
    (left-start list all c.sexps-sexps.ensures.ok c.sexps-sexps.ensures.err) first in
    let second = came c.next.new.self c.next-2.new.self c.in-Some-next.left c.in_ok-left.left
    c.in_ok-left.was c.in-Some-next.ensures.steps in
    let two = left-next list (node_in c.in_ok-first.field-0 ∷ []) c.next.new.self c.next-2.new.self
    c.in_ok-left.left one second in
    only-two list c.next-2.new.self c.next-3.new.self (node_in c.in_ok-first.field-0)
    (node_in c.in_ok-left.left) c.sexps-sexps.ensures.list two c.in_default-next-2.ensures.steps

pub returns-in_err-right-clause-err : goal.returns-in_err-right-clause-err
returns-in_err-right-clause-err c =
    let list = c.args.self.now in
    let all = c.sexps-sexps.result in
    let first = came all c.next.new.self c.in-Some.first c.in_ok-first.field-0 c.in_ok-first.was
    c.in-Some.ensures.steps in
    let one = left-next list [] all c.next.new.self c.in_ok-first.field-0
    (left-start list all c.sexps-sexps.ensures.ok c.sexps-sexps.ensures.err) first in
    let second = came c.next.new.self c.next-2.new.self c.in-Some-next.left c.in_ok-left.left
    c.in_ok-left.was c.in-Some-next.ensures.steps in
    let two = left-next list (node_in c.in_ok-first.field-0 ∷ []) c.next.new.self c.next-2.new.self
    c.in_ok-left.left one second in
    let third = refused c.next-2.new.self c.next-3.new.self c.in-Some-next-2.right
    c.in_err-right.field-0.0 c.in_err-right.was c.in-Some-next-2.ensures.steps in
    let p = err_from_is_err_and c.from_residual-in_err-right.result
    c.from_residual-in_err-right.ensures.1 in
    rw (p.1, p.2) (left-refused list (node_in c.in_ok-first.field-0 ∷ node_in
    c.in_ok-left.left ∷ []) c.next-2.new.self c.next-3.new.self c.in_err-right.field-0.0 two third)

pub returns-clause-ok : goal.returns-clause-ok
returns-clause-ok c =
    let list = c.args.self.now in
    let all = c.sexps-sexps.result in
    let first = came all c.next.new.self c.in-Some.first c.in_ok-first.field-0 c.in_ok-first.was
    c.in-Some.ensures.steps in
    let one = left-next list [] all c.next.new.self c.in_ok-first.field-0
    (left-start list all c.sexps-sexps.ensures.ok c.sexps-sexps.ensures.err) first in
    let second = came c.next.new.self c.next-2.new.self c.in-Some-next.left c.in_ok-left.left
    c.in_ok-left.was c.in-Some-next.ensures.steps in
    let two = left-next list (node_in c.in_ok-first.field-0 ∷ []) c.next.new.self c.next-2.new.self
    c.in_ok-left.left one second in
    let third = came c.next-2.new.self c.next-3.new.self c.in-Some-next-2.right c.in_ok-right.right
    c.in_ok-right.was c.in-Some-next-2.ensures.steps in
    operates list c.next-2.new.self c.next-3.new.self c.in-Some-operator_of.operator
    (node_in c.in_ok-first.field-0) (node_in c.in_ok-left.left) c.in_ok-right.right
    c.sexps-sexps.ensures.list two third (sym c.operator_of.ensures ∙ c.in-Some-operator_of.is)
