use Rattle.std.proofs.Common.{◌≡◌, [], ◌∷◌, subst, arith, rules}
use Rattle.std.proofs.lemmas.Option.{slice_get_within}
use Rattle.std.proofs.lemmas.Result.{err_from_is_err_and}
use Rattle.rowan_green.specs.declared.utility_types.NodeOrToken.TheVariants.{Node}
use Rattle.rowan_green.specs.Term.{node_children}
use Rattle.rowan_rewrite.specs.Drafts.{closed}
use Rattle.rowan_rewrite.proofs.PassSteps.{IsPast, ends, goes_up, parent-open, past-here, past-end}
use Rattle.rowan_rewrite.proofs.RewritingLemmas.{get-past}
use Rattle.rowan_rewrite.proofs.rewriting.pass.Pass.leave.Goals as goal

pub close-requires : goal.close-requires
close-requires c =
    let d = c.args.self.inner in
    get-past (node_children d.node.now) d.next c.requires.child

pub close_root-requires : goal.close_root-requires
close_root-requires c =
    let d = c.args.self.inner in
    get-past (node_children d.node.now) d.next c.requires.child

pub put_closed-requires : goal.put_closed-requires
put_closed-requires c =
    let p = c.in-Some.parent in
    let up = parent-open c.args.self c.pop.new.self.items p c.requires.pass
    c.in-Some.ensures.items in
    let within = slice_get_within (node_children p.node.now) p.next
    (Node c.args.self.inner.node.now) up.1 in
    omega (arith, within)

pub returns-in_err-new-in-Some-clause-err : goal.returns-in_err-new-in-Some-clause-err
returns-in_err-new-in-Some-clause-err c =
    let fault = c.in_err-new-in-Some.field-0.0 in
    let p = err_from_is_err_and c.from_residual.result c.from_residual.ensures.1 in
    rw (p.1, p.2) (λ other. past-here c.args.self c.pop.new.self.items c.in-Some.parent fault
    c.requires.pass c.requires.child c.in-Some.ensures.items
    (c.in_err-new-in-Some.ensures.err other))

pub returns-in-Some-clause-ok : goal.returns-in-Some-clause-ok
returns-in-Some-clause-ok c =
    let old = c.args.self in
    let p = c.in-Some.parent in
    let new = c.in_ok-new-in-Some.new in
    let closes = c.in_ok-new-in-Some.ensures in
    let made = c.in_ok-put_closed-in-Some.ensures in
    let up = parent-open old c.pop.new.self.items p c.requires.pass c.in-Some.ensures.items in
    let n = closed old.inner.node.now new.node in
    goes_up old (record { above = c.pop.new.self; inner = c.in_ok-put_closed-in-Some.field-0 }) p n
    c.requires.pass c.requires.child c.in-Some.ensures.items closes.node
    (subst (λ front. IsPast p front (Node n ∷ []) c.in_ok-put_closed-in-Some.field-0) closes.lead
    (record {
      node = made.node;
      next = made.next;
      lead = made.lead;
      done = made.done old.inner.node.now up.1;
    }))

pub returns-in_err-close_root-in-None-clause-err :
    goal.returns-in_err-close_root-in-None-clause-err
returns-in_err-close_root-in-None-clause-err c =
    let old = c.args.self in
    let fault = c.in_err-close_root-in-None.field-0.0 in
    let residual = c.from_residual-in_err-close_root-in-None in
    let p = err_from_is_err_and residual.result residual.ensures.1 in
    let stack : old.above.items ≡ [] = search rules in
    rw (p.1, p.2) (λ other. past-end old fault c.requires.pass c.requires.child stack
    (c.in_err-close_root-in-None.ensures.err other))

pub returns-clause-ok : goal.returns-clause-ok
returns-clause-ok c =
    let old = c.args.self in
    let stack : old.above.items ≡ [] = search rules in
    ends old c.in_ok-close_root-in-None.field-0 c.requires.pass c.requires.child stack
    c.in_ok-close_root-in-None.ensures.ok
