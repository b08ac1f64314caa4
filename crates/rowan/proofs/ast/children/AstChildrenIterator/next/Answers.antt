use Rattle.std.proofs.Common.{subst, Some, Ok, Err}
use Rattle.rowan_table.specs.Yields.{YieldsOrRefuses}
use Rattle.rowan.specs.Ast.{casts_at}
use Rattle.rowan.proofs.WrapperLemmas.{yields-wrapper, yields-refusal, makes-progress}
use Rattle.rowan.proofs.ast.children.AstChildrenIterator.next.Goals as goal

pub returns-in-Some-cast-clause-goes : goal.returns-in-Some-cast-clause-goes
returns-in-Some-cast-clause-goes g c =
    let casts = casts_at g.N.Language.Language.meaning g.N.AstNode.casts in
    let rest = c.loop-node.self-inside.nodes in
    let after = c.next.new.self in
    let here = subst (λ r. YieldsOrRefuses rest (Some r) after) c.in-Ok.is c.in-Some.ensures.steps
    in
    makes-progress casts g.N.AstNode.node_of c.args.self.now after
    (Some (Ok c.in-Some-cast.wrapper))
    (c.loop-node.invariant (Some (Ok c.in-Some-cast.wrapper)) after
    (yields-wrapper casts g.N.AstNode.node_of rest after c.in-Ok.node c.in-Some-cast.wrapper
    c.in-Some-cast.ensures here))

pub returns-in-Err-clause-goes : goal.returns-in-Err-clause-goes
returns-in-Err-clause-goes g c =
    let casts = casts_at g.N.Language.Language.meaning g.N.AstNode.casts in
    let rest = c.loop-node.self-inside.nodes in
    let after = c.next.new.self in
    let here = subst (λ r. YieldsOrRefuses rest (Some r) after) c.in-Err.is c.in-Some.ensures.steps
    in
    makes-progress casts g.N.AstNode.node_of c.args.self.now after (Some (Err c.in-Err.fault))
    (c.loop-node.invariant (Some (Err c.in-Err.fault)) after
    (yields-refusal casts g.N.AstNode.node_of rest after c.in-Err.fault here))
