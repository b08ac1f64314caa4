use Rattle.std.proofs.Common.{true, ◌∙◌, sym, arith, rules}
use Rattle.rowan_events.proofs.Gluing.{goes_on, ends, glued_are_left, all_glued}
use Rattle.rowan_events.proofs.parser.Parser.at_glued.Goals as goal

pub returns-then-not-is_next_glued-clause-glued : goal.returns-then-not-is_next_glued-clause-glued
returns-then-not-is_next_glued-clause-glued g c =
    ends g.L.Language.meaning g.L.Kind.PartialEq.eq c.loop-n.n c.args.kinds.now
    c.args.self.now.left c.index-kinds-n.result _
    (omega arith) c.index-kinds-n.is (sym c.is_next_glued.ensures ∙ search rules) c.loop-n.invariant

pub loop-n-preserved : goal.loop-n-preserved
loop-n-preserved g c =
    goes_on g.L.Language.meaning g.L.Kind.PartialEq.eq c.loop-n.n c.args.kinds.now
    c.args.self.now.left c.index-kinds-n.result _
    (omega arith) c.index-kinds-n.is (sym c.is_next_glued.ensures ∙ search rules) c.loop-n.invariant

pub returns-clause-there : goal.returns-clause-there
returns-clause-there g c = λ h.
    let on = all_glued g.L.Language.meaning g.L.Kind.PartialEq.eq c.loop-n.n c.args.kinds.now
    c.args.self.now.left _ (omega (arith, c.loop-n-test.false)) c.loop-n.invariant in
    glued_are_left g.L.Language.meaning g.L.Kind.PartialEq.eq true c.args.kinds.now
    c.args.self.now.left on
