use Rattle.std.proofs.Common.{refl, sym, ◌∙◌}
use Rattle.rowan_green.specs.Term.{node_children}
use Rattle.rowan_sexp.proofs.EvalLemmas.{text-first, no-first}
use Rattle.rowan_sexp.proofs.sexp.eval.text_of.Goals as goal

pub returns-in_default : goal.returns-in_default
returns-in_default c =
    let children = node_children c.green.result.now in
    sym (text-first c.args.atom.now c.green.result.now children c.green.ensures refl
    ∙ no-first children (c.in_default.ensures.none.0 refl))
