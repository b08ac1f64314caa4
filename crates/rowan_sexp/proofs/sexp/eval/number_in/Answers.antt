use Rattle.std.proofs.Common.{◌∙◌}
use Rattle.rowan_sexp.proofs.NumberLemmas.{parsed}
use Rattle.rowan_sexp.proofs.sexp.eval.number_in.Goals as goal

pub returns : goal.returns
returns c = c.ok.ensures.value ∙ parsed c.args.text.now c.parse.result c.parse.ensures.value.0
