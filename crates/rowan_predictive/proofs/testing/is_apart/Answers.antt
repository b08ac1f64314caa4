use Rattle.std.proofs.Common.{◌≡◌, arith}
use Rattle.std.specs.Int.RustNames.{bit_and}
use Rattle.std.proofs.lemmas.Bool.Decides.{nat_tests}
use Rattle.rowan_predictive.proofs.SetLemmas.{apart-and}
use Rattle.rowan_predictive.proofs.testing.is_apart.Goals as goal

pub returns : goal.returns
returns c = λ e kind h g.
    let none : bit_and c.args.kinds.0 c.args.others.0 ≡ 0 = grind (arith, nat_tests, e) in
    apart-and c.args.kinds.0 c.args.others.0 none kind h g
