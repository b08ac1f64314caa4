-- The five rules that were found.
use Rattle.std.proofs.Common.{◌≡◌, ℕ, subst, arith}
use Rattle.std.proofs.lemmas.Bool.Decides.{nat_tests}
use Rattle.rowan_predictive.specs.declared.rules.Rule.TheVariants.{Seq}
use Rattle.rowan_predictive.specs.Derivations.{HasRule}
use Rattle.rowan_predictive.specs.Binary.{HasBinary}
use Rattle.rowan_predictive.proofs.Chains.{derives}
use Rattle.rowan_predictive.proofs.operators.operators_at.Goals as goal

pub returns-clause-some : goal.returns-clause-some
returns-clause-some c =
    let rules = c.args.rules.now in
    let same : c.in_ok-pair.pair.1 ≡ c.in_ok-parts.parts.0 = grind (arith, nat_tests, c.if-pair-parts.false) in
    let has : HasBinary rules c.args.number c.in_ok-wrap.wrap.0 c.in_ok-parts.parts.0 c.in_ok-pair.pair.0 = record {
      whole = c.in_ok-whole.whole;
      rest = c.in_ok-parts.parts.1;
      step = c.in_ok-step.step;
      pair = c.in_ok-wrap.wrap.1;
      chain = c.in_ok-whole.ensures.some;
      seq = c.in_ok-parts.ensures.some;
      star = c.in_ok-step.ensures.some;
      wrap = c.in_ok-wrap.ensures.some;
      both = subst (λ (x : ℕ). HasRule rules c.in_ok-wrap.wrap.1 (Seq c.in_ok-pair.pair.0 x)) same c.in_ok-pair.ensures.some;
    } in
    derives rules c.args.number c.in_ok-wrap.wrap.0 c.in_ok-parts.parts.0 c.in_ok-pair.pair.0 has
