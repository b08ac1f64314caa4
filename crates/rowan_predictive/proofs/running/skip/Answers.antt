use Rattle.std.proofs.Common.{◌≡◌, ℕ, suc, ◌+◌, ◌-◌, ◌<◌, List, [], ◌∷◌, ◌++◌, ap, ◌∙◌, append_assoc, arith}
use Rattle.rowan_predictive.specs.declared.rules.Action.{Action}
use Rattle.rowan_predictive.specs.declared.rules.Action.TheVariants.{Skip}
use Rattle.rowan_predictive.specs.Whole.{skipped}
use Rattle.rowan_predictive.proofs.running.skip.Goals as goal

one-more : (xs ys : List Action) (n i : ℕ) → i < n → ys ≡ xs ++ (Skip ∷ []) → ys ++ skipped (n - (i + 1)) ≡ xs ++ skipped (n - i)
one-more xs ys n i less is =
    let k : suc (n - (i + 1)) ≡ n - i = omega arith in
    ap (λ (x : List Action). x ++ skipped (n - (i + 1))) is
    ∙ append_assoc xs (Skip ∷ []) (skipped (n - (i + 1)))
    ∙ ap (λ (m : ℕ). xs ++ skipped m) k

pub loop-i-preserved : goal.loop-i-preserved
loop-i-preserved c =
    one-more c.loop-i.actions.items c.push.new.self.items c.args.count c.loop-i._i (omega arith) c.in_ok-push.ensures.items ∙ c.loop-i.invariant
