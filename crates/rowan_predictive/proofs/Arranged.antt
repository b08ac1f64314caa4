-- Actions are arranged from the last to the first.
use Rattle.std.proofs.Common.{◌≡◌, ℕ, List, [], ◌∷◌, ◌++◌, refl, sym, ap, ◌∙◌}
use Rattle.rowan_predictive.specs.declared.rules.Action.{Action}
use Rattle.rowan_predictive.specs.Arranging.{Arranged, before, all_before}

pub last-before : (error : ℕ) (es : List Action) (e : Action) (a : Arranged)
    → all_before error (es ++ (e ∷ [])) a ≡ all_before error es (before error e a)
last-before error [] e a = refl
last-before error (x ∷ es) e a = ap (before error x) (last-before error es e a)

-- one action further to the front
pub arranged-more : (error : ℕ) (rest front : List Action) (e : Action) (old new all : Arranged)
    → rest ≡ front ++ (e ∷ []) → new ≡ before error e old
    → all_before error rest old ≡ all → all_before error front new ≡ all
arranged-more error rest front e old new all is put so_far =
    ap (all_before error front) put
    ∙ sym (last-before error front e old)
    ∙ ap (λ (es : List Action). all_before error es old) (sym is)
    ∙ so_far
