use Rattle.std.proofs.Common.{◌≡◌, List, ℕ, ◌++◌, ◌∙◌, ap, append_assoc}
use Rattle.rowan_lines.proofs.rendering.Renderer.diagnostic.Goals as goal

three : (old first second third x y z : List ℕ) → x ≡ old ++ first → y ≡ x ++ second
    → z ≡ y ++ third → z ≡ old ++ (first ++ (second ++ third))
three old first second third x y z ex ey ez =
    ez
    ∙ ap (λ bs. bs ++ third) (ey ∙ ap (λ bs. bs ++ second) ex)
    ∙ append_assoc (old ++ first) second third
    ∙ append_assoc old first (second ++ third)

pub returns-clause-printed : goal.returns-clause-printed
returns-clause-printed c = λ h. three _ _ _ _ _ _ _ c.in_ok-push_header.ensures.put
    (c.in_ok-push_range.ensures.printed h) c.in_ok-push_str.ensures.bytes
