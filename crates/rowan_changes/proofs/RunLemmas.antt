-- Runs through a vector: the items that came are its first ones.
use Rattle.std.proofs.Common.{◌≡◌, List, [], ◌∷◌, ◌++◌, refl, ◌∙◌, ap}
use Rattle.std.specs.Iterator.{Yields}
use Rattle.std.specs.Iterator.Runs.{Run, YieldsRun}
use Rattle.std.specs.Vec.Iter.{into_iter_steps, into_iter_items}
use Rattle.std.specs.declared.vec.IntoIter.{IntoIter}

yields-begin : {X Z : Type 0} (s : IntoIter X Z) (xs : List X) (t : IntoIter X Z)
    → Yields (into_iter_steps {X = X} {Z = Z}) s xs t
    → (rest : List X) × (into_iter_items s ≡ xs ++ rest)
yields-begin s [] t h = (into_iter_items s, refl)
yields-begin s (x ∷ xs) t h =
    let r = yields-begin h.0 xs t h.2 in
    (r.0, h.1.0 ∙ ap (λ ys. x ∷ ys) r.1)

pub run-begins : {X Z : Type 0} (p : Run (into_iter_steps {X = X} {Z = Z}))
    → (rest : List X) × (into_iter_items p.from ≡ p.items ++ rest)
unfolding YieldsRun
run-begins p = let d = p.gave.0 in yields-begin p.from p.items d.0 d.1
