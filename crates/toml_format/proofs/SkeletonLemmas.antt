-- The skeleton of a tree, by a walk through it.
use Rattle.std.proofs.Common.{◌≡◌, [], ap, ◌∙◌, refl, sym, Bool, true}
use Rattle.std.specs.Prelude.{Result, Ok, Err, IfOk, Some}
use Rattle.std.specs.List.{flat_map}
use Rattle.rowan.specs.Cursor.{Cursor, term_at}
use Rattle.rowan.specs.Preorder.{preorder_with_tokens, event_symbols}
use Rattle.rowan.specs.Term.{NodeTerm, Term}
use Rattle.rowan.specs.Types.NodeOrToken.TheVariants.{Node}
use Rattle.rowan.specs.Word.{term_word}
use Rattle.toml_format.specs.Skeleton.{kept, skeleton}

-- a walk from the root meets the skeleton
pub walked-skeleton : ((c : Cursor) (t : Term) → term_at c ≡ Some t
    → flat_map event_symbols (preorder_with_tokens c) ≡ term_word t)
    → (c : Cursor) (n : NodeTerm) → c ≡ record { root = n; path = [] }
    → kept (flat_map event_symbols (preorder_with_tokens c)) ≡ skeleton n
walked-skeleton law c n at =
    ap kept (ap (λ d. flat_map event_symbols (preorder_with_tokens d)) at
    ∙ law (record { root = n; path = [] }) (Node n) refl)

-- what is the same of walks is the same of skeletons
pub of-skeletons : {E : Type 0} (r : Result Bool E) (new old : Cursor) (n m : NodeTerm)
    → kept (flat_map event_symbols (preorder_with_tokens new)) ≡ skeleton n
    → kept (flat_map event_symbols (preorder_with_tokens old)) ≡ skeleton m
    → IfOk r (λ same. same ≡ true
    → kept (flat_map event_symbols (preorder_with_tokens new))
    ≡ kept (flat_map event_symbols (preorder_with_tokens old)))
    → IfOk r (λ same. same ≡ true → skeleton n ≡ skeleton m)
of-skeletons (Ok b) new old n m e f h = λ same. sym e ∙ h same ∙ f
of-skeletons (Err x) new old n m e f h = h
