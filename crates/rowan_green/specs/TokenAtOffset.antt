-- The tokens at an offset: none in an empty text, one where the offset lies in it or at an end of
-- the text, or the two between which the offset lies.
use Rattle.std.specs.Prelude.{List, [], ◌∷◌}
use Rattle.rowan_green.specs.declared.utility_types.TokenAtOffset.{TokenAtOffset}
use Rattle.rowan_green.specs.declared.utility_types.TokenAtOffset.TheVariants.{None as Neither}
use Rattle.rowan_green.specs.declared.utility_types.TokenAtOffset.TheVariants.{Single, Between}

-- the tokens from left to right
abbrev pub tokens_of : {T : Type 0} → TokenAtOffset T → List T
tokens_of Neither = []
tokens_of (Single x) = x ∷ []
tokens_of (Between x y) = x ∷ y ∷ []

-- as many tokens, each by a call of f, the left one before the right: `Calls f x u g` says that a
-- call at x gave u and left g
abbrev pub MapsInOrder : {F T U : Type 0} → (F → T → U → F → Type 0) → F
    → TokenAtOffset T → TokenAtOffset U → Type 0
MapsInOrder Calls f Neither Neither = Unit {0}
MapsInOrder {F} Calls f (Single x) (Single u) = (g : F) × Calls f x u g
MapsInOrder {F} Calls f (Between x y) (Between u v) =
    (g : F) × (h : F) × Calls f x u g × Calls g y v h
MapsInOrder Calls f _ _ = ⊥
