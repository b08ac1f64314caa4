-- The numbers of tokens whose whole text is one byte: the place of a number in a list of them is
-- the byte.
use Rattle.std.specs.Prelude.{◌≡◌, ℕ, ◌⊎◌, List, [], ◌∷◌, Option, Some}
use Rattle.std.specs.List.{slice_get}
use Rattle.rowan_green.specs.declared.utility_types.NodeOrToken.TheVariants.{Token}
use Rattle.rowan_green.specs.Term.{Term, token_of}

-- the text is one byte, and has this number
pub record IsNumberOf (newest : List (Option ℕ)) (text : List ℕ) (n : ℕ) : Type 0 where
  pub byte : ℕ
  pub only : text ≡ byte ∷ []
  pub stands : slice_get newest byte ≡ Some (Some n)

-- each number there is, a byte had before
pub record ComesFrom (old new : List (Option ℕ)) : Type 0 where
  pub was : (byte n : ℕ) → slice_get new byte ≡ Some (Some n) → slice_get old byte ≡ Some (Some n)

-- each number there is, a byte had before, or it is this one and the byte is the whole text
pub record ComesFromOrIs (text : List ℕ) (number : ℕ) (old new : List (Option ℕ)) : Type 0 where
  pub was : (byte n : ℕ) → slice_get new byte ≡ Some (Some n)
      → (slice_get old byte ≡ Some (Some n)) ⊎ ((n ≡ number) × (text ≡ byte ∷ []))

-- where a byte has a number, a token stands there that has it as its whole text
pub record AreOfBytes (seen : List Term) (newest : List (Option ℕ)) : Type 0 where
  pub stands : (byte n : ℕ) → slice_get newest byte ≡ Some (Some n)
      → (kind : ℕ) × (slice_get seen n ≡ Some (Token (token_of kind (byte ∷ []))))
