-- Trivia: tokens that pass a test, as white space, which stand outside of the nodes that begin where
-- they do.
use Rattle.std.specs.Prelude.{◌≡◌, ℕ, Bool, false, List, [], ◌∷◌, ◌++◌, Some}
use Rattle.std.specs.List.{AllByRecursion}
use Rattle.rowan_green.specs.declared.utility_types.NodeOrToken.TheVariants.{Node, Token}
use Rattle.rowan_terms.specs.Path.{Path, subterm}
use Rattle.rowan_green.specs.Term.{TokenTerm, NodeTerm, Term}
use Rattle.rowan_rewrite.specs.declared.rewriting.Rewrite.{Rewrite}
use Rattle.rowan_rewrite.specs.Rewriting.{own, in_place, Each}

-- no token that passes a test is the first child of a node below the root
abbrev pub StandOutside : (TokenTerm → Bool) → NodeTerm → Type 0
StandOutside test root = (i : ℕ) (p : Path) (t : TokenTerm)
    → subterm (Node root) (i ∷ (p ++ 0 ∷ [])) ≡ Some (Token t) → test t ≡ false

abbrev pub IsToken : Term → Type 0
IsToken (Node n) = ⊥
IsToken (Token t) = Unit {0}

-- these begin with a token that fails a test
abbrev pub BeginsFailing : (TokenTerm → Bool) → List Term → Type 0
BeginsFailing test [] = ⊥
BeginsFailing test (Node n ∷ ts) = ⊥
BeginsFailing test (Token t ∷ ts) = test t ≡ false

-- the answer puts in nothing but tokens, and in place of a token that fails the test first one that
-- fails it, too: it stays, as a rule
pub record Formats (test : TokenTerm → Bool) (t : TokenTerm) (answer : Rewrite) : Type 0 where
  pub tokens : AllByRecursion IsToken (in_place t answer)
  pub first : test t ≡ false → BeginsFailing test (own t answer)

abbrev pub AllFormat : (TokenTerm → Bool) → List TokenTerm → List Rewrite → Type 0
AllFormat test ts answers = Each (Formats test) ts answers
