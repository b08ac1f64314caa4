-- Grammars for which the next token alone says what to do.
use Rattle.std.specs.Prelude.{◌≡◌, ℕ, true, List, Option, Some, slice_get}
use Rattle.rowan_predictive.specs.declared.rules.Rule.{Rule}
use Rattle.rowan_predictive.specs.declared.rules.Rule.TheVariants.{Empty, Token, Node, Chain, Wrap}
use Rattle.rowan_predictive.specs.declared.rules.Rule.TheVariants.{Seq, Choice, Optional, Star}
use Rattle.rowan_predictive.specs.declared.rules.Entry.{Entry}
use Rattle.rowan_predictive.specs.Choice.{is_begun, is_followed, may_be_empty}

-- rule i may begin by this token, may be followed by it, may be empty
abbrev pub Begins : List Entry → ℕ → Option ℕ → Type 0
Begins entries i next = is_begun entries i next ≡ true

abbrev pub Follows : List Entry → ℕ → Option ℕ → Type 0
Follows entries i next = is_followed entries i next ≡ true

abbrev pub MayBeEmpty : List Entry → ℕ → Type 0
MayBeEmpty entries i = may_be_empty entries i ≡ true

abbrev pub BeginsIn : List Entry → ℕ → ℕ → Type 0
BeginsIn entries a i = (next : Option ℕ) → Begins entries a next → Begins entries i next

abbrev pub FollowsIn : List Entry → ℕ → ℕ → Type 0
FollowsIn entries i a = (next : Option ℕ) → Follows entries i next → Follows entries a next

-- what begins b may follow a
abbrev pub IsBefore : List Entry → ℕ → ℕ → Type 0
IsBefore entries a b = (next : Option ℕ) → Begins entries b next → Follows entries a next

-- what begins rule i begins one of two others
abbrev pub IsOneOf : List Entry → ℕ → ℕ → ℕ → Type 0
IsOneOf entries i a b = (next : Option ℕ)
    → Begins entries i next → (Begins entries a next → ⊥) → Begins entries b next

-- no token begins the rule and follows it
abbrev pub IsApart : List Entry → ℕ → Type 0
IsApart entries i = (next : Option ℕ) → Begins entries i next → Follows entries i next → ⊥

-- two rules: no token begins both, and not both may be empty
pub record AreApart (entries : List Entry) (a b : ℕ) : Type 0 where
  pub first : (next : Option ℕ) → Begins entries a next → Begins entries b next → ⊥
  pub empty : MayBeEmpty entries a → MayBeEmpty entries b → ⊥

-- rule i stands in place of rule a
pub record IsAround (entries : List Entry) (i a : ℕ) : Type 0 where
  pub first : BeginsIn entries a i
  pub empty : MayBeEmpty entries a → MayBeEmpty entries i
  pub follow : FollowsIn entries i a

pub record IsJoined (entries : List Entry) (i a b : ℕ) : Type 0 where
  pub first : BeginsIn entries a i
  pub second : MayBeEmpty entries a → BeginsIn entries b i
  pub empty : MayBeEmpty entries a → MayBeEmpty entries b → MayBeEmpty entries i
  pub between : IsBefore entries a b
  pub behind : MayBeEmpty entries b → FollowsIn entries i a
  pub follow : FollowsIn entries i b

pub record IsChosen (entries : List Entry) (i a b : ℕ) : Type 0 where
  pub left : IsAround entries i a
  pub right : IsAround entries i b
  pub apart : AreApart entries a b
  pub clear : MayBeEmpty entries i → IsApart entries i

pub record IsMaybe (entries : List Entry) (i a : ℕ) : Type 0 where
  pub inner : IsAround entries i a
  pub empty : MayBeEmpty entries i
  pub filled : MayBeEmpty entries a → ⊥
  pub clear : IsApart entries i

abbrev pub IsFit : List Entry → ℕ → Rule → Type 0
IsFit entries i Empty = MayBeEmpty entries i
IsFit entries i (Token kind) = Begins entries i (Some kind)
IsFit entries i (Node kind a) = IsAround entries i a
IsFit entries i (Chain a) = IsAround entries i a
IsFit entries i (Wrap kind a) = IsAround entries i a
IsFit entries i (Seq a b) = IsJoined entries i a b
IsFit entries i (Choice a b) = IsChosen entries i a b
IsFit entries i (Optional a) = IsMaybe entries i a
IsFit entries i (Star a) = IsMaybe entries i a × IsBefore entries a i

-- The sets of each rule are large enough, and small enough that they are apart.
pub record IsPredictive (entries : List Entry) : Type 0 where
  pub at : (i : ℕ) (entry : Entry) → slice_get entries i ≡ Some entry → IsFit entries i entry.rule
