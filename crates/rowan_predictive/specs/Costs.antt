-- How many steps a parse takes at most, whatever its errors: some for each item of the stack, and
-- for each token.
use Rattle.std.specs.Prelude.{◌≡◌, ℕ, ◌+◌, ◌≤◌, if◌then◌else◌, List, Option, Some, None, slice_get}
use Rattle.rowan_predictive.specs.declared.rules.Rule.{Rule}
use Rattle.rowan_predictive.specs.declared.rules.Rule.TheVariants.{Empty, Token, Node, Chain, Wrap}
use Rattle.rowan_predictive.specs.declared.rules.Rule.TheVariants.{Seq, Choice, Optional, Star}
use Rattle.rowan_predictive.specs.declared.rules.Entry.{Entry}
use Rattle.rowan_predictive.specs.Choice.{may_be_empty}
use Rattle.rowan_predictive.specs.Predictive.{Begins, BeginsIn, MayBeEmpty, IsOneOf}

abbrev pub idle_in : Option Entry → ℕ
idle_in None = 1
idle_in (Some entry) = entry.facts.idle

abbrev pub busy_in : Option Entry → ℕ
busy_in None = 2
busy_in (Some entry) = entry.facts.busy

-- for a rule that the next token does not begin; and for one that it begins, until it is taken
abbrev pub idle : List Entry → ℕ → ℕ
idle entries i = idle_in (slice_get entries i)

abbrev pub busy : List Entry → ℕ → ℕ
busy entries i = busy_in (slice_get entries i)

-- a rule that may be empty, where it is
abbrev pub passing : List Entry → ℕ → ℕ
passing entries a = if may_be_empty entries a then idle entries a else 0

-- a rule behind one that is empty
abbrev pub late : List Entry → ℕ → ℕ → ℕ
late entries a b = if may_be_empty entries a then idle entries a + busy entries b else 0

abbrev pub IsPaidBy : List Entry → ℕ → Rule → Type 0
IsPaidBy entries i Empty = Unit {0}
IsPaidBy entries i (Token kind) = Unit {0}
IsPaidBy entries i (Node kind a) =
    (2 + idle entries a ≤ idle entries i) × (2 + busy entries a ≤ busy entries i)
IsPaidBy entries i (Chain a) =
    (2 + idle entries a ≤ idle entries i) × (2 + busy entries a ≤ busy entries i)
IsPaidBy entries i (Wrap kind a) =
    (2 + idle entries a ≤ idle entries i) × (2 + busy entries a ≤ busy entries i)
IsPaidBy entries i (Seq a b) =
    (1 + idle entries a + idle entries b ≤ idle entries i)
    × (1 + busy entries a + idle entries b ≤ busy entries i)
    × (1 + late entries a b ≤ busy entries i)
IsPaidBy entries i (Choice a b) =
    (1 + passing entries a ≤ idle entries i)
    × (1 + passing entries b ≤ idle entries i)
    × (1 + busy entries a ≤ busy entries i)
    × (1 + busy entries b ≤ busy entries i)
IsPaidBy entries i (Optional a) = 1 + busy entries a ≤ busy entries i
IsPaidBy entries i (Star a) = 1 + busy entries a + idle entries i ≤ busy entries i

-- the sets are no larger than the parts of the rule say
abbrev pub IsExactBy : List Entry → ℕ → Rule → Type 0
IsExactBy entries i Empty = (next : Option ℕ) → Begins entries i next → ⊥
IsExactBy entries i (Token kind) = Unit {0}
IsExactBy entries i (Node kind a) =
    BeginsIn entries i a × (MayBeEmpty entries i → MayBeEmpty entries a)
IsExactBy entries i (Chain a) =
    BeginsIn entries i a × (MayBeEmpty entries i → MayBeEmpty entries a)
IsExactBy entries i (Wrap kind a) =
    BeginsIn entries i a × (MayBeEmpty entries i → MayBeEmpty entries a)
IsExactBy entries i (Seq a b) =
    IsOneOf entries i a b
    × (MayBeEmpty entries i → MayBeEmpty entries a × MayBeEmpty entries b)
    × ((MayBeEmpty entries a → ⊥) → BeginsIn entries i a)
IsExactBy entries i (Choice a b) = IsOneOf entries i a b
IsExactBy entries i (Optional a) = BeginsIn entries i a
IsExactBy entries i (Star a) = BeginsIn entries i a

-- of one rule
pub record IsBoundedAt (entries : List Entry) (c i : ℕ) (rule : Rule) : Type 0 where
  pub paid : IsPaidBy entries i rule
  pub exact : IsExactBy entries i rule
  pub some : 1 ≤ idle entries i
  pub more : 1 + idle entries i ≤ busy entries i
  pub most : busy entries i ≤ idle entries i + c

pub record IsBounded (entries : List Entry) (c : ℕ) : Type 0 where
  pub at : (i : ℕ) (entry : Entry) → slice_get entries i ≡ Some entry
      → IsBoundedAt entries c i entry.rule
  pub token : 1 ≤ c
