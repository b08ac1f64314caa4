-- The kinds of lists, words and spaces.
use Rattle.std.specs.Prelude.{◌≡◌, ℕ, ◌==◌, List, codes, if◌then◌else◌, Bool, true, false}
use Rattle.rowan.specs.Ast.{is_meaning}
use Rattle.rowan_examples.specs.declared.kinds.Kind.{Kind}
use Rattle.rowan_examples.specs.declared.kinds.Kind.TheVariants.{List as AList, Word, Space}
use Rattle.rowan_examples.specs.contracts.kinds.Kind.{the_type}
use denote.Enum.Bare.{same_true, sameb}

-- the kind that a raw kind means
abbrev pub kind_of : ℕ → Kind
kind_of raw = if raw == 0 then AList else (if raw == 2 then Space else Word)

-- the raw kind of a kind
abbrev pub number_of : Kind → ℕ
number_of AList = 0
number_of Word = 1
number_of Space = 2

-- how the kinds are called
abbrev pub name_of : Kind → List ℕ
name_of AList = codes "LIST"
name_of Word = codes "WORD"
name_of Space = codes "SPACE"

-- whether it is the kind of lists
abbrev pub is_list : Kind → Bool
is_list AList = true
is_list Word = false
is_list Space = false

-- whether `==` holds two kinds equal
abbrev pub same_kind : Kind → Kind → Bool
same_kind a b = sameb the_type a b

-- whether it is the kind of raw kind 0, which the aliases wrap
abbrev pub casts_list : Kind → Bool
casts_list = is_meaning kind_of same_kind 0

-- such kinds are one kind
pub one_kind : (a b : Kind) → same_kind a b ≡ true → a ≡ b
one_kind a b same = same_true the_type tt a b same
