-- Written by rowan_grammar from script.ungram: change that, and not this file.
-- Wrappers of the nodes of Script: the kinds that cast to each of them.
use Rattle.std.specs.Prelude.{◌≡◌, ℕ, ◌==◌, Bool, true, ◌||◌}
use Rattle.script_syntax.specs.declared.kinds.Kind.{Kind}
use Rattle.script_syntax.specs.contracts.kinds.Kind.{the_type}
use Rattle.script_syntax.specs.Kinds.{number_of}
use denote.Enum.Bare.{same_true, sameb}

-- whether it is the kind with this number
abbrev pub has_number : ℕ → Kind → Bool
has_number n kind = number_of kind == n

abbrev pub is_function : Kind → Bool
is_function = has_number 35

abbrev pub is_union : Kind → Bool
is_union = has_number 38

abbrev pub is_root : Kind → Bool
is_root = has_number 54

abbrev pub is_declaration : Kind → Bool
is_declaration kind =
    is_function kind
    || is_union kind

-- kinds that `==` holds equal are one kind
pub same_kind : (a b : Kind) → sameb the_type a b ≡ true → a ≡ b
same_kind a b same = same_true the_type tt a b same
