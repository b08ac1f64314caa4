-- Written by rowan_grammar from small.ungram: change that, and not this file.
-- Wrappers of the nodes of Small: the kinds that cast to each of them.
use Rattle.std.specs.Prelude.{◌≡◌, ℕ, ◌==◌, Bool, true, ◌||◌}
use Rattle.grammar_small.specs.declared.kinds.Kind.{Kind}
use Rattle.grammar_small.specs.contracts.kinds.Kind.{the_type}
use Rattle.grammar_small.specs.Kinds.{number_of}
use denote.Enum.Bare.{same_true, sameb}

-- whether it is the kind with this number
abbrev pub has_number : ℕ → Kind → Bool
has_number n kind = number_of kind == n

abbrev pub is_program : Kind → Bool
is_program = has_number 17

abbrev pub is_literal : Kind → Bool
is_literal = has_number 18

abbrev pub is_sum : Kind → Bool
is_sum = has_number 19

abbrev pub is_range : Kind → Bool
is_range = has_number 20

abbrev pub is_fn : Kind → Bool
is_fn = has_number 21

abbrev pub is_self_ : Kind → Bool
is_self_ = has_number 22

abbrev pub is_list : Kind → Bool
is_list = has_number 23

abbrev pub is_condition : Kind → Bool
is_condition = has_number 24

abbrev pub is_option : Kind → Bool
is_option = has_number 25

abbrev pub is_number : Kind → Bool
is_number = has_number 1

abbrev pub is_expr : Kind → Bool
is_expr kind =
    is_literal kind
    || (is_sum kind
    || (is_range kind
    || (is_fn kind
    || (is_list kind
    || is_condition kind))))

abbrev pub is_fn_callee : Kind → Bool
is_fn_callee kind =
    is_literal kind
    || is_list kind

abbrev pub is_condition_else_branch : Kind → Bool
is_condition_else_branch kind =
    is_condition kind
    || is_list kind

-- kinds that `==` holds equal are one kind
pub same_kind : (a b : Kind) → sameb the_type a b ≡ true → a ≡ b
same_kind a b same = same_true the_type tt a b same
