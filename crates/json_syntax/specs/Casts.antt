-- Written by rowan_grammar from json.ungram: change that, and not this file.
-- Wrappers of the nodes of Json: the kinds that cast to each of them.
use Rattle.std.specs.Prelude.{ℕ, ◌==◌, Bool, ◌||◌}
use Rattle.json_syntax.specs.declared.kinds.Kind.{Kind}
use Rattle.json_syntax.specs.Kinds.{number_of}

-- whether it is the kind with this number
abbrev pub has_number : ℕ → Kind → Bool
has_number n kind = number_of kind == n

abbrev pub is_object : Kind → Bool
is_object = has_number 12

abbrev pub is_member : Kind → Bool
is_member = has_number 13

abbrev pub is_array : Kind → Bool
is_array = has_number 14

abbrev pub is_literal : Kind → Bool
is_literal = has_number 15

abbrev pub is_value : Kind → Bool
is_value kind =
    is_object kind
    || (is_array kind
    || is_literal kind)
