-- Written by rowan_grammar from settings.ungram: change that, and not this file.
-- Wrappers of the nodes of Settings: the kinds that cast to each of them.
use Rattle.std.specs.Prelude.{ℕ, ◌==◌, Bool}
use Rattle.guide_language.specs.declared.kinds.Kind.{Kind}
use Rattle.guide_language.specs.Kinds.{number_of}

-- whether it is the kind with this number
abbrev pub has_number : ℕ → Kind → Bool
has_number n kind = number_of kind == n

abbrev pub is_section : Kind → Bool
is_section = has_number 15

abbrev pub is_header : Kind → Bool
is_header = has_number 16

abbrev pub is_entry : Kind → Bool
is_entry = has_number 17

abbrev pub is_value : Kind → Bool
is_value = has_number 18
