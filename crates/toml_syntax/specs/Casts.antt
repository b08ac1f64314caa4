-- Written by rowan_grammar from toml.ungram: change that, and not this file.
-- Wrappers of the nodes of Toml: the kinds that cast to each of them.
use Rattle.std.specs.Prelude.{ℕ, ◌==◌, Bool, ◌||◌}
use Rattle.toml_syntax.specs.declared.kinds.Kind.{Kind}
use Rattle.toml_syntax.specs.Kinds.{number_of}

-- whether it is the kind with this number
abbrev pub has_number : ℕ → Kind → Bool
has_number n kind = number_of kind == n

abbrev pub is_document : Kind → Bool
is_document = has_number 26

abbrev pub is_table : Kind → Bool
is_table = has_number 27

abbrev pub is_array_table : Kind → Bool
is_array_table = has_number 28

abbrev pub is_entry : Kind → Bool
is_entry = has_number 29

abbrev pub is_key : Kind → Bool
is_key = has_number 30

abbrev pub is_key_part : Kind → Bool
is_key_part = has_number 31

abbrev pub is_scalar : Kind → Bool
is_scalar = has_number 32

abbrev pub is_array : Kind → Bool
is_array = has_number 33

abbrev pub is_inline_table : Kind → Bool
is_inline_table = has_number 34

abbrev pub is_section : Kind → Bool
is_section kind =
    is_table kind
    || is_array_table kind

abbrev pub is_value : Kind → Bool
is_value kind =
    is_scalar kind
    || (is_array kind
    || is_inline_table kind)
