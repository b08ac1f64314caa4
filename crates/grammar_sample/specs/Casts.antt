-- Written by rowan_grammar from sample.ungram: change that, and not this file.
-- Wrappers of the nodes of Sample: the kinds that cast to each of them.
use Rattle.std.specs.Prelude.{◌≡◌, ℕ, ◌==◌, Bool, true, ◌||◌}
use Rattle.grammar_sample.specs.declared.kinds.Kind.{Kind}
use Rattle.grammar_sample.specs.contracts.kinds.Kind.{the_type}
use Rattle.grammar_sample.specs.Kinds.{number_of}
use denote.Enum.Bare.{same_true, sameb}

-- whether it is the kind with this number
abbrev pub has_number : ℕ → Kind → Bool
has_number n kind = number_of kind == n

abbrev pub is_document : Kind → Bool
is_document = has_number 20

abbrev pub is_table : Kind → Bool
is_table = has_number 21

abbrev pub is_array_table : Kind → Bool
is_array_table = has_number 22

abbrev pub is_header : Kind → Bool
is_header = has_number 23

abbrev pub is_array_header : Kind → Bool
is_array_header = has_number 24

abbrev pub is_entry : Kind → Bool
is_entry = has_number 25

abbrev pub is_key : Kind → Bool
is_key = has_number 26

abbrev pub is_bare_key : Kind → Bool
is_bare_key = has_number 27

abbrev pub is_quoted_key : Kind → Bool
is_quoted_key = has_number 28

abbrev pub is_note : Kind → Bool
is_note = has_number 29

abbrev pub is_text_literal : Kind → Bool
is_text_literal = has_number 30

abbrev pub is_integer_literal : Kind → Bool
is_integer_literal = has_number 31

abbrev pub is_float_literal : Kind → Bool
is_float_literal = has_number 32

abbrev pub is_boolean_literal : Kind → Bool
is_boolean_literal = has_number 33

abbrev pub is_moment_literal : Kind → Bool
is_moment_literal = has_number 34

abbrev pub is_array : Kind → Bool
is_array = has_number 35

abbrev pub is_inline_table : Kind → Bool
is_inline_table = has_number 36

abbrev pub is_reference : Kind → Bool
is_reference = has_number 37

abbrev pub is_call : Kind → Bool
is_call = has_number 38

abbrev pub is_arguments : Kind → Bool
is_arguments = has_number 39

abbrev pub is_section : Kind → Bool
is_section kind =
    is_table kind
    || is_array_table kind

abbrev pub is_key_part : Kind → Bool
is_key_part kind =
    is_bare_key kind
    || is_quoted_key kind

abbrev pub is_composed : Kind → Bool
is_composed kind =
    is_array kind
    || is_inline_table kind

abbrev pub is_literal : Kind → Bool
is_literal kind =
    is_text_literal kind
    || (is_integer_literal kind
    || (is_float_literal kind
    || (is_boolean_literal kind
    || is_moment_literal kind)))

abbrev pub is_value : Kind → Bool
is_value kind =
    is_literal kind
    || (is_composed kind
    || (is_reference kind
    || is_call kind))

-- kinds that `==` holds equal are one kind
pub same_kind : (a b : Kind) → sameb the_type a b ≡ true → a ≡ b
same_kind a b same = same_true the_type tt a b same
