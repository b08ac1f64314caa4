-- The skeleton of a tree: what a formatter has to leave.
--     It is the word of the tree without its white space: where each node begins, with its kind,
--     its tokens, each with its kind and its text, but for white space and line ends, and where it
--     ends.
use Rattle.std.specs.Prelude.{ℕ, ◌==◌, ◌||◌, not, Bool, true, List, filter}
use Rattle.rowan.specs.Term.{NodeTerm, token_of}
use Rattle.rowan.specs.Word.{Symbol, Open, Leaf, Close, node_word}
use Rattle.toml_format.specs.declared.skeleton.Mark.{Mark}
use Rattle.toml_format.specs.declared.skeleton.Mark.TheVariants as mark

-- the kinds of white space and of line ends, by their numbers
abbrev pub is_white : ℕ → Bool
is_white kind = kind == 0 || kind == 2

-- whether a symbol is none of white space
abbrev pub is_kept : Symbol → Bool
is_kept (Open k) = true
is_kept (Leaf t) = not (is_white t.kind)
is_kept Close = true

-- what is left of a word without white space
abbrev pub kept : List Symbol → List Symbol
kept symbols = filter is_kept symbols

abbrev pub skeleton : NodeTerm → List Symbol
skeleton n = kept (node_word n)

-- a part of a skeleton as a symbol
abbrev pub mark_symbol : Mark → Symbol
mark_symbol (mark.Open kind) = Open kind.0
mark_symbol (mark.Leaf kind text) = Leaf (token_of kind.0 text.now)
mark_symbol mark.Close = Close
