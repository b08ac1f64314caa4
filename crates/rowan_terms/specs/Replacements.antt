-- Replacements one after the other: each puts a term at a path of what those before it made.
--     They make a term where something stands at each path when its turn comes.
--     A path is separate from all where it is separate from the path of each; they are pairwise
--     separate where the paths of any two
--     are. The range of a path that is separate from all moves with each in turn.
use Rattle.std.specs.Prelude.{◌≡◌, List, [], ◌∷◌, true, Some}
use Rattle.std.specs.List.{All, AllPairs}
use Rattle.rowan_terms.specs.Path.{Path, subterm, len_of, put, separate, moved}
use Rattle.rowan_green.specs.Span.{Span}
use Rattle.rowan_green.specs.Term.{Term, term_len}

-- a path, and what comes there
pub record Replacement : Type 0 where
  pub path : Path
  pub new : Term

-- the term that they make of t
abbrev pub Makes : Term → List Replacement → Term → Type 0
Makes t [] last = last ≡ t
Makes t (r ∷ rs) last =
    (old : Term) × (subterm t r.path ≡ Some old) × Makes (put t r.path r.new) rs last

-- q is separate from the path of each
abbrev pub SeparateFromAll : Path → List Replacement → Type 0
SeparateFromAll q rs = All (λ r. separate r.path q ≡ true) rs

-- the paths of any two are separate
abbrev pub PairwiseSeparate : List Replacement → Type 0
PairwiseSeparate rs = AllPairs (λ r s. separate r.path s.path ≡ true) rs

-- where the range of q goes, as they come in turn to t
abbrev pub moved_in_turn : Term → List Replacement → Path → Span → Span
moved_in_turn t [] q range = range
moved_in_turn t (r ∷ rs) q range =
    moved_in_turn (put t r.path r.new) rs q
    (moved r.path (len_of (subterm t r.path)) (term_len r.new) q range)
