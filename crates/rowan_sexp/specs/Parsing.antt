-- What a parser's builder holds between two tokens: a root that is open, in it some open lists,
-- and between them whole terms that are not empty. And what a parse that is refused leaves.
use Rattle.std.specs.Prelude.{◌≡◌, ℕ, zero, suc, ◌+◌, ◌<◌, ◌≤◌, List, [], ◌∷◌, ◌++◌, length}
use Rattle.std.specs.Prelude.{replicate}
use Rattle.rowan_green.specs.declared.utility_types.NodeOrToken.TheVariants.{Node}
use Rattle.rowan_green.specs.Term.{TokenTerm, NodeTerm, Term, node_kind, term_len}
use Rattle.rowan_sexp.specs.declared.sexp.lang.SyntaxKind.{SyntaxKind}
use Rattle.rowan_sexp.specs.declared.sexp.lang.SyntaxKind.TheVariants.{L_PAREN, R_PAREN, WORD}
use Rattle.rowan_sexp.specs.declared.sexp.lang.SyntaxKind.TheVariants.{ERROR, LIST, ATOM, ROOT}
use Rattle.rowan_sexp.specs.Sexp.{number_of, kind_of}
use Rattle.rowan_builder.specs.Cache.{CacheValue}
use Rattle.rowan_builder.specs.Stream.{intern_all}
use Rattle.rowan_green.specs.Word.{Symbol, Open, Leaf, Close, Item, Bare, Whole, HasParts}
use Rattle.rowan_green.specs.Word.{whole_terms, word_text}

abbrev pub root_kind : ℕ
root_kind = number_of ROOT

-- what a token of this kind adds to the word, where so many lists are open
abbrev pub symbols_of : SyntaxKind → ℕ → TokenTerm → List Symbol
symbols_of L_PAREN n t = Open (number_of LIST) ∷ Leaf t ∷ []
symbols_of R_PAREN zero t = Open (number_of ERROR) ∷ Leaf t ∷ Close ∷ []
symbols_of R_PAREN (suc n) t = Leaf t ∷ Close ∷ []
symbols_of WORD n t = Open (number_of ATOM) ∷ Leaf t ∷ Close ∷ []
symbols_of _ n t = Leaf t ∷ []

-- how many lists are open behind it
abbrev pub open_after : SyntaxKind → ℕ → ℕ
open_after L_PAREN n = suc n
open_after R_PAREN zero = zero
open_after R_PAREN (suc n) = n
open_after _ n = n

-- what the tokens that are left add, and the end of the text, which closes the open lists and the
-- root
abbrev pub rest_word : ℕ → List TokenTerm → List Symbol
rest_word n [] = replicate n Close ++ Close ∷ []
rest_word n (t ∷ ts) =
    symbols_of (kind_of t.kind) n t ++ rest_word (open_after (kind_of t.kind) n) ts

-- the word of the tree of the tokens
abbrev pub sexp_word : List TokenTerm → List Symbol
sexp_word ts = Open root_kind ∷ rest_word 0 ts

-- how many openings are bare
abbrev pub bare_count : List Item → ℕ
bare_count [] = 0
bare_count (Bare k ∷ items) = bare_count items + 1
bare_count (Whole t ∷ items) = bare_count items

-- each of the terms has some text
abbrev pub AreFilled : List Term → Type 0
AreFilled [] = Unit {0}
AreFilled (t ∷ ts) = (0 < term_len t) × AreFilled ts

abbrev pub last_item : Item → List Item → Item
last_item i [] = i
last_item i (j ∷ items) = last_item j items

abbrev pub IsWhole : Item → Type 0
IsWhole (Bare k) = ⊥
IsWhole (Whole t) = Unit {0}

-- the last item, if there is one, is a whole term
abbrev pub EndsWhole : List Item → Type 0
EndsWhole [] = Unit {0}
EndsWhole (i ∷ items) = IsWhole (last_item i items)

-- In the root stand whole terms with some text, and this many open lists, each with at least one
-- term.
pub record IsInRoot (w : List Symbol) (open_lists : ℕ) : Type 0 where
  pub items : List Item
  pub parts : HasParts w (Bare root_kind ∷ items)
  pub opened : bare_count items ≡ open_lists
  pub few : open_lists ≤ length (word_text w)
  pub filled : AreFilled (whole_terms items)
  pub ends : EndsWhole items

-- all openings are closed, and the root is there
pub record IsTree (w : List Symbol) : Type 0 where
  pub root : NodeTerm
  pub kind : node_kind root ≡ root_kind
  pub parts : HasParts w (Whole (Node root) ∷ [])

-- the second word begins with the first
pub record Begins (v w : List Symbol) : Type 0 where
  pub more : List Symbol
  pub goes_on : w ≡ v ++ more

-- the cache was asked for the first ones of these terms, and for no more
pub record InternsFirst (old new : CacheValue) (stream : List Term) : Type 0 where
  pub asked : List Term
  pub others : List Term
  pub first : stream ≡ asked ++ others
  pub interns : new ≡ intern_all old asked
