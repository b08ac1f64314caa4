-- Words: the symbols that spell terms, as brackets round leaves.
--     A token spells itself. A node spells an opening with its kind, its children's words, and a
--     closing.
-- The items of a word are its openings that nothing closes, here called bare, and its whole terms.
-- A word has at most one list of items, since a closing is no item: the law of
-- `laws::word_has_one_reading`.
use Rattle.std.specs.Prelude.{◌≡◌, ◌≢◌, ℕ, ◌<◌, List, [], ◌∷◌, ◌++◌, map, length}
use Rattle.std.specs.List.{flat_map}
use Rattle.rowan_green.specs.declared.fault.Fault.{Fault}
use Rattle.rowan_green.specs.declared.fault.Fault.TheVariants.{TextTooLong, TooManyChildren}
use Rattle.rowan_green.specs.declared.fault.Fault.TheVariants.{CheckpointPast, CheckpointBefore}
use Rattle.rowan_green.specs.declared.fault.Fault.TheVariants.{NothingOpen, NotOneElement, NotANode}
use Rattle.rowan_green.specs.declared.fault.Fault.TheVariants.{Memory}
use Rattle.rowan_green.specs.declared.utility_types.NodeOrToken.TheVariants.{Node, Token}
use Rattle.rowan_green.specs.Term.{TokenTerm, NodeTerm, node, Forest, empty, node_then, token_then}
use Rattle.rowan_green.specs.Term.{Term, node_of}
use Rattle.rowan_green.specs.Fits.{byte_limit, AreWithin, PassesLimit}

pub data Symbol : Type 0 where
  Open : ℕ → Symbol
  Leaf : TokenTerm → Symbol
  Close : Symbol

abbrev mutual
  pub node_word : NodeTerm → List Symbol
  node_word (node k f) = Open k ∷ (forest_word f ++ Close ∷ [])

  pub forest_word : Forest → List Symbol
  forest_word empty = []
  forest_word (node_then n f) = node_word n ++ forest_word f
  forest_word (token_then t f) = Leaf t ∷ forest_word f

abbrev pub term_word : Term → List Symbol
term_word (Node n) = node_word n
term_word (Token t) = Leaf t ∷ []

pub data Item : Type 0 where
  Bare : ℕ → Item
  Whole : Term → Item

abbrev pub item_word : Item → List Symbol
item_word (Bare k) = Open k ∷ []
item_word (Whole t) = term_word t

-- the words of the items, one after the other
abbrev pub spelled : List Item → List Symbol
spelled items = flat_map item_word items

pub record HasParts (w : List Symbol) (items : List Item) : Type 0 where
  pub spells : w ≡ spelled items

-- ---- what the builder's calls do to the word

-- why a token of this text is refused
abbrev pub WhyNoToken : List ℕ → Fault → Type 0
WhyNoToken text TextTooLong = byte_limit < length text
WhyNoToken text Memory = Unit {0}
WhyNoToken text _ = ⊥

-- A closing goes to the end of w. It closes the innermost bare opening over the whole terms behind
-- it, which are within the limits: that is the node n.
pub record Closes (w : List Symbol) (n : NodeTerm) (w2 : List Symbol) : Type 0 where
  pub before : List Item
  pub kind : ℕ
  pub children : List Term
  pub parts : HasParts w (before ++ Bare kind ∷ map Whole children)
  pub within : AreWithin children
  pub closes : n ≡ node_of kind children
  pub closed : w2 ≡ w ++ Close ∷ []

-- no opening of the word is bare
pub record HasNoneOpen (w : List Symbol) : Type 0 where
  pub wholes : List Term
  pub parts : HasParts w (map Whole wholes)

-- the node that a closing would close passes this limit
pub record ClosingPasses (w : List Symbol) (fault : Fault) : Type 0 where
  pub before : List Item
  pub kind : ℕ
  pub children : List Term
  pub parts : HasParts w (before ++ Bare kind ∷ map Whole children)
  pub passes : PassesLimit children fault

-- why a closing is refused
abbrev pub WhyNotClosed : List Symbol → Fault → Type 0
WhyNotClosed w NothingOpen = HasNoneOpen w
WhyNotClosed w TooManyChildren = ClosingPasses w TooManyChildren
WhyNotClosed w TextTooLong = ClosingPasses w TextTooLong
WhyNotClosed w Memory = Unit {0}
WhyNotClosed w _ = ⊥

-- the whole terms among items
abbrev pub whole_terms : List Item → List Term
whole_terms [] = []
whole_terms (Bare k ∷ items) = whole_terms items
whole_terms (Whole t ∷ items) = t ∷ whole_terms items

-- how many whole terms stand among items
abbrev pub count : List Item → ℕ
count items = length (whole_terms items)

-- the word has this many whole terms
pub record HasCount (w : List Symbol) (n : ℕ) : Type 0 where
  pub items : List Item
  pub parts : HasParts w items
  pub counted : count items ≡ n

-- An opening goes directly before whole term number c, counted from 0: behind the bare openings
-- that stand there, and at the end where c is the count.
pub record Wraps (w : List Symbol) (c k : ℕ) (w2 : List Symbol) : Type 0 where
  pub before : List Item
  pub after : List Term
  pub parts : HasParts w (before ++ map Whole after)
  pub place : count before ≡ c
  pub opened : HasParts w2 (before ++ Bare k ∷ map Whole after)

-- the checkpoint is above the count
pub record IsPast (w : List Symbol) (c : ℕ) : Type 0 where
  pub items : List Item
  pub parts : HasParts w items
  pub past : count items < c

-- the checkpoint is below the place of the innermost bare opening: the number of whole terms before
-- it
pub record IsBeforeOpening (w : List Symbol) (c : ℕ) : Type 0 where
  pub before : List Item
  pub kind : ℕ
  pub after : List Term
  pub parts : HasParts w (before ++ Bare kind ∷ map Whole after)
  pub below : c < count before

-- why a wrap is refused
abbrev pub WhyNotWrapped : List Symbol → ℕ → Fault → Type 0
WhyNotWrapped w c CheckpointPast = IsPast w c
WhyNotWrapped w c CheckpointBefore = IsBeforeOpening w c
WhyNotWrapped w c Memory = Unit {0}
WhyNotWrapped w c _ = ⊥

-- the whole terms of the word, without its bare openings
pub record HasTerms (w : List Symbol) (ts : List Term) : Type 0 where
  pub items : List Item
  pub parts : HasParts w items
  pub terms : whole_terms items ≡ ts

-- the word's one whole term is this node; openings that nothing closed are left out
abbrev pub IsFinished : List Symbol → NodeTerm → Type 0
IsFinished w n = HasTerms w (Node n ∷ [])

-- why the word has no finished tree
abbrev pub WhyUnfinished : List Symbol → Fault → Type 0
WhyUnfinished w NotOneElement = (ts : List Term) × HasTerms w ts × (length ts ≢ 1)
WhyUnfinished w NotANode = (t : TokenTerm) × HasTerms w (Token t ∷ [])
WhyUnfinished w _ = ⊥

-- the texts of a word's leaves, one after the other
abbrev pub word_text : List Symbol → List ℕ
word_text [] = []
word_text (Open k ∷ w) = word_text w
word_text (Leaf t ∷ w) = t.text ++ word_text w
word_text (Close ∷ w) = word_text w

-- the tokens of a word's leaves, in order
abbrev pub word_tokens : List Symbol → List TokenTerm
word_tokens [] = []
word_tokens (Open k ∷ w) = word_tokens w
word_tokens (Leaf t ∷ w) = t ∷ word_tokens w
word_tokens (Close ∷ w) = word_tokens w
