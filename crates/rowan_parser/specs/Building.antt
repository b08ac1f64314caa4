-- What the builder has while events are replayed: a root that nothing closed yet, and in it some
-- open nodes and whole terms.
use Rattle.std.specs.Prelude.{◌≡◌, ℕ, ◌+◌, ◌<◌, ◌≤◌, List, [], ◌∷◌, ◌++◌, length, map, take, drop}
use Rattle.rowan_green.specs.declared.fault.Fault.{Fault}
use Rattle.rowan_green.specs.declared.fault.Fault.TheVariants.{TextTooLong, TooManyChildren, Memory}
use Rattle.rowan_green.specs.declared.green.SyntaxKind.{SyntaxKind}
use Rattle.rowan_green.specs.declared.utility_types.NodeOrToken.TheVariants.{Node}
use Rattle.rowan_green.specs.Fits.{byte_limit}
use Rattle.rowan_green.specs.Term.{NodeTerm, node_kind}
use Rattle.rowan_green.specs.Word.{Symbol, Close, Item, Bare, Whole, HasParts, ClosingPasses}
use Rattle.rowan_green.specs.Word.{word_text}
use Rattle.rowan_events.specs.declared.lexer.Token.{Token}
use Rattle.rowan_parser.specs.declared.tree.Progress.{Progress}
use Rattle.rowan_parser.specs.declared.tree.Source.{Source}
use Rattle.rowan_parser.specs.Events.{is_trivia, past, spelled_by}
use Rattle.rowan_parser.specs.Shape.{Step}
use Rattle.rowan_events.specs.Tokens.{tokens_text}

-- ---- refusals

-- A node of the tree with this word has more than 4,294,967,295 children: it ends behind these
-- symbols.
pub record HasTooManyChildren (word : List Symbol) : Type 0 where
  pub before : List Symbol
  pub after : List Symbol
  pub ends : word ≡ before ++ Close ∷ after
  pub passes : ClosingPasses before TooManyChildren

-- why the tree of these tokens with this word is not built
abbrev pub WhyRefused : List Symbol → List Token → Fault → Type 0
WhyRefused word tokens TextTooLong = byte_limit < length (tokens_text tokens)
WhyRefused word tokens TooManyChildren = HasTooManyChildren word
WhyRefused word tokens Memory = Unit {0}
WhyRefused word tokens _ = ⊥

-- why some of these tokens are not put
abbrev pub WhyNotPut : List Token → Fault → Type 0
WhyNotPut tokens TextTooLong = byte_limit < length (tokens_text tokens)
WhyNotPut tokens Memory = Unit {0}
WhyNotPut tokens _ = ⊥

-- ---- what is built so far

-- how many openings are bare
abbrev pub bare_count : List Item → ℕ
bare_count [] = 0
bare_count (Bare k ∷ items) = bare_count items + 1
bare_count (Whole t ∷ items) = bare_count items

-- the token at `next` is the first one from `put` on that is no trivia
pub record IsAhead (source : Source) (put next : ℕ) : Type 0 where
  pub within : next ≤ length source.tokens.now
  pub ahead : drop next source.tokens.now
      ≡ past (is_trivia source.trivia) (drop put source.tokens.now)

-- In the root so many nodes are open, and the leaves have the text of the tokens that are put.
pub record IsBuilding (source : Source) (w : List Symbol) (progress : Progress) : Type 0 where
  pub items : List Item
  pub parts : HasParts w (Bare source.root_kind.0 ∷ items)
  pub opened : bare_count items ≡ progress.depth
  pub within : progress.put ≤ length source.tokens.now
  pub text : word_text w ≡ tokens_text (take progress.put source.tokens.now)
  pub ahead : IsAhead source progress.put progress.next

-- all is closed
pub record IsBuilt (root : ℕ) (w : List Symbol) : Type 0 where
  pub tree : NodeTerm
  pub kind : node_kind tree ≡ root
  pub parts : HasParts w (Whole (Node tree) ∷ [])

-- the raw kinds
abbrev pub raw : List SyntaxKind → List ℕ
raw kinds = map (λ kind. kind.0) kinds

-- The word and what the steps that are left spell from here on.
abbrev pub to_come : Source → List Symbol → Progress → List Step → List Symbol
to_come source w progress steps =
    w ++ spelled_by source.trivia progress.depth steps (drop progress.put source.tokens.now)

-- These steps are done: what they and all others spell from the old word on is what the others
-- spell from the new one on.
pub record AreDone (source : Source) (old : List Symbol) (first : Progress) (steps : List Step)
    (new : List Symbol) (last : Progress) : Type 0 where
  pub spells : (others : List Step) → to_come source new last others
      ≡ to_come source old first (steps ++ others)
