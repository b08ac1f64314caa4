-- The rules of a grammar, and the state of a machine.
use Rattle.std.specs.Prelude.{◌≡◌, ℕ, ⊤, List, [], ◌∷◌, map, reverse}
use Rattle.rowan_events.specs.Seen.{has}
use Rattle.rowan_predictive.specs.declared.grammars.Grammar.{Grammar}
use Rattle.rowan_predictive.specs.declared.machine.Frame.{Frame}
use Rattle.rowan_predictive.specs.declared.machine.Machine.{Machine}
use Rattle.rowan_predictive.specs.declared.rules.Entry.{Entry}
use Rattle.rowan_predictive.specs.declared.rules.Item.{Item}
use Rattle.rowan_predictive.specs.declared.rules.Rule.{Rule}
use Rattle.rowan_predictive.specs.Machine.{State, is_anchor}
use Rattle.rowan_predictive.specs.Predictive.{IsPredictive}
use Rattle.std.proofs.Props.{props}

abbrev pub rules_of : List Entry → List Rule
rules_of entries = map (λ entry. entry.rule) entries

-- the rules of a grammar, with what was found of each, and without
abbrev pub entries_in : Grammar → List Entry
entries_in grammar = grammar.entries.items

abbrev pub rules_in : Grammar → List Rule
rules_in grammar = rules_of (entries_in grammar)

pub rules_prop : (grammar : Grammar) (rules : List Rule) → IsProp (rules_in grammar ≡ rules)
rules_prop grammar rules = Prim.hlevel props

-- rules for which the next token alone says what to do
pub record IsGrammar (rules : List Rule) : Type 0 where
  pub entries : List Entry
  pub of_rules : rules_of entries ≡ rules
  pub predictive : IsPredictive entries

abbrev pub items_of : List Frame → List Item
items_of [] = []
items_of (frame ∷ frames) = frame.item ∷ items_of frames

abbrev pub state_of : Machine → State
state_of m = record {
  stack = items_of (reverse m.stack.items);
  actions = m.actions.items;
  errors = m.errors.items;
  place = m.place;
  fresh = m.fresh;
}

-- the tokens that are kept for this stack
abbrev pub top_of : List Frame → ℕ
top_of [] = 0
top_of (frame ∷ frames) = frame.anchors.0

-- each frame has the tokens by which its item or one below it may go on
abbrev pub AreAnchors : List Entry → List Frame → Type 0
AreAnchors entries [] = ⊤
AreAnchors entries (frame ∷ frames) =
    ((kind : ℕ) → has frame.anchors.0 kind ≡ is_anchor entries (items_of (frame ∷ frames)) kind)
    × AreAnchors entries frames
