-- What a grammar means, as trees: which tokens a rule derives, and which nodes stand over them.
use Rattle.std.specs.Prelude.{◌≡◌, ℕ, Bool, true, false, List, [], ◌∷◌, ◌++◌}
use Rattle.rowan_green.specs.Word.{Symbol}
use Rattle.rowan_green.specs.Word as word
use Rattle.rowan_parser.specs.Events.{spelled_by}
use Rattle.rowan_parser.specs.Shape.{Forest, none, token_then, node_then, joined, steps}
use Rattle.rowan_parser.specs.Shape as shape
use Rattle.rowan_events.specs.declared.lexer.Token.{Token}
use Rattle.rowan_parser.specs.declared.tree.Trivia.{Trivia}
use Rattle.rowan_predictive.specs.declared.rules.Action.{Action}
use Rattle.rowan_predictive.specs.declared.rules.Rule.{Rule}
use Rattle.rowan_predictive.specs.declared.rules.Rule.TheVariants.{Empty, Node, Chain, Wrap, Seq}
use Rattle.rowan_predictive.specs.declared.rules.Rule.TheVariants.{Choice, Optional, Star}
use Rattle.rowan_predictive.specs.declared.rules.Rule.TheVariants as rule
use Rattle.rowan_predictive.specs.Arranging.{arranged}
use Rattle.rowan_predictive.specs.Derivations.{HasRule, Parses}

-- In the innermost node or chain stands f so far. Rule i derives tokens of these kinds, and then g
-- stands there. It is said whether it is a chain: then a node of `Wrap` stands around all of f.
pub data Makes (rules : List Rule) : Bool → ℕ → Forest → List ℕ → Forest → Type 0 where
  empty : {c : Bool} {i : ℕ} {f : Forest} → HasRule rules i Empty → Makes rules c i f [] f
  token : {c : Bool} {i kind : ℕ} {f : Forest} → HasRule rules i (rule.Token kind)
      → Makes rules c i f (kind ∷ []) (joined f (token_then none))
  node : {c : Bool} {i kind a : ℕ} {f g : Forest} {ts : List ℕ}
      → HasRule rules i (Node kind a) → Makes rules false a none ts g
      → Makes rules c i f ts (joined f (node_then kind g none))
  chain : {c : Bool} {i a : ℕ} {f g : Forest} {ts : List ℕ}
      → HasRule rules i (Chain a) → Makes rules true a none ts g
      → Makes rules c i f ts (joined f g)
  wrap : {i kind a : ℕ} {f g : Forest} {ts : List ℕ}
      → HasRule rules i (Wrap kind a) → Makes rules false a none ts g
      → Makes rules true i f ts (node_then kind (joined f g) none)
  wrap_outside : {i kind a : ℕ} {f g : Forest} {ts : List ℕ}
      → HasRule rules i (Wrap kind a) → Makes rules false a none ts g
      → Makes rules false i f ts (joined f (node_then kind g none))
  seq : {c : Bool} {i a b : ℕ} {f g h : Forest} {ts us : List ℕ}
      → HasRule rules i (Seq a b) → Makes rules c a f ts g → Makes rules c b g us h
      → Makes rules c i f (ts ++ us) h
  left : {c : Bool} {i a : ℕ} {f g : Forest} {ts : List ℕ} (b : ℕ)
      → HasRule rules i (Choice a b) → Makes rules c a f ts g → Makes rules c i f ts g
  right : {c : Bool} {i b : ℕ} {f g : Forest} {ts : List ℕ} (a : ℕ)
      → HasRule rules i (Choice a b) → Makes rules c b f ts g → Makes rules c i f ts g
  present : {c : Bool} {i a : ℕ} {f g : Forest} {ts : List ℕ}
      → HasRule rules i (Optional a) → Makes rules c a f ts g → Makes rules c i f ts g
  absent : {c : Bool} {i : ℕ} {f : Forest} (a : ℕ) → HasRule rules i (Optional a)
      → Makes rules c i f [] f
  more : {c : Bool} {i a : ℕ} {f g h : Forest} {ts us : List ℕ}
      → HasRule rules i (Star a) → Makes rules c a f ts g → Makes rules c i g us h
      → Makes rules c i f (ts ++ us) h
  stop : {c : Bool} {i : ℕ} {f : Forest} (a : ℕ) → HasRule rules i (Star a)
      → Makes rules c i f [] f

-- The tokens of these kinds derive from rule i with this forest over them.
abbrev pub MakesForest : List Rule → ℕ → List ℕ → Forest → Type 0
MakesForest rules i kinds f = Makes rules false i none kinds f

-- the word of a root of this kind around a forest over tokens
abbrev pub root_word : ℕ → Trivia → List Token → Forest → List Symbol
root_word root trivia tokens f =
    word.Open root ∷ (spelled_by trivia 0 (shape.word f) tokens ++ word.Close ∷ [])

-- a derivation by actions makes a forest, and its events are those of the forest
pub record HasForest (rules : List Rule) (error i : ℕ) (kinds : List ℕ) (actions : List Action)
    : Type 0 where
  pub forest : Forest
  pub makes : MakesForest rules i kinds forest
  pub spells : steps (arranged error actions) ≡ shape.word forest

-- a forest that derives is that of a derivation by actions
pub record HasActions (rules : List Rule) (error i : ℕ) (kinds : List ℕ) (f : Forest)
    : Type 0 where
  pub actions : List Action
  pub parses : Parses rules i kinds actions
  pub spells : steps (arranged error actions) ≡ shape.word f
