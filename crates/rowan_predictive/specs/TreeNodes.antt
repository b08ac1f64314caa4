-- A node of a tree that derives, and what else may stand below it.
use Rattle.std.specs.Prelude.{◌≡◌, ℕ, List, [], ◌∷◌, ◌++◌}
use Rattle.rowan_green.specs.Word.{Symbol}
use Rattle.rowan_green.specs.Word as green
use Rattle.rowan_parser.specs.Events.{spelled_by}
use Rattle.rowan_parser.specs.Shape.{Forest, token_then, joined_then, node_then, word}
use Rattle.rowan_parser.specs.Shape.{Step, Enter, Take, TakeAs, Exit}
use Rattle.rowan_events.specs.declared.lexer.Token.{Token}
use Rattle.rowan_parser.specs.declared.tree.Trivia.{Trivia}
use Rattle.rowan_predictive.specs.declared.rules.Rule.{Rule}
use Rattle.rowan_predictive.specs.declared.rules.Rule.TheVariants.{Node}
use Rattle.rowan_predictive.specs.Derivations.{HasRule}
use Rattle.rowan_predictive.specs.Trees.{MakesForest}

-- In a forest there is a node of this kind over f, with these steps before it and behind it.
pub data IsNodeIn (kind : ℕ) (f : Forest) : List Step → List Step → Forest → Type 0 where
  first : {rest : Forest} → IsNodeIn kind f [] (word rest) (node_then kind f rest)
  behind_token : {ahead after : List Step} {rest : Forest}
      → IsNodeIn kind f ahead after rest → IsNodeIn kind f (Take ∷ ahead) after (token_then rest)
  behind_joined : {ahead after : List Step} {k n : ℕ} {rest : Forest}
      → IsNodeIn kind f ahead after rest
      → IsNodeIn kind f (TakeAs k n ∷ ahead) after (joined_then k n rest)
  behind_node : {ahead after : List Step} {k : ℕ} {inside rest : Forest}
      → IsNodeIn kind f ahead after rest
      → IsNodeIn kind f (Enter k ∷ (word inside ++ Exit ∷ ahead)) after (node_then k inside rest)
  within : {ahead after : List Step} {k : ℕ} {inside rest : Forest}
      → IsNodeIn kind f ahead after inside
      → IsNodeIn kind f (Enter k ∷ ahead) (after ++ Exit ∷ word rest) (node_then k inside rest)

-- Rule i derives tokens of these kinds, with a forest over them that has this word.
pub record MakesWord (rules : List Rule) (i : ℕ) (kinds : List ℕ) (made : List Step) : Type 0 where
  pub forest : Forest
  pub makes : MakesForest rules i kinds forest
  pub spells : word forest ≡ made

-- In a forest that rule i derives there is a node of this kind over f, between these steps. A rule
-- for such nodes derives it. With the tokens of whatever else that rule derives in place of those
-- below the node, rule i derives a forest with the same steps around the node.
pub record IsReplaceable (rules : List Rule) (i kind : ℕ) (tokens : List ℕ) (f : Forest)
    (ahead after : List Step) : Type 0 where
  pub rule : ℕ
  pub content : ℕ
  pub is_node : HasRule rules rule (Node kind content)
  pub before : List ℕ
  pub below : List ℕ
  pub behind : List ℕ
  pub all_tokens : tokens ≡ before ++ (below ++ behind)
  pub derives : MakesForest rules content below f
  pub holds : (others : List ℕ) (g : Forest) → MakesForest rules content others g
      → MakesWord rules i (before ++ (others ++ behind))
      (ahead ++ Enter kind ∷ (word g ++ Exit ∷ after))

-- the word of a root of this kind around what these steps make of tokens
abbrev pub word_by : ℕ → Trivia → List Token → List Step → List Symbol
word_by root trivia tokens steps =
    green.Open root ∷ (spelled_by trivia 0 steps tokens ++ green.Close ∷ [])
