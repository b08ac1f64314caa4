-- Where a part of a derivation stands: what the rules around it derive before it and behind it.
use Rattle.std.specs.Prelude.{◌≡◌, ℕ, List, [], ◌∷◌, ◌++◌}
use Rattle.rowan_predictive.specs.declared.rules.Rule.{Rule}
use Rattle.rowan_predictive.specs.declared.rules.Rule.TheVariants.{Node, Chain, Wrap, Seq}
use Rattle.rowan_predictive.specs.declared.rules.Rule.TheVariants.{Choice, Optional, Star}
use Rattle.rowan_predictive.specs.declared.rules.Action.{Action}
use Rattle.rowan_predictive.specs.declared.rules.Action.TheVariants.{Open, Mark, Around, Close}
use Rattle.rowan_predictive.specs.declared.rules.Action.TheVariants.{Done}
use Rattle.rowan_predictive.specs.Derivations.{HasRule, Parses}

-- In a derivation of rule i there is a part that rule p derives, between tokens of these kinds and
-- between these actions. What the part itself derives is left open.
pub data IsAmid (rules : List Rule) (p : ℕ)
    : ℕ → List ℕ → List ℕ → List Action → List Action → Type 0 where
  itself : IsAmid rules p p [] [] [] []
  in_node : {i kind a : ℕ} {ts us : List ℕ} {es fs : List Action}
      → HasRule rules i (Node kind a) → IsAmid rules p a ts us es fs
      → IsAmid rules p i ts us (Open kind ∷ es) (fs ++ (Close ∷ []))
  in_chain : {i a : ℕ} {ts us : List ℕ} {es fs : List Action}
      → HasRule rules i (Chain a) → IsAmid rules p a ts us es fs
      → IsAmid rules p i ts us (Mark ∷ es) (fs ++ (Done ∷ []))
  in_wrap : {i kind a : ℕ} {ts us : List ℕ} {es fs : List Action}
      → HasRule rules i (Wrap kind a) → IsAmid rules p a ts us es fs
      → IsAmid rules p i ts us (Around kind ∷ es) (fs ++ (Close ∷ []))
  in_first : {i a b : ℕ} {ts us vs : List ℕ} {es fs gs : List Action}
      → HasRule rules i (Seq a b) → IsAmid rules p a ts us es fs → Parses rules b vs gs
      → IsAmid rules p i ts (us ++ vs) es (fs ++ gs)
  in_second : {i a b : ℕ} {ts us vs : List ℕ} {es fs gs : List Action}
      → HasRule rules i (Seq a b) → Parses rules a vs gs → IsAmid rules p b ts us es fs
      → IsAmid rules p i (vs ++ ts) us (gs ++ es) fs
  in_left : {i a : ℕ} {ts us : List ℕ} {es fs : List Action} (b : ℕ)
      → HasRule rules i (Choice a b) → IsAmid rules p a ts us es fs → IsAmid rules p i ts us es fs
  in_right : {i b : ℕ} {ts us : List ℕ} {es fs : List Action} (a : ℕ)
      → HasRule rules i (Choice a b) → IsAmid rules p b ts us es fs → IsAmid rules p i ts us es fs
  in_present : {i a : ℕ} {ts us : List ℕ} {es fs : List Action}
      → HasRule rules i (Optional a) → IsAmid rules p a ts us es fs → IsAmid rules p i ts us es fs
  in_item : {i a : ℕ} {ts us vs : List ℕ} {es fs gs : List Action}
      → HasRule rules i (Star a) → IsAmid rules p a ts us es fs → Parses rules i vs gs
      → IsAmid rules p i ts (us ++ vs) es (fs ++ gs)
  in_rest : {i a : ℕ} {ts us vs : List ℕ} {es fs gs : List Action}
      → HasRule rules i (Star a) → Parses rules a vs gs → IsAmid rules p i ts us es fs
      → IsAmid rules p i (vs ++ ts) us (gs ++ es) fs

-- Behind these actions a derivation of rule i opens a node of this kind, and the rest follows. A
-- rule for such nodes derives the node: the tokens below it, and the actions up to its end.
pub record OpensNode (rules : List Rule) (i kind : ℕ) (tokens : List ℕ)
    (opening rest : List Action) : Type 0 where
  pub rule : ℕ
  pub content : ℕ
  pub is_node : HasRule rules rule (Node kind content)
  pub before : List ℕ
  pub below : List ℕ
  pub behind : List ℕ
  pub all_tokens : tokens ≡ before ++ (below ++ behind)
  pub inside : List Action
  pub closing : List Action
  pub all_actions : rest ≡ inside ++ Close ∷ closing
  pub derives : Parses rules content below inside
  pub amid : IsAmid rules rule i before behind opening closing
