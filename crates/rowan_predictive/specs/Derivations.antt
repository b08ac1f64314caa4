-- What a grammar means: which tokens a rule derives, and by which actions.
use Rattle.std.specs.Prelude.{◌≡◌, ℕ, List, [], ◌∷◌, ◌++◌, Some, slice_get}
use Rattle.rowan_predictive.specs.declared.rules.Rule.{Rule}
use Rattle.rowan_predictive.specs.declared.rules.Rule.TheVariants.{Empty, Token, Node, Chain, Wrap}
use Rattle.rowan_predictive.specs.declared.rules.Rule.TheVariants.{Seq, Choice, Optional, Star}
use Rattle.rowan_predictive.specs.declared.rules.Action.{Action}
use Rattle.rowan_predictive.specs.declared.rules.Action.TheVariants.{Open, Mark, Around, Close}
use Rattle.rowan_predictive.specs.declared.rules.Action.TheVariants.{Done}
use Rattle.rowan_predictive.specs.declared.rules.Action.TheVariants as action

abbrev pub HasRule : List Rule → ℕ → Rule → Type 0
HasRule rules i rule = slice_get rules i ≡ Some rule

-- Rule i derives tokens of these kinds by these actions.
pub data Parses (rules : List Rule) : ℕ → List ℕ → List Action → Type 0 where
  empty : {i : ℕ} → HasRule rules i Empty → Parses rules i [] []
  token : {i kind : ℕ} → HasRule rules i (Token kind)
      → Parses rules i (kind ∷ []) (action.Token ∷ [])
  node : {i kind a : ℕ} {ts : List ℕ} {es : List Action}
      → HasRule rules i (Node kind a) → Parses rules a ts es
      → Parses rules i ts (Open kind ∷ (es ++ (Close ∷ [])))
  chain : {i a : ℕ} {ts : List ℕ} {es : List Action}
      → HasRule rules i (Chain a) → Parses rules a ts es
      → Parses rules i ts (Mark ∷ (es ++ (Done ∷ [])))
  wrap : {i kind a : ℕ} {ts : List ℕ} {es : List Action}
      → HasRule rules i (Wrap kind a) → Parses rules a ts es
      → Parses rules i ts (Around kind ∷ (es ++ (Close ∷ [])))
  seq : {i a b : ℕ} {ts us : List ℕ} {es fs : List Action}
      → HasRule rules i (Seq a b) → Parses rules a ts es → Parses rules b us fs
      → Parses rules i (ts ++ us) (es ++ fs)
  left : {i a : ℕ} {ts : List ℕ} {es : List Action} (b : ℕ)
      → HasRule rules i (Choice a b) → Parses rules a ts es → Parses rules i ts es
  right : {i b : ℕ} {ts : List ℕ} {es : List Action} (a : ℕ)
      → HasRule rules i (Choice a b) → Parses rules b ts es → Parses rules i ts es
  present : {i a : ℕ} {ts : List ℕ} {es : List Action}
      → HasRule rules i (Optional a) → Parses rules a ts es → Parses rules i ts es
  absent : {i : ℕ} (a : ℕ) → HasRule rules i (Optional a) → Parses rules i [] []
  more : {i a : ℕ} {ts us : List ℕ} {es fs : List Action}
      → HasRule rules i (Star a) → Parses rules a ts es → Parses rules i us fs
      → Parses rules i (ts ++ us) (es ++ fs)
  stop : {i : ℕ} (a : ℕ) → HasRule rules i (Star a) → Parses rules i [] []
