-- Which tokens a grammar derives, and by which actions.
use Rattle.std.specs.Prelude.{◌≡◌, ℕ, zero, suc, ◌⊎◌, List, [], ◌∷◌, Option, Some, None, slice_get}
use Rattle.rowan_predictive.specs.declared.rules.Rule.{Rule}
use Rattle.rowan_predictive.specs.declared.rules.Rule.TheVariants.{Empty, Token, Node, Chain, Wrap}
use Rattle.rowan_predictive.specs.declared.rules.Rule.TheVariants.{Seq, Choice, Optional, Star}
use Rattle.rowan_predictive.specs.declared.rules.Move.{Move}
use Rattle.rowan_predictive.specs.declared.rules.Move.TheVariants.{Take, Enter, Begin, Surround}
use Rattle.rowan_predictive.specs.declared.rules.Move.TheVariants.{Both, Become, Pass}
use Rattle.rowan_predictive.specs.declared.rules.Item.{Item}
use Rattle.rowan_predictive.specs.declared.rules.Item.TheVariants.{Want, End, Leave}
use Rattle.rowan_predictive.specs.declared.rules.Action.{Action}
use Rattle.rowan_predictive.specs.declared.rules.Action.TheVariants.{Open, Mark, Around, Close}
use Rattle.rowan_predictive.specs.declared.rules.Action.TheVariants.{Done}
use Rattle.rowan_predictive.specs.declared.rules.Action.TheVariants as action
use Rattle.rowan_predictive.specs.declared.rules.Entry.{Entry}

-- what rule i, of this rule, allows where it is expected
abbrev pub Allows : ℕ → Rule → Move → Type 0
Allows i Empty m = m ≡ Pass
Allows i (Token kind) m = m ≡ Take kind
Allows i (Node kind a) m = m ≡ Enter kind a
Allows i (Chain a) m = m ≡ Begin a
Allows i (Wrap kind a) m = m ≡ Surround kind a
Allows i (Seq a b) m = m ≡ Both a b
Allows i (Choice a b) m = (m ≡ Become a) ⊎ (m ≡ Become b)
Allows i (Optional a) m = (m ≡ Become a) ⊎ (m ≡ Pass)
Allows i (Star a) m = (m ≡ Both a i) ⊎ (m ≡ Pass)

abbrev pub AllowsAt : ℕ → Option Entry → Move → Type 0
AllowsAt i None m = ⊥
AllowsAt i (Some entry) m = Allows i entry.rule m

-- what follows a move, where S says what the stack behind it derives
abbrev pub After : (List Item → List ℕ → List Action → Type 0)
    → Move → List Item → List ℕ → List Action → Type 0
After S (Take kind) stack tokens actions =
    (us : List ℕ) × (fs : List Action)
    × (tokens ≡ kind ∷ us) × (actions ≡ action.Token ∷ fs) × S stack us fs
After S (Enter kind a) stack tokens actions =
    (fs : List Action) × (actions ≡ Open kind ∷ fs) × S (Want a ∷ End ∷ stack) tokens fs
After S (Begin a) stack tokens actions =
    (fs : List Action) × (actions ≡ Mark ∷ fs) × S (Want a ∷ Leave ∷ stack) tokens fs
After S (Surround kind a) stack tokens actions =
    (fs : List Action) × (actions ≡ Around kind ∷ fs) × S (Want a ∷ End ∷ stack) tokens fs
After S (Both a b) stack tokens actions = S (Want a ∷ Want b ∷ stack) tokens actions
After S (Become a) stack tokens actions = S (Want a ∷ stack) tokens actions
After S Pass stack tokens actions = S stack tokens actions

-- A stack of what is expected, the next first, derives these tokens by these actions, in n steps.
abbrev pub Derives : List Entry → ℕ → List Item → List ℕ → List Action → Type 0
Derives entries zero stack tokens actions = (stack ≡ []) × (tokens ≡ []) × (actions ≡ [])
Derives entries (suc n) [] tokens actions = ⊥
Derives entries (suc n) (End ∷ stack) tokens actions =
    (fs : List Action) × (actions ≡ Close ∷ fs) × Derives entries n stack tokens fs
Derives entries (suc n) (Leave ∷ stack) tokens actions =
    (fs : List Action) × (actions ≡ Done ∷ fs) × Derives entries n stack tokens fs
Derives entries (suc n) (Want i ∷ stack) tokens actions =
    (m : Move) × AllowsAt i (slice_get entries i) m
    × After (Derives entries n) m stack tokens actions
