-- Rewritings: what a list of calls does to a word, one outcome a call.
--     A call is accepted, and then the word changes as the call says; or it took a checkpoint, or
--     was refused, and then the word stays.
-- The checkpoints that were taken are the marks, numbered from 0 in the order of the calls.
use Rattle.std.specs.Prelude.{◌≡◌, ℕ, ◌<◌, List, [], ◌∷◌, ◌++◌, length, Option, Some, None, String}
use Rattle.std.specs.Prelude.{string_bytes}
use Rattle.std.specs.List.{slice_get}
use Rattle.std.specs.declared.alloc.Global.{Global}
use Rattle.rowan_green.specs.declared.fault.Fault.{Fault}
use Rattle.rowan_green.specs.declared.fault.Fault.TheVariants.{TextTooLong, CheckpointPast}
use Rattle.rowan_green.specs.declared.fault.Fault.TheVariants.{CheckpointBefore, NothingOpen}
use Rattle.rowan_green.specs.declared.fault.Fault.TheVariants.{Memory, UnknownMark}
use Rattle.rowan_green.specs.declared.green.SyntaxKind.{SyntaxKind}
use Rattle.rowan_green.specs.Fits.{byte_limit}
use Rattle.rowan_green.specs.Term.{TokenTerm, NodeTerm}
use Rattle.rowan_green.specs.Word.{Symbol, Open, Leaf, Closes, Wraps, HasCount, WhyNoToken}
use Rattle.rowan_green.specs.Word.{HasNoneOpen, WhyNotClosed, IsPast, IsBeforeOpening}
use Rattle.rowan_green.specs.Word.{WhyNotWrapped}
use Rattle.rowan_script.specs.declared.script.calls.Call.{Call}
use Rattle.rowan_script.specs.declared.script.calls.Call.TheVariants.{Token, StartNode, FinishNode, Mark}
use Rattle.rowan_script.specs.declared.script.calls.Call.TheVariants.{StartNodeAt, StartNodeAtCheckpoint}
use Rattle.rowan_script.specs.declared.script.calls.Outcome.{Outcome}
use Rattle.rowan_script.specs.declared.script.calls.Outcome.TheVariants.{Accepted, Marked, Refused}

-- ---- one call, where these marks were taken before

-- the token of a call
abbrev pub token_of : SyntaxKind → String Global → TokenTerm
token_of kind text = record { kind = kind.0; text = string_bytes text }

-- what an accepted call does
abbrev pub Accepts : List ℕ → List Symbol → Call → List Symbol → Type 0
Accepts marks w (Token kind text) v = v ≡ w ++ Leaf (token_of kind text) ∷ []
Accepts marks w (StartNode kind) v = v ≡ w ++ Open kind.0 ∷ []
Accepts marks w FinishNode v = (n : NodeTerm) × Closes w n v
Accepts marks w Mark v = ⊥
Accepts marks w (StartNodeAt mark kind) v =
    (c : ℕ) × (slice_get marks mark ≡ Some c) × Wraps w c kind.0 v
Accepts marks w (StartNodeAtCheckpoint c kind) v = Wraps w c kind.0 v

-- why a wrap at a mark is refused, by what stands at its number
abbrev pub WhyNotWrappedAt : List Symbol → Option ℕ → Fault → Type 0
WhyNotWrappedAt w None fault = fault ≡ UnknownMark
WhyNotWrappedAt w (Some c) fault = WhyNotWrapped w c fault

-- why a call is refused
abbrev pub WhyRefused : List ℕ → List Symbol → Call → Fault → Type 0
WhyRefused marks w (Token kind text) fault = WhyNoToken (string_bytes text) fault
WhyRefused marks w (StartNode kind) fault = fault ≡ Memory
WhyRefused marks w FinishNode fault = WhyNotClosed w fault
WhyRefused marks w Mark fault = ⊥
WhyRefused marks w (StartNodeAt mark kind) fault = WhyNotWrappedAt w (slice_get marks mark) fault
WhyRefused marks w (StartNodeAtCheckpoint c kind) fault = WhyNotWrapped w c fault

-- what the word is after a call with this outcome
abbrev pub Gives : List ℕ → List Symbol → Call → Outcome → List Symbol → Type 0
Gives marks w call Accepted v = Accepts marks w call v
Gives marks w call (Marked c) v = (call ≡ Mark) × HasCount w c × (v ≡ w)
Gives marks w call (Refused fault) v = WhyRefused marks w call fault × (v ≡ w)

-- the place of a wrap is looked at before memory is asked for
abbrev pub PlacePrecedes : List Symbol → ℕ → Outcome → Type 0
PlacePrecedes w c outcome =
    (IsPast w c → outcome ≡ Refused CheckpointPast)
    × (IsBeforeOpening w c → outcome ≡ Refused CheckpointBefore)

abbrev pub MarkPrecedes : List Symbol → Option ℕ → Outcome → Type 0
MarkPrecedes w None outcome = outcome ≡ Refused UnknownMark
MarkPrecedes w (Some c) outcome = PlacePrecedes w c outcome

-- a cause that is looked at before memory is asked for decides the outcome
abbrev pub Precedes : List ℕ → List Symbol → Call → Outcome → Type 0
Precedes marks w (Token kind text) outcome =
    byte_limit < length (string_bytes text) → outcome ≡ Refused TextTooLong
Precedes marks w (StartNode kind) outcome = Unit {0}
Precedes marks w FinishNode outcome = HasNoneOpen w → outcome ≡ Refused NothingOpen
Precedes marks w Mark outcome = Unit {0}
Precedes marks w (StartNodeAt mark kind) outcome = MarkPrecedes w (slice_get marks mark) outcome
Precedes marks w (StartNodeAtCheckpoint c kind) outcome = PlacePrecedes w c outcome

-- one call from a word to the next
pub record Performs (marks : List ℕ) (w : List Symbol) (call : Call) (outcome : Outcome)
    (v : List Symbol) : Type 0 where
  pub gives : Gives marks w call outcome v
  pub precedes : Precedes marks w call outcome

-- ---- one call after the other

-- the marks after a call with this outcome
abbrev pub with_mark : List ℕ → Outcome → List ℕ
with_mark marks Accepted = marks
with_mark marks (Marked c) = marks ++ c ∷ []
with_mark marks (Refused fault) = marks

abbrev pub InTurn : List ℕ → List Symbol → List Call → List Outcome → List Symbol → Type 0
InTurn marks w [] [] v = v ≡ w
InTurn marks w (call ∷ calls) (outcome ∷ outcomes) v =
    (next : List Symbol) × Performs marks w call outcome next
    × InTurn (with_mark marks outcome) next calls outcomes v
InTurn marks w [] (outcome ∷ outcomes) v = ⊥
InTurn marks w (call ∷ calls) [] v = ⊥

-- the calls, with one outcome each, go from one word to another; no mark was taken before
pub record Rewrites (w : List Symbol) (calls : List Call) (outcomes : List Outcome)
    (v : List Symbol) : Type 0 where
  pub in_turn : InTurn [] w calls outcomes v
