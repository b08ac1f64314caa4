-- What the machine does where a rule is expected, by the next token alone.
use Rattle.std.specs.Prelude.{ℕ, ◌==◌, Bool, true, false, if◌then◌else◌, List, Option, Some, None}
use Rattle.std.specs.Prelude.{slice_get}
use Rattle.rowan_events.specs.Seen.{has}
use Rattle.rowan_predictive.specs.declared.rules.Rule.{Rule}
use Rattle.rowan_predictive.specs.declared.rules.Rule.TheVariants.{Empty, Token, Node, Chain, Wrap}
use Rattle.rowan_predictive.specs.declared.rules.Rule.TheVariants.{Seq, Choice, Optional, Star}
use Rattle.rowan_predictive.specs.declared.rules.Move.{Move}
use Rattle.rowan_predictive.specs.declared.rules.Move.TheVariants.{Take, Enter, Begin, Surround}
use Rattle.rowan_predictive.specs.declared.rules.Move.TheVariants.{Both, Become, Pass}
use Rattle.rowan_predictive.specs.declared.rules.Item.{Item}
use Rattle.rowan_predictive.specs.declared.rules.Item.TheVariants.{Want, End, Leave}
use Rattle.rowan_predictive.specs.declared.rules.Entry.{Entry}
use Rattle.rowan_predictive.specs.Sets.{first_set, follow_set}

abbrev pub empty_of : Option Entry → Bool
empty_of None = false
empty_of (Some entry) = entry.facts.may_be_empty

abbrev pub may_be_empty : List Entry → ℕ → Bool
may_be_empty entries i = empty_of (slice_get entries i)

-- the next token is in the first set of a rule
abbrev pub is_begun : List Entry → ℕ → Option ℕ → Bool
is_begun entries i None = false
is_begun entries i (Some kind) = has (first_set entries i) kind

abbrev pub is_followed : List Entry → ℕ → Option ℕ → Bool
is_followed entries i None = false
is_followed entries i (Some kind) = has (follow_set entries i) kind

-- an item of the stack may go on with this token
abbrev pub awaits : List Entry → ℕ → Item → Bool
awaits entries kind End = false
awaits entries kind Leave = false
awaits entries kind (Want i) = has (first_set entries i) kind

abbrev pub take_if : ℕ → Option ℕ → Option Move
take_if kind None = None
take_if kind (Some there) = if there == kind then Some (Take kind) else None

-- a rule that may be empty is left where the next token may follow it, and at the end
abbrev pub may_pass : List Entry → ℕ → Option ℕ → Bool
may_pass entries i None = true
may_pass entries i (Some kind) = is_followed entries i (Some kind)

abbrev pub move_in : List Entry → ℕ → Option ℕ → Rule → Option Move
move_in entries i next Empty = Some Pass
move_in entries i next (Token kind) = take_if kind next
move_in entries i next (Node kind a) = Some (Enter kind a)
move_in entries i next (Chain a) = Some (Begin a)
move_in entries i next (Wrap kind a) = Some (Surround kind a)
move_in entries i next (Seq a b) = Some (Both a b)
move_in entries i next (Choice a b) =
    if is_begun entries a next then Some (Become a)
    else (if is_begun entries b next then Some (Become b)
    else (if may_be_empty entries a then Some (Become a)
    else (if may_be_empty entries b then Some (Become b) else None)))
move_in entries i next (Optional a) =
    if is_begun entries a next then Some (Become a)
    else (if may_pass entries i next then Some Pass else None)
move_in entries i next (Star a) =
    if is_begun entries a next then Some (Both a i)
    else (if may_pass entries i next then Some Pass else None)

abbrev pub move_at : List Entry → ℕ → Option ℕ → Option Entry → Option Move
move_at entries i next None = None
move_at entries i next (Some entry) = move_in entries i next entry.rule

abbrev pub move_of : List Entry → ℕ → Option ℕ → Option Move
move_of entries i next = move_at entries i next (slice_get entries i)
