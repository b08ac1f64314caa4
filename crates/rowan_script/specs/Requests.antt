-- What a rewriting asks a builder's cache for, and the tokens and the text that it adds.
use Rattle.std.specs.Prelude.{ℕ, List, [], ◌∷◌, ◌++◌}
use Rattle.std.specs.List.{flat_map}
use Rattle.rowan_green.specs.declared.utility_types.NodeOrToken.TheVariants.{Node as node_term}
use Rattle.rowan_green.specs.declared.utility_types.NodeOrToken.TheVariants.{Token as token_term}
use Rattle.rowan_green.specs.Term.{TokenTerm, Term}
use Rattle.rowan_green.specs.Word.{Symbol}
use Rattle.rowan_script.specs.declared.script.calls.Call.{Call}
use Rattle.rowan_script.specs.declared.script.calls.Call.TheVariants.{Token, StartNode, FinishNode, Mark}
use Rattle.rowan_script.specs.declared.script.calls.Call.TheVariants.{StartNodeAt, StartNodeAtCheckpoint}
use Rattle.rowan_script.specs.declared.script.calls.Outcome.{Outcome}
use Rattle.rowan_script.specs.declared.script.calls.Outcome.TheVariants.{Accepted, Marked, Refused}
use Rattle.rowan_script.specs.Rewriting.{token_of, Accepts, Gives, with_mark, InTurn, Rewrites}

-- ---- requests of the cache

-- the requests of an accepted call: the token that it adds, or the node that it closes
abbrev pub requests_if_accepted : (marks : List ℕ) (w : List Symbol) (call : Call) (v : List Symbol)
    → Accepts marks w call v → List Term
requests_if_accepted marks w (Token kind text) v added = token_term (token_of kind text) ∷ []
requests_if_accepted marks w (StartNode kind) v opened = []
requests_if_accepted marks w FinishNode v closed = node_term closed.0 ∷ []
requests_if_accepted marks w Mark v none = []
requests_if_accepted marks w (StartNodeAt mark kind) v wrapped = []
requests_if_accepted marks w (StartNodeAtCheckpoint c kind) v wrapped = []

-- the requests of a call with this outcome: one that is not accepted has none
abbrev pub requests_of : (marks : List ℕ) (w : List Symbol) (call : Call) (outcome : Outcome)
    (v : List Symbol) → Gives marks w call outcome v → List Term
requests_of marks w call Accepted v accepts = requests_if_accepted marks w call v accepts
requests_of marks w call (Marked c) v stays = []
requests_of marks w call (Refused fault) v stays = []

abbrev pub requests_in_turn : (marks : List ℕ) (w : List Symbol) (calls : List Call)
    (outcomes : List Outcome) (v : List Symbol) → InTurn marks w calls outcomes v → List Term
requests_in_turn marks w [] [] v run = []
requests_in_turn marks w (call ∷ calls) (outcome ∷ outcomes) v run =
    requests_of marks w call outcome run.0 run.1.gives
    ++ requests_in_turn (with_mark marks outcome) run.0 calls outcomes v run.2
requests_in_turn marks w [] (outcome ∷ outcomes) v run = []
requests_in_turn marks w (call ∷ calls) [] v run = []

-- the terms that the calls ask the cache for, in order: the accepted tokens and the finished nodes
abbrev pub stream : {w v : List Symbol} {calls : List Call} {outcomes : List Outcome}
    → Rewrites w calls outcomes v → List Term
stream {w} {v} {calls} {outcomes} r = requests_in_turn [] w calls outcomes v r.in_turn

-- ---- what is added

abbrev pub added_tokens : Call → Outcome → List TokenTerm
added_tokens (Token kind text) Accepted = token_of kind text ∷ []
added_tokens call outcome = []

-- the accepted tokens, in order
abbrev pub accepted_tokens : List Call → List Outcome → List TokenTerm
accepted_tokens (call ∷ calls) (outcome ∷ outcomes) =
    added_tokens call outcome ++ accepted_tokens calls outcomes
accepted_tokens calls outcomes = []

-- the texts of the accepted tokens, one after the other
abbrev pub accepted_text : List Call → List Outcome → List ℕ
accepted_text calls outcomes = flat_map (λ t. t.text) (accepted_tokens calls outcomes)
