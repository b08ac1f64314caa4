-- Laws of runs: what calls make of the word, of its tokens and its text, and of the cache.
use Rattle.std.proofs.Common.{◌≡◌, ℕ, List, [], ◌∷◌, ◌++◌, Ok, Some, refl, sym, ◌∙◌, ap, subst}
use Rattle.std.proofs.Common.{append_assoc}
use Rattle.std.proofs.lemmas.Grind.{fold-append, flat_map-append}
use Rattle.std.proofs.lemmas.List.{append-nil}
use Rattle.std.specs.List.{flat_map}
use Rattle.rowan_green.specs.declared.fault.Fault.{Fault}
use Rattle.rowan_green.specs.declared.utility_types.NodeOrToken.TheVariants.{Node as node_term}
use Rattle.rowan_green.specs.declared.utility_types.NodeOrToken.TheVariants.{Token as token_term}
use Rattle.rowan_builder.specs.Builder.{BuilderValue}
use Rattle.rowan_builder.specs.Cache.{CacheValue, intern}
use Rattle.rowan_terms.specs.Path.{tokens}
use Rattle.rowan_builder.specs.Stream.{intern_all, BuildsOn}
use Rattle.rowan_green.specs.Term.{TokenTerm, NodeTerm, Term}
use Rattle.rowan_green.specs.Word.{Symbol, Open, Leaf, Close, IsFinished, word_text, word_tokens}
use Rattle.rowan_terms.proofs.LeafLaws.{word_text-tokens, tokens-leaf, tokens-open, tokens-closes}
use Rattle.rowan_terms.proofs.LeafLaws.{tokens-wrap, tokens-finished}
use Rattle.rowan_builder.proofs.StreamLemmas.{BuildsOn-same, BuildsOn-trans, BuildsOn-adds}
use Rattle.rowan_builder.proofs.StreamLemmas.{BuildsOn-opens, BuildsOn-finishes, BuildsOn-wraps}
use Rattle.rowan_script.specs.declared.script.calls.Call.{Call}
use Rattle.rowan_script.specs.declared.script.calls.Call.TheVariants.{Token, StartNode, FinishNode, Mark}
use Rattle.rowan_script.specs.declared.script.calls.Call.TheVariants.{StartNodeAt, StartNodeAtCheckpoint}
use Rattle.rowan_script.specs.declared.script.calls.Outcome.{Outcome}
use Rattle.rowan_script.specs.declared.script.calls.Outcome.TheVariants.{Accepted, Marked, Refused}
use Rattle.rowan_script.specs.Rewriting.{token_of, Accepts, Gives, with_mark, InTurn, Rewrites}
use Rattle.rowan_script.specs.Requests.{requests_if_accepted, requests_of, requests_in_turn, added_tokens}
use Rattle.rowan_script.specs.Requests.{accepted_tokens, accepted_text}
use Rattle.rowan_script.specs.Run.{Run}
use Rattle.rowan_script.proofs.Exact.{Closes-unique, Wraps-unique}

-- ---- the word

word-accepted : (marks : List ℕ) (w w' : List Symbol) (call : Call) (v v' : List Symbol) → w ≡ w'
    → Accepts marks w call v → Accepts marks w' call v' → v ≡ v'
word-accepted marks w w' (Token kind text) v v' same a a' = a
    ∙ ap (λ u. u ++ Leaf (token_of kind text) ∷ []) same ∙ sym a'
word-accepted marks w w' (StartNode kind) v v' same a a' = a ∙ ap (λ u. u ++ Open kind.0 ∷ []) same
    ∙ sym a'
word-accepted marks w w' FinishNode v v' same a a' = a.1.closed ∙ ap (λ u. u ++ Close ∷ []) same
    ∙ sym a'.1.closed
word-accepted marks w w' Mark v v' same a a' = absurd a
word-accepted marks w w' (StartNodeAt mark kind) v v' same a a' =
    let found : Some a.0 ≡ Some a'.0 = sym a.1 ∙ a'.1 in
    let at : a.0 ≡ a'.0 = cc in
    Wraps-unique w w' v v' a.0 a'.0 kind.0 same at a.2 a'.2
word-accepted marks w w' (StartNodeAtCheckpoint c kind) v v' same a a' = Wraps-unique w w' v v' c c
    kind.0 same refl a a'

word-step : (marks : List ℕ) (w w' : List Symbol) (call : Call) (outcome : Outcome)
    (v v' : List Symbol) → w ≡ w' → Gives marks w call outcome v → Gives marks w' call outcome v'
    → v ≡ v'
word-step marks w w' call Accepted v v' same g g' = word-accepted marks w w' call v v' same g g'
word-step marks w w' call (Marked c) v v' same g g' = g.2 ∙ same ∙ sym g'.2
word-step marks w w' call (Refused fault) v v' same g g' = g.1 ∙ same ∙ sym g'.1

pub word-turns : (calls : List Call) (outcomes : List Outcome) (marks : List ℕ)
    (w w' v v' : List Symbol) → w ≡ w' → InTurn marks w calls outcomes v
    → InTurn marks w' calls outcomes v' → v ≡ v'
word-turns [] [] marks w w' v v' same run run' = run ∙ same ∙ sym run'
word-turns [] (outcome ∷ outcomes) marks w w' v v' same run run' = absurd run
word-turns (call ∷ calls) [] marks w w' v v' same run run' = absurd run
word-turns (call ∷ calls) (outcome ∷ outcomes) marks w w' v v' same run run' =
    word-turns calls outcomes (with_mark marks outcome) run.0 run'.0 v v' (word-step marks w w' call
    outcome run.0 run'.0 same run.1.gives run'.1.gives) run.2 run'.2

-- ---- what is asked of the cache

intern-accepted : (marks : List ℕ) (w w' : List Symbol) (call : Call) (v v' : List Symbol)
    (a : Accepts marks w call v) (a' : Accepts marks w' call v') → w ≡ w'
    → requests_if_accepted marks w call v a ≡ requests_if_accepted marks w' call v' a'
intern-accepted marks w w' (Token kind text) v v' a a' same = refl
intern-accepted marks w w' (StartNode kind) v v' a a' same = refl
intern-accepted marks w w' FinishNode v v' a a' same = ap (λ n. node_term n ∷ [])
    (Closes-unique w w' v v' a.0 a'.0 same a.1 a'.1)
intern-accepted marks w w' Mark v v' a a' same = refl
intern-accepted marks w w' (StartNodeAt mark kind) v v' a a' same = refl
intern-accepted marks w w' (StartNodeAtCheckpoint c kind) v v' a a' same = refl

intern-step : (marks : List ℕ) (w w' : List Symbol) (call : Call) (outcome : Outcome)
    (v v' : List Symbol) (g : Gives marks w call outcome v) (g' : Gives marks w' call outcome v')
    → w ≡ w' → requests_of marks w call outcome v g ≡ requests_of marks w' call outcome v' g'
intern-step marks w w' call Accepted v v' g g' same = intern-accepted marks w w' call v v' g g' same
intern-step marks w w' call (Marked c) v v' g g' same = refl
intern-step marks w w' call (Refused fault) v v' g g' same = refl

pub intern-turns : (calls : List Call) (outcomes : List Outcome) (marks : List ℕ)
    (w w' v v' : List Symbol) (run : InTurn marks w calls outcomes v) (run' : InTurn marks w' calls
    outcomes v') → w ≡ w' → requests_in_turn marks w calls outcomes v run ≡ requests_in_turn marks
    w' calls outcomes v' run'
intern-turns [] [] marks w w' v v' run run' same = refl
intern-turns [] (outcome ∷ outcomes) marks w w' v v' run run' same = absurd run
intern-turns (call ∷ calls) [] marks w w' v v' run run' same = absurd run
intern-turns (call ∷ calls) (outcome ∷ outcomes) marks w w' v v' run run' same =
    let rest = requests_in_turn (with_mark marks outcome) run.0 calls outcomes v run.2 in
    ap (λ ts. ts ++ rest) (intern-step marks w w' call outcome run.0 run'.0 run.1.gives run'.1.gives
    same)
    ∙ ap (λ ts. requests_of marks w' call outcome run'.0 run'.1.gives ++ ts) (intern-turns calls
    outcomes (with_mark marks outcome) run.0 run'.0 v v' run.2 run'.2 (word-step marks w w' call
    outcome run.0 run'.0 same run.1.gives run'.1.gives))

-- ---- the tokens

tokens-accepted : (marks : List ℕ) (w : List Symbol) (call : Call) (v : List Symbol)
    → Accepts marks w call v → word_tokens v ≡ word_tokens w ++ added_tokens call Accepted
tokens-accepted marks w (Token kind text) v a = tokens-leaf w v (token_of kind text) a
tokens-accepted marks w (StartNode kind) v a = tokens-open w v kind.0 a
    ∙ sym (append-nil (word_tokens w))
tokens-accepted marks w FinishNode v a = tokens-closes w v a.1 ∙ sym (append-nil (word_tokens w))
tokens-accepted marks w Mark v a = absurd a
tokens-accepted marks w (StartNodeAt mark kind) v a = tokens-wrap w v a.0 kind.0 a.2
    ∙ sym (append-nil (word_tokens w))
tokens-accepted marks w (StartNodeAtCheckpoint c kind) v a = tokens-wrap w v c kind.0 a
    ∙ sym (append-nil (word_tokens w))

-- a call that was not accepted adds nothing
added-other : (call : Call) (outcome : Outcome) → (outcome ≡ Accepted → ⊥)
    → added_tokens call outcome ≡ []
added-other (Token kind text) Accepted other = absurd (other refl)
added-other (Token kind text) (Marked c) other = refl
added-other (Token kind text) (Refused fault) other = refl
added-other (StartNode kind) outcome other = refl
added-other FinishNode outcome other = refl
added-other Mark outcome other = refl
added-other (StartNodeAt mark kind) outcome other = refl
added-other (StartNodeAtCheckpoint c kind) outcome other = refl

tokens-stay : (w v : List Symbol) (call : Call) (outcome : Outcome) → v ≡ w
    → (outcome ≡ Accepted → ⊥) → word_tokens v ≡ word_tokens w ++ added_tokens call outcome
tokens-stay w v call outcome stays other =
    ap word_tokens stays ∙ sym (append-nil (word_tokens w))
    ∙ ap (λ ts. word_tokens w ++ ts) (sym (added-other call outcome other))

tokens-step : (marks : List ℕ) (w : List Symbol) (call : Call) (outcome : Outcome) (v : List Symbol)
    → Gives marks w call outcome v → word_tokens v ≡ word_tokens w ++ added_tokens call outcome
tokens-step marks w call Accepted v g = tokens-accepted marks w call v g
tokens-step marks w call (Marked c) v g = tokens-stay w v call (Marked c) g.2 (λ e. cc)
tokens-step marks w call (Refused fault) v g = tokens-stay w v call (Refused fault) g.1 (λ e. cc)

tokens-turns : (calls : List Call) (outcomes : List Outcome) (marks : List ℕ) (w v : List Symbol)
    → InTurn marks w calls outcomes v
    → word_tokens v ≡ word_tokens w ++ accepted_tokens calls outcomes
tokens-turns [] [] marks w v run = ap word_tokens run ∙ sym (append-nil (word_tokens w))
tokens-turns [] (outcome ∷ outcomes) marks w v run = absurd run
tokens-turns (call ∷ calls) [] marks w v run = absurd run
tokens-turns (call ∷ calls) (outcome ∷ outcomes) marks w v run =
    tokens-turns calls outcomes (with_mark marks outcome) run.0 v run.2
    ∙ ap (λ ts. ts ++ accepted_tokens calls outcomes) (tokens-step marks w call outcome run.0
    run.1.gives)
    ∙ append_assoc (word_tokens w) (added_tokens call outcome) (accepted_tokens calls outcomes)

pub tokens-rewritten : (w v : List Symbol) (calls : List Call) (outcomes : List Outcome)
    → Rewrites w calls outcomes v → word_tokens v ≡ word_tokens w ++ accepted_tokens calls outcomes
tokens-rewritten w v calls outcomes r = tokens-turns calls outcomes [] w v r.in_turn

pub tokens-tree : (w : List Symbol) (calls : List Call) (outcomes : List Outcome) (n : NodeTerm)
    → Rewrites [] calls outcomes w → IsFinished w n
    → tokens (node_term n) ≡ accepted_tokens calls outcomes
tokens-tree w calls outcomes n r h = sym (tokens-finished w n h)
    ∙ tokens-rewritten [] w calls outcomes r

-- ---- the text

pub text-rewritten : (w v : List Symbol) (calls : List Call) (outcomes : List Outcome)
    → Rewrites w calls outcomes v → word_text v ≡ word_text w ++ accepted_text calls outcomes
text-rewritten w v calls outcomes r =
    let text = λ (ts : List TokenTerm). flat_map (λ t. t.text) ts in
    word_text-tokens v ∙ ap text (tokens-rewritten w v calls outcomes r)
    ∙ flat_map-append (λ t. t.text) (word_tokens w) (accepted_tokens calls outcomes)
    ∙ ap (λ bs. bs ++ accepted_text calls outcomes) (sym (word_text-tokens w))

-- ---- what is left in the cache

-- the value of a builder that came to this word and asked its cache for these terms meanwhile
abbrev arrived : CacheValue → List Symbol → List Term → BuilderValue
arrived cache v ts = record { word = v; cache = intern_all cache ts }

builds-accepted : (marks : List ℕ) (old : BuilderValue) (call : Call) (v : List Symbol)
    (a : Accepts marks old.word call v)
    → BuildsOn old (arrived old.cache v (requests_if_accepted marks old.word call v a))
builds-accepted marks old (Token kind text) v a =
    BuildsOn-adds {E = Fault} old (arrived old.cache v (token_term (token_of kind text) ∷ []))
    (Ok tt) (token_of kind text)
    (ap (λ u. arrived old.cache u (token_term (token_of kind text) ∷ [])) a) tt
builds-accepted marks old (StartNode kind) v a =
    BuildsOn-opens {E = Fault} old (arrived old.cache v []) (Ok tt) kind.0
    (ap (λ u. arrived old.cache u []) a) tt
builds-accepted marks old FinishNode v a =
    BuildsOn-finishes {E = Fault} old (arrived old.cache v (node_term a.0 ∷ [])) (Ok tt)
    (record { node = a.0; closes = a.1; interns = refl }) tt
builds-accepted marks old Mark v a = absurd a
builds-accepted marks old (StartNodeAt mark kind) v a =
    BuildsOn-wraps {E = Fault} old (arrived old.cache v []) (Ok tt) a.0 kind.0
    (record { wraps = a.2; same_cache = refl }) tt
builds-accepted marks old (StartNodeAtCheckpoint c kind) v a =
    BuildsOn-wraps {E = Fault} old (arrived old.cache v []) (Ok tt) c kind.0
    (record { wraps = a; same_cache = refl }) tt

builds-step : (marks : List ℕ) (old : BuilderValue) (call : Call) (outcome : Outcome)
    (v : List Symbol) (g : Gives marks old.word call outcome v)
    → BuildsOn old (arrived old.cache v (requests_of marks old.word call outcome v g))
builds-step marks old call Accepted v g = builds-accepted marks old call v g
builds-step marks old call (Marked c) v g = BuildsOn-same old (arrived old.cache v [])
    (ap (λ u. arrived old.cache u []) g.2)
builds-step marks old call (Refused fault) v g = BuildsOn-same old (arrived old.cache v [])
    (ap (λ u. arrived old.cache u []) g.1)

builds-turns : (calls : List Call) (outcomes : List Outcome) (marks : List ℕ) (old : BuilderValue)
    (v : List Symbol) (run : InTurn marks old.word calls outcomes v)
    → BuildsOn old (arrived old.cache v (requests_in_turn marks old.word calls outcomes v run))
builds-turns [] [] marks old v run = BuildsOn-same old (arrived old.cache v [])
    (ap (λ u. arrived old.cache u []) run)
builds-turns [] (outcome ∷ outcomes) marks old v run = absurd run
builds-turns (call ∷ calls) [] marks old v run = absurd run
builds-turns (call ∷ calls) (outcome ∷ outcomes) marks old v run =
    let here = requests_of marks old.word call outcome run.0 run.1.gives in
    let next = arrived old.cache run.0 here in
    let rest = requests_in_turn (with_mark marks outcome) run.0 calls outcomes v run.2 in
    let whole = BuildsOn-trans old next (arrived next.cache v rest) (builds-step marks old call
    outcome run.0 run.1.gives) (builds-turns calls outcomes (with_mark marks outcome) next v
    run.2) in
    subst (λ cache. BuildsOn old (record { word = v; cache = cache }))
    (sym (fold-append intern old.cache here rest)) whole

-- a run is calls of the builder
pub builds-run : (old new : BuilderValue) (calls : List Call) (outcomes : List Outcome)
    → Run old calls outcomes new → BuildsOn old new
builds-run old new calls outcomes run =
    subst (λ cache. BuildsOn old (record { word = new.word; cache = cache })) (sym run.interns)
    (builds-turns calls outcomes [] old new.word run.words.in_turn)
