-- The actions of a derivation make the forest of it.
use Rattle.std.proofs.Common.{◌≡◌, ℕ, Bool, true, false, cond, List, [], ◌∷◌, ◌++◌, refl, sym, ap, ap₂, ◌∙◌, append_assoc, append-nil}
use Rattle.rowan_parser.specs.Shape.{Forest, none, token_then, joined_then, node_then, joined, steps, word, Enter, Take, TakeAs, Exit}
use Rattle.rowan_events.specs.declared.event.Event.{Event}
use Rattle.rowan_events.specs.declared.event.Event.TheVariants as event
use Rattle.rowan_predictive.specs.declared.arranging.Pending.{Pending}
use Rattle.rowan_predictive.specs.declared.arranging.Pending.TheVariants as pending
use Rattle.rowan_predictive.specs.declared.rules.Action.{Action}
use Rattle.rowan_predictive.specs.declared.rules.Action.TheVariants.{Open, Mark, Around, Close, Done}
use Rattle.rowan_predictive.specs.declared.rules.Action.TheVariants as action
use Rattle.rowan_predictive.specs.declared.rules.Rule.{Rule}
use Rattle.rowan_predictive.specs.Arranging.{Arranged, opened, is_in_chain, chain_opened, around_opened, before, all_before, with_skipped, arranged}
use Rattle.rowan_predictive.specs.Derivations.{Parses}
use Rattle.rowan_predictive.specs.Derivations as parse
use Rattle.rowan_predictive.specs.Trees.{Makes, MakesForest, HasForest, HasActions}
use Rattle.rowan_predictive.specs.Trees as make

-- ---- the events of a forest

abbrev pub events_of : Forest → List Event
events_of none = []
events_of (token_then f) = event.Token ∷ events_of f
events_of (joined_then kind n f) = event.Joined (record { 0 = kind }) n ∷ events_of f
events_of (node_then kind inside f) =
    event.Open (record { 0 = kind }) 0 ∷ (events_of inside ++ event.Close ∷ events_of f)

events-joined : (f g : Forest) → events_of (joined f g) ≡ events_of f ++ events_of g
events-joined none g = refl
events-joined (token_then f) g = ap (λ (es : List Event). event.Token ∷ es) (events-joined f g)
events-joined (joined_then kind n f) g =
    ap (λ (es : List Event). event.Joined (record { 0 = kind }) n ∷ es) (events-joined f g)
events-joined (node_then kind inside f) g =
    ap (λ (es : List Event). event.Open (record { 0 = kind }) 0 ∷ (events_of inside ++ event.Close ∷ es)) (events-joined f g)
    ∙ ap (λ (es : List Event). event.Open (record { 0 = kind }) 0 ∷ es)
    (sym (append_assoc (events_of inside) (event.Close ∷ events_of f) (events_of g)))

steps-events : (f : Forest) (es : List Event) → steps (events_of f ++ es) ≡ word f ++ steps es
steps-events none es = refl
steps-events (token_then f) es = ap (λ ss. Take ∷ ss) (steps-events f es)
steps-events (joined_then kind n f) es = ap (λ ss. TakeAs kind n ∷ ss) (steps-events f es)
steps-events (node_then kind inside f) es =
    ap (λ ss. Enter kind ∷ ss) (ap steps (append_assoc (events_of inside) (event.Close ∷ events_of f) es)
    ∙ steps-events inside (event.Close ∷ (events_of f ++ es))
    ∙ ap (λ ss. word inside ++ Exit ∷ ss) (steps-events f es)
    ∙ sym (append_assoc (word inside) (Exit ∷ word f) (steps es)))

steps-forest : (f : Forest) → steps (events_of f) ≡ word f
steps-forest f = ap steps (sym (append-nil (events_of f))) ∙ steps-events f [] ∙ append-nil (word f)

-- ---- what actions do to what is behind them

-- nodes of these kinds begin, the last one first
abbrev opened_all : List ℕ → List Event → List Event
opened_all [] events = events
opened_all (kind ∷ kinds) events = opened_all kinds (opened kind events)

-- they are kept until the chain begins
abbrev arounds : List ℕ → List Pending → List Pending
arounds [] rest = rest
arounds (kind ∷ kinds) rest = pending.Around kind ∷ arounds kinds rest

opened_all-append : (kinds : List ℕ) (xs ys : List Event) → opened_all kinds (xs ++ ys) ≡ opened_all kinds xs ++ ys
opened_all-append [] xs ys = refl
opened_all-append (kind ∷ kinds) xs ys = opened_all-append kinds (opened kind xs) ys

opened_all-more : (ks ls : List ℕ) (es : List Event) → opened_all (ks ++ ls) es ≡ opened_all ls (opened_all ks es)
opened_all-more [] ls es = refl
opened_all-more (k ∷ ks) ls es = opened_all-more ks ls (opened k es)

arounds-more : (ks ls : List ℕ) (rest : List Pending) → arounds (ks ++ ls) rest ≡ arounds ks (arounds ls rest)
arounds-more [] ls rest = refl
arounds-more (k ∷ ks) ls rest = ap (λ (ps : List Pending). pending.Around k ∷ ps) (arounds-more ks ls rest)

chain-begins : (kinds : List ℕ) (rest : List Pending) (es : List Event)
    → chain_opened (arounds kinds (pending.Chain ∷ rest)) es
    ≡ record { events = opened_all kinds es; pending = rest; is_skipping = false }
chain-begins [] rest es = refl
chain-begins (kind ∷ kinds) rest es = chain-begins kinds rest (opened kind es)

in-chain : (kinds : List ℕ) (rest : List Pending) → is_in_chain rest ≡ true → is_in_chain (arounds kinds rest) ≡ true
in-chain [] rest e = e
in-chain (kind ∷ kinds) rest e = refl

abbrev at : List Event → List Pending → Arranged
at events rest = record { events = events; pending = rest; is_skipping = false }

all-more : (error : ℕ) (es fs : List Action) (a : Arranged)
    → all_before error (es ++ fs) a ≡ all_before error es (all_before error fs a)
all-more error [] fs a = refl
all-more error (e ∷ es) fs a = ap (before error e) (all-more error es fs a)

-- In a chain, or outside of one, these actions put these events before the others, and nodes of
-- these kinds around what stands before them in the chain.
record IsEffect (error : ℕ) (c : Bool) (es : List Action) (kinds : List ℕ) (behind : List Event) : Type 0 where
  plain : c ≡ false → kinds ≡ []
  effect : (events : List Event) (rest : List Pending) → is_in_chain rest ≡ c
      → all_before error es (at events rest) ≡ at (behind ++ events) (arounds kinds rest)

module _ (error : ℕ) where
  nothing-effect : (c : Bool) → IsEffect error c [] [] []
  nothing-effect c = record { plain = λ e. refl; effect = λ events rest e. refl }

  token-effect : (c : Bool) → IsEffect error c (action.Token ∷ []) [] (event.Token ∷ [])
  token-effect c = record { plain = λ e. refl; effect = λ events rest e. refl }

  -- what stands in a node
  inside-node : (es : List Action) (kinds : List ℕ) (behind : List Event) → IsEffect error false es kinds behind
      → (events : List Event) (rest : List Pending)
      → all_before error (es ++ (Close ∷ [])) (at events rest) ≡ at (behind ++ event.Close ∷ events) (pending.Node ∷ rest)
  inside-node es kinds behind inner events rest =
      all-more error es (Close ∷ []) (at events rest)
      ∙ inner.effect (event.Close ∷ events) (pending.Node ∷ rest) refl
      ∙ ap (λ (ks : List ℕ). at (behind ++ event.Close ∷ events) (arounds ks (pending.Node ∷ rest))) (inner.plain refl)

  node-effect : (c : Bool) (kind : ℕ) (es : List Action) (kinds : List ℕ) (behind : List Event) → IsEffect error false es kinds behind
      → IsEffect error c (Open kind ∷ (es ++ (Close ∷ []))) [] (opened kind (behind ++ event.Close ∷ []))
  node-effect c kind es kinds behind inner = record {
    plain = λ e. refl;
    effect = λ events rest e.
        ap (before error (Open kind)) (inside-node es kinds behind inner events rest)
        ∙ ap (λ (evs : List Event). at (opened kind evs) rest) (sym (append_assoc behind (event.Close ∷ []) events));
  }

  chain-effect : (c : Bool) (es : List Action) (kinds : List ℕ) (behind : List Event) → IsEffect error true es kinds behind
      → IsEffect error c (Mark ∷ (es ++ (Done ∷ []))) [] (opened_all kinds behind)
  chain-effect c es kinds behind inner = record {
    plain = λ e. refl;
    effect = λ events rest e.
        ap (before error Mark) (all-more error es (Done ∷ []) (at events rest)
        ∙ inner.effect events (pending.Chain ∷ rest) refl)
        ∙ chain-begins kinds rest (behind ++ events)
        ∙ ap (λ (evs : List Event). at evs rest) (opened_all-append kinds behind events);
  }

  around-in : (kind : ℕ) (rest : List Pending) (es : List Event) (c : Bool) → is_in_chain rest ≡ c
      → around_opened kind rest es
      ≡ cond c (at es (pending.Around kind ∷ rest)) (at (opened kind es) rest)
  around-in kind rest es c e =
      ap (λ (b : Bool). cond b (at es (pending.Around kind ∷ rest)) (at (opened kind es) rest)) e

  wrap-effect : (kind : ℕ) (es : List Action) (kinds : List ℕ) (behind : List Event) → IsEffect error false es kinds behind
      → IsEffect error true (Around kind ∷ (es ++ (Close ∷ []))) (kind ∷ []) (behind ++ event.Close ∷ [])
  wrap-effect kind es kinds behind inner = record {
    plain = λ e. absurd (cc);
    effect = λ events rest e.
        ap (before error (Around kind)) (inside-node es kinds behind inner events rest)
        ∙ around-in kind rest (behind ++ event.Close ∷ events) true e
        ∙ ap (λ (evs : List Event). at evs (pending.Around kind ∷ rest)) (sym (append_assoc behind (event.Close ∷ []) events));
  }

  outside-effect : (kind : ℕ) (es : List Action) (kinds : List ℕ) (behind : List Event) → IsEffect error false es kinds behind
      → IsEffect error false (Around kind ∷ (es ++ (Close ∷ []))) [] (opened kind (behind ++ event.Close ∷ []))
  outside-effect kind es kinds behind inner = record {
    plain = λ e. refl;
    effect = λ events rest e.
        ap (before error (Around kind)) (inside-node es kinds behind inner events rest)
        ∙ around-in kind rest (behind ++ event.Close ∷ events) false e
        ∙ ap (λ (evs : List Event). at (opened kind evs) rest) (sym (append_assoc behind (event.Close ∷ []) events));
  }

  still-in : (c : Bool) (kinds : List ℕ) (rest : List Pending) → (c ≡ false → kinds ≡ []) → is_in_chain rest ≡ c
      → is_in_chain (arounds kinds rest) ≡ c
  still-in true kinds rest plain e = in-chain kinds rest e
  still-in false kinds rest plain e = ap (λ (ks : List ℕ). is_in_chain (arounds ks rest)) (plain refl) ∙ e

  both-effect : (c : Bool) (es fs : List Action) (ks ls : List ℕ) (ps qs : List Event)
      → IsEffect error c es ks ps → IsEffect error c fs ls qs → IsEffect error c (es ++ fs) (ks ++ ls) (ps ++ qs)
  both-effect c es fs ks ls ps qs first second = record {
    plain = λ e. ap₂ (λ (x y : List ℕ). x ++ y) (first.plain e) (second.plain e);
    effect = λ events rest e.
        all-more error es fs (at events rest)
        ∙ ap (all_before error es) (second.effect events rest e)
        ∙ first.effect (qs ++ events) (arounds ls rest) (still-in c ls rest second.plain e)
        ∙ ap₂ (λ (evs : List Event) (rs : List Pending). at evs rs) (sym (append_assoc ps qs events)) (sym (arounds-more ks ls rest));
  }

-- ---- the forests

-- behind f stands g, by nodes of these kinds around f and these events behind it
abbrev Becomes : List ℕ → List Event → Forest → Forest → Type 0
Becomes kinds behind f g = events_of g ≡ opened_all kinds (events_of f ++ behind)

becomes-same : (f : Forest) → Becomes [] [] f f
becomes-same f = sym (append-nil (events_of f))

becomes-joined : (f g : Forest) (behind : List Event) → events_of g ≡ behind → Becomes [] behind f (joined f g)
becomes-joined f g behind e = events-joined f g ∙ ap (λ (es : List Event). events_of f ++ es) e

becomes-wrapped : (kind : ℕ) (f g : Forest) (behind : List Event) → events_of g ≡ behind
    → Becomes (kind ∷ []) (behind ++ event.Close ∷ []) f (node_then kind (joined f g) none)
becomes-wrapped kind f g behind e =
    ap (λ (es : List Event). opened kind (es ++ event.Close ∷ [])) (events-joined f g ∙ ap (λ (es : List Event). events_of f ++ es) e)
    ∙ ap (opened kind) (append_assoc (events_of f) behind (event.Close ∷ []))

becomes-both : (ks ls : List ℕ) (ps qs : List Event) (f g h : Forest) → Becomes ks ps f g → Becomes ls qs g h
    → Becomes (ks ++ ls) (ps ++ qs) f h
becomes-both ks ls ps qs f g h p q =
    q
    ∙ ap (λ (es : List Event). opened_all ls (es ++ qs)) p
    ∙ ap (opened_all ls) (sym (opened_all-append ks (events_of f ++ ps) qs))
    ∙ sym (opened_all-more ks ls ((events_of f ++ ps) ++ qs))
    ∙ ap (opened_all (ks ++ ls)) (append_assoc (events_of f) ps qs)

-- behind nothing stands what was made
alone : (kinds : List ℕ) (behind : List Event) (g : Forest) → kinds ≡ [] → Becomes kinds behind none g → events_of g ≡ behind
alone kinds behind g e is = is ∙ ap (λ (ks : List ℕ). opened_all ks behind) e

-- ---- from actions to forests

record Made (rules : List Rule) (error : ℕ) (c : Bool) (i : ℕ) (ts : List ℕ) (es : List Action) : Type 0 where
  kinds : List ℕ
  behind : List Event
  does : IsEffect error c es kinds behind
  makes : (f : Forest) → (g : Forest) × Makes rules c i f ts g × Becomes kinds behind f g

module _ (rules : List Rule) (error : ℕ) where
  none-made : (c : Bool) (i : ℕ) → ((f : Forest) → Makes rules c i f [] f) → Made rules error c i [] []
  none-made c i makes = record {
    kinds = [];
    behind = [];
    does = nothing-effect error c;
    makes = λ f. (f, makes f, becomes-same f);
  }

  same-made : (c : Bool) (i a : ℕ) (ts : List ℕ) (es : List Action) → Made rules error c a ts es
      → ((f g : Forest) → Makes rules c a f ts g → Makes rules c i f ts g) → Made rules error c i ts es
  same-made c i a ts es m lift = record {
    kinds = m.kinds;
    behind = m.behind;
    does = m.does;
    makes = λ f. let w = m.makes f in (w.0, lift f w.0 w.1, w.2);
  }

  both-made : (c : Bool) (i a b : ℕ) (ts us : List ℕ) (es fs : List Action) → Made rules error c a ts es → Made rules error c b us fs
      → ((f g h : Forest) → Makes rules c a f ts g → Makes rules c b g us h → Makes rules c i f (ts ++ us) h)
      → Made rules error c i (ts ++ us) (es ++ fs)
  both-made c i a b ts us es fs m n join = record {
    kinds = m.kinds ++ n.kinds;
    behind = m.behind ++ n.behind;
    does = both-effect error c es fs m.kinds n.kinds m.behind n.behind m.does n.does;
    makes = λ f.
        let w = m.makes f in
        let v = n.makes w.0 in
        (v.0, join f w.0 v.0 w.1 v.1, becomes-both m.kinds n.kinds m.behind n.behind f w.0 v.0 w.2 v.2);
  }

  node-made : (c : Bool) (i kind a : ℕ) (ts : List ℕ) (es : List Action) → Made rules error false a ts es
      → ((f g : Forest) → Makes rules false a none ts g → Makes rules c i f ts (joined f (node_then kind g none)))
      → Made rules error c i ts (Open kind ∷ (es ++ (Close ∷ [])))
  node-made c i kind a ts es m lift = record {
    kinds = [];
    behind = opened kind (m.behind ++ event.Close ∷ []);
    does = node-effect error c kind es m.kinds m.behind m.does;
    makes = λ f.
        let w = m.makes none in (
          joined f (node_then kind w.0 none),
          lift f w.0 w.1,
          becomes-joined f (node_then kind w.0 none)
              (opened kind (m.behind ++ event.Close ∷ []))
              (ap (λ (evs : List Event). opened kind (evs ++ event.Close ∷ [])) (alone m.kinds m.behind w.0 (m.does.plain refl) w.2)),
        );
  }

  chain-made : (c : Bool) (i a : ℕ) (ts : List ℕ) (es : List Action) → Made rules error true a ts es
      → ((f g : Forest) → Makes rules true a none ts g → Makes rules c i f ts (joined f g))
      → Made rules error c i ts (Mark ∷ (es ++ (Done ∷ [])))
  chain-made c i a ts es m lift = record {
    kinds = [];
    behind = opened_all m.kinds m.behind;
    does = chain-effect error c es m.kinds m.behind m.does;
    makes = λ f.
        let w = m.makes none in
        (joined f w.0, lift f w.0 w.1, becomes-joined f w.0 (opened_all m.kinds m.behind) w.2);
  }

  wrap-made : (c : Bool) (i kind a : ℕ) (ts : List ℕ) (es : List Action) → Made rules error false a ts es
      → ((f g : Forest) → Makes rules false a none ts g → Makes rules true i f ts (node_then kind (joined f g) none))
      → ((f g : Forest) → Makes rules false a none ts g → Makes rules false i f ts (joined f (node_then kind g none)))
      → Made rules error c i ts (Around kind ∷ (es ++ (Close ∷ [])))
  wrap-made true i kind a ts es m lift outside = record {
    kinds = kind ∷ [];
    behind = m.behind ++ event.Close ∷ [];
    does = wrap-effect error kind es m.kinds m.behind m.does;
    makes = λ f.
        let w = m.makes none in (
          node_then kind (joined f w.0) none,
          lift f w.0 w.1,
          becomes-wrapped kind f w.0 m.behind (alone m.kinds m.behind w.0 (m.does.plain refl) w.2),
        );
  }
  wrap-made false i kind a ts es m lift outside = record {
    kinds = [];
    behind = opened kind (m.behind ++ event.Close ∷ []);
    does = outside-effect error kind es m.kinds m.behind m.does;
    makes = λ f.
        let w = m.makes none in (
          joined f (node_then kind w.0 none),
          outside f w.0 w.1,
          becomes-joined f (node_then kind w.0 none)
              (opened kind (m.behind ++ event.Close ∷ []))
              (ap (λ (evs : List Event). opened kind (evs ++ event.Close ∷ [])) (alone m.kinds m.behind w.0 (m.does.plain refl) w.2)),
        );
  }

  token-made : (c : Bool) (i kind : ℕ) → ((f : Forest) → Makes rules c i f (kind ∷ []) (joined f (token_then none)))
      → Made rules error c i (kind ∷ []) (action.Token ∷ [])
  token-made c i kind makes = record {
    kinds = [];
    behind = event.Token ∷ [];
    does = token-effect error c;
    makes = λ f. (joined f (token_then none), makes f, becomes-joined f (token_then none) (event.Token ∷ []) refl);
  }

  made : (c : Bool) (i : ℕ) (ts : List ℕ) (es : List Action) → Parses rules i ts es → Made rules error c i ts es
  made c i _ _ (parse.empty is) = none-made c i (λ f. make.empty is)
  made c i _ _ (parse.token {kind = k} is) = token-made c i k (λ f. make.token is)
  made c i ts _ (parse.node {kind = k} {a = a} {es = es} is p) =
      node-made c i k a ts es (made false a ts es p) (λ f g m. make.node is m)
  made c i ts _ (parse.chain {a = a} {es = es} is p) =
      chain-made c i a ts es (made true a ts es p) (λ f g m. make.chain is m)
  made c i ts _ (parse.wrap {kind = k} {a = a} {es = es} is p) =
      wrap-made c i k a ts es (made false a ts es p) (λ f g m. make.wrap is m) (λ f g m. make.wrap_outside is m)
  made c i _ _ (parse.seq {a = a} {b = b} {ts = ts} {us = us} {es = es} {fs = fs} is p q) =
      both-made c i a b ts us es fs (made c a ts es p) (made c b us fs q) (λ f g h m n. make.seq is m n)
  made c i ts es (parse.left {a = a} b is p) = same-made c i a ts es (made c a ts es p) (λ f g m. make.left b is m)
  made c i ts es (parse.right {b = b} a is p) = same-made c i b ts es (made c b ts es p) (λ f g m. make.right a is m)
  made c i ts es (parse.present {a = a} is p) = same-made c i a ts es (made c a ts es p) (λ f g m. make.present is m)
  made c i _ _ (parse.absent a is) = none-made c i (λ f. make.absent a is)
  made c i _ _ (parse.more {a = a} {ts = ts} {us = us} {es = es} {fs = fs} is p q) =
      both-made c i a i ts us es fs (made c a ts es p) (made c i us fs q) (λ f g h m n. make.more is m n)
  made c i _ _ (parse.stop a is) = none-made c i (λ f. make.stop a is)

-- where no chain is open, all is arranged
arranged-by : (error : ℕ) (es : List Action) (kinds : List ℕ) (behind : List Event) → IsEffect error false es kinds behind
    → arranged error es ≡ behind
arranged-by error es kinds behind does =
    ap (with_skipped error) (does.effect [] [] refl) ∙ append-nil behind

spelled : (error : ℕ) (es : List Action) (kinds : List ℕ) (behind : List Event) (g : Forest) → IsEffect error false es kinds behind
    → Becomes kinds behind none g → steps (arranged error es) ≡ word g
spelled error es kinds behind g does is =
    ap steps (arranged-by error es kinds behind does ∙ sym (alone kinds behind g (does.plain refl) is)) ∙ steps-forest g

pub has-forest : (rules : List Rule) (error i : ℕ) (ts : List ℕ) (es : List Action) → Parses rules i ts es → HasForest rules error i ts es
has-forest rules error i ts es p =
    let m = made rules error false i ts es p in
    let w = m.makes none in
    record { forest = w.0; makes = w.1; spells = spelled error es m.kinds m.behind w.0 m.does w.2 }

-- ---- from forests to actions

record Undone (rules : List Rule) (error : ℕ) (c : Bool) (i : ℕ) (f : Forest) (ts : List ℕ) (g : Forest) : Type 0 where
  actions : List Action
  kinds : List ℕ
  behind : List Event
  does : IsEffect error c actions kinds behind
  parses : Parses rules i ts actions
  becomes : Becomes kinds behind f g

module _ (rules : List Rule) (error : ℕ) where
  nothing-done : (c : Bool) (i : ℕ) (f : Forest) → Parses rules i [] [] → Undone rules error c i f [] f
  nothing-done c i f p = record {
    actions = [];
    kinds = [];
    behind = [];
    does = nothing-effect error c;
    parses = p;
    becomes = becomes-same f;
  }

  same-done : (c : Bool) (i a : ℕ) (f : Forest) (ts : List ℕ) (g : Forest) → Undone rules error c a f ts g
      → ((es : List Action) → Parses rules a ts es → Parses rules i ts es) → Undone rules error c i f ts g
  same-done c i a f ts g d lift = record {
    actions = d.actions;
    kinds = d.kinds;
    behind = d.behind;
    does = d.does;
    parses = lift d.actions d.parses;
    becomes = d.becomes;
  }

  both-done : (c : Bool) (i a b : ℕ) (f g h : Forest) (ts us : List ℕ) → Undone rules error c a f ts g → Undone rules error c b g us h
      → ((es fs : List Action) → Parses rules a ts es → Parses rules b us fs → Parses rules i (ts ++ us) (es ++ fs))
      → Undone rules error c i f (ts ++ us) h
  both-done c i a b f g h ts us d e join = record {
    actions = d.actions ++ e.actions;
    kinds = d.kinds ++ e.kinds;
    behind = d.behind ++ e.behind;
    does = both-effect error c d.actions e.actions d.kinds e.kinds d.behind e.behind d.does e.does;
    parses = join d.actions e.actions d.parses e.parses;
    becomes = becomes-both d.kinds e.kinds d.behind e.behind f g h d.becomes e.becomes;
  }

  done : (c : Bool) (i : ℕ) (f : Forest) (ts : List ℕ) (g : Forest) → Makes rules c i f ts g → Undone rules error c i f ts g
  done c i f _ _ (make.empty is) = nothing-done c i f (parse.empty is)
  done c i f _ _ (make.token {kind = k} is) = record {
    actions = action.Token ∷ [];
    kinds = [];
    behind = event.Token ∷ [];
    does = token-effect error c;
    parses = parse.token is;
    becomes = becomes-joined f (token_then none) (event.Token ∷ []) refl;
  }
  done c i f ts _ (make.node {kind = k} {a = a} {g = g} is m) =
      let d = done false a none ts g m in
      record {
        actions = Open k ∷ (d.actions ++ (Close ∷ []));
        kinds = [];
        behind = opened k (d.behind ++ event.Close ∷ []);
        does = node-effect error c k d.actions d.kinds d.behind d.does;
        parses = parse.node is d.parses;
        becomes = becomes-joined f (node_then k g none) (opened k (d.behind ++ event.Close ∷ []))
            (ap (λ (evs : List Event). opened k (evs ++ event.Close ∷ [])) (alone d.kinds d.behind g (d.does.plain refl) d.becomes));
      }
  done c i f ts _ (make.chain {a = a} {g = g} is m) =
      let d = done true a none ts g m in
      record {
        actions = Mark ∷ (d.actions ++ (Done ∷ []));
        kinds = [];
        behind = opened_all d.kinds d.behind;
        does = chain-effect error c d.actions d.kinds d.behind d.does;
        parses = parse.chain is d.parses;
        becomes = becomes-joined f g (opened_all d.kinds d.behind) d.becomes;
      }
  done _ i f ts _ (make.wrap {kind = k} {a = a} {g = g} is m) =
      let d = done false a none ts g m in
      record {
        actions = Around k ∷ (d.actions ++ (Close ∷ []));
        kinds = k ∷ [];
        behind = d.behind ++ event.Close ∷ [];
        does = wrap-effect error k d.actions d.kinds d.behind d.does;
        parses = parse.wrap is d.parses;
        becomes = becomes-wrapped k f g d.behind (alone d.kinds d.behind g (d.does.plain refl) d.becomes);
      }
  done _ i f ts _ (make.wrap_outside {kind = k} {a = a} {g = g} is m) =
      let d = done false a none ts g m in
      record {
        actions = Around k ∷ (d.actions ++ (Close ∷ []));
        kinds = [];
        behind = opened k (d.behind ++ event.Close ∷ []);
        does = outside-effect error k d.actions d.kinds d.behind d.does;
        parses = parse.wrap is d.parses;
        becomes = becomes-joined f (node_then k g none) (opened k (d.behind ++ event.Close ∷ []))
            (ap (λ (evs : List Event). opened k (evs ++ event.Close ∷ [])) (alone d.kinds d.behind g (d.does.plain refl) d.becomes));
      }
  done c i f _ h (make.seq {a = a} {b = b} {g = g} {ts = ts} {us = us} is m n) =
      both-done c i a b f g h ts us (done c a f ts g m) (done c b g us h n) (λ es fs p q. parse.seq is p q)
  done c i f ts g (make.left {a = a} b is m) = same-done c i a f ts g (done c a f ts g m) (λ es p. parse.left b is p)
  done c i f ts g (make.right {b = b} a is m) = same-done c i b f ts g (done c b f ts g m) (λ es p. parse.right a is p)
  done c i f ts g (make.present {a = a} is m) = same-done c i a f ts g (done c a f ts g m) (λ es p. parse.present is p)
  done c i f _ _ (make.absent a is) = nothing-done c i f (parse.absent a is)
  done c i f _ h (make.more {a = a} {g = g} {ts = ts} {us = us} is m n) =
      both-done c i a i f g h ts us (done c a f ts g m) (done c i g us h n) (λ es fs p q. parse.more is p q)
  done c i f _ _ (make.stop a is) = nothing-done c i f (parse.stop a is)

pub has-actions : (rules : List Rule) (error i : ℕ) (ts : List ℕ) (f : Forest) → MakesForest rules i ts f → HasActions rules error i ts f
has-actions rules error i ts f m =
    let d = done rules error false i none ts f m in
    record { actions = d.actions; parses = d.parses; spells = spelled error d.actions d.kinds d.behind f d.does d.becomes }
