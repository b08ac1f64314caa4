-- What a rule derives is what a stack of it derives.
use Rattle.std.proofs.Common.{◌≡◌, ℕ, zero, suc, ◌+◌, ◌<◌, ◌≤◌, inl, inr, List, [], ◌∷◌, ◌++◌}
use Rattle.std.proofs.Common.{Option, Some, None, slice_get, refl, sym, ap, ◌∙◌, subst, append_assoc, arith}
use Rattle.std.proofs.lemmas.List.{append-nil}
use Rattle.rowan_predictive.specs.declared.rules.Rule.{Rule}
use Rattle.rowan_predictive.specs.declared.rules.Rule.TheVariants.{Empty, Token, Node, Chain, Wrap, Seq, Choice, Optional, Star}
use Rattle.rowan_predictive.specs.declared.rules.Move.{Move}
use Rattle.rowan_predictive.specs.declared.rules.Move.TheVariants.{Take, Enter, Begin, Surround, Both, Become, Pass}
use Rattle.rowan_predictive.specs.declared.rules.Item.{Item}
use Rattle.rowan_predictive.specs.declared.rules.Item.TheVariants.{Want, End, Leave}
use Rattle.rowan_predictive.specs.declared.rules.Action.{Action}
use Rattle.rowan_predictive.specs.declared.rules.Action.TheVariants.{Open, Mark, Around, Close, Done}
use Rattle.rowan_predictive.specs.declared.rules.Action.TheVariants as action
use Rattle.rowan_predictive.specs.declared.rules.Entry.{Entry}
use Rattle.rowan_predictive.specs.View.{rules_of}
use Rattle.rowan_predictive.specs.Derived.{After, Allows, AllowsAt, Derives}
use Rattle.rowan_predictive.specs.Derivations.{HasRule, Parses, empty, token, node, chain, wrap, seq, left, right, present, absent, more, stop}

abbrev rule_in : Option Entry → Option Rule
rule_in None = None
rule_in (Some entry) = Some entry.rule

rule-at : (entries : List Entry) (i : ℕ) → slice_get (rules_of entries) i ≡ rule_in (slice_get entries i)
rule-at [] zero = refl
rule-at [] (suc i) = refl
rule-at (entry ∷ entries) zero = refl
rule-at (entry ∷ entries) (suc i) = rule-at entries i

allows-at : (i : ℕ) (o : Option Entry) (rule : Rule) (m : Move) → rule_in o ≡ Some rule → Allows i rule m → AllowsAt i o m
allows-at i None rule m is may = absurd (cc)
allows-at i (Some entry) rule m is may =
    let q : rule ≡ entry.rule = cc in subst (λ (f : Rule). Allows i f m) q may

allows : (entries : List Entry) (i : ℕ) (rule : Rule) (m : Move) → HasRule (rules_of entries) i rule → Allows i rule m → AllowsAt i (slice_get entries i) m
allows entries i rule m is may = allows-at i (slice_get entries i) rule m (sym (rule-at entries i) ∙ is) may

-- in m steps the tokens and actions are taken from before what the stack derives
pub record IsCounted (entries : List Entry) (i : ℕ) (ts : List ℕ) (es : List Action) : Type 0 where
  pub m : ℕ
  pub takes : (k n : ℕ) (stack : List Item) (us : List ℕ) (fs : List Action) → k ≡ m + n
      → Derives entries n stack us fs → Derives entries k (Want i ∷ stack) (ts ++ us) (es ++ fs)

module _ (entries : List Entry) where
  at-count : (k n : ℕ) (stack : List Item) (us : List ℕ) (fs : List Action) → k ≡ n → Derives entries n stack us fs → Derives entries k stack us fs
  at-count k n stack us fs e d = subst (λ (x : ℕ). Derives entries x stack us fs) (sym e) d

  at-words : (k : ℕ) (stack : List Item) (ts us : List ℕ) (es fs : List Action) → ts ≡ us → es ≡ fs → Derives entries k stack ts es → Derives entries k stack us fs
  at-words k stack ts us es fs p q d =
      subst (λ (x : List ℕ). Derives entries k stack x fs) p (subst (λ (x : List Action). Derives entries k stack ts x) q d)

  pass-counted : (i : ℕ) → AllowsAt i (slice_get entries i) Pass → IsCounted entries i [] []
  pass-counted i may = record { m = 1; takes = takes }
    where
      takes : (k n : ℕ) (stack : List Item) (us : List ℕ) (fs : List Action) → k ≡ 1 + n
          → Derives entries n stack us fs → Derives entries k (Want i ∷ stack) us fs
      takes zero n stack us fs e d = absurd (omega arith)
      takes (suc k) n stack us fs e d = (Pass, may, at-count k n stack us fs (omega arith) d)

  token-counted : (i kind : ℕ) → AllowsAt i (slice_get entries i) (Take kind)
      → IsCounted entries i (kind ∷ []) (action.Token ∷ [])
  token-counted i kind may = record { m = 1; takes = takes }
    where
      takes : (k n : ℕ) (stack : List Item) (us : List ℕ) (fs : List Action) → k ≡ 1 + n
          → Derives entries n stack us fs → Derives entries k (Want i ∷ stack) (kind ∷ us) (action.Token ∷ fs)
      takes zero n stack us fs e d = absurd (omega arith)
      takes (suc k) n stack us fs e d = (Take kind, may, (us, fs, refl, refl, at-count k n stack us fs (omega arith) d))

  node-counted : (i kind a : ℕ) (ts : List ℕ) (es : List Action) → AllowsAt i (slice_get entries i) (Enter kind a)
      → IsCounted entries a ts es → IsCounted entries i ts (Open kind ∷ (es ++ (Close ∷ [])))
  node-counted i kind a ts es may c = record { m = c.m + 2; takes = takes }
    where
      takes : (k n : ℕ) (stack : List Item) (us : List ℕ) (fs : List Action) → k ≡ c.m + 2 + n
          → Derives entries n stack us fs → Derives entries k (Want i ∷ stack) (ts ++ us) (Open kind ∷ ((es ++ (Close ∷ [])) ++ fs))
      takes zero n stack us fs e d = absurd (omega arith)
      takes (suc k) n stack us fs e d =
          let inner = c.takes k (suc n) (End ∷ stack) us (Close ∷ fs) (omega arith) (fs, refl, d) in
          (Enter kind a, may, ((es ++ (Close ∷ [])) ++ fs, refl, at-words k (Want a ∷ End ∷ stack) (ts ++ us) (ts ++ us) (es ++ (Close ∷ fs)) ((es ++ (Close ∷ [])) ++ fs) refl (sym (append_assoc es (Close ∷ []) fs)) inner))

  chain-counted : (i a : ℕ) (ts : List ℕ) (es : List Action) → AllowsAt i (slice_get entries i) (Begin a)
      → IsCounted entries a ts es → IsCounted entries i ts (Mark ∷ (es ++ (Done ∷ [])))
  chain-counted i a ts es may c = record { m = c.m + 2; takes = takes }
    where
      takes : (k n : ℕ) (stack : List Item) (us : List ℕ) (fs : List Action) → k ≡ c.m + 2 + n
          → Derives entries n stack us fs → Derives entries k (Want i ∷ stack) (ts ++ us) (Mark ∷ ((es ++ (Done ∷ [])) ++ fs))
      takes zero n stack us fs e d = absurd (omega arith)
      takes (suc k) n stack us fs e d =
          let inner = c.takes k (suc n) (Leave ∷ stack) us (Done ∷ fs) (omega arith) (fs, refl, d) in
          (Begin a, may, ((es ++ (Done ∷ [])) ++ fs, refl, at-words k (Want a ∷ Leave ∷ stack) (ts ++ us) (ts ++ us) (es ++ (Done ∷ fs)) ((es ++ (Done ∷ [])) ++ fs) refl (sym (append_assoc es (Done ∷ []) fs)) inner))

  wrap-counted : (i kind a : ℕ) (ts : List ℕ) (es : List Action) → AllowsAt i (slice_get entries i) (Surround kind a)
      → IsCounted entries a ts es → IsCounted entries i ts (Around kind ∷ (es ++ (Close ∷ [])))
  wrap-counted i kind a ts es may c = record { m = c.m + 2; takes = takes }
    where
      takes : (k n : ℕ) (stack : List Item) (us : List ℕ) (fs : List Action) → k ≡ c.m + 2 + n
          → Derives entries n stack us fs → Derives entries k (Want i ∷ stack) (ts ++ us) (Around kind ∷ ((es ++ (Close ∷ [])) ++ fs))
      takes zero n stack us fs e d = absurd (omega arith)
      takes (suc k) n stack us fs e d =
          let inner = c.takes k (suc n) (End ∷ stack) us (Close ∷ fs) (omega arith) (fs, refl, d) in
          (Surround kind a, may, ((es ++ (Close ∷ [])) ++ fs, refl, at-words k (Want a ∷ End ∷ stack) (ts ++ us) (ts ++ us) (es ++ (Close ∷ fs)) ((es ++ (Close ∷ [])) ++ fs) refl (sym (append_assoc es (Close ∷ []) fs)) inner))

  become-counted : (i a : ℕ) (ts : List ℕ) (es : List Action) → AllowsAt i (slice_get entries i) (Become a)
      → IsCounted entries a ts es → IsCounted entries i ts es
  become-counted i a ts es may c = record { m = c.m + 1; takes = takes }
    where
      takes : (k n : ℕ) (stack : List Item) (us : List ℕ) (fs : List Action) → k ≡ c.m + 1 + n
          → Derives entries n stack us fs → Derives entries k (Want i ∷ stack) (ts ++ us) (es ++ fs)
      takes zero n stack us fs e d = absurd (omega arith)
      takes (suc k) n stack us fs e d = (Become a, may, c.takes k n stack us fs (omega arith) d)

  both-counted : (i a b : ℕ) (ts us : List ℕ) (es fs : List Action) → AllowsAt i (slice_get entries i) (Both a b)
      → IsCounted entries a ts es → IsCounted entries b us fs → IsCounted entries i (ts ++ us) (es ++ fs)
  both-counted i a b ts us es fs may c d = record {
    m = c.m + d.m + 1;
    takes = takes;
  }
    where
      takes : (k n : ℕ) (stack : List Item) (vs : List ℕ) (gs : List Action) → k ≡ c.m + d.m + 1 + n
          → Derives entries n stack vs gs → Derives entries k (Want i ∷ stack) ((ts ++ us) ++ vs) ((es ++ fs) ++ gs)
      takes zero n stack vs gs e x = absurd (omega arith)
      takes (suc k) n stack vs gs e x = (
        Both a b,
        may,
        at-words k (Want a ∷ Want b ∷ stack) (ts ++ (us ++ vs)) ((ts ++ us) ++ vs) (es ++ (fs ++ gs)) ((es ++ fs) ++ gs)
            (sym (append_assoc ts us vs)) (sym (append_assoc es fs gs))
            (c.takes k (d.m + n) (Want b ∷ stack) (us ++ vs) (fs ++ gs) (omega arith) (d.takes (d.m + n) n stack vs gs refl x)),
      )

  pub counted : (i : ℕ) (ts : List ℕ) (es : List Action) → Parses (rules_of entries) i ts es → IsCounted entries i ts es
  counted i _ _ (empty is) = pass-counted i (allows entries i Empty Pass is refl)
  counted i _ _ (token {kind = k} is) = token-counted i k (allows entries i (Token k) (Take k) is refl)
  counted i ts _ (node {kind = k} {a = a} {es = es} is p) =
      node-counted i k a ts es (allows entries i (Node k a) (Enter k a) is refl) (counted a ts es p)
  counted i ts _ (chain {a = a} {es = es} is p) =
      chain-counted i a ts es (allows entries i (Chain a) (Begin a) is refl) (counted a ts es p)
  counted i ts _ (wrap {kind = k} {a = a} {es = es} is p) =
      wrap-counted i k a ts es (allows entries i (Wrap k a) (Surround k a) is refl) (counted a ts es p)
  counted i _ _ (seq {a = a} {b = b} {ts = ts} {us = us} {es = es} {fs = fs} is p q) =
      both-counted i a b ts us es fs (allows entries i (Seq a b) (Both a b) is refl) (counted a ts es p) (counted b us fs q)
  counted i ts es (left {a = a} b is p) =
      become-counted i a ts es (allows entries i (Choice a b) (Become a) is (inl refl)) (counted a ts es p)
  counted i ts es (right {b = b} a is p) =
      become-counted i b ts es (allows entries i (Choice a b) (Become b) is (inr refl)) (counted b ts es p)
  counted i ts es (present {a = a} is p) =
      become-counted i a ts es (allows entries i (Optional a) (Become a) is (inl refl)) (counted a ts es p)
  counted i _ _ (absent a is) = pass-counted i (allows entries i (Optional a) Pass is (inr refl))
  counted i _ _ (more {a = a} {ts = ts} {us = us} {es = es} {fs = fs} is p q) =
      both-counted i a i ts us es fs (allows entries i (Star a) (Both a i) is (inl refl)) (counted a ts es p) (counted i us fs q)
  counted i _ _ (stop a is) = pass-counted i (allows entries i (Star a) Pass is (inr refl))

-- ---- and back: what a stack derives begins by what its first rule derives

record IsSplit (entries : List Entry) (n i : ℕ) (stack : List Item) (tokens : List ℕ) (actions : List Action) : Type 0 where
  ts : List ℕ
  us : List ℕ
  es : List Action
  fs : List Action
  m : ℕ
  parses : Parses (rules_of entries) i ts es
  tokens_are : tokens ≡ ts ++ us
  actions_are : actions ≡ es ++ fs
  less : m < n
  rest : Derives entries m stack us fs

module _ (entries : List Entry) where
  abbrev SplitsWithin : ℕ → Type 0
  SplitsWithin bound = (n i : ℕ) (stack : List Item) (tokens : List ℕ) (actions : List Action) → n ≤ bound
      → Derives entries n (Want i ∷ stack) tokens actions → IsSplit entries n i stack tokens actions

  become-split : (n i a : ℕ) (stack : List Item) (tokens : List ℕ) (actions : List Action)
      → ((ts : List ℕ) (es : List Action) → Parses (rules_of entries) a ts es → Parses (rules_of entries) i ts es)
      → IsSplit entries n a stack tokens actions → IsSplit entries (suc n) i stack tokens actions
  become-split n i a stack tokens actions lift s = record {
    ts = s.ts;
    us = s.us;
    es = s.es;
    fs = s.fs;
    m = s.m;
    parses = lift s.ts s.es s.parses;
    tokens_are = s.tokens_are;
    actions_are = s.actions_are;
    less = let l = s.less in omega arith;
    rest = s.rest;
  }

  pass-split : (n i : ℕ) (stack : List Item) (tokens : List ℕ) (actions : List Action) → Parses (rules_of entries) i [] []
      → Derives entries n stack tokens actions → IsSplit entries (suc n) i stack tokens actions
  pass-split n i stack tokens actions p d = record {
    ts = [];
    us = tokens;
    es = [];
    fs = actions;
    m = n;
    parses = p;
    tokens_are = refl;
    actions_are = refl;
    less = omega arith;
    rest = d;
  }

  node-opened : (n i kind a m : ℕ) (stack : List Item) (ts us tokens : List ℕ) (es fs actions : List Action)
      → HasRule (rules_of entries) i (Node kind a) → Parses (rules_of entries) a ts es → tokens ≡ ts ++ us → actions ≡ Open kind ∷ (es ++ fs) → m < n
      → Derives entries m (End ∷ stack) us fs → IsSplit entries (suc n) i stack tokens actions
  node-opened n i kind a zero stack ts us tokens es fs actions is p t e l d = absurd (cc)
  node-opened n i kind a (suc m) stack ts us tokens es fs actions is p t e l d = record {
    ts = ts;
    us = us;
    es = Open kind ∷ (es ++ (Close ∷ []));
    fs = d.0;
    m = m;
    parses = node is p;
    tokens_are = t;
    actions_are = e ∙ ap (λ (x : List Action). Open kind ∷ (es ++ x)) d.1 ∙ ap (λ (x : List Action). Open kind ∷ x) (sym (append_assoc es (Close ∷ []) d.0));
    less = omega arith;
    rest = d.2;
  }

  chain-opened : (n i a m : ℕ) (stack : List Item) (ts us tokens : List ℕ) (es fs actions : List Action)
      → HasRule (rules_of entries) i (Chain a) → Parses (rules_of entries) a ts es → tokens ≡ ts ++ us → actions ≡ Mark ∷ (es ++ fs) → m < n
      → Derives entries m (Leave ∷ stack) us fs → IsSplit entries (suc n) i stack tokens actions
  chain-opened n i a zero stack ts us tokens es fs actions is p t e l d = absurd (cc)
  chain-opened n i a (suc m) stack ts us tokens es fs actions is p t e l d = record {
    ts = ts;
    us = us;
    es = Mark ∷ (es ++ (Done ∷ []));
    fs = d.0;
    m = m;
    parses = chain is p;
    tokens_are = t;
    actions_are = e ∙ ap (λ (x : List Action). Mark ∷ (es ++ x)) d.1 ∙ ap (λ (x : List Action). Mark ∷ x) (sym (append_assoc es (Done ∷ []) d.0));
    less = omega arith;
    rest = d.2;
  }

  wrap-opened : (n i kind a m : ℕ) (stack : List Item) (ts us tokens : List ℕ) (es fs actions : List Action)
      → HasRule (rules_of entries) i (Wrap kind a) → Parses (rules_of entries) a ts es → tokens ≡ ts ++ us → actions ≡ Around kind ∷ (es ++ fs) → m < n
      → Derives entries m (End ∷ stack) us fs → IsSplit entries (suc n) i stack tokens actions
  wrap-opened n i kind a zero stack ts us tokens es fs actions is p t e l d = absurd (cc)
  wrap-opened n i kind a (suc m) stack ts us tokens es fs actions is p t e l d = record {
    ts = ts;
    us = us;
    es = Around kind ∷ (es ++ (Close ∷ []));
    fs = d.0;
    m = m;
    parses = wrap is p;
    tokens_are = t;
    actions_are = e ∙ ap (λ (x : List Action). Around kind ∷ (es ++ x)) d.1 ∙ ap (λ (x : List Action). Around kind ∷ x) (sym (append_assoc es (Close ∷ []) d.0));
    less = omega arith;
    rest = d.2;
  }

  both-split : (bound : ℕ) → SplitsWithin bound → (n i a b : ℕ) (stack : List Item) (tokens : List ℕ) (actions : List Action) → n ≤ bound
      → ((ts us : List ℕ) (es fs : List Action) → Parses (rules_of entries) a ts es → Parses (rules_of entries) b us fs → Parses (rules_of entries) i (ts ++ us) (es ++ fs))
      → IsSplit entries n a (Want b ∷ stack) tokens actions → IsSplit entries (suc n) i stack tokens actions
  both-split bound ih n i a b stack tokens actions le join s =
      let l = s.less in
      let t : IsSplit entries s.m b stack s.us s.fs = ih s.m b stack s.us s.fs (omega arith) s.rest in
      record {
        ts = s.ts ++ t.ts;
        us = t.us;
        es = s.es ++ t.es;
        fs = t.fs;
        m = t.m;
        parses = join s.ts t.ts s.es t.es s.parses t.parses;
        tokens_are = s.tokens_are ∙ ap (λ (x : List ℕ). s.ts ++ x) t.tokens_are ∙ sym (append_assoc s.ts t.ts t.us);
        actions_are = s.actions_are ∙ ap (λ (x : List Action). s.es ++ x) t.actions_are ∙ sym (append_assoc s.es t.es t.fs);
        less = let k = t.less in omega arith;
        rest = t.rest;
      }

  split-by : (bound : ℕ) → SplitsWithin bound
      → (n i : ℕ) (rule : Rule) (m : Move) (stack : List Item) (tokens : List ℕ) (actions : List Action) → n ≤ bound
      → HasRule (rules_of entries) i rule → Allows i rule m → After (Derives entries n) m stack tokens actions → IsSplit entries (suc n) i stack tokens actions
  split-by bound ih n i rule m stack tokens actions le has may after = by rule has may
    where
      behind : (x : Move) → m ≡ x → After (Derives entries n) x stack tokens actions
      behind x e = subst (λ (y : Move). After (Derives entries n) y stack tokens actions) e after

      by : (f : Rule) → HasRule (rules_of entries) i f → Allows i f m → IsSplit entries (suc n) i stack tokens actions
      by Empty is may = pass-split n i stack tokens actions (empty is) (behind Pass may)
      by (Token kind) is may =
          let w = behind (Take kind) may in
          record {
            ts = kind ∷ [];
            us = w.0;
            es = action.Token ∷ [];
            fs = w.1;
            m = n;
            parses = token is;
            tokens_are = w.2;
            actions_are = w.3;
            less = omega arith;
            rest = w.4;
          }
      by (Node kind a) is may =
          let w = behind (Enter kind a) may in
          let s : IsSplit entries n a (End ∷ stack) tokens w.0 = ih n a (End ∷ stack) tokens w.0 le w.2 in
          node-opened n i kind a s.m stack s.ts s.us tokens s.es s.fs actions is s.parses s.tokens_are
          (w.1 ∙ ap (λ (x : List Action). Open kind ∷ x) s.actions_are) s.less s.rest
      by (Chain a) is may =
          let w = behind (Begin a) may in
          let s : IsSplit entries n a (Leave ∷ stack) tokens w.0 = ih n a (Leave ∷ stack) tokens w.0 le w.2 in
          chain-opened n i a s.m stack s.ts s.us tokens s.es s.fs actions is s.parses s.tokens_are
          (w.1 ∙ ap (λ (x : List Action). Mark ∷ x) s.actions_are) s.less s.rest
      by (Wrap kind a) is may =
          let w = behind (Surround kind a) may in
          let s : IsSplit entries n a (End ∷ stack) tokens w.0 = ih n a (End ∷ stack) tokens w.0 le w.2 in
          wrap-opened n i kind a s.m stack s.ts s.us tokens s.es s.fs actions is s.parses s.tokens_are
          (w.1 ∙ ap (λ (x : List Action). Around kind ∷ x) s.actions_are) s.less s.rest
      by (Seq a b) is may =
          both-split bound ih n i a b stack tokens actions le (λ ts us es fs p q. seq is p q) (ih n a (Want b ∷ stack) tokens actions le (behind (Both a b) may))
      by (Choice a b) is (inl may) =
          become-split n i a stack tokens actions (λ ts es p. left b is p) (ih n a stack tokens actions le (behind (Become a) may))
      by (Choice a b) is (inr may) =
          become-split n i b stack tokens actions (λ ts es p. right a is p) (ih n b stack tokens actions le (behind (Become b) may))
      by (Optional a) is (inl may) =
          become-split n i a stack tokens actions (λ ts es p. present is p) (ih n a stack tokens actions le (behind (Become a) may))
      by (Optional a) is (inr may) = pass-split n i stack tokens actions (absent a is) (behind Pass may)
      by (Star a) is (inl may) =
          both-split bound ih n i a i stack tokens actions le (λ ts us es fs p q. more is p q) (ih n a (Want i ∷ stack) tokens actions le (behind (Both a i) may))
      by (Star a) is (inr may) = pass-split n i stack tokens actions (stop a is) (behind Pass may)

  split-at : (bound : ℕ) → SplitsWithin bound → (n i : ℕ) (o : Option Entry) (m : Move) (stack : List Item) (tokens : List ℕ) (actions : List Action)
      → n ≤ bound → slice_get entries i ≡ o → AllowsAt i o m → After (Derives entries n) m stack tokens actions → IsSplit entries (suc n) i stack tokens actions
  split-at bound ih n i None m stack tokens actions le e may after = absurd may
  split-at bound ih n i (Some entry) m stack tokens actions le e may after =
      split-by bound ih n i entry.rule m stack tokens actions le
      (rule-at entries i ∙ ap rule_in e) may after

  split-within : (bound : ℕ) → SplitsWithin bound
  split-within bound zero i stack tokens actions le d = absurd (cc)
  split-within zero (suc n) i stack tokens actions le d = absurd (omega arith)
  split-within (suc bound) (suc n) i stack tokens actions le d =
      split-at bound (split-within bound) n i (slice_get entries i) d.0 stack tokens actions (omega arith) refl d.1 d.2

  nothing-left : (m : ℕ) (us : List ℕ) (fs : List Action) → Derives entries m [] us fs → (us ≡ []) × (fs ≡ [])
  nothing-left zero us fs d = (d.1, d.2)
  nothing-left (suc m) us fs d = absurd d

  pub parsed : (n i : ℕ) (tokens : List ℕ) (actions : List Action) → Derives entries n (Want i ∷ []) tokens actions → Parses (rules_of entries) i tokens actions
  parsed n i tokens actions d =
      let s : IsSplit entries n i [] tokens actions = split-within n n i [] tokens actions (omega arith) d in
      let w = nothing-left s.m s.us s.fs s.rest in
      let t : s.ts ≡ tokens = sym (s.tokens_are ∙ ap (λ (x : List ℕ). s.ts ++ x) w.0 ∙ append-nil s.ts) in
      let e : s.es ≡ actions = sym (s.actions_are ∙ ap (λ (x : List Action). s.es ++ x) w.1 ∙ append-nil s.es) in
      subst (λ (x : List ℕ). Parses (rules_of entries) i x actions) t (subst (λ (x : List Action). Parses (rules_of entries) i s.ts x) e s.parses)

-- a derivation, in some steps
pub derived : (entries : List Entry) (i : ℕ) (tokens : List ℕ) (actions : List Action) → Parses (rules_of entries) i tokens actions
    → (n : ℕ) × Derives entries n (Want i ∷ []) tokens actions
derived entries i tokens actions p =
    let c : IsCounted entries i tokens actions = counted entries i tokens actions p in
    let d = c.takes c.m 0 [] [] [] (omega arith) (refl, refl, refl) in (
      c.m,
      subst (λ (x : List ℕ). Derives entries c.m (Want i ∷ []) x actions) (append-nil tokens)
          (subst (λ (x : List Action). Derives entries c.m (Want i ∷ []) (tokens ++ []) x) (append-nil actions) d),
    )
