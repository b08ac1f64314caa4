-- Each node of a derivation stands amid the rest of it.
use Rattle.std.proofs.Common.{◌≡◌, ℕ, List, [], ◌∷◌, ◌++◌, refl, sym, ap, ◌∙◌, subst, append_assoc, append-nil}
use Rattle.rowan_predictive.specs.declared.rules.Action.{Action}
use Rattle.rowan_predictive.specs.declared.rules.Action.TheVariants.{Open, Mark, Around, Close, Done}
use Rattle.rowan_predictive.specs.declared.rules.Action.TheVariants as action
use Rattle.rowan_predictive.specs.declared.rules.Rule.{Rule}
use Rattle.rowan_predictive.specs.declared.rules.Rule.TheVariants.{Node}
use Rattle.rowan_predictive.specs.Amid.{IsAmid, itself, in_node, in_chain, in_wrap, in_first, in_second, in_left, in_right, in_present, in_item, in_rest, OpensNode}
use Rattle.rowan_predictive.specs.Derivations.{HasRule, Parses, empty, token, node, chain, wrap, seq, left, right, present, absent, more, stop}
use Rattle.rowan_predictive.proofs.Amid.{into-last}

-- ---- an element of two lists

-- It stands in the first, or in the second.
data IsIn {A : Type 0} (xs ys before : List A) (x : A) (rest : List A) : Type 0 where
  first : (r : List A) → xs ≡ before ++ (x ∷ r) → rest ≡ r ++ ys → IsIn xs ys before x rest
  second : (b : List A) → before ≡ xs ++ b → ys ≡ b ++ (x ∷ rest) → IsIn xs ys before x rest

one-more : {A : Type 0} (z w : A) (xs ys before : List A) (x : A) (rest : List A) → z ≡ w
    → IsIn xs ys before x rest → IsIn (z ∷ xs) ys (w ∷ before) x rest
one-more z w xs ys before x rest e (first r u v) = first r (cc) v
one-more z w xs ys before x rest e (second b u v) = second b (cc) v

split : {A : Type 0} (xs ys before : List A) (x : A) (rest : List A) → xs ++ ys ≡ before ++ (x ∷ rest) → IsIn xs ys before x rest
split {A} [] ys before x rest e = second before refl e
split {A} (z ∷ xs) ys [] x rest e =
    let u : z ≡ x = cc in let v : xs ++ ys ≡ rest = cc in first xs (ap (λ (y : A). y ∷ xs) u) (sym v)
split {A} (z ∷ xs) ys (w ∷ before) x rest e =
    let u : z ≡ w = cc in let v : xs ++ ys ≡ before ++ (x ∷ rest) = cc in
    one-more z w xs ys before x rest u (split xs ys before x rest v)

no-last : {A : Type 0} (c x : A) (b rest : List A) → (c ≡ x → ⊥) → c ∷ [] ≡ b ++ (x ∷ rest) → ⊥
no-last c x [] rest ne e = let u : c ≡ x = cc in ne u
no-last c x (y ∷ []) rest ne e = absurd (cc)
no-last c x (y ∷ z ∷ b) rest ne e = absurd (cc)

-- ---- nodes

module _ (rules : List Rule) (kind : ℕ) where
  abbrev Finds : ℕ → List ℕ → List Action → Type 0
  Finds i ts es = (before rest : List Action) → es ≡ before ++ (Open kind ∷ rest) → OpensNode rules i kind ts before rest

  -- what stands around a part of rule a stands, with more, around it as a part of rule i
  abbrev Grows : ℕ → ℕ → List ℕ → List ℕ → List Action → List Action → Type 0
  Grows a i ts us es fs = (p : ℕ) (before behind : List ℕ) (opening closing : List Action)
      → IsAmid rules p a before behind opening closing
      → IsAmid rules p i (ts ++ before) (behind ++ us) (es ++ opening) (closing ++ fs)

  with-more : (a i : ℕ) (ts us vs : List ℕ) (es fs opening old rest : List Action) → Grows a i ts us es fs
      → OpensNode rules a kind vs opening old → rest ≡ old ++ fs
      → OpensNode rules i kind (ts ++ (vs ++ us)) (es ++ opening) rest
  with-more a i ts us vs es fs opening old rest grows h e = record {
    rule = h.rule;
    content = h.content;
    is_node = h.is_node;
    before = ts ++ h.before;
    below = h.below;
    behind = h.behind ++ us;
    all_tokens = ap (λ (x : List ℕ). ts ++ (x ++ us)) h.all_tokens
        ∙ ap (λ (x : List ℕ). ts ++ x) (into-last h.before h.below h.behind us)
        ∙ sym (append_assoc ts h.before (h.below ++ (h.behind ++ us)));
    inside = h.inside;
    closing = h.closing ++ fs;
    all_actions = e ∙ ap (λ (x : List Action). x ++ fs) h.all_actions ∙ append_assoc h.inside (Close ∷ h.closing) fs;
    derives = h.derives;
    amid = grows h.rule h.before h.behind opening h.closing h.amid;
  }

  recast : (i : ℕ) (ts us : List ℕ) (es fs rest : List Action) → ts ≡ us → es ≡ fs
      → OpensNode rules i kind ts es rest → OpensNode rules i kind us fs rest
  recast i ts us es fs rest t e h =
      subst (λ (x : List ℕ). OpensNode rules i kind x fs rest) t
      (subst (λ (x : List Action). OpensNode rules i kind ts x rest) e h)

  in-pair : (i a b : ℕ) (ts us : List ℕ) (es fs : List Action)
      → Grows a i [] us [] fs → Grows b i ts [] es [] → Finds a ts es → Finds b us fs → Finds i (ts ++ us) (es ++ fs)
  in-pair i a b ts us es fs one two finds others before rest e = by (split es fs before (Open kind) rest e)
    where
      by : IsIn es fs before (Open kind) rest → OpensNode rules i kind (ts ++ us) before rest
      by (first r u v) = with-more a i [] us ts [] fs before r rest one (finds before r u) v
      by (second o u v) =
          recast i (ts ++ (us ++ [])) (ts ++ us) (es ++ o) before rest (ap (λ (x : List ℕ). ts ++ x) (append-nil us)) (sym u)
          (with-more b i ts [] us es [] o rest rest two (others o rest v) (sym (append-nil rest)))

  in-brackets : (o c : Action) (i a : ℕ) (ts : List ℕ) (es : List Action) → (c ≡ Open kind → ⊥)
      → Grows a i [] [] (o ∷ []) (c ∷ [])
      → (o ≡ Open kind → (rest : List Action) → es ++ (c ∷ []) ≡ rest → OpensNode rules i kind ts [] rest)
      → Finds a ts es → Finds i ts (o ∷ (es ++ (c ∷ [])))
  in-brackets o c i a ts es ne grows here finds [] rest e =
      let u : o ≡ Open kind = cc in let v : es ++ (c ∷ []) ≡ rest = cc in here u rest v
  in-brackets o c i a ts es ne grows here finds (x ∷ before) rest e =
      let u : o ≡ x = cc in let v : es ++ (c ∷ []) ≡ before ++ (Open kind ∷ rest) = cc in
      by u (split es (c ∷ []) before (Open kind) rest v)
    where
      by : o ≡ x → IsIn es (c ∷ []) before (Open kind) rest → OpensNode rules i kind ts (x ∷ before) rest
      by q (first r u v) =
          recast i (ts ++ []) ts (o ∷ before) (x ∷ before) rest (append-nil ts) (ap (λ (y : Action). y ∷ before) q)
          (with-more a i [] [] ts (o ∷ []) (c ∷ []) before r rest grows (finds before r u) v)
      by q (second b u v) = absurd (no-last c (Open kind) b rest ne v)

  nothing : (i : ℕ) (ts : List ℕ) → Finds i ts []
  nothing i ts [] rest e = absurd (cc)
  nothing i ts (x ∷ before) rest e = absurd (cc)

  one : (i : ℕ) (ts : List ℕ) (c : Action) → (c ≡ Open kind → ⊥) → Finds i ts (c ∷ [])
  one i ts c ne before rest e = absurd (no-last c (Open kind) before rest ne e)

  -- nothing is behind
  no-more : (p i : ℕ) (ts us : List ℕ) (es fs : List Action) → IsAmid rules p i ts us es fs
      → IsAmid rules p i ts (us ++ []) es (fs ++ [])
  no-more p i ts us es fs m =
      subst (λ (x : List ℕ). IsAmid rules p i ts x es (fs ++ [])) (sym (append-nil us))
      (subst (λ (x : List Action). IsAmid rules p i ts us es x) (sym (append-nil fs)) m)

  bracket-grows : (o c : Action) (i a : ℕ)
      → ((p : ℕ) (ts us : List ℕ) (es fs : List Action) → IsAmid rules p a ts us es fs
      → IsAmid rules p i ts us (o ∷ es) (fs ++ (c ∷ [])))
      → Grows a i [] [] (o ∷ []) (c ∷ [])
  bracket-grows o c i a grows p before behind opening closing m =
      subst (λ (x : List ℕ). IsAmid rules p i before x (o ∷ opening) (closing ++ (c ∷ []))) (sym (append-nil behind))
      (grows p before behind opening closing m)

  in-place : (i a : ℕ) (ts : List ℕ) (es : List Action)
      → ((p : ℕ) (ts us : List ℕ) (es fs : List Action) → IsAmid rules p a ts us es fs → IsAmid rules p i ts us es fs)
      → Finds a ts es → Finds i ts es
  in-place i a ts es grows finds before rest e =
      let h = finds before rest e in record {
        rule = h.rule;
        content = h.content;
        is_node = h.is_node;
        before = h.before;
        below = h.below;
        behind = h.behind;
        all_tokens = h.all_tokens;
        inside = h.inside;
        closing = h.closing;
        all_actions = h.all_actions;
        derives = h.derives;
        amid = grows h.rule h.before h.behind before h.closing h.amid;
      }

  -- a node of its own
  itself-found : (i k a : ℕ) (ts : List ℕ) (es rest : List Action) → HasRule rules i (Node k a) → Parses rules a ts es
      → Open k ≡ Open kind → es ++ (Close ∷ []) ≡ rest → OpensNode rules i kind ts [] rest
  itself-found i k a ts es rest is d e t = record {
    rule = i;
    content = a;
    is_node = (let u : k ≡ kind = cc in subst (λ (x : ℕ). HasRule rules i (Node x a)) u is);
    before = [];
    below = ts;
    behind = [];
    all_tokens = sym (append-nil ts);
    inside = es;
    closing = [];
    all_actions = sym t;
    derives = d;
    amid = itself;
  }

  pub finds : (i : ℕ) (ts : List ℕ) (es : List Action) → Parses rules i ts es → Finds i ts es
  finds i _ _ (empty is) = nothing i []
  finds i _ _ (token {kind = k} is) = one i (k ∷ []) action.Token (λ e. absurd (cc))
  finds i ts _ (node {kind = k} {a = a} {es = es} is d) =
      in-brackets (Open k) Close i a ts es (λ e. absurd (cc))
      (bracket-grows (Open k) Close i a (λ p us vs fs gs m. in_node is m))
      (λ e rest t. itself-found i k a ts es rest is d e t) (finds a ts es d)
  finds i ts _ (chain {a = a} {es = es} is d) =
      in-brackets Mark Done i a ts es (λ e. absurd (cc))
      (bracket-grows Mark Done i a (λ p us vs fs gs m. in_chain is m))
      (λ e rest t. absurd (cc)) (finds a ts es d)
  finds i ts _ (wrap {kind = k} {a = a} {es = es} is d) =
      in-brackets (Around k) Close i a ts es (λ e. absurd (cc))
      (bracket-grows (Around k) Close i a (λ p us vs fs gs m. in_wrap is m))
      (λ e rest t. absurd (cc)) (finds a ts es d)
  finds i _ _ (seq {a = a} {b = b} {ts = ts} {us = us} {es = es} {fs = fs} is d q) =
      in-pair i a b ts us es fs (λ p vs ws gs hs m. in_first is m q)
      (λ p vs ws gs hs m. no-more p i (ts ++ vs) ws (es ++ gs) hs (in_second is d m))
      (finds a ts es d) (finds b us fs q)
  finds i ts es (left {a = a} b is d) =
      in-place i a ts es (λ p us vs fs gs m. in_left b is m) (finds a ts es d)
  finds i ts es (right {b = b} a is d) =
      in-place i b ts es (λ p us vs fs gs m. in_right a is m) (finds b ts es d)
  finds i ts es (present {a = a} is d) =
      in-place i a ts es (λ p us vs fs gs m. in_present is m) (finds a ts es d)
  finds i _ _ (absent a is) = nothing i []
  finds i _ _ (more {a = a} {ts = ts} {us = us} {es = es} {fs = fs} is d q) =
      in-pair i a i ts us es fs (λ p vs ws gs hs m. in_item is m q)
      (λ p vs ws gs hs m. no-more p i (ts ++ vs) ws (es ++ gs) hs (in_rest is d m))
      (finds a ts es d) (finds i us fs q)
  finds i _ _ (stop a is) = nothing i []
