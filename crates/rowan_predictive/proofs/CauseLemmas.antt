-- What is found of rules is so.
use Rattle.std.proofs.Common.{◌≡◌, ℕ, zero, suc, ◌||◌, ◌==◌, Bool, true, false, List, [], ◌∷◌, ◌++◌, inl, inr, ◌⊎◌, refl, sym, ◌∙◌, ap, subst, arith, length, get_or}
use Rattle.std.specs.Prelude.{◌&&◌, ◌<◌, ltb, Option, Some, None, IfSome, slice_get}
use Rattle.rowan_predictive.specs.Choice.{empty_of, may_be_empty}
use Rattle.rowan_predictive.specs.Sets.{first_in, follow_in, first_set, follow_set}
use Rattle.std.specs.List.{slice_set, All}
use Rattle.std.proofs.lemmas.List.Elements.{All-nil, All-push}
use Rattle.std.proofs.lemmas.Bool.{or_cases}
use Rattle.std.proofs.lemmas.Option.{slice_get_read}
use Rattle.std.proofs.lemmas.Bool.Decides.{nat_tests}
use Rattle.rowan_events.specs.Seen.{has}
use Rattle.rowan_events.specs.declared.token_set.TokenSet.{TokenSet}
use Rattle.rowan_predictive.specs.declared.refusals.GrammarError.{GrammarError}
use Rattle.rowan_predictive.specs.declared.refusals.GrammarError.TheVariants.{NoRule, KindTooLarge, Endless, LeftRecursion, BeginsBoth, BeginsAndFollows, EmptyTwice, TooLarge, Memory}
use Rattle.rowan_predictive.specs.declared.rules.Entry.{Entry}
use Rattle.rowan_predictive.specs.declared.rules.Facts.{Facts}
use Rattle.rowan_predictive.specs.declared.rules.Rule.{Rule}
use Rattle.rowan_predictive.specs.declared.rules.Rule.TheVariants.{Empty, Token, Node, Chain, Wrap, Seq, Choice, Optional, Star}
use Rattle.rowan_predictive.specs.Derivations.{HasRule}
use Rattle.rowan_predictive.specs.Causes.{IsNullable, MayBegin, MayFollow, StartsWith, StopsWith, IsSo, AreSo, IsBegun, AreKnown, IsWay, IsCycle, LeadsTo, WhyNoGrammar, IsConflict}
use Rattle.rowan_predictive.specs.Causes as may
use Rattle.rowan_predictive.proofs.SetLemmas.{none-in}

-- ---- one rule

module _ (rules : List Rule) where
  begins : (kind i j : ℕ) (rule : Rule) → HasRule rules i rule → StartsWith rules rule j
      → MayBegin rules kind j → MayBegin rules kind i
  begins kind i j rule h s b = may.begin rule h s b

  pub begun-empty : (i : ℕ) → HasRule rules i Empty → IsBegun rules i true (record { 0 = 0 })
  begun-empty i h = record { empty = λ _. may.empty h; first = λ kind e. absurd (none-in 0 refl kind e) }

  one-kind : (b : Bool) (k kind : ℕ) → (b && (k == kind)) ≡ true → k ≡ kind
  one-kind true k kind e = grind (arith, nat_tests)
  one-kind false k kind e = absurd (cc)

  pub begun-token : (i kind : ℕ) (set : TokenSet)
      → ((k : ℕ) → has set.0 k ≡ (has 0 k || (ltb k 128 && (k == kind))))
      → HasRule rules i (Token kind) → IsBegun rules i false set
  begun-token i kind set is h = record {
    empty = λ e. absurd (cc);
    first = λ k e. elim (or_cases (has 0 k) (ltb k 128 && (k == kind)) (sym (is k) ∙ e)) [
      | inl z ↦ absurd (none-in 0 refl k z)
      | inr z ↦ subst (λ (x : ℕ). MayBegin rules x i) (sym (one-kind (ltb k 128) k kind z)) (may.token h)
    ];
  }

  module _ (i a b : ℕ) (left right : Facts) (so : IsSo rules a left) (too : IsSo rules b right) where
    pub seq-through : (set : TokenSet) → ((k : ℕ) → has set.0 k ≡ (has left.first.0 k || has right.first.0 k))
        → HasRule rules i (Seq a b) → left.may_be_empty ≡ true → IsBegun rules i right.may_be_empty set
    seq-through set is h through = record {
      empty = λ e. may.seq h (so.empty through) (too.empty e);
      first = λ k e. elim (or_cases (has left.first.0 k) (has right.first.0 k) (sym (is k) ∙ e)) [
        | inl z ↦ begins k i a (Seq a b) h (inl refl) (so.first k z)
        | inr z ↦ begins k i b (Seq a b) h (inr (refl, so.empty through)) (too.first k z)
      ];
    }

    pub seq-first : HasRule rules i (Seq a b) → IsBegun rules i false left.first
    seq-first h = record {
      empty = λ e. absurd (cc);
      first = λ k e. begins k i a (Seq a b) h (inl refl) (so.first k e);
    }

    pub choice : (set : TokenSet) (is_empty : Bool) → ((k : ℕ) → has set.0 k ≡ (has left.first.0 k || has right.first.0 k))
        → (is_empty ≡ true → (left.may_be_empty ≡ true) ⊎ (right.may_be_empty ≡ true))
        → HasRule rules i (Choice a b) → IsBegun rules i is_empty set
    choice set is_empty is either h = record {
      empty = λ e. elim (either e) [
        | inl z ↦ may.left b h (so.empty z)
        | inr z ↦ may.right a h (too.empty z)
      ];
      first = λ k e. elim (or_cases (has left.first.0 k) (has right.first.0 k) (sym (is k) ∙ e)) [
        | inl z ↦ begins k i a (Choice a b) h (inl refl) (so.first k z)
        | inr z ↦ begins k i b (Choice a b) h (inr refl) (too.first k z)
      ];
    }

  pub as-part : (a : ℕ) (inner : Facts) → IsSo rules a inner → IsBegun rules a inner.may_be_empty inner.first
  as-part a inner so = record { empty = so.empty; first = so.first }

  pub optional : (i a : ℕ) (rule : Rule) (inner : Facts) → rule ≡ Optional a → IsSo rules a inner
      → HasRule rules i rule → IsBegun rules i true inner.first
  optional i a rule inner is so has_it =
      let h : HasRule rules i (Optional a) = has_it ∙ ap (λ (r : Rule). Some r) is in
      record { empty = λ e. may.optional a h; first = λ k e. begins k i a (Optional a) h refl (so.first k e) }

  pub star : (i a : ℕ) (rule : Rule) (inner : Facts) → rule ≡ Star a → IsSo rules a inner
      → HasRule rules i rule → IsBegun rules i true inner.first
  star i a rule inner is so has_it =
      let h : HasRule rules i (Star a) = has_it ∙ ap (λ (r : Rule). Some r) is in
      record { empty = λ e. may.star a h; first = λ k e. begins k i a (Star a) h refl (so.first k e) }

  module _ (i a : ℕ) (rule : Rule) (is_empty : Bool) (kinds : TokenSet) (part : IsBegun rules a is_empty kinds)
      (has_it : HasRule rules i rule) where
    pub node : (k : ℕ) → rule ≡ Node k a → IsBegun rules i is_empty kinds
    node k is =
        let h : HasRule rules i (Node k a) = has_it ∙ ap (λ (r : Rule). Some r) is in
        record { empty = λ e. may.node h (part.empty e); first = λ kind e. begins kind i a (Node k a) h refl (part.first kind e) }

    pub chain : rule ≡ Chain a → IsBegun rules i is_empty kinds
    chain is =
        let h : HasRule rules i (Chain a) = has_it ∙ ap (λ (r : Rule). Some r) is in
        record { empty = λ e. may.chain h (part.empty e); first = λ kind e. begins kind i a (Chain a) h refl (part.first kind e) }

    pub wrap : (k : ℕ) → rule ≡ Wrap k a → IsBegun rules i is_empty kinds
    wrap k is =
        let h : HasRule rules i (Wrap k a) = has_it ∙ ap (λ (r : Rule). Some r) is in
        record { empty = λ e. may.wrap h (part.empty e); first = λ kind e. begins kind i a (Wrap k a) h refl (part.first kind e) }

-- ---- a list of facts

pub set-get : {A : Type 0} (xs : List A) (n i : ℕ) (y z : A) → slice_get (slice_set xs n y) i ≡ Some z
    → ((i ≡ n) × (z ≡ y)) ⊎ (slice_get xs i ≡ Some z)
set-get [] n i y z e = inr e
set-get (x ∷ xs) zero zero y z e = inl (refl, cc)
set-get (x ∷ xs) zero (suc i) y z e = inr e
set-get (x ∷ xs) (suc n) zero y z e = inr e
set-get (x ∷ xs) (suc n) (suc i) y z e = elim (set-get xs n i y z e) [
  | inl w ↦ inl (ap suc w.0, w.1)
  | inr w ↦ inr w
]

pub put : (rules : List Rule) (facts : List Facts) (n : ℕ) (new : Facts) → IsSo rules n new → AreSo rules facts
    → AreSo rules (slice_set facts n new)
put rules facts n new so all = record {
  at = λ i found is. elim (set-get facts n i new found is) [
    | inl w ↦ subst (λ (x : ℕ). IsSo rules x found) (sym w.0) (subst (λ (x : Facts). IsSo rules n x) (sym w.1) so)
    | inr w ↦ all.at i found w
  ];
}

pub at-place : (facts : List Facts) (n : ℕ) (found : Facts) → true ≡ ltb n (length facts) → found ≡ get_or facts n found
    → slice_get facts n ≡ Some found
at-place facts n found less is =
    let e : ltb n (length facts) ≡ true = sym less in
    slice_get_read facts (length facts) n found refl (grind (arith, nat_tests, e)) is

-- a fact of a list, with one field changed

module _ (rules : List Rule) (facts : List Facts) (n : ℕ) (found : Facts) (all : AreSo rules facts)
    (is : slice_get facts n ≡ Some found) where
  pub with-begun : (is_empty : Bool) (kinds : TokenSet) → IsBegun rules n is_empty kinds
      → AreSo rules (slice_set facts n (record {
        may_be_empty = is_empty;
        first = kinds;
        follow = found.follow;
        idle = found.idle;
        busy = found.busy;
      }))
  with-begun is_empty kinds begun =
      put rules facts n _ (record { empty = begun.empty; first = begun.first; follow = (all.at n found is).follow }) all

  pub with-follow : (kinds set : TokenSet) → ((k : ℕ) → has set.0 k ≡ (has found.follow.0 k || has kinds.0 k))
      → ((k : ℕ) → has kinds.0 k ≡ true → MayFollow rules k n)
      → AreSo rules (slice_set facts n (record {
        may_be_empty = found.may_be_empty;
        first = found.first;
        follow = set;
        idle = found.idle;
        busy = found.busy;
      }))
  with-follow kinds set both follows =
      let so = all.at n found is in
      put rules facts n _
      (record {
        empty = so.empty;
        first = so.first;
        follow = λ k e. elim (or_cases (has found.follow.0 k) (has kinds.0 k) (sym (both k) ∙ e)) [
          | inl z ↦ so.follow k z
          | inr z ↦ follows k z
        ];
      })
      all

  pub with-steps : (idle busy : ℕ) → AreSo rules (slice_set facts n (record {
    may_be_empty = found.may_be_empty;
    first = found.first;
    follow = found.follow;
    idle = idle;
    busy = busy;
  }))
  with-steps idle busy =
      let so = all.at n found is in
      put rules facts n _ (record { empty = so.empty; first = so.first; follow = so.follow }) all

-- ---- nothing is known

pub push-get : {A : Type 0} (xs : List A) (i : ℕ) (y z : A) → slice_get (xs ++ y ∷ []) i ≡ Some z
    → ((i ≡ length xs) × (z ≡ y)) ⊎ (slice_get xs i ≡ Some z)
push-get [] zero y z e = inl (refl, cc)
push-get [] (suc i) y z e = absurd (cc)
push-get (x ∷ xs) zero y z e = inr e
push-get (x ∷ xs) (suc i) y z e = elim (push-get xs i y z e) [
  | inl w ↦ inl (ap suc w.0, w.1)
  | inr w ↦ inr w
]

pub none-so : (rules : List Rule) → AreSo rules []
none-so rules = record { at = λ i found e. absurd (cc) }

nothing-so : (rules : List Rule) (i : ℕ) (found : Facts) → found.may_be_empty ≡ false → found.first.0 ≡ 0 → found.follow.0 ≡ 0
    → IsSo rules i found
nothing-so rules i found empty first follow = record {
  empty = λ e. absurd (cc);
  first = λ kind e. absurd (none-in found.first.0 first kind e);
  follow = λ kind e. absurd (none-in found.follow.0 follow kind e);
}

pub add-nothing : (rules : List Rule) (facts : List Facts) (found : Facts) → found.may_be_empty ≡ false
    → found.first.0 ≡ 0 → found.follow.0 ≡ 0 → AreSo rules facts → AreSo rules (facts ++ found ∷ [])
add-nothing rules facts found empty first follow all = record {
  at = λ i other is. elim (push-get facts i found other is) [
    | inl w ↦ subst (λ (x : Facts). IsSo rules i x) (sym w.1) (nothing-so rules i found empty first follow)
    | inr w ↦ all.at i other w
  ];
}

-- ---- rules with what was found of them

pub none-known : (rules : List Rule) → AreKnown rules []
none-known rules = record { at = λ i entry e. absurd (cc) }

pub one-known : (rules : List Rule) (entries : List Entry) (new : Entry) → IsSo rules (length entries) new.facts
    → AreKnown rules entries → AreKnown rules (entries ++ new ∷ [])
one-known rules entries new so known = record {
  at = λ i entry is. elim (push-get entries i new entry is) [
    | inl w ↦ subst (λ (x : ℕ). IsSo rules x entry.facts) (sym w.0)
        (subst (λ (x : Entry). IsSo rules (length entries) x.facts) (sym w.1) so)
    | inr w ↦ known.at i entry w
  ];
}

-- ---- what may stand behind

module _ (rules : List Rule) (i : ℕ) where
  is-rule : (rule other : Rule) → HasRule rules i rule → rule ≡ other → HasRule rules i other
  is-rule rule other has_it e = has_it ∙ ap (λ (r : Rule). Some r) e

  -- behind a part that ends the rule
  pub behind : (rule : Rule) (facts : Facts) → HasRule rules i rule → IsSo rules i facts
      → (other : Rule) (j : ℕ) → rule ≡ other → StopsWith rules other j
      → (kind : ℕ) → has facts.follow.0 kind ≡ true → MayFollow rules kind j
  behind rule facts has_it so other j e stops kind f =
      may.inside i other (is-rule rule other has_it e) stops (so.follow kind f)

  pub between : (a b : ℕ) (right : Facts) → HasRule rules i (Seq a b) → IsSo rules b right
      → (kind : ℕ) → has right.first.0 kind ≡ true → MayFollow rules kind a
  between a b right h too kind f = may.next i b h (too.first kind f)

  pub past : (a b : ℕ) (right : Facts) → HasRule rules i (Seq a b) → IsSo rules b right
      → (follows set : TokenSet) → right.may_be_empty ≡ true
      → ((k : ℕ) → has set.0 k ≡ (has right.first.0 k || has follows.0 k))
      → ((kind : ℕ) → has follows.0 kind ≡ true → MayFollow rules kind i)
      → (kind : ℕ) → has set.0 kind ≡ true → MayFollow rules kind a
  past a b right h too follows set through is so kind f =
      elim (or_cases (has right.first.0 kind) (has follows.0 kind) (sym (is kind) ∙ f)) [
        | inl z ↦ between a b right h too kind z
        | inr z ↦ may.inside i (Seq a b) h (inr (refl, too.empty through)) (so kind z)
      ]

  pub again : (rule : Rule) (facts : Facts) → HasRule rules i rule → IsSo rules i facts
      → (a : ℕ) (inner : Facts) (set : TokenSet) → rule ≡ Star a → IsSo rules a inner
      → ((k : ℕ) → has set.0 k ≡ (has inner.first.0 k || has facts.follow.0 k))
      → (kind : ℕ) → has set.0 kind ≡ true → MayFollow rules kind a
  again rule facts has_it so a inner set e too is kind f =
      elim (or_cases (has inner.first.0 kind) (has facts.follow.0 kind) (sym (is kind) ∙ f)) [
        | inl z ↦ may.again i (is-rule rule (Star a) has_it e) (too.first kind z)
        | inr z ↦ behind rule facts has_it so (Star a) a e refl kind z
      ]

-- ---- why rules are refused

pub some-of : {A : Type 0} (P : A → Type 0) (o : Option A) (x : A) → o ≡ Some x → IfSome o P → P x
some-of P None x e p = absurd (cc)
some-of P (Some y) x e p = let same : y ≡ x = cc in subst P same p

pub if-some : {A : Type 0} (P Q : A → Type 0) (o : Option A) → ((x : A) → P x → Q x) → IfSome o P → IfSome o Q
if-some P Q None f p = tt
if-some P Q (Some x) f p = f x p

module _ (rules : List Rule) (entries : List Entry) (known : AreKnown rules entries) (i : ℕ) where
  empty-at : (o : Option Entry) → slice_get entries i ≡ o → empty_of o ≡ true → IsNullable rules i
  empty-at None is e = absurd (cc)
  empty-at (Some entry) is e = (known.at i entry is).empty e

  pub nullable : may_be_empty entries i ≡ true → IsNullable rules i
  nullable e = empty-at (slice_get entries i) refl e

  begin-at : (kind : ℕ) (o : Option Entry) → slice_get entries i ≡ o → has (first_in o) kind ≡ true → MayBegin rules kind i
  begin-at kind None is e = absurd (none-in 0 refl kind e)
  begin-at kind (Some entry) is e = (known.at i entry is).first kind e

  pub may-begin : (kind set : ℕ) → set ≡ first_set entries i → has set kind ≡ true → MayBegin rules kind i
  may-begin kind set same e = begin-at kind (slice_get entries i) refl (ap (λ (n : ℕ). has n kind) (sym same) ∙ e)

  follow-at : (kind : ℕ) (o : Option Entry) → slice_get entries i ≡ o → has (follow_in o) kind ≡ true → MayFollow rules kind i
  follow-at kind None is e = absurd (none-in 0 refl kind e)
  follow-at kind (Some entry) is e = (known.at i entry is).follow kind e

  pub may-follow : (kind set : ℕ) → set ≡ follow_set entries i → has set kind ≡ true → MayFollow rules kind i
  may-follow kind set same e = follow-at kind (slice_get entries i) refl (ap (λ (n : ℕ). has n kind) (sym same) ∙ e)

pub onwards : (by : List Rule → Rule → ℕ → Type 0) (rules : List Rule) (row new : List ℕ) (first at next : ℕ)
    → IsWay by rules first row at → LeadsTo by rules at next → new ≡ row ++ at ∷ [] → IsWay by rules first new next
onwards by rules row new first at next way leads is = subst (λ (x : List ℕ). IsWay by rules first x next) (sym is) (may.on way leads)

some-pushed : (row : List ℕ) (x : ℕ) → 0 < length (row ++ x ∷ [])
some-pushed [] x = omega arith
some-pushed (y ∷ row) x = omega arith

pub cycle : (by : List Rule → Rule → ℕ → Type 0) (rules : List Rule) (row new : List ℕ) (first at next : ℕ)
    → IsWay by rules first row at → LeadsTo by rules at next → new ≡ row ++ at ∷ [] → next ≡ first
    → IsCycle by rules new
cycle by rules row new first at next way leads is same = record {
  from = first;
  way = subst (λ (x : ℕ). IsWay by rules first new x) same (onwards by rules row new first at next way leads is);
  some = subst (λ (x : List ℕ). 0 < length x) (sym is) (some-pushed row at);
}

-- ---- what is told

-- without choices, what begins both parts of one is told as it is
pub told : (rules : List Rule) (e : GrammarError) → WhyNoGrammar rules e → IsConflict rules e
told rules (BeginsBoth i a b kind) why = record {
  first = a;
  second = b;
  is = why.is;
  way = may.itself;
  other_way = may.itself;
  begins = why.first;
  other_begins = why.second;
}
told rules (NoRule i part) why = why
told rules (KindTooLarge i kind) why = why
told rules (Endless cycle) why = why
told rules (LeftRecursion cycle) why = why
told rules (BeginsAndFollows i kind) why = why
told rules (EmptyTwice i) why = why
told rules (TooLarge i) why = why
told rules Memory why = why

-- a list of one error
pub alone : (rules : List Rule) (old new : List GrammarError) (e : GrammarError) → old ≡ [] → new ≡ old ++ e ∷ []
    → WhyNoGrammar rules e → All (IsConflict rules) new
alone rules old new e empty is why =
    subst (λ (es : List GrammarError). All (IsConflict rules) es) (sym is)
    (All-push (IsConflict rules) old e (subst (λ (es : List GrammarError). All (IsConflict rules) es) (sym empty) (All-nil (IsConflict rules))) (told rules e why))
