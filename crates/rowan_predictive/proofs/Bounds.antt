-- A step lowers the bound on the steps that are left.
use Rattle.std.proofs.Common.{◌≡◌, ℕ, ◌+◌, ◌*◌, ◌-◌, ◌<◌, ◌≤◌, Bool, true, false, cond, not, eqb, List, [], ◌∷◌, length}
use Rattle.std.proofs.Common.{Option, Some, None, slice_get, refl, sym, ap, ◌∙◌, subst, arith}
use Rattle.std.proofs.lemmas.Bool.{false_from_ne_true}
use Rattle.std.proofs.lemmas.Option.{slice_get_within}
use Rattle.rowan_predictive.specs.declared.rules.Rule.{Rule}
use Rattle.rowan_predictive.specs.declared.rules.Rule.TheVariants.{Empty, Token, Node, Chain, Wrap, Seq, Choice, Optional, Star}
use Rattle.rowan_predictive.specs.declared.rules.Move.{Move}
use Rattle.rowan_predictive.specs.declared.rules.Move.TheVariants.{Take, Enter, Begin, Surround, Both, Become, Pass}
use Rattle.rowan_predictive.specs.declared.rules.Item.{Item}
use Rattle.rowan_predictive.specs.declared.rules.Item.TheVariants.{Want, End, Leave}
use Rattle.rowan_predictive.specs.declared.rules.Entry.{Entry}
use Rattle.rowan_predictive.specs.Choice.{is_begun, may_be_empty, may_pass, take_if, move_in, move_at, move_of}
use Rattle.rowan_predictive.specs.Predictive.{BeginsIn, MayBeEmpty, IsAround, IsJoined, IsChosen, IsMaybe, IsFit, IsPredictive}
use Rattle.rowan_predictive.specs.Costs.{idle_in, busy_in, idle, busy, passing, late, IsPaidBy, IsExactBy, IsBounded}
use Rattle.rowan_predictive.specs.Machine.{State, is_anchor, skips, with_stack, stuck_by, moved_by, stepped, step_of}
use Rattle.rowan_predictive.proofs.Steps.{taken}

-- the steps for a stack whose tokens come later
abbrev pub idle_sum : List Entry → List Item → ℕ
idle_sum entries [] = 0
idle_sum entries (End ∷ stack) = 1 + idle_sum entries stack
idle_sum entries (Leave ∷ stack) = 1 + idle_sum entries stack
idle_sum entries (Want i ∷ stack) = idle entries i + idle_sum entries stack

abbrev pub want_bound : Bool → Bool → ℕ → ℕ → ℕ → ℕ → ℕ → ℕ → ℕ
want_bound true empty idles busies sum rest low high = busies + sum + low
want_bound false true idles busies sum rest low high = idles + rest
want_bound false false idles busies sum rest low high = idles + sum + high

-- low: for the tokens behind the next one; high: for all that are left
abbrev pub bound : List Entry → Option ℕ → ℕ → ℕ → List Item → ℕ
bound entries next low high [] = high
bound entries next low high (End ∷ stack) = 1 + bound entries next low high stack
bound entries next low high (Leave ∷ stack) = 1 + bound entries next low high stack
bound entries next low high (Want i ∷ stack) =
    want_bound (is_begun entries i next) (may_be_empty entries i) (idle entries i) (busy entries i) (idle_sum entries stack)
    (bound entries next low high stack) low high

-- the bound on the steps that are left behind a state
abbrev pub steps_left : List Entry → ℕ → List ℕ → State → ℕ
steps_left entries c tokens state =
    bound entries (slice_get tokens state.place) (c * (length tokens - state.place))
    (c * (length tokens - state.place) + c) state.stack

upper-want : (b e : Bool) (c idles busies sum rest low high : ℕ) → busies ≤ idles + c → high ≡ low + c → rest ≤ sum + high
    → want_bound b e idles busies sum rest low high ≤ idles + sum + high
upper-want true e c idles busies sum rest low high p q r = omega arith
upper-want false true c idles busies sum rest low high p q r = omega arith
upper-want false false c idles busies sum rest low high p q r = omega arith

lower-want : (b e : Bool) (c idles busies sum rest low high : ℕ) → 1 + idles ≤ busies → high ≡ low + c → 1 ≤ c → sum + low < rest
    → idles + sum + low < want_bound b e idles busies sum rest low high
lower-want true e c idles busies sum rest low high p q r s = omega arith
lower-want false true c idles busies sum rest low high p q r s = omega arith
lower-want false false c idles busies sum rest low high p q r s = omega arith

module _ (entries : List Entry) (c : ℕ) (bounded : IsBounded entries c) where
  some-at : (i : ℕ) (o : Option Entry) → slice_get entries i ≡ o → 1 ≤ idle_in o
  some-at i None e = omega arith
  some-at i (Some entry) e = subst (λ (o : Option Entry). 1 ≤ idle_in o) e (bounded.at i entry e).some

  more-at : (i : ℕ) (o : Option Entry) → slice_get entries i ≡ o → 1 + idle_in o ≤ busy_in o
  more-at i None e = omega arith
  more-at i (Some entry) e = subst (λ (o : Option Entry). 1 + idle_in o ≤ busy_in o) e (bounded.at i entry e).more

  most-at : (i : ℕ) (o : Option Entry) → slice_get entries i ≡ o → busy_in o ≤ idle_in o + c
  most-at i None e = let h = bounded.token in omega arith
  most-at i (Some entry) e = subst (λ (o : Option Entry). busy_in o ≤ idle_in o + c) e (bounded.at i entry e).most

  some-idle : (i : ℕ) → 1 ≤ idle entries i
  some-idle i = some-at i (slice_get entries i) refl

  pub upper : (next : Option ℕ) (low high : ℕ) → high ≡ low + c → (stack : List Item) → bound entries next low high stack ≤ idle_sum entries stack + high
  upper next low high e [] = omega arith
  upper next low high e (End ∷ stack) = let h = upper next low high e stack in omega arith
  upper next low high e (Leave ∷ stack) = let h = upper next low high e stack in omega arith
  upper next low high e (Want i ∷ stack) =
      upper-want (is_begun entries i next) (may_be_empty entries i) c (idle entries i) (busy entries i) (idle_sum entries stack)
      (bound entries next low high stack) low high (most-at i (slice_get entries i) refl) e (upper next low high e stack)

  lower : (next : Option ℕ) (low high : ℕ) → high ≡ low + c → (stack : List Item) → idle_sum entries stack + low < bound entries next low high stack
  lower next low high e [] = let h = bounded.token in omega arith
  lower next low high e (End ∷ stack) = let h = lower next low high e stack in omega arith
  lower next low high e (Leave ∷ stack) = let h = lower next low high e stack in omega arith
  lower next low high e (Want i ∷ stack) =
      lower-want (is_begun entries i next) (may_be_empty entries i) c (idle entries i) (busy entries i) (idle_sum entries stack)
      (bound entries next low high stack) low high (more-at i (slice_get entries i) refl) e bounded.token (lower next low high e stack)

  module _ (fits : IsPredictive entries) (next : Option ℕ) (low high : ℕ) (gap : high ≡ low + c) where
    b-of : List Item → ℕ
    b-of stack = bound entries next low high stack

    when-begun : (i : ℕ) (stack : List Item) → is_begun entries i next ≡ true
        → bound entries next low high (Want i ∷ stack) ≡ busy entries i + idle_sum entries stack + low
    when-begun i stack h =
        ap (λ (b : Bool). want_bound b (may_be_empty entries i) (idle entries i) (busy entries i) (idle_sum entries stack) (bound entries next low high stack) low high) h

    when-empty : (i : ℕ) (stack : List Item) → is_begun entries i next ≡ false → may_be_empty entries i ≡ true
        → bound entries next low high (Want i ∷ stack) ≡ idle entries i + bound entries next low high stack
    when-empty i stack h g =
        ap (λ (b : Bool). want_bound b (may_be_empty entries i) (idle entries i) (busy entries i) (idle_sum entries stack) (bound entries next low high stack) low high) h
        ∙ ap (λ (b : Bool). want_bound false b (idle entries i) (busy entries i) (idle_sum entries stack) (bound entries next low high stack) low high) g

    when-missing : (i : ℕ) (stack : List Item) → is_begun entries i next ≡ false → may_be_empty entries i ≡ false
        → bound entries next low high (Want i ∷ stack) ≡ idle entries i + idle_sum entries stack + high
    when-missing i stack h g =
        ap (λ (b : Bool). want_bound b (may_be_empty entries i) (idle entries i) (busy entries i) (idle_sum entries stack) (bound entries next low high stack) low high) h
        ∙ ap (λ (b : Bool). want_bound false b (idle entries i) (busy entries i) (idle_sum entries stack) (bound entries next low high stack) low high) g

    begun-lower : (i : ℕ) (stack new : List Item) → is_begun entries i next ≡ true
        → bound entries next low high new < busy entries i + idle_sum entries stack + low
        → bound entries next low high new < bound entries next low high (Want i ∷ stack)
    begun-lower i stack new h less = subst (λ (x : ℕ). bound entries next low high new < x) (sym (when-begun i stack h)) less

    unbegun-by : (e : Bool) (i : ℕ) (stack new : List Item) → may_be_empty entries i ≡ e → is_begun entries i next ≡ false
        → (MayBeEmpty entries i → bound entries next low high new < idle entries i + bound entries next low high stack)
        → idle_sum entries new < idle entries i + idle_sum entries stack
        → bound entries next low high new < bound entries next low high (Want i ∷ stack)
    unbegun-by true i stack new g h empty less =
        subst (λ (x : ℕ). bound entries next low high new < x) (sym (when-empty i stack h g)) (empty g)
    unbegun-by false i stack new g h empty less =
        let u = upper next low high gap new in
        subst (λ (x : ℕ). bound entries next low high new < x) (sym (when-missing i stack h g)) (omega arith)

    unbegun-lower : (i : ℕ) (stack new : List Item) → is_begun entries i next ≡ false
        → (MayBeEmpty entries i → bound entries next low high new < idle entries i + bound entries next low high stack)
        → idle_sum entries new < idle entries i + idle_sum entries stack
        → bound entries next low high new < bound entries next low high (Want i ∷ stack)
    unbegun-lower i stack new h empty less = unbegun-by (may_be_empty entries i) i stack new refl h empty less

    -- a rule is left
    passes : (i : ℕ) (stack : List Item) → is_begun entries i next ≡ false
        → bound entries next low high stack < bound entries next low high (Want i ∷ stack)
    passes i stack h = let s = some-idle i in unbegun-lower i stack stack h (λ _. omega (arith, s)) (omega (arith, s))

    not-by : (a i : ℕ) → BeginsIn entries a i → is_begun entries i next ≡ false → is_begun entries a next ≡ false
    not-by a i first h = false_from_ne_true (is_begun entries a next) (λ g. let q = first next g in cc)

    -- a node or a chain begins
    inner-by : (b : Bool) (i a : ℕ) (item : Item) (stack : List Item) → is_begun entries i next ≡ b
        → idle_sum entries (item ∷ stack) ≡ 1 + idle_sum entries stack
        → bound entries next low high (item ∷ stack) ≡ 1 + bound entries next low high stack
        → IsAround entries i a → BeginsIn entries i a × (MayBeEmpty entries i → MayBeEmpty entries a)
        → (2 + idle entries a ≤ idle entries i) × (2 + busy entries a ≤ busy entries i)
        → bound entries next low high (Want a ∷ item ∷ stack) < bound entries next low high (Want i ∷ stack)
    inner-by true i a item stack h p q fit exact paid =
        begun-lower i stack (Want a ∷ item ∷ stack) h
        (let w = when-begun a (item ∷ stack) (exact.0 next h) in let k = paid.1 in omega (arith, w, k, p))
    inner-by false i a item stack h p q fit exact paid =
        unbegun-lower i stack (Want a ∷ item ∷ stack) h
        (λ g. let w = when-empty a (item ∷ stack) (not-by a i fit.first h) (exact.1 g) in let k = paid.0 in omega (arith, w, k, q))
        (let k = paid.0 in omega (arith, k, p))

    seq-begun : (p : Bool) (i a b : ℕ) (stack : List Item) → is_begun entries a next ≡ p → is_begun entries i next ≡ true
        → IsExactBy entries i (Seq a b) → IsPaidBy entries i (Seq a b)
        → bound entries next low high (Want a ∷ Want b ∷ stack) < bound entries next low high (Want i ∷ stack)
    seq-begun true i a b stack g h exact paid =
        begun-lower i stack (Want a ∷ Want b ∷ stack) h
        (let w = when-begun a (Want b ∷ stack) g in let k = paid.1 in omega (arith, w, k))
    seq-begun false i a b stack g h exact paid = by (may_be_empty entries a) refl
      where
        by : (e : Bool) → may_be_empty entries a ≡ e → bound entries next low high (Want a ∷ Want b ∷ stack) < bound entries next low high (Want i ∷ stack)
        by true e =
            let w = when-empty a (Want b ∷ stack) g e in
            let v = when-begun b stack (exact.0 next h (λ q. absurd (cc))) in
            let k = paid.2 in
            let l : late entries a b ≡ idle entries a + busy entries b = ap (λ (x : Bool). cond x (idle entries a + busy entries b) 0) e in
            begun-lower i stack (Want a ∷ Want b ∷ stack) h (omega (arith, w, v, k, l))
        by false e = let q = exact.2 (λ m. absurd (cc)) next h in absurd (cc)

    seq-by : (p : Bool) (i a b : ℕ) (stack : List Item) → is_begun entries i next ≡ p
        → IsJoined entries i a b → IsExactBy entries i (Seq a b) → IsPaidBy entries i (Seq a b)
        → bound entries next low high (Want a ∷ Want b ∷ stack) < bound entries next low high (Want i ∷ stack)
    seq-by true i a b stack h fit exact paid = seq-begun (is_begun entries a next) i a b stack refl h exact paid
    seq-by false i a b stack h fit exact paid =
        unbegun-lower i stack (Want a ∷ Want b ∷ stack) h
        (λ g. let e = exact.1 g in
        let w = when-empty a (Want b ∷ stack) (not-by a i fit.first h) e.0 in
        let v = when-empty b stack (not-by b i (fit.second e.0) h) e.1 in
        let k = paid.0 in omega (arith, w, v, k))
        (let k = paid.0 in omega (arith, k))

    becomes-begun : (i a : ℕ) (stack : List Item) → is_begun entries a next ≡ true → BeginsIn entries a i → 1 + busy entries a ≤ busy entries i
        → bound entries next low high (Want a ∷ stack) < bound entries next low high (Want i ∷ stack)
    becomes-begun i a stack h first k =
        begun-lower i stack (Want a ∷ stack) (first next h) (let w = when-begun a stack h in omega (arith, w, k))

    becomes-empty : (i a : ℕ) (stack : List Item) → is_begun entries a next ≡ false → may_be_empty entries a ≡ true
        → is_begun entries i next ≡ false → 1 + passing entries a ≤ idle entries i
        → bound entries next low high (Want a ∷ stack) < bound entries next low high (Want i ∷ stack)
    becomes-empty i a stack h e g k =
        let l : passing entries a ≡ idle entries a = ap (λ (x : Bool). cond x (idle entries a) 0) e in
        unbegun-lower i stack (Want a ∷ stack) g
        (λ _. let w = when-empty a stack h e in omega (arith, w, k, l))
        (omega (arith, k, l))

    -- what a move leaves expected has a lower bound
    abbrev Lowers : ℕ → List Item → Option Move → Type 0
    Lowers i stack None = Unit {0}
    Lowers i stack (Some (Take kind)) = Unit {0}
    Lowers i stack (Some (Enter kind a)) = bound entries next low high (Want a ∷ End ∷ stack) < bound entries next low high (Want i ∷ stack)
    Lowers i stack (Some (Begin a)) = bound entries next low high (Want a ∷ Leave ∷ stack) < bound entries next low high (Want i ∷ stack)
    Lowers i stack (Some (Surround kind a)) = bound entries next low high (Want a ∷ End ∷ stack) < bound entries next low high (Want i ∷ stack)
    Lowers i stack (Some (Both a b)) = bound entries next low high (Want a ∷ Want b ∷ stack) < bound entries next low high (Want i ∷ stack)
    Lowers i stack (Some (Become a)) = bound entries next low high (Want a ∷ stack) < bound entries next low high (Want i ∷ stack)
    Lowers i stack (Some Pass) = bound entries next low high stack < bound entries next low high (Want i ∷ stack)

    lowers-take : (i kind : ℕ) (stack : List Item) (o : Option ℕ) → Lowers i stack (take_if kind o)
    lowers-take i kind stack None = tt
    lowers-take i kind stack (Some there) = by (eqb there kind)
      where
        by : (b : Bool) → Lowers i stack (cond b (Some (Take kind)) None)
        by true = tt
        by false = tt

    lowers-choice : (p q r s : Bool) (i a b : ℕ) (stack : List Item)
        → is_begun entries a next ≡ p → is_begun entries b next ≡ q → may_be_empty entries a ≡ r → may_be_empty entries b ≡ s
        → IsChosen entries i a b → IsExactBy entries i (Choice a b) → IsPaidBy entries i (Choice a b)
        → Lowers i stack (cond p (Some (Become a)) (cond q (Some (Become b)) (cond r (Some (Become a)) (cond s (Some (Become b)) None))))
    lowers-choice true q r s i a b stack hp hq hr hs fit exact paid = becomes-begun i a stack hp fit.left.first paid.2
    lowers-choice false true r s i a b stack hp hq hr hs fit exact paid = becomes-begun i b stack hq fit.right.first paid.3
    lowers-choice false false true s i a b stack hp hq hr hs fit exact paid =
        becomes-empty i a stack hp hr (false_from_ne_true (is_begun entries i next) (λ g. let x = exact next g (λ y. absurd (cc)) in cc)) paid.0
    lowers-choice false false false true i a b stack hp hq hr hs fit exact paid =
        becomes-empty i b stack hq hs (false_from_ne_true (is_begun entries i next) (λ g. let x = exact next g (λ y. absurd (cc)) in cc)) paid.1
    lowers-choice false false false false i a b stack hp hq hr hs fit exact paid = tt

    lowers-optional : (p q : Bool) (i a : ℕ) (stack : List Item) → is_begun entries a next ≡ p
        → IsMaybe entries i a → BeginsIn entries i a → 1 + busy entries a ≤ busy entries i
        → Lowers i stack (cond p (Some (Become a)) (cond q (Some Pass) None))
    lowers-optional true q i a stack hp fit exact paid = becomes-begun i a stack hp fit.inner.first paid
    lowers-optional false true i a stack hp fit exact paid = passes i stack (not-by i a exact hp)
    lowers-optional false false i a stack hp fit exact paid = tt

    lowers-star : (p q : Bool) (i a : ℕ) (stack : List Item) → is_begun entries a next ≡ p
        → IsMaybe entries i a → BeginsIn entries i a → 1 + busy entries a + idle entries i ≤ busy entries i
        → Lowers i stack (cond p (Some (Both a i)) (cond q (Some Pass) None))
    lowers-star true q i a stack hp fit exact paid =
        begun-lower i stack (Want a ∷ Want i ∷ stack) (fit.inner.first next hp)
        (let w = when-begun a (Want i ∷ stack) hp in omega (arith, w, paid))
    lowers-star false true i a stack hp fit exact paid = passes i stack (not-by i a exact hp)
    lowers-star false false i a stack hp fit exact paid = tt

    lowers-in : (i : ℕ) (rule : Rule) (stack : List Item) → IsFit entries i rule → IsExactBy entries i rule → IsPaidBy entries i rule
        → Lowers i stack (move_in entries i next rule)
    lowers-in i Empty stack fit exact paid = passes i stack (false_from_ne_true (is_begun entries i next) (exact next))
    lowers-in i (Token kind) stack fit exact paid = lowers-take i kind stack next
    lowers-in i (Node kind a) stack fit exact paid = inner-by (is_begun entries i next) i a End stack refl refl refl fit exact paid
    lowers-in i (Chain a) stack fit exact paid = inner-by (is_begun entries i next) i a Leave stack refl refl refl fit exact paid
    lowers-in i (Wrap kind a) stack fit exact paid = inner-by (is_begun entries i next) i a End stack refl refl refl fit exact paid
    lowers-in i (Seq a b) stack fit exact paid = seq-by (is_begun entries i next) i a b stack refl fit exact paid
    lowers-in i (Choice a b) stack fit exact paid =
        lowers-choice (is_begun entries a next) (is_begun entries b next) (may_be_empty entries a) (may_be_empty entries b) i a b stack refl refl refl refl fit exact paid
    lowers-in i (Optional a) stack fit exact paid = lowers-optional (is_begun entries a next) (may_pass entries i next) i a stack refl fit exact paid
    lowers-in i (Star a) stack fit exact paid = lowers-star (is_begun entries a next) (may_pass entries i next) i a stack refl fit.0 exact paid

    lowers-at : (i : ℕ) (o : Option Entry) (stack : List Item) → slice_get entries i ≡ o → Lowers i stack (move_at entries i next o)
    lowers-at i None stack e = tt
    lowers-at i (Some entry) stack e = lowers-in i entry.rule stack (fits.at i entry e) (bounded.at i entry e).exact (bounded.at i entry e).paid

    pub lowers : (i : ℕ) (stack : List Item) → Lowers i stack (move_of entries i next)
    lowers i stack = lowers-at i (slice_get entries i) stack refl

  kept : (i : ℕ) (stack : List Item) (next : Option ℕ) → skips entries i stack next ≡ false → is_begun entries i next ≡ false
  kept i stack None e = refl
  kept i stack (Some kind) e = by (is_begun entries i (Some kind)) e
    where
      by : (b : Bool) → cond b true (not (is_anchor entries stack kind)) ≡ false → b ≡ false
      by true e = absurd (cc)
      by false e = refl

  module _ (fits : IsPredictive entries) (tokens : List ℕ) where
    -- of a state that expects this stack
    abbrev pub left-at : List Item → ℕ → ℕ
    left-at stack place =
        bound entries (slice_get tokens place) (c * (length tokens - place)) (c * (length tokens - place) + c) stack

    token-taken : (i place : ℕ) (stack : List Item) → place < length tokens
        → left-at stack (place + 1) < left-at (Want i ∷ stack) place
    token-taken i place stack less =
        let k : c * (length tokens - (place + 1)) + c ≡ c * (length tokens - place) =
        (let m : length tokens - place ≡ (length tokens - (place + 1)) + 1 = omega arith in rw m (omega arith)) in
        let u = upper (slice_get tokens (place + 1)) (c * (length tokens - (place + 1))) (c * (length tokens - (place + 1)) + c) refl stack in
        let l = lower (slice_get tokens place) (c * (length tokens - place)) (c * (length tokens - place) + c) refl (Want i ∷ stack) in
        omega (arith, k, u, l)

    token-skipped : (i place : ℕ) (stack : List Item) → place < length tokens
        → left-at (Want i ∷ stack) (place + 1) < left-at (Want i ∷ stack) place
    token-skipped i place stack less =
        let k : c * (length tokens - (place + 1)) + c ≡ c * (length tokens - place) =
        (let m : length tokens - place ≡ (length tokens - (place + 1)) + 1 = omega arith in rw m (omega arith)) in
        let u = upper (slice_get tokens (place + 1)) (c * (length tokens - (place + 1))) (c * (length tokens - (place + 1)) + c) refl (Want i ∷ stack) in
        let l = lower (slice_get tokens place) (c * (length tokens - place)) (c * (length tokens - place) + c) refl (Want i ∷ stack) in
        omega (arith, k, u, l)

    abbrev left-in : State → ℕ
    left-in state = left-at state.stack state.place

    within : (i : ℕ) (stack : List Item) (place : ℕ) (o : Option ℕ) → slice_get tokens place ≡ o → skips entries i stack o ≡ true → place < length tokens
    within i stack place None e h = absurd (cc)
    within i stack place (Some t) e h = slice_get_within tokens place t e

    stuck-lower : (b : Bool) (i : ℕ) (stack : List Item) (state : State) → skips entries i stack (slice_get tokens state.place) ≡ b
        → left-in (stuck_by b i stack state) < left-at (Want i ∷ stack) state.place
    stuck-lower true i stack state e =
        token-skipped i state.place stack (within i stack state.place (slice_get tokens state.place) refl e)
    stuck-lower false i stack state e =
        passes fits (slice_get tokens state.place) (c * (length tokens - state.place)) (c * (length tokens - state.place) + c) refl i stack
        (kept i stack (slice_get tokens state.place) e)

    moved-lower : (o : Option Move) (i : ℕ) (stack : List Item) (state : State) → move_of entries i (slice_get tokens state.place) ≡ o
        → Lowers fits (slice_get tokens state.place) (c * (length tokens - state.place)) (c * (length tokens - state.place) + c) refl i stack o
        → left-in (moved_by entries (slice_get tokens state.place) o i stack state) < left-at (Want i ∷ stack) state.place
    moved-lower None i stack state e l = stuck-lower (skips entries i stack (slice_get tokens state.place)) i stack state refl
    moved-lower (Some (Take kind)) i stack state e l =
        token-taken i state.place stack (slice_get_within tokens state.place kind (taken entries i (slice_get tokens state.place) kind e))
    moved-lower (Some (Enter kind a)) i stack state e l = l
    moved-lower (Some (Begin a)) i stack state e l = l
    moved-lower (Some (Surround kind a)) i stack state e l = l
    moved-lower (Some (Both a b)) i stack state e l = l
    moved-lower (Some (Become a)) i stack state e l = l
    moved-lower (Some Pass) i stack state e l = l

    stepped-lower : (stack : List Item) (state : State) → (stack ≡ [] → ⊥)
        → left-in (stepped entries tokens stack state) < left-at stack state.place
    stepped-lower [] state busy_one = absurd (busy_one refl)
    stepped-lower (End ∷ stack) state busy_one = omega arith
    stepped-lower (Leave ∷ stack) state busy_one = omega arith
    stepped-lower (Want i ∷ stack) state busy_one =
        moved-lower (move_of entries i (slice_get tokens state.place)) i stack (with_stack stack state) refl
        (lowers fits (slice_get tokens state.place) (c * (length tokens - state.place)) (c * (length tokens - state.place) + c) refl i stack)

    pub step-lower : (state : State) → (state.stack ≡ [] → ⊥) → left-in (step_of entries tokens state) < left-in state
    step-lower state busy_one = stepped-lower state.stack state busy_one

pub step-less : (entries : List Entry) (c : ℕ) (bounded : IsBounded entries c) (fits : IsPredictive entries)
    (tokens : List ℕ) (state : State) → (state.stack ≡ [] → ⊥)
    → steps_left entries c tokens (step_of entries tokens state) < steps_left entries c tokens state
step-less entries c bounded fits tokens state some = step-lower entries c bounded fits tokens state some
