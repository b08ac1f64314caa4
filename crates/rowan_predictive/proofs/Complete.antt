-- Where a grammar is predictive, the machine makes the moves of a derivation.
use Rattle.std.proofs.Common.{◌≡◌, ℕ, zero, suc, ◌+◌, ◌<◌, ◌≤◌, Bool, true, false, cond, eqb, ◌⊎◌, inl, inr, List, [], ◌∷◌, ◌++◌}
use Rattle.std.proofs.Common.{Option, Some, None, slice_get, drop, refl, sym, ap, ◌∙◌, subst, append_assoc, arith}
use Rattle.std.proofs.lemmas.Bool.{false_from_ne_true}
use Rattle.std.proofs.lemmas.List.{append-nil}
use Rattle.std.proofs.lemmas.Bool.Decides.{nat_tests}
use Rattle.rowan_predictive.specs.declared.rules.Rule.{Rule}
use Rattle.rowan_predictive.specs.declared.rules.Rule.TheVariants.{Empty, Token, Node, Chain, Wrap, Seq, Choice, Optional, Star}
use Rattle.rowan_predictive.specs.declared.rules.Move.{Move}
use Rattle.rowan_predictive.specs.declared.rules.Move.TheVariants.{Take, Enter, Begin, Surround, Both, Become, Pass}
use Rattle.rowan_predictive.specs.declared.rules.Item.{Item}
use Rattle.rowan_predictive.specs.declared.rules.Item.TheVariants.{Want, End, Leave}
use Rattle.rowan_predictive.specs.declared.rules.Action.{Action}
use Rattle.rowan_predictive.specs.declared.rules.Action.TheVariants.{Open, Mark, Around, Close, Done}
use Rattle.rowan_predictive.specs.declared.rules.Action.TheVariants as action
use Rattle.rowan_predictive.specs.declared.rules.Entry.{Entry}
use Rattle.rowan_predictive.specs.Choice.{is_begun, may_be_empty, may_pass, take_if, move_in, move_at, move_of}
use Rattle.rowan_predictive.specs.Derived.{After, Allows, AllowsAt, Derives}
use Rattle.rowan_predictive.specs.Predictive.{Begins, Follows, MayBeEmpty, BeginsIn, FollowsIn, IsBefore, IsApart, IsAround, IsJoined, IsChosen, IsMaybe, IsFit, IsPredictive}
use Rattle.rowan_predictive.specs.Machine.{State, with_stack, moved_by, stepped, step_of}
use Rattle.rowan_predictive.proofs.Steps.{head_of, next-head, drop-next}

-- for each token by which this stack may begin: the token may follow the rule
abbrev pub IsFollowedBy : List Entry → ℕ → List Item → Type 0
IsFollowedBy entries i stack =
    (n t : ℕ) (ts : List ℕ) (es : List Action) → Derives entries n stack (t ∷ ts) es → Follows entries i (Some t)

abbrev pub AreFollowed : List Entry → List Item → Type 0
AreFollowed entries [] = Unit {0}
AreFollowed entries (End ∷ stack) = AreFollowed entries stack
AreFollowed entries (Leave ∷ stack) = AreFollowed entries stack
AreFollowed entries (Want i ∷ stack) = IsFollowedBy entries i stack × AreFollowed entries stack

-- what stands behind a stack's first item derives the tokens, in fewer steps
record Behind (entries : List Entry) (n : ℕ) (stack : List Item) (tokens : List ℕ) : Type 0 where
  m : ℕ
  fs : List Action
  less : m < n
  derives : Derives entries m stack tokens fs

-- the rule begins by the next token, or it is empty
abbrev Starts : List Entry → ℕ → ℕ → List Item → List ℕ → Type 0
Starts entries n i stack tokens = Begins entries i (head_of tokens) ⊎ (MayBeEmpty entries i × Behind entries n stack tokens)

cond-true : (p : Bool) (x y : Option Move) → p ≡ true → cond p x y ≡ x
cond-true true x y e = refl
cond-true false x y e = absurd (cc)

cond-false : (p : Bool) (x y : Option Move) → p ≡ false → cond p x y ≡ y
cond-false true x y e = absurd (cc)
cond-false false x y e = refl

module _ (entries : List Entry) where
  later : (n k : ℕ) (stack : List Item) (tokens : List ℕ) → n ≤ k → Behind entries n stack tokens → Behind entries k stack tokens
  later n k stack tokens le b = record { m = b.m; fs = b.fs; less = omega (arith, b.less); derives = b.derives }

  opened : (n m : ℕ) (stack : List Item) (tokens : List ℕ) (fs : List Action) → m < n
      → Derives entries m (End ∷ stack) tokens fs → Behind entries n stack tokens
  opened n zero stack tokens fs l d = absurd (cc)
  opened n (suc m) stack tokens fs l d = record { m = m; fs = d.0; less = omega arith; derives = d.2 }

  left-of-node : (n : ℕ) (stack : List Item) (tokens : List ℕ) → Behind entries n (End ∷ stack) tokens → Behind entries n stack tokens
  left-of-node n stack tokens b = opened n b.m stack tokens b.fs b.less b.derives

  left : (n m : ℕ) (stack : List Item) (tokens : List ℕ) (fs : List Action) → m < n
      → Derives entries m (Leave ∷ stack) tokens fs → Behind entries n stack tokens
  left n zero stack tokens fs l d = absurd (cc)
  left n (suc m) stack tokens fs l d = record { m = m; fs = d.0; less = omega arith; derives = d.2 }

  left-of-chain : (n : ℕ) (stack : List Item) (tokens : List ℕ) → Behind entries n (Leave ∷ stack) tokens → Behind entries n stack tokens
  left-of-chain n stack tokens b = left n b.m stack tokens b.fs b.less b.derives

  -- by so many steps at most
  abbrev StartsWithin : ℕ → Type 0
  StartsWithin bound = (n i : ℕ) (stack : List Item) (tokens : List ℕ) (es : List Action) → n ≤ bound
      → Derives entries n (Want i ∷ stack) tokens es → Starts entries n i stack tokens

  into : (n k a i : ℕ) (stack : List Item) (tokens : List ℕ) → n ≤ k → BeginsIn entries a i → (MayBeEmpty entries a → MayBeEmpty entries i)
      → Starts entries n a stack tokens → Starts entries k i stack tokens
  into n k a i stack tokens le first empty (inl h) = inl (first (head_of tokens) h)
  into n k a i stack tokens le first empty (inr h) = inr (empty h.0, later n k stack tokens le h.1)

  node-starts : (n i a : ℕ) (stack : List Item) (tokens : List ℕ) → IsAround entries i a
      → Starts entries n a (End ∷ stack) tokens → Starts entries (suc n) i stack tokens
  node-starts n i a stack tokens fit (inl h) = inl (fit.first (head_of tokens) h)
  node-starts n i a stack tokens fit (inr h) =
      inr (fit.empty h.0, later n (suc n) stack tokens (omega arith) (left-of-node n stack tokens h.1))

  chain-starts : (n i a : ℕ) (stack : List Item) (tokens : List ℕ) → IsAround entries i a
      → Starts entries n a (Leave ∷ stack) tokens → Starts entries (suc n) i stack tokens
  chain-starts n i a stack tokens fit (inl h) = inl (fit.first (head_of tokens) h)
  chain-starts n i a stack tokens fit (inr h) =
      inr (fit.empty h.0, later n (suc n) stack tokens (omega arith) (left-of-chain n stack tokens h.1))

  seq-starts : (bound : ℕ) → StartsWithin bound → (n i a b : ℕ) (stack : List Item) (tokens : List ℕ) → n ≤ bound → IsJoined entries i a b
      → Starts entries n a (Want b ∷ stack) tokens → Starts entries (suc n) i stack tokens
  seq-starts bound ih n i a b stack tokens le fit (inl h) = inl (fit.first (head_of tokens) h)
  seq-starts bound ih n i a b stack tokens le fit (inr h) =
      let less = h.1.less in
      into h.1.m (suc n) b i stack tokens (omega (arith, less)) (fit.second h.0) (fit.empty h.0)
      (ih h.1.m b stack tokens h.1.fs (omega (arith, less)) h.1.derives)

  star-starts : (n i a : ℕ) (stack : List Item) (tokens : List ℕ) → IsMaybe entries i a
      → Starts entries n a (Want i ∷ stack) tokens → Starts entries (suc n) i stack tokens
  star-starts n i a stack tokens fit (inl h) = inl (fit.inner.first (head_of tokens) h)
  star-starts n i a stack tokens fit (inr h) = absurd (fit.filled h.0)

  starts-by : (bound : ℕ) → StartsWithin bound
      → (n i : ℕ) (rule : Rule) (m : Move) (stack : List Item) (tokens : List ℕ) (es : List Action) → n ≤ bound
      → IsFit entries i rule → Allows i rule m → After (Derives entries n) m stack tokens es → Starts entries (suc n) i stack tokens
  starts-by bound ih n i rule m stack tokens es le fit may after = by rule fit may
    where
      behind : (x : Move) → m ≡ x → After (Derives entries n) x stack tokens es
      behind x e = subst (λ (y : Move). After (Derives entries n) y stack tokens es) e after

      passes : m ≡ Pass → Behind entries (suc n) stack tokens
      passes e = record { m = n; fs = es; less = omega arith; derives = behind Pass e }

      by : (f : Rule) → IsFit entries i f → Allows i f m → Starts entries (suc n) i stack tokens
      by Empty fit may = inr (fit, passes may)
      by (Token kind) fit may =
          let w = behind (Take kind) may in
          inl (subst (λ (x : List ℕ). Begins entries i (head_of x)) (sym w.2) fit)
      by (Node kind a) fit may =
          let w = behind (Enter kind a) may in
          node-starts n i a stack tokens fit (ih n a (End ∷ stack) tokens w.0 le w.2)
      by (Chain a) fit may =
          let w = behind (Begin a) may in
          chain-starts n i a stack tokens fit (ih n a (Leave ∷ stack) tokens w.0 le w.2)
      by (Wrap kind a) fit may =
          let w = behind (Surround kind a) may in
          node-starts n i a stack tokens fit (ih n a (End ∷ stack) tokens w.0 le w.2)
      by (Seq a b) fit may = seq-starts bound ih n i a b stack tokens le fit (ih n a (Want b ∷ stack) tokens es le (behind (Both a b) may))
      by (Choice a b) fit (inl may) =
          into n (suc n) a i stack tokens (omega arith) fit.left.first fit.left.empty (ih n a stack tokens es le (behind (Become a) may))
      by (Choice a b) fit (inr may) =
          into n (suc n) b i stack tokens (omega arith) fit.right.first fit.right.empty (ih n b stack tokens es le (behind (Become b) may))
      by (Optional a) fit (inl may) =
          into n (suc n) a i stack tokens (omega arith) fit.inner.first fit.inner.empty (ih n a stack tokens es le (behind (Become a) may))
      by (Optional a) fit (inr may) = inr (fit.empty, passes may)
      by (Star a) fit (inl may) = star-starts n i a stack tokens fit.0 (ih n a (Want i ∷ stack) tokens es le (behind (Both a i) may))
      by (Star a) fit (inr may) = inr (fit.0.empty, passes may)

module _ (entries : List Entry) (fits : IsPredictive entries) where
  starts-at : (bound n i : ℕ) (m : Move) (stack : List Item) (tokens : List ℕ) (es : List Action) → n ≤ bound → StartsWithin entries bound
      → (o : Option Entry) → slice_get entries i ≡ o → AllowsAt i o m → After (Derives entries n) m stack tokens es
      → Starts entries (suc n) i stack tokens
  starts-at bound n i m stack tokens es le ih None e may after = absurd may
  starts-at bound n i m stack tokens es le ih (Some entry) e may after =
      starts-by entries bound ih n i entry.rule m stack tokens es le (fits.at i entry e) may after

  starts-within : (bound : ℕ) → StartsWithin entries bound
  starts-within bound zero i stack tokens es le d = absurd (cc)
  starts-within zero (suc n) i stack tokens es le d = absurd (omega arith)
  starts-within (suc bound) (suc n) i stack tokens es le d =
      starts-at bound n i d.0 stack tokens es (omega arith) (starts-within bound) (slice_get entries i) refl d.1 d.2

  starts : (n i : ℕ) (stack : List Item) (tokens : List ℕ) (es : List Action)
      → Derives entries n (Want i ∷ stack) tokens es → Starts entries n i stack tokens
  starts n i stack tokens es d = starts-within n n i stack tokens es (omega arith) d

  -- ---- the move of a derivation is chosen

  not-begun : (n i : ℕ) (stack : List Item) (tokens : List ℕ) → IsApart entries i → IsFollowedBy entries i stack
      → Behind entries n stack tokens → is_begun entries i (head_of tokens) ≡ false
  not-begun n i stack [] apart followed b = refl
  not-begun n i stack (t ∷ ts) apart followed b =
      false_from_ne_true (is_begun entries i (Some t)) (λ h. apart (Some t) h (followed b.m t ts b.fs b.derives))

  not-inner : (a i : ℕ) (next : Option ℕ) → BeginsIn entries a i → is_begun entries i next ≡ false → is_begun entries a next ≡ false
  not-inner a i next first e = false_from_ne_true (is_begun entries a next) (λ h. let q = first next h in cc)

  token-is : (kind : ℕ) (us tokens : List ℕ) → tokens ≡ kind ∷ us → take_if kind (head_of tokens) ≡ Some (Take kind)
  token-is kind us tokens e =
      subst (λ (x : List ℕ). take_if kind (head_of x) ≡ Some (Take kind)) (sym e)
      (cond-true (eqb kind kind) (Some (Take kind)) None (grind (arith, nat_tests)))

  chosen-left : (n i a b : ℕ) (stack : List Item) (tokens : List ℕ) → IsChosen entries i a b → IsFollowedBy entries i stack
      → Starts entries n a stack tokens → move_in entries i (head_of tokens) (Choice a b) ≡ Some (Become a)
  chosen-left n i a b stack tokens fit followed (inl h) = cond-true (is_begun entries a (head_of tokens)) _ _ h
  chosen-left n i a b stack tokens fit followed (inr h) =
      let none = not-begun n i stack tokens (fit.clear (fit.left.empty h.0)) followed h.1 in
      cond-false (is_begun entries a (head_of tokens)) _ _ (not-inner a i (head_of tokens) fit.left.first none)
      ∙ cond-false (is_begun entries b (head_of tokens)) _ _ (not-inner b i (head_of tokens) fit.right.first none)
      ∙ cond-true (may_be_empty entries a) _ _ h.0

  chosen-right : (n i a b : ℕ) (stack : List Item) (tokens : List ℕ) → IsChosen entries i a b → IsFollowedBy entries i stack
      → Starts entries n b stack tokens → move_in entries i (head_of tokens) (Choice a b) ≡ Some (Become b)
  chosen-right n i a b stack tokens fit followed (inl h) =
      cond-false (is_begun entries a (head_of tokens)) _ _
      (false_from_ne_true (is_begun entries a (head_of tokens)) (λ q. fit.apart.first (head_of tokens) q h))
      ∙ cond-true (is_begun entries b (head_of tokens)) _ _ h
  chosen-right n i a b stack tokens fit followed (inr h) =
      let none = not-begun n i stack tokens (fit.clear (fit.right.empty h.0)) followed h.1 in
      cond-false (is_begun entries a (head_of tokens)) _ _ (not-inner a i (head_of tokens) fit.left.first none)
      ∙ cond-false (is_begun entries b (head_of tokens)) _ _ (not-inner b i (head_of tokens) fit.right.first none)
      ∙ cond-false (may_be_empty entries a) _ _ (false_from_ne_true (may_be_empty entries a) (λ q. fit.apart.empty q h.0))
      ∙ cond-true (may_be_empty entries b) _ _ h.0

  chosen-maybe : (n i a : ℕ) (x : Move) (behind : List Item) (tokens : List ℕ) → IsMaybe entries i a
      → Starts entries n a behind tokens
      → cond (is_begun entries a (head_of tokens)) (Some x) (cond (may_pass entries i (head_of tokens)) (Some Pass) None) ≡ Some x
  chosen-maybe n i a x behind tokens fit (inl h) = cond-true (is_begun entries a (head_of tokens)) _ _ h
  chosen-maybe n i a x behind tokens fit (inr h) = absurd (fit.filled h.0)

  passes : (n i : ℕ) (stack : List Item) (tokens : List ℕ) (es : List Action) → IsFollowedBy entries i stack
      → Derives entries n stack tokens es → may_pass entries i (head_of tokens) ≡ true
  passes n i stack [] es followed d = refl
  passes n i stack (t ∷ ts) es followed d = followed n t ts es d

  chosen-pass : (n i a : ℕ) (x : Move) (stack : List Item) (tokens : List ℕ) (es : List Action) → IsMaybe entries i a → IsFollowedBy entries i stack
      → Derives entries n stack tokens es
      → cond (is_begun entries a (head_of tokens)) (Some x) (cond (may_pass entries i (head_of tokens)) (Some Pass) None) ≡ Some Pass
  chosen-pass n i a x stack tokens es fit followed d =
      cond-false (is_begun entries a (head_of tokens)) _ _
      (not-inner a i (head_of tokens) fit.inner.first
      (not-begun (suc n) i stack tokens fit.clear followed (record { m = n; fs = es; less = omega arith; derives = d })))
      ∙ cond-true (may_pass entries i (head_of tokens)) _ _ (passes n i stack tokens es followed d)

  chosen-in : (n i : ℕ) (rule : Rule) (m : Move) (stack : List Item) (tokens : List ℕ) (es : List Action)
      → IsFit entries i rule → Allows i rule m → IsFollowedBy entries i stack → After (Derives entries n) m stack tokens es
      → move_in entries i (head_of tokens) rule ≡ Some m
  chosen-in n i rule m stack tokens es fit may followed after = by rule fit may
    where
      behind : (x : Move) → m ≡ x → After (Derives entries n) x stack tokens es
      behind x e = subst (λ (y : Move). After (Derives entries n) y stack tokens es) e after

      by : (f : Rule) → IsFit entries i f → Allows i f m → move_in entries i (head_of tokens) f ≡ Some m
      by Empty fit may = ap Some (sym may)
      by (Token kind) fit may =
          let w = behind (Take kind) may in token-is kind w.0 tokens w.2 ∙ ap Some (sym may)
      by (Node kind a) fit may = ap Some (sym may)
      by (Chain a) fit may = ap Some (sym may)
      by (Wrap kind a) fit may = ap Some (sym may)
      by (Seq a b) fit may = ap Some (sym may)
      by (Choice a b) fit (inl may) =
          chosen-left n i a b stack tokens fit followed (starts n a stack tokens es (behind (Become a) may)) ∙ ap Some (sym may)
      by (Choice a b) fit (inr may) =
          chosen-right n i a b stack tokens fit followed (starts n b stack tokens es (behind (Become b) may)) ∙ ap Some (sym may)
      by (Optional a) fit (inl may) =
          chosen-maybe n i a (Become a) stack tokens fit (starts n a stack tokens es (behind (Become a) may)) ∙ ap Some (sym may)
      by (Optional a) fit (inr may) =
          chosen-pass n i a (Become a) stack tokens es fit followed (behind Pass may) ∙ ap Some (sym may)
      by (Star a) fit (inl may) =
          chosen-maybe n i a (Both a i) (Want i ∷ stack) tokens fit.0 (starts n a (Want i ∷ stack) tokens es (behind (Both a i) may)) ∙ ap Some (sym may)
      by (Star a) fit (inr may) =
          chosen-pass n i a (Both a i) stack tokens es fit.0 followed (behind Pass may) ∙ ap Some (sym may)

  chosen-at : (n i : ℕ) (o : Option Entry) (m : Move) (stack : List Item) (tokens : List ℕ) (es : List Action)
      → slice_get entries i ≡ o → AllowsAt i o m → IsFollowedBy entries i stack → After (Derives entries n) m stack tokens es
      → move_at entries i (head_of tokens) o ≡ Some m
  chosen-at n i None m stack tokens es e may followed after = absurd may
  chosen-at n i (Some entry) m stack tokens es e may followed after =
      chosen-in n i entry.rule m stack tokens es (fits.at i entry e) may followed after

  chosen : (n i : ℕ) (m : Move) (stack : List Item) (tokens : List ℕ) (es : List Action)
      → AllowsAt i (slice_get entries i) m → IsFollowedBy entries i stack → After (Derives entries n) m stack tokens es
      → move_of entries i (head_of tokens) ≡ Some m
  chosen n i m stack tokens es may followed after =
      chosen-at n i (slice_get entries i) m stack tokens es refl may followed after

  -- ---- what follows is known behind a move

  followed-seq : (i a b : ℕ) (stack : List Item) → IsJoined entries i a b → IsFollowedBy entries i stack
      → IsFollowedBy entries a (Want b ∷ stack)
  followed-seq i a b stack fit followed n t ts es d =
      elim (starts n b stack (t ∷ ts) es d) [
        | inl h ↦ fit.between (Some t) h
        | inr h ↦ fit.behind h.0 (Some t) (followed h.1.m t ts h.1.fs h.1.derives)
      ]

  followed-star : (i a : ℕ) (stack : List Item) → IsMaybe entries i a → IsBefore entries a i → IsFollowedBy entries i stack
      → IsFollowedBy entries a (Want i ∷ stack)
  followed-star i a stack fit before followed n t ts es d =
      elim (starts n i stack (t ∷ ts) es d) [
        | inl h ↦ before (Some t) h
        | inr h ↦ fit.inner.follow (Some t) (followed h.1.m t ts h.1.fs h.1.derives)
      ]

  followed-inner : (i a : ℕ) (stack : List Item) → FollowsIn entries i a → IsFollowedBy entries i stack → IsFollowedBy entries a stack
  followed-inner i a stack follow followed n t ts es d = follow (Some t) (followed n t ts es d)

  followed-node : (i a : ℕ) (stack : List Item) → FollowsIn entries i a → IsFollowedBy entries i stack → IsFollowedBy entries a (End ∷ stack)
  followed-node i a stack follow followed zero t ts es d = absurd (cc)
  followed-node i a stack follow followed (suc n) t ts es d = follow (Some t) (followed n t ts d.0 d.2)

  followed-chain : (i a : ℕ) (stack : List Item) → FollowsIn entries i a → IsFollowedBy entries i stack → IsFollowedBy entries a (Leave ∷ stack)
  followed-chain i a stack follow followed zero t ts es d = absurd (cc)
  followed-chain i a stack follow followed (suc n) t ts es d = follow (Some t) (followed n t ts d.0 d.2)

  stack_after : Move → List Item → List Item
  stack_after (Take kind) stack = stack
  stack_after (Enter kind a) stack = Want a ∷ End ∷ stack
  stack_after (Begin a) stack = Want a ∷ Leave ∷ stack
  stack_after (Surround kind a) stack = Want a ∷ End ∷ stack
  stack_after (Both a b) stack = Want a ∷ Want b ∷ stack
  stack_after (Become a) stack = Want a ∷ stack
  stack_after Pass stack = stack

  followed-in : (i : ℕ) (rule : Rule) (m : Move) (stack : List Item) → IsFit entries i rule → Allows i rule m
      → AreFollowed entries (Want i ∷ stack) → AreFollowed entries (stack_after m stack)
  unfolding stack_after
  followed-in i rule m stack fit may followed = by rule fit may
    where
      moved : (x : Move) → m ≡ x → AreFollowed entries (stack_after x stack) → AreFollowed entries (stack_after m stack)
      moved x e h = subst (λ (y : Move). AreFollowed entries (stack_after y stack)) (sym e) h

      by : (f : Rule) → IsFit entries i f → Allows i f m → AreFollowed entries (stack_after m stack)
      by Empty fit may = moved Pass may followed.1
      by (Token kind) fit may = moved (Take kind) may followed.1
      by (Node kind a) fit may =
          moved (Enter kind a) may (followed-node i a stack fit.follow followed.0, followed.1)
      by (Chain a) fit may =
          moved (Begin a) may (followed-chain i a stack fit.follow followed.0, followed.1)
      by (Wrap kind a) fit may =
          moved (Surround kind a) may (followed-node i a stack fit.follow followed.0, followed.1)
      by (Seq a b) fit may =
          moved (Both a b) may
          (followed-seq i a b stack fit followed.0, (followed-inner i b stack fit.follow followed.0, followed.1))
      by (Choice a b) fit (inl may) =
          moved (Become a) may (followed-inner i a stack fit.left.follow followed.0, followed.1)
      by (Choice a b) fit (inr may) =
          moved (Become b) may (followed-inner i b stack fit.right.follow followed.0, followed.1)
      by (Optional a) fit (inl may) =
          moved (Become a) may (followed-inner i a stack fit.inner.follow followed.0, followed.1)
      by (Optional a) fit (inr may) = moved Pass may followed.1
      by (Star a) fit (inl may) =
          moved (Both a i) may (followed-star i a stack fit.0 fit.1 followed.0, followed)
      by (Star a) fit (inr may) = moved Pass may followed.1

  followed-at : (i : ℕ) (o : Option Entry) (m : Move) (stack : List Item) → slice_get entries i ≡ o → AllowsAt i o m
      → AreFollowed entries (Want i ∷ stack) → AreFollowed entries (stack_after m stack)
  followed-at i None m stack e may followed = absurd may
  followed-at i (Some entry) m stack e may followed = followed-in i entry.rule m stack (fits.at i entry e) may followed

-- After so many steps: the rest of a derivation of all tokens by these actions, in n steps.
pub record IsWithin (entries : List Entry) (tokens : List ℕ) (n : ℕ) (all : List Action) (count : ℕ) (state : State) : Type 0 where
  pub m : ℕ
  pub fs : List Action
  pub steps : m + count ≡ n
  pub derives : Derives entries m state.stack (drop state.place tokens) fs
  pub joined : state.actions ++ fs ≡ all
  pub no_errors : state.errors ≡ []
  pub followed : AreFollowed entries state.stack

module _ (entries : List Entry) (fits : IsPredictive entries) (tokens : List ℕ) (n : ℕ) (all : List Action) where
  one-more : (actions : List Action) (e : Action) (fs gs : List Action) → fs ≡ e ∷ gs → actions ++ fs ≡ all → (actions ++ (e ∷ [])) ++ gs ≡ all
  one-more actions e fs gs is joined = append_assoc actions (e ∷ []) gs ∙ ap (λ x. actions ++ x) (sym is) ∙ joined

  same-rest : (place kind : ℕ) (us : List ℕ) → drop place tokens ≡ kind ∷ us → us ≡ drop (place + 1) tokens
  same-rest place kind us e =
      let next : slice_get tokens place ≡ Some kind = next-head tokens place ∙ ap head_of e in
      let h = drop-next tokens place kind next in cc

  moved : (next : Option ℕ) (x : Move) (i m count : ℕ) (stack : List Item) (state : State) (fs : List Action)
      → suc m + count ≡ n → After (Derives entries m) x stack (drop state.place tokens) fs
      → state.actions ++ fs ≡ all → state.errors ≡ [] → AreFollowed entries (stack_after entries fits x stack)
      → IsWithin entries tokens n all (count + 1) (moved_by entries next (Some x) i stack state)
  unfolding stack_after
  moved next (Take kind) i m count stack state fs steps after joined none followed = record {
    m = m;
    fs = after.1;
    steps = omega arith;
    derives = subst (λ (x : List ℕ). Derives entries m stack x after.1) (same-rest state.place kind after.0 after.2) after.4;
    joined = one-more state.actions action.Token fs after.1 after.3 joined;
    no_errors = none;
    followed = followed;
  }
  moved next (Enter kind a) i m count stack state fs steps after joined none followed = record {
    m = m;
    fs = after.0;
    steps = omega arith;
    derives = after.2;
    joined = one-more state.actions (Open kind) fs after.0 after.1 joined;
    no_errors = none;
    followed = followed;
  }
  moved next (Begin a) i m count stack state fs steps after joined none followed = record {
    m = m;
    fs = after.0;
    steps = omega arith;
    derives = after.2;
    joined = one-more state.actions Mark fs after.0 after.1 joined;
    no_errors = none;
    followed = followed;
  }
  moved next (Surround kind a) i m count stack state fs steps after joined none followed = record {
    m = m;
    fs = after.0;
    steps = omega arith;
    derives = after.2;
    joined = one-more state.actions (Around kind) fs after.0 after.1 joined;
    no_errors = none;
    followed = followed;
  }
  moved next (Both a b) i m count stack state fs steps after joined none followed = record {
    m = m;
    fs = fs;
    steps = omega arith;
    derives = after;
    joined = joined;
    no_errors = none;
    followed = followed;
  }
  moved next (Become a) i m count stack state fs steps after joined none followed = record {
    m = m;
    fs = fs;
    steps = omega arith;
    derives = after;
    joined = joined;
    no_errors = none;
    followed = followed;
  }
  moved next Pass i m count stack state fs steps after joined none followed = record {
    m = m;
    fs = fs;
    steps = omega arith;
    derives = after;
    joined = joined;
    no_errors = none;
    followed = followed;
  }

  chosen-next : (i m : ℕ) (x : Move) (stack : List Item) (state : State) (fs : List Action)
      → AllowsAt i (slice_get entries i) x → IsFollowedBy entries i stack → After (Derives entries m) x stack (drop state.place tokens) fs
      → move_of entries i (slice_get tokens state.place) ≡ Some x
  chosen-next i m x stack state fs may followed after =
      ap (λ (next : Option ℕ). move_of entries i next) (next-head tokens state.place)
      ∙ chosen entries fits m i x stack (drop state.place tokens) fs may followed after

  steps : (stack : List Item) (m count : ℕ) (state : State) (fs : List Action)
      → (stack ≡ [] → ⊥) → m + count ≡ n → Derives entries m stack (drop state.place tokens) fs
      → state.actions ++ fs ≡ all → state.errors ≡ [] → AreFollowed entries stack
      → IsWithin entries tokens n all (count + 1) (stepped entries tokens stack state)
  steps [] m count state fs ne e d joined none followed = absurd (ne refl)
  steps (End ∷ stack) zero count state fs ne e d joined none followed = absurd (cc)
  steps (End ∷ stack) (suc m) count state fs ne e d joined none followed = record {
    m = m;
    fs = d.0;
    steps = omega arith;
    derives = d.2;
    joined = one-more state.actions Close fs d.0 d.1 joined;
    no_errors = none;
    followed = followed;
  }
  steps (Leave ∷ stack) zero count state fs ne e d joined none followed = absurd (cc)
  steps (Leave ∷ stack) (suc m) count state fs ne e d joined none followed = record {
    m = m;
    fs = d.0;
    steps = omega arith;
    derives = d.2;
    joined = one-more state.actions Done fs d.0 d.1 joined;
    no_errors = none;
    followed = followed;
  }
  steps (Want i ∷ stack) zero count state fs ne e d joined none followed = absurd (cc)
  steps (Want i ∷ stack) (suc m) count state fs ne e d joined none followed =
      subst (λ (o : Option Move). IsWithin entries tokens n all (count + 1) (moved_by entries (slice_get tokens state.place) o i stack (with_stack stack state)))
      (sym (chosen-next i m d.0 stack state fs d.1 followed.0 d.2))
      (moved (slice_get tokens state.place) d.0 i m count stack (with_stack stack state) fs e d.2 joined none (followed-at entries fits i (slice_get entries i) d.0 stack refl d.1 followed))

  pub complete-step : (count : ℕ) (state : State) → (state.stack ≡ [] → ⊥) → IsWithin entries tokens n all count state
      → IsWithin entries tokens n all (count + 1) (step_of entries tokens state)
  complete-step count state ne w = steps state.stack w.m count state w.fs ne w.steps w.derives w.joined w.no_errors w.followed

  ended : (m : ℕ) (stack : List Item) (rest : List ℕ) (fs : List Action) → stack ≡ [] → Derives entries m stack rest fs → (rest ≡ []) × (fs ≡ [])
  ended zero stack rest fs e d = (d.1, d.2)
  ended (suc m) [] rest fs e d = absurd d
  ended (suc m) (x ∷ stack) rest fs e d = absurd (cc)

  used-up : (m : ℕ) (stack : List Item) (rest : List ℕ) (fs : List Action) → m ≡ 0 → Derives entries m stack rest fs → stack ≡ []
  used-up zero stack rest fs e d = d.0
  used-up (suc m) stack rest fs e d = absurd (cc)

  -- all steps of the derivation were made
  pub complete-used : (count : ℕ) (state : State) → n ≤ count → IsWithin entries tokens n all count state → state.stack ≡ []
  complete-used count state le w = used-up w.m state.stack (drop state.place tokens) w.fs (let e = w.steps in omega arith) w.derives

  -- the stack is empty: all is derived, by these actions
  pub complete-end : (count : ℕ) (state : State) → state.stack ≡ [] → IsWithin entries tokens n all count state
      → (drop state.place tokens ≡ []) × (state.actions ≡ all)
  complete-end count state e w =
      let h = ended w.m state.stack (drop state.place tokens) w.fs e w.derives in
      (h.0, (let p : state.actions ++ [] ≡ all = subst (λ (x : List Action). state.actions ++ x ≡ all) h.1 w.joined in sym (append-nil state.actions) ∙ p))
