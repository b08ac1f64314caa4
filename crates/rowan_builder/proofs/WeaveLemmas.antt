-- How the items of a builder change: with one more element, with one more opening, and with the
-- innermost opening closed.
use Rattle.std.proofs.Common.{◌≡◌, ◌≢◌, ℕ, zero, suc, ◌+◌, ◌-◌, ◌≤◌, List, [], ◌∷◌, ◌++◌, map}
use Rattle.std.proofs.Common.{length, take, drop, refl, sym, ◌∙◌, ap, subst, arith, append_assoc}
use Rattle.std.proofs.Common.{length-append, length-drop, length-take, Some, slice_get, get_or}
use Rattle.std.proofs.lemmas.List.{append-nil, map-append, take-append-le, drop-append-le}
use Rattle.std.proofs.lemmas.List.{take-take, drop-take, drop-drop, take-append-drop}
use Rattle.std.proofs.lemmas.Grind.{flat_map-append}
use Rattle.std.proofs.Math.Seq.{take-append_seam}
use Rattle.std.proofs.Math.ListN.{drop_of_length-le}
use Rattle.rowan_green.specs.declared.fault.Fault.{Fault}
use Rattle.rowan_green.specs.declared.fault.Fault.TheVariants.{TextTooLong, TooManyChildren}
use Rattle.rowan_green.specs.declared.fault.Fault.TheVariants.{CheckpointPast, CheckpointBefore}
use Rattle.rowan_green.specs.declared.fault.Fault.TheVariants.{NothingOpen, NotOneElement, NotANode}
use Rattle.rowan_green.specs.declared.fault.Fault.TheVariants.{OtherKind, NotFound, Memory}
use Rattle.rowan_green.specs.declared.fault.Fault.TheVariants.{UnknownMark, NotOneList}
use Rattle.rowan_builder.specs.declared.builder.owning.Opening.{Opening}
use Rattle.rowan_green.specs.declared.utility_types.NodeOrToken.TheVariants.{Node, Token}
use Rattle.rowan_green.specs.Term.{TokenTerm, NodeTerm, Term, node_of, forest}
use Rattle.rowan_green.specs.Fits.{AreWithin, PassesLimit}
use Rattle.rowan_green.specs.Word.{Symbol, Open, Leaf, Close, forest_word, node_word, Item, Bare}
use Rattle.rowan_green.specs.Word.{Whole, item_word, spelled, whole_terms, HasParts, HasTerms}
use Rattle.rowan_green.specs.Word.{Closes, WhyNotClosed, HasNoneOpen}
use Rattle.rowan_builder.specs.Weave.{weave, AreInOrder}
use Rattle.rowan_terms.proofs.ItemLemmas.{forest_word-forest, spelled-close, whole_terms-append}
use Rattle.rowan_terms.proofs.ItemLemmas.{whole_terms-map, whole_terms-open}
use Rattle.rowan_terms.proofs.Words.{not_wholes, parts-unique}

pub AreInOrder-ends : (at : ℕ) (os : List Opening) (end : ℕ) → AreInOrder at os end → at ≤ end
AreInOrder-ends at [] end h = h
AreInOrder-ends at (o ∷ os) end h = omega (arith, h.0, AreInOrder-ends o.first_child os end h.1)

pub AreInOrder-grow : (at : ℕ) (os : List Opening) (end more : ℕ) → AreInOrder at os end
    → end ≤ more → AreInOrder at os more
AreInOrder-grow at [] end more h le = omega arith
AreInOrder-grow at (o ∷ os) end more h le = (h.0, AreInOrder-grow o.first_child os end more h.1 le)

pub AreInOrder-push : (at : ℕ) (os : List Opening) (o : Opening) (end : ℕ)
    → AreInOrder at os o.first_child → o.first_child ≤ end → AreInOrder at (os ++ o ∷ []) end
AreInOrder-push at [] o end h le = (h, le)
AreInOrder-push at (p ∷ os) o end h le = (h.0, AreInOrder-push p.first_child os o end h.1 le)

pub AreInOrder-pop : (at : ℕ) (os : List Opening) (o : Opening) (end : ℕ)
    → AreInOrder at (os ++ o ∷ []) end → AreInOrder at os o.first_child × (o.first_child ≤ end)
AreInOrder-pop at [] o end h = h
AreInOrder-pop at (p ∷ os) o end h = let r = AreInOrder-pop p.first_child os o end h.1 in
    ((h.0, r.0), r.1)

-- one more element stands behind all items
pub weave-append : (at : ℕ) (os : List Opening) (ts us : List Term)
    → AreInOrder at os (at + length ts) → weave at os (ts ++ us) ≡ weave at os ts ++ map Whole us
weave-append at [] ts us h = map-append Whole ts us
weave-append at (o ∷ os) ts us h =
    let d = o.first_child - at in
    let in_ts : d ≤ length ts =
    omega (arith, AreInOrder-ends o.first_child os (at + length ts) h.1) in
    let rest : AreInOrder o.first_child os (o.first_child + length (drop d ts)) =
    AreInOrder-grow o.first_child os (at + length ts) (o.first_child + length (drop d ts)) h.1
    (omega (arith, length-drop d ts, h.0)) in
    ap (λ ys. map Whole ys ++ Bare o.kind.0 ∷ weave o.first_child os (drop d (ts ++ us)))
    (take-append-le d ts us in_ts)
    ∙ ap (λ ys. map Whole (take d ts) ++ Bare o.kind.0 ∷ weave o.first_child os ys)
    (drop-append-le d ts us in_ts)
    ∙ ap (λ is. map Whole (take d ts) ++ Bare o.kind.0 ∷ is)
    (weave-append o.first_child os (drop d ts) us rest)
    ∙ sym (append_assoc (map Whole (take d ts)) (Bare o.kind.0 ∷ weave o.first_child os (drop d ts))
    (map Whole us))

-- the innermost opening stands before the elements from its place on
pub weave-open : (at : ℕ) (os : List Opening) (o : Opening) (ts : List Term)
    → AreInOrder at os o.first_child → o.first_child ≤ at + length ts →
    weave at (os ++ o ∷ []) ts ≡ weave at os (take (o.first_child - at) ts) ++ Bare o.kind.0
    ∷ map Whole (drop (o.first_child - at) ts)
weave-open at [] o ts h le = refl
weave-open at (p ∷ os) o ts h le =
    let d = o.first_child - at in
    let e = p.first_child - at in
    let f = o.first_child - p.first_child in
    let ends = AreInOrder-ends p.first_child os o.first_child h.1 in
    let sum : e + f ≡ d = omega (arith, ends, h.0) in
    let fits : o.first_child ≤ p.first_child + length (drop e ts) =
    omega (arith, ends, h.0, length-drop e ts) in
    let front : take e (take d ts) ≡ take e ts = take-take e d ts (omega arith) in
    let middle : drop e (take d ts) ≡ take f (drop e ts) =
    ap (λ n. drop e (take n ts)) (sym sum) ∙ drop-take e f ts in
    let back : drop f (drop e ts) ≡ drop d ts = drop-drop f e ts ∙ ap (λ n. drop n ts) sum in
    ap (λ is. map Whole (take e ts) ++ Bare p.kind.0 ∷ is)
    (weave-open p.first_child os o (drop e ts) h.1 fits)
    ∙ ap (λ ys. map Whole (take e ts) ++ Bare p.kind.0
    ∷ (weave p.first_child os ys ++ Bare o.kind.0 ∷ map Whole (drop f (drop e ts))))
    (sym middle)
    ∙ ap (λ ys. map Whole (take e ts) ++ Bare p.kind.0
    ∷ (weave p.first_child os (drop e (take d ts)) ++ Bare o.kind.0 ∷ map Whole ys)) back
    ∙ ap (λ ys. map Whole ys ++ Bare p.kind.0
    ∷ (weave p.first_child os (drop e (take d ts)) ++ Bare o.kind.0 ∷ map Whole (drop d ts)))
    (sym front)
    ∙ sym (append_assoc (map Whole (take e (take d ts)))
    (Bare p.kind.0 ∷ weave p.first_child os (drop e (take d ts)))
    (Bare o.kind.0 ∷ map Whole (drop d ts)))

-- the whole terms are the elements
pub whole_terms-weave : (at : ℕ) (os : List Opening) (ts : List Term)
    → whole_terms (weave at os ts) ≡ ts
whole_terms-weave at [] ts = whole_terms-map ts
whole_terms-weave at (o ∷ os) ts =
    let d = o.first_child - at in
    whole_terms-append (map Whole (take d ts)) (Bare o.kind.0 ∷ weave o.first_child os (drop d ts))
    ∙ ap (λ us. us ++ whole_terms (weave o.first_child os (drop d ts)))
    (whole_terms-map (take d ts))
    ∙ ap (λ us. take d ts ++ us) (whole_terms-weave o.first_child os (drop d ts))
    ∙ take-append-drop d ts

last_parts_at : (xs : List Opening) (n : ℕ) (o : Opening) → length xs ≡ suc n
    → slice_get xs n ≡ Some o → xs ≡ take n xs ++ o ∷ []
last_parts_at [] n o long e = absurd (omega arith)
last_parts_at (x ∷ []) zero o long e = let same : x ≡ o = cc in ap (λ y. y ∷ []) same
last_parts_at (x ∷ y ∷ xs) zero o long e = absurd (omega arith)
last_parts_at (x ∷ xs) (suc n) o long e = let shorter : length xs ≡ suc n = omega arith in
    ap (λ ys. x ∷ ys) (last_parts_at xs n o shorter e)

-- the last of a list, behind the others
pub last_parts : (xs : List Opening) (o : Opening) → slice_get xs (length xs - 1) ≡ Some o
    → xs ≡ take (length xs - 1) xs ++ o ∷ []
last_parts [] o e = absurd cc
last_parts (x ∷ xs) o e =
    let n : length (x ∷ xs) - 1 ≡ length xs = omega arith in
    let there : slice_get (x ∷ xs) (length xs) ≡ Some o =
    subst (λ k. slice_get (x ∷ xs) k ≡ Some o) n e in
    subst (λ k. x ∷ xs ≡ take k (x ∷ xs) ++ o ∷ []) (sym n)
    (last_parts_at (x ∷ xs) (length xs) o refl there)

take_whole : (ts : List Term) → take (length ts) ts ≡ ts
take_whole ts = ap (λ us. take (length ts) us) (sym (append-nil ts)) ∙ take-append_seam ts []

-- ---- the words, as the calls change them

pub spelled-token : (os : List Opening) (ts : List Term) (t : TokenTerm)
    → AreInOrder 0 os (length ts)
    → spelled (weave 0 os (ts ++ Token t ∷ [])) ≡ spelled (weave 0 os ts) ++ Leaf t ∷ []
spelled-token os ts t h =
    ap spelled (weave-append 0 os ts (Token t ∷ [])
    (AreInOrder-grow 0 os (length ts) (0 + length ts) h (omega arith)))
    ∙ flat_map-append item_word (weave 0 os ts) (Whole (Token t) ∷ [])

pub weave-last : (os : List Opening) (o : Opening) (ts : List Term)
    → AreInOrder 0 (os ++ o ∷ []) (length ts) →
    weave 0 (os ++ o ∷ []) ts ≡ weave 0 os (take o.first_child ts) ++ Bare o.kind.0
    ∷ map Whole (drop o.first_child ts)
weave-last os o ts h =
    let r = AreInOrder-pop 0 os o (length ts) h in
    let same : o.first_child - 0 ≡ o.first_child = omega arith in
    weave-open 0 os o ts r.0 (omega (arith, r.1))
    ∙ ap (λ d. weave 0 os (take d ts) ++ Bare o.kind.0 ∷ map Whole (drop d ts)) same

pub spelled-start : (os : List Opening) (ts : List Term) (o : Opening) → AreInOrder 0 os (length ts)
    → o.first_child ≡ length ts
    → spelled (weave 0 (os ++ o ∷ []) ts) ≡ spelled (weave 0 os ts) ++ Open o.kind.0 ∷ []
spelled-start os ts o h e =
    let places : AreInOrder 0 (os ++ o ∷ []) (length ts) =
    AreInOrder-push 0 os o (length ts)
    (AreInOrder-grow 0 os (length ts) o.first_child h (omega arith)) (omega arith) in
    ap spelled (weave-last os o ts places
    ∙ ap (λ n. weave 0 os (take n ts) ++ Bare o.kind.0 ∷ map Whole (drop n ts)) e
    ∙ ap (λ us. weave 0 os us ++ Bare o.kind.0 ∷ map Whole (drop (length ts) ts)) (take_whole ts)
    ∙ ap (λ us. weave 0 os ts ++ Bare o.kind.0 ∷ map Whole us) (drop_of_length-le ts (omega arith)))
    ∙ flat_map-append item_word (weave 0 os ts) (Bare o.kind.0 ∷ [])

pub spelled-finish : (os : List Opening) (o : Opening) (ts : List Term)
    → AreInOrder 0 (os ++ o ∷ []) (length ts) →
    spelled (weave 0 os (take o.first_child ts ++ Node (node_of o.kind.0 (drop o.first_child ts))
    ∷ [])) ≡ spelled (weave 0 (os ++ o ∷ []) ts) ++ Close ∷ []
spelled-finish os o ts h =
    let r = AreInOrder-pop 0 os o (length ts) h in
    let here : AreInOrder 0 os (0 + length (take o.first_child ts)) =
    AreInOrder-grow 0 os o.first_child (0 + length (take o.first_child ts)) r.0
    (omega (arith, length-take o.first_child ts, r.1)) in
    ap spelled (weave-append 0 os (take o.first_child ts)
    (Node (node_of o.kind.0 (drop o.first_child ts)) ∷ []) here)
    ∙ spelled-close (weave 0 os (take o.first_child ts)) o.kind.0 (drop o.first_child ts)
    ∙ ap (λ is. spelled is ++ Close ∷ []) (sym (weave-last os o ts h))

-- ---- closing the innermost open node

-- o is the last of the open nodes, whose places are in order
pub record LastOpen (os : List Opening) (ts : List Term) (o : Opening) : Type 0 where
  pub last : slice_get os (length os - 1) ≡ Some o
  pub order : AreInOrder 0 os (length ts)

module _ (os : List Opening) (ts : List Term) (o : Opening) where
  abbrev pub outer : List Opening
  outer = take (length os - 1) os

  LastOpen-split : LastOpen os ts o → AreInOrder 0 (outer ++ o ∷ []) (length ts)
  LastOpen-split h = subst (λ ps. AreInOrder 0 ps (length ts)) (last_parts os o h.last) h.order

  pub LastOpen-place : LastOpen os ts o → o.first_child ≤ length ts
  LastOpen-place h = (AreInOrder-pop 0 outer o (length ts) (LastOpen-split h)).1

  pub LastOpen-parts : (w : List Symbol) → LastOpen os ts o → spelled (weave 0 os ts) ≡ w
      → HasParts w (weave 0 outer (take o.first_child ts) ++ Bare o.kind.0
      ∷ map Whole (drop o.first_child ts))
  LastOpen-parts w h e = record {
    spells = sym e ∙ ap (λ ps. spelled (weave 0 ps ts)) (last_parts os o h.last)
        ∙ ap spelled (weave-last outer o ts (LastOpen-split h));
  }

  -- the closing is refused as the node over the elements behind the opening is
  pub LastOpen-refuses : (w : List Symbol) (e : Fault) → LastOpen os ts o
      → spelled (weave 0 os ts) ≡ w → (e ≢ Memory → PassesLimit (drop o.first_child ts) e)
      → WhyNotClosed w e
  LastOpen-refuses w e h spells why = refused e why
    where
      parts : HasParts w (weave 0 outer (take o.first_child ts) ++ Bare o.kind.0
          ∷ map Whole (drop o.first_child ts))
      parts = LastOpen-parts w h spells

      refused : (f : Fault) → (f ≢ Memory → PassesLimit (drop o.first_child ts) f)
          → WhyNotClosed w f
      refused TextTooLong g = record {
        before = weave 0 outer (take o.first_child ts);
        kind = o.kind.0;
        children =
            drop o.first_child ts;
        parts = parts;
        passes = g (λ e. cc);
      }
      refused TooManyChildren g =
          record {
            before = weave 0 outer (take o.first_child ts);
            kind = o.kind.0;
            children =
                drop o.first_child ts;
            parts = parts;
            passes = g (λ e. cc);
          }
      refused Memory g = tt
      refused CheckpointPast g = absurd (g (λ e. cc)).passes
      refused CheckpointBefore g = absurd (g (λ e. cc)).passes
      refused NothingOpen g = absurd (g (λ e. cc)).passes
      refused NotOneElement g = absurd (g (λ e. cc)).passes
      refused NotANode g = absurd (g (λ e. cc)).passes
      refused OtherKind g = absurd (g (λ e. cc)).passes
      refused NotFound g = absurd (g (λ e. cc)).passes
      refused UnknownMark g = absurd (g (λ e. cc)).passes
      refused NotOneList g = absurd (g (λ e. cc)).passes

  -- the opening and the elements behind it give way to the node
  pub LastOpen-order : (os' : List Opening) (ts' : List Term) (n : NodeTerm) → LastOpen os ts o
      → os' ≡ take (length os - 1) os → ts' ≡ take o.first_child ts ++ Node n ∷ []
      → AreInOrder 0 os' (length ts')
  LastOpen-order os' ts' n h e f =
      let r = AreInOrder-pop 0 outer o (length ts) (LastOpen-split h) in
      let long : o.first_child ≤ length ts' =
      omega (
        arith,
        ap length f,
        length-append (take o.first_child ts) (Node n ∷ []),
        length-take o.first_child ts,
        r.1,
      ) in
      subst (λ ps. AreInOrder 0 ps (length ts')) (sym e)
      (AreInOrder-grow 0 outer o.first_child (length ts') r.0 long)

  pub LastOpen-closes : (os' : List Opening) (ts' : List Term) (n : NodeTerm) (w : List Symbol)
      → LastOpen os ts o → spelled (weave 0 os ts) ≡ w → os' ≡ take (length os - 1) os
      → ts' ≡ take o.first_child ts ++ Node n ∷ []
      → n ≡ node_of o.kind.0 (drop o.first_child ts) → AreWithin (drop o.first_child ts)
      → Closes w n (spelled (weave 0 os' ts'))
  LastOpen-closes os' ts' n w h spells e f g within = record {
    before = weave 0 outer (take o.first_child ts);
    kind = o.kind.0;
    children = drop o.first_child ts;
    parts = LastOpen-parts w h spells;
    within = within;
    closes = g;
    closed =
        ap (λ ps. spelled (weave 0 ps ts')) e
        ∙ ap (λ us. spelled (weave 0 outer us))
        (f ∙ ap (λ m. take o.first_child ts ++ Node m ∷ []) g)
        ∙ spelled-finish outer o ts (LastOpen-split h)
        ∙ ap (λ ps. spelled (weave 0 ps ts) ++ Close ∷ []) (sym (last_parts os o h.last))
        ∙ ap (λ v. v ++ Close ∷ []) spells;
  }

-- the terms of a builder's word are its elements
pub HasTerms-weave : (os : List Opening) (ts us : List Term) (w : List Symbol)
    → spelled (weave 0 os ts) ≡ w → ts ≡ us → HasTerms w us
HasTerms-weave os ts us w e same =
    record {
      items = weave 0 os ts;
      parts = record { spells = sym e };
      terms =
          whole_terms-weave 0 os ts ∙ same;
    }

-- a list of one element is that element alone
pub alone_at : (ts : List Term) (t : Term) → length ts ≡ 1 → t ≡ get_or ts 0 t → ts ≡ t ∷ []
alone_at [] t long e = absurd (omega arith)
alone_at (u ∷ []) t long e = ap (λ v. v ∷ []) (sym e)
alone_at (u ∷ v ∷ ts) t long e = absurd (omega arith)

pub alone_last : (ts us : List Term) (t : Term) → length ts ≡ 1 → ts ≡ us ++ t ∷ [] → ts ≡ t ∷ []
alone_last ts [] t long e = e
alone_last ts (u ∷ us) t long e = absurd (omega (arith, ap length e, length-append us (t ∷ [])))

-- where an opening is bare, it is not so that none is
pub not_HasNoneOpen : (os : List Opening) (ts : List Term) (o : Opening) (w : List Symbol)
    → LastOpen os ts o → spelled (weave 0 os ts) ≡ w → HasNoneOpen w → ⊥
not_HasNoneOpen os ts o w h e none =
    let outer = take (length os - 1) os in
    not_wholes (weave 0 outer (take o.first_child ts)) o.kind.0 (drop o.first_child ts) none.wholes
    (parts-unique w (weave 0 outer (take o.first_child ts) ++ Bare o.kind.0
    ∷ map Whole (drop o.first_child ts)) (map Whole none.wholes) (LastOpen-parts os ts o w h e)
    none.parts)
