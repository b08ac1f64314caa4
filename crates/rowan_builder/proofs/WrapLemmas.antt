-- A wrap: a node that is opened at a checkpoint, and why it is refused.
use Rattle.std.proofs.Common.{◌≡◌, ℕ, ◌+◌, ◌-◌, ◌<◌, ◌≤◌, List, [], ◌∷◌, ◌++◌, map, length, take}
use Rattle.std.proofs.Common.{drop, refl, sym, ◌∙◌, ap, arith, Some, slice_get, length-take}
use Rattle.std.proofs.Common.{length-drop, length-append, append_assoc}
use Rattle.std.proofs.lemmas.List.{take-append-drop}
use Rattle.rowan_builder.specs.declared.builder.owning.Opening.{Opening}
use Rattle.rowan_green.specs.Term.{Term}
use Rattle.rowan_green.specs.Word.{Symbol, Item, Bare, Whole, spelled, whole_terms, count, HasCount}
use Rattle.rowan_green.specs.Word.{Wraps, IsPast, IsBeforeOpening}
use Rattle.rowan_builder.specs.Weave.{weave, AreInOrder, place_of_innermost}
use Rattle.rowan_terms.proofs.ItemLemmas.{whole_terms-append, whole_terms-map}
use Rattle.rowan_builder.proofs.WeaveLemmas.{whole_terms-weave}
use Rattle.rowan_builder.proofs.WeaveLemmas.{weave-append, weave-open, AreInOrder-ends}
use Rattle.rowan_builder.proofs.WeaveLemmas.{AreInOrder-grow, last_parts}
use Rattle.rowan_terms.proofs.Words.{parts-unique, not_wholes}

count-append : (xs ys : List Item) → count (xs ++ ys) ≡ count xs + count ys
count-append xs ys = ap length (whole_terms-append xs ys)
    ∙ length-append (whole_terms xs) (whole_terms ys)

count-map : (ts : List Term) → count (map Whole ts) ≡ length ts
count-map ts = ap length (whole_terms-map ts)

-- the whole terms of the items are the elements
pub count-weave : (at : ℕ) (os : List Opening) (ts : List Term) → count (weave at os ts) ≡ length ts
count-weave at os ts = ap length (whole_terms-weave at os ts)

pub HasCount-weave : (os : List Opening) (ts : List Term) (w : List Symbol) (n : ℕ)
    → spelled (weave 0 os ts) ≡ w → n ≡ length ts → HasCount w n
HasCount-weave os ts w n e same =
    record {
      items = weave 0 os ts;
      parts = record { spells = sym e };
      counted =
          count-weave 0 os ts ∙ sym same;
    }

-- a place that is not before the last open node is not before any
pub AreInOrder-last : (at : ℕ) (os : List Opening) (end p : ℕ) → AreInOrder at os end
    → place_of_innermost at os ≤ p → AreInOrder at os p
AreInOrder-last at [] end p h le = le
AreInOrder-last at (o ∷ os) end p h le = (h.0, AreInOrder-last o.first_child os end p h.1 le)

pub place_of_innermost-ends : (at : ℕ) (os : List Opening) (end : ℕ) → AreInOrder at os end
    → place_of_innermost at os ≤ end
place_of_innermost-ends at [] end h = h
place_of_innermost-ends at (o ∷ os) end h = place_of_innermost-ends o.first_child os end h.1

-- the items before the innermost opening, where there is one
record Innermost (at : ℕ) (os : List Opening) (ts : List Term) : Type 0 where
  before : List Item
  kind : ℕ
  after : List Term
  parts : weave at os ts ≡ before ++ Bare kind ∷ map Whole after
  place : at + count before ≡ place_of_innermost at os

innermost : (at : ℕ) (o : Opening) (os : List Opening) (ts : List Term)
    → AreInOrder at (o ∷ os) (at + length ts) → Innermost at (o ∷ os) ts
innermost at o [] ts h =
    let d = o.first_child - at in
    record {
      before = map Whole (take d ts);
      kind = o.kind.0;
      after = drop d ts;
      parts = refl;
      place = omega (arith, count-map (take d ts), length-take d ts, h.0, h.1);
    }
innermost at o (p ∷ os) ts h =
    let d = o.first_child - at in
    let long : at + length ts ≤ o.first_child + length (drop d ts) =
    omega (
      arith,
      length-drop d ts,
      h.0,
      AreInOrder-ends o.first_child (p ∷ os) (at + length ts) h.1,
    ) in
    let r = innermost o.first_child p os (drop d ts)
    (AreInOrder-grow o.first_child (p ∷ os) (at + length ts)
    (o.first_child + length (drop d ts)) h.1 long) in
    let whole = map Whole (take d ts) in
    record {
      before = whole ++ Bare o.kind.0 ∷ r.before;
      kind = r.kind;
      after = r.after;
      parts = ap (λ is. whole ++ Bare o.kind.0 ∷ is) r.parts
          ∙ sym (append_assoc whole (Bare o.kind.0 ∷ r.before) (Bare r.kind ∷ map Whole r.after));
      place = omega (
        arith,
        count-append whole (Bare o.kind.0 ∷ r.before),
        count-map (take d ts),
        length-take d ts,
        h.0,
        AreInOrder-ends o.first_child (p ∷ os) (at + length ts) h.1,
        r.place,
      );
    }

-- a list of items has one last opening
same_place : (xs ys : List Item) (k j : ℕ) (ts us : List Term)
    → xs ++ Bare k ∷ map Whole ts ≡ ys ++ Bare j ∷ map Whole us → count xs ≡ count ys
same_place [] [] k j ts us e = refl
same_place [] (y ∷ ys) k j ts us e = let rest : map Whole ts ≡ ys ++ Bare j ∷ map Whole us = cc in
    absurd (not_wholes ys j us ts (sym rest))
same_place (x ∷ xs) [] k j ts us e = let rest : xs ++ Bare k ∷ map Whole ts ≡ map Whole us = cc in
    absurd (not_wholes xs k ts us rest)
same_place (Bare m ∷ xs) (Bare n ∷ ys) k j ts us e =
    let rest : xs ++ Bare k ∷ map Whole ts ≡ ys ++ Bare j ∷ map Whole us = cc in
    same_place xs ys k j ts us rest
same_place (Whole t ∷ xs) (Whole u ∷ ys) k j ts us e =
    let rest : xs ++ Bare k ∷ map Whole ts ≡ ys ++ Bare j ∷ map Whole us = cc in
    omega (arith, same_place xs ys k j ts us rest)
same_place (Bare m ∷ xs) (Whole u ∷ ys) k j ts us e = absurd cc
same_place (Whole t ∷ xs) (Bare n ∷ ys) k j ts us e = absurd cc

-- ---- a builder's word

pub IsPast-weave : (os : List Opening) (ts : List Term) (w : List Symbol) (c : ℕ)
    → spelled (weave 0 os ts) ≡ w → length ts < c → IsPast w c
IsPast-weave os ts w c e past =
    record {
      items = weave 0 os ts;
      parts = record { spells = sym e };
      past =
          omega (arith, count-weave 0 os ts);
    }

pub not_IsPast : (os : List Opening) (ts : List Term) (w : List Symbol) (c : ℕ)
    → spelled (weave 0 os ts) ≡ w → c ≤ length ts → IsPast w c → ⊥
not_IsPast os ts w c e le h =
    omega (
      arith,
      ap count (parts-unique w h.items (weave 0 os ts) h.parts
          (record { spells = sym e })),
      count-weave 0 os ts,
      h.past,
    )

pub IsBeforeOpening-weave : (os : List Opening) (ts : List Term) (w : List Symbol) (c : ℕ)
    → spelled (weave 0 os ts) ≡ w → AreInOrder 0 os (length ts) → c < place_of_innermost 0 os
    → IsBeforeOpening w c
IsBeforeOpening-weave [] ts w c e h below = absurd (omega arith)
IsBeforeOpening-weave (o ∷ os) ts w c e h below =
    let r = innermost 0 o os ts
    (AreInOrder-grow 0 (o ∷ os) (length ts) (0 + length ts) h (omega arith)) in
    record {
      before = r.before;
      kind = r.kind;
      after = r.after;
      parts =
          record { spells = sym e ∙ ap spelled r.parts };
      below = omega (arith, r.place);
    }

pub not_IsBeforeOpening : (os : List Opening) (ts : List Term) (w : List Symbol) (c : ℕ)
    → spelled (weave 0 os ts) ≡ w → AreInOrder 0 os (length ts) → place_of_innermost 0 os ≤ c
    → IsBeforeOpening w c → ⊥
not_IsBeforeOpening [] ts w c e h le b =
    not_wholes b.before b.kind b.after ts
    (parts-unique w (b.before ++ Bare b.kind ∷ map Whole b.after) (map Whole ts) b.parts
    (record { spells = sym e }))
not_IsBeforeOpening (o ∷ os) ts w c e h le b =
    let r = innermost 0 o os ts
    (AreInOrder-grow 0 (o ∷ os) (length ts) (0 + length ts) h (omega arith)) in
    let same = parts-unique w (b.before ++ Bare b.kind ∷ map Whole b.after) (weave 0 (o ∷ os) ts)
    b.parts (record { spells = sym e }) ∙ r.parts in
    omega (arith, same_place b.before r.before b.kind r.kind b.after r.after same, r.place, b.below)

-- a node opened at a place within the elements, behind the innermost opening
pub Wraps-weave : (os : List Opening) (ts : List Term) (o : Opening) (v w : List Symbol)
    → spelled (weave 0 os ts) ≡ v → spelled (weave 0 (os ++ o ∷ []) ts) ≡ w
    → AreInOrder 0 os (length ts) → place_of_innermost 0 os ≤ o.first_child
    → o.first_child ≤ length ts → Wraps v o.first_child o.kind.0 w
Wraps-weave os ts o v w e f h low high =
    let p = o.first_child in
    let here = AreInOrder-last 0 os (length ts) p h low in
    let p-is : p - 0 ≡ p = omega arith in
    let there : AreInOrder 0 os (0 + length (take p ts)) =
    AreInOrder-grow 0 os p (0 + length (take p ts)) here (omega (arith, length-take p ts)) in
    record {
      before = weave 0 os (take p ts);
      after = drop p ts;
      parts = record {
        spells =
            sym e ∙ ap (λ us. spelled (weave 0 os us)) (sym (take-append-drop p ts))
            ∙ ap spelled (weave-append 0 os (take p ts) (drop p ts) there);
      };
      place = count-weave 0 os (take p ts) ∙ omega (arith, length-take p ts);
      opened = record {
        spells =
            sym f ∙ ap spelled (weave-open 0 os o ts here (omega (arith, high))
            ∙ ap (λ d. weave 0 os (take d ts) ++ Bare o.kind.0 ∷ map Whole (drop d ts)) p-is);
      };
    }

place_of_innermost-append : (at : ℕ) (os : List Opening) (o : Opening)
    → place_of_innermost at (os ++ o ∷ []) ≡ o.first_child
place_of_innermost-append at [] o = refl
place_of_innermost-append at (p ∷ os) o = place_of_innermost-append p.first_child os o

pub place_of_innermost-last : (os : List Opening) (o : Opening)
    → slice_get os (length os - 1) ≡ Some o → o.first_child ≡ place_of_innermost 0 os
place_of_innermost-last os o e =
    sym (ap (λ ps. place_of_innermost 0 ps) (last_parts os o e)
    ∙ place_of_innermost-append 0 (take (length os - 1) os) o)
