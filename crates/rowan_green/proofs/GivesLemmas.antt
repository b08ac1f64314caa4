-- What the calls of an iterator over children say of one that skips some, or gives the last.
use Rattle.std.proofs.Common.{◌≡◌, ℕ, zero, suc, ◌-◌, ◌≤◌, List, [], ◌∷◌, ◌++◌, length, take, drop}
use Rattle.std.proofs.Common.{Option, Some, None, Result, Ok, Err, MatchOption, refl, sym, ◌∙◌, ap}
use Rattle.std.proofs.Common.{subst, arith, ◌⊎◌, inl, inr, length-append}
use Rattle.std.proofs.lemmas.List.{take_all, take-append-le}
use Rattle.std.specs.List.{last_or}
use Rattle.std.specs.Iterator.{SkipsThenYields, Drains}
use Rattle.rowan_green.specs.declared.fault.Fault.{Fault}
use Rattle.rowan_green.specs.Gives.{GivesFirst, GivesLast}
use Rattle.rowan_green.specs.Term.{Term}

-- what a call gives
abbrev pub Item : Type 0
Item = Result Term Fault

-- a call behind n others, each of which gave the child that was the first
pub skips : (n : ℕ) (ts : List Term) (r : Option Item) (us : List Term)
    → GivesFirst (drop n ts) r us → SkipsThenYields GivesFirst ts n r us
skips zero ts None us h = ([], (ts, refl, h), omega arith)
skips zero ts (Some x) us h = ([], (ts, refl, h), refl)
skips (suc n) [] None us h = ([], ([], refl, h), omega arith)
skips (suc n) [] (Some (Ok t)) us h = absurd (cc h)
skips (suc n) [] (Some (Err e)) us h = absurd (omega (arith, h.1))
skips (suc n) (t ∷ ts) None us h =
    let k = skips n ts None us h in
    (Ok t ∷ k.0, (k.1.0, (ts, refl, k.1.1), k.1.2), omega (arith, k.2))
skips (suc n) (t ∷ ts) (Some x) us h =
    let k = skips n ts (Some x) us h in
    (Ok t ∷ k.0, (k.1.0, (ts, refl, k.1.1), k.1.2), ap suc k.2)

front_and_last : (ts : List Term)
    → (ts ≡ []) ⊎ ((front : List Term) × (t : Term) × (ts ≡ front ++ t ∷ []))
front_and_last [] = inl refl
front_and_last (t ∷ ts) = elim (front_and_last ts) [
  | inl e ↦ inr ([], t, ap (λ us. t ∷ us) e)
  | inr p ↦ inr (t ∷ p.0, p.1, ap (λ us. t ∷ us) p.2)
]

one_more : (n : ℕ) (r : Option Item) (x : Item) (xs : List Item)
    → MatchOption r (length xs ≤ n) (λ _. length xs ≡ n)
    → MatchOption r (length (x ∷ xs) ≤ suc n) (λ _. length (x ∷ xs) ≡ suc n)
one_more n None x xs h = omega (arith, h)
one_more n (Some y) x xs h = ap suc h

without_last : (n : ℕ) (front : List Term) (t : Term)
    → take (length (front ++ t ∷ []) - suc n) (front ++ t ∷ []) ≡ take (length front - n) front
without_last n front t =
    let len : length (front ++ t ∷ []) - suc n ≡ length front - n =
    omega (arith, length-append front (t ∷ [])) in
    let within : length front - n ≤ length front = omega arith in
    ap (λ k. take k (front ++ t ∷ [])) len
    ∙ take-append-le (length front - n) front (t ∷ []) within

nothing_behind : (n : ℕ) (r : Option Item) (us : List Term) → GivesLast [] r us
    → SkipsThenYields GivesLast [] n r us
nothing_behind n None us h = ([], ([], refl, h), omega arith)
nothing_behind n (Some (Ok t)) us h =
    absurd (omega (arith, ap length h, length-append us (t ∷ [])))
nothing_behind n (Some (Err e)) us h = absurd (omega (arith, h.1))

none_skipped : (ts : List Term) (r : Option Item) (us : List Term) → GivesLast ts r us
    → SkipsThenYields GivesLast ts zero r us
none_skipped ts None us h = ([], (ts, refl, h), omega arith)
none_skipped ts (Some x) us h = ([], (ts, refl, h), refl)

-- a call before n others, each of which gave the child that was the last
pub skips_back : (n : ℕ) (ts : List Term) (r : Option Item) (us : List Term)
    → GivesLast (take (length ts - n) ts) r us → SkipsThenYields GivesLast ts n r us
skips_back zero ts r us h =
    let whole : take (length ts - zero) ts ≡ ts = take_all (length ts - zero) ts (omega arith) in
    none_skipped ts r us (subst (λ xs. GivesLast xs r us) whole h)
skips_back (suc n) ts r us h = elim (front_and_last ts) [
  | inl e ↦
      let none : take (length ts - suc n) ts ≡ [] =
      ap (take (length ts - suc n)) e
      ∙ take_all (length ts - suc n) [] (omega (arith, ap length e)) in
      subst (λ xs. SkipsThenYields GivesLast xs (suc n) r us) (sym e)
      (nothing_behind (suc n) r us (subst (λ xs. GivesLast xs r us) none h))
  | inr p ↦
      let front = subst (λ xs. GivesLast (take (length xs - suc n) xs) r us) p.2 h in
      let k = skips_back n p.0 r us
      (subst (λ xs. GivesLast xs r us) (without_last n p.0 p.1) front) in
      (Ok p.1 ∷ k.0, (k.1.0, (p.0, p.2, k.1.1), k.1.2), one_more n r (Ok p.1) k.0 k.2)
]

all_before : (us : List Term) (t : Term) (o : Option Item)
    → (xs : List Item) × Drains GivesFirst (us ++ t ∷ []) xs × (Some (Ok t) ≡ last_or o xs)
all_before [] t o = (Ok t ∷ [], ([], ([], ([], refl, refl), (refl, refl))), refl)
all_before (u ∷ us) t o =
    let k = all_before us t (Some (Ok u)) in
    (Ok u ∷ k.0, (k.1.0, (k.1.1.0, (us ++ t ∷ [], refl, k.1.1.1), k.1.1.2)), k.2)

-- the last of what calls give
pub last_given : (ts : List Term) (r : Option Item) (us : List Term) → GivesLast ts r us
    → (xs : List Item) × Drains GivesFirst ts xs × (r ≡ last_or None xs)
last_given ts None us h = ([], ([], (ts, refl, (h.0, refl))), refl)
last_given ts (Some (Ok t)) us h =
    let P : List Term → Type 0 =
    λ is. (xs : List Item) × Drains GivesFirst is xs × (Some (Ok t) ≡ last_or None xs) in
    subst P (sym h) (all_before us t None)
last_given ts (Some (Err e)) us h =
    (Err e ∷ [], ([], ([], ([], (h.0, h.1, refl), refl), (refl, refl))), refl)

-- as many as calls give
pub all_given : (ts : List Term)
    → (xs : List Item) × Drains GivesFirst ts xs × (length ts ≡ length xs)
all_given [] = ([], ([], ([], refl, (refl, refl))), refl)
all_given (t ∷ ts) =
    let k = all_given ts in
    (Ok t ∷ k.0, (k.1.0, (k.1.1.0, (ts, refl, k.1.1.1), k.1.1.2)), ap suc k.2)
