-- Elements that get their offsets one after the other, in a list from a place on.
use Rattle.std.proofs.Common.{◌≡◌, ℕ, zero, suc, ◌+◌, ◌-◌, ◌<◌, ◌≤◌, List, [], ◌∷◌, ◌++◌, map, take}
use Rattle.std.proofs.Common.{drop, get_or, length, refl, sym, ◌∙◌, ap, subst, arith}
use Rattle.std.proofs.Math.ListN.{set}
use Rattle.std.proofs.Math.Seq.{drop-cons}
use Rattle.std.proofs.lemmas.List.{length-map, length-drop, length-take-le, map-append}
use Rattle.std.proofs.lemmas.List.{take_more_set, take-append-drop, get_or-drop}
use Rattle.rowan_green.specs.declared.fault.Fault.{Fault}
use Rattle.rowan_green.specs.declared.fault.Fault.TheVariants.{TextTooLong, TooManyChildren}
use Rattle.rowan_green.specs.declared.green.node.GreenChild.{GreenChild}
use Rattle.rowan_green.specs.Fits.{Fits, ChildPasses, PassesLimit, byte_limit, child_limit}
use Rattle.rowan_green.specs.Term.{Term, term_len}
use Rattle.rowan_green.specs.View.{child_term, child_offset, AreSound}
use Rattle.rowan_green.proofs.ChildList.{drop-children}
use Rattle.rowan_green.proofs.Sound.{AreSound-push, AreSound-empty}

drop-none : {X : Type 0} (xs : List X) → drop 0 xs ≡ xs
drop-none [] = refl
drop-none (x ∷ xs) = refl

take-none : {X : Type 0} (xs : List X) → take 0 xs ≡ []
take-none [] = refl
take-none (x ∷ xs) = refl

-- no element yet
pub AreSound-none : (len k : ℕ) (cs : List GreenChild) → len ≡ 0 → k ≡ 0 → AreSound len (take k cs)
AreSound-none len k cs e f =
    let none : take k cs ≡ [] = ap (λ n. take n cs) f ∙ take-none cs in
    subst (AreSound len) (sym none) (subst (λ n. AreSound n []) (sym e) AreSound-empty)

-- one more element
placed : {X : Type 0} (f i : ℕ) (xs : List X) (y : X) → f ≤ i → i < length xs
    → take ((i + 1) - f) (drop f (set xs i y)) ≡ take (i - f) (drop f xs) ++ y ∷ []
placed zero i xs y from within =
    let more : (i + 1) - 0 ≡ i + 1 = omega arith in
    let here : i ≡ i - 0 = omega arith in
    ap (λ n. take n (drop 0 (set xs i y))) more ∙ ap (take (i + 1)) (drop-none (set xs i y))
    ∙ take_more_set xs i y within
    ∙ ap (λ n. take n xs ++ y ∷ []) here ∙ ap (λ zs. take (i - 0) zs ++ y ∷ []) (sym (drop-none xs))
placed (suc f) i [] y from within = absurd (omega (arith, within))
placed (suc f) zero (x ∷ xs) y from within = absurd (omega (arith, from))
placed (suc f) (suc i) (x ∷ xs) y from within =
    let more : (suc i + 1) - suc f ≡ (i + 1) - f = omega arith in
    let here : i - f ≡ suc i - suc f = omega arith in
    ap (λ n. take n (drop f (set xs i y))) more
    ∙ placed f i xs y (omega (arith, from)) (omega (arith, within))
    ∙ ap (λ n. take n (drop f xs) ++ y ∷ []) here

module _ (f i len : ℕ) (cs : List GreenChild) (from : f ≤ i) (within : i < length cs)
    (s : AreSound len (take (i - f) (drop f cs))) where
  abbrev ds : List GreenChild
  ds = drop f cs

  so_far : length (take (i - f) ds) ≡ i - f
  so_far = length-take-le (i - f) ds (omega (arith, from, within, length-drop f cs))

  pub AreSound-placed : (len' : ℕ) (d : GreenChild) → child_offset d ≡ len → i - f < child_limit
      → Fits (child_term d) → len' ≡ len + term_len (child_term d) → len' ≤ byte_limit
      → AreSound len' (take ((i + 1) - f) (drop f (set cs i d)))
  AreSound-placed len' d at room fits more short =
      AreSound-push len len' (take (i - f) ds) (take ((i + 1) - f) (drop f (set cs i d))) d s at
      (omega (arith, room, so_far)) fits more short (placed f i cs d from within)

  -- one more passes a limit
  module _ (c : GreenChild) (ts : List Term) (is : c ≡ get_or cs i c)
      (same : map child_term cs ≡ ts) where
    passes : (fault : Fault) → ChildPasses (map child_term (take (i - f) ds)) (child_term c) fault
        → PassesLimit (drop f ts) fault
    passes fault p =
        let k = i - f in
        let place : f + k ≡ i = omega (arith, from) in
        let here : k < length ds = omega (arith, from, within, length-drop f cs) in
        let at : drop k ds ≡ c ∷ drop (suc k) ds =
        drop-cons ds k c here ∙ ap (λ x. x ∷ drop (suc k) ds)
        (get_or-drop f cs k c ∙ ap (λ n. get_or cs n c) place ∙ sym is) in
        record {
          before = map child_term (take k ds);
          child = child_term c;
          after = map child_term (drop (suc k) ds);
          parts = sym (drop-children f cs ts same)
              ∙ ap (map child_term) (sym (take-append-drop k ds) ∙ ap (λ es. take k ds ++ es) at)
              ∙ map-append child_term (take k ds) (c ∷ drop (suc k) ds);
          within = s.within;
          passes = p;
        }

    counted : length (map child_term (take (i - f) ds)) ≡ i - f
    counted = length-map (take (i - f) ds) child_term ∙ so_far

    pub passes_count : child_limit ≤ i - f → PassesLimit (drop f ts) TooManyChildren
    passes_count many = passes TooManyChildren (omega (arith, many, counted))

    pub passes_text : i - f < child_limit → byte_limit < len + term_len (child_term c)
        → PassesLimit (drop f ts) TextTooLong
    passes_text few long = passes TextTooLong
        (omega (arith, few, counted), omega (arith, long, s.sum))
