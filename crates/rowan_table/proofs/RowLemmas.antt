-- Laws of rows: the first and the last of entries side by side, and the first and the last that
-- pass a test.
use Rattle.std.proofs.Common.{◌≡◌, ℕ, zero, suc, ◌+◌, ◌-◌, ◌<◌, ◌≤◌, Bool, true, false, List, []}
use Rattle.std.proofs.Common.{◌∷◌, ◌++◌, map, reverse, Some, None, refl, sym, ◌∙◌, ap, arith}
use Rattle.std.specs.Prelude.{slice_get}
use Rattle.std.specs.List.{find}
use Rattle.std.proofs.lemmas.Bool.{cond-true, cond-false}
use Rattle.std.proofs.lemmas.List.{reverse-append, map-append}
use Rattle.std.proofs.lemmas.List.FromFn.{length-map-range_with_len, get_or-map-range_with_len}
use Rattle.std.proofs.lemmas.Option.{slice_get-get_or, slice_get_past}
use Rattle.rowan_terms.specs.Path.{Path}
use Rattle.rowan_table.specs.Moves.{numbers}

pub map-reverse : {A B : Type 0} (f : A → B) (xs : List A) → map f (reverse xs) ≡ reverse (map f xs)
map-reverse f [] = refl
map-reverse f (x ∷ xs) =
    ap (map f) (reverse-append (x ∷ []) xs) ∙ map-append f (reverse xs) (x ∷ [])
    ∙ ap (λ ys. ys ++ f x ∷ []) (map-reverse f xs) ∙ sym (reverse-append (f x ∷ []) (map f xs))

pub numbers-last : (a n : ℕ) → numbers a (suc n) ≡ numbers a n ++ (a + n) ∷ []
numbers-last a zero = let e : a ≡ a + 0 = omega arith in ap (λ k. k ∷ []) e
numbers-last a (suc n) =
    let e : a + 1 + n ≡ a + suc n = omega arith in
    ap (λ ks. a ∷ ks) (numbers-last (a + 1) n) ∙ ap (λ k. a ∷ (numbers (a + 1) n ++ k ∷ [])) e

pub row-last : (f : ℕ → Path) (a n : ℕ) → reverse (map f (numbers a (suc n)))
    ≡ f (a + n) ∷ reverse (map f (numbers a n))
row-last f a n =
    ap (λ ks. reverse (map f ks)) (numbers-last a n)
    ∙ ap reverse (map-append f (numbers a n) ((a + n) ∷ []))
    ∙ reverse-append (map f (numbers a n)) (f (a + n) ∷ [])

-- a row that is not empty, by its first and by its last
pub first_split : (f : ℕ → Path) (a b : ℕ) → a < b
    → map f (numbers a (b - a)) ≡ f a ∷ map f (numbers (a + 1) (b - (a + 1)))
first_split f a b h =
    let e : b - a ≡ suc (b - (a + 1)) = omega arith in
    ap (λ n. map f (numbers a n)) e

pub last_split : (f : ℕ → Path) (a b c : ℕ) → a < b → c + 1 ≡ b
    → reverse (map f (numbers a (b - a))) ≡ f c ∷ reverse (map f (numbers a (c - a)))
last_split f a b c h is =
    let e : b - a ≡ suc (c - a) = omega arith in
    let k : a + (c - a) ≡ c = omega arith in
    ap (λ n. reverse (map f (numbers a n))) e ∙ row-last f a (c - a)
    ∙ ap (λ m. f m ∷ reverse (map f (numbers a (c - a)))) k

pub empty_row : (f : ℕ → Path) (a b : ℕ) → a ≡ b → map f (numbers a (b - a)) ≡ []
empty_row f a b h =
    let e : b - a ≡ 0 = omega arith in
    ap (λ n. map f (numbers a n)) e

-- a search through a row, from its front

pub missed_first : (p : Path → Bool) (f : ℕ → Path) (a b : ℕ) → a < b → p (f a) ≡ false
    → find p (map f (numbers a (b - a))) ≡ find p (map f (numbers (a + 1) (b - (a + 1))))
missed_first p f a b h e =
    ap (find p) (first_split f a b h) ∙ cond-false (p (f a)) (Some (f a))
    (find p (map f (numbers (a + 1) (b - (a + 1))))) e

-- a search through a row, from its end

pub found_last : (p : Path → Bool) (f : ℕ → Path) (a b c : ℕ) → a < b → c + 1 ≡ b → p (f c) ≡ true
    → find p (reverse (map f (numbers a (b - a)))) ≡ Some (f c)
found_last p f a b c h is e =
    ap (find p) (last_split f a b c h is) ∙ cond-true (p (f c)) (Some (f c))
    (find p (reverse (map f (numbers a (c - a))))) e

pub missed_last : (p : Path → Bool) (f : ℕ → Path) (a b c : ℕ) → a < b → c + 1 ≡ b → p (f c) ≡ false
    → find p (reverse (map f (numbers a (b - a)))) ≡ find p (reverse (map f (numbers a (c - a))))
missed_last p f a b c h is e =
    ap (find p) (last_split f a b c h is) ∙ cond-false (p (f c)) (Some (f c))
    (find p (reverse (map f (numbers a (c - a))))) e

-- a row by its places
pub row-get : (f : ℕ → Path) (a n i : ℕ) → i < n
    → slice_get (map f (numbers a n)) i ≡ Some (f (a + i))
row-get f a n i h =
    slice_get-get_or (map f (numbers a n)) i (f a) (omega (arith, length-map-range_with_len f a n))
    ∙ ap (λ p. Some p) (get_or-map-range_with_len f a n i (a + i) (f a) h refl)

pub row-past : (f : ℕ → Path) (a n i : ℕ) → n ≤ i → slice_get (map f (numbers a n)) i ≡ None
row-past f a n i h = slice_get_past (map f (numbers a n)) i
    (omega (arith, length-map-range_with_len f a n))
