-- The numbers of tokens whose text is one byte, as more terms are kept.
use Rattle.std.proofs.Common.{◌≡◌, ℕ, zero, suc, ◌<◌, List, [], ◌∷◌, ◌++◌, length, replicate}
use Rattle.std.proofs.Common.{Option, Some, None, refl, sym, ◌∙◌, ap, ◌⊎◌, inl, inr, arith}
use Rattle.std.specs.List.{slice_get}
use Rattle.std.proofs.Math.ListN.{set}
use Rattle.std.proofs.lemmas.List.{get_or-replicate, length-replicate}
use Rattle.std.proofs.lemmas.Option.{slice_get_within, get_or_from_slice_get}
use Rattle.rowan_green.specs.declared.utility_types.NodeOrToken.TheVariants.{Token}
use Rattle.rowan_green.specs.Term.{Term, token_of}
use Rattle.rowan_builder.specs.Bytes.{IsNumberOf, ComesFrom, ComesFromOrIs, AreOfBytes}
use Rattle.rowan_terms.proofs.Lists.{slice_get-grown, slice_get-last}

-- ---- what becomes of a list of numbers

pub ComesFrom-same : (newest : List (Option ℕ)) → ComesFrom newest newest
ComesFrom-same newest = record { was = λ byte n at. at }

pub ComesFrom-none : (old : List (Option ℕ)) (count : ℕ) → ComesFrom old (replicate count None)
ComesFrom-none old count = record {
  was = λ byte n at.
      let empty : Option ℕ = None in
      let within : byte < count =
      omega (
        arith,
        slice_get_within (replicate count empty) byte (Some n) at,
        length-replicate count empty,
      ) in
      let is_none : Some n ≡ None =
      sym (get_or_from_slice_get (replicate count None) byte (Some n) None at)
      ∙ get_or-replicate count byte None None within in
      absurd cc;
}

pub set_cases : {X : Type 0} (xs : List X) (i : ℕ) (x : X) (n : ℕ) (y : X)
    → slice_get (set xs i x) n ≡ Some y → (slice_get xs n ≡ Some y) ⊎ ((n ≡ i) × (x ≡ y))
set_cases [] i x n y e = inl e
set_cases (z ∷ xs) zero x zero y e = inr (refl, cc)
set_cases (z ∷ xs) zero x (suc n) y e = inl e
set_cases (z ∷ xs) (suc i) x zero y e = inl e
set_cases (z ∷ xs) (suc i) x (suc n) y e =
    elim (set_cases xs i x n y e) [ inl h ↦ inl h | inr p ↦ inr (ap suc p.0, p.1) ]

pub ComesFromOrIs-same : (text : List ℕ) (number : ℕ) (newest : List (Option ℕ))
    → ComesFromOrIs text number newest newest
ComesFromOrIs-same text number newest = record { was = λ byte n at. inl at }

pub ComesFromOrIs-set : (text : List ℕ) (number byte : ℕ) (newest : List (Option ℕ))
    → text ≡ byte ∷ [] → ComesFromOrIs text number newest (set newest byte (Some number))
ComesFromOrIs-set text number byte newest only = record {
  was = λ b n at.
      elim (set_cases newest byte (Some number) b (Some n) at) [
        | inl old ↦ inl old
        | inr p ↦ let same : number ≡ n = cc in
            inr (sym same, only ∙ ap (λ (i : ℕ). i ∷ []) (sym p.0))
      ];
}

-- ---- the tokens stay where they stand

pub AreOfBytes-none : (seen : List Term) → AreOfBytes seen []
AreOfBytes-none seen = record { stands = λ byte n at. absurd cc }

pub AreOfBytes-from : (seen : List Term) (old new : List (Option ℕ)) → AreOfBytes seen old
    → ComesFrom old new → AreOfBytes seen new
AreOfBytes-from seen old new a f =
    record { stands = λ byte n at. a.stands byte n (f.was byte n at) }

pub AreOfBytes-grown : (seen : List Term) (t : Term) (newest : List (Option ℕ))
    → AreOfBytes seen newest → AreOfBytes (seen ++ t ∷ []) newest
AreOfBytes-grown seen t newest a = record {
  stands = λ byte n at. let p = a.stands byte n at in
      (p.0, slice_get-grown seen (t ∷ []) n (Token (token_of p.0 (byte ∷ []))) p.1);
}

pub AreOfBytes-set : (seen : List Term) (kind number : ℕ) (text : List ℕ)
    (old new : List (Option ℕ)) → AreOfBytes seen old → ComesFromOrIs text number old new
    → number ≡ length seen → AreOfBytes (seen ++ Token (token_of kind text) ∷ []) new
AreOfBytes-set seen kind number text old new a f last = record {
  stands = λ byte n at.
      elim (f.was byte n at) [
        | inl before ↦ (AreOfBytes-grown seen (Token (token_of kind text)) old a).stands byte n
            before
        | inr p ↦
            let here : n ≡ length seen = p.0 ∙ last in (
              kind,
              ap (slice_get (seen ++ Token (token_of kind text) ∷ [])) here
                  ∙ slice_get-last seen (Token (token_of kind text))
                  ∙ ap (λ bs. Some (Token (token_of kind bs))) p.1,
            )
      ];
}

pub number_stands : (seen : List Term) (newest : List (Option ℕ)) (text : List ℕ) (n : ℕ)
    → AreOfBytes seen newest → IsNumberOf newest text n
    → (kind : ℕ) × (slice_get seen n ≡ Some (Token (token_of kind text)))
number_stands seen newest text n a i =
    let p = a.stands i.byte n i.stands in
    (p.0, p.1 ∙ ap (λ bs. Some (Token (token_of p.0 bs))) (sym i.only))
