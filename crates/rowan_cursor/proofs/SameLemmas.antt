-- When two slices have the same text.
use Rattle.std.proofs.Common.{◌≡◌, ℕ, ◌<◌, Bool, true, false, List, ◌++◌, length, take, refl, sym}
use Rattle.std.proofs.Common.{◌∙◌, ap, arith, length-append}
use Rattle.std.specs.Cmp.Lexicographic.{bytes_decides}
use Rattle.std.proofs.lemmas.List.{append-nil, append_cancel_left, take_at}
use Rattle.rowan_table.specs.SyntaxText.{TextSlice, slice_text, same_text}
use Rattle.rowan_table.proofs.SliceLemmas.{empty_text}

pub same : (s t : TextSlice) → slice_text s ≡ slice_text t → true ≡ same_text s t
same s t e = sym ((bytes_decides (slice_text s) (slice_text t)).1 e)

pub differ : (s t : TextSlice) → (slice_text s ≡ slice_text t → ⊥) → false ≡ same_text s t
differ s t h = by (same_text s t) refl
  where
    by : (b : Bool) → same_text s t ≡ b → false ≡ b
    by true e = absurd (h ((bytes_decides (slice_text s) (slice_text t)).0 e))
    by false e = refl

pub fronts : (f g x y : List ℕ) → length f ≡ length g → f ++ x ≡ g ++ y → f ≡ g
fronts f g x y n e = sym (take_at f x (length f) refl) ∙ ap (take (length f)) e
    ∙ take_at g y (length f) (sym n)

pub longer : (before mine theirs : List ℕ) → length theirs ≡ 0 → 0 < length mine
    → before ++ mine ≡ before ++ theirs → ⊥
longer before mine theirs none some e =
    omega (arith, none, some, ap length (append_cancel_left before mine theirs e))

pub all_alike : (before rest text other : List ℕ) → text ≡ before → before ++ rest ≡ other
    → length text ≡ length other → text ≡ other
all_alike before rest text other e f n =
    let none = empty_text rest (omega (
      arith,
      ap length e,
      ap length f,
      length-append before rest,
      n,
    )) in
    e ∙ sym (append-nil before) ∙ ap (λ us. before ++ us) (sym none) ∙ f
