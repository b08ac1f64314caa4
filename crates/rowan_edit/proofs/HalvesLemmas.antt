-- Edits go from the front to those behind, those inside of a node are taken out, and all are joined.
use Rattle.std.proofs.Common.{◌≡◌, true, false, List, [], ◌∷◌, ◌++◌, length, Some, None, refl, sym}
use Rattle.std.proofs.Common.{◌∙◌, ap, subst, arith, append_assoc, length-append}
use Rattle.std.specs.Prelude.{not, cond, reverse}
use Rattle.std.specs.List.{AllByRecursion}
use Rattle.std.specs.Option.{is_some}
use Rattle.std.proofs.lemmas.List.{map-append, append-nil, reverse-append}
use Rattle.rowan_terms.specs.Path.{Path}
use Rattle.rowan_changes.specs.declared.edit.Splice.{Splice}
use Rattle.rowan_edit.specs.declared.plain_edits.Halves.{Halves}
use Rattle.rowan_edit.specs.declared.plain_edits.Parted.{Parted}
use Rattle.rowan_edit.specs.Arrangements.{gap}
use Rattle.rowan_edit.specs.Arrangements.{edits_outside}
use Rattle.rowan_edit.specs.ArrangementsKept.{IsAt, IsParted}
use Rattle.rowan_changes.specs.Edit.{ends_before}
use Rattle.rowan_changes.specs.GreenEditor.{edit_of, edits_of}
use Rattle.rowan_edit.specs.Inside.{rest_behind, with_path, edits_inside}
use Rattle.rowan_edit.proofs.ArrangeLemmas.{inside-append, outside-append}
use Rattle.rowan_changes.proofs.Untouched.{edit_at}

last-same : {A : Type 0} (xs ys : List A) (x y : A) → xs ++ x ∷ [] ≡ ys ++ y ∷ [] → x ≡ y
last-same xs ys x y h =
    let e : x ∷ reverse xs ≡ y ∷ reverse ys =
    sym (reverse-append xs (x ∷ [])) ∙ ap reverse h ∙ reverse-append ys (y ∷ []) in
    cc

none-last : {A : Type 0} (xs : List A) (x : A) → [] ≡ xs ++ x ∷ [] → ⊥
none-last xs x h = omega (arith, ap length h, length-append xs (x ∷ []))

-- ---- from the front to those behind

pub record IsGoing (p : Path) (old : Halves) (front behind : List Splice) : Type 0 where
  pub gone : List Splice
  pub front_is : old.front.items ≡ front ++ gone
  pub behind_is : reverse behind ≡ gone ++ reverse old.behind.items
  pub late : AllByRecursion (λ s. ends_before (edit_of s) (gap p) ≡ false) gone

pub going-begins : (p : Path) (old : Halves) → IsGoing p old old.front.items old.behind.items
going-begins p old =
    record { gone = []; front_is = sym (append-nil old.front.items); behind_is = refl; late = tt }

pub going-next : (p : Path) (old : Halves) (front rest behind more : List Splice) (s : Splice)
    → IsGoing p old front behind → front ≡ rest ++ s ∷ []
    → ends_before (edit_of s) (gap p) ≡ false → more ≡ behind ++ s ∷ []
    → IsGoing p old rest more
going-next p old front rest behind more s h last late is = record {
  gone = s ∷ h.gone;
  front_is = h.front_is ∙ ap (λ xs. xs ++ h.gone) last ∙ append_assoc rest (s ∷ []) h.gone;
  behind_is = ap reverse is ∙ reverse-append behind (s ∷ []) ∙ ap (λ xs. s ∷ xs) h.behind_is;
  late = (late, h.late);
}

pub going-ends : (p : Path) (old new : Halves) (front rest behind : List Splice) (s : Splice)
    → IsGoing p old front behind → front ≡ rest ++ s ∷ []
    → ends_before (edit_of s) (gap p) ≡ true → new.front.items ≡ rest ++ s ∷ []
    → new.behind.items ≡ behind → IsAt p old new
going-ends p old new front rest behind s h last early is same = record {
  gone = h.gone;
  front = h.front_is ∙ ap (λ xs. xs ++ h.gone) (last ∙ sym is);
  behind = ap reverse same ∙ h.behind_is;
  late = h.late;
  early = λ x xs at. subst (λ y. ends_before (edit_of y) (gap p) ≡ true)
      (last-same rest xs s x (sym is ∙ at)) early;
}

pub going-through : (p : Path) (old new : Halves) (front behind : List Splice)
    → IsGoing p old front behind → front ≡ [] → new.front.items ≡ front
    → new.behind.items ≡ behind → IsAt p old new
going-through p old new front behind h none is same = record {
  gone = h.gone;
  front = h.front_is ∙ ap (λ xs. xs ++ h.gone) (sym is);
  behind = ap reverse same ∙ h.behind_is;
  late = h.late;
  early = λ x xs at. absurd (none-last xs x (sym (is ∙ none) ∙ at));
}

-- ---- those inside of a node

pub record IsParting (p : Path) (old : Halves) (behind inside : List Splice) : Type 0 where
  pub taken : List Splice
  pub behind_is : reverse old.behind.items ≡ taken ++ reverse behind
  pub inside_is : edits_of inside ≡ edits_inside p (edits_of taken)
  pub all : edits_outside p (edits_of taken) ≡ []

pub parting-begins : (p : Path) (old : Halves) (inside : List Splice) → inside ≡ []
    → IsParting p old old.behind.items inside
parting-begins p old inside none =
    record { taken = []; behind_is = refl; inside_is = ap edits_of none; all = refl }

pub parting-next : (p : Path) (old : Halves) (behind rest inside more : List Splice) (s t : Splice)
    (q : Path) → IsParting p old behind inside → behind ≡ rest ++ s ∷ []
    → rest_behind p s.parent.items ≡ Some q
    → edit_of t ≡ edit_at q s.start s.end s.new.items → more ≡ inside ++ t ∷ []
    → IsParting p old rest more
parting-next p old behind rest inside more s t q h last deep same is = record {
  taken = h.taken ++ s ∷ [];
  behind_is = h.behind_is ∙ ap (λ xs. h.taken ++ xs) (ap reverse last ∙ reverse-append rest (s ∷ []))
      ∙ sym (append_assoc h.taken (s ∷ []) (reverse rest));
  inside_is = ap edits_of is ∙ map-append edit_of inside (t ∷ [])
      ∙ ap (λ xs. xs ++ edit_of t ∷ []) h.inside_is
      ∙ ap (λ e. edits_inside p (edits_of h.taken) ++ e ∷ []) same
      ∙ ap (λ o. edits_inside p (edits_of h.taken) ++ with_path o (edit_of s) []) (sym deep)
      ∙ sym (inside-append p (edits_of h.taken) (edit_of s ∷ []))
      ∙ ap (edits_inside p) (sym (map-append edit_of h.taken (s ∷ [])));
  all = ap (edits_outside p) (map-append edit_of h.taken (s ∷ []))
      ∙ outside-append p (edits_of h.taken) (edit_of s ∷ [])
      ∙ ap (λ xs. xs ++ edits_outside p (edit_of s ∷ [])) h.all
      ∙ ap (λ o. cond (not (is_some o)) (edit_of s ∷ []) []) deep;
}

pub parting-ends : (p : Path) (old : Halves) (new : Parted) (behind rest inside : List Splice)
    (s : Splice) → IsParting p old behind inside → behind ≡ rest ++ s ∷ []
    → rest_behind p s.parent.items ≡ None → new.others.front.items ≡ old.front.items
    → new.others.behind.items ≡ rest ++ s ∷ [] → new.inside.items ≡ inside → IsParted p old new
parting-ends p old new behind rest inside s h last far front is same = record {
  taken = h.taken;
  front = front;
  behind = h.behind_is ∙ ap (λ xs. h.taken ++ reverse xs) (last ∙ sym is);
  inside = ap edits_of same ∙ h.inside_is;
  all = h.all;
  next = λ x xs at. subst (λ (y : Splice). rest_behind p y.parent.items ≡ None)
      (last-same rest xs s x (sym is ∙ at)) far;
}

pub parting-through : (p : Path) (old : Halves) (new : Parted) (behind inside : List Splice)
    → IsParting p old behind inside → behind ≡ [] → new.others.front.items ≡ old.front.items
    → new.others.behind.items ≡ behind → new.inside.items ≡ inside → IsParted p old new
parting-through p old new behind inside h none front is same = record {
  taken = h.taken;
  front = front;
  behind = h.behind_is ∙ ap (λ xs. h.taken ++ reverse xs) (sym is);
  inside = ap edits_of same ∙ h.inside_is;
  all = h.all;
  next = λ x xs at. absurd (none-last xs x (sym (is ∙ none) ∙ at));
}

-- ---- all of them

pub joined-next : (front more behind rest all : List Splice) (s : Splice)
    → front ++ reverse behind ≡ all → behind ≡ rest ++ s ∷ [] → more ≡ front ++ s ∷ []
    → more ++ reverse rest ≡ all
joined-next front more behind rest all s h last is =
    ap (λ xs. xs ++ reverse rest) is ∙ append_assoc front (s ∷ []) (reverse rest)
    ∙ ap (λ xs. front ++ xs) (sym (ap reverse last ∙ reverse-append rest (s ∷ []))) ∙ h
