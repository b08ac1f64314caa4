-- Lists of changes: those before an offset, what those ahead of a range are as one, and where each
-- ends in the new text.
use Rattle.std.proofs.Common.{◌≡◌, ℕ, zero, suc, ◌+◌, ◌-◌, ◌<◌, ◌≤◌, Bool, true, false, List}
use Rattle.std.proofs.Common.{[], ◌∷◌, ◌++◌, length, cond, take, drop, Option, Some, None, inl, inr}
use Rattle.std.proofs.Common.{refl, sym, ◌∙◌, ap, subst, arith}
use Rattle.std.specs.Prelude.{nat_lt, nat_le, ◌&&◌, ◌||◌, if◌then◌else◌, slice_get}
use Rattle.std.specs.Prelude.{slice_index_or}
use Rattle.std.specs.List.{AllByRecursion, AllWithin, filter, list_any}
use Rattle.std.specs.Option.{option_map}
use Rattle.std.proofs.lemmas.Bool.{lt-ltb, le-ltb, le-leb, lt-leb, ltb-true, cases_eq}
use Rattle.std.proofs.lemmas.List.{take-append-drop, take_all}
use Rattle.rowan_green.specs.declared.utility_types.NodeOrToken.TheVariants.{Node}
use Rattle.rowan_green.specs.Fits.{byte_limit}
use Rattle.rowan_terms.specs.Path.{shifted}
use Rattle.rowan_green.specs.Span.{Span}
use Rattle.rowan_green.specs.Term.{NodeTerm}
use Rattle.rowan.specs.Pointer.{Pointer, range_behind, range_after, carried}
use Rattle.rowan_changes.specs.declared.changes.Change.{Change}
use Rattle.rowan_changes.specs.declared.edit.Splice.{Splice}
use Rattle.rowan_changes.specs.Changes.{old_bytes, new_bytes, is_ahead, overlaps, within_limit}
use Rattle.rowan_changes.specs.Changes.{moved_through, change_of, changes_of}
use Rattle.rowan_changes.specs.ChangesKept.{Follow, last_end, AreEnds, IsFront, behind_front}
use Rattle.rowan_changes.specs.GreenEditor.{edit_of, edits_of, HaveRanges, IsChangeOf, ArePairs}
use Rattle.rowan_changes.proofs.OpenNodeLemmas.{take-more}
use Rattle.rowan_changes.proofs.Places.{drop-at}

-- ---- lists

pub all-before : {A : Type 0} (P : A → Type 0) (xs : List A) (n : ℕ) → AllWithin P xs 0 n
    → AllByRecursion P (take n xs)
all-before P [] zero a = tt
all-before P [] (suc n) a = tt
all-before P (x ∷ xs) zero a = tt
all-before P (x ∷ xs) (suc n) a = (
  a zero x (omega arith) (omega arith),
  all-before P xs n (λ k d l h. a (suc k) d (omega arith) (omega arith)),
)

pub all-behind : {A : Type 0} (P : A → Type 0) (xs : List A) (n : ℕ)
    → AllWithin P xs n (length xs) → AllByRecursion P (drop n xs)
all-behind P [] zero a = tt
all-behind P [] (suc n) a = tt
all-behind P (x ∷ xs) zero a = (
  a zero x (omega arith) (omega arith),
  all-behind P xs zero (λ k d l h. a (suc k) d (omega arith) (omega arith)),
)
all-behind P (x ∷ xs) (suc n) a =
    all-behind P xs n (λ k d l h. a (suc k) d (omega arith) (omega arith))

-- ---- those before an offset

later-start : (cs : List Change) (at j : ℕ) (d : Change) → Follow at cs → j < length cs
    → at ≤ (slice_index_or cs j d).range.start
later-start [] at j d h w = absurd (omega arith)
later-start (c ∷ cs) at zero d h w = h.0
later-start (c ∷ cs) at (suc j) d h w =
    omega (arith, h.0, h.1.0, later-start cs c.range.end j d h.1.1 (omega arith))

-- those that start before an offset stand in front of the others
pub parted : (cs : List Change) (at x : ℕ) → Follow at cs → (i j : ℕ) (d : Change) → i ≤ j
    → j < length cs → nat_lt (slice_index_or cs j d).range.start x ≡ true
    → nat_lt (slice_index_or cs i d).range.start x ≡ true
parted [] at x h i j d le w g = absurd (omega arith)
parted (c ∷ cs) at x h zero zero d le w g = g
parted (c ∷ cs) at x h zero (suc j) d le w g =
    lt-ltb c.range.start x (omega (
      arith,
      h.1.0,
      later-start cs c.range.end j d h.1.1 (omega arith),
      ltb-true (slice_index_or cs j d).range.start x g,
    ))
parted (c ∷ cs) at x h (suc i) zero d le w g = absurd (omega arith)
parted (c ∷ cs) at x h (suc i) (suc j) d le w g =
    parted cs c.range.end x h.1.1 i j d (omega arith) (omega arith) g

-- ---- those ahead of a range as one

last-from : (cs : List Change) (at n : ℕ) → Follow at cs → at ≤ last_end at (take n cs)
last-from cs at zero h = omega arith
last-from [] at (suc n) h = omega arith
last-from (c ∷ cs) at (suc n) h =
    omega (arith, h.0, h.1.0, last-from cs c.range.end n h.1.1)

follow-take : (cs : List Change) (at n : ℕ) → Follow at cs → Follow at (take n cs)
follow-take cs at zero h = tt
follow-take [] at (suc n) h = tt
follow-take (c ∷ cs) at (suc n) h = (h.0, (h.1.0, follow-take cs c.range.end n h.1.1))

last-at : (cs : List Change) (at k : ℕ) (c : Change) → slice_get cs k ≡ Some c
    → last_end at (take (suc k) cs) ≡ c.range.end
last-at [] at k c h = absurd cc
last-at (d ∷ cs) at zero c h = let e : d ≡ c = cc in ap (λ (x : Change). x.range.end) e
last-at (d ∷ cs) at (suc k) c h = last-at cs d.range.end k c h

old-within : (cs : List Change) (at : ℕ) → Follow at cs → old_bytes cs + at ≤ last_end at cs
old-within [] at h = omega arith
old-within (c ∷ cs) at h = omega (arith, h.0, h.1.0, old-within cs c.range.end h.1.1)

-- none of these is ahead of a range or overlaps it, and the first ones are all that is ahead
record Parts (cs : List Change) (r : Span) (n : ℕ) : Type 0 where
  ahead : filter (is_ahead r) cs ≡ take n cs
  apart : list_any (overlaps r) cs ≡ false

none-ahead : (cs : List Change) (r : Span)
    → AllByRecursion (λ c. r.end ≤ c.range.start) cs → Parts cs r 0
none-ahead [] r b = record { ahead = refl; apart = refl }
none-ahead (c ∷ cs) r b =
    let rest = none-ahead cs r b.1 in
    let out : nat_lt c.range.start r.end ≡ false = le-ltb c.range.start r.end b.0 in
    let others = filter (is_ahead r) cs in
    record {
      ahead = ap (λ x. cond (x && nat_le c.range.end r.start) (c ∷ others) others) out
          ∙ rest.ahead;
      apart = ap (λ x. (x && nat_lt r.start c.range.end) || list_any (overlaps r) cs) out
          ∙ rest.apart;
    }

parts : (cs : List Change) (at n : ℕ) (r : Span) → Follow at cs
    → AllByRecursion (λ c. c.range.start < r.end) (take n cs)
    → AllByRecursion (λ c. r.end ≤ c.range.start) (drop n cs)
    → last_end at (take n cs) ≤ r.start → Parts cs r n
parts [] at zero r h a b l = record { ahead = refl; apart = refl }
parts [] at (suc n) r h a b l = record { ahead = refl; apart = refl }
parts (c ∷ cs) at zero r h a b l = none-ahead (c ∷ cs) r b
parts (c ∷ cs) at (suc n) r h a b l =
    let rest = parts cs c.range.end n r h.1.1 a.1 b l in
    let ends : c.range.end ≤ r.start = omega (arith, l, last-from cs c.range.end n h.1.1) in
    let starts : nat_lt c.range.start r.end ≡ true = lt-ltb c.range.start r.end a.0 in
    let others = filter (is_ahead r) cs in
    record {
      ahead = ap (λ x. cond (x && nat_le c.range.end r.start) (c ∷ others) others) starts
          ∙ ap (λ x. cond x (c ∷ others) others) (le-leb c.range.end r.start ends)
          ∙ ap (λ ds. c ∷ ds) rest.ahead;
      apart = ap (λ x. (x && nat_lt r.start c.range.end) || list_any (overlaps r) cs) starts
          ∙ ap (λ x. x || list_any (overlaps r) cs) (le-ltb r.start c.range.end ends)
          ∙ rest.apart;
    }

any-at : (cs : List Change) (r : Span) (k : ℕ) (c : Change) → slice_get cs k ≡ Some c
    → overlaps r c ≡ true → list_any (overlaps r) cs ≡ true
any-at [] r k c h o = absurd cc
any-at (d ∷ cs) r zero c h o =
    let e : d ≡ c = cc in
    ap (λ x. overlaps r x || list_any (overlaps r) cs) e
    ∙ ap (λ b. b || list_any (overlaps r) cs) o
any-at (d ∷ cs) r (suc k) c h o =
    ap (λ b. overlaps r d || b) (any-at cs r k c h o) ∙ either (overlaps r d)
  where
    either : (b : Bool) → (b || true) ≡ true
    either true = refl
    either false = refl

start-at : (cs : List Change) (P : Change → Type 0) (n k : ℕ) (c : Change)
    → AllByRecursion P (take n cs) → k < n → slice_get cs k ≡ Some c → P c
start-at [] P n k c a l h = absurd cc
start-at (d ∷ cs) P zero k c a l h = absurd (omega arith)
start-at (d ∷ cs) P (suc n) zero c a l h = let e : d ≡ c = cc in subst P e a.0
start-at (d ∷ cs) P (suc n) (suc k) c a l h = start-at cs P n k c a.1 (omega arith) h

-- the last one that starts before the range ends overlaps the range, if it ends behind its start
pub last-overlaps : (cs : List Change) (r : Span) (k : ℕ) (c : Change)
    → AllByRecursion (λ d. d.range.start < r.end) (take (suc k) cs) → slice_get cs k ≡ Some c
    → r.start < c.range.end → list_any (overlaps r) cs ≡ true
last-overlaps cs r k c a h l =
    let starts : c.range.start < r.end =
    start-at cs (λ d. d.range.start < r.end) (suc k) k c a (omega arith) h in
    any-at cs r k c h (ap (λ b. b && nat_lt r.start c.range.end)
    (lt-ltb c.range.start r.end starts) ∙ lt-ltb r.start c.range.end l)

-- where the change at an index ends in the new text
ends-at : (cs : List Change) (xs : List ℕ) (old new k : ℕ) (c : Change) (x : ℕ)
    → AreEnds old new cs xs → slice_get cs k ≡ Some c → slice_get xs k ≡ Some x
    → x + (old + old_bytes (take (suc k) cs))
    ≡ c.range.end + (new + new_bytes (take (suc k) cs))
ends-at [] xs old new k c x h g y = absurd cc
ends-at (d ∷ cs) [] old new k c x h g y = absurd h
ends-at (d ∷ cs) (z ∷ xs) old new zero c x h g y =
    let e : d ≡ c = cc in
    let f : z ≡ x = cc in
    omega (
      arith,
      h.0,
      f,
      ap (λ (b : Change). b.range.end) e,
    )
ends-at (d ∷ cs) (z ∷ xs) old new (suc k) c x h g y =
    let taken = old + (d.range.end - d.range.start) in
    let put = new + d.new_len in
    omega (arith, ends-at cs xs taken put k c x h.1 g y)

pub ends-length : (cs : List Change) (xs : List ℕ) (old new : ℕ) → AreEnds old new cs xs
    → length xs ≡ length cs
ends-length [] [] old new h = refl
ends-length [] (x ∷ xs) old new h = absurd h
ends-length (c ∷ cs) [] old new h = absurd h
ends-length (c ∷ cs) (x ∷ xs) old new h =
    ap suc (ends-length cs xs (old + (c.range.end - c.range.start)) (new + c.new_len) h.1)

abbrev pub front : ℕ → ℕ → Change
front end new_len = record { range = record { start = 0; end = end }; new_len = new_len }

pub front-none : (cs : List Change) (r : Span) → r.start ≤ r.end
    → AllByRecursion (λ c. r.end ≤ c.range.start) cs → IsFront cs r (front 0 0)
front-none cs r order b =
    let p = none-ahead cs r b in
    let old : old_bytes (filter (is_ahead r) cs) ≡ 0 = ap old_bytes p.ahead in
    let new : new_bytes (filter (is_ahead r) cs) ≡ 0 = ap new_bytes p.ahead in
    record {
      range = order;
      apart = p.apart;
      start = refl;
      before = omega arith;
      none = λ _ _. refl;
      sum = omega (arith, old, new);
      order = omega (arith, old);
    }

pub front-some : (cs : List Change) (xs : List ℕ) (r : Span) (k : ℕ) (c : Change) (x : ℕ)
    → Follow 0 cs → AreEnds 0 0 cs xs → r.start ≤ r.end
    → AllByRecursion (λ d. d.range.start < r.end) (take (suc k) cs)
    → AllByRecursion (λ d. r.end ≤ d.range.start) (drop (suc k) cs)
    → slice_get cs k ≡ Some c → slice_get xs k ≡ Some x → c.range.end ≤ r.start
    → IsFront cs r (front c.range.end x)
front-some cs xs r k c x h ends order a b at there l =
    let last = last-at cs 0 k c at in
    let p = parts cs 0 (suc k) r h a b (omega (arith, last, l)) in
    let old = ap old_bytes p.ahead in
    let new = ap new_bytes p.ahead in
    let starts : c.range.start < r.end =
    start-at cs (λ d. d.range.start < r.end) (suc k) k c a (omega arith) at in
    record {
      range = order;
      apart = p.apart;
      start = refl;
      before = l;
      none = λ e f. absurd (omega (arith, starts, f));
      sum = omega (arith, old, new, ends-at cs xs 0 0 k c x ends at there);
      order = omega (
        arith,
        old,
        last,
        old-within (take (suc k) cs) 0 (follow-take cs 0 (suc k) h),
      );
    }

change-is : (c d : Change) → c.range ≡ d.range → c.new_len ≡ d.new_len → c ≡ d
change-is c d r n =
    ap (λ x. record { range = x; new_len = c.new_len }) r
    ∙ ap (λ x. record { range = d.range; new_len = x }) n

-- the same of what is read in turn: the list, where the range ends, and the numbers
pub found-none : (cs now ds : List Change) (r : Span) (n x z : ℕ) (s : Span) → cs ≡ now → ds ≡ cs
    → x ≡ r.end → r.start ≤ r.end → n ≡ 0
    → AllByRecursion (λ c. x ≤ c.range.start) (drop n ds) → z ≡ 0
    → s ≡ record { start = z; end = z } → IsFront now r (record { range = s; new_len = z })
found-none cs now ds r n x z s view deref stop order none all is_zero span =
    let first = subst (λ m. AllByRecursion (λ c. x ≤ c.range.start) (drop m ds)) none all in
    let second = subst (λ y. AllByRecursion (λ c. y ≤ c.range.start) (drop 0 ds)) stop first in
    let third = subst (λ ys. AllByRecursion (λ c. r.end ≤ c.range.start) (drop 0 ys))
    (deref ∙ view) second in
    let spans : s ≡ record { start = 0; end = 0 } =
    span ∙ ap (λ k. record { start = k; end = k }) is_zero in
    let made : Change = record { range = s; new_len = z } in
    subst (IsFront now r) (sym (change-is made (front 0 0) spans is_zero))
    (front-none now r order third)

pub found-some : (cs now ds : List Change) (xs : List ℕ) (r : Span) (n k x z : ℕ) (c : Change)
    (e : ℕ) (s : Span) → cs ≡ now → ds ≡ cs → x ≡ r.end → n ≡ suc k → Follow 0 cs
    → AreEnds 0 0 cs xs → r.start ≤ r.end
    → AllByRecursion (λ d. d.range.start < x) (take n ds)
    → AllByRecursion (λ d. x ≤ d.range.start) (drop n ds) → slice_get cs k ≡ Some c
    → slice_get xs k ≡ Some e → c.range.end ≤ r.start → z ≡ 0
    → s ≡ record { start = z; end = c.range.end }
    → IsFront now r (record { range = s; new_len = e })
found-some cs now ds xs r n k x z c e s view deref stop count h ends order a b at there l is_zero
    span =
    let a1 = subst (λ m. AllByRecursion (λ d. d.range.start < x) (take m ds)) count a in
    let a2 = subst (λ y. AllByRecursion (λ d. d.range.start < y) (take (suc k) ds)) stop a1 in
    let a3 = subst (λ ys. AllByRecursion (λ d. d.range.start < r.end) (take (suc k) ys)) deref a2
    in
    let b1 = subst (λ m. AllByRecursion (λ d. x ≤ d.range.start) (drop m ds)) count b in
    let b2 = subst (λ y. AllByRecursion (λ d. y ≤ d.range.start) (drop (suc k) ds)) stop b1 in
    let b3 = subst (λ ys. AllByRecursion (λ d. r.end ≤ d.range.start) (drop (suc k) ys)) deref b2
    in
    let made : Change = record { range = s; new_len = e } in
    let spans : s ≡ record { start = 0; end = c.range.end } =
    span ∙ ap (λ m. record { start = m; end = c.range.end }) is_zero in
    subst (λ ys. IsFront ys r made) view
    (subst (IsFront cs r) (sym (change-is made (front c.range.end e) spans refl))
    (front-some cs xs r k c e h ends order a3 b3 at there l))

pub found-over : (cs now ds : List Change) (r : Span) (n k x : ℕ) (c : Change) → cs ≡ now
    → ds ≡ cs → x ≡ r.end → n ≡ suc k → AllByRecursion (λ d. d.range.start < x) (take n ds)
    → slice_get cs k ≡ Some c → r.start < c.range.end → list_any (overlaps r) now ≡ true
found-over cs now ds r n k x c view deref stop count a at l =
    let a1 = subst (λ m. AllByRecursion (λ d. d.range.start < x) (take m ds)) count a in
    let a2 = subst (λ y. AllByRecursion (λ d. d.range.start < y) (take (suc k) ds)) stop a1 in
    let a3 = subst (λ ys. AllByRecursion (λ d. d.range.start < r.end) (take (suc k) ys)) deref a2
    in
    subst (λ ys. list_any (overlaps r) ys ≡ true) view (last-overlaps cs r k c a3 at l)

-- ---- where a range goes

both-ends : (a b : Span) → a.start ≡ b.start → a.end ≡ b.end → a ≡ b
both-ends a b s e =
    ap (λ x. record { start = x; end = a.end }) s ∙ ap (λ y. record { start = b.start; end = y }) e

pub moved-behind : (cs : List Change) (r : Span) (f : Change) → IsFront cs r f
    → moved_through cs r ≡ within_limit (behind_front f r)
moved-behind cs r f h =
    let ahead = filter (is_ahead r) cs in
    let old = old_bytes ahead in
    let new = new_bytes ahead in
    let s : r.start + new - old ≡ f.new_len + (r.start - f.range.end) =
    omega (arith, h.before, h.sum, h.order) in
    let e : r.end + new - old ≡ f.new_len + (r.start - f.range.end) + (r.end - r.start) =
    omega (arith, h.before, h.sum, h.order, h.range) in
    ap (λ b. if b then None else within_limit (shifted old new r)) h.apart
    ∙ ap within_limit (both-ends (shifted old new r) (behind_front f r) s e)

pub moved-nowhere : (cs : List Change) (r : Span) → list_any (overlaps r) cs ≡ true
    → moved_through cs r ≡ None
moved-nowhere cs r h =
    let ahead = filter (is_ahead r) cs in
    ap (λ b. if b then None else within_limit (shifted (old_bytes ahead) (new_bytes ahead) r)) h

pub moved-to : (cs : List Change) (r : Span) (f : Change) → IsFront cs r f
    → (behind_front f r).end ≤ byte_limit → moved_through cs r ≡ Some (behind_front f r)
moved-to cs r f h l =
    moved-behind cs r f h
    ∙ ap (λ b. if b then Some (behind_front f r) else None)
    (le-leb (behind_front f r).end byte_limit l)

-- a pointer behind a front goes where its range does
pub carried-front : {K : Type 0} (cs : List Change) (p : Pointer K) (f : Change)
    → IsFront cs p.range f
    → carried f.range f.new_len p
    ≡ option_map (λ r. record { kind = p.kind; range = r }) (moved_through cs p.range)
carried-front {K = K} cs p f h =
    let r = p.range in
    let to : Option Span → Option (Pointer K) =
    λ o. option_map (λ x. record { kind = p.kind; range = x }) o in
    let same : range_after f.range f.new_len r ≡ moved_through cs r =
    elim (cases_eq r.end 0) [
      | inl none ↦
          let at : nat_le r.end f.range.start ≡ true =
          le-leb r.end f.range.start (omega (arith, none)) in
          let zero_end : f.range.end ≡ 0 = omega (arith, h.before, h.range, none) in
          let zero_len : f.new_len ≡ 0 = h.none zero_end none in
          let s : r.start ≡ f.new_len + (r.start - f.range.end) =
          omega (arith, zero_end, zero_len) in
          let e : r.end ≡ f.new_len + (r.start - f.range.end) + (r.end - r.start) =
          omega (arith, zero_end, zero_len, h.range) in
          let stays : r ≡ behind_front f r = both-ends r (behind_front f r) s e in
          ap (λ b. if b then Some r
          else if nat_le f.range.end r.start then range_behind f.range f.new_len r else None) at
          ∙ ap Some stays
          ∙ sym (moved-to cs r f h (omega (arith, zero_end, zero_len, h.range, none)))
      | inr some ↦
          let at : nat_le r.end f.range.start ≡ false =
          lt-leb r.end f.range.start (omega (arith, some, h.start)) in
          let there : nat_le f.range.end r.start ≡ true =
          le-leb f.range.end r.start h.before in
          let moved = shifted (f.range.end - f.range.start) f.new_len r in
          let s : moved.start ≡ f.new_len + (r.start - f.range.end) =
          omega (arith, h.start, h.before) in
          let e : moved.end ≡ f.new_len + (r.start - f.range.end) + (r.end - r.start) =
          omega (arith, h.start, h.before, h.range) in
          ap (λ b. if b then Some r
          else if nat_le f.range.end r.start then range_behind f.range f.new_len r else None) at
          ∙ ap (λ b. if b then range_behind f.range f.new_len r else None) there
          ∙ ap within_limit (both-ends moved (behind_front f r) s e)
          ∙ sym (moved-behind cs r f h)
    ] in
    ap to same

pub pointer-nowhere : {K : Type 0} (cs : List Change) (p : Pointer K)
    → list_any (overlaps p.range) cs ≡ true
    → let with_range : Span → Pointer K = λ r. record { kind = p.kind; range = r } in
    ◌≡◌ {A = Option (Pointer K)} None (option_map with_range (moved_through cs p.range))
pointer-nowhere {K = K} cs p h =
    let with_range : Span → Pointer K = λ r. record { kind = p.kind; range = r } in
    let to : Option Span → Option (Pointer K) = λ o. option_map with_range o in
    sym (ap to (moved-nowhere cs p.range h))

-- ---- the ends in the new text

pub old-append : (cs ds : List Change) → old_bytes (cs ++ ds) ≡ old_bytes cs + old_bytes ds
old-append [] ds = omega arith
old-append (c ∷ cs) ds = omega (arith, old-append cs ds)

pub new-append : (cs ds : List Change) → new_bytes (cs ++ ds) ≡ new_bytes cs + new_bytes ds
new-append [] ds = omega arith
new-append (c ∷ cs) ds = omega (arith, new-append cs ds)

pub ends-more : (cs : List Change) (xs : List ℕ) (old new : ℕ) (c : Change) (x : ℕ)
    → AreEnds old new cs xs
    → x + (old + old_bytes cs + (c.range.end - c.range.start))
    ≡ c.range.end + (new + new_bytes cs + c.new_len)
    → AreEnds old new (cs ++ c ∷ []) (xs ++ x ∷ [])
ends-more [] [] old new c x h e = (omega (arith, e), tt)
ends-more [] (y ∷ xs) old new c x h e = absurd h
ends-more (d ∷ cs) [] old new c x h e = absurd h
ends-more (d ∷ cs) (y ∷ xs) old new c x h e = (
  h.0,
  ends-more cs xs (old + (d.range.end - d.range.start)) (new + d.new_len) c x h.1
      (omega (arith, e)),
)

-- the ends of the first changes are there, and the others follow
pub record AreBegun (list : List Change) (k : ℕ) (xs : List ℕ) (old_end new_end : ℕ) : Type 0
  where
    pub ends : AreEnds 0 0 (take k list) xs
    pub sum : new_end + old_bytes (take k list) ≡ old_end + new_bytes (take k list)
    pub follow : Follow old_end (drop k list)
    pub last : last_end old_end (drop k list) ≡ last_end 0 list

pub begun : (list : List Change) (xs : List ℕ) (z : ℕ) → Follow 0 list → xs ≡ [] → z ≡ 0
    → AreBegun list 0 xs z z
begun list xs z h none is_zero =
    let first : AreBegun list 0 [] 0 0 =
    record { ends = tt; sum = refl; follow = h; last = refl } in
    subst (λ ys. AreBegun list 0 ys z z) (sym none)
    (subst (λ n. AreBegun list 0 [] n n) (sym is_zero) first)

-- the next change, and how far its text reaches
pub record IsNext (list : List Change) (old_end new_end : ℕ) (c : Change) : Type 0 where
  pub behind : old_end ≤ c.range.start
  pub limit : new_end + (c.range.start - old_end) + c.new_len ≤ byte_limit

pub next-fits : (list : List Change) (k : ℕ) (xs : List ℕ) (old_end new_end : ℕ) (c : Change)
    → AreBegun list k xs old_end new_end → slice_get list k ≡ Some c
    → last_end 0 list + new_bytes list ≤ byte_limit + old_bytes list
    → IsNext list old_end new_end c
next-fits list k xs old_end new_end c h at fits =
    let first = take k list in
    let rest = drop (k + 1) list in
    let next : drop k list ≡ c ∷ rest = drop-at list k c at in
    let all : list ≡ first ++ (c ∷ rest) =
    sym (take-append-drop k list) ∙ ap (λ ys. first ++ ys) next in
    let f : Follow old_end (c ∷ rest) = subst (Follow old_end) next h.follow in
    let last : last_end c.range.end rest ≡ last_end 0 list =
    sym (ap (last_end old_end) next) ∙ h.last in
    record {
      behind = f.0;
      limit = omega (
        arith,
        f.0,
        f.1.0,
        last,
        old-within rest c.range.end f.1.1,
        h.sum,
        fits,
        ap old_bytes all,
        ap new_bytes all,
        old-append first (c ∷ rest),
        new-append first (c ∷ rest),
      );
    }

pub more-begun : (list : List Change) (k : ℕ) (xs ys : List ℕ) (old_end new_end x y : ℕ)
    (c : Change) → AreBegun list k xs old_end new_end → slice_get list k ≡ Some c
    → x ≡ new_end + (c.range.start - old_end) + c.new_len → ys ≡ xs ++ x ∷ []
    → y ≡ c.range.end → AreBegun list (k + 1) ys y x
more-begun list k xs ys old_end new_end x y c h at is list_is end_is =
    let first = take k list in
    let rest = drop (k + 1) list in
    let next : drop k list ≡ c ∷ rest = drop-at list k c at in
    let add : k + 1 ≡ suc k = omega arith in
    let more : take (k + 1) list ≡ first ++ c ∷ [] =
    ap (λ n. take n list) add ∙ take-more list k c at in
    let f : Follow old_end (c ∷ rest) = subst (Follow old_end) next h.follow in
    let old = old-append first (c ∷ []) in
    let new = new-append first (c ∷ []) in
    let sum : x + old_bytes (first ++ c ∷ []) ≡ c.range.end + new_bytes (first ++ c ∷ []) =
    omega (arith, is, old, new, h.sum, f.0, f.1.0) in
    let made : AreBegun list (k + 1) ys c.range.end x = record {
      ends = subst (λ cs. AreEnds 0 0 cs ys) (sym more) (subst (AreEnds 0 0 (first ++ c ∷ []))
          (sym list_is) (ends-more first xs 0 0 c x h.ends (omega (arith, sum, old, new))));
      sum = subst (λ cs. x + old_bytes cs ≡ c.range.end + new_bytes cs) (sym more) sum;
      follow = f.1.1;
      last = sym (ap (last_end old_end) next) ∙ h.last;
    } in
    subst (λ n. AreBegun list (k + 1) ys n x) (sym end_is) made

pub all-ends : (list : List Change) (k : ℕ) (xs : List ℕ) (old_end new_end : ℕ)
    → AreBegun list k xs old_end new_end → length list ≤ k → AreEnds 0 0 list xs
all-ends list k xs old_end new_end h long =
    subst (λ cs. AreEnds 0 0 cs xs) (take_all k list long) h.ends

-- ---- the changes of edits

pub pairs-more : (ss : List Splice) (cs : List Change) (s : Splice) (c : Change) → ArePairs ss cs
    → IsChangeOf s c → ArePairs (ss ++ s ∷ []) (cs ++ c ∷ [])
pairs-more [] [] s c h g = (g, tt)
pairs-more [] (d ∷ cs) s c h g = absurd h
pairs-more (r ∷ ss) [] s c h g = absurd h
pairs-more (r ∷ ss) (d ∷ cs) s c h g = (h.0, pairs-more ss cs s c h.1 g)

pub pairs-are : (root : NodeTerm) (ss : List Splice) (cs : List Change) → HaveRanges root ss
    → ArePairs ss cs → new_bytes (changes_of (Node root) (edits_of ss)) ≤ byte_limit
    → cs ≡ changes_of (Node root) (edits_of ss)
pairs-are root [] [] r h l = refl
pairs-are root [] (c ∷ cs) r h l = absurd h
pairs-are root (s ∷ ss) [] r h l = absurd h
pairs-are root (s ∷ ss) (c ∷ cs) r h l =
    let d = change_of (Node root) (edit_of s) in
    let rest = pairs-are root ss cs r.1 h.1 (omega (arith, l)) in
    let same : c ≡ d = change-is c d (h.0.range ∙ r.0) (h.0.len (omega (arith, l))) in
    ap (λ x. x ∷ cs) same ∙ ap (λ xs. d ∷ xs) rest

pub pairs-next : (ss : List Splice) (k : ℕ) (s : Splice) (cs ds : List Change) (c : Change)
    → ArePairs (take k ss) cs → slice_get ss k ≡ Some s → ds ≡ cs ++ c ∷ [] → IsChangeOf s c
    → ArePairs (take (k + 1) ss) ds
pairs-next ss k s cs ds c h at is g =
    let add : k + 1 ≡ suc k = omega arith in
    let more : take (k + 1) ss ≡ take k ss ++ s ∷ [] =
    ap (λ n. take n ss) add ∙ take-more ss k s at in
    subst (λ us. ArePairs us ds) (sym more)
    (subst (ArePairs (take k ss ++ s ∷ [])) (sym is) (pairs-more (take k ss) cs s c h g))
