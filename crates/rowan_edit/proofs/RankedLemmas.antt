-- The edits that an editor keeps: one more of them, and all of them in a list.
use Rattle.std.proofs.Common.{◌≡◌, ◌+◌, ◌<◌, true, false, List, [], ◌∷◌, ◌++◌, length}
use Rattle.std.proofs.Common.{length-append, append_assoc, refl, sym, ◌∙◌, ap, subst, arith}
use Rattle.std.specs.List.{AllByRecursion}
use Rattle.std.specs.BTreeMap.{insert_entry}
use Rattle.std.specs.Ordering.{match_ordering}
use Rattle.std.specs.declared.cmp.Ordering.TheVariants.{Less, Greater}
use Rattle.std.proofs.lemmas.List.{map-append, append-nil}
use Rattle.rowan_green.specs.declared.utility_types.NodeOrToken.TheVariants.{Node}
use Rattle.rowan_green.specs.Term.{NodeTerm}
use Rattle.rowan_changes.specs.declared.edit.Splice.{Splice}
use Rattle.rowan_edit.specs.declared.ranked.Body.{Body}
use Rattle.rowan_edit.specs.declared.ranked.Rank.{Rank}
use Rattle.rowan_changes.specs.Changes.{range_of}
use Rattle.rowan_changes.specs.Edit.{Edit, ends_before, conflicts}
use Rattle.rowan_changes.specs.GreenEditor.{edits_of, HaveRanges, AreListed}
use Rattle.rowan_changes.specs.Plan.{Plan, IsOf, AreInOrder, added}
use Rattle.rowan_edit.specs.Ranked.{rank_cmp, edit_in, edits_in, ends_first, IsRanked, IsNext}
use Rattle.rowan_edit.specs.Ranked.{HasRoom, HasRange, IsEditIn, AreKept, IsSpliceOf}
use Rattle.rowan_edit.specs.Ranked.{AreSplicesOf}
use Rattle.rowan_edit.proofs.PlanLemmas.{EachEndsBefore, EndsBeforeEach, order-added, added-behind}
use Rattle.rowan_edit.proofs.PlanLemmas.{all-both, all-joined, all-apart}
use Rattle.rowan_edit.proofs.RankLemmas.{ends-is, at-mid}

all-turned : {A : Type 0} (P Q : A → Type 0) → ((x : A) → P x → Q x) → (xs : List A)
    → AllByRecursion P xs → AllByRecursion Q xs
all-turned P Q f [] a = tt
all-turned P Q f (x ∷ xs) a = (f x a.0, all-turned P Q f xs a.1)

all-more : {A : Type 0} (P : A → Type 0) (xs ys : List A) (x : A) → AllByRecursion P (xs ++ ys)
    → P x → AllByRecursion P (xs ++ x ∷ ys)
all-more P xs ys x a h =
    let r = all-both P xs ys a in all-joined P xs (x ∷ ys) r.0 (h, r.1)

-- ---- one more edit

-- a rank that no edit has is put behind those that are less
insert-mid : (x : Rank × Body) (front behind : List (Rank × Body))
    → AllByRecursion (λ e. rank_cmp x.0 e.0 ≡ Greater) front
    → AllByRecursion (λ e. rank_cmp x.0 e.0 ≡ Less) behind
    → insert_entry rank_cmp (front ++ behind) x.0 x.1 ≡ front ++ x ∷ behind
insert-mid x [] [] a b = refl
insert-mid x [] (e ∷ es) a b =
    ap (λ o. match_ordering o (x ∷ e ∷ es) ((e.0, x.1) ∷ es)
    (e ∷ insert_entry rank_cmp es x.0 x.1)) b.0
insert-mid x (e ∷ es) behind a b =
    ap (λ o. match_ordering o (x ∷ e ∷ (es ++ behind)) ((e.0, x.1) ∷ (es ++ behind))
    (e ∷ insert_entry rank_cmp (es ++ behind) x.0 x.1)) a.0
    ∙ ap (λ fs. e ∷ fs) (insert-mid x es behind a.1 b)

each-before : (x : Rank × Body) (es : List (Rank × Body)) → IsRanked x
    → AllByRecursion (λ e. ends_first e.0 x.0 ≡ true) es
    → EachEndsBefore (edits_in es) (edit_in x)
each-before x [] long a = tt
each-before x (e ∷ es) long a =
    (ends-is e.0 x.0 e.1 x.1 long ∙ a.0, each-before x es long a.1)

none-before : (x : Rank × Body) (es : List (Rank × Body)) → IsRanked x
    → AllByRecursion (λ e. ends_first e.0 x.0 ≡ false) es
    → AllByRecursion (λ f. ends_before f (edit_in x) ≡ false) (edits_in es)
none-before x [] long a = tt
none-before x (e ∷ es) long a =
    (ends-is e.0 x.0 e.1 x.1 long ∙ a.0, none-before x es long a.1)

before-each : (x : Rank × Body) (es : List (Rank × Body)) → AllByRecursion IsRanked es
    → AllByRecursion (λ e. ends_first x.0 e.0 ≡ true) es
    → EndsBeforeEach (edit_in x) (edits_in es)
before-each x [] long a = tt
before-each x (e ∷ es) long a =
    (ends-is x.0 e.0 x.1 e.1 long.0 ∙ a.0, before-each x es long.1 a.1)

-- a rank for one more edit of a tree
pub is-next : (root : NodeTerm) (es : List (Rank × Body)) (e : Edit) (x : Rank × Body)
    → AreKept root es → IsEditIn root e (length es) x → IsNext es x.0
is-next root es e x h edit =
    let own : IsOf root (edit_in x) = subst (IsOf root) (sym edit.is) edit.of in
    record {
      turn = h.order.in_turn;
      ranked = h.ranked;
      newest = subst (λ n. AllByRecursion (λ f. f.0.count < n) es) (sym edit.count_is) h.counted;
      place = edit.ranked;
      order = own.order;
    }

-- where there is room for a rank, no edit conflicts with one of it
pub room-apart : (root : NodeTerm) (es : List (Rank × Body)) (x : Rank × Body) → AreKept root es
    → IsRanked x → HasRoom es x.0
    → AllByRecursion (λ f. conflicts f (edit_in x) ≡ false) (edits_in es)
room-apart root es x h long room =
    let front = room.cut.front in
    let behind = room.cut.behind in
    let ranked = all-both IsRanked front behind (subst (AllByRecursion IsRanked) room.cut.is h.ranked) in
    subst (AllByRecursion (λ f. conflicts f (edit_in x) ≡ false))
    (sym (ap edits_in room.cut.is ∙ map-append edit_in front behind))
    (all-apart (edits_in front) (edits_in behind) (edit_in x) (each-before x front long room.before)
    (before-each x behind ranked.1 room.after))

-- the edits after one more is kept
pub record IsPut (root : NodeTerm) (es new : List (Rank × Body)) (e : Edit) : Type 0 where
  pub kept : AreKept root new
  pub list : edits_in new ≡ added (edits_in es) e
  pub apart : AllByRecursion (λ f. conflicts f e ≡ false) (edits_in es)

put-at : (root : NodeTerm) (es new : List (Rank × Body)) (x : Rank × Body) (e : Edit)
    (front behind : List (Rank × Body)) → AreKept root es → IsEditIn root e (length es) x
    → es ≡ front ++ behind → new ≡ front ++ x ∷ behind
    → EachEndsBefore (edits_in front) (edit_in x)
    → AllByRecursion (λ f. ends_before f (edit_in x) ≡ false) (edits_in behind)
    → EndsBeforeEach (edit_in x) (edits_in behind) → IsPut root es new e
put-at root es new x e front behind h edit is made before others after =
    let ds = edits_in front in
    let fs = edits_in behind in
    let parts : edits_in es ≡ ds ++ fs = ap edits_in is ∙ map-append edit_in front behind in
    let list : edits_in new ≡ ds ++ edit_in x ∷ fs =
    ap edits_in made ∙ map-append edit_in front (x ∷ behind) in
    let own : IsOf root (edit_in x) = subst (IsOf root) (sym edit.is) edit.of in
    let more : length es + 1 ≡ length new =
    omega (
      arith,
      ap length is,
      ap length made,
      length-append front behind,
      length-append front (x ∷ behind),
    ) in
    let counted : AllByRecursion (λ f. f.0.count < length new) es =
    all-turned (λ f. f.0.count < length es) (λ f. f.0.count < length new)
    (λ f less. omega (arith, less, more)) es h.counted in
    record {
      kept = record {
        order = subst (AreInOrder root) (sym list) (order-added root ds fs (edit_in x)
            (subst (AreInOrder root) parts h.order) before after own);
        ranges = put-all (HasRange root) h.ranges edit.range;
        ranked = put-all IsRanked h.ranked edit.ranked;
        counted = put-all (λ f. f.0.count < length new) counted
            (omega (arith, edit.count_is, more));
      };
      list = list ∙ sym (added-behind ds fs (edit_in x) before others)
          ∙ ap (λ xs. added xs (edit_in x)) (sym parts) ∙ ap (added (edits_in es)) edit.is;
      apart = subst (λ d. AllByRecursion (λ f. conflicts f d ≡ false) (edits_in es)) edit.is
          (subst (AllByRecursion (λ f. conflicts f (edit_in x) ≡ false)) (sym parts)
          (all-apart ds fs (edit_in x) before after));
    }
  where
    put-all : (P : Rank × Body → Type 0) → AllByRecursion P es → P x → AllByRecursion P new
    put-all P a p =
        subst (AllByRecursion P) (sym made)
        (all-more P front behind x (subst (AllByRecursion P) is a) p)

-- an edit is put where there is room for it
pub put-ranked : (root : NodeTerm) (es new : List (Rank × Body)) (x : Rank × Body) (e : Edit)
    → AreKept root es → IsEditIn root e (length es) x → HasRoom es x.0
    → new ≡ insert_entry rank_cmp es x.0 x.1 → IsPut root es new e
put-ranked root es new x e h edit room is =
    let front = room.cut.front in
    let behind = room.cut.behind in
    let ranked = (all-both IsRanked front behind
    (subst (AllByRecursion IsRanked) room.cut.is h.ranked)).1 in
    put-at root es new x e front behind h edit room.cut.is
    (is ∙ ap (λ fs. insert_entry rank_cmp fs x.0 x.1) room.cut.is
    ∙ insert-mid x front behind room.cut.greater room.cut.less)
    (each-before x front edit.ranked room.before) (none-before x behind edit.ranked room.others)
    (before-each x behind ranked room.after)

-- ---- all of them in a list

pub splices-edits : (es : List (Rank × Body)) (ss : List Splice) → AreSplicesOf es ss
    → edits_of ss ≡ edits_in es
splices-edits [] [] h = refl
splices-edits [] (s ∷ ss) h = absurd h
splices-edits (e ∷ es) [] h = absurd h
splices-edits (e ∷ es) (s ∷ ss) h = cc (h.0.edit, splices-edits es ss h.1)

splices-ranges : (root : NodeTerm) (es : List (Rank × Body)) (ss : List Splice)
    → AreSplicesOf es ss → AllByRecursion (HasRange root) es → HaveRanges root ss
splices-ranges root [] [] h a = tt
splices-ranges root [] (s ∷ ss) h a = absurd h
splices-ranges root (e ∷ es) [] h a = absurd h
splices-ranges root (e ∷ es) (s ∷ ss) h a = (
  h.0.range ∙ a.0 ∙ ap (range_of (Node root)) (sym h.0.edit),
  splices-ranges root es ss h.1 a.1,
)

pub listed : (root : NodeTerm) (es : List (Rank × Body)) (ss : List Splice) → AreSplicesOf es ss
    → AreKept root es → AreListed root ss
listed root es ss h kept = record {
  order = subst (AreInOrder root) (sym (splices-edits es ss h)) kept.order;
  ranges = splices-ranges root es ss h kept.ranges;
}

-- the plan of a list is the plan of what it is made of
pub seen-listed : (root : NodeTerm) (es : List (Rank × Body)) (ss : List Splice) (plan : Plan)
    → AreSplicesOf es ss
    → (let kept : Plan = record { root = root; edits = edits_in es } in kept ≡ plan)
    → (let seen : Plan = record { root = root; edits = edits_of ss } in seen ≡ plan)
seen-listed root es ss plan h is =
    let made : List Edit → Plan = λ ds. record { root = root; edits = ds } in
    ap made (splices-edits es ss h) ∙ is

splices-more : (es : List (Rank × Body)) (ss : List Splice) (e : Rank × Body) (s : Splice)
    → AreSplicesOf es ss → IsSpliceOf e s → AreSplicesOf (es ++ e ∷ []) (ss ++ s ∷ [])
splices-more [] [] e s h is = (is, tt)
splices-more [] (t ∷ ss) e s h is = absurd h
splices-more (d ∷ es) [] e s h is = absurd h
splices-more (d ∷ es) (t ∷ ss) e s h is = (h.0, splices-more es ss e s h.1 is)

-- the splices of the edits up to those that are left
pub record AreMoved (all left : List (Rank × Body)) (ss : List Splice) : Type 0 where
  pub done : List (Rank × Body)
  pub parts : all ≡ done ++ left
  pub are : AreSplicesOf done ss

pub moved-first : (all left : List (Rank × Body)) (ss : List Splice) → ss ≡ [] → left ≡ all
    → AreMoved all left ss
moved-first all left ss none h =
    record { done = []; parts = sym h; are = subst (AreSplicesOf []) (sym none) tt }

pub moved-next : (all left rest : List (Rank × Body)) (e : Rank × Body) (s : Splice)
    (ss new : List Splice) → AreMoved all left ss → left ≡ e ∷ rest → IsSpliceOf e s
    → new ≡ ss ++ s ∷ [] → AreMoved all rest new
moved-next all left rest e s ss new h next is made = record {
  done = h.done ++ e ∷ [];
  parts = h.parts ∙ ap (λ fs. h.done ++ fs) next ∙ sym (append_assoc h.done (e ∷ []) rest);
  are = subst (AreSplicesOf (h.done ++ e ∷ [])) (sym made) (splices-more h.done ss e s h.are is);
}

pub moved-ranked : (all left rest : List (Rank × Body)) (e : Rank × Body) (ss : List Splice)
    → AreMoved all left ss → left ≡ e ∷ rest → AllByRecursion IsRanked all → IsRanked e
moved-ranked all left rest e ss h next ranked =
    at-mid IsRanked h.done e rest (subst (AllByRecursion IsRanked)
    (h.parts ∙ ap (λ fs. h.done ++ fs) next) ranked)

pub moved-all : (all left : List (Rank × Body)) (ss : List Splice) → AreMoved all left ss
    → left ≡ [] → AreSplicesOf all ss
moved-all all left ss h none =
    subst (λ es. AreSplicesOf es ss)
    (sym (h.parts ∙ ap (λ fs. h.done ++ fs) none ∙ append-nil h.done)) h.are
