-- The arrangements that an editor keeps: one more, which of them are excluded, and all of them on
-- the way to plain edits.
use Rattle.std.proofs.Common.{◌≡◌, ◌≢◌, ℕ, suc, ◌+◌, ◌<◌, ◌≤◌, Bool, true, false, List, []}
use Rattle.std.proofs.Common.{◌∷◌, ◌++◌, length, append_assoc, Some, inl, inr, refl, sym}
use Rattle.std.proofs.Common.{◌∙◌, ap, subst, arith}
use Rattle.std.specs.Prelude.{Result, Ok, Err, OnOk, OnErr}
use Rattle.std.specs.Prelude.{cond, not, reverse, Vec, nat_eq}
use Rattle.std.specs.Cmp.Lexicographic.{slice_cmp}
use Rattle.std.specs.List.{All, AllByRecursion, Contains, filter, list_all}
use Rattle.std.specs.List.Sorted.{IsStrictlySortedBy}
use Rattle.std.specs.Map.{lookup, keys_of}
use Rattle.std.specs.BTreeMap.{insert_entry}
use Rattle.std.specs.Option.{is_some}
use Rattle.std.specs.Ordering.{nat_cmp, is_le, is_eq, match_ordering, ordering_then}
use Rattle.std.specs.declared.cmp.Ordering.{Ordering}
use Rattle.std.specs.declared.cmp.Ordering.TheVariants.{Less, Equal, Greater}
use Rattle.std.proofs.lemmas.List.{map-append, append-nil}
use Rattle.std.proofs.lemmas.Bool.{and_from, and_parts}
use Rattle.std.proofs.lemmas.Map.Lookups.{exact_bytes}
use Rattle.rowan_green.specs.declared.fault.Fault.{Fault}
use Rattle.rowan_green.specs.declared.utility_types.NodeOrToken.TheVariants.{Node}
use Rattle.rowan_terms.specs.Path.{Path}
use Rattle.rowan_green.specs.Term.{NodeTerm, Term, node_children}
use Rattle.rowan_changes.specs.declared.edit.Splice.{Splice}
use Rattle.rowan_edit.specs.declared.pieces.Piece.{Piece}
use Rattle.rowan_edit.specs.declared.plain_edits.Halves.{Halves}
use Rattle.rowan_edit.specs.ArrangedLimits.{PassesLimitOf, PassesLimitBefore}
use Rattle.rowan_edit.specs.Arrangements.{AreFree, gap}
use Rattle.rowan_edit.specs.ArrangedTree.{AreInPathOrder, IsPlanned}
use Rattle.rowan_edit.specs.Arrangements.{Arrangement, ArrangedPlan, Excludes, HasExcluded}
use Rattle.rowan_edit.specs.Arrangements.{HasPath}
use Rattle.rowan_edit.specs.Arrangements.{IsArrangementOf, all_arranged, arranged, edited_at, put_in}
use Rattle.rowan_edit.specs.ArrangementsKept.{arrangement_in, arrangements_in, is_between}
use Rattle.rowan_edit.specs.ArrangementsKept.{HasBetween, HasNoneBetween, AreClear, AreReady, HasChildren}
use Rattle.rowan_edit.specs.ArrangementsKept.{splices_in}
use Rattle.rowan_edit.specs.Edges.{range_edit}
use Rattle.rowan_changes.specs.Edit.{Edit, ends_before}
use Rattle.rowan_changes.specs.GreenEditor.{edits_of, AreListed}
use Rattle.rowan_edit.specs.Inside.{edits_inside}
use Rattle.rowan_changes.specs.declared.refusal.Refusal.{Refusal}
use Rattle.rowan_edit.specs.Pieces.{is_within}
use Rattle.rowan_changes.specs.Plan.{Plan, AreInOrder, added, with_edit as plan_with}
use Rattle.rowan_changes.specs.Sites.{is_among}
use Rattle.rowan_edit.proofs.ExcludeLemmas.{all-added, among-from, among-if, among-overlap}
use Rattle.rowan_edit.proofs.ExcludeLemmas.{path-equal, less-is, equal-is}

-- ---- one of a list

contains-first : {A : Type 0} (x : A) (xs : List A) → Contains (x ∷ xs) x
contains-first x xs = (0, omega arith, refl)

contains-later : {A : Type 0} (y x : A) (xs : List A) → Contains xs x → Contains (y ∷ xs) x
contains-later y x xs c = (suc c.0, omega (arith, c.1), c.2)

pub all-recursive : {A : Type 0} (P : A → Type 0) (xs : List A) → All P xs → AllByRecursion P xs
all-recursive P [] a = tt
all-recursive P (x ∷ xs) a =
    (a 0 x (omega arith), all-recursive P xs (λ k d h. a (suc k) d (omega (arith, h))))

-- ---- one more arrangement

pub all-put : (P : Arrangement → Type 0) (rs : List Arrangement) (a : Arrangement)
    → AllByRecursion P rs → P a → AllByRecursion P (put_in rs a)
all-put P [] a all h = (h, tt)
all-put P (b ∷ bs) a all h =
    at (all-put P bs a all.1 h) (slice_cmp nat_cmp a.path b.path)
  where
    at : AllByRecursion P (put_in bs a) → (o : Ordering)
        → AllByRecursion P (match_ordering o (a ∷ b ∷ bs) (a ∷ bs) (b ∷ put_in bs a))
    at rest Less = (h, all)
    at rest Equal = (h, all.1)
    at rest Greater = (all.0, rest)

eq-true : (o : Ordering) → is_eq o ≡ true → o ≡ Equal
eq-true Less h = absurd cc
eq-true Equal h = refl
eq-true Greater h = absurd cc

module _ {Z Y : Type 0} where
  pub put-entry : (es : List (Vec ℕ Z × Vec Piece Y)) (p : Vec ℕ Z) (pieces : Vec Piece Y)
      → arrangements_in (insert_entry (λ x y. slice_cmp nat_cmp x.items y.items) es p pieces)
      ≡ put_in (arrangements_in es) (arrangement_in (p, pieces))
  put-entry [] p pieces = refl
  put-entry (e ∷ es) p pieces =
      at (slice_cmp nat_cmp p.items e.0.items) refl
      ∙ ap (λ ys. match_ordering (slice_cmp nat_cmp p.items e.0.items) (a ∷ arrangement_in e ∷ arrangements_in es)
      (a ∷ arrangements_in es) (arrangement_in e ∷ ys)) (put-entry es p pieces)
    where
      a : Arrangement
      a = record { path = p.items; pieces = pieces.items }

      more : List (Vec ℕ Z × Vec Piece Y)
      more = insert_entry (λ x y. slice_cmp nat_cmp x.items y.items) es p pieces

      at : (o : Ordering) → slice_cmp nat_cmp p.items e.0.items ≡ o
          → arrangements_in (match_ordering o ((p, pieces) ∷ e ∷ es) ((e.0, pieces) ∷ es) (e ∷ more))
          ≡ match_ordering o (a ∷ arrangement_in e ∷ arrangements_in es) (a ∷ arrangements_in es)
          (arrangement_in e ∷ arrangements_in more)
      at Less h = refl
      at Equal h =
          ap (λ (q : Path). record { path = q; pieces = pieces.items } ∷ arrangements_in es)
          (sym (exact_bytes p.items e.0.items h))
      at Greater h = refl

  -- ---- which paths are there

  pub path-there : (es : List (Vec ℕ Z × Vec Piece Y)) (p : Path)
      → is_some (lookup (λ k. is_eq (slice_cmp nat_cmp p k.items)) es) ≡ true
      → HasPath (arrangements_in es) p
  path-there [] p h = absurd cc
  path-there (e ∷ es) p h =
      at (λ g. path-there es p g) (is_eq (slice_cmp nat_cmp p e.0.items)) refl h
    where
      at : (is_some (lookup (λ k. is_eq (slice_cmp nat_cmp p k.items)) es) ≡ true
          → HasPath (arrangements_in es) p) → (b : Bool) → is_eq (slice_cmp nat_cmp p e.0.items) ≡ b
          → is_some (cond b (Some e.1) (lookup (λ k. is_eq (slice_cmp nat_cmp p k.items)) es)) ≡ true
          → HasPath (arrangements_in (e ∷ es)) p
      at rest true is g = (
        arrangement_in e,
        contains-first (arrangement_in e) (arrangements_in es),
        sym (exact_bytes p e.0.items (eq-true (slice_cmp nat_cmp p e.0.items) is)),
      )
      at rest false is g =
          let r = rest g in
          (r.0, contains-later (arrangement_in e) r.0 (arrangements_in es) r.1, r.2)

  pub path-absent : (es : List (Vec ℕ Z × Vec Piece Y)) (p : Path)
      → is_some (lookup (λ k. is_eq (slice_cmp nat_cmp p k.items)) es) ≡ false
      → AllByRecursion (λ a. a.path ≢ p) (arrangements_in es)
  path-absent [] p h = tt
  path-absent (e ∷ es) p h =
      at (λ g. path-absent es p g) (is_eq (slice_cmp nat_cmp p e.0.items)) refl h
    where
      at : (is_some (lookup (λ k. is_eq (slice_cmp nat_cmp p k.items)) es) ≡ false
          → AllByRecursion (λ a. a.path ≢ p) (arrangements_in es)) → (b : Bool) → is_eq (slice_cmp nat_cmp p e.0.items) ≡ b
          → is_some (cond b (Some e.1) (lookup (λ k. is_eq (slice_cmp nat_cmp p k.items)) es)) ≡ false
          → AllByRecursion (λ a. a.path ≢ p) (arrangements_in (e ∷ es))
      at rest true is g = absurd cc
      at rest false is g = (
        λ same. (let t : true ≡ false =
            sym (ap is_eq (subst (λ q. slice_cmp nat_cmp p q ≡ Equal) (sym same) (path-equal p)))
            ∙ is in
            cc),
        rest g,
      )

  -- ---- which are between two paths

  pub some-between : (first past : Path) (es : List (Vec ℕ Z × Vec Piece Y))
      (x : Vec ℕ Z × Vec Piece Y) (rest : List (Vec ℕ Z × Vec Piece Y))
      → filter (λ e. is_between first past e.0.items) es ≡ x ∷ rest
      → HasBetween first past (arrangements_in es)
  some-between first past [] x rest h = absurd cc
  some-between first past (e ∷ es) x rest h =
      at (λ g. some-between first past es x rest g) (is_between first past e.0.items) refl h
    where
      at : (filter (λ y. is_between first past y.0.items) es ≡ x ∷ rest
          → HasBetween first past (arrangements_in es)) → (b : Bool) → is_between first past e.0.items ≡ b
          → cond b (e ∷ filter (λ y. is_between first past y.0.items) es)
          (filter (λ y. is_between first past y.0.items) es) ≡ x ∷ rest
          → HasBetween first past (arrangements_in (e ∷ es))
      at more true is g =
          (arrangement_in e, contains-first (arrangement_in e) (arrangements_in es), is)
      at more false is g =
          let r = more g in
          (r.0, contains-later (arrangement_in e) r.0 (arrangements_in es) r.1, r.2)

  pub none-between : (first past : Path) (es : List (Vec ℕ Z × Vec Piece Y))
      → filter (λ e. is_between first past e.0.items) es ≡ []
      → HasNoneBetween first past (arrangements_in es)
  none-between first past [] h = tt
  none-between first past (e ∷ es) h =
      at (λ g. none-between first past es g) (is_between first past e.0.items) refl h
    where
      at : (filter (λ y. is_between first past y.0.items) es ≡ []
          → HasNoneBetween first past (arrangements_in es)) → (b : Bool) → is_between first past e.0.items ≡ b
          → cond b (e ∷ filter (λ y. is_between first past y.0.items) es)
          (filter (λ y. is_between first past y.0.items) es) ≡ []
          → HasNoneBetween first past (arrangements_in (e ∷ es))
      at more true is g = absurd cc
      at more false is g = (is, more g)

  -- ---- on the way to plain edits

  -- these arrangements are left, and the splices are the edits with the others
  pub record IsHalfway (root : NodeTerm) (es : List Edit) (all left : List (Vec ℕ Z × Vec Piece Y))
      (h : Halves) : Type 0 where
    pub done : List Arrangement
    pub parts : arrangements_in all ≡ arrangements_in left ++ done
    pub listed : AreListed root (splices_in h)
    pub edits : edits_of (splices_in h) ≡ all_arranged root es done
    pub ready : AllByRecursion (λ a. IsArrangementOf root a × AreReady root h a.path)
        (arrangements_in left)

  pub halfway-begins : (root : NodeTerm) (ss : List Splice) (all : List (Vec ℕ Z × Vec Piece Y))
      (h : Halves) → AreListed root ss → AreClear root (edits_of ss) (arrangements_in all)
      → h.front.items ≡ ss → h.behind.items ≡ [] → IsHalfway root (edits_of ss) all all h
  halfway-begins root ss all h listed clear front behind = record {
    done = [];
    parts = sym (append-nil (arrangements_in all));
    listed = subst (AreListed root) (sym whole) listed;
    edits = ap edits_of whole;
    ready = each (arrangements_in all) clear;
  }
    where
      none : reverse h.behind.items ≡ []
      none = ap reverse behind

      whole : splices_in h ≡ ss
      whole = ap (λ xs. xs ++ reverse h.behind.items) front ∙ ap (λ xs. ss ++ xs) none
          ∙ append-nil ss

      each : (rs : List Arrangement)
          → AllByRecursion (λ a. IsArrangementOf root a × AreFree (edits_of ss) a.path) rs
          → AllByRecursion (λ a. IsArrangementOf root a × AreReady root h a.path) rs
      each [] a = tt
      each (b ∷ bs) a = (
        (
          a.0.0,
          record {
            listed = subst (AreListed root) (sym whole) listed;
            free = subst (λ xs. AreFree (edits_of xs) b.path) (sym whole) a.0.1;
            behind = subst (λ xs. AllByRecursion (λ e. ends_before (gap b.path) e ≡ true) (edits_of xs))
                (sym none) tt;
          },
        ),
        each bs a.1,
      )

  last-of : (P : Arrangement → Type 0) (rest : List (Vec ℕ Z × Vec Piece Y))
      (e : Vec ℕ Z × Vec Piece Y) → AllByRecursion P (arrangements_in (rest ++ e ∷ []))
      → AllByRecursion P (arrangements_in rest) × P (arrangement_in e)
  last-of P [] e a = (tt, a.0)
  last-of P (x ∷ rest) e a = let r = last-of P rest e a.1 in ((a.0, r.0), r.1)

  pub halfway-last : (root : NodeTerm) (es : List Edit) (all left rest : List (Vec ℕ Z × Vec Piece Y))
      (e : Vec ℕ Z × Vec Piece Y) (h : Halves) → IsHalfway root es all left h
      → left ≡ rest ++ e ∷ []
      → IsArrangementOf root (arrangement_in e) × AreReady root h e.0.items
  halfway-last root es all left rest e h half is =
      (last-of (λ a. IsArrangementOf root a × AreReady root h a.path) rest e
      (subst (λ xs. AllByRecursion (λ a. IsArrangementOf root a × AreReady root h a.path)
      (arrangements_in xs)) is half.ready)).1

  done-next : (all left rest : List (Vec ℕ Z × Vec Piece Y)) (e : Vec ℕ Z × Vec Piece Y)
      (done : List Arrangement) → arrangements_in all ≡ arrangements_in left ++ done
      → left ≡ rest ++ e ∷ []
      → arrangements_in all ≡ arrangements_in rest ++ arrangement_in e ∷ done
  done-next all left rest e done h is =
      h ∙ ap (λ xs. arrangements_in xs ++ done) is
      ∙ ap (λ xs. xs ++ done) (map-append arrangement_in rest (e ∷ []))
      ∙ append_assoc (arrangements_in rest) (arrangement_in e ∷ []) done

  pub halfway-next : (root : NodeTerm) (es : List Edit) (all left rest : List (Vec ℕ Z × Vec Piece Y))
      (e : Vec ℕ Z × Vec Piece Y) (h g : Halves) → IsHalfway root es all left h
      → left ≡ rest ++ e ∷ [] → AreListed root (splices_in g)
      → edits_of (splices_in g) ≡ arranged root (edits_of (splices_in h)) (arrangement_in e)
      → ((q : Path) → AreReady root h q → slice_cmp nat_cmp q e.0.items ≡ Less → AreReady root g q)
      → All (λ k. slice_cmp nat_cmp k.items e.0.items ≡ Less) (keys_of rest)
      → IsHalfway root es all rest g
  halfway-next root es all left rest e h g half is listed edits next below = record {
    done = arrangement_in e ∷ half.done;
    parts = done-next all left rest e half.done half.parts is;
    listed = listed;
    edits = edits ∙ ap (λ xs. arranged root xs (arrangement_in e)) half.edits;
    ready = each rest (last-of (λ a. IsArrangementOf root a × AreReady root h a.path) rest e
        (subst (λ xs. AllByRecursion (λ a. IsArrangementOf root a × AreReady root h a.path)
        (arrangements_in xs)) is half.ready)).0
        (all-recursive (λ k. slice_cmp nat_cmp k.items e.0.items ≡ Less) (keys_of rest) below);
  }
    where
      each : (xs : List (Vec ℕ Z × Vec Piece Y))
          → AllByRecursion (λ a. IsArrangementOf root a × AreReady root h a.path)
          (arrangements_in xs)
          → AllByRecursion (λ k. slice_cmp nat_cmp k.items e.0.items ≡ Less) (keys_of xs)
          → AllByRecursion (λ a. IsArrangementOf root a × AreReady root g a.path)
          (arrangements_in xs)
      each [] a b = tt
      each (x ∷ xs) a b = ((a.0.0, next x.0.items a.0.1 b.0), each xs a.1 b.1)

  pub halfway-fails : (root : NodeTerm) (es : List Edit) (all left rest : List (Vec ℕ Z × Vec Piece Y))
      (e : Vec ℕ Z × Vec Piece Y) (h : Halves) (fault : Fault) → IsHalfway root es all left h
      → left ≡ rest ++ e ∷ []
      → PassesLimitOf (edited_at root e.0.items (edits_inside e.0.items (edits_of (splices_in h))))
      fault
      → PassesLimitBefore root es (arrangements_in all) fault
  halfway-fails root es all left rest e h fault half is why =
      subst (λ rs. PassesLimitBefore root es rs fault)
      (sym (done-next all left rest e half.done half.parts is)) (later (arrangements_in rest))
    where
      own : PassesLimitOf (edited_at root e.0.items
          (edits_inside e.0.items (all_arranged root es half.done))) fault
      own = subst (λ xs. PassesLimitOf (edited_at root e.0.items (edits_inside e.0.items xs)) fault)
          half.edits why

      later : (rs : List Arrangement)
          → PassesLimitBefore root es (rs ++ arrangement_in e ∷ half.done) fault
      later [] = inl own
      later (a ∷ rs) = inr (later rs)

  pub halfway-ends : (root : NodeTerm) (es : List Edit) (all left : List (Vec ℕ Z × Vec Piece Y))
      (h : Halves) → IsHalfway root es all left h → left ≡ []
      → edits_of (splices_in h) ≡ all_arranged root es (arrangements_in all)
  halfway-ends root es all left h half none =
      half.edits
      ∙ ap (all_arranged root es)
      (sym (half.parts ∙ ap (λ xs. arrangements_in xs ++ half.done) none))

-- the keys of a map are in the order of paths
first-path : {Z Y : Type 0} (p : Vec ℕ Z) (es : List (Vec ℕ Z × Vec Piece Y))
    → AllByRecursion (λ k. slice_cmp nat_cmp p.items k.items ≡ Less) (keys_of es)
    → AllByRecursion (λ b. slice_cmp nat_cmp p.items b.path ≡ Less) (arrangements_in es)
first-path p [] a = tt
first-path p (e ∷ es) a = (a.0, first-path p es a.1)

pub path-ordered : {Z Y : Type 0} (es : List (Vec ℕ Z × Vec Piece Y))
    → IsStrictlySortedBy (λ (x : Vec ℕ Z) (y : Vec ℕ Z). slice_cmp nat_cmp x.items y.items)
    (keys_of es)
    → AreInPathOrder (arrangements_in es)
unfolding IsStrictlySortedBy
path-ordered [] h = tt
path-ordered (e ∷ es) h = (first-path e.0 es h.0, path-ordered es h.1)

pub clear-nodes : (root : NodeTerm) (es : List Edit) (rs : List Arrangement) → AreClear root es rs
    → AllByRecursion (IsArrangementOf root) rs
clear-nodes root es [] a = tt
clear-nodes root es (r ∷ rs) a = (a.0.0, clear-nodes root es rs a.1)

pub clear-free : (root : NodeTerm) (es : List Edit) (rs : List Arrangement) → AreClear root es rs
    → AllByRecursion (λ r. AreFree es r.path) rs
clear-free root es [] a = tt
clear-free root es (r ∷ rs) a = (a.0.1, clear-free root es rs a.1)

pub planned : (root r : NodeTerm) (es : List Edit) (ss : List Splice) (rs : List Arrangement)
    (plan : ArrangedPlan)
    → (let seen : ArrangedPlan = record { root = root; edits = es; arrangements = rs } in
    seen ≡ plan)
    → r ≡ root → edits_of ss ≡ es → AreListed r ss → AreInPathOrder rs → AreClear root es rs
    → IsPlanned plan
planned root r es ss rs plan view same list listed order clear =
    subst IsPlanned view (record {
      edits = subst (λ n. AreInOrder n es) same (subst (AreInOrder r) list listed.order);
      order = order;
      arrangements = clear-nodes root es rs clear;
      free = clear-free root es rs clear;
    })

pub on-ok-all : {A E : Type 0} {P : Type 0} (r : Result A E) → P → OnOk r P
on-ok-all (Ok x) h = h
on-ok-all (Err e) h = tt

-- ---- which arrangements an edit excludes

le-not : (o : Ordering) → is_le o ≡ true → o ≢ Greater
le-not Less h g = cc
le-not Equal h g = cc
le-not Greater h g = cc

not-le : (o : Ordering) → o ≢ Greater → is_le o ≡ true
not-le Less h = refl
not-le Equal h = refl
not-le Greater h = absurd (h refl)

greater-not : (o : Ordering) → not (is_le o) ≡ true → o ≡ Greater
greater-not Less h = absurd cc
greater-not Equal h = absurd cc
greater-not Greater h = refl

among-between : (p : Path) (s e : ℕ) (q : Path) → is_among p s e q ≡ true
    → is_between (p ++ s ∷ []) (p ++ e ∷ []) q ≡ true
among-between p s e q h =
    let r = among-from p s e q h in
    and_from (is_le (slice_cmp nat_cmp (p ++ s ∷ []) q))
    (not (is_le (slice_cmp nat_cmp (p ++ e ∷ []) q)))
    (not-le (slice_cmp nat_cmp (p ++ s ∷ []) q) r.0) (ap (λ o. not (is_le o)) r.1)

between-among : (p : Path) (s e : ℕ) (q : Path)
    → is_between (p ++ s ∷ []) (p ++ e ∷ []) q ≡ true → s < e → is_among p s e q ≡ true
between-among p s e q h less =
    let both = and_parts (is_le (slice_cmp nat_cmp (p ++ s ∷ []) q))
    (not (is_le (slice_cmp nat_cmp (p ++ e ∷ []) q))) h in
    among-if p s e q (le-not (slice_cmp nat_cmp (p ++ s ∷ []) q) both.0)
    (greater-not (slice_cmp nat_cmp (p ++ e ∷ []) q) both.1) less

-- what is between the first child that an edit takes away and the first one that it does not is
-- taken away
pub between-excluded : (rs : List Arrangement) (p : Path) (s e : ℕ) (new : List Term)
    → HasBetween (p ++ s ∷ []) (p ++ e ∷ []) rs → s < e
    → HasExcluded rs (range_edit p new s e)
between-excluded rs p s e new h less =
    (h.0, h.1, inr (between-among p s e h.0.path h.2 less))

pub path-excluded : (rs : List Arrangement) (p : Path) (s e : ℕ) (new : List Term) → HasPath rs p
    → HasExcluded rs (range_edit p new s e)
path-excluded rs p s e new h = (h.0, h.1, inl (sym h.2))

abbrev pub AreKept : List Arrangement → Edit → Type 0
AreKept rs e = AllByRecursion (λ a. ¬ Excludes e a.path) rs

pub none-excluded : (rs : List Arrangement) (p : Path) (s e : ℕ) (new : List Term)
    → AllByRecursion (λ a. a.path ≢ p) rs → HasNoneBetween (p ++ s ∷ []) (p ++ e ∷ []) rs
    → AreKept rs (range_edit p new s e)
none-excluded [] p s e new a b = tt
none-excluded (x ∷ rs) p s e new a b = (free, none-excluded rs p s e new a.1 b.1)
  where
    free : ¬ Excludes (range_edit p new s e) x.path
    free (inl same) = a.0 (sym same)
    free (inr taken) =
        let t : true ≡ false = sym (among-between p s e x.path taken) ∙ b.0 in cc

-- one that takes nothing away excludes the arrangement of its own node alone
pub nothing-taken : (rs : List Arrangement) (p : Path) (s e : ℕ) (new : List Term) → e ≤ s
    → AllByRecursion (λ a. a.path ≢ p) rs → AreKept rs (range_edit p new s e)
nothing-taken [] p s e new le a = tt
nothing-taken (x ∷ rs) p s e new le a = (free, nothing-taken rs p s e new le a.1)
  where
    empty : (q : Path) (s e : ℕ) (r : Path) → is_among q s e r ≡ true → s < e
    empty q s e [] h = absurd cc
    empty [] s e (k ∷ r) h =
        let o = among-overlap [] s e (k ∷ r) h in omega (arith, o.0, o.1)
    empty (i ∷ q) s e (k ∷ r) h =
        let both = and_parts (nat_eq i k) (is_among q s e r) h in empty q s e r both.1

    free : ¬ Excludes (range_edit p new s e) x.path
    free (inl same) = a.0 (sym same)
    free (inr taken) = omega (arith, empty p s e x.path taken, le)

-- the arrangements are still clear after one more edit
pub clear-added : (root : NodeTerm) (es : List Edit) (e : Edit) (rs : List Arrangement)
    → AreClear root es rs → AreKept rs e → AreClear root (added es e) rs
clear-added root es e [] a b = tt
clear-added root es e (x ∷ rs) a b = (
  (a.0.0, all-added (λ d. ¬ Excludes d x.path) es e a.0.1 b.0),
  clear-added root es e rs a.1 b.1,
)

-- and after an edit is taken or refused
pub clear-after : {A : Type 0} (r : Result A Refusal) (old new : Plan) (e : Edit)
    (rs : List Arrangement) → OnOk r (new ≡ plan_with old e) → OnErr r (new ≡ old)
    → AreClear old.root old.edits rs → AreKept rs e → AreClear new.root new.edits rs
clear-after (Ok x) old new e rs ok err clear kept =
    subst (λ (p : Plan). AreClear p.root p.edits rs) (sym ok)
    (clear-added old.root old.edits e rs clear kept)
clear-after (Err x) old new e rs ok err clear kept =
    subst (λ (p : Plan). AreClear p.root p.edits rs) (sym err) clear

-- a path is less than that of a later sibling
pub sibling-less : (p : Path) (s e : ℕ) → s < e
    → slice_cmp nat_cmp (p ++ s ∷ []) (p ++ e ∷ []) ≡ Less
sibling-less [] s e h = ap (λ o. ordering_then o Equal) (less-is s e h)
sibling-less (i ∷ p) s e h =
    ap (λ o. ordering_then o (slice_cmp nat_cmp (p ++ s ∷ []) (p ++ e ∷ []))) (equal-is i i refl)
    ∙ sibling-less p s e h

-- between paths that are those of children
pub between-two : (rs : List Arrangement) (p f l : Path) (s e : ℕ) → f ≡ p ++ s ∷ []
    → l ≡ p ++ e ∷ [] → HasBetween f l rs → HasBetween (p ++ s ∷ []) (p ++ e ∷ []) rs
between-two rs p f l s e first past h =
    subst (λ x. HasBetween x (p ++ e ∷ []) rs) first (subst (λ y. HasBetween f y rs) past h)

pub none-between-two : (rs : List Arrangement) (p f l : Path) (s e : ℕ) → f ≡ p ++ s ∷ []
    → l ≡ p ++ e ∷ [] → HasNoneBetween f l rs → HasNoneBetween (p ++ s ∷ []) (p ++ e ∷ []) rs
none-between-two rs p f l s e first past h =
    subst (λ x. HasNoneBetween x (p ++ e ∷ []) rs) first
    (subst (λ y. HasNoneBetween f y rs) past h)

-- an edit excludes none of no arrangements
pub no-entries : {Z Y : Type 0} (es : List (Vec ℕ Z × Vec Piece Y)) (e : Edit) → length es ≡ 0
    → AreKept (arrangements_in es) e
no-entries [] e h = tt
no-entries (x ∷ es) e h = absurd (omega (arith, h))

-- a piece that is past the last child
pub not-arranged : (root : NodeTerm) (a : Arrangement) (count : ℕ) → HasChildren root a.path count
    → list_all (is_within count) a.pieces ≡ false → ¬ IsArrangementOf root a
not-arranged root a count node no_piece of =
    let at : Some (Node of.node) ≡ Some (Node node.node) = sym of.stands ∙ node.stands in
    let n : of.node ≡ node.node = cc in
    let same : length (node_children of.node) ≡ count =
    ap (λ m. length (node_children m)) n ∙ sym node.count_is in
    let t : true ≡ false =
    sym (subst (λ k. list_all (is_within k) a.pieces ≡ true) same of.within) ∙ no_piece in
    cc

pub is-arranged : (root : NodeTerm) (a : Arrangement) (count : ℕ) → HasChildren root a.path count
    → list_all (is_within count) a.pieces ≡ true → IsArrangementOf root a
is-arranged root a count node all = record {
  node = node.node;
  stands = node.stands;
  within = subst (λ k. list_all (is_within k) a.pieces ≡ true) node.count_is all;
}
