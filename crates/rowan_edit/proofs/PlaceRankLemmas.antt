-- Whether an edit begins at a place: only the first one from there on is asked.
use Rattle.std.proofs.Common.{◌≡◌, ◌≢◌, ℕ, suc, ◌+◌, ◌≤◌, Bool, true, false, List, [], ◌∷◌}
use Rattle.std.proofs.Common.{◌++◌, length, inl, inr, refl, sym, ◌∙◌, ap, subst, arith}
use Rattle.std.specs.Prelude.{◌&&◌, cond, nat_eq, slice_index_or, Some, zero}
use Rattle.std.specs.Cmp.Lexicographic.{slice_cmp, pointwise}
use Rattle.std.specs.List.{AllByRecursion, Contains}
use Rattle.std.specs.List.Sorted.{IsStrictlySortedBy}
use Rattle.std.specs.Map.{keys_of}
use Rattle.std.specs.BTreeMap.Range.{entries_between}
use Rattle.std.specs.Ordering.{nat_cmp, ordering_then, is_le}
use Rattle.std.specs.declared.cmp.Ordering.{Ordering}
use Rattle.std.specs.declared.cmp.Ordering.TheVariants.{Less, Equal, Greater}
use Rattle.std.specs.declared.ops.Bound.TheVariants.{Included, Unbounded}
use Rattle.std.proofs.lemmas.Bool.{cases_order}
use Rattle.std.proofs.lemmas.Cmp.{nat_list_cmp_total}
use Rattle.std.proofs.lemmas.Bool.Decides.{Decides-eqb}
use Rattle.std.proofs.lemmas.List.{length-map}
use Rattle.std.proofs.lemmas.Map.Lookups.{exact_bytes}
use Rattle.std.proofs.lemmas.Slice.Eq.{slice_eq-Decides}
use Rattle.rowan_green.specs.declared.utility_types.NodeOrToken.TheVariants.{Node}
use Rattle.rowan_terms.specs.Path.{Path, subterm}
use Rattle.rowan_green.specs.Term.{NodeTerm, node_children}
use Rattle.rowan_table.specs.Cursor.{last_index}
use Rattle.rowan_changes.specs.declared.refusal.Refusal.{Refusal}
use Rattle.rowan_changes.specs.declared.refusal.Refusal.TheVariants.{Conflict, NotFound, Root}
use Rattle.rowan_changes.specs.declared.refusal.Refusal.TheVariants.{OtherTree, Memory as NoRoom}
use Rattle.rowan_edit.specs.Arrangements.{AreFree, HasExcluding, gap}
use Rattle.rowan_edit.specs.ArrangementsKept.{HasChildren}
use Rattle.rowan_changes.specs.Edit.{Edit, conflicts}
use Rattle.rowan_changes.specs.Plan.{IsOf, HasConflict, WhyRefused}
use Rattle.rowan_edit.specs.declared.ranked.Body.{Body}
use Rattle.rowan_edit.specs.declared.ranked.Rank.{Rank}
use Rattle.rowan_edit.specs.Ranked.{rank_cmp, HasEditAt, HasNoEditAt, edit_in, edits_in, IsRanked}
use Rattle.rowan_edit.specs.Ranked.{without_last, AreKept, HasRoom}
use Rattle.rowan_edit.proofs.ExcludeLemmas.{all-free, conflict-excludes, path-equal, less-is}
use Rattle.rowan_edit.proofs.ExcludeLemmas.{equal-is}
use Rattle.rowan_edit.proofs.RankLemmas.{front-last, front-of}
use Rattle.rowan_edit.proofs.RankedLemmas.{room-apart}

-- nothing is less than zero
zero-first : (x y : ℕ) (o : Ordering) → x ≡ 0 → is_le o ≡ true
    → is_le (ordering_then (nat_cmp x y) o) ≡ true
zero-first x y o none le = elim (cases_order x y) [
  | inl same ↦ ap (λ c. is_le (ordering_then c o)) (equal-is x y same) ∙ le
  | inr other ↦ elim other [
    | inl less ↦ ap (λ c. is_le (ordering_then c o)) (less-is x y less)
    | inr more ↦ absurd (omega (arith, none, more))
  ]
]

zero-le : (x y : ℕ) → x ≡ 0 → is_le (nat_cmp x y) ≡ true
zero-le x y none = elim (cases_order x y) [
  | inl same ↦ ap is_le (equal-is x y same)
  | inr other ↦ elim other [
    | inl less ↦ ap is_le (less-is x y less)
    | inr more ↦ absurd (omega (arith, none, more))
  ]
]

module _ (r : Rank) (end : r.end ≡ 0) (count : r.count ≡ 0) where
  least : (s : Rank) → s.place.items ≡ r.place.items → is_le (rank_cmp r s) ≡ true
  least s same =
      let tied : slice_cmp nat_cmp r.place.items s.place.items ≡ Equal =
      subst (λ p. slice_cmp nat_cmp r.place.items p ≡ Equal) (sym same)
      (path-equal r.place.items) in
      ap (λ o. is_le (ordering_then o (ordering_then (nat_cmp r.end s.end)
      (nat_cmp r.count s.count)))) tied
      ∙ zero-first r.end s.end (nat_cmp r.count s.count) end (zero-le r.count s.count count)

  -- one that is not less and is elsewhere has a greater place
  above : (s : Rank) → is_le (rank_cmp r s) ≡ true → s.place.items ≢ r.place.items
      → slice_cmp nat_cmp r.place.items s.place.items ≡ Less
  above s le other = at (slice_cmp nat_cmp r.place.items s.place.items) refl le
    where
      at : (o : Ordering) → slice_cmp nat_cmp r.place.items s.place.items ≡ o
          → is_le (ordering_then o (ordering_then (nat_cmp r.end s.end)
          (nat_cmp r.count s.count))) ≡ true
          → slice_cmp nat_cmp r.place.items s.place.items ≡ Less
      at Less e h = e
      at Equal e h = absurd (other (sym (exact_bytes r.place.items s.place.items e)))
      at Greater e h = absurd cc

  -- the place of a rank is not greater than that of a greater one
  further : (s t : Rank) → slice_cmp nat_cmp r.place.items s.place.items ≡ Less
      → rank_cmp s t ≡ Less → t.place.items ≢ r.place.items
  further s t first less same = at (slice_cmp nat_cmp s.place.items t.place.items) refl less
    where
      loop : slice_cmp nat_cmp r.place.items t.place.items ≡ Less → ⊥
      loop h =
          let e : slice_cmp nat_cmp r.place.items t.place.items ≡ Equal =
          subst (λ p. slice_cmp nat_cmp r.place.items p ≡ Equal) (sym same)
          (path-equal r.place.items) in
          cc

      at : (o : Ordering) → slice_cmp nat_cmp s.place.items t.place.items ≡ o
          → ordering_then o (ordering_then (nat_cmp s.end t.end) (nat_cmp s.count t.count)) ≡ Less
          → ⊥
      at Less e h = loop (nat_list_cmp_total.trans r.place.items s.place.items t.place.items first e)
      at Equal e h =
          loop (subst (λ p. slice_cmp nat_cmp r.place.items p ≡ Less)
          (exact_bytes s.place.items t.place.items e) first)
      at Greater e h = absurd cc

  all-further : (s : Rank) → slice_cmp nat_cmp r.place.items s.place.items ≡ Less
      → (es : List (Rank × Body)) → AllByRecursion (λ k. rank_cmp s k ≡ Less) (keys_of es)
      → HasNoEditAt es r.place.items
  all-further s first [] a = tt
  all-further s first (e ∷ es) a = (further s e.0 first a.0, all-further s first es a.1)

  pub none-there : (es : List (Rank × Body))
      → entries_between rank_cmp (Included r) Unbounded es ≡ [] → HasNoEditAt es r.place.items
  none-there [] h = tt
  none-there (e ∷ es) h = at (λ g. none-there es g) (is_le (rank_cmp r e.0)) refl h
    where
      at : (entries_between rank_cmp (Included r) Unbounded es ≡ []
          → HasNoEditAt es r.place.items) → (b : Bool) → is_le (rank_cmp r e.0) ≡ b
          → cond (b && true) (e ∷ entries_between rank_cmp (Included r) Unbounded es)
          (entries_between rank_cmp (Included r) Unbounded es) ≡ []
          → HasNoEditAt (e ∷ es) r.place.items
      at rest true is g = absurd cc
      at rest false is g =
          (λ same. (let t : true ≡ false = sym (least e.0 same) ∙ is in cc), rest g)

  pub other-there : (es : List (Rank × Body)) (x : Rank × Body) (rest : List (Rank × Body))
      → IsStrictlySortedBy rank_cmp (keys_of es)
      → entries_between rank_cmp (Included r) Unbounded es ≡ x ∷ rest
      → x.0.place.items ≢ r.place.items → HasNoEditAt es r.place.items
  unfolding IsStrictlySortedBy
  other-there [] x rest sorted h other = tt
  other-there (e ∷ es) x rest sorted h other =
      at (λ g. other-there es x rest sorted.1 g other) (is_le (rank_cmp r e.0)) refl h
    where
      at : (entries_between rank_cmp (Included r) Unbounded es ≡ x ∷ rest
          → HasNoEditAt es r.place.items) → (b : Bool) → is_le (rank_cmp r e.0) ≡ b
          → cond (b && true) (e ∷ entries_between rank_cmp (Included r) Unbounded es)
          (entries_between rank_cmp (Included r) Unbounded es) ≡ x ∷ rest
          → HasNoEditAt (e ∷ es) r.place.items
      at more true is g =
          let same : e ≡ x = cc in
          let own : e.0.place.items ≢ r.place.items =
          subst (λ (y : Rank × Body). y.0.place.items ≢ r.place.items) (sym same) other in
          (own, all-further e.0 (above e.0 is own) es sorted.0)
      at more false is g =
          (λ here. (let t : true ≡ false = sym (least e.0 here) ∙ is in cc), more g)

  pub first-there : (es : List (Rank × Body)) (x : Rank × Body) (rest : List (Rank × Body))
      → entries_between rank_cmp (Included r) Unbounded es ≡ x ∷ rest → Contains es x
  first-there [] x rest h = absurd cc
  first-there (e ∷ es) x rest h = at (λ g. first-there es x rest g) (is_le (rank_cmp r e.0)) h
    where
      at : (entries_between rank_cmp (Included r) Unbounded es ≡ x ∷ rest → Contains es x)
          → (b : Bool) → cond (b && true) (e ∷ entries_between rank_cmp (Included r) Unbounded es)
          (entries_between rank_cmp (Included r) Unbounded es) ≡ x ∷ rest → Contains (e ∷ es) x
      at more true g = let same : e ≡ x = cc in (0, omega arith, same)
      at more false g = let c = more g in (suc c.0, omega (arith, c.1), c.2)

  -- ---- what the first one from there on says

  pub some-at : (es lent rest : List (Rank × Body)) (x : Rank × Body)
      → lent ≡ entries_between rank_cmp (Included r) Unbounded es → lent ≡ x ∷ rest → (b : Bool)
      → b ≡ pointwise nat_eq x.0.place.items r.place.items → b ≡ true
      → HasEditAt es r.place.items
  some-at es lent rest x all first b is h = (
    x,
    first-there es x rest (sym all ∙ first),
    (slice_eq-Decides Decides-eqb x.0.place.items r.place.items b is).0 h,
  )

  pub none-at : (es lent rest : List (Rank × Body)) (x : Rank × Body)
      → IsStrictlySortedBy rank_cmp (keys_of es)
      → lent ≡ entries_between rank_cmp (Included r) Unbounded es → lent ≡ x ∷ rest → (b : Bool)
      → b ≡ pointwise nat_eq x.0.place.items r.place.items → b ≡ false
      → HasNoEditAt es r.place.items
  none-at es lent rest x sorted all first b is h =
      other-there es x rest sorted (sym all ∙ first)
      (λ same. (let t : true ≡ false =
      sym ((slice_eq-Decides Decides-eqb x.0.place.items r.place.items b is).1 same) ∙ h in
      cc))

-- ---- the edits of a node

-- an edit at one of the children of a node excludes its arrangement
pub at-excluding : (es : List (Rank × Body)) (p : Path) (k : ℕ) → HasEditAt es (p ++ k ∷ [])
    → HasExcluding (edits_in es) p
at-excluding es p k h = (
  edit_in h.0,
  contains-edit es h.0 h.1,
  inl (ap without_last h.2 ∙ front-of p k),
)
  where
    contains-edit : (fs : List (Rank × Body)) (e : Rank × Body) → Contains fs e
        → Contains (edits_in fs) (edit_in e)
    contains-edit fs e c = (
      c.0,
      omega (arith, c.1, length-map fs edit_in),
      read fs c.0 ∙ ap edit_in c.2,
    )
      where
        read : (gs : List (Rank × Body)) (n : ℕ)
            → slice_index_or (edits_in gs) n (edit_in e) ≡ edit_in (slice_index_or gs n e)
        read [] n = refl
        read (g ∷ gs) zero = refl
        read (g ∷ gs) (suc n) = read gs n

-- an edit that conflicts with the gap before the first child does
pub met-excluding : (es : List Edit) (p : Path) → HasConflict es (gap p) → HasExcluding es p
met-excluding es p h = (h.0, h.1, conflict-excludes h.0 p h.2)

-- no edit is one of the children of a node, if none begins at one of them or behind the last one
none-own : (root : NodeTerm) (p : Path) (count : ℕ) → HasChildren root p count
    → (es : List (Rank × Body)) → AllByRecursion (IsOf root) (edits_in es)
    → AllByRecursion IsRanked es
    → ((k : ℕ) → k ≤ count → HasNoEditAt es (p ++ k ∷ []))
    → AllByRecursion (λ e. e.parent ≢ p) (edits_in es)
none-own root p count node [] of ranked none = tt
none-own root p count node (e ∷ es) of ranked none =
    (own, none-own root p count node es of.1 ranked.1 (λ k le. (none k le).1))
  where
    own : (edit_in e).parent ≢ p
    own same =
        let start = last_index e.0.place.items in
        let there : e.0.place.items ≡ p ++ start ∷ [] =
        sym (front-last e.0.place.items ranked.0) ∙ ap (λ q. q ++ start ∷ []) same in
        let at : Some (Node of.0.node) ≡ Some (Node node.node) =
        sym of.0.stands ∙ ap (subterm (Node root)) same ∙ node.stands in
        let n : of.0.node ≡ node.node = cc in
        let within : start ≤ count =
        omega (arith, of.0.order, of.0.within, ap (λ m. length (node_children m)) n, node.count_is) in
        (none start within).0 there

-- nothing excludes the arrangement of a node, if there is room before its first child and no edit
-- begins at one of them or behind the last one
pub none-excluding : (root : NodeTerm) (p : Path) (count : ℕ) (es : List (Rank × Body))
    (x : Rank × Body) → HasChildren root p count → AreKept root es → IsRanked x
    → edit_in x ≡ gap p → HasRoom es x.0
    → ((k : ℕ) → k ≤ count → HasNoEditAt es (p ++ k ∷ [])) → AreFree (edits_in es) p
none-excluding root p count es x node kept long is room none =
    all-free (edits_in es) p
    (subst (λ e. AllByRecursion (λ f. conflicts f e ≡ false) (edits_in es)) is
    (room-apart root es x kept long room))
    (none-own root p count node es kept.order.of_tree kept.ranked none)

-- the gap before the first child of a node is refused only for want of memory
pub gap-memory : (root : NodeTerm) (p : Path) (count : ℕ) (r : Refusal) → HasChildren root p count
    → ((es : List Edit) → WhyRefused (record { root = root; edits = es }) (gap p) r)
    → r ≡ NoRoom
gap-memory root p count Conflict node why = let h = why [] in absurd (omega (arith, h.1.1))
gap-memory root p count NotFound node why =
    absurd (why [] (record {
      node = node.node;
      stands = node.stands;
      order = omega arith;
      within = omega arith;
    }))
gap-memory root p count Root node why = absurd (why [])
gap-memory root p count OtherTree node why = absurd (why [])
gap-memory root p count NoRoom node why = refl
