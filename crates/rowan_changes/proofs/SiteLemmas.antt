-- Sites of edits: which lie before a path, which take away what stands there, and where the edits
-- move it.
use Rattle.std.proofs.Common.{◌≡◌, ℕ, zero, suc, ◌+◌, ◌-◌, ◌<◌, ◌≤◌, Bool, true, false, List}
use Rattle.std.proofs.Common.{[], ◌∷◌, ◌++◌, length, take, drop, Some, None, inl, inr, refl, sym}
use Rattle.std.proofs.Common.{◌∙◌, ap, subst, arith, length-append}
use Rattle.std.specs.Prelude.{◌⊎◌, nat_lt, nat_le, nat_eq, ◌&&◌, ◌||◌, not, if◌then◌else◌, slice_get}
use Rattle.std.specs.List.{AllByRecursion, list_any}
use Rattle.std.specs.Option.{is_some}
use Rattle.std.specs.Prelude.{Result, IfOk}
use Rattle.std.proofs.lemmas.Bool.{lt-ltb, le-ltb, leb-true, ltb-true, ne_eqb, and_parts, cases_lt, cases_eq}
use Rattle.std.proofs.lemmas.Bool.{cases_Bool}
use Rattle.std.proofs.lemmas.Bool.Decides.{Decides-eqb}
use Rattle.rowan_green.specs.declared.fault.Fault.{Fault}
use Rattle.rowan_green.specs.declared.utility_types.NodeOrToken.TheVariants.{Node}
use Rattle.rowan_terms.specs.Path.{Path, subterm}
use Rattle.rowan_changes.specs.Edit.{lies_before}
use Rattle.rowan_changes.specs.Moved.{moved_index, moved_path}
use Rattle.rowan_changes.specs.Sites.{Site, EditedPlaces, site_place, is_among, is_taken_at}
use Rattle.rowan_changes.specs.Sites.{moved_over, path_after}
use Rattle.rowan_changes.specs.SitesKept.{EndsBefore, StandInTurn, carried}
use Rattle.rowan_changes.specs.Zipper.{Fork}
use Rattle.rowan_changes.proofs.Places.{Before, true-before, before-true}
use Rattle.rowan_changes.proofs.Untouched.{moved-before}
use Rattle.rowan_changes.proofs.Ways.{ok-from}

-- ---- two paths that part at an index

no-more : (b : Bool) → (b || false) ≡ b
no-more true = refl
no-more false = refl

pub fork-within : (q p : Path) (c : ℕ) → Fork q p c → (c ≤ length q) × (c ≤ length p)
fork-within q p zero f = (omega arith, omega arith)
fork-within [] p (suc c) f = absurd f
fork-within (i ∷ q) [] (suc c) f = absurd f
fork-within (i ∷ q) (k ∷ p) (suc c) f =
    let r = fork-within q p c f.1 in (omega (arith, r.0), omega (arith, r.1))

lies-down : (i k : ℕ) (q p : Path) (e : ℕ) → i ≡ k
    → lies_before (i ∷ q) e (k ∷ p) ≡ lies_before q e p
lies-down i k q p e same =
    ap (λ b. b || (nat_eq i k && lies_before q e p)) (le-ltb i k (omega (arith, same)))
    ∙ ap (λ b. b && lies_before q e p) ((Decides-eqb i k).1 same)

pub lies-none : (q p : Path) (e c : ℕ) → Fork q p c → length p ≤ c → lies_before q e p ≡ false
lies-none q [] e c f h = refl
lies-none q (k ∷ p) e zero f h = absurd (omega arith)
lies-none [] (k ∷ p) e (suc c) f h = absurd f
lies-none (i ∷ q) (k ∷ p) e (suc c) f h =
    lies-down i k q p e f.0 ∙ lies-none q p e c f.1 (omega arith)

pub lies-parted : (q p : Path) (e c i k : ℕ) → Fork q p c → slice_get q c ≡ Some i
    → slice_get p c ≡ Some k → lies_before q e p ≡ nat_lt i k
lies-parted [] p e c i k f g h = absurd cc
lies-parted (x ∷ q) [] e c i k f g h = absurd cc
lies-parted (x ∷ q) (y ∷ p) e zero i k f g h =
    let a : x ≡ i = cc in
    let b : y ≡ k = cc in
    ap (λ t. nat_lt x y || (t && lies_before q e p)) (ne_eqb x y f) ∙ no-more (nat_lt x y)
    ∙ ap (λ n. nat_lt n y) a ∙ ap (λ n. nat_lt i n) b
lies-parted (x ∷ q) (y ∷ p) e (suc c) i k f g h =
    lies-down x y q p e f.0 ∙ lies-parted q p e c i k f.1 g h

pub lies-ended : (q p : Path) (e c k : ℕ) → Fork q p c → length q ≤ c → slice_get p c ≡ Some k
    → lies_before q e p ≡ nat_le e k
lies-ended q [] e c k f l h = absurd cc
lies-ended [] (y ∷ p) e zero k f l h = let b : y ≡ k = cc in ap (λ n. nat_le e n) b
lies-ended (x ∷ q) (y ∷ p) e zero k f l h = absurd (omega arith)
lies-ended [] (y ∷ p) e (suc c) k f l h = absurd f
lies-ended (x ∷ q) (y ∷ p) e (suc c) k f l h =
    lies-down x y q p e f.0 ∙ lies-ended q p e c k f.1 (omega arith) h

-- where the paths part lies before the end of what lies behind the edit
pub parts-within : (q p : Path) (e c : ℕ) → Fork q p c → lies_before q e p ≡ true → c < length p
parts-within q p e c f h = elim (cases_lt c (length p)) [
  | inl within ↦ within
  | inr long ↦
      let t : true ≡ false = sym h ∙ lies-none q p e c f long in
      absurd cc
]

pub parted-order : (q p : Path) (e c i k : ℕ) → Fork q p c → slice_get q c ≡ Some i
    → slice_get p c ≡ Some k → lies_before q e p ≡ true → i ≤ k
parted-order q p e c i k f g h b =
    omega (arith, ltb-true i k (sym (lies-parted q p e c i k f g h) ∙ b))

pub ended-order : (q p : Path) (e c k : ℕ) → Fork q p c → length q ≤ c → slice_get p c ≡ Some k
    → lies_before q e p ≡ true → e ≤ k
ended-order q p e c k f l h b = leb-true e k (sym (lies-ended q p e c k f l h) ∙ b)

among-down : (i k : ℕ) (q p : Path) (s e : ℕ) → i ≡ k
    → is_among (i ∷ q) s e (k ∷ p) ≡ is_among q s e p
among-down i k q p s e same = ap (λ b. b && is_among q s e p) ((Decides-eqb i k).1 same)

pub among-parted : (q p : Path) (s e c : ℕ) → Fork q p c → c < length q
    → is_among q s e p ≡ false
among-parted q [] s e c f l = refl
among-parted [] (k ∷ p) s e c f l = absurd (omega arith)
among-parted (i ∷ q) (k ∷ p) s e zero f l =
    ap (λ b. b && is_among q s e p) (ne_eqb i k f)
among-parted (i ∷ q) (k ∷ p) s e (suc c) f l =
    among-down i k q p s e f.0 ∙ among-parted q p s e c f.1 (omega arith)

pub among-none : (q p : Path) (s e c : ℕ) → Fork q p c → length p ≤ c
    → is_among q s e p ≡ false
among-none q [] s e c f l = refl
among-none q (k ∷ p) s e zero f l = absurd (omega arith)
among-none [] (k ∷ p) s e (suc c) f l = absurd f
among-none (i ∷ q) (k ∷ p) s e (suc c) f l =
    among-down i k q p s e f.0 ∙ among-none q p s e c f.1 (omega arith)

pub among-at : (q p : Path) (s e c k : ℕ) → Fork q p c → length q ≤ c → slice_get p c ≡ Some k
    → is_among q s e p ≡ (nat_le s k && nat_lt k e)
among-at q [] s e c k f l h = absurd cc
among-at [] (y ∷ p) s e zero k f l h =
    let b : y ≡ k = cc in ap (λ n. nat_le s n && nat_lt n e) b
among-at (x ∷ q) (y ∷ p) s e zero k f l h = absurd (omega arith)
among-at [] (y ∷ p) s e (suc c) k f l h = absurd f
among-at (x ∷ q) (y ∷ p) s e (suc c) k f l h =
    among-down x y q p s e f.0 ∙ among-at q p s e c k f.1 (omega arith) h

pub carried-ended : (q p w : Path) (e m c k : ℕ) → Fork q p c → length q ≤ c
    → slice_get p c ≡ Some k → length w ≡ length q + 1
    → carried q e m w p ≡ take c w ++ (k - e + m) ∷ drop (c + 1) p
carried-ended q [] w e m c k f l h n = absurd cc
carried-ended [] (y ∷ p) w e m zero k f l h n =
    let b : y ≡ k = cc in ap (λ j. (j - e + m) ∷ p) b
carried-ended (x ∷ q) (y ∷ p) w e m zero k f l h n = absurd (omega arith)
carried-ended [] (y ∷ p) w e m (suc c) k f l h n = absurd f
carried-ended (x ∷ q) (y ∷ p) [] e m (suc c) k f l h n = absurd (omega arith)
carried-ended (x ∷ q) (y ∷ p) (j ∷ w) e m (suc c) k f l h n =
    let next : suc c + 1 ≡ suc (c + 1) = omega arith in
    ap (λ b. if b then j ∷ carried q e m w p else (y - x + j) ∷ p) ((Decides-eqb x y).1 f.0)
    ∙ ap (λ r. j ∷ r) (carried-ended q p w e m c k f.1 (omega arith) h (omega arith))
    ∙ sym (ap (λ d. j ∷ (take c w ++ (k - e + m) ∷ drop d (y ∷ p))) next)

pub carried-parted : (q p w : Path) (e m c i k j : ℕ) → Fork q p c → slice_get q c ≡ Some i
    → slice_get p c ≡ Some k → slice_get w c ≡ Some j
    → carried q e m w p ≡ take c w ++ (k - i + j) ∷ drop (c + 1) p
carried-parted [] p w e m c i k j f g h v = absurd cc
carried-parted (x ∷ q) [] w e m c i k j f g h v = absurd cc
carried-parted (x ∷ q) (y ∷ p) [] e m c i k j f g h v = absurd cc
carried-parted (x ∷ q) (y ∷ p) (z ∷ w) e m zero i k j f g h v =
    let a : x ≡ i = cc in
    let b : y ≡ k = cc in
    let d : z ≡ j = cc in
    ap (λ t. if t then z ∷ carried q e m w p else (y - x + z) ∷ p) (ne_eqb x y f)
    ∙ ap (λ n. (n - x + z) ∷ p) b ∙ ap (λ n. (k - n + z) ∷ p) a ∙ ap (λ n. (k - i + n) ∷ p) d
carried-parted (x ∷ q) (y ∷ p) (z ∷ w) e m (suc c) i k j f g h v =
    let next : suc c + 1 ≡ suc (c + 1) = omega arith in
    ap (λ b. if b then z ∷ carried q e m w p else (y - x + z) ∷ p) ((Decides-eqb x y).1 f.0)
    ∙ ap (λ r. z ∷ r) (carried-parted q p w e m c i k j f.1 g h v)
    ∙ sym (ap (λ d. z ∷ (take c w ++ (k - i + j) ∷ drop d (y ∷ p))) next)

-- ---- the length of a path

length-moved : (q : Path) (s e n : ℕ) (p : Path) → length (moved_path q s e n p) ≡ length p
length-moved q s e n [] = refl
length-moved [] s e n (k ∷ p) = refl
length-moved (i ∷ q) s e n (k ∷ p) =
    let y = moved_path q s e n p in elim (cases_Bool (nat_eq i k)) [
      | inl alike ↦ ap (λ b. length (if b then k ∷ y else k ∷ p)) alike
          ∙ ap suc (length-moved q s e n p)
      | inr unlike ↦ ap (λ b. length (if b then k ∷ y else k ∷ p)) unlike
    ]

pub length-over : (ss : List Site) (p : Path) → length (moved_over ss p) ≡ length p
length-over [] p = refl
length-over (s ∷ ss) p =
    length-moved s.parent s.start s.end s.count (moved_over ss p) ∙ length-over ss p

pub over-append : (ss rs : List Site) (p : Path)
    → moved_over (ss ++ rs) p ≡ moved_over ss (moved_over rs p)
over-append [] rs p = refl
over-append (s ∷ ss) rs p =
    ap (moved_path s.parent s.start s.end s.count) (over-append ss rs p)

-- ---- what lies behind edits, side by side with something else behind them

-- the paths are the same so far, and then the second goes on by `d` further behind, with the rest
-- that it has; the first one ends there, if they do not part
abbrev Beside : ℕ → ℕ → Path → Path → Path → Type 0
Beside c d r [] p = ⊥
Beside c d r (i ∷ z) [] = ⊥
Beside zero d r (i ∷ z) (k ∷ p) = (k ≡ i + d) × (p ≡ r) × ((0 < d) ⊎ (z ≡ []))
Beside (suc c) d r (i ∷ z) (k ∷ p) = (i ≡ k) × Beside c d r z p

-- an edit before the first moves both alike
beside-moved : (c d : ℕ) (r z p q : Path) (s e n : ℕ) → Beside c d r z p → Before q e z
    → Beside c d r (moved_path q s e n z) (moved_path q s e n p)
beside-moved c d r [] p q s e n h b = absurd h
beside-moved c d r (i ∷ z) [] q s e n h b = absurd h
beside-moved zero d r (i ∷ z) (k ∷ p) [] s e n h b =
    let far : nat_lt i e ≡ false = le-ltb i e b in
    let more : nat_lt k e ≡ false = le-ltb k e (omega (arith, h.0, b)) in
    subst (λ x. Beside zero d r ((if x then i else i - e + s + n) ∷ z)
    (moved_index s e n k ∷ p)) (sym far)
    (subst (λ x. Beside zero d r ((i - e + s + n) ∷ z)
    ((if x then k else k - e + s + n) ∷ p)) (sym more) (omega (arith, h.0, b), h.1, h.2))
beside-moved zero d r (i ∷ z) (k ∷ p) (j ∷ q) s e n h b =
    let y = moved_path q s e n z in
    let x = moved_path q s e n p in elim b [
      | inl less ↦
          let here : nat_eq j i ≡ false = ne_eqb j i (λ o. omega (arith, less, o)) in
          let there : nat_eq j k ≡ false = ne_eqb j k (λ o. omega (arith, less, o, h.0)) in
          subst (λ t. Beside zero d r (if t then i ∷ y else i ∷ z)
          (if nat_eq j k then k ∷ x else k ∷ p)) (sym here)
          (subst (λ t. Beside zero d r (i ∷ z) (if t then k ∷ x else k ∷ p)) (sym there) h)
      | inr both ↦ elim h.2 [
        | inl pos ↦
            let here : nat_eq j i ≡ true = (Decides-eqb j i).1 both.0 in
            let there : nat_eq j k ≡ false =
            ne_eqb j k (λ o. omega (arith, both.0, o, h.0, pos)) in
            subst (λ t. Beside zero d r (if t then i ∷ y else i ∷ z)
            (if nat_eq j k then k ∷ x else k ∷ p)) (sym here)
            (subst (λ t. Beside zero d r (i ∷ y) (if t then k ∷ x else k ∷ p)) (sym there)
            (h.0, h.1, inl pos))
        | inr none ↦ absurd (subst (Before q e) none both.1)
      ]
    ]
beside-moved (suc c) d r (i ∷ z) (k ∷ p) [] s e n h b =
    let far : nat_lt i e ≡ false = le-ltb i e b in
    let more : nat_lt k e ≡ false = le-ltb k e (omega (arith, h.0, b)) in
    subst (λ x. Beside (suc c) d r ((if x then i else i - e + s + n) ∷ z)
    (moved_index s e n k ∷ p)) (sym far)
    (subst (λ x. Beside (suc c) d r ((i - e + s + n) ∷ z)
    ((if x then k else k - e + s + n) ∷ p)) (sym more) (omega (arith, h.0), h.1))
beside-moved (suc c) d r (i ∷ z) (k ∷ p) (j ∷ q) s e n h b =
    let y = moved_path q s e n z in
    let x = moved_path q s e n p in elim b [
      | inl less ↦
          let here : nat_eq j i ≡ false = ne_eqb j i (λ o. omega (arith, less, o)) in
          let there : nat_eq j k ≡ false = ne_eqb j k (λ o. omega (arith, less, o, h.0)) in
          subst (λ t. Beside (suc c) d r (if t then i ∷ y else i ∷ z)
          (if nat_eq j k then k ∷ x else k ∷ p)) (sym here)
          (subst (λ t. Beside (suc c) d r (i ∷ z) (if t then k ∷ x else k ∷ p)) (sym there) h)
      | inr both ↦
          let here : nat_eq j i ≡ true = (Decides-eqb j i).1 both.0 in
          let there : nat_eq j k ≡ true = (Decides-eqb j k).1 (both.0 ∙ h.0) in
          subst (λ t. Beside (suc c) d r (if t then i ∷ y else i ∷ z)
          (if nat_eq j k then k ∷ x else k ∷ p)) (sym here)
          (subst (λ t. Beside (suc c) d r (i ∷ y) (if t then k ∷ x else k ∷ p)) (sym there)
          (h.0, beside-moved c d r z p q s e n h.1 both.1))
    ]

pub true-places : (s : Site) (ss : List Site)
    → AllByRecursion (λ f. EndsBefore (site_place f) s) ss
    → AllByRecursion (λ f. Before s.parent s.end (site_place f)) ss
true-places s [] a = tt
true-places s (f ∷ ss) a =
    (true-before s.parent s.end (site_place f) a.0, true-places s ss a.1)

-- what lies behind a place and behind these edits lies behind the place once they are made
pub over-behind : (ss : List Site) (q : Path) (n : ℕ) (z : Path) → Before q n z
    → AllByRecursion (λ f. Before q n (site_place f)) ss → StandInTurn ss
    → AllByRecursion (EndsBefore z) ss → Before q n (moved_over ss z)
over-behind [] q n z h a t b = h
over-behind (f ∷ fs) q n z h a t b =
    let near : Before f.parent f.end (moved_over fs z) =
    over-behind fs f.parent f.end z (true-before f.parent f.end z b.0) (true-places f fs t.1) t.2
    b.1 in
    moved-before q n f.parent f.start f.end f.count (moved_over fs z) a.0 t.0 near

beside-over : (ss : List Site) (c d : ℕ) (r z p : Path) → Beside c d r z p → StandInTurn ss
    → AllByRecursion (EndsBefore z) ss → Beside c d r (moved_over ss z) (moved_over ss p)
beside-over [] c d r z p h t b = h
beside-over (f ∷ fs) c d r z p h t b =
    beside-moved c d r (moved_over fs z) (moved_over fs p) f.parent f.start f.end f.count
    (beside-over fs c d r z p h t.2 b.1)
    (over-behind fs f.parent f.end z (true-before f.parent f.end z b.0) (true-places f fs t.1) t.2
    b.1)

-- the new end of an edit that begins at a place of the new tree
abbrev pub EndsAt : Path → ℕ → ℕ → Type 0
EndsAt w n m = (u : Path) (j : ℕ) → w ≡ u ++ j ∷ [] → m ≡ j + n

-- how what lies behind an edit stands beside the place of the edit, and what follows from that
record Parting (q : Path) (s e n : ℕ) (p : Path) : Type 0 where
  same : ℕ
  more : ℕ
  rest : Path
  beside : Beside same more rest (q ++ s ∷ []) (moved_path q s e n p)
  lands : (w x : Path) (m : ℕ) → Beside same more rest w x → length w ≡ length q + 1
      → EndsAt w n m → x ≡ carried q e m w p

lands-ended : (e n k : ℕ) (p w x : Path) (m : ℕ) → Beside 0 (k - e + n) p w x
    → length w ≡ 0 + 1 → EndsAt w n m → x ≡ carried [] e m w (k ∷ p)
lands-ended e n k p [] x m h l a = absurd h
lands-ended e n k p (i ∷ w) [] m h l a = absurd h
lands-ended e n k p (i ∷ j ∷ w) (y ∷ x) m h l a = absurd (omega arith)
lands-ended e n k p (i ∷ []) (y ∷ x) m h l a =
    let end : m ≡ i + n = a [] i refl in
    let at : y ≡ k - e + m = omega (arith, h.0, end) in
    ap (λ t. y ∷ t) h.1 ∙ ap (λ t. t ∷ p) at

lands-parted : (i k : ℕ) (q p : Path) (e n : ℕ) (w x : Path) (m : ℕ) → Beside 0 (k - i) p w x
    → i < k → x ≡ carried (i ∷ q) e m w (k ∷ p)
lands-parted i k q p e n [] x m h l = absurd h
lands-parted i k q p e n (j ∷ w) [] m h l = absurd h
lands-parted i k q p e n (j ∷ w) (y ∷ x) m h l =
    let unlike : nat_eq i k ≡ false = ne_eqb i k (λ o. omega (arith, l, o)) in
    let at : y ≡ k - i + j = omega (arith, h.0) in
    ap (λ t. y ∷ t) h.1 ∙ ap (λ t. t ∷ p) at
    ∙ sym (ap (λ b. if b then j ∷ carried q e m w p else (k - i + j) ∷ p) unlike)

parting : (q : Path) (s e n : ℕ) (p : Path) → Before q e p → Parting q s e n p
parting q s e n [] b = absurd b
parting [] s e n (k ∷ p) b =
    let far : nat_lt k e ≡ false = le-ltb k e b in
    record {
      same = 0;
      more = k - e + n;
      rest = p;
      beside = subst (λ x. Beside 0 (k - e + n) p (s ∷ [])
          ((if x then k else k - e + s + n) ∷ p)) (sym far) (omega arith, refl, inr refl);
      lands = λ w x m h l a. lands-ended e n k p w x m h l a;
    }
parting (i ∷ q) s e n (k ∷ p) b = elim b [
  | inl less ↦
      let unlike : nat_eq i k ≡ false = ne_eqb i k (λ o. omega (arith, less, o)) in
      let y = moved_path q s e n p in
      record {
        same = 0;
        more = k - i;
        rest = p;
        beside = subst (λ x. Beside 0 (k - i) p (i ∷ (q ++ s ∷ [])) (if x then k ∷ y else k ∷ p))
            (sym unlike) (omega (arith, less), refl, inl (omega (arith, less)));
        lands = λ w x m h l a. lands-parted i k q p e n w x m h less;
      }
  | inr both ↦
      let r = parting q s e n p both.1 in
      let alike : nat_eq i k ≡ true = (Decides-eqb i k).1 both.0 in
      let y = moved_path q s e n p in
      record {
        same = suc r.same;
        more = r.more;
        rest = r.rest;
        beside = subst (λ x. Beside (suc r.same) r.more r.rest (i ∷ (q ++ s ∷ []))
            (if x then k ∷ y else k ∷ p)) (sym alike) (both.0, r.beside);
        lands = λ w x m h l a. further i k q p s e n r alike w x m h l a;
      }
]
  where
    further : (i k : ℕ) (q p : Path) (s e n : ℕ) (r : Parting q s e n p) → nat_eq i k ≡ true
        → (w x : Path) (m : ℕ) → Beside (suc r.same) r.more r.rest w x
        → length w ≡ length (i ∷ q) + 1 → EndsAt w n m → x ≡ carried (i ∷ q) e m w (k ∷ p)
    further i k q p s e n r alike [] x m h l a = absurd h
    further i k q p s e n r alike (j ∷ w) [] m h l a = absurd h
    further i k q p s e n r alike (j ∷ w) (y ∷ x) m h l a =
        ap (λ t. t ∷ x) (sym h.0)
        ∙ ap (λ t. j ∷ t) (r.lands w x m h.1 (omega (arith, l))
        (λ u v g. a (j ∷ u) v (ap (λ t. j ∷ t) g)))
        ∙ sym (ap (λ b. if b then j ∷ carried q e m w p else (k - i + j) ∷ p) alike)

-- what lies behind edits goes with the last of them
pub carried-over : (ss : List Site) (s : Site) (w p : Path) (m : ℕ) → StandInTurn ss
    → AllByRecursion (EndsBefore (site_place s)) ss → w ≡ moved_over ss (site_place s)
    → EndsAt w s.count m → EndsBefore p s
    → moved_over (ss ++ s ∷ []) p ≡ carried s.parent s.end m w p
carried-over ss s w p m t a is ends b =
    let r = parting s.parent s.start s.end s.count p (true-before s.parent s.end p b) in
    let first = moved_path s.parent s.start s.end s.count p in
    let x = moved_over ss first in
    let h = beside-over ss r.same r.more r.rest (site_place s) first r.beside t a in
    let len : length w ≡ length s.parent + 1 =
    ap length is ∙ length-over ss (site_place s) ∙ length-append s.parent (s.start ∷ []) in
    over-append ss (s ∷ []) p
    ∙ r.lands w x m (subst (λ z. Beside r.same r.more r.rest z x) (sym is) h) len ends

-- ---- side by side behind edits

next-beside : (p : Path) (s i : ℕ) → Beside (length p) i [] (p ++ s ∷ []) (p ++ (s + i) ∷ [])
next-beside [] s i = (refl, refl, inr refl)
next-beside (x ∷ p) s i = (refl, next-beside p s i)

beside-next : (w : Path) (k i : ℕ) (x : Path) (c : ℕ) → length w ≡ c
    → Beside c i [] (w ++ k ∷ []) x → x ≡ w ++ (k + i) ∷ []
beside-next [] k i [] c l h = absurd h
beside-next [] k i (y ∷ x) zero l h = ap (λ t. y ∷ t) h.1 ∙ ap (λ t. t ∷ []) h.0
beside-next [] k i (y ∷ x) (suc c) l h = absurd (omega arith)
beside-next (j ∷ w) k i [] c l h = absurd h
beside-next (j ∷ w) k i (y ∷ x) zero l h = absurd (omega arith)
beside-next (j ∷ w) k i (y ∷ x) (suc c) l h =
    ap (λ t. t ∷ x) (sym h.0) ∙ ap (λ t. j ∷ t) (beside-next w k i x c (omega arith) h.1)

-- children that stand side by side behind edits do so once these are made
pub over-next : (ss : List Site) (p : Path) (s i : ℕ) (w : Path) (k : ℕ) → StandInTurn ss
    → AllByRecursion (EndsBefore (p ++ s ∷ [])) ss → w ++ k ∷ [] ≡ moved_over ss (p ++ s ∷ [])
    → moved_over ss (p ++ (s + i) ∷ []) ≡ w ++ (k + i) ∷ []
over-next ss p s i w k t a is =
    let x = moved_over ss (p ++ (s + i) ∷ []) in
    let h = beside-over ss (length p) i [] (p ++ s ∷ []) (p ++ (s + i) ∷ []) (next-beside p s i) t a
    in
    let len : length w ≡ length p =
    omega (
      arith,
      ap length is,
      length-over ss (p ++ s ∷ []),
      length-append p (s ∷ []),
      length-append w (k ∷ []),
    ) in
    beside-next w k i x (length p) len
    (subst (λ z. Beside (length p) i [] z x) (sym is) h)

pub before-later : (q : Path) (e : ℕ) (p : Path) (s i : ℕ) → Before q e (p ++ s ∷ [])
    → Before q e (p ++ (s + i) ∷ [])
before-later [] e [] s i b = omega (arith, b)
before-later [] e (k ∷ p) s i b = b
before-later (j ∷ q) e [] s i b = elim b [
  | inl less ↦ inl (omega (arith, less))
  | inr both ↦ absurd both.1
]
before-later (j ∷ q) e (k ∷ p) s i b = elim b [
  | inl less ↦ inl less
  | inr both ↦ inr (both.0, before-later q e p s i both.1)
]

pub all-later : (p : Path) (s i : ℕ) (ss : List Site)
    → AllByRecursion (EndsBefore (p ++ s ∷ [])) ss
    → AllByRecursion (EndsBefore (p ++ (s + i) ∷ [])) ss
all-later p s i [] a = tt
all-later p s i (r ∷ ss) a = (
  before-true r.parent r.end (p ++ (s + i) ∷ [])
      (before-later r.parent r.end p s i (true-before r.parent r.end (p ++ s ∷ []) a.0)),
  all-later p s i ss a.1,
)

-- ---- what does not lie behind edits

pub stays-before : (q : Path) (s e n : ℕ) (p : Path) → (Before q e p → ⊥)
    → moved_path q s e n p ≡ p
stays-before q s e n [] b = refl
stays-before [] s e n (k ∷ p) b = elim (cases_lt k e) [
  | inl less ↦ ap (λ x. (if x then k else k - e + s + n) ∷ p) (lt-ltb k e less)
  | inr more ↦ absurd (b more)
]
stays-before (i ∷ q) s e n (k ∷ p) b =
    let y = moved_path q s e n p in elim (cases_eq i k) [
      | inl same ↦ ap (λ x. if x then k ∷ y else k ∷ p) ((Decides-eqb i k).1 same)
          ∙ ap (λ t. k ∷ t) (stays-before q s e n p (λ c. b (inr (same, c))))
      | inr other ↦ ap (λ x. if x then k ∷ y else k ∷ p) (ne_eqb i k other)
    ]

pub not-before : (q : Path) (e : ℕ) (p : Path) → lies_before q e p ≡ false → Before q e p → ⊥
not-before q e p h b = let t : true ≡ false = sym (before-true q e p b) ∙ h in cc

pub stays-all : (ss : List Site) (p : Path)
    → AllByRecursion (λ s. lies_before s.parent s.end p ≡ false) ss → moved_over ss p ≡ p
stays-all [] p a = refl
stays-all (s ∷ ss) p a =
    ap (moved_path s.parent s.start s.end s.count) (stays-all ss p a.1)
    ∙ stays-before s.parent s.start s.end s.count p (not-before s.parent s.end p a.0)

-- ---- what is taken away

and-false : (b : Bool) → (b && false) ≡ false
and-false true = refl
and-false false = refl

-- what ends before an element does not take it away
before-apart : (q : Path) (s e : ℕ) (p : Path) → Before q e p → is_among q s e p ≡ false
before-apart q s e [] b = refl
before-apart [] s e (k ∷ p) b =
    ap (λ x. nat_le s k && x) (le-ltb k e b) ∙ and-false (nat_le s k)
before-apart (i ∷ q) s e (k ∷ p) b = elim b [
  | inl less ↦ ap (λ x. x && is_among q s e p) (ne_eqb i k (λ o. omega (arith, less, o)))
  | inr both ↦ among-down i k q p s e both.0 ∙ before-apart q s e p both.1
]

-- what ends before an edit begins ends before what the edit takes away
taken-behind : (q : Path) (e : ℕ) (w : Path) (s t : ℕ) (p : Path) → is_among w s t p ≡ true
    → Before q e (w ++ s ∷ []) → Before q e p
taken-behind q e w s t [] h b = absurd cc
taken-behind [] e [] s t (k ∷ p) h b =
    omega (arith, b, leb-true s k (and_parts (nat_le s k) (nat_lt k t) h).0)
taken-behind (i ∷ q) e [] s t (k ∷ p) h b = elim b [
  | inl less ↦
      inl (omega (arith, less, leb-true s k (and_parts (nat_le s k) (nat_lt k t) h).0))
  | inr both ↦ absurd both.1
]
taken-behind [] e (j ∷ w) s t (k ∷ p) h b =
    omega (arith, b, (Decides-eqb j k).0 (and_parts (nat_eq j k) (is_among w s t p) h).0)
taken-behind (i ∷ q) e (j ∷ w) s t (k ∷ p) h b =
    let r = and_parts (nat_eq j k) (is_among w s t p) h in
    let same : j ≡ k = (Decides-eqb j k).0 r.0 in elim b [
      | inl less ↦ inl (omega (arith, less, same))
      | inr both ↦ inr (both.0 ∙ same, taken-behind q e w s t p r.1 both.1)
    ]

pub none-before : (p : Path) (ss : List Site) → AllByRecursion (EndsBefore p) ss
    → list_any (is_taken_at p) ss ≡ false
none-before p [] a = refl
none-before p (s ∷ ss) a =
    ap (λ x. x || list_any (is_taken_at p) ss)
    (before-apart s.parent s.start s.end p (true-before s.parent s.end p a.0))
    ∙ none-before p ss a.1

pub none-behind : (p : Path) (s : Site) (ss : List Site)
    → AllByRecursion (λ f. EndsBefore (site_place f) s) ss
    → lies_before s.parent s.end p ≡ false → list_any (is_taken_at p) ss ≡ false
none-behind p s [] a h = refl
none-behind p s (f ∷ ss) a h =
    ap (λ x. x || list_any (is_taken_at p) ss) (apart (cases_Bool (is_taken_at p f)))
    ∙ none-behind p s ss a.1 h
  where
    apart : (is_taken_at p f ≡ true) ⊎ (is_taken_at p f ≡ false) → is_taken_at p f ≡ false
    apart (inl alike) = absurd (not-before s.parent s.end p h
        (taken-behind s.parent s.end f.parent f.start f.end p alike
        (true-before s.parent s.end (site_place f) a.0)))
    apart (inr unlike) = unlike

pub any-front : (p : Path) (ss rs : List Site) → list_any (is_taken_at p) ss ≡ false
    → list_any (is_taken_at p) (ss ++ rs) ≡ list_any (is_taken_at p) rs
any-front p [] rs h = refl
any-front p (s ∷ ss) rs h =
    at (cases_Bool (is_taken_at p s)) (λ g. any-front p ss rs g)
  where
    at : (is_taken_at p s ≡ true) ⊎ (is_taken_at p s ≡ false)
        → (list_any (is_taken_at p) ss ≡ false
        → list_any (is_taken_at p) (ss ++ rs) ≡ list_any (is_taken_at p) rs)
        → list_any (is_taken_at p) (s ∷ (ss ++ rs)) ≡ list_any (is_taken_at p) rs
    at (inl alike) rest =
        let t : true ≡ false =
        sym (ap (λ x. x || list_any (is_taken_at p) ss) alike) ∙ h in
        absurd cc
    at (inr unlike) rest =
        ap (λ x. x || list_any (is_taken_at p) (ss ++ rs)) unlike
        ∙ rest (sym (ap (λ x. x || list_any (is_taken_at p) ss) unlike) ∙ h)

-- ---- where the element at a path is afterwards

pub path-none : (a : EditedPlaces) (p : Path) → is_some (subterm (Node a.root) p) ≡ false
    → path_after a p ≡ None
path-none a p h =
    ap (λ b. if b && not (list_any (is_taken_at p) a.sites) then Some (moved_over a.sites p)
    else None) h

pub path-taken : (a : EditedPlaces) (p : Path) → list_any (is_taken_at p) a.sites ≡ true
    → path_after a p ≡ None
path-taken a p h =
    let there = is_some (subterm (Node a.root) p) in
    ap (λ b. if there && not b then Some (moved_over a.sites p) else None) h
    ∙ ap (λ b. if b then Some (moved_over a.sites p) else None) (and-false there)

pub path-moved : (a : EditedPlaces) (p : Path) → is_some (subterm (Node a.root) p) ≡ true
    → list_any (is_taken_at p) a.sites ≡ false → path_after a p ≡ Some (moved_over a.sites p)
path-moved a p h g =
    let there = is_some (subterm (Node a.root) p) in
    ap (λ b. if there && not b then Some (moved_over a.sites p) else None) g
    ∙ ap (λ b. if b && true then Some (moved_over a.sites p) else None) h

-- ---- the index where a path parts from that of an edit

pub moved-to : (r : Result ℕ Fault) (from to : ℕ) (q p w : Path) (e m c : ℕ)
    → IfOk r (λ n. n ≡ from + to)
    → carried q e m w p ≡ take c w ++ (from + to) ∷ drop (c + 1) p
    → IfOk r (λ n. carried q e m w p ≡ take c w ++ n ∷ drop (c + 1) p)
moved-to r from to q p w e m c h g =
    ok-from r (λ n is. g ∙ ap (λ x. take c w ++ x ∷ drop (c + 1) p) (sym is)) h
