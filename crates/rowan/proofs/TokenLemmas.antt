-- The tokens in one direction: the nearest comes first, and then those beyond it.
use Rattle.std.proofs.Common.{◌≡◌, ℕ, ◌+◌, ◌<◌, ◌≤◌, Bool, true, false, cond, inl, inr}
use Rattle.std.proofs.Common.{List, [], ◌∷◌, ◌++◌, map, filter, Option, Some, None, reverse, refl}
use Rattle.std.proofs.Common.{sym, ◌∙◌, ap, arith, subst, ◌⊎◌}
use Rattle.std.specs.List.{find}
use Rattle.std.specs.Option.{option_map, option_map_or}
use Rattle.std.proofs.lemmas.Bool.{true≢false, cases_order, cond-true, cond-false}
use Rattle.std.proofs.lemmas.List.{reverse-append}
use Rattle.std.proofs.lemmas.Option.{same_Some}
use Rattle.rowan_green.specs.declared.utility_types.Direction.TheVariants.{Next, Prev}
use Rattle.rowan_green.specs.declared.utility_types.NodeOrToken.TheVariants.{Node}
use Rattle.rowan_terms.specs.Path.{Path, LeafAt, stands_before, node_leaves, leaves_from, below_place}
use Rattle.rowan_green.specs.Term.{NodeTerm, node, Forest, empty, node_then, token_then}
use Rattle.rowan_table.specs.Cursor.{Cursor}
use Rattle.rowan_table.specs.Moves.{cursor_at, leaf_paths, next_token, prev_token}
use Rattle.rowan_terms.proofs.OffsetLemmas.{before_at_less, before_at_same, before_at_greater}
use Rattle.rowan.specs.Around.{other_tokens, tokens_from}

-- ---- the order of paths

not_before_itself : (p : Path) → stands_before p p ≡ false
not_before_itself [] = refl
not_before_itself (i ∷ p) = before_at_same i p p ∙ not_before_itself p

-- an earlier place, or the same and an earlier path below it
earlier : (i j : ℕ) (p q : Path) → stands_before (i ∷ p) (j ∷ q) ≡ true
    → (i < j) ⊎ ((i ≡ j) × (stands_before p q ≡ true))
earlier i j p q h = elim (cases_order i j) [
  | inl e ↦ inr (e, sym (before_at_same i p q) ∙ ap (λ k. stands_before (i ∷ p) (k ∷ q)) e ∙ h)
  | inr (inl l) ↦ inl l
  | inr (inr g) ↦ absurd (true≢false (sym h ∙ before_at_greater i j p q g))
]

before_nothing : (p : Path) → stands_before p [] ≡ false
before_nothing [] = refl
before_nothing (i ∷ p) = refl

before_trans : (p q r : Path) → stands_before p q ≡ true → stands_before q r ≡ true
    → stands_before p r ≡ true
before_trans p q [] h k = absurd (true≢false (sym k ∙ before_nothing q))
before_trans p [] (k ∷ r) h l = absurd (true≢false (sym h ∙ before_nothing p))
before_trans [] (j ∷ q) (k ∷ r) h l = refl
before_trans (i ∷ p) (j ∷ q) (k ∷ r) h l =
    by (earlier i j p q h) (earlier j k q r l) (before_trans p q r)
  where
    by : (i < j) ⊎ ((i ≡ j) × (stands_before p q ≡ true))
        → (j < k) ⊎ ((j ≡ k) × (stands_before q r ≡ true))
        → (stands_before p q ≡ true → stands_before q r ≡ true → stands_before p r ≡ true)
        → stands_before (i ∷ p) (k ∷ r) ≡ true
    by (inl a) (inl b) below = before_at_less i k p r (omega arith)
    by (inl a) (inr b) below = before_at_less i k p r (omega (arith, b.0))
    by (inr a) (inl b) below = before_at_less i k p r (omega (arith, a.0))
    by (inr a) (inr b) below =
        ap (λ m. stands_before (m ∷ p) (k ∷ r)) (a.0 ∙ b.0) ∙ before_at_same k p r
        ∙ below a.1 b.1

-- ---- sorted lists

-- an order of paths
record IsOrder (R : Path → Path → Bool) : Type 0 where
  apart : (p : Path) → R p p ≡ false
  trans : (p q r : Path) → R p q ≡ true → R q r ≡ true → R p r ≡ true

forwards : IsOrder (λ p q. stands_before p q)
forwards = record { apart = not_before_itself; trans = before_trans }

backwards : IsOrder (λ p q. stands_before q p)
backwards = record { apart = not_before_itself; trans = λ p q r h k. before_trans r q p k h }

-- a path stands before all of a list
abbrev First : (Path → Path → Bool) → Path → List Path → Type 0
First R p [] = Unit {0}
First R p (q ∷ qs) = (R p q ≡ true) × First R p qs

-- each stands before those behind it
abbrev Sorted : (Path → Path → Bool) → List Path → Type 0
Sorted R [] = Unit {0}
Sorted R (q ∷ qs) = First R q qs × Sorted R qs

first-found : (R : Path → Path → Bool) (P : Path → Bool) (p q : Path) (qs : List Path)
    → First R p qs → find P qs ≡ Some q → R p q ≡ true
first-found R P p q [] f e = absurd cc
first-found R P p q (r ∷ qs) f e = by (P r) (first-found R P p q qs f.1) e
  where
    by : (b : Bool) → (find P qs ≡ Some q → R p q ≡ true) → cond b (Some r) (find P qs) ≡ Some q
        → R p q ≡ true
    by true rest e = ap (R p) (sym (same_Some r q e)) ∙ f.0
    by false rest e = rest e

-- all of a list pass
passing : (R : Path → Path → Bool) (p : Path) (qs : List Path) → First R p qs
    → filter (R p) qs ≡ qs
passing R p [] f = refl
passing R p (q ∷ qs) f =
    cond-true (R p q) (q ∷ filter (R p) qs) (filter (R p) qs) f.0
    ∙ ap (λ us. q ∷ us) (passing R p qs f.1)

first-trans : (R : Path → Path → Bool) → IsOrder R → (p q : Path) (rs : List Path)
    → R p q ≡ true → First R q rs → First R p rs
first-trans R o p q [] h f = tt
first-trans R o p q (r ∷ rs) h f = (o.trans p q r h f.0, first-trans R o p q rs h f.1)

turned : (R : Path → Path → Bool) → IsOrder R → (p q : Path) → R p q ≡ true → R q p ≡ false
turned R o p q h = by (R q p) refl
  where
    by : (b : Bool) → R q p ≡ b → b ≡ false
    by true k = absurd (true≢false (sym (o.trans p q p h k) ∙ o.apart p))
    by false k = refl

-- what a path stands before, of a sorted list, is the first such, and what that one stands before
nearest-first : (R : Path → Path → Bool) → IsOrder R → (p : Path) (qs : List Path) → Sorted R qs
    → filter (R p) qs ≡ option_map_or (λ q. q ∷ filter (R q) qs) (find (R p) qs) []
nearest-first R o p [] s = refl
nearest-first R o p (r ∷ rs) s = by (R p r) refl (nearest-first R o p rs s.1)
  where
    later : (found : Option Path) → find (R p) rs ≡ found
        → option_map_or (λ q. q ∷ filter (R q) rs) found []
        ≡ option_map_or (λ q. q ∷ filter (R q) (r ∷ rs)) found []
    later None e = refl
    later (Some q) e = ap (λ us. q ∷ us) (sym (cond-false (R q r) (r ∷ filter (R q) rs)
        (filter (R q) rs) (turned R o r q (first-found R (R p) r q rs s.0 e))))

    by : (b : Bool) → R p r ≡ b
        → filter (R p) rs ≡ option_map_or (λ q. q ∷ filter (R q) rs) (find (R p) rs) []
        → cond b (r ∷ filter (R p) rs) (filter (R p) rs)
        ≡ option_map_or (λ q. q ∷ filter (R q) (r ∷ rs)) (cond b (Some r) (find (R p) rs)) []
    by true h rest =
        ap (λ us. r ∷ us) (passing R p rs (first-trans R o p r rs h s.0)
        ∙ sym (cond-false (R r r) (r ∷ filter (R r) rs) (filter (R r) rs) (o.apart r)
        ∙ passing R r rs s.0))
    by false h rest = rest ∙ later (find (R p) rs) refl

first-append : (R : Path → Path → Bool) (p : Path) (qs rs : List Path)
    → First R p qs → First R p rs → First R p (qs ++ rs)
first-append R p [] rs f g = g
first-append R p (q ∷ qs) rs f g = (f.0, first-append R p qs rs f.1 g)

-- all of one list stand before all of another
abbrev Across : (Path → Path → Bool) → List Path → List Path → Type 0
Across R [] rs = Unit {0}
Across R (q ∷ qs) rs = First R q rs × Across R qs rs

sorted-append : (R : Path → Path → Bool) (qs rs : List Path) → Sorted R qs → Sorted R rs
    → Across R qs rs → Sorted R (qs ++ rs)
sorted-append R [] rs s t a = t
sorted-append R (q ∷ qs) rs s t a =
    (first-append R q qs rs s.0 a.0, sorted-append R qs rs s.1 t a.1)

first-reverse : (R : Path → Path → Bool) (p : Path) (qs : List Path) → First R p qs
    → First R p (reverse qs)
first-reverse R p [] f = tt
first-reverse R p (q ∷ qs) f = subst (First R p) (sym (reverse-append (q ∷ []) qs))
    (first-append R p (reverse qs) (q ∷ []) (first-reverse R p qs f.1) (f.0, tt))

across-one : (R : Path → Path → Bool) (p : Path) (qs : List Path) → First R p qs
    → Across (λ a b. R b a) qs (p ∷ [])
across-one R p [] f = tt
across-one R p (q ∷ qs) f = ((f.0, tt), across-one R p qs f.1)

sorted-reverse : (R : Path → Path → Bool) (qs : List Path) → Sorted R qs
    → Sorted (λ a b. R b a) (reverse qs)
sorted-reverse R [] s = tt
sorted-reverse R (q ∷ qs) s =
    subst (Sorted (λ a b. R b a)) (sym (reverse-append (q ∷ []) qs))
    (sorted-append (λ a b. R b a) (reverse qs) (q ∷ []) (sorted-reverse R qs s.1) (tt, tt)
    (across-one R q (reverse qs) (first-reverse R q qs s.0)))

-- ---- leaves

-- the paths begin with a place from n on
abbrev StartFrom : ℕ → List Path → Type 0
StartFrom n [] = Unit {0}
StartFrom n ([] ∷ qs) = ⊥
StartFrom n ((i ∷ q) ∷ qs) = (n ≤ i) × StartFrom n qs

start-below : (n i : ℕ) (qs : List Path) → n ≤ i → StartFrom n (map (λ q. i ∷ q) qs)
start-below n i [] h = tt
start-below n i (q ∷ qs) h = (h, start-below n i qs h)

start-append : (n : ℕ) (qs rs : List Path) → StartFrom n qs → StartFrom n rs
    → StartFrom n (qs ++ rs)
start-append n [] rs s t = t
start-append n ([] ∷ qs) rs s t = absurd s
start-append n ((i ∷ q) ∷ qs) rs s t = (s.0, start-append n qs rs s.1 t)

-- the paths of leaves
abbrev paths : List LeafAt → List Path
paths ls = map (λ l. l.0) ls

paths-below : (i : ℕ) (ks ls : List LeafAt)
    → paths (map (below_place i) ks ++ ls) ≡ map (λ q. i ∷ q) (paths ks) ++ paths ls
paths-below i [] ls = refl
paths-below i (k ∷ ks) ls = ap (λ us. (i ∷ k.0) ∷ us) (paths-below i ks ls)

leaves-start : (n i : ℕ) (f : Forest) → n ≤ i → StartFrom n (paths (leaves_from i f))
leaves-start n i empty h = tt
leaves-start n i (node_then m f) h =
    subst (StartFrom n) (sym (paths-below i (node_leaves m) (leaves_from (i + 1) f)))
    (start-append n (map (λ q. i ∷ q) (paths (node_leaves m))) (paths (leaves_from (i + 1) f))
    (start-below n i (paths (node_leaves m)) h) (leaves-start n (i + 1) f (omega arith)))
leaves-start n i (token_then t f) h = (h, leaves-start n (i + 1) f (omega arith))

first-below : (i : ℕ) (p : Path) (qs : List Path) → First (λ a b. stands_before a b) p qs
    → First (λ a b. stands_before a b) (i ∷ p) (map (λ q. i ∷ q) qs)
first-below i p [] f = tt
first-below i p (q ∷ qs) f = (before_at_same i p q ∙ f.0, first-below i p qs f.1)

sorted-below : (i : ℕ) (qs : List Path) → Sorted (λ a b. stands_before a b) qs
    → Sorted (λ a b. stands_before a b) (map (λ q. i ∷ q) qs)
sorted-below i [] s = tt
sorted-below i (q ∷ qs) s = (first-below i q qs s.0, sorted-below i qs s.1)

first-later : (i : ℕ) (p : Path) (qs : List Path) → StartFrom (i + 1) qs
    → First (λ a b. stands_before a b) (i ∷ p) qs
first-later i p [] s = tt
first-later i p ([] ∷ qs) s = absurd s
first-later i p ((j ∷ q) ∷ qs) s =
    (before_at_less i j p q (omega (arith, s.0)), first-later i p qs s.1)

across-later : (i : ℕ) (ps qs : List Path) → StartFrom (i + 1) qs
    → Across (λ a b. stands_before a b) (map (λ q. i ∷ q) ps) qs
across-later i [] qs s = tt
across-later i (p ∷ ps) qs s = (first-later i p qs s, across-later i ps qs s)

mutual
  sorted-node : (n : NodeTerm) → Sorted (λ a b. stands_before a b) (paths (node_leaves n))
  sorted-node (node k f) = sorted-from 0 f

  sorted-from : (i : ℕ) (f : Forest)
      → Sorted (λ a b. stands_before a b) (paths (leaves_from i f))
  sorted-from i empty = tt
  sorted-from i (node_then m f) =
      subst (Sorted (λ a b. stands_before a b))
      (sym (paths-below i (node_leaves m) (leaves_from (i + 1) f)))
      (sorted-append (λ a b. stands_before a b) (map (λ q. i ∷ q) (paths (node_leaves m)))
      (paths (leaves_from (i + 1) f)) (sorted-below i (paths (node_leaves m)) (sorted-node m))
      (sorted-from (i + 1) f) (across-later i (paths (node_leaves m)) (paths (leaves_from (i + 1) f))
      (leaves-start (i + 1) (i + 1) f (omega arith))))
  sorted-from i (token_then t f) = (
    first-later i [] (paths (leaves_from (i + 1) f))
        (leaves-start (i + 1) (i + 1) f (omega arith)),
    sorted-from (i + 1) f,
  )

-- ---- tokens

mapped : (R : Path → Path → Bool) (root : NodeTerm) (qs : List Path) (found : Option Path)
    → map (cursor_at root) (option_map_or (λ q. q ∷ filter (R q) qs) found [])
    ≡ option_map_or (λ c. c ∷ map (cursor_at root) (filter (R c.path) qs))
    (option_map (cursor_at root) found) []
mapped R root qs None = refl
mapped R root qs (Some q) = refl

-- behind a token stands the next one, and then those behind that one
pub next-step : (c : Cursor)
    → other_tokens Next c ≡ option_map_or (tokens_from Next) (next_token c) []
next-step c =
    ap (map (cursor_at c.root)) (nearest-first (λ a b. stands_before a b) forwards c.path
    (leaf_paths (Node c.root)) (sorted-node c.root))
    ∙ mapped (λ a b. stands_before a b) c.root (leaf_paths (Node c.root)) (find
    (λ q. stands_before c.path q) (leaf_paths (Node c.root)))
    ∙ same (find (λ q. stands_before c.path q) (leaf_paths (Node c.root)))
  where
    same : (found : Option Path) → option_map_or (λ e. e ∷ map (cursor_at c.root)
        (filter (λ q. stands_before e.path q) (leaf_paths (Node c.root))))
        (option_map (cursor_at c.root) found) []
        ≡ option_map_or (tokens_from Next) (option_map (cursor_at c.root) found) []
    same None = refl
    same (Some q) = refl

-- before a token stands the previous one, and then those before that one
pub prev-step : (c : Cursor)
    → other_tokens Prev c ≡ option_map_or (tokens_from Prev) (prev_token c) []
prev-step c =
    ap (map (cursor_at c.root)) (nearest-first (λ a b. stands_before b a) backwards c.path
    (reverse (leaf_paths (Node c.root)))
    (sorted-reverse (λ a b. stands_before a b) (leaf_paths (Node c.root)) (sorted-node c.root)))
    ∙ mapped (λ a b. stands_before b a) c.root (reverse (leaf_paths (Node c.root))) (find
    (λ q. stands_before q c.path) (reverse (leaf_paths (Node c.root))))
    ∙ same (find (λ q. stands_before q c.path) (reverse (leaf_paths (Node c.root))))
  where
    same : (found : Option Path) → option_map_or (λ e. e ∷ map (cursor_at c.root)
        (filter (λ q. stands_before q e.path) (reverse (leaf_paths (Node c.root)))))
        (option_map (cursor_at c.root) found) []
        ≡ option_map_or (tokens_from Prev) (option_map (cursor_at c.root) found) []
    same None = refl
    same (Some q) = refl
