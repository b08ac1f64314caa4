-- The table of a cache: what a search along a chain has still before it, and what one more value
-- changes.
use Rattle.std.proofs.Common.{◌≡◌, ℕ, zero, suc, ◌+◌, ◌<◌, ◌≤◌, Bool, true, false, List, [], ◌∷◌}
use Rattle.std.proofs.Common.{◌++◌, length, map, take, drop, Option, Some, None, refl, sym, ◌∙◌, ap}
use Rattle.std.proofs.Common.{subst, inl, inr, arith}
use Rattle.std.specs.Prelude.{nat_eq}
use Rattle.std.specs.List.{slice_get}
use Rattle.std.specs.Cmp.Lexicographic.{pointwise, bytes_decides}
use Rattle.std.proofs.lemmas.Bool.{cases_eq, false≢true, and_parts, and_from, both_ways}
use Rattle.std.proofs.lemmas.Bool.{false_from_ne_true}
use Rattle.std.proofs.lemmas.Bool.Decides.{Decides-eqb}
use Rattle.std.proofs.lemmas.List.{length-map, length-append, map-append, take-append-le}
use Rattle.std.proofs.lemmas.List.{drop-append-le, length-drop, take_all}
use Rattle.std.proofs.Math.ListN.{set}
use Rattle.std.proofs.Math.Seq.{drop-append_seam}
use Rattle.std.proofs.lemmas.Option.{slice_get_within, none-some, same_Some}
use Rattle.rowan_builder.specs.declared.node_cache.table.Kept.{Kept}
use Rattle.rowan_builder.specs.declared.node_cache.table.Kept.TheVariants as kept
use Rattle.rowan_green.specs.declared.utility_types.NodeOrToken.TheVariants.{Node, Token}
use Rattle.rowan_green.specs.Term.{NodeTerm, node, Term, token_of, node_of, node_kind}
use Rattle.rowan_green.specs.Term.{node_children, term_kind}
use Rattle.rowan_green.specs.Same.{same_term, same_term-decides}
use Rattle.rowan_terms.specs.Path.{term_children}
use Rattle.rowan_builder.specs.Cache.{is_among}
use Rattle.rowan_builder.specs.Chains.{ChainsValue, IsUpTo, IsNewest}
use Rattle.rowan_builder.specs.Tables.{token_hash, node_hash, key_hash, child_numbers, is_node_by}
use Rattle.rowan_builder.specs.Tables.{hash_of, hashes, kept_of, kept_term, first_number, kept_terms}
use Rattle.rowan_builder.specs.Tables.{kept_parent, with_parent, StandAt, KeepsLimits, IsKept}
use Rattle.rowan_builder.specs.Tables.{IsIndexed}
use Rattle.rowan_builder.proofs.ByteLemmas.{set_cases}
use Rattle.rowan_terms.proofs.Lists.{at_map, slice_get-cases, slice_get-grown, slice_get-last}
use Rattle.rowan_builder.proofs.CacheLemmas.{place_from_is_among, StandsOnce-push}
use Rattle.rowan_builder.proofs.NumberLemmas.{StandAt-terms, StandAt-numbers, StandAt-grown}
use Rattle.rowan_builder.proofs.NumberLemmas.{StandAt-length}
use Rattle.rowan_green.proofs.Terms.{terms-forest, forest-terms}

-- ---- places in a mapped list

pub from_map : {X Y : Type 0} (f : X → Y) (xs : List X) (n : ℕ) (y : Y)
    → slice_get (map f xs) n ≡ Some y → (x : X) × (slice_get xs n ≡ Some x) × (f x ≡ y)
from_map f [] n y e = absurd cc
from_map f (x ∷ xs) zero y e = (x, refl, cc)
from_map f (x ∷ xs) (suc n) y e = from_map f xs n y e

same_maps : {X Y : Type 0} (f g : X → Y) (xs : List X)
    → ((n : ℕ) (x : X) → slice_get xs n ≡ Some x → f x ≡ g x) → map f xs ≡ map g xs
same_maps f g [] h = refl
same_maps f g (x ∷ xs) h =
    ap (λ y. y ∷ map f xs) (h 0 x refl) ∙ ap (λ ys. g x ∷ ys) (same_maps f g xs (λ n. h (suc n)))

map-set : {X Y : Type 0} (f : X → Y) (xs : List X) (n : ℕ) (x y : X) → slice_get xs n ≡ Some x
    → f y ≡ f x → map f (set xs n y) ≡ map f xs
map-set f [] n x y at same = refl
map-set f (z ∷ xs) zero x y at same = let is : z ≡ x = cc in
    ap (λ w. w ∷ map f xs) (same ∙ ap f (sym is))
map-set f (z ∷ xs) (suc n) x y at same = ap (λ ys. f z ∷ ys) (map-set f xs n x y at same)

-- ---- a search along a chain

-- what a search has still before it: the next value has the hash, and each that passes the test
-- stands there or before it
pub record IsAhead (ks : List Kept) (bs : List ℕ) (b : ℕ) (next : Option ℕ)
    (test : Kept → Bool) : Type 0 where
  pub stands : (n : ℕ) → next ≡ Some n → (n < length ks) × (slice_get bs n ≡ Some b)
  pub ahead : (n : ℕ) (k : Kept) → slice_get ks n ≡ Some k → test k ≡ true → IsUpTo n next

-- how far a search has still to go at most
abbrev pub left_before : Option ℕ → ℕ
left_before None = 0
left_before (Some n) = suc n

pub older_left : (bs : List ℕ) (n b : ℕ) (o : Option ℕ) → IsNewest bs n b o
    → left_before o < left_before (Some n)
older_left bs n b o s =
    elim o as (λ m. ((j : ℕ) → m ≡ Some j → (j < n) × (slice_get bs j ≡ Some b))
    → left_before m < suc n) [
      | None ↦ λ s. omega arith
      | Some m ↦ λ s. omega (arith, (s m refl).0)
    ] s.stands

module _ {ks : List Kept} {all : List ℕ} {chains : ChainsValue} (h : IsIndexed ks all chains)
    (hash : ℕ) (test : Kept → Bool) (hits : (k : Kept) → test k ≡ true → hash_of all k ≡ hash) where
  hit_hash : (n : ℕ) (k : Kept) → slice_get ks n ≡ Some k → test k ≡ true
      → slice_get chains.hashes n ≡ Some hash
  hit_hash n k at on =
      ap (λ is. slice_get is n) h.hashed ∙ at_map (hash_of all) ks n k at
      ∙ ap (λ i. Some i) (hits k on)

  places : length chains.hashes ≡ length ks
  places = ap length h.hashed ∙ length-map ks (hash_of all)

  pub IsAhead-first : (o : Option ℕ) → IsNewest chains.hashes (length chains.hashes) hash o
      → IsAhead ks chains.hashes hash o test
  IsAhead-first o s = record {
    stands = λ n e. let p = s.stands n e in (omega (arith, p.0, places), p.1);
    ahead = λ n k at on. s.last n (omega (arith, slice_get_within ks n k at, places))
        (hit_hash n k at on);
  }

  pub IsAhead-older : (n : ℕ) (k : Kept) → slice_get ks n ≡ Some k
      → IsAhead ks chains.hashes hash (Some n) test → test k ≡ false
      → (o : Option ℕ) → IsNewest chains.hashes n hash o → IsAhead ks chains.hashes hash o test
  IsAhead-older n k at a off o s = record {
    stands = λ m e. let p = s.stands m e in (omega (arith, p.0, slice_get_within ks n k at), p.1);
    ahead = λ m j at_m on.
        let upto : m ≤ n = a.ahead m j at_m on in
        elim (cases_eq m n) [
          | inl here ↦
              let again : Some j ≡ Some k = sym at_m ∙ ap (slice_get ks) here ∙ at in
              let is : j ≡ k = cc in
              absurd (both_ways (test k) off (subst (λ i. test i ≡ true) is on))
          | inr apart ↦ s.last m (omega (arith, upto, apart)) (hit_hash m j at_m on)
        ];
  }

pub IsAhead-none : (ks : List Kept) (bs : List ℕ) (b : ℕ) (test : Kept → Bool)
    → IsAhead ks bs b None test → (n : ℕ) (k : Kept) → slice_get ks n ≡ Some k → test k ≡ false
IsAhead-none ks bs b test a n k at = false_from_ne_true (test k) (λ on. a.ahead n k at on)

-- ---- the tests

pub token_hits : (all : List ℕ) (kind : ℕ) (text : List ℕ) (k : Kept)
    → same_term (kept_term k) (Token (token_of kind text)) ≡ true
    → hash_of all k ≡ token_hash kind text
token_hits all kind text k on =
    ap (λ t. key_hash t (child_numbers all k))
    ((same_term-decides (kept_term k) (Token (token_of kind text))).0 on)

-- what is known of a node that passes
pub is_node_by-parts : (all : List ℕ) (kind : ℕ) (numbers : List ℕ) (k : Kept) (t : Term)
    → is_node_by all kind numbers k t ≡ true
    → (n : NodeTerm) × (t ≡ Node n) × (node_kind n ≡ kind) × (child_numbers all k ≡ numbers)
is_node_by-parts all kind numbers k (Token t) on = absurd (false≢true on)
is_node_by-parts all kind numbers k (Node n) on =
    let p = and_parts (nat_eq (node_kind n) kind) (pointwise nat_eq (child_numbers all k) numbers)
    on in (
      n,
      refl,
      (Decides-eqb (node_kind n) kind).0 p.0,
      (bytes_decides (child_numbers all k) numbers).0 p.1,
    )

pub is_node_by-same : (all : List ℕ) (kind : ℕ) (numbers : List ℕ) (k : Kept) (n : NodeTerm)
    → node_kind n ≡ kind → child_numbers all k ≡ numbers
    → is_node_by all kind numbers k (Node n) ≡ true
is_node_by-same all kind numbers k n same_kind same_numbers =
    and_from (nat_eq (node_kind n) kind) (pointwise nat_eq (child_numbers all k) numbers)
    ((Decides-eqb (node_kind n) kind).1 same_kind)
    ((bytes_decides (child_numbers all k) numbers).1 same_numbers)

pub node_hits : (all : List ℕ) (kind : ℕ) (numbers : List ℕ) (k : Kept)
    → is_node_by all kind numbers k (kept_term k) ≡ true → hash_of all k ≡ node_hash kind numbers
node_hits all kind numbers k on =
    let p = is_node_by-parts all kind numbers k (kept_term k) on in
    ap (λ t. key_hash t (child_numbers all k)) p.1 ∙ ap (λ j. node_hash j (child_numbers all k)) p.2
    ∙ ap (λ ns. node_hash kind ns) p.3

node_of-parts : (n : NodeTerm) → n ≡ node_of (node_kind n) (node_children n)
node_of-parts (node k f) = ap (λ g. node k g) (sym (forest-terms f))

pub places-length : {ks : List Kept} {all : List ℕ} {chains : ChainsValue} → IsIndexed ks all chains
    → length chains.hashes ≡ length ks
places-length {ks} {all} h = ap length h.hashed ∙ length-map ks (hash_of all)

-- ---- a term as it is kept

kept_of-term : (first : ℕ) (t : Term) → kept_term (kept_of first t) ≡ t
kept_of-term first (Node n) = refl
kept_of-term first (Token t) = refl

kept_of-first : (first : ℕ) (t : Term) → first_number (kept_of first t) ≤ first
kept_of-first first (Node n) = omega arith
kept_of-first first (Token t) = omega arith

kept_of-parent : (first : ℕ) (t : Term) → kept_parent (kept_of first t) ≡ None
kept_of-parent first (Node n) = refl
kept_of-parent first (Token t) = refl

no_numbers : (seen : List Term) (numbers : List ℕ) → StandAt seen numbers [] → [] ≡ numbers
no_numbers seen [] s = refl
no_numbers seen (n ∷ ns) s = absurd s

kept_of-numbers : (seen : List Term) (all numbers : List ℕ) (t : Term)
    → StandAt seen numbers (term_children t)
    → child_numbers (all ++ numbers) (kept_of (length all) t) ≡ numbers
kept_of-numbers seen all numbers (Node n) stand =
    let count = length (node_children n) in
    ap (λ ns. take count ns) (drop-append_seam all numbers)
    ∙ take_all count numbers (omega
    (arith, StandAt-length seen numbers (node_children n) stand))
kept_of-numbers seen all numbers (Token t) stand = no_numbers seen numbers stand

-- ---- a value whose newest parent is another one

with_parent-term : (n : ℕ) (k : Kept) → kept_term (with_parent n k) ≡ kept_term k
with_parent-term n (kept.Token p t) = refl
with_parent-term n (kept.Node first m) = refl

with_parent-numbers : (all : List ℕ) (n : ℕ) (k : Kept)
    → child_numbers all (with_parent n k) ≡ child_numbers all k
with_parent-numbers all n (kept.Token p t) = refl
with_parent-numbers all n (kept.Node first m) = refl

with_parent-hash : (all : List ℕ) (n : ℕ) (k : Kept) → hash_of all (with_parent n k) ≡ hash_of all k
with_parent-hash all n (kept.Token p t) = refl
with_parent-hash all n (kept.Node first m) = refl

with_parent-parent : (n : ℕ) (k : Kept) (p : ℕ) → kept_parent (with_parent n k) ≡ Some p → n ≡ p
with_parent-parent n (kept.Token q t) p e = same_Some n p e
with_parent-parent n (kept.Node first m) p e = absurd (none-some p e)

with_parent-kept : (seen : List Term) (all : List ℕ) (n : ℕ) (k : Kept) → IsKept seen all k
    → IsKept seen all (with_parent n k)
with_parent-kept seen all n (kept.Token p t) q =
    record { fits = q.fits; room = q.room; children = q.children }
with_parent-kept seen all n (kept.Node first m) q = q

-- what has children is a node
over_is_node : (all : List ℕ) (kind c : ℕ) (k : Kept) → child_numbers all k ≡ c ∷ []
    → term_kind (kept_term k) ≡ kind → is_node_by all kind (c ∷ []) k (kept_term k) ≡ true
over_is_node all kind c (kept.Token p t) only is = absurd cc
over_is_node all kind c (kept.Node first n) only is =
    is_node_by-same all kind (c ∷ []) (kept.Node first n) n is only

-- ---- what a search finds

module _ {ks : List Kept} {all : List ℕ} {chains : ChainsValue} (h : IsIndexed ks all chains) where
  abbrev seen : List Term
  seen = kept_terms ks

  pub token_found : (t : Term) (n : ℕ) (k : Kept) → slice_get ks n ≡ Some k
      → same_term (kept_term k) t ≡ true → slice_get seen n ≡ Some t
  token_found t n k at on =
      at_map kept_term ks n k at ∙ ap (λ u. Some u) ((same_term-decides (kept_term k) t).0 on)

  pub token_absent : (t : Term)
      → ((n : ℕ) (k : Kept) → slice_get ks n ≡ Some k → same_term (kept_term k) t ≡ false)
      → is_among seen t ≡ false
  token_absent t none =
      false_from_ne_true (is_among seen t) (λ a.
      let p = place_from_is_among seen t a in
      let q = from_map kept_term ks p.0 t p.1 in
      both_ways (same_term (kept_term q.0) t) (none p.0 q.0 q.1)
      ((same_term-decides (kept_term q.0) t).1 q.2))

  module _ (kind : ℕ) (numbers : List ℕ) (ts : List Term) (stand : StandAt seen numbers ts) where
    pub node_found : (n : ℕ) (k : Kept) → slice_get ks n ≡ Some k
        → is_node_by all kind numbers k (kept_term k) ≡ true
        → slice_get seen n ≡ Some (Node (node_of kind ts))
    node_found n k at on =
        let p = is_node_by-parts all kind numbers k (kept_term k) on in
        let m : NodeTerm = p.0 in
        let children : StandAt seen numbers (node_children m) =
        subst (λ ns. StandAt seen ns (node_children m)) p.3
        (subst (λ t. StandAt seen (child_numbers all k) (term_children t)) p.1
        (h.kept n k at).children) in
        let same : node_children m ≡ ts =
        StandAt-terms seen numbers (node_children m) ts children stand in
        at_map kept_term ks n k at ∙ ap (λ t. Some t) p.1
        ∙ ap (λ i. Some (Node i))
        (node_of-parts m ∙ ap (λ j. node_of j (node_children m)) p.2
        ∙ ap (λ us. node_of kind us) same)

    pub node_absent : ((n : ℕ) (k : Kept) → slice_get ks n ≡ Some k
        → is_node_by all kind numbers k (kept_term k) ≡ false)
        → is_among seen (Node (node_of kind ts)) ≡ false
    node_absent none =
        let t : Term = Node (node_of kind ts) in
        false_from_ne_true (is_among seen t) (λ a.
        let p = place_from_is_among seen t a in
        let q = from_map kept_term ks p.0 t p.1 in
        let k : Kept = q.0 in
        let children : StandAt seen (child_numbers all k) ts =
        subst (λ us. StandAt seen (child_numbers all k) us) (terms-forest ts)
        (subst (λ u. StandAt seen (child_numbers all k) (term_children u)) q.2
        (h.kept p.0 k q.1).children) in
        let same : child_numbers all k ≡ numbers =
        StandAt-numbers seen h.once (child_numbers all k) numbers ts children stand in
        let on : is_node_by all kind numbers k (kept_term k) ≡ true =
        subst (λ u. is_node_by all kind numbers k u ≡ true) (sym q.2)
        (is_node_by-same all kind numbers k (node_of kind ts) refl same) in
        both_ways (is_node_by all kind numbers k (kept_term k)) (none p.0 k q.1) on)

  -- ---- parents

  module _ (c p : ℕ) (j : Kept) (at : slice_get ks c ≡ Some j) (parent : kept_parent j ≡ Some p)
    where
      parent_numbers : slice_get (map (child_numbers all) ks) p ≡ Some (c ∷ [])
      parent_numbers = h.parents.over c p (at_map kept_parent ks c j at ∙ ap (λ o. Some o) parent)

      pub parent_within : p < length ks
      parent_within = omega (
        arith,
        slice_get_within (map (child_numbers all) ks) p (c ∷ []) parent_numbers,
        length-map ks (child_numbers all),
      )

      pub parent_found : (k : Kept) (kind : ℕ) (ts : List Term) → slice_get ks p ≡ Some k
          → term_kind (kept_term k) ≡ kind → StandAt seen (c ∷ []) ts
          → slice_get seen p ≡ Some (Node (node_of kind ts))
      parent_found k kind ts at_p is stand =
          let only : child_numbers all k ≡ c ∷ [] =
          same_Some (child_numbers all k) (c ∷ [])
          (sym (at_map (child_numbers all) ks p k at_p) ∙ parent_numbers) in
          node_found kind (c ∷ []) ts stand p k at_p (over_is_node all kind c k only is)

  module _ (child number : ℕ) (k : Kept) (at : slice_get ks child ≡ Some k)
      (over : slice_get (map (child_numbers all) ks) number ≡ Some (child ∷ [])) where
    abbrev pub linked : List Kept
    linked = set ks child (with_parent number k)

    pub linked_terms : kept_terms linked ≡ seen
    linked_terms = map-set kept_term ks child k (with_parent number k) at
        (with_parent-term number k)

    linked_numbers : map (child_numbers all) linked ≡ map (child_numbers all) ks
    linked_numbers = map-set (child_numbers all) ks child k (with_parent number k) at
        (with_parent-numbers all number k)

    linked_kept : (n : ℕ) (j : Kept) → slice_get linked n ≡ Some j → IsKept seen all j
    linked_kept n j at_j =
        elim (set_cases ks child (with_parent number k) n j at_j) [
          | inl old ↦ h.kept n j old
          | inr p ↦ subst (λ (i : Kept). IsKept seen all i) p.1
              (with_parent-kept seen all number k (h.kept child k at))
        ]

    linked_over : (c p : ℕ) (j : Kept) → slice_get linked c ≡ Some j → kept_parent j ≡ Some p
        → slice_get (map (child_numbers all) ks) p ≡ Some (c ∷ [])
    linked_over c p j at_j is =
        elim (set_cases ks child (with_parent number k) c j at_j) [
          | inl old ↦ h.parents.over c p (at_map kept_parent ks c j old ∙ ap (λ o. Some o) is)
          | inr r ↦
              let same : number ≡ p = with_parent-parent number k p (ap kept_parent r.1 ∙ is) in
              ap (slice_get (map (child_numbers all) ks)) (sym same) ∙ over
              ∙ ap (λ (i : ℕ). Some (i ∷ [])) (sym r.0)
        ]

    pub IsIndexed-parent : IsIndexed linked all chains
    IsIndexed-parent = record {
      once = subst (λ ts. (i j : ℕ) (t : Term) → slice_get ts i ≡ Some t → slice_get ts j ≡ Some t
          → i ≡ j) (sym linked_terms) h.once;
      kept = λ n j at_j. subst (λ ts. IsKept ts all j) (sym linked_terms) (linked_kept n j at_j);
      hashed = h.hashed ∙ sym (map-set (hash_of all) ks child k (with_parent number k) at
          (with_parent-hash all number k));
      parents = record {
        over = λ c p at_c.
            let q = from_map kept_parent linked c (Some p) at_c in
            ap (λ ns. slice_get ns p) linked_numbers ∙ linked_over c p q.0 q.1 q.2;
      };
    }

  -- ---- one more value

  pub IsIndexed-unchanged : (chains' : ChainsValue) → chains'.hashes ≡ chains.hashes
      → IsIndexed ks all chains'
  IsIndexed-unchanged chains' e =
      record { once = h.once; kept = h.kept; hashed = e ∙ h.hashed; parents = h.parents }

  module _ (hash : ℕ) (element : Term) (numbers : List ℕ) (chains' : ChainsValue)
      (fresh : is_among seen element ≡ false) (fits : KeepsLimits element)
      (stand : StandAt seen numbers (term_children element))
      (is_hash : hash ≡ key_hash element numbers)
      (pushed : chains'.hashes ≡ chains.hashes ++ hash ∷ []) where
    abbrev pub new : Kept
    new = kept_of (length all) element

    is_new : kept_term new ≡ element
    is_new = kept_of-term (length all) element

    old_numbers : (k : Kept) → first_number k + length (term_children (kept_term k)) ≤ length all
        → child_numbers (all ++ numbers) k ≡ child_numbers all k
    old_numbers k room =
        let count = length (term_children (kept_term k)) in
        ap (λ ns. take count ns) (drop-append-le (first_number k) all numbers (omega (arith, room)))
        ∙ take-append-le count (drop (first_number k) all) numbers
        (omega (arith, room, length-drop (first_number k) all))

    new_numbers : child_numbers (all ++ numbers) new ≡ numbers
    new_numbers = kept_of-numbers seen all numbers element stand

    old_hash : (n : ℕ) (k : Kept) → slice_get ks n ≡ Some k
        → hash_of (all ++ numbers) k ≡ hash_of all k
    old_hash n k at = ap (λ ns. key_hash (kept_term k) ns) (old_numbers k (h.kept n k at).room)

    new_hash : hash_of (all ++ numbers) new ≡ hash
    new_hash = ap (λ ns. key_hash (kept_term new) ns) new_numbers
        ∙ ap (λ t. key_hash t numbers) is_new ∙ sym is_hash

    grown : hashes (all ++ numbers) (ks ++ new ∷ []) ≡ hashes all ks ++ hash ∷ []
    grown =
        map-append (hash_of (all ++ numbers)) ks (new ∷ [])
        ∙ ap (λ is. is ++ hash_of (all ++ numbers) new ∷ [])
        (same_maps (hash_of (all ++ numbers)) (hash_of all) ks old_hash)
        ∙ ap (λ i. hashes all ks ++ i ∷ []) new_hash

    pub grown_terms : kept_terms (ks ++ new ∷ []) ≡ seen ++ element ∷ []
    grown_terms = map-append kept_term ks (new ∷ []) ∙ ap (λ t. seen ++ t ∷ []) is_new

    kept-push : (n : ℕ) (k : Kept) → slice_get (ks ++ new ∷ []) n ≡ Some k
        → IsKept (seen ++ element ∷ []) (all ++ numbers) k
    kept-push n k at =
        elim (slice_get-cases ks new n k at) [
          | inl old ↦
              let q = h.kept n k old in
              record {
                fits = q.fits;
                room = omega (arith, q.room, length-append all numbers);
                children = StandAt-grown seen (element ∷ []) (child_numbers (all ++ numbers) k)
                    (term_children (kept_term k))
                    (subst (λ ns. StandAt seen ns (term_children (kept_term k)))
                    (sym (old_numbers k q.room)) q.children);
              }
          | inr p ↦
              subst (λ (j : Kept). IsKept (seen ++ element ∷ []) (all ++ numbers) j) p.1 (record {
                fits = subst KeepsLimits (sym is_new) fits;
                room = omega (
                  arith,
                  kept_of-first (length all) element,
                  ap (λ t. length (term_children t)) is_new,
                  StandAt-length seen numbers (term_children element) stand,
                  length-append all numbers,
                );
                children = StandAt-grown seen (element ∷ []) (child_numbers (all ++ numbers) new)
                    (term_children (kept_term new))
                    (subst (λ ns. StandAt seen ns (term_children (kept_term new))) (sym new_numbers)
                    (subst (λ t. StandAt seen numbers (term_children t)) (sym is_new) stand));
              })
        ]

    grown_numbers : map (child_numbers (all ++ numbers)) (ks ++ new ∷ [])
        ≡ map (child_numbers all) ks ++ child_numbers (all ++ numbers) new ∷ []
    grown_numbers =
        map-append (child_numbers (all ++ numbers)) ks (new ∷ [])
        ∙ ap (λ ns. ns ++ child_numbers (all ++ numbers) new ∷ [])
        (same_maps (child_numbers (all ++ numbers)) (child_numbers all) ks
        (λ n k at. old_numbers k (h.kept n k at).room))

    parents-push : (c p : ℕ) → slice_get (map kept_parent (ks ++ new ∷ [])) c ≡ Some (Some p)
        → slice_get (map (child_numbers (all ++ numbers)) (ks ++ new ∷ [])) p ≡ Some (c ∷ [])
    parents-push c p at =
        elim (slice_get-cases (map kept_parent ks) (kept_parent new) c (Some p)
        (ap (λ os. slice_get os c) (sym (map-append kept_parent ks (new ∷ []))) ∙ at)) [
          | inl old ↦
              ap (λ ns. slice_get ns p) grown_numbers
              ∙ slice_get-grown (map (child_numbers all) ks)
              (child_numbers (all ++ numbers) new ∷ []) p (c ∷ []) (h.parents.over c p old)
          | inr q ↦ absurd (none-some p (sym (kept_of-parent (length all) element) ∙ q.1))
        ]

    -- the new value stands at the end, over the children with these numbers
    pub new_over : (child : ℕ) → numbers ≡ child ∷ []
        → slice_get (map (child_numbers (all ++ numbers)) (ks ++ new ∷ [])) (length ks)
        ≡ Some (child ∷ [])
    new_over child only =
        ap (λ ns. slice_get ns (length ks)) grown_numbers
        ∙ ap (slice_get (map (child_numbers all) ks ++ child_numbers (all ++ numbers) new ∷ []))
        (sym (length-map ks (child_numbers all)))
        ∙ slice_get-last (map (child_numbers all) ks) (child_numbers (all ++ numbers) new)
        ∙ ap (λ ns. Some ns) (new_numbers ∙ only)

    pub IsIndexed-push : IsIndexed (ks ++ new ∷ []) (all ++ numbers) chains'
    IsIndexed-push = record {
      once = subst (λ ts. (i j : ℕ) (t : Term) → slice_get ts i ≡ Some t → slice_get ts j ≡ Some t
          → i ≡ j) (sym grown_terms) (StandsOnce-push seen element h.once fresh);
      kept = λ n k at. subst (λ ts. IsKept ts (all ++ numbers) k) (sym grown_terms)
          (kept-push n k at);
      hashed = pushed ∙ ap (λ is. is ++ hash ∷ []) h.hashed ∙ sym grown;
      parents = record { over = parents-push };
    }
