-- The texts of the leaves of a term follow one another.
use Rattle.std.proofs.Common.{◌≡◌, ℕ, suc, ◌+◌, List, [], ◌∷◌, ◌++◌, map, length, drop, Some, refl}
use Rattle.std.proofs.Common.{sym, ◌∙◌, ap, subst, arith, length-append}
use Rattle.std.specs.Prelude.{slice_get}
use Rattle.std.specs.List.{flat_map}
use Rattle.std.proofs.lemmas.Option.{slice_get_within}
use Rattle.rowan_green.specs.declared.utility_types.NodeOrToken.TheVariants.{Node, Token}
use Rattle.rowan_terms.specs.Path.{LeafAt, below_place, node_leaves, leaves_from, leaves, offset}
use Rattle.rowan_terms.specs.Path.{len_of}
use Rattle.rowan_green.specs.Search.{child_start}
use Rattle.rowan_green.specs.Term.{TokenTerm, NodeTerm, node, Forest, empty, node_then, token_then}
use Rattle.rowan_green.specs.Term.{Term, terms, node_children, node_len, token_len}
use Rattle.rowan_terms.proofs.LeafLaws.{text-tokens}
use Rattle.rowan_terms.proofs.Paths.{offset-empty}
use Rattle.rowan_terms.proofs.OffsetLemmas.{lens_before-node, offset-lens, offset_of}
use Rattle.rowan_table.proofs.OffsetLemmas.{drop-first}
use Rattle.rowan_table.proofs.PathLemmas.{child_start-next}

-- ---- the number of bytes of leaves

abbrev pub bytes_of : List LeafAt → ℕ
bytes_of [] = 0
bytes_of (l ∷ ls) = token_len l.1 + bytes_of ls

pub bytes-append : (ks ls : List LeafAt) → bytes_of (ks ++ ls) ≡ bytes_of ks + bytes_of ls
bytes-append [] ls = omega arith
bytes-append (k ∷ ks) ls = omega (arith, bytes-append ks ls)

bytes-below : (i : ℕ) (ls : List LeafAt) → bytes_of (map (below_place i) ls) ≡ bytes_of ls
bytes-below i [] = refl
bytes-below i (l ∷ ls) = ap (λ n. token_len l.1 + n) (bytes-below i ls)

bytes-tokens : (ls : List LeafAt)
    → bytes_of ls ≡ length (flat_map (λ (t : TokenTerm). t.text) (map (λ l. l.1) ls))
bytes-tokens [] = refl
bytes-tokens (l ∷ ls) =
    let rest = flat_map (λ (t : TokenTerm). t.text) (map (λ l. l.1) ls) in
    ap (λ n. token_len l.1 + n) (bytes-tokens ls) ∙ sym (length-append l.1.text rest)

pub bytes-whole : (n : NodeTerm) → bytes_of (leaves (Node n)) ≡ node_len n
bytes-whole n = bytes-tokens (leaves (Node n)) ∙ ap length (sym (text-tokens (Node n)))

-- ---- where they lie

-- the texts of these leaves of a term follow one another from an offset on
abbrev Tile : Term → ℕ → List LeafAt → Type 0
Tile t start [] = Unit {0}
Tile t start (l ∷ ls) = (offset t l.0 ≡ start) × Tile t (start + token_len l.1) ls

tile-append : (t : Term) (start : ℕ) (ks ls : List LeafAt) → Tile t start ks
    → Tile t (start + bytes_of ks) ls → Tile t start (ks ++ ls)
tile-append t start [] ls h rest =
    let here : start + 0 ≡ start = omega arith in subst (λ s. Tile t s ls) here rest
tile-append t start (k ∷ ks) ls h rest =
    let on : start + bytes_of (k ∷ ks) ≡ (start + token_len k.1) + bytes_of ks = omega arith in (
      h.0,
      tile-append t (start + token_len k.1) ks ls h.1 (subst (λ s. Tile t s ls) on rest),
    )

tile-below : (n : NodeTerm) (i start : ℕ) (u : Term) (ls : List LeafAt)
    → slice_get (node_children n) i ≡ Some u → Tile u start ls
    → Tile (Node n) (child_start (node_children n) i + start) (map (below_place i) ls)
tile-below n i start u [] at h = tt
tile-below n i start u (l ∷ ls) at h =
    let first = child_start (node_children n) i in
    let here : offset (Node n) (i ∷ l.0) ≡ first + start =
    offset-lens (Node n) (i ∷ l.0) ∙ lens_before-node n i l.0
    ∙ ap (λ o. first + offset_of o l.0) at ∙ ap (λ k. first + k) (sym (offset-lens u l.0) ∙ h.0) in
    let on : first + (start + token_len l.1) ≡ (first + start) + token_len l.1 = omega arith in (
      here,
      subst (λ s. Tile (Node n) s (map (below_place i) ls)) on
          (tile-below n i (start + token_len l.1) u ls at h.1),
    )

mutual
  tile-node : (n : NodeTerm) → Tile (Node n) 0 (node_leaves n)
  tile-node (node k f) = tile-from (node k f) 0 f refl

  -- the leaves of the children from a place on
  tile-from : (n : NodeTerm) (i : ℕ) (f : Forest) → drop i (node_children n) ≡ terms f
      → Tile (Node n) (child_start (node_children n) i) (leaves_from i f)
  tile-from n i empty h = tt
  tile-from n i (node_then c f) h =
      let cs = node_children n in
      let first = drop-first i cs (Node c) (terms f) h in
      let here : child_start cs i + 0 ≡ child_start cs i = omega arith in
      let own = tile-below n i 0 (Node c) (node_leaves c) first.0 (tile-node c) in
      let next : suc i ≡ i + 1 = omega arith in
      let on : child_start cs (i + 1) ≡ child_start cs i
      + bytes_of (map (below_place i) (node_leaves c)) =
      child_start-next cs i (slice_get_within cs i (Node c) first.0)
      ∙ ap (λ o. child_start cs i + len_of o) first.0
      ∙ ap (λ k. child_start cs i + k)
      (sym (bytes-below i (node_leaves c) ∙ bytes-whole c)) in
      tile-append (Node n) (child_start cs i) (map (below_place i) (node_leaves c))
      (leaves_from (i + 1) f)
      (subst (λ s. Tile (Node n) s (map (below_place i) (node_leaves c))) here own)
      (subst (λ s. Tile (Node n) s (leaves_from (i + 1) f)) on
      (tile-from n (i + 1) f (ap (λ j. drop j cs) (sym next) ∙ first.1)))
  tile-from n i (token_then t f) h =
      let cs = node_children n in
      let first = drop-first i cs (Token t) (terms f) h in
      let next : suc i ≡ i + 1 = omega arith in
      let on : child_start cs (i + 1) ≡ child_start cs i + token_len t =
      child_start-next cs i (slice_get_within cs i (Token t) first.0)
      ∙ ap (λ o. child_start cs i + len_of o) first.0 in
      let none : child_start cs i + 0 ≡ child_start cs i = omega arith in
      let own = tile-below n i 0 (Token t) (([], t) ∷ []) first.0 (offset-empty (Token t), tt) in (
        own.0 ∙ none,
        subst (λ s. Tile (Node n) s (leaves_from (i + 1) f)) on
            (tile-from n (i + 1) f (ap (λ j. drop j cs) (sym next) ∙ first.1)),
      )

tile-here : (t : Term) (start : ℕ) (before behind : List LeafAt) (l : LeafAt)
    → Tile t start (before ++ l ∷ behind) → offset t l.0 ≡ start + bytes_of before
tile-here t start [] behind l h = omega (arith, h.0)
tile-here t start (k ∷ before) behind l h =
    omega (arith, tile-here t (start + token_len k.1) before behind l h.1)

-- a leaf starts behind the texts of those before it
pub offset-leaf : (n : NodeTerm) (before behind : List LeafAt) (l : LeafAt)
    → leaves (Node n) ≡ before ++ l ∷ behind → offset (Node n) l.0 ≡ bytes_of before
offset-leaf n before behind l parts =
    omega (
      arith,
      tile-here (Node n) 0 before behind l (subst (Tile (Node n) 0) parts (tile-node n)),
    )
