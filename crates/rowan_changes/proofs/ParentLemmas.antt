-- The path of a cursor, from its parent's, and the root of its tree.
use Rattle.std.proofs.Common.{◌≡◌, ℕ, ◌<◌, List, [], ◌∷◌, ◌++◌, length, Option, Some, None}
use Rattle.std.proofs.Common.{refl, sym, ◌∙◌, ap, subst, arith, length-append, append_assoc}
use Rattle.std.specs.Prelude.{reverse}
use Rattle.std.specs.Option.{option_map}
use Rattle.std.proofs.lemmas.List.{reverse-append}
use Rattle.rowan_green.specs.declared.utility_types.NodeOrToken.TheVariants.{Node}
use Rattle.rowan_green.specs.Term.{NodeTerm, Term}
use Rattle.rowan_terms.specs.Path.{Path}
use Rattle.rowan_table.specs.Cursor.{Cursor, StandsAt, last_index, index}
use Rattle.rowan_table.specs.Moves.{cursor_at, parent_path, parent, tree_top}

pub parent-splits : (p q : Path) → parent_path p ≡ Some q → p ≡ q ++ last_index p ∷ []
parent-splits [] q h = absurd cc
parent-splits (i ∷ []) q h = let e : ◌≡◌ {A = Path} [] q = cc in ap (λ r. r ++ i ∷ []) e
parent-splits (i ∷ j ∷ p) q h = at (λ r. parent-splits (j ∷ p) r) (parent_path (j ∷ p)) refl h
  where
    at : ((r : Path) → parent_path (j ∷ p) ≡ Some r → j ∷ p ≡ r ++ last_index (j ∷ p) ∷ [])
        → (o : Option Path) → parent_path (j ∷ p) ≡ o → option_map (λ r. i ∷ r) o ≡ Some q
        → i ∷ j ∷ p ≡ q ++ last_index (j ∷ p) ∷ []
    at splits None e g = absurd cc
    at splits (Some r) e g =
        let one : i ∷ r ≡ q = cc in
        ap (λ z. i ∷ z) (splits r e) ∙ ap (λ z. z ++ last_index (j ∷ p) ∷ []) one

-- d is the parent of c
pub record IsUp (c d : Cursor) : Type 0 where
  pub root : d.root ≡ c.root
  pub path : c.path ≡ d.path ++ last_index c.path ∷ []
  pub smaller : length d.path < length c.path

pub parent-up : (c d : Cursor) → parent c ≡ Some d → IsUp c d
parent-up c d h = at (parent_path c.path) refl h
  where
    at : (o : Option Path) → parent_path c.path ≡ o → option_map (cursor_at c.root) o ≡ Some d
        → IsUp c d
    at None e g = absurd cc
    at (Some q) e g =
        let same : cursor_at c.root q ≡ d = cc in
        let path : c.path ≡ d.path ++ last_index c.path ∷ [] =
        parent-splits c.path q e ∙ ap (λ x. x.path ++ last_index c.path ∷ []) same in
        record {
          root = ap (λ x. x.root) (sym same);
          path = path;
          smaller = omega (arith, ap length path, length-append d.path (last_index c.path ∷ []));
        }

-- one step up, and the index of where it came from
pub path-up : (c d : Cursor) (read : List ℕ) (i : ℕ) → parent c ≡ Some d → i ≡ index c
    → d.path ++ reverse (read ++ i ∷ []) ≡ c.path ++ reverse read
path-up c d read i h e =
    ap (λ r. d.path ++ r) (reverse-append read (i ∷ []))
    ∙ sym (append_assoc d.path (i ∷ []) (reverse read))
    ∙ ap (λ j. (d.path ++ j ∷ []) ++ reverse read) e
    ∙ ap (λ p. p ++ reverse read) (sym (parent-up c d h).path)

-- only the root has no parent
pub top-path : (c : Cursor) → parent c ≡ None → c.path ≡ []
top-path c h = at c.path refl h
  where
    at : (p : Path) → c.path ≡ p → option_map (cursor_at c.root) (parent_path c.path) ≡ None
        → c.path ≡ []
    at [] e g = e
    at (i ∷ p) e g =
        at_some (parent_path (i ∷ p)) (some i p)
        (ap (λ q. option_map (cursor_at c.root) (parent_path q)) (sym e) ∙ g)
      where
        some : (i : ℕ) (p : Path) → (q : Path) × (parent_path (i ∷ p) ≡ Some q)
        some i [] = ([], refl)
        some i (j ∷ p) = let r = some j p in (i ∷ r.0, ap (option_map (λ q. i ∷ q)) r.1)

        at_some : (o : Option Path) → ((q : Path) × (o ≡ Some q))
            → option_map (cursor_at c.root) o ≡ None → c.path ≡ []
        at_some None q k = absurd (let e : ◌≡◌ {A = Option Path} None (Some q.0) = q.1 in cc)
        at_some (Some r) q k = absurd cc

-- the node at the root of a cursor's tree
pub top-root : (c top : Cursor) (n : NodeTerm) → top ≡ tree_top c → StandsAt top n → c.root ≡ n
top-root c top n e h =
    let at_root : ◌≡◌ {A = Option Term} (Some (Node c.root)) (Some (Node n)) =
    subst (λ (t : Cursor). StandsAt t n) e h in
    cc
