-- Pointers to what stands at a path, and whether they lead there.
use Rattle.std.proofs.Common.{◌≡◌, ◌≢◌, ℕ, Bool, true, false, [], ◌∷◌, ◌++◌, Option, Some, None, refl, sym}
use Rattle.std.proofs.Common.{◌∙◌, ap, subst}
use Rattle.std.specs.List.{find}
use Rattle.std.specs.Option.{option_map}
use Rattle.rowan_green.specs.declared.utility_types.NodeOrToken.TheVariants.{Node}
use Rattle.rowan_terms.specs.Path.{Path, subterm}
use Rattle.rowan_green.specs.Span.{Span}
use Rattle.rowan_green.specs.Term.{NodeTerm, Term}
use Rattle.rowan_table.specs.Cursor.{Cursor}
use Rattle.rowan_table.specs.Moves.{cursor_at, element_at, element_if, element_if_there}
use Rattle.rowan_table.specs.Moves.{element_below, is_node}
use Rattle.rowan.specs.Pointer.{Pointer, pointer_to, means_kind, is_meant, IsFirstMeant}
use Rattle.rowan.specs.Pointer.{resolves_from, Resolves}
use Rattle.rowan.proofs.ChainLemmas.{chain-one}
use Rattle.rowan_changes.specs.declared.changes.Edited.{Edited}
use Rattle.rowan_changes.specs.Pointers.{LeadsTo, IsPointerTo, IsPointerAt, IsPointerAfter}
use Rattle.rowan_changes.specs.Sites.{path_after}

-- ---- the element to which a path leads from a root

mapped-is : {A B : Type 0} (b x : B) (o : Option A) → option_map (λ a. b) o ≡ Some x → b ≡ x
mapped-is b x (Some a) e = cc
mapped-is b x None e = cc

node-is : (b : Bool) (d c : Cursor) → element_if b d ≡ Node c → d ≡ c
node-is true d c e = cc
node-is false d c e = cc

pub below-node : (c d : Cursor) (p : Path) → c.path ≡ [] → element_below c p ≡ Some (Node d)
    → d ≡ cursor_at c.root p
below-node c d [] top h =
    let same : c ≡ d = cc in sym same ∙ ap (cursor_at c.root) top
below-node c d (i ∷ p) top h =
    let at : element_if_there c.root (i ∷ p) ≡ Some (Node d) =
    ap (λ q. element_if_there c.root (q ++ i ∷ p)) (sym top) ∙ h in
    sym (node-is (is_node (subterm (Node c.root) (i ∷ p))) (cursor_at c.root (i ∷ p)) d
    (mapped-is (element_at c.root (i ∷ p)) (Node d) (subterm (Node c.root) (i ∷ p)) at))

there-node : (c : Cursor) (p : Path) (n : NodeTerm) → c.path ≡ []
    → subterm (Node c.root) p ≡ Some (Node n)
    → element_below c p ≡ Some (Node (cursor_at c.root p))
there-node c [] n top h = ap (λ q. Some (Node (cursor_at c.root q))) top
there-node c (i ∷ p) n top h =
    ap (λ q. element_if_there c.root (q ++ i ∷ p)) top
    ∙ ap (λ (o : Option Term).
    option_map (λ t. element_if (is_node o) (cursor_at c.root (i ∷ p))) o) h

-- ---- what a pointer resolves to

first-one : (means : ℕ → Bool) (span : Span) (root : NodeTerm) (a b : Option Cursor)
    → IsFirstMeant means span root a → IsFirstMeant means span root b → a ≡ b
first-one means span root a b x y =
    x.first
    ∙ ap (λ chain. option_map (cursor_at root) (find (is_meant means span root) ([] ∷ chain)))
    (chain-one root span [] x.chain y.chain x.is y.is)
    ∙ sym y.first

found-at : (means : ℕ → Bool) (span : Span) (root : NodeTerm) (d : Cursor)
    → IsFirstMeant means span root (Some d) → d ≡ cursor_at root d.path
found-at means span root d x =
    at (find (is_meant means span root) ([] ∷ x.chain)) x.first
  where
    at : (o : Option Path) → Some d ≡ option_map (cursor_at root) o → d ≡ cursor_at root d.path
    at None e = cc
    at (Some q) e =
        let is : d ≡ cursor_at root q = cc in
        is ∙ ap (cursor_at root) (sym (ap (λ (x : Cursor). x.path) is))

module _ {K : Type 0} (meaning : ℕ → K) (same : K → K → Bool) (c : Cursor) (p : Path)
    (top : c.path ≡ []) where
  -- there is no node
  pub no-node : ((d : Cursor) → element_below c p ≢ Some (Node d))
      → IsPointerTo meaning same (cursor_at c.root p) None
  no-node none = λ n q at to leads. none (cursor_at c.root p) (there-node c p n top at)

  -- the pointer resolves to nothing, or to what stands elsewhere
  pub not-there : (d : Cursor) (q : Pointer K) (found : Option Cursor)
      → element_below c p ≡ Some (Node d) → pointer_to meaning d ≡ Some q
      → Resolves (means_kind meaning same q.kind) q.range c found
      → ((e : Cursor) → found ≡ Some e → e.path ≢ p)
      → IsPointerTo meaning same (cursor_at c.root p) None
  not-there d q found at to res none = λ n r stands own leads.
      (let is : d ≡ cursor_at c.root p = below-node c d p top at in
      let one : ◌≡◌ {A = Option (Pointer K)} (Some r) (Some q) =
      sym own ∙ ap (pointer_to meaning) (sym is) ∙ to in
      let here : r ≡ q = cc in
      let first : IsFirstMeant (means_kind meaning same q.kind) q.range c.root
      (Some (cursor_at c.root p)) =
      subst (λ x. LeadsTo meaning same (cursor_at c.root p) x) here leads in
      let other : IsFirstMeant (means_kind meaning same q.kind) q.range c.root found =
      subst (λ x. resolves_from x (means_kind meaning same q.kind) q.range c.root found) top res in
      none (cursor_at c.root p)
      (first-one (means_kind meaning same q.kind) q.range c.root found
      (Some (cursor_at c.root p)) other first) refl)

  -- the pointer resolves to what stands there
  pub leads-there : (d e : Cursor) (q : Pointer K) → element_below c p ≡ Some (Node d)
      → pointer_to meaning d ≡ Some q
      → Resolves (means_kind meaning same q.kind) q.range c (Some e) → e.path ≡ p
      → IsPointerTo meaning same (cursor_at c.root p) (Some q)
  leads-there d e q at to res path =
      let first : IsFirstMeant (means_kind meaning same q.kind) q.range c.root (Some e) =
      subst (λ x. resolves_from x (means_kind meaning same q.kind) q.range c.root (Some e)) top
      res in
      let is : e ≡ cursor_at c.root p =
      found-at (means_kind meaning same q.kind) q.range c.root e first
      ∙ ap (cursor_at c.root) path in (
        ap (pointer_to meaning) (sym (below-node c d p top at)) ∙ to,
        subst (λ x. IsFirstMeant (means_kind meaning same q.kind) q.range c.root (Some x)) is
            first,
      )

-- ---- the pointer after the edits

module _ {K : Type 0} (meaning : ℕ → K) (same : K → K → Bool) (e : Edited) (p : Pointer K)
    (top : Cursor) (is_top : top ≡ cursor_at e.sites.root []) where
  leads-from : (found : Option Cursor)
      → Resolves (means_kind meaning same p.kind) p.range top found
      → Resolves (means_kind meaning same p.kind) p.range (cursor_at e.sites.root []) found
  leads-from found =
      subst (λ t. Resolves (means_kind meaning same p.kind) p.range t found) is_top

  -- it leads nowhere
  pub none-after : Resolves (means_kind meaning same p.kind) p.range top None
      → IsPointerAfter meaning same e p None
  none-after h = record { node = None; leads = leads-from None h; is = refl }

  -- what it leads to is taken away
  pub gone-after : (c : Cursor) → Resolves (means_kind meaning same p.kind) p.range top (Some c)
      → path_after e.sites c.path ≡ None → IsPointerAfter meaning same e p None
  gone-after c h gone = record {
    node = Some c;
    leads = leads-from (Some c) h;
    is = subst (λ o. IsPointerAt meaning same e.green o None) (sym gone) refl;
  }

  -- what it leads to is at another path
  pub moved-after : (c : Cursor) (q : Path) (found : Option (Pointer K))
      → Resolves (means_kind meaning same p.kind) p.range top (Some c)
      → path_after e.sites c.path ≡ Some q
      → IsPointerTo meaning same (cursor_at e.green q) found
      → IsPointerAfter meaning same e p found
  moved-after c q found h moved to = record {
    node = Some c;
    leads = leads-from (Some c) h;
    is = subst (λ o. IsPointerAt meaning same e.green o found) (sym moved) to;
  }
