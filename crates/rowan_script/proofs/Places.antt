-- From place to place: the element that is reached by one more place, and where none is.
use Rattle.std.proofs.Common.{◌≡◌, ℕ, zero, suc, ◌+◌, ◌<◌, Bool, true, false, List, [], ◌∷◌, ◌++◌}
use Rattle.std.proofs.Common.{map, length, take, drop, get_or, refl, sym, ◌∙◌, ap, append-nil}
use Rattle.std.proofs.Common.{append_assoc, drop-cons, arith}
use Rattle.std.specs.Prelude.{Option, Some, None, slice_get}
use Rattle.std.specs.Option.{option_map}
use Rattle.std.proofs.lemmas.List.{take-append-drop}
use Rattle.rowan_green.specs.declared.utility_types.NodeOrToken.TheVariants.{Node, Token}
use Rattle.rowan_green.specs.Term.{NodeTerm, Term}
use Rattle.rowan_terms.specs.Path.{Path, subterm, subterm_of}
use Rattle.rowan_table.specs.Cursor.{Cursor}
use Rattle.rowan_table.specs.Moves.{Element, element_at, element_if, is_node, cursor_at, numbers}
use Rattle.rowan_table.specs.Moves.{child_paths, children_of, below, element_if_there}
use Rattle.rowan_table.specs.Moves.{element_below}
use Rattle.rowan_table.proofs.PathLemmas.{subterm-child, subterm_of-append}

-- ---- lists of places

pub place-split : (ps : Path) (k d : ℕ) → k < length ps
    → ps ≡ take k ps ++ get_or ps k d ∷ drop (suc k) ps
place-split ps k d h = sym (take-append-drop k ps) ∙ ap (λ qs. take k ps ++ qs) (drop-cons ps k d h)

-- ---- children

children-get : (ts : List Term) (f : ℕ → Path) (a i : ℕ)
    → slice_get (map f (numbers a (length ts))) i ≡ option_map (λ t. f (a + i)) (slice_get ts i)
children-get [] f a i = refl
children-get (t ∷ ts) f a zero = let e : a ≡ a + 0 = omega arith in ap (λ k. Some (f k)) e
children-get (t ∷ ts) f a (suc i) =
    let e : a + 1 + i ≡ a + suc i = omega arith in
    children-get ts f (a + 1) i ∙ ap (λ k. option_map (λ t. f k) (slice_get ts i)) e

child-get : (root : NodeTerm) (p : Path) (i : ℕ)
    → slice_get (child_paths root p) i ≡ option_map (λ t. p ++ i ∷ []) (subterm (Node root)
    (p ++ i ∷ []))
child-get root p i =
    let ts = children_of (subterm (Node root) p) in
    let e : 0 + i ≡ i = omega arith in
    children-get ts (λ k. p ++ k ∷ []) 0 i
    ∙ ap (λ k. option_map (λ t. p ++ k ∷ []) (slice_get ts i)) e
    ∙ ap (option_map (λ t. p ++ i ∷ [])) (sym (subterm-child (Some (Node root)) p i))

option-twice : {A B C : Type 0} (f : B → C) (b : B) (o : Option A)
    → option_map f (option_map (λ a. b) o) ≡ option_map (λ a. f b) o
option-twice f b None = refl
option-twice f b (Some a) = refl

-- ---- what stands at the end of a path that is there

option-value : {A B : Type 0} (b x : B) (o : Option A) → option_map (λ a. b) o ≡ Some x → b ≡ x
option-value b x (Some a) e = cc
option-value b x None e = cc

option-none : {A B : Type 0} (b : B) (o : Option A) → option_map (λ a. b) o ≡ None → o ≡ None
option-none b None e = refl
option-none b (Some a) e = cc

node-cursor : (b : Bool) (d c : Cursor) → element_if b d ≡ Node c → d ≡ c
node-cursor true d c e = cc
node-cursor false d c e = cc

-- ---- from an element on

below-more : (c : Cursor) (is : Path) (i : ℕ) (r : Path)
    → element_below c (is ++ i ∷ r) ≡ element_if_there c.root ((c.path ++ is) ++ i ∷ r)
below-more c [] i r = ap (λ p. element_if_there c.root (p ++ i ∷ r)) (sym (append-nil c.path))
below-more c (j ∷ is) i r = ap (element_if_there c.root)
    (sym (append_assoc c.path (j ∷ is) (i ∷ r)))

node-below : (c d : Cursor) (is : Path) → element_below c is ≡ Some (Node d)
    → cursor_at c.root (c.path ++ is) ≡ d
node-below c d [] e =
    let same : c ≡ d = cc in
    ap (cursor_at c.root) (append-nil c.path) ∙ same
node-below c d (i ∷ is) e =
    let p = c.path ++ i ∷ is in
    node-cursor (is_node (subterm (Node c.root) p)) (cursor_at c.root p) d
    (option-value (element_at c.root p) (Node d) (subterm (Node c.root) p) e)

-- the child of the node that is reached
pub child-there : (c d : Cursor) (is : Path) (i : ℕ) (found : Option Element)
    → element_below c is ≡ Some (Node d)
    → found ≡ option_map (element_at d.root) (slice_get (child_paths d.root d.path) i)
    → element_below c (is ++ i ∷ []) ≡ found
child-there c d is i found e f =
    let q = c.path ++ is in let root = c.root in
    below-more c is i [] ∙ sym (f
    ∙ ap (λ (b : Cursor). option_map (element_at b.root) (slice_get (child_paths b.root b.path) i))
    (sym (node-below c d is e))
    ∙ ap (option_map (element_at root)) (child-get root q i)
    ∙ option-twice (element_at root) (q ++ i ∷ []) (subterm (Node root) (q ++ i ∷ [])))

below-none : (root : NodeTerm) (q r : Path) → subterm (Node root) q ≡ None
    → element_if_there root (q ++ r) ≡ None
below-none root q r e =
    ap (option_map (λ t. element_at root (q ++ r))) (subterm_of-append (Some (Node root)) q r
    ∙ ap (λ o. subterm_of o r) e)

-- where a child is not there, nothing below it is
pub none-below : (c : Cursor) (is : Path) (i : ℕ) (r : Path) → element_below c (is ++ i ∷ []) ≡ None
    → element_below c (is ++ i ∷ r) ≡ None
none-below c is i r e =
    let q = c.path ++ is in let root = c.root in
    let none = option-none (element_at root (q ++ i ∷ [])) (subterm (Node root) (q ++ i ∷ []))
    (sym (below-more c is i []) ∙ e) in
    below-more c is i r ∙ ap (element_if_there root) (sym (append_assoc q (i ∷ []) r))
    ∙ below-none root (q ++ i ∷ []) r none

childless : (o : Option Term) (d c : Cursor) → element_if (is_node o) d ≡ Token c
    → children_of o ≡ []
childless None d c e = refl
childless (Some (Token t)) d c e = refl
childless (Some (Node n)) d c e = cc

-- nothing is below a token
pub token-below : (c d : Cursor) (is : Path) (i : ℕ) (r : Path)
    → element_below c is ≡ Some (Token d) → element_below c (is ++ i ∷ r) ≡ None
token-below c d [] i r e = cc
token-below c d (j ∷ is) i r e =
    let q = c.path ++ j ∷ is in let root = c.root in
    let here = option-value (element_at root q) (Token d) (subterm (Node root) q) e in
    let none : subterm (Node root) (q ++ i ∷ []) ≡ None =
    subterm-child (Some (Node root)) q i
    ∙ ap (λ ts. slice_get ts i) (childless (subterm (Node root) q) (cursor_at root q) d here) in
    below-more c (j ∷ is) i r ∙ ap (element_if_there root) (sym (append_assoc q (i ∷ []) r))
    ∙ below-none root (q ++ i ∷ []) r none
