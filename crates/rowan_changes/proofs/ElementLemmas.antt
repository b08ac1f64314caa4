-- An element by its path, step by step, and the text of children.
use Rattle.std.proofs.Common.{◌≡◌, ℕ, zero, suc, ◌+◌, ◌-◌, ◌≤◌, List, [], ◌∷◌, ◌++◌, length, take}
use Rattle.std.proofs.Common.{drop, Option, Some, None, refl, sym, ◌∙◌, ap, arith}
use Rattle.std.specs.Prelude.{Bool, slice_get}
use Rattle.std.specs.Option.{is_some, option_map}
use Rattle.std.proofs.lemmas.Grind.{flat_map-append}
use Rattle.std.proofs.lemmas.List.{append-nil}
use Rattle.rowan_green.specs.declared.utility_types.NodeOrToken.TheVariants.{Node, Token}
use Rattle.rowan_terms.specs.Path.{Path, subterm_of}
use Rattle.rowan_green.specs.Term.{NodeTerm, TokenTerm, Term, node_children, term_text, joined_text}
use Rattle.rowan_changes.proofs.OpenNodeLemmas.{take-more}
use Rattle.rowan_changes.proofs.Places.{drop-at, drop-all}

-- ---- one step

pub token-below : (t : TokenTerm) (q : Path) (k i : ℕ) → slice_get q k ≡ Some i
    → subterm_of (Some (Token t)) (drop k q) ≡ None
token-below t q k i h = ap (subterm_of (Some (Token t))) (drop-at q k i h)

none-there : (ts : List Term) (i : ℕ) → length ts ≤ i → slice_get ts i ≡ None
none-there [] i h = refl
none-there (t ∷ ts) zero h = absurd (omega arith)
none-there (t ∷ ts) (suc i) h = none-there ts i (omega arith)

pub none-below : (n : NodeTerm) (q : Path) (k i : ℕ) → slice_get q k ≡ Some i
    → length (node_children n) ≤ i → subterm_of (Some (Node n)) (drop k q) ≡ None
none-below n q k i h l =
    ap (subterm_of (Some (Node n))) (drop-at q k i h)
    ∙ ap (λ o. subterm_of o (drop (k + 1) q)) (none-there (node_children n) i l)

pub child-below : (n : NodeTerm) (q : Path) (k i : ℕ) (c : Term) → slice_get q k ≡ Some i
    → slice_get (node_children n) i ≡ Some c
    → subterm_of (Some (Node n)) (drop k q) ≡ subterm_of (Some c) (drop (k + 1) q)
child-below n q k i c h g =
    ap (subterm_of (Some (Node n))) (drop-at q k i h)
    ∙ ap (λ o. subterm_of o (drop (k + 1) q)) g

pub all-below : (t : Term) (q : Path) (k : ℕ) → length q ≤ k
    → subterm_of (Some t) (drop k q) ≡ Some t
all-below t q k h = ap (subterm_of (Some t)) (drop-all q k h)

pub some-there : {A B : Type 0} (f : A → B) (r : Option A) (o : Option B) (b : Bool)
    → option_map f r ≡ o → is_some r ≡ b → is_some o ≡ b
some-there f None o b h g = ap is_some (sym h) ∙ g
some-there f (Some x) o b h g = ap is_some (sym h) ∙ g

-- ---- the text of children

-- the children from an index on, so many of them
abbrev pub part : ℕ → ℕ → List Term → List Term
part from count ts = take count (drop from ts)

get-drop : (ts : List Term) (s k : ℕ) → slice_get (drop s ts) k ≡ slice_get ts (s + k)
get-drop ts zero k = let e : k ≡ 0 + k = omega arith in ap (slice_get ts) e
get-drop [] (suc s) k = refl
get-drop (t ∷ ts) (suc s) k =
    let e : suc (s + k) ≡ suc s + k = omega arith in get-drop ts s k ∙ ap (slice_get (t ∷ ts)) e

-- one more child
pub text-more : (ts : List Term) (start index : ℕ) (t : Term) → start ≤ index
    → slice_get ts index ≡ Some t
    → joined_text (part start (index + 1 - start) ts)
    ≡ joined_text (part start (index - start) ts) ++ term_text t
text-more ts start index t le h =
    let count : index + 1 - start ≡ suc (index - start) = omega arith in
    let at : start + (index - start) ≡ index = omega arith in
    let there : slice_get (drop start ts) (index - start) ≡ Some t =
    get-drop ts start (index - start) ∙ ap (slice_get ts) at ∙ h in
    ap (λ k. joined_text (part start k ts)) count
    ∙ ap joined_text (take-more (drop start ts) (index - start) t there)
    ∙ flat_map-append term_text (part start (index - start) ts) (t ∷ [])
    ∙ ap (λ bs. joined_text (part start (index - start) ts) ++ bs) (append-nil (term_text t))

take-past : (ts : List Term) (j k : ℕ) → length ts ≤ j → j ≤ k → take k ts ≡ take j ts
take-past [] zero zero l h = refl
take-past [] zero (suc k) l h = refl
take-past [] (suc j) zero l h = absurd (omega arith)
take-past [] (suc j) (suc k) l h = refl
take-past (t ∷ ts) zero k l h = absurd (omega arith)
take-past (t ∷ ts) (suc j) zero l h = absurd (omega arith)
take-past (t ∷ ts) (suc j) (suc k) l h =
    ap (λ us. t ∷ us) (take-past ts j k (omega arith) (omega arith))

length-drop : (ts : List Term) (s : ℕ) → length (drop s ts) ≡ length ts - s
length-drop ts zero = omega arith
length-drop [] (suc s) = omega arith
length-drop (t ∷ ts) (suc s) = omega (arith, length-drop ts s)

-- no more children
pub text-past : (ts : List Term) (start index end : ℕ) → start ≤ index → index ≤ end
    → length ts ≤ index
    → joined_text (part start (index - start) ts) ≡ joined_text (part start (end - start) ts)
text-past ts start index end le more past =
    ap joined_text (sym (take-past (drop start ts) (index - start) (end - start)
    (omega (arith, length-drop ts start)) (omega arith)))
