-- Rewritten trees by lists of children, and their texts.
use Rattle.std.proofs.Common.{◌≡◌, ℕ, zero, suc, ◌+◌, ◌≤◌, List, [], ◌∷◌, ◌++◌, map, length}
use Rattle.std.proofs.Common.{take, drop, Some, None, refl, sym, ◌∙◌, ap, arith, append_assoc}
use Rattle.std.specs.Prelude.{Bool, slice_get}
use Rattle.std.specs.List.{filter, flat_map}
use Rattle.std.proofs.lemmas.Grind.{flat_map-append}
use Rattle.std.proofs.lemmas.List.{map-append}
use Rattle.std.proofs.lemmas.List.Elements.{filter-append}
use Rattle.std.proofs.lemmas.Simd.{map-map}
use Rattle.rowan_green.specs.declared.utility_types.NodeOrToken.TheVariants.{Node}
use Rattle.rowan_terms.specs.Path.{LeafAt, below_place, node_leaves, leaves_from, leaves, tokens}
use Rattle.rowan_green.specs.Term.{TokenTerm, NodeTerm, node, Forest, empty, node_then, token_then}
use Rattle.rowan_green.specs.Term.{terms, node_of, node_kind, node_children, node_text}
use Rattle.rowan_green.specs.Term.{Term, term_text, joined_text}
use Rattle.rowan_terms.proofs.OffsetLemmas.{joined-terms}
use Rattle.rowan_green.proofs.Terms.{terms-forest}
use Rattle.rowan_rewrite.specs.declared.rewriting.Rewrite.{Rewrite}
use Rattle.rowan_rewrite.specs.Drafts.{tokens_in, rewritten_list, list_lead, behind_list, leaves_at}
use Rattle.rowan_rewrite.specs.Rewriting.{lead, own, in_place, first_answer, node_lead, first_lead}
use Rattle.rowan_rewrite.specs.Rewriting.{behind_lead, new_children, with_front, rewritten}
use Rattle.rowan_rewrite.specs.Rewriting.{rewritten_by, rewritten_text, rewritten_tokens, AllKeep}

-- ---- leaves and tokens

leaves-from : (i : ℕ) (f : Forest) → leaves_from i f ≡ leaves_at i (terms f)
leaves-from i empty = refl
leaves-from i (node_then n f) =
    ap (λ ls. map (below_place i) (node_leaves n) ++ ls) (leaves-from (i + 1) f)
leaves-from i (token_then t f) = ap (λ ls. (i ∷ [], t) ∷ ls) (leaves-from (i + 1) f)

pub leaves-children : (n : NodeTerm) → leaves (Node n) ≡ leaves_at 0 (node_children n)
leaves-children (node k f) = leaves-from 0 f

tokens-from : (i : ℕ) (f : Forest) → map (λ l. l.1) (leaves_from i f) ≡ tokens_in (terms f)
tokens-from i empty = refl
tokens-from i (node_then n f) =
    map-append (λ (l : LeafAt). l.1) (map (below_place i) (node_leaves n)) (leaves_from (i + 1) f)
    ∙ ap (λ ts. ts ++ map (λ l. l.1) (leaves_from (i + 1) f))
    (map-map (λ (l : LeafAt). l.1) (below_place i) (node_leaves n))
    ∙ ap (λ ts. tokens (Node n) ++ ts) (tokens-from (i + 1) f)
tokens-from i (token_then t f) = ap (λ ts. t ∷ ts) (tokens-from (i + 1) f)

pub tokens-children : (n : NodeTerm) → tokens (Node n) ≡ tokens_in (node_children n)
tokens-children (node k f) = tokens-from 0 f

-- ---- children

first-lead : (f : Forest) (answers : List Rewrite)
    → first_lead f answers ≡ list_lead (terms f) answers
first-lead empty answers = refl
first-lead (node_then n f) answers = refl
first-lead (token_then t f) answers = refl

-- what the first child leads with, and what comes behind that
pub list-parts : (ts : List Term) (answers : List Rewrite)
    → list_lead ts answers ++ behind_list ts answers ≡ rewritten_list ts answers
list-parts [] answers = refl
list-parts (t ∷ ts) answers = refl

new-terms : (f : Forest) (answers : List Rewrite)
    → new_children f answers ≡ behind_list (terms f) answers
new-terms empty answers = refl
new-terms (node_then n f) answers =
    let rest = drop (length (tokens (Node n))) answers in
    ap (λ ts. Node (behind_lead n answers) ∷ (ts ++ new_children f rest)) (first-lead f rest)
    ∙ ap (λ ts. Node (behind_lead n answers) ∷ (list_lead (terms f) rest ++ ts)) (new-terms f rest)
    ∙ ap (λ ts. Node (behind_lead n answers) ∷ ts) (list-parts (terms f) rest)
new-terms (token_then t f) answers =
    let rest = drop 1 answers in
    let new = own t (first_answer answers) in
    ap (λ ts. new ++ (ts ++ new_children f rest)) (first-lead f rest)
    ∙ ap (λ ts. new ++ (list_lead (terms f) rest ++ ts)) (new-terms f rest)
    ∙ ap (λ ts. new ++ ts) (list-parts (terms f) rest)

pub lead-children : (n : NodeTerm) (answers : List Rewrite)
    → node_lead n answers ≡ list_lead (node_children n) answers
lead-children (node k f) answers = first-lead f answers

pub behind-children : (n : NodeTerm) (answers : List Rewrite)
    → behind_lead n answers ≡ node_of (node_kind n) (behind_list (node_children n) answers)
behind-children (node k f) answers = ap (node_of k) (new-terms f answers)

-- ---- texts and tokens

pub drop-more : {A : Type 0} (k : ℕ) (xs : List A) → drop k (drop 1 xs) ≡ drop (suc k) xs
drop-more zero [] = refl
drop-more (suc k) [] = refl
drop-more k (x ∷ xs) = refl

-- what a node has is what its children have, one after the other
module _ {A : Type 0} (has : Term → List A)
    (in_node : (n : NodeTerm) → has (Node n) ≡ flat_map has (node_children n)) where
  by-append : (ts us : List TokenTerm) (answers : List Rewrite)
      → rewritten_by has (ts ++ us) answers
      ≡ rewritten_by has ts answers ++ rewritten_by has us (drop (length ts) answers)
  by-append [] us answers = refl
  by-append (t ∷ ts) us answers =
      let own = flat_map has (in_place t (first_answer answers)) in
      ap (λ xs. own ++ xs) (by-append ts us (drop 1 answers))
      ∙ ap (λ rest. own ++ (rewritten_by has ts (drop 1 answers) ++ rewritten_by has us rest))
      (drop-more (length ts) answers)
      ∙ sym (append_assoc own (rewritten_by has ts (drop 1 answers))
      (rewritten_by has us (drop (suc (length ts)) answers)))

  in-front : (ts : List Term) (n : NodeTerm)
      → has (Node (with_front ts n)) ≡ flat_map has ts ++ has (Node n)
  in-front ts n =
      in_node (with_front ts n)
      ∙ ap (flat_map has) (terms-forest (ts ++ node_children n))
      ∙ flat_map-append has ts (node_children n)
      ∙ ap (λ xs. flat_map has ts ++ xs) (sym (in_node n))

  mutual
    by-led : (n : NodeTerm) (answers : List Rewrite)
        → flat_map has (node_lead n answers) ++ has (Node (behind_lead n answers))
        ≡ rewritten_by has (tokens (Node n)) answers
    by-led (node k f) answers =
        ap (λ xs. flat_map has (first_lead f answers) ++ xs)
        (in_node (behind_lead (node k f) answers)
        ∙ ap (flat_map has) (terms-forest (new_children f answers)))
        ∙ by-children f answers ∙ ap (λ ts. rewritten_by has ts answers) (sym (tokens-from 0 f))

    by-children : (f : Forest) (answers : List Rewrite)
        → flat_map has (first_lead f answers) ++ flat_map has (new_children f answers)
        ≡ rewritten_by has (tokens_in (terms f)) answers
    by-children empty answers = refl
    by-children (node_then n f) answers =
        let rest = drop (length (tokens (Node n))) answers in
        let before = flat_map has (node_lead n answers) in
        let new = has (Node (behind_lead n answers)) in
        let all = first_lead f rest ++ new_children f rest in
        sym (append_assoc before new (flat_map has all))
        ∙ ap (λ xs. xs ++ flat_map has all) (by-led n answers)
        ∙ ap (λ xs. rewritten_by has (tokens (Node n)) answers ++ xs)
        (flat_map-append has (first_lead f rest) (new_children f rest) ∙ by-children f rest)
        ∙ sym (by-append (tokens (Node n)) (tokens_in (terms f)) answers)
    by-children (token_then t f) answers =
        let rest = drop 1 answers in
        let a = first_answer answers in
        let before = flat_map has (lead a) in
        let new = flat_map has (own t a) in
        let more = rewritten_by has (tokens_in (terms f)) rest in
        ap (λ xs. before ++ xs)
        (flat_map-append has (own t a) (first_lead f rest ++ new_children f rest)
        ∙ ap (λ xs. new ++ xs)
        (flat_map-append has (first_lead f rest) (new_children f rest) ∙ by-children f rest))
        ∙ sym (append_assoc before new more)
        ∙ ap (λ xs. xs ++ more) (sym (flat_map-append has (lead a) (own t a)))

  by-node : (n : NodeTerm) (answers : List Rewrite)
      → has (Node (rewritten n answers)) ≡ rewritten_by has (tokens (Node n)) answers
  by-node n answers =
      in-front (node_lead n answers) (behind_lead n answers) ∙ by-led n answers

text-node : (n : NodeTerm) → node_text n ≡ joined_text (node_children n)
text-node (node k f) = joined-terms f

pub text-rewritten : (n : NodeTerm) (answers : List Rewrite)
    → node_text (rewritten n answers) ≡ rewritten_text (tokens (Node n)) answers
text-rewritten n answers = by-node term_text text-node n answers

pub tokens-rewritten : (n : NodeTerm) (answers : List Rewrite)
    → tokens (Node (rewritten n answers)) ≡ rewritten_tokens (tokens (Node n)) answers
tokens-rewritten n answers = by-node tokens tokens-children n answers

-- ---- tokens that are kept

kept-tokens : (test : TokenTerm → Bool) (ts : List TokenTerm) (answers : List Rewrite)
    → AllKeep test ts answers → filter test (rewritten_tokens ts answers) ≡ filter test ts
kept-tokens test [] answers h = refl
kept-tokens test (t ∷ ts) answers h =
    let own = flat_map tokens (in_place t (first_answer answers)) in
    filter-append test own (rewritten_tokens ts (drop 1 answers))
    ∙ ap (λ us. us ++ filter test (rewritten_tokens ts (drop 1 answers))) h.0
    ∙ ap (λ us. filter test (t ∷ []) ++ us) (kept-tokens test ts (drop 1 answers) h.1)
    ∙ sym (filter-append test (t ∷ []) ts)

pub kept-rewritten : (old : NodeTerm) (answers : List Rewrite) (test : TokenTerm → Bool)
    → AllKeep test (tokens (Node old)) answers
    → filter test (tokens (Node (rewritten old answers))) ≡ filter test (tokens (Node old))
kept-rewritten old answers test h =
    ap (filter test) (tokens-rewritten old answers)
    ∙ kept-tokens test (tokens (Node old)) answers h

-- ---- lists

pub drop-at : {A : Type 0} (xs : List A) (i : ℕ) (x : A) → slice_get xs i ≡ Some x
    → drop i xs ≡ x ∷ drop (i + 1) xs
drop-at [] i x h = absurd cc
drop-at (y ∷ ys) zero x h = let e : y ≡ x = cc in ap (λ z. z ∷ ys) e
drop-at (y ∷ ys) (suc i) x h =
    let next : suc i + 1 ≡ suc (i + 1) = omega arith in
    drop-at ys i x h ∙ ap (λ k. x ∷ drop k (y ∷ ys)) (sym next)

pub take-at : {A : Type 0} (xs : List A) (i : ℕ) (x : A) → slice_get xs i ≡ Some x
    → take (i + 1) xs ≡ take i xs ++ x ∷ []
take-at [] i x h = absurd cc
take-at (y ∷ ys) zero x h = let e : y ≡ x = cc in ap (λ z. z ∷ []) e
take-at (y ∷ ys) (suc i) x h =
    let next : suc i + 1 ≡ suc (i + 1) = omega arith in
    ap (λ k. take k (y ∷ ys)) next ∙ ap (λ zs. y ∷ zs) (take-at ys i x h)

pub get-past : {A : Type 0} (xs : List A) (i : ℕ) → slice_get xs i ≡ None → length xs ≤ i
get-past [] i h = omega arith
get-past (x ∷ xs) zero h = absurd cc
get-past (x ∷ xs) (suc i) h = omega (arith, get-past xs i h)
