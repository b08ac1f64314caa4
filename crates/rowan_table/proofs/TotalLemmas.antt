-- Laws of a count of a tree, level by level.
use Rattle.std.proofs.Common.{◌≡◌, ℕ, ◌+◌, ◌≤◌, List, [], ◌∷◌, ◌++◌, length, take}
use Rattle.std.proofs.Common.{Some, refl, ◌∙◌, ap, arith}
use Rattle.std.specs.Prelude.{slice_get}
use Rattle.std.specs.List.{sum_by}
use Rattle.std.proofs.lemmas.List.{take_more, take-append-drop}
use Rattle.std.proofs.lemmas.List.Sums.{sum_by-append}
use Rattle.std.proofs.lemmas.Option.{slice_get_within, get_or_from_slice_get}
use Rattle.std.proofs.Common.{drop, Bor}
use Rattle.std.specs.Option.{option_to_list}
use Rattle.rowan_green.specs.declared.utility_types.NodeOrToken.TheVariants.{Node, Token}
use Rattle.rowan_green.specs.Term.{NodeTerm, node, Forest, empty, node_then, token_then}
use Rattle.rowan_green.specs.Term.{Term, TokenTerm, node_children, terms}
use Rattle.rowan_green.specs.declared.green.node.GreenNode.{GreenNode}
use Rattle.rowan_table.specs.declared.table.count.Count.{Count}
use Rattle.rowan_table.specs.Count.{entries_below, forest_entries, entries_under, entries_deeper}
use Rattle.rowan_table.specs.Count.{met_deeper}

sum_by-first : {X : Type 0} (f : X → ℕ) (x : X) (xs : List X)
    → sum_by f (x ∷ xs) ≡ f x + sum_by f xs
sum_by-first f x xs = sum_by-append f (x ∷ []) xs ∙ omega arith

forest_entries-terms : (f : Forest)
    → forest_entries f ≡ length (terms f) + sum_by entries_under (terms f)
forest_entries-terms empty = refl
forest_entries-terms (node_then n f) =
    omega (
      arith,
      forest_entries-terms f,
      sum_by-first entries_under (Node n) (terms f),
    )
forest_entries-terms (token_then t f) =
    omega (
      arith,
      forest_entries-terms f,
      sum_by-first entries_under (Token t) (terms f),
    )

-- below a node are its children, and what is below them
pub entries_below-children : (n : NodeTerm)
    → entries_below n ≡ length (node_children n) + entries_deeper n
entries_below-children (node k f) = forest_entries-terms f

-- one child more was gone through
pub deeper-more : (ts : List Term) (i : ℕ) (t : Term) → slice_get ts i ≡ Some t
    → sum_by entries_under (take (i + 1) ts) ≡ sum_by entries_under (take i ts) + entries_under t
deeper-more ts i t at =
    let more : take (i + 1) ts ≡ take i ts ++ t ∷ [] = take_more ts i t (slice_get_within ts i t at)
    ∙ ap (λ u. take i ts ++ u ∷ []) (get_or_from_slice_get ts i t t at) in
    ap (sum_by entries_under) more ∙ sum_by-append entries_under (take i ts) (t ∷ [])
    ∙ omega arith

-- some of a list are no more than all
pub deeper-some : (ts : List Term) (i : ℕ)
    → sum_by entries_under (take i ts) ≤ sum_by entries_under ts
deeper-some ts i =
    omega (
      arith,
      sum_by-append entries_under (take i ts) (drop i ts),
      ap (sum_by entries_under) (take-append-drop i ts),
    )

-- a node was gone through
pub node-more : (ts : List Term) (i : ℕ) (t : Term) (n : NodeTerm) → slice_get ts i ≡ Some t
    → t ≡ Node n → sum_by entries_under (take (i + 1) ts)
    ≡ sum_by entries_under (take i ts) + length (node_children n) + entries_deeper n
node-more ts i t n at is =
    omega (arith, deeper-more ts i t at, ap entries_under is, entries_below-children n)

-- a token was gone through
pub token-more : (ts : List Term) (i : ℕ) (t : Term) (k : TokenTerm) → slice_get ts i ≡ Some t
    → t ≡ Token k → sum_by entries_under (take (i + 1) ts) ≡ sum_by entries_under (take i ts)
token-more ts i t k at is = omega (arith, deeper-more ts i t at, ap entries_under is)

-- a node was met
pub met-more : (old new : Count) (n : Bor GreenNode) → new.met.items ≡ old.met.items ++ n ∷ []
    → met_deeper new ≡ met_deeper old + entries_deeper n.now
met-more old new n more =
    ap (sum_by (λ (m : Bor GreenNode). entries_deeper m.now)) more
    ∙ sum_by-append (λ (m : Bor GreenNode). entries_deeper m.now) old.met.items (n ∷ [])
    ∙ omega arith

-- the first of those that were met was taken out
pub met-taken : (old : Count) (ms : List (Bor GreenNode)) (n : Bor GreenNode)
    → old.met.items ≡ option_to_list (Some n) ++ ms
    → met_deeper old ≡ entries_deeper n.now + sum_by (λ (m : Bor GreenNode). entries_deeper m.now) ms
met-taken old ms n taken =
    ap (sum_by (λ (m : Bor GreenNode). entries_deeper m.now)) taken
    ∙ sum_by-append (λ (m : Bor GreenNode). entries_deeper m.now) (n ∷ []) ms ∙ omega arith

-- none was met
pub met-none : (count : Count) → count.met.items ≡ [] → met_deeper count ≡ 0
met-none count none = ap (sum_by (λ (m : Bor GreenNode). entries_deeper m.now)) none
