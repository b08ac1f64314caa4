-- Searches by place: the child at a range of the root's text, the element that covers a range, and
-- the tokens at an offset; and the last child that starts before an offset, by which a search for
-- the first token of a range goes down.
--     The chain of a range goes from an element to its child at the range, to that one's child, and
--     so on, until there is none. The covering element is the last of it.
--     The leaves that touch an offset are those with bytes in whose range the offset lies, the ends
--     of the range included.
-- All offsets are counted from the start of the root's text.
use Rattle.std.specs.Prelude.{◌≡◌, ℕ, ◌+◌, ◌-◌, ◌<◌, ◌≤◌, Bool, true, ◌&&◌, nat_lt, nat_le, List}
use Rattle.std.specs.Prelude.{[], ◌∷◌, ◌++◌, map, filter, Option, Some, None}
use Rattle.rowan_green.specs.declared.utility_types.NodeOrToken.TheVariants.{Node, Token}
use Rattle.rowan_green.specs.Term.{TokenTerm, NodeTerm, token_len}
use Rattle.rowan_terms.specs.Path.{Path, subterm, begins, offset, range}
use Rattle.rowan_green.specs.Search.{IsChildAt, digits}
use Rattle.rowan_green.specs.Span.{Span}
use Rattle.rowan_green.specs.Steps.{Tally, count_limit}
use Rattle.rowan_table.specs.Cursor.{Cursor}
use Rattle.rowan_table.specs.Moves.{Element, element_at, cursor_at, children_of, child_count}
use Rattle.rowan_table.specs.Moves.{leaf_paths}

-- one range lies in another
abbrev pub LiesIn : Span → Span → Type 0
LiesIn inner outer = (outer.start ≤ inner.start) × (inner.end ≤ outer.end)

-- ---- paths

-- the element at q is the child at a range of the element at p
pub record IsRangeChild (root : NodeTerm) (span : Span) (p q : Path) : Type 0 where
  pub place : ℕ
  pub path : q ≡ p ++ place ∷ []
  pub from : offset (Node root) p ≤ span.start
  pub child : IsChildAt (children_of (subterm (Node root) p))
      (span.start - offset (Node root) p) (span.end - offset (Node root) p) place

-- of the children of the element at p, only that at q can be the one at a range; and it is, if the
-- range lies in its own
pub record IsOnlyRangeChild (root : NodeTerm) (span : Span) (p q : Path) : Type 0 where
  pub is : span.start ≤ span.end → LiesIn span (range (Node root) q) → IsRangeChild root span p q
  pub only : (r : Path) → IsRangeChild root span p r → r ≡ q

-- the steps of a search by halves among so many children: no visit, and a comparison at least if it
-- has found one
pub record CountsSearch (children : ℕ) (Found : Type 0) (old new : Tally) : Type 0 where
  pub most : new.comparisons ≤ old.comparisons + digits children
  pub least : Found → old.comparisons < count_limit → old.comparisons < new.comparisons
  pub grows : old.comparisons ≤ new.comparisons
  pub visits : new.visits ≡ old.visits

-- behind the element at p, these follow in the chain of the range
abbrev pub IsChain : NodeTerm → Span → Path → List Path → Type 0
IsChain root span p [] = (q : Path) → ¬ IsRangeChild root span p q
IsChain root span p (q ∷ qs) = IsRangeChild root span p q × IsChain root span q qs

-- the last of a chain that begins with p
abbrev pub chain_end : Path → List Path → Path
chain_end p [] = p
chain_end p (q ∷ qs) = chain_end q qs

-- of the elements at and below p, that at q covers the range
pub record Covers (root : NodeTerm) (span : Span) (p q : Path) : Type 0 where
  pub chain : List Path
  pub is : IsChain root span p chain
  pub last : q ≡ chain_end p chain

-- the element at q is the last child of that at p that starts before an offset; the first child, if
-- none starts before it
pub record IsChildBefore (root : NodeTerm) (x : ℕ) (p q : Path) : Type 0 where
  pub place : ℕ
  pub path : q ≡ p ++ place ∷ []
  pub count : place < child_count root p
  pub before : 0 < place → offset (Node root) q < x
  pub behind : (j : ℕ) → place < j → j < child_count root p → x ≤ offset (Node root) (p ++ j ∷ [])

-- whether the text at a path has bytes, and the offset lies in its range or is an end of it
abbrev pub touches : NodeTerm → ℕ → Path → Bool
touches root x q =
    let r = range (Node root) q in
    nat_lt r.start r.end && (nat_le r.start x && nat_le x r.end)

-- the leaves at or below a path that touch an offset, in order
abbrev pub touching : NodeTerm → ℕ → Path → List Path
touching root x p = filter (touches root x) (filter (begins p) (leaf_paths (Node root)))

-- the token at q, at or below the element at p, has the byte behind an offset
pub record IsLeafOver (root : NodeTerm) (x : ℕ) (p q : Path) : Type 0 where
  pub token : TokenTerm
  pub is : subterm (Node root) q ≡ Some (Token token)
  pub below : begins p q ≡ true
  pub from : offset (Node root) q ≤ x
  pub to : x < offset (Node root) q + token_len token

-- ---- answers

-- the element stands at a path of which this is true
pub record StandsWhere (root : NodeTerm) (P : Path → Type 0) (e : Element) : Type 0 where
  pub path : Path
  pub true : P path
  pub is : e ≡ element_at root path

-- an element that stands where this is true; or none, and then it is true of no path
abbrev pub Finds : NodeTerm → (Path → Type 0) → Option Element → Type 0
Finds root P None = (q : Path) → ¬ P q
Finds root P (Some e) = StandsWhere root P e

-- the child at a range, or none where there is none
abbrev pub FindsChild : Span → Cursor → Option Element → Type 0
FindsChild span c found = Finds c.root (IsRangeChild c.root span c.path) found

-- the element that covers a range, of those at and below a node
abbrev pub IsCovering : Span → Cursor → Element → Type 0
IsCovering span c e = StandsWhere c.root (Covers c.root span c.path) e

-- the tokens at an offset, from left to right
abbrev pub tokens_at : ℕ → Cursor → List Cursor
tokens_at x c = map (cursor_at c.root) (touching c.root x c.path)
