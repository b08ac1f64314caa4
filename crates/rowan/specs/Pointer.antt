-- Pointers: a kind of a language and a range of text, by which a node is found again.
--     A pointer is resolved on the chain of its range, which begins with the root and goes on with
--     the child at the range, that one's child, and so on: it resolves to the first node on this
--     chain that has its range, and a raw kind that means its kind. An edit of the text moves what
--     stands behind it, and leaves what stands before.
use Rattle.std.specs.Prelude.{◌≡◌, ℕ, ◌+◌, ◌-◌, ◌≤◌, if◌then◌else◌, ◌&&◌, Bool, true, false, List}
use Rattle.std.specs.Prelude.{[], ◌∷◌, length, min, nat_le, nat_eq, Option, Some, None}
use Rattle.std.specs.List.{find}
use Rattle.std.specs.Option.{option_map, option_and_then}
use Rattle.rowan_green.specs.declared.utility_types.NodeOrToken.TheVariants.{Node, Token}
use Rattle.rowan_green.specs.Fits.{byte_limit}
use Rattle.rowan_terms.specs.Path.{Path, subterm, begins, range, put, shifted}
use Rattle.rowan_terms.specs.Replacements.{Replacement}
use Rattle.rowan_green.specs.Search.{digits}
use Rattle.rowan_green.specs.Span.{Span}
use Rattle.rowan_green.specs.Steps.{Tally, count_limit}
use Rattle.rowan_green.specs.Term.{NodeTerm, node_kind, Term, term_len}
use Rattle.rowan_table.specs.Cursor.{Cursor, kind, text_range}
use Rattle.rowan_table.specs.Moves.{child_count, nodes_at, cursor_at}
use Rattle.rowan_table.specs.Search.{IsChain}

pub record Pointer (K : Type 0) : Type 0 where
  pub kind : K
  pub range : Span

-- the pointer to a node, by what raw kinds mean
abbrev pub pointer_to : {K : Type 0} → (ℕ → K) → Cursor → Option (Pointer K)
pointer_to meaning c =
    option_map (λ raw. record { kind = meaning raw; range = text_range c }) (kind c)

-- ---- resolving

-- the raw kinds that mean a kind
abbrev pub means_kind : {K : Type 0} → (ℕ → K) → (K → K → Bool) → K → ℕ → Bool
means_kind meaning same k raw = same (meaning raw) k

-- whether it is a node with a raw kind of these
abbrev pub is_node_of : (ℕ → Bool) → Option Term → Bool
is_node_of means (Some (Node n)) = means (node_kind n)
is_node_of means (Some (Token t)) = false
is_node_of means None = false

-- whether a node with such a raw kind, and with this range, stands at a path
abbrev pub is_meant : (ℕ → Bool) → Span → NodeTerm → Path → Bool
is_meant means span root q =
    let r = range (Node root) q in
    nat_eq r.start span.start && nat_eq r.end span.end && is_node_of means (subterm (Node root) q)

-- the paths up to the first of which it is true, that one too
abbrev pub up_to : (Path → Bool) → List Path → List Path
up_to holds [] = []
up_to holds (q ∷ qs) = if holds q then q ∷ [] else q ∷ up_to holds qs

-- the binary digits of the numbers of children below some paths, added up
abbrev pub digits_at : NodeTerm → List Path → ℕ
digits_at root [] = 0
digits_at root (q ∷ qs) = digits (child_count root q) + digits_at root qs

-- of the nodes on the chain from the root on, the first that is meant
pub record IsFirstMeant (means : ℕ → Bool) (span : Span) (root : NodeTerm) (found : Option Cursor)
    : Type 0 where
  pub chain : List Path
  pub is : IsChain root span [] chain
  pub first : found ≡ option_map (cursor_at root) (find (is_meant means span root) ([] ∷ chain))

-- the steps of this search: a visit of each node up to the first that is meant, and comparisons of
-- the children of these nodes by halves, one at least on the way to each node but the root
pub record CountsVisits (means : ℕ → Bool) (span : Span) (root : NodeTerm) (old new : Tally)
    : Type 0 where
  pub chain : List Path
  pub is : IsChain root span [] chain
  pub visits : let visited = nodes_at root (up_to (is_meant means span root) ([] ∷ chain)) in
      new.visits ≡ min (old.visits + length visited) count_limit
  pub most : let visited = nodes_at root (up_to (is_meant means span root) ([] ∷ chain)) in
      new.comparisons ≤ old.comparisons + digits_at root visited
  pub least : let visited = nodes_at root (up_to (is_meant means span root) ([] ∷ chain)) in
      min (old.comparisons + (length visited - 1)) count_limit ≤ new.comparisons

-- what is found from the node at a path, and the steps of the search: where that is no root nothing
-- is, without a step
abbrev pub resolves_from : Path → (ℕ → Bool) → Span → NodeTerm → Option Cursor → Type 0
resolves_from [] means span root found = IsFirstMeant means span root found
resolves_from (i ∷ p) means span root found = found ≡ None

abbrev pub counts_from : Path → (ℕ → Bool) → Span → NodeTerm → Tally → Tally → Type 0
counts_from [] means span root old new = CountsVisits means span root old new
counts_from (i ∷ p) means span root old new = new ≡ old

abbrev pub Resolves : (ℕ → Bool) → Span → Cursor → Option Cursor → Type 0
Resolves means span c found = resolves_from c.path means span c.root found

abbrev pub CountsResolving : (ℕ → Bool) → Span → Cursor → Tally → Tally → Type 0
CountsResolving means span c old new = counts_from c.path means span c.root old new

-- what is found is the node at q, or a node above it, of a raw kind that is meant and of the range
pub record LeadsAbove (means : ℕ → Bool) (span : Span) (root : NodeTerm) (q : Path)
    (found : Option Cursor) : Type 0 where
  pub path : Path
  pub is : found ≡ Some (cursor_at root path)
  pub above : begins path q ≡ true
  pub meant : is_meant means span root path ≡ true

-- ---- edits

-- a range behind the text that was replaced, if its new end is within the limit
abbrev pub range_behind : Span → ℕ → Span → Option Span
range_behind replaced new range =
    let moved = shifted (replaced.end - replaced.start) new range in
    if nat_le moved.end byte_limit then Some moved else None

-- where a range goes once another range was replaced by `new` bytes: nowhere, if the two overlap
abbrev pub range_after : Span → ℕ → Span → Option Span
range_after replaced new range =
    if nat_le range.end replaced.start then Some range
    else if nat_le replaced.end range.start then range_behind replaced new range else None

-- the pointer with the range to which its own goes
abbrev pub carried : {K : Type 0} → Span → ℕ → Pointer K → Option (Pointer K)
carried replaced new p =
    option_map (λ range. record { kind = p.kind; range = range }) (range_after replaced new p.range)

-- the pointer over replacements, as they come in turn to t: each takes the range that what it
-- replaces has by then
abbrev pub carried_in_turn : {K : Type 0} → Term → List Replacement → Pointer K → Option (Pointer K)
carried_in_turn t [] p = Some p
carried_in_turn t (r ∷ rs) p =
    option_and_then (carried_in_turn (put t r.path r.new) rs)
    (carried (range t r.path) (term_len r.new) p)
