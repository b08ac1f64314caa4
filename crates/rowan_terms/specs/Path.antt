-- Paths: which subterm of a term is meant, and where its text lies.
--     A path is a list of places among children, from the top down. The empty path is the term
--     itself.
--     The leaves of a term are its tokens, each with its path, in the order of the text.
--     The offset of a path is the sum of the lengths of the leaves before it, and its range goes on
--     for the length of its
--     subterm.
--     A replacement puts another subterm at a path. Paths are separate where neither begins the
--     other: what stands at such a
--     path stays, and its range moves with the text before it.
-- Paths are in the order of a dictionary: a path stands before its own extensions.
use Rattle.std.specs.Prelude.{ℕ, ◌+◌, ◌-◌, not, if◌then◌else◌, ◌&&◌, ◌||◌, Bool, true, false, List}
use Rattle.std.specs.Prelude.{[], ◌∷◌, ◌++◌, map, filter, sum_by, Option, Some, None, nat_lt}
use Rattle.std.specs.Prelude.{nat_eq, slice_get}
use Rattle.rowan_green.specs.declared.utility_types.NodeOrToken.TheVariants.{Node, Token}
use Rattle.rowan_green.specs.Edits.{replaced}
use Rattle.rowan_green.specs.Span.{Span}
use Rattle.rowan_green.specs.Term.{TokenTerm, NodeTerm, node, Forest, empty, node_then, token_then}
use Rattle.rowan_green.specs.Term.{Term, node_of, node_kind, node_children, token_len, term_len}
use Rattle.rowan_green.specs.Term.{term_text}

abbrev pub Path : Type 0
Path = List ℕ

abbrev pub term_children : Term → List Term
term_children (Node n) = node_children n
term_children (Token t) = []

-- going down from a term, if there is one: from each place to the next
abbrev pub subterm_of : Option Term → Path → Option Term
subterm_of None p = None
subterm_of (Some t) [] = Some t
subterm_of (Some t) (i ∷ p) = subterm_of (slice_get (term_children t) i) p

-- the subterm at a path, if there is one
abbrev pub subterm : Term → Path → Option Term
subterm t p = subterm_of (Some t) p

-- a leaf of a term: its path and its token
abbrev pub LeafAt : Type 0
LeafAt = Path × TokenTerm

-- a leaf of the child at place i, as a leaf of the node
abbrev pub below_place : ℕ → LeafAt → LeafAt
below_place i l = (i ∷ l.0, l.1)

abbrev mutual
  pub node_leaves : NodeTerm → List LeafAt
  node_leaves (node k f) = leaves_from 0 f

  -- the leaves of the children from place i on
  pub leaves_from : ℕ → Forest → List LeafAt
  leaves_from i empty = []
  leaves_from i (node_then n f) = map (below_place i) (node_leaves n) ++ leaves_from (i + 1) f
  leaves_from i (token_then t f) = (i ∷ [], t) ∷ leaves_from (i + 1) f

abbrev pub leaves : Term → List LeafAt
leaves (Node n) = node_leaves n
leaves (Token t) = ([], t) ∷ []

-- the tokens of a term, in the order of the text
abbrev pub tokens : Term → List TokenTerm
tokens t = map (λ l. l.1) (leaves t)

-- whether q stands before p
abbrev pub stands_before : Path → Path → Bool
stands_before q [] = false
stands_before [] (i ∷ p) = true
stands_before (j ∷ q) (i ∷ p) = nat_lt j i || (nat_eq j i && stands_before q p)

-- whether p is a beginning of q, as each path is of itself
abbrev pub begins : Path → Path → Bool
begins [] q = true
begins (i ∷ p) [] = false
begins (i ∷ p) (j ∷ q) = nat_eq i j && begins p q

-- the number of bytes before the subterm at a path
abbrev pub offset : Term → Path → ℕ
offset t p = sum_by (λ l. token_len l.1) (filter (λ l. stands_before l.0 p) (leaves t))

abbrev pub len_of : Option Term → ℕ
len_of None = 0
len_of (Some t) = term_len t

abbrev pub text_of : Option Term → List ℕ
text_of None = []
text_of (Some t) = term_text t

-- where the text of the subterm at a path lies
abbrev pub range : Term → Path → Span
range t p = record { start = offset t p; end = offset t p + len_of (subterm t p) }

-- ---- replacements

-- the term with another child at a place; where there is none, the term as it is
abbrev pub with_child : Term → ℕ → Term → Term
with_child (Node n) i u = Node (node_of (node_kind n) (replaced (node_children n) i u))
with_child (Token t) i u = Token t

-- going down, as `subterm_of` does
abbrev pub put_of : Option Term → Path → Term → Term
put_of None p u = u
put_of (Some t) [] u = u
put_of (Some t) (i ∷ p) u = with_child t i (put_of (slice_get (term_children t) i) p u)

-- the term with u in place of the subterm at a path
abbrev pub put : Term → Path → Term → Term
put t p u = put_of (Some t) p u

-- neither path begins the other
abbrev pub separate : Path → Path → Bool
separate p q = not (begins p q) && not (begins q p)

-- a range behind a text of `old` bytes, once `new` bytes stand there instead
abbrev pub shifted : ℕ → ℕ → Span → Span
shifted old new r = record { start = r.start + new - old; end = r.end + new - old }

-- where the range r of a path q goes, when at a separate path p a text of `new` bytes comes in
-- place of one of `old` bytes
abbrev pub moved : Path → ℕ → ℕ → Path → Span → Span
moved p old new q r = if stands_before q p then r else shifted old new r

-- where the range of the subterm at q goes, when u is put at the separate path p
abbrev pub moved_range : Term → Path → Term → Path → Span
moved_range t p u q = moved p (len_of (subterm t p)) (term_len u) q (range t q)
