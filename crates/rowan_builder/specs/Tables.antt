-- The table of the values that a cache keeps, by which it finds the number of a term: for a token
-- from its kind and text, and for a node from its kind and the numbers of its children.
use Rattle.std.specs.Prelude.{◌≡◌, ℕ, ◌+◌, ◌≤◌, Bool, false, bit_and, bit_xor, nat_eq, ◌==◌, ◌&&◌}
use Rattle.std.specs.Prelude.{List, [], ◌∷◌, length, map, take, drop, fold, Option, None, Some}
use Rattle.std.specs.Cmp.Lexicographic.{pointwise}
use Rattle.std.specs.Hash as fed
use Rattle.std.specs.Hash.FoldHasher.{initial, write, finish}
use Rattle.std.specs.List.{slice_get, flat_map}
use Rattle.rowan_builder.specs.declared.node_cache.table.Kept.{Kept}
use Rattle.rowan_builder.specs.declared.node_cache.table.Kept.TheVariants as kept
use Rattle.rowan_green.specs.declared.utility_types.NodeOrToken.TheVariants.{Node, Token}
use Rattle.rowan_green.specs.Term.{Term, node_kind, node_children}
use Rattle.rowan_terms.specs.Path.{term_children}
use Rattle.rowan_green.specs.Fits.{FitsToken, AreWithin}
use Rattle.rowan_builder.specs.Chains.{ChainsValue}
use Rattle.rowan_builder.specs.Cache.{first_seen, count_tokens}

-- ---- what a term is found by

-- a number of 32 bits that are all set
abbrev low_bits : ℕ
low_bits = 4294967295

-- the last 32 bits of a hash, with a kind in them
abbrev pub with_kind : ℕ → ℕ → ℕ
with_kind kind hash = bit_xor (bit_and hash low_bits) kind

-- the hash of a token's kind and text
unfoldable pub token_hash : ℕ → List ℕ → ℕ
token_hash kind text = with_kind kind (finish (write initial text))

-- the hash of a node's kind and of the numbers of its children
unfoldable pub node_hash : ℕ → List ℕ → ℕ
node_hash kind numbers = with_kind kind (finish (fold write initial (flat_map fed.u32 numbers)))

-- the hash by which a term is found, whose children have these numbers
abbrev pub key_hash : Term → List ℕ → ℕ
key_hash (Node n) numbers = node_hash (node_kind n) numbers
key_hash (Token t) numbers = token_hash t.kind t.text

-- the terms at these places of a list
abbrev pub StandAt : List Term → List ℕ → List Term → Type 0
StandAt seen [] [] = Unit {0}
StandAt seen (n ∷ ns) (t ∷ ts) = (slice_get seen n ≡ Some t) × StandAt seen ns ts
StandAt seen _ _ = ⊥

-- a token's text, or a node's children, are within the limits of 32 bits
abbrev pub KeepsLimits : Term → Type 0
KeepsLimits (Node n) = AreWithin (node_children n)
KeepsLimits (Token t) = FitsToken t

-- ---- what is kept

abbrev pub kept_term : Kept → Term
kept_term (kept.Token parent t) = Token t
kept_term (kept.Node first n) = Node n

-- where the numbers of its children begin; a token has none
abbrev pub first_number : Kept → ℕ
first_number (kept.Token parent t) = 0
first_number (kept.Node first n) = first

-- the number of the newest node over a token alone; a node has none
abbrev pub kept_parent : Kept → Option ℕ
kept_parent (kept.Token parent t) = parent
kept_parent (kept.Node first n) = None

-- the same value, where a token has the node with this number as its newest parent
abbrev pub with_parent : ℕ → Kept → Kept
with_parent number (kept.Token parent t) = kept.Token (Some number) t
with_parent number (kept.Node first n) = kept.Node first n

-- a term as it is kept at first
abbrev pub kept_of : ℕ → Term → Kept
kept_of first (Node n) = kept.Node first n
kept_of first (Token t) = kept.Token None t

abbrev pub kept_terms : List Kept → List Term
kept_terms ks = map kept_term ks

-- the numbers of the children of a value, out of those of all
abbrev pub child_numbers : List ℕ → Kept → List ℕ
child_numbers all k = take (length (term_children (kept_term k))) (drop (first_number k) all)

-- whether a value is a node of this kind whose children have these numbers
abbrev pub is_node_by : List ℕ → ℕ → List ℕ → Kept → Term → Bool
is_node_by all kind numbers k (Node n) =
    (node_kind n == kind) && pointwise nat_eq (child_numbers all k) numbers
is_node_by all kind numbers k (Token t) = false

abbrev pub hash_of : List ℕ → Kept → ℕ
hash_of all k = key_hash (kept_term k) (child_numbers all k)

abbrev pub hashes : List ℕ → List Kept → List ℕ
hashes all ks = map (hash_of all) ks

-- a value is within the limits, and the numbers of its children are those at which they stand
pub record IsKept (seen : List Term) (all : List ℕ) (k : Kept) : Type 0 where
  pub fits : KeepsLimits (kept_term k)
  pub room : first_number k + length (term_children (kept_term k)) ≤ length all
  pub children : StandAt seen (child_numbers all k) (term_children (kept_term k))

-- where a value has a parent, that is kept over it alone
pub record AreParents (ks : List Kept) (all : List ℕ) : Type 0 where
  pub over : (child parent : ℕ) → slice_get (map kept_parent ks) child ≡ Some (Some parent)
      → slice_get (map (child_numbers all) ks) parent ≡ Some (child ∷ [])

-- what the fields of a table keep: no term stands twice, the chains have the hash of each value,
-- and parents are found by their child
pub record IsIndexed (ks : List Kept) (all : List ℕ) (chains : ChainsValue) : Type 0 where
  pub once : (i j : ℕ) (t : Term)
      → slice_get (kept_terms ks) i ≡ Some t → slice_get (kept_terms ks) j ≡ Some t → i ≡ j
  pub kept : (place : ℕ) (k : Kept) → slice_get ks place ≡ Some k → IsKept (kept_terms ks) all k
  pub hashed : chains.hashes ≡ hashes all ks
  pub parents : AreParents ks all

-- what the fields of a cache keep: the terms are those first seen, and the tokens among them are
-- counted
pub record IsCounted (limit : ℕ) (seen : List Term) (token_count : ℕ) : Type 0 where
  pub first : first_seen limit seen ≡ seen
  pub counted : token_count ≡ count_tokens seen
