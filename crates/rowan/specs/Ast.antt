-- Wrappers of nodes: which nodes cast to a wrapper, and how those among the children come one after
-- the other. And children that are tokens of a kind.
use Rattle.std.specs.Prelude.{◌≡◌, ℕ, ◌<◌, if◌then◌else◌, Bool, false, List, [], ◌∷◌, length}
use Rattle.std.specs.Prelude.{filter, Option, Some, None, Result, Ok, Err}
use Rattle.std.specs.List.{list_any}
use Rattle.std.specs.Option.{option_map, option_map_or}
use Rattle.rowan_green.specs.declared.fault.Fault.{Fault}
use Rattle.rowan_green.specs.declared.fault.Fault.TheVariants.{Memory}
use Rattle.rowan_green.specs.declared.utility_types.NodeOrToken.TheVariants.{Node, Token}
use Rattle.rowan_table.specs.Cursor.{Cursor, kind}
use Rattle.rowan_table.specs.Moves.{Element}
use Rattle.rowan_table.specs.Yields.{Rest}
use Rattle.rowan_api.specs.Refs.{rest_of_nodes}
use Rattle.rowan.specs.declared.ast.children_ref.AstChildrenRef.{AstChildrenRef}
use Rattle.rowan.specs.declared.ast.nodes_ref.AstNodesRef.{AstNodesRef}

-- whether the node has a kind that casts, by what raw kinds mean
abbrev pub casts_at : {K : Type 0} → (ℕ → K) → (K → Bool) → Cursor → Bool
casts_at meaning casts c = option_map_or casts (option_map meaning (kind c)) false

-- whether a kind is the one that a raw kind means, by what raw kinds mean and when kinds are equal
abbrev pub is_meaning : {K : Type 0} → (ℕ → K) → (K → K → Bool) → ℕ → K → Bool
is_meaning meaning same raw k = same k (meaning raw)

-- the node, if it casts
abbrev pub if_casts : (Cursor → Bool) → Cursor → Option Cursor
if_casts casts c = if casts c then Some c else None

-- Of the nodes that are left, those that cast come next, the first of them first, each in its
-- wrapper.
-- In place of one `Memory` may come while nodes are left, and then nothing is left.
-- Where a refusal is left, it comes next and alone. Where no node is left that casts, nothing
-- comes.
abbrev pub YieldsWrappers : {N : Type 0} → (Cursor → Bool) → (N → Cursor) → Rest Cursor
    → Option (Result N Fault) → Rest Cursor → Type 0
YieldsWrappers casts node_of (Ok cs) None after = (filter casts cs ≡ []) × (after ≡ Ok [])
YieldsWrappers casts node_of (Ok cs) (Some (Ok x)) after =
    (ds : List Cursor) × (filter casts cs ≡ node_of x ∷ filter casts ds) × (length ds < length cs)
    × (after ≡ Ok ds)
YieldsWrappers casts node_of (Ok cs) (Some (Err e)) after =
    (e ≡ Memory) × (0 < length cs) × (after ≡ Ok [])
YieldsWrappers casts node_of (Err f) (Some (Err e)) after = (e ≡ f) × (after ≡ Ok [])
YieldsWrappers casts node_of (Err f) _ after = ⊥

-- Of the nodes that are left, the first that casts comes next, in its wrapper; those behind it are
-- left. In its place one `Memory` may come, and then nothing is left. Where no node is left that
-- casts, nothing comes.
abbrev pub WrapsNext : {N : Type 0} → (Cursor → Bool) → (N → Cursor) → List Cursor
    → Option (Result N Fault) → List Cursor → Type 0
WrapsNext casts node_of cs None ds = (filter casts cs ≡ []) × (ds ≡ [])
WrapsNext casts node_of cs (Some (Ok x)) ds =
    (filter casts cs ≡ node_of x ∷ filter casts ds) × (length ds < length cs)
WrapsNext casts node_of cs (Some (Err e)) ds =
    (e ≡ Memory) × (0 < length (filter casts cs)) × (ds ≡ [])

-- the children that are still to come of a borrowed list of wrappers, those too that do not cast
abbrev pub rest_of_children : {N L : Type 0} → AstChildrenRef N L → List Cursor
rest_of_children list = if list.was_refused then [] else rest_of_nodes list.nodes

-- whether it is a token with a raw kind of these
abbrev pub is_token_of : (ℕ → Bool) → Element → Bool
is_token_of means (Token c) = option_map_or means (kind c) false
is_token_of means (Node c) = false

-- the children that are still to come of a list of borrowed wrappers
abbrev pub rest_that_casts : {N L : Type 0} → (Cursor → Bool) → AstNodesRef N L → List Cursor
rest_that_casts casts list = filter casts (rest_of_nodes list.nodes)

-- whether raw kind number n means one of these kinds, by what raw kinds mean and when kinds are
-- equal
abbrev pub means_one_of : {K : Type 0} → (ℕ → K) → (K → K → Bool) → List K → ℕ → Bool
means_one_of meaning same kinds raw = list_any (λ k. same k (meaning raw)) kinds

-- whether it has one of these kinds
abbrev pub has_one_of : {K : Type 0} → (ℕ → K) → (K → K → Bool) → List K → Cursor → Bool
has_one_of meaning same kinds c =
    option_map_or (means_one_of meaning same kinds) (kind c) false
