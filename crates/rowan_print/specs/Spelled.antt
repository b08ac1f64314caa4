-- JSON as it is written: the tokens of values, and what is still to be written of nodes that are
-- open.
use Rattle.std.specs.Prelude.{◌≡◌, ℕ, ◌+◌, List, [], ◌∷◌, ◌++◌, codes, decimal}
use Rattle.json.specs.Token as json
use Rattle.json.specs.Tree.{json_tokens}
use Rattle.json.specs.Written.{Written}
use Rattle.serde_json.specs.Data.{Data}
use Rattle.serde_json.specs.Written.{outline}
use Rattle.rowan_green.specs.Span.{Span}
use Rattle.rowan_green.specs.Term.{Term, node_kind, node_len, term_len}
use Rattle.rowan_print.specs.Opened.{children_left, next_start}
use Rattle.rowan_print.specs.Printed.{extent, term_json}
use Rattle.rowan_print.specs.declared.open_node.OpenNode.{OpenNode}

-- these tokens were written behind the others
abbrev pub Spells : Written → Written → List json.Token → Type 0
Spells old new ts = (new.before ≡ old.before) × (new.tokens ≡ old.tokens ++ ts)

-- the member `kind`
abbrev pub kind_tokens : List ℕ → List json.Token
kind_tokens kind = json.key (codes "kind") ∷ json.string kind ∷ []

-- the member `text_range`, and the end of its object
abbrev pub range_tokens : Span → List json.Token
range_tokens range =
    json.key (codes "text_range") ∷ json.begin_array ∷ json.number (decimal range.start)
    ∷ json.number (decimal range.end) ∷ json.end_array ∷ json.end_object ∷ []

-- a value, and values one after the other
abbrev pub value_tokens : Data → List json.Token
value_tokens d = json_tokens (outline d)

abbrev pub values_tokens : List Data → List json.Token
values_tokens [] = []
values_tokens (d ∷ ds) = value_tokens d ++ values_tokens ds

-- where the value of a node begins, up to those of its children
abbrev pub begin_tokens : List json.Token
begin_tokens = json.begin_object ∷ json.key (codes "children") ∷ json.begin_array ∷ []

-- where the value of a node of a kind and a range ends, behind those of its children
abbrev pub end_tokens : List ℕ → Span → List json.Token
end_tokens kind range = json.end_array ∷ kind_tokens kind ++ range_tokens range

-- the values of terms side by side, the first of which starts at the offset
abbrev pub values_from : (ℕ → List ℕ) → ℕ → List Term → List Data
values_from name start [] = []
values_from name start (t ∷ ts) =
    term_json name start t ∷ values_from name (start + term_len t) ts

-- what is still to be written of a node that is open: the values of the children that are left, and
-- its end
abbrev pub left_tokens : (ℕ → List ℕ) → OpenNode → List json.Token
left_tokens name n =
    values_tokens (values_from name (next_start n) (children_left n))
    ++ end_tokens (name (node_kind n.green.now)) (extent n.start (node_len n.green.now))

-- of all of them, the innermost first
abbrev pub open_tokens : (ℕ → List ℕ) → List OpenNode → List json.Token
open_tokens name [] = []
open_tokens name (n ∷ ns) = open_tokens name ns ++ left_tokens name n

-- what was to be written before has been written, but for what is still to be written now
abbrev pub SpellsUpTo : Written → Written → List json.Token → List json.Token → Type 0
SpellsUpTo old new before now =
    (new.before ≡ old.before) × (new.tokens ++ now ≡ old.tokens ++ before)
