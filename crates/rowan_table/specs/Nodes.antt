-- The nodes of a table, each with the number of its first child.
use Rattle.std.specs.Prelude.{ℕ, List, map, refl}
use Rattle.std.specs.List.{zip}
use Rattle.std.specs.Coded.{Coded, code_by, coded×, coded_ℕ}
use Rattle.rowan_green.specs.Coding.{coded_node}
use Rattle.rowan_green.specs.Term.{NodeTerm}

-- a node, and the number of its first child
pub record Inner : Type 0 where
  pub green : NodeTerm
  pub first_child : ℕ

abbrev pub inner : NodeTerm → ℕ → Inner
inner n first = record { green = n; first_child = first }

-- these nodes, each with the number that stands where it does
abbrev pub inners : List NodeTerm → List ℕ → List Inner
inners ns firsts = map (λ p. inner p.0 p.1) (zip ns firsts)

abbrev pub coded_inner : Coded Inner
coded_inner =
    code_by (NodeTerm × ℕ) (coded× coded_node coded_ℕ) (λ x. (x.green, x.first_child))
    (λ p. inner p.0 p.1) (λ _. refl)
