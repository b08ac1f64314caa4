-- Laws of the list of a table's nodes, and of what its entries tell.
use Rattle.std.proofs.Common.{◌≡◌, ℕ, ◌+◌, ◌<◌, ◌≤◌, List, length, take, Some, ◌∙◌, ap, arith}
use Rattle.std.specs.Prelude.{slice_get}
use Rattle.std.proofs.lemmas.List.{take_all, take-take}
use Rattle.std.proofs.lemmas.List.Sums.{sum_by_more, sum_by-take-le}
use Rattle.std.proofs.lemmas.Option.{slice_get_within, get_or_from_slice_get}
use Rattle.rowan_green.specs.Term.{node_children}
use Rattle.rowan_terms.proofs.Lists.{at_map}
use Rattle.rowan_table.specs.declared.table.entry.Entry.{Entry}
use Rattle.rowan_table.specs.Nodes.{Inner}
use Rattle.rowan_table.specs.Table.{AreNodes, facts_of, all_facts, child_counts}

-- ---- what entries tell

pub facts_at : (ns : List Inner) (es : List Entry) (n : ℕ) (e : Entry) → slice_get es n ≡ Some e
    → slice_get (all_facts ns es) n ≡ Some (facts_of ns e)
facts_at ns es n e at = at_map (facts_of ns) es n e at

-- ---- where the children of a node end

pub child_counts-more : (ns : List Inner) (k : ℕ) (x : Inner) → slice_get ns k ≡ Some x
    → child_counts (take (k + 1) ns) ≡ child_counts (take k ns) + length (node_children x.green)
child_counts-more ns k x at =
    sum_by_more (λ (y : Inner). length (node_children y.green)) ns k x (slice_get_within ns k x at)
    ∙ ap (λ (y : Inner). child_counts (take k ns) + length (node_children y.green))
    (get_or_from_slice_get ns k x x at)

pub row_end-next : (ns : List Inner) (es : List Entry) → AreNodes ns es → (k : ℕ) (x y : Inner)
    → slice_get ns k ≡ Some x → slice_get ns (k + 1) ≡ Some y
    → y.first_child ≡ x.first_child + length (node_children x.green)
row_end-next ns es t k x y at next =
    omega (arith, t.firsts k x at, t.firsts (k + 1) y next, child_counts-more ns k x at)

pub row_end-last : (ns : List Inner) (es : List Entry) → AreNodes ns es → (k : ℕ) (x : Inner)
    → slice_get ns k ≡ Some x → length ns ≤ k + 1
    → length es ≡ x.first_child + length (node_children x.green)
row_end-last ns es t k x at last =
    omega (
      arith,
      t.all,
      t.firsts k x at,
      child_counts-more ns k x at,
      ap child_counts (take_all (k + 1) ns last),
    )

-- the children of a node stand before those of the nodes behind, and all of them before the end
pub row_end-before : (ns : List Inner) (k m : ℕ) (x : Inner) → slice_get ns k ≡ Some x → k < m
    → child_counts (take k ns) + length (node_children x.green) ≤ child_counts (take m ns)
row_end-before ns k m x at less =
    omega (
      arith,
      child_counts-more ns k x at,
      sum_by-take-le (λ (y : Inner). length (node_children y.green)) (take m ns) (k + 1),
      ap child_counts (take-take (k + 1) m ns (omega arith)),
    )

pub row_end-within : (ns : List Inner) (k : ℕ) (x : Inner) → slice_get ns k ≡ Some x
    → child_counts (take k ns) + length (node_children x.green) ≤ child_counts ns
row_end-within ns k x at =
    omega (
      arith,
      child_counts-more ns k x at,
      sum_by-take-le (λ (y : Inner). length (node_children y.green)) ns (k + 1),
    )
