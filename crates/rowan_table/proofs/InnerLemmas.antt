-- Laws of a table's entries and of the nodes that they name.
use Rattle.std.proofs.Common.{◌≡◌, true, false, ℕ, ◌+◌, ◌<◌, length, Option, Some, None, refl, sym}
use Rattle.std.proofs.Common.{◌∙◌, ap, subst, arith}
use Rattle.std.specs.Prelude.{IfSome, IsNone, slice_get}
use Rattle.std.specs.Option.{is_some, option_map}
use Rattle.std.proofs.lemmas.List.{length-map}
use Rattle.std.proofs.lemmas.Option.{slice_get_within, same_Some}
use Rattle.rowan_green.specs.declared.utility_types.NodeOrToken.TheVariants.{Node, Token}
use Rattle.rowan_green.specs.Lent.{into_node}
use Rattle.rowan_green.specs.Term.{NodeTerm, Term}
use Rattle.rowan_table.specs.declared.table.entry.Entry.{Entry}
use Rattle.rowan_table.specs.declared.table.Table.{Table}
use Rattle.rowan_table.specs.Moves.{is_node, child_paths}
use Rattle.rowan_table.specs.Table.{Facts, Describes, IsRow, inner_at, entry_facts, facts_of}
use Rattle.rowan_table.specs.Table.{children_in}
use Rattle.rowan_table.specs.Table.{green_of, entry_path, root_node}
use Rattle.rowan_table.specs.TableView.{entries_of, stands_for_node, IsWithin, IsTokenIn}
use Rattle.rowan_table.specs.TableView.{IsNodeNumber, AreChildNumbers}
use Rattle.rowan_table.proofs.NodeLemmas.{facts_at}
use Rattle.rowan_table.proofs.TableLemmas.{is_entry, content-none, slice_get-some}

-- the table has an entry with a number where it has one in its list
pub within_list : (t : Table) (n : ℕ) → IsWithin t n → n < length t.entries.items
within_list t n h = omega (arith, h, length-map t.entries.items (facts_of t.nodes))

pub entry_there : (t : Table) (n : ℕ) (e : Entry) → slice_get t.entries.items n ≡ Some e
    → Describes (entries_of t) n (facts_of t.nodes e)
entry_there t n e at =
    is_entry (entries_of t) t.complete n (facts_of t.nodes e)
    (facts_at t.nodes t.entries.items n e at)

-- the node with this number among the nodes, which an entry names
pub inner_there : (t : Table) (n : ℕ) (e : Entry) (k : ℕ) → slice_get t.entries.items n ≡ Some e
    → e.node ≡ Some k → IsNodeNumber t n k
inner_there t n e k at named =
    let x = slice_get-some t.nodes k (t.numbered.there n e k at named) in
    record {
      inner = x.0;
      node = x.1;
      entry = e;
      is = subst (λ o. Describes (entries_of t) n (entry_facts e o))
          (ap (inner_at t.nodes) named ∙ x.1)
          (entry_there t n e at);
    }

pub bare_there : (t : Table) (n : ℕ) (e : Entry) → slice_get t.entries.items n ≡ Some e
    → e.node ≡ None → slice_get (entries_of t) n ≡ Some (entry_facts e None)
bare_there t n e at bare =
    facts_at t.nodes t.entries.items n e at ∙ ap (λ o. Some (entry_facts e (inner_at t.nodes o)))
    bare

pub token_there : (t : Table) (n : ℕ) (e : Entry) → slice_get t.entries.items n ≡ Some e
    → e.node ≡ None → IsTokenIn t n
token_there t n e at bare =
    let d = entry_there t n e at in
    record {
      within = slice_get_within (entries_of t) n (facts_of t.nodes e) d.at;
      is = content-none _ (d.green ∙ ap (λ o. Some (green_of (entry_facts e (inner_at t.nodes o))))
          bare);
    }

content-node : (o : Option Term) (n : NodeTerm) → option_map into_node o ≡ Some (Some n)
    → is_node o ≡ true
content-node None n e = absurd cc
content-node (Some (Node m)) n e = refl
content-node (Some (Token u)) n e = absurd cc

pub inner_stands : (t : Table) (n k : ℕ) → IsNodeNumber t n k → stands_for_node t n ≡ true
inner_stands t n k i = content-node _ i.inner.green i.is.green

content-bare : (o : Option Term) (g : Option NodeTerm) → option_map into_node o ≡ Some g
    → is_node o ≡ false → g ≡ None
content-bare None g e f = absurd cc
content-bare (Some (Node n)) g e f = absurd cc
content-bare (Some (Token u)) g e f = sym (same_Some None g e)

pub token_bare : (t : Table) (n : ℕ) (e : Facts) → IsTokenIn t n
    → slice_get (entries_of t) n ≡ Some e → green_of e ≡ None
token_bare t n e i at = content-bare _ (green_of e)
    (is_entry (entries_of t) t.complete n e at).green i.is

pub is_some-stands : (t : Table) (n : ℕ) (o : Option ℕ) → IfSome o (IsNodeNumber t n)
    → (IsNone o → IsTokenIn t n) → is_some o ≡ stands_for_node t n
is_some-stands t n None some none = sym (none refl).is
is_some-stands t n (Some k) some none = sym (inner_stands t n k some)

-- ---- the numbers of children

module _ (t : Table) (n start end : ℕ) (f : Facts) (at : slice_get (entries_of t) n ≡ Some f)
    (from : start ≡ f.first_child) (to : end ≡ f.first_child + length (children_in (green_of f)))
  where
    pub numbers_row : IsRow (entries_of t) start end
        (child_paths (root_node (entries_of t)) (entry_path (entries_of t) n))
    numbers_row =
        subst (λ k. IsRow (entries_of t) k end (child_paths (root_node (entries_of t))
        (entry_path (entries_of t) n))) (sym from)
        (subst (λ k. IsRow (entries_of t) f.first_child k
        (child_paths (root_node (entries_of t)) (entry_path (entries_of t) n))) (sym to)
        (is_entry (entries_of t) t.complete n f at).children)

    pub numbers_are : AreChildNumbers t n start end
    numbers_are e found =
        let same : f ≡ e = same_Some f e (sym at ∙ found) in (
          from ∙ ap (λ (x : Facts). x.first_child) same,
          to
              ∙ ap (λ (x : Facts). x.first_child + length (children_in (green_of x))) same,
        )
