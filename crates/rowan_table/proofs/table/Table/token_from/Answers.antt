use Rattle.std.proofs.Common.{◌≡◌, true, false, length, filter, sym, ◌∙◌, ap, arith}
use Rattle.std.specs.Prelude.{Some}
use Rattle.rowan_green.specs.declared.utility_types.NodeOrToken.TheVariants.{Node}
use Rattle.rowan_terms.specs.Path.{begins}
use Rattle.rowan_table.specs.Moves.{is_node_at}
use Rattle.rowan_table.specs.Pass.{leaf_list, element_list, first_inside, since_child}
use Rattle.rowan_table.specs.Table.{root_node, entry_path}
use Rattle.rowan_table.proofs.ChunkLemmas.{nothing_inside}
use Rattle.rowan_table.proofs.TokenLemmas.{since-node, since-fewer, token-first, stands_at}
use Rattle.rowan_table.proofs.table.Table.token_from.Goals as goal
use Rattle.rowan_table.specs.TableView.{entries_of}

pub loop-number-smaller : goal.loop-number-smaller
loop-number-smaller c =
    let es = entries_of c.args.self.now in
    let here = entry_path es c.loop-number.number in
    let node : is_node_at (root_node es) here ≡ true = sym c.is_node.ensures
    ∙ c.loop-number-test.true in
    omega (
      arith,
      since-fewer (root_node es) here node,
      ap length (c.in-Some.ensures.next.same element_list),
    )

pub loop-number-preserved : goal.loop-number-preserved
loop-number-preserved c =
    let es = entries_of c.args.self.now in
    let here = entry_path es c.loop-number.number in
    let node : is_node_at (root_node es) here ≡ true = sym c.is_node.ensures
    ∙ c.loop-number-test.true in (
      c.in-Some.ensures.found.within,
      c.in-Some.ensures.found.inside,
      ap (first_inside (entry_path es c.args.top))
          (c.in-Some.ensures.next.same leaf_list ∙ sym (since-node (root_node es) here node))
          ∙ c.loop-number.invariant.2,
      ap (filter (begins (entry_path es c.args.top)))
          (c.in-Some.ensures.next.same leaf_list ∙ sym (since-node (root_node es) here node))
          ∙ c.loop-number.invariant.3,
    )

pub returns-in-None-clause-found : goal.returns-in-None-clause-found
returns-in-None-clause-found c =
    let es = entries_of c.args.self.now in
    let here = entry_path es c.loop-number.number in
    let node : is_node_at (root_node es) here ≡ true = sym c.is_node.ensures
    ∙ c.loop-number-test.true in
    record {
      path = sym c.in-None.ensures.end ∙ ap (first_inside (entry_path es c.args.top))
          (sym (since-node (root_node es) here node)) ∙ c.loop-number.invariant.2;
      token = tt;
    }

pub returns-in-None-clause-left : goal.returns-in-None-clause-left
returns-in-None-clause-left c =
    let es = entries_of c.args.self.now in
    let here = entry_path es c.loop-number.number in
    let node : is_node_at (root_node es) here ≡ true = sym c.is_node.ensures
    ∙ c.loop-number-test.true in
    let top = entry_path es c.args.top in
    sym (nothing_inside top (since_child leaf_list (Some (Node (root_node es))) here 0)
    c.in-None.ensures.end) ∙ ap (filter (begins top)) (sym (since-node (root_node es) here node))
    ∙ c.loop-number.invariant.3

pub returns-clause-found : goal.returns-clause-found
returns-clause-found c =
    let es = entries_of c.args.self.now in
    let here = entry_path es c.loop-number.number in
    let there = stands_at es c.args.self.now.complete c.loop-number.number
    c.loop-number.invariant.0 in
    let token : is_node_at (root_node es) here ≡ false = sym c.is_node.ensures
    ∙ c.loop-number-test.false in
    record {
      path = token-first (root_node es) (entry_path es c.args.top) here there.0 there.1 token
          c.loop-number.invariant.1 ∙ c.loop-number.invariant.2;
      token = record {
        within = c.loop-number.invariant.0;
        is = token;
      };
    }

pub returns-clause-inside : goal.returns-clause-inside
returns-clause-inside c =
    record {
      place = record {
        top_within = c.requires.top_within;
        within = c.loop-number.invariant.0;
        inside = c.loop-number.invariant.1;
      };
      token = sym c.is_node.ensures ∙ c.loop-number-test.false;
    }

pub returns-clause-left : goal.returns-clause-left
returns-clause-left c = c.loop-number.invariant.3
