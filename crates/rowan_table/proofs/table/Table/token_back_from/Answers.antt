use Rattle.std.proofs.Common.{◌≡◌, true, false, length, sym, ◌∙◌, ap, arith}
use Rattle.rowan_table.specs.Moves.{is_node_at}
use Rattle.rowan_table.specs.Pass.{leaf_list, element_list, last_inside}
use Rattle.rowan_table.specs.Table.{root_node, entry_path}
use Rattle.rowan_table.proofs.TokenLemmas.{until-node, until-fewer, token-last, stands_at}
use Rattle.rowan_table.proofs.table.Table.token_back_from.Goals as goal
use Rattle.rowan_table.specs.TableView.{entries_of}

pub loop-number-smaller : goal.loop-number-smaller
loop-number-smaller c =
    let es = entries_of c.args.self.now in
    let here = entry_path es c.loop-number.number in
    let node : is_node_at (root_node es) here ≡ true = sym c.is_node.ensures
    ∙ c.loop-number-test.true in
    omega (
      arith,
      until-fewer (root_node es) here node,
      ap length (c.in-Some.ensures.back.same element_list),
    )

pub loop-number-preserved : goal.loop-number-preserved
loop-number-preserved c =
    let es = entries_of c.args.self.now in
    let here = entry_path es c.loop-number.number in
    let node : is_node_at (root_node es) here ≡ true = sym c.is_node.ensures
    ∙ c.loop-number-test.true in (
      c.in-Some.ensures.found.within,
      c.in-Some.ensures.found.inside,
      ap (last_inside (entry_path es c.args.top))
          (c.in-Some.ensures.back.same leaf_list ∙ sym (until-node (root_node es) here node))
          ∙ c.loop-number.invariant.2,
    )

pub returns-in-None : goal.returns-in-None
returns-in-None c =
    let es = entries_of c.args.self.now in
    let here = entry_path es c.loop-number.number in
    let node : is_node_at (root_node es) here ≡ true = sym c.is_node.ensures
    ∙ c.loop-number-test.true in
    record {
      path = sym c.in-None.ensures.end ∙ ap (last_inside (entry_path es c.args.top))
          (sym (until-node (root_node es) here node)) ∙ c.loop-number.invariant.2;
      token = tt;
    }

pub returns : goal.returns
returns c =
    let es = entries_of c.args.self.now in
    let here = entry_path es c.loop-number.number in
    let there = stands_at es c.args.self.now.complete c.loop-number.number
    c.loop-number.invariant.0 in
    let token : is_node_at (root_node es) here ≡ false = sym c.is_node.ensures
    ∙ c.loop-number-test.false in
    record {
      path = token-last (root_node es) (entry_path es c.args.top) here there.0 there.1 token
          c.loop-number.invariant.1 ∙ c.loop-number.invariant.2;
      token = record {
        within = c.loop-number.invariant.0;
        is = token;
      };
    }
