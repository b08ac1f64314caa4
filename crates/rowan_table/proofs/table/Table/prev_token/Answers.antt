use Rattle.std.proofs.Common.{[], sym, ◌∙◌, ap}
use Rattle.rowan_table.specs.Pass.{leaf_list, last_inside}
use Rattle.rowan_table.specs.Table.{root_node, entry_path}
use Rattle.rowan_table.proofs.TokenLemmas.{prev_leaf-pass, stands_at}
use Rattle.rowan_table.proofs.table.Table.prev_token.Goals as goal
use Rattle.rowan_table.specs.TableView.{entries_of}

pub returns-in-Some : goal.returns-in-Some
returns-in-Some c =
    let es = entries_of c.args.self.now in
    let there = stands_at es c.args.self.now.complete c.args.number c.requires in
    record {
      path = c.token_back_from.ensures.path ∙ ap (last_inside [])
          (c.in-Some.ensures.back.same leaf_list)
          ∙ prev_leaf-pass (root_node es) (entry_path es c.args.number) there.0 there.1;
      token = c.token_back_from.ensures.token;
    }

pub returns-in-None : goal.returns-in-None
returns-in-None c =
    let es = entries_of c.args.self.now in
    let there = stands_at es c.args.self.now.complete c.args.number c.requires in
    record {
      path = sym c.in-None.ensures.end ∙ prev_leaf-pass (root_node es) (entry_path es c.args.number)
          there.0 there.1;
      token = tt;
    }
