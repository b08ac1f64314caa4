use Rattle.std.proofs.Common.{[], sym, ◌∙◌, ap}
use Rattle.rowan_table.specs.Pass.{leaf_list, first_inside}
use Rattle.rowan_table.specs.Table.{root_node, entry_path}
use Rattle.rowan_table.proofs.TokenLemmas.{next_leaf-pass}
use Rattle.rowan_table.proofs.table.Table.next_token.Goals as goal
use Rattle.rowan_table.specs.TableView.{entries_of}

pub returns-in-Some : goal.returns-in-Some
returns-in-Some c =
    let es = entries_of c.args.self.now in
    record {
      path = c.token_from.ensures.found.path ∙ ap (first_inside [])
          (c.in-Some.ensures.next.same leaf_list)
          ∙ next_leaf-pass (root_node es) (entry_path es c.args.number);
      token = c.token_from.ensures.found.token;
    }

pub returns-in-None : goal.returns-in-None
returns-in-None c =
    let es = entries_of c.args.self.now in
    record {
      path = sym c.in-None.ensures.end ∙ next_leaf-pass (root_node es)
          (entry_path es c.args.number);
      token = tt;
    }
