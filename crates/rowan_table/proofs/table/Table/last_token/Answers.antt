use Rattle.std.proofs.Common.{◌∙◌}
use Rattle.rowan_table.specs.Table.{root_node, entry_path}
use Rattle.rowan_table.proofs.PathLemmas.{begins-self}
use Rattle.rowan_table.proofs.TokenLemmas.{last_leaf-pass}
use Rattle.rowan_table.proofs.table.Table.last_token.Goals as goal
use Rattle.rowan_table.specs.TableView.{entries_of}

pub token_back_from-requires : goal.token_back_from-requires
token_back_from-requires c = record {
  top_within = c.requires;
  within = c.requires;
  inside = begins-self (entry_path (entries_of c.args.self.now) c.args.number);
}

pub returns : goal.returns
returns c =
    let es = entries_of c.args.self.now in
    record {
      path = c.token_back_from.ensures.path ∙ last_leaf-pass (root_node es)
          (entry_path es c.args.number);
      token = c.token_back_from.ensures.token;
    }
