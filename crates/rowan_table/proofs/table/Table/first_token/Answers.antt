use Rattle.std.proofs.Common.{◌∙◌}
use Rattle.rowan_table.specs.Table.{root_node, entry_path}
use Rattle.rowan_table.proofs.PathLemmas.{begins-self}
use Rattle.rowan_table.proofs.TokenLemmas.{first_leaf-pass}
use Rattle.rowan_table.proofs.table.Table.first_token.Goals as goal
use Rattle.rowan_table.specs.TableView.{entries_of}

pub token_from-requires : goal.token_from-requires
token_from-requires c = record {
  top_within = c.requires;
  within = c.requires;
  inside = begins-self (entry_path (entries_of c.args.self.now) c.args.number);
}

pub returns : goal.returns
returns c =
    let es = entries_of c.args.self.now in
    record {
      path = c.token_from.ensures.found.path ∙ first_leaf-pass (root_node es)
          (entry_path es c.args.number);
      token = c.token_from.ensures.found.token;
    }
