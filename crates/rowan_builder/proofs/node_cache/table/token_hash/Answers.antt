use Rattle.std.proofs.Common.{rules}
use Rattle.rowan_builder.specs.Tables.{token_hash}
use Rattle.rowan_builder.proofs.node_cache.table.token_hash.Goals as goal

pub returns : goal.returns
unfolding token_hash
returns c = search rules
