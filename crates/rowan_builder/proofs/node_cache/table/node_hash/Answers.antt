use Rattle.std.proofs.Common.{fold, ◌∙◌, ap}
use Rattle.std.specs.Hash as fed
use Rattle.std.specs.Hash.FoldHasher.{initial, write, finish}
use Rattle.std.specs.List.{flat_map}
use Rattle.std.proofs.lemmas.List.{take_all}
use Rattle.rowan_builder.specs.Tables.{with_kind, node_hash}
use Rattle.rowan_builder.proofs.node_cache.table.node_hash.Goals as goal

pub returns : goal.returns
unfolding node_hash
returns c =
    let whole = take_all c.loop-number.number-index c.args.numbers.now c.loop-number-test.false in
    c.with_kind.ensures ∙ ap (with_kind c.args.kind.0)
    (c.finish.ensures ∙ ap finish c.loop-number.invariant
    ∙ ap (λ ns. finish (fold write initial (flat_map fed.u32 ns))) whole)
