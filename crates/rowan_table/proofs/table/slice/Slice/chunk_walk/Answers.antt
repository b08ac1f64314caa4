use Rattle.std.proofs.Common.{sym, ◌∙◌, ap, subst}
use Rattle.rowan_table.specs.Chunks.{SkipsTo, IsWalk, remaining_chunks}
use Rattle.rowan_table.proofs.SkipLemmas.{walk_from, chunks_from}
use Rattle.rowan_table.proofs.table.slice.Slice.chunk_walk.Goals as goal

pub returns-clause-walk : goal.returns-clause-walk
returns-clause-walk c =
    let table = c.args.table.now in
    let slice = c.args.self.now in
    let first = c.skip_to-first.result in
    subst (IsWalk table) (sym c.walk_at.ensures)
    (walk_from table slice first c.from.result c.skip_to-first.ensures c.requires.slice)

pub returns-clause-chunks : goal.returns-clause-chunks
returns-clause-chunks c =
    let table = c.args.table.now in
    let slice = c.args.self.now in
    let first = c.skip_to-first.result in
    let skips =
    subst (λ x. SkipsTo table x slice.node first) c.from.ensures c.skip_to-first.ensures in
    ap (remaining_chunks table) c.walk_at.ensures ∙ chunks_from table slice first skips
