use Rattle.std.proofs.Common.{◌≡◌, ◌+◌, sym, ◌∙◌, ap, subst}
use Rattle.rowan_table.specs.Chunks.{SkipsTo, IsWalk, WalksOver}
use Rattle.rowan_table.proofs.SkipLemmas.{walk_from, walks_over}
use Rattle.rowan_table.proofs.table.slice.Slice.walk_over.Goals as goal

pub returns-clause-walk : goal.returns-clause-walk
returns-clause-walk c =
    let table = c.args.table.now in
    let slice = c.args.self.now in
    let first = c.skip_to-first.result in
    subst (IsWalk table) (sym c.walk_at.ensures)
    (walk_from table slice first _ c.skip_to-first.ensures c.requires.slice.slice)

pub returns-clause-over : goal.returns-clause-over
returns-clause-over c =
    let table = c.args.table.now in
    let slice = c.args.self.now in
    let first = c.skip_to-first.result in
    let behind : c.from-2.result ≡ slice.start + c.args.offset + 1 =
    c.from-2.ensures ∙ ap (λ o. slice.start + o + 1) c.from.ensures in
    let skips = subst (λ x. SkipsTo table x slice.node first) behind c.skip_to-first.ensures in
    subst (WalksOver table slice c.args.offset) (sym c.walk_at.ensures)
    (walks_over table slice first c.args.offset skips c.requires.slice.slice c.requires.within)
