use Rattle.std.proofs.Common.{◌≡◌, ◌+◌, ◌∙◌, ap, subst, arith}
use Rattle.rowan_green.specs.Span.{Span}
use Rattle.rowan_table.specs.Moves.{is_node}
use Rattle.rowan_table.specs.Search.{Covers}
use Rattle.rowan_table.specs.TableView.{root_of, path_at, entries_of}
use Rattle.rowan_table.proofs.CoverLemmas.{byte_at, covers-byte}
use Rattle.rowan_table.proofs.SearchLemmas.{place_limit}
use Rattle.rowan_table.proofs.TokenLemmas.{stands_at}
use Rattle.rowan_table.proofs.table.Table.leaf_over.Goals as goal

pub at-over-requires : goal.at-over-requires
at-over-requires c = omega (arith, place_limit c.requires.place, c.requires.to, c.from.ensures)

pub returns-clause-leaf : goal.returns-clause-leaf
returns-clause-leaf c =
    let s = c.args.self.now in
    let root = root_of s in
    let byte = c.args.byte in
    let p = path_at s c.args.top.now.number in
    let q = path_at s c.covering.result.number in
    let there = stands_at (entries_of s) s.complete c.args.top.now.number c.requires.place.within in
    let one : c.at-over.result ≡ byte_at byte = c.at-over.ensures
    ∙ ap (λ n. record { start = byte; end = byte + n }) c.from.ensures in
    let covers : Covers root (byte_at byte) p q =
    subst (λ (r : Span). Covers root r p q) one c.covering.ensures.covers in
    let lies = c.requires.place.lies in
    covers-byte root byte p q there.0 there.1 (
      omega (arith, c.requires.from, ap (λ (r : Span). r.start) lies),
      omega (arith, c.requires.to, ap (λ (r : Span). r.end) lies),
    ) covers

pub returns-clause-token : goal.returns-clause-token
returns-clause-token c =
    let leaf = returns-clause-leaf c in
    record { within = c.covering.ensures.place.within; is = ap is_node leaf.is }
