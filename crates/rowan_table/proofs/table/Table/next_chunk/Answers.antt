use Rattle.std.proofs.Common.{◌≡◌, ◌<◌, ◌+◌, length, sym, ◌∙◌, ap, rules, arith}
use Rattle.rowan_table.specs.SyntaxText.{cut_chunks}
use Rattle.rowan_table.specs.Chunks.{remaining_texts, span_of}
use Rattle.rowan_table.proofs.ChunkLemmas.{remaining_texts-step, walk_step, chunks-skip}
use Rattle.rowan_table.proofs.ChunkLemmas.{chunks-past}
use Rattle.rowan_table.proofs.table.Table.next_chunk.Goals as goal

pub returns-then-end-at-clause-next : goal.returns-then-end-at-clause-next
returns-then-end-at-clause-next c =
    let table = c.args.self.now in
    let walk = c.loop-walk.walk in
    let past : walk.slice.end < walk.at = search rules in
    sym c.loop-walk.invariant.1 ∙ chunks-past (span_of walk.slice) walk.at
    (remaining_texts table walk.slice.node walk.next) past

pub returns-in-Some-part_in-clause-walk : goal.returns-in-Some-part_in-clause-walk
returns-in-Some-part_in-clause-walk c =
    let table = c.args.self.now in
    let walk = c.loop-walk.walk in
    let text = c.text-text.result.now in
    let left = remaining_texts-step table walk.slice.node c.in-Some.next
    c.in-Some-token_from.number walk.next c.next_inside-walk.result c.token.result.now text
    c.in-Some.is c.in-Some-token_from.ensures.left c.next_inside-walk.ensures.left
    c.token.ensures c.text-text.ensures in
    let at : walk.at + c.from-len.result ≡ walk.at + length text =
    omega (arith, c.from-len.ensures, c.of.ensures) in
    walk_step table walk c.next_inside-walk.result (walk.at + c.from-len.result) text
    c.loop-walk.invariant.0 left c.next_inside-walk.ensures.place at

pub loop-walk-preserved : goal.loop-walk-preserved
loop-walk-preserved c =
    let table = c.args.self.now in
    let walk = c.loop-walk.walk in
    let text = c.text-text.result.now in
    let left = remaining_texts-step table walk.slice.node c.in-Some.next
    c.in-Some-token_from.number walk.next c.next_inside-walk.result c.token.result.now text
    c.in-Some.is c.in-Some-token_from.ensures.left c.next_inside-walk.ensures.left
    c.token.ensures c.text-text.ensures in
    let at : walk.at + c.from-len.result ≡ walk.at + length text =
    omega (arith, c.from-len.ensures, c.of.ensures) in
    let later = remaining_texts table walk.slice.node c.next_inside-walk.result in (
      walk_step table walk c.next_inside-walk.result (walk.at + c.from-len.result) text
          c.loop-walk.invariant.0 left c.next_inside-walk.ensures.place at,
      ap (λ a. cut_chunks (span_of walk.slice) a later) at
          ∙ sym (chunks-skip (span_of walk.slice) walk.at text later c.in_default-part_in.ensures)
          ∙ sym (ap (cut_chunks (span_of walk.slice) walk.at) left) ∙ c.loop-walk.invariant.1,
    )

pub returns-then-end-at-clause-left : goal.returns-then-end-at-clause-left
returns-then-end-at-clause-left c =
    let table = c.args.self.now in
    let walk = c.loop-walk.walk in
    let past : walk.slice.end < walk.at = search rules in
    chunks-past (span_of walk.slice) walk.at (remaining_texts table walk.slice.node walk.next) past
