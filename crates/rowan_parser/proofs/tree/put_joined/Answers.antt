use Rattle.std.proofs.Common.{◌∙◌, ap, length, take, arith}
use Rattle.std.proofs.lemmas.Result.{err_from_is_err_and}
use Rattle.rowan_parser.specs.Events.{up_to}
use Rattle.rowan_parser.proofs.Joining.{joined_within, joined_taken, joined_puts, part_le-text}
use Rattle.rowan_parser.proofs.Refusals.{part_not_put}
use Rattle.rowan_parser.proofs.Steps.{IsBuilding-joined}
use Rattle.rowan_parser.proofs.tree.put_joined.Goals as goal

pub split_at-requires-2 : goal.split_at-requires-2
split_at-requires-2 c =
    omega (
      arith,
      c.joined_len.ensures,
      joined_within c.args.source.now.trivia c.args.count
          c.split_at.result.1.now,
    )

pub returns-clause-ok : goal.returns-clause-ok
returns-clause-ok c =
    let left = c.split_at.ensures.back in
    let us = c.split_at-2.result.0.now in
    let taken = c.split_at-2.ensures.front ∙ ap (take c.joined_len.result) left in
    let is = c.joined_len.ensures ∙ ap (λ ts. length (up_to c.args.source.now.trivia c.args.count
    ts)) left in
    IsBuilding-joined c.args.source.now _ _ c.args.progress c.args.kind.0 us _ _ c.requires
    c.in_ok-put_leaf.ensures.ok
    (omega (
      arith,
      c.requires.within,
      c.split_at-2.ensures.front_len,
      c.split_at-2.ensures.back_len,
      c.split_at.ensures.back_len,
    ))
    (joined_taken c.args.source.now.trivia c.args.count c.args.source.now.tokens.now us
    c.args.progress.put c.joined_len.result c.requires.within is taken)
    c.next_seen.ensures

pub returns-clause-puts : goal.returns-clause-puts
returns-clause-puts c =
    let left = c.split_at.ensures.back in
    let us = c.split_at-2.result.0.now in
    let taken = c.split_at-2.ensures.front ∙ ap (take c.joined_len.result) left in
    let is = c.joined_len.ensures ∙ ap (λ ts. length (up_to c.args.source.now.trivia c.args.count
    ts)) left in
    joined_puts c.args.source.now.trivia c.args.count c.args.source.now.tokens.now us _ _
    c.args.kind.0 c.args.progress.put c.joined_len.result is taken c.in_ok-put_leaf.ensures.ok

pub returns-in_err-put_leaf-clause-err : goal.returns-in_err-put_leaf-clause-err
returns-in_err-put_leaf-clause-err c =
    let p = err_from_is_err_and c.from_residual.result c.from_residual.ensures.1 in
    let taken = c.split_at-2.ensures.front ∙ ap (take c.joined_len.result) c.split_at.ensures.back in
    rw (p.1, p.2) (part_not_put c.args.source.now.tokens.now c.split_at-2.result.0.now _
    (part_le-text _ _ c.args.progress.put c.joined_len.result taken) c.in_err-put_leaf.ensures.err)
