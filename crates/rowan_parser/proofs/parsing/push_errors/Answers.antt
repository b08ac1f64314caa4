use Rattle.std.proofs.Common.{◌≡◌, ◌∷◌, ◌++◌, ◌∙◌, sym, ap, map, length, arith}
use Rattle.std.specs.Vec.Iter.{into_iter_items}
use Rattle.rowan_parser.specs.Parsing.{error_value, error_of, range_at}
use Rattle.rowan_parser.proofs.Ranges.{told_is, told_more, told_end}
use Rattle.rowan_parser.proofs.parsing.push_errors.Goals as goal

pub loop-complaint-preserved : goal.loop-complaint-preserved
loop-complaint-preserved c =
    let left : into_iter_items c.loop-complaint.complaint-iterator ≡ c.in-Some.complaint ∷
    into_iter_items c.next.new.self = c.in-Some.ensures.steps.0 in
    record {
      told = told_more c.args.trivia c.args.tokens.now c.in-Some.complaint _ _ _ _ _ _ left
          c.in_ok-push.ensures.items
          (told_is c.args.trivia c.args.tokens.now c.in-Some.complaint
          (record { message = c.complaint.inside.message; range = c.range_at-range.result })
          c.complaint.inside.place c.complaint.inside.spot _ c.complaint.view_is
          c.in_ok-ranges.ensures.ranges (c.range_at-range.ensures
          ∙ ap (λ rs. range_at rs c.complaint.inside.place c.complaint.inside.spot)
          c.as_slice.ensures.value))
          c.loop-complaint.invariant.told;
      counted = omega (
        arith,
        c.loop-complaint.invariant.counted,
        c.in-Some.ensures.steps.1,
        ap length left,
      );
    }

pub returns-clause-told : goal.returns-clause-told
returns-clause-told c =
    let none = c.in-None.ensures.steps in
    told_end c.args.trivia c.args.tokens.now _ _ _
    (sym c.loop-complaint.invariant.counted ∙ none.0) c.loop-complaint.invariant.told
    ∙ ap (λ ts. map error_value c.args.errors.now.items ++ map (error_of c.args.trivia
    c.args.tokens.now) ts)
    c.into_iter-complaint-iterator.ensures.into_iter_gives.0
