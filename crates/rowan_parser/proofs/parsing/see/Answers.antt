use Rattle.std.proofs.Common.{Bool, ◌||◌, refl, sym, ap, ◌∙◌}
use Rattle.rowan_parser.specs.Parsing.{has_line_end}
use Rattle.rowan_parser.proofs.Pieces.{passed_over, seen_more}
use Rattle.rowan_parser.proofs.parsing.see.Goals as goal

pub returns-then-gap-clause-seen : goal.returns-then-gap-clause-seen
returns-then-gap-clause-seen c = λ others. passed_over _ _ _ _ _ _ c.args.trivia c.args.token.now
    others (sym c.if-is_trivia.true ∙ c.is_trivia.ensures) c.requires
    (c.if-gap.true
    ∙ sym (ap (λ (b : Bool). b || has_line_end c.args.token.now.text.now) c.if-gap.true))

pub returns-else-gap-clause-seen : goal.returns-else-gap-clause-seen
returns-else-gap-clause-seen c = λ others. passed_over _ _ _ _ _ _ c.args.trivia c.args.token.now
    others (sym c.if-is_trivia.true ∙ c.is_trivia.ensures) c.requires
    (c.has_line_end.ensures
    ∙ sym (ap (λ (b : Bool). b || has_line_end c.args.token.now.text.now) c.if-gap.false))

pub returns-clause-seen : goal.returns-clause-seen
returns-clause-seen c = λ others. seen_more _ _ _ _ _ _ _ c.args.trivia c.args.token.now others
    (sym c.if-is_trivia.false ∙ c.is_trivia.ensures) c.requires c.in_ok-push.ensures.items refl
