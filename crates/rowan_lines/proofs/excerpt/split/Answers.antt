use Rattle.std.proofs.Common.{◌∙◌}
use Rattle.rowan_lines.proofs.ShownLemmas.{cut-front, cut-back}
use Rattle.rowan_lines.proofs.excerpt.split.Goals as goal

pub returns-clause-front : goal.returns-clause-front
returns-clause-front c = λ cut.
    c.split_at.ensures.front ∙ cut-front _ _ _ c.floor_char_boundary.ensures.bound
    c.floor_char_boundary.ensures.boundary c.floor_char_boundary.ensures.nearest cut

pub returns-clause-back : goal.returns-clause-back
returns-clause-back c = λ cut.
    c.split_at.ensures.back ∙ cut-back _ _ _ c.floor_char_boundary.ensures.bound
    c.floor_char_boundary.ensures.boundary c.floor_char_boundary.ensures.nearest cut
