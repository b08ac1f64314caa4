use Rattle.std.proofs.Common.{◌∙◌}
use Rattle.rowan_print.proofs.QuoteLemmas.{front_of-at}
use Rattle.rowan_print.proofs.printed.front_of.Goals as goal

pub returns : goal.returns
returns c =
    c.split_at.ensures.front
    ∙ front_of-at c.args.text.now c.ceil_char_boundary.result
    (c.ceil_char_boundary.ensures.bound c.requires) c.ceil_char_boundary.ensures.boundary
    c.ceil_char_boundary.ensures.nearest
