use Rattle.std.proofs.Common.{arith}
use Rattle.rowan_lines.proofs.PictureLemmas.{chars-le}
use Rattle.rowan_lines.proofs.rendering.Renderer.shown_place.Goals as goal

pub returns-clause-column : goal.returns-clause-column
returns-clause-column c = λ short front. omega (
  arith,
  c.column_of-column.ensures short,
  chars-le c.args.front.now c.utf8.front,
  front,
  c.saturating_add-2.ensures,
)
