use Rattle.std.proofs.Common.{ap, sym, ◌∙◌, ◌+◌, ◌*◌, ℕ}
use denote.RawPtr.{◌+ₚ◌}
use denote.Param.{param}
use Rattle.rowan_thin_rc.specs.contracts.header_slice.HeaderSlice.{the_row as slice_row}
use Rattle.rowan_thin_rc.proofs.Fitting.{cut_of, words_are}
use Rattle.rowan_thin_rc.proofs.header_slice.Open.free.Goals as goal

pub join-requires : goal.join-requires
join-requires g c =
    let F = slice_row (param 0 g.row.H) (param 1 g.row.T) (param 2 g.row.A) g.A.Allocator in
    let R = param 1 g.row.T in
    let parts = c.requires.parts in
    let fits = c.requires.fits in
    let w = c.vacate-tail.ensures in
    let n = c.words-count.ensures in
    let room = c.capacity.ensures in
    let counts = ap (λ (k : ℕ). c.args.front + k * c.args.item) room in (
      w.2 ∙ c.requires.empty,
      w.0 ∙ parts.list ∙ (λ i. c.args.self.room.ptr +ₚ sym fits.2 i),
      parts.right,
      parts.count ∙ sym counts ∙ sym n.0,
      parts.front ∙ words_are F R _ _ fits,
      cut_of F R _ _ fits _ _ (n.0 ∙ counts ∙ ap (λ (k : ℕ). c.args.front + k * c.args.item)
          (sym w.1)) n.1,
    )
