use Rattle.std.proofs.Common.{arith}
use Rattle.rowan_thin_rc.proofs.Fitting.{cut_of}
use Rattle.rowan_thin_rc.proofs.header_slice.take.Goals as goal

pub split-room-requires : goal.split-room-requires
split-room-requires g c =
    let e = c.in_ok-chunk.ensures in let n = c.words-count.ensures in
    cut_of g.row.F g.row.T _ _ c.requires _ _ (let a = e.1 in let b = n.0 in
    omega arith) (let a = e.1 in let b = n.1 in omega arith)
