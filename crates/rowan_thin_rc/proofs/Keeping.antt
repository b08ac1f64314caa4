-- A block stays one while its items come and go in place.
use Rattle.std.proofs.Common.{ℕ, ◌+◌, ◌*◌, ◌∙◌, sym, ap, arith}
use Rattle.std_alloc.specs.declared.vec.Vec.{Vec}
use Rattle.std_alloc.specs.declared.vec.lodged.Lodged.{Lodged}
use Rattle.rowan_thin_rc.specs.declared.header_slice.Open.{Open}
use Rattle.rowan_thin_rc.specs.Shape.{IsOpen, IsInPlace}

pub open_in_place : {X Y Z : Type 0} {f s : ℕ} (b : Open X Y Z) (list : Vec Y Lodged) → IsOpen f s b
    → IsInPlace b.list list
    → IsOpen f s (record { room = b.room; list = list; right = b.right; alloc = b.alloc })
open_in_place {f = f} {s = s} b list o same = record {
  list = same.1 ∙ o.list;
  right = o.right;
  front = o.front;
  count = o.count ∙ ap (λ (k : ℕ). f + k * s) (sym same.0);
  alloc = o.alloc;
  some_room = omega (arith, o.some_room, same.0);
  small = omega (arith, o.small, same.0);
}
