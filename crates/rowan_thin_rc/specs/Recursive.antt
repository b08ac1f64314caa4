-- The texts of `Ownership` only place what the item type owns and lends.
use Rattle.std.specs.Prelude.{◌≡◌, ℕ, ◌-◌, ◌*◌, ◌^◌, List, map, length}
use mathlib.Core.Path.{◌∙◌}
use lib.ListN.{length-map}
use base.Fraction.{full_share}
use base.Fml.{Fml, ftrue, fsep, flt}
use mir.Syntax.{ty_array}
use mir.Raw.{raw}
use prog.Memory.{size}
use denote.RattleType.{RattleType}
use denote.Memory.{lone}
use denote.Array.{Array}
use denote.HoleLaws.{Alike}
use denote.HolePlaces.{Array-places}
use denote.RawPtr.{Ptr, room_for, ◌+ₚ◌}
use Rattle.std.specs.Mem.{type_size}
use Rattle.std.specs.Allocator.{block_with_items}
use Rattle.std_alloc.specs.Vec.Ownership.{vec_shares}
use Rattle.std_alloc.specs.Vec.Recursive.{lies_placed, lent_placed}
use Rattle.rowan_thin_rc.specs.Ownership.{tail_owns, tail_shares}

module _ (R R' : RattleType) (h : R.Denot → R'.Denot) (a : Alike R R' h) where
  abbrev width : type_size R' ≡ type_size R
  width = λ i. size (lone (a.mir_same i))

  abbrev places : (n : ℕ) → raw (ty_array (lone R'.mir) n) ≡ raw (ty_array (lone R.mir) n)
  places n = λ i. raw (ty_array (lone (a.mir_same i)) n)

  abbrev tail_at : (S : RattleType) → Ptr → ℕ → ℕ → List S.Denot → Fml
  tail_at S p n c xs =
      fsep (flt (c * type_size S) (2 ^ 63)) (block_with_items (λ _ _. ftrue) S p n c xs)

  pub tail_placed : (p : Ptr) (c : ℕ) (xs : List R.Denot)
      → tail_owns R' p c (map h xs) ≡ tail_owns R p c xs
  tail_placed p c xs = let n : ℕ = length xs in
      (λ i. tail_at R' p (length-map xs h i) c (map h xs)) ∙
      (λ i. fsep (flt (c * width i) (2 ^ 63)) (fsep
      (lies_placed (Array R n) (Array R' n) (map h) (Array-places R R' h a n) full_share p xs i)
      (fsep (room_for (places (c - n) i) (p +ₚ n * width i)) ftrue)))

  pub seen_placed : (p : Ptr) (c : ℕ) (xs : List R.Denot)
      → tail_shares R' p c (map h xs) ≡ tail_shares R p c xs
  seen_placed p c xs =
      (λ i. vec_shares R' p (length-map xs h i) c (map h xs))
      ∙ lent_placed R R' h a p (length xs) c xs
