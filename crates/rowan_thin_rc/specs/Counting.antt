-- What a `Counted` and a `Room` own and share. c points to a `CountBox` with a value of the row R.
use Rattle.std.specs.Prelude.{ℕ, ◌≡◌, ◌+◌, ◌^◌, []}
use base.Fraction.{full_share}
use base.Fml.{Lft, Fml, ftrue, ffalse, fsep, fex, fwand, flt, fat, fres}
use base.Stored.{Gv, Coded, gcons}
use mir.Syntax.{Ty, w32, ty_int, ty_struct, tcons, tnil}
use mir.Val.{vint}
use mir.Raw.{raw}
use prog.Memory.{align, up}
use denote.RattleType.{RattleType}
use denote.Memory.{lone}
use denote.RawPtr.{Ptr, block_ptr, null_ptr, coded_ptr, lies_at, room_for, ◌+ₚ◌}
use denote.Sharing.{said, beside, some}
use denote.Struct.Lending.{lent_at}
use denote.RcWeak.{rc_cell_owns, rc_lends}

-- ownership of the count n
abbrev pub count_at : Ptr → ℕ → Fml
count_at (block_ptr b o) n =
    fsep (flt n (2 ^ 32)) (fat full_share (ty_int w32) b (o + 0) (vint w32 n))
count_at null_ptr n = ffalse

-- what a block's name records for good: where the block is, and its label
abbrev pub mark : Ptr → Gv → Gv
mark c l = gcons (coded_ptr.code c) l

-- a label, as a ghost value
abbrev pub coded_label : Coded Gv
coded_label = record { code = λ l. l; inj = λ l m e. e }

-- there is no second count
abbrev pub one_weak : ℕ → Fml
one_weak m = fex (m ≡ 1) (λ _. ftrue)

module _ (R : RattleType) where
  -- the type of `CountBox`, as the machine sees it
  abbrev pub count_box_type : Ty
  count_box_type = ty_struct [] (tcons (ty_int w32) (tcons (raw (lone R.mir)) tnil))

  abbrev pub value_offset : ℕ
  value_offset = up (align (lone R.mir)) 4

  -- ownership of the value x in its field
  abbrev pub value_owns : Ptr → R.Denot → Fml
  value_owns c x = lies_at R full_share (c +ₚ value_offset) x

  -- the two fields, given back empty, make the whole block
  abbrev pub fields_rejoin : Ptr → Fml
  fields_rejoin c =
      fwand
      (fsep (room_for (ty_int w32) (c +ₚ 0)) (room_for (raw (lone R.mir)) (c +ₚ value_offset)))
      (room_for count_box_type c)

  -- what a `Room` owns
  abbrev pub room_owns : Ptr → Fml
  room_owns c = room_for count_box_type c

  module _ (c : Ptr) (x : R.Denot) where
    -- what the last owner gets
    abbrev pub value_and_block : Fml
    value_and_block = fsep (value_owns c x) (fields_rejoin c)

    -- what a `&` to the value holds
    abbrev pub value_shared : Lft → Fml
    value_shared = lent_at R (c +ₚ value_offset) x

    -- what an owner has: what the block's name γ records, and a part of the count, which keeps the
    -- value alive. The count stands under the key of γ, so those of two names are had at once
    abbrev pub counted_owns : Gv → Fml
    counted_owns l =
        fex ℕ (λ γ. fsep (fres γ (mark c l))
        (rc_cell_owns 32 (γ, 0) (count_at c) one_weak value_and_block ftrue ftrue value_shared))

    -- what a `&` to an owner holds
    abbrev pub counted_shares : Gv → Lft → Fml
    counted_shares l =
        some ℕ (λ γ. beside (said (fres γ (mark c l)))
        (rc_lends 32 (γ, 0) (count_at c) one_weak value_and_block ftrue ftrue value_shared))
