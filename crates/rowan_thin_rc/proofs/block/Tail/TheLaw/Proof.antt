-- A `&` to a Tail is made where one to an item is. Assumes `Logic`.
use mathlib.Core.Path.{subst, sym}
use mathlib.Core.List.{[], ◌++◌}
use contract.BorrowLft.{meet_⊑_left}
use Prim.Native.Nat.{◌*◌, ◌^◌, ◌-◌}
use lib.ListN.{length}
use base.Fraction.{full_share}
use base.Fml.{ftrue, flt, fsep, Incl-trans}
use mir.Raw.{raw as bare}
use mir.Syntax.{ty_array}
use denote.RattleType.{RattleType}
use denote.Memory.{lone}
use denote.Array.{Array}
use denote.Sharing.{said}
use denote.RawPtr.{lies_at, room_for, ◌+ₚ◌}
use denote.Shares.{Shares-Array, Shares-less}
use denote.Param.Laws.{Laws}
use denote.ArrayMemory.{Single}
use denote.Struct.Lending.{lent_at, Lends-lies, Lends-said, Lends-first, Lends-both, of_Lends}
use Rattle.std.specs.Mem.{type_size}
use Rattle.std.specs.Allocator.{block_with_items}
use Rattle.std_alloc.proofs.SharedLaws.{lent_shr_laws}
use denote.Param.Shared.{copy_shared}
use denote.Struct.Laws.{field_copy}
use Rattle.std.specs.contracts.marker.PhantomData as P
use Rattle.rowan_thin_rc.specs.contracts.block.Tail as C
use Rattle.rowan_thin_rc.proofs.block.Tail.TheLaw.Statement.{statement}

pub shares : (R : RattleType) (L : Laws R) → statement R L
shares R L =
    of_Lends (C.struct R) (C.the_codes R.Denot R.coded (P.the_row R).coded) (C.the_heap R)
    (C.the_lent R) (λ d p. lent_shr_laws R L.shr_laws d.ptr (length d.items) d.cap d.items)
    (copy_shared (P.the_field R) (field_copy (P.the_type R) tt), tt)
    (λ M 𝓤 𝓛 d p.
    let l = (C.the_row R).lives in
    let n = length d.items in
    let small = flt (d.cap * type_size R) (2 ^ 63) in
    Lends-both 𝓛 small (block_with_items (λ _ _. ftrue) R d.ptr n d.cap d.items) (said small)
    (lent_at (Array R n) d.ptr d.items) l (Lends-said 𝓛 small tt l)
    (Lends-first 𝓛 (lies_at (Array R n) full_share d.ptr d.items)
    (fsep (room_for (bare (ty_array (lone R.mir) (d.cap - n))) (d.ptr +ₚ (n * type_size R)))
    ftrue) (lent_at (Array R n) d.ptr d.items) l
    (Lends-lies 𝓛 (Array R n) l d.ptr d.items
    (Shares-Array 𝓛 R (subst Single (sym L.one) tt) n l
    (Shares-less 𝓛 R R.lives l
    (Incl-trans (meet_⊑_left (R.lives ++ []) _) (meet_⊑_left R.lives [])) (L.shares 𝓛))
    d.items))))
