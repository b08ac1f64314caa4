-- A `&` to an owner holds a share of its token. Assumes `Logic`.
use Prim.Native.Nat.{ℕ}
use base.Fml.{ftrue}
use denote.RattleType.{RattleType}
use denote.Param.Laws.{Laws}
use denote.Param.Shared.{copy_shared}
use denote.Struct.Field.{RawPtr-field}
use denote.Struct.Laws.{RawPtr-copy}
use denote.Struct.Lending.{of_Lends, lent_at_shr_laws}
use denote.RcWeak.{Lends-rc, rc_cell_owns, rc_lends, rc_shr_laws}
use denote.RawPtr.{◌+ₚ◌}
use Rattle.rowan_thin_rc.specs.contracts.count.Counted as C
use Rattle.rowan_thin_rc.specs.Counting.{count_at, one_weak, value_offset, value_and_block}
use Rattle.rowan_thin_rc.specs.Counting.{value_shared, mark}
use Rattle.rowan_thin_rc.proofs.Named.{named_shr_laws, named_lends}
use Rattle.rowan_thin_rc.proofs.count.Counted.TheLaw.Statement.{statement}

module _ (T : RattleType) (d : (C.the_row T).Denot) where
  abbrev owned : ℕ → base.Fml.Fml
  owned γ = rc_cell_owns 32 (γ, 0) (count_at d.ptr) one_weak (value_and_block T d.ptr d.value)
      ftrue ftrue (value_shared T d.ptr d.value)

  abbrev lent : ℕ → base.Fml.Lft → base.Fml.Fml
  lent γ = rc_lends 32 (γ, 0) (count_at d.ptr) one_weak (value_and_block T d.ptr d.value)
      ftrue ftrue (value_shared T d.ptr d.value)

pub shares : (T : RattleType) (L : Laws T) → statement T L
shares T L = of_Lends (C.struct T) (C.the_codes T.Denot T.coded) (C.the_heap T) (C.the_lent T)
    (λ d p. named_shr_laws (mark d.ptr d.label) (owned T d) (lent T d)
    (λ γ. rc_shr_laws 32 (γ, 0) (count_at d.ptr) one_weak (value_and_block T d.ptr d.value) ftrue
    ftrue (value_shared T d.ptr d.value)
    (lent_at_shr_laws T L.shr_laws (d.ptr +ₚ value_offset T) d.value)))
    (copy_shared RawPtr-field RawPtr-copy, tt) (λ M 𝓤 𝓛 d p.
    let c = d.ptr in let x = d.value in let l = (C.the_row T).lives in
    named_lends (mark c d.label) (owned T d) (lent T d) 𝓛 l (λ γ.
    Lends-rc 32 (γ, 0) (count_at c) one_weak (value_and_block T c x) ftrue ftrue
    (value_shared T c x) 𝓛 (lent_at_shr_laws T L.shr_laws (c +ₚ value_offset T) x) l))
