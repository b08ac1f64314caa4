-- `lodge` and `dislodge` at a call, for any item type. Assumes `Logic`.
use Rattle.std.proofs.Common.{◌≡◌, ℕ, ◌*◌, ◌^◌, ◌<◌, ◌≤◌, List, [], ◌∷◌, length, true, refl, sym}
use Rattle.std.proofs.Common.{ap, ◌∙◌, arith, Vec}
use Rattle.std.proofs.lemmas.Bool.{ne_eqb, not_from_false}
use seplogic.Ra.Ura.{Ura}
use mir.Syntax.{w64}
use mir.Val.{Val, vint, vptr}
use base.Logic.{SProp, ent, sep, ex, guard, emp, never, id⊢}
use base.Fml.{Lft, Share, ftrue, fsep, flft}
use prog.Memory.{Memory}
use prog.Routine.{Routine}
use contract.Monad.{Fun, fact, fact_i}
use contract.BorrowLft.{◌⊑◌}
use types.Logic.{Logic, sem}
use types.Kit.{‵, raw, ◌⊛◌, some, later, ◌$◌, ◌∵◌, !, qed, move, keep, use0, use1, drop, split}
use types.Kit.{split3, join, pick, fsplit, fjoin, feq_l, feq_i, flt_l, flt_i, rewrite, check, show}
use types.Kit.{await, updating, now, done}
use denote.Exit.{no, left}
use denote.RattleType.{RattleType}
use denote.Builtin.{usize}
use denote.Param.{param}
use denote.Param.Laws.{Laws, param_laws}
use denote.RawPtr.{Ptr, block_ptr, in_block, in_a_block}
use denote.Steps.{only, nothing, heard}
use denote.Triple.Spec.{triple_of}
use denote.Triple.Statement.{Contract}
use Rattle.std.specs.Allocator.{block_with_items}
use Rattle.std_alloc.specs.Vec.Ownership.{lodged, owns_if, has_block}
use Rattle.std_alloc.specs.declared.vec.lodged.Lodged.{Lodged}
use Rattle.std_alloc.specs.contracts.vec.Vec as V
use Rattle.std_alloc.specs.contracts.vec.lodged.Lodged as L
use Rattle.std_alloc.specs.contracts.vec.lodged.LodgedAllocator.TheImpl.{ghosts}
use Rattle.std_alloc.specs.contracts.vec.lodge as LG
use Rattle.std_alloc.specs.contracts.vec.lodged.Vec+T+Lodged.dislodge as DL
use Rattle.std_alloc.proofs.vec.Vec.TheLaws as vec_laws
use Rattle.std_alloc.proofs.vec.lodged.Lodged.TheLaws as lodged-laws
use Rattle.std.specs.Mem.{type_size}
use Rattle.rowan_thin_rc.specs.Ownership.{tail_owns}

abbrev pub Housed : RattleType → RattleType
Housed T = V.the_row (param 0 T) L.the_row ghosts

pub housed-laws : (T : RattleType) → Laws T → Laws (Housed T)
housed-laws T LT =
    vec_laws.the_row_laws (param 0 T) L.the_row ghosts (param_laws 0 T LT) lodged-laws.the_row_laws

pub live : (c : ℕ) → 0 < c → has_block c ≡ true
live c h = not_from_false _ (ne_eqb c 0 (λ e. omega arith))

module _ (T : RattleType) {M : Type 1} {𝓤 : Ura M} (𝓛 : Logic 𝓤) (at_mem : Memory → SProp 𝓤)
    (run : Routine → Fun 𝓤) (κ : Lft) (q : Share) where
  open 𝓛 use {H, A}

  abbrev R : RattleType
  R = param 0 T

  abbrev pub Lodges : Contract 𝓤
  Lodges = triple_of 𝓛 (LG.signature T) (LG.spec T 𝓛 at_mem run)

  abbrev pub Dislodges : Contract 𝓤
  Dislodges = triple_of 𝓛 (DL.signature T) (DL.spec T 𝓛 at_mem run)

  module _ (b o n c : ℕ) (xs : List T.Denot) where
    abbrev pub at_lodge : Lodges.Ghost
    at_lodge = (
      (
        (κ, tt),
        (q, tt),
        tt,
        (block_ptr b o, (n, (c, tt))),
        (vptr b o ∷ [], (vint w64 n ∷ [], (vint w64 c ∷ [], tt))),
      ),
      xs,
    )

    abbrev pub IsLodged : Vec T.Denot Lodged → Type 0
    IsLodged r = (r.items ≡ xs) × (r.len ≡ n) × (r.cap ≡ c) × (r.ptr ≡ block_ptr b o)

    pub lodge_goes : κ ⊑ T.lives → length xs ≡ n → n ≤ c → 0 < c → c < 2 ^ 63
        → ent 𝓤 (sep 𝓤 (A.lft κ q) (sem 𝓛 (tail_owns R (block_ptr b o) c xs))) (Lodges.pre at_lodge)
    lodge_goes le long within filled small =
        let p = block_ptr b o in
        let Asked : Type 0 = (n ≡ length xs) × (n ≤ c) × (c < 2 ^ 63) in
        qed 𝓛 (‵ (flft κ q) ∷ ‵ (tail_owns R p c xs) ∷ []) ∵
        move ! (1 ∷ []) $ fsplit ! $ flt_l ! (λ fit.
        rewrite ! 0 (λ k. ‵ (block_with_items (λ _ _. ftrue) R p k c xs)) long refl $
        rewrite ! 0 (λ y. ‵ (owns_if y (block_with_items (λ _ _. ftrue) R p n c xs)))
        (sym (live c filled)) refl $ flt_i ! (c * type_size R) (2 ^ 63) fit $ fjoin ! $
        use0 𝓛 (raw (fact 𝓤 Asked)) (fact_i 𝓤 Asked (emp 𝓤) (sym long, within, small)) $ join ! $
        use0 𝓛 (raw (fact 𝓤 (κ ⊑ T.lives))) (fact_i 𝓤 (κ ⊑ T.lives) (emp 𝓤) le) $ join ! $
        nothing ! $ flt_i ! c (2 ^ 64) (omega arith) $
        feq_i ! (List Val) (vint w64 c ∷ []) (vint w64 c ∷ []) refl $ fjoin ! $ fjoin ! $
        flt_i ! n (2 ^ 64) (omega arith) $
        feq_i ! (List Val) (vint w64 n ∷ []) (vint w64 n ∷ []) refl $ fjoin ! $ fjoin ! $
        feq_i ! (List Val) (vptr b o ∷ []) (vptr b o ∷ []) refl $ fjoin ! $ nothing ! $
        move ! (3 ∷ 0 ∷ []) $ join ! $ join ! $ done !)

    pub lodge_gives : (v : Val)
        → ent 𝓤 (Lodges.post at_lodge v)
        (H.⇛ (ex 𝓤
        (λ (r : Vec T.Denot Lodged). guard 𝓤 (IsLodged r)
        (sep 𝓤 (sem 𝓛 ((Housed T).own_val r (v ∷ []))) (A.lft κ q)))))
    lodge_gives v =
        qed 𝓛 (raw (Lodges.post at_lodge v) ∷ []) ∵ updating ! $
        use1 𝓛 (later
        (some (λ (r : Vec T.Denot Lodged). ((‵ (flft κ q) ⊛ ‵ ftrue)
        ⊛ ‵ ((Housed T).own_val r (v ∷ [])))
        ⊛ some (λ (ws : Unit {0} × (Unit {0} × (Unit {0} × Unit {0}))). ‵
        (fsep ftrue (fsep ftrue (fsep ftrue ftrue))) ⊛ raw (fact 𝓤 (IsLodged r)))))) (id⊢ 𝓤 _) $
        await ! tt $ pick ! (λ r.
        split ! $ move ! (1 ∷ []) $
        pick ! (λ ws. split ! $ drop ! $
        heard ! (IsLodged r) (λ is. split ! $ split ! $ move ! (2 ∷ 0 ∷ []) $ now ! $
        show ! (λ (z : Vec T.Denot Lodged). guard 𝓤 (IsLodged z)
        (sep 𝓤 (sem 𝓛 ((Housed T).own_val z (v ∷ []))) (A.lft κ q))) r $ check ! is $
        keep ! (0 ∷ 1 ∷ []) $ done !)))

  module _ (d : Vec T.Denot Lodged) (u : Val) where
    abbrev pub at_dislodge : Dislodges.Ghost
    at_dislodge = (((κ, tt), (q, tt), tt, (d, tt), (u ∷ [], tt)), tt)

    pub dislodge_goes : κ ⊑ T.lives
        → ent 𝓤 (sep 𝓤 (A.lft κ q) (sem 𝓛 ((Housed T).own_val d (u ∷ []))))
        (Dislodges.pre at_dislodge)
    dislodge_goes le =
        qed 𝓛 (‵ (flft κ q) ∷ ‵ ((Housed T).own_val d (u ∷ [])) ∷ []) ∵
        nothing ! $ use0 𝓛 (raw (fact 𝓤 (κ ⊑ T.lives))) (fact_i 𝓤 (κ ⊑ T.lives) (emp 𝓤) le) $
        join ! $
        nothing ! $ move ! (3 ∷ 0 ∷ []) $ fjoin ! $ nothing ! $ move ! (3 ∷ 0 ∷ []) $ join ! $
        join ! $ done !

    pub dislodge_gives : 0 < d.cap → (v : Val)
        → ent 𝓤 (Dislodges.post at_dislodge v)
        (H.⇛ (guard 𝓤 ((v ≡ vint w64 d.len) × (d.len < 2 ^ 64))
        (sep 𝓤 (sem 𝓛 (tail_owns R d.ptr d.cap d.items)) (A.lft κ q))))
    dislodge_gives filled v =
        let Blk = λ (p : Ptr). block_with_items (λ _ _. ftrue) R p d.len d.cap d.items in
        qed 𝓛 (raw (Dislodges.post at_dislodge v) ∷ []) ∵ updating ! $
        use1 𝓛 (later (some (λ (r : ℕ). ((‵ (flft κ q) ⊛ ‵ ftrue) ⊛ ‵ (usize.own_val r (v ∷ [])))
        ⊛ some (λ (ws : Unit {0} × Unit {0}). ‵
        (fsep (left ((V.the_row (param 0 T) L.the_row ghosts).exit no) d ws.0) ftrue)
        ⊛ raw (fact 𝓤 (r ≡ d.len)) ⊛ ‵ (lodged R d.ptr d.len d.cap d.items))))) (id⊢ 𝓤 _) $
        await ! tt $ pick ! (λ r.
        split ! $ move ! (1 ∷ []) $
        pick ! (λ ws. split3 ! $ drop ! $ heard ! (r ≡ d.len) (λ is. move ! (1 ∷ []) $ split ! $
        move ! (1 ∷ []) $ fsplit ! $ feq_l ! (λ e. flt_l ! (λ f. now ! $
        check ! (ap only e ∙ ap (vint w64) is, omega arith) $ split ! $ move ! (2 ∷ []) $ fsplit ! $
        move ! (1 ∷ []) $
        in_a_block ! d.ptr (λ p. in_block p (owns_if (has_block d.cap) (Blk p)))
        (id⊢ 𝓤 (never 𝓤)) (λ b o at.
        rewrite ! 0 (λ y. ‵ (owns_if y (Blk (block_ptr b o)))) (live d.cap filled) refl $
        rewrite ! 0 (λ p. ‵ (Blk p)) (sym at) refl $
        rewrite ! 0 (λ k. ‵ (block_with_items (λ _ _. ftrue) R d.ptr k d.cap d.items)) d.ok.0 refl $
        move ! (1 ∷ []) $ fjoin ! $ keep ! (0 ∷ 1 ∷ []) $ done !))))))
