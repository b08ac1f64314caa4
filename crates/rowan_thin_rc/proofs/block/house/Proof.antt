-- `house` hands the items to `lodge`. Assumes `Logic`.
use Rattle.std.proofs.Common.{◌≡◌, ℕ, ◌+◌, ◌*◌, ◌^◌, ◌<◌, ◌≤◌, List, [], ◌∷◌, ◌++◌, length, refl}
use Rattle.std.proofs.Common.{sym, ap, ◌∙◌, subst, arith, Vec}
use mir.Syntax.{Fn, Args, Callee, a_type, w64}
use mir.Val.{Val, vptr, vint, has_ty, WT}
use lib.Dec.{T as Tr}
use mir.MapTy.{inst_fn}
use base.Logic.{SProp, emp, id⊢, never}
use base.Fml.{Lft, Share, ftrue, flft}
use prog.Wp.{Env, WpFn}
use contract.BorrowLft.{◌⊑◌}
use contract.Monad.{fact, fact_i}
use contract.Running.{tables}
use types.Kit.{‵, raw, ◌⊛◌, given, some, later, prop, at_ret, ◌$◌, ◌∵◌, !, qed, by, move, keep}
use types.Kit.{drop, use0, use1, use2, pick, learn, split, split3, join, rewrite, regoal, fsplit}
use types.Kit.{fjoin, await}
use types.Part.{whole, sub}
use types.Run.{stop, fld, lit, size_lit, bin, of_opd, no_more, and_then, first, blocks, exec}
use types.Run.{returns, enter}
use types.ByLocal.{alloc_all, pass_all, free_all, look_at, get, get_in, sets, is, lands_last, env}
use denote.RattleType.{RattleType, owns}
use denote.RawPtr.{Ptr, block_ptr, null_ptr, in_a_block, ◌+ₚ◌}
use denote.Param.{param, layouts, layout}
use denote.Signature.{types_at}
use denote.Steps.{nothing, heard, only}
use denote.Triple.Entry.{alive}
use denote.Triple.Call.{calls_at_last}
use denote.Triple.Table.{framed}
use denote.Triple.Walked.{Stays, stay_dropped, walk_of, Goes-dropped}
use Rattle.std.proofs.alloc.Calls.{Goes-blank}
use Rattle.std.proofs.raw_atomic.Walks.{proved_at, leaves}
use Rattle.std_alloc.specs.declared.vec.lodged.Lodged.{Lodged}
use Rattle.std_alloc.specs.contracts.vec.lodge.Key.{name as callee_name}
use Rattle.std_alloc.proofs.vec.lodge.Met as callee
use Rattle.std_alloc.proofs.VecSteps.Shapes.{after}
use Rattle.rowan_thin_rc.proofs.Walks.{slot_at, mark_val, mark_told, word_val, word_told, tells}
use prog.Memory.{size}
use Rattle.rowan_thin_rc.proofs.Rooms.{written, front_is}
use Rattle.rowan_thin_rc.proofs.Lodging.{Housed, housed-laws, Lodges, at_lodge, IsLodged}
use Rattle.rowan_thin_rc.proofs.Lodging.{lodge_goes, lodge_gives}
use Rattle.rowan_thin_rc.specs.Ownership.{tail_owns, front_size}
use Rattle.rowan_thin_rc.specs.contracts.block.house.{ended, clauses}
use Rattle.rowan_thin_rc.specs.contracts.block.house.Key.{name as #self}
use Rattle.rowan_thin_rc.proofs.block.house.Statement.{statement}
use Rattle.rowan_thin_rc.proofs.block.house.Code as compiled

pub house_spec : {M : Type 1} → statement M
house_spec 𝓤 𝓛 𝓜 𝓡 wired F T LF LT =
    let H = 𝓛.H in
    let En₀ = ended F T in
    let c = clauses F T 𝓛 𝓜.mem 𝓡.returns in
    let args : Args = layouts (a_type ∷ a_type ∷ []) (F, (T, tt)) in
    let fn : Fn = inst_fn args compiled.function in
    let key : Callee = callee_name (layouts (a_type ∷ []) (T, tt)) in
    let hs : Stays En₀.signature.params En₀.kept = (
      stay_dropped (slot_at 0 En₀.signature.params) En₀.kept.0,
      (
        stay_dropped (slot_at 1 En₀.signature.params) En₀.kept.1.0,
        (
          stay_dropped (slot_at 2 En₀.signature.params) En₀.kept.1.1.0,
          (stay_dropped (slot_at 3 En₀.signature.params) En₀.kept.1.1.1.0, tt),
        ),
      ),
    ) in
    let C = (tables 𝓤 H 𝓜 𝓡 𝓡.env).C in
    let Λ = (tables 𝓤 H 𝓜 𝓡 𝓡.env).Λ in
    proved_at 𝓛 En₀ hs c 𝓜 𝓡 (
      Goes-blank 𝓛 2 (slot_at 0 En₀.signature.params) En₀.kept.0
          (λ κs x f. tt),
      (
        Goes-dropped 𝓛 2 (slot_at 1 En₀.signature.params) En₀.kept.1.0 (λ κs x f. refl),
        (
          Goes-dropped 𝓛 2 (slot_at 2 En₀.signature.params) En₀.kept.1.1.0 (λ κs x f. refl),
          (Goes-dropped 𝓛 2 (slot_at 3 En₀.signature.params) En₀.kept.1.1.1.0 (λ κs x f. refl), tt),
        ),
      ),
    )
    (#self args) fn (compiled.unfolded 𝓤 H 𝓜 𝓡 wired (F, (T, tt))) (λ z are.
    let Post : Val → SProp 𝓤 = (walk_of 𝓛 En₀ hs c).post z in
    let a = z.0.3 in
    let vss = z.0.4 in
    let tail = a.0 in
    let base = a.1.0.ptr in
    let n = a.1.1.0 in
    let cap = a.1.1.1.0 in
    let xs = tail.items in
    let κ : Lft = z.0.0.1.0 in
    let q : Share = z.0.1.1.0 in
    let f = front_size F in
    let TR : RattleType = param 1 T in
    let Asked : Type 0 = (tail.ptr ≡ base +ₚ f) × (length xs ≡ n) × (tail.cap ≡ cap) × (n ≤ cap)
    × (0 < cap) × (cap < 2 ^ 63) × (f < 2 ^ 63) in
    let φF = z.0.0.0 ⊑ F.lives in let φT = z.0.0.1.0 ⊑ T.lives in
    qed 𝓛 ((raw (alive 𝓛 En₀.signature z.0.0 z.0.1)
    ⊛ ‵ (owns (types_at En₀.signature.params z.0.0) a vss))
    ∷ (raw (fact 𝓤 φF) ⊛ raw (fact 𝓤 φT) ⊛ raw (fact 𝓤 Asked)) ∷ []) ∵
    move ! (1 ∷ []) $ split ! $ drop ! $ split ! $
    heard ! φT (λ le. heard ! Asked (λ asked. split ! $ move ! (1 ∷ []) $
    fsplit ! $ fsplit ! $ drop ! $ move ! (1 ∷ []) $ drop ! $
    -- [the tail; the lifetimes' tokens]
    rewrite ! 0 (λ (k : ℕ). ‵ (tail_owns TR tail.ptr k xs)) asked.2 refl $
    rewrite ! 0 (λ (r : Ptr). ‵ (tail_owns TR r cap xs)) asked.0 refl $
    in_a_block ! base (λ r. tail_owns TR (r +ₚ f) cap xs)
    (qed 𝓛 (‵ (tail_owns TR null_ptr cap xs) ∷ []) ∵
    fsplit ! $ drop ! $ fsplit ! $ keep ! (0 ∷ []) $ by ! (id⊢ 𝓤 (never 𝓤))) (λ b o placed.
    let p : Ptr = block_ptr b o in
    move ! (1 ∷ []) $ use1 𝓛 (‵ (flft z.0.0.0 z.0.1.0) ⊛ ‵ (flft κ q) ⊛ ‵ ftrue) (id⊢ 𝓤 _) $
    split3 ! $ move ! (1 ∷ 3 ∷ []) $
    regoal ! (λ (us : List Val). prop (WpFn 𝓤 H C Λ fn us Post)) (λ i. (mark_told vss.0 are.0.0).0 i
    ++ (((word_told base vss.1.0 are.1.0).0 ∙ ap (λ (r : Ptr). word_val r ∷ []) placed) i
    ++ (are.1.1.0.0 i ++ (are.1.1.1.0.0 i ++ [])))) refl $
    enter ! C Λ fn (mark_val ∷ word_val p ∷ vint w64 n ∷ vint w64 cap ∷ []) Post $
    alloc_all !
    (λ l. pass_all ! refl (
      (tt, (tt, tt)),
      (
        (tt, (tt, tt)),
        ((tt, record { fits = are.1.1.0.1 }), ((tt, record { fits = are.1.1.1.0.1 }), tt)),
      ),
    ) $
    let En : Env 𝓤 𝓛.H = env fn.locals l in
    let s : ℕ = size (written F) in
    let same : s ≡ f = front_is F in
    let tiny : s < 2 ^ 64 = let i = asked.6 in omega arith in
    let far : 1 * s < 2 ^ 64 = let i = asked.6 in omega arith in
    let there : 1 * s + o ≡ o + f = omega arith in
    sets ! (of_opd ! (get_in ! (fld ! refl (stop !)) (sub ! 0 refl (whole !)))) refl (tt, tt) $
    first ! $ blocks ! $
    sets ! (bin ! (lit ! tt) (size_lit ! (record { fits = tiny })) (record { fits = far })) refl
    (tt, record { fits = far }) $
    sets ! (is ! (bin ! (get ! refl) (get ! refl) tt) (ap (λ (j : ℕ). vptr b j) there)) refl
    (tt, tt) $
    sets ! (of_opd ! (get ! refl)) refl (tt, tt) $
    let y = at_lodge T 𝓛 𝓜.mem 𝓡.returns κ q b (o + f) n cap xs in
    use2 𝓛 (raw ((Lodges T 𝓛 𝓜.mem 𝓡.returns κ q).pre y))
    (lodge_goes T 𝓛 𝓜.mem 𝓡.returns κ q b (o + f) n cap xs le asked.1 asked.3 asked.4 asked.5) $
    calls_at_last ! (framed 𝓤 𝓛.H 𝓜 (tables 𝓤 𝓛.H 𝓜 𝓡 𝓡.env)) (Lodges T 𝓛 𝓜.mem 𝓡.returns κ q)
    (callee.met 𝓤 𝓛 𝓜 𝓡 (compiled.calls-std_alloc::vec::lodge 𝓡.env wired) T LT) y
    (and_then ! (get ! refl) (and_then ! (get ! refl) (and_then ! (get ! refl) (no_more !))))
    (λ v.
    use1 𝓛 (later
    (some (λ (r : Vec T.Denot Lodged). given
    (IsLodged T 𝓛 𝓜.mem 𝓡.returns κ q b (o + f) n cap xs r) (‵ ((Housed T).own_val r (v ∷ []))
    ⊛ ‵ (flft κ q))))) (lodge_gives T 𝓛 𝓜.mem 𝓡.returns κ q b (o + f) n cap xs v) $
    await ! tt $
    pick ! (λ r. learn ! (λ is_lodged. split ! $
    tells ! (Housed T) (housed-laws T LT) r (v ∷ []) (λ u is_one good.
    let fine =
    subst (λ (w : Val). Tr (has_ty (layout (Housed T)) w) × WT w) (sym (ap only is_one)) good in
    rewrite ! 0 (λ w. ‵ ((Housed T).own_val r (w ∷ []))) (sym (ap only is_one)) refl $
    lands_last ! refl fine $
    exec ! C Λ En (after 2 fn.body) (at_ret En Post) $
    sets ! (of_opd ! (get ! refl)) refl fine $
    returns ! (look_at ! 0 refl) $ free_all ! refl $
    -- [the Vec; the item's token; the other; nothing]
    move ! (1 ∷ []) $ move ! (0 ∷ 3 ∷ []) $ join ! $ move ! (2 ∷ 0 ∷ []) $ join ! $
    let Ends : Type 0 = (r.items ≡ xs) × (r.len ≡ n) × (r.cap ≡ cap) × (r.ptr ≡ tail.ptr) in
    use0 𝓛 (raw (fact 𝓤 Ends))
    (fact_i 𝓤 Ends (emp 𝓤) (
      is_lodged.0,
      is_lodged.1,
      is_lodged.2,
      is_lodged.3 ∙ sym (asked.0 ∙ ap (λ (r : Ptr). r +ₚ f) placed),
    )) $
    nothing ! $ nothing ! $ fjoin ! $ nothing ! $ fjoin ! $ nothing ! $ fjoin ! $ nothing ! $
    fjoin ! $ move ! (2 ∷ 0 ∷ 3 ∷ 1 ∷ []) $
    by ! (leaves 𝓛 En₀ hs c z v r (tt, (tt, (tt, (tt, tt)))) (tt, (tt, (tt, (tt, tt))))))))))))))
