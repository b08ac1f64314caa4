-- `vacate` has them back from `dislodge`. Assumes `Logic`.
use Rattle.std.proofs.Common.{◌≡◌, ◌^◌, ◌<◌, List, [], ◌∷◌, ◌++◌, refl}
use mir.Syntax.{Fn, Args, a_type, w64}
use mir.Val.{Val, vint}
use mir.MapTy.{inst_fn}
use base.Logic.{SProp, emp, id⊢}
use base.Fml.{Lft, Share, ftrue, flft}
use prog.Wp.{WpFn}
use contract.BorrowLft.{◌⊑◌}
use contract.Monad.{fact, fact_i}
use contract.Running.{tables}
use types.Kit.{‵, raw, ◌⊛◌, given, later, prop, ◌$◌, ◌∵◌, !, qed, by, move, drop, use0, use1, use2}
use types.Kit.{learn, split, join, regoal, fsplit, fjoin, await}
use types.Part.{agg}
use types.Run.{of_opd, no_more, and_then, returns, enter}
use types.ByLocal.{alloc_all, pass_all, free_all, look_at, get, sets, lands_as}
use denote.RattleType.{RattleType, owns}
use denote.Param.{param, layouts}
use denote.Signature.{types_at}
use denote.Steps.{nothing, heard}
use denote.Triple.Entry.{alive}
use denote.Triple.Call.{calls_at}
use denote.Triple.Table.{framed}
use denote.Triple.Walked.{Stays, stay_dropped, walk_of}
use Rattle.std.proofs.alloc.Calls.{Goes-blank}
use Rattle.std.proofs.raw_atomic.Walks.{proved_at, leaves}
use Rattle.std_alloc.proofs.vec.lodged.Vec+T+Lodged.dislodge.Met as callee
use Rattle.rowan_thin_rc.proofs.Walks.{slot_at, mark_own, mark_val, mark_made, tells}
use Rattle.rowan_thin_rc.proofs.Lodging.{Housed, housed-laws, Dislodges, at_dislodge, dislodge_goes}
use Rattle.rowan_thin_rc.proofs.Lodging.{dislodge_gives}
use Rattle.rowan_thin_rc.specs.Ownership.{tail_owns}
use Rattle.rowan_thin_rc.specs.contracts.block.Tail as row
use Rattle.rowan_thin_rc.specs.contracts.block.vacate.{ended, clauses}
use Rattle.rowan_thin_rc.specs.contracts.block.vacate.Key.{name as #self}
use Rattle.rowan_thin_rc.proofs.block.vacate.Statement.{statement}
use Rattle.rowan_thin_rc.proofs.block.vacate.Code as compiled

pub vacate_spec : {M : Type 1} → statement M
vacate_spec 𝓤 𝓛 𝓜 𝓡 wired T LT =
    let H = 𝓛.H in
    let En₀ = ended T in
    let c = clauses T 𝓛 𝓜.mem 𝓡.returns in
    let args : Args = layouts (a_type ∷ []) (T, tt) in
    let fn : Fn = inst_fn args compiled.function in
    let hs : Stays En₀.signature.params En₀.kept =
    (stay_dropped (slot_at 0 En₀.signature.params) En₀.kept.0, tt) in
    let C = (tables 𝓤 H 𝓜 𝓡 𝓡.env).C in
    let Λ = (tables 𝓤 H 𝓜 𝓡 𝓡.env).Λ in
    proved_at 𝓛 En₀ hs c 𝓜 𝓡 (
      Goes-blank 𝓛 1 (slot_at 0 En₀.signature.params) En₀.kept.0
          (λ κs x f. tt),
      tt,
    ) (#self args) fn (compiled.unfolded 𝓤 H 𝓜 𝓡 wired (T, tt)) (λ z are.
    let Post : Val → SProp 𝓤 = (walk_of 𝓛 En₀ hs c).post z in
    let a = z.0.3 in
    let vss = z.0.4 in
    let d = a.0 in
    let κ : Lft = z.0.0.0 in
    let q : Share = z.0.1.0 in
    let R0 : RattleType = param 0 T in
    let Asked : Type 0 = 0 < d.cap in
    let φT = z.0.0.0 ⊑ T.lives in
    qed 𝓛 ((raw (alive 𝓛 En₀.signature z.0.0 z.0.1)
    ⊛ ‵ (owns (types_at En₀.signature.params z.0.0) a vss))
    ∷ (raw (fact 𝓤 φT) ⊛ raw (fact 𝓤 Asked)) ∷ []) ∵
    move ! (1 ∷ []) $ split ! $
    heard ! φT (λ le. heard ! Asked (λ asked. split ! $ move ! (1 ∷ []) $
    fsplit ! $ tells ! (Housed T) (housed-laws T LT) d vss.0 (λ u is_one good. move ! (1 ∷ []) $
    drop ! $
    move ! (1 ∷ []) $ use1 𝓛 (‵ (flft κ q) ⊛ ‵ ftrue) (id⊢ 𝓤 _) $ split ! $ move ! (0 ∷ 2 ∷ []) $
    regoal ! (λ (us : List Val). prop (WpFn 𝓤 H C Λ fn (us ++ []) Post)) is_one refl $
    enter ! C Λ fn (u ∷ []) Post $
    alloc_all ! (λ l. pass_all ! refl (good, tt) $
    sets ! (of_opd ! (get ! refl)) refl good $
    let y = at_dislodge T 𝓛 𝓜.mem 𝓡.returns κ q d u in
    use2 𝓛 (raw ((Dislodges T 𝓛 𝓜.mem 𝓡.returns κ q).pre y))
    (dislodge_goes T 𝓛 𝓜.mem 𝓡.returns κ q d u le) $
    calls_at ! (framed 𝓤 𝓛.H 𝓜 (tables 𝓤 𝓛.H 𝓜 𝓡 𝓡.env)) (Dislodges T 𝓛 𝓜.mem 𝓡.returns κ q)
    (callee.met 𝓤 𝓛 𝓜 𝓡
    (compiled.calls-std_alloc::vec::lodged::Vec+T+Lodged::dislodge 𝓡.env wired) T LT) y
    (and_then ! (get ! refl) (no_more !)) (λ v.
    use1 𝓛 (later
    (given ((v ≡ vint w64 d.len) × (d.len < 2 ^ 64)) (‵ (tail_owns R0 d.ptr d.cap d.items)
    ⊛ ‵ (flft κ q)))) (dislodge_gives T 𝓛 𝓜.mem 𝓡.returns κ q d u asked v) $
    await ! tt $ learn ! (λ got. split ! $
    lands_as ! got.0 refl (tt, record { fits = got.1 }) $
    sets ! (agg ! (no_more !)) refl (tt, tt) $
    sets ! (agg ! (and_then ! (get ! refl) (no_more !))) refl (tt, (tt, tt)) $
    returns ! (look_at ! 0 refl) $ free_all ! refl $
    -- [the tail; the token; nothing]
    let r : (row.the_row R0).Denot = record {
      mark = record {};
      ptr = d.ptr;
      cap = d.cap;
      items = d.items;
    } in
    use0 𝓛 (‵ (mark_own (mark_val ∷ []))) (mark_made 𝓛) $ fjoin ! $ move ! (1 ∷ 2 ∷ []) $ join ! $
    let Ends : Type 0 = (d.ptr ≡ d.ptr) × (d.cap ≡ d.cap) × (d.items ≡ d.items) in
    use0 𝓛 (raw (fact 𝓤 Ends)) (fact_i 𝓤 Ends (emp 𝓤) (refl, refl, refl)) $
    nothing ! $ nothing ! $ fjoin ! $ move ! (2 ∷ 0 ∷ 3 ∷ 1 ∷ []) $
    by ! (leaves 𝓛 En₀ hs c z mark_val r (tt, tt) (tt, tt)))))))))
