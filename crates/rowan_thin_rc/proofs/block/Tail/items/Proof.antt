-- `items` reads through a `&`. Assumes `Logic`.
use Rattle.std.proofs.Common.{◌≡◌, ℕ, ◌+◌, ◌*◌, ◌^◌, ◌<◌, ◌≤◌, List, [], ◌∷◌, ◌++◌, length, refl}
use Rattle.std.proofs.Common.{sym, ap, ◌∙◌, subst, arith, w64}
use mir.Syntax.{Fn, Args, a_type}
use mir.Val.{Val, vptr, vint}
use mir.MapTy.{inst_fn}
use native.Mathlib.Nat.{mul-le-mul_right, lt_of_le_of_lt}
use base.Logic.{SProp, emp, id⊢, never, fst∗}
use base.Fml.{Lft, fhide}
use prog.Memory.{size}
use prog.Wp.{Env, WpFn}
use contract.BorrowLft.{◌⊑◌}
use contract.Monad.{fact, fact_i}
use contract.Running.{tables}
use types.Logic.{sem}
use types.Kit.{‵, raw, ◌⊛◌, prop, at_ret, ◌$◌, ◌∵◌, !, qed, by, move, drop, use0, use1, split}
use types.Kit.{rewrite, regoal, fsplit, fjoin, feq_i, flt_i, flt_l}
use types.Part.{agg, whole, sub}
use types.Run.{stop, fld, lit, size_lit, bin, of_opd, no_more, and_then, first, blocks, exec}
use types.Run.{returns, enter}
use types.ByLocal.{alloc_all, pass_all, free_all, look_at, get, get_in, sets, sets_last, is, env}
use denote.Array.{Array}
use denote.Memory.{mem, shared_of, hidden_shr}
use denote.Opens.{unhide, hide}
use denote.RattleType.{RattleType, owns}
use denote.RawPtr.{Ptr, block_ptr, in_a_block, ◌+ₚ◌}
use denote.Param.{param, layouts}
use denote.Signature.{types_at}
use denote.Slice.{slice_val}
use denote.Steps.{nothing, heard}
use denote.Struct.Struct.{Struct}
use denote.Struct.Owning.{shape}
use denote.Struct.Lending.{lent_at}
use denote.Triple.Entry.{alive}
use denote.Triple.Walked.{Stays, stay_dropped, walk_of, Goes-dropped}
use Rattle.std.proofs.raw_atomic.Walks.{proved_at, leaves}
use Rattle.std_alloc.proofs.VecSteps.Shapes.{after}
use Rattle.rowan_thin_rc.proofs.Walks.{slot_at, word_val, word_told}
use Rattle.rowan_thin_rc.proofs.Rooms.{written, front_is}
use Rattle.rowan_thin_rc.specs.Ownership.{tail_shares, front_size}
use Rattle.rowan_thin_rc.specs.contracts.block.Tail as row
use Rattle.rowan_thin_rc.specs.contracts.block.Tail.items.{ended, clauses}
use Rattle.rowan_thin_rc.specs.contracts.block.Tail.items.Key.{name as #self}
use Rattle.rowan_thin_rc.proofs.block.Tail.items.Statement.{statement}
use Rattle.rowan_thin_rc.proofs.block.Tail.items.Code as compiled

pub items_spec : {M : Type 1} → statement M
items_spec 𝓤 𝓛 𝓜 𝓡 wired T F LT LF =
    let H = 𝓛.H in
    let En₀ = ended T F in
    let c = clauses T F 𝓛 𝓜.mem 𝓡.returns in
    let args : Args = layouts (a_type ∷ a_type ∷ []) (T, (F, tt)) in
    let fn : Fn = inst_fn args compiled.function in
    let hs : Stays En₀.signature.params En₀.kept = (
      stay_dropped (slot_at 0 En₀.signature.params) En₀.kept.0,
      (
        stay_dropped (slot_at 1 En₀.signature.params) En₀.kept.1.0,
        (stay_dropped (slot_at 2 En₀.signature.params) En₀.kept.1.1.0, tt),
      ),
    ) in
    let C = (tables 𝓤 H 𝓜 𝓡 𝓡.env).C in
    let Λ = (tables 𝓤 H 𝓜 𝓡 𝓡.env).Λ in
    proved_at 𝓛 En₀ hs c 𝓜 𝓡 (
      Goes-dropped 𝓛 3 (slot_at 0 En₀.signature.params) En₀.kept.0
          (λ κs x f. refl),
      (
        Goes-dropped 𝓛 3 (slot_at 1 En₀.signature.params) En₀.kept.1.0 (λ κs x f. refl),
        (Goes-dropped 𝓛 3 (slot_at 2 En₀.signature.params) En₀.kept.1.1.0 (λ κs x f. refl), tt),
      ),
    )
    (#self args) fn (compiled.unfolded 𝓤 H 𝓜 𝓡 wired (T, (F, tt))) (λ z are.
    let Post : Val → SProp 𝓤 = (walk_of 𝓛 En₀ hs c).post z in
    let a = z.0.3 in
    let vss = z.0.4 in
    let tail = a.0.now in
    let rb = a.0.ref_ptr.0 in
    let ro = a.0.ref_ptr.1 in
    let base = a.1.0.ptr in
    let n = a.1.1.0 in
    let xs = tail.items in
    let κ : Lft = z.0.0.0 in
    let f = front_size F in
    let TR : RattleType = param 0 T in
    let fits = are.1.1.0.1 in
    let Asked : Type 0 = (tail.ptr ≡ base +ₚ f) × (length xs ≡ n) × (n ≤ tail.cap) × (f < 2 ^ 63) in
    let φT = z.0.0.1.0 ⊑ T.lives in let φF = z.0.0.1.1.0 ⊑ F.lives in
    let Words : RattleType = Struct (shape (row.the_type TR)) in
    qed 𝓛 ((raw (alive 𝓛 En₀.signature z.0.0 z.0.1)
    ⊛ ‵ (owns (types_at En₀.signature.params z.0.0) a vss))
    ∷ (raw (fact 𝓤 φT) ⊛ raw (fact 𝓤 φF) ⊛ raw (fact 𝓤 Asked)) ∷ []) ∵
    move ! (1 ∷ []) $ split ! $ drop ! $ split ! $ drop ! $
    heard ! Asked (λ asked. split ! $ move ! (1 ∷ []) $
    fsplit ! $ fsplit ! $ drop ! $ move ! (1 ∷ []) $ drop ! $
    use1 𝓛 (‵ (hidden_shr Words κ (record {}, tt) rb ro)
    ⊛ ‵ (fhide (tail_shares TR tail.ptr tail.cap xs κ))) (id⊢ 𝓤 _) $ split ! $ drop ! $
    unhide ! $ fsplit ! $ flt_l ! (λ fit.
    rewrite ! 0 (λ (r : Ptr). ‵ (lent_at (Array TR (length xs)) r xs κ)) asked.0 refl $
    in_a_block ! base (λ r. lent_at (Array TR (length xs)) (r +ₚ f) xs κ)
    (fst∗ 𝓤 (never 𝓤) (sem 𝓛 (shared_of (Array TR (length xs)) xs 0 0 κ))) (λ b o placed.
    fsplit ! $ drop ! $ fsplit ! $ drop ! $ hide ! $
    -- [what the slice holds; the lifetimes' tokens]
    let s : ℕ = size (written F) in
    let same : s ≡ f = front_is F in
    let tiny : s < 2 ^ 64 = let i = asked.3 in omega arith in
    let far : 1 * s < 2 ^ 64 = let i = asked.3 in omega arith in
    let there : 1 * s + o ≡ o + f = omega arith in
    let at : ℕ × ℕ = (b, o + f) in
    let v : Val = slice_val at n in
    regoal ! (λ (us : List Val). prop (WpFn 𝓤 H C Λ fn us Post))
    (λ i. are.0.0 i
    ++ (((word_told base vss.1.0 are.1.0).0 ∙ ap (λ (r : Ptr). word_val r ∷ []) placed) i
    ++ (are.1.1.0.0 i ++ []))) refl $
    enter ! C Λ fn (vptr rb ro ∷ word_val (block_ptr b o) ∷ vint w64 n ∷ []) Post $
    alloc_all !
    (λ l. pass_all ! refl ((tt, tt), ((tt, (tt, tt)), ((tt, record { fits = fits }), tt))) $
    let En : Env 𝓤 𝓛.H = env fn.locals l in
    sets ! (of_opd ! (get_in ! (fld ! refl (stop !)) (sub ! 0 refl (whole !)))) refl (tt, tt) $
    first ! $ blocks ! $
    sets ! (bin ! (lit ! tt) (size_lit ! (record { fits = tiny })) (record { fits = far })) refl
    (tt, record { fits = far }) $
    sets ! (is ! (bin ! (get ! refl) (get ! refl) tt) (ap (λ (j : ℕ). vptr b j) there)) refl
    (tt, tt) $
    sets ! (of_opd ! (get ! refl)) refl (tt, tt) $
    sets_last ! (agg ! (and_then ! (get ! refl) (and_then ! (get ! refl) (no_more !)))) refl
    (tt, (tt, (record { fits = fits }, tt))) $
    exec ! C Λ En (after 2 fn.body) (at_ret En Post) $
    sets ! (of_opd ! (get ! refl)) refl (tt, (tt, (record { fits = fits }, tt))) $
    returns ! (look_at ! 0 refl) $ free_all ! refl $
    flt_i ! (length xs * (mem TR).size) (2 ^ 63)
    (lt_of_le_of_lt
    (mul-le-mul_right (mem TR).size (subst (λ (k : ℕ). k ≤ tail.cap) (sym asked.1) asked.2))
    fit) $
    flt_i ! (length xs) (2 ^ 64) (subst (λ (k : ℕ). k < 2 ^ 64) (sym asked.1) fits) $ fjoin ! $
    feq_i ! (List Val) (v ∷ []) (slice_val at (length xs) ∷ [])
    (ap (λ (k : ℕ). slice_val at k ∷ []) (sym asked.1)) $ fjoin ! $ fjoin ! $
    let Ends : Type 0 = xs ≡ xs in
    use0 𝓛 (raw (fact 𝓤 Ends)) (fact_i 𝓤 Ends (emp 𝓤) refl) $
    nothing ! $ nothing ! $ fjoin ! $ nothing ! $ fjoin ! $ nothing ! $ fjoin ! $
    move ! (3 ∷ 0 ∷ 2 ∷ 1 ∷ []) $
    by ! (leaves 𝓛 En₀ hs c z v (record { ref_ptr = at; now = xs }) (tt, (tt, (tt, tt)))
    (tt, (tt, (tt, tt)))))))))
