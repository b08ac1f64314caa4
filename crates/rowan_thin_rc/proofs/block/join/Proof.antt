-- `join` glues the block. Assumes `Logic`.
use Rattle.std.proofs.Common.{◌≡◌, ℕ, ◌+◌, List, [], ◌∷◌, ◌++◌, refl, ap, ◌∙◌, w64}
use mir.Syntax.{ty_array, Fn, Args, a_type, dcons, dnil}
use mir.Val.{Val, vint}
use mir.MapTy.{inst_fn}
use base.Logic.{SProp, emp, never, id⊢}
use base.Fml.{froom}
use prog.Wp.{WpFn}
use contract.BorrowLft.{◌⊑◌}
use contract.Monad.{fact, fact_i}
use contract.Running.{tables}
use types.Kit.{‵, raw, ◌⊛◌, prop, ◌$◌, ◌∵◌, !, qed, by, move, drop, use0, use1, use3, split, split3}
use types.Kit.{rewrite, regoal, fsplit, fjoin}
use types.Part.{whole, sub, agg}
use types.Run.{stop, fld, of_opd, no_more, and_then, returns, enter}
use types.ByLocal.{alloc_all, pass_all, free_all, look_at, get, get_in, sets}
use denote.RattleType.{RattleType, owns}
use denote.RawPtr.{Ptr, block_ptr, in_a_block, ◌+ₚ◌}
use denote.Param.{param, bounded, layout}
use denote.Signature.{types_at}
use denote.Steps.{nothing, heard}
use denote.Triple.Entry.{alive}
use denote.Triple.Walked.{Stays, stay_dropped, walk_of, Goes-dropped}
use Rattle.std.proofs.alloc.Calls.{Goes-blank}
use Rattle.std.proofs.raw_atomic.Walks.{proved_at, leaves}
use Rattle.rowan_thin_rc.specs.Counting.{room_owns}
use Rattle.rowan_thin_rc.proofs.Walks.{slot_at, chunk_val, mark_val, word_val, word_told, mark_told}
use Rattle.rowan_thin_rc.proofs.Walks.{chunk_own, chunk_made}
use Rattle.rowan_thin_rc.proofs.Rooms.{glue_rooms, tail_out}
use Rattle.rowan_thin_rc.specs.Ownership.{words, right_owns, tail_owns, front_size, front_words}
use Rattle.rowan_thin_rc.specs.Ownership.{Cut}
use Rattle.rowan_thin_rc.specs.contracts.block.Chunk as chunk
use Rattle.rowan_thin_rc.specs.contracts.block.join.{ended, clauses}
use Rattle.rowan_thin_rc.specs.contracts.block.join.Key.{name as #self}
use Rattle.rowan_thin_rc.proofs.block.join.Statement.{statement}
use Rattle.rowan_thin_rc.proofs.block.join.Code as compiled

pub join_spec : {M : Type 1} → statement M
join_spec 𝓤 𝓛 𝓜 𝓡 wired F T A LF LT L g d dd met md =
    let H = 𝓛.H in
    let En₀ = ended F T A g d dd in
    let c = clauses F T A g d dd 𝓛 𝓜.mem 𝓡.returns in
    let args : Args =
    bounded (a_type ∷ a_type ∷ a_type ∷ []) (F, (T, (A, tt))) (dcons d (dcons dd dnil)) in
    let fn : Fn = inst_fn args compiled.function in
    let hs : Stays En₀.signature.params En₀.kept = (
      stay_dropped (slot_at 0 En₀.signature.params) En₀.kept.0,
      (
        stay_dropped (slot_at 1 En₀.signature.params) En₀.kept.1.0,
        (
          stay_dropped (slot_at 2 En₀.signature.params) En₀.kept.1.1.0,
          (stay_dropped (slot_at 3 En₀.signature.params) En₀.kept.1.1.1.0, tt),
        ),
      ),
    ) in
    let C = (tables 𝓤 H 𝓜 𝓡 𝓡.env).C in
    let Λ = (tables 𝓤 H 𝓜 𝓡 𝓡.env).Λ in
    proved_at 𝓛 En₀ hs c 𝓜 𝓡 (
      Goes-dropped 𝓛 3 (slot_at 0 En₀.signature.params) En₀.kept.0
          (λ κs x f. refl),
      (
        Goes-blank 𝓛 3 (slot_at 1 En₀.signature.params) En₀.kept.1.0 (λ κs x f. tt),
        (
          Goes-blank 𝓛 3 (slot_at 2 En₀.signature.params) En₀.kept.1.1.0 (λ κs x f. tt),
          (Goes-dropped 𝓛 3 (slot_at 3 En₀.signature.params) En₀.kept.1.1.1.0 (λ κs x f. refl), tt),
        ),
      ),
    )
    (#self args) fn (compiled.unfolded 𝓤 H 𝓜 𝓡 wired (F, (T, (A, tt))) d dd) (λ z are.
    let Post : Val → SProp 𝓤 = (walk_of 𝓛 En₀ hs c).post z in
    let a = z.0.3 in
    let vss = z.0.4 in
    let room = a.0 in
    let tail = a.1.0 in
    let right = a.1.1.0 in
    let h = right.alloc in
    let n = a.1.1.1.0 in
    let fits = are.1.1.1.0.1 in
    let FR : RattleType = param 0 F in
    let TR : RattleType = param 1 T in
    let Asked : Type 0 =
    (tail.items ≡ []) × (tail.ptr ≡ room.ptr +ₚ front_size F) × (right.ptr ≡ room.ptr)
    × (right.count ≡ n) × (right.front ≡ front_words F) × Cut F T tail.cap n in
    let φF = z.0.0.0 ⊑ F.lives in let φT = z.0.0.1.0 ⊑ T.lives in let φA = z.0.0.1.1.0 ⊑ A.lives in
    qed 𝓛 ((raw (alive 𝓛 En₀.signature z.0.0 z.0.1)
    ⊛ ‵ (owns (types_at En₀.signature.params z.0.0) a vss))
    ∷ (raw (fact 𝓤 φF) ⊛ raw (fact 𝓤 φT) ⊛ raw (fact 𝓤 φA) ⊛ raw (fact 𝓤 Asked)) ∷ []) ∵
    move ! (1 ∷ []) $ split3 ! $ drop ! $ drop ! $ split ! $ drop ! $
    heard ! Asked (λ asked. split ! $ move ! (1 ∷ []) $
    fsplit ! $ fsplit ! $ drop ! $ move ! (1 ∷ []) $ fsplit ! $ fsplit ! $ drop ! $
    move ! (1 ∷ []) $ fsplit ! $ fsplit ! $ drop ! $ move ! (1 ∷ []) $ drop ! $
    -- [the right; the tail; the room; the lifetimes' tokens]
    move ! (2 ∷ []) $ in_a_block ! room.ptr (room_owns FR) (id⊢ 𝓤 (never 𝓤)) (λ b o placed.
    let p : Ptr = block_ptr b o in
    let at : Ptr = block_ptr b (o + front_size F) in
    rewrite ! 1 (λ (r : Ptr). ‵ (right_owns (g.dealloc_token h) r right.count right.front))
    (asked.2 ∙ placed) refl $
    rewrite ! 1 (λ (k : ℕ). ‵ (right_owns (g.dealloc_token h) p k right.front)) asked.3 refl $
    rewrite ! 1 (λ (k : ℕ). ‵ (right_owns (g.dealloc_token h) p n k)) asked.4 refl $
    rewrite ! 2 (λ (xs : List T.Denot). ‵ (tail_owns TR tail.ptr tail.cap xs)) asked.0 refl $
    rewrite ! 2 (λ (r : Ptr). ‵ (tail_owns TR r tail.cap []))
    (asked.1 ∙ ap (λ (r : Ptr). r +ₚ front_size F) placed) refl $
    move ! (2 ∷ []) $
    use1 𝓛 (‵ (froom (ty_array (layout T) tail.cap) b (o + front_size F)))
    (tail_out T LT tail.cap b (o + front_size F) 𝓛) $ move ! (2 ∷ []) $ fsplit ! $
    move ! (3 ∷ 2 ∷ 1 ∷ []) $
    use3 𝓛 (‵ (froom (words n) b o)) (glue_rooms F T tail.cap n asked.5 𝓛 b o) $ fjoin ! $
    regoal ! (λ (us : List Val). prop (WpFn 𝓤 H C Λ fn us Post))
    (λ i. ((word_told room.ptr vss.0 are.0.0).0 ∙ ap (λ (r : Ptr). word_val r ∷ []) placed) i
    ++ ((mark_told vss.1.0 are.1.0.0).0 i
    ++ ((mark_told vss.1.1.0 are.1.1.0.0).0 i ++ (are.1.1.1.0.0 i ++ [])))) refl $
    enter ! C Λ fn (word_val p ∷ mark_val ∷ mark_val ∷ vint w64 n ∷ []) Post $
    alloc_all !
    (λ l. pass_all ! refl (
      (tt, (tt, tt)),
      ((tt, (tt, tt)), ((tt, (tt, tt)), ((tt, record { fits = fits }), tt))),
    ) $
    sets ! (of_opd ! (get_in ! (fld ! refl (stop !)) (sub ! 0 refl (whole !)))) refl (tt, tt) $
    sets ! (of_opd ! (get_in ! (fld ! refl (stop !)) (sub ! 0 refl (whole !)))) refl (tt, tt) $
    sets ! (of_opd ! (get ! refl)) refl (tt, tt) $
    sets ! (agg !
    (and_then ! (get ! refl) (and_then ! (get ! refl) (and_then ! (get ! refl) (no_more !)))))
    refl (tt, (tt, (record { fits = fits }, (tt, tt)))) $
    returns ! (look_at ! 0 refl) $ free_all ! refl $
    let x : (chunk.the_row (param 2 A) g).Denot = record {
      ptr = p;
      count = n;
      mark = record {};
      alloc = h;
    } in
    use0 𝓛 (‵ (chunk_own p n (chunk_val p n ∷ []))) (chunk_made 𝓛 p n fits) $ fjoin ! $
    let Ends : Type 0 = (h ≡ h) × (n ≡ n) in
    use0 𝓛 (raw (fact 𝓤 Ends)) (fact_i 𝓤 Ends (emp 𝓤) (refl, refl)) $
    nothing ! $ nothing ! $ fjoin ! $ nothing ! $ fjoin ! $ nothing ! $ fjoin ! $ nothing ! $
    fjoin ! $ move ! (3 ∷ 0 ∷ 2 ∷ 1 ∷ []) $
    by ! (leaves 𝓛 En₀ hs c z (chunk_val p n) x (tt, (tt, (tt, (tt, tt))))
    (tt, (tt, (tt, (tt, tt)))))))))
