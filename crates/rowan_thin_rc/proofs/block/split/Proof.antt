-- `split` cuts the block. Assumes `Logic`.
use Rattle.std.proofs.Common.{◌≡◌, ◌+◌, List, [], ◌∷◌, ◌++◌, refl, sym, ap, ◌∙◌, arith, w64}
use mir.Syntax.{Ty, ty_array, Fn, Args, a_type, dcons, dnil}
use mir.Val.{Val, vint}
use mir.MapTy.{inst_fn}
use base.Logic.{SProp, emp, never, fst∗}
use base.Fml.{froom}
use prog.Wp.{WpFn}
use contract.BorrowLft.{◌⊑◌}
use contract.Monad.{fact, fact_i}
use contract.Running.{tables}
use types.Logic.{sem}
use types.Kit.{‵, raw, ◌⊛◌, prop, ◌$◌, ◌∵◌, !, qed, by, move, drop, use0, use1, use3, split, split3}
use types.Kit.{regoal, fsplit, fjoin, done}
use types.Part.{whole, sub, agg}
use types.Run.{stop, fld, of_opd, no_more, and_then, returns, enter}
use types.ByLocal.{alloc_all, pass_all, free_all, look_at, get, get_in, sets}
use denote.RattleType.{RattleType, owns}
use denote.RawPtr.{Ptr, block_ptr, null_ptr, in_a_block, ◌+ₚ◌}
use denote.Param.{param, bounded, layout}
use denote.Signature.{types_at}
use denote.Steps.{nothing, heard}
use denote.Struct.Tuple.{Tuple}
use denote.Triple.Entry.{alive}
use denote.Triple.Walked.{Stays, stay_dropped, walk_of, Goes-dropped}
use Rattle.std.proofs.alloc.Calls.{Goes-blank}
use Rattle.std.proofs.raw_atomic.Walks.{proved_at, leaves}
use Rattle.rowan_thin_rc.specs.Counting.{count_box_type}
use Rattle.rowan_thin_rc.specs.contracts.count.Room as room
use Rattle.rowan_thin_rc.proofs.Walks.{slot_at, chunk_val, chunk_told, mark_own, mark_val}
use Rattle.rowan_thin_rc.proofs.Walks.{mark_made, word_own, word_val, word_made, triple_val}
use Rattle.rowan_thin_rc.proofs.Walks.{triple_own}
use Rattle.rowan_thin_rc.proofs.Rooms.{cut_rooms, Way, tail_in}
use Rattle.rowan_thin_rc.specs.Ownership.{words, chunk_owns, tail_owns, front_size, front_words}
use Rattle.rowan_thin_rc.specs.Ownership.{Cut}
use Rattle.rowan_thin_rc.specs.contracts.block.Tail as tail
use Rattle.rowan_thin_rc.specs.contracts.block.Right as right
use Rattle.rowan_thin_rc.specs.contracts.block.split.{ended, clauses}
use Rattle.rowan_thin_rc.specs.contracts.block.split.Key.{name as #self}
use Rattle.rowan_thin_rc.proofs.block.split.Statement.{statement}
use Rattle.rowan_thin_rc.proofs.block.split.Code as compiled

pub split_spec : {M : Type 1} → statement M
split_spec 𝓤 𝓛 𝓜 𝓡 wired F T A LF LT L g d dd met md =
    let H = 𝓛.H in
    let En₀ = ended F T A g d dd in
    let c = clauses F T A g d dd 𝓛 𝓜.mem 𝓡.returns in
    let args : Args =
    bounded (a_type ∷ a_type ∷ a_type ∷ []) (F, (T, (A, tt))) (dcons d (dcons dd dnil)) in
    let fn : Fn = inst_fn args compiled.function in
    let hs : Stays En₀.signature.params En₀.kept = (
      stay_dropped (slot_at 0 En₀.signature.params) En₀.kept.0,
      (stay_dropped (slot_at 1 En₀.signature.params) En₀.kept.1.0, tt),
    ) in
    let C = (tables 𝓤 H 𝓜 𝓡 𝓡.env).C in
    let Λ = (tables 𝓤 H 𝓜 𝓡 𝓡.env).Λ in
    proved_at 𝓛 En₀ hs c 𝓜 𝓡 (
      Goes-blank 𝓛 3 (slot_at 0 En₀.signature.params) En₀.kept.0
          (λ κs x f. tt),
      (Goes-dropped 𝓛 3 (slot_at 1 En₀.signature.params) En₀.kept.1.0 (λ κs x f. refl), tt),
    )
    (#self args) fn (compiled.unfolded 𝓤 H 𝓜 𝓡 wired (F, (T, (A, tt))) d dd) (λ z are.
    let Post : Val → SProp 𝓤 = (walk_of 𝓛 En₀ hs c).post z in
    let a = z.0.3 in
    let vss = z.0.4 in
    let x = a.0 in
    let h = x.alloc in
    let n = x.count in
    let cap = a.1.0 in
    let τ : Ty = words n in
    let FR : RattleType = param 0 F in
    let TR : RattleType = param 1 T in
    let told = chunk_told x.ptr n vss.0 are.0.0 in
    let Asked : Type 0 = Cut F T cap n in
    let φF = z.0.0.0 ⊑ F.lives in let φT = z.0.0.1.0 ⊑ T.lives in let φA = z.0.0.1.1.0 ⊑ A.lives in
    qed 𝓛 ((raw (alive 𝓛 En₀.signature z.0.0 z.0.1)
    ⊛ ‵ (owns (types_at En₀.signature.params z.0.0) a vss))
    ∷ (raw (fact 𝓤 φF) ⊛ raw (fact 𝓤 φT) ⊛ raw (fact 𝓤 φA) ⊛ raw (fact 𝓤 Asked)) ∷ []) ∵
    move ! (1 ∷ []) $ split3 ! $ drop ! $ drop ! $ split ! $ drop ! $
    heard ! Asked (λ asked. split ! $ move ! (1 ∷ []) $
    fsplit ! $ fsplit ! $ drop ! $
    in_a_block ! x.ptr (λ r. chunk_owns (g.dealloc_token h) r n)
    (fst∗ 𝓤 (never 𝓤) (sem 𝓛 (g.dealloc_token h τ null_ptr))) (λ b o placed.
    move ! (1 ∷ []) $ drop ! $ fsplit ! $
    -- [the words; the token; the lifetimes' tokens]
    let p : Ptr = block_ptr b o in
    let at : Ptr = block_ptr b (o + front_size F) in
    use1 𝓛 (‵ (froom (count_box_type F) b o) ⊛ ‵ (tail_owns TR at cap [])
    ⊛ ‵ (Way F T cap n asked 𝓛 b o))
    (qed 𝓛 (‵ (froom (words n) b o) ∷ []) ∵
    use1 𝓛 (‵ (froom (count_box_type F) b o)
    ⊛ ‵ (froom (ty_array (layout T) cap) b (o + front_size F)) ⊛ ‵ (Way F T cap n asked 𝓛 b o))
    (cut_rooms F T cap n asked 𝓛 b o) $ split3 ! $ move ! (1 ∷ []) $
    use1 𝓛 (‵ (tail_owns TR at cap [])) (tail_in T LT cap b (o + front_size F) 𝓛 (let i = asked.3 in
    let j = asked.4 in omega arith)) $ move ! (1 ∷ 0 ∷ 2 ∷ []) $ done !) $ split3 ! $
    move ! (3 ∷ 2 ∷ []) $ fjoin ! $ move ! (1 ∷ 2 ∷ 0 ∷ []) $
    regoal ! (λ (us : List Val). prop (WpFn 𝓤 H C Λ fn us Post))
    (λ i. (told.0 ∙ ap (λ (r : Ptr). chunk_val r n ∷ []) placed) i ++ (are.1.0.0 i ++ []))
    refl $
    enter ! C Λ fn (chunk_val p n ∷ vint w64 cap ∷ []) Post $
    alloc_all ! (λ l. pass_all ! refl (
      (tt, (tt, (record { fits = told.1 }, (tt, tt)))),
      ((tt, record { fits = are.1.0.1 }), tt),
    ) $
    sets ! (of_opd ! (get_in ! (fld ! refl (stop !)) (sub ! 0 refl (whole !)))) refl (tt, tt) $
    sets ! (of_opd ! (get_in ! (fld ! refl (stop !)) (sub ! 2 refl (whole !)))) refl (tt, tt) $
    sets ! (of_opd ! (get ! refl)) refl (tt, tt) $
    sets ! (agg ! (and_then ! (get ! refl) (no_more !))) refl (tt, (tt, tt)) $
    sets ! (of_opd ! (get ! refl)) refl (tt, (tt, tt)) $
    sets ! (agg ! (no_more !)) refl (tt, tt) $
    sets ! (agg ! (and_then ! (get ! refl) (no_more !))) refl (tt, (tt, tt)) $
    sets ! (agg ! (and_then ! (get ! refl) (no_more !))) refl (tt, (tt, tt)) $
    sets ! (agg !
    (and_then ! (get ! refl) (and_then ! (get ! refl) (and_then ! (get ! refl) (no_more !)))))
    refl (tt, ((tt, tt), ((tt, tt), ((tt, tt), tt)))) $
    returns ! (look_at ! 0 refl) $ free_all ! refl $
    let r₀ : (room.the_row FR).Denot = record { ptr = p } in
    let r₁ : (tail.the_row TR).Denot = record {
      mark = record {};
      ptr = at;
      cap = cap;
      items = [];
    } in
    let r₂ : (right.the_row (param 2 A) g).Denot = record {
      mark = record {};
      alloc = h;
      ptr = p;
      count = n;
      front = front_words F;
    } in
    let v : Val = triple_val (word_val p) mark_val mark_val in
    use0 𝓛 (‵ (word_own p (word_val p ∷ []))) (word_made 𝓛 p) $ fjoin ! $ move ! (1 ∷ []) $
    use0 𝓛 (‵ (mark_own (mark_val ∷ []))) (mark_made 𝓛) $ fjoin ! $ move ! (2 ∷ []) $
    use0 𝓛 (‵ (mark_own (mark_val ∷ []))) (mark_made 𝓛) $ fjoin ! $ move ! (2 ∷ 1 ∷ 0 ∷ []) $
    use3 𝓛 (‵
    ((Tuple (room.the_row FR ∷ tail.the_row TR ∷ right.the_row (param 2 A) g ∷ [])).own_val
    (r₀, r₁, r₂) (v ∷ [])))
    (triple_own 𝓛 (room.the_row FR) (tail.the_row TR) (right.the_row (param 2 A) g) r₀ r₁ r₂
    (word_val p) mark_val mark_val) $
    let Ends : Type 0 =
    (p ≡ x.ptr) × (at ≡ x.ptr +ₚ front_size F) × (cap ≡ cap) × (◌≡◌ {A = List T.Denot} [] [])
    × (h ≡ h) × (p ≡ x.ptr) × (n ≡ n) × (front_words F ≡ front_words F) in
    use0 𝓛 (raw (fact 𝓤 Ends))
    (fact_i 𝓤 Ends (emp 𝓤) (
      sym placed,
      ap (λ (r : Ptr). r +ₚ front_size F) (sym placed),
      refl,
      refl,
      refl,
      sym placed,
      refl,
      refl,
    )) $
    nothing ! $ nothing ! $ fjoin ! $ nothing ! $ fjoin ! $ move ! (3 ∷ 0 ∷ 2 ∷ 1 ∷ []) $
    by ! (leaves 𝓛 En₀ hs c z v (r₀, r₁, r₂) (tt, (tt, tt)) (tt, (tt, tt)))))))
