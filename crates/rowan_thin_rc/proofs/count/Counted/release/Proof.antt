-- `release` gives an owner up, and the last one gets the value.
use mathlib.Core.Path.{refl, sym, subst, ap}
use Prim.Native.Nat.{◌-◌, ◌<◌, ◌^◌}
use native.Mathlib.Omega.{arith}
use lib.Dec.{lit<}
use mir.Syntax.{Fn, Sym}
use mir.Val.{Val, vcons, vnil}
use base.Logic.{SProp, ent}
use base.Fml.{ftrue, flft, ftok}
use contract.BorrowLft.{◌⊑◌}
use prog.Wp.{Env, Calls, Loops, Wp, WpFn, Tables, after_block, after_seq, at_return}
use types.Kit.{Item, ⋆, ‵, raw, ◌⊛◌, at_ret, any_q, ◌$◌, ◌∵◌, !, qed, by, move, keep, use0, use1}
use types.Kit.{use2, split, join, fsplit, fjoin, rewrite, suffices, frame, done}
use types.Run.{look, store, stop, fld, addr, load, lit, bin, of_opd, and_then, no_more, assigns}
use types.Run.{first, blocks, skips, branches, exec, returns, returns_within, enter}
use types.Part.{sub, whole, agg}
use types.Match.{live}
use types.ByLocal.{alloc_all, pass_all, free_all, look_at, get, get_in, through, sets, sets_last}
use types.ByLocal.{is, env}
use types.RcWeak.{part, part_in}
use denote.RattleType.{RattleType, owns}
use denote.RawPtr.{Ptr, ptr_val}
use denote.Steps.{nothing}
use denote.Triple.Walked.{says, Stays, stay_dropped, walk_of, ends_at, Goes-dropped, walk_Meets}
use Rattle.std.specs.contracts.option.Option as Opt
use Rattle.std.specs.declared.option.Option.TheVariants.{None, Some}
use denote.Memory.{lone}
use denote.Struct.Tuple.{Tuple}
use Rattle.std_alloc.proofs.Pairs.{pair_val, pair_Typed, pair_of}
use mathlib.Core.List.{List, [], ◌∷◌, ◌++◌}
use seplogic.Ra.Ura.{Ura}
use mir.MapTy.{inst_fn}
use prog.Memory.{Memory}
use prog.Routine.{Routine}
use types.Logic.{Logic}
use sound.WpLaws.{WpFn-mono}
use denote.Exit.{no}
use denote.Signature.{types_at, plain}
use denote.Triple.Clauses.{Clauses, Ended, closing}
use denote.Triple.Spec.{Meets, triple_of}
use denote.Triple.Table.{entered}
use contract.Monad.{Fun, fact}
use base.Mask.{every}
use contract.Beside.{Carries}
use contract.Named.{bare_unfolds}
use contract.Running.{tables_of, bare_tables}
use denote.Triple.Handed.{holding, hands}
use Rattle.rowan_thin_rc.specs.Counting.{room_owns}
use Rattle.std_alloc.proofs.VecSteps.Shapes.{after, head, inside}
use Rattle.std_alloc.proofs.BoxSteps.Form.{Bx, X, R, τ}
use Rattle.std_alloc.proofs.RcSteps.{Good, some_Good, is_not, is_so, word, word_ty, word-Good}
use Rattle.std_alloc.proofs.RcSteps.{Some-of, none_of}
use Rattle.rowan_thin_rc.proofs.CountSteps.{of, args₁, word_had, word_made, counted, counted_had}
use Rattle.rowan_thin_rc.proofs.CountSteps.{opens_strong, shut, less, value_out, block_back}
use Rattle.rowan_thin_rc.specs.contracts.count.Counted as RC
use Rattle.rowan_thin_rc.specs.contracts.count.Room as RM
use Rattle.rowan_thin_rc.specs.contracts.count.Counted.release as F
use Rattle.rowan_thin_rc.specs.contracts.count.Counted.release.Key.{name as #self}
use Rattle.rowan_thin_rc.proofs.count.Counted.release.Statement as stated
use Rattle.rowan_thin_rc.proofs.count.Counted.release.Code as code
use Rattle.rowan_thin_rc.proofs.count.Counted.release.Code.{code}

module _ (E : Bx) where
  abbrev fn' : Fn
  fn' = inst_fn (args₁ E) code.function

  abbrev ended : Ended
  ended = F.ended E.row

  abbrev stayed : Stays ended.signature.params ended.kept
  stayed = (stay_dropped (plain (λ _. RC.the_row (R E))) no, tt)

  abbrev ν : Sym
  ν = (RC.the_type (R E)).name

  abbrev Out : RattleType
  Out = RM.the_row (R E)

  abbrev out_name : Sym
  out_name = (RM.the_type (R E)).name

  abbrev Pair : RattleType
  Pair = Tuple (R E ∷ Out ∷ [])

module _ (E : Bx) {M : Type 1} {𝓤 : Ura M} (𝓛 : Logic 𝓤) (at_mem : Memory → SProp 𝓤)
    (run : Routine → Fun 𝓤) where
  open 𝓛 use {H, A}

  abbrev held : Clauses 𝓤 (ended E)
  held = holding 𝓤 (ended E) (A.tok every) (F.clauses E.row 𝓛 at_mem run)

  module _ (C : Calls 𝓤 H) (Λ : Loops 𝓤 H) (z : (walk_of 𝓛 (ended E) (stayed E) held).Ghost) where
    abbrev At : List Val → (walk_of 𝓛 (ended E) (stayed E) held).Ghost
    At us = ((z.0.0, z.0.1, z.0.2, z.0.3, (us, tt)), z.1)

    abbrev Post : List Val → Val → SProp 𝓤
    Post us = (walk_of 𝓛 (ended E) (stayed E) held).post (At us)

    abbrev Goes : List Val → Type 1
    Goes us =
        ent 𝓤 ((walk_of 𝓛 (ended E) (stayed E) held).pre (At us))
        (WpFn 𝓤 H C Λ (fn' E) (us ++ []) (Post us))

    abbrev c : Ptr
    c = z.0.3.0.ptr

    abbrev x : X E
    x = z.0.3.0.value

    abbrev us : List Val
    us = z.0.4.0

    abbrev toks : Item 𝓤
    toks = ‵ (flft z.0.0.0 z.0.1.0) ⊛ ‵ ftrue

    abbrev Had : List (Item 𝓤)
    Had = ‵ (counted E c x z.0.3.0.label) ∷ toks ∷ ‵ (ftok every) ∷ []

    walk : ent 𝓤 (⋆ 𝓛 Had) (WpFn 𝓤 H C Λ (fn' E) (word c ∷ []) (Post us))
    walk =
        qed 𝓛 Had ∵
        enter ! C Λ (fn' E) (word c ∷ []) _ $
        alloc_all ! (λ l. pass_all ! refl (word-Good (ν E) c, tt) $
        let En : Env 𝓤 H = env (fn' E).locals l in
        counted_had E c x ! (λ a s one.
        move ! (1 ∷ 0 ∷ 4 ∷ []) $ opens_strong E c x a ! tt s (λ n cb co e fn some_n.
        move ! (4 ∷ []) $ use1 𝓛 (‵ (part 32 a.0)) (part_in 32 𝓛 a.0 s one) $
        move ! (1 ∷ 2 ∷ 3 ∷ 4 ∷ []) $
        -- [the count; the value; the one weak; what shuts; the part; what is seen; the tokens]
        sets ! (is ! (of_opd ! (get_in ! (fld ! refl (stop !)) (sub ! 0 refl (whole !))))
        (ap ptr_val e)) refl (tt, tt) $ sets ! (of_opd ! (get ! refl)) refl (tt, tt) $ first ! $
        blocks ! $
        sets ! (of_opd ! (load ! (through ! refl (fld ! refl (stop !))) (look ! 0 refl))) refl
        (tt, record { fits = fn }) $ sets ! (bin ! (get ! refl) (lit ! tt) tt) refl (tt, tt) $
        first ! $ branches ! (get ! refl)
        (λ many. let more : 1 < n = omega (arith, is_not n 1 many) in
        let f₁ : n - 1 < 2 ^ 32 = omega arith in
        sets ! (bin ! (get ! refl) (lit ! tt) some_n) refl (tt, record { fits = f₁ }) $
        assigns ! (of_opd ! (get ! refl)) (through ! refl (fld ! refl (stop !)))
        (store ! 0 refl (tt, record { fits = f₁ })) $
        sets ! (agg ! (and_then ! (lit ! tt) (no_more !))) refl
        (tt, (record { fits = lit< tt }, tt)) $
        move ! (1 ∷ 4 ∷ []) $ less E c x a ! n more $ move ! (1 ∷ 0 ∷ []) $
        shut E c x a ! tt (n - 1) cb co e f₁ $
        use0 𝓛 (‵ ((Opt.the_row (Pair E)).own_val None (live 0 vnil ∷ []))) (none_of 𝓛 (Pair E)) $
        returns_within ! (Post us) refl (look_at ! 0 refl) $ free_all ! refl $
        keep ! (0 ∷ 3 ∷ 1 ∷ []) $
        suffices ! _ (ends_at 𝓛 (ended E) (stayed E) held (At us) (live 0 vnil) None (tt, tt)
        (tt, tt)) $ nothing ! $ nothing ! $ fjoin ! $ join ! $ move ! (1 ∷ 0 ∷ []) $ join ! $
        frame ! $ says ! tt $ done !)
        (λ last. skips ! $
        exec ! C Λ En (after 3 (inside (head (after 2 (fn' E).body))))
        (any_q (after_block 𝓤 H
        (after_seq 𝓤 H (Wp 𝓤 H C Λ En (after 3 (fn' E).body) (at_return 𝓤 H En (Post us)))
        (at_return 𝓤 H En (Post us))))) $
        sets ! (addr ! (through ! refl (fld ! refl (stop !)))) refl (tt, tt) $
        move ! (1 ∷ 4 ∷ 2 ∷ 3 ∷ []) $ value_out E c x a ! tt n cb co (is_so n 1 last) e (λ v good.
        -- [the value's cell; what it owns; the rejoin; the thread's token; the count; what is seen;
        -- the tokens]
        let room : (Out E).Denot = record { ptr = c } in
        let both : Val = pair_val v (word c) in
        let typed : Good (lone (Pair E).mir) both =
        pair_Typed (τ E) (word_ty (out_name E)) v (word c) good (word-Good (out_name E) c) in
        sets ! (of_opd ! (load ! (through ! refl (stop !)) (look ! 0 refl))) refl good $
        sets ! (of_opd ! (get ! refl)) refl good $
        sets ! (is ! (agg ! (and_then ! (get ! refl) (no_more !))) (ap word (sym e))) refl
        (word-Good (out_name E) c) $
        sets ! (agg ! (and_then ! (get ! refl) (and_then ! (get ! refl) (no_more !)))) refl
        typed $
        sets_last ! (agg ! (and_then ! (lit ! tt) (and_then ! (get ! refl) (no_more !)))) refl
        (some_Good (lone (Pair E).mir) both typed) $
        exec ! C Λ En (after 3 (fn' E).body) (at_ret En (Post us)) $
        sets ! (of_opd ! (get ! refl)) refl (some_Good (lone (Pair E).mir) both typed) $
        move ! (4 ∷ 0 ∷ 2 ∷ []) $ block_back E c x ! n cb co v $
        rewrite ! 0 (λ (r : Ptr). ‵ (room_owns (R E) r)) (sym e) refl $
        word_made E (out_name E) c ! $ fjoin ! $
        move ! (1 ∷ 0 ∷ []) $
        use2 𝓛 (‵ ((Pair E).own_val (x, room) (both ∷ [])))
        (pair_of 𝓛 (R E) (Out E) x room v (word c)) $
        use1 𝓛 (‵ ((Opt.the_row (Pair E)).own_val (Some (x, room)) (live 1 (vcons both vnil) ∷ [])))
        (Some-of 𝓛 (Pair E) (x, room) both) $
        returns ! (look_at ! 0 refl) $ free_all ! refl $ keep ! (0 ∷ 3 ∷ 1 ∷ []) $
        suffices ! _ (ends_at 𝓛 (ended E) (stayed E) held (At us) (live 1 (vcons both vnil))
        (Some (x, room)) (tt, tt) (tt, tt)) $ nothing ! $ nothing ! $ fjoin ! $ join ! $
        move ! (1 ∷ 0 ∷ []) $ join ! $ frame ! $ says ! (refl, refl) $ done !)))))

    walks : Goes us
    walks =
        qed 𝓛 ((toks ⊛ ‵ (owns (types_at (ended E).signature.params z.0.0) z.0.3 (us, tt)))
        ∷ ‵ (ftok every) ∷ raw (fact 𝓤 (z.0.0.0 ⊑ E.row.lives)) ∷ ‵ ftrue ∷ []) ∵
        split ! $ move ! (1 ∷ []) $ fsplit ! $ fsplit ! $
        word_had E (ν E) c ! us (λ is. keep ! (0 ∷ 2 ∷ 3 ∷ []) $
        by ! (subst (λ (ws : List Val). ent 𝓤 (⋆ 𝓛 Had) (WpFn 𝓤 H C Λ (fn' E) (ws ++ []) (Post us)))
        (sym is) walk))

  meets : (𝓣 : Tables 𝓤 H)
      → Meets 𝓛 (ended E).signature (WpFn 𝓤 H 𝓣.C 𝓣.Λ (fn' E)) (closing 𝓛 (ended E) held)
  meets 𝓣 =
      walk_Meets 𝓛 (ended E) (stayed E)
      (Goes-dropped 𝓛 1 (plain (λ _. RC.the_row (R E))) no (λ κs x f. refl), tt) held
      (WpFn 𝓤 H 𝓣.C 𝓣.Λ (fn' E)) (WpFn-mono 𝓤 H 𝓛.laws 𝓣 (fn' E))
      (λ z. walks 𝓣.C 𝓣.Λ z)

pub release_spec : {M : Type 1} → stated.statement M
unfolding tables_of code
release_spec 𝓤 𝓛 𝓜 𝓡 wired Y L =
    let E : Bx = of Y L in
    let A = 𝓛.A in
    let c = F.clauses Y 𝓛 𝓜.mem 𝓡.returns in
    let 𝓒 : Carries 𝓤 𝓛.H 𝓜 (A.tok every) = subst (Carries 𝓤 𝓛.H 𝓜) 𝓛.turn_is 𝓡.carries in
    let 𝓣 : Tables 𝓤 𝓛.H =
    tables_of 𝓤 𝓛.H 𝓒.inner (bare_tables 𝓤 𝓛.H 𝓒.inner 𝓡.allowed 𝓡.how 𝓡.env) in
    let k = #self (args₁ E) in
    hands 𝓛 (ended E) (A.tok every) c 𝓜 𝓒 𝓡 (𝓡.env k)
    (entered 𝓤 𝓛.H
    (triple_of 𝓛 (ended E).signature
    (closing 𝓛 (ended E) (holding 𝓤 (ended E) (A.tok every) c))) 𝓣.C 𝓣.Λ k (fn' E)
    (bare_unfolds 𝓤 𝓛.H 𝓒.inner 𝓡.allowed 𝓡.how 𝓡.env k (fn' E) (wired.0.0 k refl))
    (meets E 𝓛 𝓜.mem 𝓡.returns 𝓣))
