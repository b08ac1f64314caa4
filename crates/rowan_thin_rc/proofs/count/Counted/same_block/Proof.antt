-- `same_block` opens one count or two. Under one name both are the same; under two they are apart.
use mathlib.Core.Path.{◌≡◌, refl, sym, subst, ap, ◌∙◌}
use mathlib.Core.Logic.{dite}
use mathlib.Core.Bool.{true, false, true≢false, false≢true}
use native.Mathlib.Decide.{ℕ_discrete}
use Prim.Native.Nat.{ℕ, zero, suc, ◌+◌, ◌<◌}
use native.Mathlib.Omega.{arith}
use lib.Dec.{lit<, eqb, eqb-suc-zero}
use mir.Syntax.{Fn, Sym, w32, ty_int}
use mir.Val.{Val, vptr, vint, vbool}
use base.Fraction.{full_share}
use base.Stored.{Gv, Coded, coded×}
use base.Logic.{SProp, ent, sep, emp, guard, never, never_e, via, fst∗, snd∗, id⊢, guard_i}
use base.Fml.{Key, Lft, Share, ftrue, flft, fhide, froom, fres, ftok}
use base.Mask.{every, just, less, just_self, less_other, take, Key-Dec}
use prog.Model.{Model}
use prog.Wp.{Env, Calls, Loops, WpFn, Tables}
use types.Kit.{Item, ‵, raw, given, ◌⊛◌, at_ret, ◌$◌, ◌∵◌, !, qed, by, move, keep, use1, use2}
use types.Kit.{split, join, fsplit, fjoin, feq_i, learn, rewrite, suffices, frame}
use types.Run.{look, store, stop, fld, load, lit, bin, of_opd, assigns, first, blocks, exec}
use types.Run.{returns, enter}
use types.Part.{look_in, sub, whole}
use types.ByLocal.{alloc_all, pass_all, free_all, look_at, get, through, sets, sets_last, is, env}
use denote.RattleType.{RattleType, owns}
use denote.RawPtr.{Ptr, block_ptr, block_of, count_of, coded_ptr, ptr_val}
use denote.Steps.{nothing, heard}
use denote.Triple.Walked.{says, Stays, stay_dropped, walk_of, ends_at, Goes-dropped, walk_Meets}
use mathlib.Core.List.{List, [], ◌∷◌, ◌++◌}
use seplogic.Ra.Ura.{Ura}
use mir.MapTy.{inst_fn}
use prog.Memory.{Memory}
use prog.Routine.{Routine}
use types.Logic.{Logic, sem}
use sound.WpLaws.{WpFn-mono}
use denote.Exit.{yes}
use denote.Signature.{types_at, plain}
use denote.Triple.Clauses.{Clauses, Ended, closing}
use denote.Triple.Spec.{Meets, triple_of}
use denote.Triple.Table.{entered}
use contract.Monad.{Fun, fact, fact_i, fact_mono, fact_use, conj_i}
use denote.Builtin.{RefOf}
use denote.Laws.{Are, Ises, owns_show, showss}
use denote.Memory.{hidden_shr}
use denote.Triple.Entry.{on_entry, alive}
use contract.Beside.{Carries}
use contract.Named.{bare_unfolds}
use contract.Running.{tables_of, bare_tables}
use denote.Triple.Handed.{holding, hands}
use Rattle.std_alloc.proofs.VecSteps.Shapes.{after}
use Rattle.std_alloc.proofs.BoxSteps.Form.{Bx, X, R}
use Rattle.rowan_thin_rc.proofs.CountSteps.{of, args₁, Word, cell, lent, marked, lent_out, lent_back}
use Rattle.rowan_thin_rc.proofs.CountSteps.{opens_strong, opens_in, shut, shut_in}
use Rattle.rowan_thin_rc.specs.Counting.{coded_label}
use Rattle.rowan_thin_rc.specs.contracts.count.Counted as RC
use Rattle.rowan_thin_rc.specs.contracts.count.Counted.same_block as F
use Rattle.rowan_thin_rc.specs.contracts.count.Counted.same_block.Key.{name as #self}
use Rattle.rowan_thin_rc.proofs.count.Counted.same_block.Statement as stated
use Rattle.rowan_thin_rc.proofs.count.Counted.same_block.Code as code
use Rattle.rowan_thin_rc.proofs.count.Counted.same_block.Code.{code}

not_none : (n : ℕ) → 0 < n → eqb n 0 ≡ false
not_none zero some_n = absurd (omega arith)
not_none (suc n) some_n = eqb-suc-zero n

-- a name records one value
one_value : {M : Type 1} {𝓤 : Ura M} (𝓛 : Logic 𝓤) {Y : Type 0} (k : Coded Y) (γ : ℕ) (y z : Y)
    → ent 𝓤 (sep 𝓤 (sem 𝓛 (fres γ (k.code y))) (sem 𝓛 (fres γ (k.code z)))) (fact 𝓤 (y ≡ z))
one_value {𝓤 = 𝓤} 𝓛 k γ y z =
    let P : SProp 𝓤 = sem 𝓛 (fres γ (k.code y)) in let Q : SProp 𝓤 = sem 𝓛 (fres γ (k.code z)) in
    via 𝓤 _ (via 𝓤 _ (conj_i 𝓤 P Q (fst∗ 𝓤 P Q) (snd∗ 𝓤 P Q))
    (𝓛.names.res_one γ (k.code y) (k.code z)))
    (fact_mono 𝓤 (k.code y ≡ k.code z) (y ≡ z) (k.inj y z))

-- two counts that are had at once lie apart
module _ {M : Type 1} {𝓤 : Ura M} (𝓛 : Logic 𝓤) (𝓜 : Model 𝓤 𝓛.H) (b o b' o' n n' : ℕ) where
  abbrev Both : SProp 𝓤
  Both = sep 𝓤 (sem 𝓛 (cell b o n)) (sem 𝓛 (cell b' o' n'))

  abbrev here : Key
  here = (b, o)

  abbrev there : Key
  there = (b', o')

  abbrev Apart : Type 0
  Apart = ¬ (here ≡ there)

  crowded : here ≡ there → ent 𝓤 Both (never 𝓤)
  crowded same = subst
      (λ (k : Key). ent 𝓤 (sep 𝓤 (sem 𝓛 (cell b o n)) (sem 𝓛 (cell k.0 k.1 n'))) (never 𝓤)) same
      (qed 𝓛 (‵ (cell b o n) ∷ ‵ (cell b o n') ∷ []) ∵
      use1 𝓛 (‵ (froom (ty_int w32) b (o + 0)))
      (𝓛.laws.at_room (ty_int w32) b (o + 0) (vint w32 n)) $
      by ! (𝓜.room_at (ty_int w32) (ty_int w32) b (o + 0) (o + 0) (o + 0) full_share (vint w32 n')
      (omega arith, omega arith) (omega arith, omega arith)))

  differ : ent 𝓤 Both (fact 𝓤 Apart)
  differ = dite (Key-Dec here there) (λ same. via 𝓤 (never 𝓤) (crowded same) (never_e 𝓤 _))
      (λ not. fact_i 𝓤 Apart Both not)

  apart : ent 𝓤 Both (guard 𝓤 Apart Both)
  apart = fact_use 𝓤 Apart differ (λ not. guard_i 𝓤 Apart Both not)

module _ (E : Bx) where
  abbrev fn' : Fn
  fn' = inst_fn (args₁ E) code.function

  abbrev ended : Ended
  ended = F.ended E.row

  abbrev stayed : Stays ended.signature.params ended.kept
  stayed = (
    stay_dropped (RefOf (0 ∷ []) tt (plain (λ _. RC.the_row (R E))) (λ _. tt)) yes,
    (stay_dropped (RefOf (1 ∷ []) tt (plain (λ _. RC.the_row (R E))) (λ _. tt)) yes, tt),
  )

  abbrev ν : Sym
  ν = (RC.the_type (R E)).name

module _ (E : Bx) {M : Type 1} {𝓤 : Ura M} (𝓛 : Logic 𝓤) (𝓜 : Model 𝓤 𝓛.H) (at_mem : Memory → SProp 𝓤)
    (run : Routine → Fun 𝓤) where
  open 𝓛 use {H, A}

  abbrev held : Clauses 𝓤 (ended E)
  held = holding 𝓤 (ended E) (A.tok every) (F.clauses E.row 𝓛 at_mem run)

  module _ (C : Calls 𝓤 H) (Λ : Loops 𝓤 H) (z : (walk_of 𝓛 (ended E) (stayed E) held).Ghost) where
    abbrev At : List Val → List Val → (walk_of 𝓛 (ended E) (stayed E) held).Ghost
    At us us' = ((z.0.0, z.0.1, z.0.2, z.0.3, (us, (us', tt))), z.1)

    abbrev Post : List Val → List Val → Val → SProp 𝓤
    Post us us' = (walk_of 𝓛 (ended E) (stayed E) held).post (At us us')

    abbrev Goes : List Val → List Val → Type 1
    Goes us us' =
        ent 𝓤 ((walk_of 𝓛 (ended E) (stayed E) held).pre (At us us'))
        (WpFn 𝓤 H C Λ (fn' E) (us ++ (us' ++ [])) (Post us us'))

    abbrev c : Ptr
    c = z.0.3.0.now.ptr

    abbrev x : X E
    x = z.0.3.0.now.value

    abbrev c' : Ptr
    c' = z.0.3.1.0.now.ptr

    abbrev x' : X E
    x' = z.0.3.1.0.now.value

    abbrev m : Gv
    m = z.0.3.0.now.label

    abbrev m' : Gv
    m' = z.0.3.1.0.now.label

    abbrev asked : Item 𝓤
    asked = raw ((F.clauses E.row 𝓛 at_mem run z.0.0 z.0.3).requires z.1)

    abbrev b : ℕ
    b = z.0.3.0.ref_ptr.0

    abbrev o : ℕ
    o = z.0.3.0.ref_ptr.1

    abbrev b' : ℕ
    b' = z.0.3.1.0.ref_ptr.0

    abbrev o' : ℕ
    o' = z.0.3.1.0.ref_ptr.1

    abbrev us : List Val
    us = vptr b o ∷ []

    abbrev us' : List Val
    us' = vptr b' o' ∷ []

    abbrev κ : Lft
    κ = z.0.0.0

    abbrev q : Share
    q = z.0.1.0

    abbrev κ' : Lft
    κ' = z.0.0.1.0

    abbrev q' : Share
    q' = z.0.1.1.0

    abbrev others : Item 𝓤
    others = ‵ (flft z.0.0.1.1.0 z.0.1.1.1.0) ⊛ ‵ ftrue

    walks : Goes us us'
    walks =
        qed 𝓛 (((‵ (flft κ q) ⊛ (‵ (flft κ' q') ⊛ others))
        ⊛ ‵ (owns (types_at (ended E).signature.params z.0.0) z.0.3 (us, (us', tt))))
        ∷ (‵ (ftok every) ⊛ asked) ∷ []) ∵
        split ! $ split ! $ move ! (1 ∷ []) $ split ! $ move ! (4 ∷ []) $ split ! $
        move ! (5 ∷ []) $ fsplit ! $ fsplit ! $ move ! (2 ∷ []) $ fsplit ! $ fsplit ! $
        keep ! (4 ∷ 1 ∷ 9 ∷ 7 ∷ 5 ∷ 8 ∷ []) $
        use1 𝓛 (‵ (hidden_shr (Word E (ν E)) κ (c, tt) b o) ⊛ ‵ (fhide (lent E c x m κ))) (id⊢ 𝓤 _) $
        split ! $ move ! (2 ∷ []) $
        use1 𝓛 (‵ (hidden_shr (Word E (ν E)) κ' (c', tt) b' o') ⊛ ‵ (fhide (lent E c' x' m' κ')))
        (id⊢ 𝓤 _) $ split ! $
        enter ! C Λ (fn' E) (vptr b o ∷ vptr b' o' ∷ []) _ $
        alloc_all ! (λ l. pass_all ! refl ((tt, tt), ((tt, tt), tt)) $
        let En : Env 𝓤 H = env (fn' E).locals l in
        move ! (2 ∷ 3 ∷ 4 ∷ []) $ lent_out E c x (ν E) κ q b o ! tt (λ a s r.
        move ! (6 ∷ 7 ∷ 8 ∷ []) $ lent_out E c' x' (ν E) κ' q' b' o' ! tt (λ a' s' r'.
        -- [the other's share, invariant, word, way back, invariant and knowledge; the same of this;
        -- the thread's token; the other tokens]
        dite (ℕ_discrete a.2 a'.2)
        (λ one. move ! (11 ∷ 5 ∷ []) $ fsplit ! $ move ! (2 ∷ []) $ fsplit ! $
        rewrite ! 0 (λ (γ : ℕ). ‵ (marked E c' x' m' γ)) (sym one) refl $ move ! (2 ∷ 0 ∷ []) $
        use2 𝓛 (raw (fact 𝓤 ((c, m) ≡ (c', m'))))
        (one_value 𝓛 (coded× coded_ptr coded_label) a.2 (c, m) (c', m')) $
        heard ! ((c, m) ≡ (c', m')) (λ so.
        move ! (8 ∷ 7 ∷ 12 ∷ []) $ opens_strong E c x a ! tt s (λ n cb co e fn some_n.
        -- [the count; the value; the one weak; what shuts; the share; what is seen, twice; the
        -- other's share, invariant, word, way back and invariant; the word; the way back; the
        -- invariant; the other tokens]
        let e' : c' ≡ block_ptr cb co = (λ i. (sym so i).0) ∙ e in
        sets ! (is !
        (of_opd !
        (load ! (through ! refl (fld ! refl (stop !))) (look_in ! 12 (sub ! 0 refl (whole !)))))
        (ap ptr_val e)) refl (tt, tt) $ sets ! (of_opd ! (get ! refl)) refl (tt, tt) $
        sets ! (is !
        (of_opd !
        (load ! (through ! refl (fld ! refl (stop !))) (look_in ! 9 (sub ! 0 refl (whole !)))))
        (ap ptr_val e')) refl (tt, tt) $ first ! $ blocks ! $
        sets ! (of_opd ! (load ! (through ! refl (fld ! refl (stop !))) (look ! 0 refl))) refl
        (tt, record { fits = fn }) $
        assigns ! (of_opd ! (lit ! tt)) (through ! refl (fld ! refl (stop !)))
        (store ! 0 refl (tt, record { fits = lit< tt })) $
        sets ! (of_opd ! (load ! (through ! refl (fld ! refl (stop !))) (look ! 0 refl))) refl
        (tt, record { fits = lit< tt }) $
        assigns ! (of_opd ! (get ! refl)) (through ! refl (fld ! refl (stop !)))
        (store ! 0 refl (tt, record { fits = fn })) $
        sets_last ! (bin ! (get ! refl) (lit ! tt) tt) refl (tt, tt) $
        exec ! C Λ En (after 4 (fn' E).body) (at_ret En (Post us us')) $
        sets ! (of_opd ! (get ! refl)) refl (tt, tt) $ shut E c x a ! tt n cb co e fn $
        move ! (1 ∷ 9 ∷ 10 ∷ []) $ lent_back E c x (ν E) κ q b o ! tt a.0 s r $
        move ! (4 ∷ 6 ∷ 7 ∷ []) $ lent_back E c' x' (ν E) κ' q' b' o' ! tt a'.0 s' r' $
        feq_i ! (List Val) (vbool true ∷ []) (vbool true ∷ []) refl $
        returns ! (look_at ! 0 refl) $ free_all ! refl $ keep ! (0 ∷ 1 ∷ 9 ∷ 2 ∷ 3 ∷ []) $
        suffices ! _ (ends_at 𝓛 (ended E) (stayed E) held (At us us') (vbool true) true
        (tt, (tt, tt)) (tt, (tt, tt))) $
        nothing ! $ nothing ! $ fjoin ! $ nothing ! $ fjoin ! $ join ! $
        move ! (1 ∷ 2 ∷ []) $ join ! $ move ! (2 ∷ 0 ∷ []) $ join ! $ join ! $ frame ! $
        frame ! $ says ! (λ no. absurd (true≢false no)) $
        by ! (fact_i 𝓤 _ (emp 𝓤) (λ _. (λ i. (so i).0, λ i. (so i).1))))))
        (λ two. let k : Key = (a.2, 0) in let k' : Key = (a'.2, 0) in
        let other : less every k k' ≡ true = less_other every k k' (λ p. two (λ i. (p i).0)) in
        move ! (12 ∷ []) $
        use1 𝓛 (‵ (ftok (just k)) ⊛ ‵ (ftok (less every k)))
        (𝓛.invs.tok_cut every (just k) (less every k) (take every k refl)) $ split ! $
        move ! (9 ∷ 8 ∷ 0 ∷ []) $ opens_in E c x a ! tt (just k) (just_self k) s
        (λ n cb co e fn some_n.
        move ! (7 ∷ 6 ∷ 5 ∷ []) $ opens_in E c' x' a' ! tt (less every k) other s'
        (λ n' cb' co' e' gn some_n'.
        -- [the other's count, value, weak, what shuts and share; the same of this; the other's word,
        -- way back, invariant and knowledge; the same of this; the other tokens]
        move ! (5 ∷ 0 ∷ []) $
        use2 𝓛 (given (Apart 𝓛 𝓜 cb co cb' co' n n') (‵ (cell cb co n) ⊛ ‵ (cell cb' co' n')))
        (apart 𝓛 𝓜 cb co cb' co' n n') $ learn ! (λ not. split ! $
        -- [this count; the other's; the other's value, weak, what shuts and share; this value ..]
        sets ! (is !
        (of_opd !
        (load ! (through ! refl (fld ! refl (stop !))) (look_in ! 14 (sub ! 0 refl (whole !)))))
        (ap ptr_val e)) refl (tt, tt) $ sets ! (of_opd ! (get ! refl)) refl (tt, tt) $
        sets ! (is !
        (of_opd !
        (load ! (through ! refl (fld ! refl (stop !))) (look_in ! 10 (sub ! 0 refl (whole !)))))
        (ap ptr_val e')) refl (tt, tt) $ first ! $ blocks ! $
        sets ! (of_opd ! (load ! (through ! refl (fld ! refl (stop !))) (look ! 0 refl))) refl
        (tt, record { fits = fn }) $
        assigns ! (of_opd ! (lit ! tt)) (through ! refl (fld ! refl (stop !)))
        (store ! 0 refl (tt, record { fits = lit< tt })) $
        sets ! (of_opd ! (load ! (through ! refl (fld ! refl (stop !))) (look ! 1 refl))) refl
        (tt, record { fits = gn }) $
        assigns ! (of_opd ! (get ! refl)) (through ! refl (fld ! refl (stop !)))
        (store ! 0 refl (tt, record { fits = fn })) $
        sets_last ! (is ! (bin ! (get ! refl) (lit ! tt) tt) (ap vbool (not_none n' some_n'))) refl
        (tt, tt) $
        exec ! C Λ En (after 4 (fn' E).body) (at_ret En (Post us us')) $
        sets ! (of_opd ! (get ! refl)) refl (tt, tt) $
        move ! (1 ∷ 2 ∷ 3 ∷ 4 ∷ []) $ shut_in E c' x' a' ! tt (less every k) n' cb' co' e' gn $
        -- [the token less k; this count; the other's share; this value, weak, what shuts, share ..]
        move ! (1 ∷ 3 ∷ 4 ∷ 5 ∷ []) $ shut_in E c x a ! tt (just k) n cb co e fn $
        move ! (0 ∷ 1 ∷ []) $
        use2 𝓛 (‵ (ftok every))
        (𝓛.invs.tok_glue every (just k) (less every k) (take every k refl)) $
        -- [the token; the other's share; this share; the other's word, way back, invariant and
        -- knowledge; the same of this; the other tokens]
        move ! (2 ∷ 7 ∷ 8 ∷ []) $ lent_back E c x (ν E) κ q b o ! tt a.0 s r $
        move ! (2 ∷ 3 ∷ 4 ∷ []) $ lent_back E c' x' (ν E) κ' q' b' o' ! tt a'.0 s' r' $
        feq_i ! (List Val) (vbool false ∷ []) (vbool false ∷ []) refl $
        returns ! (look_at ! 0 refl) $ free_all ! refl $ keep ! (0 ∷ 1 ∷ 8 ∷ 2 ∷ 3 ∷ []) $
        suffices ! _ (ends_at 𝓛 (ended E) (stayed E) held (At us us') (vbool false) false
        (tt, (tt, tt)) (tt, (tt, tt))) $
        nothing ! $ nothing ! $ fjoin ! $ nothing ! $ fjoin ! $ join ! $
        move ! (1 ∷ 2 ∷ []) $ join ! $ move ! (2 ∷ 0 ∷ []) $ join ! $ join ! $ frame ! $
        frame ! $
        says ! (λ _ p. let at : block_ptr cb co ≡ block_ptr cb' co' = sym e ∙ p ∙ e' in
        not (λ i. (block_of (at i), count_of (at i)))) $
        by ! (fact_i 𝓤 _ (emp 𝓤) (λ yes. absurd (false≢true yes))))))))))

  meets : (𝓣 : Tables 𝓤 H)
      → Meets 𝓛 (ended E).signature (WpFn 𝓤 H 𝓣.C 𝓣.Λ (fn' E)) (closing 𝓛 (ended E) held)
  meets 𝓣 =
      walk_Meets 𝓛 (ended E) (stayed E) (
        Goes-dropped 𝓛 3 (RefOf (0 ∷ []) tt (plain (λ _. RC.the_row (R E))) (λ _. tt)) yes
            (λ κs x f. refl),
        (
          Goes-dropped 𝓛 3 (RefOf (1 ∷ []) tt (plain (λ _. RC.the_row (R E))) (λ _. tt)) yes
              (λ κs x f. refl),
          tt,
        ),
      ) held
      (WpFn 𝓤 H 𝓣.C 𝓣.Λ (fn' E)) (WpFn-mono 𝓤 H 𝓛.laws 𝓣 (fn' E))
      (λ z. let a = z.0.3 in let vss = z.0.4 in
      let Rs : List RattleType = types_at (ended E).signature.params z.0.0 in
      let On : SProp 𝓤 = on_entry 𝓛 (ended E).signature z.0.0 z.0.1 a vss in
      fact_use 𝓤 (Are Rs (Ises Rs) a vss)
      (via 𝓤 (sem 𝓛 (owns Rs a vss))
      (via 𝓤 On (fst∗ 𝓤 On ((held z.0.0 a).requires z.1))
      (snd∗ 𝓤 (alive 𝓛 (ended E).signature z.0.0 z.0.1) (sem 𝓛 (owns Rs a vss))))
      (owns_show 𝓛 Rs (Ises Rs) (showss 𝓛 Rs) a vss))
      (λ are. subst (λ (w : List Val × List Val). Goes 𝓣.C 𝓣.Λ z w.0 w.1)
      (λ i. (sym are.0.0 i, sym are.1.0.0 i)) (walks 𝓣.C 𝓣.Λ z)))

pub same_block_spec : {M : Type 1} → stated.statement M
unfolding tables_of code
same_block_spec 𝓤 𝓛 𝓜 𝓡 wired Y L =
    let E : Bx = of Y L in
    let A = 𝓛.A in
    let c = F.clauses Y 𝓛 𝓜.mem 𝓡.returns in
    let 𝓒 : Carries 𝓤 𝓛.H 𝓜 (A.tok every) = subst (Carries 𝓤 𝓛.H 𝓜) 𝓛.turn_is 𝓡.carries in
    let 𝓣 : Tables 𝓤 𝓛.H =
    tables_of 𝓤 𝓛.H 𝓒.inner (bare_tables 𝓤 𝓛.H 𝓒.inner 𝓡.allowed 𝓡.how 𝓡.env) in
    let k = #self (args₁ E) in
    hands 𝓛 (ended E) (A.tok every) c 𝓜 𝓒 𝓡 (𝓡.env k)
    (entered 𝓤 𝓛.H
    (triple_of 𝓛 (ended E).signature
    (closing 𝓛 (ended E) (holding 𝓤 (ended E) (A.tok every) c))) 𝓣.C 𝓣.Λ k (fn' E)
    (bare_unfolds 𝓤 𝓛.H 𝓒.inner 𝓡.allowed 𝓡.how 𝓡.env k (fn' E) (wired.0.0 k refl))
    (meets E 𝓛 𝓜 𝓜.mem 𝓡.returns 𝓣))
