-- `try_clone` makes one more owner, or finds the count full.
use mathlib.Core.Path.{refl, sym, subst, ap}
use Prim.Native.Nat.{ℕ, ◌+◌, ◌-◌, ◌<◌, ◌^◌}
use native.Mathlib.Omega.{arith}
use lib.Dec.{lit<}
use mir.Syntax.{Fn, Sym}
use mir.Val.{Val, vptr, vcons, vnil}
use base.Logic.{SProp, ent, via, fst∗, snd∗, id⊢}
use base.Fml.{Lft, Share, ftrue, flft, fhide, ftok}
use prog.Wp.{Env, Calls, Loops, Wp, WpFn, Tables, after_block, after_seq, at_return}
use types.Kit.{Item, ‵, raw, ◌⊛◌, at_ret, any_q, ◌$◌, ◌∵◌, !, qed, move, keep, use0, use1, split}
use types.Kit.{join, fsplit, fjoin, suffices, frame, done}
use types.Run.{look, store, stop, fld, load, lit, neg_lit, bin, of_opd, and_then, no_more}
use types.Run.{assigns_last, first, blocks, skips, branches, exec, returns, returns_within, enter}
use types.Part.{look_in, sub, whole, agg}
use types.Match.{live}
use types.ByLocal.{alloc_all, pass_all, free_all, look_at, get, through, sets, is, env}
use denote.RattleType.{RattleType, owns}
use denote.RawPtr.{Ptr, ptr_val}
use denote.Steps.{nothing}
use denote.Triple.Walked.{says, Stays, stay_dropped, walk_of, ends_at, Goes-dropped, walk_Meets}
use Rattle.std.specs.contracts.option.Option as Opt
use Rattle.std.specs.declared.option.Option.TheVariants.{None, Some}
use mathlib.Core.List.{List, [], ◌∷◌, ◌++◌}
use seplogic.Ra.Ura.{Ura}
use mir.MapTy.{inst_fn}
use prog.Memory.{Memory}
use prog.Routine.{Routine}
use types.Logic.{Logic, sem}
use sound.WpLaws.{WpFn-mono}
use denote.Exit.{yes}
use denote.Signature.{types_at, plain}
use denote.Triple.Clauses.{Clauses, Ended, closing}
use denote.Triple.Spec.{Meets, triple_of}
use denote.Triple.Table.{entered}
use contract.Monad.{Fun, fact_use}
use denote.Builtin.{RefOf}
use denote.Laws.{Are, Ises, owns_show, showss}
use denote.Memory.{hidden_shr}
use denote.Triple.Entry.{on_entry, alive}
use base.Mask.{every}
use contract.Beside.{Carries}
use contract.Named.{bare_unfolds}
use contract.Running.{tables_of, bare_tables}
use denote.Triple.Handed.{holding, hands}
use Rattle.std_alloc.proofs.VecSteps.Shapes.{after, head, inside}
use Rattle.std_alloc.proofs.BoxSteps.Form.{Bx, X, R}
use Rattle.std_alloc.proofs.RcSteps.{some_Good, is_not, word, word_ty, word-Good, Some-of, none_of}
use Rattle.rowan_thin_rc.proofs.CountSteps.{of, args₁, Word, lent, owner_made, lent_out, lent_back}
use Rattle.rowan_thin_rc.proofs.CountSteps.{opens_strong, shut, more}
use Rattle.rowan_thin_rc.specs.contracts.count.Counted as RC
use Rattle.rowan_thin_rc.specs.contracts.count.Counted.try_clone as F
use Rattle.rowan_thin_rc.specs.contracts.count.Counted.try_clone.Key.{name as #self}
use Rattle.rowan_thin_rc.proofs.count.Counted.try_clone.Statement as stated
use Rattle.rowan_thin_rc.proofs.count.Counted.try_clone.Code as code
use Rattle.rowan_thin_rc.proofs.count.Counted.try_clone.Code.{code}

module _ (E : Bx) where
  abbrev fn' : Fn
  fn' = inst_fn (args₁ E) code.function

  abbrev ended : Ended
  ended = F.ended E.row

  abbrev stayed : Stays ended.signature.params ended.kept
  stayed = (stay_dropped (RefOf (0 ∷ []) tt (plain (λ _. RC.the_row (R E))) (λ _. tt)) yes, tt)

  abbrev ν : Sym
  ν = (RC.the_type (R E)).name

  abbrev Out : RattleType
  Out = RC.the_row (R E)

  abbrev out_name : Sym
  out_name = (RC.the_type (R E)).name

module _ (E : Bx) {M : Type 1} {𝓤 : Ura M} (𝓛 : Logic 𝓤) (at_mem : Memory → SProp 𝓤)
    (run : Routine → Fun 𝓤) where
  open 𝓛 use {H, A}

  abbrev held : Clauses 𝓤 (ended E)
  held = holding 𝓤 (ended E) (A.tok every) (F.clauses E.row 𝓛 at_mem run)

  module _ (C : Calls 𝓤 H) (Λ : Loops 𝓤 H) (z : (walk_of 𝓛 (ended E) (stayed E) held).Ghost) where
    abbrev At : List Val → (walk_of 𝓛 (ended E) (stayed E) held).Ghost
    At us = ((z.0.0, z.0.1, z.0.2, z.0.3, (us, tt)), z.1)

    abbrev Post : List Val → Val → SProp 𝓤
    Post us = (walk_of 𝓛 (ended E) (stayed E) held).post (At us)

    abbrev Goes : List Val → Type 1
    Goes us =
        ent 𝓤 ((walk_of 𝓛 (ended E) (stayed E) held).pre (At us))
        (WpFn 𝓤 H C Λ (fn' E) (us ++ []) (Post us))

    abbrev c : Ptr
    c = z.0.3.0.now.ptr

    abbrev x : X E
    x = z.0.3.0.now.value

    abbrev asked : Item 𝓤
    asked = raw ((F.clauses E.row 𝓛 at_mem run z.0.0 z.0.3).requires z.1)

    abbrev b : ℕ
    b = z.0.3.0.ref_ptr.0

    abbrev o : ℕ
    o = z.0.3.0.ref_ptr.1

    abbrev us : List Val
    us = vptr b o ∷ []

    abbrev κ : Lft
    κ = z.0.0.0

    abbrev q : Share
    q = z.0.1.0

    abbrev others : Item 𝓤
    others = ‵ (flft z.0.0.1.0 z.0.1.1.0) ⊛ ‵ ftrue

    walks : Goes us
    walks =
        qed 𝓛 (((‵ (flft κ q) ⊛ others)
        ⊛ ‵ (owns (types_at (ended E).signature.params z.0.0) z.0.3 (us, tt)))
        ∷ (‵ (ftok every) ⊛ asked) ∷ []) ∵
        split ! $ split ! $ move ! (3 ∷ []) $ split ! $ move ! (4 ∷ []) $ fsplit ! $ fsplit ! $
        keep ! (1 ∷ 5 ∷ 3 ∷ 6 ∷ []) $
        use1 𝓛 (‵ (hidden_shr (Word E (ν E)) κ (c, tt) b o) ⊛ ‵ (fhide (lent E c x z.0.3.0.now.label κ))) (id⊢ 𝓤 _) $
        split ! $
        enter ! C Λ (fn' E) us _ $ alloc_all ! (λ l. pass_all ! refl ((tt, tt), tt) $
        let En : Env 𝓤 H = env (fn' E).locals l in
        lent_out E c x (ν E) κ q b o ! tt (λ a s q'. move ! (1 ∷ 0 ∷ 6 ∷ []) $
        opens_strong E c x a ! tt s (λ n cb co e fn some_n.
        -- [the count; the value; the one weak; what shuts; the share; the word; the way back; the
        -- invariant; what is seen; the other tokens]
        sets ! (is !
        (of_opd !
        (load ! (through ! refl (fld ! refl (stop !))) (look_in ! 5 (sub ! 0 refl (whole !)))))
        (ap ptr_val e)) refl (tt, tt) $ sets ! (of_opd ! (get ! refl)) refl (tt, tt) $ first ! $
        blocks ! $
        sets ! (of_opd ! (load ! (through ! refl (fld ! refl (stop !))) (look ! 0 refl))) refl
        (tt, record { fits = fn }) $
        sets ! (bin ! (get ! refl) (neg_lit ! tt) tt) refl (tt, tt) $ first ! $
        branches ! (get ! refl)
        (λ full. sets ! (agg ! (and_then ! (lit ! tt) (no_more !))) refl
        (tt, (record { fits = lit< tt }, tt)) $ shut E c x a ! tt n cb co e fn $
        move ! (1 ∷ 2 ∷ 3 ∷ []) $ lent_back E c x (ν E) κ q b o ! tt a.0 s q' $
        use0 𝓛 (‵ ((Opt.the_row (Out E)).own_val None (live 0 vnil ∷ []))) (none_of 𝓛 (Out E)) $
        returns_within ! (Post us) refl (look_at ! 0 refl) $ free_all ! refl $
        keep ! (0 ∷ 1 ∷ 5 ∷ 2 ∷ []) $
        suffices ! _ (ends_at 𝓛 (ended E) (stayed E) held (At us) (live 0 vnil) None (tt, tt)
        (tt, tt)) $ nothing ! $ nothing ! $ fjoin ! $ join ! $ move ! (1 ∷ 2 ∷ []) $ join ! $
        join ! $ frame ! $ says ! tt $ done !)
        (λ room. skips ! $
        exec ! C Λ En (after 3 (inside (head (after 2 (fn' E).body))))
        (any_q (after_block 𝓤 H
        (after_seq 𝓤 H (Wp 𝓤 H C Λ En (after 3 (fn' E).body) (at_return 𝓤 H En (Post us)))
        (at_return 𝓤 H En (Post us))))) $
        let f₁ : n + 1 < 2 ^ 32 = omega (arith, is_not n (2 ^ 32 - 1) room) in
        let made : (Out E).Denot = record { ptr = c; value = x; label = z.0.3.0.now.label } in
        sets ! (bin ! (get ! refl) (lit ! tt) (record { fits = f₁ })) refl (
          tt,
          record {
            fits =
                f₁;
          },
        ) $ assigns_last ! (of_opd ! (get ! refl)) (through ! refl (fld ! refl (stop !)))
        (store ! 0 refl (tt, record { fits = f₁ })) $
        exec ! C Λ En (after 3 (fn' E).body) (at_ret En (Post us)) $
        sets ! (is ! (agg ! (and_then ! (get ! refl) (no_more !))) (ap word (sym e))) refl
        (word-Good (out_name E) c) $
        sets ! (agg ! (and_then ! (lit ! tt) (and_then ! (get ! refl) (no_more !)))) refl
        (some_Good (word_ty (out_name E)) (word c) (word-Good (out_name E) c)) $
        move ! (1 ∷ []) $ more E c x a ! n f₁ $ move ! (2 ∷ 0 ∷ 3 ∷ 4 ∷ []) $
        shut E c x a ! tt (n + 1) cb co e f₁ $
        move ! (2 ∷ 3 ∷ 4 ∷ []) $ lent_back E c x (ν E) κ q b o ! tt a.0 s q' $
        move ! (2 ∷ 3 ∷ 4 ∷ []) $ owner_made E c x ! (out_name E) a $
        use1 𝓛 (‵ ((Opt.the_row (Out E)).own_val (Some made) (live 1 (vcons (word c) vnil) ∷ [])))
        (Some-of 𝓛 (Out E) made (word c)) $
        returns ! (look_at ! 0 refl) $ free_all ! refl $ keep ! (0 ∷ 1 ∷ 3 ∷ 2 ∷ []) $
        suffices ! _ (ends_at 𝓛 (ended E) (stayed E) held (At us) (live 1 (vcons (word c) vnil))
        (Some made) (tt, tt) (tt, tt)) $ nothing ! $ nothing ! $ fjoin ! $ join ! $
        move ! (1 ∷ 2 ∷ []) $ join ! $ join ! $ frame ! $ says ! refl $ done !))))

  meets : (𝓣 : Tables 𝓤 H)
      → Meets 𝓛 (ended E).signature (WpFn 𝓤 H 𝓣.C 𝓣.Λ (fn' E)) (closing 𝓛 (ended E) held)
  meets 𝓣 =
      walk_Meets 𝓛 (ended E) (stayed E) (
        Goes-dropped 𝓛 2 (RefOf (0 ∷ []) tt (plain (λ _. RC.the_row (R E))) (λ _. tt)) yes
            (λ κs x f. refl),
        tt,
      ) held
      (WpFn 𝓤 H 𝓣.C 𝓣.Λ (fn' E)) (WpFn-mono 𝓤 H 𝓛.laws 𝓣 (fn' E))
      (λ z. let a = z.0.3 in let vss = z.0.4 in
      let Rs : List RattleType = types_at (ended E).signature.params z.0.0 in
      let On : SProp 𝓤 = on_entry 𝓛 (ended E).signature z.0.0 z.0.1 a vss in
      fact_use 𝓤 (Are Rs (Ises Rs) a vss)
      (via 𝓤 (sem 𝓛 (owns Rs a vss))
      (via 𝓤 On (fst∗ 𝓤 On ((held z.0.0 a).requires z.1))
      (snd∗ 𝓤 (alive 𝓛 (ended E).signature z.0.0 z.0.1) (sem 𝓛 (owns Rs a vss))))
      (owns_show 𝓛 Rs (Ises Rs) (showss 𝓛 Rs) a vss))
      (λ are. subst (Goes 𝓣.C 𝓣.Λ z) (sym are.0.0) (walks 𝓣.C 𝓣.Λ z)))

pub try_clone_spec : {M : Type 1} → stated.statement M
unfolding tables_of code
try_clone_spec 𝓤 𝓛 𝓜 𝓡 wired Y L =
    let E : Bx = of Y L in
    let A = 𝓛.A in
    let c = F.clauses Y 𝓛 𝓜.mem 𝓡.returns in
    let 𝓒 : Carries 𝓤 𝓛.H 𝓜 (A.tok every) = subst (Carries 𝓤 𝓛.H 𝓜) 𝓛.turn_is 𝓡.carries in
    let 𝓣 : Tables 𝓤 𝓛.H =
    tables_of 𝓤 𝓛.H 𝓒.inner (bare_tables 𝓤 𝓛.H 𝓒.inner 𝓡.allowed 𝓡.how 𝓡.env) in
    let k = #self (args₁ E) in
    hands 𝓛 (ended E) (A.tok every) c 𝓜 𝓒 𝓡 (𝓡.env k)
    (entered 𝓤 𝓛.H
    (triple_of 𝓛 (ended E).signature
    (closing 𝓛 (ended E) (holding 𝓤 (ended E) (A.tok every) c))) 𝓣.C 𝓣.Λ k (fn' E)
    (bare_unfolds 𝓤 𝓛.H 𝓒.inner 𝓡.allowed 𝓡.how 𝓡.env k (fn' E) (wired.0.0 k refl))
    (meets E 𝓛 𝓜.mem 𝓡.returns 𝓣))
