-- `at` reads the pointer.
use mathlib.Core.Path.{refl, sym, subst}
use Prim.Native.Nat.{ℕ}
use mir.Syntax.{Fn, Sym}
use mir.Val.{Val, vptr}
use base.Logic.{SProp, ent, via, fst∗, snd∗, id⊢}
use base.Fml.{Lft, Share, ftrue, flft, fhide}
use prog.Wp.{Env, Calls, Loops, WpFn, Tables}
use types.Kit.{Item, ‵, raw, ◌⊛◌, ◌$◌, ◌∵◌, !, qed, move, keep, drop, use1, split, join, fsplit}
use types.Kit.{fjoin, suffices, done}
use types.Run.{stop, fld, load, of_opd, and_then, no_more, returns, enter}
use types.Part.{look_in, sub, whole, agg}
use types.ByLocal.{alloc_all, pass_all, free_all, look_at, get, through, sets, env}
use denote.RattleType.{RattleType, owns}
use denote.RawPtr.{Ptr}
use denote.Steps.{nothing}
use denote.Triple.Walked.{says, Stays, stay_dropped, walk_of, ends_at, Goes-dropped, walk_Meets}
use mathlib.Core.List.{List, [], ◌∷◌, ◌++◌}
use seplogic.Ra.Ura.{Ura}
use mir.MapTy.{inst_fn}
use prog.Memory.{Memory}
use prog.Routine.{Routine}
use types.Logic.{Logic, sem}
use sound.WpLaws.{WpFn-mono}
use denote.Exit.{yes}
use denote.Signature.{types_at, plain}
use denote.Triple.Clauses.{Clauses, Ended, closing}
use denote.Triple.Spec.{Meets, triple_of}
use denote.Triple.Table.{entered}
use contract.Monad.{Fun, fact_use}
use denote.Builtin.{RefOf}
use denote.Laws.{Are, Ises, owns_show, showss}
use denote.Memory.{hidden_shr}
use denote.Triple.Entry.{on_entry, alive}
use contract.Running.{tables, tables_of}
use Rattle.std_alloc.proofs.BoxSteps.Form.{Bx, X, R}
use Rattle.std_alloc.proofs.RcSteps.{word, word-Good, Ptr-Good}
use Rattle.rowan_thin_rc.specs.contracts.count.At as AT
use Rattle.rowan_thin_rc.proofs.CountSteps.{of, args₁, Word, reads, read, word_made, lent}
use Rattle.rowan_thin_rc.specs.contracts.count.Counted as RC
use Rattle.rowan_thin_rc.specs.contracts.count.Counted.at as F
use Rattle.rowan_thin_rc.specs.contracts.count.Counted.at.Key.{name as #self}
use Rattle.rowan_thin_rc.proofs.count.Counted.at.Statement as stated
use Rattle.rowan_thin_rc.proofs.count.Counted.at.Code as code

module _ (E : Bx) where
  abbrev fn' : Fn
  fn' = inst_fn (args₁ E) code.function

  abbrev ended : Ended
  ended = F.ended E.row

  abbrev stayed : Stays ended.signature.params ended.kept
  stayed = (stay_dropped (RefOf (0 ∷ []) tt (plain (λ _. RC.the_row (R E))) (λ _. tt)) yes, tt)

  abbrev ν : Sym
  ν = (RC.the_type (R E)).name

module _ (E : Bx) {M : Type 1} {𝓤 : Ura M} (𝓛 : Logic 𝓤) (at_mem : Memory → SProp 𝓤)
    (run : Routine → Fun 𝓤) where
  open 𝓛 use {H}

  abbrev held : Clauses 𝓤 (ended E)
  held = F.clauses E.row 𝓛 at_mem run

  module _ (C : Calls 𝓤 H) (Λ : Loops 𝓤 H) (z : (walk_of 𝓛 (ended E) (stayed E) held).Ghost) where
    abbrev At : List Val → (walk_of 𝓛 (ended E) (stayed E) held).Ghost
    At us = ((z.0.0, z.0.1, z.0.2, z.0.3, (us, tt)), z.1)

    abbrev Post : List Val → Val → SProp 𝓤
    Post us = (walk_of 𝓛 (ended E) (stayed E) held).post (At us)

    abbrev Goes : List Val → Type 1
    Goes us =
        ent 𝓤 ((walk_of 𝓛 (ended E) (stayed E) held).pre (At us))
        (WpFn 𝓤 H C Λ (fn' E) (us ++ []) (Post us))

    abbrev c : Ptr
    c = z.0.3.0.now.ptr

    abbrev x : X E
    x = z.0.3.0.now.value

    abbrev asked : Item 𝓤
    asked = raw ((F.clauses E.row 𝓛 at_mem run z.0.0 z.0.3).requires z.1)

    abbrev b : ℕ
    b = z.0.3.0.ref_ptr.0

    abbrev o : ℕ
    o = z.0.3.0.ref_ptr.1

    abbrev us : List Val
    us = vptr b o ∷ []

    abbrev κ : Lft
    κ = z.0.0.0

    abbrev q : Share
    q = z.0.1.0

    abbrev others : Item 𝓤
    others = ‵ (flft z.0.0.1.0 z.0.1.1.0) ⊛ ‵ ftrue

    walks : Goes us
    walks =
        qed 𝓛 (((‵ (flft κ q) ⊛ others)
        ⊛ ‵ (owns (types_at (ended E).signature.params z.0.0) z.0.3 (us, tt))) ∷ asked ∷ []) ∵
        split ! $ split ! $ move ! (2 ∷ []) $ fsplit ! $ fsplit ! $ keep ! (1 ∷ 3 ∷ 4 ∷ []) $
        use1 𝓛 (‵ (hidden_shr (Word E (ν E)) κ (c, tt) b o) ⊛ ‵ (fhide (lent E c x z.0.3.0.now.label κ))) (id⊢ 𝓤 _) $
        split ! $ move ! (1 ∷ []) $ drop ! $
        enter ! C Λ (fn' E) us _ $ alloc_all ! (λ l. pass_all ! refl ((tt, tt), tt) $
        let En : Env 𝓤 H = env (fn' E).locals l in
        let made : (AT.the_row (R E)).Denot = record { ptr = c } in
        reads E (ν E) c ! tt b o (λ q'.
        sets ! (of_opd !
        (load ! (through ! refl (fld ! refl (stop !))) (look_in ! 0 (sub ! 0 refl (whole !)))))
        refl (Ptr-Good c) $
        sets ! (agg ! (and_then ! (get ! refl) (no_more !))) refl (word-Good (ν E) c) $
        read E (ν E) c ! tt b o q' $ word_made E (ν E) c ! $
        returns ! (look_at ! 0 refl) $ free_all ! refl $ keep ! (0 ∷ 1 ∷ 2 ∷ []) $
        suffices ! _ (ends_at 𝓛 (ended E) (stayed E) held (At us) (word c) made (tt, tt) (tt, tt)) $
        says ! refl $ nothing ! $ nothing ! $ fjoin ! $ join ! $ move ! (1 ∷ 2 ∷ []) $ join ! $
        join ! $ done !))

  meets : (𝓣 : Tables 𝓤 H)
      → Meets 𝓛 (ended E).signature (WpFn 𝓤 H 𝓣.C 𝓣.Λ (fn' E)) (closing 𝓛 (ended E) held)
  meets 𝓣 =
      walk_Meets 𝓛 (ended E) (stayed E) (
        Goes-dropped 𝓛 2 (RefOf (0 ∷ []) tt (plain (λ _. RC.the_row (R E))) (λ _. tt)) yes
            (λ κs x f. refl),
        tt,
      ) held
      (WpFn 𝓤 H 𝓣.C 𝓣.Λ (fn' E)) (WpFn-mono 𝓤 H 𝓛.laws 𝓣 (fn' E))
      (λ z. let a = z.0.3 in let vss = z.0.4 in
      let Rs : List RattleType = types_at (ended E).signature.params z.0.0 in
      let On : SProp 𝓤 = on_entry 𝓛 (ended E).signature z.0.0 z.0.1 a vss in
      fact_use 𝓤 (Are Rs (Ises Rs) a vss)
      (via 𝓤 (sem 𝓛 (owns Rs a vss))
      (via 𝓤 On (fst∗ 𝓤 On ((held z.0.0 a).requires z.1))
      (snd∗ 𝓤 (alive 𝓛 (ended E).signature z.0.0 z.0.1) (sem 𝓛 (owns Rs a vss))))
      (owns_show 𝓛 Rs (Ises Rs) (showss 𝓛 Rs) a vss))
      (λ are. subst (Goes 𝓣.C 𝓣.Λ z) (sym are.0.0) (walks 𝓣.C 𝓣.Λ z)))

pub at_spec : {M : Type 1} → stated.statement M
unfolding tables_of
at_spec 𝓤 𝓛 𝓜 𝓡 wired Y L =
    let E : Bx = of Y L in
    let A = 𝓛.A in
    let c = F.clauses Y 𝓛 𝓜.mem 𝓡.returns in
    let 𝓣 : Tables 𝓤 𝓛.H = tables_of 𝓤 𝓛.H 𝓜 (tables 𝓤 𝓛.H 𝓜 𝓡 𝓡.env) in
    entered 𝓤 𝓛.H (triple_of 𝓛 (ended E).signature (closing 𝓛 (ended E) c)) 𝓣.C 𝓣.Λ
    (#self (args₁ E)) (fn' E) (code.unfolded 𝓤 𝓛.H 𝓜 𝓡 wired (Y, tt))
    (meets E 𝓛 𝓜.mem 𝓡.returns 𝓣)
