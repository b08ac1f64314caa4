-- `at` reads the pointer.
use mathlib.Core.Path.{refl, sym, subst}
use mir.Syntax.{Fn, Sym}
use mir.Val.{Val}
use base.Logic.{SProp, ent}
use base.Fml.{Lft, Share, ftrue, flft}
use prog.Wp.{Calls, Loops, WpFn, Tables}
use contract.BorrowLft.{◌⊑◌}
use types.Kit.{Item, ⋆, ‵, raw, ◌⊛◌, ◌$◌, ◌∵◌, !, qed, by, move, keep, use2, split, join, fsplit}
use types.Kit.{fjoin, suffices, done}
use types.Run.{stop, fld, of_opd, and_then, no_more, returns, enter}
use types.Part.{sub, whole, agg}
use types.ByLocal.{alloc_all, pass_all, free_all, look_at, get, get_in, sets}
use denote.RattleType.{owns}
use denote.RawPtr.{Ptr}
use denote.Steps.{nothing}
use denote.Triple.Walked.{says, Stays, stay_dropped, walk_of, ends_at, Goes-dropped, walk_Meets}
use mathlib.Core.List.{List, [], ◌∷◌, ◌++◌}
use seplogic.Ra.Ura.{Ura}
use mir.MapTy.{inst_fn}
use prog.Memory.{Memory}
use prog.Routine.{Routine}
use types.Logic.{Logic}
use sound.WpLaws.{WpFn-mono}
use denote.Exit.{no}
use denote.Signature.{types_at, plain}
use denote.Triple.Clauses.{Clauses, Ended, closing}
use denote.Triple.Spec.{Meets, triple_of}
use denote.Triple.Table.{entered}
use contract.Monad.{Fun, fact}
use contract.Running.{tables, tables_of}
use Rattle.std_alloc.proofs.BoxSteps.Form.{Bx, R}
use Rattle.std_alloc.proofs.RcSteps.{word, word_ty, word-Good, Ptr-Good}
use Rattle.std_alloc.proofs.Pairs.{pair_val, pair_Typed, pair_of}
use denote.Struct.Tuple.{Tuple}
use Rattle.rowan_thin_rc.specs.Counting.{room_owns}
use Rattle.rowan_thin_rc.proofs.CountSteps.{of, args₁, word_had, word_made}
use Rattle.rowan_thin_rc.specs.contracts.count.At as AT
use Rattle.rowan_thin_rc.specs.contracts.count.Room as RM
use Rattle.rowan_thin_rc.specs.contracts.count.Room.at as F
use Rattle.rowan_thin_rc.specs.contracts.count.Room.at.Key.{name as #self}
use Rattle.rowan_thin_rc.proofs.count.Room.at.Statement as stated
use Rattle.rowan_thin_rc.proofs.count.Room.at.Code as code

module _ (E : Bx) where
  abbrev fn' : Fn
  fn' = inst_fn (args₁ E) code.function

  abbrev ended : Ended
  ended = F.ended E.row

  abbrev ν : Sym
  ν = (AT.the_type (R E)).name

  abbrev ρ : Sym
  ρ = (RM.the_type (R E)).name

  abbrev stayed : Stays ended.signature.params ended.kept
  stayed = (stay_dropped (plain (λ _. RM.the_row (R E))) no, tt)

module _ (E : Bx) {M : Type 1} {𝓤 : Ura M} (𝓛 : Logic 𝓤) (at_mem : Memory → SProp 𝓤)
    (run : Routine → Fun 𝓤) where
  open 𝓛 use {H}

  abbrev held : Clauses 𝓤 (ended E)
  held = F.clauses E.row 𝓛 at_mem run

  module _ (C : Calls 𝓤 H) (Λ : Loops 𝓤 H) (z : (walk_of 𝓛 (ended E) (stayed E) held).Ghost) where
    abbrev us : List Val
    us = z.0.4.0

    abbrev Post : Val → SProp 𝓤
    Post = (walk_of 𝓛 (ended E) (stayed E) held).post z

    abbrev p : Ptr
    p = z.0.3.0.ptr

    abbrev κ : Lft
    κ = z.0.0.0

    abbrev q : Share
    q = z.0.1.0

    abbrev Had : List (Item 𝓤)
    Had = ‵ (room_owns (R E) p) ∷ ‵ (flft κ q) ∷ []

    walk : ent 𝓤 (⋆ 𝓛 Had) (WpFn 𝓤 H C Λ (fn' E) (word p ∷ []) Post)
    walk =
        let r₀ : (RM.the_row (R E)).Denot = record { ptr = p } in
        let r₁ : (AT.the_row (R E)).Denot = record { ptr = p } in
        let both : Val = pair_val (word p) (word p) in
        qed 𝓛 Had ∵
        enter ! C Λ (fn' E) (word p ∷ []) _ $
        alloc_all ! (λ l. pass_all ! refl (word-Good (ρ E) p, tt) $
        sets ! (of_opd ! (get_in ! (fld ! refl (stop !)) (sub ! 0 refl (whole !)))) refl
        (Ptr-Good p) $
        sets ! (agg ! (and_then ! (get ! refl) (no_more !))) refl (word-Good (ρ E) p) $
        sets ! (agg ! (and_then ! (get ! refl) (no_more !))) refl (word-Good (ν E) p) $
        sets ! (agg ! (and_then ! (get ! refl) (and_then ! (get ! refl) (no_more !)))) refl
        (pair_Typed (word_ty (ρ E)) (word_ty (ν E)) (word p) (word p) (word-Good (ρ E) p)
        (word-Good (ν E) p)) $
        word_made E (ρ E) p ! $ fjoin ! $ word_made E (ν E) p ! $ move ! (1 ∷ 0 ∷ []) $
        use2 𝓛 (‵ ((Tuple (RM.the_row (R E) ∷ AT.the_row (R E) ∷ [])).own_val (r₀, r₁) (both ∷ [])))
        (pair_of 𝓛 (RM.the_row (R E)) (AT.the_row (R E)) r₀ r₁ (word p) (word p)) $
        returns ! (look_at ! 0 refl) $ free_all ! refl $ nothing ! $ move ! (2 ∷ 0 ∷ []) $ join ! $
        move ! (1 ∷ 0 ∷ []) $
        suffices ! _ (ends_at 𝓛 (ended E) (stayed E) held z both (r₀, r₁) (tt, tt) (tt, tt)) $
        says ! (refl, refl) $ nothing ! $ nothing ! $ fjoin ! $ join ! $ move ! (1 ∷ 0 ∷ []) $
        join ! $ done !)

    walks : ent 𝓤 ((walk_of 𝓛 (ended E) (stayed E) held).pre z)
        (WpFn 𝓤 H C Λ (fn' E) (us ++ []) Post)
    walks =
        qed 𝓛 (((‵ (flft κ q) ⊛ ‵ ftrue)
        ⊛ ‵ (owns (types_at (ended E).signature.params z.0.0) z.0.3 (us, tt)))
        ∷ raw (fact 𝓤 (κ ⊑ E.row.lives)) ∷ ‵ ftrue ∷ []) ∵
        split ! $ split ! $ move ! (2 ∷ []) $ fsplit ! $ fsplit ! $ word_had E (ρ E) p ! us (λ eu.
        keep ! (0 ∷ 2 ∷ []) $
        by ! (subst (λ (ws : List Val). ent 𝓤 (⋆ 𝓛 Had) (WpFn 𝓤 H C Λ (fn' E) (ws ++ []) Post))
        (sym eu) walk))

  meets : (𝓣 : Tables 𝓤 H)
      → Meets 𝓛 (ended E).signature (WpFn 𝓤 H 𝓣.C 𝓣.Λ (fn' E)) (closing 𝓛 (ended E) held)
  meets 𝓣 =
      walk_Meets 𝓛 (ended E) (stayed E)
      (Goes-dropped 𝓛 1 (plain (λ _. RM.the_row (R E))) no (λ κs x f. refl), tt) held
      (WpFn 𝓤 H 𝓣.C 𝓣.Λ (fn' E)) (WpFn-mono 𝓤 H 𝓛.laws 𝓣 (fn' E))
      (λ z. walks 𝓣.C 𝓣.Λ z)

pub at_spec : {M : Type 1} → stated.statement M
unfolding tables_of
at_spec 𝓤 𝓛 𝓜 𝓡 wired Y L =
    let E : Bx = of Y L in
    let A = 𝓛.A in
    let c = F.clauses Y 𝓛 𝓜.mem 𝓡.returns in
    let 𝓣 : Tables 𝓤 𝓛.H = tables_of 𝓤 𝓛.H 𝓜 (tables 𝓤 𝓛.H 𝓜 𝓡 𝓡.env) in
    entered 𝓤 𝓛.H (triple_of 𝓛 (ended E).signature (closing 𝓛 (ended E) c)) 𝓣.C 𝓣.Λ
    (#self (args₁ E)) (fn' E) (code.unfolded 𝓤 𝓛.H 𝓜 𝓡 wired (Y, tt))
    (meets E 𝓛 𝓜.mem 𝓡.returns 𝓣)
