-- `from_room` fills the block, and makes its first owner.
use mathlib.Core.Path.{◌≡◌, refl, sym, subst}
use Prim.Native.Nat.{ℕ}
use lib.Dec.{lit<}
use mir.Syntax.{Fn, Sym, w32, ty_int}
use mir.Val.{Val, vint}
use base.Logic.{SProp, ent, never, id⊢}
use base.Fml.{Lft, Share, ftrue, fsep, froom, flft}
use base.Stored.{Gv}
use prog.Wp.{Env, Calls, Loops, WpFn, Tables}
use contract.BorrowLft.{◌⊑◌}
use types.Kit.{Item, ⋆, ‵, raw, later, ◌⊛◌, at_ret, ◌$◌, ◌∵◌, !, qed, by, move, keep, use1, use2}
use types.Kit.{await, group, split, join, fsplit, fjoin, suffices, done}
use types.Run.{init, stop, fld, lit, of_opd, and_then, no_more, assigns_last, first, blocks, exec}
use types.Run.{returns, enter}
use types.Part.{sub, whole, agg}
use types.ByLocal.{alloc_all, pass_all, free_all, look_at, get, get_in, through, sets, env}
use denote.RattleType.{RattleType, owns}
use denote.Memory.{lone}
use denote.RawPtr.{Ptr, block_ptr, in_a_block}
use denote.Steps.{nothing, heard}
use denote.Struct.Struct.{as_fields}
use denote.Triple.Walked.{says, Stays, stay_dropped, walk_of, ends_at, Goes-dropped, walk_Meets}
use mathlib.Core.List.{List, [], ◌∷◌, ◌++◌}
use seplogic.Ra.Ura.{Ura}
use mir.MapTy.{inst_fn}
use prog.Memory.{Memory}
use prog.Routine.{Routine}
use types.Logic.{Logic}
use sound.WpLaws.{WpFn-mono}
use denote.Exit.{no}
use denote.Signature.{types_at, plain}
use denote.Triple.Clauses.{Clauses, Ended, closing}
use denote.Triple.Spec.{Meets, triple_of}
use denote.Triple.Table.{entered}
use contract.Monad.{Fun, fact}
use contract.Running.{tables, tables_of}
use Rattle.std_alloc.proofs.RawLayout.{as_written}
use Rattle.std_alloc.proofs.VecSteps.Shapes.{after}
use Rattle.std_alloc.proofs.BoxSteps.Form.{Bx, X, R, τ, own}
use Rattle.std_alloc.proofs.BoxSteps.Steps.{el_tells}
use Rattle.std_alloc.proofs.RcSteps.{Good, word, word-Good}
use Rattle.rowan_thin_rc.specs.Counting.{room_owns, count_at}
use Rattle.rowan_thin_rc.proofs.CountSteps.{of, args₁, word_had, word_made, block_ty, block_val}
use Rattle.rowan_thin_rc.proofs.CountSteps.{counted, there, counts, block_made}
use Rattle.rowan_thin_rc.specs.contracts.count.Counted as RC
use Rattle.rowan_thin_rc.specs.contracts.count.CountBox as RB
use Rattle.rowan_thin_rc.specs.contracts.count.Room as RM
use Rattle.rowan_thin_rc.specs.contracts.count.Counted.from_room as F
use Rattle.rowan_thin_rc.specs.contracts.count.Counted.from_room.Key.{name as #self}
use Rattle.rowan_thin_rc.proofs.count.Counted.from_room.Statement as stated
use Rattle.rowan_thin_rc.proofs.count.Counted.from_room.Code as code

module _ (E : Bx) where
  abbrev fn' : Fn
  fn' = inst_fn (args₁ E) code.function

  abbrev ended : Ended
  ended = F.ended E.row

  abbrev ν : Sym
  ν = (RC.the_type (R E)).name

  abbrev ρ : Sym
  ρ = (RM.the_type (R E)).name

  abbrev Block : RattleType
  Block = RB.the_row (R E)

  abbrev stayed : Stays ended.signature.params ended.kept
  stayed =
      (stay_dropped (plain (λ _. RM.the_row (R E))) no, (stay_dropped (plain (λ _. R E)) no, tt))

module _ (E : Bx) {M : Type 1} {𝓤 : Ura M} (𝓛 : Logic 𝓤) (at_mem : Memory → SProp 𝓤)
    (run : Routine → Fun 𝓤) where
  open 𝓛 use {H}

  abbrev held : Clauses 𝓤 (ended E)
  held = F.clauses E.row 𝓛 at_mem run

  module _ (C : Calls 𝓤 H) (Λ : Loops 𝓤 H) (z : (walk_of 𝓛 (ended E) (stayed E) held).Ghost) where
    abbrev us : List Val
    us = z.0.4.0

    abbrev vs : List Val
    vs = z.0.4.1.0

    abbrev Post : Val → SProp 𝓤
    Post = (walk_of 𝓛 (ended E) (stayed E) held).post z

    abbrev p : Ptr
    p = z.0.3.0.ptr

    abbrev x : X E
    x = z.0.3.1.0

    abbrev m : Gv
    m = z.1

    abbrev κ : Lft
    κ = z.0.0.0

    abbrev q : Share
    q = z.0.1.0

    abbrev Had : ℕ → ℕ → Val → List (Item 𝓤)
    Had b o v = ‵ (froom (block_ty E) b o) ∷ ‵ (own E x (v ∷ [])) ∷ ‵ (flft κ q) ∷ []

    walk : κ ⊑ E.row.lives → (b o : ℕ) (v : Val) → p ≡ block_ptr b o → Good (τ E) v
        → ent 𝓤 (⋆ 𝓛 (Had b o v)) (WpFn 𝓤 H C Λ (fn' E) (word (block_ptr b o) ∷ v ∷ []) Post)
    walk lt b o v e good =
        let c : Ptr = block_ptr b o in
        let one : Good (ty_int w32) (vint w32 1) = (tt, record { fits = lit< tt }) in
        let typed : Good (lone (Block E).mir) (block_val E v) =
        as_fields (ty_int w32 ∷ τ E ∷ []) (vint w32 1 ∷ v ∷ []) (one, (good, tt)) in
        qed 𝓛 (Had b o v) ∵
        enter ! C Λ (fn' E) (word c ∷ v ∷ []) _ $
        alloc_all ! (λ l. pass_all ! refl (word-Good (ρ E) c, (good, tt)) $
        let En : Env 𝓤 H = env (fn' E).locals l in
        as_written ! (lone (Block E).mir) b o $
        sets ! (of_opd ! (get_in ! (fld ! refl (stop !)) (sub ! 0 refl (whole !)))) refl (tt, tt) $
        first ! $ blocks ! $
        sets ! (of_opd ! (get ! refl)) refl good $
        sets ! (agg ! (and_then ! (lit ! tt) (and_then ! (get ! refl) (no_more !)))) refl typed $
        assigns_last ! (of_opd ! (get ! refl)) (through ! refl (stop !)) (init ! 0 refl typed) $
        exec ! C Λ En (after 2 (fn' E).body) (at_ret En Post) $
        sets ! (agg ! (and_then ! (get ! refl) (no_more !))) refl (word-Good (ν E) c) $ group ! 2 $
        use1 𝓛 (‵ (fsep (count_at c 1) (there E c x)))
        (block_made E 𝓛 (RB.the_type (R E)).name b o x v) $
        use2 𝓛 (later (‵ (counted E c x m) ⊛ ‵ (flft κ q))) (counts E 𝓛 c x m κ q lt) $ await ! tt $
        split ! $
        word_made E (ν E) c ! $ fjoin ! $
        returns ! (look_at ! 0 refl) $ free_all ! refl $ nothing ! $ move ! (2 ∷ 0 ∷ []) $ join ! $
        move ! (1 ∷ 0 ∷ []) $
        suffices ! _ (ends_at 𝓛 (ended E) (stayed E) held z (word c) (record {
          ptr = c;
          value = x;
          label = m;
        }) (tt, (tt, tt)) (tt, (tt, tt))) $
        says ! (refl, sym e, refl) $ nothing ! $ nothing ! $ fjoin ! $ nothing ! $ fjoin ! $ join ! $
        move ! (1 ∷ 0 ∷ []) $ join ! $ done !)

    walks : ent 𝓤 ((walk_of 𝓛 (ended E) (stayed E) held).pre z)
        (WpFn 𝓤 H C Λ (fn' E) (us ++ (vs ++ [])) Post)
    walks =
        qed 𝓛 (((‵ (flft κ q) ⊛ ‵ ftrue)
        ⊛ ‵ (owns (types_at (ended E).signature.params z.0.0) z.0.3 (us, (vs, tt))))
        ∷ raw (fact 𝓤 (κ ⊑ E.row.lives)) ∷ ‵ ftrue ∷ []) ∵
        move ! (1 ∷ []) $ heard ! _ (λ lt. split ! $ split ! $ move ! (2 ∷ []) $ fsplit ! $
        move ! (1 ∷ []) $ fsplit ! $ el_tells E ! x vs (λ v ev good.
        -- [the value; nothing; the room; the token; nothing; nothing]
        move ! (2 ∷ []) $ fsplit ! $
        word_had E (ρ E) p ! us (λ eu. in_a_block ! p (room_owns (R E)) (id⊢ 𝓤 (never 𝓤))
        (λ b o e.
        keep ! (0 ∷ 1 ∷ 3 ∷ []) $
        by ! (subst
        (λ (ws : List Val). ent 𝓤 (⋆ 𝓛 (Had b o v))
        (WpFn 𝓤 H C Λ (fn' E) (ws ++ (vs ++ [])) Post))
        (sym (subst (λ (r : Ptr). us ≡ word r ∷ []) e eu))
        (subst (λ (ws : List Val). ent 𝓤 (⋆ 𝓛 (Had b o v))
        (WpFn 𝓤 H C Λ (fn' E) (word (block_ptr b o) ∷ (ws ++ [])) Post)) (sym ev)
        (walk lt b o v e good)))))))

  meets : (𝓣 : Tables 𝓤 H)
      → Meets 𝓛 (ended E).signature (WpFn 𝓤 H 𝓣.C 𝓣.Λ (fn' E)) (closing 𝓛 (ended E) held)
  meets 𝓣 =
      walk_Meets 𝓛 (ended E) (stayed E) (
        Goes-dropped 𝓛 1 (plain (λ _. RM.the_row (R E))) no (λ κs x f. refl),
        (Goes-dropped 𝓛 1 (plain (λ _. R E)) no (λ κs x f. refl), tt),
      ) held
      (WpFn 𝓤 H 𝓣.C 𝓣.Λ (fn' E)) (WpFn-mono 𝓤 H 𝓛.laws 𝓣 (fn' E))
      (λ z. walks 𝓣.C 𝓣.Λ z)

pub from_room_spec : {M : Type 1} → stated.statement M
unfolding tables_of
from_room_spec 𝓤 𝓛 𝓜 𝓡 wired Y L =
    let E : Bx = of Y L in
    let A = 𝓛.A in
    let c = F.clauses Y 𝓛 𝓜.mem 𝓡.returns in
    let 𝓣 : Tables 𝓤 𝓛.H = tables_of 𝓤 𝓛.H 𝓜 (tables 𝓤 𝓛.H 𝓜 𝓡 𝓡.env) in
    entered 𝓤 𝓛.H (triple_of 𝓛 (ended E).signature (closing 𝓛 (ended E) c)) 𝓣.C 𝓣.Λ
    (#self (args₁ E)) (fn' E) (code.unfolded 𝓤 𝓛.H 𝓜 𝓡 wired (Y, tt))
    (meets E 𝓛 𝓜.mem 𝓡.returns 𝓣)
