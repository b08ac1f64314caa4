-- What the proofs of `Counted` share. Assumes `Logic`.
use mathlib.Core.Path.{◌≡◌, refl, sym, subst}
use Prim.Native.Nat.{ℕ, ◌+◌, ◌-◌, ◌<◌, ◌^◌}
use mathlib.Core.Bool.{true, false, Bool}
use mathlib.Core.List.{List, [], ◌∷◌, ◌++◌}
use seplogic.Ra.Ura.{Ura}
use lib.Dec.{lit<}
use base.Fraction.{full_share}
use base.FractionLaws.{Counts}
use base.Share
use base.Mask.{every}
use base.Stored.{Gv}
use mir.Syntax.{Ty, Tys, Sym, Args, w32, a_type, ty_int, ty_ptr, ty_struct, tcons, tnil}
use mir.Val.{Val, Vals, vint, vstruct, vcons, vnil, of_list}
use mir.Raw.{raw as bare}
use base.Logic.{SProp, ent, sep, all, wand, via, mono_r, never, id⊢, apply∗}
use base.Fml.{Fml, Lft, Incl, Incl-trans, Key, Mask, Share, ftrue, fsep, fex, fhide, fat, froom}
use base.Fml.{flft, fdead, fbor, fobor, fres, ftok}
use contract.BorrowLft.{meet_⊑_left, meet_⊑_right}
use prog.Model.{fields_at, rooms_at}
use types.Logic.{Logic, sem}
use contract.Monad.{conj_r}
use types.Kit.{Item, Goal, Seq, Step, Soaks, step, ‵, raw, some, later, given, ◌⊛◌, ◌$◌, ◌∵◌, ! }
use types.Kit.{qed, by, move, drop, use1, use2, use3, pick, learn, await, group, split, split3}
use types.Kit.{join, frame, assume, fsplit, fsplit3, fjoin, fjoin3, fpick, fpack, feq_i, feq_l}
use types.Kit.{flt_i, flt_l, rewrite, updating, now, done}
use types.Tokens.{shr_bor-open, obor_close, lft_end, name_new, lent_back as had_back}
use types.Within.{tokens_halve}
use types.Na.{na_inv_dup}
use types.RcWeak as rc
use denote.RcWeak as handles
use denote.RattleType.{RattleType, Valss}
use denote.Memory.{cell_at, part_at, hidden_shr}
use denote.Copied.{Copied, plain_Copied, Struct-Copied}
use denote.RawPtr.{Ptr, RawPtr, block_ptr, ptr_val, coded_ptr, ptr_own, rawptr_pure}
use denote.RawPtr.{in_a_block, ◌+ₚ◌}
use denote.Opens.{Shut, unhide}
use denote.Param.{layouts}
use denote.Steps.{nothing, looks, shuts}
use denote.Struct.Struct.{Shape, Struct, within}
use denote.Struct.Laws.{RawPtr-laws}
use denote.Struct.Lending.{Lends, Lends-lies, Lends-first}
use denote.Param.Laws.{Laws, param_laws}
use Rattle.std_alloc.proofs.VecSteps.El.{no_al}
use Rattle.std_alloc.proofs.RawLayout.{as_raw, as_written}
use Rattle.std_alloc.proofs.BoxSteps.Form.{Bx, X, τ, own, R}
use Rattle.std_alloc.proofs.BoxSteps.Steps.{el_out, el_in}
use Rattle.std_alloc.proofs.RcSteps.{Good, word, word_ty}
use Rattle.rowan_thin_rc.specs.Counting.{count_at, one_weak, count_box_type, value_offset}
use Rattle.rowan_thin_rc.specs.Counting.{value_owns, fields_rejoin, value_and_block, value_shared}
use Rattle.rowan_thin_rc.specs.Counting.{mark, counted_owns, counted_shares}

-- the parameter alone, under std's short names
abbrev pub of : (Y : RattleType) → Laws Y → Bx
of Y L = record { row = Y; laws = L; al = no_al }

abbrev pub args₁ : Bx → Args
args₁ E = layouts (a_type ∷ []) (E.row, tt)

module _ (E : Bx) (ν : Sym) where
  -- the data field of a handle
  abbrev pub one_field : Shape
  one_field = record { name = ν; args = []; types = R E ∷ []; fields = RawPtr ∷ [] }

  abbrev pub Word : RattleType
  Word = Struct one_field

  module _ (c : Ptr) {M : Type 1} {𝓤 : Ura M} {𝓛 : Logic 𝓤} {K : Type 0} {Γ : List (Item 𝓤)}
      {G : Goal 𝓤 𝓛.H} where
    pub word_had : K → (vs : List Val) → (vs ≡ word c ∷ [] → Seq K 𝓛 Γ G)
        → Seq K 𝓛 (‵ (Word.own_val (c, tt) vs) ∷ Γ) G
    word_had t vs k = fpick t (λ vss. fsplit t $
        feq_l t (λ ev. fsplit t $
        feq_l t (λ e. drop t $
        k (subst (λ (ws : List Val). vs ≡ vstruct (of_list (ws ++ [])) ∷ []) e ev))))

    pub word_made : K → Step K 𝓛 (‵ (Word.own_val (c, tt) (word c ∷ [])) ∷ Γ) G Γ G
    word_made t = step (λ s.
        nothing t $ feq_i t (List Val) (ptr_val c ∷ []) (ptr_val c ∷ []) refl $ fjoin t $
        feq_i t (List Val) (word c ∷ []) (word c ∷ []) refl $ fjoin t $
        fpack t (Valss (RawPtr ∷ [])) (within one_field (c, tt) (word c ∷ [])) (
          ptr_val c ∷ [],
          tt,
        ) $ s)

  module _ (c : Ptr) {M : Type 1} {𝓤 : Ura M} {𝓛 : Logic 𝓤} {K : Type 0} {Γ : List (Item 𝓤)}
      {G : Goal 𝓤 𝓛.H} where
    -- [the word; what shuts]
    pub reads : K → Soaks G → {κ : Lft} {q : Share} (b o : ℕ)
        → ((q' : Share) → Seq K 𝓛 (‵ (fat q' (word_ty ν) b o (word c))
        ∷ Shut 𝓛 κ q (part_at Word q' (c, tt) b o) ∷ Γ) G)
        → Seq K 𝓛 (‵ (hidden_shr Word κ (c, tt) b o) ∷ ‵ (flft κ q) ∷ Γ) G
    reads t z b o k =
        let raw_copied : Copied 𝓛 RawPtr =
        plain_Copied 𝓛 Ptr coded_ptr (ty_ptr ∷ []) ptr_own rawptr_pure ptr_val
        RawPtr-laws.tells in
        let copied : Copied 𝓛 Word = Struct-Copied 𝓛 one_field (refl, tt) (raw_copied, tt) in
        looks t z Word copied.opens (c, tt) b o (λ q' vs. move t (3 ∷ []) $ drop t $
        move t (1 ∷ []) $ word_had c t vs (λ e.
        rewrite t 0 (λ (us : List Val). ‵ (cell_at q' (word_ty ν ∷ []) us b o)) e refl $
        use1 𝓛 (‵ (fat q' (word_ty ν) b o (word c)))
        (𝓛.laws.raw_at q' (word_ty ν) b o (word c)) $ k q'))

    pub read : K → Soaks G → {κ : Lft} {q : Share} (b o : ℕ) (q' : Share)
        → Step K 𝓛 (‵ (flft κ q) ∷ Γ) G (‵ (fat q' (word_ty ν) b o (word c))
        ∷ Shut 𝓛 κ q (part_at Word q' (c, tt) b o) ∷ Γ) G
    read t z b o q' = step (λ s.
        use1 𝓛 (‵ (fat q' (bare (word_ty ν)) b o (word c)))
        (𝓛.laws.at_raw q' (word_ty ν) b o (word c)) $ word_made c t $ move t (1 ∷ 0 ∷ []) $
        shuts t z Word q' (c, tt) (word c ∷ []) b o $ s)

-- the two lifetimes, and the block's name
abbrev pub Id : Type 0
Id = ℕ × ℕ × ℕ

abbrev pub cell : ℕ → ℕ → ℕ → Fml
cell b o n = fat full_share (ty_int w32) b (o + 0) (vint w32 n)

module _ (E : Bx) where
  abbrev pub value_at : ℕ
  value_at = value_offset (R E)

  abbrev pub block_ty : Ty
  block_ty = count_box_type (R E)

  abbrev pub block_val : Val → Val
  block_val v = vstruct (vcons (vint w32 1) (vcons v vnil))

-- `Types/RcWeak.antt`'s words at the block c and the value x
module _ (E : Bx) (c : Ptr) (x : X E) where
  abbrev pub key : Id → Key
  key a = (a.2, 0)

  abbrev pub lies : Fml
  lies = value_owns (R E) c x

  abbrev pub there : Fml
  there = value_and_block (R E) c x

  abbrev pub sees : Lft → Fml
  sees = value_shared (R E) c x

  -- what the name records
  abbrev pub marked : Gv → ℕ → Fml
  marked m γ = fres γ (mark c m)

  -- what every owner sees and knows
  abbrev pub knows : Gv → Id → Fml
  knows m a = fsep (marked m a.2) (sees (a.0 ∷ []))

  abbrev pub counted : Gv → Fml
  counted = counted_owns (R E) c x

  abbrev pub box : Id → Fml
  box a = rc.box 32 (key a) (count_at c) one_weak there ftrue ftrue (a.0, a.1)

  abbrev pub value : Id → Bool → ℕ → Fml
  value a = rc.value 32 (key a) (count_at c) one_weak there ftrue ftrue (a.0, a.1)

  abbrev pub weaks : Id → ℕ → Fml
  weaks a = rc.weaks 32 (key a) (count_at c) one_weak there ftrue ftrue (a.0, a.1)

  abbrev pub handle : ℕ → ℕ × ℕ → Fml
  handle γ = handles.handle 32 (γ, 0) (count_at c) one_weak there ftrue ftrue sees (λ i. i.0)

  abbrev pub named : Gv → ℕ → Fml
  named m γ = fsep (marked m γ) (fex (ℕ × ℕ) (handle γ))

  abbrev pub lent : Gv → Lft → Fml
  lent = counted_shares (R E) c x

  abbrev pub ClosesIn : {M : Type 1} {𝓤 : Ura M} (𝓛 : Logic 𝓤) → Id → Mask → Item 𝓤
  ClosesIn 𝓛 a m =
      raw (rc.Shut 32 (key a) (count_at c) one_weak there ftrue ftrue 𝓛 (a.0, a.1) m)

  abbrev pub Closes : {M : Type 1} {𝓤 : Ura M} (𝓛 : Logic 𝓤) → Id → Item 𝓤
  Closes 𝓛 a = ClosesIn 𝓛 a every

  abbrev pub Back : {M : Type 1} {𝓤 : Ura M} (𝓛 : Logic 𝓤) → Sym → Lft → Share → ℕ → ℕ → ℕ → Share
      → Share → Item 𝓤
  Back 𝓛 ν κ q b o i s q' =
      ‵ (fobor κ (Share.left q) (flft (i ∷ []) s))
      ⊛ Shut 𝓛 κ (Share.right q) (part_at (Word E ν) q' (c, tt) b o)

module _ (E : Bx) {M : Type 1} {𝓤 : Ura M} (𝓛 : Logic 𝓤) (c : Ptr) (x : X E) where
  open 𝓛 use {H, A}

  lends : Lends 𝓛 (there E c x) (sees E c x) E.row.lives
  lends = Lends-first 𝓛 (lies E c x) (fields_rejoin (R E) c) (sees E c x) E.row.lives
      (Lends-lies 𝓛 (R E) E.row.lives (c +ₚ value_at E) x ((param_laws 0 E.row E.laws).shares 𝓛 x))

  -- the first owner's count
  pub counts : (m : Gv) (μ : Lft) (q : Share) → Incl μ E.row.lives
      → ent 𝓤 (sep 𝓤 (sem 𝓛 (fsep (count_at c 1) (there E c x))) (A.lft μ q))
      (H.⇛ (sep 𝓤 (sem 𝓛 (counted E c x m)) (A.lft μ q)))
  counts m μ q inc =
      qed 𝓛 (‵ (fsep (count_at c 1) (there E c x)) ∷ ‵ (flft μ q) ∷ []) ∵
      updating ! $ name_new ! tt (mark c m) (λ γ.
      use1 𝓛 (‵ (marked E c x m γ)) (𝓛.names.obs-res γ (mark c m)) $ move ! (1 ∷ []) $ drop ! $
      move ! (1 ∷ []) $ fsplit ! $ nothing ! $ nothing ! $ fpack ! (1 ≡ 1) (λ _. ftrue) refl $
      move ! (2 ∷ 0 ∷ 3 ∷ 1 ∷ []) $ group ! 4 $
      use1 𝓛 (later
      (some (λ (i : ℕ × ℕ). ‵ (rc.part 32 i.0) ⊛ ‵ (box E c x (i.0, i.1, γ))
      ⊛ ‵ (fbor (i.0 ∷ []) (there E c x)))))
      (rc.rc_new 32 (γ, 0) (count_at c) one_weak (there E c x) ftrue ftrue 𝓛 (lit< tt)) $
      await ! tt $ pick ! (λ i. split3 ! $ fpick ! (λ e. fpick ! (λ one.
      -- [the token; the invariant; the borrow; what the name records; μ's token]
      move ! (0 ∷ 4 ∷ []) $ join ! $ move ! (2 ∷ 0 ∷ []) $
      use2 𝓛 (later (‵ (sees E c x (i.0 ∷ [])) ⊛ ‵ (flft (i.0 ∷ []) e) ⊛ ‵ (flft μ q)))
      (lends (i.0 ∷ []) ((i.0 ∷ [], e) ∷ (μ, q) ∷ []) (Incl-trans (meet_⊑_right (i.0 ∷ []) μ) inc)
      (meet_⊑_left (i.0 ∷ []) μ)) $ await ! tt $ split3 ! $
      move ! (1 ∷ []) $ use1 𝓛 (‵ (rc.part 32 i.0)) (rc.part_in 32 𝓛 i.0 e one) $
      move ! (0 ∷ 3 ∷ 1 ∷ []) $ fjoin3 ! $
      fpack ! (ℕ × ℕ) (handle E c x γ) i $ move ! (2 ∷ 0 ∷ []) $ fjoin ! $
      fpack ! ℕ (named E c x m) γ $ now ! $ done !))))

module _ (E : Bx) {M : Type 1} {𝓤 : Ura M} (𝓛 : Logic 𝓤) (ν : Sym) (b o : ℕ) where
  open 𝓛 use {H}

  abbrev fields : Tys
  fields = tcons (ty_int w32) (tcons (τ E) tnil)

  abbrev Joins : SProp 𝓤
  Joins = wand 𝓤 (rooms_at 𝓤 H fields 0 b o) (H.room (ty_struct ν fields) b o)

  rejoins : ent 𝓤 Joins (sem 𝓛 (fields_rejoin (R E) (block_ptr b o)))
  rejoins =
      qed 𝓛 (raw Joins ∷ []) ∵
      assume ! (‵ (froom (ty_int w32) b (o + 0)) ⊛ ‵ (froom (bare (τ E)) b (o + value_at E))) $
      split ! $
      move ! (1 ∷ []) $ as_written ! (τ E) b (o + value_at E) $ nothing ! $
      move ! (2 ∷ 1 ∷ 0 ∷ []) $ group ! 3 $
      use2 𝓛 (‵ (froom (ty_struct ν fields) b o))
      (apply∗ 𝓤 (rooms_at 𝓤 H fields 0 b o) (H.room (ty_struct ν fields) b o)) $
      by ! (𝓛.laws.room-raw (ty_struct ν fields) b o)

  pub block_made : (x : X E) (v : Val)
      → ent 𝓤 (sep 𝓤 (H.at full_share (ty_struct ν fields) b o (block_val E v))
      (sem 𝓛 (own E x (v ∷ []))))
      (sem 𝓛 (fsep (count_at (block_ptr b o) 1) (there E (block_ptr b o) x)))
  block_made x v =
      let vs : Vals = vcons (vint w32 1) (vcons v vnil) in
      qed 𝓛 (‵ (fat full_share (ty_struct ν fields) b o (block_val E v)) ∷ ‵ (own E x (v ∷ []))
      ∷ []) ∵
      use1 𝓛 ((‵ (cell b o 1) ⊛ ‵ (fat full_share (τ E) b (o + value_at E) v) ⊛ ‵ ftrue)
      ⊛ raw Joins)
      (via 𝓤 _ (𝓛.laws.at_fields_free ν fields b o vs)
      (mono_r 𝓤 (fields_at 𝓤 H full_share fields 0 b o vs)
      (conj_r 𝓤
      (all 𝓤 (λ (ws : Vals). wand 𝓤 (fields_at 𝓤 H full_share fields 0 b o ws)
      (H.at full_share (ty_struct ν fields) b o (vstruct ws)))) Joins))) $
      split ! $ split3 ! $ flt_i ! 1 (2 ^ 32) (lit< tt) $ fjoin ! $ frame ! $ move ! (0 ∷ 3 ∷ []) $
      use2 𝓛 (‵ (part_at (R E) full_share x b (o + value_at E)))
      (el_in E 𝓛 x b (o + value_at E) v) $ frame ! $ drop ! $
      by ! rejoins

module _ (E : Bx) (c : Ptr) (x : X E) {M : Type 1} {𝓤 : Ura M} {𝓛 : Logic 𝓤} {K : Type 0}
    {Γ : List (Item 𝓤)} {G : Goal 𝓤 𝓛.H} where
  box_twice : K → (a : Id)
      → Step K 𝓛 (‵ (box E c x a) ∷ ‵ (box E c x a) ∷ Γ) G (‵ (box E c x a) ∷ Γ) G
  box_twice t a =
      step (λ s. use1 𝓛 (‵ (box E c x a) ⊛ ‵ (box E c x a))
      (na_inv_dup 𝓛 (key E c x a)
      (rc.Inv 32 (key E c x a) (count_at c) one_weak (there E c x) ftrue ftrue (a.0, a.1))) $
      split t $ s)

module _ (E : Bx) (c : Ptr) (x : X E) {M : Type 1} {𝓤 : Ura M} {𝓛 : Logic 𝓤} {K : Type 0}
    {Γ : List (Item 𝓤)} {G : Goal 𝓤 𝓛.H} where
  open 𝓛 use {H}

  alone : K → (a : Id) → Soaks G
      → Step K 𝓛 (‵ (ftok every) ∷ ‵ (there E c x) ∷ Γ) G (‵ (value E c x a true 1)
      ∷ ‵ (rc.part 32 a.0) ∷ ‵ (weaks E c x a 1) ∷ Closes E c x 𝓛 a ∷ Γ) G
  alone t a z = let I : Fml =
      rc.Inv 32 (key E c x a) (count_at c) one_weak (there E c x) ftrue ftrue (a.0, a.1) in
      step (λ next.
      fsplit3 t $ move t (0 ∷ 3 ∷ []) $
      use2 𝓛 (‵ (flft (a.0 ∷ []) full_share)) (rc.whole 32 𝓛 a.0) $ lft_end t z $
      use1 𝓛 (‵ (fdead (a.0 ∷ [])) ⊛ ‵ (fdead (a.0 ∷ []))) (𝓛.lfts.dead_dup (a.0 ∷ [])) $ split t $
      move t (0 ∷ 2 ∷ []) $ had_back t z $
      move t (3 ∷ []) $ fsplit t $ move t (0 ∷ 4 ∷ []) $
      use2 𝓛 (‵ (flft (a.1 ∷ []) full_share)) (rc.whole 32 𝓛 a.1) $ lft_end t z $
      move t (3 ∷ 0 ∷ []) $ fjoin t $
      fpack t Bool
      (rc.state 32 (key E c x a) (count_at c) one_weak (there E c x) ftrue ftrue (a.0, a.1))
      false $ move t (0 ∷ 3 ∷ []) $
      use2 𝓛 (later (‵ (ftok every))) (apply∗ 𝓤 (sem 𝓛 I) (H.⇛ (𝓛.A.tok every))) $ await t z $
      move t (1 ∷ []) $ drop t $ next)

module _ (E : Bx) (c : Ptr) (x : X E) {M : Type 1} {𝓤 : Ura M} {𝓛 : Logic 𝓤} {K : Type 0}
    {Γ : List (Item 𝓤)} {G : Goal 𝓤 𝓛.H} where
  open 𝓛 use {H}

  -- [the share; the invariant; what every owner sees and knows]
  pub counted_had : K
      → {m : Gv} → ((a : Id) (s : Share) → Counts 32 s 1 → Seq K 𝓛 (‵ (flft (a.0 ∷ []) s)
      ∷ ‵ (box E c x a) ∷ ‵ (knows E c x m a) ∷ Γ) G)
      → Seq K 𝓛 (‵ (counted E c x m) ∷ Γ) G
  counted_had t k =
      fpick t (λ γ. fsplit t $ move t (1 ∷ []) $ fpick t (λ i. fsplit3 t $
      move t (3 ∷ 2 ∷ []) $ fjoin t $ move t (1 ∷ 2 ∷ 0 ∷ []) $
      fpick t (λ s. fpick t (λ one. k (i.0, i.1, γ) s one))))

  pub owner_made : K → (ν : Sym) (a : Id) {m : Gv}
      → Step K 𝓛 (‵ (fsep ((Word E ν).own_val (c, tt) (word c ∷ [])) (counted E c x m)) ∷ Γ) G
      (‵ (rc.part 32 a.0) ∷ ‵ (box E c x a) ∷ ‵ (knows E c x m a) ∷ Γ) G
  owner_made t ν a {m} = step (λ s. move t (2 ∷ []) $ fsplit t $ move t (2 ∷ 3 ∷ 1 ∷ []) $ fjoin3 t $
      fpack t (ℕ × ℕ) (handle E c x a.2) (a.0, a.1) $ move t (1 ∷ 0 ∷ []) $ fjoin t $
      fpack t ℕ (named E c x m) a.2 $ word_made E ν c t $ fjoin t $ s)

  module _ (ν : Sym) (κ : Lft) (q : Share) (b o : ℕ) where
    -- [the share; the invariant; the word; the way back; the invariant; what every owner sees]
    pub lent_out : K → Soaks G → {m : Gv}
        → ((a : Id) (s q' : Share) → Seq K 𝓛 (‵ (flft (a.0 ∷ []) s) ∷ ‵ (box E c x a)
        ∷ ‵ (fat q' (word_ty ν) b o (word c)) ∷ Back E c x 𝓛 ν κ q b o a.0 s q'
        ∷ ‵ (box E c x a) ∷ ‵ (knows E c x m a) ∷ Γ) G)
        → Seq K 𝓛 (‵ (hidden_shr (Word E ν) κ (c, tt) b o) ∷ ‵ (fhide (lent E c x m κ)) ∷ ‵ (flft κ q)
        ∷ Γ) G
    lent_out t z k =
        move t (2 ∷ []) $
        use1 𝓛 (‵ (flft κ (Share.left q)) ⊛ ‵ (flft κ (Share.right q))) (𝓛.lfts.lft_split κ q) $
        split t $ move t (2 ∷ 1 ∷ []) $ reads E ν c t z b o (λ q'.
        move t (3 ∷ []) $ unhide t $
        fpick t (λ γ. fsplit t $ move t (1 ∷ []) $ fpick t (λ i. fsplit3 t $
        move t (3 ∷ 2 ∷ []) $ fjoin t $ move t (1 ∷ 2 ∷ 0 ∷ []) $ let a : Id = (i.0, i.1, γ) in
        move t (0 ∷ 5 ∷ []) $ shr_bor-open t z (tokens_halve 𝓛 (a.0 ∷ [])) (λ s.
        move t (0 ∷ 5 ∷ []) $ join t $ move t (2 ∷ []) $ box_twice E c x t a $
        move t (3 ∷ 0 ∷ 5 ∷ 2 ∷ 1 ∷ 4 ∷ []) $ k a s q'))))

    pub lent_back : K → Soaks G → (i : ℕ) (s q' : Share)
        → Step K 𝓛 (‵ (flft κ q) ∷ Γ) G (‵ (flft (i ∷ []) s) ∷ ‵ (fat q' (word_ty ν) b o (word c))
        ∷ Back E c x 𝓛 ν κ q b o i s q' ∷ Γ) G
    lent_back t z i s q' = step (λ next.
        move t (2 ∷ []) $ split t $ move t (0 ∷ 2 ∷ []) $ obor_close t z $ drop t $
        move t (2 ∷ 1 ∷ []) $ read E ν c t z b o q' $ move t (1 ∷ 0 ∷ []) $
        use2 𝓛 (‵ (flft κ q)) (𝓛.lfts.lft_join κ q) $ next)

  module _ (a : Id) where
    -- [the count; the value; the one weak; what shuts; the share]
    pub opens_in : K → Soaks G → (m : Mask) → m (key E c x a) ≡ true → (s : Share)
        → ((n b o : ℕ) → c ≡ block_ptr b o → n < 2 ^ 32 → 0 < n → Seq K 𝓛
        (‵ (cell b o n) ∷ ‵ (value E c x a true n) ∷ ‵ (weaks E c x a 1) ∷ ClosesIn E c x 𝓛 a m
        ∷ ‵ (flft (a.0 ∷ []) s) ∷ Γ) G)
        → Seq K 𝓛 (‵ (box E c x a) ∷ ‵ (flft (a.0 ∷ []) s) ∷ ‵ (ftok m) ∷ Γ) G
    opens_in t z m has s k =
        use3 𝓛 (later
        (some (λ (u : ℕ × ℕ). ‵ (count_at c u.0) ⊛ ‵ (one_weak u.1) ⊛ ‵ (value E c x a true u.0)
        ⊛ ‵ (weaks E c x a u.1) ⊛ ‵ (flft (a.0 ∷ []) s) ⊛ ClosesIn E c x 𝓛 a m)))
        (rc.open_strong 32 (key E c x a) (count_at c) one_weak (there E c x) ftrue ftrue 𝓛
        (a.0, a.1) m has s) $ await t z $ pick t (λ u.
        split3 t $ move t (2 ∷ []) $ split3 t $ move t (2 ∷ []) $ split t $ move t (5 ∷ []) $
        fpick t (λ em. drop t $
        rewrite t 3 (λ (j : ℕ). ‵ (weaks E c x a j)) em refl $ move t (4 ∷ []) $
        in_a_block t c (λ r. count_at r u.0) (id⊢ 𝓤 (never 𝓤)) (λ b o e. fsplit t $
        flt_l t (λ fn.
        move t (3 ∷ []) $
        use1 𝓛 (given (0 < u.0) (‵ (value E c x a true u.0)))
        (rc.strong_some 32 (key E c x a) (count_at c) one_weak (there E c x) ftrue ftrue 𝓛
        (a.0, a.1) u.0) $ learn t (λ some'.
        move t (1 ∷ 0 ∷ 4 ∷ 3 ∷ 2 ∷ []) $ k u.0 b o e fn some')))))

    pub opens_strong : K → Soaks G → (s : Share)
        → ((n b o : ℕ) → c ≡ block_ptr b o → n < 2 ^ 32 → 0 < n → Seq K 𝓛
        (‵ (cell b o n) ∷ ‵ (value E c x a true n) ∷ ‵ (weaks E c x a 1) ∷ Closes E c x 𝓛 a
        ∷ ‵ (flft (a.0 ∷ []) s) ∷ Γ) G)
        → Seq K 𝓛 (‵ (box E c x a) ∷ ‵ (flft (a.0 ∷ []) s) ∷ ‵ (ftok every) ∷ Γ) G
    opens_strong t z = opens_in t z every refl

    pub shut_in : K → Soaks G → (m : Mask) (n b o : ℕ) → c ≡ block_ptr b o → n < 2 ^ 32
        → Step K 𝓛 (‵ (ftok m) ∷ Γ) G (‵ (cell b o n) ∷ ‵ (value E c x a true n)
        ∷ ‵ (weaks E c x a 1) ∷ ClosesIn E c x 𝓛 a m ∷ Γ) G
    shut_in t z m n b o e fn = step (λ next.
        flt_i t n (2 ^ 32) fn $ fjoin t $ rewrite t 0 (λ (r : Ptr). ‵ (count_at r n)) (sym e) refl $
        nothing t $ fpack t (1 ≡ 1) (λ _. ftrue) refl $ move t (1 ∷ 0 ∷ []) $ group t 5 $
        use1 𝓛 (later (‵ (ftok m)))
        (rc.shut 32 (key E c x a) (count_at c) one_weak (there E c x) ftrue ftrue 𝓛 (a.0, a.1) m
        true n 1) $ await t z $ next)

    pub shut : K → Soaks G → (n b o : ℕ) → c ≡ block_ptr b o → n < 2 ^ 32
        → Step K 𝓛 (‵ (ftok every) ∷ Γ) G (‵ (cell b o n) ∷ ‵ (value E c x a true n)
        ∷ ‵ (weaks E c x a 1) ∷ Closes E c x 𝓛 a ∷ Γ) G
    shut t z = shut_in t z every

    pub more : K → (n : ℕ) → n + 1 < 2 ^ 32
        → Step K 𝓛 (‵ (value E c x a true (n + 1)) ∷ ‵ (rc.part 32 a.0) ∷ Γ) G
        (‵ (value E c x a true n) ∷ Γ) G
    more t n f =
        step (λ next. use1 𝓛 (‵ (value E c x a true (n + 1)) ⊛ ‵ (rc.part 32 a.0))
        (rc.more 32 (key E c x a) (count_at c) one_weak (there E c x) ftrue ftrue 𝓛 (a.0, a.1) n f) $
        split t $ next)

    pub less : K → (n : ℕ) → 1 < n
        → Step K 𝓛 (‵ (value E c x a true (n - 1)) ∷ Γ) G (‵ (value E c x a true n)
        ∷ ‵ (rc.part 32 a.0) ∷ Γ) G
    less t n many =
        use2 𝓛 (‵ (value E c x a true (n - 1)))
        (rc.less 32 (key E c x a) (count_at c) one_weak (there E c x) ftrue ftrue 𝓛 (a.0, a.1) n many)

    -- the last owner: [the value's cell; what it owns; the rejoin; the thread's token]
    pub value_out : K → Soaks G → (n b o : ℕ) → n ≡ 1 → c ≡ block_ptr b o
        → ((v : Val) → Good (τ E) v → Seq K 𝓛 (‵ (fat full_share (τ E) b (o + value_at E) v)
        ∷ ‵ (own E x (v ∷ [])) ∷ ‵ (fields_rejoin (R E) (block_ptr b o)) ∷ ‵ (ftok every) ∷ Γ)
        G)
        → Seq K 𝓛 (‵ (value E c x a true n) ∷ ‵ (rc.part 32 a.0) ∷ ‵ (weaks E c x a 1)
        ∷ Closes E c x 𝓛 a ∷ Γ) G
    value_out t z n b o last e k =
        rewrite t 0 (λ (j : ℕ). ‵ (value E c x a true j)) last refl $ alone E c x t a z $
        move t (1 ∷ []) $ fsplit t $
        rewrite t 0 (λ (r : Ptr). ‵ (value_owns (R E) r x)) e refl $
        rewrite t 1 (λ (r : Ptr). ‵ (fields_rejoin (R E) r)) e refl $
        use1 𝓛 (some
        (λ (v : Val). given (Good (τ E) v) (‵ (fat full_share (τ E) b (o + value_at E) v)
        ⊛ ‵ (own E x (v ∷ []))))) (el_out E 𝓛 x b (o + value_at E)) $
        pick t (λ v. learn t (λ good.
        split t $ k v good))

  -- the emptied block
  pub block_back : K → (n b o : ℕ) (v : Val)
      → Step K 𝓛 (‵ (froom (block_ty E) b o) ∷ Γ) G
      (‵ (cell b o n) ∷ ‵ (fat full_share (τ E) b (o + value_at E) v)
      ∷ ‵ (fields_rejoin (R E) (block_ptr b o)) ∷ Γ) G
  block_back t n b o v = step (λ next.
      use1 𝓛 (‵ (froom (ty_int w32) b (o + 0)))
      (𝓛.laws.at_room (ty_int w32) b (o + 0) (vint w32 n)) $ move t (1 ∷ []) $
      use1 𝓛 (‵ (froom (τ E) b (o + value_at E))) (𝓛.laws.at_room (τ E) b (o + value_at E) v) $
      as_raw t (τ E) b (o + value_at E) $ move t (1 ∷ 0 ∷ []) $ group t 2 $
      use2 𝓛 (‵ (froom (block_ty E) b o))
      (apply∗ 𝓤 (sep 𝓤 (H.room (ty_int w32) b (o + 0)) (H.room (bare (τ E)) b (o + value_at E)))
      (H.room (block_ty E) b o)) $ next)
