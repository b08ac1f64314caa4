-- What the walks share. Assumes `Logic`.
use Rattle.std.proofs.Common.{◌≡◌, ℕ, zero, suc, ◌^◌, ◌<◌, List, [], ◌∷◌, ◌++◌, ◌∙◌, w64, refl}
use seplogic.Ra.Ura.{Ura}
use mir.Syntax.{Body}
use mir.Val.{Val, vint, vstruct, vcons, vnil, of_list, has_ty, WT}
use base.Logic.{ent, sep, emp}
use base.Fml.{Fml, ftrue}
use prog.Wp.{Env, Calls, Loops, Wp, after_seq, after_block}
use types.Logic.{Logic, sem}
use lib.Dec.{T}
use mir.Syntax.{given as dict_at}
use denote.Param.{layout}
use denote.Param.Laws.{Laws}
use Rattle.std.proofs.alloc.Calls.{handle_tells}
use types.Kit.{Goal, Seq, Item, Post, any_q, post, ‵, ◌$◌, ◌∵◌, !, qed, move, fjoin, fpack, feq_i}
use types.Kit.{done}
use denote.Builtin.{unit, usize}
use denote.RattleType.{RattleType, Valss}
use denote.Steps.{nothing}
use denote.Struct.Declared.{shape}
use denote.Struct.Tuple.{Tuple, tuple_type}
use denote.RawPtr.{Ptr, RawPtr, ptr_val}
use denote.Shadow.{shadow, makes_shadow}
use denote.Signature.{Slot, plain}
use denote.Struct.Struct.{Struct, within}

abbrev pub slot_at : {n : ℕ} → ℕ → List (Slot n) → Slot n
slot_at k [] = plain (λ _. unit)
slot_at zero (s ∷ ss) = s
slot_at (suc k) (s ∷ ss) = slot_at k ss

module _ {M : Type 1} {𝓤 : Ura M} (𝓛 : Logic 𝓤) where
  open 𝓛 use {H}

  abbrev pub then_runs : Calls 𝓤 H → Loops 𝓤 H → Env 𝓤 H → Body → Post 𝓤 H → Post 𝓤 H
  then_runs C Λ E b q = any_q (after_seq 𝓤 H (Wp 𝓤 H C Λ E b (post 𝓤 H q)) (post 𝓤 H q))

  abbrev pub out_of_block : Post 𝓤 H → Post 𝓤 H
  out_of_block q = any_q (after_block 𝓤 H (post 𝓤 H q))

-- a struct by its fields alone: what it owns does not read its name
abbrev pub plainly : List RattleType → RattleType
plainly Rs = Struct (record { name = []; args = []; types = []; fields = Rs })

abbrev pub none : Val
none = vstruct vnil

abbrev pub one : Val → Val
one u = vstruct (vcons u vnil)

abbrev pub chunk_val : Ptr → ℕ → Val
chunk_val p0 n1 = vstruct (vcons (ptr_val p0) (vcons (vint w64 n1) (vcons (vstruct vnil) vnil)))

abbrev pub chunk_own : Ptr → ℕ → List Val → Fml
chunk_own p0 n1 = (plainly (RawPtr ∷ usize ∷ plainly [] ∷ [])).own_val (p0, (n1, (tt, tt)))

pub chunk_told : (p0 : Ptr) (n1 : ℕ) (vs : List Val) → shadow (chunk_own p0 n1 vs)
    → (vs ≡ chunk_val p0 n1 ∷ []) × (n1 < 2 ^ 64)
chunk_told p0 n1 vs s = (
  s.1.0 ∙ (λ i. vstruct (of_list (s.1.1.0 i ++ (s.1.1.1.0.0 i ++ (s.1.1.1.1.0.1.0 i ++ []))))
      ∷ []),
  s.1.1.1.0.1,
)

pub chunk_made : {M : Type 1} {𝓤 : Ura M} (𝓛 : Logic 𝓤) (p0 : Ptr) (n1 : ℕ) → (n1 < 2 ^ 64)
    → ent 𝓤 (emp 𝓤) (sem 𝓛 (chunk_own p0 n1 (chunk_val p0 n1 ∷ [])))
chunk_made 𝓛 p0 n1 f =
    makes_shadow 𝓛 (chunk_own p0 n1 (chunk_val p0 n1 ∷ []))
    (λ _. (tt, (tt, ((tt, tt), ((λ _. (tt, tt)), tt))))) (
      (ptr_val p0 ∷ [], (vint w64 n1 ∷ [], (vstruct vnil ∷ [], tt))),
      (refl, (refl, ((refl, f), ((tt, (refl, tt)), tt)))),
    )

-- a struct with one field that takes no bytes
abbrev pub mark_own : List Val → Fml
mark_own = (plainly (plainly [] ∷ [])).own_val (tt, tt)

abbrev pub mark_val : Val
mark_val = one none

pub mark_told : (vs : List Val) → shadow (mark_own vs) → (vs ≡ mark_val ∷ []) × Unit {0}
mark_told vs s = (s.1.0 ∙ (λ i. vstruct (of_list (s.1.1.0.1.0 i ++ [])) ∷ []), tt)

pub mark_made : {M : Type 1} {𝓤 : Ura M} (𝓛 : Logic 𝓤)
    → ent 𝓤 (emp 𝓤) (sem 𝓛 (mark_own (mark_val ∷ [])))
mark_made 𝓛 =
    makes_shadow 𝓛 (mark_own (mark_val ∷ [])) (λ _. (tt, ((λ _. (tt, tt)), tt)))
    ((vstruct vnil ∷ [], tt), (refl, ((tt, (refl, tt)), tt)))

-- a struct with one pointer
abbrev pub word_own : Ptr → List Val → Fml
word_own p0 = (plainly (RawPtr ∷ [])).own_val (p0, tt)

abbrev pub word_val : Ptr → Val
word_val p0 = one (ptr_val p0)

pub word_told : (p0 : Ptr) (vs : List Val) → shadow (word_own p0 vs)
    → (vs ≡ word_val p0 ∷ []) × Unit {0}
word_told p0 vs s = (s.1.0 ∙ (λ i. vstruct (of_list (s.1.1.0 i ++ [])) ∷ []), tt)

pub word_made : {M : Type 1} {𝓤 : Ura M} (𝓛 : Logic 𝓤) (p0 : Ptr)
    → ent 𝓤 (emp 𝓤) (sem 𝓛 (word_own p0 (word_val p0 ∷ [])))
word_made 𝓛 p0 =
    makes_shadow 𝓛 (word_own p0 (word_val p0 ∷ [])) (λ _. (tt, (tt, tt))) (
      (ptr_val p0 ∷ [], tt),
      (refl, (refl, tt)),
    )

abbrev pub triple_val : Val → Val → Val → Val
triple_val u v w = vstruct (vcons u (vcons v (vcons w vnil)))

pub triple_own : {M : Type 1} {𝓤 : Ura M} (𝓛 : Logic 𝓤) (R S Q : RattleType) (x : R.Denot)
    (y : S.Denot) (r : Q.Denot) (u v w : Val)
    → ent 𝓤 (sep 𝓤 (sem 𝓛 (R.own_val x (u ∷ [])))
    (sep 𝓤 (sem 𝓛 (S.own_val y (v ∷ []))) (sem 𝓛 (Q.own_val r (w ∷ [])))))
    (sem 𝓛 ((Tuple (R ∷ S ∷ Q ∷ [])).own_val (x, y, r) (triple_val u v w ∷ [])))
triple_own 𝓛 R S Q x y r u v w =
    qed 𝓛 (‵ (R.own_val x (u ∷ [])) ∷ ‵ (S.own_val y (v ∷ [])) ∷ ‵ (Q.own_val r (w ∷ [])) ∷ []) ∵
    nothing ! $ move ! (3 ∷ 0 ∷ []) $ fjoin ! $ move ! (2 ∷ 0 ∷ []) $ fjoin ! $
    move ! (1 ∷ 0 ∷ []) $ fjoin ! $
    feq_i ! (List Val) (triple_val u v w ∷ []) (triple_val u v w ∷ []) refl $ fjoin ! $
    fpack ! (Valss (R ∷ S ∷ Q ∷ [])) (within (shape (tuple_type (R ∷ S ∷ Q ∷ []))) (x, (y, (r, tt)))
    (triple_val u v w ∷ [])) (u ∷ [], (v ∷ [], (w ∷ [], tt))) $ done !

module _ {M : Type 1} {𝓤 : Ura M} {𝓛 : Logic 𝓤} {K : Type 0} {Γ : List (Item 𝓤)}
    {G : Goal 𝓤 𝓛.H} where
  -- what is owned is one machine value, of its type
  pub tells : K → (R : RattleType) → Laws R → (x : R.Denot) (vs : List Val)
      → ((v : Val) → vs ≡ v ∷ [] → T (has_ty (layout R) v)
      × WT v → Seq K 𝓛 (‵ (R.own_val x (v ∷ [])) ∷ Γ) G) → Seq K 𝓛 (‵ (R.own_val x vs) ∷ Γ) G
  tells t R L =
      handle_tells (record {
        row = R;
        laws = L;
        g = record { dealloc_token = λ a τ p. ftrue };
        d = dict_at 0;
        drops = dict_at 0;
      }) t
