-- A block of words is the room for a counted value and the room for items, and back. Assumes
-- `Logic`.
use Rattle.std.proofs.Common.{◌≡◌, ℕ, ◌+◌, ◌-◌, ◌*◌, ◌/◌, ◌^◌, ◌<◌, ◌≤◌, [], ◌∷◌, refl, sym, subst}
use Rattle.std.proofs.Common.{arith}
use seplogic.Ra.Ura.{Ura}
use mir.Syntax.{Ty, w32, ty_int, ty_array, ty_struct, tcons, tnil}
use prog.RawLaws.{size-raw}
use mir.Raw.{raw as bare}
use prog.Memory.{size, align}
use prog.Align.{Dv}
use base.Fraction.{full_share}
use base.Logic.{ent, sep, wand, apply∗}
use base.Fml.{Fml, fwand, froom}
use types.Logic.{Logic, sem}
use types.Kit.{‵, raw, ◌⊛◌, ◌$◌, ◌∵◌, !, qed, by, move, keep, drop, assume, use0, use1, use2, split}
use types.Kit.{rewrite, fsplit, fjoin, flt_i, done}
use denote.RattleType.{RattleType}
use denote.Memory.{lone, part_at}
use denote.Array.{Array}
use denote.Builtin.{usize}
use denote.Param.{layout, param}
use denote.Param.Laws.{Laws, of_field}
use denote.Param.Shared.{copy_shared}
use denote.RawPtr.{block_ptr, room_for}
use denote.Steps.{nothing}
use denote.Struct.Field.{usize-field}
use denote.Struct.Laws.{usize-laws, usize-copy}
use Rattle.std.specs.Mem.{type_size}
use Rattle.std_alloc.proofs.RawLayout.{as_raw, as_written}
use Rattle.std_alloc.proofs.VecSteps.El.{El, no_al}
use Rattle.std_alloc.proofs.VecSteps.Rows as rows
use Rattle.rowan_thin_rc.specs.Counting.{count_box_type}
use Rattle.rowan_thin_rc.specs.Ownership.{words, halves, front_size, Cut, tail_owns}

-- the type of a `CountBox<F>` as the code writes it
abbrev pub written : RattleType → Ty
written F = ty_struct [] (tcons (ty_int w32) (tcons (layout F) tnil))

pub front_is : (F : RattleType) → size (written F) ≡ front_size F
front_is F = sym (size-raw (written F))

-- a word, as the element of an array
abbrev Word : El
Word = record {
  row = usize;
  laws = of_field usize-field usize-laws refl (copy_shared usize-field usize-copy);
  al = no_al;
}

abbrev pub el : (T : RattleType) → Laws T → El
el T L = record { row = T; laws = L; al = no_al }

module _ (F T : RattleType) (c n : ℕ) (cut : Cut F T c n) {M : Type 1} {𝓤 : Ura M} (𝓛 : Logic 𝓤)
    (b o : ℕ) where
  open 𝓛 use {H}

  abbrev f : ℕ
  f = front_size F / 8

  abbrev s : ℕ
  s = type_size T

  abbrev items : Ty
  items = ty_array (lone T.mir) c

  front_align : Dv (align (count_box_type F)) 8
  front_align = subst (λ (k : ℕ). Dv k 8) (sym cut.0) tt

  front_halves : Dv (align (count_box_type F)) 4
  front_halves = subst (λ (k : ℕ). Dv k 4) (sym cut.0) tt

  halved : f * 2 * 4 ≡ front_size F
  halved = let i = cut.2 in omega arith

  items_align : Dv (align (lone T.mir)) 8
  items_align = subst (λ (k : ℕ). Dv k 8) (sym cut.1) tt

  front_back : Dv 4 (align (count_box_type F))
  front_back = subst (λ (k : ℕ). Dv 4 k) (sym cut.0) tt

  items_back : Dv 8 (align (lone T.mir))
  items_back = subst (λ (k : ℕ). Dv 8 k) (sym cut.1) tt

  -- how many words the items take
  fewer : f ≤ n
  fewer = let i = cut.2 in let j = cut.3 in omega arith

  long : c * s ≡ (n - f) * 8
  long = let i = cut.2 in let j = cut.3 in omega arith

  abbrev pub Way : Fml
  Way = fwand (room_for (halves f) (block_ptr b o)) (room_for (words f) (block_ptr b o))

  way : ent 𝓤 (wand 𝓤 (H.room (count_box_type F) b o) (H.room (words f) b o)) (sem 𝓛 Way)
  way =
      qed 𝓛 (raw (wand 𝓤 (H.room (count_box_type F) b o) (H.room (words f) b o)) ∷ []) ∵
      assume ! (‵ (froom (halves f) b o)) $
      use1 𝓛 (‵ (froom (count_box_type F) b o)
      ⊛ raw (wand 𝓤 (H.room (count_box_type F) b o) (H.room (halves f) b o)))
      (𝓛.laws.room_as (halves f) (count_box_type F) b o (sym halved) front_halves) $ split ! $
      move ! (0 ∷ 2 ∷ []) $
      use2 𝓛 (‵ (froom (words f) b o))
      (apply∗ 𝓤 (H.room (count_box_type F) b o) (H.room (words f) b o)) $ keep ! (0 ∷ []) $
      done !

  pub cut_rooms : ent 𝓤 (H.room (words n) b o)
      (sep 𝓤 (H.room (count_box_type F) b o)
      (sep 𝓤 (H.room items b (o + front_size F)) (sem 𝓛 Way)))
  cut_rooms =
      qed 𝓛 (‵ (froom (words n) b o) ∷ []) ∵
      use1 𝓛 (‵ (froom (words f) b o) ⊛ ‵ (froom (words (n - f)) b (o + f * 8)))
      (rows.room_split Word 𝓛 f n b o fewer) $ split ! $
      use1 𝓛 (‵ (froom (count_box_type F) b o)
      ⊛ raw (wand 𝓤 (H.room (count_box_type F) b o) (H.room (words f) b o)))
      (𝓛.laws.room_as (words f) (count_box_type F) b o (sym cut.2) front_align) $ split ! $
      move ! (1 ∷ []) $ use1 𝓛 (‵ Way) way $ move ! (2 ∷ []) $
      use1 𝓛 (‵ (froom items b (o + f * 8))
      ⊛ raw (wand 𝓤 (H.room items b (o + f * 8)) (H.room (words (n - f)) b (o + f * 8))))
      (𝓛.laws.room_as (words (n - f)) items b (o + f * 8) long items_align) $ split ! $
      rewrite ! 0 (λ (k : ℕ). ‵ (froom items b (o + k))) cut.2 refl $ keep ! (3 ∷ 0 ∷ 2 ∷ []) $
      done !

  pub glue_rooms : ent 𝓤
      (sep 𝓤 (H.room (count_box_type F) b o)
      (sep 𝓤 (H.room items b (o + front_size F)) (sem 𝓛 Way))) (H.room (words n) b o)
  glue_rooms =
      qed 𝓛 (‵ (froom (count_box_type F) b o) ∷ ‵ (froom items b (o + front_size F)) ∷ ‵ Way ∷ []) ∵
      use1 𝓛 (‵ (froom (halves f) b o)
      ⊛ raw (wand 𝓤 (H.room (halves f) b o) (H.room (count_box_type F) b o)))
      (𝓛.laws.room_as (count_box_type F) (halves f) b o halved front_back) $ split ! $
      move ! (0 ∷ 3 ∷ []) $
      use2 𝓛 (‵ (froom (words f) b o))
      (apply∗ 𝓤 (H.room (halves f) b o) (H.room (words f) b o)) $ move ! (2 ∷ []) $
      rewrite ! 0 (λ (k : ℕ). ‵ (froom items b (o + k))) (sym cut.2) refl $
      use1 𝓛 (‵ (froom (words (n - f)) b (o + f * 8))
      ⊛ raw (wand 𝓤 (H.room (words (n - f)) b (o + f * 8)) (H.room items b (o + f * 8))))
      (𝓛.laws.room_as items (words (n - f)) b (o + f * 8) (sym long) items_back) $ split ! $
      keep ! (2 ∷ 0 ∷ []) $ by ! (rows.glued Word 𝓛 f (n - f) n b o (let le = fewer in omega arith))

-- an empty tail is the room for its items
module _ (T : RattleType) (L : Laws T) (c b o : ℕ) {M : Type 1} {𝓤 : Ura M} (𝓛 : Logic 𝓤) where
  open 𝓛 use {H}

  abbrev R : RattleType
  R = param 1 T

  pub tail_in : c * type_size T < 2 ^ 63
      → ent 𝓤 (H.room (ty_array (layout T) c) b o) (sem 𝓛 (tail_owns R (block_ptr b o) c []))
  tail_in small =
      let none : c ≡ c - 0 = omega arith in let at : o ≡ o + 0 * type_size R = omega arith in
      qed 𝓛 (‵ (froom (ty_array (layout T) c) b o) ∷ []) ∵ as_raw ! (ty_array (layout T) c) b o $
      rewrite ! 0 (λ (k : ℕ). ‵ (froom (bare (ty_array (layout T) k)) b o)) none refl $
      rewrite ! 0 (λ (k : ℕ). ‵ (froom (bare (ty_array (layout T) (c - 0))) b k)) at refl $
      nothing ! $ move ! (1 ∷ 0 ∷ []) $ fjoin ! $
      use0 𝓛 (‵ (part_at (Array R 0) full_share [] b o)) (rows.empty (el T L) 𝓛 [] b o refl) $
      fjoin ! $
      flt_i ! (c * type_size R) (2 ^ 63) small $ fjoin ! $ done !

  pub tail_out : ent 𝓤 (sem 𝓛 (tail_owns R (block_ptr b o) c []))
      (H.room (ty_array (layout T) c) b o)
  tail_out =
      let none : c - 0 ≡ c = omega arith in let at : o + 0 * type_size R ≡ o = omega arith in
      qed 𝓛 (‵ (tail_owns R (block_ptr b o) c []) ∷ []) ∵
      fsplit ! $ drop ! $ fsplit ! $ drop ! $ fsplit ! $
      rewrite ! 0 (λ (k : ℕ). ‵ (froom (bare (ty_array (layout T) (c - 0))) b k)) at refl $
      rewrite ! 0 (λ (k : ℕ). ‵ (froom (bare (ty_array (layout T) k)) b o)) none refl $
      as_written ! (ty_array (layout T) c) b o $ keep ! (0 ∷ []) $ done !
