-- What a name records for good, beside what is owned under it. Assumes `Logic`.
use Prim.Native.Nat.{ℕ}
use mathlib.Core.List.{[], ◌∷◌}
use seplogic.Ra.Ura.{Ura}
use base.Logic.{ent, sep, ex, wand, upd_i, id⊢, snd∗, apply∗}
use base.Stored.{Gv}
use base.Before.{before}
use base.Fml.{Lft, Share, Fml, ftrue, fsep, fseps, fex, fwand, fupd, fdead, fbor, flft, fres}
use ghost.Rules.{span, thinned}
use types.Logic.{Logic, sem, lfts}
use types.Kit.{‵, raw, ◌⊛◌, some as exists, later, ◌$◌, ◌∵◌, !, qed, move, drop, use1, use2}
use types.Kit.{split, fsplit, fjoin, fpick, fpack, pick, assume, suffices, await, updating, now, done}
use types.Tokens.{bor_open, obor_alter, res_dup, one_token}
use denote.Sharing.{ShrLaws, said, beside, some}
use denote.SharingLaws.{beside_shr_laws, some_shr_laws}
use denote.Steps.{nothing}
use denote.Struct.Lending.{Lends}

module _ (m : Gv) (F : ℕ → Fml) (t : ℕ → Lft → Fml) where
  abbrev Whole : Fml
  Whole = fex ℕ (λ γ. fsep (fres γ m) (F γ))

  abbrev Seen : Lft → Fml
  Seen = some ℕ (λ γ. beside (said (fres γ m)) (t γ))

  recorded : (γ : ℕ) → ShrLaws (said (fres γ m))
  recorded γ = record {
    contraction = λ M 𝓤 𝓛 κ. 𝓛.names.res_dup γ m;
    mono = λ M 𝓤 𝓛 κ' κ. snd∗ 𝓤 (sem 𝓛 (before κ' κ)) (sem 𝓛 (fres γ m));
  }

  pub named_shr_laws : ((γ : ℕ) → ShrLaws (t γ)) → ShrLaws Seen
  named_shr_laws L = some_shr_laws ℕ (λ γ. beside (said (fres γ m)) (t γ))
      (λ γ. beside_shr_laws (said (fres γ m)) (t γ) (recorded γ) (L γ))

  module _ {M : Type 1} {𝓤 : Ura M} (𝓛 : Logic 𝓤) where
    open 𝓛 use {H, A}

    again : (κ : Lft) (γ : ℕ) → ent 𝓤 (sem 𝓛 (fres γ m))
        (sem 𝓛 (fwand (fsep (fdead κ) (fseps (F γ ∷ []))) (fupd Whole)))
    unfolding fseps
    again κ γ =
        qed 𝓛 (‵ (fres γ m) ∷ []) ∵ assume ! (‵ (fsep (fdead κ) (fsep (F γ) ftrue))) $
        suffices ! (sem 𝓛 Whole) (upd_i 𝓤 (sem 𝓛 Whole)) $
        fsplit ! $ drop ! $ fsplit ! $ move ! (1 ∷ []) $ drop ! $ move ! (1 ∷ 0 ∷ []) $ fjoin ! $
        fpack ! ℕ (λ δ. fsep (fres δ m) (F δ)) γ $ done !

    by_token : (κ : Lft) (q : Share) → ent 𝓤 (sep 𝓤 (A.bor κ Whole) (A.lft κ q))
        (H.⇛ (sep 𝓤 (ex 𝓤 (λ (γ : ℕ). sep 𝓤 (A.res γ m) (A.bor κ (F γ)))) (A.lft κ q)))
    unfolding fseps
    by_token κ q =
        qed 𝓛 (‵ (fbor κ Whole) ∷ ‵ (flft κ q) ∷ []) ∵ updating ! $ bor_open ! tt $
        move ! (1 ∷ []) $ fpick ! (λ γ. fsplit ! $ res_dup ! $
        use1 𝓛 (‵ (fwand (fsep (fdead κ) (fseps (F γ ∷ []))) (fupd Whole))) (again κ γ) $
        nothing ! $ move ! (3 ∷ 0 ∷ []) $ fjoin ! $ move ! (3 ∷ 0 ∷ 1 ∷ []) $
        obor_alter ! tt (F γ ∷ []) $ use1 𝓛 (‵ (fbor κ (F γ)) ⊛ ‵ ftrue) (id⊢ 𝓤 _) $ split ! $
        move ! (1 ∷ []) $ drop ! $ now ! $ move ! (2 ∷ 0 ∷ 1 ∷ []) $
        use2 𝓛 (exists (λ (δ : ℕ). ‵ (fres δ m) ⊛ ‵ (fbor κ (F δ))))
        (base.Logic.ex_i 𝓤 (λ (δ : ℕ). sep 𝓤 (A.res δ m) (A.bor κ (F δ))) γ) $ done !)

    pub named_lends : (l : Lft) → ((γ : ℕ) → Lends 𝓛 (F γ) (t γ) l) → Lends 𝓛 Whole Seen l
    named_lends l f κ ts inc sp =
        qed 𝓛 (‵ (fbor κ Whole) ∷ raw (lfts 𝓛 ts) ∷ []) ∵ updating ! $ move ! (1 ∷ []) $
        use1 𝓛
        (exists (λ (q : Share). ‵ (flft (span ts) q)
        ⊛ raw (wand 𝓤 (A.lft (span ts) q) (lfts 𝓛 ts)))) (one_token 𝓛 ts) $ pick ! (λ q. split ! $
        use1 𝓛
        (‵ (flft κ (thinned κ q)) ⊛ raw (wand 𝓤 (A.lft κ (thinned κ q)) (A.lft (span ts) q)))
        (𝓛.lfts.lft-incl (span ts) κ q sp) $ split ! $ move ! (3 ∷ 0 ∷ []) $
        use2 𝓛
        (later (exists (λ (γ : ℕ). ‵ (fres γ m) ⊛ ‵ (fbor κ (F γ))) ⊛ ‵ (flft κ (thinned κ q))))
        (by_token κ (thinned κ q)) $ await ! tt $ split ! $ move ! (1 ∷ 2 ∷ []) $
        use2 𝓛 (‵ (flft (span ts) q)) (apply∗ 𝓤 (A.lft κ (thinned κ q)) (A.lft (span ts) q)) $
        move ! (0 ∷ 2 ∷ []) $
        use2 𝓛 (raw (lfts 𝓛 ts)) (apply∗ 𝓤 (A.lft (span ts) q) (lfts 𝓛 ts)) $ move ! (1 ∷ []) $
        pick ! (λ γ. split ! $ move ! (1 ∷ 2 ∷ []) $
        use2 𝓛 (later (‵ (t γ κ) ⊛ raw (lfts 𝓛 ts))) (f γ κ ts inc sp) $ await ! tt $ split ! $
        move ! (2 ∷ 0 ∷ []) $ fjoin ! $ fpack ! ℕ (λ δ. fsep (fres δ m) (t δ κ)) γ $ now ! $
        done !))
