-- One more call of a fold over texts.
use Rattle.std.proofs.Common.{◌≡◌, ℕ, List, ◌∷◌, refl, sym, subst}
use Rattle.std.specs.Prelude.{Result, Ok, Err}
use Rattle.std.specs.Result.{MatchResult}
use Rattle.std.specs.Fn.{Called, Mut}
use Rattle.std.specs.Borrow.{Bor}
use Rattle.rowan_cursor.specs.Folds.{FoldsUntilErr, VisitsUntilErr, VisitsAll}

module _ {F T E : Type 0} (g : Mut F (T × (Bor (List ℕ) × Unit {0})) (Result T E)) where
  abbrev GoesOn : List (List ℕ) → Result T E → F → F → Result T E → Type 0
  GoesOn texts result last next answer =
      MatchResult answer (λ v. FoldsUntilErr g next v texts result last)
      (λ e. (result ≡ Err e) × (last ≡ next))

  fold_on : (f next last : F) (value : T) (text : Bor (List ℕ)) (all texts : List (List ℕ))
      (answer result : Result T E) → all ≡ text.now ∷ texts
      → Called g f (value, (text, tt)) answer next → GoesOn texts result last next answer
      → FoldsUntilErr g f value all result last
  fold_on f next last value text all texts answer result e call rest =
      subst (λ cs. FoldsUntilErr g f value cs result last) (sym e)
      (answer, next, record { shown = text; shows = refl; called = call }, rest)

  pub fold_ok : (f next last : F) (value v : T) (text : Bor (List ℕ)) (all texts : List (List ℕ))
      (answer result : Result T E) → all ≡ text.now ∷ texts
      → Called g f (value, (text, tt)) answer next → answer ≡ Ok v
      → FoldsUntilErr g next v texts result last → FoldsUntilErr g f value all result last
  fold_ok f next last value v text all texts answer result e call is rest =
      fold_on f next last value text all texts answer result e call
      (subst (GoesOn texts result last next) (sym is) rest)

  pub fold_err : (f next : F) (value : T) (refusal : E) (text : Bor (List ℕ))
      (all texts : List (List ℕ)) (answer : Result T E) → all ≡ text.now ∷ texts
      → Called g f (value, (text, tt)) answer next → answer ≡ Err refusal
      → FoldsUntilErr g f value all (Err refusal) next
  fold_err f next value refusal text all texts answer e call is =
      fold_on f next next value text all texts answer (Err refusal) e call
      (subst (GoesOn texts (Err refusal) next next) (sym is) (refl, refl))

module _ {F E : Type 0} (g : Mut F (Bor (List ℕ) × Unit {0}) (Result (Unit {0}) E)) where
  abbrev VisitsOn : List (List ℕ) → Result (Unit {0}) E → F → F → Result (Unit {0}) E → Type 0
  VisitsOn texts result last next answer =
      MatchResult answer (λ v. VisitsUntilErr g next texts result last)
      (λ e. (result ≡ Err e) × (last ≡ next))

  visit_on : (f next last : F) (text : Bor (List ℕ)) (all texts : List (List ℕ))
      (answer result : Result (Unit {0}) E) → all ≡ text.now ∷ texts
      → Called g f (text, tt) answer next → VisitsOn texts result last next answer
      → VisitsUntilErr g f all result last
  visit_on f next last text all texts answer result e call rest =
      subst (λ cs. VisitsUntilErr g f cs result last) (sym e)
      (answer, next, record { shown = text; shows = refl; called = call }, rest)

  pub visit_ok : (f next last : F) (v : Unit {0}) (text : Bor (List ℕ)) (all texts : List (List ℕ))
      (answer result : Result (Unit {0}) E) → all ≡ text.now ∷ texts
      → Called g f (text, tt) answer next → answer ≡ Ok v → VisitsUntilErr g next texts result last
      → VisitsUntilErr g f all result last
  visit_ok f next last v text all texts answer result e call is rest =
      visit_on f next last text all texts answer result e call
      (subst (VisitsOn texts result last next) (sym is) rest)

  pub visit_err : (f next : F) (refusal : E) (text : Bor (List ℕ)) (all texts : List (List ℕ))
      (answer : Result (Unit {0}) E) → all ≡ text.now ∷ texts → Called g f (text, tt) answer next
      → answer ≡ Err refusal → VisitsUntilErr g f all (Err refusal) next
  visit_err f next refusal text all texts answer e call is =
      visit_on f next next text all texts answer (Err refusal) e call
      (subst (VisitsOn texts (Err refusal) next next) (sym is) (refl, refl))

pub visit_all : {F R : Type 0} (g : Mut F (Bor (List ℕ) × Unit {0}) R) (f next last : F)
    (text : Bor (List ℕ)) (all texts : List (List ℕ)) (answer : R) → all ≡ text.now ∷ texts
    → Called g f (text, tt) answer next → VisitsAll g next texts last → VisitsAll g f all last
visit_all g f next last text all texts answer e call rest =
    subst (λ cs. VisitsAll g f cs last) (sym e)
    (answer, next, record { shown = text; shows = refl; called = call }, rest)
