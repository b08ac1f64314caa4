-- What calls of a closure make of a first value and a list of texts: each call takes the value so
-- far and the next text.
use Rattle.std.specs.Prelude.{◌≡◌, ℕ, List, [], ◌∷◌, Result, Ok, Err}
use Rattle.std.specs.Result.{MatchResult}
use Rattle.std.specs.Fn.{Called, CalledAt, Mut}
use Rattle.std.specs.Borrow.{Bor}

module _ {F T E : Type 0} (g : Mut F (T × (Bor (List ℕ) × Unit {0})) (Result T E)) where
  -- a call of f at a value and a text may give this answer, and leave f'
  pub record CalledOn (f : F) (value : T) (text : List ℕ) (answer : Result T E)
      (f' : F) : Type 0 where
    pub shown : Bor (List ℕ)
    pub shows : shown.now ≡ text
    pub called : Called g f (value, (shown, tt)) answer f'

  -- the calls at these texts end with this result, at the first refusal or behind the last text,
  -- and leave `last`
  abbrev pub FoldsUntilErr : F → T → List (List ℕ) → Result T E → F → Type 0
  FoldsUntilErr f value [] result last = (result ≡ Ok value) × (last ≡ f)
  FoldsUntilErr f value (text ∷ texts) result last =
      (answer : Result T E) × (next : F) × CalledOn f value text answer next
      × MatchResult answer (λ v. FoldsUntilErr next v texts result last)
      (λ e. (result ≡ Err e) × (last ≡ next))

module _ {F R : Type 0} (g : Mut F (Bor (List ℕ) × Unit {0}) R) where
  -- a call at each of these texts, from the first on, takes f to `last`
  abbrev pub VisitsAll : F → List (List ℕ) → F → Type 0
  VisitsAll f [] last = last ≡ f
  VisitsAll f (text ∷ texts) last =
      (answer : R) × (next : F) × CalledAt g f text answer next × VisitsAll next texts last

module _ {F E : Type 0} (g : Mut F (Bor (List ℕ) × Unit {0}) (Result (Unit {0}) E)) where
  -- calls at these texts, up to the first that refuses, end with this result and leave `last`
  abbrev pub VisitsUntilErr : F → List (List ℕ) → Result (Unit {0}) E → F → Type 0
  VisitsUntilErr f [] result last = (result ≡ Ok tt) × (last ≡ f)
  VisitsUntilErr f (text ∷ texts) result last =
      (answer : Result (Unit {0}) E) × (next : F) × CalledAt g f text answer next
      × MatchResult answer (λ v. VisitsUntilErr next texts result last)
      (λ e. (result ≡ Err e) × (last ≡ next))
