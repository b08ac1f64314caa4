-- Walks through children: those that cast, one after the other, and the first token of a kind.
use Rattle.std.proofs.Common.{◌≡◌, ℕ, List, [], ◌∷◌, length, Option, Some, None, refl, sym}
use Rattle.std.proofs.Common.{◌∙◌, ap, subst, arith, Bool, true, false, cond}
use Rattle.std.specs.Prelude.{filter, Result, Ok, Err, ⊤}
use Rattle.std.specs.Iterator.{MakesProgress, at_most}
use Rattle.std.specs.List.{find}
use Rattle.std.specs.Option.{option_map, option_map_or}
use Rattle.rowan_green.specs.declared.fault.Fault.{Fault}
use Rattle.rowan_green.specs.declared.utility_types.NodeOrToken.TheVariants.{Node, Token}
use Rattle.rowan_table.specs.Cursor.{Cursor, kind}
use Rattle.rowan_cursor.specs.Kinds.{tokens_in}
use Rattle.rowan_table.specs.Moves.{Element}
use Rattle.rowan_table.specs.Yields.{Rest, YieldsOrRefuses, count_of}
use Rattle.rowan.specs.Ast.{if_casts, YieldsWrappers, is_token_of}
use Rattle.rowan.proofs.ChainLemmas.{none-some}

-- ---- wrappers

-- a node in a wrapper is the one that was cast, and casts
pub record Casts (casts : Cursor → Bool) (c d : Cursor) : Type 0 where
  pub same : d ≡ c
  pub casts_it : casts c ≡ true

pub cast-some : (casts : Cursor → Bool) (c d : Cursor) → Some d ≡ if_casts casts c → Casts casts c d
cast-some casts c d e = by (casts c) refl e
  where
    by : (b : Bool) → casts c ≡ b → ◌≡◌ {A = Option Cursor} (Some d) (cond b (Some c) None)
        → Casts casts c d
    by true h e = record { same = cc; casts_it = h }
    by false h e = absurd (none-some d (sym e))

pub cast-none : (casts : Cursor → Bool) (c : Cursor)
    → ◌≡◌ {A = Option Cursor} None (if_casts casts c) → casts c ≡ false
cast-none casts c e = by (casts c) refl e
  where
    by : (b : Bool) → casts c ≡ b → ◌≡◌ {A = Option Cursor} None (cond b (Some c) None)
        → casts c ≡ false
    by true h e = absurd (none-some c e)
    by false h e = h

filter-next : (casts : Cursor → Bool) (c : Cursor) (cs : List Cursor) (b : Bool) → casts c ≡ b
    → filter casts (c ∷ cs) ≡ cond b (c ∷ filter casts cs) (filter casts cs)
filter-next casts c cs b h = ap (λ b. cond b (c ∷ filter casts cs) (filter casts cs)) h

-- a node that does not cast is passed over
pub passes : {N : Type 0} (casts : Cursor → Bool) (node_of : N → Cursor) (rest left after : Rest
    Cursor) (c : Cursor) (o : Option (Result N Fault)) → casts c ≡ false → YieldsOrRefuses rest
    (Some (Ok c)) left → YieldsWrappers casts node_of left o after
    → YieldsWrappers casts node_of rest o after
passes casts node_of (Err f) left after c o h y w = absurd y
passes {N} casts node_of (Ok cs) left after c o h y w =
    go o (subst (λ r. YieldsWrappers casts node_of r o after) y.2 w)
  where
    skip : filter casts cs ≡ filter casts y.0
    skip = ap (filter casts) y.1 ∙ filter-next casts c y.0 false h

    more : length cs ≡ length (c ∷ y.0)
    more = ap length y.1

    go : (o : Option (Result N Fault)) → YieldsWrappers casts node_of (Ok y.0) o after
        → YieldsWrappers casts node_of (Ok cs) o after
    go None w = (skip ∙ w.0, w.1)
    go (Some (Ok x)) w = (w.0, skip ∙ w.1, omega (arith, more, w.2), w.3)
    go (Some (Err e)) w = (w.0, omega (arith, more), w.2)

-- a node that casts comes next in its wrapper
pub yields-wrapper : {N : Type 0} (casts : Cursor → Bool) (node_of : N → Cursor)
    (rest left : Rest Cursor) (c : Cursor) (x : N) → Some (node_of x) ≡ if_casts casts c
    → YieldsOrRefuses rest (Some (Ok c)) left → YieldsWrappers casts node_of rest (Some (Ok x)) left
yields-wrapper casts node_of (Err f) left c x e y = absurd y
yields-wrapper casts node_of (Ok cs) left c x e y =
    let d = cast-some casts c (node_of x) e in
    let more : length cs ≡ length (c ∷ y.0) = ap length y.1 in (
      y.0,
      ap (filter casts) y.1 ∙ filter-next casts c y.0 true d.casts_it
          ∙ ap (λ z. z ∷ filter casts y.0) (sym d.same),
      omega (arith, more),
      y.2,
    )

pub yields-refusal : {N : Type 0} (casts : Cursor → Bool) (node_of : N → Cursor)
    (rest left : Rest Cursor) (f : Fault) → YieldsOrRefuses rest (Some (Err f)) left
    → YieldsWrappers casts node_of rest (Some (Err f)) left
yields-refusal casts node_of (Err e) left f y = y
yields-refusal casts node_of (Ok cs) left f y = y

pub yields-end : {N : Type 0} (casts : Cursor → Bool) (node_of : N → Cursor)
    (rest left : Rest Cursor) → YieldsOrRefuses rest None left
    → YieldsWrappers casts node_of rest None left
yields-end casts node_of (Err e) left y = absurd y
yields-end casts node_of (Ok cs) left y = (ap (filter casts) y.0, y.1)

-- an item lowers the number of nodes that are left
pub makes-progress : {N : Type 0} (casts : Cursor → Bool) (node_of : N → Cursor)
    (rest after : Rest Cursor) (o : Option (Result N Fault))
    → YieldsWrappers casts node_of rest o after
    → MakesProgress (λ _. ⊤) (λ s. at_most (count_of s)) rest o after
makes-progress casts node_of (Ok cs) after None w = record {
  on = λ f. tt;
  keeps = tt;
  rests = λ f. tt;
}
makes-progress casts node_of (Ok cs) after (Some (Ok x)) w = record {
  on = λ f. (tt, tt, omega (arith, w.2, ap count_of w.3));
  keeps = tt;
  rests = λ f. tt;
}
makes-progress casts node_of (Ok cs) after (Some (Err e)) w = record {
  on = λ f. (tt, tt, omega (arith, w.1, ap count_of w.2));
  keeps = tt;
  rests = λ f. tt;
}
makes-progress casts node_of (Err f) after None w = absurd w
makes-progress casts node_of (Err f) after (Some (Ok x)) w = absurd w
makes-progress casts node_of (Err f) after (Some (Err e)) w = record {
  on = λ g. (tt, tt, omega (arith, ap count_of w.1));
  keeps = tt;
  rests = λ g. tt;
}

-- ---- tokens

-- the first token of some raw kinds among the tokens of some elements, and among the elements
pub find-token : (means : ℕ → Bool) (es : List Element)
    → option_map Token (find (λ c. option_map_or means (kind c) false) (tokens_in es))
    ≡ find (is_token_of means) es
find-token means [] = refl
find-token means (Node c ∷ es) = find-token means es
find-token means (Token c ∷ es) = by (option_map_or means (kind c) false) (find-token means es)
  where
    holds : Cursor → Bool
    holds c = option_map_or means (kind c) false

    by : (b : Bool) → option_map Token (find holds (tokens_in es)) ≡ find (is_token_of means) es
        → option_map Token (cond b (Some c) (find holds (tokens_in es)))
        ≡ cond b (Some (Token c)) (find (is_token_of means) es)
    by true rest = refl
    by false rest = rest
