-- Closings and wraps are determined by the word.
use Rattle.std.proofs.Common.{◌≡◌, ℕ, List, [], ◌∷◌, ◌++◌, map, refl, sym, ◌∙◌, ap, subst, arith}
use Rattle.rowan_green.specs.Term.{NodeTerm, Term, node_of}
use Rattle.rowan_green.specs.Word.{Symbol, Item, Bare, Whole, spelled, HasParts, whole_terms, count}
use Rattle.rowan_green.specs.Word.{Closes, Wraps}
use Rattle.rowan_terms.proofs.ItemLemmas.{whole_terms-map}
use Rattle.rowan_terms.proofs.Words.{parts-unique, not_wholes}

wholes-injective : (ts us : List Term) → map Whole ts ≡ map Whole us → ts ≡ us
wholes-injective ts us e = sym (whole_terms-map ts) ∙ ap whole_terms e ∙ whole_terms-map us

-- the last bare opening, and the whole terms behind it
last_bare-unique : (xs ys : List Item) (k j : ℕ) (ts us : List Term)
    → xs ++ Bare k ∷ map Whole ts ≡ ys ++ Bare j ∷ map Whole us → (k ≡ j) × (ts ≡ us)
last_bare-unique [] [] k j ts us e =
    let kinds : k ≡ j = cc in
    let rest : map Whole ts ≡ map Whole us = cc in
    (kinds, wholes-injective ts us rest)
last_bare-unique [] (y ∷ ys) k j ts us e =
    let rest : ys ++ Bare j ∷ map Whole us ≡ map Whole ts = cc in absurd (not_wholes ys j us ts
    rest)
last_bare-unique (x ∷ xs) [] k j ts us e =
    let rest : xs ++ Bare k ∷ map Whole ts ≡ map Whole us = cc in absurd (not_wholes xs k ts us
    rest)
last_bare-unique (x ∷ xs) (y ∷ ys) k j ts us e =
    let rest : xs ++ Bare k ∷ map Whole ts ≡ ys ++ Bare j ∷ map Whole us = cc in last_bare-unique xs
    ys k j ts us rest

pub Closes-unique : (w w' v v' : List Symbol) (n n' : NodeTerm) → w ≡ w' → Closes w n v
    → Closes w' n' v' → n ≡ n'
Closes-unique w w' v v' n n' same a b =
    let one = parts-unique w (a.before ++ Bare a.kind ∷ map Whole a.children) (b.before
    ++ Bare b.kind ∷ map Whole b.children) a.parts
    (subst (λ x. HasParts x (b.before ++ Bare b.kind ∷ map Whole b.children)) (sym same)
    b.parts) in
    let last = last_bare-unique a.before b.before a.kind b.kind a.children b.children one in
    a.closes ∙ ap (λ k. node_of k a.children) last.0 ∙ ap (λ ts. node_of b.kind ts) last.1
    ∙ sym b.closes

-- items are cut in one way where only whole terms stand behind a number of them
cut-unique : (xs ys : List Item) (ts us : List Term) → xs ++ map Whole ts ≡ ys ++ map Whole us
    → count xs ≡ count ys → (xs ≡ ys) × (ts ≡ us)
cut-unique [] [] ts us e c = (refl, wholes-injective ts us e)
cut-unique [] (Bare k ∷ ys) [] us e c = cc
cut-unique [] (Bare k ∷ ys) (t ∷ ts) us e c = cc
cut-unique [] (Whole u ∷ ys) ts us e c = absurd (omega arith)
cut-unique (Bare k ∷ xs) [] ts [] e c = cc
cut-unique (Bare k ∷ xs) [] ts (u ∷ us) e c = cc
cut-unique (Whole t ∷ xs) [] ts us e c = absurd (omega arith)
cut-unique (Bare k ∷ xs) (Bare j ∷ ys) ts us e c =
    let rest : xs ++ map Whole ts ≡ ys ++ map Whole us = cc in
    let kinds : k ≡ j = cc in
    let cut = cut-unique xs ys ts us rest c in
    (ap (λ i. Bare i ∷ xs) kinds ∙ ap (λ is. Bare j ∷ is) cut.0, cut.1)
cut-unique (Bare k ∷ xs) (Whole u ∷ ys) ts us e c = cc
cut-unique (Whole t ∷ xs) (Bare j ∷ ys) ts us e c = cc
cut-unique (Whole t ∷ xs) (Whole u ∷ ys) ts us e c =
    let rest : xs ++ map Whole ts ≡ ys ++ map Whole us = cc in
    let terms : t ≡ u = cc in
    let cut = cut-unique xs ys ts us rest (omega arith) in
    (ap (λ i. Whole i ∷ xs) terms ∙ ap (λ is. Whole u ∷ is) cut.0, cut.1)

pub Wraps-unique : (w w' v v' : List Symbol) (c c' k : ℕ) → w ≡ w' → c ≡ c' → Wraps w c k v
    → Wraps w' c' k v' → v ≡ v'
Wraps-unique w w' v v' c c' k same at a b =
    let one = parts-unique w (a.before ++ map Whole a.after) (b.before ++ map Whole b.after) a.parts
    (subst (λ x. HasParts x (b.before ++ map Whole b.after)) (sym same) b.parts) in
    let cut = cut-unique a.before b.before a.after b.after one (a.place ∙ at ∙ sym b.place) in
    a.opened.spells ∙ ap (λ is. spelled (is ++ Bare k ∷ map Whole a.after)) cut.0
    ∙ ap (λ ts. spelled (b.before ++ Bare k ∷ map Whole ts)) cut.1 ∙ sym b.opened.spells
