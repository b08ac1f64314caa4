-- The leaves of what events spell have the text of the tokens, and where none are joined they are
-- the tokens.
use Rattle.std.proofs.Common.{◌≡◌, ℕ, zero, suc, false, List, [], ◌∷◌, ◌++◌, take, drop, refl, sym, ◌∙◌, ap, subst, append_assoc, append-nil}
use Rattle.std.specs.Prelude.{take_while, ⊤}
use Rattle.std.proofs.lemmas.List.{map-append, take-append-drop}
use Rattle.rowan_terms.proofs.LeafLaws.{word_tokens-append}
use Rattle.rowan_terms.proofs.Words.{word_text-append}
use Rattle.rowan_green.specs.Word.{Symbol, Open, Close, word_text, word_tokens}
use Rattle.rowan_parser.specs.Events.{is_trivia, outside, past, up_to, behind, leaves, one_leaf, opening, closings, spelled_by, tree_word, join_some}
use Rattle.rowan_parser.specs.Shape.{Step, Enter, Take, TakeAs, Exit, around, enters, steps}
use Rattle.rowan_events.specs.Tokens.{token_term, token_terms, tokens_text}
use Rattle.rowan_events.specs.declared.event.Event.{Event}
use Rattle.rowan_events.specs.declared.event.Event.TheVariants as event
use Rattle.rowan_events.specs.declared.lexer.Token.{Token}
use Rattle.rowan_parser.specs.declared.tree.Trivia.{Trivia}
use Rattle.rowan_parser.proofs.Joining.{up_to-behind}
use Rattle.rowan_parser.proofs.Trivial.{taken-past, outside-parts}
use Rattle.rowan_parser.proofs.Steps.{tokens_text-append}

-- what is read of a word and of tokens, each leaf by itself
record Reads {A : Type 0} (h : List Symbol → List A) (g : List Token → List A) : Type 0 where
  both : (v w : List Symbol) → h (v ++ w) ≡ h v ++ h w
  nothing : h [] ≡ []
  opens : (k : ℕ) (w : List Symbol) → h (Open k ∷ w) ≡ h w
  closes : (w : List Symbol) → h (Close ∷ w) ≡ h w
  behind_others : (ts us : List Token) → g (ts ++ us) ≡ g ts ++ g us
  of_leaves : (ts : List Token) → h (leaves ts) ≡ g ts

-- what is read of the leaves that are joined is what is read of their tokens
abbrev CanJoin : {A : Type 0} → (List Symbol → List A) → (List Token → List A) → List Step → Type 0
CanJoin h g [] = ⊤
CanJoin h g (Enter kind ∷ ss) = CanJoin h g ss
CanJoin h g (Take ∷ ss) = CanJoin h g ss
CanJoin h g (TakeAs kind n ∷ ss) =
    ((ts : List Token) → h (one_leaf kind ts) ≡ g ts) × CanJoin h g ss
CanJoin h g (Exit ∷ ss) = CanJoin h g ss

read-both : {A : Type 0} (h : List Symbol → List A) (g : List Token → List A) → Reads h g
    → (v w : List Symbol) (ts us all : List Token) → h v ≡ g ts → h w ≡ g us → ts ++ us ≡ all
    → h (v ++ w) ≡ g all
read-both h g r v w ts us all first rest parts =
    r.both v w
    ∙ ap (λ xs. xs ++ h w) first
    ∙ ap (λ xs. g ts ++ xs) rest
    ∙ sym (r.behind_others ts us)
    ∙ ap g parts

closings-read : {A : Type 0} (h : List Symbol → List A) (g : List Token → List A) → Reads h g
    → (n : ℕ) → h (closings n) ≡ []
closings-read h g r zero = r.nothing
closings-read h g r (suc n) = r.closes (closings n) ∙ closings-read h g r n

opening-read : {A : Type 0} (h : List Symbol → List A) (g : List Token → List A) → Reads h g
    → (trivia : Trivia) (kind : ℕ) (ts : List Token) → h (opening trivia kind ts)
    ≡ g (take (outside trivia kind ts) ts
    ++ take_while (is_trivia trivia) (drop (outside trivia kind ts) ts))
opening-read h g r trivia kind ts =
    let before = take (outside trivia kind ts) ts in
    let inside = take_while (is_trivia trivia) (drop (outside trivia kind ts) ts) in
    read-both h g r (leaves before) (Open kind ∷ leaves inside) before inside (before ++ inside)
    (r.of_leaves before) (r.opens kind (leaves inside) ∙ r.of_leaves inside) refl

spelled-read : {A : Type 0} (h : List Symbol → List A) (g : List Token → List A) → Reads h g
    → (trivia : Trivia) (n : ℕ) (ss : List Step) (ts : List Token) → CanJoin h g ss
    → h (spelled_by trivia n ss ts) ≡ g ts
spelled-read h g r trivia n [] ts can =
    r.both (closings n) (leaves ts)
    ∙ ap (λ xs. xs ++ h (leaves ts)) (closings-read h g r n)
    ∙ r.of_leaves ts
spelled-read h g r trivia n (Enter kind ∷ ss) ts can =
    let left = past (is_trivia trivia) ts in
    read-both h g r (opening trivia kind ts) (spelled_by trivia (suc n) ss left) _ left ts
    (opening-read h g r trivia kind ts) (spelled-read h g r trivia (suc n) ss left can)
    (outside-parts trivia kind ts)
spelled-read h g r trivia n (Take ∷ ss) ts can =
    let before = take_while (is_trivia trivia) ts in
    let left = past (is_trivia trivia) ts in
    let rest = spelled_by trivia n ss (drop 1 left) in
    read-both h g r (leaves before) (leaves (take 1 left) ++ rest) before left ts
    (r.of_leaves before)
    (read-both h g r (leaves (take 1 left)) rest (take 1 left) (drop 1 left) left
    (r.of_leaves (take 1 left)) (spelled-read h g r trivia n ss (drop 1 left) can)
    (take-append-drop 1 left))
    (taken-past (is_trivia trivia) ts)
spelled-read h g r trivia n (TakeAs kind count ∷ ss) ts can =
    let before = take_while (is_trivia trivia) ts in
    let left = past (is_trivia trivia) ts in
    let us = up_to trivia count left in
    let rest = spelled_by trivia n ss (behind trivia count left) in
    read-both h g r (leaves before) (one_leaf kind us ++ rest) before left ts
    (r.of_leaves before)
    (read-both h g r (one_leaf kind us) rest us (behind trivia count left) left
    (can.0 us) (spelled-read h g r trivia n ss (behind trivia count left) can.1)
    (up_to-behind trivia count left))
    (taken-past (is_trivia trivia) ts)
spelled-read h g r trivia zero (Exit ∷ ss) ts can = spelled-read h g r trivia zero ss ts can
spelled-read h g r trivia (suc n) (Exit ∷ ss) ts can =
    r.closes (spelled_by trivia n ss ts) ∙ spelled-read h g r trivia n ss ts can

tree-read : {A : Type 0} (h : List Symbol → List A) (g : List Token → List A) → Reads h g
    → (root : ℕ) (trivia : Trivia) (ts : List Token) (es : List Event) → CanJoin h g (steps es)
    → h (tree_word root trivia ts es) ≡ g ts
tree-read h g r root trivia ts es can =
    let w = spelled_by trivia 0 (steps es) ts in
    r.opens root (w ++ Close ∷ [])
    ∙ r.both w (Close ∷ [])
    ∙ ap (λ xs. h w ++ xs) (r.closes [] ∙ r.nothing)
    ∙ append-nil (h w)
    ∙ spelled-read h g r trivia 0 (steps es) ts can

-- ---- the text

leaves-text : (ts : List Token) → word_text (leaves ts) ≡ tokens_text ts
leaves-text [] = refl
leaves-text (t ∷ ts) = ap (λ bs. t.text.now ++ bs) (leaves-text ts)

one_leaf-text : (kind : ℕ) (ts : List Token) → word_text (one_leaf kind ts) ≡ tokens_text ts
one_leaf-text kind [] = refl
one_leaf-text kind (t ∷ ts) = append-nil (tokens_text (t ∷ ts))

reads-text : Reads word_text tokens_text
reads-text = record {
  both = word_text-append;
  nothing = refl;
  opens = λ k w. refl;
  closes = λ w. refl;
  behind_others = tokens_text-append;
  of_leaves = leaves-text;
}

can-text : (ss : List Step) → CanJoin word_text tokens_text ss
can-text [] = tt
can-text (Enter kind ∷ ss) = can-text ss
can-text (Take ∷ ss) = can-text ss
can-text (TakeAs kind n ∷ ss) = (one_leaf-text kind, can-text ss)
can-text (Exit ∷ ss) = can-text ss

pub tree-text : (root : ℕ) (trivia : Trivia) (ts : List Token) (es : List Event) → word_text
    (tree_word root trivia ts es) ≡ tokens_text ts
tree-text root trivia ts es = tree-read word_text tokens_text reads-text root trivia ts es
    (can-text (steps es))

-- ---- the tokens

leaves-tokens : (ts : List Token) → word_tokens (leaves ts) ≡ token_terms ts
leaves-tokens [] = refl
leaves-tokens (t ∷ ts) = ap (λ us. token_term t ∷ us) (leaves-tokens ts)

reads-tokens : Reads word_tokens token_terms
reads-tokens = record {
  both = word_tokens-append;
  nothing = refl;
  opens = λ k w. refl;
  closes = λ w. refl;
  behind_others = map-append token_term;
  of_leaves = leaves-tokens;
}

can-enter : (ks : List ℕ) (ss : List Step) → CanJoin word_tokens token_terms ss → CanJoin word_tokens
    token_terms (enters ks ++ ss)
can-enter [] ss can = can
can-enter (k ∷ ks) ss can =
    subst (CanJoin word_tokens token_terms) (sym (append_assoc (enters ks) (Enter k ∷ []) ss))
    (can-enter ks (Enter k ∷ ss) can)

can-tokens : (es : List Event) → join_some es ≡ false → CanJoin word_tokens token_terms (steps es)
can-tokens [] none = tt
can-tokens (event.Open kind outer ∷ es) none =
    can-enter (around outer es) (Enter kind.0 ∷ steps es) (can-tokens es none)
can-tokens (event.Around kind outer ∷ es) none = can-tokens es none
can-tokens (event.Close ∷ es) none = can-tokens es none
can-tokens (event.Token ∷ es) none = can-tokens es none
can-tokens (event.Joined kind count ∷ es) none = absurd cc
can-tokens (event.Nothing ∷ es) none = can-tokens es none

pub tree-tokens : (root : ℕ) (trivia : Trivia) (ts : List Token) (es : List Event) → join_some es ≡
    false → word_tokens (tree_word root trivia ts es) ≡ token_terms ts
tree-tokens root trivia ts es none = tree-read word_tokens token_terms reads-tokens root trivia ts
    es (can-tokens es none)
