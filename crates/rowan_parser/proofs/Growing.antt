-- What steps of a forest spell is the forest over the tokens that come next.
use Rattle.std.proofs.Common.{◌≡◌, ℕ, zero, suc, ◌+◌, Bool, true, false, cond, not, List, [], ◌∷◌, ◌++◌, take, drop, refl, sym, ◌∙◌, ap, arith, append_assoc}
use Rattle.std.specs.Prelude.{take_while}
use Rattle.std.proofs.lemmas.List.{drop-drop}
use Rattle.rowan_green.specs.Word.{Symbol, Close}
use Rattle.rowan_parser.specs.Events.{is_trivia, past, up_to, behind, leaves, one_leaf, opening, spelled_by, after, grown, seen}
use Rattle.rowan_parser.specs.Shape.{Step, Exit, Forest, none, token_then, joined_then, node_then, word, token_count, steps, IsPart}
use Rattle.rowan_events.specs.declared.event.Event.{Event}
use Rattle.rowan_events.specs.declared.lexer.Token.{Token}
use Rattle.rowan_parser.specs.declared.tree.Trivia.{Trivia}

-- ---- the word

grows : (before one rest grows_on : List Symbol) (w : List Symbol) → w ≡ rest ++ grows_on → before ++
    (one ++ w) ≡ (before ++ (one ++ rest)) ++ grows_on
grows before one rest grows_on w e =
    ap (λ s. before ++ (one ++ s)) e
    ∙ ap (λ s. before ++ s) (sym (append_assoc one rest grows_on))
    ∙ sym (append_assoc before (one ++ rest) grows_on)

pub spelled-forest : (trivia : Trivia) (n : ℕ) (f : Forest) (rest : List Step) (ts : List Token)
    → spelled_by trivia n (word f ++ rest) ts
    ≡ grown trivia f ts ++ spelled_by trivia n rest (after trivia f ts)
spelled-forest trivia n none rest ts = refl
spelled-forest trivia n (token_then f) rest ts =
    let left = past (is_trivia trivia) ts in
    let more = drop 1 left in
    grows (leaves (take_while (is_trivia trivia) ts)) (leaves (take 1 left)) (grown trivia f more)
    (spelled_by trivia n rest (after trivia f more)) (spelled_by trivia n (word f ++ rest) more)
    (spelled-forest trivia n f rest more)
spelled-forest trivia n (joined_then kind count f) rest ts =
    let left = past (is_trivia trivia) ts in
    let more = behind trivia count left in
    grows (leaves (take_while (is_trivia trivia) ts)) (one_leaf kind (up_to trivia count left))
    (grown trivia f more) (spelled_by trivia n rest (after trivia f more))
    (spelled_by trivia n (word f ++ rest) more) (spelled-forest trivia n f rest more)
spelled-forest trivia n (node_then kind inside f) rest ts =
    let before = opening trivia kind ts in
    let left = past (is_trivia trivia) ts in
    let more = after trivia inside left in
    let tail = spelled_by trivia n rest (after trivia f more) in
    ap (λ (ss : List Step). before ++ spelled_by trivia (suc n) ss left)
    (append_assoc (word inside) (Exit ∷ word f) rest)
    ∙ ap (λ (s : List Symbol). before ++ s)
    (spelled-forest trivia (suc n) inside (Exit ∷ (word f ++ rest)) left)
    ∙ grows before (grown trivia inside left) (Close ∷ grown trivia f more) tail
    (Close ∷ spelled_by trivia n (word f ++ rest) more)
    (ap (λ (s : List Symbol). Close ∷ s) (spelled-forest trivia n f rest more))

pub spelled-part : (trivia : Trivia) (n : ℕ) (part more : List Event) (f : Forest)
    (ts : List Token) → IsPart part f → spelled_by trivia n (steps (part ++ more)) ts
    ≡ grown trivia f ts ++ spelled_by trivia n (steps more) (after trivia f ts)
spelled-part trivia n part more f ts is =
    ap (λ ss. spelled_by trivia n ss ts) (is.spells more)
    ∙ spelled-forest trivia n f (steps more) ts

-- ---- the tokens

past-seen : (trivia : Trivia) (ts : List Token) → seen trivia (past (is_trivia trivia) ts) ≡ seen
    trivia ts
past-seen trivia [] = refl
past-seen trivia (t ∷ ts) = by (past-seen trivia ts) (is_trivia trivia t) refl
  where
    by : seen trivia (past (is_trivia trivia) ts) ≡ seen trivia ts → (b : Bool)
        → is_trivia trivia t ≡ b
        → seen trivia (past (is_trivia trivia) (t ∷ ts)) ≡ seen trivia (t ∷ ts)
    by ih true e =
        ap (λ (c : Bool). seen trivia (cond c (past (is_trivia trivia) ts) (t ∷ ts))) e
        ∙ ih
        ∙ ap (λ (c : Bool). cond (not c) (t ∷ seen trivia ts) (seen trivia ts)) (sym e)
    by ih false e = ap (λ (c : Bool). seen trivia (cond c (past (is_trivia trivia) ts) (t ∷ ts))) e

next-seen : (trivia : Trivia) (ts : List Token) → seen trivia (drop 1 (past (is_trivia trivia) ts)) ≡
    drop 1 (seen trivia ts)
next-seen trivia [] = refl
next-seen trivia (t ∷ ts) = by (next-seen trivia ts) (is_trivia trivia t) refl
  where
    by : seen trivia (drop 1 (past (is_trivia trivia) ts)) ≡ drop 1 (seen trivia ts) → (b : Bool)
        → is_trivia trivia t ≡ b
        → seen trivia (drop 1 (past (is_trivia trivia) (t ∷ ts))) ≡ drop 1 (seen trivia (t ∷ ts))
    by ih true e =
        ap (λ (c : Bool). seen trivia (drop 1 (cond c (past (is_trivia trivia) ts) (t ∷ ts)))) e
        ∙ ih
        ∙ ap (λ (c : Bool). drop 1 (cond (not c) (t ∷ seen trivia ts) (seen trivia ts))) (sym e)
    by ih false e =
        ap (λ (c : Bool). seen trivia (drop 1 (cond c (past (is_trivia trivia) ts) (t ∷ ts)))) e
        ∙ ap (λ (c : Bool). drop 1 (cond (not c) (t ∷ seen trivia ts) (seen trivia ts))) (sym e)

behind-seen : (trivia : Trivia) (ts : List Token) (n : ℕ) → seen trivia (behind trivia n ts) ≡ drop n
    (seen trivia ts)
behind-seen trivia [] zero = refl
behind-seen trivia [] (suc n) = refl
behind-seen trivia (t ∷ ts) zero = refl
behind-seen trivia (t ∷ ts) (suc n) = by (λ m. behind-seen trivia ts m) (is_trivia trivia t)
  where
    by : ((m : ℕ) → seen trivia (behind trivia m ts) ≡ drop m (seen trivia ts)) → (b : Bool)
        → seen trivia (behind trivia (cond b (suc n) n) ts)
        ≡ drop (suc n) (cond (not b) (t ∷ seen trivia ts) (seen trivia ts))
    by ih true = ih (suc n)
    by ih false = ih n

pub after-seen : (trivia : Trivia) (f : Forest) (ts : List Token) → seen trivia (after trivia f ts) ≡
    drop (token_count f) (seen trivia ts)
after-seen trivia none ts = refl
after-seen trivia (token_then f) ts =
    let more = drop 1 (past (is_trivia trivia) ts) in
    let one : 1 + token_count f ≡ suc (token_count f) = omega arith in
    after-seen trivia f more
    ∙ ap (drop (token_count f)) (next-seen trivia ts)
    ∙ drop-drop (token_count f) 1 (seen trivia ts)
    ∙ ap (λ (n : ℕ). drop n (seen trivia ts)) one
after-seen trivia (joined_then kind n f) ts =
    let left = past (is_trivia trivia) ts in
    after-seen trivia f (behind trivia n left)
    ∙ ap (drop (token_count f)) (behind-seen trivia left n ∙ ap (drop n) (past-seen trivia ts))
    ∙ drop-drop (token_count f) n (seen trivia ts)
after-seen trivia (node_then kind inside f) ts =
    let left = past (is_trivia trivia) ts in
    after-seen trivia f (after trivia inside left)
    ∙ ap (drop (token_count f)) (after-seen trivia inside left
    ∙ ap (drop (token_count inside)) (past-seen trivia ts))
    ∙ drop-drop (token_count f) (token_count inside) (seen trivia ts)
