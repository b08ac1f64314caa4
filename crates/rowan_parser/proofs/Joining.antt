-- Tokens that are joined to one leaf, and those behind them.
use Rattle.std.proofs.Common.{◌≡◌, ℕ, zero, suc, ◌+◌, ◌-◌, ◌<◌, ◌≤◌, cond, List, [], ◌∷◌, ◌++◌, length, take, drop, get_or, refl, sym, ◌∙◌, ap, arith, length-append}
use Rattle.std.proofs.lemmas.List.{take-append-drop, drop-drop, drop_all, drop_more}
use Rattle.std.proofs.Math.Seq.{take-append_seam, drop-append_seam}
use Rattle.rowan_green.specs.Word.{Symbol}
use Rattle.rowan_parser.specs.Events.{is_trivia, up_to, behind, one_leaf, Puts}
use Rattle.rowan_events.specs.Tokens.{tokens_text}
use Rattle.rowan_events.specs.declared.lexer.Token.{Token}
use Rattle.rowan_parser.specs.declared.tree.Trivia.{Trivia}
use Rattle.rowan_parser.proofs.Steps.{tokens_text-append}

pub up_to-behind : (trivia : Trivia) (n : ℕ) (ts : List Token) → up_to trivia n ts ++ behind trivia n
    ts ≡ ts
up_to-behind trivia zero [] = refl
up_to-behind trivia (suc n) [] = refl
up_to-behind trivia zero (t ∷ ts) = refl
up_to-behind trivia (suc n) (t ∷ ts) = ap (λ (us : List Token). t ∷ us)
    (up_to-behind trivia (cond (is_trivia trivia t) (suc n) n) ts)

pub joined-are : (trivia : Trivia) (n : ℕ) (ts : List Token) → take (length (up_to trivia n ts)) ts
    ≡ up_to trivia n ts
joined-are trivia n ts =
    let us = up_to trivia n ts in
    ap (take (length us)) (sym (up_to-behind trivia n ts))
    ∙ take-append_seam us (behind trivia n ts)

behind-are : (trivia : Trivia) (n : ℕ) (ts : List Token) → drop (length (up_to trivia n ts)) ts ≡
    behind trivia n ts
behind-are trivia n ts =
    let us = up_to trivia n ts in
    ap (drop (length us)) (sym (up_to-behind trivia n ts))
    ∙ drop-append_seam us (behind trivia n ts)

pub joined_within : (trivia : Trivia) (n : ℕ) (ts : List Token) → length (up_to trivia n ts) ≤
    length ts
joined_within trivia n ts =
    omega (
      arith,
      ap length (up_to-behind trivia n ts),
      length-append (up_to trivia n ts) (behind trivia n ts),
    )

-- ---- a loop over the tokens

up_to-zero : (trivia : Trivia) (ts : List Token) → length (up_to trivia 0 ts) ≡ 0
up_to-zero trivia [] = refl
up_to-zero trivia (t ∷ ts) = refl

pub len_ends : (trivia : Trivia) (count : ℕ) (left : List Token) (len all : ℕ) → count ≡ 0 → len +
    length (up_to trivia count left) ≡ all → len ≡ all
len_ends trivia count left len all none e =
    omega (arith, e, ap (λ k. length (up_to trivia k left)) none, up_to-zero trivia left)

up_to-nil : (trivia : Trivia) (count : ℕ) → length (up_to trivia count []) ≡ 0
up_to-nil trivia zero = refl
up_to-nil trivia (suc n) = refl

pub len_none : (trivia : Trivia) (count : ℕ) (ts : List Token) (i len all : ℕ) → length ts ≤ i → len +
    length (up_to trivia count (drop i ts)) ≡ all → len ≡ all
len_none trivia count ts i len all none e =
    omega (
      arith,
      e,
      ap (λ us. length (up_to trivia count us)) (drop_all i ts none),
      up_to-nil trivia count,
    )

up_to-more : (trivia : Trivia) (count : ℕ) (t : Token) (others : List Token) → 0 < count → length
    (up_to trivia count (t ∷ others)) ≡ length (up_to trivia
    (cond (is_trivia trivia t) count (count - 1)) others) + 1
up_to-more trivia zero t others some = absurd (omega (arith, some))
up_to-more trivia (suc n) t others some =
    let less : suc n - 1 ≡ n = omega arith in
    let one : length (up_to trivia (suc n) (t ∷ others)) ≡ length (up_to trivia
    (cond (is_trivia trivia t) (suc n) n) others) + 1 = omega arith in
    one ∙ ap (λ k. length (up_to trivia (cond (is_trivia trivia t) (suc n) k) others) + 1) (sym less)

pub len_more : (trivia : Trivia) (ts : List Token) (i count next len all : ℕ) (d : Token)
    → i < length ts
    → 0 < count
    → next ≡ cond (is_trivia trivia (get_or ts i d)) count (count - 1)
    → len + length (up_to trivia count (drop i ts)) ≡ all
    → (len + 1) + length (up_to trivia next (drop (i + 1) ts)) ≡ all
len_more trivia ts i count next len all d there some is e =
    omega (
      arith,
      e,
      ap (λ us. length (up_to trivia count us)) (drop_more ts i d there),
      up_to-more trivia count (get_or ts i d) (drop (i + 1) ts) some,
      ap (λ k. length (up_to trivia k (drop (i + 1) ts))) is,
    )

-- ---- the leaf

take-more : (ts : List Token) (put n : ℕ) → put ≤ length ts → take (put + n) ts ≡ take put ts ++ take
    n (drop put ts)
take-more ts zero n within = let e : 0 + n ≡ n = omega arith in ap (λ k. take k ts) e
take-more [] (suc put) n within = absurd (omega (arith, within))
take-more (t ∷ ts) (suc put) n within =
    let e : suc put + n ≡ suc (put + n) = omega arith in
    ap (λ k. take k (t ∷ ts)) e
    ∙ ap (λ (us : List Token). t ∷ us) (take-more ts put n (omega (arith, within)))

pub joined_taken : (trivia : Trivia) (count : ℕ) (ts us : List Token) (put n : ℕ) → put ≤ length ts
    → n ≡ length (up_to trivia count (drop put ts))
    → us ≡ take n (drop put ts)
    → take (put + length us) ts ≡ take put ts ++ us
joined_taken trivia count ts us put n within is taken =
    let left = drop put ts in
    let are : us ≡ up_to trivia count left = taken ∙ ap (λ k. take k left) is
    ∙ joined-are trivia count left in
    let same : put + length us ≡ put + n = ap (λ k. put + k) (ap length are ∙ sym is) in
    ap (λ k. take k ts) same ∙ take-more ts put n within ∙ ap (λ vs. take put ts ++ vs) (sym taken)

pub joined_puts : (trivia : Trivia) (count : ℕ) (ts us : List Token) (u w : List Symbol)
    (kind put n : ℕ)
    → n ≡ length (up_to trivia count (drop put ts))
    → us ≡ take n (drop put ts)
    → w ≡ u ++ one_leaf kind us
    → Puts ts u (one_leaf kind (up_to trivia count (drop put ts)))
    (behind trivia count (drop put ts)) w (put + length us)
joined_puts trivia count ts us u w kind put n is taken e =
    let left = drop put ts in
    let are : us ≡ up_to trivia count left = taken ∙ ap (λ k. take k left) is
    ∙ joined-are trivia count left in
    record {
      word = e ∙ ap (λ vs. u ++ one_leaf kind vs) are;
      left =
          ap (λ k. drop (put + k) ts) (ap length are)
          ∙ sym (drop-drop (length (up_to trivia count left)) put ts)
          ∙ behind-are trivia count left;
    }

-- the text of some of the tokens
pub part_le-text : (ts us : List Token) (put n : ℕ) → us ≡ take n (drop put ts) → length
    (tokens_text us) ≤ length (tokens_text ts)
part_le-text ts us put n taken =
    let left = drop put ts in
    omega (
      arith,
      ap (λ vs. length (tokens_text vs)) taken,
      ap length (ap tokens_text (sym (take-append-drop put ts)) ∙ tokens_text-append (take put ts)
          left),
      length-append (tokens_text (take put ts)) (tokens_text left),
      ap length (ap tokens_text (sym (take-append-drop n left)) ∙ tokens_text-append (take n left)
          (drop n left)),
      length-append (tokens_text (take n left)) (tokens_text (drop n left)),
    )
