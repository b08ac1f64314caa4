-- The tokens that pass, put one after the other.
use Rattle.std.proofs.Common.{◌≡◌, ℕ, zero, suc, ◌+◌, ◌-◌, ◌<◌, ◌≤◌, Bool, true, false, cond, List, [], ◌∷◌, ◌++◌, length, take, drop, get_or, refl, sym, ◌∙◌, ap, arith, append_assoc, append-nil}
use Rattle.std.specs.Prelude.{take_while, ltb}
use Rattle.std.proofs.lemmas.Bool.{ltb-true, ltb-false}
use Rattle.std.proofs.lemmas.List.{drop_more, drop-drop, length-drop}
use Rattle.std.proofs.lemmas.List.Sums.{take_while-cons}
use Rattle.rowan_green.specs.Word.{Symbol, Leaf}
use Rattle.rowan_parser.specs.Building.{IsAhead}
use Rattle.rowan_parser.specs.Events.{is_trivia, past, leaves, begins_with, Puts}
use Rattle.rowan_events.specs.Tokens.{token_term}
use Rattle.rowan_events.specs.declared.lexer.Token.{Token}
use Rattle.rowan_parser.specs.declared.tree.Source.{Source}

-- ---- one token

pub puts_token : (ts : List Token) (v w : List Symbol) (put : ℕ) (t : Token) → put < length ts → t ≡
    get_or ts put t → w ≡ v ++ Leaf (token_term t) ∷ [] → Puts ts v (leaves (take 1 (drop put ts)))
    (drop 1 (drop put ts)) w (put + 1)
puts_token ts v w put t some is e =
    let at : drop put ts ≡ t ∷ drop (put + 1) ts = drop_more ts put t some ∙ ap
    (λ u. u ∷ drop (put + 1) ts) (sym is) in
    record {
      word = e ∙ ap (λ left. v ++ leaves (take 1 left)) (sym at);
      left = ap (drop 1) (sym at);
    }

pub drop-none : (ts : List Token) (put : ℕ) → length ts ≤ put → drop put ts ≡ []
drop-none [] zero none = refl
drop-none [] (suc put) none = refl
drop-none (t ∷ ts) zero none = absurd (omega (arith, none))
drop-none (t ∷ ts) (suc put) none = drop-none ts put (omega (arith, none))

pub puts_none : (ts : List Token) (v : List Symbol) (put : ℕ) → length ts ≤ put → Puts ts v
    (leaves (take 1 (drop put ts))) (drop 1 (drop put ts)) v put
puts_none ts v put none =
    let e = drop-none ts put none in
    record {
      word = sym (append-nil v) ∙ ap (λ left. v ++ leaves (take 1 left)) (sym e);
      left = e ∙ ap (drop 1) (sym e);
    }

-- whether the token at a place passes
pub begins_there : (p : Token → Bool) (ts : List Token) (put : ℕ) (t : Token) → put < length ts → t
    ≡ get_or ts put t → p t ≡ begins_with p (drop put ts)
begins_there p ts put t some is =
    let at : drop put ts ≡ t ∷ drop (put + 1) ts = drop_more ts put t some ∙ ap
    (λ u. u ∷ drop (put + 1) ts) (sym is) in
    ap (begins_with p) (sym at)

pub begins_nowhere : (p : Token → Bool) (ts : List Token) (put : ℕ) → length ts ≤ put → false ≡
    begins_with p (drop put ts)
begins_nowhere p ts put none = ap (begins_with p) (sym (drop-none ts put none))

-- ---- the tokens that pass

-- in a loop over these, which began behind the first `from` tokens
pub record IsPassing (p : Token → Bool) (ts : List Token) (u : List Symbol) (from : ℕ)
    (v : List Symbol) (put : ℕ) : Type 0 where
  pub word : v ++ leaves (take_while p (drop put ts)) ≡ u ++ leaves (take_while p (drop from ts))
  pub left : past p (drop put ts) ≡ past p (drop from ts)

pub passing_begins : (p : Token → Bool) (ts : List Token) (u : List Symbol) (from : ℕ) → IsPassing p
    ts u from u from
passing_begins p ts u from = record { word = refl; left = refl }

pub take-passing : (p : Token → Bool) (t : Token) (us : List Token) → true ≡ p t → take_while p (t ∷ us)
    ≡ t ∷ take_while p us
take-passing p t us e = take_while-cons p t us ∙ ap (λ b. cond b (t ∷ take_while p us) []) (sym e)

pub take-failing : (p : Token → Bool) (t : Token) (us : List Token) → false ≡ p t → take_while p
    (t ∷ us) ≡ []
take-failing p t us e = take_while-cons p t us ∙ ap (λ b. cond b (t ∷ take_while p us) []) (sym e)

pub passing_more : (p : Token → Bool) (ts : List Token) (u v w : List Symbol) (from put next : ℕ) →
    true ≡ begins_with p (drop put ts) → IsPassing p ts u from v put → Puts ts v
    (leaves (take 1 (drop put ts))) (drop 1 (drop put ts)) w next → IsPassing p ts u from w next
passing_more p ts u v w from put next passes h k =
    let r = by (drop put ts) (drop next ts) passes h.word h.left k.word k.left in
    record { word = r.0; left = r.1 }
  where
    by : (left later : List Token) → true ≡ begins_with p left
        → v ++ leaves (take_while p left) ≡ u ++ leaves (take_while p (drop from ts))
        → past p left ≡ past p (drop from ts)
        → w ≡ v ++ leaves (take 1 left)
        → later ≡ drop 1 left
        → (w ++ leaves (take_while p later) ≡ u ++ leaves (take_while p (drop from ts))) ×
        (past p later ≡ past p (drop from ts))
    by [] later e word left is behind = absurd cc
    by (t ∷ us) later e word left is behind = (
      ap (λ s. s ++ leaves (take_while p later)) is
          ∙ append_assoc v (Leaf (token_term t) ∷ []) (leaves (take_while p later))
          ∙ ap (λ s. v ++ Leaf (token_term t) ∷ leaves (take_while p s)) behind
          ∙ ap (λ s. v ++ leaves s) (sym (take-passing p t us e))
          ∙ word,
      ap (past p) behind ∙ ap (λ b. cond b (past p us) (t ∷ us)) e ∙ left,
    )

pub passing_ends : (p : Token → Bool) (ts : List Token) (u v : List Symbol) (from put : ℕ) → false ≡
    begins_with p (drop put ts) → IsPassing p ts u from v put → Puts ts u
    (leaves (take_while p (drop from ts))) (past p (drop from ts)) v put
passing_ends p ts u v from put ends h =
    let r = by (drop put ts) ends h.word h.left in
    record { word = r.0; left = r.1 }
  where
    by : (left : List Token) → false ≡ begins_with p left
        → v ++ leaves (take_while p left) ≡ u ++ leaves (take_while p (drop from ts))
        → past p left ≡ past p (drop from ts)
        → (v ≡ u ++ leaves (take_while p (drop from ts))) × (left ≡ past p (drop from ts))
    by [] e word behind = (sym (append-nil v) ∙ word, behind)
    by (t ∷ us) e word behind = (
      sym (append-nil v) ∙ ap (λ s. v ++ leaves s) (sym (take-failing p t us e)) ∙ word,
      ap (λ b. cond b (past p us) (t ∷ us)) e ∙ behind,
    )

-- ---- the place of the next token that is no trivia

length-past : (p : Token → Bool) (us : List Token) → length (past p us) ≤ length us
length-past p [] = omega arith
length-past p (t ∷ us) = by (p t) (length-past p us)
  where
    by : (b : Bool) → length (past p us) ≤ length us
        → length (cond b (past p us) (t ∷ us)) ≤ length (t ∷ us)
    by true h = omega (arith, h)
    by false h = omega arith

passes-longer : (p : Token → Bool) (us : List Token) → length (past p us) < length us → true ≡
    begins_with p us
passes-longer p [] less = absurd (omega (arith, less))
passes-longer p (t ∷ us) less = by (p t) refl less
  where
    by : (b : Bool) → p t ≡ b → length (cond b (past p us) (t ∷ us)) < length (t ∷ us) → true ≡ p t
    by true is h = sym is
    by false is h = absurd (omega (arith, h))

fails-same : (p : Token → Bool) (us : List Token) → length us ≤ length (past p us) → false ≡
    begins_with p us
fails-same p [] same = refl
fails-same p (t ∷ us) same = by (p t) refl same
  where
    by : (b : Bool) → p t ≡ b → length (t ∷ us) ≤ length (cond b (past p us) (t ∷ us)) → false ≡ p t
    by true is h = absurd (omega (arith, h, length-past p us))
    by false is h = sym is

trivia-there : (source : Source) (put next : ℕ) → IsAhead source put next → put < next → true ≡
    begins_with (is_trivia source.trivia) (drop put source.tokens.now)
trivia-there source put next h less =
    let ts = source.tokens.now in
    passes-longer (is_trivia source.trivia) (drop put ts)
    (omega (arith, less, h.within, ap length h.ahead, length-drop put ts, length-drop next ts))

trivia-nowhere : (source : Source) (put next : ℕ) → IsAhead source put next → next ≤ put → false ≡
    begins_with (is_trivia source.trivia) (drop put source.tokens.now)
trivia-nowhere source put next h past_it =
    let ts = source.tokens.now in
    fails-same (is_trivia source.trivia) (drop put ts)
    (omega (arith, past_it, h.within, ap length h.ahead, length-drop put ts, length-drop next ts))

pub trivia_next : (source : Source) (put next : ℕ) → IsAhead source put next → ltb put next ≡
    begins_with (is_trivia source.trivia) (drop put source.tokens.now)
trivia_next source put next h = by (ltb put next) refl
  where
    by : (b : Bool) → ltb put next ≡ b → b ≡ begins_with (is_trivia source.trivia)
        (drop put source.tokens.now)
    by true is = trivia-there source put next h (ltb-true put next is)
    by false is = trivia-nowhere source put next h (ltb-false put next is)

-- trivia that pass are one of the tokens that pass
past-one : (p : Token → Bool) (us : List Token) → true ≡ begins_with p us → past p us ≡ past p
    (drop 1 us)
past-one p [] e = refl
past-one p (t ∷ us) e = ap (λ b. cond b (past p us) (t ∷ us)) (sym e)

past-here : (p : Token → Bool) (us : List Token) → false ≡ begins_with p us → us ≡ past p us
past-here p [] e = refl
past-here p (t ∷ us) e = ap (λ b. cond b (past p us) (t ∷ us)) e

drop-one : (ts : List Token) (n : ℕ) → drop 1 (drop n ts) ≡ drop (n + 1) ts
drop-one ts n = drop-drop 1 n ts

pub next_more : (source : Source) (put next : ℕ) → true ≡ begins_with (is_trivia source.trivia)
    (drop next source.tokens.now)
    → past (is_trivia source.trivia) (drop next source.tokens.now)
    ≡ past (is_trivia source.trivia) (drop put source.tokens.now)
    → past (is_trivia source.trivia) (drop (next + 1) source.tokens.now)
    ≡ past (is_trivia source.trivia) (drop put source.tokens.now)
next_more source put next passes so_far =
    let p = is_trivia source.trivia in
    let ts = source.tokens.now in
    ap (past p) (sym (drop-one ts next)) ∙ sym (past-one p (drop next ts) passes) ∙ so_far

pub next_ends : (source : Source) (put next : ℕ) → next ≤ length source.tokens.now
    → false ≡ begins_with (is_trivia source.trivia) (drop next source.tokens.now)
    → past (is_trivia source.trivia) (drop next source.tokens.now)
    ≡ past (is_trivia source.trivia) (drop put source.tokens.now)
    → IsAhead source put next
next_ends source put next within stops so_far = record {
  within = within;
  ahead = past-here (is_trivia source.trivia) (drop next source.tokens.now) stops ∙ so_far;
}

-- one of the trivia is put
pub ahead_more : (source : Source) (put next : ℕ) → IsAhead source put next → put < next → IsAhead
    source (put + 1) next
ahead_more source put next h less =
    let p = is_trivia source.trivia in
    let ts = source.tokens.now in
    record {
      within = h.within;
      ahead = h.ahead ∙ past-one p (drop put ts) (trivia-there source put next h less)
          ∙ ap (past p) (drop-one ts put);
    }

-- ---- so many tokens

-- so many are still to be put, in a loop over these, which began behind the first `from` tokens
pub record IsPuttingSome (ts : List Token) (u : List Symbol) (from all : ℕ) (v : List Symbol)
    (put count : ℕ) : Type 0 where
  pub word : v ++ leaves (take count (drop put ts)) ≡ u ++ leaves (take all (drop from ts))
  pub left : drop count (drop put ts) ≡ drop all (drop from ts)

pub some_begin : (ts : List Token) (u : List Symbol) (from all : ℕ)
    → IsPuttingSome ts u from all u from all
some_begin ts u from all = record { word = refl; left = refl }

pub some_more : (ts : List Token) (u v w : List Symbol) (from all put next count less : ℕ)
    → 0 < count → less ≡ count - 1
    → IsPuttingSome ts u from all v put count
    → Puts ts v (leaves (take 1 (drop put ts))) (drop 1 (drop put ts)) w next
    → IsPuttingSome ts u from all w next less
some_more ts u v w from all put next zero less some is h k = absurd (omega (arith, some))
some_more ts u v w from all put next (suc m) less some is h k =
    let same : less ≡ m = omega (arith, is) in
    record {
      word =
          ap (λ n. w ++ leaves (take n (drop next ts))) same
          ∙ ap (λ us. w ++ leaves (take m us)) k.left
          ∙ ap (λ s. s ++ leaves (take m (drop 1 (drop put ts)))) k.word
          ∙ append_assoc v (leaves (take 1 (drop put ts))) (leaves (take m (drop 1 (drop put ts))))
          ∙ ap (λ s. v ++ s) (parts (drop put ts))
          ∙ h.word;
      left =
          ap (λ n. drop n (drop next ts)) same
          ∙ ap (drop m) k.left
          ∙ behind (drop put ts)
          ∙ h.left;
    }
  where
    parts : (us : List Token) → leaves (take 1 us) ++ leaves (take m (drop 1 us))
        ≡ leaves (take (suc m) us)
    parts [] = ap (λ (us : List Token). leaves us) (none m)
      where
        none : (n : ℕ) → take {A = Token} n [] ≡ []
        none zero = refl
        none (suc n) = refl
    parts (t ∷ us) = refl

    behind : (us : List Token) → drop m (drop 1 us) ≡ drop (suc m) us
    behind [] = none m
      where
        none : (n : ℕ) → drop {A = Token} n [] ≡ []
        none zero = refl
        none (suc n) = refl
    behind (t ∷ us) = refl

pub some_end : (ts : List Token) (u v : List Symbol) (from all put count : ℕ) → count ≡ 0
    → IsPuttingSome ts u from all v put count
    → Puts ts u (leaves (take all (drop from ts))) (drop all (drop from ts)) v put
some_end ts u v from all put count none h = record {
  word = sym (append-nil v)
      ∙ ap (λ n. v ++ leaves (take n (drop put ts))) (sym none) ∙ h.word;
  left = ap (λ n. drop n (drop put ts)) (sym none) ∙ h.left;
}

-- how many tokens stand before the next one that is no trivia
pub run_length : (source : Source) (put next count : ℕ) → IsAhead source put next
    → put ≤ length source.tokens.now → count ≡ next - put
    → length (past (is_trivia source.trivia) (drop put source.tokens.now)) + count
    ≡ length (drop put source.tokens.now)
run_length source put next count h within e =
    let ts = source.tokens.now in
    let less = length-past (is_trivia source.trivia) (drop put ts) in
    omega (
      arith,
      e,
      within,
      less,
      h.within,
      ap length h.ahead,
      length-drop put ts,
      length-drop next ts,
    )

-- ---- the tokens that are left at the end

pub rest_more : (ts : List Token) (u v w : List Symbol) (put next : ℕ) → put < length ts → v ++
    leaves (drop put ts) ≡ u → Puts ts v (leaves (take 1 (drop put ts))) (drop 1 (drop put ts)) w
    next → w ++ leaves (drop next ts) ≡ u
rest_more ts u v w put next some before h = by (drop put ts) h.word h.left before
  where
    by : (left : List Token) → w ≡ v ++ leaves (take 1 left) → drop next ts ≡ drop 1 left → v ++
        leaves left ≡ u → w ++ leaves (drop next ts) ≡ u
    by [] word left before = ap (λ s. s ++ leaves (drop next ts)) (word ∙ append-nil v) ∙ ap
        (λ s. v ++ leaves s) left ∙ before
    by (t ∷ us) word left before =
        ap (λ s. s ++ leaves (drop next ts)) word
        ∙ append_assoc v (Leaf (token_term t) ∷ []) (leaves (drop next ts))
        ∙ ap (λ s. v ++ Leaf (token_term t) ∷ leaves s) left
        ∙ before

pub rest_ends : (ts : List Token) (u v : List Symbol) (put : ℕ) → length ts ≤ put → v ++ leaves
    (drop put ts) ≡ u → v ≡ u
rest_ends ts u v put none before = sym (append-nil v) ∙ ap (λ s. v ++ leaves s)
    (sym (drop-none ts put none)) ∙ before
