-- Lines without their ends.
use Rattle.std.proofs.Common.{◌≡◌, ◌≢◌, ℕ, ◌==◌, ◌&&◌, Bool, true, false, List, [], ◌∷◌, ◌++◌, refl, sym, ◌∙◌, ap, if◌then◌else◌}
use Rattle.std.proofs.lemmas.Bool.{eqb-true}
use Rattle.std.specs.Borrow.{Bor}
use Rattle.std.specs.Option.{MatchOption}
use Rattle.std.specs.Prelude.{Option, Some, None, unwrap_or}
use Rattle.rowan_lines.specs.Lines.{is_end, without_end}

-- more than two bytes are no end
long : (b c d : ℕ) (xs : List ℕ) → is_end (b ∷ c ∷ (xs ++ d ∷ [])) ≡ false
long b c d [] = refl
long b c d (x ∷ xs) = refl

kept : (b : ℕ) (bs : List ℕ) → is_end (b ∷ bs) ≡ false → without_end (b ∷ bs) ≡ b ∷ without_end bs
kept b bs is = ap (λ (e : Bool). if e then [] else (b ∷ without_end bs)) is

-- `\r\n` comes off
pub without_both : (x : List ℕ) → without_end ((x ++ 13 ∷ []) ++ 10 ∷ []) ≡ x
without_both [] = refl
without_both (b ∷ []) = refl
without_both (b ∷ c ∷ xs) =
    kept b (((c ∷ xs) ++ 13 ∷ []) ++ 10 ∷ []) (long b c 10 (xs ++ 13 ∷ []))
    ∙ ap (λ (bs : List ℕ). b ∷ bs) (without_both (c ∷ xs))

-- `\n` comes off
pub without_newline : (x : List ℕ) → ((front : List ℕ) → x ≢ front ++ 13 ∷ [])
    → without_end (x ++ 10 ∷ []) ≡ x
without_newline [] lacks = refl
without_newline (b ∷ []) lacks = by (b == 13) refl
  where
    by : (e : Bool) → (b == 13) ≡ e → without_end (b ∷ 10 ∷ []) ≡ b ∷ []
    by true is = absurd (lacks [] (ap (λ (c : ℕ). c ∷ []) (eqb-true b 13 is)))
    by false is = kept b (10 ∷ []) (ap (λ (e : Bool). e && true) is)
without_newline (b ∷ c ∷ xs) lacks =
    kept b ((c ∷ xs) ++ 10 ∷ []) (long b c 10 xs)
    ∙ ap (λ (bs : List ℕ). b ∷ bs) (without_newline (c ∷ xs)
    (λ front e. lacks (b ∷ front) (ap (λ (bs : List ℕ). b ∷ bs) e)))

-- what has no end stays
pub without_none : (x : List ℕ) → ((front : List ℕ) → x ≢ front ++ 10 ∷ []) → without_end x ≡ x
without_none [] lacks = refl
without_none (b ∷ []) lacks = by (b == 10) refl
  where
    by : (e : Bool) → (b == 10) ≡ e → without_end (b ∷ []) ≡ b ∷ []
    by true is = absurd (lacks [] (ap (λ (c : ℕ). c ∷ []) (eqb-true b 10 is)))
    by false is = kept b [] is
without_none (b ∷ c ∷ []) lacks = by (b == 13) (c == 10) refl
  where
    by : (f e : Bool) → (c == 10) ≡ e
        → (if f && e then [] else (b ∷ (if e then [] else (c ∷ [])))) ≡ b ∷ c ∷ []
    by f true is = absurd (lacks (b ∷ []) (ap (λ (d : ℕ). b ∷ d ∷ []) (eqb-true c 10 is)))
    by true false is = refl
    by false false is = refl
without_none (b ∷ c ∷ d ∷ xs) lacks =
    ap (λ (bs : List ℕ). b ∷ bs) (without_none (c ∷ d ∷ xs)
    (λ front e. lacks (b ∷ front) (ap (λ (bs : List ℕ). b ∷ bs) e)))

-- what is left of a line without its `\n`, where `\r` was looked for
pub unwrapped : (line found : Bor (List ℕ)) (rest : Option (Bor (List ℕ)))
    → MatchOption rest ((front : List ℕ) → line.now ≢ front ++ 13 ∷ [])
    (λ x. line.now ≡ x.now ++ 13 ∷ [])
    → found ≡ unwrap_or rest line → without_end (line.now ++ 10 ∷ []) ≡ found.now
unwrapped line found None lacks is =
    without_newline line.now lacks ∙ sym (ap (λ (b : Bor (List ℕ)). b.now) is)
unwrapped line found (Some x) e is =
    ap (λ (bs : List ℕ). without_end (bs ++ 10 ∷ [])) e
    ∙ without_both x.now
    ∙ sym (ap (λ (b : Bor (List ℕ)). b.now) is)
