-- Characters of a text in one of its chunks.
use Rattle.std.proofs.Common.{◌≡◌, ℕ, ◌+◌, ◌-◌, ◌<◌, ◌≤◌, Bool, List, [], ◌∷◌, ◌++◌, length, take}
use Rattle.std.proofs.Common.{drop, get_or, Option, Some, None, inl, inr, sym, ◌∙◌, ap, subst}
use Rattle.std.proofs.Common.{arith, length-append, append_assoc}
use Rattle.std.specs.Prelude.{encode_utf8, ◌==◌}
use Rattle.std.specs.Char.{IsScalar}
use Rattle.std.specs.Option.{MatchOption}
use Rattle.std.specs.Str.{IsCharBoundary, IsUtf8, NonePass, NoCharPasses, encode_utf8_all}
use Rattle.std.specs.Str.Pattern.{FindsChar as FindsIn, MatchBeginsAt}
use Rattle.std.proofs.lemmas.Bool.{cases_lt, eq-eqb, true≢false}
use Rattle.std.proofs.lemmas.List.{drop_all, length-drop, length-take-le, take-append-drop}
use Rattle.std.proofs.lemmas.List.{drop-append-le, get_or_append_left, get_or-drop}
use Rattle.std.proofs.lemmas.Str.{length-encode, len_utf8_bounds, IsUtf8-encode, IsUtf8-take}
use Rattle.std.proofs.lemmas.Str.{IsUtf8-drop, IsCharBoundary-start, encode_same, encodes-append}
use Rattle.std.proofs.lemmas.Str.{encodes_same}
use Rattle.std.proofs.Math.Seq.{drop-append-add}
use Rattle.rowan_green.specs.Fits.{byte_limit}
use Rattle.rowan_table.specs.Chunks.{IsByteIn}
use Rattle.rowan_table.specs.SyntaxText.{HasChar, BeginsFirst, LacksChar, ReadsChar}

-- no character begins behind the end
pub char_past : (text : List ℕ) (offset c : ℕ) → length text ≤ offset → HasChar text offset c → ⊥
char_past text offset c past h =
    omega (
      arith,
      ap length (sym (drop_all offset text past) ∙ h.begins),
      length-append (encode_utf8 c) h.rest,
      length-encode c,
      (len_utf8_bounds c).0,
    )

-- a byte in one of the chunks stands before the text's end
pub byte_within : (text : List ℕ) (offset : ℕ) (chunk : List ℕ) (place : ℕ)
    → IsByteIn text offset chunk place → offset ≤ length text
byte_within text offset chunk place b =
    omega (
      arith,
      ap length b.parts,
      length-append b.before (chunk ++ b.after),
      length-append chunk b.after,
      b.at,
      b.within,
    )

-- what follows a byte in the text begins with what follows it in its chunk
drop_here : (text : List ℕ) (offset : ℕ) (chunk : List ℕ) (place : ℕ)
    (b : IsByteIn text offset chunk place) → drop offset text ≡ drop place chunk ++ b.after
drop_here text offset chunk place b =
    ap (drop offset) b.parts ∙ ap (λ n. drop n (b.before ++ (chunk ++ b.after))) (sym b.at)
    ∙ drop-append-add b.before (chunk ++ b.after) place
    ∙ drop-append-le place chunk b.after (omega (arith, b.within))

-- where a character begins, the chunk may be cut
pub char_border : (text : List ℕ) (offset : ℕ) (chunk : List ℕ) (place c : ℕ)
    → IsByteIn text offset chunk place → IsScalar c → HasChar text offset c
    → IsCharBoundary chunk place
char_border text offset chunk place c b s h =
    let left : 0 < length (drop place chunk) = omega (arith, length-drop place chunk, b.within) in
    let some : 0 < length (encode_utf8 c) = omega (arith, length-encode c, (len_utf8_bounds c).0) in
    let here : place + 0 ≡ place = omega arith in
    let first : get_or (encode_utf8 c) 0 0 ≡ get_or chunk place 0 =
    sym (get_or_append_left (encode_utf8 c) h.rest 0 0 some)
    ∙ ap (λ us. get_or us 0 0) (sym h.begins ∙ drop_here text offset chunk place b)
    ∙ get_or_append_left (drop place chunk) b.after 0 0 left ∙ get_or-drop place chunk 0 0
    ∙ ap (λ n. get_or chunk n 0) here in
    let lead = IsCharBoundary-start (encode_utf8 c) (IsUtf8-encode c s) in (
      omega (arith, b.within),
      λ l high. subst (λ x. 192 ≤ x) first
          (lead.1 some (subst (λ x. 128 ≤ x) (sym first) high)),
    )

-- the character that is read in the chunk is that of the text
pub char_read : (X : Type 0) (text : List ℕ) (offset : ℕ) (chunk : List ℕ) (place : ℕ)
    (found : Option ℕ) (here behind : List ℕ) → IsByteIn text offset chunk place
    → here ≡ drop place chunk → MatchOption found ((length here ≡ 0) × X)
    (λ c. here ≡ encode_utf8 c ++ behind) → ReadsChar text offset found
char_read X text offset chunk place None here behind b e m =
    absurd (omega (arith, m.0, ap length e, length-drop place chunk, b.within))
char_read X text offset chunk place (Some c) here behind b e m =
    record {
      rest = behind ++ b.after;
      begins = drop_here text offset chunk place b ∙ ap (λ us. us ++ b.after) (sym e ∙ m)
          ∙ append_assoc (encode_utf8 c) behind b.after;
    }

-- Where a character first begins. a text up to an offset, and what is left of it: the character c
-- begins at none of the bytes that were passed
pub record HasPassed (text : List ℕ) (at c : ℕ) (rest : List ℕ) : Type 0 where
  pub before : List ℕ
  pub parts : text ≡ before ++ rest
  pub len : length before ≡ at
  pub none : (j : ℕ) → j < at → HasChar text j c → ⊥

pub nothing_passed : (text rest : List ℕ) (c : ℕ) → rest ≡ text → HasPassed text 0 c rest
nothing_passed text rest c e = record {
  before = [];
  parts = sym e;
  len = omega arith;
  none = λ j l h. omega (arith, l);
}

-- there is room for the offset behind the next chunk
pub next_fits : (text chunk rest : List ℕ) (at c : ℕ) → length text ≤ byte_limit
    → HasPassed text at c (chunk ++ rest) → at + length chunk ≤ byte_limit
next_fits text chunk rest at c fits p =
    omega (
      arith,
      fits,
      p.len,
      ap length p.parts,
      length-append p.before (chunk ++ rest),
      length-append chunk rest,
    )

-- once all is passed, c begins at no byte
pub all_passed : (text : List ℕ) (at c : ℕ) → HasPassed text at c [] → LacksChar text c
all_passed text at c p =
    record {
      none = λ j h. elim (cases_lt j at) [
        | inl l ↦ p.none j l h
        | inr g ↦ char_past text j c (omega (
          arith,
          g,
          p.len,
          ap length p.parts,
          length-append p.before [],
        )) h
      ];
    }

none-behind : (p : ℕ → Bool) (before behind : List ℕ) → NonePass p (before ++ behind)
    → NonePass p behind
none-behind p [] behind h = h
none-behind p (c ∷ cs) behind h = none-behind p cs behind h.1

-- if c is none of the characters of a chunk, then it begins at none of its bytes in the text
not_in_chunk : (text : List ℕ) (offset : ℕ) (chunk : List ℕ) (place c : ℕ)
    → IsByteIn text offset chunk place → IsScalar c → IsUtf8 chunk
    → NoCharPasses (λ d. d == c) chunk → HasChar text offset c → ⊥
not_in_chunk text offset chunk place c b s utf8 none h =
    let border = char_border text offset chunk place c b s h in
    let front = IsUtf8-take chunk place utf8 border in
    let back = IsUtf8-drop chunk place utf8 border in
    let both : encode_utf8_all (front.0 ++ back.0) ≡ chunk =
    encodes-append front.0 back.0 ∙ ap (λ us. us ++ encode_utf8_all back.0) front.1.1
    ∙ ap (λ us. take place chunk ++ us) back.1.1 ∙ take-append-drop place chunk in
    let same : none.0 ≡ front.0 ++ back.0 = encodes_same none.0 (front.0 ++ back.0)
    (none.1 ∙ sym both) in
    at back.0 back.1.1 (none-behind (λ d. d == c) front.0 back.0
    (subst (NonePass (λ d. d == c)) same none.2))
  where
    at : (cs : List ℕ) → encode_utf8_all cs ≡ drop place chunk → NonePass (λ d. d == c) cs → ⊥
    at [] e n = omega (arith, ap length e, length-drop place chunk, b.within)
    at (d ∷ ds) e n =
        let starts : encode_utf8 d ++ (encode_utf8_all ds ++ b.after) ≡ encode_utf8 c ++ h.rest =
        sym (append_assoc (encode_utf8 d) (encode_utf8_all ds) b.after) ∙ ap (λ us. us ++ b.after) e
        ∙ sym (drop_here text offset chunk place b) ∙ h.begins in
        true≢false (sym (eq-eqb d c (encode_same d c (encode_utf8_all ds ++ b.after) h.rest
        starts).0) ∙ n.0)

-- a chunk without c is passed
pub pass_chunk : (text chunk rest : List ℕ) (at next c : ℕ) → IsScalar c → IsUtf8 chunk
    → NoCharPasses (λ d. d == c) chunk → HasPassed text at c (chunk ++ rest)
    → next ≡ at + length chunk → HasPassed text next c rest
pass_chunk text chunk rest at next c s utf8 none p there =
    record {
      before = p.before ++ chunk;
      parts = p.parts ∙ sym (append_assoc p.before chunk rest);
      len = omega (arith, length-append p.before chunk, p.len, there);
      none = λ j l h. elim (cases_lt j at) [
        | inl m ↦ p.none j m h
        | inr g ↦ (
            let b : IsByteIn text j chunk (j - at) =
            record {
              before = p.before;
              after = rest;
              parts = p.parts;
              at = omega (arith, g, p.len);
              within = omega (arith, l, g, there);
            } in
            not_in_chunk text j chunk (j - at) c b s utf8 none h)
      ];
    }

-- where c first begins in a chunk, it first begins in the text
pub first_in_chunk : (text chunk rest : List ℕ) (at place i c : ℕ) → IsScalar c → IsUtf8 chunk
    → MatchBeginsAt (FindsIn c) chunk place → HasPassed text at c (chunk ++ rest) → i ≡ at + place
    → BeginsFirst text c i
first_in_chunk text chunk rest at place i c s utf8 found p there =
    let front = take place chunk in
    let back = drop place chunk in
    let is = found.1.1 in
    let len : length front ≡ place = length-take-le place chunk found.3.0 in
    let some : place < length chunk = omega (
      arith,
      ap length is.split,
      length-drop place chunk,
      length-append (encode_utf8 c) (drop found.0 chunk),
      length-encode c,
      (len_utf8_bounds c).0,
    ) in
    let b : IsByteIn text i chunk place = record {
      before = p.before;
      after = rest;
      parts = p.parts;
      at = omega (arith, p.len, there);
      within = some;
    } in
    let cut : chunk ++ rest ≡ front ++ (back ++ rest) =
    ap (λ us. us ++ rest) (sym (take-append-drop place chunk)) ∙ append_assoc front back rest in
    let passed = pass_chunk text front (back ++ rest) at i c s
    (IsUtf8-take chunk place utf8 found.3) found.1.0 (subst (HasPassed text at c) cut p)
    (omega (arith, len, there)) in
    record {
      here = record {
        rest = drop found.0 chunk ++ rest;
        begins = drop_here text i chunk place b ∙ ap (λ us. us ++ rest) is.split
            ∙ append_assoc (encode_utf8 c) (drop found.0 chunk) rest;
      };
      first = λ j h. elim (cases_lt j i) [
        | inl l ↦ absurd (passed.none j l h)
        | inr g ↦ g
      ];
    }
