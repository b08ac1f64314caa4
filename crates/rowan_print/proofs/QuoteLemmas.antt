-- Texts in quotes: where a long one is cut, and what stands for itself.
use Rattle.std.proofs.Common.{◌≡◌, ℕ, zero, suc, ◌+◌, ◌-◌, ◌*◌, ◌/◌, ◌%◌, ◌<◌, ◌≤◌, ◌^◌, ◌==◌, ◌||◌}
use Rattle.std.proofs.Common.{◌&&◌, ◌⊎◌, inl, inr, Bool, true, false, true≢false, List, [], ◌∷◌}
use Rattle.std.proofs.Common.{◌++◌, length, take, drop, get_or, replicate, codes, decimal, chars}
use Rattle.std.proofs.Common.{encode_utf8, encode_utf8_all, bytes_eq, Decides, IsAscii, IsTrue}
use Rattle.std.proofs.Common.{Option, Result, Ok, Err, is_ok, OnOk, if◌then◌else◌, refl, sym, ◌∙◌}
use Rattle.std.proofs.Common.{ap, subst, arith, zero-add, append_assoc, append-nil}
use Rattle.std.proofs.Common.{IsCharBoundary}
use Rattle.std.specs.List.{list_all, prefix_len}
use Rattle.std.specs.Char.{digit_char, is_ascii}
use Rattle.std.specs.Char.Escape.{hex_digit_at, escape_default, escape_unicode, IsEscapeDebug}
use Rattle.std.specs.Fmt.{debug_escape, digits}
use lib.Utf8.{encode}
use Rattle.std.proofs.lemmas.Bool.{cases_lt, cases_order}
use Rattle.std.proofs.lemmas.Grind.{common_steps}
use Rattle.std.proofs.lemmas.List.{get_or-drop, length-drop, replicate-append-replicate}
use Rattle.std.proofs.lemmas.List.{take-replicate}
use Rattle.std.proofs.lemmas.List.Sums.{prefix_len_is}
use Rattle.std.proofs.lemmas.Fmt.{IsAscii-decimal}
use Rattle.std.proofs.lemmas.Slice.Eq.{bytes_eq-Decides}
use Rattle.std.proofs.lemmas.Str.Ascii.{IsAscii-nil, IsAscii-cons}
use Rattle.std.proofs.lemmas.Str.{IsAscii-append, chars-IsAscii, encodes-IsAscii}
use Rattle.rowan_green.specs.declared.utility_types.NodeOrToken.TheVariants.{Node}
use Rattle.rowan_green.specs.Term.{TokenTerm, Term, token_len}
use Rattle.rowan_terms.specs.Path.{offset, len_of}
use Rattle.rowan_green.specs.Span.{Span}
use Rattle.rowan_table.specs.Cursor.{Cursor, StandsAtToken, text_range}
use Rattle.rowan_print.specs.Printed.{extent, goes_on, front_of, visible_part, points_of, is_plain}
use Rattle.rowan_print.specs.Printed.{headline, Adds, IsEscape, AreEscapes, IsTextLine, IsTokenLine}

-- ---- where a long text is cut

take-parts : (n m : ℕ) (xs : List ℕ) → take (n + m) xs ≡ take n xs ++ take m (drop n xs)
take-parts zero m xs = ap (λ k. take k xs) (zero-add m)
take-parts (suc n) m [] = grind (arith, common_steps)
take-parts (suc n) m (x ∷ xs) =
    let e : suc n + m ≡ suc (n + m) = omega arith in
    ap (λ k. take k (x ∷ xs)) e ∙ ap (λ ys. x ∷ ys) (take-parts n m xs)

goes_on-border : (byte : ℕ) → goes_on byte ≡ false → 128 ≤ byte → 192 ≤ byte
goes_on-border byte h k = grind (arith, common_steps)

border-goes_on : (byte : ℕ) → (128 ≤ byte → 192 ≤ byte) → goes_on byte ≡ false
border-goes_on byte h = grind (arith, common_steps)

inside-goes_on : (text : List ℕ) (i : ℕ) → i ≤ length text → (IsCharBoundary text i → ⊥)
    → goes_on (get_or text i 0) ≡ true
inside-goes_on text i within h = at (goes_on (get_or text i 0)) refl
  where
    at : (b : Bool) → goes_on (get_or text i 0) ≡ b → goes_on (get_or text i 0) ≡ true
    at true e = e
    at false e = absurd (h (within, λ before. goes_on-border (get_or text i 0) e))

pub front_of-at : (text : List ℕ) (i : ℕ) → 21 ≤ i → IsCharBoundary text i
    → ((k : ℕ) → 21 ≤ k → k < i → IsCharBoundary text k → ⊥) → take i text ≡ front_of text
front_of-at text i behind border first =
    let rest = drop 21 text in
    let split : 21 + (i - 21) ≡ i = omega arith in
    let long : i - 21 ≤ length rest = omega (arith, length-drop 21 text, border.0) in
    let count : prefix_len goes_on rest ≡ i - 21 = prefix_len_is goes_on rest (i - 21) 0 long
    (λ k h. ap goes_on (get_or-drop 21 text k 0)
    ∙ inside-goes_on text (21 + k) (omega (arith, border.0))
    (first (21 + k) (omega arith) (omega arith)))
    (λ h. ap goes_on (get_or-drop 21 text (i - 21) 0 ∙ ap (λ k. get_or text k 0) split)
    ∙ border-goes_on (get_or text i 0) (border.1 (omega (arith, length-drop 21 text)))) in
    ap (λ k. take k text) (sym split) ∙ take-parts 21 (i - 21) text
    ∙ ap (λ n. take 21 text ++ take n rest) (sym count)

-- ---- what stands in quotes

escape-plain : (byte : ℕ) → is_plain byte ≡ true → debug_escape 34 byte ≡ byte ∷ []
unfolding debug_escape
escape-plain byte h = grind (arith, common_steps)

pub plain-small : (byte : ℕ) → is_plain byte ≡ true → byte < 128
plain-small byte h = grind (arith, common_steps)

-- a plain character stands for itself
pub plain-escape : (byte : ℕ) → is_plain byte ≡ true → IsEscape byte (byte ∷ [])
plain-escape byte h =
    let small = plain-small byte h in
    (λ low. sym (escape-plain byte h), λ (high : 128 ≤ byte). absurd (omega (arith, small, high)))

plain-escapes : (text : List ℕ) → list_all is_plain text ≡ true → AreEscapes text text
plain-escapes [] h = refl
plain-escapes (b ∷ bs) h =
    let first : is_plain b ≡ true = grind (arith, common_steps) in
    let rest : list_all is_plain bs ≡ true = grind (arith, common_steps) in
    (b ∷ [], bs, plain-escape b first, plain-escapes bs rest, refl)

plain-ascii : (text : List ℕ) → list_all is_plain text ≡ true → IsAscii text
plain-ascii [] h = IsAscii-nil
plain-ascii (b ∷ bs) h =
    let first : is_plain b ≡ true = grind (arith, common_steps) in
    let rest : list_all is_plain bs ≡ true = grind (arith, common_steps) in
    IsAscii-cons b bs (plain-small b first) (plain-ascii bs rest)

-- a text of plain characters stands for itself
pub plain-text : (text : List ℕ) → list_all is_plain text ≡ true → AreEscapes (chars text) text
plain-text text h = subst (λ cs. AreEscapes cs text) (sym (chars-IsAscii text (plain-ascii text h)))
    (plain-escapes text h)

-- ---- the escapes of the library

ascii-all : (bs : List ℕ) → IsTrue (list_all is_ascii bs) → IsAscii bs
ascii-all [] h = IsAscii-nil
ascii-all (b ∷ bs) h = grind (arith, common_steps, IsAscii-cons b bs, ascii-all bs)

hex_digit-ascii : (place c : ℕ) → is_ascii (hex_digit_at place c) ≡ true
hex_digit-ascii place c = at (c / place % 16) (omega arith)
  where
    at : (d : ℕ) → d < 16 → is_ascii (digit_char d) ≡ true
    at d h = grind (arith, common_steps)

escape_unicode-ascii : (c : ℕ) → list_all is_ascii (escape_unicode c) ≡ true
escape_unicode-ascii c =
    grind (
      arith,
      common_steps,
      hex_digit-ascii 1 c,
      hex_digit-ascii 0x10 c,
      hex_digit-ascii 0x100 c,
      hex_digit-ascii 0x1000 c,
      hex_digit-ascii 0x1_0000 c,
      hex_digit-ascii 0x10_0000 c,
    )

-- what `escape_debug` gives of an ASCII character
abbrev ascii_escape : ℕ → List ℕ
ascii_escape c = if c == 0 then 92 ∷ 48 ∷ [] else escape_default c

-- it is what `{:?}` writes, but of `'`
abbrev is_same : ℕ → Bool
is_same c = (c == 39) || bytes_eq (encode_utf8_all (ascii_escape c)) (debug_escape 34 c)

abbrev same_below : ℕ → Bool
same_below zero = true
same_below (suc n) = is_same n && same_below n

both : (a b : Bool) → (a && b) ≡ true → (a ≡ true) × (b ≡ true)
both true b h = (refl, h)
both false b h = absurd (true≢false (sym h))

same-below : (n c : ℕ) → same_below n ≡ true → c < n → is_same c ≡ true
same-below zero c h k = absurd (omega arith)
same-below (suc n) c h k = at (cases_lt c n) (same-below n c (both (is_same n) (same_below n) h).1)
  where
    at : (c < n) ⊎ (n ≤ c) → (c < n → is_same c ≡ true) → is_same c ≡ true
    at (inl less) before = before less
    at (inr more) before =
        let last : c ≡ n = omega (arith, k, more) in
        ap is_same last ∙ (both (is_same n) (same_below n) h).0

decided : (b : Bool) {P : Type 0} → Decides b P → b ≡ true → P
decided true d h = d.0 refl
decided false d h = absurd (true≢false (sym h))

all-same : same_below 128 ≡ true
unfolding debug_escape digits encode
all-same = refl

ascii-written : (c : ℕ) → c < 128 → is_plain c ≡ false
    → encode_utf8_all (ascii_escape c) ≡ debug_escape 34 c
ascii-written c small h =
    let other : (c == 39) ≡ false = grind (arith, common_steps) in
    let same = same-below 128 c all-same small in
    let equal : bytes_eq (encode_utf8_all (ascii_escape c)) (debug_escape 34 c) ≡ true =
    grind (arith, common_steps) in
    decided _ (bytes_eq-Decides (encode_utf8_all (ascii_escape c)) (debug_escape 34 c)) equal

-- the characters that the library gives for one that is not plain
pub escape-written : (c : ℕ) (cs : List ℕ) → (c < 128 → is_plain c ≡ false) → IsEscapeDebug c cs
    → IsEscape c (encode_utf8_all cs)
escape-written c cs other h = (low, high)
  where
    is-zero : c ≡ 0 → cs ≡ ascii_escape c
    is-zero e = h.0 e ∙ ap ascii_escape (sym e)

    is-more : 0 < c → c < 128 → cs ≡ ascii_escape c
    is-more more small = h.1 more small ∙ grind (arith, common_steps)

    is-ascii : c < 128 → (c ≡ 0) ⊎ ((c < 0) ⊎ (0 < c)) → cs ≡ ascii_escape c
    is-ascii small (inl e) = is-zero e
    is-ascii small (inr (inl k)) = absurd (omega (arith, k))
    is-ascii small (inr (inr k)) = is-more k small

    low : c < 128 → encode_utf8_all cs ≡ debug_escape 34 c
    low small = ap encode_utf8_all (is-ascii small (cases_order c 0))
        ∙ ascii-written c small (other small)

    high : 128 ≤ c → (encode_utf8_all cs ≡ encode_utf8 c) ⊎ (encode_utf8_all cs ≡ escape_unicode c)
    high large = either (h.2 large)
      where
        either : (cs ≡ c ∷ []) ⊎ (cs ≡ escape_unicode c)
            → (encode_utf8_all cs ≡ encode_utf8 c) ⊎ (encode_utf8_all cs ≡ escape_unicode c)
        either (inl e) = inl (ap encode_utf8_all e ∙ append-nil (encode_utf8 c))
        either (inr e) = inr (ap encode_utf8_all e
            ∙ encodes-IsAscii (escape_unicode c)
            (ascii-all (escape_unicode c) (escape_unicode-ascii c)))

-- ---- indentation

pub spaces-more : (bs : List ℕ) (n : ℕ)
    → (bs ++ replicate (64 * n) 32) ++ replicate 64 32 ≡ bs ++ replicate (64 * (n + 1)) 32
spaces-more bs n =
    let e : 64 * n + 64 ≡ 64 * (n + 1) = omega arith in
    append_assoc bs (replicate (64 * n) 32) (replicate 64 32)
    ∙ ap (λ us. bs ++ us) (replicate-append-replicate (64 * n) 64 32 ∙ ap (λ k. replicate k 32) e)

pub spaces-all : (bs : List ℕ) (n : ℕ)
    → (bs ++ replicate (2 * (n % 32)) 32) ++ replicate (64 * (n / 32)) 32 ≡ bs
    ++ replicate (2 * n) 32
spaces-all bs n =
    let e : 2 * (n % 32) + 64 * (n / 32) ≡ 2 * n = omega arith in
    append_assoc bs (replicate (2 * (n % 32)) 32) (replicate (64 * (n / 32)) 32)
    ∙ ap (λ us. bs ++ us) (replicate-append-replicate (2 * (n % 32)) (64 * (n / 32)) 32
    ∙ ap (λ k. replicate k 32) e)

-- the newline, and the spaces behind it
pub spaces-front : (n : ℕ) → take {A = ℕ} (1 + 2 * (n % 32)) (10 ∷ replicate 64 32)
    ≡ 10 ∷ replicate (2 * (n % 32)) 32
spaces-front n =
    let more : 1 + 2 * (n % 32) ≡ suc (2 * (n % 32)) = omega arith in
    ap (λ k. take {A = ℕ} k (10 ∷ replicate 64 32)) more
    ∙ ap (λ us. 10 ∷ us) (take-replicate (2 * (n % 32)) 64 32 (omega arith))

-- ---- ranges

pub range-ascii : (start end : ℕ) (behind : List ℕ) → start < 2 ^ 64 → end < 2 ^ 64
    → IsTrue (list_all is_ascii behind)
    → IsAscii (codes "@" ++ (decimal start ++ (codes ".." ++ (decimal end ++ behind))))
range-ascii start end behind h k a =
    let tail = IsAscii-append (decimal end) behind (IsAscii-decimal end k) (ascii-all behind a) in
    let points = IsAscii-cons 46 (46 ∷ (decimal end ++ behind)) (omega arith)
    (IsAscii-cons 46 (decimal end ++ behind) (omega arith) tail) in
    let rest = codes ".." ++ (decimal end ++ behind) in
    IsAscii-cons 64 (decimal start ++ rest) (omega arith)
    (IsAscii-append (decimal start) rest (IsAscii-decimal start h) points)

-- ---- lines of tokens

pub long-front : (text : List ℕ) → 25 ≤ length text → visible_part text ≡ front_of text
long-front text h = grind (arith, common_steps)

pub long-points : (text : List ℕ) → 25 ≤ length text → points_of text ≡ codes " ..."
long-points text h = grind (arith, common_steps)

pub short-whole : (text : List ℕ) → length text < 25 → visible_part text ≡ text
short-whole text h = grind (arith, common_steps)

pub short-points : (text : List ℕ) → length text < 25 → points_of text ≡ []
short-points text h = grind (arith, common_steps)

line-closed : (old head inside points end : List ℕ)
    → (((old ++ head ++ codes " \"") ++ inside) ++ (points ++ end))
    ≡ old ++ (head ++ codes " \"" ++ inside ++ points ++ end)
line-closed old head inside points end = simp append_assoc

-- the headline was written, the escapes of a part, and what closes the line
pub text-written : (kind : List ℕ) (range : Span) (text part end old head inner new : List ℕ)
    → visible_part text ≡ part → end ≡ points_of text ++ codes "\""
    → head ≡ old ++ headline kind range ++ codes " \"" → Adds (AreEscapes (chars part)) head inner
    → new ≡ inner ++ end → Adds (IsTextLine kind range text) old new
text-written kind range text part end old head inner new visible closes begins escapes is =
    let inside = escapes.0 in
    let line = headline kind range in (
      line ++ codes " \"" ++ inside ++ points_of text ++ codes "\"",
      record {
        inside = inside;
        escapes = subst (λ us. AreEscapes (chars us) inside) (sym visible) escapes.1;
        whole = refl;
      },
      is ∙ ap (λ us. us ++ end) (escapes.2 ∙ ap (λ us. us ++ inside) begins)
          ∙ ap (λ us. ((old ++ line ++ codes " \"") ++ inside) ++ us) closes
          ∙ line-closed old line inside (points_of text) (codes "\""),
    )

-- ---- pushes

-- what a push leaves that is the last call
pub on_push : {T E P : Type 0} (r : Result T E) (new done kept : List ℕ)
    → new ≡ (if is_ok r then done else kept) → (new ≡ done → P) → OnOk r P
on_push (Ok x) new done kept h f = f h
on_push (Err x) new done kept h f = tt

-- ---- lines of tokens and of cursors

-- the line of the token's text is the token's
pub token-added : (name : ℕ → List ℕ) (start : ℕ) (t : TokenTerm) (kind : ℕ) (range : Span)
    (text old new : List ℕ)
    → kind ≡ t.kind → range ≡ extent start (token_len t) → text ≡ t.text
    → Adds (IsTextLine (name kind) range text) old new → Adds (IsTokenLine name start t) old new
token-added name start t kind range text old new k r e h = (
  h.0,
  subst (λ us. IsTextLine (name t.kind) (extent start (token_len t)) us h.0) e
      (subst (λ (s : Span). IsTextLine (name t.kind) s text h.0) r
      (subst (λ j. IsTextLine (name j) range text h.0) k h.1)),
  h.2,
)

pub range-token : (c : Cursor) (t : TokenTerm) → StandsAtToken c t
    → text_range c ≡ extent (offset (Node c.root) c.path) (token_len t)
range-token c t h =
    let at = offset (Node c.root) c.path in
    ap (λ (o : Option Term). extent at (len_of o)) h
