-- One character more, and none; and texts one behind the other.
use Rattle.std.proofs.Common.{◌≡◌, ◌≤◌, ℕ, List, [], ◌∷◌, ◌++◌, length, refl, sym, ◌∙◌, ap, arith, append_assoc, append-nil}
use Rattle.std.proofs.lemmas.Str.{chars-nil, chars-append, chars_past_char, encodes-chars, length-le-encodes}
use Rattle.std.specs.Char.{encode_utf8}
use Rattle.std.specs.List.{flat_map}
use Rattle.std.specs.Str.{chars, IsUtf8}
use Rattle.rowan_lines.specs.Pictures.{picture, pictured}

pub pictured_more : (out out2 bs rest all : List ℕ) (c : ℕ) → IsUtf8 bs → bs ≡ encode_utf8 c ++ rest
    → out2 ≡ out ++ picture c → out ++ pictured bs ≡ all → out2 ++ pictured rest ≡ all
pictured_more out out2 bs rest all c utf8 e put before =
    ap (λ (o : List ℕ). o ++ pictured rest) put
    ∙ append_assoc out (picture c) (pictured rest)
    ∙ ap (λ (cs : List ℕ). out ++ flat_map picture cs) (sym (chars_past_char bs rest c utf8 e))
    ∙ before

pictured-nil : pictured [] ≡ []
pictured-nil = ap (λ (cs : List ℕ). flat_map picture cs) chars-nil

pub pictured_none : (out bs all : List ℕ) → length bs ≡ 0 → out ++ pictured bs ≡ all → out ≡ all
pictured_none out [] all none before =
    sym (append-nil out) ∙ ap (λ (bs : List ℕ). out ++ bs) (sym pictured-nil) ∙ before
pictured_none out (b ∷ bs) all none before = absurd (omega (arith, none))

flat_map-append : (xs ys : List ℕ)
    → flat_map picture (xs ++ ys) ≡ flat_map picture xs ++ flat_map picture ys
flat_map-append [] ys = refl
flat_map-append (x ∷ xs) ys =
    ap (λ (bs : List ℕ). picture x ++ bs) (flat_map-append xs ys)
    ∙ sym (append_assoc (picture x) (flat_map picture xs) (flat_map picture ys))

pub pictured-append : (xs ys : List ℕ) → IsUtf8 xs → pictured (xs ++ ys) ≡ pictured xs ++ pictured ys
pictured-append xs ys utf8 =
    ap (λ (cs : List ℕ). flat_map picture cs) (chars-append xs ys utf8)
    ∙ flat_map-append (chars xs) (chars ys)

-- a text has no more characters than bytes
pub chars-le : (bs : List ℕ) → IsUtf8 bs → length (chars bs) ≤ length bs
chars-le bs utf8 = omega (arith, length-le-encodes (chars bs), ap length (encodes-chars bs utf8))
