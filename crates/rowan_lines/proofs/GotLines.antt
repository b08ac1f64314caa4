-- The text of a line, as `get` gives it.
use Rattle.std.proofs.Common.{◌≡◌, ℕ, ◌+◌, Bool, true, false, List, sym, ◌∙◌, ap, subst, arith}
use Rattle.std.specs.Borrow.{Bor}
use Rattle.std.specs.List.{slice_range}
use Rattle.std.specs.Option.{MatchOption}
use Rattle.std.specs.Prelude.{Option, Some, None, unwrap_or}
use Rattle.std.specs.Str.{IsUtf8, IsCharBoundary}
use Rattle.std.specs.Str.Pattern.{GetsRange}
use Rattle.rowan_lines.specs.Lines.{line_start}
use Rattle.rowan_lines.proofs.LineLemmas.{line_start-le-next, line_start-border}
use Rattle.rowan_lines.proofs.Utf16Ends.{whole_line}

-- a line is always got
pub got-none : (text : List ℕ) (n start end : ℕ) → IsUtf8 text → start ≡ line_start text n
    → end ≡ line_start text (n + 1) → GetsRange text start end None → ⊥
got-none text n start end utf8 starts ends got = got
    (omega (arith, line_start-le-next text n, starts, ends))
    (subst (IsCharBoundary text) (sym starts) (line_start-border text n utf8))
    (subst (IsCharBoundary text) (sym ends) (line_start-border text (n + 1) utf8))

pub got-some : (text : List ℕ) (n start end : ℕ) (line : Bor (List ℕ)) → start ≡ line_start text n
    → end ≡ line_start text (n + 1) → GetsRange text start end (Some line)
    → line.now ≡ whole_line text n
got-some text n start end line starts ends got =
    let whole : line.now ≡ slice_range text start end = got.0 in
    whole
    ∙ ap (λ i. slice_range text i end) starts
    ∙ ap (λ i. slice_range text (line_start text n) i) ends

pub got-whole : (text : List ℕ) (n start end : ℕ) (r : Option (Bor (List ℕ))) (other u : Bor (List ℕ))
    → IsUtf8 text → start ≡ line_start text n → end ≡ line_start text (n + 1)
    → GetsRange text start end r → u ≡ unwrap_or r other → u.now ≡ whole_line text n
got-whole text n start end None other u utf8 starts ends got is =
    absurd (got-none text n start end utf8 starts ends got)
got-whole text n start end (Some x) other u utf8 starts ends got is =
    ap (λ (b : Bor (List ℕ)). b.now) is ∙ got-some text n start end x starts ends got

-- nothing is not something
pub none-is-some : (x : ℕ) → None ≡ Some x → ⊥
none-is-some x e = subst (λ (o : Option ℕ). MatchOption o ℕ (λ y. ⊥)) e 0

abbrev IfTrue : Bool → Type 0
IfTrue true = ⊥
IfTrue false = ℕ

pub false-is-true : false ≡ true → ⊥
false-is-true e = subst IfTrue e 0

pub some-same : (a b : ℕ) → Some a ≡ Some b → a ≡ b
some-same a b e = ap (λ (o : Option ℕ). unwrap_or o 0) e
