use Rattle.std.proofs.Common.{◌<◌, ◌≡◌, ◌*◌, ◌/◌, ◌%◌, ◌++◌, ◌∷◌, ℕ, zero, suc, replicate, get_or}
use Rattle.std.proofs.Common.{codes, string_bytes, arith, sym, ◌∙◌, ap, append_assoc, append-nil}
use Rattle.std.proofs.lemmas.Str.{IsCharBoundary-from_ascii}
use Rattle.rowan_print.proofs.QuoteLemmas.{spaces-more, spaces-all, spaces-front}
use Rattle.rowan_print.proofs.printed.push_new_line.Goals as goal

spaces-ascii : (n i : ℕ) → get_or (10 ∷ replicate n 32) i 0 < 128
spaces-ascii n zero = omega arith
spaces-ascii n (suc i) = at n i
  where
    at : (n i : ℕ) → get_or (replicate n 32) i 0 < 128
    at zero i = omega arith
    at (suc n) zero = omega arith
    at (suc n) (suc i) = at n i

pub split_at-requires : goal.split_at-requires
split_at-requires c = IsCharBoundary-from_ascii (10 ∷ replicate 64 32) _ (spaces-ascii 64)
    (omega arith)

pub loop-init : goal.loop-init
loop-init c =
    let before = string_bytes c.args.text.now in
    let spaces = replicate (2 * (c.args.level % 32)) 32 in
    c.in_ok-push_str.ensures.bytes
    ∙ ap (λ us. before ++ us) (c.split_at.ensures.front ∙ spaces-front c.args.level)
    ∙ sym (append_assoc before (codes "\n") spaces)
    ∙ sym (append-nil (before ++ codes "\n" ++ spaces))

pub loop-preserved : goal.loop-preserved
loop-preserved c =
    let before = string_bytes c.args.text.now ++ codes "\n"
    ++ replicate (2 * (c.args.level % 32)) 32 in
    c.in_ok-push_str-2.ensures.bytes ∙ ap (λ us. us ++ replicate 64 32) c.loop.invariant
    ∙ spaces-more before c.loop.counter

pub returns : goal.returns
returns c =
    let level = c.args.level in
    let before = string_bytes c.args.text.now ++ codes "\n" in
    let turns : c.loop.counter ≡ level / 32 = omega arith in
    c.loop.invariant
    ∙ ap (λ n. (before ++ replicate (2 * (level % 32)) 32) ++ replicate (64 * n) 32) turns
    ∙ spaces-all before level
