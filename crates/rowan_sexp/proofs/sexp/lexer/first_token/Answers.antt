use Rattle.std.proofs.Common.{◌≡◌, [], ◌∷◌, false, sym, ap, ◌∙◌, arith}
use Rattle.std.specs.Prelude.{not}
use Rattle.std.specs.Char.{is_not_whitespace}
use Rattle.rowan_sexp.specs.Sexp.{is_delimiter}
use Rattle.rowan_sexp.proofs.SexpRuns.{ascii_first, run_from_first, word_begins}
use Rattle.rowan_sexp.proofs.sexp.lexer.first_token.Goals as goal

pub returns-in-40 : goal.returns-in-40
returns-in-40 c =
    let begins = sym c.chars.ensures.rest ∙ c.in_ok-first.ensures.steps.0 in
    let first = ascii_first c.args.text.now _ c.in_ok-first.first c.utf8.text begins
    (omega (arith, c.in-40.is)) in
    record { border = first.0; fit = first.1 ∙ ap (λ x. x ∷ []) c.in-40.is; longest = tt }

pub returns-in-41 : goal.returns-in-41
returns-in-41 c =
    let begins = sym c.chars.ensures.rest ∙ c.in_ok-first.ensures.steps.0 in
    let first = ascii_first c.args.text.now _ c.in_ok-first.first c.utf8.text begins
    (omega (arith, c.in-41.is)) in
    record { border = first.0; fit = first.1 ∙ ap (λ x. x ∷ []) c.in-41.is; longest = tt }

pub returns-in_default : goal.returns-in_default
returns-in_default c =
    let begins = sym c.chars.ensures.rest ∙ c.in_ok-first.ensures.steps.0 in
    let run = c.whitespace_len.ensures in
    let inside : is_not_whitespace c.in_ok-first.first ≡ false =
    ap not (sym c.if-is_whitespace.ensures) in
    record {
      border = run.border;
      fit = run_from_first is_not_whitespace c.args.text.now _ c.in_ok-first.first
          c.whitespace_len.result begins inside run.border.0 run.run run.longest;
      longest = run.longest;
    }

pub returns-in_default-2 : goal.returns-in_default-2
returns-in_default-2 c =
    let begins = sym c.chars.ensures.rest ∙ c.in_ok-first.ensures.steps.0 in
    let run = c.word_len.ensures in
    let inside : is_delimiter c.in_ok-first.first ≡ false =
    word_begins c.in_ok-first.first (omega arith) (omega arith) (sym c.if-is_whitespace.ensures) in
    record {
      border = run.border;
      fit = run_from_first is_delimiter c.args.text.now _ c.in_ok-first.first c.word_len.result
          begins inside run.border.0 run.run run.longest;
      longest = run.longest;
    }
