use Rattle.std.proofs.Common.{rules, ◌≡◌, sym, subst}
use Rattle.std.proofs.Math.Seq.{take-length}
use Rattle.std.specs.Str.{NoCharPasses}
use Rattle.rowan_sexp.specs.Sexp.{is_delimiter}
use Rattle.std.proofs.lemmas.Fn.{always_returns_same}
use Rattle.rowan_sexp.proofs.SexpRuns.{stopped_from_find}
use Rattle.rowan_sexp.proofs.sexp.lexer.word_len.Goals as goal

pub returns-in-Some-clause-run : goal.returns-in-Some-clause-run
returns-in-Some-clause-run c = (c.in-Some.ensures.cases.1 is_delimiter
    (always_returns_same _ (λ a r. r ≡ is_delimiter a.0) _ (λ a r f' call. search rules))).0

pub returns-in-Some-clause-longest : goal.returns-in-Some-clause-longest
returns-in-Some-clause-longest c = stopped_from_find is_delimiter _ _ _
    (c.in-Some.ensures.cases.1 is_delimiter
    (always_returns_same _ (λ a r. r ≡ is_delimiter a.0) _ (λ a r f' call. search rules)))

pub returns-in-None-clause-run : goal.returns-in-None-clause-run
returns-in-None-clause-run c = subst (NoCharPasses is_delimiter) (sym (take-length c.args.text.now))
    (c.in-None.ensures.cases is_delimiter
    (always_returns_same _ (λ a r. r ≡ is_delimiter a.0) _ (λ a r f' call. search rules)))
