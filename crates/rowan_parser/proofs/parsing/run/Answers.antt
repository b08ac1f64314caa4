use Rattle.std.proofs.Common.{◌∙◌, ◌++◌, subst, ap, map}
use Rattle.rowan_events.specs.Running.{Makes}
use Rattle.rowan_parser.specs.Parsing.{error_of, lexer_error, pieces}
use Rattle.rowan_events.specs.Seen.{started}
use Rattle.rowan_parser.proofs.parsing.run.Goals as goal

pub returns-clause-ran : goal.returns-clause-ran
returns-clause-ran g c =
    let complaints = c.in_ok-made.made.complaints.items in
    record {
      complained = c.in_ok-lexed.lexed.errors.items;
      said = c.in_ok-lexed.ensures.said;
      whole = c.in_ok-lexed.ensures.text;
      complaints = complaints;
      makes = subst (λ ps. Makes g.G.FnOnce c.args.grammar (started ps)
          c.in_ok-made.made.events.items complaints)
          (c.in_ok-seen.ensures.seen ∙ ap (pieces c.args.trivia) c.as_slice-2.ensures.value)
          c.in_ok-made.ensures.made;
      told = c.in_ok-push_errors.ensures.told
          ∙ ap (λ es. es ++ map (error_of c.args.trivia c.as_slice-3.result.now) complaints)
          (c.in_ok-errors.ensures.told ∙ ap (map lexer_error) c.as_slice.ensures.value)
          ∙ ap (λ ts. map lexer_error c.in_ok-lexed.lexed.errors.items
          ++ map (error_of c.args.trivia ts) complaints) c.as_slice-3.ensures.value;
    }
