use Rattle.std.proofs.Common.{◌≡◌, true, drop, sym, ◌∙◌}
use Rattle.rowan_builder.proofs.StreamLemmas.{BuildsOn-trans}
use Rattle.rowan_parser.specs.Events.{is_trivia, begins_with}
use Rattle.rowan_parser.proofs.Passing.{passing_more}
use Rattle.rowan_parser.proofs.tree.put_trivia.Goals as goal

pub loop-builder-preserved : goal.loop-builder-preserved
loop-builder-preserved c =
    let passes : true ≡ begins_with (is_trivia c.args.source.now.trivia)
    (drop c.loop-builder.progress.put c.args.source.now.tokens.now) = sym
    c.loop-builder-test.true ∙ c.is_trivia_next.ensures.begins in
    record {
      building = c.in_ok-progress.ensures.ok;
      stream = BuildsOn-trans _ _ _ c.loop-builder.invariant.stream c.put_token.ensures.stream;
      loan = c.put_token.ensures.loan ∙ c.loop-builder.invariant.loan;
      passing = passing_more _ _ _ _ _ _ _ _ passes c.loop-builder.invariant.passing
          c.in_ok-progress.ensures.puts;
      same = c.in_ok-progress.ensures.same ∙ c.loop-builder.invariant.same;
    }
