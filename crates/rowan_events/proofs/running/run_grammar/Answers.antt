use Rattle.std.proofs.Common.{refl, sym}
use Rattle.rowan_events.proofs.running.run_grammar.Goals as goal

pub returns-clause-made : goal.returns-clause-made
returns-clause-made g c = record {
  last = c.grammar.new.arg2;
  ran = record {
    shown = _;
    shows = c.in_ok-parser.ensures.ok;
    left = _;
    met = c.grammar.ensures;
    leaves = refl;
  };
  whole = c.in_ok-made.ensures.whole;
  made = sym c.in_ok-made.ensures.events;
  told = sym c.in_ok-made.ensures.errors;
}
