use Rattle.std.proofs.Common.{length, sym, ◌∙◌, ap, arith, rules}
use Rattle.rowan_events.specs.Log.{with_event}
use Rattle.rowan_events.specs.Seen.{has}
use Rattle.rowan_events.specs.declared.event.Event.TheVariants.{Nothing}
use Rattle.rowan_events.proofs.Skipping.{enters_over, goes_on_over, level-bound}
use Rattle.rowan_events.proofs.parser.Parser.recover_over.Goals as goal

pub skip-init : goal.skip-init
skip-init g c = record {
  skips = enters_over (has c.args.set.0) (has c.args.brackets.open.0)
      (has c.args.brackets.close.0) (with_event Nothing c.args.self.now) c.start-marker.new.self
      c.start-marker.ensures.began;
  within = omega (
    arith,
    c.tokens_left-most.ensures,
    ap length c.start-marker.ensures.began.left,
  );
}

pub skip-preserved : goal.skip-preserved
skip-preserved g c =
    let opens = has c.args.brackets.open.0 in
    let closes = has c.args.brackets.close.0 in
    let on = sym c.halts.ensures ∙ search rules in
    record {
      skips = goes_on_over (has c.args.set.0) opens closes (with_event Nothing c.args.self.now)
          c.skip.self c.bump.new.self c.skip.level c.level_behind-level.result
          c.skip.invariant.skips on c.level_behind-level.ensures c.bump.ensures;
      within = level-bound (has c.args.set.0) opens closes c.skip.level c.level_behind-level.result
          c.tokens_left-most.result c.skip.self c.bump.new.self on c.level_behind-level.ensures
          c.bump.ensures.left c.skip.invariant.within;
    }
