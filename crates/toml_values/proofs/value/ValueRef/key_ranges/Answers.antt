use Rattle.std.proofs.Common.{rules, ◌≡◌, ◌++◌, ◌<◌, List, [], Some, ap, sym, ◌∙◌, append-nil, drop, arith, length}
use Rattle.std.proofs.Math.ListN.{drop_of_length-le}
use Rattle.std.specs.Prelude.{slice_get}
use Rattle.std.specs.Option.{option_and_then}
use Rattle.rowan_green.specs.Span.{Span}
use Rattle.toml_values.specs.Keys.{key_ranges_of, ranges_from}
use Rattle.toml_values.specs.declared.value.Key.{Key}
use Rattle.toml_values.proofs.KeyLemmas.{no_range, range_pushed}
use Rattle.toml_values.proofs.value.ValueRef.key_ranges.Goals as goal
use Rattle.toml_values.proofs.value.ValueRef.key_ranges.Goals.{else-loop-turn-test, then-loop-turn-test+in_default}

pub loop-turn-preserved : goal.loop-turn-preserved
loop-turn-preserved c =
    let keys = c.args.self.values.now.keys.items in
    let turns = c.deref-turn-items.result.now in
    let i = c.loop-turn._turn-index in
    let here : i < length turns = omega (arith, c.loop-turn-test.true) in
    let found : option_and_then (slice_get keys) c.loop-turn.next ≡ Some c.in-Some.key.now = search rules in
    rw c.in_ok-push.ensures.items (range_pushed keys turns i c._turn-item.result c.in-Some.key.now
    c.loop-turn.next c.loop-turn.ranges.items _ c._turn-item.is here found c.loop-turn.invariant)

pub returns : goal.returns
returns c =
    let keys = c.args.self.values.now.keys.items in
    let turns = c.deref-turn-items.result.now in
    let i = c.loop-turn._turn-index in
    let so_far = c.loop-turn.ranges.items in
    let left : List Key → List Span = λ ts. ranges_from keys ts c.loop-turn.next in
    let done : left (drop i turns) ≡ [] → so_far ≡ key_ranges_of c.args.self =
    λ none. sym (append-nil so_far) ∙ ap (λ xs. so_far ++ xs) (sym none) ∙ c.loop-turn.invariant in
    elim c.loop-turn-test.branch [
      | else-loop-turn-test w ↦ done (ap left (drop_of_length-le turns (omega (arith, w.loop-turn-test.false))))
      | then-loop-turn-test+in_default w ↦ done (no_range keys (drop i turns) c.loop-turn.next (search rules))
    ]
