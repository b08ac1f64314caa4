use Rattle.std.proofs.Common.{◌≡◌, ◌∙◌, sym, ap, map, Some, true, length}
use Rattle.std.specs.List.{list_all}
use Rattle.std.specs.Prelude.{nat_le, is_some}
use Rattle.std.proofs.lemmas.Bool.{and_from, le-leb}
use Rattle.std.proofs.lemmas.List.{take_all}
use Rattle.rowan_builder.proofs.NumberLemmas.{all_have_numbers}
use Rattle.rowan_builder.proofs.node_cache.write_numbers.Goals as goal

pub returns-clause-kept : goal.returns-clause-kept
returns-clause-kept c =
    let os = c.args.children.now in
    let ns = c.loop-child.numbers.items in
    let whole : os ≡ map (λ n. Some n) ns =
    sym (take_all c.loop-child.child-index os c.loop-child-test.false)
    ∙ c.loop-child.invariant in
    let all : list_all (λ n. is_some n) os ≡ true =
    ap (list_all (λ n. is_some n)) whole ∙ all_have_numbers ns in
    sym (and_from (nat_le (length os) c.args.limit) (list_all (λ n. is_some n) os)
    (le-leb (length os) c.args.limit c.if-children-limit.false) all)
