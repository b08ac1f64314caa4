use Rattle.std.proofs.Common.{◌∙◌, ap, arith}
use Rattle.rowan_table.specs.Equal.{start_of}
use Rattle.rowan_table.specs.TableView.{cursor_of}
use Rattle.rowan_table.proofs.SearchLemmas.{end_of_last, end_of_other}
use Rattle.rowan_table.proofs.table.Table.child_range.Goals as goal

pub new-requires : goal.new-requires
new-requires c =
    omega (
      arith,
      c.start-start.ensures,
      end_of_last c.args.self.now c.args.stop c.args.end
          c.args.child c.requires c.if-child-stop.true,
    )

pub returns-then-child-stop : goal.returns-then-child-stop
returns-then-child-stop c =
    let t = c.args.self.now in
    let own = cursor_of t c.args.child in
    c.new.ensures ∙ ap (λ n. record { start = n; end = c.args.end }) c.start-start.ensures
    ∙ ap (λ n. record { start = start_of own; end = n })
    (end_of_last t c.args.stop c.args.end c.args.child c.requires c.if-child-stop.true)

pub new-requires-2 : goal.new-requires-2
new-requires-2 c =
    omega (
      arith,
      c.start-start.ensures,
      c.start.ensures,
      end_of_other c.args.self.now c.args.stop c.args.end c.args.child c.requires
          c.if-child-stop.false,
    )

pub returns : goal.returns
returns c =
    let t = c.args.self.now in
    let own = cursor_of t c.args.child in
    c.new-2.ensures ∙ ap (λ n. record { start = n; end = c.start.result }) c.start-start.ensures
    ∙ ap (λ n. record { start = start_of own; end = n })
    (c.start.ensures ∙ end_of_other t c.args.stop c.args.end c.args.child c.requires
    c.if-child-stop.false)
