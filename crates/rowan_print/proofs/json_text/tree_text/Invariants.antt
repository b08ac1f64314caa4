use Rattle.std.proofs.Common.{◌≡◌, ◌++◌, []}
use Rattle.std.specs.List.{AllByRecursion}
use Rattle.rowan_print.specs.Opened.{open_size, IsWithin}
use Rattle.rowan_print.specs.Printed.{raw_name, node_json}
use Rattle.rowan_print.specs.Spelled.{value_tokens, open_tokens}
use Rattle.rowan_print.proofs.json_text.tree_text.Given as goal

abbrev pub invariant-loop-parent : goal.invariant-loop-parent
invariant-loop-parent g l = record {
  within : AllByRecursion IsWithin l.opened.items;
  before : l.out.before ≡ [];
  tokens : l.out.tokens ++ open_tokens
      (raw_name g.L.Language.name g.L.Language.meaning) l.opened.items
      ≡ value_tokens (node_json (raw_name g.L.Language.name g.L.Language.meaning) l.fn.range.start
      l.root);
}

abbrev pub decreases-loop-parent : goal.decreases-loop-parent
decreases-loop-parent g l = open_size l.opened.items
