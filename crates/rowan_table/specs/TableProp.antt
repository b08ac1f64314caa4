-- That entries form a table, and that a list has its nodes, are propositions.
use Rattle.std.specs.Prelude.{List}
use Rattle.std.specs.Coded.{coded_option}
use Rattle.std.proofs.Props.{props}
use Rattle.rowan_green.specs.Coding.{coded_node}
use Rattle.rowan_table.specs.declared.table.entry.Entry.{Entry}
use Rattle.rowan_table.specs.Nodes.{Inner}
use Rattle.rowan_table.specs.Table.{IsTable, AreNodes, Facts}

pub IsTable-prop : (es : List Facts) → IsProp (IsTable es)
IsTable-prop es =
    hlevel (props, coded_option coded_node, coded_option (coded_option coded_node))

pub AreNodes-prop : (ns : List Inner) (es : List Entry) → IsProp (AreNodes ns es)
AreNodes-prop ns es = hlevel props
