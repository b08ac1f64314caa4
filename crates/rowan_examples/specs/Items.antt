-- The node in a list with methods of its own.
use Rattle.rowan.specs.Cursor.{Cursor}
use Rattle.rowan_examples.specs.declared.aliases.Items.{Items}

abbrev pub node_in : Items → Cursor
node_in items = items.0
