use Rattle.rowan_terms.proofs.EditLaws.{text-replaced, text-inserted, text-removed, text-spliced}
use Rattle.rowan_terms.proofs.laws.edited_node_has_the_text_of_its_parts.Goals as goal

pub returns-clause-replaced : goal.returns-clause-replaced
returns-clause-replaced c = text-replaced

pub returns-clause-inserted : goal.returns-clause-inserted
returns-clause-inserted c = text-inserted

pub returns-clause-removed : goal.returns-clause-removed
returns-clause-removed c = text-removed

pub returns-clause-spliced : goal.returns-clause-spliced
returns-clause-spliced c = text-spliced
