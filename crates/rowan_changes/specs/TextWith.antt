-- The text that edits make: the old text, with the range of each edit replaced by the texts of the
-- terms that come there. All ranges are those in the old text; so the edits are made from the last
-- to the first, since none of them moves what stands before it.
use Rattle.std.specs.Prelude.{ℕ, List, [], ◌∷◌}
use Rattle.rowan_green.specs.Edits.{spliced}
use Rattle.rowan_green.specs.Term.{Term, term_text, joined_text}
use Rattle.rowan_changes.specs.Changes.{range_of}
use Rattle.rowan_changes.specs.Edit.{Edit}

abbrev pub text_with : Term → List Edit → List ℕ
text_with t [] = term_text t
text_with t (e ∷ es) =
    let range = range_of t e in
    spliced (text_with t es) range.start range.end (joined_text e.new)
