use Rattle.std.proofs.Common.{◌≡◌, ◌<◌, ℕ, [], ◌∷◌, ◌++◌}
use Rattle.rowan_edit.specs.Ranked.{HasNoEditAt}
use Rattle.rowan_edit.proofs.ranked.has_edit_of.Given as goal

abbrev pub invariant-loop-index : goal.invariant-loop-index
invariant-loop-index l =
    record {
      place : l.rank.place.items ≡ l.path ++ l.index ∷ [];
      end : l.rank.end ≡ 0;
      count : l.rank.count ≡ 0;
      none : (k : ℕ) → k < l.index → HasNoEditAt l.edits.entries (l.path ++ k ∷ []);
    }
