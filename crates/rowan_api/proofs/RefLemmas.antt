-- Lists of borrowed nodes.
use Rattle.std.proofs.Common.{◌≡◌, Bool, true, false, List, [], ◌∷◌, map, cond, ap, refl, sym, ◌∙◌}
use Rattle.std.proofs.Common.{Option, Some, None}
use Rattle.std.specs.Prelude.{filter, MatchOption}
use Rattle.std.specs.List.{find}
use Rattle.std.specs.Option.{option_map}
use Rattle.rowan_green.specs.declared.utility_types.Direction.TheVariants.{Next}
use Rattle.rowan_table.specs.Cursor.{Cursor}
use Rattle.rowan_cursor.specs.Kinds.{nodes_behind}
use Rattle.rowan_table.specs.Moves.{cursor_at, following, is_node_at, nodes_at, siblings}

-- the siblings of a node from itself on are the node and those behind it
pub siblings-behind : (c : Cursor) → is_node_at c.root c.path ≡ true
    → siblings Next c ≡ c ∷ nodes_behind c
siblings-behind c h =
    let behind = nodes_at c.root (following c.root c.path) in
    ap (λ b. map (cursor_at c.root) (cond b (c.path ∷ behind) behind)) h

-- behind the first of some nodes the others are left, whether the first was looked at or not
pub second-on : {R : Type 0} (place : R → Cursor) (c : Cursor) (cs before after : List Cursor)
    (r : Option R) → before ≡ c ∷ cs
    → MatchOption r ((before ≡ []) × (after ≡ [])) (λ x. before ≡ place x ∷ after) → after ≡ cs
second-on place c cs before after None e h = let none : before ≡ [] = h.0 in absurd cc
second-on place c cs before after (Some x) e h = cc

find-filter : (holds : Cursor → Bool) (cs : List Cursor) (c : Cursor) (ds : List Cursor)
    → filter holds cs ≡ c ∷ ds → find holds cs ≡ Some c
find-filter holds [] c ds e = absurd cc
find-filter holds (x ∷ cs) c ds e = by (λ e. find-filter holds cs c ds e) (holds x) e
  where
    by : (filter holds cs ≡ c ∷ ds → find holds cs ≡ Some c) → (b : Bool)
        → cond b (x ∷ filter holds cs) (filter holds cs) ≡ c ∷ ds
        → cond b (Some x) (find holds cs) ≡ Some c
    by rest true e = cc
    by rest false e = rest e

find-filter_none : (holds : Cursor → Bool) (cs : List Cursor) → filter holds cs ≡ []
    → find holds cs ≡ None
find-filter_none holds [] e = refl
find-filter_none holds (x ∷ cs) e = by (λ e. find-filter_none holds cs e) (holds x) e
  where
    by : (filter holds cs ≡ [] → find holds cs ≡ None) → (b : Bool)
        → cond b (x ∷ filter holds cs) (filter holds cs) ≡ []
        → cond b (Some x) (find holds cs) ≡ None
    by rest true e = absurd cc
    by rest false e = rest e

-- the first that comes of some nodes that were picked is the first of all that is picked
pub first-picked : {R : Type 0} (place : R → Cursor) (holds : Cursor → Bool) (cs : List Cursor)
    (before after : List Cursor) (r : Option R) → before ≡ filter holds cs
    → MatchOption r ((before ≡ []) × (after ≡ [])) (λ x. before ≡ place x ∷ after)
    → option_map place r ≡ find holds cs
first-picked place holds cs before after None e h = sym (find-filter_none holds cs (sym e ∙ h.0))
first-picked place holds cs before after (Some x) e h =
    sym (find-filter holds cs (place x) after (sym e ∙ h))
