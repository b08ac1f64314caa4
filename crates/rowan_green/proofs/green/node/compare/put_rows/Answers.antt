use Rattle.std.proofs.Common.{◌≡◌, ◌&&◌, ◌∙◌, ◌+◌, true, false, map, length, refl, sym, ap, arith}
use Rattle.std.proofs.Common.{List, [], ◌∷◌, ◌++◌, Bor}
use Rattle.std.proofs.lemmas.Bool.Decides.{Decides-eqb}
use lib.Pointwise.{pointwise}
use Rattle.rowan_green.specs.declared.green.node.GreenChild.{GreenChild}
use Rattle.rowan_green.specs.View.{child_term}
use Rattle.rowan_green.specs.Same.{same_term}
use Rattle.rowan_green.specs.Unread.{same_row, same_rows, row_size, rows_size}
use Rattle.rowan_green.proofs.Unread.{same_rows-push, rows_size-push}
use Rattle.rowan_green.proofs.green.node.compare.put_rows.Goals as goal

-- a row was put to the list, which has room for it
same_put : (old mid new : List (Bor (List GreenChild) × Bor (List GreenChild)))
    (r : Bor (List GreenChild) × Bor (List GreenChild)) → mid ≡ old → new ≡ mid ++ r ∷ []
    → same_rows new ≡ (same_row r && same_rows old)
same_put old mid new r e f =
    ap same_rows f ∙ same_rows-push mid r ∙ ap (λ rs. same_row r && same_rows rs) e

size_put : (old mid new : List (Bor (List GreenChild) × Bor (List GreenChild)))
    (r : Bor (List GreenChild) × Bor (List GreenChild)) → mid ≡ old → new ≡ mid ++ r ∷ []
    → rows_size new ≡ rows_size old + row_size r
size_put old mid new r e f =
    ap rows_size f ∙ rows_size-push mid r ∙ ap (λ rs. rows_size rs + row_size r) e

no_children_same : (cs ds : List GreenChild) → length cs ≡ 0 → length cs ≡ length ds
    → pointwise same_term (map child_term cs) (map child_term ds) ≡ true
no_children_same [] [] h l = refl
no_children_same [] (d ∷ ds) h l = absurd (omega arith)
no_children_same (c ∷ cs) ds h l = absurd (omega arith)

pub returns-then-is_empty-clause-same : goal.returns-then-is_empty-clause-same
returns-then-is_empty-clause-same c put =
    let empty = (Decides-eqb (length c.args.behind.0.now) 0).0
    (sym c.is_empty.ensures ∙ c.if-is_empty.true) in
    same_put c.args.rest.now.items c.reserve.new.self.items c.push_reserved.new.self.items
    c.args.row c.reserve.ensures.items c.push_reserved.ensures.items
    ∙ ap (λ b. same_row c.args.row && (b && same_rows c.args.rest.now.items))
    (sym (no_children_same c.args.behind.0.now c.args.behind.1.now empty c.requires))

pub returns-then-is_empty-clause-smaller : goal.returns-then-is_empty-clause-smaller
returns-then-is_empty-clause-smaller c put =
    omega (
      arith,
      size_put c.args.rest.now.items c.reserve.new.self.items c.push_reserved.new.self.items
          c.args.row c.reserve.ensures.items c.push_reserved.ensures.items,
    )

pub returns-clause-same : goal.returns-clause-same
returns-clause-same c put =
    same_put c.push_reserved-2.new.self.items c.push_reserved-2.new.self.items
    c.push_reserved-3.new.self.items c.args.row refl c.push_reserved-3.ensures.items
    ∙ ap (λ b. same_row c.args.row && b)
    (same_put c.args.rest.now.items c.reserve.new.self.items c.push_reserved-2.new.self.items
    c.args.behind c.reserve.ensures.items c.push_reserved-2.ensures.items)

pub returns-clause-smaller : goal.returns-clause-smaller
returns-clause-smaller c put =
    omega (
      arith,
      size_put c.push_reserved-2.new.self.items c.push_reserved-2.new.self.items
          c.push_reserved-3.new.self.items c.args.row refl c.push_reserved-3.ensures.items,
      size_put c.args.rest.now.items c.reserve.new.self.items c.push_reserved-2.new.self.items
          c.args.behind c.reserve.ensures.items c.push_reserved-2.ensures.items,
    )
