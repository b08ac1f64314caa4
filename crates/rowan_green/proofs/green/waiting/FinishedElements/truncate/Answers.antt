use Rattle.std.proofs.Common.{refl, sym, ◌∙◌, ap, subst, map, take, arith}
use Rattle.rowan_green.specs.View.{child_term}
use Rattle.rowan_green.specs.Waiting.{children_in, HasBlockWithSpare}
use Rattle.rowan_green.proofs.ChildList.{take-children}
use Rattle.rowan_green.proofs.green.waiting.FinishedElements.truncate.Goals as goal

pub returns : goal.returns
returns c =
    let place = c.args.place in
    record {
      terms = ap (map child_term) c.truncate-2.ensures.items
          ∙ take-children place c.in-Some.block.block.list.items _ refl
          ∙ ap (λ b. take place (map child_term (children_in b))) (sym c.in-Some.is);
      numbers = c.truncate.ensures.items;
      room = λ r. (
        c.truncate-2.ensures.room (subst HasBlockWithSpare c.in-Some.is r.0),
        omega (arith, r.1, c.truncate.ensures.len, c.truncate.ensures.capacity),
      );
    }
