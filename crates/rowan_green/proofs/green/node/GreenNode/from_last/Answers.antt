use Rattle.std.proofs.Common.{map, ◌∙◌, ap, sym, subst}
use Rattle.rowan_green.specs.Fits.{AreWithin}
use Rattle.rowan_green.specs.Term.{node_of}
use Rattle.rowan_green.specs.View.{child_term, node_label, AreSound}
use Rattle.rowan_green.proofs.ChildList.{take-children, drop-children}
use Rattle.rowan_green.proofs.green.node.GreenNode.from_last.Goals as goal

pub invariant_of-result : goal.invariant_of-result
invariant_of-result c =
    let is = c.in-Ok.ensures.ok in record {
      headed = is.0;
      sound = subst (λ len. AreSound len c.in-Ok.data.value.tail.items)
          (sym (ap (λ h. h.text_len) is.1))
          (subst (λ cs. AreSound c.in_ok-text_len.text_len cs) (sym is.2)
          c.in_ok-text_len.ensures.ok);
      labelled = is.3
          ∙ sym (λ i. node_label (node_of (is.1 i).kind.0 (map child_term (is.2 i))));
    }

pub returns-in-Ok-clause-ok : goal.returns-in-Ok-clause-ok
returns-in-Ok-clause-ok c =
    let is = c.in-Ok.ensures.ok in
    ap (λ h. node_of h.kind.0 (map child_term c.in-Ok.data.value.tail.items)) is.1
    ∙ ap (λ ds. node_of c.args.kind.0 (map child_term ds)) is.2
    ∙ ap (node_of c.args.kind.0)
    (drop-children c.args.first c.place.new.children.items _ c.place.ensures.same)

pub returns-in-Ok-clause-within : goal.returns-in-Ok-clause-within
returns-in-Ok-clause-within c =
    subst AreWithin (drop-children c.args.first c.place.new.children.items _ c.place.ensures.same)
    c.in_ok-text_len.ensures.ok.within

pub returns-in-Ok-clause-rest : goal.returns-in-Ok-clause-rest
returns-in-Ok-clause-rest c =
    ap (map child_term) c.in-Ok.ensures.left
    ∙ take-children c.args.first c.place.new.children.items _ c.place.ensures.same
