use Rattle.std.proofs.Common.{sym, ◌∙◌, ap, subst}
use Rattle.rowan_rewrite.specs.Drafts.{completed, to_do, tokens_in, Led, whole, top, AreOpen}
use Rattle.rowan_rewrite.specs.Drafts.{leaves_at, leaves_behind}
use Rattle.rowan_rewrite.specs.Rewriting.{with_front}
use Rattle.rowan_rewrite.proofs.PassSteps.{IsNew, new-leaves, new-completed}
use Rattle.rowan_rewrite.proofs.rewriting.pass.Pass.new.Goals as goal

pub returns-clause-root : goal.returns-clause-root
returns-clause-root c =
    let d = c.new-2.result in
    ap (λ es. top es d.node.now) c.new.ensures.items ∙ c.new-2.ensures.node

pub returns-clause-left : goal.returns-clause-left
returns-clause-left c =
    let d = c.new-2.result in
    let made = c.new-2.ensures in
    let h : IsNew c.args.root.now d =
    record {
      node = made.node;
      next = made.next;
      lead = made.lead;
      done = made.done;
    } in
    ap (λ es. leaves_behind es (leaves_at d.next (to_do d))) c.new.ensures.items
    ∙ new-leaves c.args.root.now d h

pub returns-clause-tree : goal.returns-clause-tree
returns-clause-tree c = λ more.
    (let d = c.new-2.result in
    let made = c.new-2.ensures in
    let h : IsNew c.args.root.now d =
    record {
      node = made.node;
      next = made.next;
      lead = made.lead;
      done = made.done;
    } in
    ap (λ (m : Led). with_front m.0 m.1)
    (ap (λ es. whole es (completed d) (tokens_in (to_do d)) more) c.new.ensures.items
    ∙ new-completed c.args.root.now d h more))

pub returns-clause-pass : goal.returns-clause-pass
returns-clause-pass c =
    let d = c.new-2.result in (
      subst (λ es. AreOpen es d.node.now) (sym c.new.ensures.items) tt,
      λ _. c.new-2.ensures.lead,
    )
