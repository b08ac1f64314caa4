use Rattle.std.proofs.Common.{◌-◌, Some, None, sym, ◌∙◌, ap}
use Rattle.std.specs.Option.{option_map}
use Rattle.rowan_green.specs.declared.utility_types.NodeOrToken.TheVariants.{Node, Token}
use Rattle.rowan_green.specs.Lent.{pointee}
use Rattle.rowan_changes.proofs.EditedLemmas.{text-put, part-none}
use Rattle.rowan_changes.proofs.Ways.{ok-from}
use Rattle.rowan_changes.proofs.changes.Edited.new_text.Goals as goal

pub returns-in_default-element_at-clause-ok : goal.returns-in_default-element_at-clause-ok
returns-in_default-element_at-clause-ok c = λ es e h at.
    (let put = c.in-Some.ensures.some in
    let p = c.in-Some.placed in
    let there = sym c.element_at.ensures ∙ ap (option_map pointee) c.in_default-element_at.is in
    c.new-in_default-element_at.ensures.bytes
    ∙ sym (part-none p.children.start (p.children.end - p.children.start))
    ∙ text-put c.args.self.now.sites.root es c.args.index e c.args.self.now p.parent.now
    p.children.start p.children.end None h at put there)

pub returns-in_default-element-clause-ok : goal.returns-in_default-element-clause-ok
returns-in_default-element-clause-ok c = λ es e h at.
    (let put = c.in-Some.ensures.some in
    let p = c.in-Some.placed in
    let there = sym c.element_at.ensures ∙ ap (option_map pointee) c.in-Some-element_at.is
    ∙ ap (λ x. Some (pointee x)) c.in_default-element.is in
    c.new-in_default-element.ensures.bytes
    ∙ sym (part-none p.children.start (p.children.end - p.children.start))
    ∙ text-put c.args.self.now.sites.root es c.args.index e c.args.self.now p.parent.now
    p.children.start p.children.end (Some (Token c.in_default-element.field-0.now)) h at put there)

pub returns-clause-ok : goal.returns-clause-ok
returns-clause-ok c = λ es e h at.
    (let put = c.in-Some.ensures.some in
    let p = c.in-Some.placed in
    let there = sym c.element_at.ensures ∙ ap (option_map pointee) c.in-Some-element_at.is
    ∙ ap (λ x. Some (pointee x)) c.in-Node.is in
    ok-from c.text_of.result (λ t is. is
    ∙ text-put c.args.self.now.sites.root es c.args.index e c.args.self.now p.parent.now
    p.children.start p.children.end (Some (Node c.in-Node.node.now)) h at put there)
    c.text_of.ensures.ok)
