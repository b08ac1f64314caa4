use Rattle.std.proofs.Common.{◌≡◌, ◌++◌, ◌∷◌, [], codes, string_bytes, sym, ◌∙◌, ap, subst, arith}
use Rattle.std.specs.List.{AllByRecursion}
use Rattle.rowan_green.specs.Span.{Span}
use Rattle.rowan_green.specs.Term.{node_len}
use Rattle.rowan_print.specs.Opened.{Completes, IsWithin}
use Rattle.rowan_print.specs.Printed.{raw_name, node_line, AreNodeLines}
use Rattle.rowan_print.proofs.PrintedLemmas.{pushed, none-open, root-written, none-left, all-front}
use Rattle.rowan_print.proofs.PrintedLemmas.{all-last}
use Rattle.rowan_print.proofs.printed.tree.Goals as goal

pub loop-parent-init : goal.loop-parent-init
loop-parent-init g c =
    let name = raw_name g.L.Language.name g.L.Language.meaning in
    let root = c.args.root.now in
    let from = c.args.range.start in
    let begins = c.new.ensures.start ∙ c.start-start.ensures.offset in
    let first : c.push.new.self.items ≡ c.new.result ∷ [] =
    pushed c.is_err.result _ c.new-opened.result.items c.push.new.self.items c.new.result
    c.if-is_err.false c.is_err.ensures.negation c.push.ensures.items
    ∙ ap (λ ns. ns ++ c.new.result ∷ []) c.new-opened.ensures.items in
    let wrote : string_bytes c.push_node.new.text ≡ node_line name from root =
    c.in_ok-push_node.ensures ∙ ap (λ us. us ++ node_line name c.start-start.result root)
    c.new-text.ensures.bytes
    ∙ ap (λ s. node_line name s root) c.start-start.ensures.offset in
    record {
      within = subst (AllByRecursion IsWithin) (sym first) (
        omega (
          arith,
          ap (λ (s : Span). s.end) c.requires,
          begins,
          ap node_len c.new.ensures.green,
        ),
        tt,
      );
      lines = λ whole h. root-written name from root c.new.result c.push.new.self.items
          (string_bytes c.push_node.new.text) whole c.new.ensures.green begins c.new.ensures.next
          first wrote h;
    }

pub push_child-requires : goal.push_child-requires
push_child-requires g c =
    all-last IsWithin c.pop.new.self.items c.in-Some.parent
    (subst (AllByRecursion IsWithin) c.in-Some.ensures.items c.loop-parent.invariant.within)

pub loop-parent-preserved : goal.loop-parent-preserved
loop-parent-preserved g c =
    let name = raw_name g.L.Language.name g.L.Language.meaning in
    let rest = c.pop.new.self.items in
    let items = c.in-Some.ensures.items in
    record {
      within = c.in_ok-push_child.ensures.within
          (all-front IsWithin rest c.in-Some.parent
          (subst (AllByRecursion IsWithin) items c.loop-parent.invariant.within));
      lines = λ whole h.
          c.loop-parent.invariant.lines whole
          (subst (λ ns. Completes name (string_bytes c.loop-parent.text) ns whole) (sym items)
          (c.in_ok-push_child.ensures.lines whole h));
    }

pub returns : goal.returns
returns g c =
    let name = raw_name g.L.Language.name g.L.Language.meaning in
    let text = string_bytes c.loop-parent.text in
    let none : c.loop-parent.opened.items ≡ [] =
    none-open c.loop-parent.opened.items
    (omega (arith, c.in_default.ensures.cases.0, c.loop-parent.opened.ok.0)) in
    let all = c.loop-parent.invariant.lines (text ++ codes "\n")
    (none-left name text c.loop-parent.opened.items none) in
    subst (AreNodeLines name c.args.range.start 0 c.args.root.now)
    (sym c.in_ok-push_str.ensures.bytes) all
