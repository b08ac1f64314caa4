use Rattle.std.proofs.Common.{◌≡◌, ◌++◌, ◌∷◌, [], sym, ◌∙◌, ap, subst, arith, append-nil}
use Rattle.std.specs.List.{AllByRecursion}
use Rattle.rowan_green.specs.Span.{Span}
use Rattle.rowan_green.specs.Term.{node_len}
use Rattle.rowan_print.specs.Opened.{IsWithin}
use Rattle.rowan_print.specs.Printed.{raw_name, node_json}
use Rattle.rowan_print.specs.Spelled.{open_tokens}
use Rattle.rowan_print.proofs.PrintedLemmas.{pushed, none-open, all-front, all-last}
use Rattle.rowan_print.proofs.SpelledLemmas.{root-begun, print-value}
use Rattle.rowan_print.proofs.json_text.tree_text.Goals as goal

pub loop-parent-init : goal.loop-parent-init
loop-parent-init g c =
    let name = raw_name g.L.Language.name g.L.Language.meaning in
    let from = c.args.range.start in
    let begins = c.new.ensures.start ∙ c.start.ensures.offset in
    let first : c.push.new.self.items ≡ c.new.result ∷ [] =
    pushed c.is_err.result _ c.new-opened.result.items c.push.new.self.items c.new.result
    c.if-is_err.false c.is_err.ensures.negation c.push.ensures.items
    ∙ ap (λ ns. ns ++ c.new.result ∷ []) c.new-opened.ensures.items in
    record {
      within = subst (AllByRecursion IsWithin) (sym first) (
        omega (
          arith,
          ap (λ (s : Span). s.end) c.requires,
          begins,
          ap node_len c.new.ensures.green,
        ),
        tt,
      );
      before = c.in_ok-write_beginning.ensures.0 ∙ c.new-out.ensures.before
          ∙ c.in_ok-with_capacity.ensures.items;
      tokens = root-begun name from c.push.new.self.items c.new.result c.args.root.now
          c.new-out.result c.write_beginning.new.out c.new.ensures.green begins c.new.ensures.next
          first c.new-out.ensures.tokens
          c.in_ok-write_beginning.ensures;
    }

pub write_child-requires : goal.write_child-requires
write_child-requires g c =
    all-last IsWithin c.pop.new.self.items c.in-Some.parent
    (subst (AllByRecursion IsWithin) c.in-Some.ensures.items c.loop-parent.invariant.within)

pub loop-parent-preserved : goal.loop-parent-preserved
loop-parent-preserved g c =
    let name = raw_name g.L.Language.name g.L.Language.meaning in
    let items = c.in-Some.ensures.items in
    record {
      within = c.in_ok-write_child.ensures.within
          (all-front IsWithin c.pop.new.self.items c.in-Some.parent
          (subst (AllByRecursion IsWithin) items c.loop-parent.invariant.within));
      before = c.in_ok-write_child.ensures.tokens.0 ∙ c.loop-parent.invariant.before;
      tokens = c.in_ok-write_child.ensures.tokens.1
          ∙ ap (λ ns. c.loop-parent.out.tokens ++ open_tokens name ns) (sym items)
          ∙ c.loop-parent.invariant.tokens;
    }

pub text_of-requires : goal.text_of-requires
text_of-requires g c = c.loop-parent.invariant.before

pub returns : goal.returns
returns g c =
    let name = raw_name g.L.Language.name g.L.Language.meaning in
    let tokens = c.loop-parent.out.tokens in
    let none : c.loop-parent.opened.items ≡ [] =
    none-open c.loop-parent.opened.items
    (omega (arith, c.in_default.ensures.cases.0, c.loop-parent.opened.ok.0)) in
    c.text_of.ensures
    ∙ print-value (node_json name c.args.range.start c.args.root.now) tokens
    (sym (append-nil tokens) ∙ ap (λ ns. tokens ++ open_tokens name ns) (sym none)
    ∙ c.loop-parent.invariant.tokens)
