use Rattle.std.proofs.Common.{◌≡◌, ap, sym, ◌∙◌, subst, Some}
use Rattle.std.specs.Prelude.{slice_get}
use Rattle.rowan_green.specs.declared.utility_types.NodeOrToken.TheVariants.{Node, Token}
use Rattle.rowan_green.specs.Term.{node_children}
use Rattle.rowan_green.specs.Fits.{FitsNode}
use Rattle.rowan_green.specs.Lent.{pointee}
use Rattle.rowan_sexp.specs.Grammar.{IsOneList, IsParse, IsBalanced}
use Rattle.rowan_tool.proofs.EditLemmas.{accepted-within}
use Rattle.rowan_tool.proofs.FitLemmas.{parse-fits}
use Rattle.rowan_tool.proofs.ListReparsed.{token-child, node-child, first-fits}
use Rattle.rowan_tool.proofs.sexp.reparse.one_list.Goals as goal

pub unreachable-requires-in_default-child : goal.unreachable-requires-in_default-child
unreachable-requires-in_default-child c =
    let balanced : IsBalanced c.args.text.now =
    c.is_balanced.ensures.0 c.if-not-is_balanced.false in
    let first : slice_get (node_children c.green.result.now) 0
    ≡ Some (Token c.in_default-child.field-0.now) = c.in-Some.ensures.some.1
    ∙ ap (λ e. Some (pointee e)) c.in_default-child.is in
    token-child c.args.text.now c.green.result.now c.in_default-child.field-0.now
    (subst (IsParse c.args.text.now) (sym c.green.ensures) c.in_ok-parse.ensures.tree) balanced
    first

pub returns-clause-ok : goal.returns-clause-ok
returns-clause-ok c =
    let balanced : IsBalanced c.args.text.now =
    c.is_balanced.ensures.0 c.if-not-is_balanced.false in
    let first : slice_get (node_children c.green.result.now) 0 ≡ Some (Node c.in-Node.list.now) =
    c.in-Some.ensures.some.1 ∙ ap (λ e. Some (pointee e)) c.in-Node.is in
    let found = node-child c.args.text.now c.green.result.now c.in-Node.list.now
    (subst (IsParse c.args.text.now) (sym c.green.ensures) c.in_ok-parse.ensures.tree) balanced
    first in
    subst (IsOneList c.args.text.now) (sym c.in_ok-clone.ensures.cases) found

pub returns-clause-fits : goal.returns-clause-fits
returns-clause-fits c =
    let first : slice_get (node_children c.green.result.now) 0 ≡ Some (Node c.in-Node.list.now) =
    c.in-Some.ensures.some.1 ∙ ap (λ e. Some (pointee e)) c.in-Node.is in
    let within = accepted-within c.parse.result c.in_ok-parse.parse c.args.text.now
    c.in_ok-parse.was c.parse.ensures.too_long in
    let fits : FitsNode c.green.result.now =
    parse-fits c.args.text.now c.green.result.now
    (subst (IsParse c.args.text.now) (sym c.green.ensures) c.in_ok-parse.ensures.tree) within in
    subst FitsNode (sym c.in_ok-clone.ensures.cases)
    (first-fits c.green.result.now c.in-Node.list.now first fits)
