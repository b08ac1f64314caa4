use Rattle.std.proofs.Common.{◌≡◌, ◌+◌, ap, ◌∙◌}
use Rattle.rowan_green.specs.Term.{node_len}
use Rattle.rowan_sexp.specs.Casts.{is_list}
use Rattle.rowan_sexp.specs.Sexp.{kind_of}
use Rattle.rowan_tool.proofs.AncestorLemmas.{kind-tells, other-range}
use Rattle.rowan_tool.proofs.sexp.reparse.is_list_at.Goals as goal

pub returns-then-eq : goal.returns-then-eq
returns-then-eq c =
    let own : c.at-own.result ≡ record { start = 0; end = 0 + node_len c.args.node.now } =
    c.at-own.ensures ∙ ap (λ o. record { start = o; end = o + c.text_len.result }) c.from.ensures
    ∙ ap (λ l. record { start = 0; end = 0 + l }) c.text_len.ensures.len in
    c.can_cast.ensures ∙ ap is_list (c.kind_from_raw.ensures ∙ ap kind_of c.kind.ensures.kind)
    ∙ kind-tells c.args.node.now c.at-own.result c.args.range own c.if-eq.ensures

pub returns-else-eq : goal.returns-else-eq
returns-else-eq c =
    let own : c.at-own.result ≡ record { start = 0; end = 0 + node_len c.args.node.now } =
    c.at-own.ensures ∙ ap (λ o. record { start = o; end = o + c.text_len.result }) c.from.ensures
    ∙ ap (λ l. record { start = 0; end = 0 + l }) c.text_len.ensures.len in
    c.if-eq.false ∙ other-range c.args.node.now c.at-own.result c.args.range own c.if-eq.ensures
