use Rattle.std.proofs.Common.{◌≡◌, ◌<◌, ◌++◌, ◌∷◌, [], refl, sym, ◌∙◌, ap, subst}
use Rattle.rowan_green.specs.declared.utility_types.NodeOrToken.TheVariants.{Node, Token}
use Rattle.rowan_green.specs.Lent.{pointee}
use Rattle.rowan_green.specs.Span.{Span}
use Rattle.rowan_green.specs.Term.{node_kind}
use Rattle.rowan_print.specs.Opened.{HasNext, open_size}
use Rattle.rowan_print.specs.Printed.{raw_name, extent}
use Rattle.rowan_print.specs.Spelled.{Spells, end_tokens}
use Rattle.rowan_print.proofs.PrintedLemmas.{pushed, on_ok, on_ok_too, size-closed, size-token}
use Rattle.rowan_print.proofs.PrintedLemmas.{size-node_entered}
use Rattle.rowan_print.proofs.SpelledLemmas.{end-written, token-spelled, node-begun}
use Rattle.rowan_print.proofs.json_text.write_child.Goals as goal

pub returns-in_default-clause-tokens : goal.returns-in_default-clause-tokens
returns-in_default-clause-tokens g c =
    let name = raw_name g.L.Language.name g.L.Language.meaning in
    let p = c.args.parent.now in
    let old = c.args.out.now in
    let new = c.write_end.new.out in
    let kinds = c.kind.ensures.kind ∙ ap node_kind c.green.ensures in
    on_ok c.write_end.result c.write_end.ensures
    (λ wrote. end-written name c.args.opened.now.items p old new (c.in_default.ensures.none refl)
    (subst (λ ts. Spells old new ts) (ap (λ k. end_tokens (name k) c.range.result) kinds
    ∙ ap (λ (s : Span). end_tokens (name (node_kind p.green.now)) s) c.range.ensures) wrote))

pub returns-in_default-clause-smaller : goal.returns-in_default-clause-smaller
returns-in_default-clause-smaller g c =
    on_ok_too c.write_end.result (size-closed c.args.opened.now.items c.args.parent.now)

pub returns-else-is_err-2-clause-tokens : goal.returns-else-is_err-2-clause-tokens
returns-else-is_err-2-clause-tokens g c =
    let name = raw_name g.L.Language.name g.L.Language.meaning in
    let ns = c.args.opened.now.items in
    let p = c.args.parent.now in
    let q = c.past_child.result in
    let n = c.in-Node.node.now in
    let has : HasNext p (Node n) = subst (HasNext p)
    (ap pointee c.in-Node.is) c.in-Some.ensures.child in
    let first : c.push.new.self.items ≡ ns ++ q ∷ [] =
    pushed c.is_err.result _ ns c.push.new.self.items q c.if-is_err.false c.is_err.ensures.negation
    c.push.ensures.items in
    let second = pushed c.is_err-in-Node.result _ c.push.new.self.items
    c.push-in-Node.new.self.items c.new.result c.if-is_err-2.false c.is_err-in-Node.ensures.negation
    c.push-in-Node.ensures.items in
    on_ok c.write_beginning.result c.write_beginning.ensures
    (node-begun name ns c.push-in-Node.new.self.items p q c.new.result n c.args.out.now
    c.write_beginning.new.out c.in-Some.found.0 has c.past_child.ensures c.new.ensures.green
    c.new.ensures.start c.new.ensures.next
    (second ∙ ap (λ ms. ms ++ c.new.result ∷ []) first) c.in-Some.ensures.start)

pub returns-else-is_err-2-clause-smaller : goal.returns-else-is_err-2-clause-smaller
returns-else-is_err-2-clause-smaller g c =
    let ns = c.args.opened.now.items in
    let p = c.args.parent.now in
    let q = c.past_child.result in
    let n = c.in-Node.node.now in
    let has : HasNext p (Node n) = subst (HasNext p)
    (ap pointee c.in-Node.is) c.in-Some.ensures.child in
    let first : c.push.new.self.items ≡ ns ++ q ∷ [] =
    pushed c.is_err.result _ ns c.push.new.self.items q c.if-is_err.false c.is_err.ensures.negation
    c.push.ensures.items in
    let second = pushed c.is_err-in-Node.result _ c.push.new.self.items
    c.push-in-Node.new.self.items c.new.result c.if-is_err-2.false c.is_err-in-Node.ensures.negation
    c.push-in-Node.ensures.items in
    on_ok_too c.write_beginning.result
    (subst (λ ms. open_size ms < open_size (ns ++ p ∷ []))
    (sym (second ∙ ap (λ ms. ms ++ c.new.result ∷ []) first))
    (size-node_entered ns p q c.new.result n has c.past_child.ensures c.new.ensures.green
    c.new.ensures.next))

pub returns-in-Token-clause-tokens : goal.returns-in-Token-clause-tokens
returns-in-Token-clause-tokens g c =
    let name = raw_name g.L.Language.name g.L.Language.meaning in
    let ns = c.args.opened.now.items in
    let p = c.args.parent.now in
    let q = c.past_child.result in
    let t = c.in-Token.token.now in
    let has : HasNext p (Token t) = subst (HasNext p)
    (ap pointee c.in-Token.is) c.in-Some.ensures.child in
    let list : c.push.new.self.items ≡ ns ++ q ∷ [] =
    pushed c.is_err.result _ ns c.push.new.self.items q c.if-is_err.false c.is_err.ensures.negation
    c.push.ensures.items in
    on_ok c.write_token.result c.write_token.ensures
    (token-spelled name ns c.push.new.self.items p q t c.args.out.now c.write_token.new.out
    c.in-Some.found.0 c.at.result has c.past_child.ensures list c.in-Some.ensures.start
    (c.at.ensures ∙ ap (extent c.in-Some.found.0) c.text_len.ensures.len))

pub returns-in-Token-clause-smaller : goal.returns-in-Token-clause-smaller
returns-in-Token-clause-smaller g c =
    let ns = c.args.opened.now.items in
    let p = c.args.parent.now in
    let q = c.past_child.result in
    let t = c.in-Token.token.now in
    let has : HasNext p (Token t) = subst (HasNext p)
    (ap pointee c.in-Token.is) c.in-Some.ensures.child in
    let list : c.push.new.self.items ≡ ns ++ q ∷ [] =
    pushed c.is_err.result _ ns c.push.new.self.items q c.if-is_err.false c.is_err.ensures.negation
    c.push.ensures.items in
    on_ok_too c.write_token.result (subst (λ ms. open_size ms < open_size (ns ++ p ∷ [])) (sym list)
    (size-token ns p q t has c.past_child.ensures))
