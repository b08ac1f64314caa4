use Rattle.std.proofs.Common.{◌≡◌, ◌+◌, ◌<◌, ◌++◌, ◌∷◌, [], length, length-append, string_bytes}
use Rattle.std.proofs.Common.{refl, sym, ◌∙◌, ap, subst, arith}
use Rattle.rowan_green.specs.declared.utility_types.NodeOrToken.TheVariants.{Node, Token}
use Rattle.rowan_green.specs.Lent.{pointee}
use Rattle.rowan_print.specs.Opened.{HasNext, open_size}
use Rattle.rowan_print.specs.Printed.{raw_name}
use Rattle.rowan_print.proofs.PrintedLemmas.{pushed, on_ok, on_ok_too, lines-closed, token-written}
use Rattle.rowan_print.proofs.PrintedLemmas.{node-written, size-closed, size-token, size-node_entered}
use Rattle.rowan_print.proofs.printed.push_child.Goals as goal

pub returns-in_default-clause-smaller : goal.returns-in_default-clause-smaller
returns-in_default-clause-smaller g c = size-closed c.args.opened.now.items c.args.parent.now

pub returns-else-is_err-2-clause-smaller : goal.returns-else-is_err-2-clause-smaller
returns-else-is_err-2-clause-smaller g c =
    let ns = c.args.opened.now.items in
    let p = c.args.parent.now in
    let q = c.past_child.result in
    let n = c.in-Node.node.now in
    let has : HasNext p (Node n) = subst (HasNext p)
    (ap pointee c.in-Node.is) c.in-Some.ensures.child in
    let first : c.push.new.self.items ≡ ns ++ q ∷ [] =
    pushed c.is_err.result _ ns c.push.new.self.items q c.if-is_err.false c.is_err.ensures.negation
    c.push.ensures.items in
    let second = pushed c.is_err-in-Node.result _ c.push.new.self.items
    c.push-in-Node.new.self.items c.new.result c.if-is_err-2.false c.is_err-in-Node.ensures.negation
    c.push-in-Node.ensures.items in
    on_ok_too c.push_node.result
    (subst (λ ms. open_size ms < open_size (ns ++ p ∷ []))
    (sym (second ∙ ap (λ ms. ms ++ c.new.result ∷ []) first))
    (size-node_entered ns p q c.new.result n has c.past_child.ensures c.new.ensures.green
    c.new.ensures.next))

pub returns-in-Token-clause-smaller : goal.returns-in-Token-clause-smaller
returns-in-Token-clause-smaller g c =
    let ns = c.args.opened.now.items in
    let p = c.args.parent.now in
    let q = c.past_child.result in
    let t = c.in-Token.token.now in
    let has : HasNext p (Token t) = subst (HasNext p)
    (ap pointee c.in-Token.is) c.in-Some.ensures.child in
    let list : c.push.new.self.items ≡ ns ++ q ∷ [] =
    pushed c.is_err.result _ ns c.push.new.self.items q c.if-is_err.false c.is_err.ensures.negation
    c.push.ensures.items in
    on_ok_too c.push_token.result (subst (λ ms. open_size ms < open_size (ns ++ p ∷ [])) (sym list)
    (size-token ns p q t has c.past_child.ensures))

pub returns-in_default-clause-lines : goal.returns-in_default-clause-lines
returns-in_default-clause-lines g c = λ whole h.
    let name = raw_name g.L.Language.name g.L.Language.meaning in
    lines-closed name c.args.opened.now.items c.args.parent.now (string_bytes c.args.text.now) whole
    (c.in_default.ensures.none refl) h

pub returns-else-is_err-2-clause-lines : goal.returns-else-is_err-2-clause-lines
returns-else-is_err-2-clause-lines g c = λ whole.
    let name = raw_name g.L.Language.name g.L.Language.meaning in
    let ns = c.args.opened.now.items in
    let p = c.args.parent.now in
    let q = c.past_child.result in
    let n = c.in-Node.node.now in
    let has : HasNext p (Node n) = subst (HasNext p)
    (ap pointee c.in-Node.is) c.in-Some.ensures.child in
    let first : c.push.new.self.items ≡ ns ++ q ∷ [] =
    pushed c.is_err.result _ ns c.push.new.self.items q c.if-is_err.false c.is_err.ensures.negation
    c.push.ensures.items in
    let second = pushed c.is_err-in-Node.result _ c.push.new.self.items
    c.push-in-Node.new.self.items c.new.result c.if-is_err-2.false c.is_err-in-Node.ensures.negation
    c.push-in-Node.ensures.items in
    let level : c.len.result ≡ 1 + length ns =
    omega (
      arith,
      c.len.ensures,
      c.push.new.self.ok.0,
      ap length first,
      length-append ns (q ∷ []),
    ) in
    on_ok c.push_node.result c.push_node.ensures
    (node-written name ns p q c.new.result n (string_bytes c.args.text.now)
    (string_bytes c.push_new_line.new.text)
    (string_bytes c.push_node.new.text) whole c.len.result c.in-Some.found.0
    c.push-in-Node.new.self.items has
    c.past_child.ensures c.new.ensures.green c.new.ensures.start c.new.ensures.next
    (second ∙ ap (λ ms. ms ++ c.new.result ∷ []) first) level c.in-Some.ensures.start
    c.in_ok-push_new_line.ensures)

pub returns-in-Token-clause-lines : goal.returns-in-Token-clause-lines
returns-in-Token-clause-lines g c = λ whole.
    let name = raw_name g.L.Language.name g.L.Language.meaning in
    let ns = c.args.opened.now.items in
    let p = c.args.parent.now in
    let q = c.past_child.result in
    let t = c.in-Token.token.now in
    let has : HasNext p (Token t) = subst (HasNext p)
    (ap pointee c.in-Token.is) c.in-Some.ensures.child in
    let list : c.push.new.self.items ≡ ns ++ q ∷ [] =
    pushed c.is_err.result _ ns c.push.new.self.items q c.if-is_err.false c.is_err.ensures.negation
    c.push.ensures.items in
    let level : c.len.result ≡ 1 + length ns =
    omega (arith, c.len.ensures, c.push.new.self.ok.0, ap length list, length-append ns (q ∷ [])) in
    on_ok c.push_token.result c.push_token.ensures
    (token-written name ns p q t (string_bytes c.args.text.now)
    (string_bytes c.push_new_line.new.text)
    (string_bytes c.push_token.new.text) whole c.len.result c.in-Some.found.0 c.push.new.self.items
    has
    c.past_child.ensures list level c.in-Some.ensures.start c.in_ok-push_new_line.ensures)
