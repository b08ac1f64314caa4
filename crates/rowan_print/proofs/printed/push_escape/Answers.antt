use Rattle.std.proofs.Common.{◌≡◌, ◌++◌, ◌≤◌, [], ◌∷◌, take, drop, encode_utf8}
use Rattle.std.proofs.Common.{encode_utf8_all, string_bytes, sym, ◌∙◌, ap, subst, arith}
use Rattle.std.proofs.Common.{append_assoc, append-nil}
use Rattle.std.specs.Char.Iter.{escape_end, escape_rest}
use Rattle.rowan_print.proofs.QuoteLemmas.{plain-escape, plain-small, escape-written, on_push}
use Rattle.rowan_print.proofs.printed.push_escape.Goals as goal

pub returns-then-is_plain : goal.returns-then-is_plain
returns-then-is_plain c =
    let byte = c.args.character in
    let plain = sym c.if-is_plain.ensures in
    on_push c.push.result (string_bytes c.push.new.self)
    (string_bytes c.args.text.now ++ encode_utf8 byte)
    (string_bytes c.args.text.now) c.push.ensures.bytes
    (λ wrote. (
      byte ∷ [],
      plain-escape byte plain,
      wrote
          ∙ ap (λ us. string_bytes c.args.text.now ++ us)
          (c.push.ensures.ascii (plain-small byte plain)),
    ))

pub loop-escaped-init : goal.loop-escaped-init
loop-escaped-init c =
    let given = c.into_iter-escaped-iterator.ensures.into_iter_gives in record {
      within = subst (λ e. escape_end e ≤ 10)
          (sym given) c.escape_debug-escaped-items.ensures.bound;
      all = escape_rest c.escape_debug-escaped-items.result;
      is = c.escape_debug-escaped-items.ensures.rest;
      wrote = ap (λ e. string_bytes c.args.text.now ++ encode_utf8_all (escape_rest e)) given;
    }

pub loop-escaped-preserved : goal.loop-escaped-preserved
loop-escaped-preserved c =
    let held = c.loop-escaped.invariant in
    let text = string_bytes c.loop-escaped.text in
    let rest = encode_utf8_all (escape_rest c.next.new.self) in
    let steps = c.in-Some.ensures.steps in record {
      within = omega (arith, steps.0, held.within);
      all = held.all;
      is = held.is;
      wrote =
          ap (λ us. us ++ rest) c.in_ok-push.ensures.bytes
          ∙ append_assoc text (encode_utf8 c.in-Some.escaped) rest
          ∙ ap (λ cs. text ++ encode_utf8_all cs) (sym steps.1.0)
          ∙ held.wrote;
    }

pub returns : goal.returns
returns c =
    let held = c.loop-escaped.invariant in
    let text = string_bytes c.loop-escaped.text in
    let left = c.loop-escaped.escaped-iterator in
    let none : escape_rest left ≡ [] =
    ap (λ n. take n (drop left.from left.chars)) c.in-None.ensures.steps.1.0 in (
      encode_utf8_all held.all,
      escape-written c.args.character held.all (λ small. sym c.if-is_plain.ensures) held.is,
      sym (append-nil text) ∙ ap (λ cs. text ++ encode_utf8_all cs) (sym none) ∙ held.wrote,
    )
