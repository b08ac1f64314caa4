use Rattle.std.proofs.Common.{◌≡◌, ◌++◌, [], chars, string_bytes, refl, sym, ◌∙◌, ap}
use Rattle.std.proofs.Common.{subst, append_assoc, append-nil, IsUtf8}
use Rattle.std.specs.Str.Iter.{chars_rest}
use Rattle.std.proofs.lemmas.List.{nil_from_length}
use Rattle.std.proofs.lemmas.Str.{IsUtf8-past_char, chars_past_char, chars-nil}
use Rattle.rowan_print.specs.Printed.{AreEscapes}
use Rattle.rowan_print.proofs.QuoteLemmas.{plain-text, on_push}
use Rattle.rowan_print.proofs.printed.push_escapes.Goals as goal

pub returns-then-is_all_plain : goal.returns-then-is_all_plain
returns-then-is_all_plain c =
    let part = c.args.part.now in
    on_push c.push_str.result (string_bytes c.push_str.new.self)
    (string_bytes c.args.text.now ++ part) (string_bytes c.args.text.now) c.push_str.ensures.bytes
    (λ wrote. (part, plain-text part (sym c.if-is_all_plain.ensures), wrote))

pub loop-character-init : goal.loop-character-init
loop-character-init c =
    let all : chars_rest c.into_iter-character-iterator.result ≡ c.args.part.now =
    ap chars_rest c.into_iter-character-iterator.ensures.into_iter_gives
    ∙ c.chars-character-items.ensures.rest in record {
      utf8 = subst IsUtf8 (sym all) c.utf8.part;
      added = [];
      wrote = sym (append-nil (string_bytes c.args.text.now));
      whole = λ rest h. subst (λ us. AreEscapes (chars us) rest) all h;
    }

pub loop-character-preserved : goal.loop-character-preserved
loop-character-preserved c =
    let held = c.loop-character.invariant in
    let parts = c.in-Some.ensures.steps.0 in
    let own = c.in_ok-push_escape.ensures in
    record {
      utf8 = IsUtf8-past_char _ _ c.in-Some.character held.utf8 parts;
      added = held.added ++ own.0;
      wrote = own.2 ∙ ap (λ us. us ++ own.0) held.wrote
          ∙ append_assoc (string_bytes c.args.text.now) held.added own.0;
      whole = λ rest more.
          let step = chars_past_char _ _ c.in-Some.character held.utf8 parts in
          let all = held.whole (own.0 ++ rest)
          (subst (λ cs. AreEscapes cs (own.0 ++ rest)) (sym step)
          (own.0, rest, own.1, more, refl)) in
          subst (AreEscapes (chars c.args.part.now)) (sym (append_assoc held.added own.0 rest)) all;
    }

pub returns : goal.returns
returns c =
    let held = c.loop-character.invariant in
    let none = nil_from_length (chars_rest c.loop-character.character-iterator)
    c.in-None.ensures.steps.0.0 in (
      held.added,
      subst (AreEscapes (chars c.args.part.now)) (append-nil held.added)
          (held.whole [] (subst (λ cs. AreEscapes cs []) (sym (ap chars none ∙ chars-nil)) refl)),
      held.wrote,
    )
