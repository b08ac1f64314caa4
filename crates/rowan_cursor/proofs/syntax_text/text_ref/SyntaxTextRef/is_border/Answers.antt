use Rattle.std.proofs.Common.{◌≡◌, length, sym, ◌∙◌, subst, arith}
use Rattle.std.specs.Str.{IsCharBoundary}
use Rattle.std.proofs.lemmas.Bool.Decides.{Decides-eqb}
use Rattle.std.proofs.lemmas.Str.{IsCharBoundary-end}
use Rattle.rowan_cursor.specs.RefTexts.{text_slice}
use Rattle.rowan_table.specs.SyntaxText.{slice_text}
use Rattle.rowan_cursor.proofs.CharLemmas.{byte_within}
use Rattle.rowan_cursor.proofs.RefTextLemmas.{text_len}
use Rattle.rowan_cursor.proofs.syntax_text.text_ref.SyntaxTextRef.is_border.Goals as goal

pub returns-in-None-clause-border : goal.returns-in-None-clause-border
returns-in-None-clause-border c =
    let text = slice_text (text_slice c.args.self.now) in
    let len : c.len.result ≡ length text = c.len.ensures ∙ sym (text_len c.args.self.now) in
    let test = Decides-eqb c.args.offset c.len.result in (
      (λ h. subst (IsCharBoundary text) (sym (test.0 (sym c.eq.ensures ∙ h) ∙ len))
          (IsCharBoundary-end text)),
      (λ b. c.eq.ensures ∙ test.1 (omega (arith, b.0, c.in-None.ensures, len))),
    )

pub returns-in-None-clause-within : goal.returns-in-None-clause-within
returns-in-None-clause-within c h =
    omega (
      arith,
      (Decides-eqb c.args.offset c.len.result).0 (sym c.eq.ensures ∙ h),
      c.len.ensures,
    )

pub returns-in-Some-clause-within : goal.returns-in-Some-clause-within
returns-in-Some-clause-within c h =
    omega (
      arith,
      byte_within (slice_text (text_slice c.args.self.now)) c.args.offset _ _ c.in-Some.ensures,
      text_len c.args.self.now,
    )
