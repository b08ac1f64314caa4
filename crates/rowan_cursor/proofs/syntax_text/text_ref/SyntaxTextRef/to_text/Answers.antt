use Rattle.std.proofs.Common.{◌++◌, ◌∙◌, ap}
use Rattle.std.specs.List.{concat}
use Rattle.rowan_cursor.specs.RefTexts.{rest_of_chunks}
use Rattle.rowan_cursor.proofs.RefTextLemmas.{all_left}
use Rattle.rowan_cursor.proofs.syntax_text.text_ref.SyntaxTextRef.to_text.Goals as goal

pub loop-chunk-init : goal.loop-chunk-init
loop-chunk-init c =
    ap (λ us. us ++ concat (rest_of_chunks c.into_iter-chunk-iterator.result))
    c.in_ok-text.ensures.bytes
    ∙ all_left c.args.self.now _ _ c.into_iter-chunk-iterator.ensures.into_iter_gives
    c.chunks-chunk-items.ensures
