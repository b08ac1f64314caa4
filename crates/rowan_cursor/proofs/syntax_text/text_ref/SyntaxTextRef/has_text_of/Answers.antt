use Rattle.std.proofs.Common.{◌≡◌, ◌≢◌, ◌<◌, [], ◌++◌, length, sym, ◌∙◌, ap, arith, rules}
use Rattle.std.proofs.Common.{append_assoc, length-append}
use Rattle.std.proofs.lemmas.List.{append_cancel_left, nil_from_length}
use Rattle.std.specs.List.{concat}
use Rattle.rowan_cursor.specs.RefTexts.{text_slice, rest_of_chunks}
use Rattle.rowan_table.specs.SyntaxText.{slice_text}
use Rattle.rowan_cursor.proofs.RefTextLemmas.{text_joined, text_len, all_left, all_read}
use Rattle.rowan_cursor.proofs.SameLemmas.{same, differ, fronts, longer, all_alike}
use Rattle.rowan_cursor.proofs.syntax_text.text_ref.SyntaxTextRef.has_text_of.Goals as goal

pub returns-then-ne : goal.returns-then-ne
returns-then-ne c =
    let apart : c.len.result ≢ c.len-2.result = search rules in
    differ (text_slice c.args.self.now) (text_slice c.args.other.now)
    (λ e. apart (c.len.ensures ∙ sym (text_len c.args.self.now) ∙ ap length e
    ∙ text_len c.args.other.now ∙ sym c.len-2.ensures))

pub loop-chunk-init : goal.loop-chunk-init
loop-chunk-init c = (
  [],
  all_left c.args.self.now _ _ c.into_iter-chunk-iterator.ensures.into_iter_gives
      c.chunks-chunk-items.ensures,
  ap concat c.chunks-others.ensures ∙ text_joined c.args.other.now,
)

pub returns-in-None-next : goal.returns-in-None-next
returns-in-None-next c =
    let before = c.loop-mine.invariant in
    let left = concat (rest_of_chunks c.next.new.self) in
    let theirs = concat (rest_of_chunks c.loop-mine.others) in
    let some : 0 < length c.loop-mine.mine.now = search (rules, c.loop-mine-test, c.is_empty) in
    let none : length c.loop-mine.theirs.now ≡ 0 = search (rules, c.if-is_empty) in
    differ (text_slice c.args.self.now) (text_slice c.args.other.now)
    (λ e. longer before.0 (c.loop-mine.mine.now ++ left) (c.loop-mine.theirs.now ++ theirs)
    (omega (
      arith,
      length-append c.loop-mine.theirs.now theirs,
      none,
      ap (λ cs. length (concat cs)) c.in-None-next.ensures.steps.0,
    ))
    (omega (arith, length-append c.loop-mine.mine.now left, some))
    (before.1 ∙ e ∙ sym before.2))

pub returns-then-ne-2 : goal.returns-then-ne-2
returns-then-ne-2 c =
    let before = c.loop-mine.invariant in
    let left = concat (rest_of_chunks c.next.new.self) in
    let theirs = concat (rest_of_chunks c.loop-mine.others) in
    let mine = c.split_at.result in
    let others = c.split_at-in-loop-mine.result in
    let apart : mine.0.now ≢ others.0.now = search rules in
    differ (text_slice c.args.self.now) (text_slice c.args.other.now)
    (λ e. apart (fronts mine.0.now others.0.now (mine.1.now ++ left)
    (others.1.now ++ theirs) (c.split_at.ensures.front_len
    ∙ sym c.split_at-in-loop-mine.ensures.front_len)
    (sym (append_assoc mine.0.now mine.1.now left)
    ∙ ap (λ us. us ++ left) (sym c.split_at.ensures.by_index.0)
    ∙ append_cancel_left before.0 (c.loop-mine.mine.now ++ left) (c.loop-mine.theirs.now ++ theirs)
    (before.1 ∙ e ∙ sym before.2)
    ∙ ap (λ us. us ++ theirs) c.split_at-in-loop-mine.ensures.by_index.0
    ∙ append_assoc others.0.now others.1.now theirs)))

pub loop-mine-preserved : goal.loop-mine-preserved
loop-mine-preserved c =
    let before = c.loop-mine.invariant in
    let left = concat (rest_of_chunks c.next.new.self) in
    let theirs = concat (rest_of_chunks c.loop-mine.others) in
    let mine = c.split_at.result in
    let others = c.split_at-in-loop-mine.result in
    let alike : mine.0.now ≡ others.0.now = search rules in (
      before.0 ++ mine.0.now,
      append_assoc before.0 mine.0.now (mine.1.now ++ left)
          ∙ ap (λ us. before.0 ++ us) (sym (append_assoc mine.0.now mine.1.now left)
          ∙ ap (λ us. us ++ left) (sym c.split_at.ensures.by_index.0)) ∙ before.1,
      ap (λ us. (before.0 ++ us) ++ (others.1.now ++ theirs)) alike
          ∙ append_assoc before.0 others.0.now (others.1.now ++ theirs)
          ∙ ap (λ us. before.0 ++ us) (sym (append_assoc others.0.now others.1.now theirs)
          ∙ ap (λ us. us ++ theirs) (sym c.split_at-in-loop-mine.ensures.by_index.0)) ∙ before.2,
    )

pub loop-mine-preserved-then-is_empty : goal.loop-mine-preserved-then-is_empty
loop-mine-preserved-then-is_empty c =
    let before = c.loop-mine.invariant in
    let left = rest_of_chunks c.next-then-is_empty.new.self in
    let none : length c.loop-mine.theirs.now ≡ 0 = search rules in (
      before.0,
      before.1,
      ap (λ us. before.0 ++ (us ++ concat left)) c.as_bytes-theirs.ensures.value
          ∙ ap (λ cs. before.0 ++ concat cs) (sym c.in-Some-next.ensures.steps)
          ∙ ap (λ us. before.0 ++ (us ++ concat (rest_of_chunks c.loop-mine.others)))
          (sym (nil_from_length c.loop-mine.theirs.now none)) ∙ before.2,
    )

pub returns : goal.returns
returns c =
    let s = text_slice c.args.self.now in
    let t = text_slice c.args.other.now in
    let before = c.loop-chunk.invariant in
    let theirs = concat (rest_of_chunks c.loop-chunk.others) in
    let len : c.len.result ≡ c.len-2.result = search rules in
    same s t (all_alike before.0 (c.loop-chunk.theirs.now ++ theirs) (slice_text s) (slice_text t)
    (all_read (slice_text s) before.0 c.loop-chunk.chunk-iterator c.in-None.ensures.steps.0
    before.1) before.2
    (text_len c.args.self.now ∙ sym c.len.ensures ∙ len ∙ c.len-2.ensures
    ∙ sym (text_len c.args.other.now)))
