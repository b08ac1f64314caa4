use Rattle.std.proofs.Common.{List, length, sym, ◌∙◌, ap, subst, arith}
use Rattle.rowan_builder.specs.declared.builder.owning.Opening.{Opening}
use Rattle.rowan_green.specs.Word.{spelled, Wraps}
use Rattle.rowan_builder.specs.Weave.{weave, AreInOrder, place_of_innermost}
use Rattle.rowan_green.specs.Waiting.{elements}
use Rattle.rowan_builder.proofs.WeaveLemmas.{AreInOrder-push}
use Rattle.rowan_builder.proofs.WrapLemmas.{IsPast-weave, not_IsPast, IsBeforeOpening-weave}
use Rattle.rowan_builder.proofs.WrapLemmas.{not_IsBeforeOpening, Wraps-weave, AreInOrder-last}
use Rattle.rowan_builder.proofs.WrapLemmas.{place_of_innermost-ends}
use Rattle.rowan_builder.proofs.builder.owning.OwningBuilder.start_node_at.Goals as goal

pub returns-then-place-len-clause-err : goal.returns-then-place-len-clause-err
returns-then-place-len-clause-err c =
    let s = c.self.inside in
    IsPast-weave s.parents.items (elements s.finished) c.args.self.now.word c.args.checkpoint
    (ap (λ b. b.word) c.self.view_is) (omega (arith, c.if-place-len.true, c.checkpoint.view_is))

pub returns-then-place-len-clause-before : goal.returns-then-place-len-clause-before
returns-then-place-len-clause-before c = λ b.
    let s = c.self.inside in
    absurd (not_IsBeforeOpening s.parents.items (elements s.finished) c.args.self.now.word
    c.args.checkpoint (ap (λ b. b.word) c.self.view_is) c.self.invariant.0
    (omega (
      arith,
      place_of_innermost-ends 0 s.parents.items (length (elements s.finished))
          c.self.invariant.0,
      c.if-place-len.true,
      c.checkpoint.view_is,
    )) b)

pub returns-then-place-innermost_place-clause-err :
    goal.returns-then-place-innermost_place-clause-err
returns-then-place-innermost_place-clause-err c =
    let s = c.self.inside in
    let place = c.innermost_place.ensures
    ∙ ap (λ ps. place_of_innermost 0 ps) c.as_slice.ensures.value in
    IsBeforeOpening-weave s.parents.items (elements s.finished) c.args.self.now.word
    c.args.checkpoint (ap (λ b. b.word) c.self.view_is) c.self.invariant.0
    (omega (arith, place, c.if-place-innermost_place.true, c.checkpoint.view_is))

pub returns-then-place-innermost_place-clause-past :
    goal.returns-then-place-innermost_place-clause-past
returns-then-place-innermost_place-clause-past c = λ h.
    let s = c.self.inside in
    absurd (not_IsPast s.parents.items (elements s.finished) c.args.self.now.word c.args.checkpoint
    (ap (λ b. b.word) c.self.view_is)
    (omega (arith, c.if-place-len.false, c.checkpoint.view_is)) h)

pub returns-in_err-open-clause-past : goal.returns-in_err-open-clause-past
returns-in_err-open-clause-past c = λ h.
    let s = c.self.inside in
    absurd (not_IsPast s.parents.items (elements s.finished) c.args.self.now.word c.args.checkpoint
    (ap (λ b. b.word) c.self.view_is)
    (omega (arith, c.if-place-len.false, c.checkpoint.view_is)) h)

pub returns-in_err-open-clause-before : goal.returns-in_err-open-clause-before
returns-in_err-open-clause-before c = λ b.
    let s = c.self.inside in
    let place = c.innermost_place.ensures
    ∙ ap (λ ps. place_of_innermost 0 ps) c.as_slice.ensures.value in
    absurd (not_IsBeforeOpening s.parents.items (elements s.finished) c.args.self.now.word
    c.args.checkpoint (ap (λ b. b.word) c.self.view_is) c.self.invariant.0
    (omega (arith, place, c.if-place-innermost_place.false, c.checkpoint.view_is)) b)

pub returns-clause-past : goal.returns-clause-past
returns-clause-past c = λ h.
    let s = c.self.inside in
    absurd (not_IsPast s.parents.items (elements s.finished) c.args.self.now.word c.args.checkpoint
    (ap (λ b. b.word) c.self.view_is)
    (omega (arith, c.if-place-len.false, c.checkpoint.view_is)) h)

pub returns-clause-before : goal.returns-clause-before
returns-clause-before c = λ b.
    let s = c.self.inside in
    let place = c.innermost_place.ensures
    ∙ ap (λ ps. place_of_innermost 0 ps) c.as_slice.ensures.value in
    absurd (not_IsBeforeOpening s.parents.items (elements s.finished) c.args.self.now.word
    c.args.checkpoint (ap (λ b. b.word) c.self.view_is) c.self.invariant.0
    (omega (arith, place, c.if-place-innermost_place.false, c.checkpoint.view_is)) b)

pub invariant_of-self-2 : goal.invariant_of-self-2
invariant_of-self-2 c =
    let s = c.self.inside in
    let o : Opening = record { kind = c.args.kind; first_child = c.checkpoint.inside.place } in
    let place = c.innermost_place.ensures
    ∙ ap (λ ps. place_of_innermost 0 ps) c.as_slice.ensures.value in
    let P : List Opening → Type 0 = λ os. AreInOrder 0 os (length (elements s.finished)) in (
      subst P (sym c.in_ok-open.ensures.items)
          (AreInOrder-push 0 s.parents.items o (length (elements s.finished))
          (AreInOrder-last 0 s.parents.items (length (elements s.finished)) o.first_child
          c.self.invariant.0 (omega (arith, place, c.if-place-innermost_place.false)))
          (omega (arith, c.if-place-len.false))),
      c.self.invariant.1,
    )

pub returns-clause-ok : goal.returns-clause-ok
returns-clause-ok c =
    let s = c.self.inside in
    let o : Opening = record { kind = c.args.kind; first_child = c.checkpoint.inside.place } in
    let place = c.innermost_place.ensures
    ∙ ap (λ ps. place_of_innermost 0 ps) c.as_slice.ensures.value in
    let new = spelled (weave 0 c.open.new.parents.items (elements s.finished)) in
    record {
      wraps =
          subst (λ p. Wraps c.args.self.now.word p c.args.kind.0 new) c.checkpoint.view_is
          (Wraps-weave s.parents.items (elements s.finished) o c.args.self.now.word new
          (ap (λ b. b.word) c.self.view_is)
          (ap (λ os. spelled (weave 0 os (elements s.finished)))
          (sym c.in_ok-open.ensures.items)) c.self.invariant.0
          (omega (arith, place, c.if-place-innermost_place.false))
          (omega (arith, c.if-place-len.false)));
      same_cache = ap (λ b. b.cache) c.self.view_is;
    }
