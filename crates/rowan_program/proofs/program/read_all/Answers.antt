use Rattle.std.proofs.Common.{◌+◌, ◌++◌, ℕ, List, take, Option, Some, None}
use Rattle.std.proofs.Common.{refl, sym, ◌∙◌, ap, arith, append_assoc, length-append}
use Rattle.std.proofs.lemmas.List.{length-take-le}
use Rattle.std.specs.Io.KnownBytes.{Consumes}
use Rattle.rowan_program.proofs.program.read_all.Goals as goal

-- one read behind others
consumes-more : (old between new : Option (List ℕ)) (bs more : List ℕ)
    → Consumes old between bs → Consumes between new more → Consumes old new (bs ++ more)
consumes-more None between new bs more h k = tt
consumes-more (Some xs) None new bs more h k = absurd h
consumes-more (Some xs) (Some ys) None bs more h k = absurd k
consumes-more (Some xs) (Some ys) (Some zs) bs more h k =
    h ∙ ap (λ us. bs ++ us) k ∙ sym (append_assoc bs more zs)

pub returns-then-count-len-clause-err : goal.returns-then-count-len-clause-err
returns-then-count-len-clause-err g c = λ read memory.
    let before = c.loop-bytes.bytes.items in
    let last = take c.in_ok-count.count c.read_some.new.buffer in
    let all = consumes-more (g.R.Read.remaining c.args.input.now)
    (g.R.Read.remaining c.loop-bytes.input)
    (g.R.Read.remaining c.read_some.new.input) before last c.loop-bytes.invariant.read
    c.in_ok-count.ensures.ok in
    let some = length-take-le c.in_ok-count.count c.read_some.new.buffer
    c.in_ok-count.ensures.bound in (
      refl,
      (
        before ++ last,
        all,
        omega (
          arith,
          c.loop-bytes.bytes.ok.0,
          c.len.ensures,
          c.if-count-len.true,
          some,
          length-append before last,
        ),
      ),
    )
