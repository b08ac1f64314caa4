use Rattle.std.proofs.Common.{◌≡◌, suc, ◌<◌, ◌≤◌, length, Some, refl, ◌∙◌, ap, arith}
use Rattle.std.proofs.Common.{rules}
use Rattle.std.specs.Prelude.{slice_get}
use Rattle.std.proofs.lemmas.Option.{slice_get_read}
use Rattle.rowan_changes.proofs.ChangeLemmas.{found-none, found-some, found-over, ends-length}
use Rattle.rowan_changes.proofs.changes.Changes.front_of.Goals as goal

pub returns-in_default-clause-some : goal.returns-in_default-clause-some
returns-in_default-clause-some c =
    found-none c.self.inside.list.items c.args.self.now c.deref.result.now c.args.range
    c.count_before-count.result c.end.result c.from-zero.result c.new.result c.self.view_is
    c.deref.ensures.value c.end.ensures.offset
    (omega (arith, c.end.ensures.order, c.end.ensures.offset))
    (omega (arith, c.in_default.ensures)) c.count_before-count.ensures.behind c.from-zero.ensures
    c.new.ensures

pub index-requires-2 : goal.index-requires-2
index-requires-2 c =
    omega (
      arith,
      c.in-Some.ensures,
      c.count_before-count.ensures.within,
      ap length c.deref.ensures.value,
      c.self.inside.ends.ok.0,
      ends-length c.self.inside.list.items c.self.inside.ends.items 0 0 c.self.invariant.ends,
    )

pub returns-then-lt-clause-none : goal.returns-then-lt-clause-none
returns-then-lt-clause-none c = λ none.
    (let cs = c.self.inside.list.items in
    let k = c.in-Some.index in
    let d = c.index.result.now in
    let count : c.count_before-count.result ≡ suc k = omega (arith, c.in-Some.ensures) in
    let within : k < length cs =
    omega (
      arith,
      count,
      c.count_before-count.ensures.within,
      ap length c.deref.ensures.value,
    ) in
    let at : slice_get cs k ≡ Some d = slice_get_read cs (length cs) k d refl within c.index.ensures
    in
    let past : c.start.result < c.end-end.result = search rules in
    found-over cs c.args.self.now c.deref.result.now c.args.range c.count_before-count.result k
    c.end.result d c.self.view_is c.deref.ensures.value c.end.ensures.offset count
    c.count_before-count.ensures.before at
    (omega (arith, past, c.start.ensures.offset, c.end-end.ensures.offset)))

pub returns-clause-some : goal.returns-clause-some
returns-clause-some c =
    let cs = c.self.inside.list.items in
    let xs = c.self.inside.ends.items in
    let k = c.in-Some.index in
    let d = c.index.result.now in
    let count : c.count_before-count.result ≡ suc k = omega (arith, c.in-Some.ensures) in
    let within : k < length cs =
    omega (
      arith,
      count,
      c.count_before-count.ensures.within,
      ap length c.deref.ensures.value,
    ) in
    let same = ends-length cs xs 0 0 c.self.invariant.ends in
    let at : slice_get cs k ≡ Some d = slice_get_read cs (length cs) k d refl within c.index.ensures
    in
    let there : slice_get xs k ≡ Some c.index-2.result.now =
    slice_get_read xs (length xs) k c.index-2.result.now refl (omega (arith, within, same))
    c.index-2.ensures in
    let ends : c.end-end.result ≤ c.start.result = search rules in
    found-some cs c.args.self.now c.deref.result.now xs c.args.range c.count_before-count.result k
    c.end.result c.from-zero.result d c.index-2.result.now c.new-2.result c.self.view_is
    c.deref.ensures.value c.end.ensures.offset count c.self.invariant.follow c.self.invariant.ends
    (omega (arith, c.end.ensures.order, c.end.ensures.offset)) c.count_before-count.ensures.before
    c.count_before-count.ensures.behind at there
    (omega (arith, ends, c.start.ensures.offset, c.end-end.ensures.offset)) c.from-zero.ensures
    (c.new-2.ensures ∙ ap (λ e. record { start = c.from-zero.result; end = e })
    c.end-end.ensures.offset)
