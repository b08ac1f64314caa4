use Rattle.std.proofs.Common.{◌≡◌, ℕ, length, refl, subst, arith, min}
use Rattle.rowan_events.specs.Log.{Is, with_joined}
use Rattle.rowan_events.proofs.Taking.{takes_joined}
use Rattle.rowan_events.proofs.parser.Parser.bump_glued.Goals as goal

pub returns-then-some-gt0 : goal.returns-then-some-gt0
returns-then-some-gt0 g c =
    let k = c.min-some.result in
    let s = c.args.self.now in
    let kind = g.L.Language.code c.args.kind in
    let left : c.tokens_left.result ≡ length s.left = c.tokens_left.ensures in
    let taken : k ≡ min c.tokens_left.result c.args.n = c.min-some.ensures in
    let count : k ≡ min (length s.left) c.args.n = omega (arith, left, taken) in
    let P : ℕ → Type 0 = λ m. Is (with_joined kind m s) c.push.new.self in
    subst P count (takes_joined c.kind_to_raw.result kind c.self.inside.position k
    c.self.inside.tokens.items _ s _ c.kind_to_raw.ensures.raw c.self.view_is refl refl
    (omega arith) c.push.ensures)
