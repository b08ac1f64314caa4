use Rattle.std.proofs.Common.{refl, ◌≡◌, ◌<◌, length, Some, sym, ◌∙◌, ap, subst, arith}
use Rattle.std.specs.List.{slice_get}
use Rattle.std.proofs.lemmas.Option.{slice_get_read}
use Rattle.rowan_builder.specs.declared.node_cache.table.Kept.{Kept}
use Rattle.rowan_green.specs.declared.utility_types.NodeOrToken.TheVariants.{Token}
use Rattle.rowan_green.specs.Term.{Term, token_of}
use Rattle.rowan_green.specs.Same.{same_term}
use Rattle.rowan_builder.specs.Cache.{is_among}
use Rattle.rowan_builder.specs.Tables.{kept_term}
use Rattle.rowan_builder.proofs.TableLemmas.{IsAhead, IsAhead-first, IsAhead-older, IsAhead-none}
use Rattle.rowan_builder.proofs.TableLemmas.{places-length, older_left, left_before, token_hits}
use Rattle.rowan_builder.proofs.TableLemmas.{token_found, token_absent}
use Rattle.rowan_builder.proofs.node_cache.table.ValueTable.token_number.Goals as goal

pub loop-next-init : goal.loop-next-init
loop-next-init c =
    let s = c.self.inside in
    let t : Term = Token (token_of c.args.kind.0 c.args.text.now) in
    IsAhead-first c.self.invariant c.args.hash (λ k. same_term (kept_term k) t)
    (λ k on. token_hits s.child_numbers.items c.args.kind.0 c.args.text.now k on
    ∙ sym c.requires) c.newest-next.result c.newest-next.ensures

pub index-kept-requires : goal.index-kept-requires
index-kept-requires c = omega (
  arith,
  (c.loop-next.invariant.stands c.in-Some.number c.in-Some.is).0,
  c.self.inside.values.ok.0,
)

pub older-next-requires : goal.older-next-requires
older-next-requires c = omega (
  arith,
  (c.loop-next.invariant.stands c.in-Some.number c.in-Some.is).0,
  places-length c.self.invariant,
)

pub returns-then-is_token-clause-some : goal.returns-then-is_token-clause-some
returns-then-is_token-clause-some c =
    let t : Term = Token (token_of c.args.kind.0 c.args.text.now) in
    let ks = c.self.inside.values.items in
    let k : Kept = c.index-kept.result.now in
    let at : slice_get ks c.in-Some.number ≡ Some k =
    slice_get_read ks (length ks) c.in-Some.number k refl
    (c.loop-next.invariant.stands c.in-Some.number c.in-Some.is).0 c.index-kept.ensures in
    ap (λ ts. slice_get ts c.in-Some.number) (sym c.self.view_is)
    ∙ token_found c.self.invariant t c.in-Some.number k at
    (sym c.is_token.ensures ∙ c.if-is_token.true)

pub loop-next-smaller : goal.loop-next-smaller
loop-next-smaller c =
    let s = c.self.inside in
    let newer = c.older-next.ensures c.args.hash
    (c.loop-next.invariant.stands c.in-Some.number c.in-Some.is).1 in
    subst (λ o. left_before c.older-next.result < left_before o) (sym c.in-Some.is)
    (older_left s.chains.hashes c.in-Some.number c.args.hash c.older-next.result newer)

pub loop-next-preserved : goal.loop-next-preserved
loop-next-preserved c =
    let s = c.self.inside in
    let t : Term = Token (token_of c.args.kind.0 c.args.text.now) in
    let k : Kept = c.index-kept.result.now in
    let at : slice_get s.values.items c.in-Some.number ≡ Some k =
    slice_get_read s.values.items (length s.values.items) c.in-Some.number k refl
    (c.loop-next.invariant.stands c.in-Some.number c.in-Some.is).0 c.index-kept.ensures in
    let ahead = subst (λ o. IsAhead s.values.items s.chains.hashes c.args.hash o
    (λ k. same_term (kept_term k) t)) c.in-Some.is c.loop-next.invariant in
    let newer = c.older-next.ensures c.args.hash
    (c.loop-next.invariant.stands c.in-Some.number c.in-Some.is).1 in
    IsAhead-older c.self.invariant c.args.hash (λ k. same_term (kept_term k) t)
    (λ k on. token_hits s.child_numbers.items c.args.kind.0 c.args.text.now k on
    ∙ sym c.requires) c.in-Some.number k at ahead
    (sym c.is_token.ensures ∙ c.if-is_token.false) c.older-next.result newer

pub returns-clause-none : goal.returns-clause-none
returns-clause-none c = λ none.
    let s = c.self.inside in
    let t : Term = Token (token_of c.args.kind.0 c.args.text.now) in
    let ahead = subst (λ o. IsAhead s.values.items s.chains.hashes c.args.hash o
    (λ k. same_term (kept_term k) t)) c.in_default.is c.loop-next.invariant in
    ap (λ ts. is_among ts t) (sym c.self.view_is)
    ∙ token_absent c.self.invariant t
    (IsAhead-none s.values.items s.chains.hashes c.args.hash
    (λ k. same_term (kept_term k) t) ahead)
