use Rattle.std.proofs.Common.{refl, ◌≡◌, ◌<◌, ℕ, List, length, Some, sym, ◌∙◌, ap, subst, arith}
use Rattle.std.specs.List.{slice_get}
use Rattle.std.proofs.lemmas.Option.{slice_get_read}
use Rattle.rowan_builder.specs.declared.node_cache.table.Kept.{Kept}
use Rattle.rowan_green.specs.declared.utility_types.NodeOrToken.TheVariants.{Node}
use Rattle.rowan_green.specs.Term.{node_of}
use Rattle.rowan_builder.specs.Cache.{is_among}
use Rattle.rowan_builder.specs.Tables.{kept_term, is_node_by, StandAt}
use Rattle.rowan_builder.proofs.TableLemmas.{IsAhead, IsAhead-first, IsAhead-older, IsAhead-none}
use Rattle.rowan_builder.proofs.TableLemmas.{places-length, older_left, left_before, node_hits}
use Rattle.rowan_builder.proofs.TableLemmas.{node_found, node_absent}
use Rattle.rowan_builder.proofs.node_cache.table.ValueTable.node_number.Goals as goal

pub loop-next-init : goal.loop-next-init
loop-next-init c =
    let s = c.self.inside in
    let all = s.child_numbers.items in
    let kind = c.args.kind.0 in
    let numbers = c.args.numbers.now in
    IsAhead-first c.self.invariant c.args.hash (λ k. is_node_by all kind numbers k (kept_term k))
    (λ k on. node_hits all kind numbers k on ∙ sym c.requires) c.newest-next.result
    c.newest-next.ensures

pub index-kept-requires : goal.index-kept-requires
index-kept-requires c = omega (
  arith,
  (c.loop-next.invariant.stands c.in-Some.number c.in-Some.is).0,
  c.self.inside.values.ok.0,
)

pub older-next-requires : goal.older-next-requires
older-next-requires c = omega (
  arith,
  (c.loop-next.invariant.stands c.in-Some.number c.in-Some.is).0,
  places-length c.self.invariant,
)

pub is_node-requires : goal.is_node-requires
is_node-requires c =
    let ks = c.self.inside.values.items in
    let k : Kept = c.index-kept.result.now in
    let at : slice_get ks c.in-Some.number ≡ Some k =
    slice_get_read ks (length ks) c.in-Some.number k refl
    (c.loop-next.invariant.stands c.in-Some.number c.in-Some.is).0 c.index-kept.ensures in
    omega (
      arith,
      (c.self.invariant.kept c.in-Some.number k at).room,
      ap length c.as_slice-all.ensures.value,
    )

pub returns-then-is_node-clause-some : goal.returns-then-is_node-clause-some
returns-then-is_node-clause-some c = λ ts stand.
    let kind = c.args.kind.0 in
    let numbers = c.args.numbers.now in
    let ks = c.self.inside.values.items in
    let k : Kept = c.index-kept.result.now in
    let at : slice_get ks c.in-Some.number ≡ Some k =
    slice_get_read ks (length ks) c.in-Some.number k refl
    (c.loop-next.invariant.stands c.in-Some.number c.in-Some.is).0 c.index-kept.ensures in
    let on = ap (λ all. is_node_by all kind numbers k (kept_term k))
    (sym c.as_slice-all.ensures.value) ∙ sym c.is_node.ensures ∙ c.if-is_node.true in
    ap (λ us. slice_get us c.in-Some.number) (sym c.self.view_is)
    ∙ node_found c.self.invariant kind numbers ts
    (subst (λ us. StandAt us numbers ts) (sym c.self.view_is) stand) c.in-Some.number k at on

pub loop-next-smaller : goal.loop-next-smaller
loop-next-smaller c =
    let s = c.self.inside in
    let newer = c.older-next.ensures c.args.hash
    (c.loop-next.invariant.stands c.in-Some.number c.in-Some.is).1 in
    subst (λ o. left_before c.older-next.result < left_before o) (sym c.in-Some.is)
    (older_left s.chains.hashes c.in-Some.number c.args.hash c.older-next.result newer)

pub loop-next-preserved : goal.loop-next-preserved
loop-next-preserved c =
    let s = c.self.inside in
    let all = s.child_numbers.items in
    let kind = c.args.kind.0 in
    let numbers = c.args.numbers.now in
    let k : Kept = c.index-kept.result.now in
    let at : slice_get s.values.items c.in-Some.number ≡ Some k =
    slice_get_read s.values.items (length s.values.items) c.in-Some.number k refl
    (c.loop-next.invariant.stands c.in-Some.number c.in-Some.is).0 c.index-kept.ensures in
    let ahead = subst (λ o. IsAhead s.values.items s.chains.hashes c.args.hash o
    (λ k. is_node_by all kind numbers k (kept_term k))) c.in-Some.is c.loop-next.invariant in
    let newer = c.older-next.ensures c.args.hash
    (c.loop-next.invariant.stands c.in-Some.number c.in-Some.is).1 in
    IsAhead-older c.self.invariant c.args.hash (λ k. is_node_by all kind numbers k (kept_term k))
    (λ k on. node_hits all kind numbers k on ∙ sym c.requires) c.in-Some.number k at ahead
    (ap (λ (a : List ℕ). is_node_by a kind numbers k (kept_term k))
    (sym c.as_slice-all.ensures.value) ∙ sym c.is_node.ensures ∙ c.if-is_node.false)
    c.older-next.result newer

pub returns-clause-none : goal.returns-clause-none
returns-clause-none c = λ ts stand none.
    let s = c.self.inside in
    let all = s.child_numbers.items in
    let kind = c.args.kind.0 in
    let numbers = c.args.numbers.now in
    let ahead = subst (λ o. IsAhead s.values.items s.chains.hashes c.args.hash o
    (λ k. is_node_by all kind numbers k (kept_term k))) c.in_default.is c.loop-next.invariant in
    ap (λ us. is_among us (Node (node_of kind ts))) (sym c.self.view_is)
    ∙ node_absent c.self.invariant kind numbers ts
    (subst (λ us. StandAt us numbers ts) (sym c.self.view_is) stand)
    (IsAhead-none s.values.items s.chains.hashes c.args.hash
    (λ k. is_node_by all kind numbers k (kept_term k)) ahead)
