use Rattle.std.proofs.Common.{◌≡◌, [], ◌∷◌, length, Some, refl, sym, ◌∙◌, ap, subst, arith}
use Rattle.std.specs.List.{slice_get}
use Rattle.std.proofs.lemmas.Bool.Decides.{Decides-eqb}
use Rattle.std.proofs.lemmas.Option.{slice_get_read}
use Rattle.rowan_builder.specs.declared.node_cache.table.Kept.{Kept}
use Rattle.rowan_green.specs.Term.{term_kind}
use Rattle.rowan_builder.specs.Tables.{kept_term, StandAt}
use Rattle.rowan_builder.proofs.TableLemmas.{parent_within, parent_found}
use Rattle.rowan_builder.proofs.node_cache.table.ValueTable.parent_number.Goals as goal

pub index-node-requires : goal.index-node-requires
index-node-requires c =
    let ks = c.self.inside.values.items in
    let ds = c.deref.result.now in
    let j : Kept = c.in_ok-kept.kept.now in
    let look = c.in_ok-kept.ensures.lookup in
    let at : slice_get ks c.args.child ≡ Some j =
    ap (λ xs. slice_get xs c.args.child) (sym c.deref.ensures.value)
    ∙ slice_get_read ds (length ds) c.args.child j refl look.3.0 look.1 in
    omega (
      arith,
      parent_within c.self.invariant c.args.child c.in_ok-number.number j at
          (sym c.parent.ensures ∙ c.in_ok-number.was),
      c.self.inside.values.ok.0,
    )

pub returns-then-eq : goal.returns-then-eq
returns-then-eq c = λ ts stand.
    let ks = c.self.inside.values.items in
    let ds = c.deref.result.now in
    let number = c.in_ok-number.number in
    let j : Kept = c.in_ok-kept.kept.now in
    let k : Kept = c.index-node.result.now in
    let look = c.in_ok-kept.ensures.lookup in
    let at : slice_get ks c.args.child ≡ Some j =
    ap (λ xs. slice_get xs c.args.child) (sym c.deref.ensures.value)
    ∙ slice_get_read ds (length ds) c.args.child j refl look.3.0 look.1 in
    let parent = sym c.parent.ensures ∙ c.in_ok-number.was in
    let at_parent : slice_get ks number ≡ Some k =
    slice_get_read ks (length ks) number k refl
    (parent_within c.self.invariant c.args.child number j at parent) c.index-node.ensures in
    let same = (Decides-eqb c.kind.result.0 c.args.kind.0).0 (sym c.eq.ensures ∙ c.if-eq.true) in
    let kind : term_kind (kept_term k) ≡ c.args.kind.0 =
    ap term_kind (sym c.as_ref.ensures) ∙ sym c.kind.ensures ∙ same in
    ap (λ us. slice_get us number) (sym c.self.view_is)
    ∙ parent_found c.self.invariant c.args.child number j at parent k c.args.kind.0 ts at_parent
    kind (subst (λ us. StandAt us (c.args.child ∷ []) ts) (sym c.self.view_is) stand)
