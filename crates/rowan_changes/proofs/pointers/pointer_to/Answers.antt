use Rattle.std.proofs.Common.{◌≡◌, true, false, Some, None, sym, ◌∙◌, ap, subst}
use Rattle.std.specs.Prelude.{not}
use Rattle.std.specs.Option.{option_map}
use Rattle.std.proofs.lemmas.Slice.Eq.{bytes_eq-Decides}
use Rattle.rowan.specs.Pointer.{means_kind, Resolves}
use Rattle.rowan_table.specs.Cursor.{Cursor}
use Rattle.rowan_api.specs.Refs.{node_place, element_place}
use Rattle.rowan_changes.proofs.PointerLemmas.{no-node, not-there}
use Rattle.rowan_changes.proofs.pointers.pointer_to.Goals as goal

pub returns-in_default-clause-ok : goal.returns-in_default-clause-ok
returns-in_default-clause-ok g c =
    no-node g.L.Language.meaning g.L.Kind.PartialEq.eq (node_place c.args.root) c.args.path.now
    c.requires (λ d is.
    (let none = ap (option_map element_place) (sym c.in_default.is)
    ∙ c.element_below.ensures ∙ is in cc))

pub returns-in_default-try_to_node_ref-clause-ok : goal.returns-in_default-try_to_node_ref-clause-ok
returns-in_default-try_to_node_ref-clause-ok g c =
    let own = c.in-Node.node in
    let at = sym c.element_below.ensures
    ∙ ap (option_map element_place) (c.in-Some.is ∙ ap (λ e. Some e) c.in-Node.is) in
    not-there g.L.Language.meaning g.L.Kind.PartialEq.eq (node_place c.args.root) c.args.path.now
    c.requires (node_place own) c.from_ref-pointer.result None at c.from_ref-pointer.ensures
    (subst (Resolves (means_kind g.L.Language.meaning g.L.Kind.PartialEq.eq
    c.from_ref-pointer.result.kind) c.from_ref-pointer.result.range (node_place c.args.root))
    (ap (option_map node_place) c.in_default-try_to_node_ref.is) c.try_to_node_ref.ensures)
    (λ e is. cc)

pub returns-then-ne-clause-ok : goal.returns-then-ne-clause-ok
returns-then-ne-clause-ok g c =
    let own = c.in-Node.node in
    let found = c.in-Some-try_to_node_ref.found in
    let at = sym c.element_below.ensures
    ∙ ap (option_map element_place) (c.in-Some.is ∙ ap (λ e. Some e) c.in-Node.is) in
    not-there g.L.Language.meaning g.L.Kind.PartialEq.eq (node_place c.args.root) c.args.path.now
    c.requires (node_place own) c.from_ref-pointer.result (Some (node_place found)) at
    c.from_ref-pointer.ensures
    (subst (Resolves (means_kind g.L.Language.meaning g.L.Kind.PartialEq.eq
    c.from_ref-pointer.result.kind) c.from_ref-pointer.result.range (node_place c.args.root))
    (ap (option_map node_place) c.in-Some-try_to_node_ref.is) c.try_to_node_ref.ensures)
    (λ e is path.
    (let here : node_place found ≡ e = cc in
    let same : c.as_slice.result.now ≡ c.args.path.now =
    c.as_slice.ensures.value ∙ c.in_ok-to.ensures ∙ ap (λ (x : Cursor). x.path) here ∙ path in
    let equal = (bytes_eq-Decides c.as_slice.result.now c.args.path.now).1 same in
    let both : true ≡ false = sym c.if-ne.true ∙ c.ne.ensures ∙ ap not equal in
    cc))
