use Rattle.std.proofs.Common.{◌≡◌, ℕ, ◌<◌, List, [], ◌∷◌, ◌++◌, map, length, get_or, Some, refl}
use Rattle.std.proofs.Common.{sym}
use Rattle.std.proofs.Common.{◌∙◌, ap, subst, false, arith, length-append}
use Rattle.std.specs.List.{slice_get}
use Rattle.std.proofs.Math.ListN.{set}
use Rattle.std.proofs.lemmas.List.{length-map}
use Rattle.std.proofs.lemmas.Option.{slice_get_read}
use Rattle.rowan_builder.specs.declared.node_cache.table.Kept.{Kept}
use Rattle.rowan_green.specs.Term.{Term}
use Rattle.rowan_builder.specs.Chains.{ChainsValue}
use Rattle.rowan_builder.specs.Cache.{is_among}
use Rattle.rowan_terms.specs.Path.{term_children}
use Rattle.rowan_builder.specs.Tables.{kept_of, kept_term, kept_terms, child_numbers, with_parent}
use Rattle.rowan_builder.specs.Tables.{StandAt, IsIndexed, KeepsLimits, key_hash}
use Rattle.rowan_builder.proofs.NumberLemmas.{StandAt-only, only_number}
use Rattle.rowan_builder.proofs.TableLemmas.{IsIndexed-push, IsIndexed-unchanged, IsIndexed-parent}
use Rattle.rowan_builder.proofs.TableLemmas.{linked_terms, grown_terms, new_over, places-length}
use Rattle.rowan_builder.proofs.node_cache.table.ValueTable.keep.Goals as goal

-- ---- the only child of a value that is kept

only_within : (ks : List Kept) (ns : List ℕ) (ts : List Term) → StandAt (kept_terms ks) ns ts
    → length ns ≡ 1 → get_or ns 0 0 < length ks
only_within ks ns ts stand one =
    omega (
      arith,
      StandAt-only (kept_terms ks) (get_or ns 0 0) ts
          (subst (λ ms. StandAt (kept_terms ks) ms ts) (only_number ns one) stand),
      length-map ks kept_term,
    )

-- the child is this value, and stands alone below the value with this number
record IsOnlyChild (ks : List Kept) (all : List ℕ) (child number : ℕ) (k : Kept) : Type 0 where
  at : slice_get ks child ≡ Some k
  over : slice_get (map (child_numbers all) ks) number ≡ Some (child ∷ [])

module _ {ks : List Kept} {all : List ℕ} {chains : ChainsValue} (h : IsIndexed ks all chains)
    (hash : ℕ) (element : Term) (numbers : List ℕ) (chains' : ChainsValue)
    (fresh : is_among (kept_terms ks) element ≡ false) (fits : KeepsLimits element)
    (stand : StandAt (kept_terms ks) numbers (term_children element))
    (is_hash : hash ≡ key_hash element numbers)
    (pushed : chains'.hashes ≡ chains.hashes ++ hash ∷ []) where
  only_child : length numbers ≡ 1
      → (vs : List Kept) → vs ≡ ks ++ kept_of (length all) element ∷ []
      → (number : ℕ) → number ≡ length chains.hashes
      → (k : Kept) → k ≡ get_or vs (get_or numbers 0 0) k
      → IsOnlyChild (ks ++ kept_of (length all) element ∷ []) (all ++ numbers) (get_or numbers 0 0)
      number k
  only_child one vs grown number last k read =
      let child = get_or numbers 0 0 in
      let new = kept_of (length all) element in
      let within = only_within ks numbers (term_children element) stand one in
      record {
        at = ap (λ us. slice_get us child) (sym grown)
            ∙ slice_get_read vs (length vs) child k refl
            (omega (arith, within, ap length grown, length-append ks (new ∷ []))) read;
        over = ap (slice_get (map (child_numbers (all ++ numbers)) (ks ++ new ∷ [])))
            (last ∙ places-length h)
            ∙ new_over h hash element numbers chains' fresh fits stand is_hash pushed child
            (only_number numbers one);
      }

pub invariant_of-self-in_err-number : goal.invariant_of-self-in_err-number
invariant_of-self-in_err-number c =
    rw (c.in_ok-reserve.ensures.items, c.in_ok-reserve-2.ensures.items)
    (IsIndexed-unchanged c.self.invariant c.push.new.self c.in_err-number.ensures.unchanged)

pub index_mut-requires : goal.index_mut-requires
index_mut-requires c =
    let ks = c.self.inside.values.items in
    let stand = subst (λ ts. StandAt ts c.args.numbers.now (term_children c.args.element))
    (sym c.self.view_is) c.requires.children in
    let within = only_within ks c.args.numbers.now (term_children c.args.element) stand
    c.if-numbers-eq1.true in
    omega (
      arith,
      within,
      ap length c.in_ok-reserve.ensures.items,
      ap length c.in_ok-push.ensures.items,
      length-append c.reserve.new.self.items (c.new.result ∷ []),
      c.push-2.new.self.ok.0,
    )

pub invariant_of-self-then-numbers-eq1 : goal.invariant_of-self-then-numbers-eq1
invariant_of-self-then-numbers-eq1 c =
    let s = c.self.inside in
    let ks = s.values.items in
    let fresh = subst (λ ts. is_among ts c.args.element ≡ false) (sym c.self.view_is)
    c.requires.fresh in
    let stand = subst (λ ts. StandAt ts c.args.numbers.now (term_children c.args.element))
    (sym c.self.view_is) c.requires.children in
    let first : c.in-Ok.first_child ≡ length s.child_numbers.items =
    omega (arith, c.in-Ok.ensures.1, c.len.ensures, s.child_numbers.ok.0) in
    let kept : c.new.result ≡ kept_of (length s.child_numbers.items) c.args.element =
    c.new.ensures ∙ ap (λ n. kept_of n c.args.element) first in
    let pushed : List Kept = ks ++ kept_of (length s.child_numbers.items) c.args.element ∷ [] in
    let grown : c.push-2.new.self.items ≡ pushed =
    c.in_ok-push.ensures.items
    ∙ ap (λ vs. vs ++ c.new.result ∷ []) c.in_ok-reserve.ensures.items
    ∙ ap (λ (k : Kept). ks ++ k ∷ []) kept in
    let listed : c.extend_from_slice.new.self.items ≡ s.child_numbers.items ++ c.args.numbers.now =
    c.in_ok-extend_from_slice.ensures.items
    ∙ ap (λ ns. ns ++ c.args.numbers.now) c.in_ok-reserve-2.ensures.items in
    let indexed = IsIndexed-push c.self.invariant c.args.hash c.args.element c.args.numbers.now
    c.push.new.self fresh c.requires.fits stand c.requires.hash c.in_ok-number.ensures.ok in
    let child = get_or c.args.numbers.now 0 0 in
    let number = c.in_ok-number.number in
    let k : Kept = c.index_mut.result.now in
    let only = only_child c.self.invariant c.args.hash c.args.element c.args.numbers.now
    c.push.new.self fresh c.requires.fits stand c.requires.hash c.in_ok-number.ensures.ok
    c.if-numbers-eq1.true c.push-2.new.self.items grown number c.in_ok-number.ensures.place k
    c.index_mut.ensures.value in
    subst (λ (j : Kept). IsIndexed (set c.push-2.new.self.items child j)
    c.extend_from_slice.new.self.items c.push.new.self) (sym c.set_parent.ensures)
    (subst (λ vs. IsIndexed (set vs child (with_parent number k)) c.extend_from_slice.new.self.items
    c.push.new.self) (sym grown)
    (subst (λ ns. IsIndexed (set pushed child (with_parent number k)) ns c.push.new.self)
    (sym listed)
    (IsIndexed-parent indexed child number k only.at only.over)))

pub invariant_of-self-else-numbers-eq1 : goal.invariant_of-self-else-numbers-eq1
invariant_of-self-else-numbers-eq1 c =
    let s = c.self.inside in
    let ks = s.values.items in
    let fresh = subst (λ ts. is_among ts c.args.element ≡ false) (sym c.self.view_is)
    c.requires.fresh in
    let stand = subst (λ ts. StandAt ts c.args.numbers.now (term_children c.args.element))
    (sym c.self.view_is) c.requires.children in
    let first : c.in-Ok.first_child ≡ length s.child_numbers.items =
    omega (arith, c.in-Ok.ensures.1, c.len.ensures, s.child_numbers.ok.0) in
    let kept : c.new.result ≡ kept_of (length s.child_numbers.items) c.args.element =
    c.new.ensures ∙ ap (λ n. kept_of n c.args.element) first in
    let pushed : List Kept = ks ++ kept_of (length s.child_numbers.items) c.args.element ∷ [] in
    let grown : c.push-2.new.self.items ≡ pushed =
    c.in_ok-push.ensures.items
    ∙ ap (λ vs. vs ++ c.new.result ∷ []) c.in_ok-reserve.ensures.items
    ∙ ap (λ (k : Kept). ks ++ k ∷ []) kept in
    let listed : c.extend_from_slice.new.self.items ≡ s.child_numbers.items ++ c.args.numbers.now =
    c.in_ok-extend_from_slice.ensures.items
    ∙ ap (λ ns. ns ++ c.args.numbers.now) c.in_ok-reserve-2.ensures.items in
    let indexed = IsIndexed-push c.self.invariant c.args.hash c.args.element c.args.numbers.now
    c.push.new.self fresh c.requires.fits stand c.requires.hash c.in_ok-number.ensures.ok in
    subst (λ vs. IsIndexed vs c.extend_from_slice.new.self.items c.push.new.self) (sym grown)
    (subst (λ ns. IsIndexed pushed ns c.push.new.self) (sym listed) indexed)

pub returns-then-numbers-eq1-clause-ok : goal.returns-then-numbers-eq1-clause-ok
returns-then-numbers-eq1-clause-ok c =
    let s = c.self.inside in
    let ks = s.values.items in
    let fresh = subst (λ ts. is_among ts c.args.element ≡ false) (sym c.self.view_is)
    c.requires.fresh in
    let stand = subst (λ ts. StandAt ts c.args.numbers.now (term_children c.args.element))
    (sym c.self.view_is) c.requires.children in
    let first : c.in-Ok.first_child ≡ length s.child_numbers.items =
    omega (arith, c.in-Ok.ensures.1, c.len.ensures, s.child_numbers.ok.0) in
    let kept : c.new.result ≡ kept_of (length s.child_numbers.items) c.args.element =
    c.new.ensures ∙ ap (λ n. kept_of n c.args.element) first in
    let pushed : List Kept = ks ++ kept_of (length s.child_numbers.items) c.args.element ∷ [] in
    let grown : c.push-2.new.self.items ≡ pushed =
    c.in_ok-push.ensures.items
    ∙ ap (λ vs. vs ++ c.new.result ∷ []) c.in_ok-reserve.ensures.items
    ∙ ap (λ (k : Kept). ks ++ k ∷ []) kept in
    let listed : c.extend_from_slice.new.self.items ≡ s.child_numbers.items ++ c.args.numbers.now =
    c.in_ok-extend_from_slice.ensures.items
    ∙ ap (λ ns. ns ++ c.args.numbers.now) c.in_ok-reserve-2.ensures.items in
    let indexed = IsIndexed-push c.self.invariant c.args.hash c.args.element c.args.numbers.now
    c.push.new.self fresh c.requires.fits stand c.requires.hash c.in_ok-number.ensures.ok in
    let child = get_or c.args.numbers.now 0 0 in
    let number = c.in_ok-number.number in
    let k : Kept = c.index_mut.result.now in
    let only = only_child c.self.invariant c.args.hash c.args.element c.args.numbers.now
    c.push.new.self fresh c.requires.fits stand c.requires.hash c.in_ok-number.ensures.ok
    c.if-numbers-eq1.true c.push-2.new.self.items grown number c.in_ok-number.ensures.place k
    c.index_mut.ensures.value in
    ap (λ (j : Kept). kept_terms (set c.push-2.new.self.items child j)) c.set_parent.ensures
    ∙ ap (λ vs. kept_terms (set vs child (with_parent number k))) grown
    ∙ linked_terms indexed child number k only.at only.over
    ∙ grown_terms c.self.invariant c.args.hash c.args.element c.args.numbers.now c.push.new.self
    fresh c.requires.fits stand c.requires.hash c.in_ok-number.ensures.ok
    ∙ ap (λ us. us ++ c.args.element ∷ []) c.self.view_is
