use Rattle.std.proofs.Common.{◌≡◌, ℕ, Bool, Option, List, [], ◌∷◌, ◌++◌, Some, length, drop, sym}
use Rattle.std.proofs.Common.{◌∙◌, ap, subst, refl, arith}
use Rattle.std.specs.List.{slice_get}
use Rattle.std.proofs.lemmas.Option.{slice_get_within, same_Some}
use Rattle.rowan_green.specs.declared.green.waiting.Interned.{Interned}
use Rattle.rowan_green.specs.declared.utility_types.NodeOrToken.TheVariants.{Node}
use Rattle.rowan_green.specs.declared.green.waiting.FinishedElements.{FinishedElements}
use Rattle.rowan_green.specs.Term.{NodeTerm, Term, node_of, node_children}
use Rattle.rowan_green.specs.Fits.{AreWithin}
use Rattle.rowan_builder.specs.Cache.{CacheValue, intern, is_among, is_eligible, IsNumbered}
use Rattle.rowan_builder.specs.Cache.{AreNumbered, ListsNumbers, gets_number}
use Rattle.rowan_builder.specs.Tables.{StandAt, IsCounted}
use Rattle.rowan_builder.specs.Bytes.{AreOfBytes}
use Rattle.rowan_green.specs.Waiting.{elements, numbers_of}
use Rattle.rowan_terms.proofs.Lists.{slice_get-last}
use Rattle.rowan_builder.proofs.CacheLemmas.{intern-known, kept_is_eligible}
use Rattle.rowan_builder.proofs.CacheLemmas.{intern-ineligible, intern-fresh, first_seen-fresh}
use Rattle.rowan_builder.proofs.NumberLemmas.{AreNumbered-drop, AreNumbered-length, is_eligible-kept}
use Rattle.rowan_builder.proofs.NumberLemmas.{StandAt-elements, IsNumbered-none, IsNumbered-at}
use Rattle.rowan_builder.proofs.CountLemmas.{count_tokens-push}
use Rattle.rowan_builder.proofs.ByteLemmas.{AreOfBytes-grown}
use Rattle.rowan_green.proofs.Terms.{terms-forest}
use Rattle.rowan_builder.proofs.node_cache.NodeCache.node.Goals as goal

-- ---- the elements from a place on, and what was written down of their numbers

AreNumbered-from : (v : CacheValue) {given : List (Option ℕ)} (first : ℕ) (w : FinishedElements)
    → AreNumbered v (elements w) (numbers_of w) → given ≡ drop first (numbers_of w)
    → AreNumbered v (drop first (elements w)) given
AreNumbered-from v first w all so =
    subst (AreNumbered v (drop first (elements w))) (sym so)
    (AreNumbered-drop v first (elements w) (numbers_of w) all)

-- the node over them is eligible where all their numbers were written down, and nowhere else
is_eligible-written : {cache v : CacheValue} {given : List (Option ℕ)} {kept : Bool}
    (kind first : ℕ) (w : FinishedElements) → cache ≡ v
    → AreNumbered v (elements w) (numbers_of w) → given ≡ drop first (numbers_of w)
    → kept ≡ gets_number cache.limit given
    → is_eligible cache.limit (Node (node_of kind (drop first (elements w)))) ≡ kept
is_eligible-written {cache = cache} {v = v} {given = given} {kept = kept} kind first w is all so
    wrote =
    let ts = drop first (elements w) in
    let numbered = subst (λ u. AreNumbered u ts given) (sym is)
    (AreNumbered-from v first w all so) in
    is_eligible-kept cache kind ts given kept numbered wrote

StandAt-written : {cache v : CacheValue} {given : List (Option ℕ)} {ns slice : List ℕ}
    (first : ℕ) (w : FinishedElements) → cache ≡ v
    → AreNumbered v (elements w) (numbers_of w) → given ≡ drop first (numbers_of w)
    → ListsNumbers given ns → slice ≡ ns → StandAt cache.seen slice (drop first (elements w))
StandAt-written {cache = cache} {v = v} {given = given} {ns = ns} first w is all so wrote same =
    let ts = drop first (elements w) in
    let numbered = subst (λ u. AreNumbered u ts given) (sym is)
    (AreNumbered-from v first w all so) in
    subst (λ ms. StandAt cache.seen ms ts) (sym same)
    (StandAt-elements cache ts given ns numbered wrote)

pub numbers_from-children-requires : goal.numbers_from-children-requires
numbers_from-children-requires c =
    omega (
      arith,
      c.requires.within,
      AreNumbered-length c.args.self.now (elements c.args.waiting.now)
          (numbers_of c.args.waiting.now) c.requires.numbered,
    )

-- ---- a node over one token, which is the token's newest parent

pub share_at-requires : goal.share_at-requires
share_at-requires c =
    let ts = drop c.args.first (elements c.args.waiting.now) in
    let numbered = AreNumbered-from c.args.self.now c.args.first c.args.waiting.now
    c.requires.numbered
    c.numbers_from-children.ensures in
    let stands = c.in-Some.ensures ts numbered in
    omega (
      arith,
      slice_get_within c.args.self.now.seen c.in-Some.number
          (Node (node_of c.args.kind.0 ts)) stands,
      ap (λ v. length v.seen) c.self.view_is,
    )

pub returns-in-Some : goal.returns-in-Some
returns-in-Some c =
    let s = c.self.inside in
    let cache : CacheValue = record { limit = s.limit; seen = s.table } in
    let ts = drop c.args.first (elements c.args.waiting.now) in
    let t : Term = Node (node_of c.args.kind.0 ts) in
    let i : Interned = c.in_ok-found.found in
    let numbered = AreNumbered-from c.args.self.now c.args.first c.args.waiting.now
    c.requires.numbered
    c.numbers_from-children.ensures in
    let is_there = c.in-Some.ensures ts numbered in
    let stands : slice_get s.table c.in-Some.number ≡ Some t =
    ap (λ v. slice_get v.seen c.in-Some.number) c.self.view_is ∙ is_there in
    let fit = kept_is_eligible s.limit s.table c.in-Some.number t c.self.invariant.0.first stands in
    let is_t : i.element ≡ t = same_Some i.element t (sym c.in_ok-found.ensures.at.1 ∙ stands) in
    record {
      ok = is_t;
      within = subst AreWithin (terms-forest ts) (c.share_at.ensures.fits t stands);
      number = subst (λ v. IsNumbered v i) c.self.view_is
          (IsNumbered-at cache c.in-Some.number t i fit stands is_t c.in_ok-found.ensures.at.0);
      err = _;
      kept = intern-known c.args.self.now c.in-Some.number t is_there;
      unchanged = _;
      rest = c.truncate.ensures;
      all = _;
    }

-- ---- a node that is not eligible

pub returns-then-not-branch-clause-number : goal.returns-then-not-branch-clause-number
returns-then-not-branch-clause-number c =
    let cache : CacheValue = record { limit = c.self.inside.limit; seen = c.self.inside.table } in
    let ts = drop c.args.first (elements c.args.waiting.now) in
    let eligible = is_eligible-written c.args.kind.0 c.args.first c.args.waiting.now c.self.view_is
    c.requires.numbered c.numbers_from-children.ensures c.in_ok-write_numbers.ensures.kept in
    let no_fit = eligible ∙ c.if-not-branch.true in
    IsNumbered-none cache (Node (node_of c.args.kind.0 ts)) (Node c.in_ok-node.node)
    (ap (λ n. Node n) c.in_ok-node.ensures.ok) no_fit

pub returns-then-not-branch-clause-kept : goal.returns-then-not-branch-clause-kept
returns-then-not-branch-clause-kept c =
    let cache : CacheValue = record { limit = c.self.inside.limit; seen = c.self.inside.table } in
    let ts = drop c.args.first (elements c.args.waiting.now) in
    let t : Term = Node (node_of c.args.kind.0 ts) in
    let eligible = is_eligible-written c.args.kind.0 c.args.first c.args.waiting.now c.self.view_is
    c.requires.numbered c.numbers_from-children.ensures c.in_ok-write_numbers.ensures.kept in
    let no_fit = eligible ∙ c.if-not-branch.true in
    intern-ineligible cache t no_fit ∙ ap (λ v. intern v t) c.self.view_is

-- ---- a node that the cache keeps

pub share_at-requires-in-Some-node_number : goal.share_at-requires-in-Some-node_number
share_at-requires-in-Some-node_number c =
    let s = c.self.inside in
    let cache : CacheValue = record { limit = s.limit; seen = s.table } in
    let ts = drop c.args.first (elements c.args.waiting.now) in
    let stand = StandAt-written c.args.first c.args.waiting.now c.self.view_is c.requires.numbered
    c.numbers_from-children.ensures (c.in_ok-write_numbers.ensures.numbers c.if-not-branch.false)
    c.as_slice-numbers.ensures.value in
    slice_get_within s.table c.in-Some-node_number.number _
    (c.in-Some-node_number.ensures.some ts stand)

pub returns-in-Some-node_number : goal.returns-in-Some-node_number
returns-in-Some-node_number c =
    let s = c.self.inside in
    let cache : CacheValue = record { limit = s.limit; seen = s.table } in
    let ts = drop c.args.first (elements c.args.waiting.now) in
    let t : Term = Node (node_of c.args.kind.0 ts) in
    let eligible = is_eligible-written c.args.kind.0 c.args.first c.args.waiting.now c.self.view_is
    c.requires.numbered c.numbers_from-children.ensures c.in_ok-write_numbers.ensures.kept in
    let fit = eligible ∙ c.if-not-branch.false in
    let stand = StandAt-written c.args.first c.args.waiting.now c.self.view_is c.requires.numbered
    c.numbers_from-children.ensures (c.in_ok-write_numbers.ensures.numbers c.if-not-branch.false)
    c.as_slice-numbers.ensures.value in
    let stands = c.in-Some-node_number.ensures.some ts stand in
    let i : Interned = c.in_ok-found-2.found in
    let is_t : i.element ≡ t = same_Some i.element t (sym c.in_ok-found-2.ensures.at.1 ∙ stands) in
    record {
      ok = is_t;
      within = subst AreWithin (terms-forest ts)
          (c.share_at-in-Some-node_number.ensures.fits t stands);
      number = IsNumbered-at cache c.in-Some-node_number.number t i fit stands is_t
          c.in_ok-found-2.ensures.at.0;
      err = _;
      kept = intern-known cache c.in-Some-node_number.number t stands
          ∙ ap (λ v. intern v t) c.self.view_is;
      unchanged = _;
      rest = c.truncate-in-Some-node_number.ensures;
      all = _;
    }

-- ---- a node that is new

pub keep-requires-clause-fresh : goal.keep-requires-clause-fresh
keep-requires-clause-fresh c =
    let s = c.self.inside in
    let cache : CacheValue = record { limit = s.limit; seen = s.table } in
    let ts = drop c.args.first (elements c.args.waiting.now) in
    let stand = StandAt-written c.args.first c.args.waiting.now c.self.view_is c.requires.numbered
    c.numbers_from-children.ensures (c.in_ok-write_numbers.ensures.numbers c.if-not-branch.false)
    c.as_slice-numbers.ensures.value in
    let made : c.in_ok-clone.field-0 ≡ node_of c.args.kind.0 ts =
    c.in_ok-clone.ensures.cases ∙ c.in_ok-node-2.ensures.ok
    ∙ ap (node_of c.args.kind.0) c.elements_from.ensures in
    let none = c.in_default-node_number.ensures.none ts stand refl in
    ap (λ (n : NodeTerm). is_among s.table (Node n)) made ∙ none

pub keep-requires-clause-fits : goal.keep-requires-clause-fits
keep-requires-clause-fits c =
    let ts = drop c.args.first (elements c.args.waiting.now) in
    let made : c.in_ok-clone.field-0 ≡ node_of c.args.kind.0 ts =
    c.in_ok-clone.ensures.cases ∙ c.in_ok-node-2.ensures.ok
    ∙ ap (node_of c.args.kind.0) c.elements_from.ensures in
    let children : node_children c.in_ok-clone.field-0 ≡ ts =
    ap node_children made ∙ terms-forest ts in
    subst AreWithin (sym children)
    (subst AreWithin c.elements_from.ensures c.in_ok-node-2.ensures.within)

pub keep-requires-clause-children : goal.keep-requires-clause-children
keep-requires-clause-children c =
    let s = c.self.inside in
    let cache : CacheValue = record { limit = s.limit; seen = s.table } in
    let ts = drop c.args.first (elements c.args.waiting.now) in
    let stand = StandAt-written c.args.first c.args.waiting.now c.self.view_is c.requires.numbered
    c.numbers_from-children.ensures (c.in_ok-write_numbers.ensures.numbers c.if-not-branch.false)
    c.as_slice.ensures.value in
    let made : c.in_ok-clone.field-0 ≡ node_of c.args.kind.0 ts =
    c.in_ok-clone.ensures.cases ∙ c.in_ok-node-2.ensures.ok
    ∙ ap (node_of c.args.kind.0) c.elements_from.ensures in
    let children : node_children c.in_ok-clone.field-0 ≡ ts =
    ap node_children made ∙ terms-forest ts in
    subst (λ us. StandAt s.table c.as_slice.result.now us) (sym children) stand

pub invariant_of-self-2 : goal.invariant_of-self-2
invariant_of-self-2 c =
    let s = c.self.inside in
    let cache : CacheValue = record { limit = s.limit; seen = s.table } in
    let ts = drop c.args.first (elements c.args.waiting.now) in
    let t : Term = Node (node_of c.args.kind.0 ts) in
    let eligible = is_eligible-written c.args.kind.0 c.args.first c.args.waiting.now c.self.view_is
    c.requires.numbered c.numbers_from-children.ensures c.in_ok-write_numbers.ensures.kept in
    let fit = eligible ∙ c.if-not-branch.false in
    let stand = StandAt-written c.args.first c.args.waiting.now c.self.view_is c.requires.numbered
    c.numbers_from-children.ensures (c.in_ok-write_numbers.ensures.numbers c.if-not-branch.false)
    c.as_slice-numbers.ensures.value in
    let fresh = c.in_default-node_number.ensures.none ts stand refl in
    let made = c.in_ok-clone.ensures.cases ∙ c.in_ok-node-2.ensures.ok
    ∙ ap (node_of c.args.kind.0) c.elements_from.ensures in
    let grown : c.keep.new.self ≡ s.table ++ t ∷ [] =
    c.in_ok-number.ensures.ok ∙ ap (λ (n : NodeTerm). s.table ++ Node n ∷ []) made in (
      subst (λ us. IsCounted s.limit us s.token_count) (sym grown) (record {
        first = first_seen-fresh s.limit s.table t c.self.invariant.0.first fit fresh;
        counted = omega (arith, c.self.invariant.0.counted, count_tokens-push s.table t);
      }),
      subst (λ us. AreOfBytes us s.bytes.newest.items) (sym grown)
          (AreOfBytes-grown s.table t s.bytes.newest.items c.self.invariant.1),
    )

pub returns : goal.returns
returns c =
    let s = c.self.inside in
    let cache : CacheValue = record { limit = s.limit; seen = s.table } in
    let ts = drop c.args.first (elements c.args.waiting.now) in
    let t : Term = Node (node_of c.args.kind.0 ts) in
    let eligible = is_eligible-written c.args.kind.0 c.args.first c.args.waiting.now c.self.view_is
    c.requires.numbered c.numbers_from-children.ensures c.in_ok-write_numbers.ensures.kept in
    let fit = eligible ∙ c.if-not-branch.false in
    let stand = StandAt-written c.args.first c.args.waiting.now c.self.view_is c.requires.numbered
    c.numbers_from-children.ensures (c.in_ok-write_numbers.ensures.numbers c.if-not-branch.false)
    c.as_slice-numbers.ensures.value in
    let fresh = c.in_default-node_number.ensures.none ts stand refl in
    let is_node = c.in_ok-node-2.ensures.ok ∙ ap (node_of c.args.kind.0) c.elements_from.ensures in
    let grown : c.keep.new.self ≡ s.table ++ t ∷ [] =
    c.in_ok-number.ensures.ok
    ∙ ap (λ (n : NodeTerm). s.table ++ Node n ∷ [])
    (c.in_ok-clone.ensures.cases ∙ is_node) in
    let number = c.in_ok-number.number in
    let stands : slice_get c.keep.new.self number ≡ Some t =
    ap (λ us. slice_get us number) grown
    ∙ ap (λ n. slice_get (s.table ++ t ∷ []) n) c.in_ok-number.ensures.number
    ∙ slice_get-last s.table t in
    let made = ap (λ n. Node n) is_node in
    record {
      ok = made;
      within = subst AreWithin c.elements_from.ensures c.in_ok-node-2.ensures.within;
      number = IsNumbered-at (record { limit = s.limit; seen = c.keep.new.self }) number t
          (record { number = Some number; element = Node c.in_ok-node-2.node }) fit stands made
          refl;
      err = _;
      kept = ap (λ (us : List Term). record { limit = s.limit; seen = us }) grown
          ∙ intern-fresh cache t fit fresh ∙ ap (λ v. intern v t) c.self.view_is;
      unchanged = _;
      rest = c.truncate-2.ensures;
      all = _;
    }
