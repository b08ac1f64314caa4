use Rattle.std.proofs.Common.{◌≡◌, ◌-◌, ◌++◌, ◌∷◌, [], length, take, drop, refl, sym, ◌∙◌, ap}
use Rattle.std.proofs.Common.{subst, arith}
use Rattle.std.proofs.lemmas.Result.{err_from_is_err_and}
use Rattle.rowan_green.specs.declared.utility_types.NodeOrToken.TheVariants.{Node}
use Rattle.rowan_builder.specs.Cache.{AreNumbered, intern}
use Rattle.rowan_green.specs.Fits.{AreWithin, PassesLimit}
use Rattle.rowan_green.specs.Term.{node_of}
use Rattle.rowan_green.specs.Waiting.{elements, numbers_of}
use Rattle.rowan_builder.proofs.NumberLemmas.{AreNumbered-added, AreNumbered-take}
use Rattle.rowan_builder.proofs.WeaveLemmas.{LastOpen, LastOpen-place, LastOpen-closes}
use Rattle.rowan_builder.proofs.WeaveLemmas.{LastOpen-order, LastOpen-refuses}
use Rattle.rowan_builder.proofs.WeaveLemmas.{not_HasNoneOpen}
use Rattle.rowan_builder.proofs.builder.owning.OwningBuilder.finish_node.Goals as goal

pub node-requires-clause-within : goal.node-requires-clause-within
node-requires-clause-within c =
    let s = c.self.inside in
    let at : LastOpen s.parents.items (elements s.finished) c.in-Some.open =
    record { last = cc; order = c.self.invariant.0 } in
    omega (arith, LastOpen-place _ _ _ at, ap length c.reserve.ensures.same.0)

pub node-requires-clause-numbered : goal.node-requires-clause-numbered
node-requires-clause-numbered c =
    let s = c.self.inside in
    subst (λ ts. AreNumbered s.cache ts (numbers_of c.reserve.new.self))
    (sym c.reserve.ensures.same.0)
    (subst (λ ns. AreNumbered s.cache (elements s.finished) ns)
    (sym c.reserve.ensures.same.1) c.self.invariant.1)

pub returns-in_err-node-clause-err : goal.returns-in_err-node-clause-err
returns-in_err-node-clause-err c =
    let s = c.self.inside in
    let at : LastOpen s.parents.items (elements s.finished) c.in-Some.open =
    record { last = cc; order = c.self.invariant.0 } in
    let p = err_from_is_err_and c.from_residual-in_err-node.result
    c.from_residual-in_err-node.ensures.1 in
    let terms = ap (λ ts. drop c.in-Some.open.first_child ts) c.reserve.ensures.same.0 in
    rw (p.1, p.2) (LastOpen-refuses s.parents.items (elements s.finished) c.in-Some.open
    c.args.self.now.word c.in_err-node.field-0.0 at (ap (λ b. b.word) c.self.view_is)
    (λ m. subst (λ ts. PassesLimit ts c.in_err-node.field-0.0) terms
    (c.in_err-node.ensures.err m)))

pub invariant_of-self-2 : goal.invariant_of-self-2
invariant_of-self-2 c =
    let s = c.self.inside in
    let first = c.in-Some.open.first_child in
    let i = c.in_ok-node.node in
    let at : LastOpen s.parents.items (elements s.finished) c.in-Some.open =
    record { last = cc; order = c.self.invariant.0 } in
    let popped = c.pop.ensures.rest ∙ ap (λ n. take (n - 1) s.parents.items) s.parents.ok.0 in
    let children = ap (λ ts. drop first ts) c.reserve.ensures.same.0 in
    let node = node_of c.in-Some.open.kind.0 (drop first (elements s.finished)) in
    let is_node = c.in_ok-node.ensures.ok
    ∙ ap (λ ts. Node (node_of c.in-Some.open.kind.0 ts)) children in
    let is_interned = c.in_ok-node.ensures.kept
    ∙ ap (λ ts. intern s.cache (Node (node_of c.in-Some.open.kind.0 ts))) children in
    let placed : elements c.push.new.self ≡ take first (elements s.finished) ++ i.element ∷ [] =
    c.push.ensures.elements ∙ ap (λ ts. ts ++ i.element ∷ [])
    (c.in_ok-node.ensures.rest.terms ∙ ap (λ ts. take first ts) c.reserve.ensures.same.0) in
    let numbers : numbers_of c.push.new.self ≡ take first (numbers_of s.finished) ++ i.number ∷ [] =
    c.push.ensures.numbers ∙ ap (λ ns. ns ++ i.number ∷ [])
    (c.in_ok-node.ensures.rest.numbers ∙ ap (λ ns. take first ns) c.reserve.ensures.same.1) in
    let terms = placed ∙ ap (λ t. take first (elements s.finished) ++ t ∷ []) is_node in (
      LastOpen-order s.parents.items (elements s.finished) c.in-Some.open c.pop.new.self.items
          (elements c.push.new.self) node at popped terms,
      AreNumbered-added s.cache c.node.new.self (Node node) (take first (elements s.finished))
          (elements c.push.new.self) (take first (numbers_of s.finished))
          (numbers_of c.push.new.self) i
          (AreNumbered-take s.cache first (elements s.finished) (numbers_of s.finished)
          c.self.invariant.1) is_interned c.in_ok-node.ensures.number placed numbers,
    )

pub returns-clause-ok : goal.returns-clause-ok
returns-clause-ok c =
    let s = c.self.inside in
    let first = c.in-Some.open.first_child in
    let i = c.in_ok-node.node in
    let at : LastOpen s.parents.items (elements s.finished) c.in-Some.open =
    record { last = cc; order = c.self.invariant.0 } in
    let popped = c.pop.ensures.rest ∙ ap (λ n. take (n - 1) s.parents.items) s.parents.ok.0 in
    let children = ap (λ ts. drop first ts) c.reserve.ensures.same.0 in
    let node = node_of c.in-Some.open.kind.0 (drop first (elements s.finished)) in
    let is_node = c.in_ok-node.ensures.ok
    ∙ ap (λ ts. Node (node_of c.in-Some.open.kind.0 ts)) children in
    let terms : elements c.push.new.self ≡ take first (elements s.finished) ++ Node node ∷ [] =
    c.push.ensures.elements ∙ ap (λ ts. ts ++ i.element ∷ [])
    (c.in_ok-node.ensures.rest.terms ∙ ap (λ ts. take first ts) c.reserve.ensures.same.0)
    ∙ ap (λ t. take first (elements s.finished) ++ t ∷ []) is_node in
    record {
      node = node;
      closes = LastOpen-closes s.parents.items (elements s.finished) c.in-Some.open
          c.pop.new.self.items (elements c.push.new.self) node c.args.self.now.word at
          (ap (λ b. b.word) c.self.view_is) popped terms refl
          (subst AreWithin children c.in_ok-node.ensures.within);
      interns = c.in_ok-node.ensures.kept
          ∙ ap (λ ts. intern s.cache (Node (node_of c.in-Some.open.kind.0 ts))) children
          ∙ ap (λ b. intern b.cache (Node node)) c.self.view_is;
    }

pub returns-in_err-reserve-clause-nothing_open : goal.returns-in_err-reserve-clause-nothing_open
returns-in_err-reserve-clause-nothing_open c = λ none.
    let s = c.self.inside in
    let at : LastOpen s.parents.items (elements s.finished) c.in-Some.open =
    record { last = cc; order = c.self.invariant.0 } in
    absurd (not_HasNoneOpen s.parents.items (elements s.finished) c.in-Some.open
    c.args.self.now.word at (ap (λ b. b.word) c.self.view_is) none)

pub returns-in_err-node-clause-nothing_open : goal.returns-in_err-node-clause-nothing_open
returns-in_err-node-clause-nothing_open c = λ none.
    let s = c.self.inside in
    let at : LastOpen s.parents.items (elements s.finished) c.in-Some.open =
    record { last = cc; order = c.self.invariant.0 } in
    absurd (not_HasNoneOpen s.parents.items (elements s.finished) c.in-Some.open
    c.args.self.now.word at (ap (λ b. b.word) c.self.view_is) none)

pub returns-clause-nothing_open : goal.returns-clause-nothing_open
returns-clause-nothing_open c = λ none.
    let s = c.self.inside in
    let at : LastOpen s.parents.items (elements s.finished) c.in-Some.open =
    record { last = cc; order = c.self.invariant.0 } in
    absurd (not_HasNoneOpen s.parents.items (elements s.finished) c.in-Some.open
    c.args.self.now.word at (ap (λ b. b.word) c.self.view_is) none)
