use Rattle.std.proofs.Common.{◌≡◌, List, ◌∷◌, [], map, length, refl, sym, ◌∙◌, ap}
use Rattle.rowan_builder.specs.declared.builder.owning.Opening.{Opening}
use Rattle.rowan_green.specs.declared.green.node.GreenChild.{GreenChild}
use Rattle.rowan_green.specs.declared.utility_types.NodeOrToken.TheVariants.{Node, Token}
use Rattle.rowan_green.specs.Term.{NodeTerm}
use Rattle.rowan_green.specs.Waiting.{children_in, elements}
use Rattle.rowan_green.specs.View.{child_term}
use Rattle.rowan_builder.specs.Weave.{weave}
use Rattle.rowan_green.specs.Word.{Symbol, spelled, IsFinished}
use Rattle.rowan_builder.proofs.BuilderLemmas.{only-last}
use Rattle.rowan_builder.proofs.StreamLemmas.{HasTerms-unique}
use Rattle.rowan_builder.proofs.TextLemmas.{text-finished}
use Rattle.rowan_builder.proofs.WeaveLemmas.{HasTerms-weave}
use Rattle.rowan_builder.proofs.builder.owning.OwningBuilder.finish.Goals as goal

-- the builder of a finished word has one element, its node
one_element : (os : List Opening) (cs : List GreenChild) (w : List Symbol) (n : NodeTerm)
    → spelled (weave 0 os (map child_term cs)) ≡ w → IsFinished w n
    → map child_term cs ≡ Node n ∷ []
one_element os cs w n e h =
    HasTerms-unique w (map child_term cs) (Node n ∷ [])
    (HasTerms-weave os (map child_term cs) (map child_term cs) w e refl) h

pub unreachable-requires : goal.unreachable-requires
unreachable-requires c =
    let s = c.self.inside in
    let one = one_element s.parents.items (children_in s.finished.block) c.args.self.word
    c.in_default.field-0.now (ap (λ b. b.word) c.self.view_is) c.in_default.ensures.ok in
    let none : Node c.in_default.field-0.now ∷ [] ≡ [] =
    sym one ∙ c.in_default-pop.ensures.none refl in
    cc

pub unreachable-requires-in-Token : goal.unreachable-requires-in-Token
unreachable-requires-in-Token c =
    let s = c.self.inside in
    let one = one_element s.parents.items (children_in s.finished.block) c.args.self.word
    c.in_default.field-0.now (ap (λ b. b.word) c.self.view_is) c.in_default.ensures.ok in
    let long : length (elements s.finished) ≡ 1 = ap length one in
    let other : Node c.in_default.field-0.now ∷ [] ≡ Token c.in-Token.token ∷ [] =
    sym one ∙ only-last (elements s.finished) (elements c.pop.new.self) (child_term c.in-Some.last)
    (Token c.in-Token.token) long c.in-Some.ensures.some (ap child_term c.in-Token.is) in
    cc

pub returns-clause-ok : goal.returns-clause-ok
returns-clause-ok c =
    let s = c.self.inside in
    let one = one_element s.parents.items (children_in s.finished.block) c.args.self.word
    c.in_default.field-0.now (ap (λ b. b.word) c.self.view_is) c.in_default.ensures.ok in
    let long : length (elements s.finished) ≡ 1 = ap length one in (
      HasTerms-weave s.parents.items (map child_term (children_in s.finished.block))
          (Node c.in-Node.node ∷ []) c.args.self.word (ap (λ b. b.word) c.self.view_is)
          (only-last (elements s.finished) (elements c.pop.new.self) (child_term c.in-Some.last)
          (Node c.in-Node.node) long c.in-Some.ensures.some (ap child_term c.in-Node.is)),
      ap (λ b. b.cache) c.self.view_is,
    )

pub returns-clause-text : goal.returns-clause-text
returns-clause-text c =
    let s = c.self.inside in
    let one = one_element s.parents.items (children_in s.finished.block) c.args.self.word
    c.in_default.field-0.now (ap (λ b. b.word) c.self.view_is) c.in_default.ensures.ok in
    let long : length (elements s.finished) ≡ 1 = ap length one in
    text-finished c.args.self.word c.in-Node.node
    (HasTerms-weave s.parents.items (map child_term (children_in s.finished.block))
    (Node c.in-Node.node ∷ []) c.args.self.word (ap (λ b. b.word) c.self.view_is)
    (only-last (elements s.finished) (elements c.pop.new.self) (child_term c.in-Some.last)
    (Node c.in-Node.node) long c.in-Some.ensures.some (ap child_term c.in-Node.is)))
