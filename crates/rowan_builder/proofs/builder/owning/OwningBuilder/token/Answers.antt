use Rattle.std.proofs.Common.{◌≡◌, ◌++◌, ◌∷◌, [], length, ◌∙◌, ap, arith, length-append}
use Rattle.rowan_green.specs.declared.utility_types.NodeOrToken.TheVariants.{Token}
use Rattle.rowan_builder.specs.Cache.{intern}
use Rattle.rowan_green.specs.Term.{TokenTerm}
use Rattle.rowan_green.specs.Waiting.{elements, numbers_of}
use Rattle.rowan_green.specs.Word.{Leaf, spelled}
use Rattle.rowan_builder.specs.Weave.{weave}
use Rattle.rowan_builder.proofs.BuilderLemmas.{same_value}
use Rattle.rowan_builder.proofs.NumberLemmas.{AreNumbered-added}
use Rattle.rowan_builder.proofs.WeaveLemmas.{spelled-token, AreInOrder-grow}
use Rattle.rowan_builder.proofs.builder.owning.OwningBuilder.token.Goals as goal

pub invariant_of-self-2 : goal.invariant_of-self-2
invariant_of-self-2 c =
    let s = c.self.inside in
    let t : TokenTerm = record { kind = c.args.kind.0; text = c.args.text.now } in
    let i = c.in_ok-token.token in
    let terms : elements c.push.new.self ≡ elements s.finished ++ i.element ∷ [] =
    c.push.ensures.elements ∙ ap (λ ts. ts ++ i.element ∷ []) c.reserve.ensures.same.0 in
    let numbers : numbers_of c.push.new.self ≡ numbers_of s.finished ++ i.number ∷ [] =
    c.push.ensures.numbers ∙ ap (λ ns. ns ++ i.number ∷ []) c.reserve.ensures.same.1 in (
      AreInOrder-grow 0 s.parents.items (length (elements s.finished)) _ c.self.invariant.0
          (omega (arith, ap length terms, length-append (elements s.finished) (i.element ∷ []))),
      AreNumbered-added s.cache c.token.new.self (Token t) (elements s.finished)
          (elements c.push.new.self) (numbers_of s.finished) (numbers_of c.push.new.self) i
          c.self.invariant.1 c.in_ok-token.ensures.kept c.in_ok-token.ensures.number terms numbers,
    )

pub returns-clause-ok : goal.returns-clause-ok
returns-clause-ok c =
    let s = c.self.inside in
    let t : TokenTerm = record { kind = c.args.kind.0; text = c.args.text.now } in
    let i = c.in_ok-token.token in
    let terms : elements c.push.new.self ≡ elements s.finished ++ Token t ∷ [] =
    c.push.ensures.elements ∙ ap (λ ts. ts ++ i.element ∷ []) c.reserve.ensures.same.0
    ∙ ap (λ u. elements s.finished ++ u ∷ []) c.in_ok-token.ensures.ok in
    let word =
    ap (λ ts. spelled (weave 0 s.parents.items ts)) terms
    ∙ spelled-token s.parents.items (elements s.finished) t c.self.invariant.0
    ∙ ap (λ b. b.word ++ Leaf t ∷ []) c.self.view_is in
    let cache = c.in_ok-token.ensures.kept ∙ ap (λ b. intern b.cache (Token t)) c.self.view_is in
    same_value _ _ _ _ word cache
