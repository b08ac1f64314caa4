-- What holds of each answer of a closure, at the tokens of a tree.
use Rattle.std.proofs.Common.{◌≡◌, List, [], ◌∷◌, map, sym, ◌∙◌, ap, subst}
use Rattle.std.specs.Prelude.{Bool, Result}
use Rattle.std.specs.List.{filter}
use Rattle.std.specs.Fn.{Mut}
use Rattle.rowan_green.specs.declared.fault.Fault.{Fault}
use Rattle.rowan_green.specs.declared.utility_types.NodeOrToken.TheVariants.{Node}
use Rattle.rowan_terms.specs.Path.{LeafAt, leaves, tokens}
use Rattle.rowan_green.specs.Term.{TokenTerm, NodeTerm}
use Rattle.rowan_rewrite.specs.declared.rewriting.Rewrite.{Rewrite}
use Rattle.rowan_rewrite.specs.declared.rewriting.Rewritten.{Rewritten}
use Rattle.rowan_rewrite.specs.declared.rewriting.token_at.TokenAt.{TokenAt}
use Rattle.rowan_rewrite.specs.Rewriting.{Keeps, Each}
use Rattle.rowan_rewrite.specs.RewritingCalls.{Answers, IsRewritten, Always, AlwaysKeeps, AlwaysFormats}
use Rattle.rowan_rewrite.specs.Trivia.{StandOutside, Formats}
use Rattle.rowan_rewrite.proofs.RewritingLemmas.{kept-rewritten}
use Rattle.rowan_edit_laws.proofs.TriviaLemmas.{trivia-outside}

module _ {F : Type 0} (g : Mut F (TokenAt × Unit {0}) (Result Rewrite Fault)) where
  each-answer : (Holds : TokenTerm → Rewrite → Type 0) (root : NodeTerm) (f last : F)
      (ls : List LeafAt) (answers : List Rewrite) → Always g Holds root
      → Answers g root f ls answers last → Each Holds (map (λ l. l.1) ls) answers
  each-answer Holds root f last [] [] always h = tt
  each-answer Holds root f last [] (a ∷ answers) always h = absurd h
  each-answer Holds root f last (l ∷ ls) [] always h = absurd h
  each-answer Holds root f last (l ∷ ls) (a ∷ answers) always h = (
    always f l a h.0 h.1,
    each-answer Holds root h.0 last ls answers always h.2,
  )

  pub kept-calls : (test : TokenTerm → Bool) (f last : F) (old : NodeTerm) (new : Rewritten)
      → AlwaysKeeps g test old → IsRewritten g f last old new
      → filter test (tokens (Node new.green)) ≡ filter test (tokens (Node old))
  kept-calls test f last old new keeps made =
      ap (λ n. filter test (tokens (Node n))) made.tree
      ∙ kept-rewritten old made.answers test
      (each-answer (Keeps test) old f last (leaves (Node old)) made.answers keeps made.calls)

  pub formatted-calls : (test : TokenTerm → Bool) (f last : F) (old : NodeTerm) (new : Rewritten)
      → AlwaysFormats g test old → StandOutside test old → IsRewritten g f last old new
      → StandOutside test new.green
  formatted-calls test f last old new formats outside made =
      subst (StandOutside test) (sym made.tree)
      (trivia-outside test old made.answers outside
      (each-answer (Formats test) old f last (leaves (Node old)) made.answers formats made.calls))
