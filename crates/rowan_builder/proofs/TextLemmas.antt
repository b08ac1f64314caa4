-- The text that a builder's calls leave: a token's is appended, and all else keeps it.
use Rattle.std.proofs.Common.{◌≡◌, ℕ, List, [], ◌∷◌, ◌++◌, map, sym, ◌∙◌, ap}
use Rattle.std.proofs.lemmas.List.{append-nil}
use Rattle.std.specs.Prelude.{Result, Ok, Err}
use Rattle.std.specs.Result.{OnOk, OnErr}
use Rattle.rowan_green.specs.declared.utility_types.NodeOrToken.TheVariants.{Node}
use Rattle.rowan_green.specs.Term.{TokenTerm, NodeTerm, joined_text, node_text}
use Rattle.rowan_green.specs.Word.{Symbol, Open, Leaf, Close, Bare, Whole, whole_terms, IsFinished}
use Rattle.rowan_green.specs.Word.{Closes, Wraps, word_text}
use Rattle.rowan_builder.specs.Builder.{BuilderValue, adds, opens, FinishesNode, WrapsAt}
use Rattle.rowan_builder.specs.Loan.{if_accepted}
use Rattle.rowan_terms.proofs.ItemLemmas.{whole_terms-append, whole_terms-map, whole_terms-open}
use Rattle.rowan_terms.proofs.Words.{word_text-append, word_text-parts, word_text-terms}

pub text-leaf : (v w : List Symbol) (t : TokenTerm) → w ≡ v ++ Leaf t ∷ []
    → word_text w ≡ word_text v ++ t.text
text-leaf v w t e = ap word_text e ∙ word_text-append v (Leaf t ∷ [])
    ∙ ap (λ bs. word_text v ++ bs) (append-nil t.text)

pub text-open : (v w : List Symbol) (k : ℕ) → w ≡ v ++ Open k ∷ [] → word_text w ≡ word_text v
text-open v w k e = ap word_text e ∙ word_text-append v (Open k ∷ []) ∙ append-nil (word_text v)

pub text-closes : {n : NodeTerm} (v w : List Symbol) → Closes v n w → word_text w ≡ word_text v
text-closes v w c = ap word_text c.closed ∙ word_text-append v (Close ∷ [])
    ∙ append-nil (word_text v)

pub text-wrap : (v w : List Symbol) (c k : ℕ) → Wraps v c k w → word_text w ≡ word_text v
text-wrap v w c k a =
    let wholes = whole_terms-append a.before (map Whole a.after)
    ∙ ap (λ us. whole_terms a.before ++ us) (whole_terms-map a.after) in
    word_text-parts w (a.before ++ Bare k ∷ map Whole a.after) a.opened
    ∙ ap joined_text (whole_terms-open a.before k a.after ∙ sym wholes)
    ∙ sym (word_text-parts v (a.before ++ map Whole a.after) a.parts)

pub text-finished : (w : List Symbol) (n : NodeTerm) → IsFinished w n → node_text n ≡ word_text w
text-finished w n h = sym (word_text-terms w (Node n ∷ []) h ∙ append-nil (node_text n))

-- a refused call keeps it
pub same_text : (old new : BuilderValue) → new ≡ old → word_text new.word ≡ word_text old.word
same_text old new e = ap (λ b. word_text b.word) e

module _ {E : Type 0} (old new : BuilderValue) where
  pub text-adds : (r : Result (Unit {0}) E) (t : TokenTerm) → OnOk r (new ≡ adds old t)
      → OnErr r (new ≡ old) → word_text new.word ≡ word_text old.word ++ if_accepted r t.text
  text-adds (Ok x) t ok err = text-leaf old.word new.word t (ap (λ b. b.word) ok)
  text-adds (Err e) t ok err = same_text old new err ∙ sym (append-nil (word_text old.word))

  pub text-opens : (r : Result (Unit {0}) E) (k : ℕ) → OnOk r (new ≡ opens old k)
      → OnErr r (new ≡ old) → word_text new.word ≡ word_text old.word
  text-opens (Ok x) k ok err = text-open old.word new.word k (ap (λ b. b.word) ok)
  text-opens (Err e) k ok err = same_text old new err

  pub text-finishes : (r : Result (Unit {0}) E) → OnOk r (FinishesNode old new)
      → OnErr r (new ≡ old) → word_text new.word ≡ word_text old.word
  text-finishes (Ok x) ok err = text-closes old.word new.word ok.closes
  text-finishes (Err e) ok err = same_text old new err

  pub text-wraps : (r : Result (Unit {0}) E) (c k : ℕ) → OnOk r (WrapsAt old c k new)
      → OnErr r (new ≡ old) → word_text new.word ≡ word_text old.word
  text-wraps (Ok x) c k ok err = text-wrap old.word new.word c k ok.wraps
  text-wraps (Err e) c k ok err = same_text old new err
