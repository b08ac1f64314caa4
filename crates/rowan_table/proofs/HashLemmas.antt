-- What the hash of a cursor feeds, part by part.
use Rattle.std.proofs.Common.{◌≡◌, ℕ, List, ◌++◌, length, fold, Some, sym, ◌∙◌, ap}
use Rattle.std.specs.Hash as fed
use Rattle.std.proofs.lemmas.Grind.{fold-append}
use Rattle.rowan_green.specs.Term.{Term, term_kind, term_len}
use Rattle.rowan_terms.specs.Path.{term_children}
use Rattle.rowan_table.specs.Cursor.{Cursor, term_at}
use Rattle.rowan_table.specs.Equal.{start_of, fed_shape, fed_place}

-- four lists are fed in turn
pub fed_in_turn : {S : Type 0} (write : S → List ℕ → S) (s0 s1 s2 s3 s4 : S)
    (a b c d : List (List ℕ)) → s1 ≡ fold write s0 a → s2 ≡ fold write s1 b → s3 ≡ fold write s2 c
    → s4 ≡ fold write s3 d → s4 ≡ fold write s0 (a ++ (b ++ c ++ d))
fed_in_turn write s0 s1 s2 s3 s4 a b c d e1 e2 e3 e4 =
    e4 ∙ ap (λ s. fold write s d) e3 ∙ ap (λ s. fold write (fold write s c) d) e2
    ∙ ap (λ s. fold write (fold write (fold write s b) c) d) e1
    ∙ sym (fold-append write s0 a ((b ++ c) ++ d) ∙ fold-append write (fold write s0 a) (b ++ c) d
    ∙ ap (λ s. fold write s d) (fold-append write (fold write s0 a) b c))

-- what is fed, by the term that stands there
pub fed_place-is : (c : Cursor) (t : Term) (start kind len count : ℕ) → term_at c ≡ Some t
    → start ≡ start_of c → kind ≡ term_kind t → len ≡ term_len t
    → count ≡ length (term_children t)
    → fed_place c ≡ fed.u32 start ++ (fed.u16 kind ++ fed.u32 len ++ fed.usize count)
fed_place-is c t start kind len count at from of long many =
    ap (λ o. fed.u32 (start_of c) ++ fed_shape o) at
    ∙ ap (λ k. fed.u32 k ++ fed_shape (Some t)) (sym from)
    ∙ ap (λ k. fed.u32 start ++ (fed.u16 k ++ fed.u32 (term_len t)
    ++ fed.usize (length (term_children t)))) (sym of)
    ∙ ap (λ k. fed.u32 start ++ (fed.u16 kind ++ fed.u32 k
    ++ fed.usize (length (term_children t)))) (sym long)
    ∙ ap (λ k. fed.u32 start ++ (fed.u16 kind ++ fed.u32 len ++ fed.usize k)) (sym many)
