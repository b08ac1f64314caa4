-- Equality of cursors: what stands there, and where its text starts. Neither the tree nor the path
-- to it counts.
use Rattle.std.specs.Prelude.{◌≡◌, ℕ, Bool, true, false, ◌==◌, ◌&&◌, List, [], ◌++◌, Option, Some}
use Rattle.std.specs.Prelude.{None, refl, length}
use Rattle.std.proofs.Common.{ap}
use Rattle.std.specs.Bool.{Decides}
use Rattle.std.specs.Cmp.{IsEquivalence, decided, on_equiv, and_equiv, nat_eq_equiv}
use Rattle.std.specs.Hash as fed
use Rattle.std.specs.Hash.{same_Alike, on_Alike, and-Alike}
use Rattle.std.proofs.lemmas.Bool.{false≢true}
use Rattle.std.proofs.lemmas.Bool.Decides.{Decides-eqb}
use Rattle.rowan_green.specs.declared.utility_types.NodeOrToken.TheVariants.{Node}
use Rattle.rowan_green.specs.Term.{Term, term_kind, term_len}
use Rattle.rowan_green.specs.Same.{same_term, same_term-decides}
use Rattle.rowan_terms.specs.Path.{offset, term_children}
use Rattle.rowan_table.specs.Cursor.{Cursor, term_at}

abbrev pub start_of : Cursor → ℕ
start_of c = offset (Node c.root) c.path

abbrev pub same_if_some : Option Term → Option Term → Bool
same_if_some None None = true
same_if_some (Some t) (Some u) = same_term t u
same_if_some _ _ = false

abbrev pub same_place : Cursor → Cursor → Bool
same_place c d = (start_of c == start_of d) && same_if_some (term_at c) (term_at d)

-- what the hash of a cursor feeds a hasher: the start, the kind, the length of the text and the
-- number of the children
abbrev pub fed_shape : Option Term → List (List ℕ)
fed_shape None = []
fed_shape (Some t) =
    fed.u16 (term_kind t) ++ fed.u32 (term_len t) ++ fed.usize (length (term_children t))

abbrev pub fed_place : Cursor → List (List ℕ)
fed_place c = fed.u32 (start_of c) ++ fed_shape (term_at c)

pub same_if_some-decides : (o p : Option Term) → Decides (same_if_some o p) (o ≡ p)
same_if_some-decides None None = ((λ h. refl), (λ e. refl))
same_if_some-decides (Some t) (Some u) =
    let terms = same_term-decides t u in
    ((λ h. ap (λ x. Some x) (terms.0 h)), (λ e. terms.1 cc))
same_if_some-decides None (Some u) = ((λ h. absurd (false≢true h)), (λ e. cc))
same_if_some-decides (Some t) None = ((λ h. absurd (false≢true h)), (λ e. cc))

pub same_place-laws : IsEquivalence same_place
same_place-laws =
    and_equiv (on_equiv start_of nat_eq_equiv)
    (on_equiv term_at (decided same_if_some same_if_some-decides))

pub fed_place-same : (c d : Cursor) → same_place c d ≡ true → fed_place c ≡ fed_place d
fed_place-same =
    (and-Alike (on_Alike start_of (same_Alike fed.u32 Decides-eqb))
    (on_Alike term_at (same_Alike fed_shape same_if_some-decides))).fed
