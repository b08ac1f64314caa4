-- Replacements at a cursor: one step of the climb, and what stays.
use Rattle.std.proofs.Common.{◌≡◌, ℕ, [], ◌∷◌, ◌++◌, Option, Some, None, refl, sym, ◌∙◌, ap, subst}
use Rattle.std.specs.Option.{option_map}
use Rattle.rowan_green.specs.declared.fault.Fault.{Fault}
use Rattle.rowan_green.specs.declared.utility_types.NodeOrToken.TheVariants.{Node}
use Rattle.rowan_green.specs.Edits.{replaced}
use Rattle.rowan_green.specs.Fits.{Fits, PassesLimit}
use Rattle.rowan_terms.specs.Path.{Path, subterm, range, put}
use Rattle.rowan_green.specs.Term.{NodeTerm, Term, node_of, node_kind, node_children, term_kind}
use Rattle.rowan_terms.proofs.PutLemmas.{put-child, subterm-apart, put-commute, put-itself}
use Rattle.rowan_terms.proofs.PutLimits.{unfit-put}
use Rattle.rowan_terms.proofs.PutRanges.{range-apart}
use Rattle.rowan_table.specs.declared.table.entry.Entry.{Entry}
use Rattle.rowan_table.specs.declared.table.Table.{Table}
use Rattle.rowan_table.specs.Cursor.{Cursor, StandsAt, kind, last_index, index, term_at}
use Rattle.rowan_table.specs.Moves.{parent_path}
use Rattle.rowan_table.specs.Replacement.{with_replacement, KeepsTheRest}
use Rattle.rowan_table.specs.Table.{entry_index, facts_of}
use Rattle.rowan_table.specs.TableView.{root_of, path_at, cursor_of, IsEntryAt, IsTokenIn}
use Rattle.rowan_table.specs.TableView.{entries_of}
use Rattle.rowan_table.proofs.EndLemmas.{token_behind}
use Rattle.rowan_table.proofs.PathLemmas.{last_index-child, parent_path-child}
use Rattle.rowan_table.proofs.TokenLemmas.{split-parent}

-- ---- one step up

-- the path p is that of the child at this index of the node n, which is at q
pub record IsChildPath (root : NodeTerm) (p q : Path) (i : ℕ) (n : NodeTerm) : Type 0 where
  pub parent : Some q ≡ parent_path p
  pub index : i ≡ last_index p
  pub node : subterm (Node root) q ≡ Some (Node n)

place : (root : NodeTerm) (p q : Path) (i : ℕ) (n : NodeTerm) → IsChildPath root p q i n
    → p ≡ q ++ i ∷ []
place root p q i n h =
    let s = split-parent p q h.parent in
    s.1 ∙ ap (λ k. q ++ k ∷ []) (sym (h.index ∙ ap last_index s.1 ∙ last_index-child q s.0))

-- the new node above, in place of the old one, makes the same tree as the child in place of its own
pub put-above : (root : NodeTerm) (p q : Path) (i : ℕ) (n m : NodeTerm) (u : Term)
    → IsChildPath root p q i n → m ≡ node_of (node_kind n) (replaced (node_children n) i u)
    → put (Node root) q (Node m) ≡ put (Node root) p u
put-above root p q i n m u h e =
    ap (λ k. put (Node root) q (Node k)) e ∙ sym (put-child (Node root) q i u (Node n) h.node)
    ∙ ap (λ r. put (Node root) r u) (sym (place root p q i n h))

-- where the new children above pass a limit, the whole new tree does not fit
pub unfit-above : (root : NodeTerm) (p q : Path) (i : ℕ) (n : NodeTerm) (u : Term) (e : Fault)
    → IsChildPath root p q i n → PassesLimit (replaced (node_children n) i u) e
    → ¬ Fits (put (Node root) p u)
unfit-above root p q i n u e h passes =
    subst (λ r. ¬ Fits (put (Node root) r u)) (sym (place root p q i n h))
    (unfit-put (Node root) q i n u e h.node passes)

-- a token is a child of its parent
pub token-place : (s : Table) (n i : ℕ) (e : Entry) (above : NodeTerm) → IsTokenIn s n
    → IsEntryAt s n e → i ≡ index (cursor_of s n) → StandsAt (cursor_of s e.parent) above
    → IsChildPath (root_of s) (path_at s n) (path_at s e.parent) i above
token-place s n i e above token entry at node = record {
  parent = sym (ap parent_path (entry.below (token_behind s n token)).path
      ∙ parent_path-child (path_at s e.parent) (entry_index (entries_of s) n (facts_of s.nodes e)));
  index = at;
  node = node;
}

-- ---- what stays

stands : (o : Option Term) (k : ℕ) → option_map term_kind o ≡ Some k → (w : Term) × (o ≡ Some w)
stands None k e = absurd cc
stands (Some w) k e = (w, refl)

pub keeps : (c : Cursor) (u : Term) (n : NodeTerm) (k : ℕ) → kind c ≡ Some k
    → Node n ≡ with_replacement c u → KeepsTheRest c u n
keeps c u n k here e =
    let t = Node c.root in
    let w = stands (term_at c) k here in
    record {
      subterms = λ q apart. ap (λ s. subterm s q) e ∙ subterm-apart t c.path q u apart;
      ranges = λ q apart. ap (λ s. range s q) e ∙ range-apart t c.path q u w.0 w.1 apart;
      orders = λ q v apart. ap (λ s. put s q v) e ∙ put-commute t c.path q u v apart;
    }

-- what stands at a cursor, in place of itself
pub put-own : (c : Cursor) (u : Term) (n : NodeTerm) → term_at c ≡ Some u
    → Node n ≡ with_replacement c u → n ≡ c.root
put-own c u n own e = let same : Node n ≡ Node c.root = e ∙ put-itself (Node c.root) c.path u own in
    cc same
