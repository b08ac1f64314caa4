-- What is read of a place in a tree makes an edit.
use Rattle.std.proofs.Common.{◌≡◌, ℕ, ◌+◌, ◌≤◌, List, [], ◌∷◌, ◌++◌, length, length-append, Some}
use Rattle.std.proofs.Common.{sym, ◌∙◌, ap, arith}
use Rattle.rowan_green.specs.declared.utility_types.NodeOrToken.TheVariants.{Node}
use Rattle.rowan_terms.specs.Path.{Path, subterm, offset}
use Rattle.rowan_green.specs.Search.{child_start}
use Rattle.rowan_green.specs.Span.{Span}
use Rattle.rowan_green.specs.Term.{NodeTerm, Term, node_children}
use Rattle.rowan_table.proofs.PathLemmas.{offset-node_child}
use Rattle.rowan_table.specs.Cursor.{last_index}
use Rattle.rowan_edit.specs.declared.ranked.Body.{Body}
use Rattle.rowan_edit.specs.declared.ranked.Rank.{Rank}
use Rattle.rowan_changes.specs.Changes.{range_of}
use Rattle.rowan_edit.specs.Ranked.{without_last, edit_in, IsEditIn}
use Rattle.rowan_edit.proofs.RankLemmas.{front-of, last-of}
use Rattle.rowan_changes.proofs.Untouched.{edit_at}

-- where children lie whose node starts at an offset
abbrev pub lie_at : ℕ → List Term → ℕ → ℕ → Span
lie_at at cs start end =
    record { start = at + child_start cs start; end = at + child_start cs end }

both-starts : (a b c d : ℕ) → a ≡ c → b ≡ d
    → let x : Span = record { start = a; end = b } in x ≡ record { start = c; end = d }
both-starts a b c d s e =
    ap (λ x. record { start = x; end = b }) s ∙ ap (λ y. record { start = c; end = y }) e

pub same-edit : (p q : Path) (s t e f : ℕ) (new : List Term) → p ≡ q → s ≡ t → e ≡ f
    → edit_at p s e new ≡ edit_at q t f new
same-edit p q s t e f new path start end =
    ap (λ x. edit_at x s e new) path ∙ ap (λ x. edit_at q x e new) start
    ∙ ap (λ x. edit_at q t x new) end

-- children of a node that starts there lie in the range of an edit of them
pub range-at : (root : NodeTerm) (p : Path) (n : NodeTerm) (at start end : ℕ) (new : List Term)
    → subterm (Node root) p ≡ Some (Node n) → at ≡ offset (Node root) p
    → lie_at at (node_children n) start end ≡ range_of (Node root) (edit_at p start end new)
range-at root p n at start end new stands starts =
    let t : Term = Node root in
    let cs = node_children n in
    let there : (k : ℕ) → at + child_start cs k ≡ offset t (p ++ k ∷ []) =
    λ k. omega (arith, starts, offset-node_child t p k n stands) in
    both-starts (at + child_start cs start) (at + child_start cs end) (offset t (p ++ start ∷ []))
    (offset t (p ++ end ∷ [])) (there start) (there end)

pub is-edit : (root : NodeTerm) (x : Rank × Body) (p : Path) (start end count : ℕ) (n : NodeTerm)
    (at : ℕ) → x.0.place.items ≡ p ++ start ∷ [] → x.0.end ≡ end → x.0.count ≡ count
    → subterm (Node root) p ≡ Some (Node n) → at ≡ offset (Node root) p → start ≤ end
    → end ≤ length (node_children n) → x.1.range ≡ lie_at at (node_children n) start end
    → IsEditIn root (edit_at p start end x.1.new.items) count x
is-edit root x p start end count n at path last counted stands starts order within lies =
    let t : Term = Node root in
    let cs = node_children n in
    let there : (k : ℕ) → at + child_start cs k ≡ offset t (p ++ k ∷ []) =
    λ k. omega (arith, starts, offset-node_child t p k n stands) in
    let is : edit_in x ≡ edit_at p start end x.1.new.items =
    same-edit (without_last x.0.place.items) p (last_index x.0.place.items) start x.0.end end
    x.1.new.items (ap without_last path ∙ front-of p start) (ap last_index path ∙ last-of p start)
    last in
    record {
      is = is;
      of = record { node = n; stands = stands; order = order; within = within };
      range = lies ∙ both-starts (at + child_start cs start) (at + child_start cs end)
          (offset t (p ++ start ∷ [])) (offset t (p ++ end ∷ [])) (there start) (there end)
          ∙ ap (range_of t) (sym is);
      ranked = omega (arith, ap length path, length-append p (start ∷ []));
      count_is = counted;
    }
