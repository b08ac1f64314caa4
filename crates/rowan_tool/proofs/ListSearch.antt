-- The list at a range: it is looked for from the root on, at the child at the range of each node
-- that is no such list.
use Rattle.std.proofs.Common.{◌≡◌, ℕ, Bool, true, false, cond, List, [], ◌∷◌, Some, None, refl, sym}
use Rattle.std.proofs.Common.{◌∙◌, ap, subst}
use Rattle.std.specs.List.{find}
use Rattle.rowan_green.specs.declared.fault.Fault.TheVariants.{NotFound}
use Rattle.rowan_green.specs.declared.utility_types.NodeOrToken.TheVariants.{Node}
use Rattle.rowan_terms.specs.Path.{Path, subterm, range}
use Rattle.rowan_green.specs.Span.{Span}
use Rattle.rowan_green.specs.Term.{NodeTerm, node_kind}
use Rattle.rowan_table.specs.Cursor.{Cursor, kind}
use Rattle.rowan_table.specs.Moves.{is_node_at}
use Rattle.rowan_table.specs.Search.{IsRangeChild, IsChain}
use Rattle.rowan.specs.Pointer.{is_node_of}
use Rattle.rowan.proofs.ChainLemmas.{none-some, token-ends, find-way}
use Rattle.rowan.proofs.PointerLemmas.{FindsNode, FindsToken, not_meant, range-meant}
use Rattle.rowan.proofs.PointerLemmas.{finds-standing}
use Rattle.rowan_sexp.specs.Casts.{is_list}
use Rattle.rowan_tool.specs.Reparse.{IsListIn, is_list_at, HasNoList}
use Rattle.rowan_sexp.specs.Sexp.{kind_of}
use Rattle.rowan_sexp.proofs.LexedLemmas.{parse-unique}
use Rattle.rowan_tool.proofs.ReparseLemmas.{list-has-text}

-- none of the elements on the chain of the range is a list with it
pub record HasNone (root : NodeTerm) (span : Span) : Type 0 where
  pub chain : List Path
  pub is : IsChain root span [] chain
  pub none : find (is_list_at span root) ([] ∷ chain) ≡ None

-- the search has come to the node at p, and where it finds nothing from there on, there is nothing
pub record IsSearching (root : NodeTerm) (span : Span) (p : Path) : Type 0 where
  pub node : is_node_at root p ≡ true
  pub none : (chain : List Path) → IsChain root span p chain
      → find (is_list_at span root) (p ∷ chain) ≡ None → HasNone root span

pub search-begins : (root : NodeTerm) (span : Span) → IsSearching root span []
search-begins root span = record {
  node = refl;
  none = λ chain is none. record { chain = chain; is = is; none = none };
}

find-next : (holds : Path → Bool) (p : Path) (chain : List Path) → holds p ≡ false
    → find holds (p ∷ chain) ≡ find holds chain
find-next holds p chain h = ap (λ b. cond b (Some p) (find holds chain)) h

pub search-goes-on : (span : Span) (c d : Cursor) → IsSearching c.root span c.path
    → is_list_at span c.root c.path ≡ false → FindsNode span c d → IsSearching d.root span d.path
search-goes-on span c d s other f = record {
  node = finds-standing span c d f;
  none = subst (λ r. (chain : List Path) → IsChain r span d.path chain
      → find (is_list_at span r) (d.path ∷ chain) ≡ None → HasNone r span) (sym f.root)
      (λ chain is none. s.none (d.path ∷ chain) (f.child, is)
      (find-next (is_list_at span c.root) c.path (d.path ∷ chain) other ∙ none));
}

-- nothing is found where no child is at the range, and where that is a token
pub search-ends : (span : Span) (c : Cursor) → IsSearching c.root span c.path
    → is_list_at span c.root c.path ≡ false → ((q : Path) → ¬ IsRangeChild c.root span c.path q)
    → HasNone c.root span
search-ends span c s other none = s.none [] none
    (find-next (is_list_at span c.root) c.path [] other)

pub search-ends-token : (span : Span) (c : Cursor) → IsSearching c.root span c.path
    → is_list_at span c.root c.path ≡ false → FindsToken span c → HasNone c.root span
search-ends-token span c s other t =
    s.none (t.path ∷ []) (t.child, λ r. token-ends c.root span t.path r t.token)
    (find-next (is_list_at span c.root) c.path (t.path ∷ []) other
    ∙ find-next (is_list_at span c.root) t.path []
    (not_meant (λ k. is_list (kind_of k)) span c.root t.path t.token))

-- then no list has the range
list-meant : (span : Span) (root list : NodeTerm) (q : Path)
    → subterm (Node root) q ≡ Some (Node list) → node_kind list ≡ 5 → range (Node root) q ≡ span
    → is_list_at span root q ≡ true
list-meant span root list q s kind lies =
    range-meant (λ k. is_list (kind_of k)) span root q (ap (λ r. r.start) lies)
    (ap (λ r. r.end) lies)
    ∙ ap (is_node_of (λ k. is_list (kind_of k))) s ∙ ap (λ k. is_list (kind_of k)) kind

none-in : (text : List ℕ) (span : Span) (l : IsListIn text span) → HasNone l.tree span → ⊥
none-in text span l n =
    let chain = subst (λ r. IsChain l.tree r [] n.chain) (sym l.lies) n.is in
    let found = find-way l.path (is_list_at span l.tree) l.tree l.path [] n.chain
    (Node l.list) refl l.stands (list-has-text text l.tree l.list l.path l.parse l.stands l.kind)
    (list-meant span l.tree l.list l.path l.stands l.kind l.lies) chain in
    none-some found.path (sym n.none ∙ found.is)

pub has-no-list : (tree : NodeTerm) (span : Span) → HasNone tree span → HasNoList tree span NotFound
has-no-list tree span n = (
  refl,
  λ text h l. none-in text span l
      (subst (λ t. HasNone t span) (parse-unique text tree l.tree h l.parse) n),
)
