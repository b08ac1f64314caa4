-- Laws of traces: each move stays in its tree, and so the replacements alone make the last tree.
use Rattle.std.proofs.Common.{◌≡◌, List, [], ◌∷◌, ◌++◌, map, refl, sym, ◌∙◌, ap, subst}
use Rattle.std.specs.Prelude.{Option, Some, None, slice_get}
use Rattle.std.specs.List.{last_or}
use Rattle.std.specs.Option.{option_map}
use Rattle.rowan_green.specs.declared.utility_types.NodeOrToken.TheVariants.{Node, Token}
use Rattle.rowan_terms.specs.Path.{Path}
use Rattle.rowan_terms.specs.Replacements.{Makes}
use Rattle.rowan_green.specs.Term.{NodeTerm}
use Rattle.rowan_table.specs.Cursor.{Cursor}
use Rattle.rowan_table.specs.Moves.{Element, place_of, element_at, cursor_at}
use Rattle.rowan_table.specs.Search.{StandsWhere, touching}
use Rattle.rowan_table.proofs.CoverLemmas.{place_of-element, place_of-stands}
use Rattle.rowan_script.specs.declared.script.steps.Report.{Report}
use Rattle.rowan_script.specs.declared.script.steps.Report.TheVariants.{Moved, Nowhere, Replaced, Refused}
use Rattle.rowan_script.specs.declared.script.steps.Step.{Step}
use Rattle.rowan_script.specs.declared.script.steps.Step.TheVariants.{Parent, TreeTop, FirstChild}
use Rattle.rowan_script.specs.declared.script.steps.Step.TheVariants.{LastChild, FirstChildOrToken}
use Rattle.rowan_script.specs.declared.script.steps.Step.TheVariants.{LastChildOrToken, NextSibling}
use Rattle.rowan_script.specs.declared.script.steps.Step.TheVariants.{PrevSibling, NextSiblingOrToken}
use Rattle.rowan_script.specs.declared.script.steps.Step.TheVariants.{PrevSiblingOrToken, FirstToken}
use Rattle.rowan_script.specs.declared.script.steps.Step.TheVariants.{LastToken, NextToken, PrevToken}
use Rattle.rowan_script.specs.declared.script.steps.Step.TheVariants.{ChildAtRange, Covering, LeftTokenAt}
use Rattle.rowan_script.specs.declared.script.steps.Step.TheVariants.{RightTokenAt, ReplaceNode}
use Rattle.rowan_script.specs.declared.script.steps.Step.TheVariants.{ReplaceToken}
use Rattle.rowan_script.specs.Trace.{IsFound, ReportsInTurn, last_element, tree_of, replacement_of}
use Rattle.rowan_script.specs.Trace.{replacements}

-- ---- moves stay in the tree

-- the element is one of the tree with this root
StaysIn : NodeTerm → Element → Type 0
StaysIn root e = (place_of e).root ≡ root

stays-node : (root : NodeTerm) (o : Option Path) (e : Element)
    → Some e ≡ option_map Node (option_map (cursor_at root) o) → StaysIn root e
unfolding StaysIn
stays-node root None e h = cc
stays-node root (Some p) e h = let same : e ≡ Node (cursor_at root p) =
    cc in ap (λ x. (place_of x).root) same

stays-token : (root : NodeTerm) (o : Option Path) (e : Element)
    → Some e ≡ option_map Token (option_map (cursor_at root) o) → StaysIn root e
unfolding StaysIn
stays-token root None e h = cc
stays-token root (Some p) e h = let same : e ≡ Token (cursor_at root p) =
    cc in ap (λ x. (place_of x).root) same

stays-element : (root : NodeTerm) (o : Option Path) (e : Element)
    → Some e ≡ option_map (element_at root) o → StaysIn root e
unfolding StaysIn
stays-element root None e h = cc
stays-element root (Some p) e h =
    let same : e ≡ element_at root p = cc in
    ap (λ x. (place_of x).root) same ∙ ap (λ c. c.root) (place_of-element root p)

stays-stands : (root : NodeTerm) (P : Path → Type 0) (e : Element) → StandsWhere root P e
    → StaysIn root e
unfolding StaysIn
stays-stands root P e s = ap (λ c. c.root) (place_of-stands root P e s)

stays-first : (root : NodeTerm) (qs : List Path) (e : Element)
    → Some e ≡ option_map Token (slice_get (map (cursor_at root) qs) 0) → StaysIn root e
stays-first root [] e h = stays-token root None e h
stays-first root (q ∷ qs) e h = stays-token root (Some q) e h

stays-last : (root : NodeTerm) (o : Option Path) (qs : List Path) (e : Element)
    → Some e ≡ option_map Token (last_or (option_map (cursor_at root) o) (map (cursor_at root) qs))
    → StaysIn root e
stays-last root o [] e h = stays-token root o e h
stays-last root o (q ∷ qs) e h = stays-last root (Some q) qs e h

found-stays : (step : Step) (c : Cursor) (e : Element) → IsFound step c (Some e) → StaysIn c.root e
found-stays Parent c e h = stays-node c.root _ e h
found-stays TreeTop c e h = stays-node c.root (Some []) e h
found-stays FirstChild c e h = stays-node c.root _ e h
found-stays LastChild c e h = stays-node c.root _ e h
found-stays FirstChildOrToken c e h = stays-element c.root _ e h
found-stays LastChildOrToken c e h = stays-element c.root _ e h
found-stays NextSibling c e h = stays-node c.root _ e h
found-stays PrevSibling c e h = stays-node c.root _ e h
found-stays NextSiblingOrToken c e h = stays-element c.root _ e h
found-stays PrevSiblingOrToken c e h = stays-element c.root _ e h
found-stays FirstToken c e h = stays-token c.root _ e h
found-stays LastToken c e h = stays-token c.root _ e h
found-stays NextToken c e h = stays-token c.root _ e h
found-stays PrevToken c e h = stays-token c.root _ e h
found-stays (ChildAtRange span) c e h = stays-stands c.root _ e h
found-stays (Covering span) c e h = stays-stands c.root _ e h
found-stays (LeftTokenAt offset) c e h = stays-first c.root (touching c.root offset c.path) e h
found-stays (RightTokenAt offset) c e h = stays-last c.root None (touching c.root offset c.path) e h
found-stays (ReplaceNode green) c e h = absurd h
found-stays (ReplaceToken green) c e h = absurd h

-- what a move finds is in the tree where it was made
pub root-found : (step : Step) (c : Cursor) (e : Element) → IsFound step c (Some e)
    → (place_of e).root ≡ c.root
unfolding StaysIn
root-found step c e h = found-stays step c e h

-- ---- replacements

pub there : {A B : Type 0} (f : A → B) (o : Option A) (b : B) → option_map f o ≡ Some b
    → (a : A) × (o ≡ Some a)
there f None b h = cc
there f (Some a) b h = (a, refl)

pub turns-make : (steps : List Step) (reports : List Report) (e : Element)
    → ReportsInTurn e steps reports
    → Makes (tree_of e) (replacements e steps reports) (tree_of (last_element e reports))
unfolding StaysIn
turns-make [] [] e turns = refl
turns-make [] (report ∷ reports) e turns = absurd turns
turns-make (step ∷ steps) [] e turns = absurd turns
turns-make (step ∷ steps) (Moved found ∷ reports) e turns =
    subst (λ root. Makes (Node root) (replacements found steps reports)
    (tree_of (last_element found reports))) (found-stays step (place_of e) found turns.0.1)
    (turns-make steps reports found turns.1)
turns-make (step ∷ steps) (Nowhere ∷ reports) e turns = turns-make steps reports e turns.1
turns-make (step ∷ steps) (Replaced root ∷ reports) e turns =
    let n = turns.0.1 in
    let rest = replacements (Node root) steps reports in
    let last = tree_of (last_element (Node root) reports) in
    let old = there _ _ _ n.replaces.kind in
    subst (λ new. Makes (tree_of e) (replacement_of (place_of e) new (Replaced root) ++ rest) last)
    (sym n.puts) (
      old.0,
      old.1,
      subst (λ t. Makes t rest last) n.replaces.root (turns-make steps reports (Node root) turns.1),
    )
turns-make (step ∷ steps) (Refused fault ∷ reports) e turns = turns-make steps reports e turns.1
