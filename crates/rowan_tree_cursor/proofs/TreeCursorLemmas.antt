-- The stack of a tree cursor: one frame more, one less, and where the offsets lie.
use Rattle.std.proofs.Common.{◌≡◌, ℕ, zero, suc, ◌+◌, ◌-◌, ◌<◌, ◌≤◌, List, [], ◌∷◌, ◌++◌}
use Rattle.std.proofs.Common.{length}
use Rattle.std.proofs.Common.{set, Some, refl, sym, ◌∙◌, ap, subst, arith, append_assoc}
use Rattle.std.specs.Prelude.{slice_get, slice_index_or, take}
use Rattle.std.proofs.lemmas.List.{append-nil, map-append}
use Rattle.rowan_green.specs.declared.utility_types.NodeOrToken.TheVariants.{Node}
use Rattle.rowan_green.specs.declared.fault.Fault.{Fault}
use Rattle.rowan_green.specs.Edits.{replaced}
use Rattle.rowan_green.specs.Fits.{byte_limit, child_limit, Fits, PassesLimit}
use Rattle.rowan_terms.specs.Path.{Path, subterm, offset, len_of, put}
use Rattle.rowan_green.specs.Search.{child_start}
use Rattle.rowan_green.specs.Term.{NodeTerm, Term, node_of, node_kind, node_children, term_len}
use Rattle.rowan_terms.proofs.OffsetLemmas.{range-within}
use Rattle.rowan_terms.proofs.PutLemmas.{put-child}
use Rattle.rowan_terms.proofs.PutLimits.{Fits-children, Fits-subterm, unfit-put}
use Rattle.rowan_green.proofs.Terms.{Fits-len}
use Rattle.rowan_table.specs.Moves.{children_of, child_count}
use Rattle.rowan_table.proofs.PathLemmas.{offset-node_child, subterm-child}
use Rattle.rowan_tree_cursor.specs.declared.tree_cursor.Frame.{Frame}
use Rattle.rowan_tree_cursor.specs.TreeCursor.{path_of, IsFrameAt, AreFrames, IsPlaced}

pub path-more : (fs : List Frame) (f : Frame)
    → path_of (fs ++ f ∷ []) ≡ path_of fs ++ f.index ∷ []
path-more fs f = map-append (λ (g : Frame). g.index) fs (f ∷ [])

frames-more : (root : NodeTerm) (p : Path) (fs : List Frame) (f : Frame) → AreFrames root p fs
    → IsFrameAt root (p ++ path_of fs) f → AreFrames root p (fs ++ f ∷ [])
frames-more root p [] f h at =
    let here : p ++ [] ≡ p = append-nil p in (subst (λ q. IsFrameAt root q f) here at, tt)
frames-more root p (g ∷ fs) f h at = (
  h.0,
  frames-more root (p ++ g.index ∷ []) fs f h.1
      (subst (λ q. IsFrameAt root q f) (sym (append_assoc p (g.index ∷ []) (path_of fs))) at),
)

frames-less : (root : NodeTerm) (p : Path) (fs : List Frame) (f : Frame)
    → AreFrames root p (fs ++ f ∷ []) → AreFrames root p fs × IsFrameAt root (p ++ path_of fs) f
frames-less root p [] f h = (tt, subst (λ q. IsFrameAt root q f) (sym (append-nil p)) h.0)
frames-less root p (g ∷ fs) f h =
    let rest = frames-less root (p ++ g.index ∷ []) fs f h.1 in (
      (h.0, rest.0),
      subst (λ q. IsFrameAt root q f) (append_assoc p (g.index ∷ []) (path_of fs)) rest.1,
    )

-- ---- one step down, and one up

-- a child of the node at a path
child-stands : (root : NodeTerm) (p : Path) (n : NodeTerm) (i : ℕ) (c : Term)
    → subterm (Node root) p ≡ Some (Node n) → slice_get (node_children n) i ≡ Some c
    → subterm (Node root) (p ++ i ∷ []) ≡ Some c
child-stands root p n i c here at =
    subterm-child (Some (Node root)) p i ∙ ap (λ t. slice_get (children_of t) i) here ∙ at

pub placed-child : (root : NodeTerm) (fs : List Frame) (f : Frame) (s x : ℕ) (c : Term)
    → IsPlaced root fs (Node f.node.now) s → f.start ≡ s
    → slice_get (node_children f.node.now) f.index ≡ Some c
    → x ≡ s + child_start (node_children f.node.now) f.index → IsPlaced root (fs ++ f ∷ []) c x
placed-child root fs f s x c h from at to =
    let p = path_of fs in
    let n = f.node.now in
    let path = path-more fs f in
    let there : subterm (Node root) (p ++ f.index ∷ []) ≡ Some c =
    child-stands root p n f.index c h.stands at in
    let begins : x ≡ offset (Node root) (p ++ f.index ∷ []) =
    omega (arith, to, h.start, offset-node_child (Node root) p f.index n h.stands) in
    record {
      frames = frames-more root [] fs f h.frames
          (record { node = h.stands; start = from ∙ h.start });
      stands = ap (subterm (Node root)) path ∙ there;
      start = begins ∙ ap (offset (Node root)) (sym path);
      fits = h.fits;
    }

-- what stands below the last frame is a child of its node
pub record IsBelow (root : NodeTerm) (before : List Frame) (f : Frame) (t : Term) : Type 0 where
  pub parent : IsPlaced root before (Node f.node.now) f.start
  pub child : slice_get (node_children f.node.now) f.index ≡ Some t
  pub few : f.index < child_limit

pub get-within : {A : Type 0} (xs : List A) (i : ℕ) (x : A) → slice_get xs i ≡ Some x
    → i < length xs
get-within [] i x h = absurd cc
get-within (y ∷ ys) zero x h = omega arith
get-within (y ∷ ys) (suc i) x h = omega (arith, get-within ys i x h)

pub placed-parent : (root : NodeTerm) (all before : List Frame) (f : Frame) (t : Term) (s : ℕ)
    → IsPlaced root all t s → all ≡ before ++ f ∷ [] → IsBelow root before f t
placed-parent root all before f t s h split =
    let p = path_of before in
    let n = f.node.now in
    let parts = frames-less root [] before f (subst (AreFrames root []) split h.frames) in
    let path : path_of all ≡ p ++ f.index ∷ [] = ap path_of split ∙ path-more before f in
    let child : slice_get (node_children n) f.index ≡ Some t =
    sym (ap (λ u. slice_get (children_of u) f.index) parts.1.node)
    ∙ sym (subterm-child (Some (Node root)) p f.index) ∙ sym (ap (subterm (Node root)) path)
    ∙ h.stands in
    let within = Fits-children n (Fits-subterm (Node root) p (Node n) parts.1.node h.fits) in
    record {
      parent = record {
        frames = parts.0;
        stands = parts.1.node;
        start = parts.1.start;
        fits = h.fits;
      };
      child = child;
      few = omega (arith, get-within (node_children n) f.index t child, within.0.count);
    }

-- ---- limits

-- the text of an element ends within the limit
pub placed-end : (root : NodeTerm) (fs : List Frame) (t : Term) (s : ℕ) → IsPlaced root fs t s
    → s + term_len t ≤ byte_limit
placed-end root fs t s h =
    let whole = range-within (Node root) (path_of fs) t h.stands in
    omega (arith, h.start, ap len_of h.stands, whole, Fits-len (Node root) h.fits)

-- and so does that of a child, which starts behind this many bytes
pub child-limit : (root : NodeTerm) (fs : List Frame) (n : NodeTerm) (s i o : ℕ) (c : Term)
    → IsPlaced root fs (Node n) s → slice_get (node_children n) i ≡ Some c
    → o ≡ child_start (node_children n) i → s + o ≤ byte_limit
child-limit root fs n s i o c h at is =
    let p = path_of fs in
    let there = child-stands root p n i c h.stands at in
    let whole = range-within (Node root) (p ++ i ∷ []) c there in
    omega (
      arith,
      is,
      h.start,
      offset-node_child (Node root) p i n h.stands,
      whole,
      Fits-len (Node root) h.fits,
    )

-- ---- the last frame

-- a list up to its last element, which another one replaces
pub record EndsWith {A : Type 0} (xs : List A) (x : A) : Type 0 where
  pub before : List A
  pub is : xs ≡ before ++ x ∷ []
  pub other : (y : A) → set xs (length xs - 1) y ≡ before ++ y ∷ []

pub ends-with : {A : Type 0} (xs : List A) (x : A) → slice_get xs (length xs - 1) ≡ Some x
    → EndsWith xs x
ends-with [] x h = absurd cc
ends-with (y ∷ []) x h = let e : y ≡ x = cc in
    record { before = []; is = ap (λ z. z ∷ []) e; other = λ z. refl }
ends-with (y ∷ z ∷ zs) x h =
    let last : length (y ∷ z ∷ zs) - 1 ≡ suc (length (z ∷ zs) - 1) = omega arith in
    let there : slice_get (y ∷ z ∷ zs) (suc (length (z ∷ zs) - 1)) ≡ Some x =
    sym (ap (λ k. slice_get (y ∷ z ∷ zs) k) last) ∙ h in
    let rest = ends-with (z ∷ zs) x there in
    record {
      before = y ∷ rest.before;
      is = ap (λ us. y ∷ us) rest.is;
      other = λ u. ap (λ k. set (y ∷ z ∷ zs) k u) last ∙ ap (λ us. y ∷ us) (rest.other u);
    }

-- a sibling of the element in its place
pub placed-sibling : (root : NodeTerm) (all : List Frame) (f g : Frame) (t c : Term) (s x k : ℕ)
    → IsPlaced root all t s → (e : EndsWith all f) → k ≡ length all - 1
    → g.node.now ≡ f.node.now → g.start ≡ f.start
    → slice_get (node_children f.node.now) g.index ≡ Some c
    → x ≡ f.start + child_start (node_children f.node.now) g.index
    → IsPlaced root (set all k g) c x
placed-sibling root all f g t c s x k h e last node start at to =
    let up = placed-parent root all e.before f t s h e.is in
    let parent : IsPlaced root e.before (Node g.node.now) f.start =
    subst (λ n. IsPlaced root e.before (Node n) f.start) (sym node) up.parent in
    let child : slice_get (node_children g.node.now) g.index ≡ Some c =
    ap (λ n. slice_get (node_children n) g.index) node ∙ at in
    let begins : x ≡ f.start + child_start (node_children g.node.now) g.index =
    to ∙ ap (λ n. f.start + child_start (node_children n) g.index) (sym node) in
    let list : e.before ++ g ∷ [] ≡ set all k g = sym (ap (λ i. set all i g) last ∙ e.other g) in
    subst (λ fs. IsPlaced root fs c x) list
    (placed-child root e.before g f.start x c parent start child begins)

pub path-sibling : (all : List Frame) (f g : Frame) (k : ℕ) (e : EndsWith all f)
    → k ≡ length all - 1 → path_of (set all k g) ≡ path_of e.before ++ g.index ∷ []
path-sibling all f g k e last =
    ap path_of (ap (λ i. set all i g) last ∙ e.other g) ∙ path-more e.before g

pub path-ends : (all : List Frame) (f : Frame) (e : EndsWith all f)
    → path_of all ≡ path_of e.before ++ f.index ∷ []
path-ends all f e = ap path_of e.is ∙ path-more e.before f

-- how many children the parent has
pub count-above : (root : NodeTerm) (all : List Frame) (f : Frame) (e : EndsWith all f) (t : Term)
    → IsBelow root e.before f t → child_count root (path_of e.before)
    ≡ length (node_children f.node.now)
count-above root all f e t h = ap (λ o. length (children_of o)) h.parent.stands

-- ---- the first frames

pub take-next : {A : Type 0} (xs : List A) (k : ℕ) (x : A) → k < length xs
    → x ≡ slice_index_or xs k x → take (k + 1) xs ≡ take k xs ++ x ∷ []
take-next [] k x h e = absurd (omega arith)
take-next (y ∷ ys) zero x h e = ap (λ z. z ∷ []) (sym e)
take-next (y ∷ ys) (suc k) x h e =
    let next : suc k + 1 ≡ suc (k + 1) = omega arith in
    ap (λ n. take n (y ∷ ys)) next ∙ ap (λ zs. y ∷ zs) (take-next ys k x (omega arith) e)

pub take-whole : {A : Type 0} (xs : List A) → take (length xs) xs ≡ xs
take-whole [] = refl
take-whole (x ∷ xs) = ap (λ zs. x ∷ zs) (take-whole xs)

-- the frame at a depth, and those above it
pub record IsLast (root : NodeTerm) (all : List Frame) (k : ℕ) (f : Frame) : Type 0 where
  pub above : AreFrames root [] (take k all)
  pub node : subterm (Node root) (path_of (take k all)) ≡ Some (Node f.node.now)
  pub path : path_of (take (k + 1) all) ≡ path_of (take k all) ++ f.index ∷ []

pub frame-at : (root : NodeTerm) (all : List Frame) (k m : ℕ) (f : Frame)
    → AreFrames root [] (take m all) → m ≡ k + 1 → k < length all → f ≡ slice_index_or all k f
    → IsLast root all k f
frame-at root all k m f h e less at =
    let split = take-next all k f less at in
    let parts = frames-less root [] (take k all) f
    (subst (AreFrames root []) (ap (λ n. take n all) e ∙ split) h) in
    record {
      above = parts.0;
      node = parts.1.node;
      path = ap path_of split ∙ path-more (take k all) f;
    }

-- one node more of the new tree
pub put-up : (root : NodeTerm) (all : List Frame) (k m : ℕ) (f : Frame) (u : Term) (n : NodeTerm)
    → IsLast root all k f → m ≡ k + 1
    → n ≡ node_of (node_kind f.node.now) (replaced (node_children f.node.now) f.index u)
    → put (Node root) (path_of (take k all)) (Node n) ≡ put (Node root) (path_of (take m all)) u
put-up root all k m f u n h e is =
    let p = path_of (take k all) in
    ap (λ x. put (Node root) p (Node x)) is
    ∙ sym (put-child (Node root) p f.index u (Node f.node.now) h.node)
    ∙ ap (λ q. put (Node root) q u) (sym (ap (λ i. path_of (take i all)) e ∙ h.path))

-- a limit that the children of a new node pass, the whole new tree does
pub unfit-up : (root : NodeTerm) (all : List Frame) (k m : ℕ) (f : Frame) (u : Term) (e : Fault)
    → IsLast root all k f → m ≡ k + 1
    → PassesLimit (replaced (node_children f.node.now) f.index u) e
    → ¬ Fits (put (Node root) (path_of (take m all)) u)
unfit-up root all k m f u e h is passes =
    subst (λ q. ¬ Fits (put (Node root) q u)) (sym (ap (λ i. path_of (take i all)) is ∙ h.path))
    (unfit-put (Node root) (path_of (take k all)) f.index f.node.now u e h.node passes)
