-- What the expressions among the children of a list stand for, by cursors and by terms; and that
-- they are smaller than the list.
use Rattle.std.proofs.Common.{◌≡◌, ℕ, zero, suc, ◌+◌, ◌<◌, ◌≤◌, append_assoc, Bool, true, false}
use Rattle.std.proofs.Common.{cond, List, [], ◌∷◌, ◌++◌, map, length, Option, Some, None, refl, sym}
use Rattle.std.proofs.Common.{◌∙◌, ap, subst, arith}
use Rattle.std.specs.Prelude.{filter, Ok, Err, IfOk, IfErr, slice_get, ⊤}
use Rattle.std.specs.Option.{option_map, option_map_or, option_and_then}
use Rattle.std.proofs.lemmas.List.{append-nil, flat_map_more, map-append}
use Rattle.rowan_green.specs.declared.fault.Fault.{Fault}
use Rattle.rowan_green.specs.declared.fault.Fault.TheVariants.{Memory}
use Rattle.rowan_green.specs.declared.utility_types.NodeOrToken.TheVariants.{Node, Token}
use Rattle.rowan_terms.specs.Path.{Path, subterm, term_children}
use Rattle.rowan_green.specs.Sizes.{term_size}
use Rattle.rowan_green.specs.Term.{NodeTerm, TokenTerm, node, Forest, empty, node_then, token_then}
use Rattle.rowan_green.specs.Term.{Term, terms, term_kind, node_kind, node_children}
use Rattle.rowan_table.specs.Cursor.{Cursor, term_at, kind}
use Rattle.rowan_table.specs.Moves.{children_of, child_count, cursor_at, is_node, is_node_at}
use Rattle.rowan_table.specs.Moves.{children, nodes_at, numbers, below}
use Rattle.rowan_table.specs.Yields.{Rest}
use Rattle.rowan_table.proofs.PathLemmas.{subterm-child}
use Rattle.rowan_cursor.proofs.SizeLemmas.{child-smaller}
use Rattle.rowan.specs.Ast.{casts_at, YieldsWrappers}
use Rattle.rowan_sexp.specs.declared.sexp.ast.Sexp.{Sexp}
use Rattle.rowan_sexp.specs.declared.sexp.eval.Operator.{Operator}
use Rattle.rowan_sexp.specs.Casts.{is_atom, is_list, is_sexp}
use Rattle.rowan_sexp.specs.Eval.{Reading, number_in, operator_in, atom_text, atom_text_at}
use Rattle.rowan_sexp.specs.Eval.{list_value, value_by, operator_of, value, readings}
use Rattle.rowan_sexp.specs.Eval.{operator_at_term, operator_at, value_of, value_at, result_if}
use Rattle.rowan_sexp.specs.Operation.{size_at, Operates}
use Rattle.rowan_sexp.specs.Sexp.{kind_of}
use Rattle.rowan_sexp.specs.Wrappers.{node_in}
use Rattle.rowan_sexp.specs.declared.sexp.lang.SyntaxKind.{SyntaxKind}
use Rattle.rowan_sexp.specs.declared.sexp.lang.SyntaxKind.TheVariants.{L_PAREN, R_PAREN, WORD}
use Rattle.rowan_sexp.specs.declared.sexp.lang.SyntaxKind.TheVariants.{WHITESPACE, ERROR, LIST}
use Rattle.rowan_sexp.specs.declared.sexp.lang.SyntaxKind.TheVariants.{ATOM, ROOT}

-- whether a node is an expression
abbrev pub is_sexp_at : Cursor → Bool
is_sexp_at c = casts_at kind_of is_sexp c

-- what an expression stands for in a list
abbrev pub reading_of : Option Term → Reading
reading_of t = (operator_at_term t, value_of t)

abbrev pub reading_at : Cursor → Reading
reading_at c = reading_of (term_at c)

-- ---- the expressions among children

-- the expressions of a list at a cursor
abbrev pub sexps_at : Cursor → List Cursor
sexps_at c = filter is_sexp_at (children c)

module _ (root : NodeTerm) where
  abbrev cursors : List Path → List Cursor
  cursors qs = filter is_sexp_at (map (cursor_at root) (nodes_at root qs))

  readings-token : (q : Path) (qs : List Path) (t : TokenTerm)
      → subterm (Node root) q ≡ Some (Token t) → cursors (q ∷ qs) ≡ cursors qs
  readings-token q qs t e =
      ap (λ s. filter is_sexp_at (map (cursor_at root)
      (cond (is_node s) (q ∷ nodes_at root qs) (nodes_at root qs)))) e

  readings-node : (q : Path) (qs : List Path) (n : NodeTerm) → subterm (Node root) q ≡ Some (Node n)
      → map reading_at (cursors (q ∷ qs))
      ≡ cond (is_sexp (kind_of (node_kind n)))
      ((operator_of n, value n) ∷ map reading_at (cursors qs)) (map reading_at (cursors qs))
  readings-node q qs n e =
      ap (λ s. map reading_at (filter is_sexp_at
      (map (cursor_at root) (cond (is_node s) (q ∷ nodes_at root qs) (nodes_at root qs))))) e
      ∙ ap (λ s. map reading_at (cond (option_map_or is_sexp
      (option_map kind_of (option_map term_kind s)) false) (cursor_at root q ∷ cursors qs)
      (cursors qs))) e
      ∙ by (is_sexp (kind_of (node_kind n)))
    where
      by : (b : Bool) → map reading_at (cond b (cursor_at root q ∷ cursors qs) (cursors qs))
          ≡ cond b ((operator_of n, value n) ∷ map reading_at (cursors qs))
          (map reading_at (cursors qs))
      by true = ap (λ s. reading_of s ∷ map reading_at (cursors qs)) e
      by false = refl

  -- the paths of the children from a place on
  abbrev paths-from : Path → ℕ → ℕ → List Path
  paths-from p a n = below p (numbers a n)

  -- these children stand below a path from a place on
  abbrev StandFrom : Path → ℕ → List Term → Type 0
  StandFrom p a ts = (k : ℕ) (t : Term) → slice_get ts k ≡ Some t
      → subterm (Node root) (p ++ (a + k) ∷ []) ≡ Some t

  stand-first : (p : Path) (a : ℕ) (t : Term) (ts : List Term) → StandFrom p a (t ∷ ts)
      → subterm (Node root) (p ++ a ∷ []) ≡ Some t
  stand-first p a t ts h =
      let e : a + 0 ≡ a = omega arith in
      sym (ap (λ i. subterm (Node root) (p ++ i ∷ [])) e) ∙ h 0 t refl

  stand-rest : (p : Path) (a : ℕ) (t : Term) (ts : List Term) → StandFrom p a (t ∷ ts)
      → StandFrom p (a + 1) ts
  stand-rest p a t ts h k u e =
      let same : a + 1 + k ≡ a + suc k = omega arith in
      ap (λ i. subterm (Node root) (p ++ i ∷ [])) same ∙ h (suc k) u e

  readings-from : (p : Path) (f : Forest) (a : ℕ) → StandFrom p a (terms f)
      → map reading_at (cursors (paths-from p a (length (terms f)))) ≡ readings f
  readings-from p empty a h = refl
  readings-from p (token_then t f) a h =
      ap (map reading_at) (readings-token (p ++ a ∷ []) (paths-from p (a + 1) (length (terms f))) t
      (stand-first p a (Token t) (terms f) h))
      ∙ readings-from p f (a + 1) (stand-rest p a (Token t) (terms f) h)
  readings-from p (node_then n f) a h =
      readings-node (p ++ a ∷ []) (paths-from p (a + 1) (length (terms f))) n
      (stand-first p a (Node n) (terms f) h)
      ∙ ap (λ rs. cond (is_sexp (kind_of (node_kind n))) ((operator_of n, value n) ∷ rs) rs)
      (readings-from p f (a + 1) (stand-rest p a (Node n) (terms f) h))

-- what the expressions at a cursor stand for are the readings of its node's children
readings-at : (c : Cursor) (k : ℕ) (f : Forest) → term_at c ≡ Some (Node (node k f))
    → map reading_at (sexps_at c) ≡ readings f
readings-at c k f e =
    ap (λ s. map reading_at (cursors c.root (paths-from c.root c.path 0 (length (children_of s)))))
    e
    ∙ readings-from c.root c.path f 0 stands
  where
    stands : StandFrom c.root c.path 0 (terms f)
    stands i t h =
        let same : 0 + i ≡ i = omega arith in
        ap (λ i. subterm (Node c.root) (c.path ++ i ∷ [])) same
        ∙ subterm-child (Some (Node c.root)) c.path i
        ∙ ap (λ s. slice_get (children_of s) i) e ∙ h

-- the expressions among the children of a term
abbrev pub readings_of : Option Term → List Reading
readings_of None = []
readings_of (Some (Token t)) = []
readings_of (Some (Node (node k f))) = readings f

pub all-read : (c : Cursor) → map reading_at (sexps_at c) ≡ readings_of (term_at c)
all-read c = by (term_at c) refl
  where
    none : (s : Option Term) → term_at c ≡ s
        → map reading_at (sexps_at c)
        ≡ map reading_at (cursors c.root (paths-from c.root c.path 0 (length (children_of s))))
    none s h = ap (λ s. map reading_at
        (cursors c.root (paths-from c.root c.path 0 (length (children_of s))))) h

    by : (s : Option Term) → term_at c ≡ s
        → map reading_at (sexps_at c) ≡ readings_of (term_at c)
    by None h = none None h ∙ sym (ap readings_of h)
    by (Some (Token t)) h = none (Some (Token t)) h ∙ sym (ap readings_of h)
    by (Some (Node (node k f))) h = readings-at c k f h ∙ sym (ap readings_of h)

-- ---- a list

list_by : (k : SyntaxKind) (ts : List Term) (rs : List Reading) → is_list k ≡ true
    → value_by k ts rs ≡ list_value rs
list_by LIST ts rs e = refl
list_by L_PAREN ts rs e = absurd cc
list_by R_PAREN ts rs e = absurd cc
list_by WORD ts rs e = absurd cc
list_by WHITESPACE ts rs e = absurd cc
list_by ERROR ts rs e = absurd cc
list_by ATOM ts rs e = absurd cc
list_by ROOT ts rs e = absurd cc

-- a list reads what its expressions say
pub list-reads : (c : Cursor) → casts_at kind_of is_list c ≡ true
    → value_at c ≡ list_value (map reading_at (sexps_at c))
list-reads c e = by (term_at c) refl
  where
    casts : (s : Option Term) → term_at c ≡ s
        → option_map_or is_list (option_map kind_of (option_map term_kind s)) false ≡ true
    casts s h = sym (ap (λ s. option_map_or is_list
        (option_map kind_of (option_map term_kind s)) false) h) ∙ e

    by : (s : Option Term) → term_at c ≡ s → value_at c ≡ list_value (map reading_at (sexps_at c))
    by None h = let no_cast = casts None h in absurd cc
    by (Some (Token t)) h = ap value_of h
        ∙ sym (ap (λ s. list_value (map reading_at
        (cursors c.root (paths-from c.root c.path 0 (length (children_of s)))))) h)
    by (Some (Node (node k f))) h = ap value_of h
        ∙ list_by (kind_of k) (terms f) (readings f) (casts (Some (Node (node k f))) h)
        ∙ ap list_value (sym (readings-at c k f h))

-- an atom reads what its text writes
pub atom-reads : (c : Cursor) → casts_at kind_of is_atom c ≡ true
    → value_at c ≡ option_and_then number_in (atom_text_at c)
atom-reads c e = by (term_at c) refl
  where
    by_kind : (k : SyntaxKind) (ts : List Term) (rs : List Reading) → is_atom k ≡ true
        → value_by k ts rs ≡ option_and_then number_in (atom_text ts)
    by_kind ATOM ts rs h = refl
    by_kind L_PAREN ts rs h = absurd cc
    by_kind R_PAREN ts rs h = absurd cc
    by_kind WORD ts rs h = absurd cc
    by_kind WHITESPACE ts rs h = absurd cc
    by_kind ERROR ts rs h = absurd cc
    by_kind LIST ts rs h = absurd cc
    by_kind ROOT ts rs h = absurd cc

    casts : (s : Option Term) → term_at c ≡ s
        → option_map_or is_atom (option_map kind_of (option_map term_kind s)) false ≡ true
    casts s h = sym (ap (λ s. option_map_or is_atom
        (option_map kind_of (option_map term_kind s)) false) h) ∙ e

    texts : (s : Option Term) → term_at c ≡ s
        → option_and_then number_in (atom_text (children_of s))
        ≡ option_and_then number_in (atom_text_at c)
    texts s h = sym (ap (λ s. option_and_then number_in (atom_text (children_of s))) h)

    by : (s : Option Term) → term_at c ≡ s → value_at c ≡ option_and_then number_in (atom_text_at c)
    by None h = ap value_of h ∙ texts None h
    by (Some (Token t)) h = ap value_of h ∙ texts (Some (Token t)) h
    by (Some (Node (node k f))) h = ap value_of h
        ∙ by_kind (kind_of k) (terms f) (readings f) (casts (Some (Node (node k f))) h)
        ∙ texts (Some (Node (node k f))) h

-- an atom is the operator of its text
pub atom-operator : (c : Cursor) → option_map kind_of (kind c) ≡ Some ATOM
    → operator_at c ≡ option_and_then operator_in (atom_text_at c)
atom-operator c e = by (term_at c) refl
  where
    kinds : (s : Option Term) → term_at c ≡ s
        → option_map kind_of (option_map term_kind s) ≡ Some ATOM
    kinds s h = sym (ap (λ s. option_map kind_of (option_map term_kind s)) h) ∙ e

    texts : (s : Option Term) → term_at c ≡ s
        → option_and_then operator_in (atom_text (children_of s))
        ≡ option_and_then operator_in (atom_text_at c)
    texts s h = sym (ap (λ s. option_and_then operator_in (atom_text (children_of s))) h)

    by : (s : Option Term) → term_at c ≡ s
        → operator_at c ≡ option_and_then operator_in (atom_text_at c)
    by None h = ap operator_at_term h ∙ texts None h
    by (Some (Token t)) h = ap operator_at_term h ∙ texts (Some (Token t)) h
    by (Some (Node n)) h =
        let k = kinds (Some (Node n)) h in
        let is : kind_of (node_kind n) ≡ ATOM = cc in
        ap operator_at_term h ∙ ap (λ k. cond (is_atom k)
        (option_and_then operator_in (atom_text (node_children n))) None) is
        ∙ texts (Some (Node n)) h

-- another node is none
pub other-operator : (c : Cursor) (k : SyntaxKind) → option_map kind_of (kind c) ≡ Some k
    → is_atom k ≡ false → operator_at c ≡ None
other-operator c k e other = by (term_at c) refl
  where
    by : (s : Option Term) → term_at c ≡ s → operator_at c ≡ None
    by None h = ap operator_at_term h
    by (Some (Token t)) h = ap operator_at_term h
    by (Some (Node n)) h =
        let same = sym (ap (λ s. option_map kind_of (option_map term_kind s)) h) ∙ e in
        let is : kind_of (node_kind n) ≡ k = cc in
        ap operator_at_term h ∙ ap (λ b. cond b
        (option_and_then operator_in (atom_text (node_children n))) None) (ap is_atom is ∙ other)

-- the text of an atom, by its node
pub text-first : (c : Cursor) (n : NodeTerm) (ts : List Term) → term_at c ≡ Some (Node n)
    → node_children n ≡ ts → atom_text_at c ≡ atom_text ts
text-first c n ts e h = ap (λ s. atom_text (children_of s)) e ∙ ap atom_text h

pub first-token : (ts : List Term) (t : TokenTerm) → slice_get ts 0 ≡ Some (Token t)
    → atom_text ts ≡ Some t.text
first-token [] t e = absurd cc
first-token (x ∷ ts) t e = let is : x ≡ Token t = cc in ap (λ x. atom_text (x ∷ ts)) is

pub first-node : (ts : List Term) (n : NodeTerm) → slice_get ts 0 ≡ Some (Node n)
    → atom_text ts ≡ None
first-node [] n e = absurd cc
first-node (x ∷ ts) n e = let is : x ≡ Node n = cc in ap (λ x. atom_text (x ∷ ts)) is

pub no-first : (ts : List Term) → length ts ≤ 0 → atom_text ts ≡ None
no-first [] h = refl
no-first (t ∷ ts) h = absurd (omega arith)

-- a list whose first expression is no operator reads nothing
no_operator : (first : Reading) (rs : List Reading) → first.0 ≡ None
    → list_value (first ∷ rs) ≡ None
no_operator first [] e = refl
no_operator first (a ∷ []) e = refl
no_operator first (a ∷ b ∷ rs) e = ap (λ o. result_if o a.1 b.1) e

-- ---- sizes

size-child : (t : Term) (k : ℕ) → option_map_or term_size
    (slice_get (term_children t) k) 0 < term_size t
size-child t k = by (slice_get (term_children t) k) refl
  where
    some_size : (u : Term) → 0 < term_size u
    some_size (Node n) = omega arith
    some_size (Token x) = omega arith

    by : (s : Option Term) → slice_get (term_children t) k ≡ s
        → option_map_or term_size s 0 < term_size t
    by None h = some_size t
    by (Some v) h = child-smaller t k v h

-- all of them are smaller
abbrev AreSmaller : ℕ → List Cursor → Type 0
AreSmaller n [] = ⊤
AreSmaller n (d ∷ ds) = (size_at d < n) × AreSmaller n ds

smaller-filter : (n : ℕ) (ds : List Cursor) → AreSmaller n ds → AreSmaller n (filter is_sexp_at ds)
smaller-filter n [] h = tt
smaller-filter n (d ∷ ds) h = by (is_sexp_at d) (smaller-filter n ds h.1)
  where
    by : (b : Bool) → AreSmaller n (filter is_sexp_at ds)
        → AreSmaller n (cond b (d ∷ filter is_sexp_at ds) (filter is_sexp_at ds))
    by true r = (h.0, r)
    by false r = r

smaller-from : (root : NodeTerm) (p : Path) (t : Term) → subterm (Node root) p ≡ Some t → (n a : ℕ)
    → AreSmaller (term_size t) (map (cursor_at root) (nodes_at root (paths-from root p a n)))
smaller-from root p t e zero a = tt
smaller-from root p t e (suc n) a =
    by (is_node_at root (p ++ a ∷ [])) (smaller-from root p t e n (a + 1))
  where
    here : size_at (cursor_at root (p ++ a ∷ [])) < term_size t
    here =
        let is : size_at (cursor_at root (p ++ a ∷ []))
        ≡ option_map_or term_size (slice_get (term_children t) a) 0 =
        ap (λ s. option_map_or term_size s 0) (subterm-child (Some (Node root)) p a)
        ∙ ap (λ s. option_map_or term_size (slice_get (children_of s) a) 0) e in
        omega (arith, is, size-child t a)

    by : (b : Bool) → AreSmaller (term_size t)
        (map (cursor_at root) (nodes_at root (paths-from root p (a + 1) n)))
        → AreSmaller (term_size t) (map (cursor_at root)
        (cond b ((p ++ a ∷ []) ∷ nodes_at root (paths-from root p (a + 1) n))
        (nodes_at root (paths-from root p (a + 1) n))))
    by true r = (here, r)
    by false r = r

sexps-smaller : (c : Cursor) → casts_at kind_of is_list c ≡ true
    → AreSmaller (size_at c) (sexps_at c)
sexps-smaller c e = by (term_at c) refl
  where
    by : (s : Option Term) → term_at c ≡ s → AreSmaller (size_at c) (sexps_at c)
    by None h = let no_cast = sym (ap (λ s. option_map_or is_list
        (option_map kind_of (option_map term_kind s)) false) h) ∙ e in absurd cc
    by (Some t) h =
        subst (λ n. AreSmaller n (sexps_at c)) (sym (ap (λ s. option_map_or term_size s 0) h))
        (smaller-filter (term_size t) (children c)
        (smaller-from c.root c.path t h (child_count c.root c.path) 0))

-- ---- the first expressions, one after the other

-- these expressions came first, and these children are left
pub record Left (c : Cursor) (seen : List Cursor) (rest : Rest Cursor) : Type 0 where
  pub all : IfOk rest (λ ds. sexps_at c ≡ seen ++ filter is_sexp_at ds)
  pub refusal : IfErr rest (λ e. e ≡ Memory)

pub left-start : (c : Cursor) (rest : Rest Cursor) → IfOk rest (λ nodes. nodes ≡ children c)
    → IfErr rest (λ e. e ≡ Memory) → Left c [] rest
left-start c (Ok ds) h e = record { all = sym (ap (filter is_sexp_at) h); refusal = e }
left-start c (Err f) h e = record { all = h; refusal = e }

pub left-next : (c : Cursor) (seen : List Cursor) (rest after : Rest Cursor) (x : Sexp)
    → Left c seen rest → YieldsWrappers is_sexp_at node_in rest (Some (Ok x)) after
    → Left c (seen ++ node_in x ∷ []) after
left-next c seen (Err f) after x l y = absurd y
left-next c seen (Ok cs) after x l y = subst (Left c (seen ++ node_in x ∷ [])) (sym y.3) record {
  all = l.all ∙ ap (λ xs. seen ++ xs) y.1
      ∙ sym (append_assoc seen (node_in x ∷ []) (filter is_sexp_at y.0));
  refusal = tt;
}

begins : (c : Cursor) (seen : List Cursor) (rest after : Rest Cursor) (x : Sexp) → Left c seen rest
    → YieldsWrappers is_sexp_at node_in rest (Some (Ok x)) after
    → (ds : List Cursor) × (sexps_at c ≡ seen ++ node_in x ∷ ds)
begins c seen (Err f) after x l y = absurd y
begins c seen (Ok cs) after x l y = (filter is_sexp_at y.0, l.all ∙ ap (λ xs. seen ++ xs) y.1)

pub left-end : (c : Cursor) (seen : List Cursor) (rest after : Rest Cursor) → Left c seen rest
    → YieldsWrappers is_sexp_at node_in rest None after → sexps_at c ≡ seen
left-end c seen (Err f) after l y = absurd y
left-end c seen (Ok cs) after l y = l.all ∙ ap (λ xs. seen ++ xs) y.0 ∙ append-nil seen

pub left-refused : (c : Cursor) (seen : List Cursor) (rest after : Rest Cursor) (f : Fault)
    → Left c seen rest → YieldsWrappers is_sexp_at node_in rest (Some (Err f)) after → f ≡ Memory
left-refused c seen (Err e) after f l y = y.0 ∙ l.refusal
left-refused c seen (Ok cs) after f l y = y.0

reads-as : (c : Cursor) (ds : List Cursor) → casts_at kind_of is_list c ≡ true → sexps_at c ≡ ds
    → value_at c ≡ list_value (map reading_at ds)
reads-as c ds h e = list-reads c h ∙ ap (λ xs. list_value (map reading_at xs)) e

-- a list of fewer than three expressions reads nothing
pub none-at-all : (c : Cursor) (rest after : Rest Cursor) → casts_at kind_of is_list c ≡ true
    → Left c [] rest → YieldsWrappers is_sexp_at node_in rest None after → value_at c ≡ None
none-at-all c rest after h l y = reads-as c [] h (left-end c [] rest after l y)

pub only-one : (c : Cursor) (rest after : Rest Cursor) (x : Cursor)
    → casts_at kind_of is_list c ≡ true → Left c (x ∷ []) rest
    → YieldsWrappers is_sexp_at node_in rest None after → value_at c ≡ None
only-one c rest after x h l y = reads-as c (x ∷ []) h (left-end c (x ∷ []) rest after l y)

pub only-two : (c : Cursor) (rest after : Rest Cursor) (x y : Cursor)
    → casts_at kind_of is_list c ≡ true → Left c (x ∷ y ∷ []) rest
    → YieldsWrappers is_sexp_at node_in rest None after → value_at c ≡ None
only-two c rest after x y h l w = reads-as c (x ∷ y ∷ []) h (left-end c (x ∷ y ∷ []) rest after l w)

-- nor does one whose first expression is no operator
pub not-operator : (c : Cursor) (rest after : Rest Cursor) (x : Sexp)
    → casts_at kind_of is_list c ≡ true → Left c [] rest
    → YieldsWrappers is_sexp_at node_in rest (Some (Ok x)) after → operator_at (node_in x) ≡ None
    → value_at c ≡ None
not-operator c rest after x h l y none =
    let b = begins c [] rest after x l y in
    reads-as c (node_in x ∷ b.0) h b.1
    ∙ no_operator (reading_at (node_in x)) (map reading_at b.0) none

-- any other reads what its operator gives
pub operates : (c : Cursor) (rest after : Rest Cursor) (o : Operator) (x : Cursor) (left : Cursor)
    (right : Sexp) → casts_at kind_of is_list c ≡ true → Left c (x ∷ left ∷ []) rest
    → YieldsWrappers is_sexp_at node_in rest (Some (Ok right)) after → operator_at x ≡ Some o
    → Operates c o left (node_in right)
operates c rest after o x left right h l y is =
    let b = begins c (x ∷ left ∷ []) rest after right l y in
    let small = subst (AreSmaller (size_at c)) b.1 (sexps-smaller c h) in
    record {
      value = reads-as c (x ∷ left ∷ node_in right ∷ b.0) h b.1
          ∙ ap (λ o. result_if o (value_at left) (value_at (node_in right))) is;
      left_smaller = small.1.0;
      right_smaller = small.1.1.0;
    }
