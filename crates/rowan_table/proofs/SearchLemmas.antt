-- Laws of searches: the child at a range in the table, and what covers a range.
use Rattle.std.proofs.Common.{◌≡◌, ℕ, ◌+◌, ◌-◌, ◌<◌, ◌≤◌, [], ◌∷◌, ◌++◌, length, Option, Some, None}
use Rattle.std.proofs.Common.{refl, sym, ◌∙◌, ap, subst, arith}
use Rattle.std.specs.Prelude.{slice_get, IfSome, IsNone}
use Rattle.std.specs.Option.{option_map}
use Rattle.rowan_green.specs.declared.utility_types.NodeOrToken.TheVariants.{Node}
use Rattle.rowan_green.specs.Search.{child_start, child_end, IsOnlyChoice}
use Rattle.rowan_green.specs.Fits.{byte_limit}
use Rattle.rowan_green.specs.Span.{Span}
use Rattle.rowan_green.specs.Term.{NodeTerm}
use Rattle.rowan_terms.specs.Path.{Path, subterm, offset, len_of, range}
use Rattle.rowan_green.proofs.SearchLemmas.{bounds}
use Rattle.rowan_table.specs.declared.table.Table.{Table}
use Rattle.rowan_table.specs.declared.table.search.Place.{Place}
use Rattle.rowan_table.specs.Table.{Describes}
use Rattle.rowan_table.specs.TableView.{root_of, path_at, cursor_of, element_of, paths_below}
use Rattle.rowan_table.specs.TableView.{IsWithin, IsPlace, IsChildUpTo, StretchShows, entries_of}
use Rattle.rowan_table.specs.Moves.{Element, children_of, child_count}
use Rattle.rowan_table.specs.Search.{IsRangeChild, IsOnlyRangeChild, Covers, Finds}
use Rattle.rowan_table.specs.Cursor.{text_range}
use Rattle.rowan_table.specs.Equal.{start_of}
use Rattle.rowan_table.proofs.EndLemmas.{end-next, end-last}
use Rattle.rowan_table.proofs.PathLemmas.{subterm-child, offset-child, child_start-next}
use Rattle.rowan_table.proofs.SkipLemmas.{row_count, child_path, child_later}
use Rattle.rowan_table.proofs.TableLemmas.{slice_get-some, is_entry}

-- ---- where a child lies

-- by the children before it
child_span : (root : NodeTerm) (p q : Path) (k : ℕ) → q ≡ p ++ k ∷ [] → k < child_count root p
    → ((range (Node root) q).start ≡ offset (Node root) p
    + child_start (children_of (subterm (Node root) p)) k)
    × ((range (Node root) q).end ≡ offset (Node root) p
    + child_end (children_of (subterm (Node root) p)) k)
child_span root p q k path within =
    let ts = children_of (subterm (Node root) p) in
    let own = p ++ k ∷ [] in
    let from : offset (Node root) own ≡ offset (Node root) p + child_start ts k =
    offset-child root p k within in
    let start : offset (Node root) q ≡ offset (Node root) own = ap (offset (Node root)) path in
    let len : len_of (subterm (Node root) q) ≡ len_of (slice_get ts k) =
    ap (λ r. len_of (subterm (Node root) r)) path
    ∙ ap len_of (subterm-child (Some (Node root)) p k) in
    (omega (arith, start, from), omega (arith, start, from, len, child_start-next ts k within))

-- the last child ends where its parent does, and another one where the next begins
pub end_of_last : (t : Table) (stop limit n : ℕ) → IsChildUpTo t stop limit n → n + 1 ≡ stop
    → limit ≡ (text_range (cursor_of t n)).end
end_of_last t stop limit n c last =
    let es = entries_of t in
    let root = root_of t in
    let p = path_at t c.parent in
    let here = child_path es root p c.first stop n c.row c.from c.to in
    let count = row_count es root p c.first stop c.row in
    c.ends ∙ end-last root p (n - c.first) (omega (arith, count, last, c.from))
    ∙ sym (ap (λ q. offset (Node root) q + len_of (subterm (Node root) q)) here.0)

pub end_of_other : (t : Table) (stop limit n : ℕ) → IsChildUpTo t stop limit n → (n + 1 ≡ stop → ⊥)
    → start_of (cursor_of t (n + 1)) ≡ (text_range (cursor_of t n)).end
end_of_other t stop limit n c other =
    let es = entries_of t in
    let root = root_of t in
    let p = path_at t c.parent in
    let less : n + 1 < stop = omega (arith, c.to, other) in
    let here = child_path es root p c.first stop n c.row c.from c.to in
    let next = child_path es root p c.first stop (n + 1) c.row (omega (arith, c.from)) less in
    let place : n + 1 - c.first ≡ n - c.first + 1 = omega (arith, c.from) in
    ap (offset (Node root)) (next.0 ∙ ap (λ i. p ++ i ∷ []) place)
    ∙ end-next root p (n - c.first) (omega (arith, next.1, place))
    ∙ sym (ap (λ q. offset (Node root) q + len_of (subterm (Node root) q)) here.0)

-- the child at a place among the children of an element, whose numbers are those from `first` up to
-- `stop`
pub record IsAtPlace (t : Table) (parent : Place) (first stop k : ℕ) : Type 0 where
  pub up : (limit : ℕ) → limit ≡ parent.range.end → IsChildUpTo t stop limit (first + k)
  pub count : k < child_count (root_of t) (path_at t parent.number)
  pub path : path_at t (first + k) ≡ path_at t parent.number ++ k ∷ []
  pub less : first + k < stop
  pub within : IsWithin t (first + k)
  pub later : parent.number < first + k

pub at_place : {t : Table} {parent : Place} {first stop : ℕ} (k : ℕ) → IsPlace t parent
    → StretchShows t first stop (paths_below t parent.number)
    → k < child_count (root_of t) (path_at t parent.number)
    → IsAtPlace t parent first stop k
at_place {t} {parent} {first} {stop} k here row count =
    let es = entries_of t in
    let n = parent.number in
    let root = root_of t in
    let p = path_at t n in
    let m = first + k in
    let less : m < stop = omega (arith, count, row_count es root p first stop row) in
    let place : m - first ≡ k = omega arith in
    let path : path_at t m ≡ p ++ k ∷ [] = (child_path es root p first stop m row (omega arith)
    less).0 ∙ ap (λ i. p ++ i ∷ []) place in
    let within : m < length es = omega (arith, less, row.within) in
    record {
      up = λ limit ends. record {
        parent = n;
        first = first;
        row = row;
        from = omega arith;
        to = less;
        ends = ends ∙ ap (λ (r : Span). r.end) here.lies;
      };
      count = count;
      path = path;
      less = less;
      within = within;
      later = child_later es t.complete n m k here.within within path;
    }

-- where its text lies, by the children before it
pub place_lies : {t : Table} {parent : Place} {first stop k : ℕ} {own : Span}
    → IsAtPlace t parent first stop k → own ≡ text_range (cursor_of t (first + k))
    → (own.start ≡ offset (Node (root_of t)) (path_at t parent.number)
    + child_start (children_of (subterm (Node (root_of t)) (path_at t parent.number))) k)
    × (own.end ≡ offset (Node (root_of t)) (path_at t parent.number)
    + child_end (children_of (subterm (Node (root_of t)) (path_at t parent.number))) k)
place_lies {t} {parent} {first} {stop} {k} {own} here is =
    let lies = child_span (root_of t) (path_at t parent.number) (path_at t (first + k)) k here.path
    here.count in
    (ap (λ (r : Span). r.start) is ∙ lies.0, ap (λ (r : Span). r.end) is ∙ lies.1)

-- a place ends within the limit of a text
pub place_limit : {t : Table} {place : Place} → IsPlace t place → place.range.end ≤ byte_limit
place_limit {t} {place} here =
    let es = entries_of t in
    let e = slice_get-some es place.number here.within in
    let is : Describes es place.number e.0 = is_entry es t.complete place.number e.0 e.1 in
    omega (arith, is.end, is.start, ap (λ (r : Span). r.end) here.lies)

-- ---- in the table

-- the only choice of the search is the only child that can be the one at the range
pub only_range_child : (root : NodeTerm) (span : Span) (p q : Path) (k : ℕ) → q ≡ p ++ k ∷ []
    → k < child_count root p → offset (Node root) p ≤ span.start
    → (span.start - offset (Node root) p ≤ span.end - offset (Node root) p
    → IsOnlyChoice (children_of (subterm (Node root) p)) (span.start - offset (Node root) p)
    (span.end - offset (Node root) p) k)
    → IsOnlyRangeChild root span p q
only_range_child root span p q k path within from choice =
    let ts = children_of (subterm (Node root) p) in
    let a = span.start - offset (Node root) p in
    let b = span.end - offset (Node root) p in
    let own = child_span root p q k path within in
    record {
      is = λ order lies. record {
        place = k;
        path = path;
        from = from;
        child = (choice (omega (arith, order))).is record {
          place = within;
          from = omega (arith, own.0, lies.0, from);
          to = omega (arith, own.1, lies.1, from);
        };
      };
      only = λ r c. c.path ∙ ap (λ j. p ++ j ∷ [])
          ((choice (bounds ts a b c.place c.child).order).only c.place c.child).0 ∙ sym path;
    }

-- what is found in the table by its number, as an answer
finds-number : (t : Table) (P : Path → Type 0) (o : Option ℕ) → IfSome o (λ n. P (path_at t n))
    → (IsNone o → (q : Path) → ¬ P q) → Finds (root_of t) P (option_map (element_of t) o)
finds-number t P None some none = none refl
finds-number t P (Some n) some none = record { path = path_at t n; true = some; is = refl }

pub finds-answer : (t : Table) (P : Path → Type 0) (o : Option ℕ) (found : Option Element)
    → found ≡ option_map (element_of t) o → IfSome o (λ n. P (path_at t n))
    → (IsNone o → (q : Path) → ¬ P q)
    → Finds (root_of t) P found
finds-answer t P o found e some none = subst (Finds (root_of t) P) (sym e)
    (finds-number t P o some none)

-- ---- coverings

-- what covers the range below its child covers it below the element
pub covers_child : (root : NodeTerm) (span : Span) (p q r : Path) → IsRangeChild root span p q
    → Covers root span q r → Covers root span p r
covers_child root span p q r child c = record
    { chain = q ∷ c.chain; is = (child, c.is); last = c.last }

-- an element without a child at the range covers it
pub covers_itself : (root : NodeTerm) (span : Span) (p : Path)
    → ((q : Path) → ¬ IsRangeChild root span p q) → Covers root span p p
covers_itself root span p none = record { chain = []; is = none; last = refl }
