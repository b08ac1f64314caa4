-- What the answers for the leaves of a tree change in its text.
use Rattle.std.proofs.Common.{◌≡◌, ℕ, ◌+◌, ◌≤◌, List, [], ◌∷◌, ◌++◌, map, length, refl, sym}
use Rattle.std.proofs.Common.{◌∙◌, ap, arith, append_assoc, length-append}
use Rattle.std.specs.List.{AllByRecursion}
use Rattle.std.proofs.lemmas.Grind.{flat_map-append}
use Rattle.std.proofs.lemmas.List.{append-nil}
use Rattle.rowan_green.specs.declared.utility_types.NodeOrToken.TheVariants.{Token}
use Rattle.rowan_green.specs.Fits.{byte_limit}
use Rattle.rowan_terms.specs.Path.{LeafAt}
use Rattle.rowan_green.specs.Span.{Span}
use Rattle.rowan_green.specs.Term.{TokenTerm, Term, token_len, term_text, joined_text, sum_of_lens}
use Rattle.rowan_green.proofs.Terms.{length-joined_text}
use Rattle.rowan_changes.specs.declared.changes.Change.{Change}
use Rattle.rowan_rewrite.specs.declared.rewriting.Rewrite.{Rewrite}
use Rattle.rowan_rewrite.specs.declared.rewriting.Rewrite.TheVariants.{Keep, KeepBehind, Remove, Replace}
use Rattle.rowan_changes.specs.Changes.{old_bytes, new_bytes}
use Rattle.rowan_changes.specs.ChangesKept.{Follow, last_end, CanBeKept}
use Rattle.rowan_rewrite.specs.Rewriting.{in_place, rewritten_text, insertion_of, change_of}
use Rattle.rowan_rewrite.specs.Rewriting.{rewrite_changes, put_len}
use Rattle.rowan_rewrite.proofs.LeafOffsets.{bytes_of}

abbrev pub tokens_of : List LeafAt → List TokenTerm
tokens_of ls = map (λ l. l.1) ls

-- one answer for each leaf
abbrev pub HaveAnswers : List LeafAt → List Rewrite → Type 0
HaveAnswers [] [] = Unit {0}
HaveAnswers [] (a ∷ answers) = ⊥
HaveAnswers (l ∷ ls) [] = ⊥
HaveAnswers (l ∷ ls) (a ∷ answers) = HaveAnswers ls answers

-- what each answer puts in is within the limit
abbrev pub PutWithin : List Rewrite → Type 0
PutWithin answers = AllByRecursion (λ a. put_len a ≤ byte_limit) answers

-- the range of a token whose text starts at an offset
abbrev pub range_from : ℕ → TokenTerm → Span
range_from at t = record { start = at; end = at + token_len t }

-- ---- one more answer

pub within-more : (answers : List Rewrite) (a : Rewrite) → PutWithin (answers ++ a ∷ [])
    → PutWithin answers × (put_len a ≤ byte_limit)
within-more [] a h = (tt, h.0)
within-more (b ∷ answers) a h = let rest = within-more answers a h.1 in ((h.0, rest.0), rest.1)

pub changes-more : (at : ℕ) (ls : List LeafAt) (answers : List Rewrite) (l : LeafAt) (a : Rewrite)
    → HaveAnswers ls answers
    → rewrite_changes at (tokens_of (ls ++ l ∷ [])) (answers ++ a ∷ [])
    ≡ rewrite_changes at (tokens_of ls) answers ++ change_of (range_from (at + bytes_of ls) l.1) a
changes-more at [] [] l a h =
    let here : at ≡ at + 0 = omega arith in
    append-nil (change_of (range_from at l.1) a)
    ∙ ap (λ k. change_of (range_from k l.1) a) here
changes-more at [] (b ∷ answers) l a h = absurd h
changes-more at (k ∷ ls) [] l a h = absurd h
changes-more at (k ∷ ls) (b ∷ answers) l a h =
    let first = change_of (range_from at k.1) b in
    let next = at + token_len k.1 in
    let on : next + bytes_of ls ≡ at + bytes_of (k ∷ ls) = omega arith in
    ap (λ cs. first ++ cs) (changes-more next ls answers l a h)
    ∙ sym (append_assoc first (rewrite_changes next (tokens_of ls) answers)
    (change_of (range_from (next + bytes_of ls) l.1) a))
    ∙ ap (λ n. (first ++ rewrite_changes next (tokens_of ls) answers)
    ++ change_of (range_from n l.1) a) on

-- ---- how long the texts are

joined-behind : (new : List Term) (t : TokenTerm)
    → joined_text (new ++ Token t ∷ []) ≡ joined_text new ++ t.text
joined-behind new t =
    flat_map-append term_text new (Token t ∷ [])
    ∙ ap (λ text. joined_text new ++ text) (append-nil t.text)

put-len : (t : TokenTerm) (a : Rewrite) → put_len a ≤ length (joined_text (in_place t a))
put-len t Keep = omega arith
put-len t (KeepBehind new) =
    let all = joined-behind new.items t in
    omega (
      arith,
      length-joined_text new.items,
      ap length all,
      length-append (joined_text new.items) t.text,
    )
put-len t Remove = omega arith
put-len t (Replace new) = omega (arith, length-joined_text new.items)

pub within-text : (ls : List LeafAt) (answers : List Rewrite) → HaveAnswers ls answers
    → length (rewritten_text (tokens_of ls) answers) ≤ byte_limit → PutWithin answers
within-text [] [] h fits = tt
within-text [] (a ∷ answers) h fits = absurd h
within-text (l ∷ ls) [] h fits = absurd h
within-text (l ∷ ls) (a ∷ answers) h fits =
    let own = joined_text (in_place l.1 a) in
    let rest = rewritten_text (tokens_of ls) answers in
    let both : length (own ++ rest) ≡ length own + length rest = length-append own rest in (
      omega (arith, put-len l.1 a, both, fits),
      within-text ls answers h (omega (arith, both, fits)),
    )

-- an insertion takes no bytes away, and puts those of its elements
insertion-old : (at : ℕ) (new : List Term) (more : List Change)
    → old_bytes (insertion_of at new ++ more) ≡ old_bytes more
insertion-old at [] more = refl
insertion-old at (t ∷ ts) more = omega arith

insertion-new : (at : ℕ) (new : List Term) (more : List Change)
    → new_bytes (insertion_of at new ++ more) ≡ sum_of_lens new + new_bytes more
insertion-new at [] more = omega arith
insertion-new at (t ∷ ts) more = refl

-- the new text is as much longer than the old one as the changes say
balance : (at : ℕ) (ls : List LeafAt) (answers : List Rewrite) → HaveAnswers ls answers
    → length (rewritten_text (tokens_of ls) answers)
    + old_bytes (rewrite_changes at (tokens_of ls) answers)
    ≡ bytes_of ls + new_bytes (rewrite_changes at (tokens_of ls) answers)
balance at [] [] h = refl
balance at [] (a ∷ answers) h = absurd h
balance at (l ∷ ls) [] h = absurd h
balance at (l ∷ ls) (Keep ∷ answers) h =
    omega (
      arith,
      length-append (l.1.text ++ []) (rewritten_text (tokens_of ls) answers),
      ap length (append-nil l.1.text),
      balance (at + token_len l.1) ls answers h,
    )
balance at (l ∷ ls) (KeepBehind new ∷ answers) h =
    let next = at + token_len l.1 in
    let own = joined_text (new.items ++ Token l.1 ∷ []) in
    let rest = rewritten_text (tokens_of ls) answers in
    let more = rewrite_changes next (tokens_of ls) answers in
    omega (
      arith,
      length-append own rest,
      ap length (joined-behind new.items l.1),
      length-append (joined_text new.items) l.1.text,
      length-joined_text new.items,
      insertion-old at new.items more,
      insertion-new at new.items more,
      balance next ls answers h,
    )
balance at (l ∷ ls) (Remove ∷ answers) h =
    omega (arith, balance (at + token_len l.1) ls answers h)
balance at (l ∷ ls) (Replace new ∷ answers) h =
    omega (
      arith,
      length-append (joined_text new.items) (rewritten_text (tokens_of ls) answers),
      length-joined_text new.items,
      balance (at + token_len l.1) ls answers h,
    )

-- ---- the order of changes

follow-insertion : (from at : ℕ) (new : List Term) (more : List Change) → from ≤ at
    → Follow from more → Follow at more → Follow from (insertion_of at new ++ more)
follow-insertion from at [] more le none some = none
follow-insertion from at (t ∷ ts) more le none some = (le, (omega arith, some))

last-insertion : (from at end : ℕ) (new : List Term) (more : List Change)
    → last_end from more ≤ end → last_end at more ≤ end
    → last_end from (insertion_of at new ++ more) ≤ end
last-insertion from at end [] more none some = none
last-insertion from at end (t ∷ ts) more none some = some

follow : (from at : ℕ) (ls : List LeafAt) (answers : List Rewrite) → HaveAnswers ls answers
    → from ≤ at → Follow from (rewrite_changes at (tokens_of ls) answers)
follow from at [] [] h le = tt
follow from at [] (a ∷ answers) h le = absurd h
follow from at (l ∷ ls) [] h le = absurd h
follow from at (l ∷ ls) (Keep ∷ answers) h le =
    follow from (at + token_len l.1) ls answers h (omega (arith, le))
follow from at (l ∷ ls) (KeepBehind new ∷ answers) h le =
    let end = at + token_len l.1 in
    follow-insertion from at new.items (rewrite_changes end (tokens_of ls) answers) le
    (follow from end ls answers h (omega (arith, le)))
    (follow at end ls answers h (omega arith))
follow from at (l ∷ ls) (Remove ∷ answers) h le =
    let end = at + token_len l.1 in
    (le, (omega arith, follow end end ls answers h (omega arith)))
follow from at (l ∷ ls) (Replace new ∷ answers) h le =
    let end = at + token_len l.1 in
    (le, (omega arith, follow end end ls answers h (omega arith)))

last : (from at : ℕ) (ls : List LeafAt) (answers : List Rewrite) → HaveAnswers ls answers
    → from ≤ at → last_end from (rewrite_changes at (tokens_of ls) answers) ≤ at + bytes_of ls
last from at [] [] h le = omega (arith, le)
last from at [] (a ∷ answers) h le = absurd h
last from at (l ∷ ls) [] h le = absurd h
last from at (l ∷ ls) (Keep ∷ answers) h le =
    omega (arith, last from (at + token_len l.1) ls answers h (omega (arith, le)))
last from at (l ∷ ls) (KeepBehind new ∷ answers) h le =
    let end = at + token_len l.1 in
    omega (
      arith,
      last-insertion from at (at + bytes_of (l ∷ ls)) new.items
          (rewrite_changes end (tokens_of ls) answers)
          (omega (arith, last from end ls answers h (omega (arith, le))))
          (omega (arith, last at end ls answers h (omega arith))),
    )
last from at (l ∷ ls) (Remove ∷ answers) h le =
    let end = at + token_len l.1 in omega (arith, last end end ls answers h (omega arith))
last from at (l ∷ ls) (Replace new ∷ answers) h le =
    let end = at + token_len l.1 in omega (arith, last end end ls answers h (omega arith))

-- the changes of a tree whose new text is within the limit
pub can_be_kept : (ls : List LeafAt) (answers : List Rewrite) → HaveAnswers ls answers
    → length (rewritten_text (tokens_of ls) answers) ≤ byte_limit
    → CanBeKept (rewrite_changes 0 (tokens_of ls) answers)
can_be_kept ls answers h fits = record {
  follow = follow 0 0 ls answers h (omega arith);
  fits = omega (arith, fits, balance 0 ls answers h, last 0 0 ls answers h (omega arith));
}
