-- What is said where a token does not fit.
use Rattle.std.specs.Prelude.{ℕ, zero, suc, ◌==◌, ◌+◌, Bool, true, if◌then◌else◌, codes}
use Rattle.std.specs.Prelude.{List, [], ◌∷◌, ◌++◌, length, Option, Some, None, slice_get}
use Rattle.std.specs.Borrow.{Bor}
use Rattle.rowan_events.specs.Seen.{has}
use Rattle.rowan_predictive.specs.declared.rules.Complaint.{Complaint}
use Rattle.rowan_predictive.specs.declared.rules.Entry.{Entry}
use Rattle.rowan_predictive.specs.Choice.{may_be_empty}
use Rattle.rowan_predictive.specs.Sets.{first_set, follow_set}

-- a token of this kind fits where rule i is expected
abbrev pub fits_at : List Entry → ℕ → ℕ → Bool
fits_at entries i kind =
    if may_be_empty entries i
    then (if has (first_set entries i) kind then true else has (follow_set entries i) kind)
    else has (first_set entries i) kind

-- of the kinds from k on, so many, those that fit
unfoldable pub fitting_from : (ℕ → Bool) → ℕ → ℕ → List ℕ
fitting_from fits zero k = []
fitting_from fits (suc n) k =
    if fits k then (k ∷ fitting_from fits n (suc k)) else fitting_from fits n (suc k)

abbrev pub fitting : List Entry → ℕ → List ℕ
fitting entries i = fitting_from (fits_at entries i) 128 0

abbrev pub word_in : Option (Bor (List ℕ)) → List ℕ
word_in None = codes "another token"
word_in (Some word) = word.now

abbrev pub word_of : List (Bor (List ℕ)) → ℕ → List ℕ
word_of words kind = word_in (slice_get words kind)

-- what stands before name number i of so many
abbrev pub separator : ℕ → ℕ → List ℕ
separator i count =
    if i == 0 then [] else (if i + 1 == count then codes " or " else codes ", ")

-- the names of the kinds from number i on, of so many
abbrev pub words_from : List (Bor (List ℕ)) → ℕ → ℕ → List ℕ → List ℕ
words_from words count i [] = []
words_from words count i (kind ∷ kinds) =
    separator i count ++ (word_of words kind ++ words_from words count (i + 1) kinds)

-- `a, b or c`
abbrev pub words_text : List (Bor (List ℕ)) → List ℕ → List ℕ
words_text words kinds = words_from words (length kinds) 0 kinds

abbrev pub message_in : List Entry → List (Bor (List ℕ)) → Option ℕ → List ℕ
message_in entries words None = codes "expected the end of the text"
message_in entries words (Some i) = codes "expected " ++ words_text words (fitting entries i)

abbrev pub message_of : List Entry → List (Bor (List ℕ)) → Complaint → List ℕ
message_of entries words complaint = message_in entries words complaint.rule
