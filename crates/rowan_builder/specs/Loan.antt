-- A builder and the cache that is lent to it: which cache it is, and what is left there when the
-- builder ends.
use Rattle.std.specs.Prelude.{◌≡◌, ℕ, List, [], Result, Ok, Err}
use Rattle.std.specs.Borrow.{Fml, GName, MutBor, follows_so}
use Rattle.std.specs.Result.{OnOk, OnErr}
use mathlib.Core.Option as maybe
use Rattle.rowan_builder.specs.declared.builder.GreenNodeBuilder.{GreenNodeBuilder}
use Rattle.rowan_builder.specs.declared.builder.Unfinished.{Unfinished}
use Rattle.rowan_green.specs.declared.fault.Fault.{Fault}
use Rattle.rowan_builder.specs.contracts.node_cache.NodeCache.{the_row}
use Rattle.rowan_builder.specs.Builder.{BuilderValue}
use Rattle.rowan_builder.specs.Cache.{CacheValue}
use Rattle.rowan_green.specs.Word.{Symbol, word_text}

abbrev pub value_of : {H : Type 0} → GreenNodeBuilder H BuilderValue → BuilderValue
value_of b = b.inner

abbrev pub word_of : {H : Type 0} → GreenNodeBuilder H BuilderValue → List Symbol
word_of b = (value_of b).word

abbrev pub cache_of : {H : Type 0} → GreenNodeBuilder H BuilderValue → CacheValue
cache_of b = (value_of b).cache

-- the texts of the tokens that were added so far, one after the other
abbrev pub text_so_far : {H : Type 0} → GreenNodeBuilder H BuilderValue → List ℕ
text_so_far b = word_text (word_of b)

-- this text where the call was accepted, and none where it was refused
abbrev pub if_accepted : {A E : Type 0} → Result A E → List ℕ → List ℕ
if_accepted (Ok x) text = text
if_accepted (Err e) text = []

-- the name of the `&mut` by which the builder has its cache's home
abbrev pub loan_of : {H : Type 0} → GreenNodeBuilder H BuilderValue → GName
loan_of b = b.home.ghost_name

-- ---- a builder that `finish` hands back

abbrev pub unfinished_value : {H : Type 0} → Unfinished H BuilderValue → BuilderValue
unfinished_value u = u.inner

abbrev pub fault_of : {H : Type 0} → Unfinished H BuilderValue → Fault
fault_of u = u.fault

abbrev pub unfinished_loan : {H : Type 0} → Unfinished H BuilderValue → GName
unfinished_loan u = u.home.ghost_name

-- ---- what the lent cache ends as

abbrev pub loan_if_refused : {H A : Type 0}
    → Result A (Unfinished H BuilderValue) → maybe.Option GName
loan_if_refused (Ok x) = maybe.none
loan_if_refused (Err u) = maybe.some (unfinished_loan u)

-- After success the lent cache has what the builder's cache had. After a refusal the loan goes on.
abbrev pub LeavesCacheUnlessRefused : {A : Type 0} → GreenNodeBuilder CacheValue BuilderValue
    → Result A (Unfinished CacheValue BuilderValue) → Fml
LeavesCacheUnlessRefused b r =
    follows_so the_row the_row (loan_of b) (loan_if_refused r)
    (λ x n. OnErr r (n ≡ x)) (λ n. OnOk r (n ≡ cache_of b))

-- whatever the work answers, it leaves the builder with the loan that it had
abbrev pub KeepsLoan : {H R : Type 0}
    → (MutBor (GreenNodeBuilder H BuilderValue) → R
    → MutBor (GreenNodeBuilder H BuilderValue) → Type 0)
    → Type 0
KeepsLoan {H} {R} work =
    (first last : MutBor (GreenNodeBuilder H BuilderValue)) (r : R) → work first r last
    → loan_of last.now ≡ loan_of first.now

-- the work took a builder of this value to a last one, and the home received what that has in its
-- cache
pub record LeavesCacheOfRun {H R : Type 0}
    (receives : H → CacheValue → Type 0)
    (work : GreenNodeBuilder H BuilderValue → R → GreenNodeBuilder H BuilderValue → Type 0)
    (value : BuilderValue) (r : R) (home : H) : Type 0 where
  pub first : GreenNodeBuilder H BuilderValue
  pub begins : value_of first ≡ value
  pub last : GreenNodeBuilder H BuilderValue
  pub ran : work first r last
  pub ends : receives home (cache_of last)
