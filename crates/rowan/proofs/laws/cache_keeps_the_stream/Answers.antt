use Rattle.std.proofs.Common.{◌≡◌, ◌++◌, sym, ◌∙◌, ap, subst, refl}
use Rattle.rowan_builder.specs.Cache.{first_seen}
use Rattle.rowan_builder.proofs.StreamLemmas.{intern_all-first_seen}
use Rattle.rowan_script.specs.Requests.{stream}
use Rattle.rowan.proofs.laws.cache_keeps_the_stream.Goals as goal

pub returns-clause-cache : goal.returns-clause-cache
returns-clause-cache c = λ old new calls outcomes run. run.interns

pub returns-clause-first : goal.returns-clause-first
returns-clause-first c = λ old new calls outcomes run own.
    ap (λ k. k.seen) (run.interns ∙ intern_all-first_seen old.cache (stream run.words) own)

pub returns-clause-from_empty : goal.returns-clause-from_empty
returns-clause-from_empty c = λ old new calls outcomes run empty.
    let own : first_seen old.cache.limit old.cache.seen ≡ old.cache.seen =
    subst (λ seen. first_seen old.cache.limit seen ≡ seen) (sym empty) refl in
    ap (λ k. k.seen) (run.interns ∙ intern_all-first_seen old.cache (stream run.words) own)
    ∙ ap (λ seen. first_seen old.cache.limit (seen ++ stream run.words)) empty
