use Rattle.std.proofs.Common.{◌++◌, ◌≡◌, sym, ◌∙◌, ap, subst}
use Rattle.std.specs.Result.{OnOk}
use Rattle.rowan_green.specs.declared.utility_types.NodeOrToken.TheVariants.{Node}
use Rattle.rowan_builder.specs.Cache.{first_seen}
use Rattle.rowan_builder.specs.Stream.{subterms}
use Rattle.rowan_green.specs.Term.{node_text}
use Rattle.rowan_builder.proofs.StreamLemmas.{InternsWord-starts, InternsWord-finished}
use Rattle.rowan_builder.proofs.StreamLemmas.{intern_all-first_seen}
use Rattle.rowan_sexp.proofs.ParsingLemmas.{IsTree-kind, IsTree-refuses}
use Rattle.rowan_sexp.proofs.WordLemmas.{parse_of}
use Rattle.rowan_sexp.proofs.AskedLemmas.{on_err_any, interns_begun}
use Rattle.rowan_sexp.proofs.sexp.parser.parse_with.Goals as goal

pub returns-in-Ok-clause-text : goal.returns-in-Ok-clause-text
returns-in-Ok-clause-text c =
    ap node_text c.new.ensures ∙ c.in-Ok.ensures.text ∙ c.in_ok-build.ensures.text

pub returns-in-Ok-clause-interned : goal.returns-in-Ok-clause-interned
returns-in-Ok-clause-interned c =
    let began = c.with_cache-builder.result.inner in
    let ended = c.build.new.builder.inner in
    let intern = c.build.ensures.stream.keeps c.args.cache.now
    (InternsWord-starts c.args.cache.now began (ap (λ b. b.word) c.with_cache-builder.ensures.empty)
    (ap (λ b. b.cache) c.with_cache-builder.ensures.empty)) in
    let left = subst (λ r. OnOk r (c.finish.follows.lender-at-none ≡ ended.cache)) c.in-Ok.is
    c.finish.follows.holds-at-none in
    let all = c.cache-in-Ok-2.given.1 (sym
    (c.build.ensures.loan ∙ c.with_cache-builder.ensures.loan)) ∙ left
    ∙ InternsWord-finished c.args.cache.now ended c.in-Ok.green intern c.in-Ok.ensures.ok in
    ap (λ d. d.seen) (all ∙ intern_all-first_seen c.args.cache.now
    (subterms (Node c.in-Ok.green)) c.with_cache-builder.ensures.first)
    ∙ ap (λ n. first_seen c.args.cache.now.limit (c.args.cache.now.seen ++ subterms (Node n)))
    (sym c.new.ensures)

pub new-requires : goal.new-requires
new-requires c = IsTree-kind c.build.new.builder.inner.word c.in-Ok.green c.in_ok-build.ensures.ok
    c.in-Ok.ensures.ok

pub unreachable-requires : goal.unreachable-requires
unreachable-requires c = IsTree-refuses c.build.new.builder.inner.word c.in-Err._unfinished.fault
    c.in_ok-build.ensures.ok c.in-Err.ensures.err

pub returns-in-Ok-clause-tree : goal.returns-in-Ok-clause-tree
returns-in-Ok-clause-tree c =
    parse_of c.args.text.now c.build.new.builder.inner.word c.in-Ok.green _ c.utf8.text
    c.in_ok-build.ensures.ok c.in_ok-build.ensures.word c.in-Ok.ensures.ok c.new.ensures

pub returns-in_err-build-clause-refused : goal.returns-in_err-build-clause-refused
returns-in_err-build-clause-refused c =
    let began = c.with_cache-builder.result.inner in
    let ended = c.build.new.builder.inner in
    let intern = c.build.ensures.stream.keeps c.args.cache.now
    (InternsWord-starts c.args.cache.now began (ap (λ b. b.word) c.with_cache-builder.ensures.empty)
    (ap (λ b. b.cache) c.with_cache-builder.ensures.empty)) in
    let left : c.cache-1.given.0 ≡ ended.cache =
    c.cache-1.given.1 (sym (c.build.ensures.loan ∙ c.with_cache-builder.ensures.loan))
    ∙ c.drop-builder.ensures in
    on_err_any _ (interns_begun c.args.text.now c.args.cache.now c.cache-1.given.0 ended intern left
    c.in_err-build.ensures.begun)
