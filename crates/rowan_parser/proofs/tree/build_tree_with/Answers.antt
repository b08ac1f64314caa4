use Rattle.std.proofs.Common.{◌≡◌, sym, ◌∙◌, ap, subst}
use Rattle.std.specs.Result.{OnOk}
use Rattle.rowan_green.specs.declared.utility_types.NodeOrToken.TheVariants.{Node}
use Rattle.rowan_builder.specs.Stream.{subterms}
use Rattle.rowan_green.specs.Word.{word_text, word_tokens}
use Rattle.rowan_terms.proofs.LeafLaws.{tokens-finished}
use Rattle.rowan_builder.proofs.StreamLemmas.{InternsWord-starts, InternsWord-finished, intern_all-first_seen}
use Rattle.rowan_builder.proofs.TextLemmas.{text-finished}
use Rattle.rowan_parser.proofs.Leaves.{tree-text, tree-tokens}
use Rattle.rowan_parser.proofs.Refusals.{IsBuilt-finishes}
use Rattle.rowan_parser.proofs.Steps.{IsBuilt-kind, IsBuilt-word}
use Rattle.rowan_parser.proofs.tree.build_tree_with.Goals as goal

pub unreachable-requires : goal.unreachable-requires
unreachable-requires c = IsBuilt-finishes _ _ c.in-Err._unfinished.fault c.in_ok-replay.ensures.ok
    c.in-Err.ensures.err

pub returns-in-Ok-clause-kind : goal.returns-in-Ok-clause-kind
returns-in-Ok-clause-kind c = IsBuilt-kind _ _ _ c.in_ok-replay.ensures.ok c.in-Ok.ensures.ok

pub returns-in-Ok-clause-shape : goal.returns-in-Ok-clause-shape
returns-in-Ok-clause-shape c =
    sym (IsBuilt-word _ _ _ c.in_ok-replay.ensures.ok c.in-Ok.ensures.ok)
    ∙ c.in_ok-replay.ensures.spells

pub returns-in-Ok-clause-text : goal.returns-in-Ok-clause-text
returns-in-Ok-clause-text c =
    text-finished _ _ c.in-Ok.ensures.ok
    ∙ ap word_text c.in_ok-replay.ensures.spells
    ∙ tree-text c.args.source.now.root_kind.0 c.args.source.now.trivia c.args.source.now.tokens.now
    c.args.source.now.events.now

pub returns-in-Ok-clause-tokens : goal.returns-in-Ok-clause-tokens
returns-in-Ok-clause-tokens c = λ none.
    sym (tokens-finished _ _ c.in-Ok.ensures.ok)
    ∙ ap word_tokens c.in_ok-replay.ensures.spells
    ∙ tree-tokens c.args.source.now.root_kind.0 c.args.source.now.trivia
    c.args.source.now.tokens.now c.args.source.now.events.now none

pub returns-in-Ok-clause-interned : goal.returns-in-Ok-clause-interned
returns-in-Ok-clause-interned c =
    let began = c.with_cache-builder.result.inner in
    let ended = c.replay.new.builder.inner in
    let intern = c.replay.ensures.stream.keeps c.args.cache.now
    (InternsWord-starts c.args.cache.now began (ap (λ b. b.word)
    c.with_cache-builder.ensures.empty) (ap (λ b. b.cache) c.with_cache-builder.ensures.empty))
    in
    let left = subst (λ r. OnOk r (c.finish.follows.lender-at-none ≡ ended.cache)) c.in-Ok.is
    c.finish.follows.holds-at-none in
    let all = c.cache-in-Ok-2.given.1 (sym (c.replay.ensures.loan ∙
    c.with_cache-builder.ensures.loan)) ∙ left ∙ InternsWord-finished c.args.cache.now ended
    c.in-Ok.tree intern c.in-Ok.ensures.ok in
    ap (λ d. d.seen) (all ∙ intern_all-first_seen c.args.cache.now (subterms (Node c.in-Ok.tree))
    c.with_cache-builder.ensures.first)
