use Rattle.std.proofs.Common.{ap, ◌∙◌}
use Rattle.std.proofs.lemmas.Result.{err_from_is_err_and}
use Rattle.rowan_parser.specs.Events.{tree_word}
use Rattle.rowan_parser.proofs.Parses.{no_tree}
use Rattle.rowan_predictive.proofs.Parsed.{is-parse, tree-by}
use Rattle.rowan_predictive.proofs.grammars.Grammar.parse_with.Goals as goal

pub returns-in_err-green-clause-err : goal.returns-in_err-green-clause-err
returns-in_err-green-clause-err g c =
    let p = err_from_is_err_and c.from_residual-in_err-green.result
    c.from_residual-in_err-green.ensures.1 in
    rw (p.1, p.2) (no_tree c.args.trivia c.args.start.root.0 c.in_ok-read.read.tokens.items
    c.as_slice.result.now c.as_slice-2.result.now c.args.text.now c.in_err-green.field-0.0
    c.as_slice.ensures.value c.in_ok-read.ensures.read.whole c.in_err-green.ensures.err)

pub returns-clause-parsed : goal.returns-clause-parsed
returns-clause-parsed g c =
    let root = c.args.start.root.0 in
    let trivia = c.args.trivia in
    let tokens = c.in_ok-read.read.tokens.items in
    is-parse g.X.Lexer.says c.args.lexer c.args.self.now.entries.items trivia c.args.start c.args.text.now
    tokens c.in_ok-read.read.events.items c.in_ok-read.read.errors.items c.in_ok-green.green
    c.in_ok-read.ensures.read
    (c.in_ok-green.ensures.shape
    ∙ ap (λ ts. tree_word root trivia ts c.as_slice-2.result.now) c.as_slice.ensures.value
    ∙ ap (tree_word root trivia tokens) c.as_slice-2.ensures.value)

pub returns-clause-tree : goal.returns-clause-tree
returns-clause-tree g c =
    let root = c.args.start.root.0 in
    let trivia = c.args.trivia in
    let tokens = c.in_ok-read.read.tokens.items in
    tree-by g.X.Lexer.says c.args.lexer c.args.self.now.entries.items trivia c.args.start c.args.text.now
    tokens c.in_ok-read.read.events.items c.in_ok-read.read.errors.items c.in_ok-green.green
    c.in_ok-read.ensures.read
    (c.in_ok-green.ensures.shape
    ∙ ap (λ ts. tree_word root trivia ts c.as_slice-2.result.now) c.as_slice.ensures.value
    ∙ ap (tree_word root trivia tokens) c.as_slice-2.ensures.value)
