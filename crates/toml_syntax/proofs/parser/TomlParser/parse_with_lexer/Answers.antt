use Rattle.std.proofs.Common.{subst, IfOk}
use Rattle.rowan_predictive.specs.Parsing.{IsTreeBy}
use Rattle.toml_syntax.specs.declared.parser.TheConstants.{ATTACHED, SKIPPED}
use Rattle.toml_syntax.proofs.parser.TomlParser.parse_with_lexer.Goals as goal

pub returns-clause-tree : goal.returns-clause-tree
returns-clause-tree g c =
    subst (λ rules. IfOk c.parse.result (λ parse. IsTreeBy {X = g.row.X.Denot} g.X.Lexer.says
    c.args.lexer rules SKIPPED ATTACHED 26 81 c.args.text.now parse.errors.items parse.green))
    c.args.self.now.rules c.parse.ensures.tree
