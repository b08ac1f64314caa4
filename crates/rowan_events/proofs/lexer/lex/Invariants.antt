use Rattle.std.proofs.Common.{List, ◌≡◌, ◌+◌, ◌<◌, ◌++◌, All, length}
use denote.Text.{Utf8}
use denote.Shadow.{shadow}
use Rattle.rowan_events.specs.declared.lexer.Token.{Token}
use Rattle.rowan_events.specs.Tokens.{tokens_text, lies_within}
use Rattle.rowan_events.proofs.Lexing.{Joins}
use Rattle.rowan_events.proofs.lexer.lex.Given as goal

-- the tokens are of what was read, and the rest is still to come
abbrev pub invariant-loop-rest : goal.invariant-loop-rest
invariant-loop-rest g l = record {
  utf8 : shadow (Utf8 l.rest);
  ready : g.X.Lexer.is_ready l.lexer;
  text : tokens_text l.tokens.items ++ l.rest ≡ l.text;
  filled : All (λ token. 0 < length token.text.now) l.tokens.items;
  start : l.start + length l.rest ≡ length l.text;
  within : All (lies_within (length l.text)) l.errors.items;
  said : Joins g.X.Lexer.says l.fn.lexer l.lexer l.rest l.start l.tokens.items l.errors.items;
}

abbrev pub decreases-loop-rest : goal.decreases-loop-rest
decreases-loop-rest g l = length l.rest
