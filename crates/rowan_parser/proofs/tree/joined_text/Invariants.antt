use Rattle.std.proofs.Common.{◌≡◌, take}
use Rattle.std.specs.Prelude.{string_bytes}
use Rattle.rowan_events.specs.Tokens.{tokens_text}
use Rattle.rowan_parser.proofs.tree.joined_text.Given as goal

abbrev pub invariant-loop-token : goal.invariant-loop-token
invariant-loop-token l = string_bytes l.text ≡ tokens_text (take l.token-index l.tokens)
