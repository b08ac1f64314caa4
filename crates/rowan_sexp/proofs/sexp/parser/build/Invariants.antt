use Rattle.std.proofs.Common.{◌≡◌, ◌++◌, length}
use denote.Shadow.{shadow}
use denote.Text.{Utf8}
use Rattle.rowan_builder.specs.Stream.{BuildsOn}
use Rattle.rowan_green.specs.Word.{word_text}
use Rattle.rowan_sexp.specs.Parsing.{IsInRoot}
use Rattle.rowan_sexp.proofs.WordLemmas.{IsWordSoFar}
use Rattle.rowan_sexp.proofs.sexp.parser.build.Given as goal

abbrev pub invariant-loop-token : goal.invariant-loop-token
invariant-loop-token l = record {
  utf8 : shadow (Utf8 l.rest);
  in_root : IsInRoot l.builder.inner.word l.open_lists;
  word : IsWordSoFar l.text l.rest l.builder.inner.word l.open_lists;
  so_far : word_text l.builder.inner.word ++ l.rest ≡ l.text;
  builds : BuildsOn l.fn.builder.inner l.builder.inner;
  same_loan : l.builder.home.ghost_name ≡ l.fn.builder.home.ghost_name;
}

abbrev pub decreases-loop-token : goal.decreases-loop-token
decreases-loop-token l = length l.rest
