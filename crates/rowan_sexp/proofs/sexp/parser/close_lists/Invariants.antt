use Rattle.std.proofs.Common.{◌≡◌, ◌-◌, ◌++◌}
use Rattle.std.specs.Prelude.{replicate}
use Rattle.rowan_green.specs.Word.{Close, word_text}
use Rattle.rowan_builder.specs.Stream.{BuildsOn}
use Rattle.rowan_sexp.specs.Parsing.{IsInRoot}
use Rattle.rowan_sexp.proofs.sexp.parser.close_lists.Given as goal

abbrev pub invariant-loop-list : goal.invariant-loop-list
invariant-loop-list l = record {
  in_root : IsInRoot l.builder.inner.word (l.fn.open_lists - l._list);
  word : l.builder.inner.word ≡ l.initial.builder.inner.word ++ replicate l._list Close;
  same_text : word_text l.builder.inner.word ≡ word_text l.initial.builder.inner.word;
  builds : BuildsOn l.initial.builder.inner l.builder.inner;
  same_loan : l.builder.home.ghost_name ≡ l.initial.builder.home.ghost_name;
}
