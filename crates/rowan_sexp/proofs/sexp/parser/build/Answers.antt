use Rattle.std.proofs.Common.{rules, ◌≡◌, [], ◌∷◌, ◌++◌, sym, ap, ◌∙◌, append_assoc}
use Rattle.std.proofs.lemmas.List.{append-nil}
use Rattle.std.proofs.lemmas.Result.{on_ok_weaker, on_err_weaker}
use Rattle.rowan_builder.proofs.StreamLemmas.{BuildsOn-trans}
use Rattle.rowan_green.specs.Term.{NodeTerm}
use Rattle.rowan_green.specs.Word.{Open, node_word, word_text}
use Rattle.rowan_sexp.specs.Grammar.{IsParse}
use Rattle.rowan_sexp.specs.Parsing.{root_kind}
use Rattle.rowan_sexp.proofs.WordLemmas.{word_begun, word_more, word_ends}
use Rattle.rowan_sexp.proofs.AskedLemmas.{on_err_any, begins_same, begun-token, begun-end}
use Rattle.rowan_sexp.proofs.sexp.parser.build.Goals as goal

pub loop-token-init : goal.loop-token-init
loop-token-init c =
    let opened : c.start_node.new.self.inner.word ≡ Open root_kind ∷ [] =
    ap (λ b. b.word) c.in_ok-start_node.ensures.ok
    ∙ ap (λ w. w ++ Open c.to_raw.result.0 ∷ []) c.requires.empty
    ∙ ap (λ k. Open k ∷ []) c.to_raw.ensures in
    record {
      utf8 = c.utf8.text;
      in_root = search rules;
      word = word_begun c.args.text.now c.start_node.new.self.inner.word opened;
      so_far = search rules;
      builds = search rules;
      same_loan = search rules;
    }

pub loop-token-preserved : goal.loop-token-preserved
loop-token-preserved c =
    let word = c.loop-token.builder.inner.word in
    record {
      utf8 = c.in-Some.ensures.text;
      in_root = search rules;
      word = word_more c.args.text.now c.loop-token.rest.now c.in-Some.others.now word
          c.place.new.builder.inner.word c.loop-token.open_lists c.in_ok-open_lists.open_lists
          c.in-Some.token c.loop-token.invariant.word c.in-Some.ensures.cut
          c.in_ok-open_lists.ensures.word c.in_ok-open_lists.ensures.lists;
      so_far =
          ap (λ bs. bs ++ c.in-Some.others.now) c.in_ok-open_lists.ensures.text
          ∙ append_assoc (word_text word) c.in-Some.token.1.now c.in-Some.others.now
          ∙ ap (λ bs. word_text word ++ bs) (sym c.in-Some.ensures.cut.whole)
          ∙ c.loop-token.invariant.so_far;
      builds = BuildsOn-trans _ _ _ c.loop-token.invariant.builds c.place.ensures.stream;
      same_loan = c.place.ensures.loan ∙ c.loop-token.invariant.same_loan;
    }

pub returns-in_err-open_lists-clause-stream : goal.returns-in_err-open_lists-clause-stream
returns-in_err-open_lists-clause-stream c =
    BuildsOn-trans _ _ _ c.loop-token.invariant.builds c.place.ensures.stream

pub returns-in_err-close_lists-clause-stream : goal.returns-in_err-close_lists-clause-stream
returns-in_err-close_lists-clause-stream c =
    BuildsOn-trans _ _ _ c.loop-token.invariant.builds c.close_lists.ensures.stream

pub returns-clause-stream : goal.returns-clause-stream
returns-clause-stream c = BuildsOn-trans _ _ _
    (BuildsOn-trans _ _ _ c.loop-token.invariant.builds c.close_lists.ensures.stream)
    c.close_root.ensures.stream

pub returns-clause-word : goal.returns-clause-word
returns-clause-word c =
    on_ok_weaker c.close_root.result
    (λ h. word_ends c.args.text.now c.loop-token.rest.now c.loop-token.builder.inner.word
    c.close_lists.new.builder.inner.word c.close_root.new.builder.inner.word c.loop-token.open_lists
    c.loop-token.invariant.word c.in_default.ensures.cut c.in_ok-close_lists.ensures.word h)
    c.close_root.ensures.word

pub returns-in_err-start_node-clause-begun : goal.returns-in_err-start_node-clause-begun
returns-in_err-start_node-clause-begun c =
    let begun = λ (tree : NodeTerm) (parse : IsParse c.args.text.now tree). begins_same []
    c.start_node.new.self.inner.word (node_word tree)
    (ap (λ b. b.word) c.in_err-start_node.ensures.unchanged ∙ c.requires.empty) in
    on_err_any _ begun

pub returns-in_err-open_lists-clause-begun : goal.returns-in_err-open_lists-clause-begun
returns-in_err-open_lists-clause-begun c =
    on_err_any _ (begun-token c.args.text.now c.loop-token.rest.now c.loop-token.builder.inner.word
    c.place.new.builder.inner.word c.loop-token.open_lists c.loop-token.invariant.word
    c.in-Some.others.now c.in-Some.token c.in-Some.ensures.cut c.in-Some.ensures.text
    c.in_err-open_lists.ensures.begun)

pub returns-in_err-close_lists-clause-begun : goal.returns-in_err-close_lists-clause-begun
returns-in_err-close_lists-clause-begun c =
    on_err_any _ (begun-end c.args.text.now c.loop-token.rest.now c.loop-token.builder.inner.word
    c.close_lists.new.builder.inner.word c.loop-token.open_lists c.loop-token.invariant.word
    c.in_default.ensures.cut c.in_err-close_lists.ensures.begun)

pub returns-clause-begun : goal.returns-clause-begun
returns-clause-begun c =
    on_err_weaker c.close_root.result
    (λ h. begun-end c.args.text.now c.loop-token.rest.now c.loop-token.builder.inner.word
    c.close_root.new.builder.inner.word c.loop-token.open_lists c.loop-token.invariant.word
    c.in_default.ensures.cut (record {
      more = [];
      goes_on = sym c.in_ok-close_lists.ensures.word
          ∙ sym h ∙ sym (append-nil c.close_root.new.builder.inner.word);
    }))
    c.close_root.ensures.unchanged
