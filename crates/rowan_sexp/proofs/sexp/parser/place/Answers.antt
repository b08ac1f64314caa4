use Rattle.std.proofs.Common.{◌∙◌, ap, arith}
use Rattle.std.proofs.lemmas.Result.{err_from_is_err_and}
use Rattle.rowan_green.specs.Term.{TokenTerm}
use Rattle.rowan_sexp.proofs.ParsingLemmas.{IsTextOf-some, IsInRoot-opens, IsInRoot-closes}
use Rattle.rowan_sexp.proofs.ParsingLemmas.{IsInRoot-refuses, IsInRoot-token, IsInRoot-alone}
use Rattle.rowan_sexp.proofs.ParsingLemmas.{length-text-leaf}
use Rattle.rowan_sexp.proofs.WordLemmas.{placed-opens, placed-closes, placed-error, placed-word}
use Rattle.rowan_sexp.proofs.WordLemmas.{placed-white, is_white, opened-list, closed-list, no_list}
use Rattle.rowan_sexp.proofs.WordLemmas.{same-lists-word, same-lists-white}
use Rattle.rowan_sexp.proofs.AskedLemmas.{on_err_any, begins_same, begun-opens, begun-closes}
use Rattle.rowan_sexp.proofs.AskedLemmas.{begun-error, begun-word}
use Rattle.rowan_sexp.proofs.sexp.parser.place.Goals as goal

pub returns-in_err-finish_node-in-R_PAREN-clause-err :
    goal.returns-in_err-finish_node-in-R_PAREN-clause-err
returns-in_err-finish_node-in-R_PAREN-clause-err c =
    let t : TokenTerm = record { kind = c.to_raw-in-R_PAREN.result.0; text = c.args.text.now } in
    let p = err_from_is_err_and c.from_residual-in_err-finish_node-in-R_PAREN.result
    c.from_residual-in_err-finish_node-in-R_PAREN.ensures.1 in
    let some = IsTextOf-some c.args.kind c.args.text.now c.requires.token in
    let w = c.token-in-R_PAREN.new.self.inner.word in
    rw (p.1, p.2) (IsInRoot-refuses w c.args.open_lists c.in_err-finish_node-in-R_PAREN.field-0.0
    (IsInRoot-token c.args.builder.now.inner.word w c.args.open_lists t c.requires.in_root
    (ap (λ b. b.word) c.in_ok-token-in-R_PAREN.ensures.ok) some)
    (omega (
      arith,
      c.requires.room,
      length-text-leaf c.args.builder.now.inner.word w t
          (ap (λ b. b.word) c.in_ok-token-in-R_PAREN.ensures.ok),
    ))
    c.in_err-finish_node-in-R_PAREN.ensures.err)

pub returns-in_ok-token-in-L_PAREN-clause-ok : goal.returns-in_ok-token-in-L_PAREN-clause-ok
returns-in_ok-token-in-L_PAREN-clause-ok c =
    let t : TokenTerm = record { kind = c.to_raw-in-L_PAREN.result.0; text = c.args.text.now } in
    let some = IsTextOf-some c.args.kind c.args.text.now c.requires.token in
    IsInRoot-opens c.args.builder.now.inner.word c.start_node.new.self.inner.word
    c.token.new.self.inner.word c.args.open_lists c.to_raw.result.0 t c.requires.in_root
    (ap (λ b. b.word) c.in_ok-start_node-in-L_PAREN.ensures.ok)
    (ap (λ b. b.word) c.in_ok-token-in-L_PAREN.ensures.ok) some

pub returns-in_ok-finish_node-in-R_PAREN-clause-ok :
    goal.returns-in_ok-finish_node-in-R_PAREN-clause-ok
returns-in_ok-finish_node-in-R_PAREN-clause-ok c =
    let t : TokenTerm = record { kind = c.to_raw-in-R_PAREN.result.0; text = c.args.text.now } in
    let some = IsTextOf-some c.args.kind c.args.text.now c.requires.token in
    let w = c.token-in-R_PAREN.new.self.inner.word in
    IsInRoot-closes w c.finish_node.new.self.inner.word c.args.open_lists
    (IsInRoot-token c.args.builder.now.inner.word w c.args.open_lists t c.requires.in_root
    (ap (λ b. b.word) c.in_ok-token-in-R_PAREN.ensures.ok) some)
    c.if-open_lists-gt0.true c.in_ok-finish_node-in-R_PAREN.ensures.ok.closes

pub returns-in_ok-place_alone-in-R_PAREN-2-clause-ok :
    goal.returns-in_ok-place_alone-in-R_PAREN-2-clause-ok
returns-in_ok-place_alone-in-R_PAREN-2-clause-ok c =
    let some = IsTextOf-some c.args.kind c.args.text.now c.requires.token in
    IsInRoot-alone c.args.builder.now.inner.word _ c.args.open_lists _ _ c.requires.in_root
    c.in_ok-place_alone-in-R_PAREN-2.ensures.ok some

pub returns-in_ok-place_alone-in-WORD-clause-ok : goal.returns-in_ok-place_alone-in-WORD-clause-ok
returns-in_ok-place_alone-in-WORD-clause-ok c =
    let some = IsTextOf-some c.args.kind c.args.text.now c.requires.token in
    IsInRoot-alone c.args.builder.now.inner.word _ c.args.open_lists _ _ c.requires.in_root
    c.in_ok-place_alone-in-WORD.ensures.ok some

pub returns-in_ok-token-in_default-clause-ok : goal.returns-in_ok-token-in_default-clause-ok
returns-in_ok-token-in_default-clause-ok c =
    let t : TokenTerm = record { kind = c.to_raw-in_default.result.0; text = c.args.text.now } in
    let some = IsTextOf-some c.args.kind c.args.text.now c.requires.token in
    IsInRoot-token c.args.builder.now.inner.word c.token-in_default.new.self.inner.word
    c.args.open_lists t c.requires.in_root
    (ap (λ b. b.word) c.in_ok-token-in_default.ensures.ok) some

pub returns-in_ok-token-in-L_PAREN-clause-word : goal.returns-in_ok-token-in-L_PAREN-clause-word
returns-in_ok-token-in-L_PAREN-clause-word c =
    placed-opens c.args.kind c.args.open_lists c.args.builder.now.inner.word
    c.token.new.self.inner.word c.args.text.now c.start_node.new.self.inner.word c.to_raw.result.0
    c.to_raw-in-L_PAREN.result.0 c.in-L_PAREN.is c.to_raw.ensures c.to_raw-in-L_PAREN.ensures
    (ap (λ b. b.word) c.in_ok-start_node-in-L_PAREN.ensures.ok)
    (ap (λ b. b.word) c.in_ok-token-in-L_PAREN.ensures.ok)

pub returns-in_ok-token-in-L_PAREN-clause-lists : goal.returns-in_ok-token-in-L_PAREN-clause-lists
returns-in_ok-token-in-L_PAREN-clause-lists c =
    opened-list c.args.kind c.args.open_lists c.in-L_PAREN.is

pub returns-in_ok-finish_node-in-R_PAREN-clause-word :
    goal.returns-in_ok-finish_node-in-R_PAREN-clause-word
returns-in_ok-finish_node-in-R_PAREN-clause-word c =
    placed-closes c.args.kind c.args.open_lists c.args.builder.now.inner.word
    c.finish_node.new.self.inner.word c.args.text.now c.token-in-R_PAREN.new.self.inner.word
    c.to_raw-in-R_PAREN.result.0 c.in-R_PAREN.is c.if-open_lists-gt0.true
    c.to_raw-in-R_PAREN.ensures (ap (λ b. b.word) c.in_ok-token-in-R_PAREN.ensures.ok)
    c.in_ok-finish_node-in-R_PAREN.ensures.ok.closes.closed

pub returns-in_ok-finish_node-in-R_PAREN-clause-lists :
    goal.returns-in_ok-finish_node-in-R_PAREN-clause-lists
returns-in_ok-finish_node-in-R_PAREN-clause-lists c =
    closed-list c.args.kind c.args.open_lists c.in-R_PAREN.is

pub returns-in_ok-place_alone-in-R_PAREN-2-clause-word :
    goal.returns-in_ok-place_alone-in-R_PAREN-2-clause-word
returns-in_ok-place_alone-in-R_PAREN-2-clause-word c =
    placed-error c.args.kind c.args.open_lists c.args.builder.now.inner.word _ c.args.text.now
    c.in-R_PAREN-2.is (omega arith) c.in_ok-place_alone-in-R_PAREN-2.ensures.ok

pub returns-in_ok-place_alone-in-R_PAREN-2-clause-lists :
    goal.returns-in_ok-place_alone-in-R_PAREN-2-clause-lists
returns-in_ok-place_alone-in-R_PAREN-2-clause-lists c =
    no_list c.args.kind c.args.open_lists c.in-R_PAREN-2.is (omega arith)

pub returns-in_ok-place_alone-in-WORD-clause-word :
    goal.returns-in_ok-place_alone-in-WORD-clause-word
returns-in_ok-place_alone-in-WORD-clause-word c =
    placed-word c.args.kind c.args.open_lists c.args.builder.now.inner.word _ c.args.text.now
    c.in-WORD.is c.in_ok-place_alone-in-WORD.ensures.ok

pub returns-in_ok-place_alone-in-WORD-clause-lists :
    goal.returns-in_ok-place_alone-in-WORD-clause-lists
returns-in_ok-place_alone-in-WORD-clause-lists c =
    same-lists-word c.args.kind c.args.open_lists c.in-WORD.is

pub returns-in_ok-token-in_default-clause-word : goal.returns-in_ok-token-in_default-clause-word
returns-in_ok-token-in_default-clause-word c =
    placed-white c.args.kind c.args.open_lists c.args.builder.now.inner.word
    c.token-in_default.new.self.inner.word c.args.text.now c.to_raw-in_default.result.0
    (is_white c.args.kind c.args.text.now c.requires.token c.in_default.not-L_PAREN
    c.in_default.not-R_PAREN c.in_default.not-WORD)
    c.to_raw-in_default.ensures (ap (λ b. b.word) c.in_ok-token-in_default.ensures.ok)

pub returns-in_ok-token-in_default-clause-lists : goal.returns-in_ok-token-in_default-clause-lists
returns-in_ok-token-in_default-clause-lists c =
    same-lists-white c.args.kind c.args.open_lists
    (is_white c.args.kind c.args.text.now c.requires.token c.in_default.not-L_PAREN
    c.in_default.not-R_PAREN c.in_default.not-WORD)

pub returns-in_err-start_node-in-L_PAREN-clause-begun :
    goal.returns-in_err-start_node-in-L_PAREN-clause-begun
returns-in_err-start_node-in-L_PAREN-clause-begun c =
    on_err_any _ (begins_same c.args.builder.now.inner.word c.start_node.new.self.inner.word _
    (ap (λ b. b.word) c.in_err-start_node-in-L_PAREN.ensures.unchanged))

pub returns-in_err-token-in-L_PAREN-clause-begun : goal.returns-in_err-token-in-L_PAREN-clause-begun
returns-in_err-token-in-L_PAREN-clause-begun c =
    on_err_any _ (begun-opens c.args.kind c.args.open_lists c.args.builder.now.inner.word
    c.token.new.self.inner.word c.args.text.now c.to_raw.result.0 c.in-L_PAREN.is c.to_raw.ensures
    (ap (λ b. b.word) c.in_err-token-in-L_PAREN.ensures.unchanged
    ∙ ap (λ b. b.word) c.in_ok-start_node-in-L_PAREN.ensures.ok))

pub returns-in_err-token-in-R_PAREN-clause-begun : goal.returns-in_err-token-in-R_PAREN-clause-begun
returns-in_err-token-in-R_PAREN-clause-begun c =
    on_err_any _ (begins_same c.args.builder.now.inner.word c.token-in-R_PAREN.new.self.inner.word _
    (ap (λ b. b.word) c.in_err-token-in-R_PAREN.ensures.unchanged))

pub returns-in_err-finish_node-in-R_PAREN-clause-begun :
    goal.returns-in_err-finish_node-in-R_PAREN-clause-begun
returns-in_err-finish_node-in-R_PAREN-clause-begun c =
    on_err_any _ (begun-closes c.args.kind c.args.open_lists c.args.builder.now.inner.word
    c.finish_node.new.self.inner.word c.args.text.now c.to_raw-in-R_PAREN.result.0 c.in-R_PAREN.is
    c.if-open_lists-gt0.true c.to_raw-in-R_PAREN.ensures
    (ap (λ b. b.word) c.in_err-finish_node-in-R_PAREN.ensures.unchanged
    ∙ ap (λ b. b.word) c.in_ok-token-in-R_PAREN.ensures.ok))

pub returns-in_err-place_alone-in-R_PAREN-2-clause-begun :
    goal.returns-in_err-place_alone-in-R_PAREN-2-clause-begun
returns-in_err-place_alone-in-R_PAREN-2-clause-begun c =
    on_err_any _ (begun-error c.args.kind c.args.open_lists c.args.builder.now.inner.word _
    c.args.text.now c.in-R_PAREN-2.is (omega arith) c.in_err-place_alone-in-R_PAREN-2.ensures.begun)

pub returns-in_err-place_alone-in-WORD-clause-begun :
    goal.returns-in_err-place_alone-in-WORD-clause-begun
returns-in_err-place_alone-in-WORD-clause-begun c =
    on_err_any _ (begun-word c.args.kind c.args.open_lists c.args.builder.now.inner.word _
    c.args.text.now c.in-WORD.is c.in_err-place_alone-in-WORD.ensures.begun)

pub returns-in_err-token-in_default-clause-begun : goal.returns-in_err-token-in_default-clause-begun
returns-in_err-token-in_default-clause-begun c =
    on_err_any _ (begins_same c.args.builder.now.inner.word c.token-in_default.new.self.inner.word _
    (ap (λ b. b.word) c.in_err-token-in_default.ensures.unchanged))
