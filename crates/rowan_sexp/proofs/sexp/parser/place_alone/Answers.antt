use Rattle.std.proofs.Common.{◌≡◌, ◌∷◌, ◌++◌, ◌∙◌, [], ap}
use Rattle.std.proofs.lemmas.Result.{IfErr-weaker, on_ok_weaker}
use Rattle.rowan_green.specs.declared.fault.Fault.{Fault}
use Rattle.rowan_green.specs.declared.fault.Fault.TheVariants.{Memory}
use Rattle.rowan_green.specs.Term.{TokenTerm}
use Rattle.rowan_green.specs.Word.{Open, Leaf, Close, WhyNotClosed}
use Rattle.rowan_builder.proofs.StreamLemmas.{BuildsOn-trans}
use Rattle.rowan_sexp.proofs.ParsingLemmas.{alone_refused, alone_word}
use Rattle.rowan_sexp.specs.Sexp.{number_of}
use Rattle.std.proofs.lemmas.Result.{on_err_weaker}
use Rattle.rowan_sexp.proofs.AskedLemmas.{on_err_any, begins_same, begins_opened, begins_filled}
use Rattle.rowan_sexp.proofs.sexp.parser.place_alone.Goals as goal

pub returns-clause-err : goal.returns-clause-err
returns-clause-err c =
    let t : TokenTerm = record { kind = c.to_raw-2.result.0; text = c.args.text.now } in
    IfErr-weaker c.finish_node.result (WhyNotClosed c.token.new.self.inner.word)
    (λ (e : Fault). e ≡ Memory)
    (λ e why. alone_refused c.args.builder.now.inner.word c.start_node.new.self.inner.word
    c.token.new.self.inner.word c.requires.in_root.0 c.to_raw.result.0 t e c.requires.in_root.1
    (ap (λ b. b.word) c.in_ok-start_node.ensures.ok)
    (ap (λ b. b.word) c.in_ok-token.ensures.ok) c.requires.nonempty c.requires.room why)
    c.finish_node.ensures.err

pub returns-clause-ok : goal.returns-clause-ok
returns-clause-ok c =
    let v = c.args.builder.now.inner.word in
    let u = c.start_node.new.self.inner.word in
    let w = c.token.new.self.inner.word in
    let t : TokenTerm = record { kind = c.to_raw-2.result.0; text = c.args.text.now } in
    on_ok_weaker c.finish_node.result
    (λ h.
    alone_word v u w c.finish_node.new.self.inner.word c.to_raw.result.0 t
    (ap (λ b. b.word) c.in_ok-start_node.ensures.ok)
    (ap (λ b. b.word) c.in_ok-token.ensures.ok) h.closes.closed
    ∙ ap (λ k. v ++ Open k ∷ Leaf t ∷ Close ∷ []) c.to_raw.ensures
    ∙ ap (λ j. v ++ Open (number_of c.args.node) ∷ Leaf
    (record { kind = j; text = c.args.text.now }) ∷ Close ∷ []) c.to_raw-2.ensures)
    c.finish_node.ensures.ok

pub returns-clause-stream : goal.returns-clause-stream
returns-clause-stream c = BuildsOn-trans _ _ _
    (BuildsOn-trans _ _ _ c.start_node.ensures.stream c.token.ensures.stream)
    c.finish_node.ensures.stream

pub returns-in_err-start_node-clause-begun : goal.returns-in_err-start_node-clause-begun
returns-in_err-start_node-clause-begun c =
    on_err_any _ (begins_same c.args.builder.now.inner.word c.start_node.new.self.inner.word _
    (ap (λ b. b.word) c.in_err-start_node.ensures.unchanged))

pub returns-in_err-token-clause-begun : goal.returns-in_err-token-clause-begun
returns-in_err-token-clause-begun c =
    on_err_any _ (begins_opened c.args.builder.now.inner.word c.token.new.self.inner.word
    c.to_raw.result.0 (number_of c.args.node) _
    (ap (λ b. b.word) c.in_err-token.ensures.unchanged
    ∙ ap (λ b. b.word) c.in_ok-start_node.ensures.ok) c.to_raw.ensures)

pub returns-clause-begun : goal.returns-clause-begun
returns-clause-begun c =
    on_err_weaker c.finish_node.result
    (λ h.
    begins_filled c.args.builder.now.inner.word c.start_node.new.self.inner.word
    c.finish_node.new.self.inner.word c.to_raw.result.0 c.to_raw-2.result.0 (number_of c.args.node)
    (number_of c.args.kind) c.args.text.now (Close ∷ [])
    (ap (λ b. b.word) c.in_ok-start_node.ensures.ok)
    (ap (λ b. b.word) h ∙ ap (λ b. b.word) c.in_ok-token.ensures.ok) c.to_raw.ensures
    c.to_raw-2.ensures)
    c.finish_node.ensures.unchanged
