use Rattle.std.proofs.Common.{List, ap, sym, ◌∙◌, ◌++◌, ◌∷◌, []}
use Rattle.std.proofs.lemmas.List.{nil_from_length}
use Rattle.std.proofs.lemmas.Result.{IfErr-weaker, on_ok_weaker, err_from_is_err_and}
use Rattle.rowan_builder.proofs.StreamLemmas.{BuildsOn-trans}
use Rattle.rowan_builder.specs.Loan.{word_of}
use Rattle.rowan_green.specs.Word.{Symbol, Open, Close, WhyNotClosed}
use Rattle.rowan_parser.specs.Building.{WhyRefused, to_come}
use Rattle.rowan_parser.specs.Events.{spelled_by, tree_word}
use Rattle.rowan_parser.specs.Shape.{steps}
use Rattle.rowan_parser.proofs.Refusals.{longer_refuses, closings_refuse, closed_unless, not_put_refuses}
use Rattle.rowan_parser.proofs.Spelling.{spelled_rest}
use Rattle.rowan_parser.proofs.Steps.{IsBuilding-begins, IsBuilt-closes}
use Rattle.rowan_parser.proofs.tree.replay.Goals as goal

pub loop-event-init : goal.loop-event-init
loop-event-init c =
    let opened = ap (λ b. b.word) c.in_ok-start_node.ensures.ok ∙ ap
    (λ w. w ++ Open c.args.source.now.root_kind.0 ∷ []) c.requires.empty in
    record {
      building = IsBuilding-begins c.args.source.now _ _ opened c.next_seen.ensures;
      no_kinds = c.new-kinds.ensures.items;
      stream = c.start_node.ensures.stream;
      loan = c.start_node.ensures.loan;
      spells = ap (λ w. w ++ spelled_by c.args.source.now.trivia 0
          (steps c.args.source.now.events.now) c.args.source.now.tokens.now) opened;
    }

pub loop-event-preserved : goal.loop-event-preserved
loop-event-preserved c = record {
  building = c.in_ok-progress.ensures.ok;
  no_kinds = c.in_ok-progress.ensures.no_kinds;
  stream = BuildsOn-trans _ _ _ c.loop-event.invariant.stream c.put_event.ensures.stream;
  loan = c.put_event.ensures.loan ∙ c.loop-event.invariant.loan;
  spells =
      c.in_ok-progress.ensures.spells
      ∙ ap (λ es. to_come c.args.source.now (word_of c.loop-event.builder) c.loop-event.progress
      (steps es)) (sym c.in-Some.ensures.cases.0)
      ∙ c.loop-event.invariant.spells;
}

pub returns-in_err-progress-clause-stream : goal.returns-in_err-progress-clause-stream
returns-in_err-progress-clause-stream c = BuildsOn-trans _ _ _ c.loop-event.invariant.stream
    c.put_event.ensures.stream

pub returns-in_err-progress-2-clause-stream : goal.returns-in_err-progress-2-clause-stream
returns-in_err-progress-2-clause-stream c = BuildsOn-trans _ _ _ c.loop-event.invariant.stream
    c.close_all.ensures.stream

pub returns-in_err-all_put-clause-stream : goal.returns-in_err-all_put-clause-stream
returns-in_err-all_put-clause-stream c =
    BuildsOn-trans _ _ _ (BuildsOn-trans _ _ _ c.loop-event.invariant.stream
    c.close_all.ensures.stream) c.put_rest.ensures.stream

pub returns-clause-stream : goal.returns-clause-stream
returns-clause-stream c =
    BuildsOn-trans _ _ _ (BuildsOn-trans _ _ _ (BuildsOn-trans _ _ _ c.loop-event.invariant.stream
    c.close_all.ensures.stream) c.put_rest.ensures.stream) c.finish_node.ensures.stream

-- ---- refusals

pub returns-in_err-progress-clause-err : goal.returns-in_err-progress-clause-err
returns-in_err-progress-clause-err c =
    let p = err_from_is_err_and c.from_residual-in_err-progress.result c.from_residual-in_err-progress.ensures.1 in
    let all = ap (λ es. to_come c.args.source.now (word_of c.loop-event.builder)
    c.loop-event.progress (steps es)) (sym c.in-Some.ensures.cases.0)
    ∙ c.loop-event.invariant.spells in
    rw (p.1, p.2) (longer_refuses _ (Close ∷ []) _ c.args.source.now.tokens.now _
    (ap (λ (w : List Symbol). w ++ Close ∷ []) all) c.in_err-progress.ensures.err)

pub returns-in_err-progress-2-clause-err : goal.returns-in_err-progress-2-clause-err
returns-in_err-progress-2-clause-err c =
    let p = err_from_is_err_and c.from_residual-in_err-progress-2.result c.from_residual-in_err-progress-2.ensures.1 in
    let none = ap steps (nil_from_length c.loop-event.events.now c.in_default.ensures.cases) in
    rw (p.1, p.2) (longer_refuses _ (Close ∷ []) _ c.args.source.now.tokens.now _
    (ap (λ (w : List Symbol). w ++ Close ∷ []) c.loop-event.invariant.spells)
    (closings_refuse c.args.source.now (steps c.loop-event.events.now) _ c.loop-event.progress _
    none c.in_err-progress-2.ensures.err))

pub returns-in_err-all_put-clause-err : goal.returns-in_err-all_put-clause-err
returns-in_err-all_put-clause-err c =
    let p = err_from_is_err_and c.from_residual-in_err-all_put.result c.from_residual-in_err-all_put.ensures.1 in
    rw (p.1, p.2) (not_put_refuses (tree_word c.args.source.now.root_kind.0 c.args.source.now.trivia
    c.args.source.now.tokens.now c.args.source.now.events.now) c.args.source.now.tokens.now _
    c.in_err-all_put.ensures.err)

pub returns-clause-ok : goal.returns-clause-ok
returns-clause-ok c = on_ok_weaker c.finish_node.result (λ h. IsBuilt-closes c.args.source.now _ _
    c.in_ok-all_put.all_put c.in_ok-all_put.ensures.ok
    (c.in_ok-all_put.ensures.same ∙ c.in_ok-progress-2.ensures.none) h.closes)
    c.finish_node.ensures.ok

pub returns-clause-spells : goal.returns-clause-spells
returns-clause-spells c =
    let none = ap steps (nil_from_length c.loop-event.events.now c.in_default.ensures.cases) in
    let all = spelled_rest c.args.source.now _ _ _ _ c.loop-event.progress
    c.in_ok-progress-2.progress (steps c.loop-event.events.now) none
    c.loop-event.invariant.spells c.in_ok-progress-2.ensures.closes
    c.in_ok-progress-2.ensures.same c.in_ok-all_put.ensures.puts in
    on_ok_weaker c.finish_node.result (λ h. h.closes.closed ∙ ap (λ (w : List Symbol). w ++ Close ∷ [])
    all) c.finish_node.ensures.ok

pub returns-clause-err : goal.returns-clause-err
returns-clause-err c =
    let none = ap steps (nil_from_length c.loop-event.events.now c.in_default.ensures.cases) in
    let all = spelled_rest c.args.source.now _ _ _ _ c.loop-event.progress
    c.in_ok-progress-2.progress (steps c.loop-event.events.now) none
    c.loop-event.invariant.spells c.in_ok-progress-2.ensures.closes
    c.in_ok-progress-2.ensures.same c.in_ok-all_put.ensures.puts in
    IfErr-weaker c.finish_node.result (WhyNotClosed _) (WhyRefused _ c.args.source.now.tokens.now)
    (λ f why. closed_unless c.args.source.now _ _ c.in_ok-all_put.all_put f
    c.in_ok-all_put.ensures.ok (ap (λ (w : List Symbol). w ++ Close ∷ []) all) why)
    c.finish_node.ensures.err
