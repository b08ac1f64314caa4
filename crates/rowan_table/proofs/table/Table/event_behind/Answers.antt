use Rattle.std.proofs.Common.{sym, arith}
use Rattle.rowan_table.specs.Table.{root_node, entry_path}
use Rattle.rowan_table.proofs.TokenLemmas.{apart_paths, behind-inside, parent-inside}
use Rattle.rowan_table.proofs.EventLemmas.{behind-sibling, behind-last, no_parent-inside}
use Rattle.rowan_table.proofs.table.Table.event_behind.Goals as goal
use Rattle.rowan_table.specs.TableView.{entries_of}

pub returns-in_err-parent-in-None-clause-next : goal.returns-in_err-parent-in-None-clause-next
returns-in_err-parent-in-None-clause-next c =
    let es = entries_of c.args.self.now in
    let apart = apart_paths es c.args.self.now.complete c.args.number c.args.start c.requires.within
    c.requires.top_within c.if-number-start.false in
    absurd (no_parent-inside (entry_path es c.args.start) (entry_path es c.args.number)
    c.requires.inside apart c.in_err-parent-in-None.ensures.found.path)

pub returns-in-Some-clause-next : goal.returns-in-Some-clause-next
returns-in-Some-clause-next c =
    let es = entries_of c.args.self.now in
    let apart = apart_paths es c.args.self.now.complete c.args.number c.args.start c.requires.within
    c.requires.top_within c.if-number-start.false in
    sym (behind-sibling (root_node es) (entry_path es c.args.start) (entry_path es c.args.number)
    (entry_path es c.in-Some.sibling) c.requires.inside apart c.in-Some.ensures.path)

pub returns-in-Some-clause-inside : goal.returns-in-Some-clause-inside
returns-in-Some-clause-inside c =
    let es = entries_of c.args.self.now in
    let apart = apart_paths es c.args.self.now.complete c.args.number c.args.start c.requires.within
    c.requires.top_within c.if-number-start.false in
    record {
      top_within = c.requires.top_within;
      within = c.in-Some.ensures.within;
      inside = behind-inside (root_node es) (entry_path es c.args.start)
          (entry_path es c.args.number) (entry_path es c.in-Some.sibling) c.requires.inside apart
          c.in-Some.ensures.path;
    }

pub returns-in_ok-parent-in-None-clause-next : goal.returns-in_ok-parent-in-None-clause-next
returns-in_ok-parent-in-None-clause-next c =
    let es = entries_of c.args.self.now in
    let apart = apart_paths es c.args.self.now.complete c.args.number c.args.start c.requires.within
    c.requires.top_within c.if-number-start.false in
    sym (behind-last (root_node es) (entry_path es c.args.start) (entry_path es c.args.number)
    (entry_path es c.in_ok-parent-in-None.field-0) c.requires.inside apart c.in-None.ensures.path
    c.in_ok-parent-in-None.ensures.found.path)

pub returns-in_ok-parent-in-None-clause-inside : goal.returns-in_ok-parent-in-None-clause-inside
returns-in_ok-parent-in-None-clause-inside c =
    let es = entries_of c.args.self.now in
    let apart = apart_paths es c.args.self.now.complete c.args.number c.args.start c.requires.within
    c.requires.top_within c.if-number-start.false in
    record {
      top_within = c.requires.top_within;
      within = omega (arith, c.in_ok-parent-in-None.ensures.earlier, c.requires.within);
      inside = parent-inside (entry_path es c.args.start) (entry_path es c.args.number)
          (entry_path es c.in_ok-parent-in-None.field-0) c.requires.inside apart
          c.in_ok-parent-in-None.ensures.found.path;
    }
