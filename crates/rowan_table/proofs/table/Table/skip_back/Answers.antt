use Rattle.std.proofs.Common.{sym, ◌∙◌, ap, arith, Some}
use Rattle.rowan_green.specs.declared.utility_types.NodeOrToken.TheVariants.{Node}
use Rattle.rowan_table.specs.Pass.{leaf_list, before, last_inside}
use Rattle.rowan_table.specs.Table.{root_node, entry_path}
use Rattle.rowan_table.proofs.TokenLemmas.{before-inside, parent-inside, next_before, climb_before}
use Rattle.rowan_table.proofs.TokenLemmas.{no_parent, last_inside-before, apart_paths, stands_at}
use Rattle.rowan_table.proofs.table.Table.skip_back.Goals as goal
use Rattle.rowan_table.specs.TableView.{entries_of}

pub returns-in-Some-clause-found : goal.returns-in-Some-clause-found
returns-in-Some-clause-found c =
    let es = entries_of c.args.self.now in
    let apart = apart_paths es c.args.self.now.complete c.loop-current.current c.args.top
    c.loop-current.invariant.0 c.requires.top_within c.loop-current-test.true in
    record {
      inside = before-inside (root_node es) (entry_path es c.args.top)
          (entry_path es c.loop-current.current) (entry_path es c.in-Some.sibling)
          c.loop-current.invariant.1 apart c.in-Some.ensures.path;
      top_within = c.requires.top_within;
      within = c.in-Some.ensures.within;
    }

pub returns-in-Some-clause-back : goal.returns-in-Some-clause-back
returns-in-Some-clause-back c =
    let es = entries_of c.args.self.now in
    let there = stands_at es c.args.self.now.complete c.in-Some.sibling c.in-Some.ensures.within in
    let back = next_before (root_node es) (entry_path es c.loop-current.current)
    (entry_path es c.in-Some.sibling) there.0 there.1 c.in-Some.ensures.path in
    record { same = λ g. back.same g ∙ c.loop-current.invariant.2 g }

pub loop-current-preserved : goal.loop-current-preserved
loop-current-preserved c =
    let es = entries_of c.args.self.now in
    let apart = apart_paths es c.args.self.now.complete c.loop-current.current c.args.top
    c.loop-current.invariant.0 c.requires.top_within c.loop-current-test.true in (
      omega (arith, c.in-Some-parent.ensures.earlier, c.loop-current.invariant.0),
      parent-inside (entry_path es c.args.top) (entry_path es c.loop-current.current)
          (entry_path es c.in-Some-parent.parent) c.loop-current.invariant.1 apart
          c.in-Some-parent.ensures.found.path,
      λ g. sym (climb_before (root_node es) (entry_path es c.loop-current.current)
          (entry_path es c.in-Some-parent.parent) c.in_default.ensures.path
          c.in-Some-parent.ensures.found.path g) ∙ c.loop-current.invariant.2 g,
    )

pub returns-in-None-clause-end : goal.returns-in-None-clause-end
returns-in-None-clause-end c =
    let es = entries_of c.args.self.now in
    let top = entry_path es c.args.top in
    let at_root = no_parent (entry_path es c.loop-current.current) c.in-None.ensures.found.path in
    ap (last_inside top) (sym (c.loop-current.invariant.2 leaf_list)
    ∙ ap (before leaf_list (Some (Node (root_node es)))) at_root)

pub returns-clause-end : goal.returns-clause-end
returns-clause-end c =
    let es = entries_of c.args.self.now in
    let top = entry_path es c.args.top in
    let same = ap (λ n. before leaf_list (Some (Node (root_node es))) (entry_path es n))
    c.loop-current-test.false in
    ap (last_inside top) (sym (c.loop-current.invariant.2 leaf_list) ∙ same)
    ∙ last_inside-before leaf_list (Some (Node (root_node es))) top
