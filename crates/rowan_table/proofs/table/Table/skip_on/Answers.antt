use Rattle.std.proofs.Common.{sym, ◌∙◌, ap, arith, Some}
use Rattle.rowan_green.specs.declared.utility_types.NodeOrToken.TheVariants.{Node}
use Rattle.rowan_table.specs.Pass.{leaf_list, after, first_inside}
use Rattle.rowan_table.specs.Table.{root_node, entry_path}
use Rattle.rowan_table.proofs.TokenLemmas.{behind-inside, parent-inside, next_behind, climb_behind}
use Rattle.rowan_table.proofs.TokenLemmas.{no_parent, first_inside-after, apart_paths}
use Rattle.rowan_table.proofs.table.Table.skip_on.Goals as goal
use Rattle.rowan_table.specs.TableView.{entries_of}

pub returns-in-Some-clause-found : goal.returns-in-Some-clause-found
returns-in-Some-clause-found c =
    let es = entries_of c.args.self.now in
    let apart = apart_paths es c.args.self.now.complete c.loop-current.current c.args.top
    c.loop-current.invariant.0 c.requires.top_within c.loop-current-test.true in
    record {
      inside = behind-inside (root_node es) (entry_path es c.args.top)
          (entry_path es c.loop-current.current) (entry_path es c.in-Some.sibling)
          c.loop-current.invariant.1 apart c.in-Some.ensures.path;
      top_within = c.requires.top_within;
      within = c.in-Some.ensures.within;
    }

pub returns-in-Some-clause-next : goal.returns-in-Some-clause-next
returns-in-Some-clause-next c =
    let es = entries_of c.args.self.now in
    let next = next_behind (root_node es) (entry_path es c.loop-current.current)
    (entry_path es c.in-Some.sibling) c.in-Some.ensures.path in
    record { same = λ g. next.same g ∙ c.loop-current.invariant.2 g }

pub loop-current-preserved : goal.loop-current-preserved
loop-current-preserved c =
    let es = entries_of c.args.self.now in
    let apart = apart_paths es c.args.self.now.complete c.loop-current.current c.args.top
    c.loop-current.invariant.0 c.requires.top_within c.loop-current-test.true in (
      omega (arith, c.in-Some-parent.ensures.earlier, c.loop-current.invariant.0),
      parent-inside (entry_path es c.args.top) (entry_path es c.loop-current.current)
          (entry_path es c.in-Some-parent.parent) c.loop-current.invariant.1 apart
          c.in-Some-parent.ensures.found.path,
      λ g. sym (climb_behind (root_node es) (entry_path es c.loop-current.current)
          (entry_path es c.in-Some-parent.parent) c.in_default.ensures.path
          c.in-Some-parent.ensures.found.path g) ∙ c.loop-current.invariant.2 g,
    )

pub returns-in-None-clause-end : goal.returns-in-None-clause-end
returns-in-None-clause-end c =
    let es = entries_of c.args.self.now in
    let top = entry_path es c.args.top in
    let at_root = no_parent (entry_path es c.loop-current.current) c.in-None.ensures.found.path in
    ap (first_inside top) (sym (c.loop-current.invariant.2 leaf_list)
    ∙ ap (after leaf_list (Some (Node (root_node es)))) at_root)

pub returns-clause-end : goal.returns-clause-end
returns-clause-end c =
    let es = entries_of c.args.self.now in
    let top = entry_path es c.args.top in
    let same = ap (λ n. after leaf_list (Some (Node (root_node es))) (entry_path es n))
    c.loop-current-test.false in
    ap (first_inside top) (sym (c.loop-current.invariant.2 leaf_list) ∙ same)
    ∙ first_inside-after leaf_list (Some (Node (root_node es))) top
