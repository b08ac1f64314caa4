use Rattle.std.proofs.Common.{◌≡◌, ◌∙◌, ap, reverse, IfSome, IfNone, Some, None, Option, ℕ}
use Rattle.rowan_terms.specs.Path.{Path}
use Rattle.rowan_green.specs.Term.{NodeTerm}
use Rattle.rowan_green.specs.declared.utility_types.NodeOrToken.TheVariants.{Node}
use Rattle.rowan_table.specs.Moves.{child_count, child_paths, first_at}
use Rattle.rowan_table.specs.Pass.{leaf_list, before, until_child, ComesBefore, ComesBack}
use Rattle.rowan_table.specs.Pass.{last_inside}
use Rattle.rowan_table.specs.Table.{root_node, entry_path}
use Rattle.rowan_table.proofs.TokenLemmas.{last_child-inside, back_child, no_child-until_child}
use Rattle.rowan_table.proofs.TokenLemmas.{back_no_child}
use Rattle.rowan_table.proofs.table.Table.step_back.Goals as goal
use Rattle.rowan_table.specs.TableView.{entries_of}

pub returns-in-Some-clause-found : goal.returns-in-Some-clause-found
returns-in-Some-clause-found c =
    let es = entries_of c.args.self.now in
    record {
      inside = last_child-inside (root_node es) (entry_path es c.args.top)
          (entry_path es c.args.number) (entry_path es c.in-Some.child) c.requires.inside
          c.in-Some.ensures.path;
      top_within = c.requires.top_within;
      within = c.in-Some.ensures.within;
    }

pub returns-in-Some-clause-back : goal.returns-in-Some-clause-back
returns-in-Some-clause-back c =
    let es = entries_of c.args.self.now in
    back_child (root_node es) (entry_path es c.args.number) (entry_path es c.in-Some.child)
    c.in-Some.ensures.path

back_any : (root : NodeTerm) (p : Path) (path : ℕ → Path) (r : Option ℕ)
    → ◌≡◌ {A = Option Path} None (first_at (reverse (child_paths root p)))
    → IfSome r (λ n. ComesBefore root p (path n)) → IfSome r (λ n. ComesBack root p (path n))
back_any root p path None h x = x
back_any root p path (Some n) h x = back_no_child root p (path n) h x

end_any : (top p : Path) (root : NodeTerm) (r : Option ℕ)
    → ◌≡◌ {A = Option Path} None (first_at (reverse (child_paths root p)))
    → IfNone r (last_inside top (before leaf_list (Some (Node root)) p) ≡ None)
    → IfNone r (last_inside top (until_child leaf_list (Some (Node root)) p (child_count root p))
    ≡ None)
end_any top p root None h x = ap (last_inside top) (no_child-until_child root p h leaf_list) ∙ x
end_any top p root (Some n) h x = x

pub returns-in-None-clause-back : goal.returns-in-None-clause-back
returns-in-None-clause-back c =
    let es = entries_of c.args.self.now in
    back_any (root_node es) (entry_path es c.args.number) (entry_path es) c.skip_back.result
    c.in-None.ensures.path c.skip_back.ensures.back

pub returns-in-None-clause-end : goal.returns-in-None-clause-end
returns-in-None-clause-end c =
    let es = entries_of c.args.self.now in
    end_any (entry_path es c.args.top) (entry_path es c.args.number) (root_node es)
    c.skip_back.result c.in-None.ensures.path c.skip_back.ensures.end
