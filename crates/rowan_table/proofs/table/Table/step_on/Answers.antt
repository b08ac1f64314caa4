use Rattle.std.proofs.Common.{◌≡◌, ◌∙◌, ap, IfSome, IfNone, Some, None, Option, ℕ}
use Rattle.rowan_terms.specs.Path.{Path}
use Rattle.rowan_green.specs.Term.{NodeTerm}
use Rattle.rowan_green.specs.declared.utility_types.NodeOrToken.TheVariants.{Node}
use Rattle.rowan_table.specs.Moves.{child_paths, first_at}
use Rattle.rowan_table.specs.Pass.{leaf_list, after, since_child, ComesBehind, ComesNext}
use Rattle.rowan_table.specs.Pass.{first_inside}
use Rattle.rowan_table.specs.Table.{root_node, entry_path}
use Rattle.rowan_table.proofs.TokenLemmas.{first_child-inside, next_child, no_child-since_child}
use Rattle.rowan_table.proofs.TokenLemmas.{next_no_child}
use Rattle.rowan_table.proofs.table.Table.step_on.Goals as goal
use Rattle.rowan_table.specs.TableView.{entries_of}

pub returns-in-Some-clause-found : goal.returns-in-Some-clause-found
returns-in-Some-clause-found c =
    let es = entries_of c.args.self.now in
    record {
      inside = first_child-inside (root_node es) (entry_path es c.args.top)
          (entry_path es c.args.number) (entry_path es c.in-Some.child) c.requires.inside
          c.in-Some.ensures.path;
      top_within = c.requires.top_within;
      within = c.in-Some.ensures.within;
    }

pub returns-in-Some-clause-next : goal.returns-in-Some-clause-next
returns-in-Some-clause-next c =
    let es = entries_of c.args.self.now in
    next_child (root_node es) (entry_path es c.args.number) (entry_path es c.in-Some.child)
    c.in-Some.ensures.path

next_any : (root : NodeTerm) (p : Path) (path : ℕ → Path) (r : Option ℕ)
    → ◌≡◌ {A = Option Path} None (first_at (child_paths root p))
    → IfSome r (λ n. ComesBehind root p (path n)) → IfSome r (λ n. ComesNext root p (path n))
next_any root p path None h x = x
next_any root p path (Some n) h x = next_no_child root p (path n) h x

end_any : (top p : Path) (root : NodeTerm) (r : Option ℕ)
    → ◌≡◌ {A = Option Path} None (first_at (child_paths root p))
    → IfNone r (first_inside top (after leaf_list (Some (Node root)) p) ≡ None)
    → IfNone r (first_inside top (since_child leaf_list (Some (Node root)) p 0) ≡ None)
end_any top p root None h x = ap (first_inside top) (no_child-since_child root p h leaf_list) ∙ x
end_any top p root (Some n) h x = x

pub returns-in-None-clause-next : goal.returns-in-None-clause-next
returns-in-None-clause-next c =
    let es = entries_of c.args.self.now in
    next_any (root_node es) (entry_path es c.args.number) (entry_path es) c.skip_on.result
    c.in-None.ensures.path c.skip_on.ensures.next

pub returns-in-None-clause-end : goal.returns-in-None-clause-end
returns-in-None-clause-end c =
    let es = entries_of c.args.self.now in
    end_any (entry_path es c.args.top) (entry_path es c.args.number) (root_node es) c.skip_on.result
    c.in-None.ensures.path c.skip_on.ensures.end
