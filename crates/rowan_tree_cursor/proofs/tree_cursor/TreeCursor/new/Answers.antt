use Rattle.std.proofs.Common.{[], sym, ◌∙◌, ap, subst, rules}
use Rattle.rowan_green.specs.declared.utility_types.NodeOrToken.TheVariants.{Node}
use Rattle.rowan_terms.specs.Path.{subterm, offset}
use Rattle.rowan_terms.proofs.Paths.{offset-empty}
use Rattle.rowan_tree_cursor.specs.TreeCursor.{path_of, AreFrames}
use Rattle.rowan_tree_cursor.proofs.tree_cursor.TreeCursor.new.Goals as goal

pub invariant_of-result : goal.invariant_of-result
invariant_of-result c =
    let root = c.args.root.now in
    record {
      frames = subst (AreFrames root []) (sym c.new.ensures.items) tt;
      stands = ap (λ fs. subterm (Node root) (path_of fs)) c.new.ensures.items;
      start = c.from.ensures
          ∙ sym (ap (λ fs. offset (Node root) (path_of fs)) c.new.ensures.items
          ∙ offset-empty (Node root));
      fits = search rules;
    }
