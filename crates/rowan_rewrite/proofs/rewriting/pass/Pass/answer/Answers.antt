use Rattle.std.proofs.Common.{◌≡◌, ◌+◌, ◌++◌, ◌∷◌, [], Some, sym, ◌∙◌, ap, subst, refl, append_assoc}
use Rattle.std.specs.Prelude.{slice_get}
use Rattle.rowan_green.specs.declared.utility_types.NodeOrToken.TheVariants.{Token}
use Rattle.rowan_green.specs.Term.{node_children}
use Rattle.rowan_rewrite.specs.Drafts.{done, inside_with}
use Rattle.rowan_rewrite.specs.Rewriting.{lead, own}
use Rattle.rowan_rewrite.proofs.PassSteps.{IsPast, past-alone, takes}
use Rattle.rowan_rewrite.proofs.rewriting.pass.Pass.answer.Goals as goal

pub returns-in_ok-keep-in-Keep-clause-ok : goal.returns-in_ok-keep-in-Keep-clause-ok
returns-in_ok-keep-in-Keep-clause-ok c = λ t at.
    (let d = c.args.self.inner in
    let e = c.in_ok-keep-in-Keep.field-0 in
    let made = c.in_ok-keep-in-Keep.ensures in
    takes c.args.self (record { above = c.args.self.above; inner = e }) t c.args.answer
    c.requires.pass at refl
    (subst (λ a. IsPast d (lead a) (own t a) e) (sym c.in-Keep.is)
    (past-alone d e (Token t ∷ []) c.requires.pass.1 made.node made.next made.lead
    (made.done (Token t) at))))

pub returns-in_ok-keep-in-KeepBehind-clause-ok : goal.returns-in_ok-keep-in-KeepBehind-clause-ok
returns-in_ok-keep-in-KeepBehind-clause-ok c = λ t at.
    (let d = c.args.self.inner in
    let front = c.in-KeepBehind.elements.items in
    let m = c.in_ok-put_before-in-KeepBehind.field-0 in
    let put = c.in_ok-put_before-in-KeepBehind.ensures in
    let e = c.in_ok-keep-in-KeepBehind.field-0 in
    let made = c.in_ok-keep-in-KeepBehind.ensures in
    let next : e.next ≡ d.next + 1 = made.next ∙ ap (λ i. i + 1) put.next in
    let there : slice_get (node_children m.node.now) m.next ≡ Some (Token t) =
    ap (λ n. slice_get (node_children n) m.next) put.node
    ∙ ap (slice_get (node_children d.node.now)) put.next ∙ at in
    let past : IsPast d front (Token t ∷ []) e = record {
      node = made.node ∙ put.node;
      next = next;
      lead = made.lead ∙ put.lead;
      done = made.done (Token t) there ∙ ap (λ ts. ts ++ Token t ∷ []) put.done
          ∙ append_assoc (done d) (inside_with d front) (Token t ∷ []);
    } in
    takes c.args.self (record { above = c.args.self.above; inner = e }) t c.args.answer
    c.requires.pass at refl
    (subst (λ a. IsPast d (lead a) (own t a) e) (sym c.in-KeepBehind.is) past))

pub returns-in_ok-put-in-Remove-clause-ok : goal.returns-in_ok-put-in-Remove-clause-ok
returns-in_ok-put-in-Remove-clause-ok c = λ t at.
    (let d = c.args.self.inner in
    let e = c.in_ok-put-in-Remove.field-0 in
    let made = c.in_ok-put-in-Remove.ensures in
    takes c.args.self (record { above = c.args.self.above; inner = e }) t c.args.answer
    c.requires.pass at refl
    (subst (λ a. IsPast d (lead a) (own t a) e) (sym c.in-Remove.is)
    (past-alone d e [] c.requires.pass.1 made.node made.next made.lead
    (made.done ∙ ap (λ ts. done d ++ ts) c.new.ensures.items))))

pub returns-in_ok-put-in-Replace-clause-ok : goal.returns-in_ok-put-in-Replace-clause-ok
returns-in_ok-put-in-Replace-clause-ok c = λ t at.
    (let d = c.args.self.inner in
    let e = c.in_ok-put-in-Replace.field-0 in
    let made = c.in_ok-put-in-Replace.ensures in
    takes c.args.self (record { above = c.args.self.above; inner = e }) t c.args.answer
    c.requires.pass at refl
    (subst (λ a. IsPast d (lead a) (own t a) e) (sym c.in-Replace.is)
    (past-alone d e c.in-Replace.elements.items c.requires.pass.1 made.node made.next made.lead
    made.done)))
