use Rattle.rowan_edit_tests.proofs.calling.format.Goals as goal

pub returns : goal.returns
returns g c = λ test keeps. c.closures_keep_tokens.ensures test c.args.formatter.now _
    c.args.root.now c.in_ok-new.new keeps c.in_ok-new.ensures.ok
