use Rattle.std.proofs.Common.{rules, length, take, [], refl, subst, append-nil, ap, ◌∙◌, ◌++◌, take-append-drop, arith, sym, ◌≡◌, All}
use Rattle.std.proofs.lemmas.Grind.{common_steps}
use Rattle.std.proofs.lemmas.List.Elements.{All-append, All-nil}
use Rattle.rowan_events.specs.Tokens.{AreSaid, lies_within}
use Rattle.rowan_events.proofs.Lexing.{token_said, said_more, said_within, no_bytes}
use Rattle.rowan_events.proofs.lexer.lex.Goals as goal

pub loop-rest-preserved : goal.loop-rest-preserved
loop-rest-preserved g c =
    let cut = c.ceil_char_boundary.ensures in
    let parts = c.split_at.ensures in
    let token = token_said g.X.Lexer.says c.loop-rest.lexer c.next-len.new.self c.loop-rest.rest.now
    c.next-len.result c.max.result c.ceil_char_boundary.result
    (record { kind = c.next-len.result.kind; text = c.split_at.result.0 }) c.next-len.ensures.says
    refl c.max.ensures (record {
      border = cut.boundary;
      reached = cut.bound;
      first = cut.nearest;
      past = cut.beyond;
    }) parts.front_len in
    record {
      utf8 = search rules;
      ready = search rules;
      text = grind (arith, common_steps);
      filled = grind (arith, common_steps);
      start = grind (arith, common_steps);
      within = subst (All (lies_within (length c.args.text.now))) (sym c.in_ok-note.ensures.noted)
          (All-append (lies_within (length c.args.text.now)) c.loop-rest.errors.items _
          c.loop-rest.invariant.within (said_within c.next-len.result.message _ _ _ (omega arith)
          (grind (arith, common_steps))));
      said = said_more g.X.Lexer.says c.args.lexer c.loop-rest.lexer c.next-len.new.self
          c.loop-rest.rest.now c.split_at.result.1.now c.loop-rest.start _
          (record { kind = c.next-len.result.kind; text = c.split_at.result.0 })
          c.next-len.result.message c.loop-rest.tokens.items c.push.new.self.items
          c.loop-rest.errors.items _ token
          (ap (λ bs. bs ++ c.split_at.result.1.now) parts.front ∙ ap
          (λ bs. take c.ceil_char_boundary.result c.loop-rest.rest.now ++ bs) parts.back ∙
          take-append-drop c.ceil_char_boundary.result c.loop-rest.rest.now)
          (grind (arith, common_steps))
          c.in_ok-push.ensures.items c.in_ok-note.ensures.noted c.loop-rest.invariant.said;
    }

pub returns-clause-said : goal.returns-clause-said
returns-clause-said g c =
    let none : length c.loop-rest.rest.now ≡ 0 = search rules in
    let lexer = c.args.lexer in
    subst (λ ts. AreSaid g.X.Lexer.says lexer 0 ts c.loop-rest.errors.items)
    (append-nil c.loop-rest.tokens.items)
    (subst (AreSaid g.X.Lexer.says lexer 0 (c.loop-rest.tokens.items ++ []))
    (append-nil c.loop-rest.errors.items)
    (c.loop-rest.invariant.said [] [] (no_bytes c.loop-rest.rest.now none) refl))
