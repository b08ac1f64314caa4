use Rattle.std.proofs.Common.{◌≡◌, ◌∙◌, ap}
use Rattle.std.proofs.lemmas.Result.{IfOk-weaker}
use Rattle.rowan_green.specs.declared.utility_types.NodeOrToken.TheVariants.{Node, Token}
use Rattle.rowan_cursor.specs.Refs.{token_place}
use Rattle.rowan_table.specs.Replacement.{with_replacement, KeepsTheRest}
use Rattle.rowan_table.specs.TableView.{cursor_of}
use Rattle.rowan_table.proofs.ReplaceLemmas.{keeps, put-own}
use Rattle.rowan_cursor.proofs.cursor.token_ref.SyntaxTokenRef.replace_with.Goals as goal

pub returns-clause-rest : goal.returns-clause-rest
returns-clause-rest c =
    let u = Token c.args.replacement in
    let at = cursor_of c.deref.result.now c.args.self.now.number in
    let here : at ≡ token_place c.args.self.now =
    ap (λ t. cursor_of t c.args.self.now.number) c.deref.ensures in
    IfOk-weaker c.replace_token.result (λ n. Node n ≡ with_replacement at u)
    (KeepsTheRest (token_place c.args.self.now) u)
    (λ n e. keeps (token_place c.args.self.now) u n c.kind-2.result.0 c.kind-2.ensures
    (e ∙ ap (λ d. with_replacement d u) here)) c.replace_token.ensures.root

pub returns-clause-own : goal.returns-clause-own
returns-clause-own c = λ own.
    (let u = Token c.args.replacement in
    let at = cursor_of c.deref.result.now c.args.self.now.number in
    let here : at ≡ token_place c.args.self.now =
    ap (λ t. cursor_of t c.args.self.now.number) c.deref.ensures in
    IfOk-weaker c.replace_token.result (λ n. Node n ≡ with_replacement at u)
    (λ n. n ≡ (token_place c.args.self.now).root)
    (λ n e. put-own (token_place c.args.self.now) u n own
    (e ∙ ap (λ d. with_replacement d u) here)) c.replace_token.ensures.root)
