-- The tokens behind a token are the next one and those behind that one, by a law of `rowan`.
use Rattle.std.proofs.Common.{[], ◌∷◌, sym, ◌∙◌, ap}
use Rattle.std.specs.Prelude.{not}
use Rattle.std.specs.List.{find}
use Rattle.std.specs.Option.{option_map, option_map_or}
use Rattle.rowan.specs.Around.{other_tokens, tokens_from}
use Rattle.rowan.specs.Ast.{has_one_of}
use Rattle.rowan.specs.Cursor.{Cursor}
use Rattle.rowan.specs.Refs.{token_place}
use Rattle.rowan.specs.Types.Direction.TheVariants.{Next}
use Rattle.rowan_examples.specs.Kinds.{kind_of, same_kind}
use Rattle.rowan_examples.specs.declared.kinds.Kind.TheVariants.{Space}
use Rattle.rowan_examples.proofs.searches.next_word.Goals as goal

pub returns-in-Some : goal.returns-in-Some
returns-in-Some c =
    let here = token_place c.args.token in
    let is_word = λ (t : Cursor). not (has_one_of kind_of same_kind (Space ∷ []) t) in
    c.skip_trivia_token.ensures ∙ sym (ap (find is_word)
    (c.tokens_follow_one_another.ensures.next here
    ∙ ap (λ o. option_map_or (tokens_from Next) o [])
    (sym c.next_token.ensures ∙ ap (option_map token_place) c.in-Some.is)))

pub returns-in-None : goal.returns-in-None
returns-in-None c =
    let here = token_place c.args.token in
    let is_word = λ (t : Cursor). not (has_one_of kind_of same_kind (Space ∷ []) t) in
    sym (ap (find is_word) (c.tokens_follow_one_another.ensures.next here
    ∙ ap (λ o. option_map_or (tokens_from Next) o [])
    (sym c.next_token.ensures ∙ ap (option_map token_place) c.in-None.is)))
