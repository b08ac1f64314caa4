use Rattle.std.proofs.Common.{[], sym, ◌∙◌, ap}
use Rattle.std.specs.Option.{option_map_or}
use Rattle.rowan_green.specs.declared.utility_types.Direction.TheVariants.{Next, Prev}
use Rattle.rowan_api.specs.Refs.{token_place}
use Rattle.rowan.specs.Around.{tokens_from}
use Rattle.rowan.proofs.TokenLemmas.{next-step, prev-step}
use Rattle.rowan.proofs.ast.algo.neighbour.Goals as goal

pub returns-in-Next : goal.returns-in-Next
returns-in-Next g c =
    let place = token_place c.args.token in
    rw c.in-Next.is (next-step place
    ∙ ap (λ o. option_map_or (tokens_from Next) o []) (sym c.next_token.ensures))

pub returns-in-Prev : goal.returns-in-Prev
returns-in-Prev g c =
    let place = token_place c.args.token in
    rw c.in-Prev.is (prev-step place
    ∙ ap (λ o. option_map_or (tokens_from Prev) o []) (sym c.prev_token.ensures))
