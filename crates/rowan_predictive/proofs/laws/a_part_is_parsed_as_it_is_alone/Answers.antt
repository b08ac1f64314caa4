use Rattle.rowan_predictive.proofs.Alone.{steps-alike}
use Rattle.rowan_predictive.proofs.laws.a_part_is_parsed_as_it_is_alone.Goals as goal

pub returns : goal.returns
returns c = λ entries part whole d actions errors behind k state quiet alike.
    steps-alike entries part whole d actions errors behind quiet k state alike
