use Rattle.std.proofs.Common.{◌≡◌, [], ◌∷◌, ◌++◌, refl, sym, ◌∙◌, ap, arith}
use Rattle.std.specs.Option.{option_to_list}
use Rattle.rowan_table.specs.Cursor.{last_index}
use Rattle.rowan_edit.specs.Ranked.{without_last}
use Rattle.rowan_edit.proofs.PlaceLemmas.{same-edit}
use Rattle.rowan_edit.proofs.RankLemmas.{front-of, last-of}
use Rattle.rowan_edit.proofs.ranked.splice_of.Goals as goal

pub unwrap-start-requires : goal.unwrap-start-requires
unwrap-start-requires c =
    c.pop.ensures.variant.1 (omega (arith, c.requires, c.args.rank.place.ok.0))

pub returns : goal.returns
returns c =
    let place = c.args.rank.place.items in
    let front = c.pop.new.self.items in
    let start = c.unwrap-start.result in
    let split : place ≡ front ++ start ∷ [] =
    c.pop.ensures.items ∙ ap (λ o. front ++ option_to_list o) c.unwrap-start.ensures in
    record {
      edit = same-edit front (without_last place) start (last_index place) c.args.rank.end
          c.args.rank.end c.args.body.new.items (sym (ap without_last split
          ∙ front-of front start)) (sym (ap last_index split ∙ last-of front start)) refl;
      range = refl;
    }
