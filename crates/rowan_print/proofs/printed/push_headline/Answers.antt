use Rattle.std.proofs.Common.{◌-◌, length, drop}
use Rattle.std.proofs.lemmas.Str.{IsUtf8-from_ascii, IsAscii-take}
use Rattle.rowan_print.proofs.printed.push_headline.Goals as goal

pub from_utf8_unchecked-requires : goal.from_utf8_unchecked-requires
from_utf8_unchecked-requires g c =
    let start = c.place_range-start.result in
    let room = c.place_range-start.new.room in
    IsUtf8-from_ascii _ (IsAscii-take (drop start room) (length room - start)
    (c.place_range-start.ensures.ascii c.requires.ascii))
