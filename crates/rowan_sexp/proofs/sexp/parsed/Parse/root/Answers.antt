use Rattle.std.proofs.Common.{◌≡◌, refl, ap, cond, false, Option, Some, None}
use Rattle.std.specs.Option.{IsSome, option_map, option_map_or}
use Rattle.rowan_table.specs.Cursor.{Cursor, kind}
use Rattle.rowan.specs.Ast.{casts_at, if_casts}
use Rattle.rowan_sexp.specs.Casts.{is_root}
use Rattle.rowan_sexp.specs.Parsing.{root_kind}
use Rattle.rowan_sexp.specs.Sexp.{kind_of}
use Rattle.rowan_sexp.proofs.sexp.parsed.Parse.root.Goals as goal

-- a node of the root's kind casts
casts : (o : Option Cursor) (n : Cursor)
    → option_map (λ (r : Cursor). r) o ≡ if_casts (casts_at kind_of is_root) n
    → kind n ≡ Some root_kind → IsSome o
casts (Some r) n e k = refl
casts None n e k =
    let casting : if_casts (casts_at kind_of is_root) n ≡ Some n =
    ap (λ kind. cond (option_map_or is_root (option_map kind_of kind) false) (Some n) None) k in
    absurd cc

pub unwrap-requires : goal.unwrap-requires
unwrap-requires c = casts c.cast.result c.in_ok-root.root c.cast.ensures c.in_ok-root.ensures.kind
