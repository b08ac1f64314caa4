use Rattle.std.proofs.Common.{◌++◌, refl}
use Rattle.rowan_predictive.specs.View.{rules_of}
use Rattle.rowan_predictive.proofs.Amid.{amid-parses}
use Rattle.rowan_predictive.proofs.Bridge.{parsed, derived}
use Rattle.rowan_predictive.proofs.Whole.{run-sound, run-complete}
use Rattle.rowan_predictive.proofs.laws.a_part_is_replaced.Goals as goal

pub returns-clause-derives : goal.returns-clause-derives
returns-clause-derives c = λ rules start rule before kinds behind opening actions closing amid p.
    amid-parses rules rule kinds actions p start before behind opening closing amid

pub returns-clause-run : goal.returns-clause-run
returns-clause-run c = λ grammar start rule before kinds behind opening actions closing done complaints amid part whole.
    let entries = grammar.entries.items in
    let d = run-sound entries rule kinds actions _ part refl in
    let p = parsed entries d.0 rule kinds actions d.1 in
    let all = amid-parses (rules_of entries) rule kinds actions p start before behind opening closing amid in
    let n = derived entries start (before ++ (kinds ++ behind)) (opening ++ (actions ++ closing)) all in
    run-complete entries grammar.predictive (before ++ (kinds ++ behind)) n.0 (opening ++ (actions ++ closing)) start
    done complaints whole n.1
