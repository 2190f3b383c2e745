-- Where the label leads somewhere, its mark was made, and what waits beyond its pending words is dropped.
use Rattle.std.proofs.Common.{ap, sym, ◌∙◌, option_map}
use Rattle.spl_tree.specs.Views.{letters}
use Rattle.spl_operations.proofs.PutLemmas.{ok_then}
use Rattle.spl_landing_maps.specs.Landings.{landing_of, landings_of}
use Rattle.spl_gen_stmt.proofs.PartLemmas.{gone}
use Rattle.spl_gen_stmt.proofs.jumps.go_to.Goals as goal

pub jump-requires : goal.jump-requires
jump-requires c = c.requires.landings (letters c.args.name.now) (landing_of c.in-Some.landing) (ap (option_map landing_of) (sym c.find.ensures ∙ c.in-Some.is))

pub returns-in-Some : goal.returns-in-Some
returns-in-Some c =
    ok_then c.jump.result
    (λ last. gone (landings_of c.args.context.now.landings.now (letters c.args.name.now)) (landing_of c.in-Some.landing) c.args.waiting c.saturating_sub.result c.from.result
    (ap (option_map landing_of) (sym c.find.ensures ∙ c.in-Some.is)) c.from.ensures c.saturating_sub.ensures last)
    c.jump.ensures
