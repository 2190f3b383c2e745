-- The layout, the modules and what is linked of them are what is built.
use Rattle.std.proofs.Common.{map}
use Rattle.spl_sound.specs.Spelled.{source_of}
use Rattle.spl_built.proofs.spl_formed_modules_proofs.Formed.{all_formed}
use Rattle.spl_build.proofs.BuildLemmas.{built_so, few_modules}
use Rattle.spl_build.proofs.building.build.Goals as goal

pub returns-clause-built : goal.returns-clause-built
returns-clause-built c =
    built_so (map source_of c.args.sound.now.units.items) c.in_ok-layout.layout c.in_ok-modules.modules.items c.linked.result c.in_ok-layout.ensures.laid
    c.in_ok-modules.ensures c.linked.ensures.linked

pub linked-requires-clause-formed : goal.linked-requires-clause-formed
linked-requires-clause-formed c = all_formed (map source_of c.args.sound.now.units.items) c.in_ok-modules.modules.items c.in_ok-modules.ensures

pub linked-requires-clause-few : goal.linked-requires-clause-few
linked-requires-clause-few c =
    few_modules c.args.sound.now.units.items c.in_ok-modules.modules.items c.args.sound.now.few c.args.sound.now.spelled c.in_ok-modules.ensures
