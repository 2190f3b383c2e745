-- The units of a sound program stand, and so come to its modules.
use Rattle.std.proofs.Common.{List, map, sym, ap, subst, ◌∙◌}
use Rattle.spl_tree.specs.declared.units.SplUnit.{SplUnit}
use Rattle.spl_tree.specs.declared.names_and_places.Name.{Name}
use Rattle.spl_tree.specs.Views.{letters}
use Rattle.spl_sound.specs.Spelled.{source_of}
use Rattle.spl_unit_laws.specs.spl_places.Programs.{Each, NewInAll}
use Rattle.spl_unit_laws.proofs.spl_places_proofs.SoundLaws.{sound_new}
use Rattle.spl_layout.specs.spl_globals.Stored.{first_areas}
use Rattle.spl_unit_laws.specs.spl_module_code.Modules.{program_uses}
use Rattle.spl_unit_laws.specs.Units.{OnceInBodies, UnitsStand}
use Rattle.spl_unit_laws.proofs.Modules.{once}
use Rattle.spl_unit_laws.specs.Begins.{UnitsBegin}
use Rattle.spl_unit_walks.proofs.Compiled.{compiled, units_begin}
use Rattle.spl_gen_proc.proofs.compiling.compile.Goals as goal

pub first_areas-requires : goal.first_areas-requires
first_areas-requires c =
    subst (λ (us : List SplUnit). NewInAll (map source_of us)) (sym c.deref.ensures.value)
    (sound_new (map source_of c.args.sound.now.units.items) c.args.sound.now.sound)

pub all_modules-requires-clause-begin : goal.all_modules-requires-clause-begin
all_modules-requires-clause-begin c =
    subst
    (λ (us : List SplUnit). UnitsBegin c.deref-4.result.now (map source_of us)
    (record { primary = c.in_ok-areas.areas.primary; own = c.in_ok-areas.areas.own; own_arrays = c.in_ok-areas.areas.own_arrays; room = 0 }))
    (sym c.deref-3.ensures.value)
    (units_begin (map source_of c.args.sound.now.units.items) c.deref-4.result.now c.in_ok-areas.areas c.args.sound.now.sound
    (c.deref-4.ensures.value ∙ c.requires.bodies)
    (c.in_ok-areas.ensures.areas ∙ ap (λ (us : List SplUnit). first_areas (map source_of us)) c.deref.ensures.value))

pub all_modules-requires-clause-once : goal.all_modules-requires-clause-once
all_modules-requires-clause-once c =
    subst (λ (us : List SplUnit). Each OnceInBodies (map source_of us)) (sym c.deref-3.ensures.value)
    (once (map source_of c.args.sound.now.units.items) c.args.sound.now.sound)

pub returns : goal.returns
returns c =
    compiled (map source_of c.args.sound.now.units.items) c.deref-4.result.now (map letters c.deref-5.result.now) c.in_ok-areas.areas c.in_ok-modules.modules.items
    c.args.sound.now.sound (c.deref-4.ensures.value ∙ c.requires.bodies)
    (ap (λ (ns : List Name). map letters ns) c.deref-5.ensures.value ∙ c.in_ok-names.ensures
    ∙ ap (λ (us : List SplUnit). program_uses (map source_of us)) c.deref-2.ensures.value)
    (c.in_ok-areas.ensures.areas ∙ ap (λ (us : List SplUnit). first_areas (map source_of us)) c.deref.ensures.value)
    (subst
    (λ (us : List SplUnit). UnitsStand c.deref-4.result.now (map letters c.deref-5.result.now) (map source_of us)
    (record { primary = c.in_ok-areas.areas.primary; own = c.in_ok-areas.areas.own; own_arrays = c.in_ok-areas.areas.own_arrays; room = 0 })
    c.in_ok-modules.modules.items)
    c.deref-3.ensures.value c.in_ok-modules.ensures)
