-- The limits of globals, and then those of bodies.
use Rattle.std.proofs.Common.{List, Option, map, ap, sym, subst, ◌∙◌, None}
use Rattle.spl_tree.specs.declared.units.SplUnit.{SplUnit}
use Rattle.spl_sound.specs.spl_meaning.Limits.{Full, first_among, global_limits, joined, unit_limits}
use Rattle.spl_sound.specs.Spelled.{source_of}
use Rattle.spl_areas.specs.spl_places.Programs.{NewInAll}
use Rattle.spl_areas.proofs.spl_places_proofs.CounterLaws.{among_both}
use Rattle.spl_areas.proofs.spl_places_proofs.SoundLaws.{sound_new}
use Rattle.spl_limits.specs.FirstPassed.{behind_units}
use Rattle.spl_limits.proofs.LimitLaws.{units_passed}
use Rattle.spl_limits.proofs.first_limit.first_limit.Goals as goal

pub program_globals-requires : goal.program_globals-requires
program_globals-requires c =
    subst (λ (us : List SplUnit). NewInAll (map source_of us)) (sym c.deref.ensures.value)
    (sound_new (map source_of c.args.sound.now.units.items) c.args.sound.now.sound)

pub returns : goal.returns
returns c =
    let us = map source_of c.args.sound.now.units.items in
    let globals = global_limits us in
    let bodies = joined unit_limits us in
    let first = c.in_ok-program_globals.ensures
    ∙ ap (λ (vs : List SplUnit). first_among c.new-first.result (global_limits (map source_of vs))) c.deref.ensures.value
    ∙ ap (λ (f : Option Full). first_among f globals) c.new-first.ensures in
    c.first.ensures ∙ c.in_ok-bodies_passed.ensures
    ∙ ap (λ (vs : List SplUnit). behind_units (map source_of vs) c.program_globals.new.first) c.deref-2.ensures.value
    ∙ units_passed us c.program_globals.new.first (sound_new us c.args.sound.now.sound).1
    ∙ ap (λ (f : Option Full). first_among f bodies) first
    ∙ sym (among_both None globals bodies)
