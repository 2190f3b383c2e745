-- First all cells are stored, and then all initial values.
use Rattle.std.proofs.Common.{List, ℕ, ◌≡◌, length, map, ap, arith, ◌∙◌}
use Rattle.std.proofs.lemmas.List.{with_items_is}
use Rattle.spl_sorts.specs.spl_meaning.Places.{put_initials}
use Rattle.spl_sorts.specs.spl_meaning.Bodies as bodies
use Rattle.spl_sorts.specs.spl_meaning.Bodies.{program_of}
use Rattle.spl_sorts.specs.spl_meaning.Runs.{global_address, zeros}
use Rattle.spl_areas.specs.spl_sound.Spelled.{source_of}
use Rattle.spl_initials.specs.Memory.{memory_of}
use Rattle.spl_globals.specs.declared.areas.Areas.{Areas}
use Rattle.spl_globals.specs.declared.stored.Pass.TheVariants as pass
use Rattle.spl_globals.specs.Stored.{Memory, first_areas, units_stored}
use Rattle.spl_globals.proofs.StoredLaws.{cells_stored, initials_stored}
use Rattle.spl_globals.proofs.globals.data_words.Goals as goal

pub returns : goal.returns
returns c =
    let us = map source_of c.args.units.now in
    let words = bodies.data_words us in
    let p = program_of us in
    let zero = zeros words in
    let long : length c.fill.new.words ≡ c.in_ok-words.words.len = omega (arith, c.fill.auto.words, c.deref_mut.ensures.len) in
    let filled : Areas → Memory → Memory = λ at mem. units_stored pass.Initials at us (units_stored pass.Cells at us mem) in
    ap memory_of (with_items_is c.in_ok-words.words c.fill.new.words long)
    ∙ c.in_ok-fill.ensures
    ∙ ap (λ (at : Areas). filled at (memory_of c.deref_mut.result.now)) c.in_ok-found.ensures.areas
    ∙ ap (λ (ws : List ℕ). filled (first_areas us) (memory_of ws)) c.deref_mut.ensures.value
    ∙ ap (filled (first_areas us)) (c.in_ok-words.ensures ∙ ap zeros c.in_ok-found.ensures.words)
    ∙ initials_stored words (first_areas us) us (units_stored pass.Cells (first_areas us) us zero) c.requires
    ∙ ap (put_initials global_address p.initials) (cells_stored words (first_areas us) us zero c.requires)
