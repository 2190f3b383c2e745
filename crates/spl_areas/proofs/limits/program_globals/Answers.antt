-- The limits of lists are those of their items.
use Rattle.std.proofs.Common.{List, map, ap, sym, ◌∙◌}
use Rattle.std.proofs.lemmas.Result.{on_ok_weaker}
use Rattle.spl_sound.specs.spl_meaning.Limits.{first_among}
use Rattle.spl_sound.specs.Spelled.{source_of}
use Rattle.spl_places.specs.declared.data.Datum as code
use Rattle.spl_places.specs.ListedData.{Datum, datum_of}
use Rattle.spl_places.specs.Passed.{global_passed}
use Rattle.spl_places.specs.Programs as programs
use Rattle.spl_places.proofs.ProgramLaws.{global_is}
use Rattle.spl_areas.proofs.limits.program_globals.Goals as goal

pub returns : goal.returns
returns c =
    let us = map source_of c.args.units.now in
    let f = c.args.first.now in
    let globals = ap (λ (xs : List code.Datum). map datum_of xs) c.deref.ensures.value ∙ c.in_ok-globals.ensures in
    let locals = ap (λ (xs : List code.Datum). map datum_of xs) c.deref-2.ensures.value ∙ c.in_ok-locals.ensures in
    on_ok_weaker c.global_limits.result
    (λ e. e ∙ ap (λ (gs : List Datum). first_among f (global_passed gs (map datum_of c.deref-2.result.now))) globals
    ∙ ap (λ (ls : List Datum). first_among f (global_passed (programs.all_globals us) ls)) locals
    ∙ ap (first_among f) (sym (global_is us c.requires)))
    c.global_limits.ensures
