-- The items are those of all units.
use Rattle.std.proofs.Common.{List, map, ap, ◌∙◌}
use Rattle.spl_areas.specs.spl_sound.Spelled.{source_of}
use Rattle.spl_initials.specs.spl_places.declared.data.Datum as code
use Rattle.spl_initials.specs.spl_places.ListedData.{Datum, datum_of}
use Rattle.spl_initials.specs.spl_places.Programs.{all_globals}
use Rattle.spl_globals.specs.Stored.{areas_of, words_of}
use Rattle.spl_globals.proofs.StoredLaws.{areas_found, words_found}
use Rattle.spl_globals.proofs.areas.first_areas.Goals as goal

pub returns-clause-areas : goal.returns-clause-areas
returns-clause-areas c =
    let us = map source_of c.args.units.now in
    let globals = ap (λ (xs : List code.Datum). map datum_of xs) c.deref.ensures.value ∙ c.in_ok-globals.ensures in
    let locals = ap (λ (xs : List code.Datum). map datum_of xs) c.deref-2.ensures.value ∙ c.in_ok-locals.ensures in
    c.in_ok-found.ensures.areas
    ∙ ap (λ (gs : List Datum). areas_of gs (map datum_of c.deref-2.result.now)) globals
    ∙ ap (λ (ls : List Datum). areas_of (all_globals us) ls) locals
    ∙ areas_found us c.requires

pub returns-clause-words : goal.returns-clause-words
returns-clause-words c =
    let us = map source_of c.args.units.now in
    let globals = ap (λ (xs : List code.Datum). map datum_of xs) c.deref.ensures.value ∙ c.in_ok-globals.ensures in
    let locals = ap (λ (xs : List code.Datum). map datum_of xs) c.deref-2.ensures.value ∙ c.in_ok-locals.ensures in
    c.in_ok-found.ensures.words
    ∙ ap (λ (gs : List Datum). words_of gs (map datum_of c.deref-2.result.now)) globals
    ∙ ap (λ (ls : List Datum). words_of (all_globals us) ls) locals
    ∙ words_found us c.requires
