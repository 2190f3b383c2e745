-- What a table holds beside items has no words.
use Rattle.std.proofs.Common.{ap, ◌∙◌}
use Rattle.spl_sorts.specs.spl_meaning.Tables.{routine_table}
use Rattle.spl_sorts.specs.spl_meaning.Places.{places_from, arrays_from}
use Rattle.spl_sorts.specs.spl_meaning.Bodies.{own_table}
use Rattle.spl_places.proofs.ProgramLaws.{places_held, arrays_held, unit_held, routine_held}
use Rattle.spl_places.proofs.laws.items_have_places.Goals as goal

pub returns : goal.returns
returns c = record {
  unit = λ u at own here new. places_held at own here (own_table u) ∙ ap (places_from at own here) (unit_held u new);
  unit_arrays = λ u at own here new. arrays_held at own here (own_table u) ∙ ap (arrays_from at own here) (unit_held u new);
  routine = λ r at own here new. places_held at own here (routine_table r) ∙ ap (places_from at own here) (routine_held r new);
  routine_arrays = λ r at own here new. arrays_held at own here (routine_table r) ∙ ap (arrays_from at own here) (routine_held r new);
}
