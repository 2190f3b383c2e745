-- A unit's data begin where those of the units before it end.
use Rattle.std.proofs.Common.{ℕ, ◌+◌, add-zero, false, refl, sym, ap, ◌∙◌}
use Rattle.spl_sorts.specs.spl_meaning.Tables.{routines_of}
use Rattle.spl_sorts.specs.spl_meaning.Places.{list_words}
use Rattle.spl_sorts.specs.spl_meaning.Bodies.{reached_behind, own_table, all_routines}
use Rattle.spl_places.specs.Programs.{unit_items, NewInRoutine}
use Rattle.spl_places.proofs.ProgramLaws.{unit_held, item_words_held}
use Rattle.spl_scopes.specs.Scopes.{first_reached, placed_units}
use Rattle.spl_body_scopes.specs.Units.{UnitsBegin, UnitsEnter, UnitsGoOn}
use Rattle.spl_body_scopes.proofs.ScopeLaws.{drop_more, first_at, each_second}

pub units_begin : UnitsBegin
units_begin us new = record { at = first_reached us; globals_at = refl; owns_at = refl; units = refl; new_units = new.0; new_routines = new.1 }

pub units_enter : UnitsEnter
units_enter us n primary own u rest left =
    first_at n (placed_units (first_reached us) us) (record { at = left.at; unit = u }) (placed_units (reached_behind u left.at) rest) left.units

pub units_go_on : UnitsGoOn
units_go_on us n primary own u rest left s done =
    record {
      at = reached_behind u left.at;
      globals_at =
          ap (λ (k : ℕ). k + list_words false (own_table u)) left.globals_at
          ∙ ap (λ (k : ℕ). primary + k) (item_words_held false (own_table u) (unit_items u) (unit_held u left.new_units.0));
      owns_at = sym done.total ∙ add-zero s.own;
      units =
          drop_more n (placed_units (first_reached us) us) (record { at = left.at; unit = u }) (placed_units (reached_behind u left.at) rest) left.units;
      new_units = left.new_units.1;
      new_routines = each_second NewInRoutine (routines_of u) (all_routines rest) left.new_routines;
    }
