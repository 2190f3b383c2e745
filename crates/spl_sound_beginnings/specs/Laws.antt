-- The laws of this crate: of bodies and units whose names are found; and of units that break no rule, and that some tokens spell.
use Rattle.std.specs.Prelude.{◌≡◌, ℕ, true, false, List, [], Some}
use Rattle.std.specs.List.{list_all}
use Rattle.spl_sound_names.specs.spl_meaning.Tables.{Source}
use Rattle.spl_sound_names.specs.spl_meaning.Bodies.{Body}
use Rattle.spl_sound_names.specs.spl_meaning.ExpressionRules as rule
use Rattle.spl_sound_names.specs.spl_meaning.StatementRules.{list_labels, statements_faults}
use Rattle.spl_sound_names.specs.spl_meaning.Sound.{IsSound}
use Rattle.spl_sound_names.specs.spl_sound.Spelled.{AreSpelled}
use Rattle.spl_piece_kinds.specs.spl_branch.declared.buffer.Code.{Code}
use Rattle.spl_piece_kinds.specs.spl_branch.Pieces.{named, is_set_if}
use Rattle.spl_piece_kinds.specs.spl_scopes.Entries.{Owner, Entry, subroutine_index}
use Rattle.spl_piece_kinds.specs.spl_scopes.Scopes.{Placed, unit_at}
use Rattle.spl_piece_kinds.specs.spl_module_code.Bodies.{body_statements}
use Rattle.spl_piece_kinds.specs.spl_module_code.Modules.{module_part, module_written, IsCodeOf}
use Rattle.spl_piece_kinds.specs.spl_sites.Beginnings.{begins_well, is_of_kind}
use Rattle.spl_beginnings.specs.Opens.{BeginsWell}
use Rattle.spl_sound_beginnings.specs.FoundBodies.{is_found_body, is_found_in}
use Rattle.spl_sound_names.specs.Known.{NamesAreFound}

-- ---- where names are found

-- the statements of a body, whose labels have landings of their own
abbrev pub BodyStatementsBeginWell : Type 0
BodyStatementsBeginWell = (es : List Entry) (o : Owner) (b : Body) (leave : ℕ) → is_found_body es o b ≡ true → BeginsWell (body_statements es o b leave)

abbrev pub ModuleBeginsWell : Type 0
ModuleBeginsWell = (p : Placed) (g : ℕ) → is_found_in p g ≡ true → BeginsWell (module_part p g)

-- so the pieces of the code of a unit in a segment begin well
abbrev pub CodesBeginWell : Type 0
CodesBeginWell = (p : Placed) (g : ℕ) → is_found_in p g ≡ true → begins_well false (module_written p g).pieces ≡ true

-- ---- where no rule is broken

-- The statements of a body that break no rule are found, where what the names that they see stand for is.
abbrev pub SoundBodiesAreFound : Type 0
SoundBodiesAreFound = (es : List Entry) (o : Owner) (b : Body) (sc : rule.Scope) → sc.names ≡ b.here.names
    → NamesAreFound b.here.names b.here.places (subroutine_index o es) → statements_faults sc (list_labels b.statements) false b.statements ≡ []
    → is_found_body es o b ≡ true

-- So are all bodies of such units, in whatever segment.
abbrev pub SoundUnitsAreFound : Type 0
SoundUnitsAreFound = (us : List Source) → AreSpelled us → IsSound us → (i : ℕ) (p : Placed) → unit_at us i ≡ Some p → (g : ℕ) → is_found_in p g ≡ true

-- So the pieces of the code of such a unit in a segment begin well.
abbrev pub SoundCodesBeginWell : Type 0
SoundCodesBeginWell = (us : List Source) → AreSpelled us → IsSound us → (i : ℕ) (p : Placed) → unit_at us i ≡ Some p → (g : ℕ)
    → begins_well false (module_written p g).pieces ≡ true

-- What a place in a program asks of the pieces of some code: they begin well, have instructions of their kinds, and name marks that are set.
pub record MayStand (c : Code) : Type 0 where
  pub begins : begins_well false c.pieces.items ≡ true
  pub kinds : list_all is_of_kind c.pieces.items ≡ true
  pub marks : list_all (λ x. is_set_if c.marks.items (named x)) c.pieces.items ≡ true

-- So it is with the code of such a unit in a segment.
abbrev pub SoundCodesMayStand : Type 0
SoundCodesMayStand = (us : List Source) → AreSpelled us → IsSound us → (i : ℕ) (p : Placed) → unit_at us i ≡ Some p
    → (name : List ℕ) (g : ℕ) (c : Code) → IsCodeOf p name g c → MayStand c
