-- The laws of this crate.
use Rattle.std.specs.Prelude.{◌≡◌, ℕ, ◌++◌, Bool, true, false, List, [], Option, Some, is_some}
use Rattle.std.specs.List.{slice_get}
use Rattle.spl_sound.specs.spl_tree.DeclarationTrees.{Declarations, Heading, declarations}
use Rattle.spl_sound.specs.spl_meaning.Names.{Sort, Table, find, parameters, formals_of}
use Rattle.spl_sound.specs.spl_meaning.Tables.{Source, with_declarations, unit_table}
use Rattle.spl_sound.specs.spl_meaning.Places.{Place, places_from}
use Rattle.spl_sound.specs.spl_meaning.Bodies.{parameter_places}
use Rattle.spl_sound.specs.spl_meaning.ExpressionRules.{Scope}
use Rattle.spl_sound.specs.spl_meaning.DeclarationRules.{Around, local_faults, heading_faults}
use Rattle.spl_sound.specs.spl_meaning.Sound.{IsSound}
use Rattle.spl_sound.specs.Spelled.{AreSpelled}
use Rattle.spl_sound_names.specs.Known.{is_known, AreKnown, NamesAreFound, has_inner, inner_last}

-- In a unit that breaks no rule what each name of its list stands for is known; none is a parameter, and each subroutine is one that it declares.
abbrev pub UnitNamesAreKnown : Type 0
UnitNamesAreKnown = (us : List Source) → IsSound us → (i : ℕ) (u : Source) → slice_get us i ≡ Some u
    → AreKnown (λ x. false) (has_inner (declarations u.tree.items)) (find (unit_table u))

-- So it is with the list of a procedure, behind its parameters, where what names around it stand for is known.
abbrev pub LocalNamesAreKnown : Type 0
LocalNamesAreKnown = (passed : List ℕ → Bool) (a : Around) (sc : Scope) (t : Table Sort) (ds : Declarations)
    → ((x : List ℕ) (s : Sort) → a.names x ≡ Some s → is_known s ≡ true) → AreKnown passed (has_inner ds) (find t) → local_faults a sc t ds ≡ []
    → AreKnown passed (has_inner ds) (find (with_declarations a.names t ds))

-- The names of a list behind parameters are found: items have places in the list, parameters among theirs, and subroutines entries.
abbrev pub ListsAreFound : Type 0
ListsAreFound = (ps : Table Place) (at : ℕ → Place) (owned here : ℕ) (t : Table Sort) (entries : List ℕ → Option ℕ)
    → AreKnown (λ x. is_some (find ps x)) (λ x. is_some (entries x)) (find t) → NamesAreFound (find t) (find (ps ++ places_from at owned here t)) entries

-- So are the parameters of a heading that breaks no rule.
abbrev pub ParametersAreFound : Type 0
ParametersAreFound = (split : Bool) (h : Heading) (below : ℕ → Place) (gap : ℕ) (entries : List ℕ → Option ℕ) → heading_faults split h ≡ []
    → NamesAreFound (find (parameters (formals_of h))) (find (parameter_places below gap (formals_of h))) entries

-- A name keeps what it stands for behind further declarations.
abbrev pub NamesStay : Type 0
NamesStay = (outer : List ℕ → Option Sort) (t : Table Sort) (ds : Declarations) (x : List ℕ) (s : Sort) → find t x ≡ Some s → find (with_declarations outer t ds) x ≡ Some s

-- In a unit that tokens spell only subroutines stand behind a subroutine.
abbrev pub SubroutinesStandLast : Type 0
SubroutinesStandLast = (us : List Source) → AreSpelled us → (i : ℕ) (u : Source) → slice_get us i ≡ Some u → inner_last false (declarations u.tree.items) ≡ true
