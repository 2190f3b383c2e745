-- Where no label stands twice in the bodies of units, none does in those of a unit's declarations.
use Rattle.std.proofs.Common.{ℕ, ◌+◌, List, [], ◌∷◌, ◌++◌}
use Rattle.spl_sound_labels.specs.spl_tree.DeclarationTrees as decl
use Rattle.spl_sound_labels.specs.spl_tree.DeclarationTrees.{Declaration, Declarations, declarations}
use Rattle.spl_sound_labels.specs.spl_meaning.Stops.{declaration_stops}
use Rattle.spl_sound_labels.specs.spl_meaning.Names.{Sort, Table, nothing_declared}
use Rattle.spl_sound_labels.specs.spl_meaning.Tables.{Source, routine_in, routines_among, routines_of, subroutine_in, subroutines_among, with_declaration}
use Rattle.spl_sound_labels.specs.spl_meaning.Bodies.{all_routines}
use Rattle.spl_sound_labels.specs.spl_places.Programs.{Each}
use Rattle.spl_routine_code.proofs.spl_body_scopes_proofs.ScopeLaws.{each_second}
use Rattle.spl_sound_labels.specs.Labels.{LabelsOnceInSubroutine, LabelsOnceInRoutine, LabelsOnceInAll}
use Rattle.spl_routine_code.specs.Routines.{OnceIn, OnceAmong}
use Rattle.spl_unit_laws.specs.Steps.{OnceInUnit, OnceInAll}
use Rattle.spl_unit_laws.specs.Units.{OnceInBodies}

first_of : {A : Type 0} (P : A → Type 0) (xs ys : List A) → Each P (xs ++ ys) → Each P xs
first_of P [] ys all = tt
first_of P (x ∷ xs) ys all = (all.0, first_of P xs ys all.1)

-- subroutines of a list
one_inner : (n : ℕ) (d : Declaration) → Each LabelsOnceInSubroutine (subroutine_in n d) → OnceIn d
one_inner n (decl.Declaration.data_items own k items) all = tt
one_inner n (decl.Declaration.equate es) all = tt
one_inner n (decl.Declaration.intrinsic xs) all = tt
one_inner n (decl.Declaration.label xs) all = tt
one_inner n (decl.Declaration.forward h) all = tt
one_inner n (decl.Declaration.external h) all = tt
one_inner n (decl.Declaration.procedure h items ss) all = tt
one_inner n (decl.Declaration.subroutine h s) all = all.0

all_inner : (n : ℕ) (ds : Declarations) → Each LabelsOnceInSubroutine (subroutines_among n ds) → OnceAmong ds
all_inner n decl.none all = tt
all_inner n (decl.and d ds) all =
    let rest = subroutines_among (n + declaration_stops d) ds in (
      one_inner n d (first_of LabelsOnceInSubroutine (subroutine_in n d) rest all),
      all_inner (n + declaration_stops d) ds (each_second LabelsOnceInSubroutine (subroutine_in n d) rest all),
    )

-- declarations of a unit
one_once : (t : Table Sort) (n : ℕ) (d : Declaration) → Each LabelsOnceInRoutine (routine_in t n d) → Each LabelsOnceInSubroutine (subroutine_in n d) → OnceInUnit d
one_once t n (decl.Declaration.data_items own k items) routines inner = tt
one_once t n (decl.Declaration.equate es) routines inner = tt
one_once t n (decl.Declaration.intrinsic xs) routines inner = tt
one_once t n (decl.Declaration.label xs) routines inner = tt
one_once t n (decl.Declaration.forward h) routines inner = tt
one_once t n (decl.Declaration.external h) routines inner = tt
one_once t n (decl.Declaration.procedure h items ss) routines inner = (routines.0.0, all_inner n items routines.0.1)
one_once t n (decl.Declaration.subroutine h s) routines inner = inner.0

all_once : (t : Table Sort) (n : ℕ) (ds : Declarations) → Each LabelsOnceInRoutine (routines_among t n ds) → Each LabelsOnceInSubroutine (subroutines_among n ds) → OnceInAll ds
all_once t n decl.none routines inner = tt
all_once t n (decl.and d ds) routines inner =
    let m = n + declaration_stops d in
    let more = routines_among (with_declaration nothing_declared t d) m ds in (
      one_once t n d (first_of LabelsOnceInRoutine (routine_in t n d) more routines) (first_of LabelsOnceInSubroutine (subroutine_in n d) (subroutines_among m ds) inner),
      all_once (with_declaration nothing_declared t d) m ds (each_second LabelsOnceInRoutine (routine_in t n d) more routines)
          (each_second LabelsOnceInSubroutine (subroutine_in n d) (subroutines_among m ds) inner),
    )

-- units
pub units_once : (us : List Source) → LabelsOnceInAll us → Each OnceInBodies us
units_once [] all = tt
units_once (u ∷ us) all = (
  (all.0.0.0, all_once [] 0 (declarations u.tree.items) (first_of LabelsOnceInRoutine (routines_of u) (all_routines us) all.1) all.0.0.1),
  units_once us (all.0.1, each_second LabelsOnceInRoutine (routines_of u) (all_routines us) all.1),
)
