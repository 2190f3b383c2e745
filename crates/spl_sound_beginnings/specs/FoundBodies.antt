-- The bodies of a unit in a segment, whose statements' names are found.
use Rattle.std.specs.Prelude.{ℕ, ◌&&◌, Bool, true, false, if◌then◌else◌, nat_eq, List, [], ◌∷◌, Option, Some, None}
use Rattle.std.specs.List.{slice_get}
use Rattle.spl_sound_names.specs.spl_tree.DeclarationTrees as decl
use Rattle.spl_sound_names.specs.spl_tree.DeclarationTrees.{Declaration, Declarations, declarations}
use Rattle.spl_sound_names.specs.spl_meaning.Names.{same_name}
use Rattle.spl_sound_names.specs.spl_meaning.Tables.{Subroutine}
use Rattle.spl_sound_names.specs.spl_meaning.Bodies.{Body, Named, subroutine_body}
use Rattle.spl_piece_kinds.specs.spl_scopes.Entries.{Owner, main, routine, Entry, module_entries, routines_behind}
use Rattle.spl_piece_kinds.specs.spl_scopes.Scopes.{Placed, routine_bodies, outer_body}
use Rattle.spl_piece_kinds.specs.spl_module_code.LabelsOfBodies.{Label, labels_among}
use Rattle.spl_piece_kinds.specs.spl_module_code.Bodies.{statements_scope}
use Rattle.spl_piece_kinds.specs.spl_module_code.Modules.{inner_behind, holds_main}
use Rattle.spl_beginnings.specs.Found.{are_found}

-- ---- bodies

-- whether a label is among some
abbrev pub bears : List Label → List ℕ → Bool
bears [] x = false
bears (l ∷ ls) x = if same_name x l.name then true else bears ls x

-- the statements of a body, in a module with these entries
abbrev pub is_found_body : List Entry → Owner → Body → Bool
is_found_body es o b = are_found (statements_scope es o b) (bears (labels_among b.statements 0)) b.statements

-- subroutines of a body
abbrev pub are_found_inner : List Entry → Owner → Body → List Subroutine → Bool
are_found_inner es o b [] = true
are_found_inner es o b (s ∷ ss) = is_found_body es o (subroutine_body b s) && are_found_inner es o b ss

-- a procedure of a unit by its number, with its subroutines
abbrev pub is_found_routine : List Entry → ℕ → Option Named → Bool
is_found_routine es i None = true
is_found_routine es i (Some b) = are_found_inner es (routine i) b.body b.body.subroutines && is_found_body es (routine i) b.body

-- a subroutine of the main body, by its number
abbrev pub is_found_inner : List Entry → Body → Option Subroutine → Bool
is_found_inner es b None = true
is_found_inner es b (Some s) = is_found_body es main (subroutine_body b s)

abbrev pub is_found_inner_at : List Entry → ℕ → Option Body → Bool
is_found_inner_at es j None = true
is_found_inner_at es j (Some b) = is_found_inner es b (slice_get b.subroutines j)

-- the main body
abbrev pub is_found_main : List Entry → Option Body → Bool
is_found_main es None = true
is_found_main es (Some b) = is_found_body es main b

-- ---- the bodies of a unit in a segment

-- of a declaration, behind so many procedures and subroutines of the main body
abbrev pub declares_found : Placed → ℕ → ℕ → ℕ → Declaration → Bool
declares_found p g n j (decl.Declaration.procedure h items ss) =
    if nat_eq h.segment g then is_found_routine (module_entries p.unit g) n (slice_get (routine_bodies p) n) else true
declares_found p g n j (decl.Declaration.subroutine h s) =
    if nat_eq p.unit.tree.segment g then is_found_inner_at (module_entries p.unit g) j (outer_body p main) else true
declares_found p g n j d = true

-- of declarations in order
abbrev pub declare_found : Placed → ℕ → ℕ → ℕ → Declarations → Bool
declare_found p g n j decl.none = true
declare_found p g n j (decl.and d ds) = declares_found p g n j d && declare_found p g (routines_behind n d) (inner_behind j d) ds

-- all of them, with the main body
abbrev pub is_found_in : Placed → ℕ → Bool
is_found_in p g =
    declare_found p g 0 0 (declarations p.unit.tree.items)
    && (if holds_main p g then is_found_main (module_entries p.unit g) (outer_body p main) else true)
