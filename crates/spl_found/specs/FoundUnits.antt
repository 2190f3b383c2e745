-- The first broken rule of units, where a FORWARD waits by its name, and bodies for FORWARDs are looked for from the last declaration back.
use Rattle.std.specs.Prelude.{ℕ, ◌≡◌, ◌||◌, not, Bool, true, false, if◌then◌else◌, List, [], ◌∷◌, ◌++◌, Option, Some, None}
use Rattle.spl_meaning.specs.spl_tree.StatementTrees.{statements}
use Rattle.spl_meaning.specs.spl_tree.DeclarationTrees as decl
use Rattle.spl_meaning.specs.spl_tree.DeclarationTrees.{Heading, Declaration, Declarations, declarations}
use Rattle.spl_meaning.specs.Names as n
use Rattle.spl_meaning.specs.Names.{Names, Profile, nothing_declared, same_name, profile_of}
use Rattle.spl_meaning.specs.Tables.{Source, Routine}
use Rattle.spl_meaning.specs.Bodies.{all_routines}
use Rattle.spl_meaning.specs.Faults.{Fault, unless, first_fault}
use Rattle.spl_meaning.specs.DeclarationRules.{Around, gets_body, same_profile}
use Rattle.spl_meaning.specs.Sound.{first_broken}
use Rattle.spl_found.specs.FoundStatements.{found_body}
use Rattle.spl_found.specs.OwnNames.{with_name, behind_declaration}
use Rattle.spl_found.specs.FoundDeclarations.{again, procedure_by, found_items, found_equates, found_intrinsics, found_labels, found_heading, found_declared, found_subroutines, found_procedure, found_silent, around_unit, scope_in_main}

-- what the FORWARDs that have no body yet take and give, by their names
abbrev pub Waits : Type 0
Waits = List ℕ → Option Profile

-- none waits
abbrev pub none_waits : Waits
none_waits x = None

-- a FORWARD waits
abbrev pub waits_with : Waits → List ℕ → Profile → Waits
waits_with w x p y = if same_name y x then Some p else w y

-- a body takes those of its name off
abbrev pub waits_without : Waits → List ℕ → Waits
waits_without w x y = if same_name y x then None else w y

-- those that wait behind a declaration
abbrev pub waits_behind : Waits → Declaration → Waits
waits_behind w (decl.Declaration.forward h) = waits_with w h.name (profile_of h)
waits_behind w (decl.Declaration.procedure h items ss) = waits_without w h.name
waits_behind w d = w

-- a procedure of this name in another unit agrees with an EXTERNAL heading
abbrev pub agrees_with : Heading → Routine → Bool
agrees_with h r = not (same_name h.name r.heading.name) || same_profile (profile_of h) (profile_of r.heading)

-- and so do all
abbrev pub agree : Heading → List Routine → Bool
agree h [] = true
agree h (r ∷ rs) = if agrees_with h r then agree h rs else false

-- A declaration of a unit, but for a subroutine's own rules and for the body that a FORWARD wants; `agrees` says whether an EXTERNAL
-- heading agrees with the procedures of the other units.
abbrev pub walked : Around → (Heading → Bool) → Waits → Names → Declaration → Option Fault → Option Fault
walked a agrees w here (decl.Declaration.data_items own k items) f = found_items a here own k items f
walked a agrees w here (decl.Declaration.equate es) f = found_equates a here es f
walked a agrees w here (decl.Declaration.intrinsic xs) f = found_intrinsics here xs f
walked a agrees w here (decl.Declaration.label xs) f = found_labels here xs f
walked a agrees w here (decl.Declaration.forward h) f = found_heading h.split h (first_fault f (again here h.name h.at))
walked a agrees w here (decl.Declaration.external h) f =
    first_fault (found_heading h.split h (first_fault f (again here h.name h.at))) (unless (agrees h) 19 h.at)
walked a agrees w here (decl.Declaration.procedure h items ss) f =
    found_procedure (with_name here h.name (n.procedure (profile_of h))) h items ss (first_fault f (procedure_by here (w h.name) h))
walked a agrees w here (decl.Declaration.subroutine h s) f = found_declared a here h f

-- the declarations of a unit in order
abbrev pub walked_list : Around → (Heading → Bool) → Waits → Names → Declarations → Option Fault → Option Fault
walked_list a agrees w here decl.none f = f
walked_list a agrees w here (decl.and d ds) f =
    walked_list a agrees (waits_behind w d) (behind_declaration nothing_declared here d) ds (walked a agrees w here d f)

-- a FORWARD that never gets its body
abbrev pub found_forward : Declaration → Declarations → Option Fault → Option Fault
found_forward (decl.Declaration.forward h) ds f = first_fault f (unless (gets_body ds h.name) 19 h.at)
found_forward d ds f = f

-- all of them, from the last declaration back
abbrev pub found_forwards : Declarations → Option Fault → Option Fault
found_forwards decl.none f = f
found_forwards (decl.and d ds) f = found_forward d ds (found_forwards ds f)

-- a unit: its list, the FORWARDs in it, the subroutines in it, its statements
abbrev pub walked_unit : (Heading → Bool) → Source → Option Fault → Option Fault
walked_unit agrees u f =
    let ds = declarations u.tree.items in
    let g = found_body (scope_in_main u) (statements u.tree.statements) (found_subroutines (scope_in_main u) ds
    (found_forwards ds (walked_list (around_unit u) agrees none_waits nothing_declared ds f))) in
    if u.subprogram then found_silent u.tree.at u.tree.statements g else g

-- units behind others
abbrev pub walked_units : List Source → List Source → Option Fault → Option Fault
walked_units before [] f = f
walked_units before (u ∷ us) f = walked_units (before ++ u ∷ []) us (walked_unit (λ h. agree h (all_routines before ++ all_routines us)) u f)

-- the first rule that units break is what is found in this walk
abbrev pub FirstRulesAreWalked : Type 0
FirstRulesAreWalked = (us : List Source) → walked_units [] us None ≡ first_broken us
