-- The first limit behind parts of a program: with one that was passed before a part, the first of that one and of those that the part passes.
use Rattle.std.specs.Prelude.{List, [], ◌∷◌, Option}
use Rattle.spl_tree.specs.StatementTrees.{Statement}
use Rattle.spl_tree.specs.DeclarationTrees as decl
use Rattle.spl_tree.specs.DeclarationTrees.{Heading, Declaration, Declarations, declarations}
use Rattle.spl_sound.specs.spl_meaning.Names.{Names, find, nothing_declared, parameters, formals_of}
use Rattle.spl_sound.specs.spl_meaning.Tables.{Source}
use Rattle.spl_sound.specs.spl_meaning.Limits.{Full, first_among, heading_limits}
use Rattle.spl_areas.specs.spl_found.OwnNames.{over, behind_declaration, behind_declarations}
use Rattle.spl_depths.specs.ReachLaws.{body_limits}
use Rattle.spl_areas.specs.spl_places.ListedData.{list_data}
use Rattle.spl_areas.specs.spl_places.Passed.{local_passed}

-- a subroutine, around which these names stand
abbrev pub behind_subroutine : Names → Heading → Statement → Option Full → Option Full
behind_subroutine around h s f = first_among f (body_limits h (over (find (parameters (formals_of h))) around) s)

-- a declaration, where it is a subroutine
abbrev pub behind_inner : Names → Declaration → Option Full → Option Full
behind_inner around (decl.Declaration.subroutine h s) f = behind_subroutine around h s f
behind_inner around d f = f

-- the subroutines among declarations
abbrev pub behind_subroutines : Names → Declarations → Option Full → Option Full
behind_subroutines around decl.none f = f
behind_subroutines around (decl.and d ds) f = behind_subroutines around ds (behind_inner around d f)

-- a procedure's list, with the names outside it: its items, and then its subroutines
abbrev pub behind_list : Names → Heading → Declarations → Option Full → Option Full
behind_list globals h ds f =
    behind_subroutines (over (behind_declarations globals (find (parameters (formals_of h))) ds) globals) ds
    (first_among f (local_passed (list_data globals (find (parameters (formals_of h))) ds)))

-- a procedure: its heading, and then its list
abbrev pub behind_procedure : Names → Heading → Declarations → Option Full → Option Full
behind_procedure globals h ds f = behind_list globals h ds (first_among f (heading_limits h))

-- a declaration, where it is a procedure
abbrev pub behind_global : Names → Declaration → Option Full → Option Full
behind_global globals (decl.Declaration.procedure h items ss) f = behind_procedure globals h items f
behind_global globals d f = f

-- the procedures of a unit, each with the names behind its heading
abbrev pub behind_globals : Names → Declarations → Option Full → Option Full
behind_globals here decl.none f = f
behind_globals here (decl.and d ds) f =
    behind_globals (behind_declaration nothing_declared here d) ds (behind_global (behind_declaration nothing_declared here d) d f)

-- the bodies of a unit: its procedures, and then the subroutines of its main body
abbrev pub behind_unit : Declarations → Option Full → Option Full
behind_unit ds f =
    behind_subroutines (over (behind_declarations nothing_declared nothing_declared ds) nothing_declared) ds (behind_globals nothing_declared ds f)

-- the bodies of units
abbrev pub behind_units : List Source → Option Full → Option Full
behind_units [] f = f
behind_units (u ∷ us) f = behind_units us (behind_unit (declarations u.tree.items) f)
