-- The items of the procedures of a unit, along its declarations.
use Rattle.std.specs.Prelude.{List, [], ◌∷◌, ◌++◌, Option}
use Rattle.spl_tree.specs.DeclarationTrees as decl
use Rattle.spl_tree.specs.DeclarationTrees.{Heading, Declaration, Declarations, declarations}
use Rattle.spl_sorts.specs.spl_meaning.Names.{Names, find, nothing_declared, parameters, formals_of}
use Rattle.spl_sorts.specs.spl_meaning.Tables.{Source}
use Rattle.spl_sorts.specs.spl_meaning.Limits.{Full, first_among}
use Rattle.spl_spots.specs.spl_found.OwnNames.{behind_declaration}
use Rattle.spl_places.specs.ListedData.{Datum, list_data}
use Rattle.spl_places.specs.Passed.{local_passed}

-- the items of a procedure's list, with the names outside it
abbrev pub items_under : Names → Heading → Declarations → List Datum
items_under outer h items = list_data outer (find (parameters (formals_of h))) items

-- the items of the procedure that a declaration is, with the names behind it
abbrev pub items_in : Names → Declaration → List Datum
items_in outer (decl.Declaration.procedure h items ss) = items_under outer h items
items_in outer d = []

-- the items of the procedures among declarations
abbrev pub items_among : Names → Declarations → List Datum
items_among here decl.none = []
items_among here (decl.and d ds) =
    items_in (behind_declaration nothing_declared here d) d ++ items_among (behind_declaration nothing_declared here d) ds

-- the first limit, with those that the items of the procedure that a declaration is pass
abbrev pub passed_in : Names → Declaration → Option Full → Option Full
passed_in outer (decl.Declaration.procedure h items ss) f = first_among f (local_passed (items_under outer h items))
passed_in outer d f = f

-- and with those of the procedures among declarations
abbrev pub passed_among : Names → Declarations → Option Full → Option Full
passed_among here decl.none f = f
passed_among here (decl.and d ds) f =
    passed_among (behind_declaration nothing_declared here d) ds (passed_in (behind_declaration nothing_declared here d) d f)

-- and with those of the procedures of units
abbrev pub passed_in_units : List Source → Option Full → Option Full
passed_in_units [] f = f
passed_in_units (u ∷ us) f = passed_in_units us (passed_among nothing_declared (declarations u.tree.items) f)
