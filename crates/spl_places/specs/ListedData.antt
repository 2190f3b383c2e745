-- The items of a list of declarations, each with its name, its place and what it stands for.
use Rattle.std.specs.Prelude.{ℕ, Bool, List, [], ◌∷◌, ◌++◌}
use Rattle.spl_tree.specs.declared.names_and_places.At.{At}
use Rattle.spl_tree.specs.declared.expressions.Kind.{Kind}
use Rattle.spl_tree.specs.DeclarationTrees as decl
use Rattle.spl_tree.specs.DeclarationTrees.{Item, Declaration, Declarations}
use Rattle.spl_tree.specs.Views.{letters}
use Rattle.spl_sorts.specs.spl_meaning.Names.{Names, Sort}
use Rattle.spl_sorts.specs.spl_meaning.Tables.{shaped}
use Rattle.spl_spots.specs.spl_found.OwnNames.{over, with_name, behind_declaration}
use Rattle.spl_sorts.specs.Sorts.{sort_of}
use Rattle.spl_places.specs.declared.data.Datum as code

-- an item of a list
pub record Datum : Type 0 where
  pub name : List ℕ
  pub at : At
  pub sort : Sort

-- an item as the code has it
abbrev pub datum_of : code.Datum → Datum
datum_of d = record { name = letters d.name; at = d.at; sort = sort_of d.sort }

-- the items of a declaration of data, each read with the names before it
abbrev pub items_data : Names → Bool → Kind → Names → List Item → List Datum
items_data outer own k here [] = []
items_data outer own k here (i ∷ is) =
    record { name = i.name; at = i.at; sort = shaped (over here outer) own k i.shape }
    ∷ items_data outer own k (with_name here i.name (shaped (over here outer) own k i.shape)) is

-- the items of a declaration
abbrev pub declaration_data : Names → Names → Declaration → List Datum
declaration_data outer here (decl.Declaration.data_items own k items) = items_data outer own k here items
declaration_data outer here d = []

-- the items of declarations in order
abbrev pub list_data : Names → Names → Declarations → List Datum
list_data outer here decl.none = []
list_data outer here (decl.and d ds) = declaration_data outer here d ++ list_data outer (behind_declaration outer here d) ds
