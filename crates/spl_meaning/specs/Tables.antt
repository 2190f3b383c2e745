-- Lists of declarations as tables, and the bodies of procedures with the names that they see.
use Rattle.std.specs.Prelude.{ℕ, ◌+◌, Bool, if◌then◌else◌, List, [], ◌∷◌, ◌++◌, Option, Some, None, is_some}
use Rattle.hp_word.specs.declared.intrinsics.Intrinsic.{Intrinsic}
use Rattle.spl_tree.specs.declared.expressions.Kind.{Kind}
use Rattle.spl_tree.specs.DeclarationTrees as decl
use Rattle.spl_tree.specs.DeclarationTrees.{Declaration, Declarations, Item, Equal, Placed, Heading, UnitTree, declarations}
use Rattle.spl_tree.specs.StatementTrees as stat
use Rattle.spl_meaning.specs.Stops.{declaration_stops}
use Rattle.spl_meaning.specs.Names as n
use Rattle.spl_meaning.specs.Names.{Names, Sort, Table, find, within, nothing_declared, parameters, formals_of, profile_of, intrinsic_named, constant_or_zero, sum_value}

-- a unit
pub record Source : Type 0 where
  pub subprogram : Bool
  -- the names of the segments that its parts number
  pub segments : List (List ℕ)
  pub tree : UnitTree

-- a name declared behind others: the first declaration of a name in a list counts
abbrev pub declared : Table Sort → List ℕ → Sort → Table Sort
declared table x s = if is_some (find table x) then table else table ++ (x, s) ∷ []

-- ---- what the items of a declaration stand for; a constant in one is read with the items before it

-- an item by its shape
abbrev pub shaped : Names → Bool → Kind → decl.Shape → Sort
shaped names own k decl.Shape.simple = n.simple k own
shaped names own k (decl.Shape.array low high) = n.array k own (constant_or_zero names low) (constant_or_zero names high)
shaped names own k (decl.Shape.view base) = n.view k own base
shaped names own k decl.Shape.pointer = n.pointer k own

-- the items of a declaration of data
abbrev pub with_items : Names → Bool → Kind → Table Sort → List Item → Table Sort
with_items outer own k table [] = table
with_items outer own k table (i ∷ is) = with_items outer own k (declared table i.name (shaped (within table outer) own k i.shape)) is

-- the names of an EQUATE
abbrev pub with_equates : Names → Table Sort → List Equal → Table Sort
with_equates outer table [] = table
with_equates outer table (e ∷ es) = with_equates outer (declared table e.name (n.equate (n.kept_value (sum_value (within table outer) e.terms)))) es

-- an intrinsic, or a name that is none
abbrev pub intrinsic_sort : Option Intrinsic → Sort
intrinsic_sort (Some i) = n.intrinsic i
intrinsic_sort None = n.unknown

-- the names of an INTRINSIC
abbrev pub with_intrinsics : Table Sort → List Placed → Table Sort
with_intrinsics table [] = table
with_intrinsics table (x ∷ xs) = with_intrinsics (declared table x.letters (intrinsic_sort (intrinsic_named x.letters))) xs

-- the names of a LABEL
abbrev pub with_labels : Table Sort → List Placed → Table Sort
with_labels table [] = table
with_labels table (x ∷ xs) = with_labels (declared table x.letters n.label) xs

-- a declaration behind those of a list, with names around the list
abbrev pub with_declaration : Names → Table Sort → Declaration → Table Sort
with_declaration outer table (decl.Declaration.data_items own k items) = with_items outer own k table items
with_declaration outer table (decl.Declaration.equate es) = with_equates outer table es
with_declaration outer table (decl.Declaration.intrinsic xs) = with_intrinsics table xs
with_declaration outer table (decl.Declaration.label xs) = with_labels table xs
with_declaration outer table (decl.Declaration.forward h) = declared table h.name (n.procedure (profile_of h))
with_declaration outer table (decl.Declaration.external h) = declared table h.name (n.procedure (profile_of h))
with_declaration outer table (decl.Declaration.procedure h items ss) = declared table h.name (n.procedure (profile_of h))
with_declaration outer table (decl.Declaration.subroutine h s) = declared table h.name (n.subroutine (profile_of h))

-- declarations in order
abbrev pub with_declarations : Names → Table Sort → Declarations → Table Sort
with_declarations outer table decl.none = table
with_declarations outer table (decl.and d ds) = with_declarations outer (with_declaration outer table d) ds

-- the list of a unit
abbrev pub unit_table : Source → Table Sort
unit_table u = with_declarations nothing_declared [] (declarations u.tree.items)

-- ---- procedures

-- a procedure that has a body, with the list of its unit up to its heading
pub record Routine : Type 0 where
  pub heading : Heading
  pub items : Declarations
  pub statements : List stat.Statement
  pub globals : Table Sort
  -- how many statements stand before it in its unit
  pub before : ℕ

-- the procedure with a body that a declaration is, behind a list and some statements
abbrev pub routine_in : Table Sort → ℕ → Declaration → List Routine
routine_in table n (decl.Declaration.procedure h items ss) =
    record { heading = h; items = items; statements = ss; globals = with_declaration nothing_declared table (decl.Declaration.procedure h items ss); before = n }
    ∷ []
routine_in table n d = []

-- the procedures with bodies among declarations
abbrev pub routines_among : Table Sort → ℕ → Declarations → List Routine
routines_among table n decl.none = []
routines_among table n (decl.and d ds) =
    routine_in table n d ++ routines_among (with_declaration nothing_declared table d) (n + declaration_stops d) ds

-- the procedures of a unit
abbrev pub routines_of : Source → List Routine
routines_of u = routines_among [] 0 (declarations u.tree.items)

-- what a procedure sees around its own list
abbrev pub outer_names : Routine → Names
outer_names r = find r.globals

-- the list of a procedure: its parameters, and the declarations of its body
abbrev pub routine_table : Routine → Table Sort
routine_table r = with_declarations (outer_names r) (parameters (formals_of r.heading)) r.items

-- the names in its body
abbrev pub routine_names : Routine → Names
routine_names r = within (routine_table r) (outer_names r)

-- ---- subroutines

-- a subroutine
pub record Subroutine : Type 0 where
  pub heading : Heading
  pub statement : stat.Statement
  -- how many statements stand before it in its unit
  pub before : ℕ

-- the subroutine that a declaration is, behind some statements
abbrev pub subroutine_in : ℕ → Declaration → List Subroutine
subroutine_in n (decl.Declaration.subroutine h s) = record { heading = h; statement = s; before = n } ∷ []
subroutine_in n d = []

-- the subroutines among declarations
abbrev pub subroutines_among : ℕ → Declarations → List Subroutine
subroutines_among n decl.none = []
subroutines_among n (decl.and d ds) = subroutine_in n d ++ subroutines_among (n + declaration_stops d) ds

-- the subroutines of a procedure
abbrev pub routine_subroutines : Routine → List Subroutine
routine_subroutines r = subroutines_among r.before r.items

-- the subroutines of a unit, which its main body may call
abbrev pub unit_subroutines : Source → List Subroutine
unit_subroutines u = subroutines_among 0 (declarations u.tree.items)

-- the names in a subroutine, in a list of declarations: its parameters hide those around it
abbrev pub subroutine_names : Names → Subroutine → Names
subroutine_names around s = within (parameters (formals_of s.heading)) around

-- the subroutine of this name
abbrev pub subroutine_named : List Subroutine → List ℕ → Option Subroutine
subroutine_named [] x = None
subroutine_named (s ∷ ss) x = if n.same_name x s.heading.name then Some s else subroutine_named ss x
