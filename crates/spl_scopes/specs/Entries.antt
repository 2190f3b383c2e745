-- The entries of modules: in order of text, the procedures with bodies and the subroutines of a unit that stand in one segment. A procedure
-- stands in the segment of its heading, a subroutine in that of the body whose it is.
use Rattle.std.specs.Prelude.{ℕ, suc, Bool, true, false, if◌then◌else◌, nat_eq, List, [], ◌∷◌, ◌++◌, Option}
use Rattle.spl_code.specs.spl_tree.DeclarationTrees as decl
use Rattle.spl_code.specs.spl_tree.DeclarationTrees.{Declaration, Declarations, declarations}
use Rattle.spl_code.specs.spl_meaning.Names.{Table, find}
use Rattle.spl_code.specs.spl_meaning.Tables.{Source}
use Rattle.spl_code.specs.spl_meaning.Places.{only}

-- whose a subroutine is: the main body's, or that of a procedure, by its number among the unit's procedures with bodies
pub data Owner : Type 0 where
  main : Owner
  routine : ℕ → Owner

-- what an entry is of: a procedure, or a subroutine of some body
pub data Callee : Type 0 where
  procedure : Callee
  subroutine : Owner → Callee

-- an entry, with the number of its segment
pub record Entry : Type 0 where
  pub name : List ℕ
  pub segment : ℕ
  pub callee : Callee

-- ---- the entries of a unit

-- a declaration of a body in a segment, where it is a subroutine
abbrev pub inner_entry : ℕ → Owner → Declaration → List Entry
inner_entry g o (decl.Declaration.subroutine h s) = record { name = h.name; segment = g; callee = subroutine o } ∷ []
inner_entry g o d = []

-- the subroutines among declarations of a body
abbrev pub inner_entries : ℕ → Owner → Declarations → List Entry
inner_entries g o decl.none = []
inner_entries g o (decl.and d ds) = inner_entry g o d ++ inner_entries g o ds

-- a declaration of a unit, the main body of which stands in a segment, behind so many procedures: a procedure, with its subroutines behind
-- it, or a subroutine of the main body
abbrev pub declared_entries : ℕ → ℕ → Declaration → List Entry
declared_entries g n (decl.Declaration.procedure h items ss) =
    record { name = h.name; segment = h.segment; callee = procedure } ∷ inner_entries h.segment (routine n) items
declared_entries g n d = inner_entry g main d

-- how many procedures there are behind a declaration
abbrev pub routines_behind : ℕ → Declaration → ℕ
routines_behind n (decl.Declaration.procedure h items ss) = suc n
routines_behind n d = n

-- declarations in order
abbrev pub entries_among : ℕ → ℕ → Declarations → List Entry
entries_among g n decl.none = []
entries_among g n (decl.and d ds) = declared_entries g n d ++ entries_among g (routines_behind n d) ds

-- a unit
abbrev pub unit_entries : Source → List Entry
unit_entries u = entries_among u.tree.segment 0 (declarations u.tree.items)

-- ---- modules

-- the entries of a segment
abbrev pub in_segment : ℕ → List Entry → List Entry
in_segment g [] = []
in_segment g (e ∷ es) = if nat_eq e.segment g then e ∷ in_segment g es else in_segment g es

-- the entries of the module that a unit has in a segment
abbrev pub module_entries : Source → ℕ → List Entry
module_entries u g = in_segment g (unit_entries u)

-- ---- entries by name

-- whether an entry is of a procedure, which other modules may call too
abbrev pub is_callable : Callee → Bool
is_callable procedure = true
is_callable (subroutine o) = false

-- the same body
abbrev pub same_owner : Owner → Owner → Bool
same_owner main main = true
same_owner (routine i) (routine j) = nat_eq i j
same_owner _ _ = false

-- whether an entry is of a subroutine of a body
abbrev pub is_inner : Owner → Callee → Bool
is_inner o procedure = false
is_inner o (subroutine p) = same_owner o p

-- the names of those entries that pass a test, with their indexes, the first being k
abbrev pub indexes : (Callee → Bool) → ℕ → List Entry → Table ℕ
indexes passes k [] = []
indexes passes k (e ∷ es) = only (passes e.callee) (e.name, k) ++ indexes passes (suc k) es

-- the index of a procedure of a module by its name
abbrev pub procedure_index : List Entry → List ℕ → Option ℕ
procedure_index es = find (indexes is_callable 0 es)

-- the index of a subroutine of a body
abbrev pub subroutine_index : Owner → List Entry → List ℕ → Option ℕ
subroutine_index o es = find (indexes (is_inner o) 0 es)
