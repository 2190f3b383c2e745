-- The modules of units: one for each segment that a unit uses, units in order and within a unit the segments in the order in which the program
-- first uses them. A module has the code of
-- the unit's bodies in that segment in order of text, subroutines before the body whose they are, and behind them the main body.
use Rattle.std.specs.Prelude.{ℕ, suc, ◌+◌, ◌<◌, ◌≤◌, ◌≡◌, Bool, true, false, if◌then◌else◌, nat_eq, nat_lt, not, ◌&&◌, ◌||◌, List, [], ◌∷◌, ◌++◌, length, map, Option, Some, None, replicate}
use Rattle.std.specs.List.{slice_get}
use Rattle.spl_statement_code.specs.spl_tree.Views.{letters}
use Rattle.spl_statement_code.specs.spl_tree.DeclarationTrees as decl
use Rattle.spl_statement_code.specs.spl_tree.DeclarationTrees.{Declaration, Declarations, declarations}
use Rattle.spl_statement_code.specs.spl_meaning.Names.{Table, find}
use Rattle.spl_statement_code.specs.spl_meaning.Limits.{joined}
use Rattle.spl_statement_code.specs.spl_meaning.Tables.{Source, Subroutine}
use Rattle.spl_statement_code.specs.spl_meaning.Bodies.{Body, Named}
use Rattle.spl_statement_code.specs.spl_branch.declared.buffer.Code.{Code}
use Rattle.spl_statement_code.specs.spl_branch.declared.modules.Module.{Module}
use Rattle.spl_statement_code.specs.spl_branch.Modules.{Finished, Oversized}
use Rattle.spl_statement_code.specs.spl_code.Parts.{Part, Written, nothing, ◌⨟◌, wants_of}
use Rattle.spl_modules.specs.spl_scopes.Entries.{main, Entry, module_entries, in_segment, declared_entries, routines_behind}
use Rattle.spl_modules.specs.spl_scopes.Scopes.{Placed, first_reached, placed_units, routine_bodies, outer_body}
use Rattle.spl_modules.specs.Made.{made_of, made_from}
use Rattle.spl_module_code.specs.Bodies.{subroutine_part, routine_part, main_part}

-- ---- the code of a module

-- how many subroutines of the main body there are behind a declaration
abbrev pub inner_behind : ℕ → Declaration → ℕ
inner_behind j (decl.Declaration.subroutine h s) = suc j
inner_behind j d = j

-- a procedure by its number, where there is one, as the entry of a number
abbrev pub routine_at : List Entry → ℕ → ℕ → Option Named → Part
routine_at es n entry None = nothing
routine_at es n entry (Some b) = routine_part es n entry b

-- a subroutine of the main body
abbrev pub inner_with : List Entry → Body → ℕ → Option Subroutine → Part
inner_with es b entry None = nothing
inner_with es b entry (Some s) = subroutine_part es main b entry s

-- by its number
abbrev pub inner_at : List Entry → ℕ → ℕ → Option Body → Part
inner_at es j entry None = nothing
inner_at es j entry (Some b) = inner_with es b entry (slice_get b.subroutines j)

-- what a declaration has in a segment, behind so many procedures and subroutines of the main body, and so many entries of the segment
abbrev pub declared_part : Placed → ℕ → ℕ → ℕ → ℕ → Declaration → Part
declared_part p g n j entry (decl.Declaration.procedure h items ss) =
    if nat_eq h.segment g then routine_at (module_entries p.unit g) n entry (slice_get (routine_bodies p) n) else nothing
declared_part p g n j entry (decl.Declaration.subroutine h s) =
    if nat_eq p.unit.tree.segment g then inner_at (module_entries p.unit g) j entry (outer_body p main) else nothing
declared_part p g n j entry d = nothing

-- how many entries of a segment there are behind a declaration
abbrev pub entries_behind : Placed → ℕ → ℕ → ℕ → Declaration → ℕ
entries_behind p g n entry d = entry + length (in_segment g (declared_entries p.unit.tree.segment n d))

-- declarations in order
abbrev pub declared_parts : Placed → ℕ → ℕ → ℕ → ℕ → Declarations → Part
declared_parts p g n j entry decl.none = nothing
declared_parts p g n j entry (decl.and d ds) =
    declared_part p g n j entry d ⨟ declared_parts p g (routines_behind n d) (inner_behind j d) (entries_behind p g n entry d) ds

-- a unit has its main body in a segment
abbrev pub holds_main : Placed → ℕ → Bool
holds_main p g = not p.unit.subprogram && nat_eq p.unit.tree.segment g

-- the main body, at the mark behind those of the entries
abbrev pub main_at : List Entry → Option Body → Part
main_at es None = nothing
main_at es (Some b) = main_part es (length es) b

-- the code of a unit in a segment
abbrev pub module_part : Placed → ℕ → Part
module_part p g =
    declared_parts p g 0 0 0 (declarations p.unit.tree.items)
    ⨟ (if holds_main p g then main_at (module_entries p.unit g) (outer_body p main) else nothing)

-- ---- modules

-- one for each entry, and one for a main body
abbrev pub marks_before : Placed → ℕ → ℕ
marks_before p g = length (module_entries p.unit g) + (if holds_main p g then 1 else 0)

-- the mark of the main body
abbrev pub main_mark : Placed → ℕ → Option ℕ
main_mark p g = if holds_main p g then Some (length (module_entries p.unit g)) else None

-- what the code of a module is behind its marks, and with no name wanted
abbrev pub module_written : Placed → ℕ → Written
module_written p g = module_part p g (marks_before p g) []

-- this is the code of a unit in the segment that has this name and number
pub record IsCodeOf (p : Placed) (name : List ℕ) (g : ℕ) (c : Code) : Type 0 where
  pub segment : letters c.segment ≡ name
  pub pieces : c.pieces.items ≡ (module_written p g).pieces
  pub marks : c.marks.items ≡ replicate (marks_before p g + (module_written p g).marks) true
  pub entries : map made_of c.entries.items ≡ made_from 0 (module_entries p.unit g)
  pub wants : wants_of c.wants.items ≡ (module_written p g).wants
  pub main : c.main ≡ main_mark p g

-- a module is finished of such a code, or has more words than a segment
pub record IsModuleOf (p : Placed) (name : List ℕ) (g : ℕ) (m : Module) : Type 0 where
  pub code : Code
  pub is : IsCodeOf p name g code
  pub segment : m.segment ≡ code.segment
  pub wants : m.wants ≡ code.wants
  pub finished : m.size ≤ 16383 → Finished code m
  pub oversized : 16383 < m.size → Oversized code m

-- ---- the segments that units use, in order

-- a name, where there is one
abbrev pub in_list : Option (List ℕ) → List (List ℕ)
in_list None = []
in_list (Some name) = name ∷ []

-- the name of a segment by its number in a unit
abbrev pub named_segment : Source → ℕ → List (List ℕ)
named_segment u g = in_list (slice_get u.segments g)

-- the segments in which procedures stand, in order of text, once for each
abbrev pub uses_in : Source → Declaration → List (List ℕ)
uses_in u (decl.Declaration.procedure h items ss) = named_segment u h.segment
uses_in u d = []

abbrev pub uses_among : Source → Declarations → List (List ℕ)
uses_among u decl.none = []
uses_among u (decl.and d ds) = uses_in u d ++ uses_among u ds

-- and that of the main body
abbrev pub uses_of : Source → List (List ℕ)
uses_of u = uses_among u (declarations u.tree.items) ++ (if u.subprogram then [] else named_segment u u.tree.segment)

-- those of all units
abbrev pub program_uses : List Source → List (List ℕ)
program_uses us = joined uses_of us

-- segments with their numbers, the first of which has the number k
abbrev pub numbered : ℕ → List (List ℕ) → Table ℕ
numbered k [] = []
numbered k (name ∷ names) = (name, k) ∷ numbered (suc k) names

-- a number among some
abbrev pub is_taken : ℕ → List ℕ → Bool
is_taken g [] = false
is_taken g (h ∷ hs) = nat_eq g h || is_taken g hs

-- a unit has a body in a segment
abbrev pub uses : Placed → ℕ → Bool
uses p g = nat_lt 0 (marks_before p g)

-- the number of a segment in a unit that uses it, where it is not among those that had their module
abbrev pub next_number : Placed → List ℕ → Option ℕ → Option ℕ
next_number p taken None = None
next_number p taken (Some g) = if uses p g && not (is_taken g taken) then Some g else None

-- the modules of a unit along the names of segments: each that it uses has its module where its name comes first
pub data AreOfUnit (p : Placed) : List ℕ → List (List ℕ) → List Module → Type 0 where
  none : {taken : List ℕ} → AreOfUnit p taken [] []
  more : {taken : List ℕ} {g : ℕ} {name : List ℕ} {names : List (List ℕ)} {m : Module} {ms : List Module}
      → next_number p taken (find (numbered 0 p.unit.segments) name) ≡ Some g → IsModuleOf p name g m → AreOfUnit p (g ∷ taken) names ms
      → AreOfUnit p taken (name ∷ names) (m ∷ ms)
  skip : {taken : List ℕ} {name : List ℕ} {names : List (List ℕ)} {ms : List Module}
      → next_number p taken (find (numbered 0 p.unit.segments) name) ≡ None → AreOfUnit p taken names ms → AreOfUnit p taken (name ∷ names) ms

-- the modules of units in order
pub data AreOf (names : List (List ℕ)) : List Placed → List Module → Type 0 where
  none : AreOf names [] []
  more : {p : Placed} {ps : List Placed} {ms ns : List Module} → AreOfUnit p [] names ms → AreOf names ps ns → AreOf names (p ∷ ps) (ms ++ ns)

-- The modules of a program: for each unit those of the segments that it uses, in the order in which the program uses these first.
abbrev pub AreModules : List Source → List Module → Type 0
AreModules us ms = AreOf (program_uses us) (placed_units (first_reached us) us) ms
