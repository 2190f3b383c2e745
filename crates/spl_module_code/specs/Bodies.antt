-- The code of a body in its module: its labels, and its statements in the scope that it has there.
use Rattle.std.specs.Prelude.{ℕ, suc, Bool, true, false, if◌then◌else◌, List, [], ◌∷◌, Option, Some, None, option_map}
use Rattle.spl_statement_code.specs.spl_tree.declared.expressions.Kind.{Kind}
use Rattle.spl_statement_code.specs.spl_meaning.Names as n
use Rattle.spl_statement_code.specs.spl_meaning.Names.{Sort, Names, Table, find, or_else}
use Rattle.spl_statement_code.specs.spl_meaning.Places.{Place}
use Rattle.spl_statement_code.specs.spl_meaning.Tables.{Subroutine}
use Rattle.spl_statement_code.specs.spl_meaning.Bodies.{Body, Named, subroutine_body}
use Rattle.spl_statement_code.specs.spl_code.Parts.{Part, nothing, ◌⨟◌}
use Rattle.spl_statement_code.specs.spl_code.Calls.{Scope}
use Rattle.spl_statement_code.specs.Landings.{Landing, Context}
use Rattle.spl_statement_code.specs.Statements.{listed}
use Rattle.spl_body_code.specs.Bodies.{procedure_code, subroutine_code, main_code}
use Rattle.spl_modules.specs.spl_scopes.Entries.{Owner, main, routine, Entry}
use Rattle.spl_modules.specs.spl_scopes.Scopes.{scope_with}
use Rattle.spl_module_code.specs.LabelsOfBodies.{labels_among, with_landings}

-- whether a name stands for a procedure or a subroutine
abbrev pub is_called : Option Sort → Bool
is_called (Some (n.procedure p)) = true
is_called (Some (n.subroutine p)) = true
is_called s = false

-- the results that names mean on the left of :=, where they stand for what gives them
abbrev pub seen_results : Names → (List ℕ → Option (Kind × Place)) → List ℕ → Option (Kind × Place)
seen_results names results x = if is_called (names x) then results x else None

-- where the word stands that a name on the left of := means: that of such a result, or a variable's own
abbrev pub assigned_place : Body → List ℕ → Option Place
assigned_place b x = or_else (option_map (λ r. r.1) (seen_results b.here.names b.here.results x)) (b.here.places x)

-- the scope of a body's statements, in a module with these entries
abbrev pub statements_scope : List Entry → Owner → Body → Scope
statements_scope es o b = record (scope_with es o b) { places = assigned_place b }

-- what they are made with, where the labels have these marks and RETURN leads to that one
abbrev pub context_of : List Entry → Owner → Body → Table Landing → ℕ → Context
context_of es o b labels leave = record { scope = statements_scope es o b; landings = find labels; leave = leave }

-- the statements of a body; nothing waits before them
abbrev pub body_statements : List Entry → Owner → Body → ℕ → Part
body_statements es o b leave = with_landings (labels_among b.statements 0) (λ labels. listed (context_of es o b labels leave) b.statements 0)

-- A subroutine of a body, which is the entry of that number in its module; the mark of an entry is its number.
abbrev pub subroutine_part : List Entry → Owner → Body → ℕ → Subroutine → Part
subroutine_part es o b entry s =
    let inner = subroutine_body b s in
    subroutine_code inner entry (body_statements es o inner)

-- subroutines in order, the first of which is the entry of that number
abbrev pub subroutine_parts : List Entry → Owner → Body → ℕ → List Subroutine → Part
subroutine_parts es o b entry [] = nothing
subroutine_parts es o b entry (s ∷ ss) = subroutine_part es o b entry s ⨟ subroutine_parts es o b (suc entry) ss

-- A procedure of a unit by its number there, which is the entry of that number in its module. Its subroutines are the entries behind it, and
-- their code stands before its own.
abbrev pub routine_part : List Entry → ℕ → ℕ → Named → Part
routine_part es i entry b =
    subroutine_parts es (routine i) b.body (suc entry) b.body.subroutines ⨟ procedure_code b.body entry (body_statements es (routine i) b.body)

-- a main body, at a mark behind those of the entries; no RETURN stands in it
abbrev pub main_part : List Entry → ℕ → Body → Part
main_part es mark b = main_code b mark (body_statements es main b mark)
