-- A procedure that was appended behind its subroutines, and a main body, are those of their unit.
use Rattle.std.proofs.Common.{◌≡◌, ℕ, suc, ◌+◌, List, None, sym, subst, add-one}
use Rattle.spl_sound_labels.specs.spl_tree.DeclarationTrees.{Heading, Declarations}
use Rattle.spl_sound_labels.specs.spl_tree.StatementTrees.{Statement, statements}
use Rattle.spl_sound_labels.specs.spl_meaning.Names.{Names, formals_of}
use Rattle.spl_sound_labels.specs.spl_meaning.Pending.{formals_words}
use Rattle.spl_sound_labels.specs.spl_meaning.Tables.{subroutines_among}
use Rattle.spl_sound_labels.specs.spl_meaning.Bodies.{Body, Named}
use Rattle.spl_sound_labels.specs.spl_places.Programs.{Each}
use Rattle.spl_routine_code.specs.spl_rooms.declared.room_type.Room.{Room}
use Rattle.spl_routine_code.specs.spl_branch.declared.buffer.Code.{Code}
use Rattle.spl_routine_code.specs.spl_code.Calls.{Scope}
use Rattle.spl_routine_code.specs.spl_body_code.Bodies.{Frame, frame_of, procedure_code}
use Rattle.spl_routine_code.specs.spl_scopes.Entries.{Owner, main, routine, Entry}
use Rattle.spl_routine_code.specs.spl_body_scopes.Levels.{Level}
use Rattle.spl_routine_code.specs.spl_body_scopes.Results.{result_of, results_through}
use Rattle.spl_routine_code.specs.spl_body_scopes.Found.{Calls}
use Rattle.spl_routine_code.specs.spl_statement_scopes.Levels.{no_names, with_results}
use Rattle.spl_routine_code.specs.spl_statement_scopes.Scopes.{StatesRoutine, StatesMain}
use Rattle.spl_routine_code.specs.Bodies.{statements_part}
use Rattle.spl_unit_codes.specs.spl_module_code.Bodies.{statements_scope, body_statements, subroutine_parts, routine_part, main_part}
use Rattle.spl_routine_code.specs.Generates.{Generates, GeneratesFrom}
use Rattle.spl_routine_code.specs.Scoped.{procedure_with, main_with}
use Rattle.spl_routine_code.specs.Routines.{Around, inners_among, room_at, FrameFits, ProcedureStands, RoutineStands, MainBodyStands}
use Rattle.spl_routine_code.proofs.OpenMarks.{over_generated}
use Rattle.spl_unit_laws.proofs.InnerParts.{Seen, AllRoomy, inners_made}

-- the scope that a procedure's statements see through its levels is that of its body
abbrev pub RoutineSeen : List Entry → Owner → Body → Around → Type 0
RoutineSeen es o b a = (scope : Scope) → StatesRoutine (with_results no_names a.own a.outer a.result) a.own a.outer a.calls scope → statements_scope es o b ≡ scope

procedure_made : (es : List Entry) (o : Owner) (b : Body) (a : Around) (outer : Names) (own own_arrays : ℕ) (h : Heading) (items : Declarations) (room : Room) (ss : List Statement)
    (entry : ℕ) (c d : Code) → ProcedureStands a outer own own_arrays h items room ss entry c d → RoutineSeen es o b a
    → ((frame : Frame) → FrameFits outer own own_arrays h items room frame → frame ≡ frame_of b) → b.profile.formals ≡ formals_of h → b.statements ≡ statements ss
    → Generates entry (procedure_code b entry (body_statements es o b)) c d
procedure_made es o b a outer own own_arrays h items room ss entry c d one seen fits formals listed =
    let is = seen one.scope one.states in
    let words : ℕ = formals_words (formals_of h) in
    subst (λ fs. Generates entry (procedure_with (frame_of b) (formals_words fs) entry (body_statements es o b)) c d) (sym formals)
    (subst (λ f. Generates entry (procedure_with f words entry (body_statements es o b)) c d) (fits one.frame one.fits)
    (subst (λ (s : Scope). Generates entry (procedure_with one.frame words entry (statements_part s b.statements)) c d) (sym is)
    (subst (λ xs. Generates entry (procedure_with one.frame words entry (statements_part one.scope xs)) c d) (sym listed) one.stands)))

pub routine_made : (es : List Entry) (n : ℕ) (x : Named) (a : Around) (rooms : List Room) (k : ℕ) (outer : Names) (own own_arrays : ℕ) (h : Heading) (m : ℕ) (items : Declarations)
    (ss : List Statement) (entry : ℕ) (c e : Code) → RoutineStands a rooms k outer own own_arrays h items ss entry c e
    → RoutineSeen es (routine n) x.body a → Each (Seen es (routine n) x.body a) x.body.subroutines → AllRoomy rooms x.body (suc k) x.body.subroutines
    → x.body.subroutines ≡ subroutines_among m items
    → ((frame : Frame) → FrameFits outer own own_arrays h items (room_at rooms k) frame → frame ≡ frame_of x.body) → x.body.profile.formals ≡ formals_of h
    → x.body.statements ≡ statements ss
    → GeneratesFrom entry (1 + inners_among items) (routine_part es n entry x) c e
routine_made es n x a rooms k outer own own_arrays h m items ss entry c e one seen inner roomy are fits formals listed =
    let subs = x.body.subroutines in
    let first =
    inners_made es (routine n) x.body a rooms m items (k + 1) (entry + 1) c one.middle one.inners
    (subst (Each (Seen es (routine n) x.body a)) are inner)
    (subst (λ i. AllRoomy rooms x.body i (subroutines_among m items)) (sym (add-one k)) (subst (AllRoomy rooms x.body (suc k)) are roomy)) in
    let here : GeneratesFrom (entry + 1) (inners_among items) (subroutine_parts es (routine n) x.body (suc entry) subs) c one.middle =
    subst (λ xs. GeneratesFrom (entry + 1) (inners_among items) (subroutine_parts es (routine n) x.body (suc entry) xs) c one.middle) (sym are)
    (subst (λ i. GeneratesFrom (entry + 1) (inners_among items) (subroutine_parts es (routine n) x.body i (subroutines_among m items)) c one.middle) (add-one entry) first) in
    over_generated entry (inners_among items) (subroutine_parts es (routine n) x.body (suc entry) subs) (procedure_code x.body entry (body_statements es (routine n) x.body))
    c one.middle e here (procedure_made es (routine n) x.body a outer own own_arrays h items (room_at rooms k) ss entry one.middle e one.stands seen fits formals listed)

-- a main body
pub main_made : (es : List Entry) (b : Body) (outer : Level) (calls : Calls) (ss : List Statement) (depth entry : ℕ) (c d : Code)
    → MainBodyStands outer calls ss depth entry c d
    → ((scope : Scope) → StatesMain (with_results no_names outer outer (results_through (result_of None) (result_of None))) outer outer calls scope
    → statements_scope es main b ≡ scope)
    → depth ≡ b.depth' → b.statements ≡ statements ss → Generates entry (main_part es entry b) c d
main_made es b outer calls ss depth entry c d one seen room listed =
    let is = seen one.scope one.states in
    subst (λ n. Generates entry (main_with n entry (body_statements es main b entry)) c d) room
    (subst (λ (s : Scope). Generates entry (main_with depth entry (statements_part s b.statements entry)) c d) (sym is)
    (subst (λ xs. Generates entry (main_with depth entry (statements_part one.scope xs entry)) c d) (sym listed) one.stands))
