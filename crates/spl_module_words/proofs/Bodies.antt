-- The words of bodies: each has at most as many as it weighs.
use Rattle.std.proofs.Common.{◌≡◌, ◌≤◌, ◌*◌, ℕ, suc, ◌+◌, List, [], ◌∷◌, refl, arith}
use Rattle.spl_formed_modules.specs.spl_tree.StatementTrees as stat
use Rattle.spl_formed_modules.specs.spl_tree.StatementTrees.{Statements, statements}
use Rattle.spl_few_loops.specs.spl_meaning.Names.{Table}
use Rattle.spl_few_loops.specs.spl_meaning.Tables.{Source, Routine, Subroutine, routine_subroutines, unit_subroutines}
use Rattle.spl_few_loops.specs.spl_meaning.Places.{Place}
use Rattle.spl_few_loops.specs.spl_meaning.Bodies.{Body, procedure_body, subroutine_body, main_body}
use Rattle.spl_few_loops.specs.spl_meaning.Bound.{statement_weight, statements_weight, subroutine_weight, subroutines_weight, routine_weight, main_weight}
use Rattle.spl_formed_modules.specs.spl_branch.Pieces.{count_of}
use Rattle.spl_formed_modules.specs.spl_code.Parts.{Part, Wanted}
use Rattle.spl_few_loops.proofs.spl_code_proofs.CountLemmas.{count_append, Few, few_then, few_pieces, few_fresh}
use Rattle.spl_few_loops.specs.spl_statement_code.Landings.{Landing}
use Rattle.spl_few_loops.specs.spl_statement_code.FewWords.{nested_among}
use Rattle.spl_few_loops.proofs.spl_statement_code_proofs.CountLaws.{few_listed}
use Rattle.spl_formed_modules.specs.spl_body_code.Bodies.{procedure_code, main_code}
use Rattle.spl_formed_modules.proofs.spl_body_code_proofs.BodyLaws.{procedure_few, subroutine_few, main_few}
use Rattle.spl_formed_modules.specs.spl_scopes.Entries.{Owner, main, routine, Entry}
use Rattle.spl_few_loops.specs.spl_places.Programs.{Each}
use Rattle.spl_fits.specs.Fits.{RoutineFits}
use Rattle.spl_few_loops.specs.Loops.{FewLoops, FewLoopsInSubroutine, FewLoopsInRoutine}
use Rattle.spl_formed_modules.specs.spl_module_code.LabelsOfBodies.{Label, labels_among, with_landings}
use Rattle.spl_formed_modules.specs.spl_module_code.Bodies.{context_of, body_statements, subroutine_part, subroutine_parts, routine_part}

takes_landings : {n : ℕ} (xs : List Label) (part : Table Landing → Part) → ((t : Table Landing) → Few n (part t)) → Few n (with_landings xs part)
takes_landings [] part h = h []
takes_landings (x ∷ xs) part h =
    few_fresh _ (λ mark. takes_landings xs (λ t. part ((x.name, record { mark = mark; pending = x.pending }) ∷ t)) (λ t. h ((x.name, record { mark = mark; pending = x.pending }) ∷ t)))

none_waits : (n : ℕ) → 3 * n ≤ 255 → 0 + 3 * n ≤ 255
none_waits n le = omega (arith, le)

takes_statements : (es : List Entry) (o : Owner) (b : Body) (leave : ℕ) → FewLoops b.statements → Few (statements_weight b.statements) (body_statements es o b leave)
takes_statements es o b leave few =
    takes_landings (labels_among b.statements 0) _
    (λ labels. record { few = λ l ws. (few_listed (context_of es o b labels leave) b.statements 0 (none_waits (nested_among b.statements) few)).few l ws })

-- ---- subroutines

takes_subroutine : (es : List Entry) (o : Owner) (b : Body) (entry : ℕ) (s : Subroutine) → FewLoopsInSubroutine s
    → Few (subroutine_weight s.heading s.statement) (subroutine_part es o b entry s)
takes_subroutine es o b entry s few = record {
  few = λ l ws. subroutine_few b s entry (body_statements es o (subroutine_body b s)) l ws
      (λ leave k vs. single (s_count leave k vs) (statement_is s) ((takes_statements es o (subroutine_body b s) leave few).few k vs));
}
  where
    s_count : ℕ → ℕ → List Wanted → ℕ
    s_count leave k vs = count_of (body_statements es o (subroutine_body b s) leave k vs).pieces

    statement_is : (s : Subroutine) → statements_weight (stat.Statements.and s.statement stat.Statements.none) ≡ statement_weight s.statement + 0
    statement_is s = refl

    single : (n : ℕ) → statements_weight (stat.Statements.and s.statement stat.Statements.none) ≡ statement_weight s.statement + 0
        → n ≤ statements_weight (stat.Statements.and s.statement stat.Statements.none) → n ≤ statement_weight s.statement
    single n is le = omega (arith, is, le)

takes_subroutines : (es : List Entry) (o : Owner) (b : Body) (entry : ℕ) (ss : List Subroutine) → Each FewLoopsInSubroutine ss
    → Few (subroutines_weight ss) (subroutine_parts es o b entry ss)
takes_subroutines es o b entry [] few = few_pieces [] (omega arith)
takes_subroutines es o b entry (s ∷ ss) few = few_then (takes_subroutine es o b entry s few.0) (takes_subroutines es o b (suc entry) ss few.1)

-- one of a main body
pub takes_inner : (es : List Entry) (b : Body) (entry : ℕ) (s : Subroutine) → FewLoopsInSubroutine s → Few (subroutine_weight s.heading s.statement) (subroutine_part es main b entry s)
takes_inner es b entry s few = takes_subroutine es main b entry s few

-- ---- procedures and main bodies

-- a procedure pays for its subroutines
pub takes_routine : (es : List Entry) (i entry : ℕ) (name : List ℕ) (globals : Table Place) (own own_arrays : ℕ) (r : Routine) → RoutineFits r → FewLoopsInRoutine r
    → Few (routine_weight r) (routine_part es i entry (record { name = name; body = procedure_body globals own own_arrays r }))
takes_routine es i entry name globals own own_arrays r fits few = record {
  few = λ l ws.
      let b : Body = procedure_body globals own own_arrays r in
      let inner = takes_subroutines es (routine i) b (suc entry) (routine_subroutines r) few.1 in
      let first = subroutine_parts es (routine i) b (suc entry) (routine_subroutines r) l ws in
      let body = procedure_few globals own own_arrays r entry (body_statements es (routine i) b) (l + first.marks) first.wants fits.locals fits.words
      (λ leave k vs. (takes_statements es (routine i) b leave few.0).few k vs) in
      let subs = inner.few l ws in
      let sum = count_append first.pieces (procedure_code b entry (body_statements es (routine i) b) (l + first.marks) first.wants).pieces in
      omega (arith, subs, body, sum);
}

-- so does a main body
pub takes_main : (es : List Entry) (globals : Table Place) (u : Source) (entry : ℕ) → FewLoops (statements u.tree.statements)
    → (l : ℕ) (ws : List Wanted) → count_of (main_code (main_body globals u) entry (body_statements es main (main_body globals u) entry) l ws).pieces + subroutines_weight (unit_subroutines u) ≤ main_weight u
takes_main es globals u entry few l ws =
    main_few globals u entry (body_statements es main (main_body globals u) entry) l ws (λ k vs. (takes_statements es main (main_body globals u) entry few).few k vs)
