-- The frame is made of the items of the list, and the first level has the procedure's own result alone.
use Rattle.std.proofs.Common.{List, map, None, refl, ap, subst, ◌∙◌}
use Rattle.spl_tree.specs.declared.declarations.Decl.{Decl}
use Rattle.spl_tree.specs.DeclarationTrees.{declarations}
use Rattle.spl_tree.specs.Spells.{heading_tree, declaration}
use Rattle.spl_tree.specs.StatementTrees.{statements}
use Rattle.spl_tree.specs.Views as view
use Rattle.spl_sorts.specs.spl_meaning.Names.{find, formals_of}
use Rattle.spl_sorts.specs.spl_meaning.Pending.{formals_words}
use Rattle.spl_sorts.specs.spl_meaning.Places.{above_base, places_from, arrays_from}
use Rattle.spl_sorts.specs.Tables.{table_of}
use Rattle.spl_statement_scopes.specs.spl_places.declared.data.Datum as code
use Rattle.spl_statement_scopes.specs.spl_places.ListedData.{datum_of}
use Rattle.spl_statement_scopes.specs.spl_places.Held.{named}
use Rattle.spl_statement_scopes.specs.spl_places.Spots.{frame_starts}
use Rattle.spl_statement_scopes.specs.spl_places.Gathered.{items_under}
use Rattle.spl_gen_body.proofs.spl_operations_proofs.PutLemmas.{ok_then}
use Rattle.spl_statement_scopes.specs.spl_body_scopes.spl_code_scopes.Scopes.{scope_of}
use Rattle.spl_statement_scopes.specs.spl_body_scopes.Levels.{Level}
use Rattle.spl_statement_scopes.specs.spl_body_scopes.Results.{result_of, results_through}
use Rattle.spl_statement_scopes.specs.Levels.{with_results}
use Rattle.spl_statement_scopes.specs.Scopes.{StatesRoutine}
use Rattle.spl_gen_body.specs.declared.bodies.Procedure.{Procedure}
use Rattle.spl_gen_body.specs.Procedures.{frame_for}
use Rattle.spl_routine_code.specs.Bodies.{statements_part}
use Rattle.spl_routine_code.specs.Generates.{Generates}
use Rattle.spl_routine_code.specs.Scoped.{procedure_with}
use Rattle.spl_gen_routines.specs.Views.{around_of}
use Rattle.spl_gen_routines.proofs.SeenScopes.{frame_fits}
use Rattle.spl_gen_routines.proofs.routines.procedure.Goals as goal

pub returns : goal.returns
returns c =
    let a = around_of c.args.around.now in
    let p = c.args.of.now in
    let h = heading_tree p.heading.now in
    let ds = declarations (map declaration p.body.now.items.items) in
    let outer = find (table_of p.outer.now.names) in
    let scope = scope_of c.statement_scope-scope.result in
    let items = map datum_of c.in_ok-items.items.items in
    let starts = c.in_ok-starts.starts in
    let of : Procedure = record {
      outer = record { ref_ptr = p.outer.ref_ptr; now = p.outer.now.names };
      heading = p.heading;
      declarations = c.deref-4.result;
      items = c.deref-5.result;
      places = record { ref_ptr = p.outer.ref_ptr; now = c.in_ok-places.places };
      room = c.args.room;
    } in
    let first = c.in_ok-first.ensures ∙ ap (λ (l : Level). with_results l a.own a.outer (results_through (result_of None) a.result)) c.no_names.ensures in
    let under = c.in_ok-items.ensures ∙ ap (λ (xs : List Decl). items_under outer h (declarations (map declaration xs))) c.deref.ensures.value in
    let fits =
    frame_fits outer p.first_own p.first_array h ds c.args.room of items starts refl refl
    (ap (λ (xs : List Decl). declarations (map declaration xs)) c.deref-4.ensures.value)
    (ap (λ (xs : List code.Datum). map datum_of xs) c.deref-5.ensures.value) under refl
    (c.in_ok-starts.ensures ∙ ap (λ (xs : List code.Datum). frame_starts p.first_own p.first_array (map datum_of xs)) c.deref-2.ensures.value)
    (c.in_ok-places.ensures.places ∙ ap (λ (xs : List code.Datum). find (places_from above_base starts.own starts.here (map named (map datum_of xs)))) c.deref-3.ensures.value)
    (c.in_ok-places.ensures.arrays ∙ ap (λ (xs : List code.Datum). find (arrays_from above_base starts.own_arrays starts.here_arrays (map named (map datum_of xs)))) c.deref-3.ensures.value) in
    ok_then c.procedure_code.result
    (λ made. record {
      scope = scope;
      states = subst (λ (l : Level). StatesRoutine l a.own a.outer a.calls scope) first c.statement_scope-scope.ensures.routine;
      frame = frame_for of;
      fits = fits;
      stands = subst (λ xs. Generates c.args.entry (procedure_with (frame_for of) (formals_words (formals_of h)) c.args.entry (statements_part scope (statements (map view.statement xs)))) c.args.code.now c.procedure_code.new.code) c.deref-6.ensures.value made;
    })
    c.procedure_code.ensures
