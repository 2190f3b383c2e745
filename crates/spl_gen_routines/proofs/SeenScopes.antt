-- What is seen through levels, and the frame that the generator has, in the words of the definitions.
use Rattle.std.proofs.Common.{◌≡◌, ℕ, List, [], ◌∷◌, map, sym, ap, subst, ◌∙◌}
use Rattle.spl_tree.specs.DeclarationTrees.{Heading, Declarations, declarations}
use Rattle.spl_tree.specs.StatementTrees.{Statement, statements}
use Rattle.spl_tree.specs.Spells.{heading_tree, declaration}
use Rattle.spl_sorts.specs.spl_meaning.Names.{Names, find, parameters, formals_of}
use Rattle.spl_sorts.specs.spl_meaning.Tables.{Routine, outer_names}
use Rattle.spl_sorts.specs.spl_meaning.Pending.{formals_words}
use Rattle.spl_sorts.specs.spl_meaning.Places.{above_base, places_from, arrays_from}
use Rattle.spl_sorts.specs.Tables.{table_of}
use Rattle.spl_statement_scopes.specs.spl_places.declared.places.Starts.{Starts}
use Rattle.spl_statement_scopes.specs.spl_places.ListedData.{Datum, datum_of, list_data}
use Rattle.spl_statement_scopes.specs.spl_places.NameMaps.{entries_of, shown}
use Rattle.spl_statement_scopes.specs.spl_places.Spots.{spot_of, array_of, frame_starts}
use Rattle.spl_statement_scopes.specs.spl_places.Held.{named}
use Rattle.spl_statement_scopes.specs.spl_places.Gathered.{items_under}
use Rattle.spl_gen_body.specs.spl_rooms.declared.room_type.Room.{Room}
use Rattle.spl_branch.specs.declared.buffer.Code.{Code}
use Rattle.spl_gen_body.specs.spl_code.Calls.{Scope}
use Rattle.spl_statement_scopes.specs.spl_body_scopes.Levels.{Level}
use Rattle.spl_statement_scopes.specs.Scopes.{StatesInner, StatesMainInner}
use Rattle.spl_routine_code.specs.Bodies.{statements_part}
use Rattle.spl_gen_body.specs.declared.bodies.Procedure.{Procedure}
use Rattle.spl_gen_body.specs.Procedures.{frame_for}
use Rattle.spl_gen_body.proofs.FrameLaws.{frame_is}
use Rattle.spl_routine_code.specs.Generates.{Generates}
use Rattle.spl_routine_code.specs.Scoped.{subroutine_with}
use Rattle.spl_routine_code.specs.Routines.{Around, inner_first, InnerStands, FrameFits}

-- a subroutine stands where its first level is that of its parameters with both results
pub inner_stands : (a : Around) (h : Heading) (s : Statement) (depth entry : ℕ) (c d : Code) (first : Level) (scope : Scope) → first ≡ inner_first a h
    → StatesInner first a.own a.outer a.calls scope → StatesMainInner first a.own a.outer a.calls scope
    → Generates entry (subroutine_with depth (formals_words (formals_of h)) entry (statements_part scope (statements (s ∷ [])))) c d → InnerStands a h s depth entry c d
inner_stands a h s depth entry c d first scope is inner others made = record {
  scope = scope;
  inner = subst (λ (l : Level). StatesInner l a.own a.outer a.calls scope) is inner;
  main_inner = subst (λ (l : Level). StatesMainInner l a.own a.outer a.calls scope) is others;
  stands = made;
}

-- the items of a list by the names outside it
items_so : (outer : Names) (h : Heading) (ds : Declarations) (r : Routine) → r.heading ≡ h → r.items ≡ ds → outer_names r ≡ outer
    → items_under outer h ds ≡ list_data (outer_names r) (find (parameters (formals_of r.heading))) r.items
items_so outer h ds r heading items is =
    ap (λ (n : Names). items_under n h ds) (sym is) ∙ ap (λ (k : Heading). items_under (outer_names r) k ds) (sym heading)
    ∙ ap (λ (xs : Declarations). items_under (outer_names r) r.heading xs) (sym items)

-- the frame of a procedure by what the generator has of it
pub frame_fits : (outer : Names) (own arrays : ℕ) (h : Heading) (ds : Declarations) (room : Room) (of : Procedure) (items : List Datum) (starts : Starts)
    → find (table_of of.outer.now) ≡ outer → heading_tree of.heading.now ≡ h → declarations (map declaration of.declarations.now) ≡ ds
    → map datum_of of.items.now ≡ items → items ≡ items_under outer h ds → of.room ≡ room → starts ≡ frame_starts own arrays items
    → shown spot_of (find (entries_of of.places.now.places)) ≡ find (places_from above_base starts.own starts.here (map named items))
    → shown array_of (find (entries_of of.places.now.arrays)) ≡ find (arrays_from above_base starts.own_arrays starts.here_arrays (map named items))
    → FrameFits outer own arrays h ds room (frame_for of)
frame_fits outer own arrays h ds room of items starts outside heading list listed under has from places spaces globals r new rh ri ro rr =
    let all = under ∙ items_so outer h ds r rh ri ro in
    frame_is globals own arrays r of new (record {
      heading = heading ∙ sym rh;
      list = list ∙ sym ri;
      outer = outside ∙ sym ro;
      items = listed ∙ all;
      room = has ∙ rr;
      places = places ∙ ap (λ (s : Starts). find (places_from above_base s.own s.here (map named items))) from
          ∙ ap (λ (xs : List Datum). find (places_from above_base own 1 (map named xs))) all;
      arrays = spaces ∙ ap (λ (s : Starts). find (arrays_from above_base s.own_arrays s.here_arrays (map named items))) from
          ∙ ap (λ (xs : List Datum). find (arrays_from above_base arrays (frame_starts own arrays xs).here_arrays (map named xs))) all;
    })
