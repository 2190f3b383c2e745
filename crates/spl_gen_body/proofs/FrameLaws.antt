-- The frame of a procedure by what the generator has of it.
-- 1. its items are what its table holds                                        (routine_held)
-- 2. so cells and values by look-ups of its items are those of its list        (laid_cells, laid_initials)
-- 3. the look-ups are in the places that the generator has                     (found_is, starts_are)
use Rattle.std.proofs.Common.{◌≡◌, ℕ, ◌+◌, Bool, false, List, map, sym, ap, ◌∙◌}
use Rattle.spl_tree.specs.DeclarationTrees.{Heading, Declarations, declarations}
use Rattle.spl_tree.specs.Spells.{heading_tree, declaration}
use Rattle.spl_sorts.specs.spl_meaning.Names.{Names, Table, find, parameters, formals_of}
use Rattle.spl_sorts.specs.spl_meaning.Tables.{Routine, outer_names, routine_table}
use Rattle.spl_sorts.specs.spl_meaning.Places.{Place, above_base, Cell, Initial, item_words, Starts}
use Rattle.spl_sorts.specs.spl_meaning.Bodies.{routine_starts, procedure_body}
use Rattle.spl_initials.specs.spl_places.ListedData.{Datum, datum_of}
use Rattle.spl_initials.specs.spl_places.Counters.{total_words}
use Rattle.spl_initials.specs.spl_places.Programs.{NewInRoutine, routine_items}
use Rattle.spl_initials.proofs.spl_places_proofs.ProgramLaws.{routine_held, item_words_held}
use Rattle.spl_initials.specs.Cells.{Found, found_in, cells_by, initials_by}
use Rattle.spl_initials.specs.Lists.{found_of}
use Rattle.spl_initials.proofs.LaidLaws.{laid_cells, laid_initials}
use Rattle.spl_initials.proofs.FoundLemmas.{found_is}
use Rattle.spl_rooms.specs.declared.room_type.Room.{Room}
use Rattle.spl_body_code.specs.Bodies.{Frame, frame_of}
use Rattle.spl_gen_body.specs.declared.bodies.Procedure.{Procedure}
use Rattle.spl_gen_body.specs.Procedures.{frame_for}
use Rattle.spl_gen_body.specs.Routines.{Describes}

-- frames with the same parts are the same
same_frame : (f g : Frame) → f.words ≡ g.words → f.room ≡ g.room → f.cells ≡ g.cells → f.initials ≡ g.initials → f.split ≡ g.split → f ≡ g
same_frame f g words room cells initials split =
    ap (λ (x : ℕ). record { words = x; room = f.room; cells = f.cells; initials = f.initials; split = f.split }) words
    ∙ ap (λ (x : ℕ). record { words = g.words; room = x; cells = f.cells; initials = f.initials; split = f.split }) room
    ∙ ap (λ (x : List Cell). record { words = g.words; room = g.room; cells = x; initials = f.initials; split = f.split }) cells
    ∙ ap (λ (x : List Initial). record { words = g.words; room = g.room; cells = g.cells; initials = x; split = f.split }) initials
    ∙ ap (λ (x : Bool). record { words = g.words; room = g.room; cells = g.cells; initials = g.initials; split = x }) split

-- where a procedure's list starts, by its items
starts_are : (own own_arrays : ℕ) (r : Routine) → NewInRoutine r
    → record { own = own; own_arrays = own_arrays; here = 1; here_arrays = 1 + total_words false item_words (routine_items r) } ≡ routine_starts own own_arrays r
starts_are own own_arrays r new =
    ap (λ (n : ℕ). record { own = own; own_arrays = own_arrays; here = 1; here_arrays = 1 + n }) (sym (item_words_held false (routine_table r) (routine_items r) (routine_held r new)))

-- the look-ups of a procedure's items
abbrev of_items : ℕ → ℕ → Routine → Found
of_items own own_arrays r = found_of above_base (routine_starts own own_arrays r) (routine_items r)

found_so : (own own_arrays : ℕ) (r : Routine) (of : Procedure) → NewInRoutine r → Describes own own_arrays r of → found_in of.places.now ≡ of_items own own_arrays r
found_so own own_arrays r of new d =
    found_is of.places.now _ d.places d.arrays
    ∙ ap (λ (s : Starts). found_of above_base s (routine_items r)) (starts_are own own_arrays r new)

pub frame_is : (globals : Table Place) (own own_arrays : ℕ) (r : Routine) (of : Procedure) → NewInRoutine r → Describes own own_arrays r of
    → frame_for of ≡ frame_of (procedure_body globals own own_arrays r)
frame_is globals own own_arrays r of new d =
    let f = of_items own own_arrays r in
    let before = parameters (formals_of r.heading) in
    let found = found_so own own_arrays r of new d in
    same_frame (frame_for of) (frame_of (procedure_body globals own own_arrays r))
    (ap (λ (x : Room). x.locals) d.room)
    (ap (λ (x : Room). x.depth) d.room)
    (ap (λ (g : Found). cells_by false g (map datum_of of.items.now)) found ∙ ap (λ (ds : List Datum). cells_by false f ds) d.items
    ∙ sym (laid_cells false (outer_names r) before above_base (routine_starts own own_arrays r) (routine_table r) r.items (routine_items r) (routine_held r new)))
    (values found d ∙ sym (laid_initials false (outer_names r) before above_base (routine_starts own own_arrays r) (routine_table r) r.items (routine_items r) (routine_held r new)))
    (ap (λ (h : Heading). h.split) d.heading)
  where
    values : found_in of.places.now ≡ of_items own own_arrays r → Describes own own_arrays r of
        → (frame_for of).initials ≡ initials_by false (outer_names r) (of_items own own_arrays r) (find (parameters (formals_of r.heading))) r.items
    values found e =
        ap (λ (o : Names). initials_by false o (found_in of.places.now) (find (parameters (formals_of (heading_tree of.heading.now)))) (declarations (map declaration of.declarations.now))) e.outer
        ∙ ap (λ (g : Found). initials_by false (outer_names r) g (find (parameters (formals_of (heading_tree of.heading.now)))) (declarations (map declaration of.declarations.now))) found
        ∙ ap (λ (h : Heading). initials_by false (outer_names r) (of_items own own_arrays r) (find (parameters (formals_of h))) (declarations (map declaration of.declarations.now))) e.heading
        ∙ ap (λ (ds : Declarations). initials_by false (outer_names r) (of_items own own_arrays r) (find (parameters (formals_of r.heading))) ds) e.list
