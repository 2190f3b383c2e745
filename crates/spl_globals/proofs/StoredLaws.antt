-- What is stored along units is what the definitions store of a program: first all cells, then all initial values.
-- 1. a list with its items is laid out as its table is                       (procedure_laid, globals_laid)
-- 2. the procedures of a unit in order, and units in order                  (owns_laid, units_laid)
-- 3. cells and initial values of lists one behind the other are those of all (cells_all, initials_all)
use Rattle.std.proofs.Common.{ℕ, ◌≡◌, ◌+◌, add-zero, Bool, true, false, List, [], ◌∷◌, ◌++◌, map, refl, sym, ap, ◌∙◌}
use Rattle.std.specs.Prelude.{if◌then◌else◌}
use Rattle.spl_tree.specs.DeclarationTrees as decl
use Rattle.spl_tree.specs.DeclarationTrees.{Declaration, Declarations, declarations}
use Rattle.spl_sorts.specs.spl_meaning.Names.{Names, Sort, Table, find, nothing_declared, parameters, formals_of}
use Rattle.spl_sorts.specs.spl_meaning.Tables.{Source, Routine, with_declaration, routines_among, routines_of, outer_names, routine_table, unit_table}
use Rattle.spl_sorts.specs.spl_meaning.Places.{Place, data_word, above_base, Starts, Cell, Initial, Laid, item_words, array_words, sum, list_words, list_array_words, put_cells, put_initials}
use Rattle.spl_sorts.specs.spl_meaning.Bodies.{own_table, all_routines, own_words, global_words, global_array_words, data_words, laid_unit, routine_starts, laid_routine, own_cells, own_initials, Reached, reached_behind, program_from}
use Rattle.spl_sorts.specs.spl_meaning.Stops.{declaration_stops}
use Rattle.spl_sorts.specs.spl_meaning.Limits.{joined}
use Rattle.spl_sorts.specs.spl_meaning.Runs.{global_address}
use Rattle.spl_initials.proofs.spl_found_proofs.OwnNames.{find_declaration}
use Rattle.spl_initials.specs.spl_places.declared.places.Area.TheVariants as area
use Rattle.spl_initials.specs.spl_places.ListedData.{Datum, list_data}
use Rattle.spl_initials.specs.spl_places.Counters.{total_words}
use Rattle.spl_initials.specs.spl_places.Held.{held, named}
use Rattle.spl_initials.specs.spl_places.Programs.{unit_items, routine_items, all_globals, all_locals, Each, NewInUnit, NewInRoutine, NewInAll}
use Rattle.spl_initials.specs.spl_places.Spots.{frame_starts, place_in}
use Rattle.spl_initials.proofs.spl_places_proofs.ProgramLaws.{routine_held, unit_held, item_words_held, array_words_held, unit_totals, routine_totals}
use Rattle.spl_initials.specs.Cells.{cells_by, initials_by}
use Rattle.spl_initials.specs.Lists.{found_of, starts_of}
use Rattle.spl_initials.proofs.LaidLaws.{laid_cells, laid_initials}
use Rattle.spl_areas.specs.Gathered.{items_in, items_among}
use Rattle.spl_areas.proofs.GatherWalks.{routines_items}
use Rattle.spl_globals.specs.declared.stored.Pass.{Pass}
use Rattle.spl_globals.specs.declared.stored.Pass.TheVariants as pass
use Rattle.spl_globals.specs.declared.areas.Areas.{Areas}
use Rattle.spl_globals.specs.Stored.{Memory, list_stored, procedure_stored, declaration_stored, owns_stored, global_starts, globals_stored, behind_unit, units_stored, first_areas, areas_of, words_of}
use Rattle.spl_globals.proofs.StoredWalks.{total_both}

-- ---- what a pass stores of lists, as the definitions lay them out

abbrev put_laid : Pass → Laid → Memory → Memory
put_laid pass.Cells l mem = put_cells global_address l.cells mem
put_laid pass.Initials l mem = put_initials global_address l.initials mem

abbrev owned : Pass → ℕ → ℕ → List Routine → Memory → Memory
owned p own own_arrays [] mem = mem
owned p own own_arrays (r ∷ rs) mem =
    owned p (own + list_words true (routine_table r)) (own_arrays + list_array_words true (routine_table r)) rs (put_laid p (laid_routine true own own_arrays r) mem)

abbrev globals_put : Pass → Reached → Source → Memory → Memory
globals_put p at u mem = if u.subprogram then mem else put_laid p (laid_unit at.primary at.secondary u) mem

abbrev programmed : Pass → Reached → List Source → Memory → Memory
programmed p at [] mem = mem
programmed p at (u ∷ us) mem = programmed p (reached_behind u at) us (owned p at.own at.own_arrays (routines_of u) (globals_put p at u mem))

-- ---- 1. lists

-- items that are not OWN stand above a marker, or among the data words
in_frame : place_in area.Frame ≡ above_base
in_frame i a = above_base a

among_data : place_in area.Globals ≡ data_word
among_data i a = data_word a

-- the list of a procedure
procedure_laid : (p : Pass) (own own_arrays : ℕ) (r : Routine) (mem : Memory) → NewInRoutine r
    → procedure_stored p (outer_names r) own own_arrays r.heading r.items mem ≡ put_laid p (laid_routine true own own_arrays r) mem
procedure_laid p own own_arrays r mem new = by p
  where
    items : List Datum
    items = routine_items r

    is : held (routine_table r) ≡ map named (routine_items r)
    is = routine_held r new

    from : ℕ → Starts
    from n = record { own = own; own_arrays = own_arrays; here = 1; here_arrays = 1 + n }

    starts : starts_of (frame_starts own own_arrays (routine_items r)) ≡ routine_starts own own_arrays r
    starts = ap from (sym (item_words_held false (routine_table r) (routine_items r) is))

    by : (q : Pass) → procedure_stored q (outer_names r) own own_arrays r.heading r.items mem ≡ put_laid q (laid_routine true own own_arrays r) mem
    by pass.Cells =
        ap (λ (w : ℕ → Place). put_cells global_address (cells_by true (found_of w (starts_of (frame_starts own own_arrays (routine_items r))) (routine_items r)) (routine_items r)) mem) in_frame
        ∙ ap (λ (s : Starts). put_cells global_address (cells_by true (found_of above_base s (routine_items r)) (routine_items r)) mem) starts
        ∙ ap (λ (cs : List Cell). put_cells global_address cs mem)
        (sym (laid_cells true (outer_names r) (parameters (formals_of r.heading)) above_base (routine_starts own own_arrays r) (routine_table r) r.items (routine_items r) is))
    by pass.Initials =
        ap (λ (w : ℕ → Place). put_initials global_address
        (initials_by true (outer_names r) (found_of w (starts_of (frame_starts own own_arrays (routine_items r))) (routine_items r)) (find (parameters (formals_of r.heading))) r.items) mem) in_frame
        ∙ ap (λ (s : Starts). put_initials global_address (initials_by true (outer_names r) (found_of above_base s (routine_items r)) (find (parameters (formals_of r.heading))) r.items) mem) starts
        ∙ ap (λ (vs : List Initial). put_initials global_address vs mem)
        (sym (laid_initials true (outer_names r) (parameters (formals_of r.heading)) above_base (routine_starts own own_arrays r) (routine_table r) r.items (routine_items r) is))

abbrev pub reached : Areas → Reached
reached at = record { primary = at.primary; secondary = at.secondary; own = at.own; own_arrays = at.own_arrays }

-- the list of a unit
list_laid : (p : Pass) (at : Areas) (u : Source) (mem : Memory) (items : List Datum) → held (unit_table u) ≡ map named items
    → list_stored p false area.Globals (global_starts at) nothing_declared nothing_declared items (declarations u.tree.items) mem
    ≡ put_laid p (laid_unit at.primary at.secondary u) mem
list_laid pass.Cells at u mem items is =
    ap (λ (w : ℕ → Place). put_cells global_address (cells_by false (found_of w (starts_of (global_starts at)) items) items) mem) among_data
    ∙ ap (λ (cs : List Cell). put_cells global_address cs mem)
    (sym (laid_cells false nothing_declared [] data_word (starts_of (global_starts at)) (unit_table u) (declarations u.tree.items) items is))
list_laid pass.Initials at u mem items is =
    ap (λ (w : ℕ → Place). put_initials global_address
    (initials_by false nothing_declared (found_of w (starts_of (global_starts at)) items) nothing_declared (declarations u.tree.items)) mem) among_data
    ∙ ap (λ (vs : List Initial). put_initials global_address vs mem)
    (sym (laid_initials false nothing_declared [] data_word (starts_of (global_starts at)) (unit_table u) (declarations u.tree.items) items is))

globals_laid : (p : Pass) (at : Areas) (u : Source) (mem : Memory) → NewInUnit u → globals_stored p at u mem ≡ globals_put p (reached at) u mem
globals_laid p at u mem new = by u.subprogram (unit_held u new)
  where
    ds : Declarations
    ds = declarations u.tree.items

    by : (b : Bool) → held (if b then [] else unit_table u) ≡ map named (if b then [] else list_data nothing_declared (find []) (declarations u.tree.items))
        → (if b then mem
        else list_stored p false area.Globals (global_starts at) nothing_declared nothing_declared
        (if b then [] else list_data nothing_declared (find []) (declarations u.tree.items)) (declarations u.tree.items) mem)
        ≡ (if b then mem else put_laid p (laid_unit at.primary at.secondary u) mem)
    by true is = refl
    by false is = list_laid p at u mem (list_data nothing_declared (find []) (declarations u.tree.items)) is

-- ---- 2. procedures and units in order

-- the first declaration of a list, by its table
front : (p : Pass) (t : Table Sort) (d : Declaration) (ds : Declarations) (own own_arrays : ℕ) (mem : Memory)
    → owns_stored p (find t) own own_arrays (decl.and d ds) mem
    ≡ owns_stored p (find (with_declaration nothing_declared t d)) (own + total_words true item_words (items_in (find (with_declaration nothing_declared t d)) d))
    (own_arrays + total_words true array_words (items_in (find (with_declaration nothing_declared t d)) d)) ds
    (declaration_stored p (find (with_declaration nothing_declared t d)) own own_arrays d mem)
front p t d ds own own_arrays mem =
    ap (λ (b : Names). owns_stored p b (own + total_words true item_words (items_in b d)) (own_arrays + total_words true array_words (items_in b d)) ds
    (declaration_stored p b own own_arrays d mem)) (sym (find_declaration nothing_declared t d))

-- a declaration without items moves no start
still : (p : Pass) (here : Names) (own own_arrays : ℕ) (ds : Declarations) (mem : Memory)
    → owns_stored p here (own + 0) (own_arrays + 0) ds mem ≡ owns_stored p here own own_arrays ds mem
still p here own own_arrays ds mem =
    ap (λ (n : ℕ). owns_stored p here n (own_arrays + 0) ds mem) (add-zero own) ∙ ap (λ (n : ℕ). owns_stored p here own n ds mem) (add-zero own_arrays)

owns_laid : (p : Pass) (t : Table Sort) (m : ℕ) (ds : Declarations) (own own_arrays : ℕ) (mem : Memory) → Each NewInRoutine (routines_among t m ds)
    → owns_stored p (find t) own own_arrays ds mem ≡ owned p own own_arrays (routines_among t m ds) mem
owns_laid p t m decl.none own own_arrays mem new = refl
owns_laid p t m (decl.and (decl.Declaration.data_items kept k items) ds) own own_arrays mem new =
    let d = decl.Declaration.data_items kept k items in
    front p t d ds own own_arrays mem ∙ still p (find (with_declaration nothing_declared t d)) own own_arrays ds mem ∙ owns_laid p (with_declaration nothing_declared t d) (m + declaration_stops d) ds own own_arrays mem new
owns_laid p t m (decl.and (decl.Declaration.equate es) ds) own own_arrays mem new =
    let d = decl.Declaration.equate es in
    front p t d ds own own_arrays mem ∙ still p (find (with_declaration nothing_declared t d)) own own_arrays ds mem ∙ owns_laid p (with_declaration nothing_declared t d) (m + declaration_stops d) ds own own_arrays mem new
owns_laid p t m (decl.and (decl.Declaration.intrinsic xs) ds) own own_arrays mem new =
    let d = decl.Declaration.intrinsic xs in
    front p t d ds own own_arrays mem ∙ still p (find (with_declaration nothing_declared t d)) own own_arrays ds mem ∙ owns_laid p (with_declaration nothing_declared t d) (m + declaration_stops d) ds own own_arrays mem new
owns_laid p t m (decl.and (decl.Declaration.label xs) ds) own own_arrays mem new =
    let d = decl.Declaration.label xs in
    front p t d ds own own_arrays mem ∙ still p (find (with_declaration nothing_declared t d)) own own_arrays ds mem ∙ owns_laid p (with_declaration nothing_declared t d) (m + declaration_stops d) ds own own_arrays mem new
owns_laid p t m (decl.and (decl.Declaration.forward h) ds) own own_arrays mem new =
    let d = decl.Declaration.forward h in
    front p t d ds own own_arrays mem ∙ still p (find (with_declaration nothing_declared t d)) own own_arrays ds mem ∙ owns_laid p (with_declaration nothing_declared t d) (m + declaration_stops d) ds own own_arrays mem new
owns_laid p t m (decl.and (decl.Declaration.external h) ds) own own_arrays mem new =
    let d = decl.Declaration.external h in
    front p t d ds own own_arrays mem ∙ still p (find (with_declaration nothing_declared t d)) own own_arrays ds mem ∙ owns_laid p (with_declaration nothing_declared t d) (m + declaration_stops d) ds own own_arrays mem new
owns_laid p t m (decl.and (decl.Declaration.subroutine h s) ds) own own_arrays mem new =
    let d = decl.Declaration.subroutine h s in
    front p t d ds own own_arrays mem ∙ still p (find (with_declaration nothing_declared t d)) own own_arrays ds mem ∙ owns_laid p (with_declaration nothing_declared t d) (m + declaration_stops d) ds own own_arrays mem new
owns_laid p t m (decl.and (decl.Declaration.procedure h items ss) ds) own own_arrays mem new =
    let d = decl.Declaration.procedure h items ss in
    let here = with_declaration nothing_declared t d in
    let r : Routine = record { heading = h; items = items; statements = ss; globals = here; before = m } in
    let is = routine_held r new.0 in
    front p t d ds own own_arrays mem
    ∙ ap (λ (n : ℕ). owns_stored p (find here) (own + n) (own_arrays + total_words true array_words (routine_items r)) ds (procedure_stored p (find here) own own_arrays h items mem))
    (sym (item_words_held true (routine_table r) (routine_items r) is))
    ∙ ap (λ (n : ℕ). owns_stored p (find here) (own + list_words true (routine_table r)) (own_arrays + n) ds (procedure_stored p (find here) own own_arrays h items mem))
    (sym (array_words_held true (routine_table r) (routine_items r) is))
    ∙ ap (λ (x : Memory). owns_stored p (find here) (own + list_words true (routine_table r)) (own_arrays + list_array_words true (routine_table r)) ds x)
    (procedure_laid p own own_arrays r mem new.0)
    ∙ owns_laid p here (m + declaration_stops d) ds (own + list_words true (routine_table r)) (own_arrays + list_array_words true (routine_table r))
    (put_laid p (laid_routine true own own_arrays r) mem) new.1

array_totals : (rs : List Routine) → Each NewInRoutine rs → sum (λ r. list_array_words true (routine_table r)) rs ≡ total_words true array_words (joined routine_items rs)
array_totals [] new = refl
array_totals (r ∷ rs) new =
    ap (λ (m : ℕ). m + sum (λ r. list_array_words true (routine_table r)) rs) (array_words_held true (routine_table r) (routine_items r) (routine_held r new.0))
    ∙ ap (λ (m : ℕ). total_words true array_words (routine_items r) + m) (array_totals rs new.1)
    ∙ sym (total_both true array_words (routine_items r) (joined routine_items rs))

unit_array_totals : (us : List Source) → Each NewInUnit us → global_array_words us ≡ total_words false array_words (all_globals us)
unit_array_totals [] new = refl
unit_array_totals (u ∷ us) new =
    ap (λ (m : ℕ). m + global_array_words us) (array_words_held false (own_table u) (unit_items u) (unit_held u new.0))
    ∙ ap (λ (m : ℕ). total_words false array_words (unit_items u) + m) (unit_array_totals us new.1)
    ∙ sym (total_both false array_words (unit_items u) (all_globals us))

-- where the next unit's data start
next_reached : (at : Areas) (u : Source) → NewInUnit u → Each NewInRoutine (routines_of u) → reached (behind_unit at u) ≡ reached_behind u (reached at)
next_reached at u new all =
    let ds = declarations u.tree.items in
    let gs = unit_items u in
    let is = unit_held u new in
    let items = routines_items [] 0 ds in
    let make : ℕ → ℕ → ℕ → ℕ → Reached =
    λ a b c d. record { primary = at.primary + a; secondary = at.secondary + b; own = at.own + c; own_arrays = at.own_arrays + d } in
    ap (λ (n : ℕ). make n (total_words false array_words gs) (total_words true item_words (items_among nothing_declared ds)) (total_words true array_words (items_among nothing_declared ds)))
    (sym (item_words_held false (own_table u) gs is))
    ∙ ap (λ (n : ℕ). make (list_words false (own_table u)) n (total_words true item_words (items_among nothing_declared ds)) (total_words true array_words (items_among nothing_declared ds)))
    (sym (array_words_held false (own_table u) gs is))
    ∙ ap (λ (n : ℕ). make (list_words false (own_table u)) (list_array_words false (own_table u)) n (total_words true array_words (items_among nothing_declared ds)))
    (ap (total_words true item_words) items ∙ sym (routine_totals (routines_of u) all))
    ∙ ap (λ (n : ℕ). make (list_words false (own_table u)) (list_array_words false (own_table u)) (sum (λ r. list_words true (routine_table r)) (routines_of u)) n)
    (ap (total_words true array_words) items ∙ sym (array_totals (routines_of u) all))

each_first : {A : Type 0} (P : A → Type 0) (xs ys : List A) → Each P (xs ++ ys) → Each P xs
each_first P [] ys all = tt
each_first P (x ∷ xs) ys all = (all.0, each_first P xs ys all.1)

each_second : {A : Type 0} (P : A → Type 0) (xs ys : List A) → Each P (xs ++ ys) → Each P ys
each_second P [] ys all = all
each_second P (x ∷ xs) ys all = each_second P xs ys all.1

units_laid : (p : Pass) (at : Areas) (us : List Source) (mem : Memory) → Each NewInUnit us → Each NewInRoutine (all_routines us)
    → units_stored p at us mem ≡ programmed p (reached at) us mem
units_laid p at [] mem new all = refl
units_laid p at (u ∷ us) mem new all =
    let rs = each_first NewInRoutine (routines_of u) (all_routines us) all in
    ap (λ (x : Memory). units_stored p (behind_unit at u) us (owns_stored p nothing_declared at.own at.own_arrays (declarations u.tree.items) x)) (globals_laid p at u mem new.0)
    ∙ ap (λ (x : Memory). units_stored p (behind_unit at u) us x) (owns_laid p [] 0 (declarations u.tree.items) at.own at.own_arrays (globals_put p (reached at) u mem) rs)
    ∙ units_laid p (behind_unit at u) us (owned p at.own at.own_arrays (routines_of u) (globals_put p (reached at) u mem)) new.1 (each_second NewInRoutine (routines_of u) (all_routines us) all)
    ∙ ap (λ (n : Reached). programmed p n us (owned p at.own at.own_arrays (routines_of u) (globals_put p (reached at) u mem))) (next_reached at u new.0 rs)

-- ---- 3. all cells, and all initial values

cells_both : (xs ys : List Cell) (mem : Memory) → put_cells global_address (xs ++ ys) mem ≡ put_cells global_address ys (put_cells global_address xs mem)
cells_both [] ys mem = refl
cells_both (x ∷ xs) ys mem = cells_both xs ys (put_cells global_address (x ∷ []) mem)

initials_both : (xs ys : List Initial) (mem : Memory) → put_initials global_address (xs ++ ys) mem ≡ put_initials global_address ys (put_initials global_address xs mem)
initials_both [] ys mem = refl
initials_both (x ∷ xs) ys mem = initials_both xs ys (put_initials global_address (x ∷ []) mem)

owned_cells : (own own_arrays : ℕ) (rs : List Routine) (mem : Memory) → owned pass.Cells own own_arrays rs mem ≡ put_cells global_address (own_cells own own_arrays rs) mem
owned_cells own own_arrays [] mem = refl
owned_cells own own_arrays (r ∷ rs) mem =
    let o = own + list_words true (routine_table r) in
    let a = own_arrays + list_array_words true (routine_table r) in
    let cs = (laid_routine true own own_arrays r).cells in
    owned_cells o a rs (put_cells global_address cs mem) ∙ sym (cells_both cs (own_cells o a rs) mem)

owned_initials : (own own_arrays : ℕ) (rs : List Routine) (mem : Memory) → owned pass.Initials own own_arrays rs mem ≡ put_initials global_address (own_initials own own_arrays rs) mem
owned_initials own own_arrays [] mem = refl
owned_initials own own_arrays (r ∷ rs) mem =
    let o = own + list_words true (routine_table r) in
    let a = own_arrays + list_array_words true (routine_table r) in
    let is = (laid_routine true own own_arrays r).initials in
    owned_initials o a rs (put_initials global_address is mem) ∙ sym (initials_both is (own_initials o a rs) mem)

global_cells : (b : Bool) (cs : List Cell) (mem : Memory) → (if b then mem else put_cells global_address cs mem) ≡ put_cells global_address (if b then [] else cs) mem
global_cells true cs mem = refl
global_cells false cs mem = refl

global_initials : (b : Bool) (is : List Initial) (mem : Memory) → (if b then mem else put_initials global_address is mem) ≡ put_initials global_address (if b then [] else is) mem
global_initials true is mem = refl
global_initials false is mem = refl

cells_all : (words : ℕ) (at : Reached) (us : List Source) (mem : Memory) → programmed pass.Cells at us mem ≡ put_cells global_address (program_from words at us).cells mem
cells_all words at [] mem = refl
cells_all words at (u ∷ us) mem =
    let gs = if u.subprogram then [] else (laid_unit at.primary at.secondary u).cells in
    let os = own_cells at.own at.own_arrays (routines_of u) in
    let rest = (program_from words (reached_behind u at) us).cells in
    cells_all words (reached_behind u at) us (owned pass.Cells at.own at.own_arrays (routines_of u) (globals_put pass.Cells at u mem))
    ∙ ap (put_cells global_address rest) (owned_cells at.own at.own_arrays (routines_of u) (globals_put pass.Cells at u mem))
    ∙ ap (λ (x : Memory). put_cells global_address rest (put_cells global_address os x)) (global_cells u.subprogram (laid_unit at.primary at.secondary u).cells mem)
    ∙ ap (put_cells global_address rest) (sym (cells_both gs os mem))
    ∙ sym (cells_both (gs ++ os) rest mem)

initials_all : (words : ℕ) (at : Reached) (us : List Source) (mem : Memory) → programmed pass.Initials at us mem ≡ put_initials global_address (program_from words at us).initials mem
initials_all words at [] mem = refl
initials_all words at (u ∷ us) mem =
    let gs = if u.subprogram then [] else (laid_unit at.primary at.secondary u).initials in
    let os = own_initials at.own at.own_arrays (routines_of u) in
    let rest = (program_from words (reached_behind u at) us).initials in
    initials_all words (reached_behind u at) us (owned pass.Initials at.own at.own_arrays (routines_of u) (globals_put pass.Initials at u mem))
    ∙ ap (put_initials global_address rest) (owned_initials at.own at.own_arrays (routines_of u) (globals_put pass.Initials at u mem))
    ∙ ap (λ (x : Memory). put_initials global_address rest (put_initials global_address os x)) (global_initials u.subprogram (laid_unit at.primary at.secondary u).initials mem)
    ∙ ap (put_initials global_address rest) (sym (initials_both gs os mem))
    ∙ sym (initials_both (gs ++ os) rest mem)

-- ---- a program

pub cells_stored : (words : ℕ) (at : Areas) (us : List Source) (mem : Memory) → NewInAll us
    → units_stored pass.Cells at us mem ≡ put_cells global_address (program_from words (reached at) us).cells mem
cells_stored words at us mem new = units_laid pass.Cells at us mem new.0 new.1 ∙ cells_all words (reached at) us mem

pub initials_stored : (words : ℕ) (at : Areas) (us : List Source) (mem : Memory) → NewInAll us
    → units_stored pass.Initials at us mem ≡ put_initials global_address (program_from words (reached at) us).initials mem
initials_stored words at us mem new = units_laid pass.Initials at us mem new.0 new.1 ∙ initials_all words (reached at) us mem

-- where the data start, and how many there are, by the items
pub areas_found : (us : List Source) → NewInAll us → areas_of (all_globals us) (all_locals us) ≡ first_areas us
areas_found us new =
    let make : ℕ → ℕ → ℕ → Areas = λ g o a. record { primary = 0; secondary = g + o; own = g; own_arrays = g + o + a } in
    ap (λ (n : ℕ). make n (total_words true item_words (all_locals us)) (total_words false array_words (all_globals us))) (sym (unit_totals us new.0))
    ∙ ap (λ (n : ℕ). make (global_words us) n (total_words false array_words (all_globals us))) (sym (routine_totals (all_routines us) new.1))
    ∙ ap (make (global_words us) (own_words us)) (sym (unit_array_totals us new.0))

pub words_found : (us : List Source) → NewInAll us → words_of (all_globals us) (all_locals us) ≡ data_words us
words_found us new =
    let locals = total_words true item_words (all_locals us) in
    let arrays = total_words false array_words (all_globals us) in
    let own_arrays = total_words true array_words (all_locals us) in
    ap (λ (n : ℕ). n + locals + arrays + own_arrays) (sym (unit_totals us new.0))
    ∙ ap (λ (n : ℕ). global_words us + n + arrays + own_arrays) (sym (routine_totals (all_routines us) new.1))
    ∙ ap (λ (n : ℕ). global_words us + own_words us + n + own_arrays) (sym (unit_array_totals us new.0))
    ∙ ap (λ (n : ℕ). global_words us + own_words us + global_array_words us + n) (sym (array_totals (all_routines us) new.1))
