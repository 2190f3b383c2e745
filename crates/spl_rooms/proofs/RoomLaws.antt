-- The rooms that are found along units are those of the definitions.
use Rattle.std.proofs.Common.{ℕ, ◌≡◌, ◌+◌, false, List, [], ◌∷◌, ◌++◌, map, refl, sym, ap, ◌∙◌}
use Rattle.spl_tree.specs.StatementTrees.{statements}
use Rattle.spl_tree.specs.DeclarationTrees as decl
use Rattle.spl_tree.specs.DeclarationTrees.{Declaration, Declarations, declarations}
use Rattle.spl_sound.specs.spl_meaning.Names.{Names, Sort, Table, find, nothing_declared, parameters, formals_of, profile_of}
use Rattle.spl_sound.specs.spl_meaning.Tables.{Source, Routine, with_declaration, routine_in, routines_among, routines_of, routine_table, subroutine_in, subroutines_among, unit_table}
use Rattle.spl_sound.specs.spl_meaning.Places.{array_words, list_words, list_array_words}
use Rattle.spl_sound.specs.spl_meaning.Pending.{depth}
use Rattle.spl_sound.specs.spl_meaning.Bodies.{all_routines, marker_gap}
use Rattle.spl_sound.specs.spl_meaning.Stops.{declaration_stops}
use Rattle.spl_sound.specs.spl_meaning.Limits.{joined}
use Rattle.spl_places.specs.spl_found.OwnNames.{over, behind_declarations}
use Rattle.spl_places.proofs.spl_found_proofs.OwnNames.{find_declaration, find_declarations}
use Rattle.spl_places.specs.Counters.{total_words}
use Rattle.spl_places.specs.Programs.{routine_items, Each, NewInRoutine}
use Rattle.spl_places.proofs.ProgramLaws.{routine_held, item_words_held, array_words_held}
use Rattle.spl_formals.specs.ResultWords.{result_at}
use Rattle.spl_rooms.specs.declared.room_type.Room.{Room}
use Rattle.spl_rooms.specs.Rooms.{room_within, routine_room, routine_rooms, rooms_in, rooms_of}
use Rattle.spl_rooms.specs.Walked.{inner_rooms, subroutines_rooms, procedure_rooms, global_rooms, globals_rooms, main_rooms, unit_rooms}
use Rattle.spl_rooms.proofs.RoomWalks.{append_same, over_nothing}

map_both : {A B : Type 0} (f : A → B) (xs ys : List A) → map f (xs ++ ys) ≡ map f xs ++ map f ys
map_both f [] ys = refl
map_both f (x ∷ xs) ys = ap (λ zs. f x ∷ zs) (map_both f xs ys)

joined_both : {A B : Type 0} (f : A → List B) (xs ys : List A) → joined f (xs ++ ys) ≡ joined f xs ++ joined f ys
joined_both f [] ys = refl
joined_both f (x ∷ xs) ys = ap (λ zs. f x ++ zs) (joined_both f xs ys) ∙ sym (append_same (f x) (joined f xs) (joined f ys))

nothing_behind : {A : Type 0} (xs : List A) → xs ++ [] ≡ xs
nothing_behind [] = refl
nothing_behind (x ∷ xs) = ap (λ ws. x ∷ ws) (nothing_behind xs)

-- ---- subroutines

one_subroutine : (around : Names) (m : ℕ) (d : Declaration) → inner_rooms around d ≡ map (room_within around) (subroutine_in m d)
one_subroutine around m (decl.Declaration.data_items own k items) = refl
one_subroutine around m (decl.Declaration.equate es) = refl
one_subroutine around m (decl.Declaration.intrinsic xs) = refl
one_subroutine around m (decl.Declaration.label xs) = refl
one_subroutine around m (decl.Declaration.forward h) = refl
one_subroutine around m (decl.Declaration.external h) = refl
one_subroutine around m (decl.Declaration.procedure h items ss) = refl
one_subroutine around m (decl.Declaration.subroutine h s) = refl

all_subroutines : (around : Names) (m : ℕ) (ds : Declarations) → subroutines_rooms around ds ≡ map (room_within around) (subroutines_among m ds)
all_subroutines around m decl.none = refl
all_subroutines around m (decl.and d ds) =
    let rest = subroutines_among (m + declaration_stops d) ds in
    ap (λ (xs : List Room). xs ++ subroutines_rooms around ds) (one_subroutine around m d)
    ∙ ap (λ (xs : List Room). map (room_within around) (subroutine_in m d) ++ xs) (all_subroutines around (m + declaration_stops d) ds)
    ∙ sym (map_both (room_within around) (subroutine_in m d) rest)

-- ---- procedures

abbrev room_of : Routine → ℕ → Names → Room
room_of r locals names = record { at = r.heading.at; locals = locals; depth = depth names (statements r.statements); result = result_at marker_gap (profile_of r.heading) }

routine_found : (r : Routine) → NewInRoutine r → procedure_rooms (find r.globals) r.heading r.items r.statements ≡ routine_rooms r
routine_found r new =
    let outer = find r.globals in
    let is = routine_held r new in
    let items = routine_items r in
    let arrays = total_words false array_words items in
    let own = behind_declarations outer (find (parameters (formals_of r.heading))) r.items in
    let names = sym (find_declarations outer (parameters (formals_of r.heading)) r.items) in
    let table = routine_table r in
    ap (λ (n : ℕ). room_of r (n + arrays) (over own outer) ∷ subroutines_rooms (over own outer) r.items) (sym (item_words_held false table items is))
    ∙ ap (λ (n : ℕ). room_of r (list_words false table + n) (over own outer) ∷ subroutines_rooms (over own outer) r.items) (sym (array_words_held false table items is))
    ∙ ap (λ (here : Names). room_of r (list_words false table + list_array_words false table) (over here outer) ∷ subroutines_rooms (over here outer) r.items) names
    ∙ ap (λ (xs : List Room). routine_room r ∷ xs) (all_subroutines (over (find table) outer) r.before r.items)

each_first : {A : Type 0} (P : A → Type 0) (xs ys : List A) → Each P (xs ++ ys) → Each P xs
each_first P [] ys all = tt
each_first P (x ∷ xs) ys all = (all.0, each_first P xs ys all.1)

each_second : {A : Type 0} (P : A → Type 0) (xs ys : List A) → Each P (xs ++ ys) → Each P ys
each_second P [] ys all = all
each_second P (x ∷ xs) ys all = each_second P xs ys all.1

one_routine : (t : Table Sort) (m : ℕ) (d : Declaration) → Each NewInRoutine (routine_in t m d)
    → global_rooms (find (with_declaration nothing_declared t d)) d ≡ joined routine_rooms (routine_in t m d)
one_routine t m (decl.Declaration.data_items own k items) new = refl
one_routine t m (decl.Declaration.equate es) new = refl
one_routine t m (decl.Declaration.intrinsic xs) new = refl
one_routine t m (decl.Declaration.label xs) new = refl
one_routine t m (decl.Declaration.forward h) new = refl
one_routine t m (decl.Declaration.external h) new = refl
one_routine t m (decl.Declaration.procedure h items ss) new =
    let r : Routine = record { heading = h; items = items; statements = ss; globals = with_declaration nothing_declared t (decl.Declaration.procedure h items ss); before = m } in
    routine_found r new.0 ∙ sym (nothing_behind (routine_rooms r))
one_routine t m (decl.Declaration.subroutine h s) new = refl

all_procedures : (t : Table Sort) (m : ℕ) (ds : Declarations) → Each NewInRoutine (routines_among t m ds)
    → globals_rooms (find t) ds ≡ joined routine_rooms (routines_among t m ds)
all_procedures t m decl.none new = refl
all_procedures t m (decl.and d ds) new =
    let here = with_declaration nothing_declared t d in
    let one = routine_in t m d in
    let rest = routines_among here (m + declaration_stops d) ds in
    ap (λ (h : Names). global_rooms h d ++ globals_rooms h ds) (sym (find_declaration nothing_declared t d))
    ∙ ap (λ (xs : List Room). xs ++ globals_rooms (find here) ds) (one_routine t m d (each_first NewInRoutine one rest new))
    ∙ ap (λ (xs : List Room). joined routine_rooms one ++ xs) (all_procedures here (m + declaration_stops d) ds (each_second NewInRoutine one rest new))
    ∙ sym (joined_both routine_rooms one rest)

-- ---- units

unit_found : (u : Source) → Each NewInRoutine (routines_of u) → unit_rooms u ≡ rooms_in u
unit_found u new =
    let ds = declarations u.tree.items in
    let own = behind_declarations nothing_declared nothing_declared ds in
    let names = sym (find_declarations nothing_declared [] ds) in
    let around = over_nothing own ∙ names in
    ap (λ (here : Names). main_rooms here u ++ globals_rooms nothing_declared ds ++ subroutines_rooms (over own nothing_declared) ds) names
    ∙ ap (λ (xs : List Room). main_rooms (find (unit_table u)) u ++ xs ++ subroutines_rooms (over own nothing_declared) ds) (all_procedures [] 0 ds new)
    ∙ ap (λ (here : Names). main_rooms (find (unit_table u)) u ++ joined routine_rooms (routines_of u) ++ subroutines_rooms here ds) around
    ∙ ap (λ (xs : List Room). main_rooms (find (unit_table u)) u ++ joined routine_rooms (routines_of u) ++ xs) (all_subroutines (find (unit_table u)) 0 ds)

pub units_found : (us : List Source) → Each NewInRoutine (all_routines us) → joined unit_rooms us ≡ rooms_of us
units_found [] new = refl
units_found (u ∷ us) new =
    ap (λ (xs : List Room). xs ++ joined unit_rooms us) (unit_found u (each_first NewInRoutine (routines_of u) (all_routines us) new))
    ∙ ap (λ (xs : List Room). rooms_in u ++ xs) (units_found us (each_second NewInRoutine (routines_of u) (all_routines us) new))

-- what a unit adds to rooms
pub unit_all : (u : Source) (own outer : Names) (a b c d : List Room) (ds : Declarations) → ds ≡ declarations u.tree.items
    → own ≡ behind_declarations nothing_declared nothing_declared ds → outer ≡ nothing_declared
    → b ≡ a ++ main_rooms own u → c ≡ b ++ globals_rooms nothing_declared ds → d ≡ c ++ subroutines_rooms (over own outer) ds → d ≡ a ++ unit_rooms u
unit_all u own outer a b c d ds is names none main globals subs =
    let all = behind_declarations nothing_declared nothing_declared ds in
    let ms = main_rooms all u in
    let gs = globals_rooms nothing_declared ds in
    let ss = subroutines_rooms (over all nothing_declared) ds in
    subs
    ∙ ap (λ (o : Names). c ++ subroutines_rooms (over own o) ds) none
    ∙ ap (λ (h : Names). c ++ subroutines_rooms (over h nothing_declared) ds) names
    ∙ ap (λ (xs : List Room). xs ++ ss) globals
    ∙ ap (λ (xs : List Room). xs ++ gs ++ ss) (main ∙ ap (λ (h : Names). a ++ main_rooms h u) names)
    ∙ ap (λ (xs : List Room). xs ++ ss) (append_same a ms gs) ∙ append_same a (ms ++ gs) ss
    ∙ ap (λ (es : Declarations). a ++ (main_rooms (behind_declarations nothing_declared nothing_declared es) u ++ globals_rooms nothing_declared es
    ++ subroutines_rooms (over (behind_declarations nothing_declared nothing_declared es) nothing_declared) es)) is
