-- The rooms of a program along its units and declarations: those of the procedures that are left come first, and those of the main body's
-- subroutines that are left at a place of their own.
use Rattle.std.proofs.Common.{◌≡◌, ℕ, suc, ◌+◌, Bool, true, false, List, [], ◌∷◌, ◌++◌, map, drop, length, Option, refl, sym, ap, ◌∙◌, append_assoc, add-one, arith}
use Rattle.std.specs.Prelude.{if◌then◌else◌, unwrap_or}
use Rattle.std.proofs.lemmas.List.{length-append, length-map}
use Rattle.spl_sound_labels.specs.spl_tree.DeclarationTrees as decl
use Rattle.spl_sound_labels.specs.spl_tree.DeclarationTrees.{Declaration, Declarations, declarations}
use Rattle.spl_sound_labels.specs.spl_meaning.Stops.{declaration_stops}
use Rattle.spl_sound_labels.specs.spl_meaning.Names.{Sort, Table, find, nothing_declared}
use Rattle.spl_sound_labels.specs.spl_meaning.Tables.{Source, Routine, Subroutine, routine_in, routines_among, routines_of, routine_names, routine_subroutines, subroutine_in, subroutines_among, unit_subroutines, unit_table, with_declaration}
use Rattle.spl_sound_labels.specs.spl_meaning.Limits.{joined}
use Rattle.spl_sound_labels.specs.spl_meaning.Bodies.{Body}
use Rattle.spl_routine_code.specs.spl_rooms.declared.room_type.Room.{Room}
use Rattle.spl_routine_code.specs.spl_rooms.Rooms.{room_within, routine_room, main_room, rooms_in}
use Rattle.spl_routine_code.specs.spl_rooms.Rooms as r
use Rattle.spl_routine_code.proofs.spl_body_scopes_proofs.ScopeLaws.{drop_more, first_at}
use Rattle.spl_routine_code.specs.Routines.{inner_count, inners_among, room_at}
use Rattle.spl_unit_laws.specs.Units.{routine_rooms, rooms_among, main_rooms}
use Rattle.spl_unit_laws.proofs.InnerParts.{AllRoomy}

-- ---- lists

-- behind the first part of what is left
pub drop_part : {A : Type 0} (k : ℕ) (all xs ys : List A) → drop k all ≡ xs ++ ys → drop (k + length xs) all ≡ ys
drop_part k all [] ys is = ap (λ n. drop n all) (omega arith) ∙ is
drop_part k all (x ∷ xs) ys is =
    ap (λ n. drop n all) (one_more k (length xs)) ∙ drop_part (suc k) all xs ys (drop_more k all x (xs ++ ys) is)
  where
    one_more : (k n : ℕ) → k + suc n ≡ suc k + n
    one_more k n = omega arith

-- the room that is first of those left
pub room_first : (rooms : List Room) (k : ℕ) (x : Room) (xs : List Room) → drop k rooms ≡ x ∷ xs → room_at rooms k ≡ x
room_first rooms k x xs is = ap (λ (o : Option Room). unwrap_or o (room_at [] 0)) (first_at k rooms x xs is)

-- ---- subroutines

-- the rooms of subroutines that are first of those left are what their bodies need
pub roomy : (rooms : List Room) (b : Body) (k : ℕ) (subs : List Subroutine) (rest : List Room) → drop k rooms ≡ map (room_within b.here.names) subs ++ rest
    → AllRoomy rooms b k subs
roomy rooms b k [] rest is = tt
roomy rooms b k (sub ∷ subs) rest is =
    let tail = map (room_within b.here.names) subs ++ rest in (
      ap (λ (x : Room). x.depth) (room_first rooms k (room_within b.here.names sub) tail is),
      roomy rooms b (suc k) subs rest (drop_more k rooms (room_within b.here.names sub) tail is),
    )

-- how many subroutines a list has
one_inner : (n : ℕ) (d : Declaration) → length (subroutine_in n d) ≡ inner_count d
one_inner n (decl.Declaration.data_items own k items) = refl
one_inner n (decl.Declaration.equate es) = refl
one_inner n (decl.Declaration.intrinsic xs) = refl
one_inner n (decl.Declaration.label xs) = refl
one_inner n (decl.Declaration.forward h) = refl
one_inner n (decl.Declaration.external h) = refl
one_inner n (decl.Declaration.procedure h items ss) = refl
one_inner n (decl.Declaration.subroutine h s) = refl

pub inners_are : (n : ℕ) (ds : Declarations) → length (subroutines_among n ds) ≡ inners_among ds
inners_are n decl.none = refl
inners_are n (decl.and d ds) =
    length-append (subroutine_in n d) (subroutines_among (n + declaration_stops d) ds)
    ∙ ap (λ m. m + length (subroutines_among (n + declaration_stops d) ds)) (one_inner n d)
    ∙ ap (λ m. inner_count d + m) (inners_are (n + declaration_stops d) ds)

-- ---- procedures

one_longer : (x : Room) (xs : List Room) (n : ℕ) → length xs ≡ n → length (x ∷ xs) ≡ 1 + n
one_longer x xs n is = omega (arith, is)

-- how many rooms the procedures of a list have
rooms_of_routine : (q : Routine) → length (r.routine_rooms q) ≡ 1 + inners_among q.items
rooms_of_routine q =
    one_longer (routine_room q) (map (room_within (routine_names q)) (routine_subroutines q)) (inners_among q.items)
    (length-map (routine_subroutines q) (room_within (routine_names q)) ∙ inners_are q.before q.items)

rooms_of_one : (t : Table Sort) (n : ℕ) (d : Declaration) → length (joined r.routine_rooms (routine_in t n d)) ≡ routine_rooms d
rooms_of_one t n (decl.Declaration.data_items own k items) = refl
rooms_of_one t n (decl.Declaration.equate es) = refl
rooms_of_one t n (decl.Declaration.intrinsic xs) = refl
rooms_of_one t n (decl.Declaration.label xs) = refl
rooms_of_one t n (decl.Declaration.forward h) = refl
rooms_of_one t n (decl.Declaration.external h) = refl
rooms_of_one t n (decl.Declaration.subroutine h s) = refl
rooms_of_one t n (decl.Declaration.procedure h items ss) =
    let q : Routine = record { heading = h; items = items; statements = ss; globals = with_declaration nothing_declared t (decl.Declaration.procedure h items ss); before = n } in
    length-append (r.routine_rooms q) [] ∙ ap (λ m. m + 0) (rooms_of_routine q) ∙ omega arith

joined_both : (f : Routine → List Room) (xs ys : List Routine) → joined f (xs ++ ys) ≡ joined f xs ++ joined f ys
joined_both f [] ys = refl
joined_both f (x ∷ xs) ys = ap (λ zs. f x ++ zs) (joined_both f xs ys) ∙ sym (append_assoc (f x) (joined f xs) (joined f ys))

pub rooms_are : (t : Table Sort) (n : ℕ) (ds : Declarations) → length (joined r.routine_rooms (routines_among t n ds)) ≡ rooms_among ds
rooms_are t n decl.none = refl
rooms_are t n (decl.and d ds) =
    let rest = routines_among (with_declaration nothing_declared t d) (n + declaration_stops d) ds in
    ap length (joined_both r.routine_rooms (routine_in t n d) rest)
    ∙ length-append (joined r.routine_rooms (routine_in t n d)) (joined r.routine_rooms rest)
    ∙ ap (λ m. m + length (joined r.routine_rooms rest)) (rooms_of_one t n d)
    ∙ ap (λ m. routine_rooms d + m) (rooms_are (with_declaration nothing_declared t d) (n + declaration_stops d) ds)

-- a procedure whose rooms are the first of those left
pub routine_first : (rooms : List Room) (k : ℕ) (q : Routine) (rest : List Room) → drop k rooms ≡ r.routine_rooms q ++ rest
    → (room_at rooms k ≡ routine_room q) × (drop (suc k) rooms ≡ map (room_within (routine_names q)) (routine_subroutines q) ++ rest)
    × (drop (k + (1 + inners_among q.items)) rooms ≡ rest)
routine_first rooms k q rest is =
    let tail = map (room_within (routine_names q)) (routine_subroutines q) ++ rest in (
      room_first rooms k (routine_room q) tail is,
      drop_more k rooms (routine_room q) tail is,
      ap (λ n. drop (k + n) rooms) (sym (rooms_of_routine q)) ∙ drop_part k rooms (r.routine_rooms q) rest is,
    )

-- ---- units

-- the rooms that a unit has, and those behind it
pub record UnitRooms (rooms : List Room) (u : Source) (at : ℕ) (rest : List Room) : Type 0 where
  pub main : u.subprogram ≡ false → room_at rooms at ≡ main_room u
  pub routines : drop (at + main_rooms u.subprogram) rooms
      ≡ joined r.routine_rooms (routines_of u) ++ (map (room_within (find (unit_table u))) (unit_subroutines u) ++ rest)
  pub inners : drop ((at + main_rooms u.subprogram) + rooms_among (declarations u.tree.items)) rooms ≡ map (room_within (find (unit_table u))) (unit_subroutines u) ++ rest

pub unit_rooms : (rooms : List Room) (u : Source) (at : ℕ) (rest : List Room) → drop at rooms ≡ rooms_in u ++ rest → UnitRooms rooms u at rest
unit_rooms rooms u at rest is =
    let inner = map (room_within (find (unit_table u))) (unit_subroutines u) in
    let outer = joined r.routine_rooms (routines_of u) in
    let split : (b : Bool) → drop at rooms ≡ ((if b then [] else main_room u ∷ []) ++ outer ++ inner) ++ rest → drop (at + main_rooms b) rooms ≡ outer ++ (inner ++ rest) =
    λ b e. by b (inner ++ rest) (e ∙ regroup b inner outer) in
    let behind = split u.subprogram is in
    record {
      main = λ out. first u.subprogram out (outer ++ (inner ++ rest)) (is ∙ regroup u.subprogram inner outer);
      routines = behind;
      inners = ap (λ n. drop ((at + main_rooms u.subprogram) + n) rooms) (sym (rooms_are [] 0 (declarations u.tree.items))) ∙ drop_part (at + main_rooms u.subprogram) rooms outer (inner ++ rest) behind;
    }
  where
    regroup : (b : Bool) (inner outer : List Room)
        → ((if b then [] else main_room u ∷ []) ++ outer ++ inner) ++ rest ≡ (if b then [] else main_room u ∷ []) ++ (outer ++ (inner ++ rest))
    regroup b inner outer =
        append_assoc ((if b then [] else main_room u ∷ []) ++ outer) inner rest
        ∙ append_assoc (if b then [] else main_room u ∷ []) outer (inner ++ rest)

    none_more : (n : ℕ) → n + 0 ≡ n
    none_more n = omega arith

    by : (b : Bool) (xs : List Room) → drop at rooms ≡ (if b then [] else main_room u ∷ []) ++ (joined r.routine_rooms (routines_of u) ++ xs)
        → drop (at + main_rooms b) rooms ≡ joined r.routine_rooms (routines_of u) ++ xs
    by true xs e = ap (λ n. drop n rooms) (none_more at) ∙ e
    by false xs e = ap (λ n. drop n rooms) (add-one at) ∙ drop_more at rooms (main_room u) (joined r.routine_rooms (routines_of u) ++ xs) e

    first : (b : Bool) → b ≡ false → (xs : List Room) → drop at rooms ≡ (if b then [] else main_room u ∷ []) ++ xs → room_at rooms at ≡ main_room u
    first false out xs e = room_first rooms at (main_room u) xs e
    first true out xs e = cc
