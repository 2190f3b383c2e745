-- Along the declarations of a unit the code of each segment reaches that of its module, but for the main body.
use Rattle.std.proofs.Common.{◌≡◌, ℕ, suc, ◌+◌, Bool, true, false, if◌then◌else◌, nat_eq, List, [], ◌∷◌, ◌++◌, map, drop, length, Option, Some, refl, sym, ap, subst, ◌∙◌, append_assoc, arith}
use Rattle.std.specs.List.{slice_get}
use Rattle.std.proofs.lemmas.Bool.{eqb-true}
use Rattle.spl_sound_labels.specs.spl_tree.DeclarationTrees as decl
use Rattle.spl_sound_labels.specs.spl_tree.DeclarationTrees.{Heading, Declaration, Declarations}
use Rattle.spl_sound_labels.specs.spl_tree.StatementTrees as stat
use Rattle.spl_sound_labels.specs.spl_meaning.Stops.{declaration_stops}
use Rattle.spl_sound_labels.specs.spl_meaning.Names.{find, nothing_declared}
use Rattle.spl_sound_labels.specs.spl_meaning.Tables.{Routine, Subroutine, routines_among, routines_of, routine_table, routine_subroutines, subroutines_among, unit_subroutines, unit_table, with_declaration}
use Rattle.spl_sound_labels.specs.spl_meaning.Places.{list_array_words, sum}
use Rattle.spl_sound_labels.specs.spl_meaning.Limits.{joined}
use Rattle.spl_sound_labels.specs.spl_meaning.Bodies.{Body, Named, main_body}
use Rattle.spl_routine_code.specs.spl_rooms.declared.room_type.Room.{Room}
use Rattle.spl_routine_code.specs.spl_rooms.Rooms as r
use Rattle.spl_routine_code.specs.spl_rooms.Rooms.{room_within}
use Rattle.spl_routine_code.specs.spl_code.Parts.{Part, nothing}
use Rattle.spl_routine_code.specs.spl_scopes.Entries as callee
use Rattle.spl_routine_code.specs.spl_scopes.Entries.{Owner, main, routine, Entry, module_entries, in_segment, inner_entry, inner_entries, declared_entries}
use Rattle.spl_routine_code.specs.spl_scopes.Scopes.{Placed, outer_body, global_places, routine_bodies}
use Rattle.spl_unit_codes.specs.spl_modules.Entered.{Walk}
use Rattle.spl_unit_codes.specs.spl_modules.UnitModules.{IsUnitModules}
use Rattle.spl_routine_code.specs.spl_body_scopes.Walks.{State, Left, behind, globals_in}
use Rattle.spl_routine_code.proofs.spl_body_scopes_proofs.ScopeLaws.{made, body_next, body_left, first_at, main_there}
use Rattle.spl_unit_codes.specs.spl_module_code.Bodies.{routine_part, subroutine_part}
use Rattle.spl_unit_codes.specs.spl_module_code.Modules.{declared_part, routine_at, inner_at, inner_with}
use Rattle.spl_routine_code.specs.Generates.{GeneratesFrom}
use Rattle.spl_routine_code.specs.Routines.{inner_count, inners_among, room_at}
use Rattle.spl_routine_code.proofs.OpenMarks.{one_generated, none_generated}
use Rattle.spl_unit_codes.specs.declared.growing.Growing.{Growing}
use Rattle.spl_unit_laws.specs.Steps.{Grows, RoutineGrows, InnerGrows}
use Rattle.spl_unit_laws.proofs.InnerParts.{inner_made}
use Rattle.spl_unit_laws.proofs.Declared.{fixed_in, routine_declared, AllBehind, main_inner_seen}
use Rattle.spl_unit_laws.proofs.RoomWalks.{roomy, room_first, routine_first}
use Rattle.spl_unit_laws.proofs.Reaches.{in_both}

-- ---- entries of one segment

none_of : (b : Bool) → ◌≡◌ {A = ℕ} 0 (if b then 0 else 0)
none_of true = refl
none_of false = refl

-- an entry, where a test holds
abbrev if_there : Entry → Bool → List Entry
if_there e b = if b then e ∷ [] else []

inner_one : (seg g : ℕ) (o : Owner) (d : Declaration) (b : Bool) → nat_eq seg g ≡ b → length (in_segment g (inner_entry seg o d)) ≡ (if b then inner_count d else 0)
inner_one seg g o (decl.Declaration.subroutine h s) true is =
    ap (λ (c : Bool). length (if_there (record { name = h.name; segment = seg; callee = callee.subroutine o }) c)) is
inner_one seg g o (decl.Declaration.subroutine h s) false is =
    ap (λ (c : Bool). length (if_there (record { name = h.name; segment = seg; callee = callee.subroutine o }) c)) is
inner_one seg g o (decl.Declaration.data_items own k items) b is = none_of b
inner_one seg g o (decl.Declaration.equate es) b is = none_of b
inner_one seg g o (decl.Declaration.intrinsic xs) b is = none_of b
inner_one seg g o (decl.Declaration.label xs) b is = none_of b
inner_one seg g o (decl.Declaration.forward h) b is = none_of b
inner_one seg g o (decl.Declaration.external h) b is = none_of b
inner_one seg g o (decl.Declaration.procedure h items ss) b is = none_of b

inner_all : (seg g : ℕ) (o : Owner) (ds : Declarations) (b : Bool) → nat_eq seg g ≡ b → length (in_segment g (inner_entries seg o ds)) ≡ (if b then inners_among ds else 0)
inner_all seg g o decl.none b is = none_of b
inner_all seg g o (decl.and d ds) b is =
    in_both g (inner_entry seg o d) (inner_entries seg o ds)
    ∙ ap (λ n. n + length (in_segment g (inner_entries seg o ds))) (inner_one seg g o d b is)
    ∙ ap (λ n. (if b then inner_count d else 0) + n) (inner_all seg g o ds b is)
    ∙ sums b
  where
    sums : (c : Bool) → (if c then inner_count d else 0) + (if c then inners_among ds else 0) ≡ (if c then inner_count d + inners_among ds else 0)
    sums true = refl
    sums false = refl

one_more : (n : ℕ) → suc n ≡ 1 + n
one_more n = omega arith

-- of a procedure with its subroutines
routine_entries : (main_segment n g : ℕ) (h : Heading) (items : Declarations) (ss : List stat.Statement) (b : Bool) → nat_eq h.segment g ≡ b
    → (if b then 1 + inners_among items else 0) ≡ length (in_segment g (declared_entries main_segment n (decl.Declaration.procedure h items ss)))
routine_entries main_segment n g h items ss true is =
    sym (ap (λ (c : Bool). length (if c then e ∷ others else others)) is ∙ ap suc (inner_all h.segment g (routine n) items true is) ∙ one_more (inners_among items))
  where
    e : Entry
    e = record { name = h.name; segment = h.segment; callee = callee.procedure }

    others : List Entry
    others = in_segment g (inner_entries h.segment (routine n) items)
routine_entries main_segment n g h items ss false is =
    sym (ap (λ (c : Bool). length (if c then e ∷ others else others)) is ∙ inner_all h.segment g (routine n) items false is)
  where
    e : Entry
    e = record { name = h.name; segment = h.segment; callee = callee.procedure }

    others : List Entry
    others = in_segment g (inner_entries h.segment (routine n) items)

-- ---- the code of one segment behind a declaration

-- it has grown by what its module has of the declaration
pub record Grown (p : Placed) (g n j : ℕ) (d : Declaration) (x : Growing) (new : List Growing) : Type 0 where
  pub now : Growing
  pub there : slice_get new g ≡ Some now
  pub count : ℕ
  pub made_it : GeneratesFrom x.done count (declared_part p g n j x.done d) x.code now.code
  pub done : now.done ≡ x.done + count
  pub entries : count ≡ length (in_segment g (declared_entries p.unit.tree.segment n d))

-- a declaration that has no code there
pub unchanged : (p : Placed) (g n j : ℕ) (d : Declaration) (x : Growing) (old new : List Growing) → slice_get old g ≡ Some x → slice_get new g ≡ slice_get old g
    → declared_part p g n j x.done d ≡ nothing → 0 ≡ length (in_segment g (declared_entries p.unit.tree.segment n d)) → Grown p g n j d x new
unchanged p g n j d x old new at same part none = record {
  now = x;
  there = same ∙ at;
  count = 0;
  made_it = subst (λ (q : Part). GeneratesFrom x.done 0 q x.code x.code) (sym part) (none_generated x.done x.code);
  done = omega arith;
  entries = none;
}

-- the words of the OWN arrays of procedures
abbrev pub routines_arrays : List Routine → ℕ
routines_arrays rs = sum (λ r. list_array_words true (routine_table r)) rs

-- where the declarations of a unit have come to
pub record Along (p : Placed) (s : State) (j room inner : ℕ) (ds : Declarations) (rooms rest : List Room) : Type 0 where
  pub left : Left p s ds
  pub tail : List Room
  pub routine_rooms : drop room rooms ≡ joined r.routine_rooms (routines_among left.table left.before ds) ++ tail
  pub inner_rooms : drop inner rooms ≡ map (room_within (find (unit_table p.unit))) (subroutines_among left.before ds) ++ rest
  pub inners : drop j (unit_subroutines p.unit) ≡ subroutines_among left.before ds
  pub arrays : left.own_arrays + routines_arrays (routines_among left.table left.before ds) ≡ p.at.own_arrays + routines_arrays (routines_of p.unit)

pub routine_grown : (p : Placed) (w : Walk) (rooms rest : List Room) (s : State) (j room inner : ℕ) (h : Heading) (items : Declarations) (ss : List stat.Statement)
    (ds : Declarations) (old new : List Growing) (g : ℕ) (x : Growing) → IsUnitModules p.unit w
    → (a : Along p s j room inner (decl.and (decl.Declaration.procedure h items ss) ds) rooms rest)
    → Grows h.segment (RoutineGrows (fixed_in p w rooms) (globals_in p (behind s (decl.Declaration.procedure h items ss)).names)
    (record { routines = s.count; own = s.own; own_arrays = a.left.own_arrays; room = room; inner_room = inner }) h items ss) old new
    → slice_get old g ≡ Some x → Grown p g s.count j (decl.Declaration.procedure h items ss) x new
routine_grown p w rooms rest s j room inner h items ss ds old new g x are a grows at = by (nat_eq h.segment g) refl
  where
    d : Declaration
    d = decl.Declaration.procedure h items ss

    es : List Entry
    es = module_entries p.unit g

    by : (b : Bool) → nat_eq h.segment g ≡ b → Grown p g s.count j d x new
    by false is =
        unchanged p g s.count j d x old new at (grows.others g is)
        (ap (λ (c : Bool). if c then routine_at es s.count x.done (slice_get (routine_bodies p) s.count) else nothing) is)
        (routine_entries p.unit.tree.segment s.count g h items ss false is)
    by true is =
        let same : h.segment ≡ g = eqb-true h.segment g is in
        let one = grows.there x (ap (λ k. slice_get old k) same ∙ at) in
        let q : Routine = made a.left.table a.left.before h items ss in
        let b : Body = body_left p s a.left.table a.left.before a.left.own_arrays h items ss in
        let named : Named = record { name = h.name; body = b } in
        let rest_rooms = joined r.routine_rooms (routines_among (with_declaration nothing_declared a.left.table d) (a.left.before + declaration_stops d) ds) ++ a.tail in
        let firsts = routine_first rooms room q rest_rooms (a.routine_rooms ∙ append_assoc (r.routine_rooms q) _ a.tail) in
        let whole =
        routine_declared p w rooms s h items ss ds room x.done x.code one.0.code are a.left firsts.0
        (roomy rooms b (suc room) (routine_subroutines q) rest_rooms firsts.1) one.2.code in
        record {
          now = one.0;
          there = ap (λ k. slice_get new k) (sym same) ∙ one.1;
          count = 1 + inners_among items;
          made_it =
              subst (λ (c : Bool). GeneratesFrom x.done (1 + inners_among items) (if c then routine_at es s.count x.done (slice_get (routine_bodies p) s.count) else nothing) x.code one.0.code) (sym is)
              (subst (λ (o : Option Named). GeneratesFrom x.done (1 + inners_among items) (routine_at es s.count x.done o) x.code one.0.code)
              (sym (body_next p s h items ss ds a.left))
              (subst (λ k. GeneratesFrom x.done (1 + inners_among items) (routine_part (module_entries p.unit k) s.count x.done named) x.code one.0.code) same whole));
          done = one.2.done;
          entries = routine_entries p.unit.tree.segment s.count g h items ss true is;
        }

pub inner_grown : (p : Placed) (w : Walk) (rooms rest : List Room) (last s : State) (j room inner : ℕ) (h : Heading) (st : stat.Statement)
    (ds : Declarations) (old new : List Growing) (g : ℕ) (x : Growing) → IsUnitModules p.unit w → AllBehind p last → p.unit.subprogram ≡ false
    → (a : Along p s j room inner (decl.and (decl.Declaration.subroutine h st) ds) rooms rest)
    → Grows p.unit.tree.segment (InnerGrows (fixed_in p w rooms) (record { routines = s.count; own = s.own; own_arrays = a.left.own_arrays; room = room; inner_room = inner }) h st) old new
    → slice_get old g ≡ Some x → Grown p g s.count j (decl.Declaration.subroutine h st) x new
inner_grown p w rooms rest last s j room inner h st ds old new g x are all out a grows at = by (nat_eq p.unit.tree.segment g) refl
  where
    d : Declaration
    d = decl.Declaration.subroutine h st

    es : List Entry
    es = module_entries p.unit g

    by : (b : Bool) → nat_eq p.unit.tree.segment g ≡ b → Grown p g s.count j d x new
    by false is =
        unchanged p g s.count j d x old new at (grows.others g is) (ap (λ (c : Bool). if c then inner_at es j x.done (outer_body p main) else nothing) is)
        (sym (inner_one p.unit.tree.segment g main d false is))
    by true is =
        let seg : ℕ = p.unit.tree.segment in
        let same : seg ≡ g = eqb-true seg g is in
        let one = grows.there x (ap (λ k. slice_get old k) same ∙ at) in
        let sub : Subroutine = record { heading = h; statement = st; before = a.left.before } in
        let b : Body = main_body (global_places p) p.unit in
        let others = subroutines_among (a.left.before + declaration_stops d) ds in
        let there : slice_get (unit_subroutines p.unit) j ≡ Some sub = first_at j (unit_subroutines p.unit) sub others a.inners in
        let need : (room_at rooms inner).depth ≡ (r.room_within (find (unit_table p.unit)) sub).depth =
        ap (λ (q : Room). q.depth) (room_first rooms inner (room_within (find (unit_table p.unit)) sub)
        (map (room_within (find (unit_table p.unit))) others ++ rest) a.inner_rooms) in
        let whole =
        one_generated x.done (subroutine_part (module_entries p.unit seg) main b x.done sub) x.code one.0.code
        (inner_made (module_entries p.unit seg) main b _ sub (room_at rooms inner).depth x.done x.code one.0.code one.2.code
        (main_inner_seen p w rooms last j sub are all out there) need) in
        record {
          now = one.0;
          there = ap (λ k. slice_get new k) (sym same) ∙ one.1;
          count = 1;
          made_it =
              subst (λ (c : Bool). GeneratesFrom x.done 1 (if c then inner_at es j x.done (outer_body p main) else nothing) x.code one.0.code) (sym is)
              (subst (λ (o : Option Body). GeneratesFrom x.done 1 (inner_at es j x.done o) x.code one.0.code) (sym (main_there p out))
              (subst (λ (o : Option Subroutine). GeneratesFrom x.done 1 (inner_with es b x.done o) x.code one.0.code) (sym there)
              (subst (λ k. GeneratesFrom x.done 1 (subroutine_part (module_entries p.unit k) main b x.done sub) x.code one.0.code) same whole)));
          done = one.2.done;
          entries = sym (inner_one seg g main d true is);
        }
