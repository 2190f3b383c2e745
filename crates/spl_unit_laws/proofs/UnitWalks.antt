-- All declarations of a unit: the code of each segment reaches that of its module, but for the main body.
use Rattle.std.proofs.Common.{◌≡◌, ◌<◌, ℕ, zero, suc, ◌+◌, Bool, true, false, List, [], ◌∷◌, ◌++◌, map, drop, length, get_or, Some, refl, sym, ap, subst, ◌∙◌, append_assoc, add-zero, add_assoc, add-one, arith}
use Rattle.std.specs.List.{slice_get}
use Rattle.std.specs.Prelude.{unwrap_or}
use Rattle.std.proofs.lemmas.Option.{slice_get_within, slice_get-get_or}
use Rattle.spl_sound_labels.specs.spl_tree.DeclarationTrees as decl
use Rattle.spl_sound_labels.specs.spl_tree.DeclarationTrees.{Declaration, Declarations, declarations}
use Rattle.spl_sound_labels.specs.spl_meaning.Stops.{declaration_stops}
use Rattle.spl_sound_labels.specs.spl_meaning.Names.{Names, find, nothing_declared}
use Rattle.spl_sound_labels.specs.spl_meaning.Tables.{Routine, Subroutine, routines_among, routines_of, routine_table, subroutines_among, unit_subroutines, unit_table, with_declaration}
use Rattle.spl_sound_labels.specs.spl_meaning.Places.{array_words, list_array_words}
use Rattle.spl_sound_labels.specs.spl_meaning.Limits.{joined}
use Rattle.spl_routine_code.specs.spl_found.OwnNames.{behind_declarations}
use Rattle.spl_sound_labels.specs.spl_places.Counters.{total_words}
use Rattle.spl_sound_labels.specs.spl_places.Programs.{routine_items}
use Rattle.spl_sound_labels.proofs.spl_places_proofs.ProgramLaws.{routine_held, array_words_held}
use Rattle.spl_routine_code.specs.spl_places.Gathered.{items_under}
use Rattle.spl_routine_code.specs.spl_rooms.declared.room_type.Room.{Room}
use Rattle.spl_routine_code.specs.spl_rooms.Rooms as r
use Rattle.spl_routine_code.specs.spl_rooms.Rooms.{room_within}
use Rattle.spl_routine_code.specs.spl_code.Parts.{nothing}
use Rattle.spl_routine_code.specs.spl_scopes.Entries.{in_segment, declared_entries, routines_behind}
use Rattle.spl_routine_code.specs.spl_scopes.Scopes.{Placed}
use Rattle.spl_unit_codes.specs.spl_modules.Entered.{Walk}
use Rattle.spl_unit_codes.specs.spl_modules.UnitModules.{IsUnitModules}
use Rattle.spl_routine_code.specs.spl_body_scopes.Walks.{State, Left, behind, globals_in}
use Rattle.spl_routine_code.proofs.spl_body_scopes_proofs.ScopeLaws.{goes_on, made, body_names, drop_more}
use Rattle.spl_unit_laws.proofs.LeftSteps.{left_plain, left_routine}
use Rattle.spl_unit_codes.specs.spl_module_code.Modules.{declared_part, inner_behind}
use Rattle.spl_routine_code.specs.Routines.{inners_among}
use Rattle.spl_unit_codes.specs.declared.growing.Growing.{Growing}
use Rattle.spl_unit_laws.specs.declared.cursors.Cursor.{Cursor}
use Rattle.spl_unit_laws.specs.Known.{Known}
use Rattle.spl_unit_laws.specs.Steps.{Step, Steps, PartsStep}
use Rattle.spl_unit_laws.specs.Steps.{Steps as t}
use Rattle.spl_unit_laws.proofs.Declared.{fixed_in, AllBehind}
use Rattle.spl_unit_laws.proofs.RoomWalks.{routine_first}
use Rattle.spl_unit_laws.proofs.Reaches.{Reaches, reaches_next}
use Rattle.spl_unit_laws.proofs.UnitSteps.{Grown, unchanged, routines_arrays, Along, routine_grown, inner_grown}

-- ---- states

-- behind declarations
abbrev pub behind_all : State → Declarations → State
behind_all s decl.none = s
behind_all s (decl.and d ds) = behind_all (behind s d) ds

all_behind : (p : Placed) (s : State) (ds : Declarations) → Left p s ds → Left p (behind_all s ds) decl.none
all_behind p s decl.none left = left
all_behind p s (decl.and d ds) left = all_behind p (behind s d) ds (goes_on p s d ds left)

names_behind_all : (s : State) (ds : Declarations) → (behind_all s ds).names ≡ behind_declarations nothing_declared s.names ds
names_behind_all s decl.none = refl
names_behind_all s (decl.and d ds) = names_behind_all (behind s d) ds

pub last_state : (p : Placed) (s : State) → s.names ≡ nothing_declared → Left p s (declarations p.unit.tree.items) → AllBehind p (behind_all s (declarations p.unit.tree.items))
last_state p s first left = record {
  left = all_behind p s (declarations p.unit.tree.items) left;
  names = names_behind_all s (declarations p.unit.tree.items) ∙ ap (λ (n : Names). behind_declarations nothing_declared n (declarations p.unit.tree.items)) first;
}

-- what is known in a state
abbrev pub known_at : Placed → State → ℕ → ℕ → ℕ → List Growing → Known
known_at p s arrays room inner parts = record {
  level = globals_in p s.names;
  at = record { routines = s.count; own = s.own; own_arrays = arrays; room = room; inner_room = inner };
  parts = parts;
}

-- ---- all segments

abbrev pub AllReach : Placed → ℕ → ℕ → Declarations → List Growing → Type 0
AllReach p n j ds parts = (g : ℕ) (x : Growing) → slice_get parts g ≡ Some x → Reaches p g n j ds x

-- each has grown by a declaration
pub record AllGrown (p : Placed) (n j : ℕ) (d : Declaration) (old new : List Growing) : Type 0 where
  pub number : length new ≡ length old
  pub each : (g : ℕ) (x : Growing) → slice_get old g ≡ Some x → Grown p g n j d x new

pub some_inside : {A : Type 0} (x y : A) → Some x ≡ Some y → x ≡ y
some_inside x y is = ap (λ o. unwrap_or o x) is

all_next : (p : Placed) (n j : ℕ) (d : Declaration) (ds : Declarations) (old new : List Growing) → AllGrown p n j d old new → AllReach p n j (decl.and d ds) old
    → AllReach p (routines_behind n d) (inner_behind j d) ds new
all_next p n j d ds old new grown reach g y at =
    let lt : g < length old = (let a = slice_get_within new g y at in let b = grown.number in omega (arith, a, b)) in
    let x : Growing = get_or old g y in
    let there : slice_get old g ≡ Some x = slice_get-get_or old g y lt in
    let one = grown.each g x there in
    subst (λ (z : Growing). Reaches p g (routines_behind n d) (inner_behind j d) ds z) (some_inside one.now y (sym one.there ∙ at))
    (reaches_next p g n j one.count d ds x one.now (reach g x there) one.made_it one.done one.entries)

-- ---- one declaration

-- what is known behind it
pub record Next (p : Placed) (s : State) (j : ℕ) (d : Declaration) (ds : Declarations) (rooms rest : List Room) (old : List Growing) (l : Known) : Type 0 where
  pub room : ℕ
  pub inner : ℕ
  pub along : Along p (behind s d) (inner_behind j d) room inner ds rooms rest
  pub known : l ≡ known_at p (behind s d) along.left.own_arrays room inner l.parts
  pub grown : AllGrown p s.count j d old l.parts

known_so : (l : Known) (p : Placed) (s : State) (arrays room inner : ℕ) → l.level ≡ globals_in p s.names
    → l.at ≡ record { routines = s.count; own = s.own; own_arrays = arrays; room = room; inner_room = inner } → l ≡ known_at p s arrays room inner l.parts
known_so l p s arrays room inner level at i = record { level = level i; at = at i; parts = l.parts }

cursor_same : (a b c d e f k m : ℕ) → a ≡ b → c ≡ d → e ≡ f
    → ◌≡◌ {A = Cursor} (record { routines = a; own = c; own_arrays = e; room = k; inner_room = m })
    (record { routines = b; own = d; own_arrays = f; room = k; inner_room = m })
cursor_same a b c d e f k m one two three i = record { routines = one i; own = two i; own_arrays = three i; room = k; inner_room = m }

-- one that is no body
plain : (p : Placed) (s : State) (j room inner : ℕ) (d : Declaration) (ds : Declarations) (rooms rest : List Room) (old : List Growing) (l : Known)
    → (a : Along p s j room inner (decl.and d ds) rooms rest) (left : Left p (behind s d) ds)
    → routines_among a.left.table a.left.before (decl.and d ds) ≡ routines_among left.table left.before ds
    → subroutines_among a.left.before (decl.and d ds) ≡ subroutines_among left.before ds
    → inner_behind j d ≡ j → (behind s d).count ≡ s.count → (behind s d).own ≡ s.own + 0 → left.own_arrays ≡ a.left.own_arrays
    → ((g entry : ℕ) → declared_part p g s.count j entry d ≡ nothing) → ((g : ℕ) → 0 ≡ length (in_segment g (declared_entries p.unit.tree.segment s.count d)))
    → l.level ≡ globals_in p (behind s d).names → l.at ≡ record { routines = s.count; own = s.own; own_arrays = a.left.own_arrays; room = room; inner_room = inner } → l.parts ≡ old
    → Next p s j d ds rooms rest old l
plain p s j room inner d ds rooms rest old l a left routines inners same count own arrays part none level at parts = record {
  room = room;
  inner = inner;
  known = known_so l p (behind s d) left.own_arrays room inner level
      (at ∙ cursor_same s.count (behind s d).count s.own (behind s d).own a.left.own_arrays left.own_arrays room inner (sym count) (sym (add-zero s.own) ∙ sym own) (sym arrays));
  along = record {
    left = left;
    tail = a.tail;
    routine_rooms = a.routine_rooms ∙ ap (λ (rs : List Routine). joined r.routine_rooms rs ++ a.tail) routines;
    inner_rooms = a.inner_rooms ∙ ap (λ (ss : List Subroutine). map (room_within (find (unit_table p.unit))) ss ++ rest) inners;
    inners = ap (λ k. drop k (unit_subroutines p.unit)) same ∙ a.inners ∙ inners;
    arrays = ap (λ k. k + routines_arrays (routines_among left.table left.before ds)) arrays ∙ ap (λ rs. a.left.own_arrays + routines_arrays rs) (sym routines) ∙ a.arrays;
  };
  grown = record {
    number = ap length parts;
    each = λ g x is. unchanged p g s.count j d x old l.parts is (ap (λ xs. slice_get xs g) parts) (part g x.done) (none g);
  };
}

-- a subprogram has no subroutines
abbrev pub NoInners : Placed → Type 0
NoInners p = p.unit.subprogram ≡ true → unit_subroutines p.unit ≡ []

no_subprogram : (p : Placed) (j : ℕ) (sub : Subroutine) (others : List Subroutine) → NoInners p → drop j (unit_subroutines p.unit) ≡ sub ∷ others → p.unit.subprogram ≡ false
no_subprogram p j sub others out is = by p.unit.subprogram refl
  where
    nothing_listed : List Subroutine
    nothing_listed = []

    none_left : (k : ℕ) → drop k nothing_listed ≡ []
    none_left zero = refl
    none_left (suc k) = refl

    clash : {A : Type 0} → [] ≡ sub ∷ others → A
    clash {A} e = cc

    by : (b : Bool) → p.unit.subprogram ≡ b → p.unit.subprogram ≡ false
    by false e = e
    by true e = clash (sym (none_left j) ∙ ap (λ xs. drop j xs) (sym (out e)) ∙ is)

pub step_next : (p : Placed) (w : Walk) (rooms rest : List Room) (last s : State) (j room inner : ℕ) (d : Declaration) (ds : Declarations) (old : List Growing) (l : Known)
    → IsUnitModules p.unit w → AllBehind p last → NoInners p → (a : Along p s j room inner (decl.and d ds) rooms rest)
    → Step (fixed_in p w rooms) d (known_at p s a.left.own_arrays room inner old) l → Next p s j d ds rooms rest old l
step_next p w rooms rest last s j room inner (decl.Declaration.data_items own k items) ds old l are all out a step =
    plain p s j room inner (decl.Declaration.data_items own k items) ds rooms rest old l a (left_plain p s (decl.Declaration.data_items own k items) ds a.left refl refl refl)
    refl refl refl refl refl refl (λ g e. refl) (λ g. refl) step.level step.parts.0 step.parts.1
step_next p w rooms rest last s j room inner (decl.Declaration.equate es) ds old l are all out a step =
    plain p s j room inner (decl.Declaration.equate es) ds rooms rest old l a (left_plain p s (decl.Declaration.equate es) ds a.left refl refl refl)
    refl refl refl refl refl refl (λ g e. refl) (λ g. refl) step.level step.parts.0 step.parts.1
step_next p w rooms rest last s j room inner (decl.Declaration.intrinsic xs) ds old l are all out a step =
    plain p s j room inner (decl.Declaration.intrinsic xs) ds rooms rest old l a (left_plain p s (decl.Declaration.intrinsic xs) ds a.left refl refl refl)
    refl refl refl refl refl refl (λ g e. refl) (λ g. refl) step.level step.parts.0 step.parts.1
step_next p w rooms rest last s j room inner (decl.Declaration.label xs) ds old l are all out a step =
    plain p s j room inner (decl.Declaration.label xs) ds rooms rest old l a (left_plain p s (decl.Declaration.label xs) ds a.left refl refl refl)
    refl refl refl refl refl refl (λ g e. refl) (λ g. refl) step.level step.parts.0 step.parts.1
step_next p w rooms rest last s j room inner (decl.Declaration.forward h) ds old l are all out a step =
    plain p s j room inner (decl.Declaration.forward h) ds rooms rest old l a (left_plain p s (decl.Declaration.forward h) ds a.left refl refl refl)
    refl refl refl refl refl refl (λ g e. refl) (λ g. refl) step.level step.parts.0 step.parts.1
step_next p w rooms rest last s j room inner (decl.Declaration.external h) ds old l are all out a step =
    plain p s j room inner (decl.Declaration.external h) ds rooms rest old l a (left_plain p s (decl.Declaration.external h) ds a.left refl refl refl)
    refl refl refl refl refl refl (λ g e. refl) (λ g. refl) step.level step.parts.0 step.parts.1
step_next p w rooms rest last s j room inner (decl.Declaration.procedure h items ss) ds old l are all out a step =
    let d = decl.Declaration.procedure h items ss in
    let q : Routine = made a.left.table a.left.before h items ss in
    let rest_rooms = joined r.routine_rooms (routines_among (with_declaration nothing_declared a.left.table d) (a.left.before + declaration_stops d) ds) ++ a.tail in
    let firsts = routine_first rooms room q rest_rooms (a.routine_rooms ∙ append_assoc (r.routine_rooms q) _ a.tail) in
    let arrays : a.left.own_arrays + total_words true array_words (items_under (behind s d).names h items) ≡ a.left.own_arrays + list_array_words true (routine_table q) =
    ap (λ (n : Names). a.left.own_arrays + total_words true array_words (items_under n h items)) (body_names p s (behind s d).names h items ss ds a.left refl)
    ∙ ap (λ k. a.left.own_arrays + k) (sym (array_words_held true (routine_table q) (routine_items q) (routine_held q a.left.new.0))) in
    let parts : PartsStep (fixed_in p w rooms) (globals_in p (behind s d).names) d (known_at p s a.left.own_arrays room inner old).at old l.at l.parts =
    subst (λ outer. PartsStep (fixed_in p w rooms) outer d (known_at p s a.left.own_arrays room inner old).at old l.at l.parts) step.level step.parts in
    record {
      room = room + (1 + inners_among items);
      inner = inner;
      known = known_so l p (behind s d) (left_routine p s h items ss ds a.left).own_arrays (room + (1 + inners_among items)) inner step.level
          (parts.0 ∙ cursor_same (s.count + 1) (suc s.count) (behind s d).own (behind s d).own
          (a.left.own_arrays + total_words true array_words (items_under (behind s d).names h items)) (left_routine p s h items ss ds a.left).own_arrays
          (room + (1 + inners_among items)) inner (add-one s.count) refl arrays);
      along = record {
        left = left_routine p s h items ss ds a.left;
        tail = a.tail;
        routine_rooms = firsts.2;
        inner_rooms = a.inner_rooms;
        inners = a.inners;
        arrays = add_assoc a.left.own_arrays (list_array_words true (routine_table q))
            (routines_arrays (routines_among (with_declaration nothing_declared a.left.table d) (a.left.before + declaration_stops d) ds)) ∙ a.arrays;
      };
      grown = record {
        number = parts.1.number;
        each = λ g x is. routine_grown p w rooms rest s j room inner h items ss ds old l.parts g x are a parts.1 is;
      };
    }
step_next p w rooms rest last s j room inner (decl.Declaration.subroutine h st) ds old l are all out a step =
    let d = decl.Declaration.subroutine h st in
    let sub : Subroutine = record { heading = h; statement = st; before = a.left.before } in
    let others = subroutines_among (a.left.before + declaration_stops d) ds in
    let names = room_within (find (unit_table p.unit)) in
    let unit_is = no_subprogram p j sub others out a.inners in
    record {
      room = room;
      inner = inner + 1;
      known = known_so l p (behind s d) a.left.own_arrays room (inner + 1) step.level
          (step.parts.0 ∙ cursor_same s.count s.count s.own (behind s d).own a.left.own_arrays a.left.own_arrays room (inner + 1) refl (sym (add-zero s.own)) refl);
      along = record {
        left = left_plain p s d ds a.left refl refl refl;
        tail = a.tail;
        routine_rooms = a.routine_rooms;
        inner_rooms = ap (λ k. drop k rooms) (add-one inner) ∙ drop_more inner rooms (names sub) (map names others ++ rest) a.inner_rooms;
        inners = drop_more j (unit_subroutines p.unit) sub others a.inners;
        arrays = a.arrays;
      };
      grown = record {
        number = step.parts.1.number;
        each = λ g x is. inner_grown p w rooms rest last s j room inner h st ds old l.parts g x are all unit_is a step.parts.1 is;
      };
    }

-- ---- all declarations

pub record AtEnd (p : Placed) (rooms rest : List Room) (number : ℕ) (m : Known) : Type 0 where
  pub state : State
  pub j : ℕ
  pub left : Left p state decl.none
  pub own : m.at.own ≡ state.own
  pub own_arrays : m.at.own_arrays ≡ p.at.own_arrays + routines_arrays (routines_of p.unit)
  pub inner_rooms : drop m.at.inner_room rooms ≡ rest
  pub number_is : length m.parts ≡ number
  pub reach : AllReach p state.count j decl.none m.parts

pub walked : (p : Placed) (w : Walk) (rooms rest : List Room) (last s : State) (j room inner : ℕ) (ds : Declarations) (k m : Known)
    → IsUnitModules p.unit w → AllBehind p last → NoInners p → (a : Along p s j room inner ds rooms rest) → k ≡ known_at p s a.left.own_arrays room inner k.parts
    → AllReach p s.count j ds k.parts → Steps (fixed_in p w rooms) ds k m → AtEnd p rooms rest (length k.parts) m
walked p w rooms rest last s j room inner _ k _ are all out a known reach t.none = record {
  state = s;
  j = j;
  left = a.left;
  own = ap (λ (x : Known). x.at.own) known;
  own_arrays = ap (λ (x : Known). x.at.own_arrays) known ∙ sym (add-zero a.left.own_arrays) ∙ a.arrays;
  inner_rooms = ap (λ (x : Known). drop x.at.inner_room rooms) known ∙ a.inner_rooms;
  number_is = refl;
  reach = reach;
}
walked p w rooms rest last s j room inner (decl.and d ds) k m are all out a known reach (t.more {l = l} step steps) =
    let next = step_next p w rooms rest last s j room inner d ds k.parts l are all out a (subst (λ (x : Known). Step (fixed_in p w rooms) d x l) known step) in
    let there = walked p w rooms rest last (behind s d) (inner_behind j d) next.room next.inner ds l m are all out next.along next.known
    (all_next p s.count j d ds k.parts l.parts next.grown reach) steps in
    record {
      state = there.state;
      j = there.j;
      left = there.left;
      own = there.own;
      own_arrays = there.own_arrays;
      inner_rooms = there.inner_rooms;
      number_is = there.number_is ∙ next.grown.number;
      reach = there.reach;
    }
