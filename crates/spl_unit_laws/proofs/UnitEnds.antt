-- Behind its main body the code of each segment is that of its module.
use Rattle.std.proofs.Common.{◌≡◌, ◌<◌, ℕ, zero, suc, ◌+◌, Bool, true, false, if◌then◌else◌, nat_eq, nat_lt, not, ◌&&◌, ◌||◌, List, [], ◌∷◌, ◌++◌, length, get_or, replicate, Option, Some, None, refl, sym, ap, subst, ◌∙◌, append-nil, arith}
use Rattle.std.specs.List.{slice_get}
use Rattle.std.specs.Prelude.{is_some}
use Rattle.std.proofs.lemmas.Bool.{eqb-true, lt-ltb}
use Rattle.std.proofs.lemmas.Option.{slice_get_within, slice_get-get_or}
use Rattle.std.proofs.lemmas.List.{length-map, length-replicate, replicate-append-replicate}
use Rattle.spl_sound_labels.specs.spl_tree.DeclarationTrees as decl
use Rattle.spl_sound_labels.specs.spl_tree.DeclarationTrees.{declarations}
use Rattle.spl_sound_labels.specs.spl_meaning.Bodies.{Body, main_body}
use Rattle.spl_routine_code.specs.spl_rooms.declared.room_type.Room.{Room}
use Rattle.spl_routine_code.specs.spl_rooms.Rooms.{main_room}
use Rattle.spl_routine_code.specs.spl_branch.declared.buffer.Code.{Code}
use Rattle.spl_routine_code.specs.spl_code.Parts.{Part, Written, nothing, wants_of}
use Rattle.spl_routine_code.specs.spl_code.Appends as appended
use Rattle.spl_routine_code.specs.spl_scopes.Entries.{Entry, main, module_entries}
use Rattle.spl_routine_code.specs.spl_scopes.Scopes.{Placed, outer_body, global_places}
use Rattle.spl_unit_codes.specs.spl_modules.Made.{made_of, made_from}
use Rattle.spl_unit_codes.specs.spl_modules.Entered.{Walk}
use Rattle.spl_unit_codes.specs.spl_modules.UnitModules.{IsUnitModules}
use Rattle.spl_routine_code.specs.spl_body_scopes.Walks.{State}
use Rattle.spl_routine_code.proofs.spl_body_scopes_proofs.ScopeLaws.{main_there}
use Rattle.spl_unit_codes.specs.spl_module_code.Bodies.{main_part}
use Rattle.spl_unit_codes.specs.spl_module_code.Modules.{holds_main, main_at, module_part, module_written, marks_before, IsCodeOf, uses}
use Rattle.spl_routine_code.specs.Generates.{Generates, GeneratesFrom}
use Rattle.spl_routine_code.specs.Routines.{room_at}
use Rattle.spl_routine_code.proofs.OpenMarks.{one_generated}
use Rattle.spl_unit_codes.specs.declared.growing.Growing.{Growing}
use Rattle.spl_unit_laws.specs.Steps.{IsOpen, AreFree, main_count}
use Rattle.spl_unit_codes.specs.Begun.{IsBegun, AreBegun, has_main}
use Rattle.spl_unit_codes.specs.Slots.{is_used}
use Rattle.spl_unit_laws.specs.Units.{MainStep}
use Rattle.spl_unit_laws.proofs.RoutineParts.{main_made}
use Rattle.spl_unit_laws.proofs.Declared.{fixed_in, AllBehind, main_seen}
use Rattle.spl_unit_laws.proofs.Reaches.{main_or_nothing, left_part, module_left, IsFrame, frame_kept, Makes, Reaches}
use Rattle.spl_unit_laws.proofs.UnitWalks.{AllReach, some_inside}

-- ---- marks that are all set

all_set : (a b c : ℕ) → (replicate a true ++ replicate b true) ++ (replicate 0 false ++ replicate c true) ≡ replicate (a + b + c) true
all_set a b c = ap (λ xs. xs ++ replicate c true) (replicate-append-replicate a b true) ∙ replicate-append-replicate (a + b) c true

set_first : (a c : ℕ) → replicate a true ++ (replicate 0 false ++ replicate c true) ≡ replicate (a + c) true
set_first a c = replicate-append-replicate a c true

as_many : (xs : List Bool) (a b : ℕ) → xs ≡ replicate a true → length xs ≡ b → xs ≡ replicate b true
as_many xs a b is count = is ∙ ap (λ n. replicate n true) (sym (length-replicate a true) ∙ ap length (sym is) ∙ count)

-- ---- the main body

-- a code is that of its module, and all of its marks are set
pub record Whole (p : Placed) (g : ℕ) (c : Code) : Type 0 where
  pub makes : Makes p g nothing c
  pub frame : IsFrame p g c
  pub number : ℕ
  pub set : c.marks.items ≡ replicate number true

-- where the segment has no main body
without_main : (p : Placed) (g n j : ℕ) (x : Growing) → Reaches p g n j decl.none x → main_or_nothing p g ≡ nothing → (o : IsOpen x.done 0 x.code.marks.items)
    → Whole p g x.code
without_main p g n j x reach none o = record {
  makes = subst (λ (q : Part). Makes p g q x.code) none reach.makes;
  frame = reach.frame;
  number = x.done + o.others;
  set = o.is ∙ set_first x.done o.others;
}

-- behind the last part nothing is left
makes_last : (p : Placed) (g first count : ℕ) (a : Part) (c d : Code) → Makes p g a c → GeneratesFrom first count a c d → Makes p g nothing d
makes_last p g first count a c d m made = record {
  pieces = append-nil d.pieces.items ∙ made.pieces ∙ m.pieces;
  marks = (let one = made.number in let two = m.marks in omega (arith, one, two));
  wants = made.wants ∙ m.wants;
}

-- and where it has
with_main : (p : Placed) (g n j : ℕ) (x y : Growing) (b : Body) → Reaches p g n j decl.none x → main_or_nothing p g ≡ main_at (module_entries p.unit g) (Some b)
    → (o : IsOpen x.done 1 x.code.marks.items) → Generates x.done (main_part (module_entries p.unit g) x.done b) x.code y.code → Whole p g y.code
with_main p g n j x y b reach is o made =
    let es : List Entry = module_entries p.unit g in
    let part : Part = main_part es x.done b in
    let at : length es ≡ x.done = (let e = reach.entries in omega (arith, e)) in
    let from = one_generated x.done part x.code y.code made in
    let before : Makes p g part x.code =
    subst (λ k. Makes p g (main_part es k b) x.code) at (subst (λ (q : Part). Makes p g q x.code) is reach.makes) in
    let count : ℕ = (appended.behind part x.code).marks in
    record {
      makes = makes_last p g x.done 1 part x.code y.code before from;
      frame = frame_kept p g x.code y.code reach.frame made.same;
      number = (x.done + 1) + (o.others + count);
      set =
          from.marks (replicate x.done true) (replicate o.others true) 0 (length-replicate x.done true) o.is
          ∙ ap (λ xs. (replicate x.done true ++ replicate 1 true) ++ (replicate 0 false ++ xs)) (replicate-append-replicate o.others count true)
          ∙ all_set x.done 1 (o.others + count);
    }

pub main_step : (p : Placed) (w : Walk) (rooms : List Room) (last : State) (n j room : ℕ) (old new : List Growing) → IsUnitModules p.unit w → AllBehind p last
    → (p.unit.subprogram ≡ false → (room_at rooms room).depth ≡ (main_room p.unit).depth) → AllReach p n j decl.none old
    → AreFree p.unit.subprogram p.unit.tree.segment decl.none old
    → MainStep p.unit.subprogram (fixed_in p w rooms) p.unit.tree.statements ((room_at rooms room).depth) old new
    → (length new ≡ length old) × ((g : ℕ) (y : Growing) → slice_get new g ≡ Some y → Whole p g y.code)
main_step p w rooms last n j room old new are all depth reach free step = by p.unit.subprogram refl step
  where
    seg : ℕ
    seg = p.unit.tree.segment

    by : (s : Bool) → p.unit.subprogram ≡ s → MainStep s (fixed_in p w rooms) p.unit.tree.statements ((room_at rooms room).depth) old new
        → (length new ≡ length old) × ((g : ℕ) (y : Growing) → slice_get new g ≡ Some y → Whole p g y.code)
    by true is same = (
      ap length same,
      λ g y at.
          let there = ap (λ xs. slice_get xs g) (sym same) ∙ at in
          without_main p g n j y (reach g y there)
          (ap (λ (s : Bool). if not s && nat_eq seg g then main_at (module_entries p.unit g) (outer_body p main) else nothing) is)
          (subst (λ (s : Bool). IsOpen y.done (0 + main_count s seg g) y.code.marks.items) is (free g y there)),
    )
    by false is grows = (grows.number, λ g y at. each g y at (nat_eq seg g) refl)
      where
        each : (g : ℕ) (y : Growing) → slice_get new g ≡ Some y → (b : Bool) → nat_eq seg g ≡ b → Whole p g y.code
        each g y at false out =
            let there = sym (grows.others g out) ∙ at in
            without_main p g n j y (reach g y there)
            (ap (λ (s : Bool). if not s && nat_eq seg g then main_at (module_entries p.unit g) (outer_body p main) else nothing) is
            ∙ ap (λ (b : Bool). if b then main_at (module_entries p.unit g) (outer_body p main) else nothing) out)
            (subst (λ (k : ℕ). IsOpen y.done (0 + k) y.code.marks.items)
            (ap (λ (s : Bool). main_count s seg g) is ∙ ap (λ (b : Bool). if b then 1 else 0) out) (free g y there))
        each g y at true inside =
            let same : seg ≡ g = eqb-true seg g inside in
            let lt : g < length old = (let a = slice_get_within new g y at in let b = grows.number in omega (arith, a, b)) in
            let x : Growing = get_or old g y in
            let there : slice_get old g ≡ Some x = slice_get-get_or old g y lt in
            let one = grows.there x (ap (λ k. slice_get old k) same ∙ there) in
            let z : Growing = one.0 in
            let b : Body = main_body (global_places p) p.unit in
            let is_y : z ≡ y = some_inside z y (sym one.1 ∙ ap (λ k. slice_get new k) same ∙ at) in
            let made : Generates x.done (main_part (module_entries p.unit seg) x.done b) x.code z.code =
            main_made (module_entries p.unit seg) b _ _ p.unit.tree.statements ((room_at rooms room).depth) x.done x.code z.code one.2.code
            (main_seen p w rooms last are all is) (depth is) refl in
            subst (λ (v : Growing). Whole p g v.code) is_y
            (with_main p g n j x z b (reach g x there)
            (ap (λ (s : Bool). if not s && nat_eq seg g then main_at (module_entries p.unit g) (outer_body p main) else nothing) is
            ∙ ap (λ (c : Bool). if c then main_at (module_entries p.unit g) (outer_body p main) else nothing) inside
            ∙ ap (λ (o : Option Body). main_at (module_entries p.unit g) o) (main_there p is))
            (subst (λ (k : ℕ). IsOpen x.done (0 + k) x.code.marks.items)
            (ap (λ (s : Bool). main_count s seg g) is ∙ ap (λ (c : Bool). if c then 1 else 0) inside) (free g x there))
            (subst (λ k. Generates x.done (main_part (module_entries p.unit k) x.done b) x.code z.code) same made))

-- ---- a module's code

pub code_done : (p : Placed) (g : ℕ) (c : Code) → (one : Whole p g c) → IsCodeOf p one.frame.name g c
code_done p g c one = record {
  segment = one.frame.segment;
  pieces = sym (append-nil c.pieces.items) ∙ one.makes.pieces;
  marks = as_many c.marks.items one.number (marks_before p g + (module_written p g).marks) one.set (let m = one.makes.marks in omega (arith, m));
  entries = one.frame.entries;
  wants = one.makes.wants;
  main = one.frame.main_is;
}

-- ---- before the first body

made_count : (k : ℕ) (es : List Entry) → length (made_from k es) ≡ length es
made_count k [] = refl
made_count k (e ∷ es) = ap suc (made_count (suc k) es)

none_first : (n : ℕ) → 0 + n ≡ n
none_first n = omega arith

pub begun_reach : (p : Placed) (w : Walk) (parts : List Growing) → IsUnitModules p.unit w → AreBegun p.unit w.entered.made parts
    → AllReach p 0 0 (declarations p.unit.tree.items) parts
begun_reach p w parts are begun g x at =
    let ds = declarations p.unit.tree.items in
    let one = begun.each g x at in
    let b : IsBegun one.0 (w.entered.made g) (has_main p.unit g) x = one.2 in
    let es : List Entry = module_entries p.unit g in
    let count : length (w.entered.made g) ≡ length es = ap length (are.made g) ∙ made_count 0 es in
    let marks : length x.code.marks.items ≡ marks_before p g =
    ap length b.marks ∙ length-replicate (length (w.entered.made g) + (if has_main p.unit g then 1 else 0)) false
    ∙ ap (λ n. n + (if has_main p.unit g then 1 else 0)) count in
    let whole = module_part p g (marks_before p g) [] in
    let written : appended.behind (left_part p g 0 0 x.done ds) x.code ≡ module_written p g =
    ap (λ k. appended.behind (left_part p g 0 0 k ds) x.code) b.done
    ∙ ap (λ (q : Part). appended.behind q x.code) (sym (module_left p g))
    ∙ ap (λ n. module_part p g n (wants_of x.code.wants.items)) marks
    ∙ ap (λ ws. module_part p g (marks_before p g) (wants_of ws)) b.wants in
    record {
      makes = record {
        pieces = ap (λ ps. ps ++ (appended.behind (left_part p g 0 0 x.done ds) x.code).pieces) b.pieces ∙ ap (λ (v : Written). v.pieces) written;
        marks = ap (λ n. n + (appended.behind (left_part p g 0 0 x.done ds) x.code).marks) marks ∙ ap (λ (v : Written). marks_before p g + v.marks) written;
        wants = ap (λ (v : Written). v.wants) written;
      };
      entries = ap (λ n. n + length es) b.done ∙ none_first (length es);
      frame = record {
        name = one.0;
        named = one.1;
        segment = b.segment;
        entries = b.entries ∙ are.made g;
        main_is = b.main ∙ ap (λ n. if has_main p.unit g then Some n else None) count;
      };
    }

-- ---- whether a segment is used

pub used_is : (p : Placed) (g : ℕ) (c : Code) → IsFrame p g c → is_used c ≡ uses p g
used_is p g c f =
    ap (λ n. nat_lt 0 n || is_some c.main) count ∙ ap (λ (o : Option ℕ). nat_lt 0 (length (module_entries p.unit g)) || is_some o) f.main_is
    ∙ by (holds_main p g) (length (module_entries p.unit g))
  where
    count : length c.entries.items ≡ length (module_entries p.unit g)
    count = sym (length-map c.entries.items made_of) ∙ ap length f.entries ∙ made_count 0 (module_entries p.unit g)

    by : (b : Bool) (n : ℕ) → (nat_lt 0 n || is_some (if b then Some n else None)) ≡ nat_lt 0 (n + (if b then 1 else 0))
    by true zero = sym (lt-ltb 0 (0 + 1) (omega arith))
    by true (suc n) = ap (λ b. b || true) (lt-ltb 0 (suc n) (omega arith)) ∙ sym (lt-ltb 0 (suc n + 1) (omega arith))
    by false zero = refl
    by false (suc n) = ap (λ b. b || false) (lt-ltb 0 (suc n) (omega arith)) ∙ sym (lt-ltb 0 (suc n + 0) (omega arith))
