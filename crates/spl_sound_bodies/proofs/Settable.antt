-- The cells and initial values of procedures that break no rule are set at their entry.
-- 1. cells                     (cells_set)
-- 2. initial values            (items_set, initials_set)
use Rattle.std.proofs.Common.{◌≡◌, ℕ, suc, ◌+◌, ◌≤◌, ◌==◌, ◌&&◌, ◌||◌, not, Bool, true, false, if◌then◌else◌, ℤ, List, [], ◌∷◌, ◌++◌, length, Option, Some, None, is_some, refl, sym, ap, ◌∙◌, arith}
use Rattle.std.specs.Prelude.{map}
use Rattle.std.proofs.lemmas.Bool.{and_from, and_parts, eqb-true}
use Rattle.spl_readings.specs.spl_tree.declared.expressions.Kind.{Kind}
use Rattle.spl_readings.specs.spl_tree.Trees.{Constant}
use Rattle.spl_readings.specs.spl_tree.DeclarationTrees as decl
use Rattle.spl_readings.specs.spl_tree.DeclarationTrees.{Item, Declaration, Declarations}
use Rattle.spl_ruled_bodies.specs.spl_meaning.Names as n
use Rattle.spl_ruled_bodies.specs.spl_meaning.Names.{Names, Sort, Table, find, within, parameters, formals_of, constant_or_zero, same_flag}
use Rattle.spl_ruled_bodies.specs.spl_meaning.Tables.{declared, shaped, with_items, with_declaration, with_declarations, routine_table}
use Rattle.spl_ruled_bodies.specs.spl_meaning.Kinds.{width}
use Rattle.spl_ruled_bodies.specs.spl_meaning.Places.{Place, above_base, Array, Cell, Initial, is_own, item_words, list_words, list_array_words, places_from, arrays_from, is_byte_kind, cell_with, cell_of, cells_among, start_of, initial_at, item_initials, declaration_initials, initials_among}
use Rattle.spl_ruled_bodies.specs.spl_meaning.Limits.{most_locals}
use Rattle.spl_ruled_bodies.specs.spl_meaning.Faults.{unless}
use Rattle.spl_ruled_bodies.specs.spl_meaning.ExpressionRules.{Scope}
use Rattle.spl_ruled_bodies.specs.spl_meaning.DeclarationRules.{Around, twice, shape_faults, initials_faults, values_fit, may_begin, item_faults, items_faults, local_faults_of, local_faults}
use Rattle.spl_cells.specs.Settable.{is_local, has_origin, is_cell_settable, cells_settable, values_settable, initials_settable}
use Rattle.spl_ruled_bodies.specs.spl_shapes.Shapes.{has_values, is_shaped_item, are_shaped_items, is_shaped_declaration, are_shaped_declarations}
use Rattle.spl_ruled_bodies.specs.spl_sound_names.Known.{is_item}
use Rattle.spl_ruled_bodies.proofs.spl_sound_names_proofs.Tables.{left_none, right_none, unless_none, never, kept_declarations}
use Rattle.spl_ruled_bodies.specs.Ruled.{around_routine, scope_of}
use Rattle.spl_sound_bodies.specs.Laws.{SoundProceduresAreSettable}
use Rattle.spl_sound_bodies.proofs.Spots.{OwnIn, OwnNames, own_names, find_new, none_there, item_local, array_origin, array_sort}

-- two lists of cells, or of values, one behind the other
settable_both : (words : ℕ) (cs ds : List Cell) → cells_settable words cs ≡ true → cells_settable words ds ≡ true → cells_settable words (cs ++ ds) ≡ true
settable_both words [] ds one other = other
settable_both words (c ∷ cs) ds one other =
    let two = and_parts (is_cell_settable words c) (cells_settable words cs) one in
    and_from (is_cell_settable words c) (cells_settable words (cs ++ ds)) two.0 (settable_both words cs ds two.1 other)

initials_both : (words : ℕ) (is js : List Initial) → initials_settable words is ≡ true → initials_settable words js ≡ true → initials_settable words (is ++ js) ≡ true
initials_both words [] js one other = other
initials_both words (i ∷ is) js one other =
    let two = and_parts (values_settable words i.from i.kind i.values) (initials_settable words is) one in
    and_from (values_settable words i.from i.kind i.values) (initials_settable words (is ++ js)) two.0 (initials_both words is js two.1 other)

-- what an item's rules say of it
record ItemTold (a : Around) (t : Table Sort) (i : Item) : Type 0 where
  new : find t i.name ≡ None
  begins : may_begin a false i.shape (length i.first) ≡ true

-- a test that fails
not_some : (b : Bool) → not b ≡ true → b ≡ false
not_some true is = never is
not_some false is = refl

-- they are among the rules of items
item_told : (a : Around) (t : Table Sort) (k : Kind) (i : Item) → item_faults a t false k i ≡ [] → ItemTold a t i
item_told a t k i none =
    let front = twice t i.name i.at in
    let shape = shape_faults a t false k i.shape i.at in
    let first = initials_faults (within t a.names) k i.at i.first in
    let values = unless (values_fit (within t a.names) i.shape (length i.first)) 15 i.at in
    let begin = unless (may_begin a false i.shape (length i.first)) 17 i.at in
    let kept = unless (not false || a.in_procedure) 17 i.at in
    let whole = unless (not false || not a.split) 27 i.at in
    let data' = unless (not a.subprogram) 28 i.at in
    let of_begin = left_none (front ++ shape ++ first ++ values ++ begin) kept (left_none (front ++ shape ++ first ++ values ++ begin ++ kept) whole
    (left_none (front ++ shape ++ first ++ values ++ begin ++ kept ++ whole) data' none)) in
    let of_values = left_none (front ++ shape ++ first ++ values) begin of_begin in
    let of_front = left_none front shape (left_none (front ++ shape) first (left_none (front ++ shape ++ first) values of_values)) in
    record {
      new = none_there (find t i.name) (not_some (is_some (find t i.name)) (unless_none (not (is_some (find t i.name))) 2 i.at of_front));
      begins = unless_none (may_begin a false i.shape (length i.first)) 17 i.at (right_none (front ++ shape ++ first ++ values) begin of_begin);
    }

-- a new name stands for what it is declared as
new_there : (t : Table Sort) (x : List ℕ) (s : Sort) → find t x ≡ None → find (declared t x s) x ≡ Some s
new_there t x s none = ap (λ (o : Option Sort). find (if is_some o then t else t ++ (x, s) ∷ []) x) none ∙ find_new t x s none

module _ (own own_arrays here_arrays : ℕ) (whole : Table Sort) (names : OwnNames whole) (few : list_words false whole ≤ most_locals) where
  abbrev words : ℕ
  words = list_words false whole + list_array_words false whole

  abbrev places : Table Place
  places = places_from above_base own 1 whole

  abbrev arrays : Table Array
  arrays = arrays_from above_base own_arrays here_arrays whole

  -- ---- 1. cells

  -- the cell of an item with words is one of the local words
  cell_set : (x base : List ℕ) (s : Sort) (bytes : Bool) → find whole x ≡ Some s → is_item s ≡ true → is_own s ≡ false → 1 ≤ item_words s
      → cells_settable words (cell_with (find places x) bytes (find arrays base)) ≡ true
  cell_set x base s bytes is item other less = by (find places x) refl (find arrays base) refl
    where
      by : (p : Option Place) → find places x ≡ p → (a : Option Array) → find arrays base ≡ a → cells_settable words (cell_with p bytes a) ≡ true
      by (Some p) at (Some a) from =
          and_from (is_local words 1 p && has_origin a.from) true
          (and_from (is_local words 1 p) (has_origin a.from) (item_local own (list_array_words false whole) 1 whole x s p is item other less few at)
          (array_origin own_arrays here_arrays whole base a from)) refl
      by (Some p) at None from = refl
      by None at a from = refl

  -- arrays have cells, and nothing else has
  of_item : (x : List ℕ) (s : Sort) → is_own s ≡ false → (is_item s ≡ true → find whole x ≡ Some s) → cells_settable words (cell_of places arrays x s) ≡ true
  of_item x (n.array k o low high) other is = cell_set x x (n.array k o low high) false (is refl) refl other (omega arith)
  of_item x (n.view k o base) other is = cell_set x base (n.view k o base) (is_byte_kind k) (is refl) refl other (omega arith)
  of_item x (n.simple k o) other is = refl
  of_item x (n.pointer k o) other is = refl
  of_item x (n.value k) other is = refl
  of_item x (n.by_reference k) other is = refl
  of_item x (n.array_parameter k) other is = refl
  of_item x (n.equate v) other is = refl
  of_item x n.label other is = refl
  of_item x (n.intrinsic i) other is = refl
  of_item x (n.procedure p) other is = refl
  of_item x (n.subroutine p) other is = refl
  of_item x n.unknown other is = refl

  -- the cells of a list, one by one
  cells_set : (t : Table Sort) → OwnIn whole t → cells_settable words (cells_among false places arrays t) ≡ true
  cells_set [] all = refl
  cells_set (e ∷ t) all =
      settable_both words (if same_flag false (is_own e.1) then cell_of places arrays e.0 e.1 else []) (cells_among false places arrays t) (first (is_own e.1) refl)
      (cells_set t all.1)
    where
      first : (b : Bool) → is_own e.1 ≡ b → cells_settable words (if same_flag false b then cell_of places arrays e.0 e.1 else []) ≡ true
      first true is = refl
      first false is = of_item e.0 e.1 is all.0

  -- ---- 2. initial values

  -- no values, wherever they would stand
  none_set : (o : Option Place) (k : Kind) → initials_settable words (initial_at o k []) ≡ true
  none_set None k = refl
  none_set (Some p) k = refl

  -- one value of a simple item
  one_set : (x : List ℕ) (k : Kind) (v : ℤ) → find whole x ≡ Some (n.simple k false)
      → initials_settable words (initial_at (start_of (find places x) (find arrays x)) k (v ∷ [])) ≡ true
  one_set x k v is = by (find places x) refl (find arrays x) refl
    where
      all : (a : ℕ) → a ≤ a
      all a = omega arith

      by : (p : Option Place) → find places x ≡ p → (a : Option Array) → find arrays x ≡ a → initials_settable words (initial_at (start_of p a) k (v ∷ [])) ≡ true
      by p at (Some a) from = never (array_sort own_arrays here_arrays whole whole names x a from (n.simple k false) is)
      by None at None from = refl
      by (Some p) at None from =
          and_from (is_local words (width k) p) true
          (item_local own (list_array_words false whole) (width k) whole x (n.simple k false) p is refl refl (all (width k)) few at) refl

  -- a number of values that is none
  no_values : {A : Type 0} (vs : List Constant) (v : Constant) → (length (v ∷ vs) == 0) ≡ true → A
  no_values vs v is = let none : suc (length vs) ≡ 0 = eqb-true (length (v ∷ vs)) 0 is in absurd (omega (arith, none))

  -- in a procedure an array begins with no values
  first_of : (a b : Bool) → b ≡ true → (a || false || not b) ≡ true → a ≡ true
  first_of true b in_procedure is = refl
  first_of false b in_procedure is = never (ap not (sym in_procedure) ∙ is)

  -- an item of a procedure that is not OWN
  item_set : (a : Around) → a.in_procedure ≡ true → (outer : Names) (k : Kind) (x : List ℕ) (read : Constant → ℤ) (shape : decl.Shape) (first : List Constant)
      → has_values shape first ≡ true → may_begin a false shape (length first) ≡ true → find whole x ≡ Some (shaped outer false k shape)
      → initials_settable words (initial_at (start_of (find places x) (find arrays x)) k (map read first)) ≡ true
  item_set a in_procedure outer k x read shape [] few_values begins is = none_set (start_of (find places x) (find arrays x)) k
  item_set a in_procedure outer k x read decl.Shape.simple (v ∷ []) few_values begins is = one_set x k (read v) is
  item_set a in_procedure outer k x read decl.Shape.simple (v ∷ u ∷ vs) few_values begins is = never few_values
  item_set a in_procedure outer k x read decl.Shape.pointer (v ∷ vs) few_values begins is = never few_values
  item_set a in_procedure outer k x read (decl.Shape.array low high) (v ∷ vs) few_values begins is =
      no_values vs v (first_of (length (v ∷ vs) == 0) a.in_procedure in_procedure begins)
  item_set a in_procedure outer k x read (decl.Shape.view base) (v ∷ vs) few_values begins is = no_values vs v begins

  -- a name behind which further ones are declared
  abbrev Kept : Table Sort → Type 0
  Kept t = (x : List ℕ) (u : Sort) → find t x ≡ Some u → find whole x ≡ Some u

  -- item by item, where later names keep what each stands for
  items_set : (a : Around) → a.in_procedure ≡ true → (k : Kind) (t : Table Sort) (is : List Item) → items_faults a t false k is ≡ [] → are_shaped_items is ≡ true
      → Kept (with_items a.names false k t is) → initials_settable words (item_initials a.names false k places arrays t is) ≡ true
  items_set a in_procedure k t [] none shaped kept = refl
  items_set a in_procedure k t (i ∷ is) none shapes kept =
      let s = shaped (within t a.names) false k i.shape in
      let one = item_faults a t false k i in
      let rest = items_faults a (declared t i.name s) false k is in
      let of_one = item_told a t k i (left_none one rest none) in
      let two = and_parts (is_shaped_item i) (are_shaped_items is) shapes in
      initials_both words (initial_at (start_of (find places i.name) (find arrays i.name)) k (map (constant_or_zero (within t a.names)) i.first))
      (item_initials a.names false k places arrays (declared t i.name s) is)
      (item_set a in_procedure (within t a.names) k i.name (constant_or_zero (within t a.names)) i.shape i.first two.0 of_one.begins
      (kept i.name s (kept_declarations a.names (declared t i.name s) (decl.and (decl.Declaration.data_items false k is) decl.none) i.name s
      (new_there t i.name s of_one.new))))
      (items_set a in_procedure k (declared t i.name s) is (right_none one rest none) two.1 kept)

  -- items alone have initial values
  declaration_set : (a : Around) → a.in_procedure ≡ true → (sc : Scope) (t : Table Sort) (d : Declaration) → local_faults_of a sc t d ≡ [] → is_shaped_declaration d ≡ true
      → Kept (with_declaration a.names t d) → initials_settable words (declaration_initials false a.names places arrays t d) ≡ true
  declaration_set a in_procedure sc t (decl.Declaration.data_items true k items) none shapes kept = refl
  declaration_set a in_procedure sc t (decl.Declaration.data_items false k items) none shapes kept = items_set a in_procedure k t items none shapes kept
  declaration_set a in_procedure sc t (decl.Declaration.equate es) none shapes kept = refl
  declaration_set a in_procedure sc t (decl.Declaration.intrinsic xs) none shapes kept = refl
  declaration_set a in_procedure sc t (decl.Declaration.label xs) none shapes kept = refl
  declaration_set a in_procedure sc t (decl.Declaration.forward h) none shapes kept = refl
  declaration_set a in_procedure sc t (decl.Declaration.external h) none shapes kept = refl
  declaration_set a in_procedure sc t (decl.Declaration.procedure h items ss) none shapes kept = refl
  declaration_set a in_procedure sc t (decl.Declaration.subroutine h s) none shapes kept = refl

  -- declaration by declaration
  initials_set : (a : Around) → a.in_procedure ≡ true → (sc : Scope) (t : Table Sort) (ds : Declarations) → local_faults a sc t ds ≡ [] → are_shaped_declarations ds ≡ true
      → Kept (with_declarations a.names t ds) → initials_settable words (initials_among false a.names places arrays t ds) ≡ true
  initials_set a in_procedure sc t decl.none none shapes kept = refl
  initials_set a in_procedure sc t (decl.and d ds) none shapes kept =
      let behind = with_declaration a.names t d in
      let of_d = local_faults_of a sc t d in
      let of_rest = local_faults a sc behind ds in
      let two = and_parts (is_shaped_declaration d) (are_shaped_declarations ds) shapes in
      initials_both words (declaration_initials false a.names places arrays t d) (initials_among false a.names places arrays behind ds)
      (declaration_set a in_procedure sc t d (left_none of_d of_rest none) two.0 (λ x u is. kept x u (kept_declarations a.names behind ds x u is)))
      (initials_set a in_procedure sc behind ds (right_none of_d of_rest none) two.1 kept)

-- the list of a procedure, whose items are what their names stand for
pub settable : SoundProceduresAreSettable
settable globals own own_arrays r ruled fits =
    let whole = routine_table r in
    let names : OwnNames whole = own_names (find r.globals) (formals_of r.heading) r.items in
    let here_arrays = 1 + list_words false whole in
    and_from
    (cells_settable (list_words false whole + list_array_words false whole)
    (cells_among false (places_from above_base own 1 whole) (arrays_from above_base own_arrays here_arrays whole) whole))
    (initials_settable (list_words false whole + list_array_words false whole)
    (initials_among false (find r.globals) (places_from above_base own 1 whole) (arrays_from above_base own_arrays here_arrays whole)
    (parameters (formals_of r.heading)) r.items))
    (cells_set own own_arrays here_arrays whole names fits.locals whole names)
    (initials_set own own_arrays here_arrays whole names fits.locals (around_routine r) refl (scope_of r) (parameters (formals_of r.heading)) r.items ruled.list
    ruled.shaped_list (λ x u is. is))
