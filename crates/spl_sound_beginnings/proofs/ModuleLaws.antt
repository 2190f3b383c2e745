-- How the code of bodies and of modules begins.
-- 1. what stands before and behind the statements of bodies      (front_entered, well_procedure ..)
-- 2. the labels of a body have landings                           (well_landings)
-- 3. body by body, the parts of a module                          (well_module, well_written)
use Rattle.std.proofs.Common.{◌≡◌, ℕ, suc, ◌+◌, ◌/◌, ◌%◌, ◌==◌, ◌&&◌, nat_lt, nat_eq, min, ℤ, Bool, true, false, if◌then◌else◌, List, [], ◌∷◌, ◌++◌, length, replicate, codes, Option, Some, None, is_some, refl}
use Rattle.std.specs.List.{slice_get}
use Rattle.std.proofs.lemmas.Bool.{false≢true}
use Rattle.spl_sound_names.specs.hp_word.Words.{word_of, double_of}
use Rattle.spl_sound_names.specs.spl_tree.declared.expressions.Kind.{Kind}
use Rattle.spl_sound_names.specs.spl_tree.declared.expressions.Kind.TheVariants as kind
use Rattle.spl_sound_names.specs.spl_tree.DeclarationTrees as decl
use Rattle.spl_sound_names.specs.spl_tree.DeclarationTrees.{Declaration, Declarations, declarations}
use Rattle.spl_sound_names.specs.spl_meaning.Names.{Table, find, same_name}
use Rattle.spl_sound_names.specs.spl_meaning.Tables.{Subroutine}
use Rattle.spl_sound_names.specs.spl_meaning.Places as p
use Rattle.spl_sound_names.specs.spl_meaning.Places.{Cell, Initial, cell_word}
use Rattle.spl_sound_names.specs.spl_meaning.Pending.{formals_words}
use Rattle.spl_sound_names.specs.spl_meaning.Bodies.{Body, Named, subroutine_body}
use Rattle.spl_beginnings.specs.spl_code.Parts.{Part, nothing}
use Rattle.spl_beginnings.specs.spl_code.Constants.{constant}
use Rattle.spl_beginnings.specs.spl_code.Operands.{mode_of}
use Rattle.spl_beginnings.specs.spl_code.Instructions.{STOR}
use Rattle.spl_beginnings.specs.spl_code.Stores.{store}
use Rattle.spl_beginnings.specs.spl_statement_code.Landings.{Landing}
use Rattle.spl_piece_kinds.specs.spl_body_code.Frames.{ROOM, ADDS, granted, zeroed, last_zeros}
use Rattle.spl_piece_kinds.specs.spl_body_code.Cells.{LADD, base_pushed, cell_from, viewed, cell_set, cells_set, value_pushed, first_set, initial_set, initials_set}
use Rattle.spl_piece_kinds.specs.spl_body_code.Bodies.{Frame, frame_of, mode_entered, procedure_entered, procedure_left, procedure_code, subroutine_left, subroutine_code, main_code}
use Rattle.spl_piece_kinds.specs.spl_scopes.Entries.{Owner, main, routine, Entry, module_entries, routines_behind}
use Rattle.spl_piece_kinds.specs.spl_scopes.Scopes.{Placed, routine_bodies, outer_body}
use Rattle.spl_piece_kinds.specs.spl_module_code.LabelsOfBodies.{Label, labels_among, with_landings}
use Rattle.spl_piece_kinds.specs.spl_module_code.Bodies.{context_of, body_statements, subroutine_part, subroutine_parts, routine_part}
use Rattle.spl_piece_kinds.specs.spl_module_code.Modules.{inner_behind, routine_at, inner_with, inner_at, entries_behind, declared_part, declared_parts, holds_main, main_at, marks_before}
use Rattle.spl_beginnings.specs.Opens.{BeginsWell}
use Rattle.spl_sound_beginnings.specs.FoundBodies.{bears, is_found_body, are_found_inner, is_found_routine, is_found_inner, is_found_inner_at, is_found_main, declares_found, declare_found}
use Rattle.spl_sound_beginnings.specs.Laws.{BodyStatementsBeginWell, ModuleBeginsWell, CodesBeginWell}
use Rattle.spl_beginnings.proofs.PartLaws.{Front, left_of, right_of, front_both, front_if, front_rows, well_pieces, may_pieces, may_well, open_well, well_then, well_fresh, opens_want, well_mark}
use Rattle.spl_beginnings.proofs.ExpressionLaws.{front_constant, front_double}
use Rattle.spl_beginnings.proofs.StatementLaws.{well_listed}

-- ---- 1. around the statements of bodies

front_granted : (words : ℕ) → Front (granted words)
front_granted words =
    front_if (nat_lt 0 words && nat_lt words 256) (ROOM words ∷ []) (constant (min words 65535) ++ ROOM 0 ∷ []) refl
    (front_both (constant (min words 65535)) (ROOM 0 ∷ []) (front_constant (min words 65535)) refl)

front_zeroed : (words : ℕ) → Front (zeroed words)
front_zeroed words =
    front_both (replicate (words / 255) (ADDS 255)) (last_zeros (words % 255)) (front_rows (words / 255) (ADDS 255) refl)
    (front_if (words % 255 == 0) [] (ADDS (words % 255) ∷ []) refl refl)

front_base : (k : Kind) → Front (base_pushed k)
front_base kind.Integer = refl
front_base kind.Logical = refl
front_base kind.Byte = refl
front_base kind.Double = refl

front_from : (from : p.Place) (k : Kind) (low : ℤ) → Front (cell_from from k low)
front_from (p.data_word address) k low = front_constant (cell_word k low address)
front_from (p.above_base above) k low =
    front_both (base_pushed k ++ constant (cell_word k low above)) (LADD ∷ [])
    (front_both (base_pushed k) (constant (cell_word k low above)) (front_base k) (front_constant (cell_word k low above))) refl
front_from (p.below_base below) k low = refl
front_from (p.below_return below) k low = refl

front_viewed : (b : Bool) → Front (viewed b)
front_viewed true = refl
front_viewed false = refl

front_cell : (c : Cell) → Front (cell_set c)
front_cell c =
    front_both (cell_from c.array.from c.array.kind c.array.low ++ viewed c.as_bytes) (STOR false false (mode_of 0 c.place) ∷ [])
    (front_both (cell_from c.array.from c.array.kind c.array.low) (viewed c.as_bytes) (front_from c.array.from c.array.kind c.array.low) (front_viewed c.as_bytes))
    refl

front_cells : (cs : List Cell) → Front (cells_set cs)
front_cells [] = refl
front_cells (c ∷ cs) = front_both (cell_set c) (cells_set cs) (front_cell c) (front_cells cs)

front_value : (k : Kind) (v : ℤ) → Front (value_pushed k v)
front_value kind.Integer v = front_constant (word_of v)
front_value kind.Logical v = front_constant (word_of v)
front_value kind.Byte v = front_constant (word_of v % 256)
front_value kind.Double v = front_double (double_of v)

front_store : (k : Kind) (at : p.Place) → Front (store k false false (mode_of 0 at) ∷ [])
front_store kind.Integer at = refl
front_store kind.Logical at = refl
front_store kind.Byte at = refl
front_store kind.Double at = refl

front_first : (from : p.Place) (k : Kind) (vs : List ℤ) → Front (first_set from k vs)
front_first from k [] = refl
front_first from k (v ∷ vs) = front_both (value_pushed k v) (store k false false (mode_of 0 from) ∷ []) (front_value k v) (front_store k from)

front_initials : (is : List Initial) → Front (initials_set is)
front_initials [] = refl
front_initials (i ∷ is) = front_both (initial_set i) (initials_set is) (front_first i.from i.kind i.values) (front_initials is)

front_mode : (b : Bool) → Front (mode_entered b)
front_mode true = refl
front_mode false = refl

front_entered : (f : Frame) → Front (procedure_entered f)
front_entered f =
    let a = granted (f.words + f.room) in
    let b = zeroed f.words in
    let c = cells_set f.cells in
    let d = initials_set f.initials in
    front_both (a ++ b ++ c ++ d) (mode_entered f.split)
    (front_both (a ++ b ++ c) d (front_both (a ++ b) c (front_both a b (front_granted (f.words + f.room)) (front_zeroed f.words)) (front_cells f.cells)) (front_initials f.initials))
    (front_mode f.split)

front_left : (split : Bool) (words : ℕ) → Front (procedure_left split words)
front_left true words = refl
front_left false words = refl

well_procedure : (b : Body) (mark : ℕ) (statements : ℕ → Part) → ((leave : ℕ) → BeginsWell (statements leave)) → BeginsWell (procedure_code b mark statements)
well_procedure b mark statements h = well_fresh _ (λ leave.
    well_then (well_then (well_then (well_then (well_mark mark) (may_well (may_pieces (procedure_entered (frame_of b)) (front_entered (frame_of b))))) (h leave))
    (well_mark leave))
    (may_well (may_pieces (procedure_left b.here.setting.split (formals_words b.profile.formals)) (front_left b.here.setting.split (formals_words b.profile.formals)))))

well_subroutine : (b : Body) (mark : ℕ) (statement : ℕ → Part) → ((leave : ℕ) → BeginsWell (statement leave)) → BeginsWell (subroutine_code b mark statement)
well_subroutine b mark statement h = well_fresh _ (λ leave.
    well_then (well_then (well_then (well_then (well_mark mark) (may_well (may_pieces (granted b.depth') (front_granted b.depth')))) (h leave))
    (well_mark leave)) (well_pieces (subroutine_left (formals_words b.profile.formals)) refl))

well_main : (b : Body) (mark : ℕ) (statements : Part) → BeginsWell statements → BeginsWell (main_code b mark statements)
well_main b mark statements h =
    well_then (well_then (well_then (well_mark mark) (may_well (may_pieces (granted b.depth') (front_granted b.depth')))) h)
    (open_well (opens_want (codes "TERMINATE") true))

-- ---- 2. labels

-- a label more, with its landing
lands_more : (same : Bool) (l : Landing) (later : Bool) (found : Option Landing) → (later ≡ true → is_some found ≡ true)
    → (if same then true else later) ≡ true → is_some (if same then Some l else found) ≡ true
lands_more true l later found h is = refl
lands_more false l later found h is = h is

well_landings : (xs : List Label) (part : Table Landing → Part)
    → ((t : Table Landing) → ((x : List ℕ) → bears xs x ≡ true → is_some (find t x) ≡ true) → BeginsWell (part t)) → BeginsWell (with_landings xs part)
well_landings [] part h = h [] (λ x is. absurd (false≢true is))
well_landings (l ∷ ls) part h =
    well_fresh _ (λ mark. well_landings ls (λ t. part ((l.name, record { mark = mark; pending = l.pending }) ∷ t))
    (λ t lands. h ((l.name, record { mark = mark; pending = l.pending }) ∷ t)
    (λ x is. lands_more (same_name x l.name) (record { mark = mark; pending = l.pending }) (bears ls x) (find t x) (lands x) is)))

-- ---- 3. bodies and modules

pub well_statements : BodyStatementsBeginWell
well_statements es o b leave is =
    well_landings (labels_among b.statements 0) _
    (λ labels lands. well_listed (context_of es o b labels leave) (bears (labels_among b.statements 0)) lands b.statements is 0)

well_subroutine_part : (es : List Entry) (o : Owner) (b : Body) (entry : ℕ) (s : Subroutine) → is_found_body es o (subroutine_body b s) ≡ true
    → BeginsWell (subroutine_part es o b entry s)
well_subroutine_part es o b entry s is =
    well_subroutine (subroutine_body b s) entry (body_statements es o (subroutine_body b s)) (λ leave. well_statements es o (subroutine_body b s) leave is)

well_subroutine_parts : (es : List Entry) (o : Owner) (b : Body) (entry : ℕ) (ss : List Subroutine) → are_found_inner es o b ss ≡ true
    → BeginsWell (subroutine_parts es o b entry ss)
well_subroutine_parts es o b entry [] is = well_pieces [] refl
well_subroutine_parts es o b entry (s ∷ ss) is =
    let one = is_found_body es o (subroutine_body b s) in
    let others = are_found_inner es o b ss in
    well_then (well_subroutine_part es o b entry s (left_of one others is)) (well_subroutine_parts es o b (suc entry) ss (right_of one others is))

well_routine_part : (es : List Entry) (i entry : ℕ) (b : Named)
    → (are_found_inner es (routine i) b.body b.body.subroutines && is_found_body es (routine i) b.body) ≡ true → BeginsWell (routine_part es i entry b)
well_routine_part es i entry b is =
    let inner = are_found_inner es (routine i) b.body b.body.subroutines in
    let own = is_found_body es (routine i) b.body in
    well_then (well_subroutine_parts es (routine i) b.body (suc entry) b.body.subroutines (left_of inner own is))
    (well_procedure b.body entry (body_statements es (routine i) b.body) (λ leave. well_statements es (routine i) b.body leave (right_of inner own is)))

well_routine_at : (es : List Entry) (i entry : ℕ) (o : Option Named) → is_found_routine es i o ≡ true → BeginsWell (routine_at es i entry o)
well_routine_at es i entry None is = well_pieces [] refl
well_routine_at es i entry (Some b) is = well_routine_part es i entry b is

well_inner_with : (es : List Entry) (b : Body) (entry : ℕ) (o : Option Subroutine) → is_found_inner es b o ≡ true → BeginsWell (inner_with es b entry o)
well_inner_with es b entry None is = well_pieces [] refl
well_inner_with es b entry (Some s) is = well_subroutine_part es main b entry s is

well_inner_at : (es : List Entry) (j entry : ℕ) (o : Option Body) → is_found_inner_at es j o ≡ true → BeginsWell (inner_at es j entry o)
well_inner_at es j entry None is = well_pieces [] refl
well_inner_at es j entry (Some b) is = well_inner_with es b entry (slice_get b.subroutines j) is

well_main_at : (es : List Entry) (o : Option Body) → is_found_main es o ≡ true → BeginsWell (main_at es o)
well_main_at es None is = well_pieces [] refl
well_main_at es (Some b) is = well_main b (length es) (body_statements es main b (length es)) (well_statements es main b (length es) is)

-- a part that stands there where a test holds, and which is found there
well_where : (b found : Bool) (p : Part) → (if b then found else true) ≡ true → (found ≡ true → BeginsWell p) → BeginsWell (if b then p else nothing)
well_where true found p is h = h is
well_where false found p is h = well_pieces [] refl

well_declared : (q : Placed) (g i j entry : ℕ) (d : Declaration) → declares_found q g i j d ≡ true → BeginsWell (declared_part q g i j entry d)
well_declared q g i j entry (decl.Declaration.procedure h items ss) is =
    let es = module_entries q.unit g in
    let b = slice_get (routine_bodies q) i in
    well_where (nat_eq h.segment g) (is_found_routine es i b) (routine_at es i entry b) is (well_routine_at es i entry b)
well_declared q g i j entry (decl.Declaration.subroutine h s) is =
    let es = module_entries q.unit g in
    let b = outer_body q main in
    well_where (nat_eq q.unit.tree.segment g) (is_found_inner_at es j b) (inner_at es j entry b) is (well_inner_at es j entry b)
well_declared q g i j entry (decl.Declaration.data_items own k items) is = well_pieces [] refl
well_declared q g i j entry (decl.Declaration.equate es) is = well_pieces [] refl
well_declared q g i j entry (decl.Declaration.intrinsic xs) is = well_pieces [] refl
well_declared q g i j entry (decl.Declaration.label xs) is = well_pieces [] refl
well_declared q g i j entry (decl.Declaration.forward h) is = well_pieces [] refl
well_declared q g i j entry (decl.Declaration.external h) is = well_pieces [] refl

well_declarations : (q : Placed) (g i j entry : ℕ) (ds : Declarations) → declare_found q g i j ds ≡ true → BeginsWell (declared_parts q g i j entry ds)
well_declarations q g i j entry decl.none is = well_pieces [] refl
well_declarations q g i j entry (decl.and d ds) is =
    let one = declares_found q g i j d in
    let others = declare_found q g (routines_behind i d) (inner_behind j d) ds in
    well_then (well_declared q g i j entry d (left_of one others is))
    (well_declarations q g (routines_behind i d) (inner_behind j d) (entries_behind q g i entry d) ds (right_of one others is))

pub well_module : ModuleBeginsWell
well_module q g is =
    let es = module_entries q.unit g in
    let declared = declare_found q g 0 0 (declarations q.unit.tree.items) in
    let found = is_found_main es (outer_body q main) in
    let last = if holds_main q g then found else true in
    well_then (well_declarations q g 0 0 0 (declarations q.unit.tree.items) (left_of declared last is))
    (well_where (holds_main q g) found (main_at es (outer_body q main)) (right_of declared last is) (well_main_at es (outer_body q main)))

pub well_written : CodesBeginWell
well_written q g is = (well_module q g is).well (marks_before q g) []
