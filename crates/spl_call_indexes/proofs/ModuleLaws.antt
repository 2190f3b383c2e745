-- The calls in the code of bodies and of modules.
-- 1. what stands before and behind the statements of bodies calls nothing but TERMINATE      (indexed_entered, indexed_procedure ..)
-- 2. an entry that a name finds is one of the module's                                        (index_below)
-- 3. so the parts of a module have their indexes, and the code that they make                 (indexed_module, code_indexes)
use Rattle.std.proofs.Common.{◌≡◌, ◌<◌, ℕ, suc, ◌+◌, ◌/◌, ◌%◌, ◌==◌, ◌&&◌, nat_lt, nat_eq, min, ℤ, Bool, true, false, if◌then◌else◌, List, [], ◌∷◌, ◌++◌, length, replicate, codes, Option, Some, None, refl, sym, ap, ◌∙◌, arith}
use Rattle.std.specs.List.{list_all, slice_get}
use Rattle.std.proofs.lemmas.List.{length-map}
use Rattle.spl_module_code.specs.hp_word.Words.{word_of, double_of}
use Rattle.spl_module_code.specs.spl_tree.declared.expressions.Kind.{Kind}
use Rattle.spl_module_code.specs.spl_tree.declared.expressions.Kind.TheVariants as kind
use Rattle.spl_module_code.specs.spl_tree.DeclarationTrees as decl
use Rattle.spl_module_code.specs.spl_tree.DeclarationTrees.{Declaration, Declarations, declarations}
use Rattle.spl_module_code.specs.spl_meaning.Names.{Table, find, same_name}
use Rattle.spl_module_code.specs.spl_meaning.Tables.{Subroutine}
use Rattle.spl_module_code.specs.spl_meaning.Places as p
use Rattle.spl_module_code.specs.spl_meaning.Places.{Cell, Initial, cell_word, only}
use Rattle.spl_module_code.specs.spl_meaning.Pending.{formals_words}
use Rattle.spl_module_code.specs.spl_meaning.Bodies.{Body, Named, subroutine_body}
use Rattle.spl_module_code.specs.spl_branch.declared.pieces.Piece.{Piece}
use Rattle.spl_module_code.specs.spl_branch.declared.pieces.Piece.TheVariants.{Mark}
use Rattle.spl_module_code.specs.spl_branch.Pieces.{is_indexed}
use Rattle.spl_module_code.specs.spl_code.Parts.{Part, piece, nothing, wanted_of}
use Rattle.spl_module_code.specs.spl_code.Constants.{constant}
use Rattle.spl_module_code.specs.spl_code.Operands.{mode_of}
use Rattle.spl_module_code.specs.spl_code.Instructions.{STOR}
use Rattle.spl_module_code.specs.spl_code.Stores.{store}
use Rattle.spl_module_code.specs.spl_statement_code.Landings.{Landing}
use Rattle.spl_module_code.specs.spl_body_code.Frames.{ROOM, ADDS, granted, zeroed, last_zeros}
use Rattle.spl_module_code.specs.spl_body_code.Cells.{LADD, base_pushed, cell_from, viewed, cell_set, cells_set, value_pushed, first_set, initial_set, initials_set}
use Rattle.spl_module_code.specs.spl_body_code.Bodies.{Frame, frame_of, mode_entered, procedure_entered, procedure_left, procedure_code, subroutine_left, subroutine_code, main_code}
use Rattle.spl_module_code.specs.spl_scopes.Entries.{Owner, main, routine, Entry, Callee, is_callable, is_inner, indexes, module_entries, routines_behind}
use Rattle.spl_module_code.specs.spl_scopes.Scopes.{Placed, routine_bodies, outer_body}
use Rattle.spl_module_code.specs.spl_modules.Made.{made_of, made_from}
use Rattle.spl_module_code.specs.LabelsOfBodies.{Label, labels_among, with_landings}
use Rattle.spl_module_code.specs.Bodies.{statements_scope, context_of, body_statements, subroutine_part, subroutine_parts, routine_part}
use Rattle.spl_module_code.specs.Modules.{inner_behind, routine_at, inner_with, inner_at, entries_behind, declared_part, declared_parts, holds_main, main_at, marks_before, module_written}
use Rattle.spl_call_indexes.specs.Indexes.{IsIndexedPart, EntriesBelow}
use Rattle.spl_call_indexes.specs.Laws.{BodyStatementsAreIndexed, ModuleIsIndexed, CodesHaveIndexes}
use Rattle.spl_call_indexes.proofs.PartLaws.{Plain, plain_both, plain_if, plain_rows, indexed_pieces, indexed_then, indexed_fresh, indexed_if, indexed_want}
use Rattle.spl_call_indexes.proofs.ExpressionLaws.{plain_constant, plain_double}
use Rattle.spl_call_indexes.proofs.StatementLaws.{indexed_listed}

one : {n : ℕ} (x : Piece) → Plain (x ∷ []) → IsIndexedPart n (piece x)
one x plain = indexed_pieces (x ∷ []) plain

-- ---- 1. around the statements of bodies

plain_granted : (words : ℕ) → Plain (granted words)
plain_granted words =
    plain_if (nat_lt 0 words && nat_lt words 256) (ROOM words ∷ []) (constant (min words 65535) ++ ROOM 0 ∷ []) (λ m n. refl)
    (plain_both (constant (min words 65535)) (ROOM 0 ∷ []) (plain_constant (min words 65535)) (λ m n. refl))

plain_zeroed : (words : ℕ) → Plain (zeroed words)
plain_zeroed words =
    plain_both (replicate (words / 255) (ADDS 255)) (last_zeros (words % 255)) (plain_rows (words / 255) (ADDS 255) (λ m n. refl))
    (plain_if (words % 255 == 0) [] (ADDS (words % 255) ∷ []) (λ m n. refl) (λ m n. refl))

plain_base : (k : Kind) → Plain (base_pushed k)
plain_base kind.Integer = λ m n. refl
plain_base kind.Logical = λ m n. refl
plain_base kind.Byte = λ m n. refl
plain_base kind.Double = λ m n. refl

plain_from : (from : p.Place) (k : Kind) (low : ℤ) → Plain (cell_from from k low)
plain_from (p.data_word address) k low = plain_constant (cell_word k low address)
plain_from (p.above_base above) k low =
    plain_both (base_pushed k ++ constant (cell_word k low above)) (LADD ∷ [])
    (plain_both (base_pushed k) (constant (cell_word k low above)) (plain_base k) (plain_constant (cell_word k low above))) (λ m n. refl)
plain_from (p.below_base below) k low = λ m n. refl
plain_from (p.below_return below) k low = λ m n. refl

plain_viewed : (b : Bool) → Plain (viewed b)
plain_viewed true = λ m n. refl
plain_viewed false = λ m n. refl

plain_cell : (c : Cell) → Plain (cell_set c)
plain_cell c =
    plain_both (cell_from c.array.from c.array.kind c.array.low ++ viewed c.as_bytes) (STOR false false (mode_of 0 c.place) ∷ [])
    (plain_both (cell_from c.array.from c.array.kind c.array.low) (viewed c.as_bytes) (plain_from c.array.from c.array.kind c.array.low) (plain_viewed c.as_bytes))
    (λ m n. refl)

plain_cells : (cs : List Cell) → Plain (cells_set cs)
plain_cells [] = λ m n. refl
plain_cells (c ∷ cs) = plain_both (cell_set c) (cells_set cs) (plain_cell c) (plain_cells cs)

plain_value : (k : Kind) (v : ℤ) → Plain (value_pushed k v)
plain_value kind.Integer v = plain_constant (word_of v)
plain_value kind.Logical v = plain_constant (word_of v)
plain_value kind.Byte v = plain_constant (word_of v % 256)
plain_value kind.Double v = plain_double (double_of v)

plain_store : (k : Kind) (at : p.Place) → Plain (store k false false (mode_of 0 at) ∷ [])
plain_store kind.Integer at = λ m n. refl
plain_store kind.Logical at = λ m n. refl
plain_store kind.Byte at = λ m n. refl
plain_store kind.Double at = λ m n. refl

plain_first : (from : p.Place) (k : Kind) (vs : List ℤ) → Plain (first_set from k vs)
plain_first from k [] = λ m n. refl
plain_first from k (v ∷ vs) = plain_both (value_pushed k v) (store k false false (mode_of 0 from) ∷ []) (plain_value k v) (plain_store k from)

plain_initials : (is : List Initial) → Plain (initials_set is)
plain_initials [] = λ m n. refl
plain_initials (i ∷ is) = plain_both (initial_set i) (initials_set is) (plain_first i.from i.kind i.values) (plain_initials is)

plain_mode : (b : Bool) → Plain (mode_entered b)
plain_mode true = λ m n. refl
plain_mode false = λ m n. refl

plain_entered : (f : Frame) → Plain (procedure_entered f)
plain_entered f =
    let a = granted (f.words + f.room) in
    let b = zeroed f.words in
    let c = cells_set f.cells in
    let d = initials_set f.initials in
    plain_both (a ++ b ++ c ++ d) (mode_entered f.split)
    (plain_both (a ++ b ++ c) d (plain_both (a ++ b) c (plain_both a b (plain_granted (f.words + f.room)) (plain_zeroed f.words)) (plain_cells f.cells)) (plain_initials f.initials))
    (plain_mode f.split)

plain_left : (split : Bool) (words : ℕ) → Plain (procedure_left split words)
plain_left true words = λ m n. refl
plain_left false words = λ m n. refl

indexed_procedure : {n : ℕ} (b : Body) (mark : ℕ) (statements : ℕ → Part) → ((leave : ℕ) → IsIndexedPart n (statements leave)) → IsIndexedPart n (procedure_code b mark statements)
indexed_procedure b mark statements h = indexed_fresh _ (λ leave.
    indexed_then (indexed_then (indexed_then (indexed_then (one (Mark mark) (λ m n. refl)) (indexed_pieces (procedure_entered (frame_of b)) (plain_entered (frame_of b)))) (h leave))
    (one (Mark leave) (λ m n. refl)))
    (indexed_pieces (procedure_left b.here.setting.split (formals_words b.profile.formals)) (plain_left b.here.setting.split (formals_words b.profile.formals))))

indexed_subroutine : {n : ℕ} (b : Body) (mark : ℕ) (statement : ℕ → Part) → ((leave : ℕ) → IsIndexedPart n (statement leave)) → IsIndexedPart n (subroutine_code b mark statement)
indexed_subroutine b mark statement h = indexed_fresh _ (λ leave.
    indexed_then (indexed_then (indexed_then (indexed_then (one (Mark mark) (λ m n. refl)) (indexed_pieces (granted b.depth') (plain_granted b.depth'))) (h leave))
    (one (Mark leave) (λ m n. refl))) (indexed_pieces (subroutine_left (formals_words b.profile.formals)) (λ m n. refl)))

indexed_main : {n : ℕ} (b : Body) (mark : ℕ) (statements : Part) → IsIndexedPart n statements → IsIndexedPart n (main_code b mark statements)
indexed_main b mark statements h =
    indexed_then (indexed_then (indexed_then (one (Mark mark) (λ m n. refl)) (indexed_pieces (granted b.depth') (plain_granted b.depth'))) h) (indexed_want (codes "TERMINATE") true)

-- ---- 2. entries by name

-- an entry, and those behind it
below_in : (b same : Bool) (k found : ℕ) (x name : List ℕ) (es : Table ℕ) (count : ℕ) → same ≡ same_name x name
    → (find es x ≡ Some found → found < suc k + count) → find (only b (name, k) ++ es) x ≡ Some found → found < k + suc count
below_in false same k found x name es count is later at = let below = later at in omega arith
below_in true same k found x name es count is later at = by same (ap (λ (b : Bool). if b then Some k else find es x) is ∙ at)
  where
    by : (b : Bool) → (if b then Some k else find es x) ≡ Some found → found < k + suc count
    by true here = let same_one : k ≡ found = cc in omega arith
    by false there = let below = later there in omega arith

-- the indexes of entries are below the one behind the last
index_below : (passes : Callee → Bool) (k : ℕ) (es : List Entry) (x : List ℕ) (found : ℕ) → find (indexes passes k es) x ≡ Some found → found < k + length es
index_below passes k [] x found is = cc
index_below passes k (e ∷ es) x found is =
    below_in (passes e.callee) (same_name x e.name) k found x e.name (indexes passes (suc k) es) (length es) refl
    (λ at. index_below passes (suc k) es x found at) is

below_all : (n found : ℕ) → found < 0 + n → found < n
below_all n found below = omega arith

entries_below : (es : List Entry) (o : Owner) (b : Body) → EntriesBelow (length es) (statements_scope es o b)
entries_below es o b = record {
  procedures = λ x found is. below_all (length es) found (index_below is_callable 0 es x found is);
  subroutines = λ x found is. below_all (length es) found (index_below (is_inner o) 0 es x found is);
}

-- ---- 3. bodies and modules

indexed_landings : {n : ℕ} (xs : List Label) (part : Table Landing → Part) → ((t : Table Landing) → IsIndexedPart n (part t)) → IsIndexedPart n (with_landings xs part)
indexed_landings [] part h = h []
indexed_landings (x ∷ xs) part h =
    indexed_fresh _ (λ mark. indexed_landings xs (λ t. part ((x.name, record { mark = mark; pending = x.pending }) ∷ t)) (λ t. h ((x.name, record { mark = mark; pending = x.pending }) ∷ t)))

pub indexed_statements : BodyStatementsAreIndexed
indexed_statements es o b leave =
    indexed_landings (labels_among b.statements 0) _
    (λ labels. indexed_listed (length es) (context_of es o b labels leave) (entries_below es o b) b.statements 0)

indexed_subroutine_part : (es : List Entry) (o : Owner) (b : Body) (entry : ℕ) (s : Subroutine) → IsIndexedPart (length es) (subroutine_part es o b entry s)
indexed_subroutine_part es o b entry s =
    indexed_subroutine (subroutine_body b s) entry (body_statements es o (subroutine_body b s)) (λ leave. indexed_statements es o (subroutine_body b s) leave)

indexed_subroutine_parts : (es : List Entry) (o : Owner) (b : Body) (entry : ℕ) (ss : List Subroutine) → IsIndexedPart (length es) (subroutine_parts es o b entry ss)
indexed_subroutine_parts es o b entry [] = indexed_pieces [] (λ m n. refl)
indexed_subroutine_parts es o b entry (s ∷ ss) = indexed_then (indexed_subroutine_part es o b entry s) (indexed_subroutine_parts es o b (suc entry) ss)

indexed_routine_part : (es : List Entry) (i entry : ℕ) (b : Named) → IsIndexedPart (length es) (routine_part es i entry b)
indexed_routine_part es i entry b =
    indexed_then (indexed_subroutine_parts es (routine i) b.body (suc entry) b.body.subroutines)
    (indexed_procedure b.body entry (body_statements es (routine i) b.body) (λ leave. indexed_statements es (routine i) b.body leave))

indexed_routine_at : (es : List Entry) (i entry : ℕ) (o : Option Named) → IsIndexedPart (length es) (routine_at es i entry o)
indexed_routine_at es i entry None = indexed_pieces [] (λ m n. refl)
indexed_routine_at es i entry (Some b) = indexed_routine_part es i entry b

indexed_inner_with : (es : List Entry) (b : Body) (entry : ℕ) (o : Option Subroutine) → IsIndexedPart (length es) (inner_with es b entry o)
indexed_inner_with es b entry None = indexed_pieces [] (λ m n. refl)
indexed_inner_with es b entry (Some s) = indexed_subroutine_part es main b entry s

indexed_inner_at : (es : List Entry) (j entry : ℕ) (o : Option Body) → IsIndexedPart (length es) (inner_at es j entry o)
indexed_inner_at es j entry None = indexed_pieces [] (λ m n. refl)
indexed_inner_at es j entry (Some b) = indexed_inner_with es b entry (slice_get b.subroutines j)

pub indexed_main_at : (es : List Entry) (o : Option Body) → IsIndexedPart (length es) (main_at es o)
indexed_main_at es None = indexed_pieces [] (λ m n. refl)
indexed_main_at es (Some b) = indexed_main b (length es) (body_statements es main b (length es)) (indexed_statements es main b (length es))

indexed_declared : (q : Placed) (g i j entry : ℕ) (d : Declaration) → IsIndexedPart (length (module_entries q.unit g)) (declared_part q g i j entry d)
indexed_declared q g i j entry (decl.Declaration.procedure h items ss) =
    indexed_if (nat_eq h.segment g) _ nothing (indexed_routine_at (module_entries q.unit g) i entry (slice_get (routine_bodies q) i)) (indexed_pieces [] (λ m n. refl))
indexed_declared q g i j entry (decl.Declaration.subroutine h s) =
    indexed_if (nat_eq q.unit.tree.segment g) _ nothing (indexed_inner_at (module_entries q.unit g) j entry (outer_body q main)) (indexed_pieces [] (λ m n. refl))
indexed_declared q g i j entry (decl.Declaration.data_items own k items) = indexed_pieces [] (λ m n. refl)
indexed_declared q g i j entry (decl.Declaration.equate es) = indexed_pieces [] (λ m n. refl)
indexed_declared q g i j entry (decl.Declaration.intrinsic xs) = indexed_pieces [] (λ m n. refl)
indexed_declared q g i j entry (decl.Declaration.label xs) = indexed_pieces [] (λ m n. refl)
indexed_declared q g i j entry (decl.Declaration.forward h) = indexed_pieces [] (λ m n. refl)
indexed_declared q g i j entry (decl.Declaration.external h) = indexed_pieces [] (λ m n. refl)

pub indexed_declarations : (q : Placed) (g i j entry : ℕ) (ds : Declarations) → IsIndexedPart (length (module_entries q.unit g)) (declared_parts q g i j entry ds)
indexed_declarations q g i j entry decl.none = indexed_pieces [] (λ m n. refl)
indexed_declarations q g i j entry (decl.and d ds) =
    indexed_then (indexed_declared q g i j entry d) (indexed_declarations q g (routines_behind i d) (inner_behind j d) (entries_behind q g i entry d) ds)

pub indexed_module : ModuleIsIndexed
indexed_module q g =
    indexed_then (indexed_declarations q g 0 0 0 (declarations q.unit.tree.items))
    (indexed_if (holds_main q g) _ nothing (indexed_main_at (module_entries q.unit g) (outer_body q main)) (indexed_pieces [] (λ m n. refl)))

length_made : (k : ℕ) (es : List Entry) → length (made_from k es) ≡ length es
length_made k [] = refl
length_made k (e ∷ es) = ap suc (length_made (suc k) es)

pub code_indexes : CodesHaveIndexes
code_indexes q name g c is =
    let es = module_entries q.unit g in
    let written = module_written q g in
    let wants : length written.wants ≡ length c.wants.items = ap length (sym is.wants) ∙ length-map c.wants.items wanted_of in
    let entries : length es ≡ length c.entries.items =
    sym (length_made 0 es) ∙ ap length (sym is.entries) ∙ length-map c.entries.items made_of in
    ap (list_all (is_indexed (length c.wants.items) (length c.entries.items))) is.pieces
    ∙ ap (λ (w : ℕ). list_all (is_indexed w (length c.entries.items)) written.pieces) (sym wants)
    ∙ ap (λ (k : ℕ). list_all (is_indexed (length written.wants) k) written.pieces) (sym entries)
    ∙ (indexed_module q g).calls (marks_before q g) []
