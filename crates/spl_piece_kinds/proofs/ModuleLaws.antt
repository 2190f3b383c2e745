-- The pieces of the code of bodies and of modules.
-- 1. what stands before and behind the statements of bodies      (kinds_entered, kinds_procedure ..)
-- 2. body by body, the parts of a module                          (kinds_module, kinds_written)
use Rattle.std.proofs.Common.{ℕ, suc, ◌+◌, ◌/◌, ◌%◌, ◌==◌, ◌&&◌, nat_lt, nat_eq, min, ℤ, Bool, true, false, List, [], ◌∷◌, ◌++◌, length, replicate, codes, Option, Some, None, refl}
use Rattle.std.specs.List.{slice_get}
use Rattle.spl_module_code.specs.hp_word.Words.{word_of, double_of}
use Rattle.spl_module_code.specs.spl_tree.declared.expressions.Kind.{Kind}
use Rattle.spl_module_code.specs.spl_tree.declared.expressions.Kind.TheVariants as kind
use Rattle.spl_module_code.specs.spl_tree.DeclarationTrees as decl
use Rattle.spl_module_code.specs.spl_tree.DeclarationTrees.{Declaration, Declarations, declarations}
use Rattle.spl_module_code.specs.spl_meaning.Names.{Table}
use Rattle.spl_module_code.specs.spl_meaning.Tables.{Subroutine}
use Rattle.spl_module_code.specs.spl_meaning.Places as p
use Rattle.spl_module_code.specs.spl_meaning.Places.{Cell, Initial, cell_word}
use Rattle.spl_module_code.specs.spl_meaning.Pending.{formals_words}
use Rattle.spl_module_code.specs.spl_meaning.Bodies.{Body, Named, subroutine_body}
use Rattle.spl_module_code.specs.spl_branch.declared.pieces.Piece.{Piece}
use Rattle.spl_module_code.specs.spl_branch.declared.pieces.Piece.TheVariants.{Mark}
use Rattle.spl_module_code.specs.spl_code.Parts.{Part, piece, nothing}
use Rattle.spl_module_code.specs.spl_code.Constants.{constant}
use Rattle.spl_module_code.specs.spl_code.Operands.{mode_of}
use Rattle.spl_module_code.specs.spl_code.Instructions.{STOR}
use Rattle.spl_module_code.specs.spl_code.Stores.{store}
use Rattle.spl_module_code.specs.spl_statement_code.Landings.{Landing}
use Rattle.spl_module_code.specs.spl_body_code.Frames.{ROOM, ADDS, granted, zeroed, last_zeros}
use Rattle.spl_module_code.specs.spl_body_code.Cells.{LADD, base_pushed, cell_from, viewed, cell_set, cells_set, value_pushed, first_set, initial_set, initials_set}
use Rattle.spl_module_code.specs.spl_body_code.Bodies.{Frame, frame_of, mode_entered, procedure_entered, procedure_left, procedure_code, subroutine_left, subroutine_code, main_code}
use Rattle.spl_module_code.specs.spl_scopes.Entries.{Owner, main, routine, Entry, module_entries, routines_behind}
use Rattle.spl_module_code.specs.spl_scopes.Scopes.{Placed, routine_bodies, outer_body}
use Rattle.spl_module_code.specs.LabelsOfBodies.{Label, labels_among, with_landings}
use Rattle.spl_module_code.specs.Bodies.{context_of, body_statements, subroutine_part, subroutine_parts, routine_part}
use Rattle.spl_module_code.specs.Modules.{inner_behind, routine_at, inner_with, inner_at, entries_behind, declared_part, declared_parts, holds_main, main_at, marks_before}
use Rattle.spl_piece_kinds.specs.Kinds.{HasKinds}
use Rattle.spl_piece_kinds.specs.Laws.{BodyStatementsHaveKinds, ModuleHasKinds, CodesHaveKinds}
use Rattle.spl_piece_kinds.proofs.PartLaws.{Plain, plain_both, plain_if, plain_rows, kinds_pieces, kinds_then, kinds_fresh, kinds_if, kinds_want}
use Rattle.spl_piece_kinds.proofs.ExpressionLaws.{plain_constant, plain_double}
use Rattle.spl_piece_kinds.proofs.StatementLaws.{kinds_listed}

one : (x : Piece) → Plain (x ∷ []) → HasKinds (piece x)
one x plain = kinds_pieces (x ∷ []) plain

-- ---- 1. around the statements of bodies

plain_granted : (words : ℕ) → Plain (granted words)
plain_granted words =
    plain_if (nat_lt 0 words && nat_lt words 256) (ROOM words ∷ []) (constant (min words 65535) ++ ROOM 0 ∷ []) refl
    (plain_both (constant (min words 65535)) (ROOM 0 ∷ []) (plain_constant (min words 65535)) refl)

plain_zeroed : (words : ℕ) → Plain (zeroed words)
plain_zeroed words =
    plain_both (replicate (words / 255) (ADDS 255)) (last_zeros (words % 255)) (plain_rows (words / 255) (ADDS 255) refl)
    (plain_if (words % 255 == 0) [] (ADDS (words % 255) ∷ []) refl refl)

plain_base : (k : Kind) → Plain (base_pushed k)
plain_base kind.Integer = refl
plain_base kind.Logical = refl
plain_base kind.Byte = refl
plain_base kind.Double = refl

plain_from : (from : p.Place) (k : Kind) (low : ℤ) → Plain (cell_from from k low)
plain_from (p.data_word address) k low = plain_constant (cell_word k low address)
plain_from (p.above_base above) k low =
    plain_both (base_pushed k ++ constant (cell_word k low above)) (LADD ∷ [])
    (plain_both (base_pushed k) (constant (cell_word k low above)) (plain_base k) (plain_constant (cell_word k low above))) refl
plain_from (p.below_base below) k low = refl
plain_from (p.below_return below) k low = refl

plain_viewed : (b : Bool) → Plain (viewed b)
plain_viewed true = refl
plain_viewed false = refl

plain_cell : (c : Cell) → Plain (cell_set c)
plain_cell c =
    plain_both (cell_from c.array.from c.array.kind c.array.low ++ viewed c.as_bytes) (STOR false false (mode_of 0 c.place) ∷ [])
    (plain_both (cell_from c.array.from c.array.kind c.array.low) (viewed c.as_bytes) (plain_from c.array.from c.array.kind c.array.low) (plain_viewed c.as_bytes))
    refl

plain_cells : (cs : List Cell) → Plain (cells_set cs)
plain_cells [] = refl
plain_cells (c ∷ cs) = plain_both (cell_set c) (cells_set cs) (plain_cell c) (plain_cells cs)

plain_value : (k : Kind) (v : ℤ) → Plain (value_pushed k v)
plain_value kind.Integer v = plain_constant (word_of v)
plain_value kind.Logical v = plain_constant (word_of v)
plain_value kind.Byte v = plain_constant (word_of v % 256)
plain_value kind.Double v = plain_double (double_of v)

plain_store : (k : Kind) (at : p.Place) → Plain (store k false false (mode_of 0 at) ∷ [])
plain_store kind.Integer at = refl
plain_store kind.Logical at = refl
plain_store kind.Byte at = refl
plain_store kind.Double at = refl

plain_first : (from : p.Place) (k : Kind) (vs : List ℤ) → Plain (first_set from k vs)
plain_first from k [] = refl
plain_first from k (v ∷ vs) = plain_both (value_pushed k v) (store k false false (mode_of 0 from) ∷ []) (plain_value k v) (plain_store k from)

plain_initials : (is : List Initial) → Plain (initials_set is)
plain_initials [] = refl
plain_initials (i ∷ is) = plain_both (initial_set i) (initials_set is) (plain_first i.from i.kind i.values) (plain_initials is)

plain_mode : (b : Bool) → Plain (mode_entered b)
plain_mode true = refl
plain_mode false = refl

plain_entered : (f : Frame) → Plain (procedure_entered f)
plain_entered f =
    let a = granted (f.words + f.room) in
    let b = zeroed f.words in
    let c = cells_set f.cells in
    let d = initials_set f.initials in
    plain_both (a ++ b ++ c ++ d) (mode_entered f.split)
    (plain_both (a ++ b ++ c) d (plain_both (a ++ b) c (plain_both a b (plain_granted (f.words + f.room)) (plain_zeroed f.words)) (plain_cells f.cells)) (plain_initials f.initials))
    (plain_mode f.split)

plain_left : (split : Bool) (words : ℕ) → Plain (procedure_left split words)
plain_left true words = refl
plain_left false words = refl

kinds_procedure : (b : Body) (mark : ℕ) (statements : ℕ → Part) → ((leave : ℕ) → HasKinds (statements leave)) → HasKinds (procedure_code b mark statements)
kinds_procedure b mark statements h = kinds_fresh _ (λ leave.
    kinds_then (kinds_then (kinds_then (kinds_then (one (Mark mark) refl) (kinds_pieces (procedure_entered (frame_of b)) (plain_entered (frame_of b)))) (h leave))
    (one (Mark leave) refl))
    (kinds_pieces (procedure_left b.here.setting.split (formals_words b.profile.formals)) (plain_left b.here.setting.split (formals_words b.profile.formals))))

kinds_subroutine : (b : Body) (mark : ℕ) (statement : ℕ → Part) → ((leave : ℕ) → HasKinds (statement leave)) → HasKinds (subroutine_code b mark statement)
kinds_subroutine b mark statement h = kinds_fresh _ (λ leave.
    kinds_then (kinds_then (kinds_then (kinds_then (one (Mark mark) refl) (kinds_pieces (granted b.depth') (plain_granted b.depth'))) (h leave))
    (one (Mark leave) refl)) (kinds_pieces (subroutine_left (formals_words b.profile.formals)) refl))

kinds_main : (b : Body) (mark : ℕ) (statements : Part) → HasKinds statements → HasKinds (main_code b mark statements)
kinds_main b mark statements h =
    kinds_then (kinds_then (kinds_then (one (Mark mark) refl) (kinds_pieces (granted b.depth') (plain_granted b.depth'))) h) (kinds_want (codes "TERMINATE") true)

-- ---- 2. bodies and modules

kinds_landings : (xs : List Label) (part : Table Landing → Part) → ((t : Table Landing) → HasKinds (part t)) → HasKinds (with_landings xs part)
kinds_landings [] part h = h []
kinds_landings (x ∷ xs) part h =
    kinds_fresh _ (λ mark. kinds_landings xs (λ t. part ((x.name, record { mark = mark; pending = x.pending }) ∷ t)) (λ t. h ((x.name, record { mark = mark; pending = x.pending }) ∷ t)))

pub kinds_statements : BodyStatementsHaveKinds
kinds_statements es o b leave =
    kinds_landings (labels_among b.statements 0) _
    (λ labels. kinds_listed (context_of es o b labels leave) b.statements 0)

kinds_subroutine_part : (es : List Entry) (o : Owner) (b : Body) (entry : ℕ) (s : Subroutine) → HasKinds (subroutine_part es o b entry s)
kinds_subroutine_part es o b entry s =
    kinds_subroutine (subroutine_body b s) entry (body_statements es o (subroutine_body b s)) (λ leave. kinds_statements es o (subroutine_body b s) leave)

kinds_subroutine_parts : (es : List Entry) (o : Owner) (b : Body) (entry : ℕ) (ss : List Subroutine) → HasKinds (subroutine_parts es o b entry ss)
kinds_subroutine_parts es o b entry [] = kinds_pieces [] refl
kinds_subroutine_parts es o b entry (s ∷ ss) = kinds_then (kinds_subroutine_part es o b entry s) (kinds_subroutine_parts es o b (suc entry) ss)

kinds_routine_part : (es : List Entry) (i entry : ℕ) (b : Named) → HasKinds (routine_part es i entry b)
kinds_routine_part es i entry b =
    kinds_then (kinds_subroutine_parts es (routine i) b.body (suc entry) b.body.subroutines)
    (kinds_procedure b.body entry (body_statements es (routine i) b.body) (λ leave. kinds_statements es (routine i) b.body leave))

kinds_routine_at : (es : List Entry) (i entry : ℕ) (o : Option Named) → HasKinds (routine_at es i entry o)
kinds_routine_at es i entry None = kinds_pieces [] refl
kinds_routine_at es i entry (Some b) = kinds_routine_part es i entry b

kinds_inner_with : (es : List Entry) (b : Body) (entry : ℕ) (o : Option Subroutine) → HasKinds (inner_with es b entry o)
kinds_inner_with es b entry None = kinds_pieces [] refl
kinds_inner_with es b entry (Some s) = kinds_subroutine_part es main b entry s

kinds_inner_at : (es : List Entry) (j entry : ℕ) (o : Option Body) → HasKinds (inner_at es j entry o)
kinds_inner_at es j entry None = kinds_pieces [] refl
kinds_inner_at es j entry (Some b) = kinds_inner_with es b entry (slice_get b.subroutines j)

kinds_main_at : (es : List Entry) (o : Option Body) → HasKinds (main_at es o)
kinds_main_at es None = kinds_pieces [] refl
kinds_main_at es (Some b) = kinds_main b (length es) (body_statements es main b (length es)) (kinds_statements es main b (length es))

kinds_declared : (q : Placed) (g i j entry : ℕ) (d : Declaration) → HasKinds (declared_part q g i j entry d)
kinds_declared q g i j entry (decl.Declaration.procedure h items ss) =
    kinds_if (nat_eq h.segment g) _ nothing (kinds_routine_at (module_entries q.unit g) i entry (slice_get (routine_bodies q) i)) (kinds_pieces [] refl)
kinds_declared q g i j entry (decl.Declaration.subroutine h s) =
    kinds_if (nat_eq q.unit.tree.segment g) _ nothing (kinds_inner_at (module_entries q.unit g) j entry (outer_body q main)) (kinds_pieces [] refl)
kinds_declared q g i j entry (decl.Declaration.data_items own k items) = kinds_pieces [] refl
kinds_declared q g i j entry (decl.Declaration.equate es) = kinds_pieces [] refl
kinds_declared q g i j entry (decl.Declaration.intrinsic xs) = kinds_pieces [] refl
kinds_declared q g i j entry (decl.Declaration.label xs) = kinds_pieces [] refl
kinds_declared q g i j entry (decl.Declaration.forward h) = kinds_pieces [] refl
kinds_declared q g i j entry (decl.Declaration.external h) = kinds_pieces [] refl

kinds_declarations : (q : Placed) (g i j entry : ℕ) (ds : Declarations) → HasKinds (declared_parts q g i j entry ds)
kinds_declarations q g i j entry decl.none = kinds_pieces [] refl
kinds_declarations q g i j entry (decl.and d ds) =
    kinds_then (kinds_declared q g i j entry d) (kinds_declarations q g (routines_behind i d) (inner_behind j d) (entries_behind q g i entry d) ds)

pub kinds_module : ModuleHasKinds
kinds_module q g =
    kinds_then (kinds_declarations q g 0 0 0 (declarations q.unit.tree.items))
    (kinds_if (holds_main q g) _ nothing (kinds_main_at (module_entries q.unit g) (outer_body q main)) (kinds_pieces [] refl))

pub kinds_written : CodesHaveKinds
kinds_written q g = (kinds_module q g).kinds (marks_before q g) []
