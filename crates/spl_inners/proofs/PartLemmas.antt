-- The code of a subroutine among that of its module.
-- 1. what parts want                                                  (keeps_then, parts_keep)
-- 2. that of a subroutine of a main body, and of a procedure, within its module's   (main_part_in, routine_part_in)
-- 3. and its pieces there                                             (InnerPieces, inner_pieces)
use Rattle.std.proofs.Common.{◌≡◌, ℕ, zero, suc, ◌+◌, Bool, List, [], ◌∷◌, ◌++◌, length, Option, Some, inl, inr, refl, sym, ap, subst, ◌∙◌, arith, append_assoc, append-nil}
use Rattle.std.specs.Prelude.{slice_get, if◌then◌else◌}
use Rattle.std.proofs.lemmas.Bool.{eq-eqb}
use Rattle.spl_routes.specs.spl_tree.DeclarationTrees as decl
use Rattle.spl_routes.specs.spl_tree.DeclarationTrees.{Declaration, Declarations, declarations}
use Rattle.spl_routes.specs.spl_meaning.Names.{Table}
use Rattle.spl_routes.specs.spl_meaning.Pending.{formals_words}
use Rattle.spl_routes.specs.spl_meaning.Bodies.{Body, Named, subroutine_body}
use Rattle.spl_routes.specs.spl_meaning.Laws.{IsFront}
use Rattle.spl_routes.specs.spl_meaning.Tables.{Subroutine}
use Rattle.spl_routes.specs.spl_branch.declared.pieces.Piece.{Piece}
use Rattle.spl_routes.specs.spl_branch.declared.pieces.Piece.TheVariants.{Mark}
use Rattle.spl_routes.specs.spl_code.Parts.{Part, Wanted, Written, pieces, piece, nothing, ◌⨟◌}
use Rattle.spl_routes.specs.spl_statement_code.Landings.{Landing}
use Rattle.spl_routes.specs.spl_statement_code.Statements.{listed}
use Rattle.spl_routes.specs.spl_body_code.Frames.{granted}
use Rattle.spl_routes.specs.spl_body_code.Bodies.{frame_of, procedure_entered, procedure_left, procedure_code, subroutine_left}
use Rattle.spl_routes.specs.spl_scopes.Entries.{Owner, main, routine, Entry, module_entries, routines_behind}
use Rattle.spl_routes.specs.spl_scopes.Scopes.{Placed, routine_bodies, outer_body}
use Rattle.spl_routes.specs.spl_module_code.LabelsOfBodies.{labels_among}
use Rattle.spl_routes.specs.spl_module_code.Bodies.{context_of, body_statements, subroutine_part, subroutine_parts, routine_part}
use Rattle.spl_routes.specs.spl_module_code.Modules.{inner_behind, inner_at, inner_with, entries_behind, declared_part, declared_parts, holds_main, main_at, marks_before, module_written}
use Rattle.spl_routes.proofs.spl_label_marks_proofs.LabelParts.{landed_part}
use Rattle.spl_routes.proofs.spl_call_indexes_proofs.ModuleLaws.{indexed_statements}
use Rattle.spl_routes.proofs.spl_routines_proofs.EntryLemmas.{ProcedureIn}
use Rattle.spl_routes.proofs.spl_routines_proofs.PartLemmas.{PartIn, KeepsWants, front_on, in_first, in_front, in_second, in_part, declarations_keep, main_keeps, module_in}
use Rattle.spl_routes.proofs.spl_routines_proofs.ListLemmas.{one_there}
use Rattle.spl_inners.specs.Inners.{inner_context}
use Rattle.spl_inners.proofs.EntryLemmas.{IsInner, InnerIn}

-- ---- 1. what parts want

pieces_keep : (xs : List Piece) → KeepsWants (pieces xs)
pieces_keep xs l ws = record { rest = []; is = sym (append-nil ws) }

keeps_then : (p r : Part) → KeepsWants p → KeepsWants r → KeepsWants (p ⨟ r)
keeps_then p r one two l ws = front_on ws (p l ws).wants ((p ⨟ r) l ws).wants (one l ws) (two (l + (p l ws).marks) (p l ws).wants)

statements_keep : (es : List Entry) (o : Owner) (b : Body) (leave : ℕ) → KeepsWants (body_statements es o b leave)
statements_keep es o b leave l ws = (indexed_statements es o b leave).keeps l ws

-- code around statements
around_keeps : (entry leave : Piece) (enter left : List Piece) (statements : Part) → KeepsWants statements
    → KeepsWants (piece entry ⨟ pieces enter ⨟ statements ⨟ piece leave ⨟ pieces left)
around_keeps entry leave enter left statements keeps =
    keeps_then (piece entry ⨟ pieces enter ⨟ statements ⨟ piece leave) (pieces left)
    (keeps_then (piece entry ⨟ pieces enter ⨟ statements) (piece leave)
    (keeps_then (piece entry ⨟ pieces enter) statements (keeps_then (piece entry) (pieces enter) (pieces_keep (entry ∷ [])) (pieces_keep enter)) keeps)
    (pieces_keep (leave ∷ []))) (pieces_keep left)

procedure_keeps : (es : List Entry) (o : Owner) (b : Body) (entry : ℕ) → KeepsWants (procedure_code b entry (body_statements es o b))
procedure_keeps es o b entry l ws =
    around_keeps (Mark entry) (Mark l) (procedure_entered (frame_of b)) (procedure_left b.here.setting.split (formals_words b.profile.formals)) (body_statements es o b l)
    (statements_keep es o b l) (suc l) ws

part_keeps : (es : List Entry) (o : Owner) (b : Body) (entry : ℕ) (s : Subroutine) → KeepsWants (subroutine_part es o b entry s)
part_keeps es o b entry s l ws =
    let inner = subroutine_body b s in
    around_keeps (Mark entry) (Mark l) (granted inner.depth') (subroutine_left (formals_words inner.profile.formals)) (body_statements es o inner l)
    (statements_keep es o inner l) (suc l) ws

parts_keep : (es : List Entry) (o : Owner) (b : Body) (entry : ℕ) (ss : List Subroutine) → KeepsWants (subroutine_parts es o b entry ss)
parts_keep es o b entry [] l ws = pieces_keep [] l ws
parts_keep es o b entry (s ∷ ss) l ws =
    keeps_then (subroutine_part es o b entry s) (subroutine_parts es o b (suc entry) ss) (part_keeps es o b entry s) (parts_keep es o b (suc entry) ss) l ws

-- ---- 2. subroutines

-- of a main body: the declaration that it is
own_part : (q : Placed) (i k : ℕ) (b : Body) (s : Subroutine) → outer_body q main ≡ Some b → slice_get b.subroutines i ≡ Some s → (n j entry : ℕ) (d : Declaration)
    → IsInner i k j entry d
    → declared_part q q.unit.tree.segment n j entry d ≡ subroutine_part (module_entries q.unit q.unit.tree.segment) main b k s
own_part q i k b s body there n j entry (decl.Declaration.subroutine h t) is =
    let es : List Entry = module_entries q.unit q.unit.tree.segment in
    ap (λ (c : Bool). if c then inner_at es j entry (outer_body q main) else nothing) (eq-eqb q.unit.tree.segment q.unit.tree.segment refl)
    ∙ ap (λ (o : Option Body). inner_at es j entry o) body
    ∙ ap (λ (x : ℕ). inner_with es b entry (slice_get b.subroutines x)) is.0
    ∙ ap (λ (o : Option Subroutine). inner_with es b entry o) there
    ∙ ap (λ (x : ℕ). subroutine_part es main b x s) is.1
own_part q i k b s body there n j entry (decl.Declaration.procedure h items ss) is = absurd is
own_part q i k b s body there n j entry (decl.Declaration.data_items own kind items) is = absurd is
own_part q i k b s body there n j entry (decl.Declaration.equate es) is = absurd is
own_part q i k b s body there n j entry (decl.Declaration.intrinsic xs) is = absurd is
own_part q i k b s body there n j entry (decl.Declaration.label xs) is = absurd is
own_part q i k b s body there n j entry (decl.Declaration.forward h) is = absurd is
own_part q i k b s body there n j entry (decl.Declaration.external h) is = absurd is

declared_in : (q : Placed) (i k : ℕ) (b : Body) (s : Subroutine) → outer_body q main ≡ Some b → slice_get b.subroutines i ≡ Some s → (n j entry : ℕ) (ds : Declarations)
    → InnerIn q q.unit.tree.segment i k n j entry ds → (l : ℕ) (ws : List Wanted)
    → PartIn (declared_parts q q.unit.tree.segment n j entry ds l ws) (subroutine_part (module_entries q.unit q.unit.tree.segment) main b k s)
declared_in q i k b s body there n j entry decl.none is l ws = absurd is
declared_in q i k b s body there n j entry (decl.and d ds) (inl own) l ws =
    let g = q.unit.tree.segment in
    in_first (subroutine_part (module_entries q.unit g) main b k s) (declared_part q g n j entry d)
    (declared_parts q g (routines_behind n d) (inner_behind j d) (entries_behind q g n entry d) ds) (own_part q i k b s body there n j entry d own)
    (declarations_keep q g (routines_behind n d) (inner_behind j d) (entries_behind q g n entry d) ds) l ws
declared_in q i k b s body there n j entry (decl.and d ds) (inr later) l ws =
    let g = q.unit.tree.segment in
    let own : Written = declared_part q g n j entry d l ws in
    in_second (subroutine_part (module_entries q.unit g) main b k s) (declared_part q g n j entry d)
    (declared_parts q g (routines_behind n d) (inner_behind j d) (entries_behind q g n entry d) ds) l ws
    (declared_in q i k b s body there (routines_behind n d) (inner_behind j d) (entries_behind q g n entry d) ds later (l + own.marks) own.wants)

pub main_part_in : (q : Placed) (i k : ℕ) (b : Body) (s : Subroutine) → outer_body q main ≡ Some b → slice_get b.subroutines i ≡ Some s
    → InnerIn q q.unit.tree.segment i k 0 0 0 (declarations q.unit.tree.items)
    → PartIn (module_written q q.unit.tree.segment) (subroutine_part (module_entries q.unit q.unit.tree.segment) main b k s)
main_part_in q i k b s body there is =
    let g = q.unit.tree.segment in
    let es : List Entry = module_entries q.unit g in
    in_front (subroutine_part es main b k s) (declared_parts q g 0 0 0 (declarations q.unit.tree.items))
    (if holds_main q g then main_at es (outer_body q main) else nothing) (main_keeps q g)
    (marks_before q g) [] (declared_in q i k b s body there 0 0 0 (declarations q.unit.tree.items) is (marks_before q g) [])

-- of a procedure: among the others of that
parts_in : (es : List Entry) (o : Owner) (b : Body) (entry : ℕ) (ss : List Subroutine) (k : ℕ) (s : Subroutine) → slice_get ss k ≡ Some s → (l : ℕ) (ws : List Wanted)
    → PartIn (subroutine_parts es o b entry ss l ws) (subroutine_part es o b (entry + k) s)
parts_in es o b entry [] k s there l ws = cc
parts_in es o b entry (y ∷ ss) zero s there l ws =
    let none : entry ≡ entry + 0 = omega arith in
    in_first (subroutine_part es o b (entry + 0) s) (subroutine_part es o b entry y) (subroutine_parts es o b (suc entry) ss)
    (ap (λ (z : Subroutine). subroutine_part es o b entry z) (one_there y s there) ∙ ap (λ (n : ℕ). subroutine_part es o b n s) none) (parts_keep es o b (suc entry) ss) l ws
parts_in es o b entry (y ∷ ss) (suc k) s there l ws =
    let next : suc entry + k ≡ entry + suc k = omega arith in
    let own : Written = subroutine_part es o b entry y l ws in
    in_second (subroutine_part es o b (entry + suc k) s) (subroutine_part es o b entry y) (subroutine_parts es o b (suc entry) ss) l ws
    (subst (λ (n : ℕ). PartIn (subroutine_parts es o b (suc entry) ss (l + own.marks) own.wants) (subroutine_part es o b n s)) next
    (parts_in es o b (suc entry) ss k s there (l + own.marks) own.wants))

pub routine_part_in : (q : Placed) (g i entry : ℕ) (b : Named) (name : List ℕ) (k : ℕ) (s : Subroutine) → slice_get (routine_bodies q) i ≡ Some b
    → ProcedureIn q g i entry name 0 0 (declarations q.unit.tree.items) → slice_get b.body.subroutines k ≡ Some s
    → PartIn (module_written q g) (subroutine_part (module_entries q.unit g) (routine i) b.body (suc entry + k) s)
routine_part_in q g i entry b name k s there is has =
    let es : List Entry = module_entries q.unit g in
    let whole = module_in q g i entry b there name is in
    in_part (module_written q g) (routine_part es i entry b) (subroutine_part es (routine i) b.body (suc entry + k) s) whole
    (in_front (subroutine_part es (routine i) b.body (suc entry + k) s) (subroutine_parts es (routine i) b.body (suc entry) b.body.subroutines)
    (procedure_code b.body entry (body_statements es (routine i) b.body)) (procedure_keeps es (routine i) b.body entry) whole.marks whole.wants
    (parts_in es (routine i) b.body (suc entry) b.body.subroutines k s has whole.marks whole.wants))

-- ---- 3. pieces

-- The pieces of a module in which a subroutine is: others, the mark of its entry, what grants its room, its statement, the mark of its way out, what leaves
-- it, and others. Its body is b.
pub record InnerPieces (whole : Written) (es : List Entry) (o : Owner) (k : ℕ) (b : Body) : Type 0 where
  pub before : List Piece
  pub behind : List Piece
  pub out : ℕ
  pub labels : ℕ
  pub marks : ℕ
  pub wants : List Wanted
  pub pieces' : whole.pieces
      ≡ before ++ Mark k ∷ ((granted b.depth' ++ (listed (inner_context es o b labels out) b.statements 0 marks wants).pieces)
      ++ Mark out ∷ (subroutine_left (formals_words b.profile.formals) ++ behind))
  pub front : IsFront (listed (inner_context es o b labels out) b.statements 0 marks wants).wants whole.wants

-- each list one behind the other
arranged : (a e t l z : List Piece) (entry out : Piece)
    → a ++ (((((entry ∷ e) ++ t) ++ out ∷ []) ++ l) ++ z) ≡ a ++ entry ∷ ((e ++ t) ++ out ∷ (l ++ z))
arranged a e t l z entry out =
    ap (λ (ps : List Piece). a ++ ps)
    (append_assoc (entry ∷ ((e ++ t) ++ out ∷ [])) l z ∙ ap (λ (ps : List Piece). entry ∷ ps) (append_assoc (e ++ t) (out ∷ []) (l ++ z)))

pub inner_pieces : (whole : Written) (es : List Entry) (o : Owner) (k : ℕ) (b : Body) (s : Subroutine) → PartIn whole (subroutine_part es o b k s)
    → InnerPieces whole es o k (subroutine_body b s)
inner_pieces whole es o k b s x =
    let inner = subroutine_body b s in
    let out = x.marks in
    let from = suc out + (0 + 0) in
    let ls = labels_among inner.statements 0 in
    let enter : List Piece = granted inner.depth' in
    let leave : List Piece = subroutine_left (formals_words inner.profile.formals) in
    let part : Table Landing → Part = λ labels. listed (context_of es o inner labels out) inner.statements 0 in
    let made = landed_part ls part from x.wants in
    let shape : Written → List Piece = λ w. x.before ++ (((((Mark k ∷ enter) ++ w.pieces) ++ Mark out ∷ []) ++ leave) ++ x.behind) in
    let own : Written = listed (inner_context es o inner from out) inner.statements 0 (from + length ls) x.wants in
    record {
      before = x.before;
      behind = x.behind;
      out = out;
      labels = from;
      marks = from + length ls;
      wants = x.wants;
      pieces' = x.is ∙ ap shape made ∙ arranged x.before enter own.pieces leave x.behind (Mark k) (Mark out);
      front = subst (λ (w : Written). IsFront w.wants whole.wants) made x.front;
    }
