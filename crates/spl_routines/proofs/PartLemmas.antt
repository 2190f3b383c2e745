-- The code of a procedure among that of its module.
-- 1. a part of code within others                                  (PartIn, in_first, in_second, in_part)
-- 2. that of a procedure within its module's                       (part_in, module_in)
-- 3. and its pieces there                                          (RoutinePieces, routine_pieces)
use Rattle.std.proofs.Common.{◌≡◌, ℕ, suc, ◌+◌, Bool, List, [], ◌∷◌, ◌++◌, length, Option, Some, inl, inr, refl, sym, ap, subst, ◌∙◌, append_assoc}
use Rattle.std.specs.Prelude.{slice_get, if◌then◌else◌}
use Rattle.std.proofs.lemmas.Bool.{eq-eqb}
use Rattle.spl_carries.specs.spl_tree.DeclarationTrees as decl
use Rattle.spl_carries.specs.spl_tree.DeclarationTrees.{Declaration, Declarations, declarations}
use Rattle.spl_carries.specs.spl_meaning.Names.{Table}
use Rattle.spl_carries.specs.spl_meaning.Pending.{formals_words}
use Rattle.spl_carries.specs.spl_meaning.Bodies.{Body, Named}
use Rattle.spl_carries.specs.spl_meaning.Laws.{IsFront}
use Rattle.spl_ways.specs.spl_branch.declared.pieces.Piece.{Piece}
use Rattle.spl_ways.specs.spl_branch.declared.pieces.Piece.TheVariants.{Mark}
use Rattle.spl_label_marks.specs.spl_code.Parts.{Part, Wanted, Written, nothing, ◌⨟◌}
use Rattle.spl_label_marks.specs.spl_statement_code.Landings.{Landing}
use Rattle.spl_label_marks.specs.spl_statement_code.Statements.{listed}
use Rattle.spl_label_marks.specs.spl_body_code.Bodies.{frame_of, procedure_entered, procedure_left}
use Rattle.spl_label_marks.specs.spl_scopes.Entries.{main, routine, Entry, module_entries, routines_behind}
use Rattle.spl_label_marks.specs.spl_scopes.Scopes.{Placed, routine_bodies, outer_body}
use Rattle.spl_label_marks.specs.spl_module_code.LabelsOfBodies.{labels_among}
use Rattle.spl_label_marks.specs.spl_module_code.Bodies.{context_of, subroutine_parts, routine_part}
use Rattle.spl_label_marks.specs.spl_module_code.Modules.{inner_behind, entries_behind, routine_at, declared_part, declared_parts, holds_main, main_at, marks_before, module_written}
use Rattle.spl_label_marks.proofs.LabelParts.{landed_part}
use Rattle.spl_complete_codes.proofs.spl_call_indexes_proofs.PartLaws.{indexed_pieces, indexed_if}
use Rattle.spl_complete_codes.proofs.spl_call_indexes_proofs.ModuleLaws.{indexed_declarations, indexed_main_at}
use Rattle.spl_routines.specs.Routines.{routine_context}
use Rattle.spl_routines.proofs.EntryLemmas.{IsProcedure, ProcedureIn}

-- ---- 1. parts

-- a part stands among some pieces, and what it wants is the first of what is wanted behind them
pub record PartIn (whole : Written) (part : Part) : Type 0 where
  pub before : List Piece
  pub behind : List Piece
  pub marks : ℕ
  pub wants : List Wanted
  pub is : whole.pieces ≡ before ++ ((part marks wants).pieces ++ behind)
  pub front : IsFront (part marks wants).wants whole.wants

-- what a part wants is behind what was wanted before it
abbrev pub KeepsWants : Part → Type 0
KeepsWants part = (l : ℕ) (ws : List Wanted) → IsFront ws (part l ws).wants

pub front_on : (xs ys zs : List Wanted) → IsFront xs ys → IsFront ys zs → IsFront xs zs
front_on xs ys zs a b = record {
  rest = a.rest ++ b.rest;
  is = b.is ∙ ap (λ (ws : List Wanted). ws ++ b.rest) a.is ∙ append_assoc xs a.rest b.rest;
}

-- it is the first of two
pub in_first : (part p r : Part) → p ≡ part → KeepsWants r → (l : ℕ) (ws : List Wanted) → PartIn ((p ⨟ r) l ws) part
in_first part p r same keeps l ws = record {
  before = [];
  behind = (r (l + (p l ws).marks) (p l ws).wants).pieces;
  marks = l;
  wants = ws;
  is = ap (λ (x : Part). (x l ws).pieces ++ (r (l + (p l ws).marks) (p l ws).wants).pieces) same;
  front = subst (λ (x : Part). IsFront (x l ws).wants ((p ⨟ r) l ws).wants) same (keeps (l + (p l ws).marks) (p l ws).wants);
}

-- or it is in the first
pub in_front : (part p r : Part) → KeepsWants r → (l : ℕ) (ws : List Wanted) → PartIn (p l ws) part → PartIn ((p ⨟ r) l ws) part
in_front part p r keeps l ws x =
    let others : List Piece = (r (l + (p l ws).marks) (p l ws).wants).pieces in
    let own : List Piece = (part x.marks x.wants).pieces in
    record {
      before = x.before;
      behind = x.behind ++ others;
      marks = x.marks;
      wants = x.wants;
      is = ap (λ (ps : List Piece). ps ++ others) x.is ∙ append_assoc x.before (own ++ x.behind) others
          ∙ ap (λ (ps : List Piece). x.before ++ ps) (append_assoc own x.behind others);
      front = front_on (part x.marks x.wants).wants (p l ws).wants ((p ⨟ r) l ws).wants x.front (keeps (l + (p l ws).marks) (p l ws).wants);
    }

-- or in the second
pub in_second : (part p r : Part) (l : ℕ) (ws : List Wanted) → PartIn (r (l + (p l ws).marks) (p l ws).wants) part → PartIn ((p ⨟ r) l ws) part
in_second part p r l ws x = record {
  before = (p l ws).pieces ++ x.before;
  behind = x.behind;
  marks = x.marks;
  wants = x.wants;
  is = ap (λ (ps : List Piece). (p l ws).pieces ++ ps) x.is ∙ sym (append_assoc (p l ws).pieces x.before ((part x.marks x.wants).pieces ++ x.behind));
  front = x.front;
}

-- and what is in a part is in what has that
pub in_part : (whole : Written) (part inner : Part) (x : PartIn whole part) → PartIn (part x.marks x.wants) inner → PartIn whole inner
in_part whole part inner x y =
    let own : List Piece = (inner y.marks y.wants).pieces in
    record {
      before = x.before ++ y.before;
      behind = y.behind ++ x.behind;
      marks = y.marks;
      wants = y.wants;
      is = x.is ∙ ap (λ (ps : List Piece). x.before ++ (ps ++ x.behind)) y.is
          ∙ ap (λ (ps : List Piece). x.before ++ ps) (append_assoc y.before (own ++ y.behind) x.behind ∙ ap (λ (ps : List Piece). y.before ++ ps) (append_assoc own y.behind x.behind))
          ∙ sym (append_assoc x.before y.before (own ++ (y.behind ++ x.behind)));
      front = front_on (inner y.marks y.wants).wants (part x.marks x.wants).wants whole.wants y.front x.front;
    }

-- ---- 2. procedures

-- the declarations of a unit, and its main body
pub declarations_keep : (q : Placed) (g n j entry : ℕ) (ds : Declarations) → KeepsWants (declared_parts q g n j entry ds)
declarations_keep q g n j entry ds l ws = (indexed_declarations q g n j entry ds).keeps l ws

pub main_keeps : (q : Placed) (g : ℕ) → KeepsWants (if holds_main q g then main_at (module_entries q.unit g) (outer_body q main) else nothing)
main_keeps q g l ws =
    let es : List Entry = module_entries q.unit g in
    (indexed_if (holds_main q g) (main_at es (outer_body q main)) nothing (indexed_main_at es (outer_body q main)) (indexed_pieces [] (λ m n. refl))).keeps l ws

own_part : (q : Placed) (g i k : ℕ) (b : Named) → slice_get (routine_bodies q) i ≡ Some b → (name : List ℕ) (n j entry : ℕ) (d : Declaration)
    → IsProcedure g i k name n entry d → declared_part q g n j entry d ≡ routine_part (module_entries q.unit g) i k b
own_part q g i k b there name n j entry (decl.Declaration.procedure h items ss) is =
    let es : List Entry = module_entries q.unit g in
    ap (λ (c : Bool). if c then routine_at es n entry (slice_get (routine_bodies q) n) else nothing) (eq-eqb h.segment g is.0)
    ∙ ap (λ (x : ℕ). routine_at es x entry (slice_get (routine_bodies q) x)) is.2
    ∙ ap (λ (x : ℕ). routine_at es i x (slice_get (routine_bodies q) i)) is.3
    ∙ ap (λ (o : Option Named). routine_at es i k o) there
own_part q g i k b there name n j entry (decl.Declaration.subroutine h s) is = absurd is
own_part q g i k b there name n j entry (decl.Declaration.data_items own kind items) is = absurd is
own_part q g i k b there name n j entry (decl.Declaration.equate es) is = absurd is
own_part q g i k b there name n j entry (decl.Declaration.intrinsic xs) is = absurd is
own_part q g i k b there name n j entry (decl.Declaration.label xs) is = absurd is
own_part q g i k b there name n j entry (decl.Declaration.forward h) is = absurd is
own_part q g i k b there name n j entry (decl.Declaration.external h) is = absurd is

part_in : (q : Placed) (g i k : ℕ) (b : Named) → slice_get (routine_bodies q) i ≡ Some b → (name : List ℕ) (n j entry : ℕ) (ds : Declarations)
    → ProcedureIn q g i k name n entry ds → (l : ℕ) (ws : List Wanted)
    → PartIn (declared_parts q g n j entry ds l ws) (routine_part (module_entries q.unit g) i k b)
part_in q g i k b there name n j entry decl.none is l ws = absurd is
part_in q g i k b there name n j entry (decl.and d ds) (inl own) l ws =
    in_first (routine_part (module_entries q.unit g) i k b) (declared_part q g n j entry d)
    (declared_parts q g (routines_behind n d) (inner_behind j d) (entries_behind q g n entry d) ds) (own_part q g i k b there name n j entry d own)
    (declarations_keep q g (routines_behind n d) (inner_behind j d) (entries_behind q g n entry d) ds) l ws
part_in q g i k b there name n j entry (decl.and d ds) (inr later) l ws =
    let own : Written = declared_part q g n j entry d l ws in
    in_second (routine_part (module_entries q.unit g) i k b) (declared_part q g n j entry d)
    (declared_parts q g (routines_behind n d) (inner_behind j d) (entries_behind q g n entry d) ds) l ws
    (part_in q g i k b there name (routines_behind n d) (inner_behind j d) (entries_behind q g n entry d) ds later (l + own.marks) own.wants)

-- in the code of a unit in a segment
pub module_in : (q : Placed) (g i k : ℕ) (b : Named) → slice_get (routine_bodies q) i ≡ Some b → (name : List ℕ)
    → ProcedureIn q g i k name 0 0 (declarations q.unit.tree.items) → PartIn (module_written q g) (routine_part (module_entries q.unit g) i k b)
module_in q g i k b there name is =
    let es : List Entry = module_entries q.unit g in
    in_front (routine_part es i k b) (declared_parts q g 0 0 0 (declarations q.unit.tree.items))
    (if holds_main q g then main_at es (outer_body q main) else nothing) (main_keeps q g)
    (marks_before q g) [] (part_in q g i k b there name 0 0 0 (declarations q.unit.tree.items) is (marks_before q g) [])

-- ---- 3. pieces

-- The pieces of a module in which a procedure is: others, the mark of its entry, what enters it, its statements, the mark of its way out, what
-- leaves it, and others.
pub record RoutinePieces (whole : Written) (es : List Entry) (i k : ℕ) (b : Body) : Type 0 where
  pub before : List Piece
  pub behind : List Piece
  pub out : ℕ
  pub labels : ℕ
  pub marks : ℕ
  pub wants : List Wanted
  pub pieces : whole.pieces
      ≡ before ++ Mark k ∷ ((procedure_entered (frame_of b) ++ (listed (routine_context es i b labels out) b.statements 0 marks wants).pieces)
      ++ Mark out ∷ (procedure_left b.here.setting.split (formals_words b.profile.formals) ++ behind))
  pub front : IsFront (listed (routine_context es i b labels out) b.statements 0 marks wants).wants whole.wants

-- each list one behind the other
arranged : (a s e t l z : List Piece) (entry out : Piece)
    → a ++ ((s ++ ((((entry ∷ e) ++ t) ++ out ∷ []) ++ l)) ++ z) ≡ (a ++ s) ++ entry ∷ ((e ++ t) ++ out ∷ (l ++ z))
arranged a s e t l z entry out =
    ap (λ (ps : List Piece). a ++ ps)
    (append_assoc s (entry ∷ (((e ++ t) ++ out ∷ []) ++ l)) z
    ∙ ap (λ (ps : List Piece). s ++ entry ∷ ps) (append_assoc ((e ++ t) ++ out ∷ []) l z ∙ append_assoc (e ++ t) (out ∷ []) (l ++ z)))
    ∙ sym (append_assoc a s (entry ∷ ((e ++ t) ++ out ∷ (l ++ z))))

routine_parts : (whole : Written) (es : List Entry) (i k : ℕ) (b : Named) → PartIn whole (routine_part es i k b) → RoutinePieces whole es i k b.body
routine_parts whole es i k b x =
    let inner : Written = subroutine_parts es (routine i) b.body (suc k) b.body.subroutines x.marks x.wants in
    let out = x.marks + inner.marks in
    let from = suc out + (0 + 0) in
    let ls = labels_among b.body.statements 0 in
    let enter : List Piece = procedure_entered (frame_of b.body) in
    let leave : List Piece = procedure_left b.body.here.setting.split (formals_words b.body.profile.formals) in
    let part : Table Landing → Part = λ labels. listed (context_of es (routine i) b.body labels out) b.body.statements 0 in
    let made = landed_part ls part from inner.wants in
    let shape : Written → List Piece = λ w. x.before ++ ((inner.pieces ++ ((((Mark k ∷ enter) ++ w.pieces) ++ Mark out ∷ []) ++ leave)) ++ x.behind) in
    let own : Written = listed (routine_context es i b.body from out) b.body.statements 0 (from + length ls) inner.wants in
    record {
      before = x.before ++ inner.pieces;
      behind = x.behind;
      out = out;
      labels = from;
      marks = from + length ls;
      wants = inner.wants;
      pieces = x.is ∙ ap shape made ∙ arranged x.before inner.pieces enter own.pieces leave x.behind (Mark k) (Mark out);
      front = subst (λ (w : Written). IsFront w.wants whole.wants) made x.front;
    }

pub routine_pieces : (q : Placed) (g i k : ℕ) (b : Named) → slice_get (routine_bodies q) i ≡ Some b → (name : List ℕ)
    → ProcedureIn q g i k name 0 0 (declarations q.unit.tree.items) → RoutinePieces (module_written q g) (module_entries q.unit g) i k b.body
routine_pieces q g i k b there name is =
    routine_parts (module_written q g) (module_entries q.unit g) i k b (module_in q g i k b there name is)
