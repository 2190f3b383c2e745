-- The pieces of a main body, among those of its module, and where each part of them stands.
use Rattle.std.proofs.Common.{◌≡◌, ℕ, ◌+◌, ◌≤◌, Bool, true, false, List, [], ◌∷◌, ◌++◌, length, Option, Some, None, sym, ap, subst, ◌∙◌, arith}
use Rattle.std.specs.Prelude.{codes, if◌then◌else◌}
use Rattle.spl_bounds.specs.hp_instr.declared.instruction.Instr.TheVariants as i
use Rattle.spl_bounds.specs.spl_tree.DeclarationTrees.{declarations}
use Rattle.spl_bounds.specs.spl_meaning.Names.{Table}
use Rattle.spl_bounds.specs.spl_meaning.Bodies.{Body}
use Rattle.spl_bounds.specs.spl_meaning.States.{Exit, to_label, back}
use Rattle.spl_bounds.specs.spl_branch.declared.pieces.Piece.{Piece}
use Rattle.spl_bounds.specs.spl_branch.declared.pieces.Piece.TheVariants.{Mark, Call}
use Rattle.spl_sound_beginnings.specs.spl_code.Parts.{Part, Wanted, Written, nothing, wanted_place, with_wanted}
use Rattle.spl_bounds.specs.spl_body_code.Frames.{granted}
use Rattle.spl_sound_beginnings.specs.spl_statement_code.Landings.{Landing, Context}
use Rattle.spl_sound_beginnings.specs.spl_statement_code.Statements.{listed}
use Rattle.spl_bounds.specs.spl_scopes.Entries.{main, Entry, module_entries}
use Rattle.spl_bounds.specs.spl_scopes.Scopes.{Placed, outer_body}
use Rattle.spl_bounds.specs.spl_module_code.LabelsOfBodies.{labels_among}
use Rattle.spl_callable.proofs.spl_label_marks_proofs.LabelParts.{landed_part}
use Rattle.spl_bounds.specs.spl_module_code.Bodies.{context_of, main_part}
use Rattle.spl_bounds.specs.spl_module_code.Modules.{declared_parts, holds_main, main_at, marks_before, module_written}
use Rattle.spl_callable.specs.spl_follow.Spots.{Spot, pos, Point, on, Ground}
use Rattle.spl_callable.specs.spl_follow.Leading.{Leads}
use Rattle.spl_callable.specs.spl_follow.Doing.{calling}
use Rattle.spl_callable.specs.spl_follow.Standing.{Sites, Stands, due_after}
use Rattle.spl_callable.proofs.spl_follow_proofs.PartLemmas.{stand_from_place}
use Rattle.spl_callable.proofs.spl_follow_proofs.StandLemmas.{due_add}
use Rattle.spl_sound_beginnings.specs.spl_sites.Beginnings.{begins_well}
use Rattle.spl_callable.specs.spl_routines.Routines.{labels_from}
use Rattle.spl_callable.proofs.spl_routines_proofs.PieceLemmas.{clear_before, granted_clear}

-- ---- the pieces of a main body

-- what its statements are made with
abbrev pub main_context : List Entry → Body → ℕ → Context
main_context es b mark = context_of es main b (labels_from mark b) (length es)

-- The pieces of a module that holds a main body: others, the mark of the body's entry, its room, its statements, and the call that ends it.
-- No name is wanted behind that. The labels of the statements have marks of their own from one on.
pub record MainPieces (p : Placed) (g : ℕ) (b : Body) : Type 0 where
  pub before : List Piece
  pub mark : ℕ
  pub marks : ℕ
  pub wants : List Wanted
  pub pieces : (module_written p g).pieces
      ≡ before ++ Mark (length (module_entries p.unit g)) ∷ ((granted b.depth' ++ (listed (main_context (module_entries p.unit g) b mark) b.statements 0 marks wants).pieces)
      ++ Call (i.Control 0 0) true (wanted_place (codes "TERMINATE") true (listed (main_context (module_entries p.unit g) b mark) b.statements 0 marks wants).wants) ∷ [])
  pub last : (module_written p g).wants ≡ with_wanted (codes "TERMINATE") true (listed (main_context (module_entries p.unit g) b mark) b.statements 0 marks wants).wants

pub main_pieces : (p : Placed) (g : ℕ) (b : Body) → holds_main p g ≡ true → outer_body p main ≡ Some b → MainPieces p g b
main_pieces p g b holds is =
    let es : List Entry = module_entries p.unit g in
    let mark = length es in
    let front = declared_parts p g 0 0 0 (declarations p.unit.tree.items) (marks_before p g) [] in
    let l = marks_before p g + front.marks in
    let ls = labels_among b.statements 0 in
    let part : Table Landing → Part = λ labels. listed (context_of es main b labels mark) b.statements 0 in
    let call : List Wanted → List Piece = λ ws. Call (i.Control 0 0) true (wanted_place (codes "TERMINATE") true ws) ∷ [] in
    let whole : Written → List Piece = λ w. front.pieces ++ Mark mark ∷ ((granted b.depth' ++ w.pieces) ++ call w.wants) in
    let is_made = landed_part ls part (l + 0) front.wants in
    let body : (if holds_main p g then main_at es (outer_body p main) else nothing) ≡ main_part es mark b =
    ap (λ (c : Bool). if c then main_at es (outer_body p main) else nothing) holds ∙ ap (λ (o : Option Body). main_at es o) is in
    record {
      before = front.pieces;
      mark = l + 0;
      marks = l + 0 + length ls;
      wants = front.wants;
      pieces = ap (λ (x : Part). front.pieces ++ (x l front.wants).pieces) body ∙ ap whole is_made;
      last = ap (λ (x : Part). (x l front.wants).wants) body ∙ ap (λ (w : Written). with_wanted (codes "TERMINATE") true w.wants) is_made;
    }

-- ---- where they stand

-- the parts of a main body stand one behind the other
pub record MainStands (g : Ground) (w : Sites) (entry : ℕ) (room : List Piece) (statements : List Piece) (index : ℕ) (end : Spot) : Type 0 where
  pub first : Spot
  pub leave : Spot
  pub room_stands : Stands g w (on (w.marks entry)) room first
  pub statements_stand : Stands g w (on first) statements leave
  pub call : Leads g (on leave) end (calling (i.Control 0 0) (w.ways true index) end)
  pub entered : pos (w.marks entry) ≤ pos first
  pub left : pos first ≤ pos leave
  pub within : pos leave ≤ pos end

pub main_stands : (g : Ground) (w : Sites) (before : List Piece) (entry need : ℕ) (statements : List Piece) (index : ℕ) (start end : Spot)
    → begins_well false (before ++ Mark entry ∷ ((granted need ++ statements) ++ Call (i.Control 0 0) true index ∷ [])) ≡ true
    → due_after false statements ≡ false
    → Stands g w (on start) (before ++ Mark entry ∷ ((granted need ++ statements) ++ Call (i.Control 0 0) true index ∷ [])) end
    → MainStands g w entry (granted need) statements index end
main_stands g w before entry need statements index start end well clear stands =
    let call : List Piece = Call (i.Control 0 0) true index ∷ [] in
    let room = granted need in
    let cut = stand_from_place g w before (Mark entry ∷ ((room ++ statements) ++ call)) start end (clear_before false before ((room ++ statements) ++ call) entry well) stands in
    let marked = cut.2 in
    let behind : due_after false (room ++ statements) ≡ false =
    due_add false room statements ∙ ap (λ (d : Bool). due_after d statements) (granted_clear need) ∙ clear in
    let inner = stand_from_place g w (room ++ statements) call cut.0 end behind marked.2 in
    let parts = stand_from_place g w room statements cut.0 inner.0 (granted_clear need) inner.1 in
    let last = inner.2 in
    let from = parts.3 in
    let to = parts.4 in
    let at : pos (w.marks entry) ≡ pos cut.0 = ap pos marked.0 in
    record {
      first = parts.0;
      leave = inner.0;
      room_stands = subst (λ (p : Spot). Stands g w (on p) room parts.0) (sym marked.0) parts.1;
      statements_stand = parts.2;
      call = subst (λ (r : Spot). Leads g (on inner.0) r (calling (i.Control 0 0) (w.ways true index) r)) (ap (λ (x : Point). x.at) last.4) last.1;
      entered = omega (arith, at, from);
      left = to;
      within = inner.4;
    }

-- ---- ways out

-- where a label leads, and behind the statements where it leads nowhere
abbrev pub landing_place : (ℕ → Spot) → Spot → Option Landing → Spot
landing_place marks leave (Some l) = marks l.mark
landing_place marks leave None = leave

abbrev pub way_out : (List ℕ → Option Landing) → (ℕ → Spot) → Spot → Exit → Spot
way_out at marks leave (to_label y) = landing_place marks leave (at y)
way_out at marks leave back = leave
