-- The code of a body as it is appended: its entry, its statements and its way out, one behind the other.
use Rattle.std.specs.Prelude.{◌≡◌, ℕ, ◌+◌, ◌++◌, ◌∷◌, [], false, length}
use Rattle.spl_code.specs.spl_meaning.Pending.{formals_words}
use Rattle.spl_code.specs.spl_meaning.Bodies.{Body}
use Rattle.spl_code.specs.spl_branch.declared.buffer.Code.{Code}
use Rattle.spl_code.specs.spl_branch.Codes.{SameFrame}
use Rattle.spl_code.specs.Parts.{Part, wants_of}
use Rattle.spl_code.specs.Appends.{Appends, behind}
use Rattle.spl_body_code.specs.Frames.{granted}
use Rattle.spl_body_code.specs.Bodies.{frame_of, procedure_entered, procedure_left, procedure_code, subroutine_left, subroutine_code, main_left, main_code}
use Rattle.spl_body_code.specs.Marked.{Marked}

-- Code `d` is code `c` with a part behind it, as to its pieces, how many marks there are, and its wants; which of them are set is another
-- matter, since statements set the marks of their labels.
pub record StandsBehind (part : Part) (c d : Code) : Type 0 where
  pub pieces : d.pieces.items ≡ c.pieces.items ++ (behind part c).pieces
  pub marks : length d.marks.items ≡ length c.marks.items + (behind part c).marks
  pub wants : wants_of d.wants.items ≡ (behind part c).wants
  pub same : SameFrame c d

-- code `d` is code `c` with a new mark, which is not set
pub record WithMark (c d : Code) : Type 0 where
  pub pieces : d.pieces ≡ c.pieces
  pub marks : d.marks.items ≡ c.marks.items ++ false ∷ []
  pub wants : d.wants ≡ c.wants
  pub same : SameFrame c d

-- A procedure: the mark of its way out is made, then its entry is appended, its statements, and its way out.
abbrev pub ProceduresAreJoined : Type 0
ProceduresAreJoined = (b : Body) (entry : ℕ) (ss : ℕ → Part) (c made d e f : Code) → WithMark c made → Marked entry (procedure_entered (frame_of b)) made d
    → StandsBehind (ss (length c.marks.items)) d e
    → Marked (length c.marks.items) (procedure_left b.here.setting.split (formals_words b.profile.formals)) e f
    → StandsBehind (procedure_code b entry ss) c f

-- a subroutine
abbrev pub SubroutinesAreJoined : Type 0
SubroutinesAreJoined = (b : Body) (entry : ℕ) (ss : ℕ → Part) (c made d e f : Code) → WithMark c made → Marked entry (granted b.depth') made d
    → StandsBehind (ss (length c.marks.items)) d e → Marked (length c.marks.items) (subroutine_left (formals_words b.profile.formals)) e f
    → StandsBehind (subroutine_code b entry ss) c f

-- a main body
abbrev pub MainBodiesAreJoined : Type 0
MainBodiesAreJoined = (b : Body) (entry : ℕ) (ss : Part) (c d e f : Code) → Marked entry (granted b.depth') c d → StandsBehind ss d e → Appends main_left e f
    → StandsBehind (main_code b entry ss) c f
