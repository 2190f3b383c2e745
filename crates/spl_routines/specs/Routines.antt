-- Where the code of a procedure stands, and to which procedure the way of a call leads.
use Rattle.std.specs.Prelude.{◌≡◌, ◌≤◌, ℕ, List, Some}
use Rattle.std.specs.List.{slice_get}
use Rattle.spl_carries.specs.hp_program.declared.program.Program.{Program}
use Rattle.spl_ways.specs.hp_steady.Laws.{WordsAreNear}
use Rattle.spl_carries.specs.spl_meaning.Names.{Table}
use Rattle.spl_carries.specs.spl_meaning.Bodies.{Body, Named}
use Rattle.spl_carries.specs.spl_meaning.Laws.{IsFront}
use Rattle.spl_carries.specs.spl_meaning.Pending.{formals_words}
use Rattle.spl_ways.specs.spl_branch.declared.modules.Module.{Module}
use Rattle.spl_label_marks.specs.spl_code.Parts.{Wanted}
use Rattle.spl_label_marks.specs.spl_statement_code.Landings.{Landing, Context}
use Rattle.spl_label_marks.specs.spl_statement_code.Statements.{listed}
use Rattle.spl_label_marks.specs.spl_body_code.Bodies.{frame_of, procedure_entered, procedure_left}
use Rattle.spl_label_marks.specs.spl_scopes.Entries.{routine, procedure, Entry, module_entries}
use Rattle.spl_label_marks.specs.spl_scopes.Scopes.{Placed}
use Rattle.spl_label_marks.specs.spl_module_code.LabelsOfBodies.{labels_among, landed_from}
use Rattle.spl_label_marks.specs.spl_module_code.Bodies.{context_of}
use Rattle.spl_carries.specs.Carries.{weight}
use Rattle.spl_endings.specs.spl_follow.Spots.{Spot, pos, on}
use Rattle.spl_endings.specs.spl_follow.Standing.{Stands}
use Rattle.spl_ways.specs.spl_sites.Grounds.{ground_of}
use Rattle.spl_routines.specs.Located.{Located, sites_at, wants_at}

-- where the labels of a body lead that have the marks from one on
abbrev pub labels_from : ℕ → Body → Table Landing
labels_from mark b = landed_from mark (labels_among b.statements 0)

-- what the statements of a unit's procedure are made with, where its labels have the marks from one on and RETURN leads to that one
abbrev pub routine_context : List Entry → ℕ → Body → ℕ → ℕ → Context
routine_context es i b labels leave = context_of es (routine i) b (labels_from labels b) leave

-- The code of a unit's procedure, by its number, stands in a module: behind the mark of its entry what enters it, then its statements, and behind
-- the mark of its way out what leaves it.
pub record RoutineStands (p : Program) (near : WordsAreNear p) {ms : List Module} {q : Placed} {g : ℕ} (at : Located ms q g) (i : ℕ) (b : Named) : Type 0 where
  -- the procedure is this entry of its module
  pub entry : ℕ
  pub entered : slice_get (module_entries q.unit g) entry ≡ Some (record { name = b.name; segment = g; callee = procedure })
  -- the marks of its way out and of its labels, and what was made before its statements
  pub out : ℕ
  pub labels : ℕ
  pub marks : ℕ
  pub wants : List Wanted
  -- where its statements begin, where it is left, and where it ends
  pub first : Spot
  pub leave : Spot
  pub end : Spot
  pub enters : Stands (ground_of p near ms) (sites_at at) (on ((sites_at at).marks entry)) (procedure_entered (frame_of b.body)) first
  pub runs :
      Stands (ground_of p near ms) (sites_at at) (on first)
      (listed (routine_context (module_entries q.unit g) i b.body labels out) b.body.statements 0 marks wants).pieces leave
  pub left : (sites_at at).marks out ≡ leave
  pub leaves :
      Stands (ground_of p near ms) (sites_at at) (on leave)
      (procedure_left b.body.here.setting.split (formals_words b.body.profile.formals)) end
  -- the names that its statements want are the first of those that the module does
  pub front : IsFront (listed (routine_context (module_entries q.unit g) i b.body labels out) b.body.statements 0 marks wants).wants (wants_at at)
  pub rises : pos first ≤ pos leave
  pub falls : pos leave ≤ pos end
  pub far : pos end ≤ weight p
