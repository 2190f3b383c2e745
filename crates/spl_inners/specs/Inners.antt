-- Where the code of a subroutine stands, and which subroutine a body calls by a name.
use Rattle.std.specs.Prelude.{◌≡◌, ◌≤◌, ℕ, false, List, Some}
use Rattle.std.specs.List.{slice_get}
use Rattle.spl_routes.specs.hp_program.declared.program.Program.{Program}
use Rattle.spl_routes.specs.hp_steady.Laws.{WordsAreNear}
use Rattle.spl_routes.specs.spl_meaning.Bodies.{Body, subroutine_body}
use Rattle.spl_routes.specs.spl_meaning.Laws.{IsFront}
use Rattle.spl_routes.specs.spl_meaning.Names.{profile_of}
use Rattle.spl_routes.specs.spl_meaning.Pending.{formals_words}
use Rattle.spl_routes.specs.spl_meaning.Tables.{Subroutine, subroutine_named}
use Rattle.spl_routes.specs.spl_branch.declared.modules.Module.{Module}
use Rattle.spl_routes.specs.spl_code.Parts.{Wanted}
use Rattle.spl_routes.specs.spl_statement_code.Landings.{Context}
use Rattle.spl_routes.specs.spl_statement_code.Statements.{listed}
use Rattle.spl_routes.specs.spl_body_code.Frames.{granted}
use Rattle.spl_routes.specs.spl_body_code.Bodies.{subroutine_left}
use Rattle.spl_routes.specs.spl_scopes.Entries.{Owner, subroutine, Entry, module_entries}
use Rattle.spl_routes.specs.spl_scopes.Scopes.{Placed}
use Rattle.spl_routes.specs.spl_module_code.Bodies.{context_of}
use Rattle.spl_routes.specs.spl_carries.Carries.{weight}
use Rattle.spl_routes.specs.spl_follow.Doing.{body}
use Rattle.spl_routes.specs.spl_follow.Spots.{Spot, pos, on}
use Rattle.spl_routes.specs.spl_follow.Standing.{Stands}
use Rattle.spl_routes.specs.spl_sites.Grounds.{ground_of}
use Rattle.spl_routes.specs.spl_routines.Located.{Located, sites_at, wants_at}
use Rattle.spl_routes.specs.spl_routines.Routines.{labels_from}

-- what the statement of a subroutine is made with, in a module with these entries, where its labels have the marks from one on and RETURN leads to that one;
-- it calls the subroutines of the body whose it is
abbrev pub inner_context : List Entry → Owner → Body → ℕ → ℕ → Context
inner_context es o b labels leave = context_of es o b (labels_from labels b) leave

-- The code of a subroutine of a body stands in a module: behind the mark of its entry what grants its room, then its statement, and behind the mark of its
-- way out what leaves it.
pub record InnerStands (p : Program) (near : WordsAreNear p) {ms : List Module} {q : Placed} {g : ℕ} (at : Located ms q g) (o : Owner) (b : Body) (s : Subroutine) : Type 0 where
  -- the subroutine is this entry of its module
  pub entry : ℕ
  pub entered : slice_get (module_entries q.unit g) entry ≡ Some (record { name = s.heading.name; segment = g; callee = subroutine o })
  -- the marks of its way out and of its labels, and what was made before its statement
  pub out : ℕ
  pub labels : ℕ
  pub marks : ℕ
  pub wants : List Wanted
  -- where its statement begins, where it is left, and where it ends
  pub first : Spot
  pub leave : Spot
  pub end : Spot
  pub enters : Stands (ground_of p near ms) (sites_at at) (on ((sites_at at).marks entry)) (granted (subroutine_body b s).depth') first
  pub runs :
      Stands (ground_of p near ms) (sites_at at) (on first)
      (listed (inner_context (module_entries q.unit g) o (subroutine_body b s) labels out) (subroutine_body b s).statements 0 marks wants).pieces leave
  pub left : (sites_at at).marks out ≡ leave
  pub leaves : Stands (ground_of p near ms) (sites_at at) (on leave) (subroutine_left (formals_words (profile_of s.heading).formals)) end
  -- the names that its statement wants are the first of those that the module does
  pub front :
      IsFront (listed (inner_context (module_entries q.unit g) o (subroutine_body b s) labels out) (subroutine_body b s).statements 0 marks wants).wants (wants_at at)
  pub rises : pos first ≤ pos leave
  pub falls : pos leave ≤ pos end
  pub far : pos end ≤ weight p

-- An entry of the module leads to the subroutine that a body means by a name.
pub record FindsInner (p : Program) (near : WordsAreNear p) {ms : List Module} {q : Placed} {g : ℕ} (at : Located ms q g) (o : Owner) (b : Body) (x : List ℕ) (index : ℕ) : Type 0 where
  pub inner : Subroutine
  pub means : subroutine_named b.subroutines x ≡ Some inner
  pub stands : InnerStands p near at o b inner
  pub number : stands.entry ≡ index
  pub leads : (sites_at at).ways false index ≡ body ((sites_at at).marks stands.entry)
