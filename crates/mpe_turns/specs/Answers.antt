-- What a turn answers, by the session as its turn has left it, and what every turn does.
use Rattle.std.specs.Prelude.{◌≡◌, ℕ, ◌+◌, ◌≤◌, ◌==◌, Bool, List, slice_get, slice_index_or, slice_set, Option, Some, if◌then◌else◌}
use Rattle.hp_word.specs.declared.endings.Ending.{Ending}
use Rattle.hp_word.specs.declared.endings.Ending.TheVariants as endings
use Rattle.mpe_worlds.specs.Worlds.{Run, World}
use Rattle.mpe_turns.specs.declared.session.Session.{Session}
use Rattle.mpe_turns.specs.declared.session.Turned.{Turned}
use Rattle.mpe_turns.specs.declared.session.Turned.TheVariants.{Quantum, NeedsSegment, Ended, Trapped}

-- by the ending, whether all steps of the quantum were made, and the segment that the next step needs
abbrev pub answer_by : Ending → Bool → ℕ → Turned
answer_by endings.Running all seg = if all then Quantum else NeedsSegment seg
answer_by endings.Terminated all seg = Ended endings.Terminated
answer_by (endings.Quit n) all seg = Ended (endings.Quit n)
answer_by (endings.Trapped t) all seg = Trapped t

-- to a turn of so many steps at most, by the session before and after
abbrev pub answer_to : ℕ → Run → Run → Turned
answer_to quantum old new = answer_by new.machine.ending (new.steps == old.steps + quantum) new.machine.regs.seg

-- by the sessions that stood there
abbrev pub answer_of : ℕ → Option Run → Option Run → Turned
answer_of quantum (Some old) (Some new) = answer_to quantum old new
answer_of quantum _ _ = Quantum

-- by the worlds before and after
abbrev pub answer_at : ℕ → ℕ → World → World → Turned
answer_at who quantum old new = answer_of quantum (slice_get old.runs who) (slice_get new.runs who)

-- the session has made at least one step more, and at most one segment was loaded
pub record Advances (who : ℕ) (old new : World) : Type 0 where
  pub steps : (r s : Run) → slice_get old.runs who ≡ Some r → slice_get new.runs who ≡ Some s → r.steps + 1 ≤ s.steps
  pub loads : new.loads ≤ old.loads + 1
  pub kept_loads : old.loads ≤ new.loads

-- all sessions but one are as they were, and there are as many
abbrev pub SameBut : ℕ → List Session → List Session → Type 0
SameBut who old new = (other : Session) → new ≡ slice_set old who (slice_index_or new who other)
