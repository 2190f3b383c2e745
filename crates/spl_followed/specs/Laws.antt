-- What follows for a program whose session follows the run of its units.
use Rattle.std.specs.Prelude.{◌≡◌, ℕ, List}
use Rattle.spl_carries.specs.hp_program.declared.program.Program.{Program}
use Rattle.spl_carries.specs.spl_meaning.Tables.{Source}
use Rattle.spl_carries.specs.spl_meaning.Runs.{Seat, alone, stray}
use Rattle.spl_carries.specs.Segments.{initial_words}
use Rattle.spl_carries.specs.Carries.{Forth, Back, MaySit, IsBounded, Carries}
use Rattle.spl_followed.specs.Followed.{Followed, Meets, IsMet}

-- after each number of the machine's steps some number of the source's leads to the same point, unless the source strays
abbrev pub MachineFollowsSource : Type 0
MachineFollowsSource = (p : Program) (us : List Source) (seat : Seat) → Followed p us seat → (steps : ℕ) → Forth p us seat steps

-- after each number of the source's steps, within which it has not strayed, some number of the machine's leads to the same point
abbrev pub SourceFollowsMachine : Type 0
SourceFollowsMachine = (p : Program) (us : List Source) (seat : Seat) → Followed p us seat → (at : ℕ) → ((alone us seat at).standing ≡ stray → ⊥)
    → Back p us seat at

-- the starts that the session meets are the statements that the run begins, in their order, and match
abbrev pub LogsAgree : Type 0
LogsAgree = (p : Program) (us : List Source) (seat : Seat) (f : Followed p us seat)
    → ((steps : ℕ) → Meets p us seat f.ground steps) × ((at : ℕ) → IsMet p us seat f.ground at)

-- a program within its bounds, with the units' data words, whose sessions all follow the run of the units, carries them
abbrev pub FollowedProgramsCarry : Type 0
FollowedProgramsCarry = (p : Program) (us : List Source) → IsBounded p us → p.globals.items ≡ initial_words us
    → ((seat : Seat) → MaySit us seat → Followed p us seat) → Carries p us
