-- Whose turn is next, and a job's turns.
use Rattle.std.specs.Prelude.{ℕ, zero, suc, ◌+◌, List, [], ◌∷◌, drop, map, Option, None, Some, is_some, if◌then◌else◌}
use Rattle.hp_cpu.specs.hp_word.declared.endings.Ending.{Ending}
use Rattle.hp_cpu.specs.hp_flat.Step.{is_running}
use Rattle.mpe_worlds.specs.Worlds.{World}
use Rattle.mpe_worlds.specs.Turns.{turned}

-- the first live one of sessions with these endings, of which the first has the number n
abbrev pub first_live : ℕ → List Ending → Option ℕ
first_live n [] = None
first_live n (e ∷ es) = if is_running e then Some n else first_live (n + 1) es

-- the first of two numbers that is there
abbrev pub or_else : Option ℕ → Option ℕ → Option ℕ
or_else None other = other
or_else (Some n) other = Some n

-- the live session with the least number above that of the last turn, and else the live one with the least number
abbrev pub next_among : ℕ → List Ending → Option ℕ
next_among last endings = or_else (first_live (last + 1) (drop (last + 1) endings)) (first_live 0 endings)

-- how each session stands
abbrev pub endings_of : World → List Ending
endings_of w = map (λ r. r.machine.ending) w.runs

abbrev pub next_of : World → Option ℕ
next_of w = next_among w.last (endings_of w)

-- a turn of a session, if there is one
abbrev pub turned_if : List (List (List ℕ)) → ℕ → World → Option ℕ → World
turned_if codes quantum w None = w
turned_if codes quantum w (Some who) = turned codes who quantum w

-- turns of so many steps at most, of the next session each time, until no session is live or so many turns were taken
unfoldable pub after : List (List (List ℕ)) → ℕ → ℕ → World → World
after codes quantum zero w = w
after codes quantum (suc turns) w = if is_some (next_of w) then after codes quantum turns (turned_if codes quantum w (next_of w)) else w
