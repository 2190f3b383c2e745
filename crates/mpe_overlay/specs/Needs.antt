-- What a need of a segment answers, and how it counts.
use Rattle.std.specs.Prelude.{ℕ, ◌+◌, ◌%◌, ◌^◌, unwrap_or, if◌then◌else◌}
use Rattle.mpe_regions.specs.Area.{Area, is_live}
use Rattle.mpe_regions.specs.Loads.{Load, load}
use Rattle.mpe_overlay.specs.declared.loaded.Loaded.{Loaded}
use Rattle.mpe_overlay.specs.declared.loaded.Loaded.TheVariants.{There, Brought}

-- a segment that was loaded, by the place that its load tells and the number of segments given up
abbrev pub brought : ℕ → Load → Loaded
brought base l = Brought (base + unwrap_or l.place 0) l.given_up

-- a segment that is needed is there, or it is loaded
abbrev pub answer : ℕ → ℕ → ℕ → Area → Loaded
answer base key size a = if is_live key a then There else brought base (load key size a)

-- a load is counted, modulo 2 to the power 64
abbrev pub counted : ℕ → Area → ℕ → ℕ
counted key a loads = if is_live key a then loads else (loads + 1) % 2 ^ 64
