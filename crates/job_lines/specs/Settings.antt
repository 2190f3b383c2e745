-- The settings of a job: what was set, within which limits, and what is so where nothing is.
use Rattle.std.specs.Prelude.{ℕ, Bool, Option, None, Some, unwrap_or}
use Rattle.job_lines.specs.declared.settings.Setting.{Setting}
use Rattle.job_lines.specs.declared.settings.Setting.TheVariants.{Memory, Quantum, Turns}
use Rattle.job_lines.specs.declared.settings.Settings.{Settings}
use Rattle.job_lines.specs.Numbers.{is_between}

-- the limits of a setting
abbrev pub setting_fits : Setting → ℕ → Bool
setting_fits Memory n = is_between 1 1048576 n
setting_fits Quantum n = is_between 1 10000 n
setting_fits Turns n = is_between 1 1000000 n

-- before the first setting
abbrev pub no_settings : Settings
no_settings = record { memory = None; quantum = None; turns = None }

-- a setting that was made, if it was
abbrev pub setting_in : Setting → Settings → Option ℕ
setting_in Memory settings = settings.memory
setting_in Quantum settings = settings.quantum
setting_in Turns settings = settings.turns

-- with one setting more
abbrev pub with_setting : Setting → ℕ → Settings → Settings
with_setting Memory n settings = record settings { memory = Some n }
with_setting Quantum n settings = record settings { quantum = Some n }
with_setting Turns n settings = record settings { turns = Some n }

-- what a setting is where none is made
abbrev pub default_setting : Setting → ℕ
default_setting Memory = 65536
default_setting Quantum = 100
default_setting Turns = 100000

abbrev pub value_of : Setting → Settings → ℕ
value_of k settings = unwrap_or (setting_in k settings) (default_setting k)
