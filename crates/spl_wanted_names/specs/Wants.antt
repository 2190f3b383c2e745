-- The names that a part of code wants: how many more than before it, and which of the system.
use Rattle.std.specs.Prelude.{◌≡◌, ℕ, ◌+◌, ◌≤◌, Bool, true, if◌then◌else◌, List, length, is_some}
use Rattle.std.specs.List.{list_all}
use Rattle.spl_module_code.specs.spl_meaning.Names.{intrinsic_named}
use Rattle.spl_module_code.specs.spl_code.Parts.{Part, Wanted}

-- a name that is wanted of the system is an intrinsic's
abbrev pub names_gate : Wanted → Bool
names_gate w = if w.gate then is_some (intrinsic_named w.name) else true

-- whatever stands before a part: it wants at most so many names more, and of the system intrinsics alone
pub record IsWanting (n : ℕ) (part : Part) : Type 0 where
  pub few : (l : ℕ) (ws : List Wanted) → length (part l ws).wants ≤ length ws + n
  pub gates : (l : ℕ) (ws : List Wanted) → list_all names_gate ws ≡ true → list_all names_gate (part l ws).wants ≡ true
