-- The entries of a segment as they are found: how many it has of its own, the places of its procedures, and what it wants.
use Rattle.std.specs.Prelude.{ℕ, ◌≡◌, ◌+◌, ◌≤◌, ◌<◌, nat_lt, Bool, if◌then◌else◌, List, [], ◌∷◌, length, Some, None, unwrap_or}
use Rattle.spl_branch.specs.declared.modules.Module.{Module}
use Rattle.mpe_segmenter.specs.Names.{Part}
use Rattle.mpe_segmenter.specs.Places.{place_of}
use Rattle.mpe_segmenter.specs.Entries.{Own, owns, called_at, Wanted, want_at, table_of}

-- names have the places of the procedures that may be called by them
pub record IsIndex (called : List (List ℕ × ℕ)) (os : List Own) : Type 0 where
  pub finds : (name : List ℕ) → place_of name called ≡ called_at name os

-- these are the entries that modules have in their segment
pub record IsEntered (ms : List Module) (own : ℕ) (called : List (List ℕ × ℕ)) (wanted : List Wanted) : Type 0 where
  pub own_count : own ≡ length (owns 0 ms)
  pub called_by : IsIndex called (owns 0 ms)
  pub wants : wanted ≡ (table_of ms).wanted

-- the entry of a want, by what was found
abbrev pub entry_by : ℕ → List (List ℕ × ℕ) → List Wanted → Wanted → ℕ
entry_by own called wanted w = 1 + unwrap_or (if w.gate then None else place_of w.name called) (own + want_at w wanted)

-- there are at most 127 entries, and the procedures' are among the first
pub record HasRoom (own : ℕ) (called : List (List ℕ × ℕ)) (wanted : List Wanted) : Type 0 where
  pub few : own + length wanted ≤ 127
  pub within : (name : List ℕ) (k : ℕ) → place_of name called ≡ Some k → k < own

-- how many modules, defines and wants there are in all
abbrev pub total : List Module → ℕ
total [] = 0
total (m ∷ ms) = 1 + length m.defines.items + length m.wants.items + total ms

-- a segment has fewer than 2 to the power 32 of them
abbrev pub is_few : Part → Bool
is_few p = nat_lt (total p.modules) 4294967296
