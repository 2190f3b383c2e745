-- Units that some tokens spell, as they are handed to the checker of rules.
use Rattle.std.specs.Prelude.{ℕ, ◌≡◌, ◌+◌, List, [], map, slice_get, Some}
use Rattle.spl_tree.specs.declared.units.SplUnit.{SplUnit}
use Rattle.spl_tree.specs.Spells.{unit_tree}
use Rattle.spl_tree.specs.Views.{letters}
use Rattle.spl_cuts.specs.Signs.{Listed}
use Rattle.spl_cuts.specs.Lexemes.{lexemes}
use Rattle.spl_cuts.specs.Whole.{IsWhole}
use Rattle.spl_grammar.specs.spl_reading.Readers.{Got}
use Rattle.spl_grammar.specs.Verdicts.{Verdict}
use Rattle.spl_meaning.specs.Tables.{Source}

-- the most tokens before the end of a unit's text
abbrev pub most_tokens : ℕ
most_tokens = 262144

-- the most units of a program
abbrev pub most_units : ℕ
most_units = 32

-- a unit as the meaning of sources sees it
abbrev pub source_of : SplUnit → Source
source_of u = record { subprogram = u.subprogram; segments = map letters u.segments.items; tree = unit_tree u }

-- Tokens spell the unit of this number, nowhere too deep: no more than may be, each with that number, and in one of the unit's segments.
pub record Spelled (number : ℕ) (u : Source) : Type 0 where
  pub listed : Listed
  pub whole : IsWhole number most_tokens listed
  pub subprogram : u.subprogram ≡ listed.subprogram
  pub segments : u.segments ≡ listed.segments
  pub spelled : Verdict (lexemes listed) (Got u.tree [])

-- some tokens spell each of these units, the first of which has number 1
abbrev pub AreSpelled : List Source → Type 0
AreSpelled us = (i : ℕ) (u : Source) → slice_get us i ≡ Some u → ∥ Spelled (i + 1) u ∥₁
