-- The codes of a unit before its first body, one for each of its segments.
use Rattle.std.specs.Prelude.{◌≡◌, ℕ, ◌+◌, Bool, false, not, ◌&&◌, nat_eq, if◌then◌else◌, List, [], length, map, replicate, Some, None}
use Rattle.std.specs.List.{slice_get}
use Rattle.spl_tree.specs.Views.{letters}
use Rattle.spl_module_code.specs.spl_meaning.Tables.{Source}
use Rattle.spl_module_code.specs.spl_modules.Made.{Made, made_of}
use Rattle.spl_unit_codes.specs.declared.growing.Growing.{Growing}

-- the code of a segment with this name and these entries: a mark for each, and one for a main body
pub record IsBegun (name : List ℕ) (es : List Made) (has_main : Bool) (x : Growing) : Type 0 where
  pub segment : letters x.code.segment ≡ name
  pub pieces : x.code.pieces.items ≡ []
  pub marks : x.code.marks.items ≡ replicate (length es + (if has_main then 1 else 0)) false
  pub entries : map made_of x.code.entries.items ≡ es
  pub wants : x.code.wants.items ≡ []
  pub main : x.code.main ≡ (if has_main then Some (length es) else None)
  pub done : x.done ≡ 0

-- a unit has its main body in a segment
abbrev pub has_main : Source → ℕ → Bool
has_main u g = not u.subprogram && nat_eq u.tree.segment g

-- the code of each segment
pub record AreBegun (u : Source) (made : ℕ → List Made) (parts : List Growing) : Type 0 where
  pub number : length parts ≡ length u.segments
  pub each : (g : ℕ) (x : Growing) → slice_get parts g ≡ Some x → (name : List ℕ) × (slice_get u.segments g ≡ Some name) × IsBegun name (made g) (has_main u g) x
