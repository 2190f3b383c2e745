-- Names of segments in order of first use, and the modules of each.
use Rattle.std.specs.Prelude.{ℕ, ◌+◌, ◌||◌, nat_eq, Bool, false, if◌then◌else◌, List, [], ◌∷◌, ◌++◌, map}
use Rattle.std.specs.Cmp.Lexicographic.{pointwise}
use Rattle.spl_branch.specs.declared.modules.Module.{Module}

-- the letters of a module's segment
abbrev pub segment_of : Module → List ℕ
segment_of m = m.segment.text.items

-- a name is among others
abbrev pub is_among : List ℕ → List (List ℕ) → Bool
is_among name [] = false
is_among name (n ∷ names) = pointwise nat_eq name n || is_among name names

-- the names with one more behind them, unless it is there
abbrev pub with_name : List (List ℕ) → List ℕ → List (List ℕ)
with_name names name = if is_among name names then names else names ++ name ∷ []

-- the names with those of the segments of modules, in order of first use
abbrev pub names_from : List (List ℕ) → List Module → List (List ℕ)
names_from names [] = names
names_from names (m ∷ ms) = names_from (with_name names (segment_of m)) ms

-- the names of the segments of a program; a segment's number is the place of its name
abbrev pub segment_names : List Module → List (List ℕ)
segment_names ms = names_from [] ms

-- the place of a name; behind all where it is not there
abbrev pub number_of : List (List ℕ) → List ℕ → ℕ
number_of [] name = 0
number_of (n ∷ names) name = if pointwise nat_eq name n then 0 else number_of names name + 1

-- the modules of a segment, in order
abbrev pub modules_of : List ℕ → List Module → List Module
modules_of name [] = []
modules_of name (m ∷ ms) = if pointwise nat_eq name (segment_of m) then m ∷ modules_of name ms else modules_of name ms

-- a segment: its name, and its modules in order
pub record Part : Type 0 where
  pub name : List ℕ
  pub modules : List Module

-- the segment of a name
abbrev pub part_from : List Module → List ℕ → Part
part_from ms name = record { name = name; modules = modules_of name ms }

-- the segments of a program, by their numbers
abbrev pub parts : List Module → List Part
parts ms = map (part_from ms) (segment_names ms)
