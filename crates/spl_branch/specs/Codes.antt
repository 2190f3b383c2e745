-- What a code keeps, and when it is complete.
use Rattle.std.specs.Prelude.{ℕ, ◌≡◌, ◌&&◌, Bool, true, List, [], ◌∷◌, ◌++◌, length, is_some, unwrap_or, position, if◌then◌else◌}
use Rattle.std.specs.Bool.{beq}
use Rattle.std.specs.Str.{bytes_eq}
use Rattle.spl_tree.specs.declared.names_and_places.Name.{Name}
use Rattle.std.specs.List.{list_all}
use Rattle.spl_branch.specs.declared.buffer.Entry.{Entry}
use Rattle.spl_branch.specs.declared.buffer.Code.{Code}
use Rattle.spl_branch.specs.declared.modules.Want.{Want}
use Rattle.spl_branch.specs.Pieces.{named, is_set, is_set_if, is_indexed}

-- two wants have the same name, and are both or neither intrinsics
abbrev pub same_want : List ℕ → Bool → Want → Bool
same_want name gate w = bytes_eq w.name.text.items name && beq w.gate gate

-- the wants with one more, unless it is there
abbrev pub with_want : Name → Bool → List Want → List Want
with_want name gate ws = if is_some (position (same_want name.text.items gate) ws) then ws else ws ++ record { name = name; gate = gate } ∷ []

-- the place of a want; behind all where it is not there
abbrev pub want_place : Name → Bool → List Want → ℕ
want_place name gate ws = unwrap_or (position (same_want name.text.items gate) ws) (length ws)

-- the segment's name, the entries and the main body's mark are the same
pub record SameFrame (c d : Code) : Type 0 where
  pub segment : d.segment ≡ c.segment
  pub entries : d.entries ≡ c.entries
  pub main : d.main ≡ c.main

-- a code is complete: each mark that a piece, an entry or the main body names is set, and each call has its want or entry
pub record IsComplete (c : Code) : Type 0 where
  pub pieces : list_all (λ x. is_set_if c.marks.items (named x)) c.pieces.items ≡ true
  pub entries : list_all (λ (e : Entry). is_set c.marks.items e.mark) c.entries.items ≡ true
  pub main : is_set_if c.marks.items c.main ≡ true
  pub calls : list_all (is_indexed (length c.wants.items) (length c.entries.items)) c.pieces.items ≡ true
