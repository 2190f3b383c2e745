-- The two lists of a session's data, whichever state it is in.
use Rattle.std.specs.Prelude.{ℕ, ◌+◌, Bool, true, false, List, ◌++◌, length, take, drop, Result, slice_set, vec_capacity, if◌then◌else◌}
use Rattle.hp_window.specs.declared.bounds.Bounds.{Bounds}
use Rattle.hp_window.specs.Window.{read_below}
use Rattle.hp_tos.specs.declared.data.Data.{Data}
use Rattle.hp_tos.specs.declared.data.Data.TheVariants.{Whole, Split}

-- the whole room of the stack and the extra segment, the state, and for how many words memory is reserved
pub record Lists : Type 0 where
  pub stack : List ℕ
  pub extra : List ℕ
  pub split : Bool
  pub capacity : ℕ
  pub extra_capacity : ℕ

-- the lists of a session's data
unfoldable pub lists : Data → Lists
lists (Whole d) = record {
  stack = d.stack.items;
  extra = d.extra.items;
  split = false;
  capacity = vec_capacity d.stack;
  extra_capacity = vec_capacity d.extra;
}
lists (Split d) = record {
  stack = d.stack.items;
  extra = d.extra.items;
  split = true;
  capacity = vec_capacity d.stack;
  extra_capacity = vec_capacity d.extra;
}

-- w in place of a word of the room
abbrev pub stored : ℕ → ℕ → Lists → Lists
stored address w d = record d { stack = slice_set d.stack address w }

-- these words in place of as many of the room, from an address upwards
abbrev pub stored_all : ℕ → List ℕ → Lists → Lists
stored_all address ws d =
    record d { stack = take address d.stack ++ (ws ++ drop (address + length ws) d.stack) }

-- w in place of the word that DB addresses
abbrev pub db_stored : ℕ → ℕ → Lists → Lists
db_stored address w d = if d.split then record d { extra = slice_set d.extra address w } else stored address w d

-- below what an address of DB has to be, where the stack has top words
abbrev pub db_top : ℕ → Lists → ℕ
db_top top d = if d.split then length d.extra else top

-- the word that DB addresses, where the stack has top words
abbrev pub db_read : ℕ → ℕ → Lists → Result ℕ Bounds
db_read address top d = read_below (if d.split then d.extra else d.stack) address (db_top top d)
