-- Which references lead to bytes that can be compared.
use Rattle.std.specs.Prelude.{◌&&◌, ◌||◌, not, Bool, false}
use Rattle.spl_names.specs.spl_tree.Trees as tree
use Rattle.spl_names.specs.spl_tree.Trees.{Tree}
use Rattle.spl_names.specs.spl_meaning.Kinds.{variable_kind, is_byte}
use Rattle.spl_names.specs.spl_meaning.References.{Setting, Access, by_cell, access_of}
use Rattle.spl_names.specs.spl_code.Calls.{Scope}

-- In a split procedure moves and comparisons find their elements in the extra segment, to which a pointer alone leads.
abbrev pub is_moved_place : Setting → Access → Bool
is_moved_place st (by_cell is_pointer t) = is_pointer || not st.split
is_moved_place st a = not st.split

-- a name of BYTEs, at such a place
abbrev pub is_byte_element : Scope → Setting → Tree → Bool
is_byte_element c st (tree.Tree.named x es at) = is_byte (variable_kind (c.names x)) && is_moved_place st (access_of (c.names x))
is_byte_element c st e = false
