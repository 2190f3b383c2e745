-- Which names are proved, and how code reads them. A further sort makes it larger.
use Rattle.std.specs.Prelude.{ℕ, ◌&&◌, ◌||◌, not, Bool, true, false, List, Option, Some, None}
use Rattle.spl_statement_code.specs.spl_tree.declared.expressions.Kind.{Kind}
use Rattle.spl_statement_code.specs.spl_tree.declared.expressions.Kind.TheVariants as kind
use Rattle.spl_statement_code.specs.spl_meaning.Names as n
use Rattle.spl_statement_code.specs.spl_meaning.Names.{Sort}
use Rattle.spl_statement_code.specs.spl_meaning.Places.{Place}
use Rattle.spl_statement_code.specs.spl_meaning.References.{Here, Setting, Access, its_own, by_address, by_cell, access_of}
use Rattle.spl_statement_code.specs.spl_code.Calls.{Scope}
use Rattle.spl_addresses.specs.spl_values.Reached.{is_reached}
use Rattle.spl_tops.specs.spl_operators.Laws.{is_single}
use Rattle.spl_tops.specs.Seen.{is_seen}

-- what the parts of a body are read with, where its code is made with these names and places
abbrev pub read_with : Scope → (List ℕ → Option (Kind × Place)) → Setting → Here
read_with c results st = record { names = c.names; places = c.places; results = results; setting = st }

-- ---- one word

-- a place that there is, and that is reached
abbrev pub has_reached : Setting → ℕ → Option Place → Bool
has_reached st k (Some place) = is_reached st k place
has_reached st k None = false

-- and one that is seen
abbrev pub has_seen : Setting → ℕ → Option Place → Bool
has_seen st k (Some place) = is_seen st k place
has_seen st k None = false

-- The word of a name that is seen leads to values of a kind of one word: in a split procedure, whose mode leads to the extra segment, that of a
-- pointer alone. The elements of arrays and of pointers may have an index, and a parameter by reference has none.
abbrev pub is_led_element : Setting → ℕ → Access → Option Place → Bool
is_led_element st k (by_cell is_pointer t) place = is_single t && ((is_pointer || not st.split) && has_seen st k place)
is_led_element st k _ place = false

abbrev pub is_led : Setting → ℕ → Access → Option Place → Bool
is_led st k (by_address t) place = is_single t && (not st.split && has_seen st k place)
is_led st k (by_cell is_pointer t) place = is_led_element st k (by_cell is_pointer t) place
is_led st k _ place = false

-- a name without an index: a constant that has a value; a simple variable or a parameter by value of one word or BYTE, where it is seen; or one
-- whose word leads to a word
abbrev pub is_covered_name : Setting → ℕ → Option Sort → Option Place → Bool
is_covered_name st k (Some (n.equate (Some v))) place = true
is_covered_name st k (Some (n.simple t own)) place = is_single t && has_seen st k place
is_covered_name st k (Some (n.value t)) place = is_single t && has_seen st k place
is_covered_name st k sort place = is_led st k (access_of sort) place

-- A name has an address, without an index, where its place is seen: its own, or the one that its word is; and so have elements at an index.
abbrev pub is_addressed : Setting → ℕ → Access → Option Place → Bool
is_addressed st k (its_own t) place = has_seen st k place
is_addressed st k (by_address t) place = has_seen st k place
is_addressed st k (by_cell is_pointer t) place = has_seen st k place
is_addressed st k _ place = false

abbrev pub is_addressed_element : Setting → ℕ → Access → Option Place → Bool
is_addressed_element st k (by_cell is_pointer t) place = has_seen st k place
is_addressed_element st k _ place = false

-- ---- DOUBLEs

-- a DOUBLE variable or parameter by value, where it is seen
abbrev pub is_wide_name : Setting → ℕ → Option Sort → Option Place → Bool
is_wide_name st k (Some (n.simple kind.Double own)) place = has_seen st k place
is_wide_name st k (Some (n.value kind.Double)) place = has_seen st k place
is_wide_name st k _ place = false

-- The word of a name that is seen leads to DOUBLEs: in a split procedure, whose mode leads to the extra segment, that of a pointer alone. The
-- elements of arrays and of pointers may have an index, and a parameter by reference has none.
abbrev pub is_wide_element : Setting → ℕ → Access → Option Place → Bool
is_wide_element st k (by_cell is_pointer kind.Double) place = (is_pointer || not st.split) && has_seen st k place
is_wide_element st k _ place = false

abbrev pub is_wide_led : Setting → ℕ → Access → Option Place → Bool
is_wide_led st k (by_address kind.Double) place = not st.split && has_seen st k place
is_wide_led st k (by_cell is_pointer t) place = is_wide_element st k (by_cell is_pointer t) place
is_wide_led st k _ place = false
