-- Which places and operators the laws of this crate speak of, and what is asked of the code of operands.
use Rattle.std.specs.Prelude.{ℕ, ◌+◌, ◌==◌, ◌&&◌, ◌||◌, not, nat_lt, nat_le, Bool, true, false, List}
use Rattle.hp_yields.specs.spl_tree.declared.expressions.Kind.{Kind}
use Rattle.hp_yields.specs.spl_tree.declared.expressions.Kind.TheVariants as kind
use Rattle.hp_yields.specs.spl_meaning.Kinds.{Class, integers, logicals, doubles, mixed, plus, minus}
use Rattle.hp_yields.specs.spl_meaning.Laws.{IsFront}
use Rattle.hp_yields.specs.spl_meaning.Places.{Place, data_word, above_base, below_base, below_return}
use Rattle.hp_yields.specs.spl_meaning.References.{Setting}
use Rattle.hp_yields.specs.spl_code.Parts.{Part, Wanted}
use Rattle.hp_yields.specs.spl_code.Stores.{from_top}
use Rattle.hp_yields.specs.spl_follow.Standing.{IsClosed}

-- a kind whose values are whole words
abbrev pub is_word_kind : Kind → Bool
is_word_kind kind.Integer = true
is_word_kind kind.Logical = true
is_word_kind kind.Byte = false
is_word_kind kind.Double = false

-- A place that its mode reaches, in a body with this setting and while k words wait: the displacement has as many bits as the mode holds; DB+
-- is the stack's in no split mode; and Q- stays among the words below the base. What is counted from the top is left out: its mode changes with k.
abbrev pub is_reached : Setting → ℕ → Place → Bool
is_reached st k (data_word a) = not st.split && nat_lt a 256
is_reached st k (above_base n) = nat_lt n 128
is_reached st k (below_base n) = nat_lt n 64 && nat_le n st.below
is_reached st k (below_return n) = false

-- A place that its mode names while exactly k words wait. What stands below a return word is counted from the top: it is among the words that the
-- body holds there, and the words that wait and its own distance fit the displacement of S-.
abbrev pub is_seen : Setting → ℕ → Place → Bool
is_seen st k (data_word a) = is_reached st k (data_word a)
is_seen st k (above_base n) = is_reached st k (above_base n)
is_seen st k (below_base n) = is_reached st k (below_base n)
is_seen st k (below_return n) = st.inside && (nat_le n st.held && nat_lt (k + n) 64)

-- a place that does not move with the top
abbrev pub is_fixed : Place → Bool
is_fixed place = not (from_top place)

-- an operator by its number is + or -
abbrev pub is_sum : ℕ → Bool
is_sum op = (op == plus) || (op == minus)

-- a class whose operands are single words
abbrev pub is_word_class : Class → Bool
is_word_class integers = true
is_word_class logicals = true
is_word_class doubles = false
is_word_class mixed = false

-- The code of a part is whole: nothing is due behind it, whatever was before it, and it keeps the names that are wanted.
pub record IsWhole (part : Part) : Type 0 where
  pub closed : (l : ℕ) (ws : List Wanted) → IsClosed (part l ws).pieces
  pub keeps : (l : ℕ) (ws : List Wanted) → IsFront ws (part l ws).wants
