-- Each reader of expressions depends on no token behind the one that it stops at.
use Rattle.std.proofs.Common.{ℕ, zero, suc, length, Bool, true, false, List, [], ◌∷◌, Option, Some, None}
use Rattle.spl_reading.specs.spl_tree.declared.names_and_places.At.{At}
use Rattle.spl_reading.specs.spl_tree.declared.symbols.Symbol.{Symbol}
use Rattle.spl_reading.specs.spl_tree.declared.symbols.Symbol.TheVariants as s
use Rattle.spl_reading.specs.spl_tree.Symbols.{Lexeme}
use Rattle.spl_reading.specs.spl_tree.Trees as tree
use Rattle.spl_reading.specs.Readers.{Parser}
use Rattle.spl_reading.specs.ReadExpressions.{Found, constant, constant_by, signed_by, bits, field, negative_by, opening, enter, enclosed, more_arguments, arguments, named, addressed, primary_by, inverse, primary, unary_step, counted, signed_by_next, first, join, shifted, bytes, turn_by, turn, level, whole, unary, expression, within, condition, begins}
use Rattle.spl_grammar.proofs.LocalReaders.{IsLocal, local_pure, local_refuse, local_take, local_place, local_then, local_symbol, local_if, local_allowed, local_repeat, locals, Takes, Taking, takes_take, takes_then, takes_allowed, taking, taking_none, taking_if, taking_symbol}

pub local_signed : (minus : Bool) (k : Symbol) → IsLocal (signed_by minus k)
unfolding signed_by
local_signed minus (s.Number v) = search locals
local_signed minus (s.Wide v) = search locals
local_signed minus _ = local_refuse

pub local_constant_by : (k : Symbol) → IsLocal (constant_by k)
unfolding constant_by
local_constant_by (s.Number v) = search locals
local_constant_by (s.Wide v) = search locals
local_constant_by s.Text = search locals
local_constant_by (s.Truth b) = search locals
local_constant_by s.Name = search locals
local_constant_by (s.Operator op) = search (locals, local_signed)
local_constant_by _ = local_refuse

pub local_constant : IsLocal constant
unfolding constant
local_constant = local_symbol local_constant_by

pub local_bits : (at : At) (r : Found) → IsLocal (bits at r)
unfolding bits
local_bits at r = search (locals, local_constant) depth 9

pub local_field : (at : At) (r : Found) → IsLocal (field at r)
unfolding field
local_field at r = search (locals, local_bits)

pub local_negative : (at : At) (k : Symbol) → IsLocal (negative_by at k)
unfolding negative_by
local_negative at (s.Number v) = search locals
local_negative at (s.Wide v) = search locals
local_negative at _ = local_refuse

pub local_opening : (room taken : ℕ) → IsLocal (opening room taken)
unfolding opening enter
local_opening room taken = search locals

-- a further argument takes its comma
pub takes_more : (room : ℕ) (inner : Parser Found) (whole_one : Parser tree.Tree) (taken : ℕ) → IsLocal whole_one
    → (es : List tree.Tree) (ts : List Lexeme)
    → Taking (length ts) (more_arguments room inner whole_one taken es ts)
unfolding more_arguments
takes_more room inner whole_one taken lw es = taking_symbol
    (λ k. taking_if _ (taking (takes_then (takes_then takes_take (λ _. lw)) (λ _. local_pure _))) (taking_none es))

module _ (room : ℕ) (inner : Parser Found) (whole_one : Parser tree.Tree) (taken : ℕ) (li : IsLocal inner)
    (lw : IsLocal whole_one) where
  pub local_enclosed : IsLocal (enclosed room inner whole_one taken)
  unfolding enclosed
  local_enclosed = local_then (local_opening room taken) (λ _. local_then lw (λ e. search locals))

  pub local_more : (es : List tree.Tree) → IsLocal (more_arguments room inner whole_one taken es)
  unfolding more_arguments
  local_more es = local_symbol (λ k. local_if _ (local_then (local_then local_take (λ _. lw)) (λ e. local_pure _))
      (local_pure _))

  pub local_arguments : IsLocal (arguments room inner whole_one taken)
  unfolding arguments
  local_arguments = local_then (local_opening room taken) (λ _. local_then lw (λ e.
      local_then (local_repeat (e ∷ []) local_more (takes_more room inner whole_one taken lw)) (λ es. search locals)))

  pub local_named_part : (t : Lexeme) → IsLocal (named room inner whole_one taken t)
  unfolding named
  local_named_part t = search (locals, local_arguments)

  pub local_addressed : (a t : Lexeme) → IsLocal (addressed room inner whole_one taken a t)
  unfolding addressed
  local_addressed a t = search (locals, local_enclosed)

  pub local_primary_by : (k : Symbol) → IsLocal (primary_by room inner whole_one taken k)
  unfolding primary_by
  local_primary_by (s.Number v) = search locals
  local_primary_by (s.Wide v) = search locals
  local_primary_by s.Text = search locals
  local_primary_by (s.Truth b) = search locals
  local_primary_by s.Name = search (locals, local_named_part)
  local_primary_by s.AtSign = search (locals, local_addressed)
  local_primary_by s.Open = search (locals, local_enclosed)
  local_primary_by (s.Type k) = search (locals, local_enclosed)
  local_primary_by _ = local_refuse

  pub local_inverse : IsLocal (inverse room inner whole_one taken)
  unfolding inverse enter
  local_inverse = local_then (local_allowed _) (λ t. local_then li (λ r. local_pure _))

  pub local_primary : IsLocal (primary room inner whole_one taken)
  unfolding primary
  local_primary = search (locals, local_primary_by, local_field)

  pub local_unary_step : (f : Option At) → IsLocal (unary_step room inner whole_one taken f)
  unfolding unary_step
  local_unary_step None = search (locals, local_primary, local_inverse)
  local_unary_step (Some at) = search (locals, local_negative, local_field)

module _ (u : ℕ → Option At → Parser Found) (count : ℕ → Parser tree.Tree) (room : ℕ) (c : Bool) (taken : ℕ)
    (lu : (k : ℕ) (f : Option At) → IsLocal (u k f)) (lc : (k : ℕ) → IsLocal (count k)) where
  pub local_next : (below : ℕ → Option At → Parser Found) → ((n : ℕ) (f : Option At) → IsLocal (below n f))
      → (n : ℕ) (t : Lexeme) (k : Symbol)
      → IsLocal (signed_by_next u count room c taken below n t k)
  unfolding signed_by_next
  local_next below l n t k = search (locals, l)

  pub local_first : (below : ℕ → Option At → Parser Found) → ((n : ℕ) (f : Option At) → IsLocal (below n f))
      → (h n : ℕ) (f : Option At)
      → IsLocal (first u count room c taken below h n f)
  unfolding first
  local_first below l h n f = search (locals, l, local_next below l) depth 7

  pub local_join : (below : ℕ → Option At → Parser Found) → ((n : ℕ) (f : Option At) → IsLocal (below n f))
      → (h : ℕ) (at : At) (r : Found)
      → IsLocal (join u count room c taken below h at r)
  unfolding join counted
  local_join below l h at r = search (locals, l)

  takes_join : (below : ℕ → Option At → Parser Found) → ((n : ℕ) (f : Option At) → IsLocal (below n f))
      → (h : ℕ) (at : At) (r : Found)
      → Takes (join u count room c taken below h at r)
  unfolding join counted
  takes_join below l h at r = takes_then (takes_allowed _) (λ o. search (locals, l))

  pub local_shifted : (at : At) (r : Found) → IsLocal (shifted u count room c taken at r)
  unfolding shifted counted
  local_shifted at r = search (locals, local_constant) depth 8

  takes_shifted : (at : At) (r : Found) → Takes (shifted u count room c taken at r)
  unfolding shifted counted
  takes_shifted at r = takes_then (takes_allowed _) (λ o. search (locals, local_constant) depth 8)

  pub local_bytes : (r : Found) → IsLocal (bytes u count room c taken r)
  unfolding bytes
  local_bytes r = search (locals, local_opening, lc) depth 8

  takes_bytes : (r : Found) → Takes (bytes u count room c taken r)
  unfolding bytes
  takes_bytes r = takes_then takes_take (λ o. search (locals, local_opening, lc) depth 8)

  pub local_turn : (below : ℕ → Option At → Parser Found) → ((n : ℕ) (f : Option At) → IsLocal (below n f))
      → (h : ℕ) (at : At) (r : Found)
      → IsLocal (turn u count room c taken below h at r)
  unfolding turn turn_by
  local_turn below l h at r = search (locals, local_join below l, local_shifted, local_bytes) depth 7

  pub takes_turn : (below : ℕ → Option At → Parser Found) → ((n : ℕ) (f : Option At) → IsLocal (below n f))
      → (h : ℕ) (at : At) (r : Found)
      (ts : List Lexeme) → Taking (length ts) (turn u count room c taken below h at r ts)
  unfolding turn turn_by
  takes_turn below l h at r = taking_symbol (λ k. taking_if _ (taking (takes_join below l h at r))
      (taking_if _ (taking (takes_shifted at r)) (taking_if _ (taking (takes_bytes r)) (taking_none r))))

  pub local_level : (h n : ℕ) (f : Option At) → IsLocal (level u count room c taken h n f)
  unfolding level
  local_level zero n f = search (locals, lu)
  local_level (suc h) n f = local_then local_place (λ at. local_then (local_first _ (local_level h) h n f)
      (λ r. local_repeat r (local_turn _ (local_level h) h (begins f at))
      (takes_turn _ (local_level h) h (begins f at))))

pub local_whole : (u : ℕ → Option At → Parser Found) (room taken : ℕ) → ((k : ℕ) (f : Option At) → IsLocal (u k f))
    → IsLocal (whole u room taken)
unfolding whole
local_whole u room taken lu = local_then (local_level u _ room false taken lu (λ _. local_refuse) 10 0 None)
    (λ r. local_pure _)

pub local_unary : (room taken : ℕ) (f : Option At) → IsLocal (unary room taken f)
unfolding unary
local_unary zero taken f = local_unary_step _ _ _ _ local_refuse local_refuse f
local_unary (suc room) taken f = local_unary_step _ _ _ _ (local_unary room taken None)
    (local_whole _ _ _ (local_unary room)) f

pub local_expression : (room taken : ℕ) → IsLocal (expression room taken)
unfolding expression
local_expression room taken = local_whole _ room taken (local_unary room)

pub local_within : (room taken : ℕ) → IsLocal (within room taken)
unfolding within
local_within zero taken = local_refuse
local_within (suc room) taken = local_expression room taken

pub local_condition : (room taken : ℕ) → IsLocal (condition room taken)
unfolding condition
local_condition room taken = local_then
    (local_level _ _ room true taken (local_unary room) (local_within room) 10 0 None) (λ r. local_pure _)
