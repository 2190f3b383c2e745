-- Each reader of statements depends on no token behind the one that it stops at.
use Rattle.std.proofs.Common.{ℕ, zero, suc, length, List, [], ◌∷◌}
use Rattle.spl_reading.specs.spl_tree.declared.names_and_places.At.{At}
use Rattle.spl_reading.specs.spl_tree.declared.symbols.Symbol.{Symbol}
use Rattle.spl_reading.specs.spl_tree.declared.symbols.Symbol.TheVariants as s
use Rattle.spl_reading.specs.spl_tree.declared.symbols.Reserved.{Reserved}
use Rattle.spl_reading.specs.spl_tree.declared.symbols.Reserved.TheVariants as w
use Rattle.spl_reading.specs.spl_tree.Symbols.{Lexeme}
use Rattle.spl_reading.specs.spl_tree.Trees.{Tree}
use Rattle.spl_reading.specs.spl_tree.StatementTrees as stat
use Rattle.spl_reading.specs.Readers.{Parser, refuse}
use Rattle.spl_reading.specs.ReadExpressions.{enter, within, expression, condition}
use Rattle.spl_reading.specs.ReadStatements.{indexed, reference, source_behind, source, while_or_until, move, scan, effect, if_test, value, assigned, field_assigned, behind_reference, stepped, go_name, more_statements, statement_list, labelled, with_arguments, named_statement, address_assigned, block, else_behind, if_statement, while_statement, do_statement, for_statement, case_statement, go_statement, effect_statement, by_word, statement_by, statement_step, statement}
use Rattle.spl_grammar.proofs.LocalReaders.{IsLocal, local_pure, local_refuse, local_take, local_then, local_symbol, local_if, local_allowed, local_expect, local_repeat, locals, Taking, takes_take, takes_then, taking, taking_none, taking_if, taking_symbol}
use Rattle.spl_grammar.proofs.LocalExpressions.{local_constant, local_enclosed, local_arguments, local_within, local_expression, local_condition}

local_boxed : (room : ℕ) → IsLocal (Rattle.spl_reading.specs.ReadExpressions.enclosed room refuse (within room 0) 0)
local_boxed room = local_enclosed room refuse (within room 0) 0 local_refuse (local_within room 0)

local_indexed : (room : ℕ) (t : Lexeme) → IsLocal (indexed room t)
unfolding indexed
local_indexed room t = search (locals, local_boxed)

pub local_reference : (room : ℕ) → IsLocal (reference room)
unfolding reference
local_reference room = search (locals, local_indexed)

local_source_behind : (room : ℕ) (r : Tree) → IsLocal (source_behind room r)
unfolding source_behind
local_source_behind room r = search (locals, local_boxed) depth 7

local_source : (room : ℕ) → IsLocal (source room)
unfolding source
local_source room = search (locals, local_reference, local_source_behind) depth 7

local_until : IsLocal while_or_until
unfolding while_or_until
local_until = search locals depth 7

pub local_effect : (room : ℕ) → IsLocal (effect room)
unfolding effect move scan
local_effect room = search (locals, local_reference, local_source, local_until, local_expression) depth 9

pub local_test : (room : ℕ) → IsLocal (if_test room)
unfolding if_test
local_test room = search (locals, local_condition) depth 7

local_value : (room : ℕ) (to : stat.Target) (at : At) → IsLocal (value room to at)
unfolding value
local_value room to at = search (locals, local_effect, local_expression) depth 7

local_assigned : (room : ℕ) (to : stat.Target) (at : At) → IsLocal (assigned room to at)
unfolding assigned
local_assigned room to at = search (locals, local_value)

local_field : (room : ℕ) (r : Tree) (at : At) → IsLocal (field_assigned room r at)
unfolding field_assigned
local_field room r at = search (locals, local_constant, local_assigned) depth 9

local_behind : (room : ℕ) (r : Tree) (at : At) (x : stat.Statement) → IsLocal (behind_reference room r at x)
unfolding behind_reference
local_behind room r at x = search (locals, local_field, local_assigned)

local_stepped : (room : ℕ) → IsLocal (stepped room)
unfolding stepped
local_stepped room = search (locals, local_expression) depth 7

local_go : (g : Lexeme) → IsLocal (go_name g)
unfolding go_name
local_go g = search locals

-- the statements of a list
module _ (inner : Parser stat.Statement) (li : IsLocal inner) where
  local_more : (xs : List stat.Statement) → IsLocal (more_statements inner xs)
  unfolding more_statements
  local_more xs = local_symbol (λ k. local_if _ (local_then local_take (λ _. local_then li (λ x. local_pure _)))
      (local_pure _))

  pub takes_more_statements : (xs : List stat.Statement) (ts : List Lexeme)
      → Taking (length ts) (more_statements inner xs ts)
  unfolding more_statements
  takes_more_statements xs = taking_symbol
      (λ k. taking_if _ (taking (takes_then takes_take (λ _. local_then li (λ x. local_pure _)))) (taking_none xs))

  pub local_list : IsLocal (statement_list inner)
  unfolding statement_list
  local_list = local_then li (λ x. local_repeat (x ∷ []) local_more takes_more_statements)

module _ (room below : ℕ) (inner : Parser stat.Statement) (li : IsLocal inner) where
  local_enter : IsLocal (enter room 0)
  unfolding enter
  local_enter = local_allowed _

  local_labelled : (t : Lexeme) → IsLocal (labelled room below inner t)
  unfolding labelled
  local_labelled t = local_then local_enter (λ _. local_then li (λ x. local_pure _))

  local_with : (t : Lexeme) → IsLocal (with_arguments room below inner t)
  unfolding with_arguments
  local_with t = local_then (local_arguments room refuse (within room 0) 0 local_refuse (local_within room 0))
      (λ es. local_if _ (local_behind room _ _ _) (local_pure _))

  local_named_statement : (t : Lexeme) → IsLocal (named_statement room below inner t)
  unfolding named_statement
  local_named_statement t = search (locals, local_labelled, local_with, local_behind)

  local_address : IsLocal (address_assigned room below inner)
  unfolding address_assigned
  local_address = search (locals, local_assigned)

  local_block : IsLocal (block room below inner)
  unfolding block
  local_block = local_then local_enter (λ _. local_then (local_list inner li) (λ xs. search locals))

  local_else : (i : Lexeme) (q : stat.Test) (x : stat.Statement) → IsLocal (else_behind room below inner i q x)
  unfolding else_behind
  local_else i q x = local_symbol
      (λ k. local_if _ (local_then local_take (λ _. local_then li (λ y. local_pure _))) (local_pure _))

  local_if_statement : IsLocal (if_statement room below inner)
  unfolding if_statement
  local_if_statement = local_then local_enter
      (λ i. local_then (local_test below) (λ q. local_then (local_expect _) (λ _. local_then li (local_else i q))))

  local_while : IsLocal (while_statement room below inner)
  unfolding while_statement
  local_while = local_then local_enter
      (λ t. local_then (local_condition below 0)
      (λ e. local_then (local_expect _) (λ _. local_then li (λ x. local_pure _))))

  local_do : IsLocal (do_statement room below inner)
  unfolding do_statement
  local_do = local_then local_enter
      (λ t. local_then li (λ x. local_then (local_expect _)
      (λ _. local_then (local_condition below 0) (λ e. local_pure _))))

  local_for : IsLocal (for_statement room below inner)
  unfolding for_statement
  local_for = local_then local_enter
      (λ f. local_then (local_expect _)
      (λ t. local_then (local_expect _)
      (λ _. local_then (local_expression below 0) (λ a. local_then (local_stepped below) (λ es.
      local_then (local_expect _) (λ _. local_then (local_expression below 0)
      (λ b. local_then (local_expect _) (λ _. local_then li (λ x. local_pure _)))))))))

  local_case : IsLocal (case_statement room below inner)
  unfolding case_statement
  local_case = local_then local_enter
      (λ c. local_then (local_expression below 0)
      (λ e. local_then (local_expect _)
      (λ _. local_then (local_expect _) (λ _. local_then (local_list inner li) (λ xs. search locals)))))

  local_go_statement : IsLocal (go_statement room below inner)
  unfolding go_statement
  local_go_statement = search (locals, local_go) depth 7

  local_effect_statement : IsLocal (effect_statement room below inner)
  unfolding effect_statement
  local_effect_statement = search (locals, local_effect)

  local_by_word : (k : Reserved) → IsLocal (by_word room below inner k)
  unfolding by_word
  local_by_word w.Begin = local_block
  local_by_word w.If = local_if_statement
  local_by_word w.While = local_while
  local_by_word w.Do = local_do
  local_by_word w.For = local_for
  local_by_word w.Case = local_case
  local_by_word w.Go = local_go_statement
  local_by_word w.Goto = search (locals, local_go)
  local_by_word w.Return = search locals
  local_by_word w.Move = local_effect_statement
  local_by_word w.Scan = local_effect_statement
  local_by_word _ = local_pure _

  local_statement_by : (k : Symbol) → IsLocal (statement_by room below inner k)
  unfolding statement_by
  local_statement_by s.Name = search (locals, local_named_statement)
  local_statement_by s.AtSign = local_address
  local_statement_by (s.Word w) = local_by_word w
  local_statement_by _ = local_pure _

  local_statement_step : IsLocal (statement_step room below inner)
  unfolding statement_step
  local_statement_step = local_symbol local_statement_by

pub local_statement : (room : ℕ) → IsLocal (statement room)
unfolding statement
local_statement zero = local_statement_step zero zero refuse local_refuse
local_statement (suc room) = local_statement_step (suc room) room (statement room) (local_statement room)
