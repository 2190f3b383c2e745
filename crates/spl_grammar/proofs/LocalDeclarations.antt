-- Each reader of declarations depends on no token behind the one that it stops at.
use Rattle.std.proofs.Common.{ℕ, ◌≤◌, length, Bool, true, false, List, [], ◌∷◌, Option, Some, None, arith}
use Rattle.spl_reading.specs.spl_tree.declared.expressions.Kind.{Kind}
use Rattle.spl_reading.specs.spl_tree.declared.expressions.Kind.TheVariants as kind
use Rattle.spl_reading.specs.spl_tree.declared.symbols.Symbol.{Symbol}
use Rattle.spl_reading.specs.spl_tree.declared.symbols.Symbol.TheVariants as s
use Rattle.spl_reading.specs.spl_tree.declared.symbols.Reserved.{Reserved}
use Rattle.spl_reading.specs.spl_tree.declared.symbols.Reserved.TheVariants as w
use Rattle.spl_reading.specs.spl_tree.Symbols.{Lexeme}
use Rattle.spl_reading.specs.spl_tree.DeclarationTrees as decl
use Rattle.spl_reading.specs.spl_tree.DeclarationTrees.{Placed}
use Rattle.spl_reading.specs.spl_tree.Declarations.{Options, pointers}
use Rattle.spl_reading.specs.Readers.{Outcome, Got, Bad, Parser, expect, by_symbol, refuse, same_symbol, take, pure}
use Rattle.spl_reading.specs.ReadExpressions.{constant, is}
use Rattle.spl_reading.specs.ReadStatements.{statement}
use Rattle.spl_reading.specs.ReadDeclarations.{more_parts, separated, name, names, item, shape, array, more_arrays, arrays, more_terms, equal, by_token, option_among, option_behind, more_options, options, parameters, spec_names, spec_behind, spec_by, more_specs, heading_tail, heading, BodyRead, array_data, item_data, behind_heading, procedure, subroutine, owned_by, typed_by, typed, by_word, declaration_by, declaration, more_declarations, declaration_list, body, next_segment, unit}
use Rattle.spl_grammar.proofs.LocalReaders.{IsLocal, Left, entire, Agrees, here, there, Like, got, end_of, local_pure, local_refuse, local_take, local_then, local_symbol, local_if, local_expect, local_repeat, locals, Takes, Taking, takes_take, takes_then, takes_symbol, takes_if, takes_refuse, taking, taking_none, taking_if, taking_symbol}
use Rattle.spl_grammar.proofs.LocalExpressions.{local_constant}
use Rattle.spl_grammar.proofs.LocalStatements.{local_statement, local_list}

-- parts with commas between
module _ {A : Type 0} (part : Parser A) (lp : IsLocal part) where
  local_more_parts : (xs : List A) → IsLocal (more_parts part xs)
  unfolding more_parts
  local_more_parts xs = local_symbol
      (λ k. local_if _ (local_then local_take (λ _. local_then lp (λ x. local_pure _))) (local_pure _))

  pub takes_more_parts : (xs : List A) (ts : List Lexeme) → Taking (length ts) (more_parts part xs ts)
  unfolding more_parts
  takes_more_parts xs = taking_symbol
      (λ k. taking_if _ (taking (takes_then takes_take (λ _. local_then lp (λ x. local_pure _)))) (taking_none xs))

  pub local_separated : IsLocal (separated part)
  unfolding separated
  local_separated = local_then lp (λ x. local_repeat (x ∷ []) local_more_parts takes_more_parts)

pub local_name : IsLocal name
unfolding name
local_name = search locals

pub local_names : IsLocal names
unfolding names
local_names = local_separated name local_name

pub local_item : IsLocal item
unfolding item
local_item = search (locals, local_constant) depth 8

local_shape : IsLocal shape
unfolding shape
local_shape = search (locals, local_constant) depth 9

pub local_array : IsLocal array
unfolding array
local_array = search (locals, local_shape) depth 7

local_more_arrays : (r : List decl.Item × decl.Item) → IsLocal (more_arrays r)
unfolding more_arrays
local_more_arrays r = local_symbol
    (λ k. local_if _ (local_then local_take (λ _. local_then local_array (λ i. local_pure _)))
    (local_if _ (local_then local_take
    (λ _. local_then (local_separated constant local_constant) (λ vs. local_pure _))) (local_pure _)))

pub takes_more_arrays : (r : List decl.Item × decl.Item) (ts : List Lexeme) → Taking (length ts) (more_arrays r ts)
unfolding more_arrays
takes_more_arrays r = taking_symbol
    (λ k. taking_if _ (taking (takes_then takes_take (λ _. local_then local_array (λ i. local_pure _))))
    (taking_if _ (taking (takes_then takes_take
    (λ _. local_then (local_separated constant local_constant) (λ vs. local_pure _)))) (taking_none r)))

pub local_arrays : IsLocal arrays
unfolding arrays
local_arrays = local_then local_array
    (λ i. local_then (local_repeat ([], i) local_more_arrays takes_more_arrays) (λ r. local_pure _))

local_more_terms : (ts : List decl.Term) → IsLocal (more_terms ts)
unfolding more_terms
local_more_terms ts = search (locals, local_constant) depth 7

pub takes_more_terms : (xs : List decl.Term) (ts : List Lexeme) → Taking (length ts) (more_terms xs ts)
unfolding more_terms
takes_more_terms xs = taking_symbol
    (λ k. taking_if _ (taking (takes_then takes_take (λ _. local_then local_constant (λ v. local_pure _))))
    (taking_none xs))

pub local_equal : IsLocal equal
unfolding equal
local_equal = local_then (local_expect _)
    (λ t. local_then (local_expect _)
    (λ _. local_then local_constant
    (λ v. local_then (local_repeat _ local_more_terms takes_more_terms) (λ ts. local_pure _))))

-- a choice by the first token
token_shrinks : {A : Type 0} (f : Lexeme → Parser A) → ((t : Lexeme) → IsLocal (f t)) → (ts : List Lexeme)
    → length (end_of (by_token f ts)) ≤ length ts
unfolding by_token
token_shrinks f l [] = omega arith
token_shrinks f l (t ∷ ts) = (l t).shrinks (t ∷ ts)

token_left : {A : Type 0} (f : Lexeme → Parser A) → ((t : Lexeme) → IsLocal (f t)) → (ts : List Lexeme)
    → Left (end_of (by_token f ts)) ts
unfolding by_token
token_left f l [] = entire
token_left f l (t ∷ ts) = (l t).left (t ∷ ts)

token_alike : {A : Type 0} (f : Lexeme → Parser A) → ((t : Lexeme) → IsLocal (f t)) → (us vs ts more : List Lexeme)
    → Agrees us vs ts more → Like us vs (by_token f ts) (by_token f more)
unfolding by_token
token_alike f l us vs _ _ (here {t = t}) = (l t).alike us vs _ _ here
token_alike f l us vs _ _ (there {t = t} h) = (l t).alike us vs _ _ (there h)

local_token : {A : Type 0} {f : Lexeme → Parser A} → ((t : Lexeme) → IsLocal (f t)) → IsLocal (by_token f)
local_token {f = f} l = record { shrinks = token_shrinks f l; left = token_left f l; alike = token_alike f l }

local_among : (a : Options) (o : Option Options) → IsLocal (option_among a o)
unfolding option_among
local_among a None = local_refuse
local_among a (Some b) = search locals

local_option : (a : Options) → IsLocal (option_behind a)
unfolding option_behind
local_option a = local_token (λ t. local_if _ (local_among a _) local_refuse)

local_more_options : (a : Options) → IsLocal (more_options a)
unfolding more_options
local_more_options a = local_symbol
    (λ k. local_if _ (local_then local_take (λ _. local_then (local_option a) (λ b. local_pure _))) (local_pure _))

pub takes_more_options : (a : Options) (ts : List Lexeme) → Taking (length ts) (more_options a ts)
unfolding more_options
takes_more_options a = taking_symbol
    (λ k. taking_if _ (taking (takes_then takes_take (λ _. local_then (local_option a) (λ b. local_pure _))))
    (taking_none a))

local_options : IsLocal options
unfolding options
local_options = local_then (local_option _) (λ a. local_repeat a local_more_options takes_more_options)

local_parameters : IsLocal parameters
unfolding parameters
local_parameters = search (locals, local_names) depth 8

local_spec_names : (c : Kind) (b : Bool) → IsLocal (spec_names c b)
unfolding spec_names
local_spec_names c b = search (locals, local_names)

local_spec_behind : (c : Kind) → IsLocal (spec_behind c)
unfolding spec_behind
local_spec_behind c = search (locals, local_spec_names)

local_spec_by : (ss : List decl.Spec) (k : Symbol) → IsLocal (spec_by ss k)
unfolding spec_by
local_spec_by ss (s.Type c) = search (locals, local_spec_behind)
local_spec_by ss _ = local_symbol
    (λ k. local_if _ (local_then local_take (λ _. local_then (local_spec_names kind.Logical true) (λ x. local_pure _)))
    (local_pure _))

local_more_specs : (ss : List decl.Spec) → IsLocal (more_specs ss)
unfolding more_specs
local_more_specs ss = local_symbol (local_spec_by ss)

takes_spec_by : (ss : List decl.Spec) (k : Symbol) (ts : List Lexeme) → Taking (length ts) (spec_by ss k ts)
unfolding spec_by
takes_spec_by ss (s.Type c) = taking (takes_then takes_take (λ _. local_then (local_spec_behind c) (λ x. local_pure _)))
takes_spec_by ss _ = taking_symbol
    (λ k. taking_if _ (taking (takes_then takes_take
    (λ _. local_then (local_spec_names kind.Logical true) (λ x. local_pure _)))) (taking_none ss))

pub takes_more_specs : (ss : List decl.Spec) (ts : List Lexeme) → Taking (length ts) (more_specs ss ts)
unfolding more_specs
takes_more_specs ss = taking_symbol (takes_spec_by ss)

local_specs : (ss : List decl.Spec) → IsLocal (Rattle.spl_reading.specs.Readers.repeat more_specs ss)
local_specs ss = local_repeat ss local_more_specs takes_more_specs

local_tail : IsLocal heading_tail
unfolding heading_tail
local_tail = local_then (local_expect _)
    (λ _. local_symbol (λ k. local_if _
    (local_then local_take (λ _. local_then local_names
    (λ vs. local_then (local_expect _) (λ _. local_then (local_specs []) (λ ss. local_pure _)))))
    (local_then (local_specs []) (λ ss. local_pure _))))

local_heading : (r : Option Kind) (segment : Lexeme → ℕ) → IsLocal (heading r segment)
unfolding heading
local_heading r segment = search (locals, local_parameters, local_tail) depth 8

module _ (room : ℕ) (body_of : ℕ → Parser BodyRead) (u : Bool) (lb : (segment : ℕ) → IsLocal (body_of segment)) where
  local_array_data : (own : Bool) (c : Kind) → IsLocal (array_data room body_of u own c)
  unfolding array_data
  local_array_data own c = search (locals, local_arrays)

  local_item_data : (own : Bool) (c : Kind) → IsLocal (item_data room body_of u own c)
  unfolding item_data
  local_item_data own c = local_then (local_separated item local_item) (λ is. local_pure _)

  local_behind_heading : (h : Bool → decl.Heading) → IsLocal (behind_heading room body_of u h)
  unfolding behind_heading
  local_behind_heading h = local_symbol
      (λ k. local_if _ (local_then local_take
      (λ _. local_then local_options (λ a. local_if a.forward (local_pure (decl.Declaration.forward (h a.split)))
      (local_if a.external (local_pure (decl.Declaration.external (h a.split)))
      (local_then (local_expect s.Semicolon) (λ _. local_then (lb (h a.split).segment) (λ b.
      local_pure (decl.Declaration.procedure (h a.split) (decl.declarations b.0) b.1))))))))
      (local_then (lb (h false).segment)
      (λ b. local_pure (decl.Declaration.procedure (h false) (decl.declarations b.0) b.1))))

  local_procedure : (r : Option Kind) → IsLocal (procedure room body_of u r)
  unfolding procedure
  local_procedure r = local_then (local_heading r _) local_behind_heading

  local_subroutine : (segment : ℕ) (r : Option Kind) → IsLocal (subroutine room body_of u segment r)
  unfolding subroutine
  local_subroutine segment r = local_then (local_heading r _)
      (λ h. local_then (local_statement room) (λ x. local_pure _))

  local_owned : (k : Symbol) → IsLocal (owned_by room body_of u k)
  unfolding owned_by
  local_owned (s.Type c) = search (locals, local_array_data, local_item_data)
  local_owned k = search (locals, local_array_data)

  local_typed_by : (after : Bool) (segment : ℕ) (c : Kind) (k : Symbol)
      → IsLocal (typed_by room body_of u after segment c k)
  unfolding typed_by
  local_typed_by after segment c k = local_if (is (s.Word w.Subroutine) k) (local_subroutine segment (Some c))
      (local_if after local_refuse (local_if (is (s.Word w.Array) k) (local_array_data false c)
      (local_if (is (s.Word w.Pointer) k)
      (local_then local_take (λ _. local_then local_names
      (λ ns. local_pure (decl.Declaration.data_items false c (pointers ns)))))
      (local_if (is (s.Word w.Procedure) k) (local_if u (local_procedure (Some c)) local_refuse)
      (local_item_data false c)))))

  local_typed : (after : Bool) (segment : ℕ) (c : Kind) → IsLocal (typed room body_of u after segment c)
  unfolding typed
  local_typed after segment c = local_symbol (local_typed_by after segment c)

  local_by_word : (after : Bool) (segment : ℕ) (k : Reserved) → IsLocal (by_word room body_of u after segment k)
  unfolding by_word
  local_by_word after segment w.Subroutine = local_subroutine segment None
  local_by_word after segment w.Own = local_if _ local_refuse (local_then local_take (λ _. local_symbol local_owned))
  local_by_word after segment w.Array = local_if _ local_refuse (local_array_data false kind.Logical)
  local_by_word after segment w.Equate = local_if _ local_refuse
      (local_then local_take (λ _. local_then (local_separated equal local_equal) (λ es. local_pure _)))
  local_by_word after segment w.Intrinsic = local_if _ local_refuse
      (local_then local_take (λ _. local_then local_names (λ ns. local_pure _)))
  local_by_word after segment w.Label = local_if _ local_refuse
      (local_then local_take (λ _. local_then local_names (λ ns. local_pure _)))
  local_by_word after segment w.Procedure = local_if _ local_refuse (local_if _ (local_procedure None) local_refuse)
  local_by_word after segment _ = local_refuse

  local_declaration_by : (after : Bool) (segment : ℕ) (k : Symbol)
      → IsLocal (declaration_by room body_of u after segment k)
  unfolding declaration_by
  local_declaration_by after segment (s.Type c) = local_then local_take (λ _. local_typed after segment c)
  local_declaration_by after segment (s.Word k) = local_by_word after segment k
  local_declaration_by after segment _ = local_refuse

  pub local_declaration : (after : Bool) (segment : ℕ) → IsLocal (declaration room body_of u after segment)
  unfolding declaration
  local_declaration after segment = local_symbol (local_declaration_by after segment)

  local_more : (segment : ℕ) (r : Bool × List decl.Declaration) → IsLocal (more_declarations room body_of u segment r)
  unfolding more_declarations
  local_more segment r = local_symbol
      (λ k. local_if _ (local_then (local_declaration r.0 segment)
      (λ d. local_then (local_expect _) (λ _. local_pure _))) (local_pure _))

  takes_heading : (r : Option Kind) (segment : Lexeme → ℕ) → Takes (heading r segment)
  unfolding heading
  takes_heading r segment = takes_then takes_take (λ p. search (locals, local_parameters, local_tail) depth 8)

  takes_subroutine : (segment : ℕ) (r : Option Kind) → Takes (subroutine room body_of u segment r)
  unfolding subroutine
  takes_subroutine segment r = takes_then (takes_heading r _)
      (λ h. local_then (local_statement room) (λ x. local_pure _))

  takes_by_word : (after : Bool) (segment : ℕ) (k : Reserved) → Takes (by_word room body_of u after segment k)
  unfolding by_word array_data procedure
  takes_by_word after segment w.Subroutine = takes_subroutine segment None
  takes_by_word after segment w.Own = takes_if _ takes_refuse (takes_then takes_take (λ _. local_symbol local_owned))
  takes_by_word after segment w.Array = takes_if _ takes_refuse
      (takes_then takes_take (λ _. local_then local_arrays (λ is. local_pure _)))
  takes_by_word after segment w.Equate = takes_if _ takes_refuse
      (takes_then takes_take (λ _. local_then (local_separated equal local_equal) (λ es. local_pure _)))
  takes_by_word after segment w.Intrinsic = takes_if _ takes_refuse
      (takes_then takes_take (λ _. local_then local_names (λ ns. local_pure _)))
  takes_by_word after segment w.Label = takes_if _ takes_refuse
      (takes_then takes_take (λ _. local_then local_names (λ ns. local_pure _)))
  takes_by_word after segment w.Procedure = takes_if _ takes_refuse
      (takes_if _ (takes_then (takes_heading None _) local_behind_heading) takes_refuse)
  takes_by_word after segment _ = takes_refuse

  takes_declaration_by : (after : Bool) (segment : ℕ) (k : Symbol)
      → Takes (declaration_by room body_of u after segment k)
  unfolding declaration_by
  takes_declaration_by after segment (s.Type c) = takes_then takes_take (λ _. local_typed after segment c)
  takes_declaration_by after segment (s.Word k) = takes_by_word after segment k
  takes_declaration_by after segment _ = takes_refuse

  takes_declaration : (after : Bool) (segment : ℕ) → Takes (declaration room body_of u after segment)
  unfolding declaration
  takes_declaration after segment = takes_symbol (takes_declaration_by after segment)

  pub takes_more_declarations : (segment : ℕ) (r : Bool × List decl.Declaration) (ts : List Lexeme)
      → Taking (length ts) (more_declarations room body_of u segment r ts)
  unfolding more_declarations
  takes_more_declarations segment r = taking_symbol
      (λ k. taking_if _ (taking (takes_then (takes_declaration r.0 segment)
      (λ d. local_then (local_expect _) (λ _. local_pure _)))) (taking_none r))

  pub local_declaration_list : (segment : ℕ) → IsLocal (declaration_list room body_of u segment)
  unfolding declaration_list
  local_declaration_list segment = local_then (local_repeat _ (local_more segment) (takes_more_declarations segment))
      (λ r. local_pure _)

pub local_body : (room segment : ℕ) → IsLocal (body room segment)
unfolding body
local_body room segment = local_symbol
    (λ k. local_if _ (local_then local_take
    (λ _. local_then (local_declaration_list room (λ _. refuse) false (λ _. local_refuse) segment) (λ ds.
    local_then (local_list (statement room) (local_statement room))
    (λ xs. local_then (local_expect _) (λ _. local_pure _)))))
    (local_then (local_statement room) (λ x. local_if _ (local_pure _) local_refuse)))

segment_shrinks : (ts : List Lexeme) → length (end_of (next_segment ts)) ≤ length ts
unfolding next_segment
segment_shrinks [] = omega arith
segment_shrinks (t ∷ ts) = omega arith

segment_left : (ts : List Lexeme) → Left (end_of (next_segment ts)) ts
unfolding next_segment
segment_left [] = entire
segment_left (t ∷ ts) = entire

segment_alike : (us vs ts more : List Lexeme) → Agrees us vs ts more → Like us vs (next_segment ts) (next_segment more)
unfolding next_segment
segment_alike us vs ts more here = got here
segment_alike us vs ts more (there h) = got (there h)

pub local_segment : IsLocal next_segment
local_segment = record { shrinks = segment_shrinks; left = segment_left; alike = segment_alike }

pub local_unit : (room : ℕ) → IsLocal (unit room)
unfolding unit
local_unit room = local_then (local_expect _)
    (λ b. local_then (local_declaration_list room (body room) true (local_body room) 0)
    (λ ds. local_then local_segment (λ segment.
    local_then (local_list (statement room) (local_statement room))
    (λ xs. local_then (local_expect _)
    (λ _. local_then (local_expect _) (λ _. local_then (local_expect _) (λ _. local_pure _)))))))
