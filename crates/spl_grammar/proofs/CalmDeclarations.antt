-- No reader of declarations is too deep where as many constructs may be open as there are tokens.
use Rattle.std.proofs.Common.{ℕ, Bool, true, false, List, [], ◌∷◌, Option, Some, None}
use Rattle.spl_reading.specs.spl_tree.declared.expressions.Kind.{Kind}
use Rattle.spl_reading.specs.spl_tree.declared.expressions.Kind.TheVariants as kind
use Rattle.spl_reading.specs.spl_tree.declared.symbols.Symbol.{Symbol}
use Rattle.spl_reading.specs.spl_tree.declared.symbols.Symbol.TheVariants as s
use Rattle.spl_reading.specs.spl_tree.declared.symbols.Reserved.{Reserved}
use Rattle.spl_reading.specs.spl_tree.declared.symbols.Reserved.TheVariants as w
use Rattle.spl_reading.specs.spl_tree.Symbols.{Lexeme}
use Rattle.spl_reading.specs.spl_tree.DeclarationTrees as decl
use Rattle.spl_reading.specs.spl_tree.DeclarationTrees.{Placed}
use Rattle.spl_reading.specs.spl_tree.Declarations.{Options, pointers}
use Rattle.spl_reading.specs.Readers.{Outcome, Got, Bad, Parser, expect, by_symbol, refuse, same_symbol, take, pure}
use Rattle.spl_reading.specs.ReadExpressions.{constant, is}
use Rattle.spl_reading.specs.ReadDeclarations.{more_parts, separated, name, names, item, shape, array, more_arrays, arrays, more_terms, equal, option_among, option_behind, more_options, options, parameters, spec_names, spec_behind, spec_by, more_specs, heading_tail, heading, BodyRead, array_data, item_data, behind_heading, procedure, subroutine, owned_by, typed_by, typed, by_word, declaration_by, declaration, more_declarations, declaration_list, body, unit}
use Rattle.spl_grammar.proofs.CalmReaders.{Calm, calm_pure, calm_refuse, calm_take, calm_then, calm_symbol, calm_token, calm_if, calm_expect, calm_repeat, calm_constant, calm_statement, calm_list, calm_segment, calms}

-- parts with commas between
module _ {n : ℕ} {A : Type 0} (part : Parser A) (lp : Calm n part) where
  calm_more_parts : (xs : List A) → Calm n (more_parts part xs)
  unfolding more_parts
  calm_more_parts xs = calm_symbol
      (λ k. calm_if _ (calm_then calm_take (λ _. calm_then lp (λ x. calm_pure _))) (calm_pure _))

  pub calm_separated : Calm n (separated part)
  unfolding separated
  calm_separated = calm_then lp (λ x. calm_repeat (x ∷ []) calm_more_parts)

pub calm_name : {n : ℕ} → Calm n name
unfolding name
calm_name = search calms

pub calm_names : {n : ℕ} → Calm n names
unfolding names
calm_names = calm_separated name calm_name

pub calm_item : {n : ℕ} → Calm n item
unfolding item
calm_item = search (calms, calm_constant) depth 8

calm_shape : {n : ℕ} → Calm n shape
unfolding shape
calm_shape = search (calms, calm_constant) depth 9

pub calm_array : {n : ℕ} → Calm n array
unfolding array
calm_array = search (calms, calm_shape) depth 7

calm_more_arrays : {n : ℕ} (r : List decl.Item × decl.Item) → Calm n (more_arrays r)
unfolding more_arrays
calm_more_arrays r = calm_symbol (λ k. calm_if _ (calm_then calm_take (λ _. calm_then calm_array (λ i. calm_pure _)))
    (calm_if _ (calm_then calm_take (λ _. calm_then (calm_separated constant calm_constant) (λ vs. calm_pure _)))
    (calm_pure _)))

pub calm_arrays : {n : ℕ} → Calm n arrays
unfolding arrays
calm_arrays = calm_then calm_array (λ i. calm_then (calm_repeat ([], i) calm_more_arrays) (λ r. calm_pure _))

calm_more_terms : {n : ℕ} (ts : List decl.Term) → Calm n (more_terms ts)
unfolding more_terms
calm_more_terms ts = search (calms, calm_constant) depth 7

pub calm_equal : {n : ℕ} → Calm n equal
unfolding equal
calm_equal = calm_then (calm_expect _)
    (λ t. calm_then (calm_expect _)
    (λ _. calm_then calm_constant (λ v. calm_then (calm_repeat _ calm_more_terms) (λ ts. calm_pure _))))

calm_among : {n : ℕ} (a : Options) (o : Option Options) → Calm n (option_among a o)
unfolding option_among
calm_among a None = calm_refuse
calm_among a (Some b) = search calms

calm_option : {n : ℕ} (a : Options) → Calm n (option_behind a)
unfolding option_behind
calm_option a = calm_token (λ t. calm_if _ (calm_among a _) calm_refuse)

calm_more_options : {n : ℕ} (a : Options) → Calm n (more_options a)
unfolding more_options
calm_more_options a = calm_symbol
    (λ k. calm_if _ (calm_then calm_take (λ _. calm_then (calm_option a) (λ b. calm_pure _))) (calm_pure _))

calm_options : {n : ℕ} → Calm n options
unfolding options
calm_options = calm_then (calm_option _) (λ a. calm_repeat a calm_more_options)

calm_parameters : {n : ℕ} → Calm n parameters
unfolding parameters
calm_parameters = search (calms, calm_names) depth 8

calm_spec_names : {n : ℕ} (c : Kind) (b : Bool) → Calm n (spec_names c b)
unfolding spec_names
calm_spec_names c b = search (calms, calm_names)

calm_spec_behind : {n : ℕ} (c : Kind) → Calm n (spec_behind c)
unfolding spec_behind
calm_spec_behind c = search (calms, calm_spec_names)

calm_spec_by : {n : ℕ} (ss : List decl.Spec) (k : Symbol) → Calm n (spec_by ss k)
unfolding spec_by
calm_spec_by ss (s.Type c) = search (calms, calm_spec_behind)
calm_spec_by ss _ = calm_symbol
    (λ k. calm_if _ (calm_then calm_take (λ _. calm_then (calm_spec_names kind.Logical true) (λ x. calm_pure _)))
    (calm_pure _))

calm_more_specs : {n : ℕ} (ss : List decl.Spec) → Calm n (more_specs ss)
unfolding more_specs
calm_more_specs ss = calm_symbol (calm_spec_by ss)

calm_specs : {n : ℕ} (ss : List decl.Spec) → Calm n (Rattle.spl_reading.specs.Readers.repeat more_specs ss)
calm_specs ss = calm_repeat ss calm_more_specs

calm_tail : {n : ℕ} → Calm n heading_tail
unfolding heading_tail
calm_tail = calm_then (calm_expect _)
    (λ _. calm_symbol (λ k. calm_if _
    (calm_then calm_take (λ _. calm_then calm_names
    (λ vs. calm_then (calm_expect _) (λ _. calm_then (calm_specs []) (λ ss. calm_pure _)))))
    (calm_then (calm_specs []) (λ ss. calm_pure _))))

calm_heading : {n : ℕ} (r : Option Kind) (segment : Lexeme → ℕ) → Calm n (heading r segment)
unfolding heading
calm_heading r segment = search (calms, calm_parameters, calm_tail) depth 8

module _ (room : ℕ) (body_of : ℕ → Parser BodyRead) (u : Bool) (lb : (segment : ℕ) → Calm room (body_of segment)) where
  calm_array_data : (own : Bool) (c : Kind) → Calm room (array_data room body_of u own c)
  unfolding array_data
  calm_array_data own c = search (calms, calm_arrays)

  calm_item_data : (own : Bool) (c : Kind) → Calm room (item_data room body_of u own c)
  unfolding item_data
  calm_item_data own c = calm_then (calm_separated item calm_item) (λ is. calm_pure _)

  calm_behind_heading : (h : Bool → decl.Heading) → Calm room (behind_heading room body_of u h)
  unfolding behind_heading
  calm_behind_heading h = calm_symbol
      (λ k. calm_if _ (calm_then calm_take
      (λ _. calm_then calm_options (λ a. calm_if a.forward (calm_pure (decl.Declaration.forward (h a.split)))
      (calm_if a.external (calm_pure (decl.Declaration.external (h a.split)))
      (calm_then (calm_expect s.Semicolon) (λ _. calm_then (lb (h a.split).segment) (λ b.
      calm_pure (decl.Declaration.procedure (h a.split) (decl.declarations b.0) b.1))))))))
      (calm_then (lb (h false).segment)
      (λ b. calm_pure (decl.Declaration.procedure (h false) (decl.declarations b.0) b.1))))

  calm_procedure : (r : Option Kind) → Calm room (procedure room body_of u r)
  unfolding procedure
  calm_procedure r = calm_then (calm_heading r _) calm_behind_heading

  calm_subroutine : (segment : ℕ) (r : Option Kind) → Calm room (subroutine room body_of u segment r)
  unfolding subroutine
  calm_subroutine segment r = calm_then (calm_heading r _) (λ h. calm_then (calm_statement room) (λ x. calm_pure _))

  calm_owned : (k : Symbol) → Calm room (owned_by room body_of u k)
  unfolding owned_by
  calm_owned (s.Type c) = search (calms, calm_array_data, calm_item_data)
  calm_owned k = search (calms, calm_array_data)

  calm_typed_by : (after : Bool) (segment : ℕ) (c : Kind) (k : Symbol)
      → Calm room (typed_by room body_of u after segment c k)
  unfolding typed_by
  calm_typed_by after segment c k = calm_if (is (s.Word w.Subroutine) k) (calm_subroutine segment (Some c))
      (calm_if after calm_refuse (calm_if (is (s.Word w.Array) k) (calm_array_data false c)
      (calm_if (is (s.Word w.Pointer) k)
      (calm_then calm_take (λ _. calm_then calm_names
      (λ ns. calm_pure (decl.Declaration.data_items false c (pointers ns)))))
      (calm_if (is (s.Word w.Procedure) k) (calm_if u (calm_procedure (Some c)) calm_refuse)
      (calm_item_data false c)))))

  calm_typed : (after : Bool) (segment : ℕ) (c : Kind) → Calm room (typed room body_of u after segment c)
  unfolding typed
  calm_typed after segment c = calm_symbol (calm_typed_by after segment c)

  calm_by_word : (after : Bool) (segment : ℕ) (k : Reserved) → Calm room (by_word room body_of u after segment k)
  unfolding by_word
  calm_by_word after segment w.Subroutine = calm_subroutine segment None
  calm_by_word after segment w.Own = calm_if _ calm_refuse (calm_then calm_take (λ _. calm_symbol calm_owned))
  calm_by_word after segment w.Array = calm_if _ calm_refuse (calm_array_data false kind.Logical)
  calm_by_word after segment w.Equate = calm_if _ calm_refuse
      (calm_then calm_take (λ _. calm_then (calm_separated equal calm_equal) (λ es. calm_pure _)))
  calm_by_word after segment w.Intrinsic = calm_if _ calm_refuse
      (calm_then calm_take (λ _. calm_then calm_names (λ ns. calm_pure _)))
  calm_by_word after segment w.Label = calm_if _ calm_refuse
      (calm_then calm_take (λ _. calm_then calm_names (λ ns. calm_pure _)))
  calm_by_word after segment w.Procedure = calm_if _ calm_refuse (calm_if _ (calm_procedure None) calm_refuse)
  calm_by_word after segment _ = calm_refuse

  calm_declaration_by : (after : Bool) (segment : ℕ) (k : Symbol)
      → Calm room (declaration_by room body_of u after segment k)
  unfolding declaration_by
  calm_declaration_by after segment (s.Type c) = calm_then calm_take (λ _. calm_typed after segment c)
  calm_declaration_by after segment (s.Word k) = calm_by_word after segment k
  calm_declaration_by after segment _ = calm_refuse

  calm_declaration : (after : Bool) (segment : ℕ) → Calm room (declaration room body_of u after segment)
  unfolding declaration
  calm_declaration after segment = calm_symbol (calm_declaration_by after segment)

  calm_more : (segment : ℕ) (r : Bool × List decl.Declaration) → Calm room (more_declarations room body_of u segment r)
  unfolding more_declarations
  calm_more segment r = calm_symbol
      (λ k. calm_if _ (calm_then (calm_declaration r.0 segment) (λ d. calm_then (calm_expect _) (λ _. calm_pure _)))
      (calm_pure _))

  pub calm_declaration_list : (segment : ℕ) → Calm room (declaration_list room body_of u segment)
  unfolding declaration_list
  calm_declaration_list segment = calm_then (calm_repeat _ (calm_more segment)) (λ r. calm_pure _)

pub calm_body : (room segment : ℕ) → Calm room (body room segment)
unfolding body
calm_body room segment = calm_symbol
    (λ k. calm_if _ (calm_then calm_take
    (λ _. calm_then (calm_declaration_list room (λ _. refuse) false (λ _. calm_refuse) segment) (λ ds.
    calm_then (calm_list room) (λ xs. calm_then (calm_expect _) (λ _. calm_pure _)))))
    (calm_then (calm_statement room) (λ x. calm_if _ (calm_pure _) calm_refuse)))

pub calm_unit : (room : ℕ) → Calm room (unit room)
unfolding unit
calm_unit room = calm_then (calm_expect _)
    (λ b. calm_then (calm_declaration_list room (body room) true (calm_body room) 0)
    (λ ds. calm_then calm_segment (λ segment.
    calm_then (calm_list room) (λ xs. calm_then (calm_expect _)
    (λ _. calm_then (calm_expect _) (λ _. calm_then (calm_expect _) (λ _. calm_pure _)))))))
