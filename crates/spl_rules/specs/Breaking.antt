-- The 28 rules: which part breaks which rule, and at which place. Kinds are those that rules go by: a name that is misused has none.
use Rattle.std.specs.Prelude.{ℕ, ◌≡◌, ◌==◌, ◌&&◌, ◌||◌, Bool, true, false, pos, neg_ℤ, List, Option, Some, None, is_some, length}
use Rattle.spl_meaning.specs.spl_tree.declared.names_and_places.At.{At}
use Rattle.spl_meaning.specs.spl_tree.declared.expressions.Kind.{Kind}
use Rattle.spl_meaning.specs.spl_tree.Trees as tree
use Rattle.spl_meaning.specs.spl_tree.Trees.{Tree, Trees, Constant}
use Rattle.spl_meaning.specs.spl_tree.StatementTrees as stat
use Rattle.spl_meaning.specs.spl_tree.StatementTrees.{Statement, Target, Source, Effect}
use Rattle.spl_meaning.specs.spl_tree.DeclarationTrees.{Placed, Spec, Heading, Item, Term, Declarations}
use Rattle.spl_meaning.specs.Names.{Names, Sort, Formal, Profile, Table, find, within, same_name, profile_of, lists, spec_of, is_array_in, intrinsic_named, text_value, constant_value, sum_value}
use Rattle.spl_meaning.specs.Kinds.{Operand, is_double, reference_kind}
use Rattle.spl_meaning.specs.Pending.{by_value}
use Rattle.spl_meaning.specs.Tables.{Routine}
use Rattle.spl_meaning.specs.ExpressionRules.{Scope, place_in, constant_place, mixes, is_operation, is_bits, rule_kind, rule_reference, in_range, is_field, is_subroutine, is_pointer, is_equate, is_open_sort, is_open, value_fits, passes, may_be_byte, fits, has_elements}
use Rattle.spl_meaning.specs.StatementRules.{target_kind, target_kind_by, is_single, moves, may_be_moved_to, has_name, is_listed}
use Rattle.spl_meaning.specs.DeclarationRules.{Around, bounds_fit, is_base, is_double_kind, is_wide, values_fit, may_begin, gets_body, same_profile, statement_place, is_empty_statement}
use Rattle.spl_rules.specs.Parts as part
use Rattle.spl_rules.specs.Parts.{Role, Part}
use Rattle.spl_rules.specs.Roles as allowed

-- A part breaks a rule, by its number, at a place.
pub data BreaksHere : ℕ → Part → At → Type 0 where
  -- 1: a name is not declared
  undeclared : {role : Role} {sc : Scope} {x : List ℕ} {given : ℕ} {at : At} → allowed.is_declared (sc.names x) ≡ false
      → BreaksHere 1 (part.name role sc x given at) at
  undeclared_constant : {names : Names} {around at : At} {x : List ℕ} → allowed.is_declared (names x) ≡ false
      → BreaksHere 1 (part.constant names around (tree.Constant.name x at)) at
  undeclared_base : {outer : Names} {table : Table Sort} {own : Bool} {k : Kind} {x : List ℕ} {at : At}
      → is_some (within table outer x) ≡ false → BreaksHere 1 (part.base outer table own k x at) at
  -- 2: a name is declared twice in one list; a FORWARD that waits for its body is no other declaration
  declared_twice : {table : Table Sort} {x : List ℕ} {at : At} → is_some (find table x) ≡ true → BreaksHere 2 (part.declared table x at) at
  body_declared_twice : {table : Table Sort} {h : Heading} → is_some (find table h.name) ≡ true → BreaksHere 2 (part.body table None h) h.at
  parameter_twice : {before : List Placed} {x : Placed} → is_listed before x.letters ≡ true → BreaksHere 2 (part.parameter before x) x.at
  -- 3: a name is of the wrong sort for its place, with its index
  wrong_sort : {role : Role} {sc : Scope} {x : List ℕ} {given : ℕ} {at : At} → allowed.is_of_sort role (sc.names x) ≡ false
      → BreaksHere 3 (part.name role sc x given at) at
  wrong_index : {role : Role} {sc : Scope} {x : List ℕ} {given : ℕ} {at : At} → allowed.has_fit_index role (sc.names x) given ≡ false
      → BreaksHere 3 (part.name role sc x given at) at
  wrong_constant : {names : Names} {around at : At} {x : List ℕ} → (is_equate (names x) || is_open_sort (names x)) ≡ false
      → BreaksHere 3 (part.constant names around (tree.Constant.name x at)) at
  -- or a MOVE or a SCAN is assigned to a bit field or by @
  answer_to_a_field : {r : Tree} {start size : Constant} {at : At} → BreaksHere 3 (part.answered (stat.Target.field r start size) at) at
  answer_to_an_address : {x : List ℕ} {a at : At} → BreaksHere 3 (part.answered (stat.Target.address x a) at) at
  -- 4: kinds of operands are mixed
  mixed : {names : Names} {op : ℕ} {a b : Tree} {at : At} → mixes (rule_kind names a) (rule_kind names b) ≡ false
      → BreaksHere 4 (part.operation names op a b at) at
  -- 5: the operation is not one of this kind
  no_operation : {names : Names} {op : ℕ} {a b : Tree} {at : At} → is_operation op (rule_kind names a) (rule_kind names b) ≡ false
      → BreaksHere 5 (part.operation names op a b at) at
  double_shifted : {names : Names} {e : Tree} {at : At} → is_double (rule_kind names e) ≡ true → BreaksHere 5 (part.shifted names e at) at
  bits_of_no_word : {names : Names} {r : Tree} {at : At} → is_single (target_kind names r) ≡ false → BreaksHere 5 (part.replaced names r at) at
  -- 6: a value that is assigned does not fit
  no_fit : {k : Kind} {e : Operand} {at : At} → fits k e ≡ false → BreaksHere 6 (part.assigned (Some k) e at) at
  double_answer : {s : Option Sort} {at : At} → has_elements s ≡ false → may_be_moved_to (target_kind_by s) ≡ false
      → BreaksHere 6 (part.answer_kind s at) at
  -- 7: a condition, or an operand of NOT, AND, OR, LAND, LOR or XOR, is INTEGER or DOUBLE
  no_bits : {names : Names} {at : At} {e : Tree} → is_bits (rule_kind names e) ≡ false → BreaksHere 7 (part.bits names at e) (place_in at e)
  -- 8: the number of arguments is wrong
  wrong_number : {sc : Scope} {x : List ℕ} {p : Profile} {given : ℕ} {used : Bool} {at : At} → (given == length p.formals) ≡ false
      → BreaksHere 8 (part.call sc x p given used at) at
  -- 9: a value argument does not fit
  wrong_value : {names : Names} {f : Formal} {e : Tree} {at : At} → by_value f ≡ true → value_fits f.kind (rule_kind names e) ≡ false
      → BreaksHere 9 (part.argument names (Some f) e at) (place_in at e)
  -- 10: a reference argument is no variable, element, array or pointer, or its kind does not match
  wrong_reference : {names : Names} {f : Formal} {e : Tree} {at : At} → by_value f ≡ false
      → (is_open names e || passes f.kind (reference_kind names e)) ≡ false → BreaksHere 10 (part.argument names (Some f) e at) (place_in at e)
  -- 11: what has no value is called in an expression
  no_value : {sc : Scope} {x : List ℕ} {p : Profile} {given : ℕ} {at : At} → is_some p.result ≡ false
      → BreaksHere 11 (part.call sc x p given true at) at
  -- 12: the name of a procedure or a subroutine is assigned outside its body, or has no kind
  no_result : {role : Role} {sc : Scope} {x : List ℕ} {given : ℕ} {at : At} → allowed.is_own_result role sc x (sc.names x) ≡ false
      → BreaksHere 12 (part.name role sc x given at) at
  -- 13: a bit field or a shift's count is out of range
  wrong_count : {names : Names} {c : Constant} {at : At} → in_range (pos 0) (pos 15) (constant_value names c) ≡ false
      → BreaksHere 13 (part.shift_count names c at) (constant_place at c)
  wrong_field : {names : Names} {start size : Constant} {at : At} → is_field (constant_value names start) (constant_value names size) ≡ false
      → BreaksHere 13 (part.field names start size at) at
  -- 14: a string without one or two characters stands for a word
  no_word : {bytes : List ℕ} {at : At} → is_some (text_value bytes) ≡ false → BreaksHere 14 (part.text bytes at) at
  no_constant : {names : Names} {at : At} {bytes : List ℕ} → is_some (text_value bytes) ≡ false
      → BreaksHere 14 (part.constant names at (tree.Constant.text bytes)) at
  -- or a wide constant for a word
  wide_word : {names : Names} {at : At} {v : ℕ} → BreaksHere 14 (part.word names at (tree.Tree.wide v)) at
  wide_initial : {names : Names} {k : Kind} {at : At} {c : Constant} → is_double_kind k ≡ false → is_wide c ≡ true
      → BreaksHere 14 (part.initial names k at c) at
  -- or an EQUATE is outside -32,768 to 65,535
  wrong_sum : {names : Names} {terms : List Term} {at : At} → in_range (neg_ℤ (pos 32768)) (pos 65535) (sum_value names terms) ≡ false
      → BreaksHere 14 (part.sum names terms at) at
  -- 15: bounds are reversed or span more than 64,000 elements
  wrong_bounds : {names : Names} {low high : Constant} {at : At} → bounds_fit (constant_value names low) (constant_value names high) ≡ false
      → BreaksHere 15 (part.bounds names low high at) at
  -- or initial values do not fit in kind or number
  narrow_initial : {names : Names} {k : Kind} {at : At} {c : Constant} → is_double_kind k ≡ true → allowed.is_narrow names c ≡ true
      → BreaksHere 15 (part.initial names k at c) (constant_place at c)
  too_many_values : {a : Around} {table : Table Sort} {own : Bool} {k : Kind} {i : Item}
      → values_fit (within table a.names) i.shape (length i.first) ≡ false → BreaksHere 15 (part.item a table own k i) i.at
  -- 16: the base of a view is no array with bounds in the same list, or is BYTE, or the view is OWN and it is not
  no_base : {outer : Names} {table : Table Sort} {own : Bool} {k : Kind} {x : List ℕ} {at : At} → is_some (within table outer x) ≡ true
      → is_base own (find table x) ≡ false → BreaksHere 16 (part.base outer table own k x at) at
  -- or the view is DOUBLE
  double_view : {outer : Names} {table : Table Sort} {own : Bool} {k : Kind} {x : List ℕ} {at : At} → is_double_kind k ≡ true
      → BreaksHere 16 (part.base outer table own k x at) at
  -- 17: an initial value of a local array or a view
  no_values : {a : Around} {table : Table Sort} {own : Bool} {k : Kind} {i : Item} → may_begin a own i.shape (length i.first) ≡ false
      → BreaksHere 17 (part.item a table own k i) i.at
  -- or OWN outside a procedure
  global_own : {a : Around} {table : Table Sort} {k : Kind} {i : Item} → a.in_procedure ≡ false → BreaksHere 17 (part.item a table true k i) i.at
  -- 18: a name that a heading lists is none of its parameters, or VALUE lists an array
  no_parameter : {names : List Placed} {x : Placed} → lists names x.letters ≡ false → BreaksHere 18 (part.listed names x) x.at
  array_by_value : {specs : List Spec} {x : Placed} → is_array_in (spec_of specs x.letters) ≡ true → BreaksHere 18 (part.value_listed specs x) x.at
  -- or a parameter stands in no list of kinds, or twice in them
  no_kind : {specs : List Spec} {x : Placed} → is_some (spec_of specs x.letters) ≡ false → BreaksHere 18 (part.kind_listed specs x) x.at
  two_kinds : {before : List Placed} {x : Placed} → is_listed before x.letters ≡ true → BreaksHere 18 (part.listed_again before x) x.at
  -- 19: a FORWARD never gets its body
  no_body : {h : Heading} {ds : Declarations} → gets_body ds h.name ≡ false → BreaksHere 19 (part.forward h ds) h.at
  -- or a heading differs from its FORWARD, or from the procedure of another unit that EXTERNAL names
  unlike_forward : {table : Table Sort} {p : Profile} {h : Heading} → same_profile p (profile_of h) ≡ false
      → BreaksHere 19 (part.body table (Some p) h) h.at
  unlike_external : {h : Heading} {r : Routine} → same_name h.name r.heading.name ≡ true
      → same_profile (profile_of h) (profile_of r.heading) ≡ false → BreaksHere 19 (part.external h r) h.at
  -- 20: a label stands twice in one body
  label_twice : {before : List Placed} {x : Placed} → is_listed before x.letters ≡ true → BreaksHere 20 (part.label before x) x.at
  -- 21: a GO TO's label stands in no list around it in the same body
  nowhere : {labels : List (List ℕ)} {x : List ℕ} {at : At} → has_name labels x ≡ false → BreaksHere 21 (part.jump labels x at) at
  -- 22: a test of the condition code is not directly behind what sets it
  late_test : {at : At} → BreaksHere 22 (part.code_test false at) at
  -- 23: the variable of a FOR is no simple INTEGER variable or parameter
  no_counter : {role : Role} {sc : Scope} {x : List ℕ} {given : ℕ} {at : At} → allowed.counts role (sc.names x) ≡ false
      → BreaksHere 23 (part.name role sc x given at) at
  -- or a part of a FOR or a CASE, an index, a count or a test word is DOUBLE
  double_word : {names : Names} {at : At} {e : Tree} → allowed.is_wide_number e ≡ false → is_double (rule_kind names e) ≡ true
      → BreaksHere 23 (part.word names at e) (place_in at e)
  -- 24: the operands of a MOVE, a SCAN or a comparison of bytes do not match
  unlike_moved : {names : Names} {to from size : Tree} {at : At} → moves (rule_reference names to) (rule_reference names from) ≡ false
      → BreaksHere 24 (part.effect names (stat.Effect.move to (stat.Source.counted from size)) at) at
  text_to_doubles : {names : Names} {to : Tree} {bytes : List ℕ} {at : At} → may_be_moved_to (rule_reference names to) ≡ false
      → BreaksHere 24 (part.effect names (stat.Effect.move to (stat.Source.text bytes)) at) at
  letters_of_no_bytes : {names : Names} {to from : Tree} {c : ℕ} {at : At}
      → (may_be_byte (rule_reference names to) && may_be_byte (rule_reference names from)) ≡ false
      → BreaksHere 24 (part.effect names (stat.Effect.move to (stat.Source.class_of from c)) at) at
  no_bytes_scanned : {names : Names} {from word : Tree} {until : Bool} {at : At} → may_be_byte (rule_reference names from) ≡ false
      → BreaksHere 24 (part.effect names (stat.Effect.scan from until word) at) at
  no_bytes_compared : {names : Names} {a b : Tree} {at : At} → (may_be_byte (rule_reference names a) && may_be_byte (rule_reference names b)) ≡ false
      → BreaksHere 24 (part.compared names a b at) at
  -- 25: RETURN in the main body
  main_return : {sc : Scope} {at : At} → sc.is_main ≡ true → BreaksHere 25 (part.leave sc at) at
  -- 26: INTRINSIC names none
  no_intrinsic : {x : Placed} → is_some (intrinsic_named x.letters) ≡ false → BreaksHere 26 (part.intrinsic x) x.at
  -- 27: in a split procedure a global variable
  split_global : {role : Role} {sc : Scope} {x : List ℕ} {given : ℕ} {at : At} → allowed.is_near role sc x (sc.names x) ≡ false
      → BreaksHere 27 (part.name role sc x given at) at
  -- a call of a procedure or an intrinsic
  split_call : {sc : Scope} {x : List ℕ} {p : Profile} {given : ℕ} {used : Bool} {at : At} → sc.split ≡ true
      → is_subroutine (sc.names x) ≡ false → BreaksHere 27 (part.call sc x p given used at) at
  -- @ of anything but a pointer
  split_address : {sc : Scope} {x : List ℕ} {at : At} → sc.split ≡ true → is_pointer (sc.names x) ≡ false → BreaksHere 27 (part.address sc x at) at
  -- a MOVE, a SCAN or a comparison of bytes of anything but the elements of a pointer
  split_far : {sc : Scope} {x : List ℕ} {es : Trees} {at : At} → sc.split ≡ true → (is_pointer (sc.names x) || is_open_sort (sc.names x)) ≡ false
      → BreaksHere 27 (part.far sc (tree.Tree.named x es at)) at
  -- an array, or OWN
  split_elements : {a : Around} {at : At} → a.split ≡ true → BreaksHere 27 (part.elements a at) at
  split_own : {a : Around} {table : Table Sort} {k : Kind} {i : Item} → a.split ≡ true → BreaksHere 27 (part.item a table true k i) i.at
  -- a parameter by reference
  split_reference : {f : Formal} → by_value f ≡ false → is_some f.kind ≡ true → BreaksHere 27 (part.formal true f) f.at
  -- 28: a subprogram has data
  silent_data : {a : Around} {table : Table Sort} {own : Bool} {k : Kind} {i : Item} → a.subprogram ≡ true
      → BreaksHere 28 (part.item a table own k i) i.at
  -- a subroutine
  silent_subroutine : {a : Around} {at : At} → a.subprogram ≡ true → BreaksHere 28 (part.subroutine a at) at
  -- a statement that is not empty
  silent_statement : {unit : At} {s : Statement} → is_empty_statement s ≡ false → BreaksHere 28 (part.silent unit s) (statement_place unit s)
