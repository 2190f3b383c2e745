-- Each open prefix of a declaration and of a unit can be completed, along the whole chain.
use Rattle.std.proofs.Common.{ℕ, ◌≡◌, ◌≤◌, Bool, true, List, [], ◌∷◌, length, refl, ◌⊎◌, inl, inr}
use Rattle.spl_reading.specs.spl_tree.declared.symbols.Symbol.TheVariants as s
use Rattle.spl_reading.specs.spl_tree.declared.symbols.Reserved.{Reserved}
use Rattle.spl_reading.specs.spl_tree.declared.symbols.Reserved.TheVariants as wd
use Rattle.spl_reading.specs.spl_tree.Symbols.{Lexeme}
use Rattle.spl_reading.specs.spl_tree.Expressions as g
use Rattle.spl_reading.specs.spl_tree.Statements as st
use Rattle.spl_reading.specs.spl_tree.Declarations as dl
use Rattle.spl_reading.specs.spl_tree.Declarations.{Options, fit}
use Rattle.spl_reading.specs.spl_tree.OpenExpressions as op
use Rattle.spl_reading.specs.spl_tree.OpenStatements.{StatementStep}
use Rattle.spl_reading.specs.spl_tree.OpenDeclarations as od
use Rattle.spl_reading.specs.spl_tree.OpenDeclarations.{DeclarationStep}
use Rattle.spl_reading.specs.spl_tree.Parts as part
use Rattle.spl_reading.specs.spl_tree.Parts.{Part}
use Rattle.spl_grammar.proofs.MovedParts.{same}
use Rattle.spl_grammar.proofs.CompletedParts.{raw, Inside, a_constant, a_statement, some_statements, a_mark, filled, Completed, has_token, token, word, a_name, a_number}
use Rattle.spl_grammar.proofs.CompletedExpressions.{completed}
use Rattle.spl_grammar.proofs.CompletedDeclarations.{some, one_name, last_option, one_option, as_subroutine, of_declaration_tree, of_declarations, return_body, of_unit, declaration_completed, unit_lacks}

-- the parts of declarations and units; the options so far do not exclude each other
pub data Declared : Part → Type 0 where
  some_names : Declared part.names
  some_constants : Declared part.constants
  an_item : Declared part.item
  some_items : Declared part.items
  an_equal : Declared part.equal
  some_equals : Declared part.equals
  an_array : Declared part.array
  some_arrays : Declared part.arrays
  some_options : {a : Options} → fit a ≡ true → Declared (part.options a)
  a_heading : {k : Reserved} → Declared (part.heading k)
  a_declaration : {u after : Bool} → Declared (part.declaration u after)
  some_declarations : {u after : Bool} → Declared (part.declarations u after)
  a_body : Declared part.body
  a_unit : Declared part.unit

-- what is behind a step is a part of these, or of a statement
pub next_known : {p q : Part} {ts mid : List Lexeme} → DeclarationStep p ts q mid → Inside q ⊎ Declared q
next_known (od.names_comma a) = inl a_mark
next_known (od.names_next {k = k} a i) = inr some_names
next_known od.constants_part = inl a_constant
next_known (od.constants_comma a) = inl a_mark
next_known (od.constants_next {k = k} a i) = inr some_constants
next_known od.items_part = inr an_item
next_known (od.items_comma a) = inl a_mark
next_known (od.items_next {k = k} a i) = inr some_items
next_known od.equals_part = inr an_equal
next_known (od.equals_comma a) = inl a_mark
next_known (od.equals_next {k = k} a i) = inr some_equals
next_known (od.item_assign i) = inl a_mark
next_known (od.item_value i j) = inl a_constant
next_known (od.equal_mark i) = inl a_mark
next_known (od.equal_value i j) = inl a_constant
next_known (od.equal_sign i j v l) = inl a_mark
next_known (od.equal_term {p = p} i j v l k e) = inl a_constant
next_known (od.array_open i) = inl a_mark
next_known (od.array_low i j) = inl a_constant
next_known (od.array_colon i j a) = inl a_mark
next_known (od.array_high {k = k} i j a q) = inl a_constant
next_known (od.array_close {k = k} i j a q c) = inl a_mark
next_known (od.view_star i j) = inl a_mark
next_known (od.view_close i j k) = inl a_mark
next_known (od.view_equal i j k l) = inl a_mark
next_known (od.view_base i j k l e) = inl a_mark
next_known od.arrays_part = inr an_array
next_known (od.arrays_mark a) = inl a_mark
next_known (od.arrays_next {k = k} a i) = inr some_arrays
next_known (od.arrays_values {k = k} a i) = inr some_constants
next_known (od.options_comma i e f) = inl a_mark
next_known (od.options_next i e f k) = inr (some_options f)
next_known (od.heading_word {k = k} i) = inl a_mark
next_known (od.heading_name {p = p} r i) = inl a_mark
next_known (od.heading_mark {p = p} {t = t} r i j) = inl a_mark
next_known (od.heading_names {p = p} {t = t} {o = m} r i j k) = inr some_names
next_known (od.heading_close {p = p} {t = t} {o = m} r i j k l) = inl a_mark
next_known (od.heading_semicolon {p = p} {t = t} r i j n) = inl a_mark
next_known (od.heading_values {p = p} {t = t} {j = m} {v = v} r i j n k l) = inr some_names
next_known (od.heading_specs {p = p} {t = t} r i j n v ss) = inl a_mark
next_known (od.heading_spec {p = p} {t = t} {j = m} r i j n v ss k) = inl a_mark
next_known (od.heading_spec_names {p = p} {t = t} {j = m} {u = u} r i j n v ss k l) = inr some_names
next_known (od.heading_spec_array {p = p} {t = t} {j = m} {u = u} r i j n v ss k l) = inl a_mark
next_known (od.heading_array_names r i j n v ss k f l) = inr some_names
next_known (od.own i) = inl a_mark
next_known (od.type_mark {t = t} w i) = inl a_mark
next_known (od.simple_items {t = t} w i) = inr some_items
next_known (od.array_list {a = z} w k i) = inr some_arrays
next_known (od.pointer_names i j) = inr some_names
next_known (od.equate_list i) = inr some_equals
next_known (od.intrinsic_names i) = inr some_names
next_known (od.label_names i) = inr some_names
next_known od.procedure_heading = inr a_heading
next_known (od.procedure_body h) = inr a_body
next_known (od.procedure_options {p = p} h i) = inr (some_options refl)
next_known (od.options_semicolon h i l) = inl a_mark
next_known (od.options_body {p = p} {k = k} h i l e f j) = inr a_body
next_known od.subroutine_heading = inr a_heading
next_known (od.subroutine_statement h) = inl a_statement
next_known od.declaration_of = inr a_declaration
next_known (od.declaration_end {segment = old} d e) = inl a_mark
next_known (od.next_declaration {segment = old} {k = k} d e i) = inr some_declarations
next_known (od.body_declarations i) = inr some_declarations
next_known (od.body_statements {segment = old} i ds) = inl some_statements
next_known (od.body_end {segment = old} i ds xs) = inl a_mark
next_known (od.body_statement e) = inl a_statement
next_known (od.unit_declarations i) = inr some_declarations
next_known (od.unit_statements {segment = old} i ds) = inl some_statements
next_known (od.unit_end {segment = old} i ds xs) = inl a_mark
next_known (od.unit_dot {segment = old} {z = z} i ds xs j) = inl a_mark
next_known (od.unit_stop {segment = old} {z = z} {d = d} i ds xs j k) = inl a_mark

-- they are no parts of statements
not_stated : {A : Type 0} {p q : Part} {d j : ℕ} {ts mid : List Lexeme} → Declared p → StatementStep p d ts q j mid → A
not_stated some_names e = elim e [ ]
not_stated some_constants e = elim e [ ]
not_stated an_item e = elim e [ ]
not_stated some_items e = elim e [ ]
not_stated an_equal e = elim e [ ]
not_stated some_equals e = elim e [ ]
not_stated an_array e = elim e [ ]
not_stated some_arrays e = elim e [ ]
not_stated (some_options f) e = elim e [ ]
not_stated a_heading e = elim e [ ]
not_stated a_declaration e = elim e [ ]
not_stated some_declarations e = elim e [ ]
not_stated a_body e = elim e [ ]
not_stated a_unit e = elim e [ ]

-- a step of declarations, with which nothing is opened
pub record Unopened (p : Part) (d : ℕ) (ts : List Lexeme) (q : Part) (j k : ℕ) (mid : List Lexeme) : Type 0 where
  pub step : DeclarationStep p ts q mid
  pub constructs : j ≡ d
  pub operators : k ≡ 0

-- such a step
unopened : {p q : Part} {d : ℕ} {ts mid : List Lexeme} → DeclarationStep p ts q mid → Unopened p d ts q d 0 mid
unopened step = record { step = step; constructs = refl; operators = refl }

-- a step from one of them is one of declarations
pub declared_step : {p q : Part} {d n j k : ℕ} {ts mid : List Lexeme} → Declared p → op.Step p d n ts q j k mid
    → Unopened p d ts q j k mid
declared_step some_names (op.of_declaration step) = unopened step
declared_step some_names (op.of_statement step) = not_stated some_names step
declared_step some_constants (op.of_declaration step) = unopened step
declared_step some_constants (op.of_statement step) = not_stated some_constants step
declared_step an_item (op.of_declaration step) = unopened step
declared_step an_item (op.of_statement step) = not_stated an_item step
declared_step some_items (op.of_declaration step) = unopened step
declared_step some_items (op.of_statement step) = not_stated some_items step
declared_step an_equal (op.of_declaration step) = unopened step
declared_step an_equal (op.of_statement step) = not_stated an_equal step
declared_step some_equals (op.of_declaration step) = unopened step
declared_step some_equals (op.of_statement step) = not_stated some_equals step
declared_step an_array (op.of_declaration step) = unopened step
declared_step an_array (op.of_statement step) = not_stated an_array step
declared_step some_arrays (op.of_declaration step) = unopened step
declared_step some_arrays (op.of_statement step) = not_stated some_arrays step
declared_step (some_options f) (op.of_declaration step) = unopened step
declared_step (some_options f) (op.of_statement step) = not_stated (some_options f) step
declared_step a_heading (op.of_declaration step) = unopened step
declared_step a_heading (op.of_statement step) = not_stated a_heading step
declared_step a_declaration (op.of_declaration step) = unopened step
declared_step a_declaration (op.of_statement step) = not_stated a_declaration step
declared_step some_declarations (op.of_declaration step) = unopened step
declared_step some_declarations (op.of_statement step) = not_stated some_declarations step
declared_step a_body (op.of_declaration step) = unopened step
declared_step a_body (op.of_statement step) = not_stated a_body step
declared_step a_unit (op.of_declaration step) = unopened step
declared_step a_unit (op.of_statement step) = not_stated a_unit step

-- a part that has not begun
begun_with : {p : Part} (ts : List Lexeme) → Declared p → Completed p ts ts
begun_with ts some_names = record { tail = a_name ∷ []; whole = λ more. filled same (one_name more) }
begun_with ts some_constants = record
    { tail = a_number ∷ []; whole = λ more. filled same (some _ (dl.Separated.one (g.Constant.number refl))) }
begun_with ts an_item = record { tail = a_name ∷ []; whole = λ more. filled same (some _ (dl.Item.plain refl)) }
begun_with ts some_items = record
    { tail = a_name ∷ []; whole = λ more. filled same (some _ (dl.Separated.one (dl.Item.plain refl))) }
begun_with ts an_equal = record {
  tail = a_name ∷ token (s.Operator 5) ∷ a_number ∷ [];
  whole = λ more. filled same (some _ (dl.Equal.equal refl refl (g.Constant.number refl) dl.Terms.none));
}
begun_with ts some_equals = record {
  tail = a_name ∷ token (s.Operator 5) ∷ a_number ∷ [];
  whole = λ more. filled same (some _ (dl.Separated.one
      (dl.Equal.equal refl refl (g.Constant.number refl) dl.Terms.none)));
}
begun_with ts an_array = record {
  tail = a_name ∷ token s.Open ∷ a_number ∷ token s.Colon ∷ a_number ∷ token s.Close ∷ [];
  whole = λ more. filled same (some _
      (dl.Array.bounds refl refl (g.Constant.number refl) refl (g.Constant.number refl) refl));
}
begun_with ts some_arrays = record {
  tail = a_name ∷ token s.Open ∷ a_number ∷ token s.Colon ∷ a_number ∷ token s.Close ∷ [];
  whole = λ more. filled same (some _ (dl.Arrays.one
      (dl.Array.bounds refl refl (g.Constant.number refl) refl (g.Constant.number refl) refl)));
}
begun_with ts (some_options {a = a} f) = record
    { tail = last_option a ∷ []; whole = λ more. filled same (one_option a f more) }
begun_with ts (a_heading {k = k}) = record {
  tail = word k ∷ a_name ∷ token s.Semicolon ∷ [];
  whole = λ more. filled same
      (raw dl.Result.absent refl refl dl.Parameters.absent dl.Values.absent dl.Specs.none refl);
}
begun_with ts a_declaration = record {
  tail = word wd.Subroutine ∷ a_name ∷ token s.Semicolon ∷ [];
  whole = λ more. filled same (λ segment. let h = as_subroutine segment (raw dl.Result.absent refl refl
      dl.Parameters.absent dl.Values.absent dl.Specs.none refl) in
      of_declaration_tree (dl.Declaration.subroutine h.spelled st.Statement.empty) refl);
}
begun_with ts some_declarations = record
    { tail = []; whole = λ more. filled same (λ segment. of_declarations dl.Declarations.none) }
begun_with ts a_body = record
    { tail = word wd.Return ∷ []; whole = λ more. filled same (λ segment. return_body segment more) }
begun_with ts a_unit = record {
  tail = word wd.Begin ∷ word wd.End ∷ token s.Dot ∷ token s.Stop ∷ [];
  whole = λ more. filled same (λ q. of_unit refl (λ segment. of_declarations dl.Declarations.none)
      (st.Statements.one st.Statement.empty) refl refl refl q);
}

-- behind a chain from a part of either kind
pub all_completed : {p q : Part} {d n j k : ℕ} {ts rest : List Lexeme} → Inside p ⊎ Declared p
    → op.Opens p d n ts q j k rest → Completed p ts rest
all_completed (inl v) c = completed v c
all_completed {ts = ts} (inr v) op.here = begun_with ts v
all_completed (inr v) (op.inner step c) = let s = declared_step v step in
    declaration_completed s.step (all_completed (next_known s.step) c)

-- a unit that is open lacks a token
pub unit_tail : {q : Part} {d n j k : ℕ} {ts rest : List Lexeme} (c : op.Opens part.unit d n ts q j k rest)
    → 1 ≤ length (all_completed (inr a_unit) c).tail
unfolding all_completed begun_with
unit_tail op.here = has_token (word wd.Begin) (word wd.End ∷ token s.Dot ∷ token s.Stop ∷ [])
unit_tail (op.inner step c) = let s = declared_step a_unit step in
    unit_lacks s.step (all_completed (next_known s.step) c)
