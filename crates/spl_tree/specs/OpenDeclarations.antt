-- The steps of the chain of open productions for declarations, bodies and units. No construct is open around them.
use Rattle.std.specs.Prelude.{ℕ, ◌≡◌, ◌||◌, not, Bool, true, false, List, [], ◌∷◌, Option, Some}
use Rattle.spl_tree.specs.declared.expressions.Kind.{Kind}
use Rattle.spl_tree.specs.declared.symbols.Symbol.{Symbol}
use Rattle.spl_tree.specs.declared.symbols.Symbol.TheVariants as s
use Rattle.spl_tree.specs.declared.symbols.Reserved.{Reserved}
use Rattle.spl_tree.specs.declared.symbols.Reserved.TheVariants as w
use Rattle.spl_tree.specs.Symbols.{Lexeme, Is}
use Rattle.spl_tree.specs.Operators.{is_sign}
use Rattle.spl_tree.specs.Expressions as g
use Rattle.spl_tree.specs.Trees as tree
use Rattle.spl_tree.specs.StatementTrees as stat
use Rattle.spl_tree.specs.Statements as st
use Rattle.spl_tree.specs.DeclarationTrees as decl
use Rattle.spl_tree.specs.DeclarationTrees.{Placed}
use Rattle.spl_tree.specs.Declarations as dl
use Rattle.spl_tree.specs.Declarations.{Options, both, fit, option_of, no_options, is_subroutine}
use Rattle.spl_tree.specs.Parts as part
use Rattle.spl_tree.specs.Parts.{Part}

-- the first token is BEGIN
abbrev pub is_begin : Symbol → Bool
is_begin (s.Word w.Begin) = true
is_begin _ = false

abbrev pub begins_block : List Lexeme → Bool
begins_block [] = false
begins_block (t ∷ ts) = is_begin t.symbol

pub data DeclarationStep : Part → List Lexeme → Part → List Lexeme → Type 0 where
  -- name { "," name }
  names_comma : {a : Placed} {ts mid : List Lexeme} → dl.Name a ts mid → DeclarationStep part.names ts part.mark mid
  names_next : {a : Placed} {k : Lexeme} {ts mid : List Lexeme} → dl.Name a ts (k ∷ mid) → Is s.Comma k
      → DeclarationStep part.names ts part.names mid
  -- const { "," const }
  constants_part : {ts : List Lexeme} → DeclarationStep part.constants ts part.constant ts
  constants_comma : {a : tree.Constant} {ts mid : List Lexeme} → g.Constant a ts mid
      → DeclarationStep part.constants ts part.mark mid
  constants_next : {a : tree.Constant} {k : Lexeme} {ts mid : List Lexeme} → g.Constant a ts (k ∷ mid) → Is s.Comma k
      → DeclarationStep part.constants ts part.constants mid
  -- item { "," item }
  items_part : {ts : List Lexeme} → DeclarationStep part.items ts part.item ts
  items_comma : {a : decl.Item} {ts mid : List Lexeme} → dl.Item a ts mid → DeclarationStep part.items ts part.mark mid
  items_next : {a : decl.Item} {k : Lexeme} {ts mid : List Lexeme} → dl.Item a ts (k ∷ mid) → Is s.Comma k
      → DeclarationStep part.items ts part.items mid
  -- name "=" sumc { "," name "=" sumc }
  equals_part : {ts : List Lexeme} → DeclarationStep part.equals ts part.equal ts
  equals_comma : {a : decl.Equal} {ts mid : List Lexeme} → dl.Equal a ts mid
      → DeclarationStep part.equals ts part.mark mid
  equals_next : {a : decl.Equal} {k : Lexeme} {ts mid : List Lexeme} → dl.Equal a ts (k ∷ mid) → Is s.Comma k
      → DeclarationStep part.equals ts part.equals mid
  -- name [":=" const]
  item_assign : {t : Lexeme} {ts : List Lexeme} → Is s.Name t → DeclarationStep part.item (t ∷ ts) part.mark ts
  item_value : {t k : Lexeme} {ts : List Lexeme} → Is s.Name t → Is s.Assign k
      → DeclarationStep part.item (t ∷ k ∷ ts) part.constant ts
  -- name "=" const { ("+"|"-") const }
  equal_mark : {t : Lexeme} {ts : List Lexeme} → Is s.Name t → DeclarationStep part.equal (t ∷ ts) part.mark ts
  equal_value : {t e : Lexeme} {ts : List Lexeme} → Is s.Name t → Is (s.Operator 5) e
      → DeclarationStep part.equal (t ∷ e ∷ ts) part.constant ts
  equal_sign : {v : tree.Constant} {vs : List decl.Term} {t e : Lexeme} {ts mid next : List Lexeme} → Is s.Name t
      → Is (s.Operator 5) e → g.Constant v ts mid → dl.Terms vs mid next
      → DeclarationStep part.equal (t ∷ e ∷ ts) part.mark next
  equal_term : {v : tree.Constant} {vs : List decl.Term} {op : ℕ} {t e p : Lexeme} {ts mid next : List Lexeme}
      → Is s.Name t → Is (s.Operator 5) e → g.Constant v ts mid → dl.Terms vs mid (p ∷ next) → Is (s.Operator op) p
      → is_sign op ≡ true → DeclarationStep part.equal (t ∷ e ∷ ts) part.constant next
  -- name "(" const ":" const ")"
  array_open : {t : Lexeme} {ts : List Lexeme} → Is s.Name t → DeclarationStep part.array (t ∷ ts) part.mark ts
  array_low : {t o : Lexeme} {ts : List Lexeme} → Is s.Name t → Is s.Open o
      → DeclarationStep part.array (t ∷ o ∷ ts) part.constant ts
  array_colon : {a : tree.Constant} {t o : Lexeme} {ts mid : List Lexeme} → Is s.Name t → Is s.Open o
      → g.Constant a ts mid → DeclarationStep part.array (t ∷ o ∷ ts) part.mark mid
  array_high : {a : tree.Constant} {t o k : Lexeme} {ts mid : List Lexeme} → Is s.Name t → Is s.Open o
      → g.Constant a ts (k ∷ mid) → Is s.Colon k → DeclarationStep part.array (t ∷ o ∷ ts) part.constant mid
  array_close : {a b : tree.Constant} {t o k : Lexeme} {ts mid next : List Lexeme} → Is s.Name t → Is s.Open o
      → g.Constant a ts (k ∷ mid) → Is s.Colon k → g.Constant b mid next
      → DeclarationStep part.array (t ∷ o ∷ ts) part.mark next
  -- name "(" "*" ")" "=" name
  view_star : {t o : Lexeme} {ts : List Lexeme} → Is s.Name t → Is s.Open o
      → DeclarationStep part.array (t ∷ o ∷ ts) part.mark ts
  view_close : {t o m : Lexeme} {ts : List Lexeme} → Is s.Name t → Is s.Open o → Is (s.Operator 13) m
      → DeclarationStep part.array (t ∷ o ∷ m ∷ ts) part.mark ts
  view_equal : {t o m z : Lexeme} {ts : List Lexeme} → Is s.Name t → Is s.Open o → Is (s.Operator 13) m → Is s.Close z
      → DeclarationStep part.array (t ∷ o ∷ m ∷ z ∷ ts) part.mark ts
  view_base : {t o m z e : Lexeme} {ts : List Lexeme} → Is s.Name t → Is s.Open o → Is (s.Operator 13) m → Is s.Close z
      → Is (s.Operator 5) e → DeclarationStep part.array (t ∷ o ∷ m ∷ z ∷ e ∷ ts) part.mark ts
  -- array { "," array } [":=" constants]
  arrays_part : {ts : List Lexeme} → DeclarationStep part.arrays ts part.array ts
  arrays_mark : {i : decl.Item} {ts mid : List Lexeme} → dl.Array [] i ts mid
      → DeclarationStep part.arrays ts part.mark mid
  arrays_next : {i : decl.Item} {k : Lexeme} {ts mid : List Lexeme} → dl.Array [] i ts (k ∷ mid) → Is s.Comma k
      → DeclarationStep part.arrays ts part.arrays mid
  arrays_values : {i : decl.Item} {k : Lexeme} {ts mid : List Lexeme} → dl.Array [] i ts (k ∷ mid) → Is s.Assign k
      → DeclarationStep part.arrays ts part.constants mid
  -- opt { "," opt }, behind the options a
  options_comma : {a b : Options} {t : Lexeme} {ts : List Lexeme} → Is s.Name t → option_of t.letters ≡ Some b
      → fit (both a b) ≡ true → DeclarationStep (part.options a) (t ∷ ts) part.mark ts
  options_next : {a b : Options} {t k : Lexeme} {ts : List Lexeme} → Is s.Name t → option_of t.letters ≡ Some b
      → fit (both a b) ≡ true → Is s.Comma k
      → DeclarationStep (part.options a) (t ∷ k ∷ ts) (part.options (both a b)) ts
  -- [type] PROCEDURE or SUBROUTINE, name, parameters ";"
  heading_word : {k : Reserved} {c : Kind} {t : Lexeme} {ts : List Lexeme} → Is (s.Type c) t
      → DeclarationStep (part.heading k) (t ∷ ts) part.mark ts
  heading_name : {k : Reserved} {r : Option Kind} {p : Lexeme} {ts mid : List Lexeme} → dl.Result r ts (p ∷ mid)
      → Is (s.Word k) p → DeclarationStep (part.heading k) ts part.mark mid
  heading_mark : {k : Reserved} {r : Option Kind} {p t : Lexeme} {ts mid : List Lexeme} → dl.Result r ts (p ∷ t ∷ mid)
      → Is (s.Word k) p → Is s.Name t → DeclarationStep (part.heading k) ts part.mark mid
  heading_names : {k : Reserved} {r : Option Kind} {p t o : Lexeme} {ts mid : List Lexeme}
      → dl.Result r ts (p ∷ t ∷ o ∷ mid) → Is (s.Word k) p → Is s.Name t → Is s.Open o
      → DeclarationStep (part.heading k) ts part.names mid
  heading_close : {k : Reserved} {r : Option Kind} {ns : List Placed} {p t o : Lexeme} {ts mid next : List Lexeme}
      → dl.Result r ts (p ∷ t ∷ o ∷ mid) → Is (s.Word k) p → Is s.Name t → Is s.Open o → dl.Names ns mid next
      → DeclarationStep (part.heading k) ts part.mark next
  heading_semicolon : {k : Reserved} {r : Option Kind} {ns : List Placed} {p t : Lexeme} {ts mid next : List Lexeme}
      → dl.Result r ts (p ∷ t ∷ mid) → Is (s.Word k) p → Is s.Name t → dl.Parameters ns mid next
      → DeclarationStep (part.heading k) ts part.mark next
  heading_values : {k : Reserved} {r : Option Kind} {ns : List Placed} {p t j v : Lexeme} {ts mid next : List Lexeme}
      → dl.Result r ts (p ∷ t ∷ mid) → Is (s.Word k) p → Is s.Name t → dl.Parameters ns mid (j ∷ v ∷ next)
      → Is s.Semicolon j → Is (s.Word w.Value) v → DeclarationStep (part.heading k) ts part.names next
  heading_specs : {k : Reserved} {r : Option Kind} {ns vs : List Placed} {ss : List decl.Spec} {p t : Lexeme}
      {ts mid next last end : List Lexeme} → dl.Result r ts (p ∷ t ∷ mid) → Is (s.Word k) p → Is s.Name t
      → dl.Parameters ns mid next → dl.Values vs next last → dl.Specs ss last end
      → DeclarationStep (part.heading k) ts part.mark end
  -- behind the ";" of a further specification
  heading_spec : {k : Reserved} {r : Option Kind} {ns vs : List Placed} {ss : List decl.Spec} {p t j : Lexeme}
      {ts mid next last end : List Lexeme} → dl.Result r ts (p ∷ t ∷ mid) → Is (s.Word k) p → Is s.Name t
      → dl.Parameters ns mid next → dl.Values vs next last → dl.Specs ss last (j ∷ end) → Is s.Semicolon j
      → DeclarationStep (part.heading k) ts part.mark end
  heading_spec_names : {k : Reserved} {r : Option Kind} {ns vs : List Placed} {ss : List decl.Spec} {c : Kind}
      {p t j u : Lexeme} {ts mid next last end : List Lexeme} → dl.Result r ts (p ∷ t ∷ mid) → Is (s.Word k) p
      → Is s.Name t → dl.Parameters ns mid next → dl.Values vs next last → dl.Specs ss last (j ∷ u ∷ end)
      → Is s.Semicolon j → Is (s.Type c) u → DeclarationStep (part.heading k) ts part.names end
  heading_spec_array : {k : Reserved} {r : Option Kind} {ns vs : List Placed} {ss : List decl.Spec} {c : Kind}
      {p t j u : Lexeme} {ts mid next last end : List Lexeme} → dl.Result r ts (p ∷ t ∷ mid) → Is (s.Word k) p
      → Is s.Name t → dl.Parameters ns mid next → dl.Values vs next last → dl.Specs ss last (j ∷ u ∷ end)
      → Is s.Semicolon j → Is (s.Type c) u → DeclarationStep (part.heading k) ts part.mark end
  heading_array_names : {k : Reserved} {r : Option Kind} {ns vs : List Placed} {ss : List decl.Spec} {c : Kind}
      {p t j a : Lexeme} {ts mid next last rest end : List Lexeme} → dl.Result r ts (p ∷ t ∷ mid) → Is (s.Word k) p
      → Is s.Name t → dl.Parameters ns mid next → dl.Values vs next last → dl.Specs ss last (j ∷ rest)
      → Is s.Semicolon j → dl.OptionalKind c rest (a ∷ end) → Is (s.Word w.Array) a
      → DeclarationStep (part.heading k) ts part.names end
  -- [OWN] type item, [OWN] [type] ARRAY array, type POINTER name: no subroutine came before
  own : {u : Bool} {t : Lexeme} {ts : List Lexeme} → Is (s.Word w.Own) t
      → DeclarationStep (part.declaration u false) (t ∷ ts) part.mark ts
  type_mark : {u : Bool} {own : Bool} {c : Kind} {t : Lexeme} {ts mid : List Lexeme} → dl.Own own ts (t ∷ mid)
      → Is (s.Type c) t → DeclarationStep (part.declaration u false) ts part.mark mid
  simple_items : {u : Bool} {own : Bool} {c : Kind} {t : Lexeme} {ts mid : List Lexeme} → dl.Own own ts (t ∷ mid)
      → Is (s.Type c) t → DeclarationStep (part.declaration u false) ts part.items mid
  array_list : {u : Bool} {own : Bool} {c : Kind} {a : Lexeme} {ts mid next : List Lexeme} → dl.Own own ts mid
      → dl.OptionalKind c mid (a ∷ next) → Is (s.Word w.Array) a
      → DeclarationStep (part.declaration u false) ts part.arrays next
  pointer_names : {u : Bool} {c : Kind} {t p : Lexeme} {ts : List Lexeme} → Is (s.Type c) t → Is (s.Word w.Pointer) p
      → DeclarationStep (part.declaration u false) (t ∷ p ∷ ts) part.names ts
  -- EQUATE, INTRINSIC, LABEL
  equate_list : {u : Bool} {t : Lexeme} {ts : List Lexeme} → Is (s.Word w.Equate) t
      → DeclarationStep (part.declaration u false) (t ∷ ts) part.equals ts
  intrinsic_names : {u : Bool} {t : Lexeme} {ts : List Lexeme} → Is (s.Word w.Intrinsic) t
      → DeclarationStep (part.declaration u false) (t ∷ ts) part.names ts
  label_names : {u : Bool} {t : Lexeme} {ts : List Lexeme} → Is (s.Word w.Label) t
      → DeclarationStep (part.declaration u false) (t ∷ ts) part.names ts
  -- a procedure, in a unit
  procedure_heading : {ts : List Lexeme}
      → DeclarationStep (part.declaration true false) ts (part.heading w.Procedure) ts
  procedure_body : {h : decl.Heading} {ts mid : List Lexeme} → dl.Heading false h ts mid
      → DeclarationStep (part.declaration true false) ts part.body mid
  procedure_options : {split : Bool} {h : decl.Heading} {p : Lexeme} {ts mid : List Lexeme}
      → dl.Heading split h ts (p ∷ mid) → Is (s.Word w.Options) p
      → DeclarationStep (part.declaration true false) ts (part.options no_options) mid
  options_semicolon : {a : Options} {h : decl.Heading} {p : Lexeme} {ts mid next : List Lexeme}
      → dl.Heading a.split h ts (p ∷ mid) → Is (s.Word w.Options) p → dl.OptionList no_options a mid next
      → DeclarationStep (part.declaration true false) ts part.mark next
  options_body : {a : Options} {h : decl.Heading} {p k : Lexeme} {ts mid next : List Lexeme}
      → dl.Heading a.split h ts (p ∷ mid) → Is (s.Word w.Options) p → dl.OptionList no_options a mid (k ∷ next)
      → a.forward ≡ false → a.external ≡ false → Is s.Semicolon k
      → DeclarationStep (part.declaration true false) ts part.body next
  -- a subroutine
  subroutine_heading : {u : Bool} {after : Bool} {ts : List Lexeme}
      → DeclarationStep (part.declaration u after) ts (part.heading w.Subroutine) ts
  subroutine_statement : {u : Bool} {after : Bool} {segment : ℕ} {h : decl.Heading} {ts mid : List Lexeme}
      → dl.SubroutineHeading segment h ts mid → DeclarationStep (part.declaration u after) ts part.statement mid
  -- { decl ";" }
  declaration_of : {u : Bool} {after : Bool} {ts : List Lexeme}
      → DeclarationStep (part.declarations u after) ts (part.declaration u after) ts
  declaration_end : {u : Bool} {after : Bool} {segment : ℕ} {d : decl.Declaration} {ts mid : List Lexeme}
      → dl.Declaration u segment d ts mid → (is_subroutine d || not after) ≡ true
      → DeclarationStep (part.declarations u after) ts part.mark mid
  next_declaration : {u : Bool} {after : Bool} {segment : ℕ} {d : decl.Declaration} {k : Lexeme} {ts mid : List Lexeme}
      → dl.Declaration u segment d ts (k ∷ mid) → (is_subroutine d || not after) ≡ true → Is s.Semicolon k
      → DeclarationStep (part.declarations u after) ts (part.declarations u (is_subroutine d)) mid
  -- BEGIN { decl ";" } statements END, or a statement
  body_declarations : {b : Lexeme} {ts : List Lexeme} → Is (s.Word w.Begin) b
      → DeclarationStep part.body (b ∷ ts) (part.declarations false false) ts
  body_statements : {segment : ℕ} {ds : List decl.Declaration} {b : Lexeme} {ts mid : List Lexeme}
      → Is (s.Word w.Begin) b → dl.Declarations false false segment ds ts mid
      → DeclarationStep part.body (b ∷ ts) part.statements mid
  body_end : {segment : ℕ} {ds : List decl.Declaration} {xs : List stat.Statement} {b : Lexeme}
      {ts mid next : List Lexeme} → Is (s.Word w.Begin) b → dl.Declarations false false segment ds ts mid
      → st.Statements xs mid next → DeclarationStep part.body (b ∷ ts) part.mark next
  body_statement : {ts : List Lexeme} → begins_block ts ≡ false → DeclarationStep part.body ts part.statement ts
  -- BEGIN { decl ";" } statements END "." and the end of the text
  unit_declarations : {b : Lexeme} {ts : List Lexeme} → Is (s.Word w.Begin) b
      → DeclarationStep part.unit (b ∷ ts) (part.declarations true false) ts
  unit_statements : {segment : ℕ} {ds : List decl.Declaration} {b : Lexeme} {ts mid : List Lexeme}
      → Is (s.Word w.Begin) b → dl.Declarations true false segment ds ts mid
      → DeclarationStep part.unit (b ∷ ts) part.statements mid
  unit_end : {segment : ℕ} {ds : List decl.Declaration} {xs : List stat.Statement} {b : Lexeme}
      {ts mid next : List Lexeme} → Is (s.Word w.Begin) b → dl.Declarations true false segment ds ts mid
      → st.Statements xs mid next → DeclarationStep part.unit (b ∷ ts) part.mark next
  unit_dot : {segment : ℕ} {ds : List decl.Declaration} {xs : List stat.Statement} {b z : Lexeme}
      {ts mid next : List Lexeme} → Is (s.Word w.Begin) b → dl.Declarations true false segment ds ts mid
      → st.Statements xs mid (z ∷ next) → Is (s.Word w.End) z → DeclarationStep part.unit (b ∷ ts) part.mark next
  unit_stop : {segment : ℕ} {ds : List decl.Declaration} {xs : List stat.Statement} {b z d : Lexeme}
      {ts mid next : List Lexeme} → Is (s.Word w.Begin) b → dl.Declarations true false segment ds ts mid
      → st.Statements xs mid (z ∷ d ∷ next) → Is (s.Word w.End) z → Is s.Dot d
      → DeclarationStep part.unit (b ∷ ts) part.mark next
