-- Declarations and units that tokens spell: the tokens behind each part have letters that are bytes, and the statements of all bodies are shaped.
use Rattle.std.proofs.Common.{◌≡◌, ℕ, ◌&&◌, Bool, true, false, List, [], ◌∷◌, Option, refl}
use Rattle.std.proofs.lemmas.Bool.{and_from}
use Rattle.spl_cuts.specs.spl_tree.declared.expressions.Kind.{Kind}
use Rattle.spl_cuts.specs.spl_tree.Symbols.{Lexeme}
use Rattle.spl_cuts.specs.spl_tree.Trees.{Constant}
use Rattle.spl_cuts.specs.spl_tree.StatementTrees.{Statement, statements}
use Rattle.spl_cuts.specs.spl_tree.DeclarationTrees as decl
use Rattle.spl_cuts.specs.spl_tree.DeclarationTrees.{Placed, declarations}
use Rattle.spl_cuts.specs.spl_tree.Declarations as dl
use Rattle.spl_cuts.specs.spl_tree.Units as un
use Rattle.spl_shapes.specs.Shapes.{is_shaped_statement, are_shaped_statements, is_shaped_item, are_shaped_items, is_local, are_local, is_shaped_declaration, are_shaped_declarations}
use Rattle.spl_shapes.specs.Laws.{HaveBytes, SpelledUnitsAreShaped}
use Rattle.spl_shapes.proofs.Expressions.{constant_rest}
use Rattle.spl_shapes.proofs.Statements.{Told, statement_shaped, statements_shaped}

-- ---- the tokens behind parts of declarations

name_rest : {p : Placed} {ts rest : List Lexeme} → dl.Name p ts rest → HaveBytes ts → HaveBytes rest
name_rest (dl.Name.name i) b = b.1

names_rest : {ps : List Placed} {ts rest : List Lexeme} → dl.Names ps ts rest → HaveBytes ts → HaveBytes rest
names_rest (dl.Separated.one d) b = name_rest d b
names_rest (dl.Separated.more d i r) b = names_rest r (name_rest d b).1

constants_rest : {vs : List Constant} {ts rest : List Lexeme} → dl.Constants vs ts rest → HaveBytes ts → HaveBytes rest
constants_rest (dl.Separated.one d) b = constant_rest d b
constants_rest (dl.Separated.more d i r) b = constants_rest r (constant_rest d b).1

kind_rest : {k : Kind} {ts rest : List Lexeme} → dl.OptionalKind k ts rest → HaveBytes ts → HaveBytes rest
kind_rest dl.OptionalKind.absent b = b
kind_rest (dl.OptionalKind.given i) b = b.1

result_rest : {r : Option Kind} {ts rest : List Lexeme} → dl.Result r ts rest → HaveBytes ts → HaveBytes rest
result_rest dl.Result.absent b = b
result_rest (dl.Result.given i) b = b.1

own_rest : {o : Bool} {ts rest : List Lexeme} → dl.Own o ts rest → HaveBytes ts → HaveBytes rest
own_rest dl.Own.absent b = b
own_rest (dl.Own.given i) b = b.1

item_rest : {i : decl.Item} {ts rest : List Lexeme} → dl.Item i ts rest → HaveBytes ts → HaveBytes rest
item_rest (dl.Item.plain i) b = b.1
item_rest (dl.Item.valued i k d) b = constant_rest d b.1.1

items_rest : {is : List decl.Item} {ts rest : List Lexeme} → dl.Items is ts rest → HaveBytes ts → HaveBytes rest
items_rest (dl.Separated.one d) b = item_rest d b
items_rest (dl.Separated.more d i r) b = items_rest r (item_rest d b).1

array_rest : {vs : List Constant} {i : decl.Item} {ts rest : List Lexeme} → dl.Array vs i ts rest → HaveBytes ts → HaveBytes rest
array_rest (dl.Array.bounds i o p c q z) b = (constant_rest q (constant_rest p b.1.1).1).1
array_rest (dl.Array.view i o m z e n) b = b.1.1.1.1.1.1

arrays_rest : {is : List decl.Item} {ts rest : List Lexeme} → dl.Arrays is ts rest → HaveBytes ts → HaveBytes rest
arrays_rest (dl.Arrays.one d) b = array_rest d b
arrays_rest (dl.Arrays.valued d i v) b = constants_rest v (array_rest d b).1
arrays_rest (dl.Arrays.more d i r) b = arrays_rest r (array_rest d b).1

terms_rest : {vs : List decl.Term} {ts rest : List Lexeme} → dl.Terms vs ts rest → HaveBytes ts → HaveBytes rest
terms_rest dl.Terms.none b = b
terms_rest (dl.Terms.more i s d r) b = terms_rest r (constant_rest d b.1)

equal_rest : {e : decl.Equal} {ts rest : List Lexeme} → dl.Equal e ts rest → HaveBytes ts → HaveBytes rest
equal_rest (dl.Equal.equal i e d r) b = terms_rest r (constant_rest d b.1.1)

equals_rest : {es : List decl.Equal} {ts rest : List Lexeme} → dl.Equals es ts rest → HaveBytes ts → HaveBytes rest
equals_rest (dl.Separated.one d) b = equal_rest d b
equals_rest (dl.Separated.more d i r) b = equals_rest r (equal_rest d b).1

parameters_rest : {ps : List Placed} {ts rest : List Lexeme} → dl.Parameters ps ts rest → HaveBytes ts → HaveBytes rest
parameters_rest dl.Parameters.absent b = b
parameters_rest (dl.Parameters.given o d z) b = (names_rest d b.1).1

values_rest : {ps : List Placed} {ts rest : List Lexeme} → dl.Values ps ts rest → HaveBytes ts → HaveBytes rest
values_rest dl.Values.absent b = b
values_rest (dl.Values.given k v d) b = names_rest d b.1.1

specs_rest : {ss : List decl.Spec} {ts rest : List Lexeme} → dl.Specs ss ts rest → HaveBytes ts → HaveBytes rest
specs_rest dl.Specs.none b = b
specs_rest (dl.Specs.words k t d r) b = specs_rest r (names_rest d b.1.1)
specs_rest (dl.Specs.arrays k c a d r) b = specs_rest r (names_rest d (kind_rest c b.1).1)

options_rest : {a c : dl.Options} {ts rest : List Lexeme} → dl.OptionList a c ts rest → HaveBytes ts → HaveBytes rest
options_rest (dl.OptionList.one i o f) b = b.1
options_rest (dl.OptionList.more i o f k r) b = options_rest r b.1.1

heading_rest : {split : Bool} {h : decl.Heading} {ts rest : List Lexeme} → dl.Heading split h ts rest → HaveBytes ts → HaveBytes rest
heading_rest (dl.Heading.heading r p t n v s k) b = (specs_rest s (values_rest v (parameters_rest n (result_rest r b).1.1))).1

inner_heading_rest : {segment : ℕ} {h : decl.Heading} {ts rest : List Lexeme} → dl.SubroutineHeading segment h ts rest → HaveBytes ts → HaveBytes rest
inner_heading_rest (dl.SubroutineHeading.heading r p t n v s k) b = (specs_rest s (values_rest v (parameters_rest n (result_rest r b).1.1))).1

-- ---- items, and what stands in the list of a procedure

item_shaped : {i : decl.Item} {ts rest : List Lexeme} → dl.Item i ts rest → is_shaped_item i ≡ true
item_shaped (dl.Item.plain i) = refl
item_shaped (dl.Item.valued i k d) = refl

items_shaped : {is : List decl.Item} {ts rest : List Lexeme} → dl.Items is ts rest → are_shaped_items is ≡ true
items_shaped (dl.Separated.one {a = i} d) = and_from (is_shaped_item i) true (item_shaped d) refl
items_shaped (dl.Separated.more {a = i} {bs = is} d k r) = and_from (is_shaped_item i) (are_shaped_items is) (item_shaped d) (items_shaped r)

array_shaped : {vs : List Constant} {i : decl.Item} {ts rest : List Lexeme} → dl.Array vs i ts rest → is_shaped_item i ≡ true
array_shaped (dl.Array.bounds i o p c q z) = refl
array_shaped (dl.Array.view i o m z e n) = refl

arrays_shaped : {is : List decl.Item} {ts rest : List Lexeme} → dl.Arrays is ts rest → are_shaped_items is ≡ true
arrays_shaped (dl.Arrays.one {i = i} d) = and_from (is_shaped_item i) true (array_shaped d) refl
arrays_shaped (dl.Arrays.valued {i = i} d k v) = and_from (is_shaped_item i) true (array_shaped d) refl
arrays_shaped (dl.Arrays.more {i = i} {is = is} d k r) = and_from (is_shaped_item i) (are_shaped_items is) (array_shaped d) (arrays_shaped r)

pointers_shaped : (ns : List Placed) → are_shaped_items (dl.pointers ns) ≡ true
pointers_shaped [] = refl
pointers_shaped (p ∷ ps) = pointers_shaped ps

declaration_local : {segment : ℕ} {d : decl.Declaration} {ts rest : List Lexeme} → dl.Declaration false segment d ts rest → is_local d ≡ true
declaration_local (dl.Declaration.simple o t d) = refl
declaration_local (dl.Declaration.array o c a d) = refl
declaration_local (dl.Declaration.pointers_of t p d) = refl
declaration_local (dl.Declaration.equate t d) = refl
declaration_local (dl.Declaration.intrinsic t d) = refl
declaration_local (dl.Declaration.label t d) = refl
declaration_local (dl.Declaration.subroutine h d) = refl

declarations_local : {after : Bool} {segment : ℕ} {ds : List decl.Declaration} {ts rest : List Lexeme} → dl.Declarations false after segment ds ts rest
    → are_local (declarations ds) ≡ true
declarations_local dl.Declarations.none = refl
declarations_local (dl.Declarations.more {d = x} {ds = ds} d e k r) = and_from (is_local x) (are_local (declarations ds)) (declaration_local d) (declarations_local r)

-- ---- declarations and bodies

mutual
  declaration_shaped : {u : Bool} {segment : ℕ} {d : decl.Declaration} {ts rest : List Lexeme} → dl.Declaration u segment d ts rest → HaveBytes ts
      → Told (is_shaped_declaration d) rest
  declaration_shaped (dl.Declaration.simple o t d) b = (items_shaped d, items_rest d (own_rest o b).1)
  declaration_shaped (dl.Declaration.array o c a d) b = (arrays_shaped d, arrays_rest d (kind_rest c (own_rest o b)).1)
  declaration_shaped (dl.Declaration.pointers_of {ns = ns} t p d) b = (pointers_shaped ns, names_rest d b.1.1)
  declaration_shaped (dl.Declaration.equate t d) b = (refl, equals_rest d b.1)
  declaration_shaped (dl.Declaration.intrinsic t d) b = (refl, names_rest d b.1)
  declaration_shaped (dl.Declaration.label t d) b = (refl, names_rest d b.1)
  declaration_shaped (dl.Declaration.procedure h d) b = body_shaped d (heading_rest h b)
  declaration_shaped (dl.Declaration.procedure_with h p o f x k d) b = body_shaped d (options_rest o (heading_rest h b).1).1
  declaration_shaped (dl.Declaration.forward h p o f) b = (refl, options_rest o (heading_rest h b).1)
  declaration_shaped (dl.Declaration.external h p o f) b = (refl, options_rest o (heading_rest h b).1)
  declaration_shaped (dl.Declaration.subroutine h d) b = statement_shaped d (inner_heading_rest h b)

  declarations_shaped : {u after : Bool} {segment : ℕ} {ds : List decl.Declaration} {ts rest : List Lexeme} → dl.Declarations u after segment ds ts rest
      → HaveBytes ts → Told (are_shaped_declarations (declarations ds)) rest
  declarations_shaped dl.Declarations.none b = (refl, b)
  declarations_shaped (dl.Declarations.more {d = x} {ds = ds} d e k r) b =
      let one = declaration_shaped d b in
      let all = declarations_shaped r one.1.1 in
      (and_from (is_shaped_declaration x) (are_shaped_declarations (declarations ds)) one.0 all.0, all.1)

  body_shaped : {segment : ℕ} {ds : List decl.Declaration} {xs : List Statement} {ts rest : List Lexeme} → dl.Body segment ds xs ts rest → HaveBytes ts
      → Told ((are_local (declarations ds) && are_shaped_declarations (declarations ds)) && are_shaped_statements (statements xs)) rest
  body_shaped (dl.Body.block {ds = ds} {xs = xs} i d s z) b =
      let one = declarations_shaped d b.1 in
      let all = statements_shaped s one.1 in
      let both = and_from (are_local (declarations ds)) (are_shaped_declarations (declarations ds)) (declarations_local d) one.0 in
      (and_from (are_local (declarations ds) && are_shaped_declarations (declarations ds)) (are_shaped_statements (statements xs)) both all.0, all.1.1)
  body_shaped (dl.Body.single {x = x} d c) b = let k = statement_shaped d b in (and_from (is_shaped_statement x) true k.0 refl, k.1)

pub units_shaped : SpelledUnitsAreShaped
units_shaped u ts (un.Unit_of.unit {ds = ds} {xs = xs} i d s z o e) b =
    let one = declarations_shaped d b.1 in
    let all = statements_shaped s one.1 in
    and_from (are_shaped_declarations (declarations ds)) (are_shaped_statements (statements xs)) one.0 all.0
