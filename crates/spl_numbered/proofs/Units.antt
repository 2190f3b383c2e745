-- The segments of a unit's procedures and of its main body are those of tokens.
use Rattle.std.proofs.Common.{◌≡◌, ◌≤◌, ◌<◌, ℕ, ◌+◌, nat_lt, Bool, true, false, if◌then◌else◌, List, [], ◌∷◌, length, Option, refl, arith}
use Rattle.std.proofs.lemmas.Bool.{ltb-true}
use Rattle.spl_bounds.specs.spl_tree.declared.expressions.Kind.{Kind}
use Rattle.spl_bounds.specs.spl_tree.Symbols.{Lexeme}
use Rattle.spl_bounds.specs.spl_tree.StatementTrees as stat
use Rattle.spl_bounds.specs.spl_tree.Trees as tree
use Rattle.spl_bounds.specs.spl_tree.Expressions as g
use Rattle.spl_bounds.specs.spl_tree.DeclarationTrees as decl
use Rattle.spl_bounds.specs.spl_tree.DeclarationTrees.{Placed, Declarations, declarations}
use Rattle.spl_bounds.specs.spl_tree.Declarations as dl
use Rattle.spl_bounds.specs.spl_tree.Units as un
use Rattle.spl_bounds.specs.spl_tree.Units.{Unit_of, segment_at}
use Rattle.spl_bounds.proofs.spl_grammar_proofs.StatementTokens.{no_longer_list}
use Rattle.spl_bounds.specs.spl_meaning.Stops.{declaration_stops}
use Rattle.spl_bounds.specs.spl_meaning.Names.{Sort, Table, nothing_declared}
use Rattle.spl_bounds.specs.spl_meaning.Tables.{Routine, with_declaration, routines_among}
use Rattle.spl_bounds.specs.spl_places.Programs.{Each}
use Rattle.spl_numbered.proofs.Beyond.{out, beyond, declared_out, all_out}
use Rattle.spl_numbered.proofs.Expressions.{constant_eats}
use Rattle.spl_numbered.proofs.Statements.{statement_eats, statements_eat}

-- ---- parts of declarations

-- a part takes its tokens from the front
abbrev Eats : ℕ → {A : Type 0} → (A → List Lexeme → List Lexeme → Type 0) → Type 0
Eats top {A} P = (a : A) (ts rest : List Lexeme) → P a ts rest → beyond top rest ≤ beyond top ts

separated_eats : (top : ℕ) {A : Type 0} (P : A → List Lexeme → List Lexeme → Type 0) → Eats top P → {xs : List A} {ts rest : List Lexeme} → dl.Separated P xs ts rest
    → beyond top rest ≤ beyond top ts
separated_eats top P each (dl.Separated.one x) = each _ _ _ x
separated_eats top P each (dl.Separated.more x k xs) = let a = each _ _ _ x in let b = separated_eats top P each xs in omega arith

name_eats : (top : ℕ) → Eats top dl.Name
name_eats top a ts rest (dl.Name.name i) = omega arith

names_eat : (top : ℕ) {ns : List Placed} {ts rest : List Lexeme} → dl.Names ns ts rest → beyond top rest ≤ beyond top ts
names_eat top ns = separated_eats top dl.Name (name_eats top) ns

kind_eats : (top : ℕ) {k : Kind} {ts rest : List Lexeme} → dl.OptionalKind k ts rest → beyond top rest ≤ beyond top ts
kind_eats top dl.OptionalKind.absent = omega arith
kind_eats top (dl.OptionalKind.given i) = omega arith

result_eats : (top : ℕ) {k : Option Kind} {ts rest : List Lexeme} → dl.Result k ts rest → beyond top rest ≤ beyond top ts
result_eats top dl.Result.absent = omega arith
result_eats top (dl.Result.given i) = omega arith

own_eats : (top : ℕ) {b : Bool} {ts rest : List Lexeme} → dl.Own b ts rest → beyond top rest ≤ beyond top ts
own_eats top dl.Own.absent = omega arith
own_eats top (dl.Own.given i) = omega arith

item_eats : (top : ℕ) → Eats top dl.Item
item_eats top x ts rest (dl.Item.plain i) = omega arith
item_eats top x ts rest (dl.Item.valued i k v) = let a = constant_eats top v in omega arith

constants_eat : (top : ℕ) {vs : List tree.Constant} {ts rest : List Lexeme} → dl.Constants vs ts rest → beyond top rest ≤ beyond top ts
constants_eat top vs = separated_eats top g.Constant (λ a ts rest v. constant_eats top v) vs

array_eats : (top : ℕ) {vs : List tree.Constant} {i : decl.Item} {ts rest : List Lexeme} → dl.Array vs i ts rest → beyond top rest ≤ beyond top ts
array_eats top (dl.Array.bounds i o a k b z) = let x = constant_eats top a in let y = constant_eats top b in omega arith
array_eats top (dl.Array.view i o m z e b) = omega arith

arrays_eat : (top : ℕ) {is : List decl.Item} {ts rest : List Lexeme} → dl.Arrays is ts rest → beyond top rest ≤ beyond top ts
arrays_eat top (dl.Arrays.one a) = array_eats top a
arrays_eat top (dl.Arrays.valued a k vs) = let x = array_eats top a in let y = constants_eat top vs in omega arith
arrays_eat top (dl.Arrays.more a k is) = let x = array_eats top a in let y = arrays_eat top is in omega arith

terms_eat : (top : ℕ) {vs : List decl.Term} {ts rest : List Lexeme} → dl.Terms vs ts rest → beyond top rest ≤ beyond top ts
terms_eat top dl.Terms.none = omega arith
terms_eat top (dl.Terms.more i s v vs) = let a = constant_eats top v in let b = terms_eat top vs in omega arith

equal_eats : (top : ℕ) → Eats top dl.Equal
equal_eats top x ts rest (dl.Equal.equal i e v vs) = let a = constant_eats top v in let b = terms_eat top vs in omega arith

parameters_eat : (top : ℕ) {ns : List Placed} {ts rest : List Lexeme} → dl.Parameters ns ts rest → beyond top rest ≤ beyond top ts
parameters_eat top dl.Parameters.absent = omega arith
parameters_eat top (dl.Parameters.given o ns z) = let a = names_eat top ns in omega arith

values_eat : (top : ℕ) {ns : List Placed} {ts rest : List Lexeme} → dl.Values ns ts rest → beyond top rest ≤ beyond top ts
values_eat top dl.Values.absent = omega arith
values_eat top (dl.Values.given k v ns) = let a = names_eat top ns in omega arith

specs_eat : (top : ℕ) {ss : List decl.Spec} {ts rest : List Lexeme} → dl.Specs ss ts rest → beyond top rest ≤ beyond top ts
specs_eat top dl.Specs.none = omega arith
specs_eat top (dl.Specs.words k t ns ss) = let a = names_eat top ns in let b = specs_eat top ss in omega arith
specs_eat top (dl.Specs.arrays k o a ns ss) = let x = kind_eats top o in let y = names_eat top ns in let z = specs_eat top ss in omega arith

options_eat : (top : ℕ) {a b : dl.Options} {ts rest : List Lexeme} → dl.OptionList a b ts rest → beyond top rest ≤ beyond top ts
options_eat top (dl.OptionList.one i o f) = omega arith
options_eat top (dl.OptionList.more i o f k os) = let a = options_eat top os in omega arith

-- a heading stands in the segment of its word
heading_eats : (top : ℕ) {split : Bool} {h : decl.Heading} {ts rest : List Lexeme} → dl.Heading split h ts rest → out top h.segment + beyond top rest ≤ beyond top ts
heading_eats top (dl.Heading.heading r p i ns vs ss k) =
    let a = result_eats top r in let b = parameters_eat top ns in let c = values_eat top vs in let d = specs_eat top ss in omega arith

inner_heading_eats : (top : ℕ) {segment : ℕ} {h : decl.Heading} {ts rest : List Lexeme} → dl.SubroutineHeading segment h ts rest → beyond top rest ≤ beyond top ts
inner_heading_eats top (dl.SubroutineHeading.heading r p i ns vs ss k) =
    let a = result_eats top r in let b = parameters_eat top ns in let c = values_eat top vs in let d = specs_eat top ss in omega arith

-- ---- declarations

mutual
  declaration_eats : (top : ℕ) {u : Bool} {segment : ℕ} {x : decl.Declaration} {ts rest : List Lexeme} → dl.Declaration u segment x ts rest
      → declared_out top x + beyond top rest ≤ beyond top ts
  declaration_eats top (dl.Declaration.simple o t is) = let a = own_eats top o in let b = separated_eats top dl.Item (item_eats top) is in omega arith
  declaration_eats top (dl.Declaration.array o k a is) = let x = own_eats top o in let y = kind_eats top k in let z = arrays_eat top is in omega arith
  declaration_eats top (dl.Declaration.pointers_of t p ns) = let a = names_eat top ns in omega arith
  declaration_eats top (dl.Declaration.equate t es) = let a = separated_eats top dl.Equal (equal_eats top) es in omega arith
  declaration_eats top (dl.Declaration.intrinsic t ns) = let a = names_eat top ns in omega arith
  declaration_eats top (dl.Declaration.label t ns) = let a = names_eat top ns in omega arith
  declaration_eats top (dl.Declaration.procedure h b) = let x = heading_eats top h in let y = body_eats top b in omega arith
  declaration_eats top (dl.Declaration.procedure_with h p o f e k b) =
      let x = heading_eats top h in let y = options_eat top o in let z = body_eats top b in omega arith
  declaration_eats top (dl.Declaration.forward h p o f) = let x = heading_eats top h in let y = options_eat top o in omega arith
  declaration_eats top (dl.Declaration.external h p o e) = let x = heading_eats top h in let y = options_eat top o in omega arith
  declaration_eats top (dl.Declaration.subroutine h x) = let a = inner_heading_eats top h in let b = statement_eats top x in omega arith

  declarations_eat : (top : ℕ) {u after : Bool} {segment : ℕ} {ds : List decl.Declaration} {ts rest : List Lexeme} → dl.Declarations u after segment ds ts rest
      → all_out top (declarations ds) + beyond top rest ≤ beyond top ts
  declarations_eat top dl.Declarations.none = omega arith
  declarations_eat top (dl.Declarations.more d e k ds) = let a = declaration_eats top d in let b = declarations_eat top ds in omega arith

  body_eats : (top : ℕ) {segment : ℕ} {ds : List decl.Declaration} {xs : List stat.Statement} {ts rest : List Lexeme} → dl.Body segment ds xs ts rest
      → beyond top rest ≤ beyond top ts
  body_eats top (dl.Body.block i ds xs z) = let a = declarations_eat top ds in let b = statements_eat top xs in omega arith
  body_eats top (dl.Body.single x e) = let a = statement_eats top x in omega arith

-- ---- a unit

first_out : (top : ℕ) (ts : List Lexeme) → 0 < length ts → out top (segment_at ts) ≤ beyond top ts
first_out top [] some = absurd (no some)
  where
    no : 0 < 0 → ⊥
    no lt = omega (arith, lt)
first_out top (t ∷ ts) some = omega arith

pub unit_eats : (top : ℕ) {u : decl.UnitTree} {ts : List Lexeme} → Unit_of u ts
    → (all_out top (declarations u.items) ≤ beyond top ts) × (out top u.segment ≤ beyond top ts)
unit_eats top (un.Unit_of.unit {mid = mid} i ds xs z d e) =
    let a = declarations_eat top ds in
    let some = no_longer_list xs in
    let first = first_out top mid (omega (arith, some)) in
    (omega (arith, a), omega (arith, a, first))

-- none is out where no token is
in_top : (top g : ℕ) → out top g ≡ 0 → g < top
in_top top g is = by (nat_lt g top) refl is
  where
    by : (b : Bool) → nat_lt g top ≡ b → ◌≡◌ {A = ℕ} (if b then 0 else 1) 0 → g < top
    by true lt is = ltb-true g top lt
    by false lt is = cc

pub main_in : (top g n : ℕ) → out top g ≤ n → n ≡ 0 → g < top
main_in top g n le is = in_top top g (omega (arith, le, is))

two_none : (a b : ℕ) → a + b ≡ 0 → (a ≡ 0) × (b ≡ 0)
two_none a b is = (omega (arith, is), omega (arith, is))

pub routines_in : (top : ℕ) (t : Table Sort) (m : ℕ) (ds : Declarations) → all_out top ds ≡ 0 → Each (λ (r : Routine). r.heading.segment < top) (routines_among t m ds)
routines_in top t m decl.none is = tt
routines_in top t m (decl.and (decl.Declaration.procedure h items ss) ds) is =
    let d = decl.Declaration.procedure h items ss in
    let both = two_none (out top h.segment) (all_out top ds) is in
    (in_top top h.segment both.0, routines_in top (with_declaration nothing_declared t d) (m + declaration_stops d) ds both.1)
routines_in top t m (decl.and (decl.Declaration.data_items own k items) ds) is = routines_in top (with_declaration nothing_declared t (decl.Declaration.data_items own k items)) (m + declaration_stops (decl.Declaration.data_items own k items)) ds (two_none 0 (all_out top ds) is).1
routines_in top t m (decl.and (decl.Declaration.equate xs) ds) is = routines_in top (with_declaration nothing_declared t (decl.Declaration.equate xs)) (m + declaration_stops (decl.Declaration.equate xs)) ds (two_none 0 (all_out top ds) is).1
routines_in top t m (decl.and (decl.Declaration.intrinsic xs) ds) is = routines_in top (with_declaration nothing_declared t (decl.Declaration.intrinsic xs)) (m + declaration_stops (decl.Declaration.intrinsic xs)) ds (two_none 0 (all_out top ds) is).1
routines_in top t m (decl.and (decl.Declaration.label xs) ds) is = routines_in top (with_declaration nothing_declared t (decl.Declaration.label xs)) (m + declaration_stops (decl.Declaration.label xs)) ds (two_none 0 (all_out top ds) is).1
routines_in top t m (decl.and (decl.Declaration.forward h) ds) is = routines_in top (with_declaration nothing_declared t (decl.Declaration.forward h)) (m + declaration_stops (decl.Declaration.forward h)) ds (two_none 0 (all_out top ds) is).1
routines_in top t m (decl.and (decl.Declaration.external h) ds) is = routines_in top (with_declaration nothing_declared t (decl.Declaration.external h)) (m + declaration_stops (decl.Declaration.external h)) ds (two_none 0 (all_out top ds) is).1
routines_in top t m (decl.and (decl.Declaration.subroutine h s) ds) is = routines_in top (with_declaration nothing_declared t (decl.Declaration.subroutine h s)) (m + declaration_stops (decl.Declaration.subroutine h s)) ds (two_none 0 (all_out top ds) is).1
