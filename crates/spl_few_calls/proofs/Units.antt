-- A unit has as many tokens as calls and entries at least: a procedure and a subroutine have their names.
use Rattle.std.proofs.Common.{◌≤◌, ℕ, suc, ◌+◌, Bool, List, length, Option, arith}
use Rattle.std.proofs.Math.Logic.{∥∥₁_elim}
use Rattle.std.proofs.Math.Bridge.{le_prop}
use Rattle.std.proofs.lemmas.List.{length-map}
use Rattle.spl_sound.specs.spl_tree.declared.expressions.Kind.{Kind}
use Rattle.spl_sound.specs.spl_tree.Symbols.{Lexeme}
use Rattle.spl_sound.specs.spl_tree.StatementTrees as stat
use Rattle.spl_sound.specs.spl_tree.StatementTrees.{statements}
use Rattle.spl_sound.specs.spl_tree.Trees as tree
use Rattle.spl_sound.specs.spl_tree.Expressions as g
use Rattle.spl_sound.specs.spl_tree.DeclarationTrees as decl
use Rattle.spl_sound.specs.spl_tree.DeclarationTrees.{Placed, declarations}
use Rattle.spl_sound.specs.spl_tree.Declarations as dl
use Rattle.spl_sound.specs.spl_tree.Units as un
use Rattle.spl_sound.specs.spl_tree.Units.{Unit_of}
use Rattle.spl_sound.specs.spl_cuts.Lexemes.{lexeme, lexemes}
use Rattle.spl_sound.specs.spl_grammar.Verdicts.{spelled}
use Rattle.spl_sound.specs.Spelled.{Spelled, most_tokens}
use Rattle.spl_few_calls.specs.Calls.{calls_within, declared_calls, all_declared_calls, unit_calls}
use Rattle.spl_few_calls.specs.Laws.{FewCalls, FewCallsInUnits}
use Rattle.spl_few_calls.proofs.Expressions.{constant_eats}
use Rattle.spl_few_calls.proofs.Statements.{statement_eats, statements_eat}

-- ---- parts without calls

-- a part takes its tokens from the front
abbrev Eats : {A : Type 0} → (A → List Lexeme → List Lexeme → Type 0) → Type 0
Eats {A} P = (a : A) (ts rest : List Lexeme) → P a ts rest → length rest ≤ length ts

separated_eats : {A : Type 0} (P : A → List Lexeme → List Lexeme → Type 0) → Eats P → {xs : List A} {ts rest : List Lexeme} → dl.Separated P xs ts rest
    → length rest ≤ length ts
separated_eats P each (dl.Separated.one x) = each _ _ _ x
separated_eats P each (dl.Separated.more x k xs) = let a = each _ _ _ x in let b = separated_eats P each xs in omega arith

name_eats : Eats dl.Name
name_eats a ts rest (dl.Name.name i) = omega arith

names_eat : {ns : List Placed} {ts rest : List Lexeme} → dl.Names ns ts rest → length rest ≤ length ts
names_eat ns = separated_eats dl.Name name_eats ns

kind_eats : {k : Kind} {ts rest : List Lexeme} → dl.OptionalKind k ts rest → length rest ≤ length ts
kind_eats dl.OptionalKind.absent = omega arith
kind_eats (dl.OptionalKind.given i) = omega arith

result_eats : {k : Option Kind} {ts rest : List Lexeme} → dl.Result k ts rest → length rest ≤ length ts
result_eats dl.Result.absent = omega arith
result_eats (dl.Result.given i) = omega arith

own_eats : {b : Bool} {ts rest : List Lexeme} → dl.Own b ts rest → length rest ≤ length ts
own_eats dl.Own.absent = omega arith
own_eats (dl.Own.given i) = omega arith

item_eats : Eats dl.Item
item_eats x ts rest (dl.Item.plain i) = omega arith
item_eats x ts rest (dl.Item.valued i k v) = let a = constant_eats v in omega arith

constants_eat : {vs : List tree.Constant} {ts rest : List Lexeme} → dl.Constants vs ts rest → length rest ≤ length ts
constants_eat vs = separated_eats g.Constant (λ a ts rest v. constant_eats v) vs

array_eats : {vs : List tree.Constant} {i : decl.Item} {ts rest : List Lexeme} → dl.Array vs i ts rest → length rest ≤ length ts
array_eats (dl.Array.bounds i o a k b z) = let x = constant_eats a in let y = constant_eats b in omega arith
array_eats (dl.Array.view i o m z e b) = omega arith

arrays_eat : {is : List decl.Item} {ts rest : List Lexeme} → dl.Arrays is ts rest → length rest ≤ length ts
arrays_eat (dl.Arrays.one a) = array_eats a
arrays_eat (dl.Arrays.valued a k vs) = let x = array_eats a in let y = constants_eat vs in omega arith
arrays_eat (dl.Arrays.more a k is) = let x = array_eats a in let y = arrays_eat is in omega arith

terms_eat : {vs : List decl.Term} {ts rest : List Lexeme} → dl.Terms vs ts rest → length rest ≤ length ts
terms_eat dl.Terms.none = omega arith
terms_eat (dl.Terms.more i s v vs) = let a = constant_eats v in let b = terms_eat vs in omega arith

equal_eats : Eats dl.Equal
equal_eats x ts rest (dl.Equal.equal i e v vs) = let a = constant_eats v in let b = terms_eat vs in omega arith

parameters_eat : {ns : List Placed} {ts rest : List Lexeme} → dl.Parameters ns ts rest → length rest ≤ length ts
parameters_eat dl.Parameters.absent = omega arith
parameters_eat (dl.Parameters.given o ns z) = let a = names_eat ns in omega arith

values_eat : {ns : List Placed} {ts rest : List Lexeme} → dl.Values ns ts rest → length rest ≤ length ts
values_eat dl.Values.absent = omega arith
values_eat (dl.Values.given k v ns) = let a = names_eat ns in omega arith

specs_eat : {ss : List decl.Spec} {ts rest : List Lexeme} → dl.Specs ss ts rest → length rest ≤ length ts
specs_eat dl.Specs.none = omega arith
specs_eat (dl.Specs.words k t ns ss) = let a = names_eat ns in let b = specs_eat ss in omega arith
specs_eat (dl.Specs.arrays k o a ns ss) = let x = kind_eats o in let y = names_eat ns in let z = specs_eat ss in omega arith

options_eat : {a b : dl.Options} {ts rest : List Lexeme} → dl.OptionList a b ts rest → length rest ≤ length ts
options_eat (dl.OptionList.one i o f) = omega arith
options_eat (dl.OptionList.more i o f k os) = let a = options_eat os in omega arith

-- a heading has its name, which is the entry's
heading_eats : {split : Bool} {h : decl.Heading} {ts rest : List Lexeme} → dl.Heading split h ts rest → suc (length rest) ≤ length ts
heading_eats (dl.Heading.heading r p i ns vs ss k) =
    let a = result_eats r in let b = parameters_eat ns in let c = values_eat vs in let d = specs_eat ss in omega arith

inner_heading_eats : {segment : ℕ} {h : decl.Heading} {ts rest : List Lexeme} → dl.SubroutineHeading segment h ts rest → suc (length rest) ≤ length ts
inner_heading_eats (dl.SubroutineHeading.heading r p i ns vs ss k) =
    let a = result_eats r in let b = parameters_eat ns in let c = values_eat vs in let d = specs_eat ss in omega arith

-- ---- declarations

mutual
  declaration_eats : {u : Bool} {segment : ℕ} {x : decl.Declaration} {ts rest : List Lexeme} → dl.Declaration u segment x ts rest
      → declared_calls x + length rest ≤ length ts
  declaration_eats (dl.Declaration.simple o t is) = let a = own_eats o in let b = separated_eats dl.Item item_eats is in omega arith
  declaration_eats (dl.Declaration.array o k a is) = let x = own_eats o in let y = kind_eats k in let z = arrays_eat is in omega arith
  declaration_eats (dl.Declaration.pointers_of t p ns) = let a = names_eat ns in omega arith
  declaration_eats (dl.Declaration.equate t es) = let a = separated_eats dl.Equal equal_eats es in omega arith
  declaration_eats (dl.Declaration.intrinsic t ns) = let a = names_eat ns in omega arith
  declaration_eats (dl.Declaration.label t ns) = let a = names_eat ns in omega arith
  declaration_eats (dl.Declaration.procedure h b) = let x = heading_eats h in let y = body_eats b in omega arith
  declaration_eats (dl.Declaration.procedure_with h p o f e k b) =
      let x = heading_eats h in let y = options_eat o in let z = body_eats b in omega arith
  declaration_eats (dl.Declaration.forward h p o f) = let x = heading_eats h in let y = options_eat o in omega arith
  declaration_eats (dl.Declaration.external h p o e) = let x = heading_eats h in let y = options_eat o in omega arith
  declaration_eats (dl.Declaration.subroutine h x) = let a = inner_heading_eats h in let b = statement_eats x in omega arith

  declarations_eat : {u after : Bool} {segment : ℕ} {ds : List decl.Declaration} {ts rest : List Lexeme} → dl.Declarations u after segment ds ts rest
      → all_declared_calls (declarations ds) + length rest ≤ length ts
  declarations_eat dl.Declarations.none = omega arith
  declarations_eat (dl.Declarations.more d e k ds) = let a = declaration_eats d in let b = declarations_eat ds in omega arith

  body_eats : {segment : ℕ} {ds : List decl.Declaration} {xs : List stat.Statement} {ts rest : List Lexeme} → dl.Body segment ds xs ts rest
      → all_declared_calls (declarations ds) + calls_within (statements xs) + length rest ≤ length ts
  body_eats (dl.Body.block i ds xs z) = let a = declarations_eat ds in let b = statements_eat xs in omega arith
  body_eats (dl.Body.single x e) = let a = statement_eats x in omega arith

unit_eats : {u : decl.UnitTree} {ts : List Lexeme} → Unit_of u ts → unit_calls u ≤ length ts
unit_eats (un.Unit_of.unit i ds xs z d e) = let a = declarations_eat ds in let b = statements_eat xs in omega arith

pub few : FewCalls
few ts u (spelled w calm) = unit_eats w

-- a bound is one fact, whichever tokens spell the unit
pub few_in_units : FewCallsInUnits
few_in_units us i u are e = ∥∥₁_elim (are i u e) one (λ (s : Spelled (i + 1) u). bounded s)
  where
    one : IsProp (unit_calls u.tree ≤ most_tokens + 1)
    one = hlevel le_prop

    bounded : Spelled (i + 1) u → unit_calls u.tree ≤ most_tokens + 1
    bounded s =
        let a = few (lexemes s.listed) u.tree s.spelled in
        let b = length-map s.listed.tokens lexeme in
        let c = s.whole.few in
        omega (arith, a, b, c)
