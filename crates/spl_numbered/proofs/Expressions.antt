-- An expression takes its tokens from the front.
use Rattle.std.proofs.Common.{◌≤◌, ℕ, Bool, List, Option, arith}
use Rattle.spl_bounds.specs.spl_tree.declared.names_and_places.At.{At}
use Rattle.spl_bounds.specs.spl_tree.Symbols.{Lexeme}
use Rattle.spl_bounds.specs.spl_tree.Operators.{Form}
use Rattle.spl_bounds.specs.spl_tree.Trees as tree
use Rattle.spl_bounds.specs.spl_tree.Trees.{Tree}
use Rattle.spl_bounds.specs.spl_tree.Expressions as g
use Rattle.spl_numbered.proofs.Beyond.{beyond}

pub constant_eats : (top : ℕ) {v : tree.Constant} {ts rest : List Lexeme} → g.Constant v ts rest → beyond top rest ≤ beyond top ts
constant_eats top (g.Constant.number i) = omega arith
constant_eats top (g.Constant.wide i) = omega arith
constant_eats top (g.Constant.signed_number i j k) = omega arith
constant_eats top (g.Constant.signed_wide i j k) = omega arith
constant_eats top (g.Constant.text i) = omega arith
constant_eats top (g.Constant.truth i) = omega arith
constant_eats top (g.Constant.name i) = omega arith

mutual
  pub level_eats : (top : ℕ) {c : Bool} {f : Option At} {h n : ℕ} {x : Form} {e : Tree} {ts rest : List Lexeme} → g.Level c f h n x e ts rest
      → beyond top rest ≤ beyond top ts
  level_eats top (g.Level.operand u) = unary_eats top u
  level_eats top (g.Level.up i l) = level_eats top l
  level_eats top (g.Level.unsigned i l) = level_eats top l
  level_eats top (g.Level.signed i o s n l) = let a = level_eats top l in omega arith
  level_eats top (g.Level.negative i o l) = let a = level_eats top l in omega arith
  level_eats top (g.Level.joined i l o b r) = let a = level_eats top l in let z = level_eats top r in omega arith
  level_eats top (g.Level.related i l o b r k) = let a = level_eats top l in let z = level_eats top r in omega arith
  level_eats top (g.Level.shifted i l a w s o v z) = let x = level_eats top l in let y = constant_eats top v in omega arith
  level_eats top (g.Level.bytes i l k o r z) = let a = level_eats top l in let b = level_eats top r in omega arith

  unary_eats : (top : ℕ) {f : Option At} {x : Form} {e : Tree} {ts rest : List Lexeme} → g.Unary f x e ts rest → beyond top rest ≤ beyond top ts
  unary_eats top (g.Unary.inverse i u) = let a = unary_eats top u in omega arith
  unary_eats top (g.Unary.plain p) = primary_eats top p
  unary_eats top (g.Unary.bits p d o a k b z) = let x = primary_eats top p in let y = constant_eats top a in let w = constant_eats top b in omega arith

  primary_eats : (top : ℕ) {f : Option At} {x : Form} {e : Tree} {ts rest : List Lexeme} → g.Primary f x e ts rest → beyond top rest ≤ beyond top ts
  primary_eats top (g.Primary.number i) = omega arith
  primary_eats top (g.Primary.wide i) = omega arith
  primary_eats top (g.Primary.negative_number i) = omega arith
  primary_eats top (g.Primary.negative_wide i) = omega arith
  primary_eats top (g.Primary.text i) = omega arith
  primary_eats top (g.Primary.truth i) = omega arith
  primary_eats top (g.Primary.name i) = omega arith
  primary_eats top (g.Primary.call i o es z) = let a = arguments_eat top es in omega arith
  primary_eats top (g.Primary.address a i) = omega arith
  primary_eats top (g.Primary.address_of a i o l z) = let x = level_eats top l in omega arith
  primary_eats top (g.Primary.parens o l z) = let x = level_eats top l in omega arith
  primary_eats top (g.Primary.transfer i o l z) = let x = level_eats top l in omega arith

  pub arguments_eat : (top : ℕ) {es : List Tree} {ts rest : List Lexeme} → g.Arguments es ts rest → beyond top rest ≤ beyond top ts
  arguments_eat top (g.Arguments.one l) = let a = level_eats top l in omega arith
  arguments_eat top (g.Arguments.several l k es) = let a = level_eats top l in let b = arguments_eat top es in omega arith
