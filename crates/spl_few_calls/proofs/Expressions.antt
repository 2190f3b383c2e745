-- An expression has as many tokens as calls at least: each name is one.
use Rattle.std.proofs.Common.{◌≤◌, ℕ, ◌+◌, Bool, List, length, Option, arith}
use Rattle.spl_sound.specs.spl_tree.declared.names_and_places.At.{At}
use Rattle.spl_sound.specs.spl_tree.Symbols.{Lexeme}
use Rattle.spl_sound.specs.spl_tree.Operators.{Form, bytes_of}
use Rattle.spl_sound.specs.spl_tree.Trees as tree
use Rattle.spl_sound.specs.spl_tree.Trees.{Tree, trees}
use Rattle.spl_sound.specs.spl_tree.Expressions as g
use Rattle.spl_few_calls.specs.Calls.{calls, calls_among}

-- a constant has a token
pub constant_eats : {v : tree.Constant} {ts rest : List Lexeme} → g.Constant v ts rest → length rest ≤ length ts
constant_eats (g.Constant.number i) = omega arith
constant_eats (g.Constant.wide i) = omega arith
constant_eats (g.Constant.signed_number i j k) = omega arith
constant_eats (g.Constant.signed_wide i j k) = omega arith
constant_eats (g.Constant.text i) = omega arith
constant_eats (g.Constant.truth i) = omega arith
constant_eats (g.Constant.name i) = omega arith

-- a relation of bytes has the calls of both references and of the count
bytes_calls : (e count : Tree) → calls (bytes_of e count) ≤ calls e + calls count
bytes_calls (tree.Tree.number v) count = omega arith
bytes_calls (tree.Tree.wide v) count = omega arith
bytes_calls (tree.Tree.text bytes) count = omega arith
bytes_calls (tree.Tree.truth b) count = omega arith
bytes_calls (tree.Tree.named x es at) count = omega arith
bytes_calls (tree.Tree.address x es at) count = omega arith
bytes_calls (tree.Tree.unary op e at) count = omega arith
bytes_calls (tree.Tree.binary op a b at) count = omega arith
bytes_calls (tree.Tree.shift op e by at) count = omega arith
bytes_calls (tree.Tree.field e start size at) count = omega arith
bytes_calls (tree.Tree.transfer to e at) count = omega arith
bytes_calls (tree.Tree.bytes op a b size at) count = omega arith

mutual
  pub level_eats : {c : Bool} {f : Option At} {h n : ℕ} {x : Form} {e : Tree} {ts rest : List Lexeme} → g.Level c f h n x e ts rest
      → calls e + length rest ≤ length ts
  level_eats (g.Level.operand u) = unary_eats u
  level_eats (g.Level.up i l) = level_eats l
  level_eats (g.Level.unsigned i l) = level_eats l
  level_eats (g.Level.signed i o s n l) = let a = level_eats l in omega arith
  level_eats (g.Level.negative i o l) = let a = level_eats l in omega arith
  level_eats (g.Level.joined i l o b r) = let a = level_eats l in let z = level_eats r in omega arith
  level_eats (g.Level.related i l o b r k) = let a = level_eats l in let z = level_eats r in omega arith
  level_eats (g.Level.shifted i l a w s o v z) = let x = level_eats l in let y = constant_eats v in omega arith
  level_eats (g.Level.bytes {e = e} {count = count} i l k o r z) =
      let a = level_eats l in let b = level_eats r in let d = bytes_calls e count in omega arith

  unary_eats : {f : Option At} {x : Form} {e : Tree} {ts rest : List Lexeme} → g.Unary f x e ts rest → calls e + length rest ≤ length ts
  unary_eats (g.Unary.inverse i u) = let a = unary_eats u in omega arith
  unary_eats (g.Unary.plain p) = primary_eats p
  unary_eats (g.Unary.bits p d o a k b z) = let x = primary_eats p in let y = constant_eats a in let w = constant_eats b in omega arith

  primary_eats : {f : Option At} {x : Form} {e : Tree} {ts rest : List Lexeme} → g.Primary f x e ts rest → calls e + length rest ≤ length ts
  primary_eats (g.Primary.number i) = omega arith
  primary_eats (g.Primary.wide i) = omega arith
  primary_eats (g.Primary.negative_number i) = omega arith
  primary_eats (g.Primary.negative_wide i) = omega arith
  primary_eats (g.Primary.text i) = omega arith
  primary_eats (g.Primary.truth i) = omega arith
  primary_eats (g.Primary.name i) = omega arith
  primary_eats (g.Primary.call i o es z) = let a = arguments_eat es in omega arith
  primary_eats (g.Primary.address a i) = omega arith
  primary_eats (g.Primary.address_of a i o l z) = let x = level_eats l in omega arith
  primary_eats (g.Primary.parens o l z) = let x = level_eats l in omega arith
  primary_eats (g.Primary.transfer i o l z) = let x = level_eats l in omega arith

  pub arguments_eat : {es : List Tree} {ts rest : List Lexeme} → g.Arguments es ts rest → calls_among (trees es) + length rest ≤ length ts
  arguments_eat (g.Arguments.one l) = let a = level_eats l in omega arith
  arguments_eat (g.Arguments.several l k es) = let a = level_eats l in let b = arguments_eat es in omega arith
