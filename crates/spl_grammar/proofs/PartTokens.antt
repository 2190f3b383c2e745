-- Each part of an expression has a token.
use Rattle.std.proofs.Common.{ℕ, ◌<◌, Bool, List, length, Option, arith}
use Rattle.spl_reading.specs.spl_tree.declared.names_and_places.At.{At}
use Rattle.spl_reading.specs.spl_tree.Symbols.{Lexeme}
use Rattle.spl_reading.specs.spl_tree.Operators.{Form}
use Rattle.spl_reading.specs.spl_tree.Expressions as g
use Rattle.spl_reading.specs.spl_tree.Trees as tree

-- a constant takes a token
pub shorter_constant : {v : tree.Constant} {ts rest : List Lexeme} → g.Constant v ts rest → length rest < length ts
shorter_constant (g.Constant.number _) = omega arith
shorter_constant (g.Constant.wide _) = omega arith
shorter_constant (g.Constant.signed_number _ _ _) = omega arith
shorter_constant (g.Constant.signed_wide _ _ _) = omega arith
shorter_constant (g.Constant.text _) = omega arith
shorter_constant (g.Constant.truth _) = omega arith
shorter_constant (g.Constant.name _) = omega arith

mutual
  -- so does a part of each level,
  pub shorter : {c : Bool} {f : Option At} {h n : ℕ} {x : Form} {e : tree.Tree} {ts rest : List Lexeme}
      → g.Level c f h n x e ts rest
      → length rest < length ts
  shorter (g.Level.operand u) = shorter_unary u
  shorter (g.Level.up _ l) = shorter l
  shorter (g.Level.unsigned _ l) = shorter l
  shorter (g.Level.signed _ _ _ _ l) = let a = shorter l in omega arith
  shorter (g.Level.negative _ _ l) = let a = shorter l in omega arith
  shorter (g.Level.joined _ l _ _ r) = let a = shorter l in let b = shorter r in omega arith
  shorter (g.Level.related _ l _ _ r _) = let a = shorter l in let b = shorter r in omega arith
  shorter (g.Level.shifted _ l _ _ _ _ v _) = let a = shorter l in let b = shorter_constant v in omega arith
  shorter (g.Level.bytes _ l _ _ r _) = let a = shorter l in let b = shorter r in omega arith

  -- an operand,
  pub shorter_unary : {f : Option At} {x : Form} {e : tree.Tree} {ts rest : List Lexeme} → g.Unary f x e ts rest
      → length rest < length ts
  shorter_unary (g.Unary.inverse _ u) = let a = shorter_unary u in omega arith
  shorter_unary (g.Unary.plain p) = shorter_primary p
  shorter_unary (g.Unary.bits p _ _ a _ b _) = let x = shorter_primary p in let y = shorter_constant a in let z =
      shorter_constant b in omega arith

  -- a primary
  pub shorter_primary : {f : Option At} {x : Form} {e : tree.Tree} {ts rest : List Lexeme} → g.Primary f x e ts rest
      → length rest < length ts
  shorter_primary (g.Primary.number _) = omega arith
  shorter_primary (g.Primary.wide _) = omega arith
  shorter_primary (g.Primary.negative_number _) = omega arith
  shorter_primary (g.Primary.negative_wide _) = omega arith
  shorter_primary (g.Primary.text _) = omega arith
  shorter_primary (g.Primary.truth _) = omega arith
  shorter_primary (g.Primary.name _) = omega arith
  shorter_primary (g.Primary.call _ _ a _) = let x = shorter_arguments a in omega arith
  shorter_primary (g.Primary.address _ _) = omega arith
  shorter_primary (g.Primary.address_of _ _ _ l _) = let a = shorter l in omega arith
  shorter_primary (g.Primary.parens _ l _) = let a = shorter l in omega arith
  shorter_primary (g.Primary.transfer _ _ l _) = let a = shorter l in omega arith

  -- and arguments
  pub shorter_arguments : {es : List tree.Tree} {ts rest : List Lexeme} → g.Arguments es ts rest
      → length rest < length ts
  shorter_arguments (g.Arguments.one l) = shorter l
  shorter_arguments (g.Arguments.several l _ r) = let a = shorter l in let b = shorter_arguments r in omega arith
