-- A specification that does not begin with the word of a kind.
use Rattle.std.proofs.Common.{◌≡◌, List, refl}
use Rattle.spl_tree.specs.declared.expressions.Kind.{Kind}
use Rattle.spl_tree.specs.declared.symbols.Symbol.{Symbol}
use Rattle.spl_tree.specs.declared.symbols.Symbol.TheVariants as s
use Rattle.spl_tree.specs.Symbols.{Lexeme}
use Rattle.spl_tree.specs.DeclarationTrees as decl
use Rattle.spl_reading.specs.ReadDeclarations as r
use Rattle.spl_listed.specs.Lists.{untyped_spec}

pub untyped : (ss : List decl.Spec) (k : Symbol) (ts : List Lexeme) → ((c : Kind) → k ≡ s.Type c → ⊥)
    → r.spec_by ss k ts ≡ untyped_spec ss ts
unfolding r.spec_by
untyped ss (s.Type c) ts h = absurd (h c refl)
untyped ss _ ts h = refl
