use Rattle.std.proofs.Common.{◌≡◌, ◌∙◌, ap, rules, [], ◌∷◌}
use Rattle.spl_tree.specs.Operators as operators
use Rattle.spl_tree.specs.Trees as tree
use Rattle.spl_tree.specs.Views.{letters, expression}
use Rattle.spl_reading.specs.ReadExpressions.{plain}
use Rattle.spl_parts.specs.Parts.{operand}
use Rattle.spl_parts.proofs.ViewLemmas.{element_tree}
use Rattle.spl_parts.proofs.parts.element_address.Goals as goal

-- the box holds the index
pub returns : goal.returns
unfolding operand
returns c = let v : c.in_ok-index.index.value ≡ c.args.index = search rules in ap (λ t. plain operators.other t)
    (element_tree c.args.name c.in_ok-index.index c.args.at
    ∙ ap (λ x. tree.Tree.address (letters c.args.name) (tree.trees (expression x ∷ [])) c.args.at) v)
