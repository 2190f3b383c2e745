-- The first of some values, and the tree of a declaration of data.
use Rattle.std.proofs.Common.{◌≡◌, ◌≤◌, Bool, List, [], ◌∷◌, map, length, get_or, sym, ap, ◌∙◌, arith}
use Rattle.std.specs.Global.{Vec}
use Rattle.spl_tree.specs.declared.expressions.Kind.{Kind}
use Rattle.spl_tree.specs.declared.expressions.Const.{Const}
use Rattle.spl_tree.specs.declared.declarations.Item.{Item}
use Rattle.spl_tree.specs.declared.declarations.Decl as decl
use Rattle.spl_tree.specs.declared.declarations.Decl.TheVariants.{rolls-Data}
use Rattle.spl_tree.specs.declared.declarations.Decl.TheFolds.{fold-roll-Decl}
use Rattle.spl_tree.specs.DeclarationTrees as tree
use Rattle.spl_tree.specs.Views.{constant}
use Rattle.spl_tree.specs.Spells.{BodyTree, item_tree, declaration, declaration_step, body_step}
use Rattle.spl_sorts.specs.spl_meaning.Names.{Names, constant_or_zero}
use Rattle.spl_sorts.specs.spl_meaning.Places.{Place}
use Rattle.spl_body_code.specs.Cells.{first_set}

-- of constants there is one, which is stored
pub first_is : (from : Place) (k : Kind) (names : Names) (cs : List Const) (c : Const) → 1 ≤ length cs → c ≡ get_or cs 0 c
    → first_set from k (constant_or_zero names (constant c) ∷ []) ≡ first_set from k (map (constant_or_zero names) (map constant cs))
first_is from k names [] c le is = absurd (omega arith)
first_is from k names (x ∷ cs) c le is = ap (λ (d : Const). first_set from k (constant_or_zero names (constant d) ∷ [])) is

-- the tree of a declaration of data
pub data_tree : (own : Bool) (k : Kind) (items : Vec Item) → declaration (decl.Data own k items) ≡ tree.Declaration.data_items own k (map item_tree items.items)
data_tree own k items = ap declaration (sym (rolls-Data own k items)) ∙ fold-roll-Decl tree.Declaration BodyTree declaration_step body_step _
