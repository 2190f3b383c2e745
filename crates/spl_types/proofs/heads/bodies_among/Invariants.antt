use Rattle.std.proofs.Common.{◌≡◌, drop, map}
use Rattle.spl_tree.specs.DeclarationTrees.{declarations}
use Rattle.spl_tree.specs.Spells.{declaration}
use Rattle.spl_types.specs.HeadTables.{no_heads, heads_list, heads_of}
use Rattle.spl_types.proofs.heads.bodies_among.Given as goal

-- with the declarations that are left they are those of all
abbrev pub invariant-loop-item : goal.invariant-loop-item
invariant-loop-item l =
    heads_list (heads_of l.bodies) (declarations (map declaration (drop l.item-index l.items))) ≡ heads_list no_heads (declarations (map declaration l.items))
