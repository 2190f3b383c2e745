use Rattle.std.proofs.Common.{◌≡◌, drop, map}
use Rattle.spl_tree.specs.DeclarationTrees.{declarations}
use Rattle.spl_tree.specs.Spells.{declaration}
use Rattle.spl_uses.specs.spl_found.FoundDeclarations.{found_subroutines}
use Rattle.spl_types.specs.Insides.{inside_of}
use Rattle.spl_types.proofs.insides.subroutines.Given as goal

-- what is found from here in the declarations that are left is what is found in all
abbrev pub invariant-loop-item : goal.invariant-loop-item
invariant-loop-item l =
    found_subroutines (inside_of l.inside) (declarations (map declaration (drop l.item-index l.items))) l.report
    ≡ found_subroutines (inside_of l.inside) (declarations (map declaration l.items)) l.initial.report
