-- What the checker answers.
use Rattle.std.specs.Prelude.{◌≡◌, List, Some}
use Rattle.spl_tree.specs.DeclarationTrees.{declarations}
use Rattle.spl_sound.specs.spl_meaning.Tables.{Source}
use Rattle.spl_sound.specs.spl_meaning.Sound.{first_broken}
use Rattle.spl_sound.specs.spl_meaning.Faults.{fault}
use Rattle.spl_types.specs.declared.check_faults.CheckFault.{CheckFault}
use Rattle.spl_types.specs.declared.check_faults.CheckFault.TheVariants as why
use Rattle.spl_types.specs.HeadTables.{Heads, no_heads, heads_list}

-- the procedures of a unit
abbrev pub unit_heads : Source → Heads
unit_heads u = heads_list no_heads (declarations u.tree.items)

-- the rule is the first that these units break, unless memory was wanting
abbrev pub Refuses : List Source → CheckFault → Type 0
Refuses us (why.Rule rule at) = first_broken us ≡ Some (fault rule at)
Refuses us why.NoMemory = Unit {0}
