-- What each part of the way answers.
use Rattle.std.specs.Prelude.{◌≡◌, ◌≤◌, List, None, Some, length}
use Rattle.spl_sound.specs.spl_meaning.Tables.{Source}
use Rattle.spl_sound.specs.spl_meaning.Limits.{first_full}
use Rattle.spl_gen_proc.specs.spl_layout.declared.layouts.Layout.{Layout}
use Rattle.spl_gen_proc.specs.spl_layout.Layouts.{IsLayout}
use Rattle.spl_branch.specs.declared.modules.Module.{Module}
use Rattle.spl_build.specs.declared.building.BuildFault.{BuildFault}
use Rattle.spl_build.specs.declared.building.BuildFault.TheVariants as why
use Rattle.spl_built.specs.Built.{FailsFirst}

-- this is the layout of units that pass no limit, and its data words are no more than a program's may be
pub record IsLaid (us : List Source) (l : Layout) : Type 0 where
  pub layout : IsLayout us l
  pub within : first_full us ≡ None
  pub few : length l.globals.items ≤ 32000

-- a limit that is passed is told; want of memory says nothing
abbrev pub IsPassed : List Source → BuildFault → Type 0
IsPassed us (why.Limit limit at count) = first_full us ≡ Some (record { limit = limit; at = at; count = count })
IsPassed us (why.Modules f) = ⊥
IsPassed us why.NoMemory = Unit {0}

-- the first fault of modules is told; want of memory says nothing
abbrev pub Fails : List Module → BuildFault → Type 0
Fails ms (why.Limit limit at count) = ⊥
Fails ms (why.Modules f) = FailsFirst ms f
Fails ms why.NoMemory = Unit {0}
