-- The program that is built of units that break no rule and pass no limit, and the first fault of modules of which none is.
use Rattle.std.specs.Prelude.{ℕ, ◌≡◌, List, None, Some}
use Rattle.spl_formed_modules.specs.mpe_segmenter.hp_program.declared.program.Program.{Program}
use Rattle.spl_formed_modules.specs.mpe_segmenter.hp_program.Programs.{segments_of}
use Rattle.spl_formed_modules.specs.spl_module_code.spl_meaning.Tables.{Source}
use Rattle.spl_layout.specs.declared.layouts.Layout.{Layout}
use Rattle.spl_layout.specs.Layouts.{IsLayout}
use Rattle.spl_formed_modules.specs.spl_branch.declared.modules.Module.{Module}
use Rattle.spl_formed_modules.specs.spl_module_code.Modules.{AreModules}
use Rattle.spl_formed_modules.specs.mpe_segmenter.declared.faults.PrepFault.{PrepFault}
use Rattle.spl_formed_modules.specs.mpe_segmenter.Faults.{Fault, fault_of, first_fault}
use Rattle.spl_formed_modules.specs.mpe_segmenter.Names.{parts}
use Rattle.spl_formed_modules.specs.mpe_segmenter.Programs.{Makes}
use Rattle.spl_formed_modules.specs.mpe_segmenter.Sites.{Links}

-- Of modules without a fault this program is made, with these data words, and each of its entries leads to what it names.
pub record IsLinked (modules : List Module) (globals : List ℕ) (p : Program) : Type 0 where
  pub faultless : first_fault modules ≡ None
  pub makes : Makes modules globals p
  pub links : Links (parts modules) (segments_of p)

-- The program is built of these units: it is what their modules make, with the data words of their layout. Code may take either form of a
-- branch, so the modules of units are not one list, and this holds of more than one program.
pub record IsBuilt (us : List Source) (p : Program) : Type 0 where
  pub layout : Layout
  pub is_layout : IsLayout us layout
  pub modules : List Module
  pub are_modules : AreModules us modules
  pub linked : IsLinked modules layout.globals.items p

-- the first fault of modules is this one, which is no want of memory
pub record FailsFirst (modules : List Module) (f : PrepFault) : Type 0 where
  pub fault : Fault
  pub told : fault_of f ≡ Some fault
  pub first : first_fault modules ≡ Some fault

-- the units have modules whose first fault is this one
pub record IsUnlinked (us : List Source) (f : PrepFault) : Type 0 where
  pub modules : List Module
  pub are_modules : AreModules us modules
  pub fails : FailsFirst modules f
