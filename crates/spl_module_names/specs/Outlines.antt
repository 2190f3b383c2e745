-- What modules are but for their words and offsets. Code may take either form of a branch, so the modules of units are not one list; but all such
-- lists have the same outlines.
use Rattle.std.specs.Prelude.{◌≡◌, ℕ, Bool, List, map, is_some}
use Rattle.spl_built.specs.spl_meaning.Tables.{Source}
use Rattle.spl_built.specs.spl_branch.declared.modules.Define.{Define}
use Rattle.spl_built.specs.spl_branch.declared.modules.Module.{Module}
use Rattle.spl_built.specs.spl_module_code.Modules.{AreModules}
use Rattle.spl_built.specs.mpe_segmenter.Names.{segment_of, Part, parts}
use Rattle.spl_built.specs.mpe_segmenter.Entries.{Wanted, wanted_of}
use Rattle.spl_built.specs.mpe_segmenter.Counts.{entries_in}

-- a define but for its offset: its name, and whether other modules may call it
pub record Defined : Type 0 where
  pub name : List ℕ
  pub callable : Bool

abbrev pub defined_of : Define → Defined
defined_of d = record { name = d.name.text.items; callable = d.callable }

-- a module but for its words: the name of its segment, what it defines and what it wants, each in order, and whether it has the main body
pub record Outline : Type 0 where
  pub segment : List ℕ
  pub defines : List Defined
  pub wants : List Wanted
  pub main : Bool

abbrev pub outline_of : Module → Outline
outline_of m = record {
  segment = segment_of m;
  defines = map defined_of m.defines.items;
  wants = map wanted_of m.wants.items;
  main = is_some m.main;
}

-- two lists of modules of the same units are as long, and one by one have the same outlines
abbrev pub ModulesHaveOneOutline : Type 0
ModulesHaveOneOutline = (us : List Source) (ms ns : List Module) → AreModules us ms → AreModules us ns → map outline_of ms ≡ map outline_of ns

-- a segment by its name and the number of its entries
abbrev pub counted : Part → List ℕ × ℕ
counted p = (p.name, entries_in p)

-- and so make the same segments in the same order, each with as many entries
abbrev pub SegmentsHaveOneCount : Type 0
SegmentsHaveOneCount = (us : List Source) (ms ns : List Module) → AreModules us ms → AreModules us ns → map counted (parts ms) ≡ map counted (parts ns)
