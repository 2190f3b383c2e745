use Rattle.std.proofs.Common.{◌≡◌, [], ◌++◌, drop}
use Rattle.mpe_segmenter.specs.Faults.{callables, first_repeat}
use Rattle.mpe_segmenter.proofs.defined.collect_names.Given as goal

-- the names so far and those of the modules left are all, and repeat where all do
abbrev pub invariant-loop-module : goal.invariant-loop-module
invariant-loop-module l = record {
  repeats : first_repeat l.names (callables (drop l.module-index l.modules)) ≡ first_repeat [] (callables l.modules);
  names : l.names ++ callables (drop l.module-index l.modules) ≡ callables l.modules;
}
