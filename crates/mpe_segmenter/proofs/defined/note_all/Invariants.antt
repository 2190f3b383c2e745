use Rattle.std.proofs.Common.{◌≡◌, ℕ, List, ◌++◌, drop}
use Rattle.mpe_segmenter.specs.Faults.{define_names, first_repeat}
use Rattle.mpe_segmenter.proofs.defined.note_all.Given as goal

-- the names so far and those of the defines left are all, and repeat where all do
abbrev pub invariant-loop-define : goal.invariant-loop-define
invariant-loop-define l = record {
  repeats : (rest : List (List ℕ)) → first_repeat l.names (define_names (drop l.define-index l.defines) ++ rest) ≡ first_repeat l.fn.names (define_names l.defines ++ rest);
  names : l.names ++ define_names (drop l.define-index l.defines) ≡ l.fn.names ++ define_names l.defines;
}
