-- A name that is there already is the first repeated one, whatever follows.
use Rattle.std.proofs.Common.{◌∙◌, ◌+◌, ◌++◌, ℕ, List, sym, ap, drop}
use Rattle.mpe_segmenter.specs.Faults.{define_names, first_repeat}
use Rattle.mpe_segmenter.proofs.DefinedLemmas.{names_front}
use Rattle.mpe_segmenter.proofs.defined.note_all.Goals as goal

pub returns-in-Some : goal.returns-in-Some
returns-in-Some c = λ rest.
    let found = rw c.in-Some.is at c.in_ok-name.ensures in
    sym (c.loop-define.invariant.repeats rest)
    ∙ ap (λ (ns : List (List ℕ)). first_repeat c.loop-define.names ns) (names_front c.args.defines.now c.loop-define.define-index c.define-item.result rest c.loop-define-test.true c.define-item.is)
    ∙ found (define_names (drop (c.loop-define.define-index + 1) c.args.defines.now) ++ rest)
