-- Assignments: the value waits on top, and the store of its kind puts it in the variable.
use Rattle.spl_moved.proofs.spl_names_proofs.LedLemmas.{single_width}
use Rattle.spl_calls.proofs.spl_variables_proofs.OwnLemmas.{own_words_assigned}
use Rattle.spl_stores.specs.Laws.{AssignmentsPerform}

pub assignments : AssignmentsPerform
assignments z d k need number at t place a value single reached enough whole sim =
    own_words_assigned z d k need number at t place a value (single_width t single) reached enough whole sim
