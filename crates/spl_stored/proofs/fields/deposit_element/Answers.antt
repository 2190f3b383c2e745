-- The cell is brought below the word, the index is loaded, the field is put in, and both are deleted.
use Rattle.spl_statement_code.proofs.spl_code_proofs.AppendLaws.{more_pieces}
use Rattle.spl_operations.proofs.PutLemmas.{ok_then, pieces_then}
use Rattle.spl_stored.proofs.fields.deposit_element.Goals as goal

pub returns-in_ok-deposit : goal.returns-in_ok-deposit
returns-in_ok-deposit c =
    rw c.if-moved.true
    (ok_then c.operate.result
    (λ last. pieces_then c.in_ok-bring_under.ensures (more_pieces c.in_ok-index_below.ensures (pieces_then c.in_ok-deposit.ensures last)))
    c.operate.ensures)
