-- So many have been appended.
use Rattle.std.proofs.Common.{replicate}
use Rattle.spl_statement_code.specs.spl_code.Parts.{pieces}
use Rattle.spl_statement_code.specs.spl_code.Appends.{Appends}
use Rattle.spl_statement_code.specs.Instructions.{SUBS}
use Rattle.spl_stored.proofs.drops.drop_words.Given as goal

abbrev pub invariant-loop-i : goal.invariant-loop-i
invariant-loop-i l = Appends (pieces (replicate l.i (SUBS 255))) l.fn.code l.code
