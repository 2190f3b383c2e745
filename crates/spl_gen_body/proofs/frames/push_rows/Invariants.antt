-- The rows so far are appended.
use Rattle.std.proofs.Common.{replicate}
use Rattle.spl_body_code.specs.spl_code.Parts.{pieces}
use Rattle.spl_body_code.specs.spl_code.Appends.{Appends}
use Rattle.spl_body_code.specs.Frames.{ADDS}
use Rattle.spl_gen_body.proofs.frames.push_rows.Given as goal

abbrev pub invariant-loop : goal.invariant-loop
invariant-loop l = Appends (pieces (replicate l.counter (ADDS 255))) l.fn.code l.code
