-- Texts worked by hand.
use Rattle.std.proofs.Common.{◌≡◌, ℕ, List, [], ◌∷◌, Some, None, refl, pos, negsuc}
use Rattle.std.specs.Prelude.{codes}
use Rattle.std.specs.Fmt.{digits}
use Rattle.hp_word.specs.declared.endings.Ending.{Ending}
use Rattle.hp_word.specs.declared.endings.Ending.TheVariants.{Terminated, Quit, Trapped}
use Rattle.hp_word.specs.declared.endings.Trap.TheVariants.{BadEntry}
use Rattle.hp_word.specs.Texts.{octal_text_of}
use Rattle.hp_instr.specs.declared.labels.Label.TheVariants.{Local, External}
use Rattle.job_report.specs.declared.refusals.UnitRefusal.TheVariants.{Text, Rule}
use Rattle.spl_tree.specs.declared.fault_kinds.FaultKind.TheVariants.{OpenComment}
use Rattle.job_report.specs.declared.refusals.FileRefusal.TheVariants.{Label}
use Rattle.job_report.specs.Reports.{Reported, session_text, report_of, summary_of}
use Rattle.job_report.specs.Refusals.{job_refused, unit_refused, stack_refused, file_refused}
use Rattle.job_report.specs.Listings.{head_line, data_line, entry_line}

-- a session that printed this and ended so
abbrev session : List ℕ → Ending → Reported
session printed ending = record { name = codes "A"; printed = printed; ending = ending; steps = 40; fills = 7; spills = 0 }

-- nothing printed
nothing_printed : report_of (session [] (Quit (pos 5)) ∷ []) None ≡ codes "SESSION 1 A BYTES 0\nEND 1 QUIT 5\n"
unfolding report_of session_text digits
nothing_printed = refl

-- what ends in a line feed gets none, and what does not gets one that is not counted
lines_ended : report_of (session (codes "HELLO\n") Terminated ∷ session (codes "HELLO") Terminated ∷ []) None
    ≡ codes "SESSION 1 A BYTES 6\nHELLO\nEND 1 TERMINATED\nSESSION 2 A BYTES 5\nHELLO\nEND 2 TERMINATED\n"
unfolding report_of session_text digits
lines_ended = refl

-- with statistics
counted : report_of (session [] (Trapped BadEntry) ∷ []) (Some (40, 1))
    ≡ codes "SESSION 1 A BYTES 0\nEND 1 TRAP 8 ENTRY\nSTATS 1 STEPS 40 FILLS 7 SPILLS 0\nSTATS TURNS 40 LOADS 1\n"
unfolding report_of session_text digits
counted = refl

-- a number below zero has its sign
negative : report_of (session [] (Quit (negsuc 32767)) ∷ []) None ≡ codes "SESSION 1 A BYTES 0\nEND 1 QUIT -32768\n"
unfolding report_of session_text digits
negative = refl

-- refusals
job : job_refused 1 1 ≡ codes "REFUSED JOB LINE 1 RULE 1\n"
unfolding digits
job = refl

comment : unit_refused (codes "A") (record { unit = 1; line = 1; column = 7 }) (Text OpenComment) ≡ codes "REFUSED PROGRAM A UNIT 1 LINE 1 COLUMN 7 OPENCOMMENT\n"
unfolding digits
comment = refl

rule : unit_refused (codes "A") (record { unit = 1; line = 2; column = 1 }) (Rule 1) ≡ codes "REFUSED PROGRAM A UNIT 1 LINE 2 COLUMN 1 RULE 1\n"
unfolding digits
rule = refl

-- the first session is told as 1
stack : stack_refused 0 105 64 ≡ codes "REFUSED STACK SESSION 1 NEED 105 GIVEN 64\n"
unfolding digits
stack = refl

file : file_refused Label 18 ≡ codes "REFUSED FILE LABEL 18\n"
unfolding digits
file = refl

-- lines of a listing
head : head_line 1 0 1 0 ≡ codes "PROGRAM VERSION 1 SEGMENTS 1 MAIN 0 ENTRY 1 DATA 0\n"
unfolding digits
head = refl

-- an offset of ten is told in octal
data_word : data_line 10 65535 ≡ codes "DATA 000012 177777\n"
unfolding octal_text_of
data_word = refl

local : entry_line 1 (Local 8) ≡ codes "ENTRY 1 LOCAL 000010\n"
unfolding digits octal_text_of
local = refl

gate : entry_line 2 (External 255 7) ≡ codes "ENTRY 2 GATE TERMINATE\n"
unfolding digits
gate = refl

other : entry_line 10 (External 1 2) ≡ codes "ENTRY 10 SEGMENT 1 ENTRY 2\n"
unfolding digits
other = refl

-- a summary has no statistics
summed : summary_of 7 55322 (session (codes "1679\n") Terminated ∷ []) ≡ codes "GEN 7 BYTES 55322\nSESSION 1 A BYTES 5\n1679\nEND 1 TERMINATED\n"
unfolding summary_of session_text digits
summed = refl
