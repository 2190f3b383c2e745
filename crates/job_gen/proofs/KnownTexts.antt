-- Draws and lines worked by hand.
use Rattle.std.proofs.Common.{◌≡◌, [], ◌∷◌, length, refl}
use Rattle.std.specs.Prelude.{codes}
use Rattle.std.specs.Fmt.{digits}
use Rattle.job_gen.specs.Draws.{next, drawn}
use Rattle.job_gen.specs.Pieces.{filled, behind, text_of}
use Rattle.job_gen.specs.Generated.{first_procedure, later_procedure, procedure_lines, procedures, unit_lines, calls, segment, programs, sessions, job_lines}

-- 25173 times 0, and 13849
next_0 : next 0 ≡ 13849
unfolding next
next_0 = refl

-- 190060 less twice 65536
next_7 : next 7 ≡ 58988
unfolding next
next_7 = refl

-- the last number of sixteen bits counts as one below 0: 13849 less 25173, and 65536
next_65535 : next 65535 ≡ 54212
unfolding next
next_65535 = refl

drawn_7 : drawn 7 ≡ 988
unfolding next
drawn_7 = refl

-- the second draw goes on behind 58988, not behind 988
first_7 : filled 7 first_procedure ≡ codes "LOGICAL PROCEDURE P0(V); VALUE V; LOGICAL V; BEGIN P0:=V*988+85; END;"
unfolding next digits
first_7 = refl

behind_7 : behind 7 first_procedure ≡ 4085
unfolding next
behind_7 = refl

-- three draws from left to right
later_7 : filled 4085 (later_procedure 1) ≡ codes "LOGICAL PROCEDURE P1(V); VALUE V; LOGICAL V; BEGIN P1:=P0(V+570)*347+160; END;"
unfolding next digits
later_7 = refl

-- a small draw is told without zeros in front
small_draw : filled 0 calls ≡ codes "S:=849; FOR I:=1 UNTIL 20 DO S:=P79(S);"
unfolding next digits
small_draw = refl

-- procedure 10 begins the second segment, and procedure 11 none
tenth : procedure_lines 10 ≡ segment 1 ∷ later_procedure 10 ∷ []
tenth = refl

eleventh : procedure_lines 11 ≡ later_procedure 11 ∷ []
eleventh = refl

second_segment : filled 5 (segment 1) ≡ codes "$CONTROL SEGMENT=S1"
unfolding digits
second_segment = refl

-- a unit has two lines, eighty procedures, eight lines of segments, and three of its main body
unit_length : length unit_lines ≡ 93
unfolding procedures unit_lines
unit_length = refl

-- two sessions of a program
two_sessions : text_of 3 (sessions 1) ≡ codes "!SESSION G1\n!SESSION G1\n"
unfolding digits sessions
two_sessions = refl

-- a job has four lines, eight programs of ninety-five, sixteen sessions, and its end
job_length : length job_lines ≡ 781
unfolding procedures unit_lines programs sessions job_lines
job_length = refl
