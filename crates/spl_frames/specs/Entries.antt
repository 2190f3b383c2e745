-- The frames that calls make, and the data with which bodies begin.
use Rattle.std.specs.Prelude.{ℕ, zero, suc, ◌+◌, ◌-◌, List, Option}
use Rattle.spl_meaning.specs.Places.{put}
use Rattle.spl_meaning.specs.Pending.{marker_words, return_words}
use Rattle.spl_meaning.specs.Bodies.{Body, Program}
use Rattle.spl_meaning.specs.States.{Data}
use Rattle.spl_meaning.specs.Runs.{link_of, locals_of, procedure_framed, cells_set, subroutine_framed}
use Rattle.spl_frames.specs.Frames.{Frame}

-- so many words of zero, put one behind the other
abbrev pub zeros_put : ℕ → ℕ → (ℕ → Option ℕ) → ℕ → Option ℕ
zeros_put zero a mem = mem
zeros_put (suc n) a mem = zeros_put n (suc a) (put a 0 mem)

-- the frame of a procedure: a marker of four words, and local words
abbrev pub procedure_frame : ℕ → ℕ → Body → Frame
procedure_frame top k b = record {
  first = top + k;
  link = link_of top k b;
  locals = locals_of top k b;
  top = locals_of top k b + b.words;
  base = locals_of top k b - 1;
  inner = 0;
  depth' = b.depth';
}

-- the frame of a subroutine: a return word, no local words, and the base of the procedure around it
abbrev pub subroutine_frame : ℕ → ℕ → ℕ → Body → Frame
subroutine_frame base top k b = record {
  first = top + k;
  link = link_of top k b;
  locals = link_of top k b + return_words;
  top = link_of top k b + return_words;
  base = base;
  inner = link_of top k b;
  depth' = b.depth';
}

-- the main body's: its marker stands behind the program's data words
abbrev pub main_frame : Program → Body → Frame
main_frame p b = record {
  first = p.words;
  link = p.words;
  locals = p.words + marker_words;
  top = p.words + marker_words;
  base = p.words + marker_words - 1;
  inner = 0;
  depth' = b.depth';
}

-- a frame whose local words are zero, before its cells and initial values
abbrev pub data_zeroed : Data → ℕ → Body → List ℕ → Data
data_zeroed now k b ws =
    let d = procedure_framed k b ws now in
    record d { mem = zeros_put b.words (locals_of now.top k b) d.mem }

-- the data with which a procedure's body begins, called with these words of parameters behind k words that wait
abbrev pub procedure_entered : Data → ℕ → Body → List ℕ → Data
procedure_entered now k b ws = cells_set b (data_zeroed now k b ws)

-- the data with which a subroutine's body begins
abbrev pub subroutine_entered : Data → ℕ → Body → List ℕ → Data
subroutine_entered now k b ws = subroutine_framed k b ws now
