-- Every value and data word of a run is a word.
use Rattle.std.proofs.Common.{ℕ, zero, suc, ◌≡◌, ◌<◌, Bool, true, false, ◌+◌, List, Option, Some, None, arith}
use Rattle.std.specs.Prelude.{if◌then◌else◌, nat_lt}
use Rattle.spl_meaning.specs.hp_word.declared.endings.Trap.TheVariants.{StackOverflow}
use Rattle.spl_meaning.specs.Places.{put_cells}
use Rattle.spl_meaning.specs.Bodies.{Body, Named, Program, program_of}
use Rattle.spl_meaning.specs.Statements.{run, run_all, run_body}
use Rattle.spl_meaning.specs.Values.{value, arguments}
use Rattle.spl_meaning.specs.States.{Data, State, terminated, trapped, to_label, back, Outcome, done, leaves, spent, ends, strays, then_go, step_of, stepping}
use Rattle.spl_meaning.specs.Runs.{Seat, LinesAreBytes, zeros, global_address, opening, returned, calls, run_main, run_program}
use Rattle.spl_frames.specs.Words.{AllOf, IsOfWords, OfWords, GivesWords}
use Rattle.spl_frames.specs.Laws.{WordsStayWords}
use Rattle.spl_frames.proofs.Steady.{MemOf, Known, Any, GivesIn}
use Rattle.spl_frames.proofs.FrameValues.{steady_value, steady_arguments}
use Rattle.spl_frames.proofs.FrameStatements.{steady_run, steady_run_all, steady_body}
use Rattle.spl_frames.proofs.FrameRuns.{cells_known, initials_known, zeros_known, steady_calls}
use Rattle.spl_frames.proofs.WordFacts.{IsWord, sixteen_bits}

-- what is said and what is known are the same
known_of : (d : Data) → IsOfWords d → Known sixteen_bits d
known_of d h = record { mem = h.stack; extra = h.extra; lines = h.lines }

words_of : (d : Data) → Known sixteen_bits d → IsOfWords d
words_of d h = record { stack = h.mem; extra = h.extra; lines = h.lines }

of_words : {A : Type 0} (P : A → Type 0) (o : Outcome A) → GivesIn sixteen_bits P o → OfWords o
of_words P (done a s) g = words_of s.now g.1
of_words P (leaves x s) g = words_of s.now g
of_words P (spent s) g = words_of s.now g
of_words P (ends e s) g = words_of s.now g
of_words P (strays s) g = words_of s.now g

gives_words : (o : Outcome (List ℕ)) → GivesIn sixteen_bits (AllOf IsWord) o → GivesWords o
gives_words (done ws s) g = (g.0, words_of s.now g.1)
gives_words (leaves x s) g = words_of s.now g
gives_words (spent s) g = words_of s.now g
gives_words (ends e s) g = words_of s.now g
gives_words (strays s) g = words_of s.now g

-- ---- the main body

of_returned : (o : Outcome (Unit {0})) → OfWords o → OfWords (returned o)
of_returned (done a s) h = h
of_returned (leaves back s) h = h
of_returned (leaves (to_label x) s) h = h
of_returned (spent s) h = h
of_returned (ends e s) h = h
of_returned (strays s) h = h

of_end : (n : ℕ) (s : State) → IsOfWords s.now → OfWords {A = Unit {0}} (step_of n s (λ s3. ends terminated s3))
of_end zero s h = h
of_end (suc n) s h = h

of_rest : (o : Outcome (Unit {0})) → OfWords o → OfWords {A = Unit {0}} (then_go o (λ _ s2. stepping s2 (λ s3. ends terminated s3)))
of_rest (done a s) h = of_end s.left s h
of_rest (leaves x s) h = h
of_rest (spent s) h = h
of_rest (ends e s) h = h
of_rest (strays s) h = h

of_if : (t : Bool) (o p : Outcome (Unit {0})) → OfWords o → OfWords p → OfWords (if t then o else p)
of_if true o p g h = g
of_if false o p g h = h

of_main : (procedures : List Named) (d : ℕ) (b : Body) (s : State) → IsOfWords s.now → OfWords (run_main procedures d b s)
of_main procedures d b s h = by s.left
  where
    after : (n : ℕ)
        → OfWords {A = Unit {0}} (then_go (returned (run_body b.here (calls procedures d b) d b.number b.statements (record s { left = n })))
        (λ _ s2. stepping s2 (λ s3. ends terminated s3)))
    after n =
        let o = run_body b.here (calls procedures d b) d b.number b.statements (record s { left = n }) in
        of_rest (returned o) (of_returned o (of_words Any o
        ((steady_body sixteen_bits d b.number b.here (calls procedures d b) (steady_calls sixteen_bits procedures d b) b.statements).is
        (record s { left = n }) (known_of s.now h)).1))

    by : (n : ℕ)
        → OfWords {A = Unit {0}} (step_of n s (λ s1. if nat_lt s1.now.stack (s1.now.top + b.depth') then ends (trapped StackOverflow) s1
        else then_go (returned (run_body b.here (calls procedures d b) d b.number b.statements s1)) (λ _ s2. stepping s2 (λ s3. ends terminated s3))))
    by zero = h
    by (suc n) = of_if (nat_lt s.now.stack (s.now.top + b.depth')) (ends (trapped StackOverflow) (record s { left = n })) _ h (after n)

-- ---- the opening

zeros_of : (n : ℕ) → MemOf IsWord (zeros n)
zeros_of n a u e = by (nat_lt a n) e
  where
    by : (t : Bool) → (if t then Some 0 else None) ≡ Some u → u < 65536
    by true e = let q : 0 ≡ u = cc in omega (arith, q)
    by false e = cc

of_opening : (p : Program) (seat : Seat) (n : ℕ) → LinesAreBytes seat.lines → IsOfWords (opening p seat n).now
of_opening p seat n l = record {
  stack = initials_known sixteen_bits global_address p.initials (put_cells global_address p.cells (zeros p.words))
      (cells_known sixteen_bits global_address p.cells (zeros p.words) (zeros_of p.words));
  extra = zeros_known sixteen_bits seat.extra;
  lines = l;
}

of_program : (p : Program) (o : Option Body) (d : ℕ) (s : State) → IsOfWords s.now → OfWords (run_program p o d s)
of_program p (Some b) d s h = of_main p.procedures d b s h
of_program p None d s h = h

pub words_stay : WordsStayWords
words_stay = record {
  values = λ procedures d b e k s h. gives_words (value b.here (calls procedures d b) e k s)
      ((steady_value sixteen_bits b.here (calls procedures d b) (steady_calls sixteen_bits procedures d b) e k).is s (known_of s.now h)).1;
  argument_lists = λ procedures d b fs es k s h. gives_words (arguments b.here (calls procedures d b) fs es k s)
      ((steady_arguments sixteen_bits b.here (calls procedures d b) (steady_calls sixteen_bits procedures d b) fs es k).is s (known_of s.now h)).1;
  callees = λ procedures d b who ws k s p h. gives_words (calls procedures d b who ws k s)
      ((steady_calls sixteen_bits procedures d b who ws k p).is s (known_of s.now h)).1;
  statements = λ procedures d i b st k s h. of_words Any (run b.here (calls procedures d b) d i st k s)
      ((steady_run sixteen_bits d i b.here (calls procedures d b) (steady_calls sixteen_bits procedures d b) st k).is s (known_of s.now h)).1;
  bodies = λ procedures d i b ss s h. of_words Any (run_body b.here (calls procedures d b) d i ss s)
      ((steady_body sixteen_bits d i b.here (calls procedures d b) (steady_calls sixteen_bits procedures d b) ss).is s (known_of s.now h)).1;
  lists = λ procedures d i b ss k s h. of_words Any (run_all b.here (calls procedures d b) d i ss k s)
      ((steady_run_all sixteen_bits d i b.here (calls procedures d b) (steady_calls sixteen_bits procedures d b) ss k).is s (known_of s.now h)).1;
  openings = of_opening;
  runs = λ us seat n l. of_program (program_of us) (program_of us).main n (opening (program_of us) seat n) (of_opening (program_of us) seat n l);
}
