-- A job to be prepared has one program and no session: its end says so, and nothing is said behind that.
use Rattle.std.proofs.Common.{◌≡◌, ℕ, ◌+◌, ◌&&◌, Bool, true, false, List, [], ◌∷◌, length, None, refl, sym, ap, subst, ◌∙◌, arith}
use Rattle.std.specs.Prelude.{Result, Ok, Err, if◌then◌else◌, ◌==◌}
use Rattle.std.proofs.lemmas.Bool.Decides.{nat_tests}
use Rattle.job_lines.specs.declared.place.Place.{Place}
use Rattle.job_lines.specs.declared.place.Place.TheVariants as place
use Rattle.job_lines.specs.Lines.{lines, is_blank_line}
use Rattle.job_lines.specs.Commands.{Command}
use Rattle.job_lines.specs.Commands as cmd
use Rattle.job_lines.specs.Says as say
use Rattle.job_lines.specs.Says.{Said, said_at, end_of_text}
use Rattle.job_text.specs.States.{State, SeatValue, start, after, after_command}
use Rattle.job_text.specs.Rules.{broken, is_ended, is_empty, fits_its_use}
use Rattle.job_text.specs.Jobs.{JobValue, job_of}
use Rattle.job_text.specs.Laws.{PreparedJobsAreSingle}
use Rattle.job_text.specs.Verdicts.{Fault, verdict_from, with_job, verdict}
use Rattle.job_text.proofs.FitLemmas.{and_first, and_second, job_read, going}
use Rattle.job_text.proofs.RuleLemmas.{use_kept, close_kept}

-- one program, and no session
abbrev IsSingle : State → Type 0
IsSingle s = (length s.programs ≡ 1) × (s.sessions ≡ [])

-- behind the end there is so much
abbrev Ends : State → Type 0
Ends s = is_ended s.place ≡ true → IsSingle s

none_left : (xs : List SeatValue) → is_empty xs ≡ true → xs ≡ []
none_left [] e = refl
none_left (x ∷ xs) e = cc

counted : (n : ℕ) → (n == 1) ≡ true → n ≡ 1
counted n e = grind (arith, nat_tests, e)

single : (s : State) → ((length s.programs == 1) && is_empty s.sessions) ≡ true → IsSingle s
single s e = (
  counted (length s.programs) (and_first (length s.programs == 1) (is_empty s.sessions) e),
  none_left s.sessions (and_second (length s.programs == 1) (is_empty s.sessions) e),
)

-- behind a command that may stand there
after_word : (c : Command) (s : State) → is_ended s.place ≡ false → fits_its_use true s (say.command c) ≡ true → Ends (after_command c s)
after_word cmd.job s o u e = cc
after_word (cmd.setting k n) s o u e = let d = sym o ∙ e in cc
after_word cmd.statistics s o u e = let d = sym o ∙ e in cc
after_word (cmd.program name) s o u e = cc
after_word cmd.unit s o u e = cc
after_word (cmd.session name sizes) s o u e = cc
after_word cmd.end_of_job s o u e = single s u

-- behind a line before the end
after_open : (x : Said) (s : State) → is_ended s.place ≡ false → fits_its_use true s x ≡ true → Ends (after x s)
unfolding after
after_open say.nothing s o u e = let d = sym o ∙ e in cc
after_open say.stray s o u e = let d = sym o ∙ e in cc
after_open say.late s o u e = let d = sym o ∙ e in cc
after_open (say.unit_line line) s o u e = let d = sym o ∙ e in cc
after_open (say.terminal_line line) s o u e = let d = sym o ∙ e in cc
after_open (say.command c) s o u e = after_word c s o u e
after_open say.wrong s o u e = let d = sym o ∙ e in cc
after_open say.end_of_text s o u e = let d = sym o ∙ e in cc

-- behind a line after the end
behind_end : (t : Bool) (s : State) → Ends s → Ends (after (if t then say.nothing else say.late) s)
unfolding after
behind_end true s k = k
behind_end false s k = k

after_end : (line : List ℕ) (s : State) → Ends s → Ends (after (said_at place.Ended line) s)
unfolding said_at
after_end line s k = behind_end (is_blank_line line) s k

ends_said : (line : List ℕ) (s : State) (p : Place) → s.place ≡ p → broken true s (said_at s.place line) ≡ None → Ends s → Ends (after (said_at s.place line) s)
ends_said line s place.Ended i b k = subst (λ (p : Place). Ends (after (said_at p line) s)) (sym i) (after_end line s k)
ends_said line s place.Start i b k = after_open (said_at s.place line) s (ap is_ended i) (use_kept true s (said_at s.place line) b)
ends_said line s place.Outside i b k = after_open (said_at s.place line) s (ap is_ended i) (use_kept true s (said_at s.place line) b)
ends_said line s place.InUnit i b k = after_open (said_at s.place line) s (ap is_ended i) (use_kept true s (said_at s.place line) b)
ends_said line s place.InSession i b k = after_open (said_at s.place line) s (ap is_ended i) (use_kept true s (said_at s.place line) b)

ends_read : (ls : List (List ℕ)) (n : ℕ) (s t : State) → Ends s → verdict_from true n ls s ≡ Ok t → IsSingle t
unfolding verdict_from
ends_read [] n s t k e =
    let g = going n (broken true s end_of_text) (Ok s) t e in
    let same : s ≡ t = cc (g.1) in
    subst IsSingle same (k (close_kept true s end_of_text g.0))
ends_read (l ∷ ls) n s t k e =
    let g = going n (broken true s (said_at s.place l)) (verdict_from true (n + 1) ls (after (said_at s.place l) s)) t e in
    ends_read ls (n + 1) (after (said_at s.place l) s) t (ends_said l s s.place refl g.0 k) g.1

started : Ends start
started e = cc

single_by : (bytes : List ℕ) (r : Result State Fault) (job : JobValue) → verdict_from true 1 (lines bytes) start ≡ r → with_job r ≡ Ok job
    → (length job.programs ≡ 1) × (job.sessions ≡ [])
single_by bytes (Ok t) job e h =
    let same : job_of t ≡ job = cc in
    subst (λ (j : JobValue). (length j.programs ≡ 1) × (j.sessions ≡ [])) same (ends_read (lines bytes) 1 start t started e)
single_by bytes (Err f) job e h = cc

pub prepared_jobs_are_single : PreparedJobsAreSingle
unfolding verdict
prepared_jobs_are_single bytes job is =
    single_by bytes (verdict_from true 1 (lines bytes) start) job refl (job_read bytes true job is (verdict true bytes) refl)
