-- The lines that sessions are to be typed have bytes of the text alone.
use Rattle.std.proofs.Common.{◌≡◌, ℕ, zero, suc, ◌+◌, ◌-◌, ◌&&◌, Bool, true, false, List, [], ◌∷◌, ◌++◌, length, take, drop, map, Option, None, Some, cond, refl, subst}
use Rattle.std.specs.Prelude.{Result, Ok, Err, ◌==◌, slice_index, if◌then◌else◌}
use Rattle.std.specs.List.{list_all, slice_split, onto_first}
use Rattle.std.specs.Char.{to_ascii_uppercase}
use Rattle.std.proofs.lemmas.Bool.{and_parts, and_from}
use Rattle.job_lines.specs.declared.place.Place.{Place}
use Rattle.job_lines.specs.declared.place.Place.TheVariants as place
use Rattle.job_lines.specs.Lines.{lines, lines_of_parts, without_return, words, is_blank_line}
use Rattle.job_lines.specs.Commands.{Command}
use Rattle.job_lines.specs.Commands as cmd
use Rattle.job_lines.specs.Says as say
use Rattle.job_lines.specs.Says.{Said, said_at, command_said, said_by_words, is_command, end_of_text}
use Rattle.job_text.specs.States.{SeatValue, State, start, after, after_command, with_terminal_line}
use Rattle.job_text.specs.Rules.{broken}
use Rattle.job_text.specs.Jobs.{JobValue, job_of}
use Rattle.job_text.specs.Fits.{Each}
use Rattle.job_text.specs.Laws.{LinesAreOfTexts}
use Rattle.job_text.specs.Verdicts.{Fault, verdict_from, with_job, verdict}
use Rattle.job_text.proofs.FitLemmas.{each_append, last_all, going, job_read}

-- ---- lists of bytes

taken : (holds : ℕ → Bool) (n : ℕ) (bs : List ℕ) → list_all holds bs ≡ true → list_all holds (take n bs) ≡ true
taken holds zero bs h = refl
taken holds (suc n) [] h = refl
taken holds (suc n) (b ∷ bs) h =
    let two = and_parts (holds b) (list_all holds bs) h in and_from (holds b) (list_all holds (take n bs)) two.0 (taken holds n bs two.1)

dropped : (holds : ℕ → Bool) (n : ℕ) (bs : List ℕ) → list_all holds bs ≡ true → list_all holds (drop n bs) ≡ true
dropped holds zero bs h = h
dropped holds (suc n) [] h = refl
dropped holds (suc n) (b ∷ bs) h = dropped holds n bs (and_parts (holds b) (list_all holds bs) h).1

-- all lists hold
abbrev all_hold : (ℕ → Bool) → List (List ℕ) → Bool
all_hold holds ls = list_all (λ l. list_all holds l) ls

-- ---- the lines of a text

onto_hold : (holds : ℕ → Bool) (b : ℕ) (parts : List (List ℕ)) → holds b ≡ true → all_hold holds parts ≡ true → all_hold holds (onto_first b parts) ≡ true
onto_hold holds b [] h k = and_from (holds b && true) true (and_from (holds b) true h refl) refl
onto_hold holds b (p ∷ ps) h k =
    let two = and_parts (list_all holds p) (all_hold holds ps) k in
    and_from (holds b && list_all holds p) (all_hold holds ps) (and_from (holds b) (list_all holds p) h two.0) two.1

parts_hold : (holds : ℕ → Bool) (text : List ℕ) → list_all holds text ≡ true → all_hold holds (slice_split (λ b. b == 10) text) ≡ true
parts_hold holds [] h = refl
parts_hold holds (b ∷ bs) h =
    let two = and_parts (holds b) (list_all holds bs) h in by (b == 10) (slice_split (λ b. b == 10) bs) two.0 (parts_hold holds bs two.1) where
      by : (t : Bool) (ps : List (List ℕ)) → holds b ≡ true → all_hold holds ps ≡ true → all_hold holds (cond t ([] ∷ ps) (onto_first b ps)) ≡ true
      by true ps one k = k
      by false ps one k = onto_hold holds b ps one k

return_holds : (holds : ℕ → Bool) (l : List ℕ) → list_all holds l ≡ true → list_all holds (without_return l) ≡ true
return_holds holds l h = by (slice_index l (length l - 1) == 13) where
  by : (t : Bool) → list_all holds (if t then take (length l - 1) l else l) ≡ true
  by true = taken holds (length l - 1) l h
  by false = h

lines_of_hold : (holds : ℕ → Bool) (parts : List (List ℕ)) → all_hold holds parts ≡ true → all_hold holds (lines_of_parts parts) ≡ true
lines_of_hold holds [] k = refl
lines_of_hold holds ([] ∷ []) k = refl
lines_of_hold holds ((b ∷ bs) ∷ []) k = k
lines_of_hold holds (p ∷ q ∷ ps) k =
    let two = and_parts (list_all holds p) (all_hold holds (q ∷ ps)) k in
    and_from (list_all holds (without_return p)) (all_hold holds (lines_of_parts (q ∷ ps))) (return_holds holds p two.0) (lines_of_hold holds (q ∷ ps) two.1)

lines_hold : (holds : ℕ → Bool) (text : List ℕ) → list_all holds text ≡ true → all_hold holds (lines text) ≡ true
unfolding lines
lines_hold holds text h = lines_of_hold holds (slice_split (λ b. b == 10) text) (parts_hold holds text h)

-- ---- what one line says

-- a line that is to be typed holds
abbrev Types : (ℕ → Bool) → Said → Type 0
Types holds (say.terminal_line line) = list_all holds line ≡ true
Types holds x = Unit {0}

words_type : (holds : ℕ → Bool) (o : Option Command) → Types holds (said_by_words o)
words_type holds None = tt
words_type holds (Some c) = tt

command_types : (holds : ℕ → Bool) (line : List ℕ) → Types holds (command_said line)
unfolding command_said
command_types holds line = words_type holds (cmd.command_of (words (map to_ascii_uppercase line)))

outside_types : (holds : ℕ → Bool) (line : List ℕ) (t u : Bool) → Types holds (if t then command_said line else if u then say.nothing else say.stray)
outside_types holds line true u = command_types holds line
outside_types holds line false true = tt
outside_types holds line false false = tt

said_types : (holds : ℕ → Bool) (p : Place) (line : List ℕ) → list_all holds line ≡ true → Types holds (said_at p line)
unfolding said_at
said_types holds place.Ended line h = by (is_blank_line line) where
  by : (t : Bool) → Types holds (if t then say.nothing else say.late)
  by true = tt
  by false = tt
said_types holds place.InSession line h = by (is_command line) (is_command (drop 1 line)) where
  by : (t u : Bool) → Types holds (if t then (if u then say.terminal_line (drop 1 line) else command_said line) else say.terminal_line line)
  by true true = dropped holds 1 line h
  by true false = command_types holds line
  by false u = h
said_types holds place.InUnit line h = by (is_command line) where
  by : (t : Bool) → Types holds (if t then command_said line else say.unit_line line)
  by true = command_types holds line
  by false = tt
said_types holds place.Outside line h = outside_types holds line (is_command line) (is_blank_line line)
said_types holds place.Start line h = outside_types holds line (is_command line) (is_blank_line line)

-- ---- what all say

-- what a session is to be typed holds
abbrev Typed : (ℕ → Bool) → SeatValue → Type 0
Typed holds x = all_hold holds x.lines ≡ true

one_more : (holds : ℕ → Bool) (ls : List (List ℕ)) (line : List ℕ) → all_hold holds ls ≡ true → list_all holds line ≡ true → all_hold holds (ls ++ line ∷ []) ≡ true
one_more holds [] line k h = and_from (list_all holds line) true h refl
one_more holds (l ∷ ls) line k h =
    let two = and_parts (list_all holds l) (all_hold holds ls) k in
    and_from (list_all holds l) (all_hold holds (ls ++ line ∷ [])) two.0 (one_more holds ls line two.1 h)

word_typed : (holds : ℕ → Bool) (c : Command) (s : State) → Each (Typed holds) s.sessions → Each (Typed holds) (after_command c s).sessions
word_typed holds cmd.job s k = k
word_typed holds (cmd.setting j m) s k = k
word_typed holds cmd.statistics s k = k
word_typed holds (cmd.program name) s k = k
word_typed holds cmd.unit s k = k
word_typed holds (cmd.session name sizes) s k = each_append (Typed holds) s.sessions _ k (refl, tt)
word_typed holds cmd.end_of_job s k = k

said_typed : (holds : ℕ → Bool) (x : Said) (s : State) → Types holds x → Each (Typed holds) s.sessions → Each (Typed holds) (after x s).sessions
unfolding after
said_typed holds say.nothing s h k = k
said_typed holds say.stray s h k = k
said_typed holds say.late s h k = k
said_typed holds (say.unit_line line) s h k = k
said_typed holds (say.terminal_line line) s h k =
    last_all (Typed holds) (Typed holds) (with_terminal_line line) s.sessions (λ x f. f) (λ x f. one_more holds x.lines line f h) k
said_typed holds (say.command c) s h k = word_typed holds c s k
said_typed holds say.wrong s h k = k
said_typed holds say.end_of_text s h k = k

typed_read : (holds : ℕ → Bool) (prep : Bool) (ls : List (List ℕ)) (n : ℕ) (s t : State) → all_hold holds ls ≡ true → Each (Typed holds) s.sessions
    → verdict_from prep n ls s ≡ Ok t → Each (Typed holds) t.sessions
unfolding verdict_from
typed_read holds prep [] n s t h k e =
    let g = going n (broken prep s end_of_text) (Ok s) t e in
    let same : s ≡ t = cc (g.1) in
    subst (λ (x : State). Each (Typed holds) x.sessions) same k
typed_read holds prep (l ∷ ls) n s t h k e =
    let two = and_parts (list_all holds l) (all_hold holds ls) h in
    let g = going n (broken prep s (said_at s.place l)) (verdict_from prep (n + 1) ls (after (said_at s.place l) s)) t e in
    typed_read holds prep ls (n + 1) (after (said_at s.place l) s) t two.1
    (said_typed holds (said_at s.place l) s (said_types holds s.place l two.0) k) g.1

typed_by : (holds : ℕ → Bool) (bytes : List ℕ) (prep : Bool) (r : Result State Fault) (job : JobValue) → list_all holds bytes ≡ true
    → verdict_from prep 1 (lines bytes) start ≡ r → with_job r ≡ Ok job → Each (Typed holds) job.sessions
typed_by holds bytes prep (Ok t) job h e w =
    let same : job_of t ≡ job = cc in
    subst (λ (j : JobValue). Each (Typed holds) j.sessions) same (typed_read holds prep (lines bytes) 1 start t (lines_hold holds bytes h) tt e)
typed_by holds bytes prep (Err f) job h e w = cc

pub lines_of_texts : LinesAreOfTexts
unfolding verdict
lines_of_texts bytes prep job is holds h =
    typed_by holds bytes prep (verdict_from prep 1 (lines bytes) start) job h refl (job_read bytes prep job is (verdict prep bytes) refl)
