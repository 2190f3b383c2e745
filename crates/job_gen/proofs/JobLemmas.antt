-- A generated text is a job: its lines are read one by one.
use Rattle.std.proofs.Common.{◌≡◌, ℕ, zero, suc, ◌+◌, Bool, true, false, cond, List, [], ◌∷◌, ◌++◌, None, Some, refl, sym, ap, ◌∙◌, append_assoc, append-nil, subst}
use Rattle.std.specs.Prelude.{Ok, codes}
use Rattle.std.specs.Fmt.{digits}
use Rattle.job_text.specs.job_lines.declared.settings.Settings.{Settings}
use Rattle.job_text.specs.job_lines.declared.place.Place.{Place}
use Rattle.job_text.specs.job_lines.declared.place.Place.TheVariants.{Outside, InUnit}
use Rattle.job_text.specs.job_lines.Numbers.{number_in}
use Rattle.job_text.specs.job_lines.Names.{is_program_name}
use Rattle.job_text.specs.job_lines.Sizes.{options}
use Rattle.job_text.specs.job_lines.Commands.{command_of}
use Rattle.job_text.specs.job_lines.Says.{is_command, unit_line, command_said, said_at}
use Rattle.job_text.specs.States.{TextValue, State, start, at_last, with_unit_line, after}
use Rattle.job_text.specs.Rules.{broken}
use Rattle.job_text.specs.Jobs.{JobIs}
use Rattle.job_text.specs.Verdicts.{verdict_from, with_job, verdict}
use Rattle.job_text.proofs.ReadingLemmas.{line_taken}
use Rattle.job_text.proofs.JobLaws.{job_is}
use Rattle.job_gen.specs.Pieces.{bytes, draw, Line, filled, behind, ended, text_of, behind_all}
use Rattle.job_gen.specs.Generated as text
use Rattle.job_gen.specs.Jobs as jobs
use Rattle.job_gen.proofs.LineLemmas.{filled_lines, filled_append, filled_ended, are_lines, lines_of_text}

-- the settings of each generated job
abbrev given : Settings
given = record { memory = Some 24576; quantum = Some 50; turns = Some 1000000 }

-- the state behind the settings and these programs
abbrev at : Place → List TextValue → State
at p ps = record { place = p; settings = given; stats = false; programs = ps; sessions = [] }

-- these lines keep the rules and lead from one state to another
abbrev Leads : List (List ℕ) → State → State → Type 0
Leads ls s t = (n : ℕ) (rest : List (List ℕ)) → (m : ℕ) × (verdict_from false n (ls ++ rest) s ≡ verdict_from false m rest t)

leads_then : (ls ms : List (List ℕ)) (s t u : State) → Leads ls s t → Leads ms t u → Leads (ls ++ ms) s u
leads_then ls ms s t u f g n rest =
    let a = f n (ms ++ rest) in
    let b = g a.0 rest in
    (b.0, ap (λ x. verdict_from false n x s) (append_assoc ls ms rest) ∙ a.1 ∙ b.1)

leads_line : (line : List ℕ) (s t : State) → broken false s (said_at s.place line) ≡ None → t ≡ after (said_at s.place line) s → Leads (line ∷ []) s t
leads_line line s t b a n rest = (n + 1, line_taken false n (line ∷ rest) line rest s t refl b a)

-- ---- a unit's lines

-- the line begins with a byte that begins no command
abbrev is_text : Line → Bool
is_text [] = false
is_text (bytes [] ∷ ps) = false
is_text (bytes (b ∷ bs) ∷ ps) = cond (is_command (b ∷ [])) false true
is_text (draw ∷ ps) = false

abbrev are_text : List Line → Bool
are_text [] = true
are_text (l ∷ ls) = cond (is_text l) (are_text ls) false

text_first : (x : ℕ) (l : Line) → is_text l ≡ true → is_command (filled x l) ≡ false
text_first x [] h = cc
text_first x (bytes [] ∷ ps) h = cc
text_first x (bytes (b ∷ bs) ∷ ps) h = by (is_command (b ∷ [])) refl h where
  by : (t : Bool) → is_command (b ∷ []) ≡ t → cond t false true ≡ true → is_command (b ∷ []) ≡ false
  by true e h = cc
  by false e h = e
text_first x (draw ∷ ps) h = cc

text_more : (l : Line) (ls : List Line) → cond (is_text l) (are_text ls) false ≡ true → (is_text l ≡ true) × (are_text ls ≡ true)
text_more l ls h = by (is_text l) h where
  by : (t : Bool) → cond t (are_text ls) false ≡ true → (t ≡ true) × (are_text ls ≡ true)
  by true h = (refl, h)
  by false h = cc

unit_said : (line : List ℕ) → is_command line ≡ false → said_at InUnit line ≡ unit_line line
unfolding said_at
unit_said line e = rw e refl

-- a unit's line breaks no rule
unit_kept : (ps : List TextValue) (line : List ℕ) → broken false (at InUnit ps) (unit_line line) ≡ None
unfolding broken
unit_kept ps line = refl

unit_after : (ps : List TextValue) (line : List ℕ) → after (unit_line line) (at InUnit ps) ≡ at InUnit (at_last (with_unit_line line) ps)
unfolding after
unit_after ps line = refl

unit_leads : (ps : List TextValue) (line : List ℕ) → is_command line ≡ false → Leads (line ∷ []) (at InUnit ps) (at InUnit (at_last (with_unit_line line) ps))
unit_leads ps line e =
    leads_line line (at InUnit ps) (at InUnit (at_last (with_unit_line line) ps))
    (ap (broken false (at InUnit ps)) (unit_said line e) ∙ unit_kept ps line)
    (sym (ap (λ x. after x (at InUnit ps)) (unit_said line e) ∙ unit_after ps line))

last_of : {A : Type 0} (f : A → A) (xs : List A) (x : A) → at_last f (xs ++ x ∷ []) ≡ xs ++ f x ∷ []
last_of f [] x = refl
last_of f (y ∷ []) x = refl
last_of f (y ∷ z ∷ xs) x = ap (λ t. y ∷ t) (last_of f (z ∷ xs) x)

-- a program with one unit
abbrev with_text : List ℕ → List ℕ → TextValue
with_text name u = record { name = name; units = u ∷ [] }

lines_lead : (x : ℕ) (ls : List Line) (front : List TextValue) (name u : List ℕ) → are_text ls ≡ true
    → Leads (filled_lines x ls) (at InUnit (front ++ with_text name u ∷ [])) (at InUnit (front ++ with_text name (u ++ text_of x ls) ∷ []))
lines_lead x [] front name u h = λ n rest. (n, ap (λ t. verdict_from false n rest (at InUnit (front ++ with_text name t ∷ []))) (sym (append-nil u)))
lines_lead x (l ∷ ls) front name u h =
    let t = text_more l ls h in
    let first = unit_leads (front ++ with_text name u ∷ []) (filled x l) (text_first x l t.0) in
    let one : List ℕ = filled x l ++ 10 ∷ [] in
    let put : at_last (with_unit_line (filled x l)) (front ++ with_text name u ∷ []) ≡ front ++ with_text name (u ++ filled x (ended l)) ∷ [] =
    last_of (with_unit_line (filled x l)) front (with_text name u)
    ∙ ap (λ z. front ++ with_text name z ∷ []) (append_assoc u (filled x l) (10 ∷ []) ∙ ap (λ z. u ++ z) (sym (filled_ended x l))) in
    let rest = lines_lead (behind x l) ls front name (u ++ filled x (ended l)) t.1 in
    let joined : (u ++ filled x (ended l)) ++ text_of (behind x l) ls ≡ u ++ text_of x (l ∷ ls) = append_assoc u (filled x (ended l)) (text_of (behind x l) ls) in
    leads_then (filled x l ∷ []) (filled_lines (behind x l) ls) (at InUnit (front ++ with_text name u ∷ []))
    (at InUnit (front ++ with_text name (u ++ filled x (ended l)) ∷ [])) (at InUnit (front ++ with_text name (u ++ text_of x (l ∷ ls)) ∷ []))
    (subst (λ (ps : List TextValue). Leads (filled x l ∷ []) (at InUnit (front ++ with_text name u ∷ [])) (at InUnit ps)) put first)
    (subst (λ (z : List ℕ). Leads (filled_lines (behind x l) ls) (at InUnit (front ++ with_text name (u ++ filled x (ended l)) ∷ []))
    (at InUnit (front ++ with_text name z ∷ []))) joined rest)

-- ---- the programs

unit_is_text : are_text text.unit_lines ≡ true
unfolding digits text.procedures text.unit_lines
unit_is_text = refl

-- where the line of the next program stands
abbrev place_behind : ℕ → Place
place_behind zero = Outside
place_behind (suc j) = InUnit

abbrev program_line : ℕ → List ℕ
program_line j = codes "!PROGRAM " ++ text.name j ++ []

-- a program with no unit yet
abbrev empty : List ℕ → TextValue
empty name = record { name = name; units = [] }

-- what has to hold of the two lines before a unit, behind these programs
record Begins (j : ℕ) (front : List TextValue) : Type 0 where
  named : broken false (at (place_behind j) front) (said_at (place_behind j) (program_line (suc j))) ≡ None
  name_left : at Outside (front ++ empty (text.name (suc j)) ∷ []) ≡ after (said_at (place_behind j) (program_line (suc j))) (at (place_behind j) front)
  begun : broken false (at Outside (front ++ empty (text.name (suc j)) ∷ [])) (said_at Outside (codes "!UNIT")) ≡ None
  unit_left : at InUnit (front ++ with_text (text.name (suc j)) [] ∷ [])
      ≡ after (said_at Outside (codes "!UNIT")) (at Outside (front ++ empty (text.name (suc j)) ∷ []))

program_leads : (x j : ℕ) (front : List TextValue) → Begins j front
    → Leads (filled_lines x (text.program (suc j))) (at (place_behind j) front) (at InUnit (front ++ with_text (text.name (suc j)) (text_of x text.unit_lines) ∷ []))
program_leads x j front b =
    leads_then (program_line (suc j) ∷ []) (codes "!UNIT" ∷ filled_lines x text.unit_lines) (at (place_behind j) front)
    (at Outside (front ++ empty (text.name (suc j)) ∷ [])) (at InUnit (front ++ with_text (text.name (suc j)) (text_of x text.unit_lines) ∷ []))
    (leads_line (program_line (suc j)) (at (place_behind j) front) (at Outside (front ++ empty (text.name (suc j)) ∷ [])) b.named b.name_left)
    (leads_then (codes "!UNIT" ∷ []) (filled_lines x text.unit_lines) (at Outside (front ++ empty (text.name (suc j)) ∷ []))
    (at InUnit (front ++ with_text (text.name (suc j)) [] ∷ [])) (at InUnit (front ++ with_text (text.name (suc j)) (text_of x text.unit_lines) ∷ []))
    (leads_line (codes "!UNIT") (at Outside (front ++ empty (text.name (suc j)) ∷ [])) (at InUnit (front ++ with_text (text.name (suc j)) [] ∷ []))
    b.begun b.unit_left)
    (lines_lead x text.unit_lines front (text.name (suc j)) [] unit_is_text))

-- the first j programs
abbrev Programs : ℕ → ℕ → Type 0
Programs n j = Leads (filled_lines n (text.programs j)) (at Outside []) (at (place_behind j) (jobs.programs n j))

programs_none : (n : ℕ) → Programs n 0
unfolding text.programs jobs.programs
programs_none n k rest = (k, refl)

programs_more : (n j : ℕ) → Begins j (jobs.programs n j) → Programs n j → Programs n (suc j)
unfolding text.programs jobs.programs
programs_more n j b before =
    subst (λ (ls : List (List ℕ)). Leads ls (at Outside []) (at InUnit (jobs.programs n (suc j)))) (sym (filled_append n (text.programs j) (text.program (suc j))))
    (leads_then (filled_lines n (text.programs j)) (filled_lines (behind_all n (text.programs j)) (text.program (suc j))) (at Outside [])
    (at (place_behind j) (jobs.programs n j)) (at InUnit (jobs.programs n (suc j))) before
    (program_leads (behind_all n (text.programs j)) j (jobs.programs n j) b))

-- each program's own two lines are read where they stand, since all that is asked of the programs before it is their names
begins_0 : (n : ℕ) → Begins 0 (jobs.programs n 0)
unfolding digits broken said_at command_said command_of after is_program_name jobs.programs
begins_0 n = record { named = refl; name_left = refl; begun = refl; unit_left = refl }

begins_1 : (n : ℕ) → Begins 1 (jobs.programs n 1)
unfolding digits broken said_at command_said command_of after is_program_name jobs.programs
begins_1 n = record { named = refl; name_left = refl; begun = refl; unit_left = refl }

begins_2 : (n : ℕ) → Begins 2 (jobs.programs n 2)
unfolding digits broken said_at command_said command_of after is_program_name jobs.programs
begins_2 n = record { named = refl; name_left = refl; begun = refl; unit_left = refl }

begins_3 : (n : ℕ) → Begins 3 (jobs.programs n 3)
unfolding digits broken said_at command_said command_of after is_program_name jobs.programs
begins_3 n = record { named = refl; name_left = refl; begun = refl; unit_left = refl }

begins_4 : (n : ℕ) → Begins 4 (jobs.programs n 4)
unfolding digits broken said_at command_said command_of after is_program_name jobs.programs
begins_4 n = record { named = refl; name_left = refl; begun = refl; unit_left = refl }

begins_5 : (n : ℕ) → Begins 5 (jobs.programs n 5)
unfolding digits broken said_at command_said command_of after is_program_name jobs.programs
begins_5 n = record { named = refl; name_left = refl; begun = refl; unit_left = refl }

begins_6 : (n : ℕ) → Begins 6 (jobs.programs n 6)
unfolding digits broken said_at command_said command_of after is_program_name jobs.programs
begins_6 n = record { named = refl; name_left = refl; begun = refl; unit_left = refl }

begins_7 : (n : ℕ) → Begins 7 (jobs.programs n 7)
unfolding digits broken said_at command_said command_of after is_program_name jobs.programs
begins_7 n = record { named = refl; name_left = refl; begun = refl; unit_left = refl }

programs_all : (n : ℕ) → Programs n 8
programs_all n =
    programs_more n 7 (begins_7 n) (programs_more n 6 (begins_6 n) (programs_more n 5 (begins_5 n) (programs_more n 4 (begins_4 n)
    (programs_more n 3 (begins_3 n) (programs_more n 2 (begins_2 n) (programs_more n 1 (begins_1 n) (programs_more n 0 (begins_0 n) (programs_none n))))))))

-- ---- the whole job

settings_lead : (x : ℕ) → Leads (filled_lines x text.settings) start (at Outside [])
unfolding verdict_from broken said_at command_said command_of after number_in
settings_lead x n rest = (n + 1 + 1 + 1 + 1, refl)

-- the sessions, and the end
abbrev tail : List Line
tail = text.sessions 8 ++ text.plain (codes "!EOJ") ∷ []

sessions_end : (x n m : ℕ) → with_job (verdict_from false m (filled_lines x tail) (at InUnit (jobs.programs n 8))) ≡ Ok (jobs.generated_job n)
unfolding digits verdict_from broken said_at command_said command_of after is_program_name options text.sessions jobs.programs jobs.sessions jobs.generated_job
sessions_end x n m = refl

abbrev front : List Line
front = text.settings ++ text.programs 8

front_leads : (n : ℕ) → Leads (filled_lines n front) start (at InUnit (jobs.programs n 8))
front_leads n =
    subst (λ (ls : List (List ℕ)). Leads ls start (at InUnit (jobs.programs n 8))) (sym (filled_append n text.settings (text.programs 8)))
    (leads_then (filled_lines n text.settings) (filled_lines n (text.programs 8)) start (at Outside []) (at InUnit (jobs.programs n 8)) (settings_lead n) (programs_all n))

parted : text.job_lines ≡ front ++ tail
unfolding text.job_lines
parted = append_assoc front (text.sessions 8) (text.plain (codes "!EOJ") ∷ [])

job_are_lines : are_lines text.job_lines ≡ true
unfolding digits text.procedures text.unit_lines text.programs text.sessions text.job_lines
job_are_lines = refl

lines_verdict : (n : ℕ) → with_job (verdict_from false 1 (filled_lines n text.job_lines) start) ≡ Ok (jobs.generated_job n)
lines_verdict n =
    let lead = front_leads n 1 (filled_lines (behind_all n front) tail) in
    ap (λ ls. with_job (verdict_from false 1 (filled_lines n ls) start)) parted
    ∙ ap (λ ls. with_job (verdict_from false 1 ls start)) (filled_append n front tail)
    ∙ ap with_job lead.1 ∙ sessions_end (behind_all n front) n lead.0

pub generated_is_job : (n : ℕ) → JobIs (text.generated n) false (jobs.generated_job n)
unfolding verdict text.generated
generated_is_job n =
    job_is (text.generated n) false (jobs.generated_job n)
    (ap (λ ls. with_job (verdict_from false 1 ls start)) (lines_of_text n text.job_lines job_are_lines) ∙ lines_verdict n)
