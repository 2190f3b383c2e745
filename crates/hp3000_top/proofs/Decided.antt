-- What words decide of programs without any other fault.
-- 1. the first fault of modules that counts words is that of their first segment that is too long  (full_so)
-- 2. a segment that is too long may have more than 16,383 words                                    (heavy_so)
-- 3. a program is refused by the line of such a segment                                            (long_so)
-- 4. what an input comes to                                                                         (refused_by_words)
use Rattle.std.proofs.Common.{◌≡◌, ◌<◌, ◌≤◌, ℕ, suc, ◌+◌, nat_lt, ◌==◌, Bool, true, false, if◌then◌else◌, List, [], ◌∷◌, length, Option, Some, None, slice_get, refl, sym, ap, subst, ◌∙◌, arith}
use Rattle.std.specs.Prelude.{option_map}
use Rattle.std.proofs.lemmas.Bool.{ltb-true}
use Rattle.job_report.specs.declared.refusals.ModulesRefusal.TheVariants as modules
use Rattle.job_report.specs.Refusals.{modules_refused}
use Rattle.job_gen.specs.job_text.Jobs.{JobValue, JobIs}
use Rattle.job_gen.specs.job_text.States.{TextValue}
use Rattle.job_gen.proofs.job_text_proofs.JobLaws.{jobs_are_unique, jobs_break_nothing}
use Rattle.spl_tree.specs.declared.names_and_places.Name.{Name}
use Rattle.spl_program.specs.spl_meaning.Tables.{Source}
use Rattle.spl_program.specs.spl_meaning.Bound.{bound}
use Rattle.spl_program.specs.Programs.{IsProgram}
use Rattle.spl_program.proofs.ProgramLaws.{programs_unique, program_has_none}
use Rattle.spl_linkable.specs.spl_branch.declared.modules.Module.{Module}
use Rattle.spl_linkable.specs.mpe_segmenter.declared.faults.PrepFault.{PrepFault}
use Rattle.spl_linkable.specs.mpe_segmenter.declared.faults.PrepFault.TheVariants as f
use Rattle.spl_linkable.specs.mpe_segmenter.Names.{Part, parts, segment_names}
use Rattle.spl_linkable.specs.mpe_segmenter.Entries.{either}
use Rattle.spl_linkable.specs.mpe_segmenter.Counts.{passed_by, table_size, entries_full, segment_full, sizes}
use Rattle.spl_linkable.specs.mpe_segmenter.Faults.{Fault, NoMain, TwoMains, Doubled, Unresolved, SegmentsFull, EntriesFull, SegmentFull, fault_of, mains, doubled, unresolved, main_faults, segment_faults, first_fault}
use Rattle.spl_linkable.specs.spl_built.Built.{IsUnlinked}
use Rattle.spl_linkable.specs.spl_module_names.Faults.{counts_words}
use Rattle.spl_linkable.proofs.spl_module_names_proofs.FaultLaws.{faults_agree}
use Rattle.spl_linkable.specs.Linkable as l
use Rattle.spl_numbered.specs.spl_bounds.spl_module_code.Modules.{AreModules}
use Rattle.spl_numbered.proofs.spl_bounds_proofs.Words.{keep_bounds}
use Rattle.hp3000_top.specs.declared.answer.Answer.{Answer}
use Rattle.hp3000_top.specs.declared.verbs.Verb.{Verb}
use Rattle.hp3000_top.specs.declared.verbs.Verb.TheVariants as verb
use Rattle.hp3000_top.specs.Programs.{IsRefused, faulty, unlinked, link_line, FirstRefused}
use Rattle.hp3000_top.specs.Programs as p
use Rattle.hp3000_top.specs.Causes.{Cause, Unprepared, CauseOf}
use Rattle.hp3000_top.specs.Causes as c
use Rattle.hp3000_top.specs.Decided.{IsNamed, AreNamed, IsNamedOf, IsLong, Crowds, CrowdsOf}
use Rattle.hp3000_top.specs.Decided as d
use Rattle.hp3000_top.specs.Steps.{text_of}
use Rattle.hp3000_top.proofs.Sureness.{some_is, kept_rules}
use Rattle.hp3000_top.proofs.Unique.{listed_no_cause}

clash : (b : Bool) {A : Type 0} → b ≡ true → b ≡ false → A
clash true is other = cc
clash false is other = cc

-- ---- 1. the fault that counts words

-- this fault, where there is one, counts none
abbrev pub Named : Option Fault → Type 0
Named o = (x : Fault) → o ≡ Some x → counts_words x ≡ false

-- what counts words stands behind all that does not
behind : (a b : Option Fault) (x : Fault) → Named a → either a b ≡ Some x → counts_words x ≡ true → b ≡ Some x
behind None b x named is heavy = is
behind (Some y) b x named is heavy = clash (counts_words x) heavy (named x is)

mains_named : (n : Bool) (m : Bool) → Named (if n then Some NoMain else if m then Some TwoMains else None)
mains_named true m x is = ap counts_words (sym (some_is is))
mains_named false true x is = ap counts_words (sym (some_is is))
mains_named false false x is = cc

doubled_named : (o : Option (List ℕ)) → Named (option_map Doubled o)
doubled_named None x is = cc
doubled_named (Some n) x is = ap counts_words (sym (some_is is))

unresolved_named : (o : Option (List ℕ)) → Named (option_map Unresolved o)
unresolved_named None x is = cc
unresolved_named (Some n) x is = ap counts_words (sym (some_is is))

either_named : (a b : Option Fault) → Named a → Named b → Named (either a b)
either_named None b first rest x is = rest x is
either_named (Some y) b first rest x is = first x is

segments_named : (b : Bool) (n : ℕ) → Named (if b then Some (SegmentsFull n) else None)
segments_named true n x is = ap counts_words (sym (some_is is))
segments_named false n x is = cc

entries_named : (o : Option (List ℕ × ℕ)) → Named (option_map (λ p. EntriesFull p.0 p.1) o)
entries_named None x is = cc
entries_named (Some q) x is = ap counts_words (sym (some_is is))

-- the name and the words that it tells
name_told : Fault → List ℕ
name_told (SegmentFull name words) = name
name_told other = []

words_told : Fault → ℕ
words_told (SegmentFull name words) = words
words_told other = 0

full_of : (o : Option (List ℕ × ℕ)) (name : List ℕ) (words : ℕ) → option_map (λ p. SegmentFull p.0 p.1) o ≡ Some (SegmentFull name words) → o ≡ Some (name, words)
unfolding name_told words_told
full_of None name words is = cc
full_of (Some q) name words is =
    ap (λ (n : List ℕ). Some (n, q.1)) (ap name_told (some_is is)) ∙ ap (λ (w : ℕ). Some (name, w)) (ap words_told (some_is is))

-- it is that of the first segment that is too long
full_so : (ms : List Module) (name : List ℕ) (words : ℕ) → first_fault ms ≡ Some (SegmentFull name words) → segment_full (parts ms) ≡ Some (name, words)
full_so ms name words is =
    let x : Fault = SegmentFull name words in
    let n : ℕ = mains ms in
    let count : ℕ = length (segment_names ms) in
    let doubles : Option Fault = option_map Doubled (doubled ms) in
    let unmet : Option Fault = option_map Unresolved (unresolved ms) in
    let entries : Option Fault = option_map (λ p. EntriesFull p.0 p.1) (entries_full (parts ms)) in
    let full : Option Fault = option_map (λ p. SegmentFull p.0 p.1) (segment_full (parts ms)) in
    let sized : Option Fault = either entries full in
    let counted : Option Fault = either (segment_faults count) sized in
    let first = behind (main_faults n) (either (either doubles unmet) counted) x (mains_named (n == 0) (nat_lt 1 n)) is refl in
    let second = behind (either doubles unmet) counted x (either_named doubles unmet (doubled_named (doubled ms)) (unresolved_named (unresolved ms))) first refl in
    let third = behind (segment_faults count) sized x (segments_named (nat_lt 62 count) count) second refl in
    full_of (segment_full (parts ms)) name words (behind entries full x (entries_named (entries_full (parts ms))) third refl)

-- ---- 2. what its segment may have

passed : (before : ℕ) (ms : List Module) (words : ℕ) → passed_by before ms ≡ Some words → 16383 < before + sizes ms
passed before [] words is = cc
passed before (m ∷ ms) words is = by (nat_lt 16383 (before + m.size)) refl is (λ rest. passed (before + m.size) ms words rest)
  where
    more : (a b c : ℕ) → 16383 < a + b → 16383 < a + (b + c)
    more a b c l = omega (arith, l)

    grouped : (a b c : ℕ) → 16383 < (a + b) + c → 16383 < a + (b + c)
    grouped a b c l = omega (arith, l)

    by : (b : Bool) → nat_lt 16383 (before + m.size) ≡ b → (if b then Some (before + m.size) else passed_by (before + m.size) ms) ≡ Some words
        → (passed_by (before + m.size) ms ≡ Some words → 16383 < (before + m.size) + sizes ms) → 16383 < before + (m.size + sizes ms)
    by true over is on = more before m.size (sizes ms) (ltb-true 16383 (before + m.size) over)
    by false over is on = grouped before m.size (sizes ms) (on is)

-- each of these segments keeps a bound
abbrev pub KeepBounds : List Source → List Part → Type 0
KeepBounds us qs = (k : ℕ) (q : Part) → slice_get qs k ≡ Some q → table_size q + sizes q.modules ≤ bound us q.name

over : (a b : ℕ) → 16383 < a → a ≤ b → 16383 < b
over a b l m = omega (arith, l, m)

heavy_among : (us : List Source) (qs : List Part) (name : List ℕ) (words : ℕ) → KeepBounds us qs → segment_full qs ≡ Some (name, words) → 16383 < bound us name
heavy_among us [] name words keep is = cc
heavy_among us (q ∷ qs) name words keep is =
    by (passed_by (table_size q) q.modules) refl is (λ rest. heavy_among us qs name words (λ k r at. keep (suc k) r at) rest)
  where
    by : (o : Option ℕ) → passed_by (table_size q) q.modules ≡ o → either (option_map (λ w. (q.name, w)) o) (segment_full qs) ≡ Some (name, words)
        → (segment_full qs ≡ Some (name, words) → 16383 < bound us name) → 16383 < bound us name
    by None so is on = on is
    by (Some w) so is on =
        let same : q.name ≡ name = ap (λ (p : List ℕ × ℕ). p.0) (some_is is) in
        subst (λ (x : List ℕ). 16383 < bound us x) same
        (over (table_size q + sizes q.modules) (bound us q.name) (passed (table_size q) q.modules w so) (keep 0 q refl))

-- a segment of units that is too long may have more words than there may be
heavy_so : (us : List Source) (ms : List Module) (name : List ℕ) (words : ℕ) → l.KeepRules us → AreModules us ms → first_fault ms ≡ Some (SegmentFull name words)
    → 16383 < bound us name
heavy_so us ms name words w are is =
    heavy_among us (parts ms) name words (λ k q at. keep_bounds us ms k q w.sound w.spelled w.limits are at) (full_so ms name words is)

-- ---- 3. programs

-- the line of a segment that is too long, of a program with this name
long_line : (name : List ℕ) (us : List Source) (g : PrepFault) (x : Fault) → fault_of g ≡ Some x → counts_words x ≡ true
    → ((n : List ℕ) (words : ℕ) → x ≡ SegmentFull n words → 16383 < bound us n)
    → (segment : Name) × (16383 < bound us segment.text.items) × (link_line name g ≡ modules_refused name (modules.SegmentFull segment))
long_line name us f.NoMain x is heavy large = let n = ap counts_words (some_is is) in clash (counts_words x) heavy (sym n)
long_line name us f.TwoMains x is heavy large = let n = ap counts_words (some_is is) in clash (counts_words x) heavy (sym n)
long_line name us (f.Doubled m) x is heavy large = let n = ap counts_words (some_is is) in clash (counts_words x) heavy (sym n)
long_line name us (f.Unresolved m) x is heavy large = let n = ap counts_words (some_is is) in clash (counts_words x) heavy (sym n)
long_line name us (f.SegmentsFull m) x is heavy large = let n = ap counts_words (some_is is) in clash (counts_words x) heavy (sym n)
long_line name us (f.EntriesFull m k) x is heavy large = let n = ap counts_words (some_is is) in clash (counts_words x) heavy (sym n)
long_line name us (f.SegmentFull segment words) x is heavy large = (segment, large segment.text.items words (sym (some_is is)), refl)
long_line name us f.NoMemory x is heavy large = cc

-- what a program without any other fault is refused by
record Refusing (t : TextValue) (line : List ℕ) : Type 0 where
  units : List Source
  segment : Name
  are : IsProgram t.units units
  heavy : 16383 < bound units segment.text.items
  is : line ≡ modules_refused t.name (modules.SegmentFull segment)

-- a fault of some modules of its units counts words
counted : (t : TextValue) (k : IsNamed t) (us : List Source) (g : PrepFault) (u : IsUnlinked us g) → IsProgram t.units us → counts_words u.fails.fault ≡ true
counted t k us g u are = by (counts_words u.fails.fault) refl
  where
    same : us ≡ k.units
    same = programs_unique t.units us k.units are k.are

    by : (b : Bool) → counts_words u.fails.fault ≡ b → b ≡ true
    by true is = refl
    by false is =
        let there = faults_agree us u.modules k.modules u.fails.fault u.are_modules (subst (λ (ys : List Source). AreModules ys k.modules) (sym same) k.are_modules)
        u.fails.first is in
        clash (counts_words u.fails.fault) (k.named u.fails.fault there) is

long_so : (t : TextValue) (line : List ℕ) → IsNamed t → IsRefused t line → Refusing t line
long_so t line k (faulty {f = g} w) = absurd (program_has_none t.units k.units g k.are w)
long_so t line k (unlinked {f = g} us w u) =
    let large : (n : List ℕ) (words : ℕ) → u.fails.fault ≡ SegmentFull n words → 16383 < bound us n =
    λ n words is. heavy_so us u.modules n words (kept_rules t.units us w) u.are_modules (u.fails.first ∙ ap Some is) in
    let told = long_line t.name us g u.fails.fault u.fails.told (counted t k us g u w) large in
    record { units = us; segment = told.0; are = w; heavy = told.1; is = told.2 }

-- of several the first
first_long : {ts : List TextValue} {line : List ℕ} → AreNamed ts → FirstRefused ts line → IsLong ts line
first_long d.AreNamed.none w = elim w [ ]
first_long (d.AreNamed.more {t = t} {ts = ts} k ks) (p.FirstRefused.here {line = line} w) =
    let r = long_so t line k w in
    subst (IsLong (t ∷ ts)) (sym r.is) (d.IsLong.long 0 t r.units r.segment refl r.are r.heavy)
first_long (d.AreNamed.more {t = t} {ts = ts} k ks) (p.FirstRefused.behind q w ws) = on (first_long ks ws)
  where
    on : {line : List ℕ} → IsLong ts line → IsLong (t ∷ ts) line
    on (d.IsLong.long k t us segment at are heavy) = d.IsLong.long (suc k) t us segment at are heavy

-- ---- 4. what an input comes to

run_crowds : (bytes line : List ℕ) (job : JobValue) → JobIs bytes false job → AreNamed job.programs → Cause bytes line → Crowds bytes line
run_crowds bytes line job is k (c.Cause.lines {l = m} {r = r} v) = absurd (jobs_break_nothing bytes false job m r is v)
run_crowds bytes line job is k (c.Cause.program other w ws) =
    d.Crowds.long job is (first_long k (subst (λ (j : JobValue). FirstRefused j.programs line) (jobs_are_unique bytes false other job w is) ws))
run_crowds bytes line job is k (c.Cause.sessions other made seats w o) = d.Crowds.sessions other made seats w o

prep_crowds : (bytes line : List ℕ) (job : JobValue) → JobIs bytes true job → AreNamed job.programs → Unprepared bytes line
    → (j : JobValue) × JobIs bytes true j × IsLong j.programs line
prep_crowds bytes line job is k (c.Unprepared.broken {l = m} {r = r} v) = absurd (jobs_break_nothing bytes true job m r is v)
prep_crowds bytes line job is k (c.Unprepared.unmade other w ws) =
    (job, is, first_long k (subst (λ (j : JobValue). FirstRefused j.programs line) (jobs_are_unique bytes true other job w is) ws))

crowds_of : (v : Verb) (bytes line : List ℕ) → IsNamedOf v bytes → CauseOf v bytes line → CrowdsOf v bytes line
crowds_of verb.Run bytes line b k = run_crowds bytes line b.0 b.1 b.2 k
crowds_of (verb.Gen n) bytes line b k = run_crowds bytes line b.0 b.1 b.2 k
crowds_of verb.Prep bytes line b k = prep_crowds bytes line b.0 b.1 b.2 k
crowds_of verb.List bytes line b k = listed_no_cause bytes line b.0 b.1 k

-- what is refused is so by a line that words decide
pub refused_by_words : (v : Verb) (bytes : List ℕ) (a : Answer) → IsNamedOf v bytes → CauseOf v bytes (text_of a) → CrowdsOf v bytes (text_of a)
refused_by_words v bytes a b k = crowds_of v bytes (text_of a) b k
