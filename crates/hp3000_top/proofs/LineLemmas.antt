-- No other line is that of a memory that is too small: its ninth byte tells.
use Rattle.std.proofs.Common.{ℕ, ◌≡◌, Bool, true, false, nat_eq, List, Option, None, Some, Result, Ok, Err, Vec, Global, refl, ap, ◌∙◌}
use Rattle.std.specs.Prelude.{slice_get, codes, IfOk}
use Rattle.job_report.specs.declared.refusals.ModulesRefusal.{ModulesRefusal}
use Rattle.job_report.specs.Refusals.{job_refused, modules_refused}
use Rattle.job_gen.specs.job_text.States.{TextValue}
use Rattle.spl_linkable.specs.mpe_segmenter.declared.faults.PrepFault.{PrepFault}
use Rattle.spl_linkable.specs.mpe_segmenter.declared.faults.PrepFault.TheVariants as link
use Rattle.job_runs.specs.mpe_turns.declared.fault.OpenFault.{OpenFault}
use Rattle.job_runs.specs.mpe_turns.declared.fault.OpenFault.TheVariants.{StackTooSmall, MemoryTooSmall, NoMemory}
use Rattle.spl_program.specs.declared.faults.ProgramFault.{ProgramFault}
use Rattle.spl_program.specs.declared.faults.ProgramFault.TheVariants as why
use Rattle.hp3000_top.specs.Programs.{fault_line, told_of, told_line, link_line, IsRefused, faulty, unlinked, FirstRefused}
use Rattle.hp3000_top.specs.Programs as p
use Rattle.hp3000_top.specs.Causes.{open_line}
use Rattle.hp3000_top.specs.Answers.{IsOfMemory}
use Rattle.hp3000_top.specs.Steps.{IsOfStack}

-- worked by hand: the line of program A, of whose modules none has a main body
no_main_told : link_line (codes "A") link.NoMain ≡ codes "REFUSED PROGRAM A SEGMENTER NOMAIN\n"
no_main_told = refl

-- a line with another text of the same name, of what is told
pub told_so : {E : Type 0} (name text : List ℕ) (f : PrepFault) (r : ModulesRefusal) (x : Result (Vec ℕ Global) E) → Some r ≡ told_of f → text ≡ name
    → IfOk x (λ line. line.items ≡ modules_refused text r) → IfOk x (λ line. line.items ≡ link_line name f)
told_so name text f r (Ok line) e t h = h ∙ ap (λ (n : List ℕ). modules_refused n r) t ∙ ap (told_line name) e
told_so name text f r (Err x) e t h = tt

-- the ninth byte of a line is an M
abbrev is_m : Option ℕ → Bool
is_m None = false
is_m (Some byte) = nat_eq byte 77

abbrev is_of_memory : List ℕ → Bool
is_of_memory line = is_m (slice_get line 8)

pub job_line_not : (l r : ℕ) → IsOfMemory (job_refused l r) → ⊥
job_line_not l r m = let e : false ≡ true = ap is_of_memory m.2 in cc

fault_line_not : (name : List ℕ) (f : ProgramFault) → IsOfMemory (fault_line name f) → ⊥
fault_line_not name (why.Text kind at) m = let e : false ≡ true = ap is_of_memory m.2 in cc
fault_line_not name (why.Rule rule at) m = let e : false ≡ true = ap is_of_memory m.2 in cc
fault_line_not name (why.Limit limit at) m = let e : false ≡ true = ap is_of_memory m.2 in cc
fault_line_not name why.NoMemory m = let e : false ≡ true = ap is_of_memory m.2 in cc

link_line_not : (name : List ℕ) (f : PrepFault) → IsOfMemory (link_line name f) → ⊥
link_line_not name link.NoMain m = let e : false ≡ true = ap is_of_memory m.2 in cc
link_line_not name link.TwoMains m = let e : false ≡ true = ap is_of_memory m.2 in cc
link_line_not name (link.Doubled n) m = let e : false ≡ true = ap is_of_memory m.2 in cc
link_line_not name (link.Unresolved n) m = let e : false ≡ true = ap is_of_memory m.2 in cc
link_line_not name (link.SegmentsFull count) m = let e : false ≡ true = ap is_of_memory m.2 in cc
link_line_not name (link.EntriesFull segment count) m = let e : false ≡ true = ap is_of_memory m.2 in cc
link_line_not name (link.SegmentFull segment words) m = let e : false ≡ true = ap is_of_memory m.2 in cc
link_line_not name link.NoMemory m = let e : false ≡ true = ap is_of_memory m.2 in cc

refused_line_not : (t : TextValue) (line : List ℕ) → IsRefused t line → IsOfMemory line → ⊥
refused_line_not t line (faulty {f = f} v) m = fault_line_not t.name f m
refused_line_not t line (unlinked {f = f} us k v) m = link_line_not t.name f m

pub program_line_not : {ts : List TextValue} {line : List ℕ} → FirstRefused ts line → IsOfMemory line → ⊥
program_line_not (p.FirstRefused.here {t = t} {line = line} v) m = refused_line_not t line v m
program_line_not (p.FirstRefused.behind q v vs) m = program_line_not vs m

pub stack_line_not : (f : OpenFault) → IsOfStack f → IsOfMemory (open_line f) → ⊥
stack_line_not (StackTooSmall session need given) k m = let e : false ≡ true = ap is_of_memory m.2 in cc
stack_line_not (MemoryTooSmall need given) k m = absurd k
stack_line_not NoMemory k m = absurd k
