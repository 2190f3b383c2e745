-- What the answers of a reader say.
use Rattle.std.proofs.Common.{ℕ, ◌≡◌, Bool, true, false, List, [], ◌∷◌, ◌++◌, length, Option, Some, None, refl, sym, ap, ◌∙◌, arith}
use Rattle.std.specs.Prelude.{Result, Ok, Err, IfOk, if◌then◌else◌, slice_get}
use Rattle.std.proofs.lemmas.List.{append-nil}
use Rattle.hp_program.specs.declared.program.Program.{Program}
use Rattle.hp_program.specs.declared.program.Defect.{Defect}
use Rattle.hp_program.specs.declared.program.Defect.TheVariants as defect
use Rattle.hp_program.specs.Valid.{is_local_entry, bad_table}
use Rattle.mpe_progfile.specs.declared.faults.FileFault.{FileFault}
use Rattle.mpe_progfile.specs.declared.faults.FileFault.TheVariants as fault
use Rattle.mpe_progfile.specs.Files.{file_of, IsFile}
use Rattle.mpe_progfile.specs.Reading.{Parts, labelled, table_read, read_file}
use Rattle.mpe_progfile.specs.Views.{Answers, program_parts}
use Rattle.mpe_progfile.specs.Laws.{GivesParts}
use Rattle.mpe_progfile.proofs.FileLaws.{file_read, same_ok}

apart : (f : FileFault) (p : Parts) (r : Result Parts FileFault) → r ≡ Err f → r ≡ Ok p → ⊥
apart f p r a e = let h : Err f ≡ r = sym a in cc

pub gives_parts : (given : Result Program FileFault) (r : Result Parts FileFault) (p : Parts) → Answers given r → r ≡ Ok p → GivesParts given p
gives_parts (Ok q) r p a e = same_ok (program_parts q) p r a e
gives_parts (Err fault.NoMemory) r p a e = refl
gives_parts (Err (fault.Truncated n)) r p a e = absurd (apart (fault.Truncated n) p r a e)
gives_parts (Err (fault.BadHead n)) r p a e = absurd (apart (fault.BadHead n) p r a e)
gives_parts (Err (fault.BadSegment n)) r p a e = absurd (apart (fault.BadSegment n) p r a e)
gives_parts (Err (fault.Trailing n)) r p a e = absurd (apart (fault.Trailing n) p r a e)
gives_parts (Err (fault.BadLabel n)) r p a e = absurd (apart (fault.BadLabel n) p r a e)

pub gives_files : (given : Result Program FileFault) (bytes : List ℕ) → Answers given (read_file bytes) → (p : Program) → IsFile p bytes
    → GivesParts given (program_parts p)
gives_files given bytes a p f = gives_parts given (read_file bytes) (program_parts p) a (file_read p bytes f)

-- labels change no part
labelled_same : (p q : Parts) → labelled p ≡ Ok q → p ≡ q
unfolding labelled
labelled_same p q e = by (is_local_entry (slice_get p.segments p.main) p.entry) (bad_table p.segments 0 p.segments) e
  where
    read : (p q : Parts) (o : Option Defect) → table_read p o ≡ Ok q → p ≡ q
    read p q None e = same_ok p q (Ok p) refl e
    read p q (Some defect.Head) e = cc
    read p q (Some defect.Main) e = cc
    read p q (Some (defect.Segment s)) e = cc
    read p q (Some (defect.Label s n)) e = cc

    by : (b : Bool) (o : Option Defect) → (if b then table_read p o else Err (fault.BadLabel 10)) ≡ Ok q → p ≡ q
    by true o e = read p q o e
    by false o e = cc

nothing_left : (xs : List ℕ) → length xs ≡ 0 → xs ≡ []
nothing_left [] e = refl
nothing_left (x ∷ xs) e = absurd (omega (arith, e))

-- the program of labelled parts has the file of those parts
pub labelled_file : (given : Result Program FileFault) (p : Parts) (bytes left : List ℕ) → Answers given (labelled p)
    → bytes ≡ file_of p.segments p.main p.entry p.globals ++ left → length left ≡ 0 → IfOk given (λ q. IsFile q bytes)
labelled_file (Err f) p bytes left a e n = tt
labelled_file (Ok q) p bytes left a e n =
    let same = labelled_same p (program_parts q) a in
    e ∙ ap (λ x. file_of p.segments p.main p.entry p.globals ++ x) (nothing_left left n) ∙ append-nil (file_of p.segments p.main p.entry p.globals)
    ∙ ap (λ (x : Parts). file_of x.segments x.main x.entry x.globals) same
