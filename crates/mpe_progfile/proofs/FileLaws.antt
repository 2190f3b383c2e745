-- The laws of program files.
use Rattle.std.proofs.Common.{ℕ, ◌≡◌, ◌+◌, ◌*◌, List, [], ◌∷◌, ◌++◌, length, None, refl, sym, ap, ◌∙◌}
use Rattle.std.specs.Prelude.{Result, Ok, Err}
use Rattle.std.proofs.lemmas.List.{append-nil}
use Rattle.hp_program.specs.declared.program.Program.{Program}
use Rattle.hp_program.specs.Programs.{segments_of}
use Rattle.hp_program.specs.Valid.{first_defect}
use Rattle.mpe_progfile.specs.declared.faults.FileFault.{FileFault}
use Rattle.mpe_progfile.specs.declared.faults.FileFault.TheVariants as fault
use Rattle.mpe_progfile.specs.Files.{file_of, IsFile}
use Rattle.mpe_progfile.specs.Reading.{Parts, ended, tested, is_end, labelled, all_labelled, table_read, read_file}
use Rattle.mpe_progfile.specs.Views.{program_parts}
use Rattle.mpe_progfile.proofs.WriteLemmas.{valid_sized, valid_head}
use Rattle.mpe_progfile.proofs.LabelLemmas.{labels_are}
use Rattle.mpe_progfile.proofs.AgainLemmas.{span, parts_written, parts_again}

-- a valid program's parts are read to the end of its file
read_on : (ss : List (List ℕ)) (main entry : ℕ) (globals rest : List ℕ) → first_defect ss main entry globals ≡ None
    → read_file (file_of ss main entry globals ++ rest)
    ≡ all_labelled (tested (is_end rest) (fault.Trailing (14 + 2 * length globals + span ss)) (parts_written ss main entry globals))
unfolding read_file ended
read_on ss main entry globals rest d =
    ap (λ r. all_labelled (ended r))
    (parts_again ss main entry globals rest (valid_head ss main entry globals d) (valid_sized ss main entry globals d))

labels_right : (ss : List (List ℕ)) (main entry : ℕ) (globals : List ℕ) → first_defect ss main entry globals ≡ None
    → labelled (parts_written ss main entry globals) ≡ Ok (parts_written ss main entry globals)
labels_right ss main entry globals d =
    labels_are (parts_written ss main entry globals) (valid_head ss main entry globals d) (valid_sized ss main entry globals d)
    ∙ ap (table_read (parts_written ss main entry globals)) d

read_whole : (ss : List (List ℕ)) (main entry : ℕ) (globals : List ℕ) → first_defect ss main entry globals ≡ None
    → read_file (file_of ss main entry globals) ≡ Ok (parts_written ss main entry globals)
unfolding all_labelled tested
read_whole ss main entry globals d =
    ap read_file (sym (append-nil (file_of ss main entry globals))) ∙ read_on ss main entry globals [] d ∙ labels_right ss main entry globals d

pub file_read : (p : Program) (bytes : List ℕ) → IsFile p bytes → read_file bytes ≡ Ok (program_parts p)
file_read p bytes e = ap read_file e ∙ read_whole (segments_of p) p.main p.entry p.globals.items p.valid

trailing : (n : ℕ) (a b : Parts) (rest : List ℕ) → all_labelled (tested (is_end rest) (fault.Trailing n) a) ≡ Ok b → rest ≡ []
unfolding all_labelled tested
trailing n a b [] h = refl
trailing n a b (x ∷ xs) h = absurd (apart (fault.Trailing n) b h)
  where
    apart : (f : FileFault) (b : Parts) → Err f ≡ Ok b → ⊥
    apart f b h = cc

pub no_fronts : (p q : Program) (front rest : List ℕ) → IsFile p front → IsFile q (front ++ rest) → rest ≡ []
no_fronts p q front rest e f =
    trailing _ _ (program_parts q) rest
    (sym (ap (λ x. read_file (x ++ rest)) e ∙ read_on (segments_of p) p.main p.entry p.globals.items rest p.valid) ∙ file_read q (front ++ rest) f)

pub same_ok : (a b : Parts) (r : Result Parts FileFault) → r ≡ Ok a → r ≡ Ok b → a ≡ b
same_ok a b r e f = let h : Ok a ≡ r = sym e in cc

pub one_program : (p q : Program) (bytes : List ℕ) → IsFile p bytes → IsFile q bytes → program_parts p ≡ program_parts q
one_program p q bytes e f = same_ok (program_parts p) (program_parts q) (read_file bytes) (file_read p bytes e) (file_read q bytes f)
