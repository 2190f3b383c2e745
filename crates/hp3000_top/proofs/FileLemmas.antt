-- A program that is read of a program's file is equal to it.
use Rattle.std.proofs.Common.{◌≡◌, ℕ, List, Ok, ap}
use Rattle.hp_program.specs.declared.program.Program.{Program}
use Rattle.mpe_progfile.specs.Files.{IsFile}
use Rattle.mpe_progfile.specs.Laws.{GivesParts}
use Rattle.mpe_progfile.specs.Reading.{Parts}
use Rattle.mpe_progfile.specs.Views.{program_parts}
use Rattle.hp3000_top.specs.Steps.{IsCopy}

-- equal parts
same_parts : (p q : Program) → program_parts q ≡ program_parts p → IsCopy p q
same_parts p q e = record {
  segments = ap (λ (x : Parts). x.segments) e;
  main = ap (λ (x : Parts). x.main) e;
  entry = ap (λ (x : Parts). x.entry) e;
  globals = ap (λ (x : Parts). x.globals) e;
}

pub copy_so : (p q : Program) (bytes : List ℕ) → IsFile p bytes → ((x : Program) → IsFile x bytes → GivesParts (Ok q) (program_parts x)) → IsCopy p q
copy_so p q bytes file gives = same_parts p q (gives p file)
