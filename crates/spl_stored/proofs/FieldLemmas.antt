-- DPF of a field that lies within a word is an instruction, as EXF of it is.
use Rattle.std.proofs.Common.{◌≡◌, ◌≤◌, ℕ, ◌+◌, ◌*◌, ◌%◌, true, arith}
use Rattle.hp_instr.specs.declared.instruction.Instr.TheVariants as i
use Rattle.hp_instr.specs.Fields.{is_immediate}
use Rattle.hp_instr.specs.Given.{has_word}
use Rattle.spl_operations.specs.Views.{is_instruction}
use Rattle.spl_operations.proofs.FieldLemmas.{field_is_instruction}

pub deposit_is_instruction : (start size : ℕ) → 1 ≤ size → start + size ≤ 16 → is_instruction (i.Immediate 12 (16 * start + size % 16)) ≡ true
unfolding has_word is_immediate
deposit_is_instruction start size one fits = field_is_instruction start size one (omega arith) (omega arith)
