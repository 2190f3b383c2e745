use Rattle.std.proofs.Common.{◌≡◌, ◌≤◌, min, drop}
use Rattle.std.specs.List.{list_all}
use Rattle.hp_word.specs.Texts.{is_digit, value_after, digits_value}
use Rattle.hp_word.proofs.numbers.value_of_digits.Given as goal

-- whether all are digits, and the capped value, depend only on the value so far and the bytes that are left
abbrev pub invariant-loop-byte : goal.invariant-loop-byte
invariant-loop-byte l = record {
  small : l.value ≤ 4294967296;
  rest : list_all (is_digit l.base) (drop l.byte-index l.text) ≡ list_all (is_digit l.base) l.text;
  value : min (value_after l.base l.value (drop l.byte-index l.text)) 4294967296
      ≡ min (digits_value l.base l.text) 4294967296;
}
