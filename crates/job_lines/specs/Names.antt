-- The names of programs.
use Rattle.std.specs.Prelude.{ℕ, Bool, false, ◌&&◌, ◌||◌, nat_le, List, [], ◌∷◌, length}
use Rattle.std.specs.List.{list_all}
use Rattle.job_lines.specs.Numbers.{is_digit}

-- capitals and digits
abbrev pub is_capital : ℕ → Bool
is_capital b = nat_le 65 b && nat_le b 90

abbrev pub is_name_byte : ℕ → Bool
is_name_byte b = is_capital b || is_digit b

-- a program's name: 1 to 8 letters and digits, the first a letter
unfoldable pub is_program_name : List ℕ → Bool
is_program_name [] = false
is_program_name (b ∷ bs) = is_capital b && list_all is_name_byte bs && nat_le (length bs) 7
