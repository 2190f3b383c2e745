-- What the words of the command line ask for.
use Rattle.std.specs.Prelude.{ℕ, List, [], ◌∷◌, length, Option, None, Some, option_map, option_and_then, Bool, codes, nat_eq, nat_le, if◌then◌else◌}
use lib.Pointwise.{pointwise}
use Rattle.job_lines.specs.Numbers.{number_in}
use Rattle.hp3000_top.specs.declared.verbs.Verb.{Verb}
use Rattle.hp3000_top.specs.declared.verbs.Verb.TheVariants as verb

-- a word has these letters
abbrev pub is_word : List ℕ → List ℕ → Bool
is_word w letters = pointwise nat_eq w letters

-- the verb of a word, if it is one
abbrev pub named : List ℕ → Option Verb
named w =
    if is_word w (codes "run") then Some verb.Run
    else if is_word w (codes "prep") then Some verb.Prep
    else if is_word w (codes "list") then Some verb.List
    else None

-- a number, if it is one of sixteen bits
abbrev pub sixteen_bits : ℕ → Option ℕ
sixteen_bits n = if nat_le n 65535 then Some n else None

-- the number of a generated job: 1 to 5 decimal digits, at most 65,535
unfoldable pub job_number : List ℕ → Option ℕ
job_number w = if nat_le (length w) 5 then option_and_then sixteen_bits (number_in w) else None

-- the generated job with the number that a word is
abbrev pub numbered : List ℕ → List ℕ → Option Verb
numbered w n = if is_word w (codes "gen") then option_map verb.Gen (job_number n) else None

-- a verb stands alone, or before a number
abbrev pub asked : List (List ℕ) → Option Verb
asked (w ∷ []) = named w
asked (w ∷ n ∷ []) = numbered w n
asked _ = None
