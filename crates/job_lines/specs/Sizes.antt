-- The sizes of a session: the options that give them, within which limits, and what they are where none is given.
use Rattle.std.specs.Prelude.{ℕ, Bool, true, ◌&&◌, if◌then◌else◌, List, [], ◌∷◌, length, take, drop, Option, None, Some, unwrap_or, option_and_then, codes}
use Rattle.job_lines.specs.declared.sizes.Size.{Size}
use Rattle.job_lines.specs.declared.sizes.Size.TheVariants.{Stack, Extra, Print}
use Rattle.job_lines.specs.declared.sizes.Sizes.{Sizes}
use Rattle.job_lines.specs.Lines.{same}
use Rattle.job_lines.specs.Numbers.{is_between, number_in}

-- the key of each, with its mark
abbrev pub key_of : Size → List ℕ
key_of Stack = codes "STACK="
key_of Extra = codes "EXTRA="
key_of Print = codes "PRINT="

-- the size that was given, if it was
abbrev pub size_in : Size → Sizes → Option ℕ
size_in Stack sizes = sizes.stack
size_in Extra sizes = sizes.extra
size_in Print sizes = sizes.print

-- with one size more
abbrev pub with_size : Size → ℕ → Sizes → Sizes
with_size Stack n sizes = record sizes { stack = Some n }
with_size Extra n sizes = record sizes { extra = Some n }
with_size Print n sizes = record sizes { print = Some n }

-- before the first option
abbrev pub no_sizes : Sizes
no_sizes = record { stack = None; extra = None; print = None }

-- what a size is where none is given
abbrev pub default_size : Size → ℕ
default_size Stack = 1024
default_size Extra = 0
default_size Print = 16384

abbrev pub size_of : Size → Sizes → ℕ
size_of k sizes = unwrap_or (size_in k sizes) (default_size k)

-- the limits of a size
abbrev pub size_fits : Size → ℕ → Bool
size_fits Stack n = is_between 64 32000 n
size_fits Extra n = is_between 0 32000 n
size_fits Print n = is_between 1 1048576 n

-- a size that is not given is within its limits
abbrev pub fits_if_given : Size → Option ℕ → Bool
fits_if_given k None = true
fits_if_given k (Some n) = size_fits k n

abbrev pub sizes_fit : Sizes → Bool
sizes_fit sizes = fits_if_given Stack sizes.stack && fits_if_given Extra sizes.extra && fits_if_given Print sizes.print

-- Options

-- the sizes that an option may give
abbrev pub all_sizes : List Size
all_sizes = Stack ∷ Extra ∷ Print ∷ []

-- what stands behind the key of a size, in one word with it
abbrev pub behind : Size → List ℕ → Option (List ℕ)
behind size w = if same (take (length (key_of size)) w) (key_of size) then Some (drop (length (key_of size)) w) else None

-- a number behind a key, where that size was not given before
abbrev pub given_once : Size → Option ℕ → Option ℕ → Sizes → Option Sizes
given_once size None (Some n) sizes = Some (with_size size n sizes)
given_once size _ _ sizes = None

-- an option: a key of the table, and its number; other sizes are looked for where it is not this one
abbrev pub given_or : Size → Option (List ℕ) → Sizes → Option Sizes → Option Sizes
given_or size (Some digits) sizes other = given_once size (size_in size sizes) (number_in digits) sizes
given_or size None sizes other = other

abbrev pub option_by : List Size → List ℕ → Sizes → Option Sizes
option_by [] w sizes = None
option_by (size ∷ table) w sizes = given_or size (behind size w) sizes (option_by table w sizes)

unfoldable pub option : List ℕ → Sizes → Option Sizes
option w sizes = option_by all_sizes w sizes

-- options in any order
unfoldable pub options : Sizes → List (List ℕ) → Option Sizes
options sizes [] = Some sizes
options sizes (w ∷ ws) = option_and_then (λ more. options more ws) (option w sizes)
