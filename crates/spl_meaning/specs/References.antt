-- References: where a name leads, and how words and bytes are read and stored there.
use Rattle.std.specs.Prelude.{ℕ, ◌+◌, ◌-◌, ◌*◌, ◌/◌, ◌%◌, ◌&&◌, Bool, true, false, if◌then◌else◌, nat_lt, List, [], ◌∷◌, length, slice_index, slice_set, Option, Some, None}
use Rattle.hp_word.specs.declared.endings.Trap.TheVariants.{Bounds}
use Rattle.hp_word.specs.Bits.{with_field}
use Rattle.hp_word.specs.Bytes.{byte_at, with_byte}
use Rattle.spl_tree.specs.declared.expressions.Kind.{Kind}
use Rattle.spl_tree.specs.declared.expressions.Kind.TheVariants as kind
use Rattle.spl_meaning.specs.Names as n
use Rattle.spl_meaning.specs.Names.{Names, Sort}
use Rattle.spl_meaning.specs.Places.{Place, data_word, above_base, below_base, below_return, put}
use Rattle.spl_meaning.specs.States.{Data, State, trapped, Outcome, done, ends, strays, has_no_meaning, then_go}

-- Where the statements of a body stand: in a split procedure or not; inside a subroutine or not; how many words stand below the base in the
-- live frame (three of the marker, parameters and result); and of a subroutine, how many stand below its return word (its parameters and
-- result).
pub record Setting : Type 0 where
  pub split : Bool
  pub inside : Bool
  pub below : ℕ
  pub held : ℕ

-- What the parts of a body are read with: its names, where their words stand, the results that may be assigned, and its setting.
pub record Here : Type 0 where
  pub names : Names
  pub places : List ℕ → Option Place
  pub results : List ℕ → Option (Kind × Place)
  pub setting : Setting

-- the address of a place
abbrev pub address_of : Place → Data → ℕ
address_of (data_word a) d = a
address_of (above_base n) d = d.base + n
address_of (below_base n) d = d.base - n
address_of (below_return n) d = d.inner - n

-- ---- words on the stack and in the extra segment

-- the word of a data word; what is none makes the run stray
abbrev pub data_word_read : Option ℕ → State → Outcome ℕ
data_word_read (Some v) s = done v s
data_word_read None s = strays s

-- The word at an address, of the extra segment where `far` says so. On the stack an address that is not below STACK traps Bounds;
-- in the extra segment one that is not below its length does.
abbrev pub word_at : Bool → ℕ → State → Outcome ℕ
word_at true a s = if nat_lt a (length s.now.extra) then done (slice_index s.now.extra a) s else ends (trapped Bounds) s
word_at false a s = if nat_lt a s.now.stack then data_word_read (s.now.mem a) s else ends (trapped Bounds) s

-- the data with a word at an address
abbrev pub placed_word : Bool → ℕ → ℕ → State → State
placed_word true a v s = record s { now = record s.now { extra = slice_set s.now.extra a v } }
placed_word false a v s = record s { now = record s.now { mem = put a v s.now.mem } }

-- ---- locations

-- Where a reference leads, a location: into the extra segment or not, the kind, and an address, which counts bytes for a BYTE.
pub record Located : Type 0 where
  pub far : Bool
  pub kind : Kind
  pub address : ℕ

-- the address of a variable whose words begin at an address: a BYTE is the left half of its word
abbrev pub variable_address : Kind → ℕ → ℕ
variable_address kind.Byte a = 2 * a
variable_address _ a = a

-- the location of a variable whose words begin at an address
abbrev pub variable_located : Kind → ℕ → Located
variable_located k a = record { far = false; kind = k; address = variable_address k a }

-- the address of element i, by the word of a cell: a DOUBLE has two words
abbrev pub element_address : Kind → ℕ → ℕ → ℕ
element_address kind.Double cell i = (cell + 2 * i) % 65536
element_address _ cell i = (cell + i) % 65536

-- the location of element i
abbrev pub element_located : Bool → Kind → ℕ → ℕ → Located
element_located far k cell i = record { far = far; kind = k; address = element_address k cell i }

-- the word at an address, as a value
abbrev pub word_read : Bool → ℕ → State → Outcome (List ℕ)
word_read far a s = then_go (word_at far a s) (λ w s1. done (w ∷ []) s1)

-- the value at a location: one word, two of a DOUBLE, or a byte as a word
abbrev pub read_by : Kind → Bool → ℕ → State → Outcome (List ℕ)
read_by kind.Double far a s = then_go (word_at far a s) (λ high s1. then_go (word_at far ((a + 1) % 65536) s1) (λ low s2. done (high ∷ low ∷ []) s2))
read_by kind.Byte far a s = then_go (word_at far (a / 2) s) (λ w s1. done (byte_at a w ∷ []) s1)
read_by kind.Integer far a s = word_read far a s
read_by kind.Logical far a s = word_read far a s

-- the value at a location
abbrev pub read : Located → State → Outcome (List ℕ)
read p s = read_by p.kind p.far p.address s

-- a value of one word is stored at an address, where a data word stands
abbrev pub word_stored : Bool → ℕ → List ℕ → State → Outcome (Unit {0})
word_stored far a (v ∷ []) s = then_go (word_at far a s) (λ _ s1. done tt (placed_word far a v s1))
word_stored far a vs s = has_no_meaning s

-- A value is stored at a location: a BYTE's word is read first, and its other half stays.
abbrev pub store_by : Kind → Bool → ℕ → List ℕ → State → Outcome (Unit {0})
store_by kind.Double far a (high ∷ low ∷ []) s =
    then_go (word_at far a s) (λ _ s1. then_go (word_at far ((a + 1) % 65536) s1) (λ _ s2.
    done tt (placed_word far ((a + 1) % 65536) low (placed_word far a high s2))))
store_by kind.Double far a vs s = has_no_meaning s
store_by kind.Byte far a (v ∷ []) s = then_go (word_at far (a / 2) s) (λ w s1. done tt (placed_word far (a / 2) (with_byte a (v % 256) w) s1))
store_by kind.Byte far a vs s = has_no_meaning s
store_by kind.Integer far a vs s = word_stored far a vs s
store_by kind.Logical far a vs s = word_stored far a vs s

-- a value is stored at a location
abbrev pub store : Located → List ℕ → State → Outcome (Unit {0})
store p vs s = store_by p.kind p.far p.address vs s

-- a word is stored in a bit field of the word at a location, whose other bits stay
abbrev pub store_field : Located → ℕ → ℕ → List ℕ → State → Outcome (Unit {0})
store_field p start size (v ∷ []) s =
    then_go (word_at p.far p.address s) (λ w s1. done tt (placed_word p.far p.address (with_field w start size v) s1))
store_field p start size vs s = has_no_meaning s

-- ---- names

-- element 0, where there is no index
abbrev pub index_or_zero : Option ℕ → ℕ
index_or_zero None = 0
index_or_zero (Some i) = i

-- the location of a variable with words of its own, which has no index
abbrev pub own_located : Kind → Option Place → Option ℕ → State → Outcome Located
own_located k (Some p) None s = done (variable_located k (address_of p s.now)) s
own_located k _ _ s = has_no_meaning s

-- the location to which the word at a place leads
abbrev pub led_located : Bool → Kind → Option Place → ℕ → State → Outcome Located
led_located far k (Some p) i s = then_go (word_at false (address_of p s.now) s) (λ cell s1. done (element_located far k cell i) s1)
led_located far k None i s = has_no_meaning s

-- a parameter by reference, which has no index: its word is the address of what it stands for
abbrev pub passed_located : Kind → Option Place → Option ℕ → State → Outcome Located
passed_located k p None s = led_located false k p 0 s
passed_located k p (Some i) s = has_no_meaning s

-- the result of the body that has this name
abbrev pub result_located : Option (Kind × Place) → Option ℕ → State → Outcome Located
result_located (Some r) None s = done (variable_located r.0 (address_of r.1 s.now)) s
result_located _ _ s = has_no_meaning s

-- How a name leads to a word: it has words of its own; its word is an address that was passed for it; its cell leads to elements, of a
-- pointer or not; it is a result that is assigned; or it leads nowhere.
pub data Access : Type 0 where
  its_own : Kind → Access
  by_address : Kind → Access
  by_cell : Bool → Kind → Access
  its_result : Access
  nowhere : Access

-- how what a name stands for leads to a word
abbrev pub access_of : Option Sort → Access
access_of (Some (n.simple k own)) = its_own k
access_of (Some (n.value k)) = its_own k
access_of (Some (n.by_reference k)) = by_address k
access_of (Some (n.array k own low high)) = by_cell false k
access_of (Some (n.view k own base)) = by_cell false k
access_of (Some (n.array_parameter k)) = by_cell false k
access_of (Some (n.pointer k own)) = by_cell true k
access_of _ = nowhere

-- on the left of := the name of a procedure or a subroutine is its result
abbrev pub target_access : Option Sort → Access
target_access (Some (n.procedure p)) = its_result
target_access (Some (n.subroutine p)) = its_result
target_access s = access_of s

-- The location of a name with an index. In a split procedure an element that a pointer leads to is in the extra segment.
abbrev pub locate_by : Here → List ℕ → Access → Option ℕ → State → Outcome Located
locate_by h x (its_own k) i s = own_located k (h.places x) i s
locate_by h x (by_address k) i s = passed_located k (h.places x) i s
locate_by h x (by_cell is_pointer k) i s = led_located (is_pointer && h.setting.split) k (h.places x) (index_or_zero i) s
locate_by h x its_result i s = result_located (h.results x) i s
locate_by h x nowhere i s = has_no_meaning s

-- the location of a name with an index
abbrev pub locate : Here → List ℕ → Option ℕ → State → Outcome Located
locate h x i s = locate_by h x (access_of (h.names x)) i s

-- the location of a name on the left of :=
abbrev pub locate_target : Here → List ℕ → Option ℕ → State → Outcome Located
locate_target h x i s = locate_by h x (target_access (h.names x)) i s
