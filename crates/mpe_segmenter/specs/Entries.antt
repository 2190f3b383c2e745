-- The entries of a segment: its procedures, subroutines and the main body in order of text, then the names that it wants, in order
-- of first call. Entries are counted from 1.
use Rattle.std.specs.Prelude.{ℕ, ◌+◌, ◌&&◌, ◌||◌, Bool, false, not, if◌then◌else◌, List, [], ◌∷◌, ◌++◌, length, map, Option, Some, None, option_map, unwrap_or, is_some, codes}
use Rattle.std.specs.Bool.{beq}
use Rattle.std.specs.Str.{bytes_eq}
use Rattle.spl_branch.specs.declared.modules.Define.{Define}
use Rattle.spl_branch.specs.declared.modules.Want.{Want}
use Rattle.spl_branch.specs.declared.modules.Module.{Module}

-- an entry that leads into the segment: its offset there, and the name under which other modules may call it
pub record Own : Type 0 where
  pub name : List ℕ
  pub callable : Bool
  pub offset : ℕ

-- the entry of a define whose module's words begin at `base`
abbrev pub own_of : ℕ → Define → Own
own_of base d = record { name = d.name.text.items; callable = d.callable; offset = base + d.offset }

-- the entry of the main body, where it is in the module; no module may call it
abbrev pub main_of : ℕ → Option ℕ → List Own
main_of base None = []
main_of base (Some offset) = record { name = []; callable = false; offset = base + offset } ∷ []

-- the entries of modules one behind the other, the first one's words beginning at `base`
abbrev pub owns : ℕ → List Module → List Own
owns base [] = []
owns base (m ∷ ms) = map (own_of base) m.defines.items ++ main_of base m.main ++ owns (base + m.size) ms

-- a procedure that may be called by this name
abbrev pub is_called : List ℕ → Own → Bool
is_called name o = o.callable && bytes_eq name o.name

-- the place of the procedure that may be called by this name, counted from 0
abbrev pub called_at : List ℕ → List Own → Option ℕ
called_at name [] = None
called_at name (o ∷ os) = if is_called name o then Some 0 else option_map (λ k. 1 + k) (called_at name os)

-- a name that is wanted, and whether it is an intrinsic's
pub record Wanted : Type 0 where
  pub name : List ℕ
  pub gate : Bool

-- the want of a module
abbrev pub wanted_of : Want → Wanted
wanted_of w = record { name = w.name.text.items; gate = w.gate }

abbrev pub is_same : Wanted → Wanted → Bool
is_same v w = bytes_eq v.name w.name && beq v.gate w.gate

abbrev pub is_wanted : Wanted → List Wanted → Bool
is_wanted w [] = false
is_wanted w (v ∷ vs) = is_same w v || is_wanted w vs

-- a procedure of the same segment meets a want that is no intrinsic's
abbrev pub is_met : List Own → Wanted → Bool
is_met os w = not w.gate && is_some (called_at w.name os)

-- the names wanted with one more, unless it is there
abbrev pub with_want : List Wanted → Wanted → List Wanted
with_want vs w = if is_wanted w vs then vs else vs ++ w ∷ []

-- the names that a segment wants, each once, those left out that its procedures meet
abbrev pub wants_from : List Own → List Wanted → List Wanted → List Wanted
wants_from os vs [] = vs
wants_from os vs (w ∷ ws) = wants_from os (if is_met os w then vs else with_want vs w) ws

-- the wants of modules, in order
abbrev pub all_wants : List Module → List Wanted
all_wants [] = []
all_wants (m ∷ ms) = map wanted_of m.wants.items ++ all_wants ms

-- the place of a want among others
abbrev pub want_at : Wanted → List Wanted → ℕ
want_at w [] = 0
want_at w (v ∷ vs) = if is_same w v then 0 else want_at w vs + 1

-- how many entries a module has of its own
abbrev pub own_count : Module → ℕ
own_count m = length m.defines.items + (if is_some m.main then 1 else 0)

-- how many modules have
abbrev pub owned : List Module → ℕ
owned [] = 0
owned (m ∷ ms) = own_count m + owned ms

-- the entries of a segment
pub record Table : Type 0 where
  pub own : List Own
  pub wanted : List Wanted

-- the entries of the segment that these modules make
abbrev pub table_of : List Module → Table
table_of ms = record { own = owns 0 ms; wanted = wants_from (owns 0 ms) [] (all_wants ms) }

-- how many entries a segment has
abbrev pub entry_count : Table → ℕ
entry_count t = length t.own + length t.wanted

-- the entry of a want: that of the procedure of the same segment that meets it, or its own
abbrev pub entry_of : Table → Wanted → ℕ
entry_of t w = 1 + unwrap_or (if w.gate then None else called_at w.name t.own) (length t.own + want_at w t.wanted)

-- the first of two
abbrev pub either : {A : Type 0} → Option A → Option A → Option A
either (Some a) other = Some a
either None other = other

-- where a name may be called from anywhere: the segment and the entry of its procedure
abbrev pub home_from : ℕ → List Table → List ℕ → Option (ℕ × ℕ)
home_from s [] name = None
home_from s (t ∷ ts) name = either (option_map (λ k. (s, 1 + k)) (called_at name t.own)) (home_from (s + 1) ts name)

-- the intrinsics by their entries in the gate
abbrev pub gates : List (List ℕ)
gates = codes "PRINT" ∷ codes "READ" ∷ codes "ASCII" ∷ codes "DASCII" ∷ codes "BINARY" ∷ codes "DBINARY" ∷ codes "TERMINATE" ∷ codes "QUIT" ∷ []

-- the entry of an intrinsic, counted from 1; 0 of no intrinsic
abbrev pub gate_from : ℕ → List (List ℕ) → List ℕ → ℕ
gate_from k [] name = 0
gate_from k (g ∷ gs) name = if bytes_eq name g then k else gate_from (k + 1) gs name

abbrev pub gate_of : List ℕ → ℕ
gate_of name = gate_from 1 gates name
