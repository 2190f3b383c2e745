-- What the texts of a program's units come to: units that break no rule, or the first fault. Faults of tokens, of any unit, come
-- before those of spelling, these before broken rules, and these before limits.
use Rattle.std.specs.Prelude.{ℕ, ◌≡◌, ◌≤◌, List, map, length, slice_get, None, Some, Result, Ok, Err}
use Rattle.spl_tree.specs.declared.names_and_places.At.{At}
use Rattle.spl_tree.specs.declared.fault_kinds.FaultKind.{FaultKind}
use Rattle.spl_tree.specs.declared.names_and_places.Chars.{Chars}
use Rattle.spl_cuts.specs.Signs.{Listed}
use Rattle.spl_sound.specs.spl_meaning.Faults.{fault}
use Rattle.spl_sound.specs.spl_meaning.Limits.{first_full}
use Rattle.spl_sound.specs.spl_meaning.Sound.{IsSound, first_broken}
use Rattle.spl_sound.specs.spl_meaning.Tables.{Source}
use Rattle.spl_sound.specs.declared.units.Sound.{Sound}
use Rattle.spl_sound.specs.Spelled.{source_of}
use Rattle.spl_program.specs.declared.faults.ProgramFault.{ProgramFault}
use Rattle.spl_program.specs.declared.faults.ProgramFault.TheVariants as why
use Rattle.spl_program.specs.Texts.{AreCut, FirstUncut, AreUnits, FirstUnspelled}

-- the bytes of each text
abbrev pub texts_of : List Chars → List (List ℕ)
texts_of texts = map (λ t. t.bytes.items) texts

-- no text has more than 1,048,576 bytes
abbrev pub AreShort : List Chars → Type 0
AreShort texts = (i : ℕ) (t : Chars) → slice_get texts i ≡ Some t → length t.bytes.items ≤ 1048576

-- the texts are cut into tokens, and these spell the units
pub record Spell (texts : List (List ℕ)) (us : List Source) : Type 0 where
  pub lists : List Listed
  pub cut : AreCut 1 texts lists
  pub units : AreUnits lists us

-- they spell units that break no rule and pass no limit
pub record IsProgram (texts : List (List ℕ)) (us : List Source) : Type 0 where
  pub spell : Spell texts us
  pub sound : IsSound us
  pub within : first_full us ≡ None

-- The first fault of the texts: a fault of tokens; where all are cut, a fault of spelling; where all spell units, the first rule that
-- these break; and where they break none, the first limit that they pass.
pub data IsFault (texts : List (List ℕ)) : ProgramFault → Type 0 where
  tokens : {k : FaultKind} {at : At} → FirstUncut 1 texts k at → IsFault texts (why.Text k at)
  spelling : {k : FaultKind} {at : At} (lists : List Listed) → AreCut 1 texts lists → FirstUnspelled lists k at → IsFault texts (why.Text k at)
  rules : {rule : ℕ} {at : At} (us : List Source) → Spell texts us → first_broken us ≡ Some (fault rule at) → IsFault texts (why.Rule rule at)
  limits : {limit count : ℕ} {at : At} (us : List Source) → Spell texts us → IsSound us → first_full us ≡ Some (record { limit = limit; at = at; count = count })
      → IsFault texts (why.Limit limit at)

-- the fault that is told is the texts', unless memory was wanting
abbrev pub Tells : List (List ℕ) → ProgramFault → Type 0
Tells texts why.NoMemory = Unit {0}
Tells texts f = IsFault texts f

-- the answer is these units, unless memory was wanting
abbrev pub Gives : Result Sound ProgramFault → List Source → Type 0
Gives (Ok s) us = map source_of s.units.items ≡ us
Gives (Err why.NoMemory) us = Unit {0}
Gives (Err f) us = ⊥

-- the answer is this fault, unless memory was wanting
abbrev pub Refuses : Result Sound ProgramFault → ProgramFault → Type 0
Refuses (Ok s) f = ⊥
Refuses (Err why.NoMemory) f = Unit {0}
Refuses (Err g) f = g ≡ f
