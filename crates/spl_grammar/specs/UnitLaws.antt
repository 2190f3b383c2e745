-- The laws of units.
use Rattle.std.specs.Prelude.{ℕ, Bool, true, ◌≡◌, ◌+◌, ◌≤◌, ◌||◌, not, if◌then◌else◌, ◌++◌, ◌⊎◌, ◌↔◌, List, [], ◌∷◌, map}
use Rattle.spl_reading.specs.spl_tree.declared.tokens.Lexed.{Lexed}
use Rattle.spl_reading.specs.spl_tree.declared.units.SplUnit.{SplUnit}
use Rattle.spl_reading.specs.spl_tree.Symbols.{Lexeme}
use Rattle.spl_reading.specs.spl_tree.DeclarationTrees.{UnitTree}
use Rattle.spl_reading.specs.spl_tree.DeclarationTrees as decl
use Rattle.spl_reading.specs.spl_tree.Declarations as dl
use Rattle.spl_reading.specs.spl_tree.Declarations.{is_subroutine}
use Rattle.spl_reading.specs.spl_tree.Parts as part
use Rattle.spl_reading.specs.spl_tree.OpenExpressions.{Part, Opens, limit, nesting}
use Rattle.spl_reading.specs.spl_tree.Units.{Unit_of}
use Rattle.spl_reading.specs.spl_tree.Views.{letters}
use Rattle.spl_reading.specs.spl_tree.Spells.{Spells, unit_tree}
use Rattle.spl_reading.specs.Readers.{Got, Bad, Parser, refuse}
use Rattle.spl_reading.specs.ReadDeclarations.{BodyRead, declaration, body, bodies, declaration_of, unit}
use Rattle.spl_grammar.specs.Answers.{DeepBefore, Agrees, Explains, Completes, ChainsReach, DeepFirst, Longest, FaultFirst}

-- What is spelled as a unit is read, unless it is too deep before its end.
abbrev pub UnitsAreRead : Type 0
UnitsAreRead = (u : UnitTree) (ts : List Lexeme) (room : ℕ) → Unit_of u ts
    → (unit room ts ≡ Got u []) ⊎ DeepBefore 0 (unit room ts)

-- A fault in a unit depends on no token behind its place: each list that agrees up to that token has the same one, and
-- spells no unit.
abbrev pub UnitFaultsStand : Type 0
UnitFaultsStand = (room : ℕ) (t : Lexeme) (us vs ts more : List Lexeme) → unit room ts ≡ Bad (t ∷ us)
    → Agrees us vs ts more
    → (unit room more ≡ Bad (t ∷ vs)) × ((u : UnitTree) → Unit_of u more → ⊥)

-- A list spells at most one unit, however deep it is.
abbrev pub UnitsAreUnique : Type 0
UnitsAreUnique = (u v : UnitTree) (ts : List Lexeme) → Unit_of u ts → Unit_of v ts → u ≡ v

-- The tokens of a text spell at most one unit: any two have the same tree, are both subprograms or both not, and have
-- the same
-- segments.
abbrev pub TextsSpellOneUnit : Type 0
TextsSpellOneUnit = (lexed : Lexed) (a b : SplUnit) → Spells a lexed → Spells b lexed
    → (unit_tree a ≡ unit_tree b) × (a.subprogram ≡ b.subprogram) ×
    (map letters a.segments.items ≡ map letters b.segments.items)

-- Behind the tokens of each chain a declaration can be completed, in whatever segment.
abbrev pub DeclarationPrefixesAreCompleted : Type 0
DeclarationPrefixesAreCompleted = (procedures after : Bool) (q : Part) (d n j k : ℕ) (ts mid : List Lexeme)
    → Opens (part.declaration procedures after) d n ts q j k mid
    → Completes (λ us rest. (segment : ℕ) → (x : decl.Declaration) × dl.Declaration procedures segment x us rest) ts mid

-- And a unit, which is whole where nothing follows.
abbrev pub UnitPrefixesAreCompleted : Type 0
UnitPrefixesAreCompleted = (q : Part) (d n j k : ℕ) (ts mid : List Lexeme) → Opens part.unit d n ts q j k mid
    → Completes (λ us rest. rest ≡ [] → (u : UnitTree) × Unit_of u us) ts mid

-- A declaration that is spelled, and that may stand there: behind a subroutine, where `after` says so, only
-- subroutines stand.
pub record SpelledDeclaration (procedures after : Bool) (segment : ℕ) (x : decl.Declaration) (ts rest : List Lexeme) :
    Type 0 where
  pub spelled : dl.Declaration procedures segment x ts rest
  pub fits : (is_subroutine x || not after) ≡ true

-- What is read as a declaration is spelled; a fault comes behind tokens that open one, at most as deep as may be; and
-- where it is too deep, the tokens up to and with that one open more. Here d constructs are open around it.
abbrev pub DeclarationsAreExplained : Type 0
DeclarationsAreExplained = (room d : ℕ) (procedures after : Bool) (segment : ℕ) (ts : List Lexeme) → d + room ≡ limit
    → Explains limit (λ x rest. SpelledDeclaration procedures after segment x ts rest)
    (part.declaration procedures after) d 0 ts
    (declaration room (bodies room procedures) procedures after segment ts)

-- And so it is with the bodies of procedures.
abbrev pub BodiesAreExplained : Type 0
BodiesAreExplained = (room d segment : ℕ) (ts : List Lexeme) → d + room ≡ limit
    → Explains limit (λ (b : BodyRead) rest. dl.Body segment b.0 b.1 ts rest) part.body d 0 ts (body room segment ts)

-- The tokens before the second list spell the unit.
pub record SpelledUnit (u : UnitTree) (ts rest : List Lexeme) : Type 0 where
  pub front : List Lexeme
  pub before : ts ≡ front ++ rest
  pub spelled : Unit_of u front

-- And with units: what is read is spelled by the tokens up to the end of the text, whatever stands behind it.
abbrev pub UnitsAreExplained : Type 0
UnitsAreExplained = (room d : ℕ) (ts : List Lexeme) → d + room ≡ limit
    → Explains limit (λ u rest. SpelledUnit u ts rest) part.unit d 0 ts (unit room ts)

-- A list is read as a unit to its end exactly where it spells that unit and is not too deep.
abbrev pub UnitsAreReadExactly : Type 0
UnitsAreReadExactly = (u : UnitTree) (ts : List Lexeme) (room : ℕ)
    → (unit room ts ≡ Got u []) ↔ (Unit_of u ts × (DeepBefore 0 (unit room ts) → ⊥))

-- A unit is read where no chain over its tokens has more open than may be.
abbrev pub ShallowUnitsAreRead : Type 0
ShallowUnitsAreRead = (u : UnitTree) (ts : List Lexeme) (room d : ℕ) → d + room ≡ limit → Unit_of u ts
    → ((q : Part) (j k : ℕ) (mid : List Lexeme) → Opens part.unit d 0 ts q j k mid → nesting j k ≤ limit)
    → unit room ts ≡ Got u []

-- A fault in a unit stands at the first token that can't: some unit begins with the tokens before it, and none with
-- those up to it.
abbrev pub UnitFaultsAreFirst : Type 0
UnitFaultsAreFirst = (room : ℕ) (t : Lexeme) (us ts : List Lexeme) → unit room ts ≡ Bad (t ∷ us)
    → Completes (λ vs rest. rest ≡ [] → (u : UnitTree) × Unit_of u vs) ts (t ∷ us) ×
    ((vs more : List Lexeme) → Agrees us vs ts more → (u : UnitTree) → Unit_of u more → ⊥)

-- Each chain of a declaration goes no further than what is read, whatever the segment.
abbrev pub DeclarationsReach : Type 0
DeclarationsReach = (procedures after : Bool) (segment : ℕ)
    → ChainsReach (part.declaration procedures after) (declaration_of procedures after segment)

-- Where a declaration is too deep at a token, no chain over the tokens before it has more open than may be.
abbrev pub DeclarationsSinkFirst : Type 0
DeclarationsSinkFirst = (procedures after : Bool) (segment : ℕ)
    → DeepFirst (part.declaration procedures after) (declaration_of procedures after segment)

-- No chain goes over the token behind a declaration that was read.
abbrev pub DeclarationsAreLongest : Type 0
DeclarationsAreLongest = (procedures after : Bool) (segment : ℕ)
    → Longest (part.declaration procedures after) (declaration_of procedures after segment)

-- No chain of a declaration goes over the token at which a fault stands.
abbrev pub DeclarationsFailFirst : Type 0
DeclarationsFailFirst = (procedures after : Bool) (segment : ℕ)
    → FaultFirst (part.declaration procedures after) (declaration_of procedures after segment)

-- Each chain of a unit goes no further than what is read.
abbrev pub UnitsReach : Type 0
UnitsReach = ChainsReach part.unit unit

-- Where a unit is too deep at a token, no chain over the tokens before it has more open than may be.
abbrev pub UnitsSinkFirst : Type 0
UnitsSinkFirst = DeepFirst part.unit unit

-- No chain of a unit goes over the token at which a fault stands. (That a unit is the longest needs no law: nothing
-- follows it.)
abbrev pub UnitsFailFirst : Type 0
UnitsFailFirst = FaultFirst part.unit unit
