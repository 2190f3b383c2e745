-- What the text of a unit comes to: the unit that it spells, or its first fault. Faults of tokens come before those of spelling.
use Rattle.std.specs.Prelude.{ℕ, ◌≡◌, ◌<◌, Bool, List, [], ◌∷◌, map, length, Option, Some, None, Result, Ok, Err, drop}
use Rattle.spl_tree.specs.declared.names_and_places.At.{At}
use Rattle.spl_tree.specs.declared.tokens.Lexed.{Lexed}
use Rattle.spl_tree.specs.declared.units.SplUnit.{SplUnit}
use Rattle.spl_tree.specs.Symbols.{Lexeme}
use Rattle.spl_tree.specs.Expressions.{place}
use Rattle.spl_tree.specs.DeclarationTrees.{UnitTree}
use Rattle.spl_tree.specs.Views.{letters}
use Rattle.spl_tree.specs.Spells.{unit_tree}
use Rattle.spl_cuts.specs.declared.faults.LexKind.{LexKind}
use Rattle.spl_cuts.specs.declared.faults.LexFault.{LexFault}
use Rattle.spl_cuts.specs.Signs.{Listed}
use Rattle.spl_cuts.specs.Cutting.{CutsWithin, FirstFault}
use Rattle.spl_parser.specs.spl_reading.Readers.{Got, Bad, Deep}
use Rattle.spl_parser.specs.spl_grammar.Verdicts.{Verdict}
use Rattle.spl_parser.specs.spl_tokens.declared.faults.ParseFault.{ParseFault}
use Rattle.spl_parser.specs.spl_tokens.declared.faults.ParseFault.TheVariants as parse
use Rattle.spl_parser.specs.Answers.{tokens_of}
use Rattle.spl_tree.specs.declared.fault_kinds.FaultKind.{FaultKind}
use Rattle.spl_tree.specs.declared.fault_kinds.FaultKind.TheVariants as kind
use Rattle.spl_front.specs.declared.faults.UnitFault.{UnitFault}
use Rattle.spl_front.specs.declared.faults.UnitFault.TheVariants as fault
use Rattle.spl_front.specs.Kinds.{kind_of}
use Rattle.spl_cuts.specs.Lexemes.{lexemes}

-- the most tokens that may arise in a text
abbrev pub most_tokens : ℕ
most_tokens = 262144

-- a unit: whether its text makes it a subprogram, the names of the text's segments, and its tree
pub record Source : Type 0 where
  pub subprogram : Bool
  pub segments : List (List ℕ)
  pub tree : UnitTree

abbrev pub source_of : SplUnit → Source
source_of u = record { subprogram = u.subprogram; segments = map letters u.segments.items; tree = unit_tree u }

-- the text is cut into tokens, and these spell the unit, nowhere too deep
pub record Spells (unit : ℕ) (text : List ℕ) (s : Source) : Type 0 where
  pub listed : Listed
  pub cut : CutsWithin unit most_tokens text listed
  pub subprogram : s.subprogram ≡ listed.subprogram
  pub segments : s.segments ≡ listed.segments
  pub spelled : Verdict (lexemes listed) (Got s.tree [])

-- The text's first fault: one of its tokens; or it is cut into tokens, and there is a first one that no unit goes on with, or a
-- first one at which more is open than may be.
pub data HasFault (unit : ℕ) (text : List ℕ) : FaultKind → At → Type 0 where
  of_tokens : {k : FaultKind} {at : At} (l : LexKind) → kind_of l ≡ Some k → FirstFault unit most_tokens text l at
      → HasFault unit text k at
  of_spelling : {t : Lexeme} {rest : List Lexeme} (x : Listed) → CutsWithin unit most_tokens text x
      → Verdict (lexemes x) (Bad (t ∷ rest)) → HasFault unit text kind.Syntax t.at
  of_depth : {t : Lexeme} {rest : List Lexeme} (x : Listed) → CutsWithin unit most_tokens text x
      → Verdict (lexemes x) (Deep (t ∷ rest)) → HasFault unit text kind.TooDeep t.at

-- the fault that is told is the text's, unless memory was wanting
abbrev pub Tells : ℕ → List ℕ → UnitFault → Type 0
Tells unit text (fault.Fault kind at) = HasFault unit text kind at
Tells unit text fault.NoMemory = Unit {0}

-- the answer is this unit, unless memory was wanting
abbrev pub Gives : Result SplUnit UnitFault → Source → Type 0
Gives (Ok u) s = source_of u ≡ s
Gives (Err (fault.Fault kind at)) s = ⊥
Gives (Err fault.NoMemory) s = Unit {0}

-- the answer is this fault, unless memory was wanting
abbrev pub Refuses : Result SplUnit UnitFault → FaultKind → At → Type 0
Refuses (Ok u) k at = ⊥
Refuses (Err (fault.Fault kind there)) k at = (kind ≡ k) × (there ≡ at)
Refuses (Err fault.NoMemory) k at = Unit {0}

-- a fault of tokens
abbrev pub with_kind : Option FaultKind → At → UnitFault
with_kind None at = fault.NoMemory
with_kind (Some k) at = fault.Fault k at

abbrev pub lex_fault_of : LexFault → UnitFault
lex_fault_of f = with_kind (kind_of f.kind) f.at

-- the fault stands at a token
abbrev pub Stands : Lexed → ParseFault → Type 0
Stands lexed (parse.Syntax at) = at < length lexed.tokens.items
Stands lexed (parse.TooDeep at) = at < length lexed.tokens.items
Stands lexed parse.NoMemory = Unit {0}

-- the place of a token
abbrev pub place_of : Lexed → ℕ → At
place_of lexed at = place (drop at (tokens_of lexed))

-- a fault of spelling, at the place of its token
abbrev pub parse_fault_of : Lexed → ParseFault → UnitFault
parse_fault_of lexed (parse.Syntax at) = fault.Fault kind.Syntax (place_of lexed at)
parse_fault_of lexed (parse.TooDeep at) = fault.Fault kind.TooDeep (place_of lexed at)
parse_fault_of lexed parse.NoMemory = fault.NoMemory
