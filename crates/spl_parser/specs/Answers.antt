-- What the parser answers of a text's tokens.
use Rattle.std.specs.Prelude.{ℕ, ◌≡◌, ◌<◌, List, [], length, drop, map, Result, Ok, Err}
use Rattle.spl_tree.specs.declared.tokens.Lexed.{Lexed}
use Rattle.spl_tree.specs.declared.units.SplUnit.{SplUnit}
use Rattle.spl_tree.specs.Symbols.{Lexeme, lexeme_of}
use Rattle.spl_tree.specs.DeclarationTrees.{UnitTree}
use Rattle.spl_tree.specs.Spells.{Spells, unit_tree}
use Rattle.spl_grammar.specs.spl_reading.Readers.{Outcome, Got, Bad, Deep}
use Rattle.spl_grammar.specs.Verdicts.{Verdict, NotTooDeep}
use Rattle.spl_tokens.specs.declared.faults.Fault.{Fault}
use Rattle.spl_tokens.specs.declared.faults.Fault.TheVariants as fault
use Rattle.spl_tokens.specs.declared.faults.ParseFault.{ParseFault}
use Rattle.spl_tokens.specs.declared.faults.ParseFault.TheVariants.{Syntax, TooDeep, NoMemory}

-- the tokens of a text, as the grammar sees them
abbrev pub tokens_of : Lexed → List Lexeme
tokens_of lexed = map lexeme_of lexed.tokens.items

-- The text is spelled by the unit, and nowhere too deep; or the tokens before the place open a unit that is not too
-- deep, and
-- with that one they begin none; or with the token at the place, and with none before, more is open than may be.
abbrev pub Answers : Lexed → Result SplUnit ParseFault → Type 0
Answers lexed (Ok unit) = Spells unit lexed × NotTooDeep [] (tokens_of lexed)
Answers lexed (Err (Syntax at)) = (at < length (tokens_of lexed))
    × Verdict (tokens_of lexed) (Bad (drop at (tokens_of lexed)))
Answers lexed (Err (TooDeep at)) = (at < length (tokens_of lexed))
    × Verdict (tokens_of lexed) (Deep (drop at (tokens_of lexed)))
Answers lexed (Err NoMemory) = Unit {0}

-- the answer is what the list comes to
abbrev pub Says : Lexed → Result SplUnit ParseFault → Outcome UnitTree → Type 0
Says lexed (Ok unit) o = o ≡ Got (unit_tree unit) []
Says lexed (Err (Syntax at)) o = o ≡ Bad (drop at (tokens_of lexed))
Says lexed (Err (TooDeep at)) o = o ≡ Deep (drop at (tokens_of lexed))
Says lexed (Err NoMemory) o = Unit {0}

-- whatever the list comes to, the answer is that
abbrev pub Exact : Lexed → Result SplUnit ParseFault → Type 0
Exact lexed result = (o : Outcome UnitTree) → Verdict (tokens_of lexed) o → Says lexed result o

-- a fault at a place
abbrev pub placed : Fault → ℕ → ParseFault
placed fault.Syntax at = Syntax at
placed fault.TooDeep at = TooDeep at
placed fault.NoMemory at = NoMemory
