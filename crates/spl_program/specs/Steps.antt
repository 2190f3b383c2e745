-- What is answered on the way to a program: for one text, and for all of them.
use Rattle.std.specs.Prelude.{ℕ, ◌≡◌, ◌≤◌, List, length, slice_get, Some}
use Rattle.spl_tree.specs.declared.tokens.Lexed.{Lexed}
use Rattle.spl_cuts.specs.Signs.{Listed}
use Rattle.spl_sound.specs.spl_grammar.Ends.{Ended}
use Rattle.spl_parser.specs.Answers.{tokens_of}
use Rattle.spl_sound.specs.spl_meaning.Faults.{fault}
use Rattle.spl_sound.specs.spl_meaning.Sound.{first_broken}
use Rattle.spl_sound.specs.spl_meaning.Tables.{Source}
use Rattle.spl_program.specs.declared.faults.ProgramFault.{ProgramFault}
use Rattle.spl_program.specs.declared.faults.ProgramFault.TheVariants as why
use Rattle.spl_program.specs.Texts.{IsUncut, FirstUncut, IsUnspelled, FirstUnspelled}

-- the fault is one of a text's tokens, unless memory was wanting
abbrev pub UncutBy : ℕ → List ℕ → ProgramFault → Type 0
UncutBy n text (why.Text k at) = IsUncut n text k at
UncutBy n text (why.Rule rule at) = ⊥
UncutBy n text (why.Limit limit at) = ⊥
UncutBy n text why.NoMemory = Unit {0}

-- it is the first of the texts', from unit n on
abbrev pub UncutAmong : ℕ → List (List ℕ) → ProgramFault → Type 0
UncutAmong n texts (why.Text k at) = FirstUncut n texts k at
UncutAmong n texts (why.Rule rule at) = ⊥
UncutAmong n texts (why.Limit limit at) = ⊥
UncutAmong n texts why.NoMemory = Unit {0}

-- the fault is one of spelling, unless memory was wanting
abbrev pub UnspelledBy : Listed → ProgramFault → Type 0
UnspelledBy x (why.Text k at) = IsUnspelled x k at
UnspelledBy x (why.Rule rule at) = ⊥
UnspelledBy x (why.Limit limit at) = ⊥
UnspelledBy x why.NoMemory = Unit {0}

-- it is the first of some texts
abbrev pub UnspelledAmong : List Listed → ProgramFault → Type 0
UnspelledAmong xs (why.Text k at) = FirstUnspelled xs k at
UnspelledAmong xs (why.Rule rule at) = ⊥
UnspelledAmong xs (why.Limit limit at) = ⊥
UnspelledAmong xs why.NoMemory = Unit {0}

-- the rule is the first that units break, unless memory was wanting
abbrev pub BrokenBy : List Source → ProgramFault → Type 0
BrokenBy us (why.Rule rule at) = first_broken us ≡ Some (fault rule at)
BrokenBy us (why.Text k at) = ⊥
BrokenBy us (why.Limit limit at) = ⊥
BrokenBy us why.NoMemory = Unit {0}

-- tokens that can be parsed: no more than may be, and ending with the end of their text
pub record IsReady (x : Lexed) : Type 0 where
  pub few : length x.tokens.items ≤ 262145
  pub ended : Ended (tokens_of x)

abbrev pub AreReady : List Lexed → Type 0
AreReady xs = (i : ℕ) (x : Lexed) → slice_get xs i ≡ Some x → IsReady x
