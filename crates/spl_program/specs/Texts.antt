-- The texts of a program's units, one behind the other: the tokens that they are cut into and the units that these spell, or the
-- first fault of tokens, or of spelling.
use Rattle.std.specs.Prelude.{ℕ, ◌≡◌, ◌+◌, List, [], ◌∷◌, Some}
use Rattle.spl_tree.specs.declared.names_and_places.At.{At}
use Rattle.spl_tree.specs.declared.fault_kinds.FaultKind.{FaultKind}
use Rattle.spl_tree.specs.declared.fault_kinds.FaultKind.TheVariants as kind
use Rattle.spl_tree.specs.Symbols.{Lexeme}
use Rattle.spl_cuts.specs.declared.faults.LexKind.{LexKind}
use Rattle.spl_cuts.specs.Signs.{Listed}
use Rattle.spl_cuts.specs.Cutting.{CutsWithin, FirstFault}
use Rattle.spl_cuts.specs.Lexemes.{lexemes}
use Rattle.spl_sound.specs.spl_reading.Readers.{Got, Bad, Deep}
use Rattle.spl_sound.specs.spl_grammar.Verdicts.{Verdict}
use Rattle.spl_sound.specs.spl_meaning.Tables.{Source}
use Rattle.spl_program.specs.Kinds.{kind_of}

-- the most tokens that may arise in a text
abbrev pub most_tokens : ℕ
most_tokens = 262144

-- the texts are cut into these lists, the first as that of the unit with number n
pub data AreCut : ℕ → List (List ℕ) → List Listed → Type 0 where
  none : {n : ℕ} → AreCut n [] []
  more : {n : ℕ} {text : List ℕ} {texts : List (List ℕ)} {x : Listed} {xs : List Listed} → CutsWithin n most_tokens text x
      → AreCut (n + 1) texts xs → AreCut n (text ∷ texts) (x ∷ xs)

-- a text has this fault of tokens
pub record IsUncut (n : ℕ) (text : List ℕ) (k : FaultKind) (at : At) : Type 0 where
  pub lexical : LexKind
  pub named : kind_of lexical ≡ Some k
  pub first : FirstFault n most_tokens text lexical at

-- the first of the texts that is not cut has this fault
pub data FirstUncut : ℕ → List (List ℕ) → FaultKind → At → Type 0 where
  here : {n : ℕ} {text : List ℕ} {texts : List (List ℕ)} {k : FaultKind} {at : At} → IsUncut n text k at
      → FirstUncut n (text ∷ texts) k at
  behind : {n : ℕ} {text : List ℕ} {texts : List (List ℕ)} {k : FaultKind} {at : At} (x : Listed) → CutsWithin n most_tokens text x
      → FirstUncut (n + 1) texts k at → FirstUncut n (text ∷ texts) k at

-- the tokens of a text spell the unit, nowhere too deep
pub record IsSpelled (x : Listed) (u : Source) : Type 0 where
  pub subprogram : u.subprogram ≡ x.subprogram
  pub segments : u.segments ≡ x.segments
  pub spelled : Verdict (lexemes x) (Got u.tree [])

-- those of each text spell its unit
pub data AreUnits : List Listed → List Source → Type 0 where
  none : AreUnits [] []
  more : {x : Listed} {xs : List Listed} {u : Source} {us : List Source} → IsSpelled x u → AreUnits xs us → AreUnits (x ∷ xs) (u ∷ us)

-- the tokens spell no unit: there is a first that no unit goes on with, or a first at which more is open than may be
pub data IsUnspelled : Listed → FaultKind → At → Type 0 where
  refused : {x : Listed} {t : Lexeme} {rest : List Lexeme} → Verdict (lexemes x) (Bad (t ∷ rest)) → IsUnspelled x kind.Syntax t.at
  too_deep : {x : Listed} {t : Lexeme} {rest : List Lexeme} → Verdict (lexemes x) (Deep (t ∷ rest)) → IsUnspelled x kind.TooDeep t.at

-- the first text whose tokens spell no unit has this fault
pub data FirstUnspelled : List Listed → FaultKind → At → Type 0 where
  here : {x : Listed} {xs : List Listed} {k : FaultKind} {at : At} → IsUnspelled x k at → FirstUnspelled (x ∷ xs) k at
  behind : {x : Listed} {xs : List Listed} {k : FaultKind} {at : At} (u : Source) → IsSpelled x u → FirstUnspelled xs k at
      → FirstUnspelled (x ∷ xs) k at
