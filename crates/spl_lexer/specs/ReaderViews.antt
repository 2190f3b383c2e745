-- A place in a text and what the pieces before it told, as the cutting of texts sees it.
use Rattle.std.specs.Prelude.{ℕ, ◌≡◌, ◌≢◌, ◌≤◌, ◌+◌, ◌*◌, ◌||◌, List, [], map, length, Result, Ok, Err}
use Rattle.spl_cuts.specs.declared.faults.LexKind.{LexKind}
use Rattle.spl_cuts.specs.declared.faults.LexKind.TheVariants as k
use Rattle.spl_cuts.specs.declared.faults.LexFault.{LexFault}
use Rattle.spl_tree.specs.declared.names_and_places.At.{At}
use Rattle.spl_tree.specs.declared.tokens.Lexed.{Lexed}
use Rattle.spl_cuts.specs.Signs.{Listed}
use Rattle.spl_cuts.specs.Bytes as by
use Rattle.spl_cuts.specs.Commands.{Setting, segment_after, has_subprogram}
use Rattle.spl_cuts.specs.Pieces as pt
use Rattle.spl_cuts.specs.Defines as df
use Rattle.spl_cuts.specs.Cutting as cu
use Rattle.spl_cuts.specs.Reading as rd
use Rattle.spl_lexer.specs.TokenViews.{listed_of}
use Rattle.spl_lexer.specs.StateViews.{FailsBy, IsKept}
use Rattle.spl_lexer.specs.declared.reader.Here.{Here}

-- a place with what is in force there
abbrev pub here_of : Here → cu.Here
here_of h = record { at = h.at; segment = h.segment.text.items; subprogram = h.subprogram }

-- a place at which these options are put in force
abbrev pub with_settings : cu.Here → List Setting → cu.Here
with_settings h os = record { at = h.at; segment = segment_after h.segment os; subprogram = h.subprogram || has_subprogram os }

-- What a piece of these bytes gives is added, and the place and state behind it are these; or it fails so, unless memory
-- was wanting.
abbrev pub Adds : cu.Here → df.State → pt.Item → List ℕ → Result (Unit {0}) LexKind → cu.Here → df.State → Type 0
Adds h s item front (Ok u) there s1 = (rd.added 262144 h s item ≡ Ok s1) × (there ≡ cu.after h front item)
Adds h s item front (Err kind) there s1 = FailsBy (rd.added 262144 h s item) kind

-- the fault of this kind and place is the answer, unless memory was wanting
abbrev pub Faults : Result Listed (LexKind × At) → LexKind → At → Type 0
Faults answer k.NoMemory at = Unit {0}
Faults answer kind at = answer ≡ Err (kind, at)

-- the list, or the fault, is the answer
abbrev pub Answers : Result Listed (LexKind × At) → Result Lexed LexFault → Type 0
Answers answer (Ok x) = answer ≡ Ok (listed_of x)
Answers answer (Err f) = Faults answer f.kind f.at

-- what is read of a text that begins here, behind what was found
abbrev pub reading : cu.Here → df.State → List ℕ → Result Listed (LexKind × At)
reading h s text = rd.read 262144 0 h s text

-- What holds where a text of at most 1 MiB is read, of which this is left: the second text has blanks, and there is room
-- for the segments and places behind.
pub record IsLeft (h : cu.Here) (s : df.State) (text blanks : List ℕ) : Type 0 where
  pub blanked : blanks ≡ map by.blanked text
  pub kept : IsKept s
  pub segments : 17 * length (cu.with_name (cu.with_names [] s.found) h.segment) + length text ≤ 1048593
  pub line : h.at.line + length text ≤ 1048577
  pub column : h.at.column + length text ≤ 1048577

-- the answer is this list, unless memory was wanting
abbrev pub Gives : Result Lexed LexFault → Listed → Type 0
Gives (Ok x) y = listed_of x ≡ y
Gives (Err f) y = f.kind ≡ k.NoMemory

-- the answer is this fault, unless memory was wanting
abbrev pub Refuses : Result Lexed LexFault → LexKind → At → Type 0
Refuses (Ok x) kind at = ⊥
Refuses (Err f) kind at = f.kind ≢ k.NoMemory → (f.kind ≡ kind) × (f.at ≡ at)
