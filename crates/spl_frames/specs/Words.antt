-- Words and bytes: what a run works on is of sixteen bits, where its lines are bytes.
use Rattle.std.specs.Prelude.{ℕ, ◌≡◌, ◌<◌, List, [], ◌∷◌, Some}
use Rattle.spl_meaning.specs.States.{Data, Outcome, done, leaves, spent, ends, strays}
use Rattle.spl_meaning.specs.Runs.{LinesAreBytes}

-- each of these is such
abbrev pub AllOf : (ℕ → Type 0) → List ℕ → Type 0
AllOf W [] = Unit {0}
AllOf W (w ∷ ws) = W w × AllOf W ws

-- each is a word: a number below 65,536
abbrev pub AreWords : List ℕ → Type 0
AreWords ws = AllOf (λ w. w < 65536) ws

-- data whose words, on the stack and in the extra segment, are such, and whose lines are bytes
pub record IsOfWords (d : Data) : Type 0 where
  pub stack : (a v : ℕ) → d.mem a ≡ Some v → v < 65536
  pub extra : AreWords d.extra
  pub lines : LinesAreBytes d.lines

-- an outcome with such data, however it came
abbrev pub OfWords : {A : Type 0} → Outcome A → Type 0
OfWords (done a s) = IsOfWords s.now
OfWords (leaves x s) = IsOfWords s.now
OfWords (spent s) = IsOfWords s.now
OfWords (ends e s) = IsOfWords s.now
OfWords (strays s) = IsOfWords s.now

-- and whose value, where there is one, is of words
abbrev pub GivesWords : Outcome (List ℕ) → Type 0
GivesWords (done ws s) = AreWords ws × IsOfWords s.now
GivesWords o = OfWords o
