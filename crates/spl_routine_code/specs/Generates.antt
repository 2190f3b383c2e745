-- What it means that bodies were appended to the code of their module.
use Rattle.std.specs.Prelude.{◌≡◌, ℕ, ◌+◌, ◌++◌, Bool, true, false, List, length, replicate, slice_set}
use Rattle.spl_branch.specs.declared.buffer.Code.{Code}
use Rattle.spl_branch.specs.Codes.{SameFrame}
use Rattle.spl_label_marks.specs.spl_code.Parts.{Part, wants_of}
use Rattle.spl_label_marks.specs.spl_code.Appends.{behind}

-- Code `d` is code `c` with a part behind it that is the body of an entry: the entry's mark was made before and is set, all marks that the part
-- makes stand behind the others and are set, and no other has changed; its wants are those of the part; name, entries and main body stay.
pub record Generates (entry : ℕ) (part : Part) (c d : Code) : Type 0 where
  pub pieces : d.pieces.items ≡ c.pieces.items ++ (behind part c).pieces
  pub marks : d.marks.items ≡ slice_set c.marks.items entry true ++ replicate (behind part c).marks true
  pub wants : wants_of d.wants.items ≡ (behind part c).wants
  pub same : SameFrame c d

-- marks of entries that may be set, as many as they are from one on
pub record AreOpen (first count : ℕ) (marks : List Bool) : Type 0 where
  pub before : List Bool
  pub behind : List Bool
  pub first_is : length before ≡ first
  pub is : marks ≡ before ++ (replicate count false ++ behind)

-- Code `d` is code `c` with a part behind it that is the bodies of so many entries from one on, all of which are set.
pub record GeneratesFrom (first count : ℕ) (part : Part) (c d : Code) : Type 0 where
  pub pieces : d.pieces.items ≡ c.pieces.items ++ (behind part c).pieces
  pub number : length d.marks.items ≡ length c.marks.items + (behind part c).marks
  pub marks : (before others : List Bool) (more : ℕ) → length before ≡ first → c.marks.items ≡ before ++ (replicate (count + more) false ++ others)
      → d.marks.items ≡ (before ++ replicate count true) ++ (replicate more false ++ (others ++ replicate (behind part c).marks true))
  pub wants : wants_of d.wants.items ≡ (behind part c).wants
  pub same : SameFrame c d
