-- What it means that a part was appended to a code.
use Rattle.std.specs.Prelude.{◌≡◌, ◌++◌, true, length, replicate}
use Rattle.spl_branch.specs.declared.buffer.Code.{Code}
use Rattle.spl_branch.specs.Codes.{SameFrame}
use Rattle.spl_code.specs.Parts.{Part, Written, wants_of}

-- a part as it is written behind a code: from the number of its marks and its wants
abbrev pub behind : Part → Code → Written
behind part c = part (length c.marks.items) (wants_of c.wants.items)

-- Code `d` is code `c` with a part: its pieces stand behind those of `c`, its marks behind the old ones, all set, of which none has changed;
-- its wants are those of the part; and name, entries and main body stay.
pub record Appends (part : Part) (c d : Code) : Type 0 where
  pub pieces : d.pieces.items ≡ c.pieces.items ++ (behind part c).pieces
  pub marks : d.marks.items ≡ c.marks.items ++ replicate (behind part c).marks true
  pub wants : wants_of d.wants.items ≡ (behind part c).wants
  pub same : SameFrame c d
