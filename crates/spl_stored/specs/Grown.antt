-- A code that has grown by a part, behind new marks of which each is set or not.
use Rattle.std.specs.Prelude.{ℕ, suc, ◌≡◌, ◌++◌, Bool, true, List, [], ◌∷◌, length, replicate}
use Rattle.spl_branch.specs.declared.buffer.Code.{Code}
use Rattle.spl_branch.specs.Codes.{SameFrame}
use Rattle.spl_statement_code.specs.spl_code.Parts.{Part, Written, wants_of}
use Rattle.spl_statement_code.specs.Labels.{all_set}

-- how many marks there are with the new ones
abbrev pub with_new : List Bool → ℕ → ℕ
with_new [] n = n
with_new (b ∷ bs) n = suc (with_new bs n)

-- a part as it is written behind the new marks
abbrev pub behind_new : List Bool → Part → Code → Written
behind_new new part c = part (with_new new (length c.marks.items)) (wants_of c.wants.items)

-- Code `d` is code `c` with new marks and a part. Of the old marks `sets` have been set.
pub record Grown (new : List Bool) (sets : List ℕ) (part : Part) (c d : Code) : Type 0 where
  pub pieces : d.pieces.items ≡ c.pieces.items ++ (behind_new new part c).pieces
  pub marks : d.marks.items ≡ all_set c.marks.items sets ++ (new ++ replicate (behind_new new part c).marks true)
  pub wants : wants_of d.wants.items ≡ (behind_new new part c).wants
  pub same : SameFrame c d
