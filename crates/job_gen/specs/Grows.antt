-- What the code appends.
use Rattle.std.specs.Prelude.{◌≡◌, ◌++◌, List}
use Rattle.job_gen.specs.declared.growing.Growing.{Growing}
use Rattle.job_gen.specs.Pieces.{Line, text_of, behind_all}

-- these lines were appended, with their draws
pub record Grows (old new : Growing) (ls : List Line) : Type 0 where
  pub text : new.text.items ≡ old.text.items ++ text_of old.last ls
  pub last : new.last ≡ behind_all old.last ls
