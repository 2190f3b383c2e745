-- The main body is a body.
use Rattle.std.proofs.Common.{◌≡◌, true}
use Rattle.spl_safe_calls.proofs.Calls.{program_never_lost}
use Rattle.spl_safe_calls.proofs.laws.programs_are_safe.Goals as goal

pub returns : goal.returns
returns c = λ known. program_never_lost c.values_have_their_words.ensures (λ x. known x ≡ true)
