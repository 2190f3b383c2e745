-- By the defines of modules.
use Rattle.spl_routes.proofs.FindLemmas.{own_finds}
use Rattle.spl_routes.proofs.WantLemmas.{want_finds}
use Rattle.spl_routes.proofs.laws.calls_find.Goals as goal

pub returns-clause-entries : goal.returns-clause-entries
returns-clause-entries c = λ us p near ms f q among g at x index is. own_finds us p near ms f q among g at x index is

pub returns-clause-wants : goal.returns-clause-wants
returns-clause-wants c = λ us p near ms f q g at x index is. want_finds us p near ms f q g at x index is
