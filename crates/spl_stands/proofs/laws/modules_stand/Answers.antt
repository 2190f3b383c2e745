-- A finished module's words stand for its pieces wherever it lies.
use Rattle.std.proofs.Common.{◌+◌, length, None}
use Rattle.hp_leads.specs.spl_branch.Stands as decoded
use Rattle.hp_leads.specs.spl_branch.Modules.{sites}
use Rattle.spl_stands.proofs.StandLemmas as lemmas
use Rattle.spl_stands.proofs.laws.modules_stand.Goals as goal

pub returns : goal.returns
returns c = λ code m f g seg segment base entries w there small low lies marks fits.
    lemmas.words_stand g seg segment there (sites base f.marks entries) w marks code.pieces.items (decoded.at_left base)
    (decoded.at_left (base + length m.words.items)) None fits (f.stands segment base entries small low lies)
