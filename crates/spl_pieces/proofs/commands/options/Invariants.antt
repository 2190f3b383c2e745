use Rattle.std.proofs.Common.{◌≡◌, map}
use Rattle.spl_cuts.specs.Commands.{options}
use Rattle.spl_pieces.specs.PieceViews.{setting_of}
use Rattle.spl_pieces.proofs.CommandLemmas.{options_from, behind}
use Rattle.spl_pieces.proofs.commands.options.Given as goal

-- the options so far and those of the texts left are those of all
abbrev pub invariant-loop-part : goal.invariant-loop-part
invariant-loop-part l = behind (map setting_of l.settings.items) (options_from l.part-index l.part-items) ≡ options (map (λ w. w.now) l.part-items)
