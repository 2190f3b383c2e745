-- The tokens of the texts so far spell the units so far.
use Rattle.std.proofs.Common.{map, take}
use Rattle.spl_lexer.specs.TokenViews.{listed_of}
use Rattle.spl_sound.specs.Spelled.{source_of}
use Rattle.spl_program.specs.Texts.{AreUnits}
use Rattle.spl_program.proofs.reading.spell_all.Given as goal

abbrev pub invariant-loop-lexed : goal.invariant-loop-lexed
invariant-loop-lexed l = AreUnits (map listed_of (take l.lexed-index l.all)) (map source_of l.units.items)
