-- The texts so far are cut into the lists so far.
use Rattle.std.proofs.Common.{map, take}
use Rattle.spl_lexer.specs.TokenViews.{listed_of}
use Rattle.spl_program.specs.Texts.{AreCut}
use Rattle.spl_program.specs.Programs.{texts_of}
use Rattle.spl_program.specs.Steps.{AreReady}
use Rattle.spl_program.proofs.reading.cut_all.Given as goal

abbrev pub invariant-loop-i : goal.invariant-loop-i
invariant-loop-i l = record {
  cut : AreCut 1 (texts_of (take l.i l.texts)) (map listed_of l.all.items);
  ready : AreReady l.all.items;
}
