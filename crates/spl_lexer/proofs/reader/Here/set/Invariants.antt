use Rattle.std.proofs.Common.{◌≡◌, map}
use Rattle.spl_lexer.specs.ReaderViews.{here_of, with_settings}
use Rattle.spl_pieces.specs.PieceViews.{setting_of}
use Rattle.spl_lexer.proofs.reader.Here.set.Given as goal

-- the options left put in force here what all put in force at first
abbrev pub invariant-loop-setting : goal.invariant-loop-setting
invariant-loop-setting l = record {
  here : with_settings (here_of l.self) (map setting_of l.setting-iterator.rest.items) ≡ with_settings (here_of l.initial.self) (map setting_of l.fn.settings.items);
  at : l.self.at ≡ l.initial.self.at;
}
