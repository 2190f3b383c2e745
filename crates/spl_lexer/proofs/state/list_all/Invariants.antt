use Rattle.std.proofs.Common.{◌≡◌, ◌≤◌, ◌++◌, [], length, map, take}
use Rattle.spl_cuts.specs.Defines as df
use Rattle.spl_cuts.specs.Cutting as cu
use Rattle.spl_pieces.specs.SignViews.{sign_of}
use Rattle.spl_lexer.specs.TokenViews.{use_at}
use Rattle.spl_lexer.proofs.state.list_all.Given as goal

-- the tokens so far are listed, and there are no more segments
abbrev pub invariant-loop-sign : goal.invariant-loop-sign
invariant-loop-sign l = record {
  listed : l.listing ≡ l.initial.listing ++ df.at_use (use_at l.at l.segment) (map sign_of (take l.sign-index l.signs));
  few : length (cu.with_name (cu.with_names [] l.listing) l.segment.text.items) ≤ 65536;
}
