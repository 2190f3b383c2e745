-- A want's place is one of those behind the own entries, or just behind them all.
use Rattle.std.proofs.Common.{arith}
use Rattle.mpe_segmenter.specs.Entries.{wanted_of}
use Rattle.mpe_segmenter.proofs.PlaceLemmas.{want_within}
use Rattle.mpe_segmenter.proofs.laying.entry_of.Goals as goal

pub overflow_add-behind : goal.overflow_add-behind
overflow_add-behind c = omega (arith, c.place.ensures, want_within (wanted_of c.args.want.now) c.args.entries.now.wanted, c.requires.few)

pub overflow_add-result : goal.overflow_add-result
overflow_add-result c = omega (arith, c.place.ensures, want_within (wanted_of c.args.want.now) c.args.entries.now.wanted, c.requires.few)

pub overflow_cast-result : goal.overflow_cast-result
overflow_cast-result c = omega (arith, c.place.ensures, want_within (wanted_of c.args.want.now) c.args.entries.now.wanted, c.requires.few)

pub overflow_add-result-in-None : goal.overflow_add-result-in-None
overflow_add-result-in-None c = omega (arith, c.place.ensures, want_within (wanted_of c.args.want.now) c.args.entries.now.wanted, c.requires.few)

pub overflow_cast-result-in-None : goal.overflow_cast-result-in-None
overflow_cast-result-in-None c = omega (arith, c.place.ensures, want_within (wanted_of c.args.want.now) c.args.entries.now.wanted, c.requires.few)
