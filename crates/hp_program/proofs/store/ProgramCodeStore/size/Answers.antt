-- A segment of a program has at most 16,383 words.
use Rattle.std.proofs.Common.{rules, ◌≡◌, ◌≤◌, length, arith}
use Rattle.std.specs.Prelude.{slice_get, Some}
use Rattle.hp_program.specs.Programs.{segments_of}
use Rattle.hp_program.proofs.ValidLaws.{segment_fits}
use Rattle.hp_program.proofs.store.ProgramCodeStore.size.Goals as goal

pub overflow_cast-result : goal.overflow_cast-result
overflow_cast-result c =
    let is : slice_get (segments_of c.args.self.now) c.args.seg ≡ Some c.in-Some.words.now = search rules in
    let most : length c.in-Some.words.now ≤ 16383 = segment_fits c.args.self.now c.args.seg c.in-Some.words.now is in
    omega (arith, most)
