-- The number in a text for a word fits into one, in any session with these words.
use Rattle.std.proofs.Common.{◌<◌, arith, ◌∙◌, refl, sym, ap, []}
use Rattle.std.specs.Prelude.{Ok}
use Rattle.hp_word.specs.declared.numbers.Number.{Number}
use Rattle.hp_session.specs.State.{Machine, opened}
use Rattle.hp_call_rows.proofs.GateLemmas.{small_number}
use Rattle.hp_tos.specs.StackView.{seen}
use Rattle.mpe_gate.proofs.intrinsics.binary.Goals as goal

pub overflow_cast-n : goal.overflow_cast-n
overflow_cast-n c =
    let m : Machine = record (opened [] 0 0 [] 0 0 0) { stack = (seen c.args.stack.now).words } in
    let fits : c.in-Value.n < 65536 =
    small_number m c.in-Value.n (sym (c.number.ensures m refl) ∙ c.in_ok-n.was ∙ ap (λ (k : Number). Ok k) c.in-Value.is) in
    omega arith
