-- It is a pair, by its group.
use Rattle.hp_cpu.proofs.acts.pair_of.Goals as goal

pub returns-in-Pair : goal.returns-in-Pair
returns-in-Pair c = λ program. rw c.in-Pair.is (c.pair.ensures program)
