-- The address is within the list, or past it.
use Rattle.spl_initials.proofs.MemoryLemmas.{memory_set, memory_past}
use Rattle.spl_initials.proofs.memory.store.Goals as goal

pub returns-then-address-words : goal.returns-then-address-words
returns-then-address-words c = memory_set c.args.words.now c.args.address c.args.word

pub returns-else-address-words : goal.returns-else-address-words
returns-else-address-words c = memory_past c.args.words.now c.args.address c.args.word c.if-address-words.false
