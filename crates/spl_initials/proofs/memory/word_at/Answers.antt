-- The address is within the list, or past it.
use Rattle.spl_initials.proofs.MemoryLemmas.{read_within, read_past}
use Rattle.spl_initials.proofs.memory.word_at.Goals as goal

pub returns-then-address-words : goal.returns-then-address-words
returns-then-address-words c = read_within c.args.words.now c.args.address 0 c.if-address-words.true

pub returns-else-address-words : goal.returns-else-address-words
returns-else-address-words c = read_past c.args.words.now c.args.address c.if-address-words.false
