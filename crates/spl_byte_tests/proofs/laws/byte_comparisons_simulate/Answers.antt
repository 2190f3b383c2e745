-- By what CMPB tells, one pair of bytes after the other.
use Rattle.spl_byte_tests.proofs.TestLemmas.{bytes_whole, bytes_compared, texts_whole, texts_compared}
use Rattle.spl_byte_tests.proofs.laws.byte_comparisons_simulate.Goals as goal

pub returns-clause-whole : goal.returns-clause-whole
returns-clause-whole c = bytes_whole

pub returns-clause-simulates : goal.returns-clause-simulates
returns-clause-simulates c = bytes_compared

pub returns-clause-text_whole : goal.returns-clause-text_whole
returns-clause-text_whole c = texts_whole

pub returns-clause-text_simulates : goal.returns-clause-text_simulates
returns-clause-text_simulates c = texts_compared
