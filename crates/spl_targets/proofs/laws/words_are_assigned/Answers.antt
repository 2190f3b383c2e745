-- By the target.
use Rattle.spl_targets.proofs.TargetLemmas.{word_stores_whole, word_stores, words_whole, words_assigned}
use Rattle.spl_targets.proofs.laws.words_are_assigned.Goals as goal

pub returns-clause-whole : goal.returns-clause-whole
returns-clause-whole c = words_whole

pub returns-clause-one : goal.returns-clause-one
returns-clause-one c = words_assigned

pub returns-clause-stores_whole : goal.returns-clause-stores_whole
returns-clause-stores_whole c = word_stores_whole

pub returns-clause-stores : goal.returns-clause-stores
returns-clause-stores c = word_stores
