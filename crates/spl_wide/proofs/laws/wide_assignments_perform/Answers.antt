-- By the value, and the store behind it.
use Rattle.spl_wide.proofs.AssignLemmas.{wide_stores_whole, wide_stores, assigned_whole, assigned_performs}
use Rattle.spl_wide.proofs.laws.wide_assignments_perform.Goals as goal

pub returns-clause-whole : goal.returns-clause-whole
returns-clause-whole c = assigned_whole

pub returns-clause-one : goal.returns-clause-one
returns-clause-one c = assigned_performs

pub returns-clause-stores_whole : goal.returns-clause-stores_whole
returns-clause-stores_whole c = wide_stores_whole

pub returns-clause-stores : goal.returns-clause-stores
returns-clause-stores c = wide_stores
