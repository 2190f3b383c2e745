-- What three levels show is the scope of the body whose they are.
use Rattle.spl_places.specs.NameMaps.{shown}
use Rattle.spl_body_scopes.specs.Levels.{level_of}
use Rattle.spl_body_scopes.specs.Found.{calls_in}
use Rattle.spl_body_scopes.proofs.FoundLaws.{shows_routine, shows_inner, shows_main, shows_main_inner}
use Rattle.spl_body_scopes.proofs.levels.scope.Goals as goal

pub returns-clause-routine : goal.returns-clause-routine
unfolding shown
returns-clause-routine c = shows_routine (level_of c.args.inner.now) (level_of c.args.own.now) (level_of c.args.outer.now) (calls_in c.args.entries)

pub returns-clause-inner : goal.returns-clause-inner
unfolding shown
returns-clause-inner c = shows_inner (level_of c.args.inner.now) (level_of c.args.own.now) (level_of c.args.outer.now) (calls_in c.args.entries)

pub returns-clause-main : goal.returns-clause-main
unfolding shown
returns-clause-main c = shows_main (level_of c.args.inner.now) (level_of c.args.own.now) (level_of c.args.outer.now) (calls_in c.args.entries)

pub returns-clause-main_inner : goal.returns-clause-main_inner
unfolding shown
returns-clause-main_inner c = shows_main_inner (level_of c.args.inner.now) (level_of c.args.own.now) (level_of c.args.outer.now) (calls_in c.args.entries)
