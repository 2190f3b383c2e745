-- By where each stands, and what a call of one does.
use Rattle.spl_callable.proofs.CallableLemmas.{callables}
use Rattle.spl_callable.proofs.laws.callables_follow.Goals as goal

pub returns : goal.returns
returns c =
    callables
    (record {
      called = c.settable_procedures_are_called.ensures;
      inside = c.subroutines_are_called.ensures;
      links = c.links_find.ensures;
      inners = c.inners_find.ensures;
      bodies = c.covered_bodies_follow.ensures;
      alone = c.covered_inners_follow.ensures;
      routines = c.routines_are_procedures.ensures;
      subroutines = c.subroutine_bodies_are_subroutines.ensures;
      alike = c.bodies_read_alike.ensures;
      statements_alike = c.statements_read_alike.ensures;
      land = c.inners_land.ensures;
      mean = c.names_mean.ensures;
      served = c.gates_are_served.ensures;
    })
