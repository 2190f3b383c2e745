-- Code of statements, one behind the other.
use Rattle.std.proofs.Common.{◌+◌, List, ◌++◌, ap, subst, ◌∙◌, arith}
use Rattle.std.proofs.lemmas.List.{append_assoc}
use Rattle.spl_follow.specs.spl_meaning.Laws.{IsFront}
use Rattle.spl_follow.specs.spl_meaning.States.{done}
use Rattle.spl_follow.specs.spl_code.Parts.{Wanted}
use Rattle.spl_follow.specs.Spots.{Spot, Point}
use Rattle.spl_follow.specs.Following.{tally}
use Rattle.spl_follow.specs.Parts.{RunsAll}
use Rattle.spl_follow.proofs.WayLemmas.{goes_none}
use Rattle.spl_follow.proofs.KeepLemmas.{kept_same, arrives_begins}
use Rattle.spl_follow.proofs.PartLemmas.{stand_from_place, statements_follow, empty_runs}
use Rattle.spl_control.specs.Sequences.{IdleCodePerforms, NothingPerforms, ListsPerform}

pub idle_performs : IdleCodePerforms
idle_performs z d k need = record {
  does = λ l ws p q s m stands front pays b. empty_runs z.ground z.rate z.sites z.setting z.exits d p q k need s m stands pays b;
}

pub nothing_performs : NothingPerforms
nothing_performs z d k need = record {
  does = λ l ws p q s m stands front pays b.
      subst (λ (r : Spot). RunsAll z.ground z.rate z.setting z.exits r k s m (done tt s)) (ap (λ (x : Point). x.at) stands)
      (m, goes_none z.ground z.rate 0 3 (tally s) m, record { at = b.at; matches = b.matches; kept = kept_same (s.now.top + k) s.now m.stack; coded = b.coded });
}

-- what stands in front of what stands in front does too
front_on : (xs ys zs : List Wanted) → IsFront xs ys → IsFront ys zs → IsFront xs zs
front_on xs ys zs a b = record {
  rest = a.rest ++ b.rest;
  is = b.is ∙ ap (λ l. l ++ b.rest) a.is ∙ append_assoc xs a.rest b.rest;
}

pub lists_perform : ListsPerform
lists_perform z d k need a b one others clear keeps f h = record {
  does = λ l ws p q s m stands front pays begins.
      let x = a l ws in
      let y = b (l + x.marks) x.wants in
      let cut = stand_from_place z.ground z.sites x.pieces y.pieces p q (clear l ws) stands in
      let far = cut.4 in
      let room = begins.room in
      let fuel = begins.fuel in
      statements_follow z.ground z.rate z.setting z.exits cut.0 q k s m (one s) others
      (f.does l ws p cut.0 s m cut.1 (front_on x.wants y.wants z.wants (keeps (l + x.marks) x.wants) front) (omega (arith, far, pays)) begins)
      (λ t n arrived less. h.does (l + x.marks) x.wants cut.0 q t n cut.2 front pays
      (arrives_begins z.setting d cut.0 k k need need s m t n room fuel arrived less (omega arith)));
}
