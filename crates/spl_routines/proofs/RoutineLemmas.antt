-- Each procedure of a unit stands in the modules of its segment, and there is one.
use Rattle.std.proofs.Common.{◌≡◌, ℕ, ◌+◌, List, [], sym, ap, subst, arith}
use Rattle.spl_carries.specs.spl_tree.DeclarationTrees.{declarations}
use Rattle.spl_carries.specs.spl_meaning.Tables.{routines_of}
use Rattle.spl_label_marks.specs.spl_scopes.Entries.{routine, procedure}
use Rattle.spl_label_marks.specs.spl_scopes.Scopes.{global_places, segment_of, body_segment}
use Rattle.spl_routines.specs.Laws.{RoutinesStand, RoutinesAreThere}
use Rattle.spl_routines.proofs.EntryLemmas.{ProcedureIn, of_routine, entry_there}
use Rattle.spl_routines.proofs.StandLemmas.{routine_stands}
use Rattle.spl_routines.proofs.ThereLemmas.{routine_has}
use Rattle.spl_routines.proofs.BodyLemmas.{named_of}

pub routines_stand : RoutinesStand
routines_stand us p near ms f q among i b there at =
    let g = body_segment q.unit (routine i) in
    let r = named_of (global_places q) q.at.own q.at.own_arrays (routines_of q.unit) i b there in
    let is = of_routine q g 0 0 [] 0 (declarations q.unit.tree.items) i r.0 r.1 (sym (ap segment_of r.1)) in
    let number : 0 + i ≡ i = omega arith in
    (routine_stands us p near ms f q among g at i is.0 b there
    (subst (λ (x : List ℕ). ProcedureIn q g i is.0 x 0 0 (declarations q.unit.tree.items)) (sym r.2)
    (subst (λ (j : ℕ). ProcedureIn q g j is.0 r.0.heading.name 0 0 (declarations q.unit.tree.items)) number is.1))).0

pub routines_are_there : RoutinesAreThere
routines_are_there us p near ms f q among i b there x first =
    let g = body_segment q.unit (routine i) in
    let r = named_of (global_places q) q.at.own q.at.own_arrays (routines_of q.unit) i b there in
    let segment = sym (ap segment_of r.1) in
    let is = of_routine q g 0 0 [] 0 (declarations q.unit.tree.items) i r.0 r.1 segment in
    let e = entry_there q g (0 + i) is.0 r.0.heading.name 0 0 (declarations q.unit.tree.items) is.1 in
    let at = routine_has us ms f.are f.whole q among i r.0 r.1 g e.0 (record { name = r.0.heading.name; segment = g; callee = procedure }) segment e.2 x
    first in
    (at, routines_stand us p near ms f q among i b there at)
