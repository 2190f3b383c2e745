-- The parameters are the first names inside, and the heading says what it gives.
use Rattle.std.proofs.Common.{ℕ, List, Option, map, ap, ◌∙◌}
use Rattle.spl_tree.specs.StatementTrees as stat
use Rattle.spl_tree.specs.Spells.{heading_tree}
use Rattle.spl_tree.specs.Views.{statement}
use Rattle.spl_sound.specs.spl_meaning.Names as n
use Rattle.spl_sound.specs.spl_meaning.Names.{Names, find, parameters}
use Rattle.spl_sound.specs.spl_meaning.Pending.{depth}
use Rattle.spl_sorts.specs.declared.profiles.Formal.{Formal}
use Rattle.spl_sorts.specs.Profiles.{formal_of}
use Rattle.spl_sorts.specs.Tables.{table_of}
use Rattle.spl_places.specs.spl_found.OwnNames.{over}
use Rattle.spl_formals.specs.ResultWords.{result_at}
use Rattle.spl_rooms.specs.declared.room_type.Room.{Room}
use Rattle.spl_rooms.proofs.bodies.subroutine_room.Goals as goal

pub returns : goal.returns
returns c =
    let around = over (find (table_of c.args.own.now)) (find (table_of c.args.outer.now)) in
    let body = stat.Statements.and (statement c.args.statement.now) stat.Statements.none in
    let h = heading_tree c.args.heading.now in
    let formals = ap (λ (fs : List Formal). map formal_of fs) c.deref.ensures.value ∙ ap (λ (p : n.Profile). p.formals) c.in_ok-profile.ensures in
    let names = c.in_ok-parameters.ensures ∙ ap (λ (fs : List n.Formal). find (parameters fs)) formals in
    let room : ℕ → Option ℕ → Room = λ words result. record { at = c.args.heading.now.at; locals = 0; depth = words; result = result } in
    let first = find (parameters (n.formals_of h)) in
    ap (λ (words : ℕ). room words c.in_ok-result_word.field-0) (c.in_ok-subroutine_depth.ensures ∙ ap (λ (here : Names). depth (over here around) body) names)
    ∙ ap (room (depth (over first around) body)) (c.in_ok-result_word.ensures ∙ ap (result_at 0) c.in_ok-profile.ensures)
