-- Seat by seat.
use Rattle.std.proofs.Common.{◌≡◌, ◌++◌, ◌∷◌, [], List, length, refl, ap, subst, sym, ◌∙◌}
use Rattle.std.proofs.lemmas.List.{append_assoc}
use Rattle.std.proofs.lemmas.Option.{slice_get_read}
use Rattle.mpe_session.specs.declared.seat.Seat.{Seat}
use Rattle.mpe_turns.specs.Opened.{AreOpened}
use Rattle.mpe_turns.proofs.OpenLemmas.{all_enough, at_front, opened_more}
use Rattle.mpe_turns.proofs.opening.open_sessions.Goals as goal

pub open_session-requires-clause-enough : goal.open_session-requires-clause-enough
open_session-requires-clause-enough c =
    let seat = c.in-Some.seat in
    let before = c.loop-seat.yielded in
    let behind = c.next.new.self.rest.items in
    let all : before ++ seat ∷ behind ≡ c.args.seats.items = ap (λ (seats : List Seat). before ++ seats) (sym c.in-Some.ensures.steps.0) ∙ c.loop-seat.invariant.all in
    let at = at_front before behind c.args.seats.items seat all in
    all_enough c.args.programs.now 0 c.args.seats.items c.requires.stacks (length before) seat c.index-programs-seat.result at
    (slice_get_read c.args.programs.now (length c.args.programs.now) seat.program c.index-programs-seat.result refl
    (c.requires.seats.program (length before) seat at) c.index-programs-seat.is)

pub loop-seat-preserved : goal.loop-seat-preserved
loop-seat-preserved c =
    let seat = c.in-Some.seat in
    let before = c.loop-seat.yielded in
    let behind = c.next.new.self.rest.items in
    let all : before ++ seat ∷ behind ≡ c.args.seats.items = ap (λ (seats : List Seat). before ++ seats) (sym c.in-Some.ensures.steps.0) ∙ c.loop-seat.invariant.all in
    let at = at_front before behind c.args.seats.items seat all in
    let of = slice_get_read c.args.programs.now (length c.args.programs.now) seat.program c.index-programs-seat.result refl
    (c.requires.seats.program (length before) seat at) c.index-programs-seat.is in
    record {
      opened = subst (AreOpened c.args.programs.now (before ++ seat ∷ [])) (sym c.in_ok-push.ensures.items)
          (opened_more c.args.programs.now before c.loop-seat.sessions.items seat c.in_ok-open_session.field-0 c.index-programs-seat.result
          c.loop-seat.invariant.opened of c.in_ok-open_session.ensures.run c.in_ok-open_session.ensures.session);
      all = append_assoc before (seat ∷ []) behind ∙ all;
    }
