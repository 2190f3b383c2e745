-- The monitor runs copies of the programs that were made.
use Rattle.std.proofs.Common.{List, map, length, Vec, Global, refl, sym, ap, subst, ◌∙◌, ◌≡◌, None}
use Rattle.hp_program.specs.declared.program.Program.{Program}
use Rattle.job_gen.specs.job_text.declared.job.Text.{Text}
use Rattle.job_gen.specs.job_text.Views.{text_value}
use Rattle.job_runs.specs.Reported.{names_of}
use Rattle.job_runs.specs.mpe_turns.Monitors.{world_of}
use Rattle.job_runs.specs.mpe_turns.Opening.{refusal}
use Rattle.hp3000_top.specs.Causes.{account_with}
use Rattle.hp3000_top.specs.Steps.{AreCopies}
use Rattle.hp3000_top.proofs.Opening.{count_so, few_so, seats_so, opened_so, none_of, refused_of, unopened_so, world_so}
use Rattle.hp3000_top.proofs.running.run.Goals as goal

pub open-requires-clause-seats : goal.open-requires-clause-seats
open-requires-clause-seats c =
    seats_so c.args.job c.args.made.items c.in_ok-copies.copies.items c.requires.fits c.requires.made
    (subst (λ (ps : List Program). AreCopies ps c.in_ok-copies.copies.items) c.deref.ensures.value c.in_ok-copies.ensures)

pub open-requires-clause-programs : goal.open-requires-clause-programs
open-requires-clause-programs c =
    few_so c.args.job c.args.made.items c.in_ok-copies.copies.items c.requires.fits c.requires.made
    (subst (λ (ps : List Program). AreCopies ps c.in_ok-copies.copies.items) c.deref.ensures.value c.in_ok-copies.ensures)

pub account-requires : goal.account-requires
account-requires c =
    let copied = subst (λ (ps : List Program). AreCopies ps c.in_ok-copies.copies.items) c.deref.ensures.value c.in_ok-copies.ensures in
    ap (λ (v : Vec Program Global). length v.items) (c.take_turns.ensures.programs ∙ c.in-Ok.ensures.programs)
    ∙ count_so c.args.job c.args.made.items c.in_ok-copies.copies.items c.requires.made copied ∙ sym (ap length c.deref-in-Ok.ensures.value)

pub returns-in-Ok : goal.returns-in-Ok
returns-in-Ok c =
    let made = c.args.made.items in
    let copies = c.in_ok-copies.copies in
    let copied = subst (λ (ps : List Program). AreCopies ps copies.items) c.deref.ensures.value c.in_ok-copies.ensures in
    let none : refusal c.args.job.memory c.args.job.seats.items copies.items ≡ None =
    opened_so c.in-Ok.monitor (refusal c.args.job.memory c.args.job.seats.items copies.items) c.in-Ok.ensures.refused in (
      refl,
      none_of c.args.job made copies.items copied none,
      world_so c.args.job made copies c.in-Ok.monitor c.take_turns.new.monitor copied c.in-Ok.ensures.programs (c.in-Ok.ensures.opened none) c.take_turns.ensures.world,
      c.in_ok-text-in-Ok.ensures
          ∙ ap (λ (ts : List Text). account_with c.args.verb c.args.bytes (names_of (map text_value ts)) c.args.job.stats (world_of c.take_turns.new.monitor)) c.deref-in-Ok.ensures.value,
    )

pub returns : goal.returns
returns c =
    let copied = subst (λ (ps : List Program). AreCopies ps c.in_ok-copies.copies.items) c.deref.ensures.value c.in_ok-copies.ensures in
    unopened_so c.args.verb c.args.bytes c.args.job c.args.made.items c.in-Err.fault c.unopened.result
    (λ small. refused_of c.args.job c.args.made.items c.in_ok-copies.copies.items c.in-Err.fault copied small c.in-Err.ensures.refused c.in-Err.ensures.opened)
    c.unopened.ensures
