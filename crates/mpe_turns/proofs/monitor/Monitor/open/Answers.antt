-- The sessions are opened, and the largest segment fits.
use Rattle.std.proofs.Common.{◌≡◌, ◌-◌, ◌≤◌, List, Vec, Global, ap, subst, sym, ◌∙◌, arith}
use Rattle.hp_program.specs.declared.program.Program.{Program}
use Rattle.mpe_overlay.specs.mpe_regions.Area.{Area}
use Rattle.mpe_overlay.specs.Codes.{codes_of}
use Rattle.mpe_worlds.specs.Opening.{largest}
use Rattle.mpe_turns.specs.Opened.{AreOpened}
use Rattle.mpe_turns.specs.Stands.{IsKept}
use Rattle.mpe_turns.proofs.OpenLemmas.{opened_kept}
use Rattle.mpe_turns.proofs.monitor.Monitor.open.Goals as goal

pub invariant_of-result-clause-kept : goal.invariant_of-result-clause-kept
invariant_of-result-clause-kept c =
    let overlay = c.in_ok-overlay.overlay in
    let opened = subst (λ (ps : List Program). AreOpened ps c.args.seats.items c.in_ok-sessions.sessions.items) c.deref-5.ensures.value c.in_ok-sessions.ensures in
    let size : overlay.regions.area.size ≡ c.args.memory - c.count_words-stacks.result = ap (λ (a : Area). a.size) c.in_ok-overlay.ensures.area in
    let need : c.find_largest.result ≡ largest (codes_of c.args.programs.items) =
    c.find_largest.ensures.value ∙ ap (λ (ps : List Program). largest (codes_of ps)) c.deref-4.ensures.value in
    let fit : largest (codes_of c.args.programs.items) ≤ overlay.regions.area.size = omega (arith, c.if-memory-need.false, need, size) in
    subst (λ (v : Vec Program Global). IsKept v.items overlay.regions.area.size c.in_ok-sessions.sessions.items overlay.loads 0 0) (sym c.in_ok-overlay.ensures.programs)
    (opened_kept c.args.programs.items c.args.seats.items c.in_ok-sessions.sessions.items overlay.regions.area.size overlay.loads opened c.requires.seats.few fit c.in_ok-overlay.ensures.loads)
