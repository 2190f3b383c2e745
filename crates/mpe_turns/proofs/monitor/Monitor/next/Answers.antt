-- The second search counts where the first has found none.
use Rattle.std.proofs.Common.{◌+◌, List, drop, ap, ◌∙◌}
use Rattle.mpe_worlds.specs.Dispatch.{first_live}
use Rattle.mpe_turns.specs.declared.session.Session.{Session}
use Rattle.mpe_turns.specs.Monitors.{codes_in}
use Rattle.mpe_turns.proofs.DispatchLemmas.{endings, next_first, next_second}
use Rattle.mpe_turns.proofs.monitor.Monitor.next.Goals as goal

pub returns-in-None-clause-value : goal.returns-in-None-clause-value
returns-in-None-clause-value c =
    next_second (codes_in c.args.self.now) c.args.self.now.sessions.items c.args.self.now.last c.find_live.result c.find_live-in-None.result
    (c.find_live.ensures.value ∙ ap (λ (ss : List Session). first_live (c.args.self.now.last + 1) (drop (c.args.self.now.last + 1) (endings ss))) c.deref.ensures.value)
    c.in-None.is
    (c.find_live-in-None.ensures.value ∙ ap (λ (ss : List Session). first_live 0 (drop 0 (endings ss))) c.deref-in-None.ensures.value)

pub returns-in_default-clause-value : goal.returns-in_default-clause-value
returns-in_default-clause-value c =
    next_first (codes_in c.args.self.now) c.args.self.now.sessions.items c.args.self.now.last c.find_live.result
    (c.find_live.ensures.value ∙ ap (λ (ss : List Session). first_live (c.args.self.now.last + 1) (drop (c.args.self.now.last + 1) (endings ss))) c.deref.ensures.value)
    c.in_default.not-None
