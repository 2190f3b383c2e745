use Rattle.std.proofs.Common.{◌++◌}
use Rattle.job_gen.specs.Generated as generated
use Rattle.job_gen.proofs.GrowthLemmas.{line_grows, bytes_grow, grows_then}
use Rattle.job_gen.proofs.growing.Growing.job.Goals as goal

-- settings, programs, sessions and the end
pub returns : goal.returns
unfolding generated.job_lines
returns c =
    let head = bytes_grow c.args.self.now c.push.new.self generated.settings c.in_ok-push.ensures.text c.in_ok-push.ensures.last in
    let last = line_grows c.sessions.new.self c.push-2.new.self (generated.plain _) c.in_ok-push-2.ensures.text c.in_ok-push-2.ensures.last in
    grows_then c.args.self.now c.sessions.new.self c.push-2.new.self (generated.settings ++ generated.programs 8 ++ generated.sessions 8) _
    (grows_then c.args.self.now c.programs.new.self c.sessions.new.self (generated.settings ++ generated.programs 8) (generated.sessions 8)
    (grows_then c.args.self.now c.push.new.self c.programs.new.self generated.settings (generated.programs 8) head c.in_ok-programs.ensures)
    c.in_ok-sessions.ensures)
    last
