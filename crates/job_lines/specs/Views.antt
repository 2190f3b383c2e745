-- What the code's types stand for.
use Rattle.job_lines.specs.declared.commands.Command.{Command}
use Rattle.job_lines.specs.declared.commands.Command.TheVariants as said
use Rattle.job_lines.specs.declared.said.Said.{Said}
use Rattle.job_lines.specs.declared.said.Said.TheVariants as line
use Rattle.job_lines.specs.declared.said.LineKind.{LineKind}
use Rattle.job_lines.specs.declared.said.LineKind.TheVariants as kind
use Rattle.job_lines.specs.Commands as c
use Rattle.job_lines.specs.Says as s

abbrev pub command_value : Command → c.Command
command_value said.Job = c.job
command_value (said.Setting k n) = c.setting k n
command_value said.Statistics = c.statistics
command_value (said.Program name) = c.program name.now
command_value said.Unit = c.unit
command_value (said.Session name sizes) = c.session name.now sizes
command_value said.EndOfJob = c.end_of_job

abbrev pub said_value : Said → s.Said
said_value line.Nothing = s.nothing
said_value line.Stray = s.stray
said_value line.Late = s.late
said_value (line.UnitLine l) = s.unit_line l.now
said_value (line.TerminalLine l) = s.terminal_line l.now
said_value (line.Command c) = s.command (command_value c)
said_value line.Wrong = s.wrong
said_value line.EndOfText = s.end_of_text

-- what a line of this kind says
abbrev pub kind_said : LineKind → s.Said
kind_said (kind.Words l) = s.command_said l.now
kind_said (kind.Plain x) = said_value x
