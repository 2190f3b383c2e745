-- The calls that leave the terminal alone do so whatever it is.
use Rattle.mpe_gate.proofs.gate.perform.Goals as goal

pub returns-in-Ascii : goal.returns-in-Ascii
returns-in-Ascii c = rw c.in-Ascii.is (c.ascii.ensures c.args.terminal.now)

pub returns-in-Dascii : goal.returns-in-Dascii
returns-in-Dascii c = rw c.in-Dascii.is (c.dascii.ensures c.args.terminal.now)

pub returns-in-Binary : goal.returns-in-Binary
returns-in-Binary c = rw c.in-Binary.is (c.binary.ensures c.args.terminal.now)

pub returns-in-Dbinary : goal.returns-in-Dbinary
returns-in-Dbinary c = rw c.in-Dbinary.is (c.dbinary.ensures c.args.terminal.now)

pub returns-in-Quit : goal.returns-in-Quit
returns-in-Quit c = rw c.in-Quit.is (c.quit.ensures c.args.regs.now c.args.terminal.now)
