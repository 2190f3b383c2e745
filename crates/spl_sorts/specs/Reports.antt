-- Faults as the meaning of sources has them.
use Rattle.spl_meaning.specs.Faults as faults
use Rattle.spl_sorts.specs.declared.report.Fault.{Fault}

-- a rule and a place
abbrev pub fault_of : Fault → faults.Fault
fault_of f = record { rule = f.rule; at = f.at }
