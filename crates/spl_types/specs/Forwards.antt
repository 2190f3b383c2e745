-- Bodies that FORWARDs want, from the last declaration back.
use Rattle.std.specs.Prelude.{Option, is_some}
use Rattle.spl_tree.specs.DeclarationTrees as decl
use Rattle.spl_tree.specs.DeclarationTrees.{Declaration, Declarations}
use Rattle.spl_sound.specs.spl_meaning.Names as n
use Rattle.spl_sound.specs.spl_meaning.Names.{Names, nothing_declared}
use Rattle.spl_sound.specs.spl_meaning.Faults.{Fault, unless, first_fault}
use Rattle.spl_uses.specs.spl_found.OwnNames.{with_name}

-- the names with bodies among a declaration and those behind it
abbrev pub bodied : Names → Declaration → Names
bodied here (decl.Declaration.procedure h items ss) = with_name here h.name n.label
bodied here d = here

-- those among declarations
abbrev pub bodies_of : Declarations → Names
bodies_of decl.none = nothing_declared
bodies_of (decl.and d ds) = bodied (bodies_of ds) d

-- a FORWARD that is none of these
abbrev pub forward_by : Names → Declaration → Option Fault → Option Fault
forward_by here (decl.Declaration.forward h) f = first_fault f (unless (is_some (here h.name)) 19 h.at)
forward_by here d f = f
