-- Labels as the definitions have them.
use Rattle.spl_tree.specs.Views.{letters}
use Rattle.spl_module_code.specs.LabelsOfBodies as code
use Rattle.spl_landings.specs.declared.label_lists.Label.{Label}

-- a label
abbrev pub label_of : Label → code.Label
label_of l = record { name = letters l.name; pending = l.pending }
