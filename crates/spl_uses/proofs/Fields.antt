-- What is told of a bit field, one fault behind the other.
use Rattle.std.proofs.Common.{◌≡◌, Option, refl}
use Rattle.spl_tree.specs.declared.names_and_places.At.{At}
use Rattle.spl_tree.specs.Trees.{Constant}
use Rattle.spl_sorts.specs.spl_meaning.Names.{Names, constant_value}
use Rattle.spl_sorts.specs.spl_meaning.Faults.{Fault, unless, first_fault}
use Rattle.spl_sorts.specs.spl_meaning.ExpressionRules.{is_field, constant_faults, field_faults}
use Rattle.spl_found.proofs.Order.{first_then}

pub field_told : (f : Option Fault) (names : Names) (start size : Constant) (at : At)
    → first_fault (first_fault (first_fault f (constant_faults names at start)) (constant_faults names at size))
    (unless (is_field (constant_value names start) (constant_value names size)) 13 at)
    ≡ first_fault f (field_faults names start size at)
field_told f names start size at = simp first_then refl

pub ruleset fields = field_told
