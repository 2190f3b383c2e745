-- Assignments: the index of a target, which waits below the value, and what stands behind the value.
use Rattle.std.specs.Prelude.{ℕ, ◌+◌, ◌&&◌, nat_le, if◌then◌else◌, Bool, List, [], Option, Some, None}
use Rattle.spl_code.specs.spl_tree.declared.expressions.Kind.{Kind}
use Rattle.spl_code.specs.spl_tree.Trees as tree
use Rattle.spl_code.specs.spl_tree.Trees.{Tree, Trees}
use Rattle.spl_code.specs.spl_tree.StatementTrees as stat
use Rattle.spl_code.specs.spl_tree.StatementTrees.{Target}
use Rattle.spl_code.specs.spl_meaning.Names as n
use Rattle.spl_code.specs.spl_meaning.Names.{Sort}
use Rattle.spl_code.specs.spl_meaning.Pending.{waiting}
use Rattle.spl_code.specs.spl_meaning.References.{Access, its_own, nowhere, access_of}
use Rattle.spl_code.specs.spl_meaning.Values.{small_constant}
use Rattle.spl_code.specs.spl_branch.declared.pieces.Piece.{Piece}
use Rattle.spl_code.specs.Parts.{Part, pieces, nothing, ◌⨟◌}
use Rattle.spl_code.specs.Operands.{at_place}
use Rattle.spl_code.specs.Calls.{Scope}
use Rattle.spl_code.specs.Code.{code, as_value, is_indexed}
use Rattle.spl_code.specs.Stores.{stored, field_stored, pointer_stored}

-- a result is a variable of its kind
abbrev pub result_access : Option Kind → Access
result_access (Some k) = its_own k
result_access None = nowhere

-- how what a name stands for on the left of := leads to a word: the name of a procedure or a subroutine is its result
abbrev pub assigned_access : Option Sort → Access
assigned_access (Some (n.procedure p)) = result_access p.result
assigned_access (Some (n.subroutine p)) = result_access p.result
assigned_access s = access_of s

-- the value of an index, where there is one
abbrev pub index_kept : Scope → Trees → ℕ → Part
index_kept c tree.Trees.none k = nothing
index_kept c (tree.Trees.and e es) k = code c e as_value k

-- the index of a reference
abbrev pub reference_index : Scope → Tree → ℕ → Part
reference_index c (tree.Tree.named x es at) k = index_kept c es k
reference_index c _ k = nothing

-- the index of a target
abbrev pub target_index : Scope → Target → ℕ → Part
target_index c (stat.Target.plain r) k = reference_index c r k
target_index c (stat.Target.field r start size) k = reference_index c r k
target_index c (stat.Target.address x at) k = nothing

-- the value on top is stored in a reference, where k words waited before its index and the value
abbrev pub reference_stored : Scope → Tree → ℕ → List Piece
reference_stored c (tree.Tree.named x es at) k =
    at_place (c.places x) (λ place. stored (assigned_access (c.names x)) (is_indexed es) k place)
reference_stored c _ k = []

-- in a bit field of what a name leads to; the field lies within a word
abbrev pub field_of_name_stored : Scope → List ℕ → Bool → ℕ → ℕ → ℕ → List Piece
field_of_name_stored c x indexed start size k =
    if nat_le 1 size && nat_le (start + size) 16
    then at_place (c.places x) (λ place. field_stored (assigned_access (c.names x)) start size indexed k place)
    else []

-- in a bit field of a reference
abbrev pub field_of_reference_stored : Scope → Tree → ℕ → ℕ → ℕ → List Piece
field_of_reference_stored c (tree.Tree.named x es at) start size k = field_of_name_stored c x (is_indexed es) start size k
field_of_reference_stored c _ start size k = []

-- in a target
abbrev pub target_stored : Scope → Target → ℕ → List Piece
target_stored c (stat.Target.plain r) k = reference_stored c r k
target_stored c (stat.Target.field r start size) k =
    field_of_reference_stored c r (small_constant c.names start) (small_constant c.names size) k
target_stored c (stat.Target.address x at) k = at_place (c.places x) (λ place. pointer_stored k place)

-- an assignment: the index, the value, which is made while so many words wait, and the store
abbrev pub assigned : Scope → Target → (ℕ → Part) → ℕ → Part
assigned c to value k = target_index c to k ⨟ value (waiting to k) ⨟ pieces (target_stored c to k)
