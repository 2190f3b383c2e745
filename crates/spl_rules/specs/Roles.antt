-- What a name may be in each role, as tables over what it stands for.
use Rattle.std.specs.Prelude.{ℕ, ◌&&◌, ◌||◌, not, Bool, true, false, if◌then◌else◌, List, Option, Some, None, is_some}
use Rattle.spl_meaning.specs.spl_tree.declared.expressions.Kind.TheVariants as kind
use Rattle.spl_meaning.specs.spl_tree.Trees as tree
use Rattle.spl_meaning.specs.spl_tree.Trees.{Tree, Constant}
use Rattle.spl_meaning.specs.Names as n
use Rattle.spl_meaning.specs.Names.{Names, Sort}
use Rattle.spl_meaning.specs.Kinds.{variable_kind, callable}
use Rattle.spl_meaning.specs.ExpressionRules.{Scope, has_elements, is_equate, is_pointer, is_open_sort, is_callable, index_fits}
use Rattle.spl_meaning.specs.StatementRules.{has_name}
use Rattle.spl_rules.specs.Parts as part
use Rattle.spl_rules.specs.Parts.{Role}

-- a name is declared
abbrev pub is_declared : Option Sort → Bool
is_declared None = false
is_declared s = true

-- a procedure or a subroutine, whose name is its result in its body
abbrev pub has_result : Option Sort → Bool
has_result (Some (n.procedure p)) = true
has_result (Some (n.subroutine p)) = true
has_result _ = false

-- a simple INTEGER variable
abbrev pub is_simple_integer : Option Sort → Bool
is_simple_integer (Some (n.simple kind.Integer own)) = true
is_simple_integer _ = false

-- an INTEGER parameter that is no array
abbrev pub is_integer_parameter : Option Sort → Bool
is_integer_parameter (Some (n.value kind.Integer)) = true
is_integer_parameter (Some (n.by_reference kind.Integer)) = true
is_integer_parameter _ = false

-- 3: what may stand in a role; a name that is not declared, or wrongly, breaks another rule
abbrev pub is_of_sort : Role → Option Sort → Bool
is_of_sort part.operand s = is_some (variable_kind s) || is_callable (callable s) || is_equate s || is_open_sort s
is_of_sort part.variable s = is_some (variable_kind s) || is_open_sort s
is_of_sort part.callee s = is_callable (callable s) || is_open_sort s
is_of_sort part.target s = is_some (variable_kind s) || has_result s || is_open_sort s
is_of_sort part.pointer s = is_pointer s || is_open_sort s
is_of_sort part.counter s = true
is_of_sort part.answer s = not (has_elements s) && (is_some (variable_kind s) || has_result s || is_open_sort s)

-- 3: a role in which a name may have no index, or one
abbrev pub has_index : Role → Option Sort → Bool
has_index part.operand s = is_some (variable_kind s) || is_equate s
has_index part.variable s = is_some (variable_kind s)
has_index part.target s = is_some (variable_kind s) || has_result s
has_index part.answer s = not (has_elements s) && (is_some (variable_kind s) || has_result s)
has_index _ s = false

-- its index is one that what it stands for can have
abbrev pub has_fit_index : Role → Option Sort → ℕ → Bool
has_fit_index role s given = if has_index role s then index_fits s given else true

-- 23: the variable of a FOR
abbrev pub counts : Role → Option Sort → Bool
counts part.counter s = is_simple_integer s || is_integer_parameter s || is_open_sort s
counts _ s = true

-- 12: a result is assigned in its body, and has a kind
abbrev pub is_result_of : Scope → List ℕ → Option Sort → Bool
is_result_of sc x (Some (n.procedure p)) = has_name sc.results x && is_some p.result
is_result_of sc x (Some (n.subroutine p)) = has_name sc.results x && is_some p.result
is_result_of sc x _ = true

-- only what is on the left of := is assigned
abbrev pub is_own_result : Role → Scope → List ℕ → Option Sort → Bool
is_own_result part.target sc x s = is_result_of sc x s
is_own_result part.answer sc x s = is_result_of sc x s
is_own_result _ sc x s = true

-- 27: a role in which a name is used as data
abbrev pub is_data_use : Role → Option Sort → Bool
is_data_use part.operand s = is_some (variable_kind s)
is_data_use part.variable s = is_some (variable_kind s)
is_data_use part.callee s = false
is_data_use part.target s = is_some (variable_kind s)
is_data_use part.pointer s = is_pointer s
is_data_use part.counter s = is_simple_integer s
is_data_use part.answer s = not (has_elements s) && is_some (variable_kind s)

-- a split procedure uses its own data alone
abbrev pub is_near : Role → Scope → List ℕ → Option Sort → Bool
is_near role sc x s = if is_data_use role s then not sc.split || sc.is_local x else true

-- an expression that is a wide constant
abbrev pub is_wide_number : Tree → Bool
is_wide_number (tree.Tree.wide v) = true
is_wide_number _ = false

-- 15: a constant of one word; a name is one where it is an EQUATE name, and breaks another rule where it is none
abbrev pub is_narrow : Names → Constant → Bool
is_narrow names (tree.Constant.wide minus v) = false
is_narrow names (tree.Constant.name x at) = is_equate (names x)
is_narrow names _ = true
