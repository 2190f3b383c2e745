-- How many entries a unit has in a segment, and how often the bodies there call at most.
use Rattle.std.specs.Prelude.{ℕ, suc, ◌+◌, nat_eq, if◌then◌else◌}
use Rattle.spl_module_code.specs.spl_tree.DeclarationTrees as decl
use Rattle.spl_module_code.specs.spl_tree.DeclarationTrees.{Declaration, Declarations, declarations}
use Rattle.spl_module_code.specs.spl_tree.StatementTrees.{statements}
use Rattle.spl_module_code.specs.spl_meaning.Tables.{Source}
use Rattle.spl_few_calls.specs.Calls.{calls_in, calls_within}

-- ---- subroutines

abbrev pub inner_calls : Declaration → ℕ
inner_calls (decl.Declaration.subroutine h s) = calls_in s
inner_calls d = 0

-- in the subroutines of a list
abbrev pub all_inner_calls : Declarations → ℕ
all_inner_calls decl.none = 0
all_inner_calls (decl.and d ds) = inner_calls d + all_inner_calls ds

-- ---- the bodies of a unit in a segment, where its main body stands in another or there

-- of a declaration: a procedure with its subroutines, or a subroutine of the main body
abbrev pub calls_at : ℕ → ℕ → Declaration → ℕ
calls_at main g (decl.Declaration.procedure h items ss) = if nat_eq h.segment g then all_inner_calls items + calls_within (statements ss) else 0
calls_at main g (decl.Declaration.subroutine h s) = if nat_eq main g then calls_in s else 0
calls_at main g d = 0

abbrev pub all_calls_at : ℕ → ℕ → Declarations → ℕ
all_calls_at main g decl.none = 0
all_calls_at main g (decl.and d ds) = calls_at main g d + all_calls_at main g ds

-- the main body calls what ends the program, too
abbrev pub main_calls_at : ℕ → Source → ℕ
main_calls_at g u = if nat_eq u.tree.segment g then suc (calls_within (statements u.tree.statements)) else 0

-- of all bodies
abbrev pub module_calls : Source → ℕ → ℕ
module_calls u g = all_calls_at u.tree.segment g (declarations u.tree.items) + main_calls_at g u
