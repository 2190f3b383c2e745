-- What the code of statements is made with, as the definition has it.
use Rattle.std.specs.Prelude.{ℕ}
use Rattle.spl_operations.specs.spl_spots.declared.name_maps.NameMap.{NameMap}
use Rattle.spl_gen_expr.specs.spl_code_scopes.declared.scopes.Scope.{Scope}
use Rattle.spl_gen_expr.specs.spl_code_scopes.Scopes.{scope_of}
use Rattle.spl_statement_code.specs.Landings as code
use Rattle.spl_landing_maps.specs.declared.landing.Landing.{Landing}
use Rattle.spl_landing_maps.specs.Landings.{landings_of}
use Rattle.spl_gen_stmt.specs.declared.contexts.Context.{Context}

-- a scope, labels, and the mark of the way out
abbrev pub context_by : Scope → NameMap Landing → ℕ → code.Context
context_by scope landings leave = record { scope = scope_of scope; landings = landings_of landings; leave = leave }

-- a context
abbrev pub context_of : Context → code.Context
context_of c = context_by c.scope.now c.landings.now c.leave
