-- Entries of modules, worked by hand.
use Rattle.std.specs.Prelude.{◌≡◌, ℕ, [], ◌∷◌, codes, Option, Some, None, refl}
use Prim.Native.String.{String}
use Rattle.spl_code.specs.Calls.{Scope}
use Rattle.spl_scopes.specs.Entries.{main, routine, procedure, subroutine, Entry, Callee, module_entries}
use Rattle.spl_scopes.specs.Scopes.{outer, inner, scope_at}
use Rattle.spl_scopes.proofs.KnownUnits.{first_unit, units}

abbrev pub entry : String → ℕ → Callee → Entry
entry x g c = record { name = codes x; segment = g; callee = c }

-- segment 1 has F with its subroutine, and H with its two; P stands in another, and T in that of the main body
pub known_module : module_entries first_unit 1
    ≡ entry "F" 1 procedure ∷ entry "S" 1 (subroutine (routine 0)) ∷ entry "H" 1 procedure ∷ entry "S" 1 (subroutine (routine 2))
    ∷ entry "U" 1 (subroutine (routine 2)) ∷ []
known_module = refl

pub known_other_module : module_entries first_unit 2 ≡ entry "P" 2 procedure ∷ []
known_other_module = refl

pub known_main_module : module_entries first_unit 0 ≡ entry "T" 0 (subroutine main) ∷ []
known_main_module = refl

-- the entry of a procedure and of a subroutine in a scope, where there is one
abbrev pub procedure_in : Option Scope → String → Option ℕ
procedure_in None x = None
procedure_in (Some s) x = s.procedures (codes x)

abbrev pub subroutine_in : Option Scope → String → Option ℕ
subroutine_in None x = None
subroutine_in (Some s) x = s.subroutines (codes x)

-- F calls H by its entry, and P as a name of another module
pub known_called : procedure_in (scope_at units 0 (outer (routine 0))) "H" ≡ Some 2
known_called = refl

pub known_wanted : procedure_in (scope_at units 0 (outer (routine 0))) "P" ≡ None
known_wanted = refl

-- the main body stands in no segment of a procedure
pub known_from_main : procedure_in (scope_at units 0 (outer main)) "F" ≡ None
known_from_main = refl

-- two bodies have a subroutine S: each calls its own, from itself and from its subroutines
pub known_own : subroutine_in (scope_at units 0 (outer (routine 0))) "S" ≡ Some 1
known_own = refl

pub known_other_own : subroutine_in (scope_at units 0 (inner (routine 2) 1)) "S" ≡ Some 3
known_other_own = refl

pub known_not_own : subroutine_in (scope_at units 0 (outer (routine 0))) "U" ≡ None
known_not_own = refl

pub known_main : subroutine_in (scope_at units 0 (inner main 0)) "T" ≡ Some 0
known_main = refl
