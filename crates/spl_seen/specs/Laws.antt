-- The laws of this crate.
use Rattle.std.specs.Prelude.{◌≡◌, ℕ, Bool, true, false, List, [], Option, None, Some}
use Rattle.std.specs.List.{slice_get}
use Rattle.spl_ruled_bodies.specs.spl_meaning.Names as n
use Rattle.spl_ruled_bodies.specs.spl_meaning.Names.{Profile, find}
use Rattle.spl_ruled_bodies.specs.spl_meaning.Tables.{Source, Routine, Subroutine, routines_of, routine_names, routine_subroutines, unit_table, unit_subroutines}
use Rattle.spl_ruled_bodies.specs.spl_meaning.Bodies.{Body, Named, main_body, subroutine_body}
use Rattle.spl_ruled_bodies.specs.spl_meaning.Values.{Who, procedure, subroutine}
use Rattle.spl_ruled_bodies.specs.spl_meaning.ExpressionRules as rule
use Rattle.spl_ruled_bodies.specs.spl_meaning.DeclarationRules.{heading_faults, main_scope, subroutine_scope}
use Rattle.spl_ruled_bodies.specs.spl_meaning.Limits.{Use, use_limits, subroutine_limits, first_full}
use Rattle.spl_ruled_bodies.specs.spl_meaning.Sound.{IsSound}
use Rattle.spl_sound_values.specs.spl_scopes.Entries.{Owner, main, routine, Entry, module_entries, subroutine_index}
use Rattle.spl_sound_values.specs.spl_scopes.Scopes.{Placed, unit_at, routine_bodies, global_places, body_segment}
use Rattle.spl_ruled_bodies.specs.spl_module_code.Bodies.{statements_scope}
use Rattle.spl_ruled_bodies.specs.spl_sound.Spelled.{AreSpelled}
use Rattle.spl_ruled_bodies.specs.spl_places.Programs.{Each}
use Rattle.spl_ruled_bodies.specs.Ruled.{RoutineAt, scope_of}
use Rattle.spl_ruled_bodies.specs.Laws.{AreShaped}
use Rattle.spl_sound_values.specs.Seen.{Seen, UseAllowed}
use Rattle.spl_seen.specs.Grounds.{Grounds}

-- ---- bodies

-- In units that tokens spell, that break no rule and that pass no limit, so much is known of each main body,
abbrev pub MainBodiesAreGrounded : Type 0
MainBodiesAreGrounded = (us : List Source) → AreSpelled us → AreShaped us → IsSound us → first_full us ≡ None → (i : ℕ) (p : Placed) → unit_at us i ≡ Some p
    → Grounds (subroutine_index main (module_entries p.unit p.unit.tree.segment)) (main_body (global_places p) p.unit) (main_scope p.unit)

-- of each procedure,
abbrev pub RoutinesAreGrounded : Type 0
RoutinesAreGrounded = (us : List Source) → AreSpelled us → AreShaped us → IsSound us → first_full us ≡ None → (i : ℕ) (p : Placed) → unit_at us i ≡ Some p
    → (j : ℕ) (b : Named) → slice_get (routine_bodies p) j ≡ Some b → (r : RoutineAt p j b)
    → Grounds (subroutine_index (routine j) (module_entries p.unit (body_segment p.unit (routine j)))) b.body (scope_of r.its)

-- and of each subroutine of one of them.
abbrev pub SubroutinesAreGrounded : Type 0
SubroutinesAreGrounded = (entries : List ℕ → Option ℕ) (b : Body) (sc : rule.Scope) (s : Subroutine) → Grounds entries b sc → b.here.setting.inside ≡ false
    → heading_faults sc.split s.heading ≡ [] → Grounds entries (subroutine_body b s) (subroutine_scope sc s.heading)

-- a subroutine that a name stands for may be called, and a procedure
abbrev pub MayCallInners : (Who → Bool) → Body → Type 0
MayCallInners may b = (x : List ℕ) (p : Profile) → b.here.names x ≡ Some (n.subroutine p) → may (subroutine x) ≡ true

abbrev pub MayCallProcedures : (Who → Bool) → Body → Type 0
MayCallProcedures may b = (x : List ℕ) (p : Profile) → b.here.names x ≡ Some (n.procedure p) → may (procedure x) ≡ true

-- So much is known of the names that a body's code is made with.
abbrev pub GroundsAreSeen : Type 0
GroundsAreSeen = (may : Who → Bool) (es : List Entry) (o : Owner) (b : Body) (sc : rule.Scope) → Grounds (subroutine_index o es) b sc → MayCallInners may b
    → Seen may (statements_scope es o b) b.here.setting sc

-- ---- uses

-- Each use of a name in a main body or a procedure is allowed,
abbrev pub OuterUsesAreAllowed : Type 0
OuterUsesAreAllowed = (may : Who → Bool) (es : List Entry) (o : Owner) (b : Body) (sc : rule.Scope) → Grounds (subroutine_index o es) b sc
    → b.here.setting.inside ≡ false → MayCallProcedures may b → (u : Use) → UseAllowed may (statements_scope es o b) u

-- and in a subroutine each that passes no limit.
abbrev pub InnerUsesAreAllowed : Type 0
InnerUsesAreAllowed = (may : Who → Bool) (es : List Entry) (o : Owner) (b : Body) (sc : rule.Scope) (s : Subroutine) → Grounds (subroutine_index o es) b sc
    → b.here.setting.inside ≡ false → MayCallProcedures may (subroutine_body b s) → (u : Use) → use_limits s.heading u ≡ []
    → UseAllowed may (statements_scope es o (subroutine_body b s)) u

-- Where units pass no limit, neither does a subroutine of a main body or a procedure.
abbrev pub SubroutinesPassNone : Type 0
SubroutinesPassNone = (us : List Source) → first_full us ≡ None → (i : ℕ) (u : Source) → slice_get us i ≡ Some u
    → Each (λ s. subroutine_limits (find (unit_table u)) s ≡ []) (unit_subroutines u)
    × ((j : ℕ) (r : Routine) → slice_get (routines_of u) j ≡ Some r → Each (λ s. subroutine_limits (routine_names r) s ≡ []) (routine_subroutines r))
