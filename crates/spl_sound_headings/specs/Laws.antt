-- The laws of this crate.
use Rattle.std.specs.Prelude.{◌≡◌, ℕ, true, List, [], None, Some}
use Rattle.spl_ruled_bodies.specs.spl_tree.DeclarationTrees.{Declarations}
use Rattle.spl_ruled_bodies.specs.spl_meaning.Names as n
use Rattle.spl_ruled_bodies.specs.spl_meaning.Names.{Table, Sort, Profile, find, profile_of}
use Rattle.spl_ruled_bodies.specs.spl_meaning.Tables.{Source, Subroutine, with_declarations, unit_table, subroutines_among, subroutine_named, unit_subroutines}
use Rattle.spl_ruled_bodies.specs.spl_meaning.Bodies.{Body, program_of, body_named}
use Rattle.spl_ruled_bodies.specs.spl_meaning.ExpressionRules.{Scope}
use Rattle.spl_ruled_bodies.specs.spl_meaning.DeclarationRules.{Around, local_faults, same_profile}
use Rattle.spl_ruled_bodies.specs.spl_meaning.Sound.{IsSound}
use Rattle.spl_ruled_bodies.specs.spl_scopes.Scopes.{Placed, unit_at}
use Rattle.spl_routes.specs.Unique.{are_unique}

-- In units that break no rule, where no two procedures have one name, what a name of a unit's list stands for is like the heading of the procedure with
-- that name, wherever its body stands.
abbrev pub HeadingsAreAlike : Type 0
HeadingsAreAlike = (us : List Source) → IsSound us → are_unique us ≡ true → (i : ℕ) (p : Placed) → unit_at us i ≡ Some p → (x : List ℕ) (q : Profile)
    → find (unit_table p.unit) x ≡ Some (n.procedure q) → (b : Body) → body_named (program_of us).procedures x ≡ Some b → same_profile q b.profile ≡ true

-- In a list of a procedure that breaks no rule a name that stands for a subroutine has the heading of the subroutine with that name,
abbrev pub SubroutinesAreTheirs : Type 0
SubroutinesAreTheirs = (a : Around) (sc : Scope) (t : Table Sort) (m : ℕ) (ds : Declarations) → local_faults a sc t ds ≡ [] → (x : List ℕ) → find t x ≡ None
    → (p : Profile) → find (with_declarations a.names t ds) x ≡ Some (n.subroutine p) → (s : Subroutine)
    → subroutine_named (subroutines_among m ds) x ≡ Some s → p ≡ profile_of s.heading

-- and so in that of a unit.
abbrev pub MainSubroutinesAreTheirs : Type 0
MainSubroutinesAreTheirs = (us : List Source) → IsSound us → (i : ℕ) (p : Placed) → unit_at us i ≡ Some p → (x : List ℕ) (q : Profile)
    → find (unit_table p.unit) x ≡ Some (n.subroutine q) → (s : Subroutine) → subroutine_named (unit_subroutines p.unit) x ≡ Some s
    → q ≡ profile_of s.heading
