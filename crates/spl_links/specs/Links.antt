-- How the calls in the code of a body find the procedures and subroutines that they call: by which entry or want, and with which parameters.
use Rattle.std.specs.Prelude.{◌≡◌, ℕ, Bool, false, true, not, ◌&&◌, if◌then◌else◌, List, Option, Some, None, is_some, position}
use Rattle.spl_intrinsics.specs.hp_instr.declared.instruction.Instr.TheVariants as i
use Rattle.spl_intrinsics.specs.spl_meaning.Names as n
use Rattle.spl_intrinsics.specs.spl_meaning.Names.{Sort, Profile}
use Rattle.spl_intrinsics.specs.spl_meaning.Values.{Who, procedure, subroutine, Callee}
use Rattle.spl_intrinsics.specs.spl_code.Calls.{Scope}
use Rattle.spl_intrinsics.specs.spl_code.Parts.{Wanted, is_wanted}
use Rattle.spl_intrinsics.specs.spl_follow.Calling.{Link, Calls}
use Rattle.spl_intrinsics.specs.spl_follow.Simulating.{Surroundings}
use Rattle.spl_intrinsics.specs.spl_endings.Gates.{GatesLead}

-- by PCAL, of a want or of an entry of the module by its index
abbrev pub linked_by : Bool → ℕ → Profile → Link
linked_by wanted index p = record { by = i.Control 0 0; wanted = wanted; index = index; profile = p }

-- a procedure of the module by its entry; of another by its place among the names that the module wants, where it is one of them
abbrev pub procedure_link : Option ℕ → Option ℕ → Profile → Option Link
procedure_link (Some entry) place p = Some (linked_by false entry p)
procedure_link None (Some index) p = Some (linked_by true index p)
procedure_link None None p = None

-- a name by what it stands for
abbrev pub name_link : Scope → List Wanted → List ℕ → Option Sort → Option Link
name_link c ws x (Some (n.procedure p)) = procedure_link (c.procedures x) (position (is_wanted x false) ws) p
name_link c ws x sort = None

-- a subroutine of the body by its entry, by SCAL
abbrev pub subroutine_link : Option ℕ → Profile → Option Link
subroutine_link (Some entry) p = Some (record { by = i.Control 3 0; wanted = false; index = entry; profile = p })
subroutine_link None p = None

-- a subroutine's name by what it stands for
abbrev pub inner_link : Scope → List ℕ → Option Sort → Option Link
inner_link c x (Some (n.subroutine p)) = subroutine_link (c.subroutines x) p
inner_link c x sort = None

-- Whom a body may call, of those that `may` has; its code was made in this scope, and its module wants these names in all.
abbrev pub links_of : (Who → Bool) → Scope → List Wanted → Who → Option Link
links_of may c ws (procedure x) = if may (procedure x) then name_link c ws x (c.names x) else None
links_of may c ws (subroutine x) = if may (subroutine x) then inner_link c x (c.names x) else None

-- of those that `may` has, those that may be called in a mode: in split mode no procedure
abbrev pub in_mode : Bool → (Who → Bool) → Who → Bool
in_mode split may (procedure x) = may (procedure x) && not split
in_mode split may (subroutine x) = may (subroutine x)

-- What the calls in a body find around it, where no more than d steps are left: each intrinsic that its module wants is served; each subroutine that
-- it may call has an entry; and whomever it may call in its mode is followed.
pub record MayCall (may : Who → Bool) (c : Scope) (z : Surroundings) (d : ℕ) (call : Callee) : Type 0 where
  pub gates : GatesLead z.sites z.wants
  pub entries : (x : List ℕ) (p : Profile) → may (subroutine x) ≡ true → c.names x ≡ Some (n.subroutine p) → is_some (c.subroutines x) ≡ true
  pub calls : Calls z.ground z.rate z.sites z.setting (links_of (in_mode z.setting.split may) c z.wants) d call
