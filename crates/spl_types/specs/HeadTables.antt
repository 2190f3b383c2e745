-- The procedures of a unit that have bodies, as the EXTERNAL headings of other units are held against them.
use Rattle.std.specs.Prelude.{ℕ, not, Bool, true, false, if◌then◌else◌, List, Option, Some, None}
use Rattle.spl_tree.specs.DeclarationTrees as decl
use Rattle.spl_tree.specs.DeclarationTrees.{Declaration, Declarations}
use Rattle.spl_sound.specs.spl_meaning.Names as n
use Rattle.spl_sound.specs.spl_meaning.Names.{Names, Sort, Profile, find, nothing_declared, profile_of}
use Rattle.spl_sound.specs.spl_meaning.DeclarationRules.{same_profile}
use Rattle.spl_sorts.specs.Tables.{table_of}
use Rattle.spl_uses.specs.spl_found.OwnNames.{with_name}
use Rattle.spl_types.specs.declared.heads.Bodies.{Bodies}

-- the first procedure of each name, and the names of which another differs from it
pub record Heads : Type 0 where
  pub firsts : Names
  pub unlike : Names

-- no procedure
abbrev pub no_heads : Heads
no_heads = record { firsts = nothing_declared; unlike = nothing_declared }

-- a procedure differs from the first of its name
abbrev pub differs : Option Sort → Profile → Bool
differs (Some (n.procedure q)) p = not (same_profile q p)
differs _ p = false

-- a procedure more
abbrev pub heads_with : Heads → List ℕ → Profile → Heads
heads_with s x p = record {
  firsts = with_name s.firsts x (n.procedure p);
  unlike = if differs (s.firsts x) p then with_name s.unlike x n.label else s.unlike;
}

-- those behind a declaration
abbrev pub heads_behind : Heads → Declaration → Heads
heads_behind s (decl.Declaration.procedure h items ss) = heads_with s h.name (profile_of h)
heads_behind s d = s

-- those of declarations in order
abbrev pub heads_list : Heads → Declarations → Heads
heads_list s decl.none = s
heads_list s (decl.and d ds) = heads_list (heads_behind s d) ds

-- all procedures of a name take and give this
abbrev pub agreed_by : Option Sort → Option Sort → Profile → Bool
agreed_by first (Some other) p = false
agreed_by (Some (n.procedure q)) None p = same_profile p q
agreed_by _ None p = true

abbrev pub agreed : Heads → List ℕ → Profile → Bool
agreed s x p = agreed_by (s.firsts x) (s.unlike x) p

-- what the tables hold
abbrev pub heads_of : Bodies → Heads
heads_of b = record { firsts = find (table_of b.firsts); unlike = find (table_of b.unlike) }
