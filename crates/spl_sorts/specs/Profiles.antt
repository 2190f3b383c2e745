-- Parameters and profiles as the meaning of sources has them.
use Rattle.std.specs.Prelude.{map}
use Rattle.spl_tree.specs.Views.{letters}
use Rattle.spl_meaning.specs.Names as n
use Rattle.spl_sorts.specs.declared.profiles.Formal.{Formal}
use Rattle.spl_sorts.specs.declared.profiles.Profile.{Profile}

-- a parameter
abbrev pub formal_of : Formal → n.Formal
formal_of f = record { name = letters f.name; at = f.at; kind = f.kind; array = f.array; value = f.value }

-- what is taken and given
abbrev pub profile_of : Profile → n.Profile
profile_of p = record { result = p.result; formals = map formal_of p.formals.items; split = p.split }
