-- Parameters that are alike.
use Rattle.std.specs.Prelude.{◌==◌, ◌&&◌, Bool}
use Rattle.spl_sound.specs.spl_meaning.Names.{Formal, same_flag}
use Rattle.spl_sound.specs.spl_meaning.DeclarationRules.{kind_number}

-- in kind, array or not, and VALUE or not
abbrev pub same_formal : Formal → Formal → Bool
same_formal f g = kind_number f.kind == kind_number g.kind && same_flag f.array g.array && same_flag f.value g.value
