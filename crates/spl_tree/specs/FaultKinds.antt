-- The names of the kinds of faults, as refusals tell them.
use Rattle.std.specs.Prelude.{ℕ, List, codes}
use Rattle.spl_tree.specs.declared.fault_kinds.FaultKind.{FaultKind}
use Rattle.spl_tree.specs.declared.fault_kinds.FaultKind.TheVariants.{BadByte, BadCommand, OpenString, OpenComment, NameTooLong, NumberTooLarge, BadDefine, TooManyTokens, Syntax, TooDeep}

abbrev pub kind_name : FaultKind → List ℕ
kind_name BadByte = codes "BADBYTE"
kind_name BadCommand = codes "BADCOMMAND"
kind_name OpenString = codes "OPENSTRING"
kind_name OpenComment = codes "OPENCOMMENT"
kind_name NameTooLong = codes "NAMETOOLONG"
kind_name NumberTooLarge = codes "NUMBERTOOLARGE"
kind_name BadDefine = codes "BADDEFINE"
kind_name TooManyTokens = codes "TOOMANYTOKENS"
kind_name Syntax = codes "SYNTAX"
kind_name TooDeep = codes "TOODEEP"
