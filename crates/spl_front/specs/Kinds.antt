-- The kinds of the faults of tokens.
use Rattle.std.specs.Prelude.{Option, Some, None}
use Rattle.spl_cuts.specs.declared.faults.LexKind.{LexKind}
use Rattle.spl_cuts.specs.declared.faults.LexKind.TheVariants as lex
use Rattle.spl_tree.specs.declared.fault_kinds.FaultKind.{FaultKind}
use Rattle.spl_tree.specs.declared.fault_kinds.FaultKind.TheVariants.{BadByte, BadCommand, OpenString, OpenComment, NameTooLong, NumberTooLarge, BadDefine, TooManyTokens}

-- the kind of a fault of tokens; want of memory is none
abbrev pub kind_of : LexKind → Option FaultKind
kind_of lex.BadByte = Some BadByte
kind_of lex.BadCommand = Some BadCommand
kind_of lex.OpenString = Some OpenString
kind_of lex.OpenComment = Some OpenComment
kind_of lex.NameTooLong = Some NameTooLong
kind_of lex.NumberTooLarge = Some NumberTooLarge
kind_of lex.BadDefine = Some BadDefine
kind_of lex.TooManyTokens = Some TooManyTokens
kind_of lex.NoMemory = None
