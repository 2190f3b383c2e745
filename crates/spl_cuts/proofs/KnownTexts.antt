-- Some texts with their tokens or fault, worked by hand.
use Rattle.std.proofs.Common.{ℕ, ◌≡◌, List, [], ◌∷◌, ◌++◌, map, true, false, refl}
use Rattle.std.specs.Prelude.{codes, Result, Ok, Err}
use Prim.Native.String.{String}
use Rattle.spl_tree.specs.declared.names_and_places.At.{At}
use Rattle.spl_cuts.specs.declared.faults.LexKind.{LexKind}
use Rattle.spl_cuts.specs.declared.faults.LexKind.TheVariants as k
use Rattle.spl_cuts.specs.Signs.{Sign, word, number, wide, chars, mark, stop, Placed, Listed}
use Rattle.spl_cuts.specs.Commands.{setting, option, options, command_named, command}
use Rattle.spl_cuts.specs.Reading.{comment_piece, string_piece, line_piece, name_piece, number_piece, number_at, one_mark, two_marks, mark_at, piece, checked, turn, listed_as, kept_as, named, name_found, fed_at, fed, limited, added, finished, continued, turned, read, read_text}

-- what computes here
readers : ℕ
unfolding setting option options command_named command comment_piece string_piece line_piece name_piece number_piece number_at one_mark two_marks mark_at piece checked turn listed_as kept_as named name_found fed_at fed limited added finished continued turned read read_text
readers = 0

-- the tokens alone, or the fault with its line and column
signs : Result Listed (LexKind × At) → Result (List Sign) (LexKind × ℕ × ℕ)
signs (Ok x) = Ok (map (λ (t : Placed). t.what) x.tokens)
signs (Err e) = Err (e.0, e.1.line, e.1.column)

of_text : List ℕ → Result (List Sign) (LexKind × ℕ × ℕ)
unfolding readers signs
of_text text = signs (read_text 1 262144 text)

w : String → Sign
w s = word (codes s)

-- small letters are read as capitals, and blanks part tokens
blanks_part : of_text (codes "begin\t x'1 \r\nEND.") ≡ Ok (w "BEGIN" ∷ w "X'1" ∷ w "END" ∷ mark 5 ∷ stop ∷ [])
unfolding readers of_text w
blanks_part = refl

-- the longest mark is taken
longest_marks : of_text (codes ":=:=<=<>>=<>=") ≡ Ok (mark 16 ∷ mark 16 ∷ mark 17 ∷ mark 19 ∷ mark 18 ∷ mark 19 ∷ mark 6 ∷ stop ∷ [])
unfolding readers of_text
longest_marks = refl

each_mark : of_text (codes "( ) , ; : . = < > + - * / & @ # := <= >= <>")
    ≡ Ok (mark 0 ∷ mark 1 ∷ mark 2 ∷ mark 3 ∷ mark 4 ∷ mark 5 ∷ mark 6 ∷ mark 7 ∷ mark 8 ∷ mark 9 ∷ mark 10 ∷ mark 11 ∷ mark 12 ∷ mark 13 ∷ mark 14
    ∷ mark 15 ∷ mark 16 ∷ mark 17 ∷ mark 18 ∷ mark 19 ∷ stop ∷ [])
unfolding readers of_text
each_mark = refl

-- numbers in both bases, with and without D
numbers : of_text (codes "65535 %177777 4294967295D %37777777777d 5DO %19") ≡ Ok (number 65535 ∷ number 65535 ∷ wide 4294967295 ∷ wide 4294967295 ∷ wide 5 ∷ w "O" ∷ number 1 ∷ number 9 ∷ stop ∷ [])
unfolding readers of_text w
numbers = refl

too_large : of_text (codes " 65536") ≡ Err (k.NumberTooLarge, 1, 2)
unfolding readers of_text
too_large = refl

too_large_wide : of_text (codes "%40000000000D") ≡ Err (k.NumberTooLarge, 1, 1)
unfolding readers of_text
too_large_wide = refl

-- a % before no octal digit begins no token
lone_percent : of_text (codes "A%8") ≡ Err (k.BadByte, 1, 2)
unfolding readers of_text
lone_percent = refl

longest_name : of_text (codes "ABCDEFGHIJKLMNO") ≡ Ok (w "ABCDEFGHIJKLMNO" ∷ stop ∷ [])
unfolding readers of_text w
longest_name = refl

too_long : of_text (codes "\nABCDEFGHIJKLMNOP") ≡ Err (k.NameTooLong, 2, 1)
unfolding readers of_text
too_long = refl

-- a quote twice is one, letters of strings stay, and a line end opens the string
strings : of_text (codes "\"\" \"a\"\"B\" \"\"\"\"") ≡ Ok (chars [] ∷ chars (codes "a\"B") ∷ chars (codes "\"") ∷ stop ∷ [])
unfolding readers of_text
strings = refl

open_string : of_text (codes "A \"B\n\"") ≡ Err (k.OpenString, 1, 3)
unfolding readers of_text
open_string = refl

-- comments of both kinds; a command inside is none
comments : of_text (codes "A<<>B>\n$X>>>comment x\n; COMMENTS") ≡ Ok (w "A" ∷ mark 8 ∷ w "COMMENTS" ∷ stop ∷ [])
unfolding readers of_text w
comments = refl

open_comment : of_text (codes "A << >") ≡ Err (k.OpenComment, 1, 3)
unfolding readers of_text
open_comment = refl

open_comment_word : of_text (codes "COMMENT") ≡ Err (k.OpenComment, 1, 1)
unfolding readers of_text
open_comment_word = refl

-- commands
pages : of_text (codes "$PAGE \"X\n$title\nA") ≡ Ok (w "A" ∷ stop ∷ [])
unfolding readers of_text w
pages = refl

bad_command : of_text (codes "A\n$PAGEX") ≡ Err (k.BadCommand, 2, 1)
unfolding readers of_text
bad_command = refl

no_options : of_text (codes "$CONTROL") ≡ Err (k.BadCommand, 1, 1)
unfolding readers of_text
no_options = refl

-- a dollar that does not begin a line begins no token
lone_dollar : of_text (codes " $PAGE") ≡ Err (k.BadByte, 1, 2)
unfolding readers of_text
lone_dollar = refl

-- a byte that is allowed nowhere: alone, in a string that ends and in one that does not, in a command and in none
bad_alone : of_text (65 ∷ 127 ∷ []) ≡ Err (k.BadByte, 1, 2)
unfolding readers of_text
bad_alone = refl

bad_in_string : of_text (34 ∷ 65 ∷ 0 ∷ 0 ∷ 34 ∷ []) ≡ Err (k.BadByte, 1, 3)
unfolding readers of_text
bad_in_string = refl

bad_in_open_string : of_text (34 ∷ 65 ∷ 0 ∷ []) ≡ Err (k.OpenString, 1, 1)
unfolding readers of_text
bad_in_open_string = refl

bad_in_command : of_text (codes "$PAGE" ++ 200 ∷ []) ≡ Err (k.BadByte, 1, 6)
unfolding readers of_text
bad_in_command = refl

bad_in_bad_command : of_text (codes "$PAG" ++ 200 ∷ []) ≡ Err (k.BadCommand, 1, 1)
unfolding readers of_text
bad_in_bad_command = refl

-- a DEFINE is left out, and its uses stand for its tokens, those of a DEFINE inside for theirs
defines : of_text (codes "DEFINE A=1#,B=A +A#,E=#;B E a") ≡ Ok (number 1 ∷ mark 9 ∷ number 1 ∷ number 1 ∷ stop ∷ [])
unfolding readers of_text
defines = refl

-- a name is defined from its own # on
not_yet : of_text (codes "DEFINE A=A#;A") ≡ Ok (w "A" ∷ stop ∷ [])
unfolding readers of_text w
not_yet = refl

define_inside : of_text (codes "DEFINE A=DEFINE B=1#;#;") ≡ Err (k.BadDefine, 1, 10)
unfolding readers of_text
define_inside = refl

defined_twice : of_text (codes "DEFINE A=1#,A=2#;") ≡ Err (k.BadDefine, 1, 13)
unfolding readers of_text
defined_twice = refl

define_reserved : of_text (codes "DEFINE DO=1#;") ≡ Err (k.BadDefine, 1, 8)
unfolding readers of_text
define_reserved = refl

define_cut_off : of_text (codes "DEFINE A=1#,\n") ≡ Err (k.BadDefine, 2, 1)
unfolding readers of_text
define_cut_off = refl

-- places and segments: a token of a DEFINE has those of the use, and each segment that holds a token is listed once
at : ℕ → ℕ → At
at line column = record { unit = 3; line = line; column = column }

segments : read_text 3 10 (codes "$CONTROL SEGMENT=S\nDEFINE D=1 2#;\n$CONTROL uslinit, segment = t\nD X\n$CONTROL SEGMENT=S,SEGMENT=U,SUBPROGRAM\n")
    ≡ Ok (record {
      tokens = record { what = number 1; at = at 4 1; segment = 0 } ∷ record { what = number 2; at = at 4 1; segment = 0 }
          ∷ record { what = w "X"; at = at 4 3; segment = 0 } ∷ record { what = stop; at = at 6 1; segment = 1 } ∷ [];
      segments = codes "T" ∷ codes "U" ∷ [];
      subprogram = true;
    })
unfolding readers at w
segments = refl

-- the empty text has its end alone, in the segment SEG'
empty : read_text 3 0 [] ≡ Ok (record { tokens = record { what = stop; at = at 1 1; segment = 0 } ∷ []; segments = codes "SEG'" ∷ []; subprogram = false })
unfolding readers at
empty = refl

-- two tokens are kept for the DEFINE and two stand for its use: the third use would be the fifth token
just_enough : signs (read_text 1 4 (codes "DEFINE D=1 2#;D")) ≡ Ok (number 1 ∷ number 2 ∷ stop ∷ [])
unfolding readers signs
just_enough = refl

one_too_many : signs (read_text 1 3 (codes "DEFINE D=1 2#;D")) ≡ Err (k.TooManyTokens, 1, 15)
unfolding readers signs
one_too_many = refl
