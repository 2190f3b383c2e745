-- A text read from its front, piece by piece.
use Rattle.std.specs.Prelude.{ℕ, zero, suc, ◌+◌, ◌-◌, Bool, true, false, ◌==◌, ◌&&◌, nat_lt, nat_le, List, [], ◌∷◌, ◌++◌, length, map, take, drop, take_while, Option, None, Some, Result, Ok, Err, option_map, if◌then◌else◌}
use Rattle.spl_tree.specs.declared.names_and_places.At.{At}
use Rattle.spl_cuts.specs.declared.faults.LexKind.{LexKind}
use Rattle.spl_cuts.specs.declared.faults.LexKind.TheVariants as k
use Rattle.spl_cuts.specs.Signs.{Sign, word, number, wide, chars, mark, Found, Listed}
use Rattle.spl_cuts.specs.Bytes.{is_allowed, blanked, is_blank, is_letter, is_digit, is_octal_digit, is_name_byte, is_suffix, is_quote, is_semicolon, is_in_line, capital, begins, mark_of, mark_of_two, Base, decimal, octal, is_digit_of, prefix, value, past_all}
use Rattle.spl_cuts.specs.Commands.{Setting, command}
use Rattle.spl_cuts.specs.Pieces.{Item, nothing, token, settings, is_comment_word}
use Rattle.spl_cuts.specs.Defines.{State, Phase, outside, before_name, before_equals, inside, behind_hash, defined, use_of, is_reserved, is_define, is_mark, comma, semicolon, equals, hash, at_use, is_outside}
use Rattle.spl_cuts.specs.Cutting.{Here, here, start, fresh, after, begins_line, listed}

-- the piece at the front of a text: what it gives and how many bytes it has, or its fault
pub data Outcome : Type 0 where
  sound : Item → ℕ → Outcome
  faulty : LexKind → Outcome

-- how many bytes there are up to the end of the next >>
abbrev pub close_size : List ℕ → Option ℕ
close_size [] = None
close_size (b ∷ []) = None
close_size (b ∷ c ∷ bs) = if (b == 62) && (c == 62) then Some 2 else option_map suc (close_size (c ∷ bs))

-- how many bytes there are up to the next ; with it
abbrev pub semicolon_size : List ℕ → Option ℕ
semicolon_size [] = None
semicolon_size (b ∷ bs) = if is_semicolon b then Some 1 else option_map suc (semicolon_size bs)

-- a comment that begins with so many bytes, and has so many more if it ends
unfoldable pub comment_piece : ℕ → Option ℕ → Outcome
comment_piece n None = faulty k.OpenComment
comment_piece n (Some m) = sound nothing (n + m)

-- a character before the others of a string, written in so many bytes
abbrev pub with_char : ℕ → Option (List ℕ × ℕ) → Option (List ℕ × ℕ)
with_char b None = None
with_char b (Some r) = Some (b ∷ r.0, suc r.1)

abbrev pub with_byte : Option (List ℕ × ℕ) → Option (List ℕ × ℕ)
with_byte None = None
with_byte (Some r) = Some (r.0, suc r.1)

-- the characters of a string and how many bytes are left of it, its last quote with them; behind a quote that may end it
abbrev pub string_from : Bool → List ℕ → Option (List ℕ × ℕ)
string_from true [] = Some ([], 0)
string_from false [] = None
string_from true (b ∷ bs) = if is_quote b then with_char 34 (string_from false bs) else Some ([], 0)
string_from false (b ∷ bs) = if is_quote b then with_byte (string_from true bs) else if is_in_line b then with_char b (string_from false bs) else None

unfoldable pub string_piece : Option (List ℕ × ℕ) → Outcome
string_piece None = faulty k.OpenString
string_piece (Some r) = sound (token (chars r.0)) (1 + r.1)

-- a command line with these bytes behind its $
unfoldable pub line_piece : ℕ → Option (List Setting) → Outcome
line_piece n None = faulty k.BadCommand
line_piece n (Some os) = sound (settings os) (1 + n)

unfoldable pub name_piece : List ℕ → List ℕ → Outcome
name_piece w rest =
    if is_comment_word w then comment_piece (length w) (semicolon_size rest) else
    if nat_le (length w) 15 then sound (token (word (map capital w))) (length w) else faulty k.NameTooLong

-- a number of these digits, with or without the suffix
unfoldable pub number_piece : Base → List ℕ → Bool → Outcome
number_piece base ds true =
    if nat_le (value base ds) 4294967295 then sound (token (wide (value base ds))) (length (prefix base) + length ds + 1) else faulty k.NumberTooLarge
number_piece base ds false =
    if nat_le (value base ds) 65535 then sound (token (number (value base ds))) (length (prefix base) + length ds) else faulty k.NumberTooLarge

unfoldable pub number_at : Base → List ℕ → Outcome
number_at base bs = let ds = take_while (is_digit_of base) bs in number_piece base ds (begins is_suffix (drop (length ds) bs))

unfoldable pub one_mark : Option ℕ → Outcome
one_mark None = faulty k.BadByte
one_mark (Some m) = sound (token (mark m)) 1

unfoldable pub two_marks : Option ℕ → Option ℕ → Outcome
two_marks None one = one_mark one
two_marks (Some m) one = sound (token (mark m)) 2

unfoldable pub mark_at : ℕ → List ℕ → Outcome
mark_at b [] = one_mark (mark_of b)
mark_at b (c ∷ bs) = two_marks (mark_of_two b c) (mark_of b)

-- the piece at the front of a text with this first byte, where no byte stands that is allowed nowhere
unfoldable pub piece : Bool → ℕ → List ℕ → Outcome
piece f b bs =
    if is_blank b then sound nothing 1 else
    if f && (b == 36) then line_piece (length (take_while is_in_line bs)) (command (take_while is_in_line bs)) else
    if (b == 60) && begins (λ c. c == 60) bs then comment_piece 2 (close_size (drop 1 bs)) else
    if is_letter b then name_piece (take_while is_name_byte (b ∷ bs)) (drop (length (take_while is_name_byte (b ∷ bs))) (b ∷ bs)) else
    if is_digit b then number_at decimal (b ∷ bs) else
    if (b == 37) && begins is_octal_digit bs then number_at octal bs else
    if is_quote b then string_piece (string_from false bs) else mark_at b bs

abbrev pub piece_at : Bool → List ℕ → Outcome
piece_at f [] = faulty k.BadByte
piece_at f (b ∷ bs) = piece f b bs

-- what a text begins with, or a fault so many bytes behind its front
pub data Turn : Type 0 where
  go : Item → ℕ → Turn
  fault : LexKind → ℕ → Turn

-- the first byte of a piece that is allowed nowhere is a fault
unfoldable pub checked : List ℕ → Outcome → Turn
checked text (faulty kind) = fault kind 0
checked text (sound item n) =
    let good = length (take_while is_allowed (take n text)) in if nat_lt good n then fault k.BadByte good else go item n

unfoldable pub turn : Bool → List ℕ → Turn
turn f text = checked text (piece_at f (map blanked text))

-- a use, or a token that is none
unfoldable pub listed_as : State → Found → Option (List Sign) → State
listed_as s t None = record s { found = s.found ++ t ∷ []; count = s.count + 1 }
listed_as s t (Some xs) = record s { found = s.found ++ at_use t xs; count = s.count + length xs }

unfoldable pub kept_as : State → Sign → List ℕ → List Sign → Option (List Sign) → State
kept_as s x n ks None = record s { phase = inside n (ks ++ x ∷ []); count = s.count + 1 }
kept_as s x n ks (Some xs) = record s { phase = inside n (ks ++ xs); count = s.count + length xs }

-- a name that is defined now
unfoldable pub named : State → List ℕ → Bool → Option (List Sign) → Option State
named s n false None = Some (record s { phase = before_equals n })
named s n _ _ = None

unfoldable pub name_found : State → Sign → Option State
name_found s (word n) = named s n (is_reserved n) (defined n s.defines)
name_found s _ = None

-- what a token makes of what was found before, and nothing where it breaks a DEFINE
unfoldable pub fed_at : Phase → State → Found → Option State
fed_at outside s t = if is_define t.what then Some (record s { phase = before_name }) else Some (listed_as s t (use_of s.defines t.what))
fed_at before_name s t = name_found s t.what
fed_at (before_equals n) s t = if is_mark equals t.what then Some (record s { phase = inside n [] }) else None
fed_at (inside n ks) s t =
    if is_mark hash t.what then Some (record s { defines = s.defines ++ record { name = n; signs = ks } ∷ []; phase = behind_hash }) else
    if is_define t.what then None else Some (kept_as s t.what n ks (use_of s.defines t.what))
fed_at behind_hash s t =
    if is_mark comma t.what then Some (record s { phase = before_name }) else
    if is_mark semicolon t.what then Some (record s { phase = outside }) else None

unfoldable pub fed : State → Found → Option State
fed s t = fed_at s.phase s t

-- at most so many tokens arise
unfoldable pub limited : ℕ → Option State → Result State LexKind
limited limit None = Err k.BadDefine
limited limit (Some s) = if nat_lt limit s.count then Err k.TooManyTokens else Ok s

unfoldable pub added : ℕ → Here → State → Item → Result State LexKind
added limit h s (token x) = limited limit (fed s (here h x))
added limit h s _ = Ok s

-- the end of the text
unfoldable pub finished : Here → State → Result Listed (LexKind × At)
finished h s = if is_outside s.phase then Ok (listed h s) else Err (k.BadDefine, h.at)

-- what follows where the item of a piece is added
unfoldable pub continued : Here → Result State LexKind → (State → Result Listed (LexKind × At)) → Result Listed (LexKind × At)
continued h (Err kind) next = Err (kind, h.at)
continued h (Ok s) next = next s

-- a turn of the reader at a text, and what follows it
unfoldable pub turned : ℕ → Here → State → List ℕ → Turn → (ℕ → Here → State → Result Listed (LexKind × At)) → Result Listed (LexKind × At)
turned limit h s text (fault kind n) next = Err (kind, past_all h.at (take n text))
turned limit h s text (go item n) next = continued h (added limit h s item) (next (n - 1) (after h (take n text) item))

-- the tokens of a text of which n bytes are passed over, since they belong to the piece before
unfoldable pub read : ℕ → ℕ → Here → State → List ℕ → Result Listed (LexKind × At)
read limit n h s [] = finished h s
read limit (suc n) h s (b ∷ bs) = read limit n h s bs
read limit zero h s (b ∷ bs) = turned limit h s (b ∷ bs) (turn (begins_line h) (b ∷ bs)) (λ m there s1. read limit m there s1 bs)

-- what a unit's text is read as, in which at most so many tokens arise
unfoldable pub read_text : ℕ → ℕ → List ℕ → Result Listed (LexKind × At)
read_text unit limit text = read limit 0 (start unit) fresh text
