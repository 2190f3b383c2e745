-- A piece that stands at the front of a text is read there, whatever follows it.
use Rattle.std.proofs.Common.{ℕ, suc, ◌≡◌, ◌+◌, ◌<◌, ◌≤◌, Bool, true, false, List, [], ◌∷◌, ◌++◌, length, map, Option, Some, None, refl, sym, ap, ◌∙◌, arith, length-append}
use Rattle.std.specs.Prelude.{◌&&◌, ◌||◌, ◌==◌, not, nat_le, option_map, is_some, codes}
use Rattle.std.specs.Cmp.Lexicographic.{same_text}
use Rattle.std.specs.List.{list_all}
use Rattle.std.proofs.lemmas.Bool.Decides.{nat_tests}
use Rattle.std.proofs.lemmas.List.{append_assoc, length-map}
use Rattle.std.proofs.Math.Seq.{drop-append_seam}
use Rattle.spl_cuts.specs.declared.faults.LexKind.{LexKind}
use Rattle.spl_cuts.specs.declared.faults.LexKind.TheVariants as k
use Rattle.spl_cuts.specs.Signs.{word, number, wide, chars, mark}
use Rattle.spl_cuts.specs.Bytes.{is_blank, is_name_byte, is_suffix, is_quote, is_semicolon, is_in_line, capital, Stops, begins, mark_of, mark_of_two, Base, decimal, octal, is_digit_of, prefix, value}
use Rattle.spl_cuts.specs.Commands.{Setting}
use Rattle.spl_cuts.specs.Pieces as g
use Rattle.spl_cuts.specs.Pieces.{Item, nothing, token, settings, Stands, Faulty, Closed, Unclosed, Quoted, Name, Digits, Begins_none, is_comment_word, is_longer}
use Rattle.spl_cuts.specs.Reading.{sound, faulty, close_size, semicolon_size, comment_piece, with_char, with_byte, string_from, string_piece, line_piece, name_piece, number_piece, number_at, one_mark, two_marks, mark_at, piece, piece_at}
use Rattle.spl_cuts.proofs.Fronts.{append_none, both, and_false, not_false, taken_whole, stops_begins}
use Rattle.spl_cuts.proofs.Classes.{at_letter, at_digit, at_percent, at_quote, at_dollar, at_brackets, at_mark, one_apart, two_apart, no_mark}

-- ---- comments

pub closed_size : {body : List ℕ} → Closed body → (rest : List ℕ) → close_size (body ++ rest) ≡ Some (length body)
closed_size g.Closed.closes rest = refl
closed_size (g.Closed.on {b} {c} {bs} h v) rest = rw h (ap (option_map suc) (closed_size v rest))

pub unclosed_size : {body : List ℕ} → Unclosed body → close_size body ≡ None
unclosed_size g.Unclosed.ends = refl
unclosed_size g.Unclosed.one = refl
unclosed_size (g.Unclosed.on {b} {c} {bs} h v) = rw h (ap (option_map suc) (unclosed_size v))

pub ended_size : (body rest : List ℕ) → list_all (λ b. not (is_semicolon b)) body ≡ true → semicolon_size (body ++ 59 ∷ rest) ≡ Some (suc (length body))
ended_size [] rest h = refl
ended_size (b ∷ bs) rest h =
    let k = both (not (is_semicolon b)) (list_all (λ b. not (is_semicolon b)) bs) h in
    rw (not_false (is_semicolon b) k.0) (ap (option_map suc) (ended_size bs rest k.1))

pub unended_size : (body : List ℕ) → list_all (λ b. not (is_semicolon b)) body ≡ true → semicolon_size body ≡ None
unended_size [] h = refl
unended_size (b ∷ bs) h =
    let k = both (not (is_semicolon b)) (list_all (λ b. not (is_semicolon b)) bs) h in
    rw (not_false (is_semicolon b) k.0) (ap (option_map suc) (unended_size bs k.1))

-- ---- strings

-- behind a quote that ends the string
string_ends : (rest : List ℕ) → Stops is_quote rest → string_from true rest ≡ Some ([], 0)
string_ends [] s = refl
string_ends (b ∷ bs) s = rw s refl

pub quoted_string : {cs bs : List ℕ} → Quoted cs bs → (rest : List ℕ) → Stops is_quote rest
    → string_from false (bs ++ 34 ∷ rest) ≡ Some (cs, suc (length bs))
quoted_string g.Quoted.none rest s = ap with_byte (string_ends rest s)
quoted_string (g.Quoted.quote {cs} {bs} v) rest s = ap (λ r. with_byte (with_char 34 r)) (quoted_string v rest s)
quoted_string (g.Quoted.other {b} {cs} {bs} h l v) rest s = rw (h, l) (ap (with_char b) (quoted_string v rest s))

-- a line's end, or the text's, before the last quote
no_more : (rest : List ℕ) → Stops is_in_line rest → string_from false rest ≡ None
no_more [] s = refl
no_more (b ∷ bs) s = let h : is_quote b ≡ false = grind (arith, nat_tests, s) in rw (h, s) refl

pub open_string : {cs bs : List ℕ} → Quoted cs bs → (rest : List ℕ) → Stops is_in_line rest → string_from false (bs ++ rest) ≡ None
open_string g.Quoted.none rest s = no_more rest s
open_string (g.Quoted.quote {cs} {bs} v) rest s = ap (λ r. with_byte (with_char 34 r)) (open_string v rest s)
open_string (g.Quoted.other {b} {cs} {bs} h l v) rest s = rw (h, l) (ap (with_char b) (open_string v rest s))

-- ---- names

pub name_at : (f : Bool) (w rest : List ℕ) → Name w rest → piece_at f (w ++ rest) ≡ name_piece w rest
name_at f [] rest n = let h = n.letter in cc
name_at f (b ∷ bs) rest n =
    let t = taken_whole is_name_byte (b ∷ bs) rest n.all n.longest in
    at_letter f b (bs ++ rest) n.letter ∙ rw (t, drop-append_seam (b ∷ bs) rest) refl

-- a name that is no comment's word
pub short_name : (w rest : List ℕ) → is_comment_word w ≡ false → length w ≤ 15 → name_piece w rest ≡ sound (token (word (map capital w))) (length w)
unfolding name_piece
short_name w rest c l = let h : nat_le (length w) 15 ≡ true = grind (arith, nat_tests, l) in rw (c, h) refl

-- ---- numbers

pub digits_at : (base : Base) (ds rest : List ℕ) → Digits base ds rest → number_at base (ds ++ rest) ≡ number_piece base ds (begins is_suffix rest)
unfolding number_at
digits_at base ds rest d = rw (taken_whole (is_digit_of base) ds rest d.all d.longest, drop-append_seam ds rest) refl

pub number_reads : (f : Bool) (base : Base) (ds rest : List ℕ) → Digits base ds rest → piece_at f ((prefix base ++ ds) ++ rest) ≡ number_piece base ds (begins is_suffix rest)
number_reads f decimal [] rest d = let h = d.some in cc
number_reads f decimal (b ∷ bs) rest d = at_digit f b (bs ++ rest) d.some ∙ digits_at decimal (b ∷ bs) rest d
number_reads f octal [] rest d = let h = d.some in cc
number_reads f octal (b ∷ bs) rest d = at_percent f (b ∷ bs ++ rest) d.some ∙ digits_at octal (b ∷ bs) rest d

single_within : (base : Base) (ds : List ℕ) → value base ds ≤ 65535 → number_piece base ds false ≡ sound (token (number (value base ds))) (length (prefix base) + length ds)
unfolding number_piece
single_within base ds l = let h : nat_le (value base ds) 65535 ≡ true = grind (arith, nat_tests, l) in rw h refl

double_within : (base : Base) (ds : List ℕ) → value base ds ≤ 4294967295 → number_piece base ds true ≡ sound (token (wide (value base ds))) (length (prefix base) + length ds + 1)
unfolding number_piece
double_within base ds l = let h : nat_le (value base ds) 4294967295 ≡ true = grind (arith, nat_tests, l) in rw h refl

single_beyond : (base : Base) (ds : List ℕ) → 65535 < value base ds → number_piece base ds false ≡ faulty k.NumberTooLarge
unfolding number_piece
single_beyond base ds l = let h : nat_le (value base ds) 65535 ≡ false = grind (arith, nat_tests, l) in rw h refl

double_beyond : (base : Base) (ds : List ℕ) → 4294967295 < value base ds → number_piece base ds true ≡ faulty k.NumberTooLarge
unfolding number_piece
double_beyond base ds l = let h : nat_le (value base ds) 4294967295 ≡ false = grind (arith, nat_tests, l) in rw h refl

-- a number's bytes in front of its suffix
pub with_suffix : (base : Base) (ds rest : List ℕ) (d : ℕ) → (prefix base ++ (ds ++ d ∷ [])) ++ rest ≡ (prefix base ++ ds) ++ d ∷ rest
with_suffix base ds rest d =
    append_assoc (prefix base) (ds ++ d ∷ []) rest ∙ ap (λ (xs : List ℕ). prefix base ++ xs) (append_assoc ds (d ∷ []) rest)
    ∙ sym (append_assoc (prefix base) ds (d ∷ rest))

pub suffix_length : (base : Base) (ds : List ℕ) (d : ℕ) → length (prefix base) + length ds + 1 ≡ length (prefix base ++ (ds ++ d ∷ []))
suffix_length base ds d = rw (length-append (prefix base) (ds ++ d ∷ []), length-append ds (d ∷ [])) (omega arith)

-- ---- marks

one_mark_at : (b m : ℕ) (rest : List ℕ) → mark_of b ≡ Some m → is_longer b rest ≡ false → mark_at b rest ≡ sound (token (mark m)) 1
unfolding mark_at two_marks one_mark
one_mark_at b m [] h l = rw h refl
one_mark_at b m (c ∷ bs) h l = rw h (by (mark_of_two b c) l)
  where
    by : (o : Option ℕ) → (is_some o || ((b == 60) && (c == 60))) ≡ false → two_marks o (Some m) ≡ sound (token (mark m)) 1
    by (Some n) e = cc
    by None e = refl

-- no mark alone is the beginning of a comment
not_brackets : (b : ℕ) (rest : List ℕ) → is_longer b rest ≡ false → ((b == 60) && begins (λ c. c == 60) rest) ≡ false
not_brackets b [] l = and_false (b == 60) false refl
not_brackets b (c ∷ bs) l = by (is_some (mark_of_two b c)) ((b == 60) && (c == 60)) l
  where
    by : (x y : Bool) → (x || y) ≡ false → y ≡ false
    by true y e = cc
    by false y e = e

two_marks_at : (b c m : ℕ) (rest : List ℕ) → mark_of_two b c ≡ Some m → mark_at b (c ∷ rest) ≡ sound (token (mark m)) 2
unfolding mark_at two_marks
two_marks_at b c m rest h = rw h refl

-- ---- a byte that begins no piece

none_at : (b : ℕ) (rest : List ℕ) → mark_of b ≡ None → mark_at b rest ≡ faulty k.BadByte
unfolding mark_at two_marks one_mark
none_at b [] h = rw h refl
none_at b (c ∷ bs) h = rw (h, (no_mark b c h).1) refl

none_reads : (f : Bool) (b : ℕ) (rest : List ℕ) → Begins_none f b rest → piece f b rest ≡ faulty k.BadByte
unfolding piece
none_reads f b rest n =
    let l = (no_mark b 0 n.mark).0 in
    rw (n.blank, n.line, l, n.name, n.decimal, n.octal, n.string) (none_at b rest n.mark)

-- ---- all pieces

blank_reads : (f : Bool) (b : ℕ) (rest : List ℕ) → is_blank b ≡ true → piece f b rest ≡ sound nothing 1
unfolding piece
blank_reads f b rest h = rw h refl

comment_is : (n m : ℕ) → comment_piece n (Some m) ≡ sound nothing (n + m)
unfolding comment_piece
comment_is n m = refl

comment_is_open : (n : ℕ) → comment_piece n None ≡ faulty k.OpenComment
unfolding comment_piece
comment_is_open n = refl

comment_word_is : (w rest : List ℕ) → is_comment_word w ≡ true → name_piece w rest ≡ comment_piece (length w) (semicolon_size rest)
unfolding name_piece
comment_word_is w rest h = rw h refl

long_name_is : (w rest : List ℕ) → is_comment_word w ≡ false → 15 < length w → name_piece w rest ≡ faulty k.NameTooLong
unfolding name_piece
long_name_is w rest c l = let h : nat_le (length w) 15 ≡ false = grind (arith, nat_tests, l) in rw (c, h) refl

string_is : (r : List ℕ × ℕ) → string_piece (Some r) ≡ sound (token (chars r.0)) (1 + r.1)
unfolding string_piece
string_is r = refl

string_is_open : string_piece None ≡ faulty k.OpenString
unfolding string_piece
string_is_open = refl

line_is : (n : ℕ) (os : List Setting) → line_piece n (Some os) ≡ sound (settings os) (1 + n)
unfolding line_piece
line_is n os = refl

line_is_bad : (n : ℕ) → line_piece n None ≡ faulty k.BadCommand
unfolding line_piece
line_is_bad n = refl

pub word_front : (w body rest : List ℕ) → (w ++ (body ++ 59 ∷ [])) ++ rest ≡ w ++ (body ++ 59 ∷ rest)
word_front w body rest = append_assoc w (body ++ 59 ∷ []) rest ∙ ap (λ (xs : List ℕ). w ++ xs) (append_assoc body (59 ∷ []) rest)

pub word_length : (w body : List ℕ) → length w + suc (length body) ≡ length (w ++ (body ++ 59 ∷ []))
word_length w body = rw (length-append w (body ++ 59 ∷ []), length-append body (59 ∷ [])) (omega arith)

pub string_front : (bs rest : List ℕ) → (bs ++ 34 ∷ []) ++ rest ≡ bs ++ 34 ∷ rest
string_front bs rest = append_assoc bs (34 ∷ []) rest

pub stands_read : {f : Bool} {front : List ℕ} {item : Item} {rest : List ℕ} → Stands f front item rest → piece_at f (front ++ rest) ≡ sound item (length front)
stands_read {f = f} (g.Stands.blank {b} rest h) = blank_reads f b rest h
stands_read {f = f} (g.Stands.comment body rest c) =
    at_brackets f (body ++ rest) ∙ ap (comment_piece 2) (closed_size c rest) ∙ comment_is 2 (length body) ∙ ap (sound nothing) (omega arith)
stands_read {f = f} (g.Stands.comment_word w body rest n c a) =
    ap (piece_at f) (word_front w body rest) ∙ name_at f w (body ++ 59 ∷ rest) n ∙ comment_word_is w (body ++ 59 ∷ rest) c
    ∙ ap (comment_piece (length w)) (ended_size body rest a) ∙ comment_is (length w) (suc (length body)) ∙ ap (sound nothing) (word_length w body)
stands_read (g.Stands.line bs rest os a s c) =
    let t = taken_whole is_in_line bs rest a s in
    at_dollar (bs ++ rest) ∙ rw (t, c) (line_is (length bs) os ∙ ap (sound (settings os)) (omega arith))
stands_read {f = f} (g.Stands.name w rest n c l) = name_at f w rest n ∙ short_name w rest c l
stands_read {f = f} (g.Stands.single base ds rest d s l) =
    number_reads f base ds rest d ∙ ap (number_piece base ds) (stops_begins is_suffix rest s) ∙ single_within base ds l
    ∙ ap (sound (token (number (value base ds)))) (sym (length-append (prefix base) ds))
stands_read {f = f} (g.Stands.double base ds d rest g h l) =
    ap (piece_at f) (with_suffix base ds rest d) ∙ number_reads f base ds (d ∷ rest) g ∙ ap (number_piece base ds) h ∙ double_within base ds l
    ∙ ap (sound (token (wide (value base ds)))) (suffix_length base ds d)
stands_read {f = f} (g.Stands.string cs bs rest q s) =
    ap (piece_at f) (ap (λ (xs : List ℕ). 34 ∷ xs) (string_front bs rest)) ∙ at_quote f (bs ++ 34 ∷ rest) ∙ ap string_piece (quoted_string q rest s)
    ∙ string_is (cs, suc (length bs)) ∙ ap (sound (token (chars cs))) (string_length bs)
  where
    string_length : (bs : List ℕ) → 1 + suc (length bs) ≡ length (34 ∷ (bs ++ 34 ∷ []))
    string_length bs = let e : length (bs ++ 34 ∷ []) ≡ length bs + 1 = length-append bs (34 ∷ []) in omega (arith, e)
stands_read {f = f} (g.Stands.mark_one b m rest h l) = at_mark f b rest (one_apart b m h) (not_brackets b rest l) ∙ one_mark_at b m rest h l
stands_read {f = f} (g.Stands.mark_two b c m rest h) = let a = two_apart b c m h in at_mark f b (c ∷ rest) a.0 a.1 ∙ two_marks_at b c m rest h

-- the word COMMENT is short
short_word : (w : List ℕ) → is_comment_word w ≡ true → length w ≤ 15
short_word w h =
    let e : length w ≡ 7 = sym (length-map w capital) ∙ ap (λ (xs : List ℕ). length xs) (same_text (map capital w) (codes "COMMENT") (sym h)) in omega (arith, e)

pub faulty_read : {f : Bool} {front : List ℕ} {kind : LexKind} {rest : List ℕ} → Faulty f front kind rest → piece_at f (front ++ rest) ≡ faulty kind
faulty_read {f = f} (g.Faulty.byte {b} rest n) = none_reads f b rest n
faulty_read (g.Faulty.line bs rest a s c) =
    let t = taken_whole is_in_line bs rest a s in at_dollar (bs ++ rest) ∙ rw (t, c) (line_is_bad (length bs))
faulty_read {f = f} (g.Faulty.string cs bs rest q s) = at_quote f (bs ++ rest) ∙ ap string_piece (open_string q rest s) ∙ string_is_open
faulty_read {f = f} (g.Faulty.comment body u) =
    at_brackets f (body ++ []) ∙ ap (comment_piece 2) (ap close_size (append_none body) ∙ unclosed_size u) ∙ comment_is_open 2
faulty_read {f = f} (g.Faulty.comment_word w body n c a) =
    ap (piece_at f) (append_none (w ++ body)) ∙ name_at f w body n ∙ comment_word_is w body c ∙ ap (comment_piece (length w)) (unended_size body a) ∙ comment_is_open (length w)
faulty_read {f = f} (g.Faulty.name w rest n l) = name_at f w rest n ∙ by (is_comment_word w) refl
  where
    by : (b : Bool) → is_comment_word w ≡ b → name_piece w rest ≡ faulty k.NameTooLong
    by true h = let s = short_word w h in absurd (omega (arith, s, l))
    by false h = long_name_is w rest h l
faulty_read {f = f} (g.Faulty.single base ds rest d s l) =
    number_reads f base ds rest d ∙ ap (number_piece base ds) (stops_begins is_suffix rest s) ∙ single_beyond base ds l
faulty_read {f = f} (g.Faulty.double base ds d rest g h l) =
    ap (piece_at f) (with_suffix base ds rest d) ∙ number_reads f base ds (d ∷ rest) g ∙ ap (number_piece base ds) h ∙ double_beyond base ds l
