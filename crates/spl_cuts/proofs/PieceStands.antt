-- What is read at the front of a text stands there: a piece with the bytes that are told, or a faulty one.
use Rattle.std.proofs.Common.{ℕ, suc, ◌≡◌, ◌+◌, ◌<◌, Bool, true, false, List, [], ◌∷◌, ◌++◌, length, map, drop, Option, Some, None, refl, sym, ap, subst, ◌∙◌, arith, length-append}
use Rattle.std.specs.Prelude.{◌&&◌, ◌==◌, not, nat_le, option_map, if◌then◌else◌}
use Rattle.std.specs.List.{take_while, list_all}
use Rattle.std.proofs.lemmas.Bool.Decides.{nat_tests}
use Rattle.std.proofs.lemmas.Bool.{eqb-true}
use Rattle.std.proofs.lemmas.List.{append_assoc}
use Rattle.spl_cuts.specs.declared.faults.LexKind.{LexKind}
use Rattle.spl_cuts.specs.declared.faults.LexKind.TheVariants as k
use Rattle.spl_cuts.specs.Signs.{word, wide}
use Rattle.spl_cuts.specs.Bytes.{is_blank, is_letter, is_digit, is_octal_digit, is_name_byte, is_suffix, is_quote, is_semicolon, is_in_line, capital, Stops, begins, mark_of, mark_of_two, Base, decimal, octal, is_digit_of, prefix, value}
use Rattle.spl_cuts.specs.Commands.{Setting, command}
use Rattle.spl_cuts.specs.Pieces as g
use Rattle.spl_cuts.specs.Pieces.{Item, nothing, token, settings, Stands, Faulty, Closed, Unclosed, Quoted, Name, Digits, Begins_none, is_comment_word, is_longer}
use Rattle.spl_cuts.specs.Reading.{Outcome, sound, faulty, close_size, semicolon_size, comment_piece, with_char, with_byte, string_from, string_piece, line_piece, name_piece, number_piece, number_at, one_mark, two_marks, mark_at, piece}
use Rattle.spl_cuts.proofs.Fronts.{append_none, both, Split, split, begins_taken, begins_stops}
use Rattle.spl_cuts.proofs.PieceReads.{with_suffix, suffix_length, word_front, word_length, string_front}

-- what an outcome says of a text
pub data Told (f : Bool) (text : List ℕ) : Outcome → Type 0 where
  stands : {item : Item} (n : ℕ) (front rest : List ℕ) → front ++ rest ≡ text → n ≡ length front → 0 < n → Stands f front item rest → Told f text (sound item n)
  fails : {kind : LexKind} (front rest : List ℕ) → front ++ rest ≡ text → Faulty f front kind rest → Told f text (faulty kind)

-- ---- comments

data Closing (bs : List ℕ) : Option ℕ → Type 0 where
  closed : (body rest : List ℕ) → body ++ rest ≡ bs → Closed body → Closing bs (Some (length body))
  open_ : Unclosed bs → Closing bs None

head_or_none : List ℕ → ℕ
head_or_none [] = 0
head_or_none (x ∷ xs) = x

closing_on : (b c : ℕ) (bs : List ℕ) (o : Option ℕ) → ((b == 62) && (c == 62)) ≡ false → Closing (c ∷ bs) o → Closing (b ∷ c ∷ bs) (option_map suc o)
unfolding head_or_none
closing_on b c bs _ h (Closing.closed [] rest is v) = absurd (none v)
  where
    none : Closed [] → ⊥
    none v = elim v [ ]
closing_on b c bs _ h (Closing.closed (d ∷ ds) rest is v) = Closing.closed (b ∷ d ∷ ds) rest (ap (λ (xs : List ℕ). b ∷ xs) is) (g.Closed.on (same (front is) h) v)
  where
    front : d ∷ (ds ++ rest) ≡ c ∷ bs → c ≡ d
    front e = sym (ap head_or_none e)

    same : c ≡ d → ((b == 62) && (c == 62)) ≡ false → ((b == 62) && (d == 62)) ≡ false
    same e h = subst (λ (x : ℕ). ((b == 62) && (x == 62)) ≡ false) e h
closing_on b c bs _ h (Closing.open_ v) = Closing.open_ (g.Unclosed.on h v)

closing : (bs : List ℕ) → Closing bs (close_size bs)
closing [] = Closing.open_ g.Unclosed.ends
closing (b ∷ []) = Closing.open_ g.Unclosed.one
closing (b ∷ c ∷ bs) = by ((b == 62) && (c == 62)) refl (closing (c ∷ bs))
  where
    by : (x : Bool) → ((b == 62) && (c == 62)) ≡ x → Closing (c ∷ bs) (close_size (c ∷ bs)) → Closing (b ∷ c ∷ bs) (if x then Some 2 else option_map suc (close_size (c ∷ bs)))
    by true h k = Closing.closed (b ∷ c ∷ []) bs refl (here (both (b == 62) (c == 62) h))
      where
        here : ((b == 62) ≡ true) × ((c == 62) ≡ true) → Closed (b ∷ c ∷ [])
        here h = rw (eqb-true b 62 h.0, eqb-true c 62 h.1) g.Closed.closes
    by false h k = closing_on b c bs (close_size (c ∷ bs)) h k

comment_told : (f : Bool) (bs : List ℕ) (o : Option ℕ) → Closing bs o → Told f (60 ∷ 60 ∷ bs) (comment_piece 2 o)
unfolding comment_piece
comment_told f bs _ (Closing.closed body rest is v) =
    Told.stands (2 + length body) (60 ∷ 60 ∷ body) rest (ap (λ (xs : List ℕ). 60 ∷ 60 ∷ xs) is) (omega arith) (omega arith) (g.Stands.comment body rest v)
comment_told f bs _ (Closing.open_ v) = Told.fails (60 ∷ 60 ∷ bs) [] (append_none (60 ∷ 60 ∷ bs)) (g.Faulty.comment bs v)

data Ending (bs : List ℕ) : Option ℕ → Type 0 where
  ended : (body rest : List ℕ) → body ++ 59 ∷ rest ≡ bs → list_all (λ b. not (is_semicolon b)) body ≡ true → Ending bs (Some (suc (length body)))
  unended : list_all (λ b. not (is_semicolon b)) bs ≡ true → Ending bs None

ending_on : (b : ℕ) (bs : List ℕ) (o : Option ℕ) → is_semicolon b ≡ false → Ending bs o → Ending (b ∷ bs) (option_map suc o)
ending_on b bs _ h (Ending.ended body rest is a) = Ending.ended (b ∷ body) rest (ap (λ (xs : List ℕ). b ∷ xs) is) (rw h a)
ending_on b bs _ h (Ending.unended a) = Ending.unended (rw h a)

ending : (bs : List ℕ) → Ending bs (semicolon_size bs)
ending [] = Ending.unended refl
ending (b ∷ bs) = by (is_semicolon b) refl (ending bs)
  where
    by : (x : Bool) → is_semicolon b ≡ x → Ending bs (semicolon_size bs) → Ending (b ∷ bs) (if x then Some 1 else option_map suc (semicolon_size bs))
    by true h k = Ending.ended [] bs (ap (λ (c : ℕ). c ∷ bs) (sym (eqb-true b 59 h))) refl
    by false h k = ending_on b bs (semicolon_size bs) h k

comment_word_told : (f : Bool) (w text : List ℕ) (bs : List ℕ) (o : Option ℕ) → w ++ bs ≡ text → Name w bs → is_comment_word w ≡ true → Ending bs o → Told f text (comment_piece (length w) o)
unfolding comment_piece
comment_word_told f w text bs _ is n c (Ending.ended body rest e a) =
    Told.stands (length w + suc (length body)) (w ++ (body ++ 59 ∷ [])) rest (word_front w body rest ∙ ap (λ (xs : List ℕ). w ++ xs) e ∙ is)
    (word_length w body) (omega arith) (g.Stands.comment_word w body rest (subst (λ (xs : List ℕ). Name w xs) (sym e) n) c a)
comment_word_told f w text bs _ is n c (Ending.unended a) = Told.fails (w ++ bs) [] (append_none (w ++ bs) ∙ is) (g.Faulty.comment_word w bs n c a)

-- ---- names

name_told : (f : Bool) (w text bs : List ℕ) → w ++ bs ≡ text → Name w bs → Told f text (name_piece w bs)
unfolding name_piece
name_told f w text bs is n = by (is_comment_word w) (nat_le (length w) 15) refl refl
  where
    some : (w : List ℕ) → begins is_letter w ≡ true → 0 < length w
    some [] h = cc
    some (b ∷ bs) h = omega arith

    by : (c l : Bool) → is_comment_word w ≡ c → nat_le (length w) 15 ≡ l
        → Told f text (if c then comment_piece (length w) (semicolon_size bs) else if l then sound (token (word (map capital w))) (length w) else faulty k.NameTooLong)
    by true l hc hl = comment_word_told f w text bs (semicolon_size bs) is n hc (ending bs)
    by false true hc hl = Told.stands (length w) w bs is refl (some w n.letter) (g.Stands.name w bs n hc (grind (arith, nat_tests, hl)))
    by false false hc hl = Told.fails w bs is (g.Faulty.name w bs n (grind (arith, nat_tests, hl)))

letter_told : (f : Bool) (b : ℕ) (bs : List ℕ) → is_letter b ≡ true
    → Told f (b ∷ bs) (name_piece (take_while is_name_byte (b ∷ bs)) (drop (length (take_while is_name_byte (b ∷ bs))) (b ∷ bs)))
letter_told f b bs h =
    let s = split is_name_byte (b ∷ bs) in
    let g : is_name_byte b ≡ true = rw h refl in
    rw (s.taken, s.left) (name_told f s.front (b ∷ bs) s.rest s.is (record { letter = begins_taken is_name_byte is_letter b bs s g h; all = s.all; longest = s.stops }))

-- ---- numbers

number_told : (f : Bool) (base : Base) (ds text rest : List ℕ) → (prefix base ++ ds) ++ rest ≡ text → Digits base ds rest → Told f text (number_piece base ds (begins is_suffix rest))
unfolding number_piece
number_told f base ds text rest is d = by (begins is_suffix rest) refl (nat_le (value base ds) 65535) refl (nat_le (value base ds) 4294967295) refl
  where
    some : (ds : List ℕ) → begins (is_digit_of base) ds ≡ true → 0 < length ds
    some [] h = cc
    some (b ∷ bs) h = omega arith

    long : 0 < length (prefix base) + length ds
    long = let h = some ds d.some in omega (arith, h)

    double : (rest : List ℕ) → (prefix base ++ ds) ++ rest ≡ text → Digits base ds rest → begins is_suffix rest ≡ true → (l : Bool) → nat_le (value base ds) 4294967295 ≡ l
        → Told f text (if l then sound (token (wide (value base ds))) (length (prefix base) + length ds + 1) else faulty k.NumberTooLarge)
    double [] is d h l e = cc
    double (x ∷ rest) is d h true e =
        Told.stands (length (prefix base) + length ds + 1) (prefix base ++ (ds ++ x ∷ [])) rest (with_suffix base ds rest x ∙ is) (suffix_length base ds x) (omega arith)
        (g.Stands.double base ds x rest d h (grind (arith, nat_tests, e)))
    double (x ∷ rest) is d h false e = Told.fails (prefix base ++ (ds ++ x ∷ [])) rest (with_suffix base ds rest x ∙ is) (g.Faulty.double base ds x rest d h (grind (arith, nat_tests, e)))

    by : (s : Bool) → begins is_suffix rest ≡ s → (l : Bool) → nat_le (value base ds) 65535 ≡ l → (m : Bool) → nat_le (value base ds) 4294967295 ≡ m
        → Told f text (number_piece base ds s)
    by true h l e m g = rw g (double rest is d h m g)
    by false h true e m g' =
        rw e (Told.stands (length (prefix base) + length ds) (prefix base ++ ds) rest is (sym (length-append (prefix base) ds)) long
        (g.Stands.single base ds rest d (begins_stops is_suffix rest h) (grind (arith, nat_tests, e))))
    by false h false e m g' = rw e (Told.fails (prefix base ++ ds) rest is (g.Faulty.single base ds rest d (begins_stops is_suffix rest h) (grind (arith, nat_tests, e))))

digits_told : (f : Bool) (base : Base) (b : ℕ) (bs text : List ℕ) → prefix base ++ b ∷ bs ≡ text → is_digit_of base b ≡ true → Told f text (number_at base (b ∷ bs))
unfolding number_at
digits_told f base b bs text is h =
    let s = split (is_digit_of base) (b ∷ bs) in
    rw (s.taken, s.left) (number_told f base s.front text s.rest
    (append_assoc (prefix base) s.front s.rest ∙ ap (λ (xs : List ℕ). prefix base ++ xs) s.is ∙ is)
    (record { some = begins_taken (is_digit_of base) (is_digit_of base) b bs s h h; all = s.all; longest = s.stops }))

-- ---- strings

data Stringed (bs : List ℕ) : Option (List ℕ × ℕ) → Type 0 where
  whole : (cs body rest : List ℕ) → body ++ 34 ∷ rest ≡ bs → Quoted cs body → Stops is_quote rest → Stringed bs (Some (cs, suc (length body)))
  broken : (cs body rest : List ℕ) → body ++ rest ≡ bs → Quoted cs body → Stops is_in_line rest → Stringed bs None

string_on : (b : ℕ) (bs : List ℕ) (o : Option (List ℕ × ℕ)) → is_quote b ≡ false → is_in_line b ≡ true → Stringed bs o → Stringed (b ∷ bs) (with_char b o)
string_on b bs _ h l (Stringed.whole cs body rest is q s) = Stringed.whole (b ∷ cs) (b ∷ body) rest (ap (λ (xs : List ℕ). b ∷ xs) is) (g.Quoted.other h l q) s
string_on b bs _ h l (Stringed.broken cs body rest is q s) = Stringed.broken (b ∷ cs) (b ∷ body) rest (ap (λ (xs : List ℕ). b ∷ xs) is) (g.Quoted.other h l q) s

string_twice : (bs : List ℕ) (o : Option (List ℕ × ℕ)) → Stringed bs o → Stringed (34 ∷ 34 ∷ bs) (with_byte (with_char 34 o))
string_twice bs _ (Stringed.whole cs body rest is q s) = Stringed.whole (34 ∷ cs) (34 ∷ 34 ∷ body) rest (ap (λ (xs : List ℕ). 34 ∷ 34 ∷ xs) is) (g.Quoted.quote q) s
string_twice bs _ (Stringed.broken cs body rest is q s) = Stringed.broken (34 ∷ cs) (34 ∷ 34 ∷ body) rest (ap (λ (xs : List ℕ). 34 ∷ 34 ∷ xs) is) (g.Quoted.quote q) s

stringed : (bs : List ℕ) → Stringed bs (string_from false bs)
stringed [] = Stringed.broken [] [] [] refl g.Quoted.none tt
stringed (b ∷ []) = by (is_quote b) (is_in_line b) refl refl
  where
    by : (q l : Bool) → is_quote b ≡ q → is_in_line b ≡ l → Stringed (b ∷ []) (if q then with_byte (string_from true []) else if l then with_char b (string_from false []) else None)
    by true l h hl = Stringed.whole [] [] [] (ap (λ (x : ℕ). x ∷ []) (sym (eqb-true b 34 h))) g.Quoted.none tt
    by false true h hl = string_on b [] None h hl (Stringed.broken [] [] [] refl g.Quoted.none tt)
    by false false h hl = Stringed.broken [] [] (b ∷ []) refl g.Quoted.none hl
stringed (b ∷ c ∷ bs) = by (is_quote b) (is_in_line b) (is_quote c) refl refl refl (stringed bs) (stringed (c ∷ bs))
  where
    by : (q l r : Bool) → is_quote b ≡ q → is_in_line b ≡ l → is_quote c ≡ r → Stringed bs (string_from false bs) → Stringed (c ∷ bs) (string_from false (c ∷ bs))
        → Stringed (b ∷ c ∷ bs) (if q then with_byte (if r then with_char 34 (string_from false bs) else Some ([], 0)) else if l then with_char b (string_from false (c ∷ bs)) else None)
    by true l true h hl hr v w = rw (eqb-true b 34 h, eqb-true c 34 hr) (string_twice bs (string_from false bs) v)
    by true l false h hl hr v w = rw (eqb-true b 34 h) (Stringed.whole [] [] (c ∷ bs) refl g.Quoted.none hr)
    by false true r h hl hr v w = string_on b (c ∷ bs) (string_from false (c ∷ bs)) h hl w
    by false false r h hl hr v w = Stringed.broken [] [] (b ∷ c ∷ bs) refl g.Quoted.none hl

string_told : (f : Bool) (bs : List ℕ) (o : Option (List ℕ × ℕ)) → Stringed bs o → Told f (34 ∷ bs) (string_piece o)
unfolding string_piece
string_told f bs _ (Stringed.whole cs body rest is q s) =
    let e : length (body ++ 34 ∷ []) ≡ length body + 1 = length-append body (34 ∷ []) in
    Told.stands (1 + suc (length body)) (34 ∷ (body ++ 34 ∷ [])) rest (ap (λ (xs : List ℕ). 34 ∷ xs) (string_front body rest ∙ is)) (omega (arith, e)) (omega arith)
    (g.Stands.string cs body rest q s)
string_told f bs _ (Stringed.broken cs body rest is q s) = Told.fails (34 ∷ body) rest (ap (λ (xs : List ℕ). 34 ∷ xs) is) (g.Faulty.string cs body rest q s)

-- ---- command lines

line_told : (bs : List ℕ) → Told true (36 ∷ bs) (line_piece (length (take_while is_in_line bs)) (command (take_while is_in_line bs)))
unfolding line_piece
line_told bs = let s = split is_in_line bs in rw s.taken (by s (command s.front) refl)
  where
    by : (s : Split is_in_line bs) (o : Option (List Setting)) → command s.front ≡ o → Told true (36 ∷ bs) (line_piece (length s.front) o)
    by s (Some os) e = Told.stands (1 + length s.front) (36 ∷ s.front) s.rest (ap (λ (xs : List ℕ). 36 ∷ xs) s.is) (omega arith) (omega arith) (g.Stands.line s.front s.rest os s.all s.stops e)
    by s None e = Told.fails (36 ∷ s.front) s.rest (ap (λ (xs : List ℕ). 36 ∷ xs) s.is) (g.Faulty.line s.front s.rest s.all s.stops e)

-- ---- marks, and bytes that begin nothing

one_told : (f : Bool) (b : ℕ) (bs : List ℕ) (o : Option ℕ) → mark_of b ≡ o → is_longer b bs ≡ false → (o ≡ None → Begins_none f b bs) → Told f (b ∷ bs) (one_mark o)
unfolding one_mark
one_told f b bs (Some m) e l n = Told.stands 1 (b ∷ []) bs refl refl (omega arith) (g.Stands.mark_one b m bs e l)
one_told f b bs None e l n = Told.fails (b ∷ []) bs refl (g.Faulty.byte bs (n refl))

mark_told : (f : Bool) (b : ℕ) (bs : List ℕ) → ((b == 60) && begins (λ c. c == 60) bs) ≡ false → (mark_of b ≡ None → Begins_none f b bs) → Told f (b ∷ bs) (mark_at b bs)
unfolding mark_at two_marks
mark_told f b [] h n = one_told f b [] (mark_of b) refl refl n
mark_told f b (c ∷ bs) h n = by (mark_of_two b c) refl
  where
    by : (o : Option ℕ) → mark_of_two b c ≡ o → Told f (b ∷ c ∷ bs) (two_marks o (mark_of b))
    by (Some m) e = Told.stands 2 (b ∷ c ∷ []) bs refl refl (omega arith) (g.Stands.mark_two b c m bs e)
    by None e = one_told f b (c ∷ bs) (mark_of b) refl (rw (e, h) refl) n

-- ---- all pieces

pub told : (f : Bool) (b : ℕ) (bs : List ℕ) → Told f (b ∷ bs) (piece f b bs)
unfolding piece
told f b bs =
    by (is_blank b) (f && (b == 36)) ((b == 60) && begins (λ c. c == 60) bs) (is_letter b) (is_digit b) ((b == 37) && begins is_octal_digit bs) (is_quote b)
    refl refl refl refl refl refl refl
  where
    brackets : (bs : List ℕ) → (b == 60) ≡ true → begins (λ c. c == 60) bs ≡ true → Told f (b ∷ bs) (comment_piece 2 (close_size (drop 1 bs)))
    brackets [] h e = cc
    brackets (c ∷ bs) h e = rw (eqb-true b 60 h, eqb-true c 60 e) (comment_told f bs (close_size bs) (closing bs))

    percent : (bs : List ℕ) → (b == 37) ≡ true → begins is_octal_digit bs ≡ true → Told f (b ∷ bs) (number_at octal bs)
    percent [] h e = cc
    percent (c ∷ bs) h e = rw (eqb-true b 37 h) (digits_told f octal c bs (37 ∷ c ∷ bs) refl e)

    lined : (f : Bool) → f ≡ true → (b == 36) ≡ true → Told f (b ∷ bs) (line_piece (length (take_while is_in_line bs)) (command (take_while is_in_line bs)))
    lined true e h = rw (eqb-true b 36 h) (line_told bs)
    lined false e h = cc

    by : (x1 x2 x3 x4 x5 x6 x7 : Bool) → is_blank b ≡ x1 → (f && (b == 36)) ≡ x2 → ((b == 60) && begins (λ c. c == 60) bs) ≡ x3 → is_letter b ≡ x4 → is_digit b ≡ x5
        → ((b == 37) && begins is_octal_digit bs) ≡ x6 → is_quote b ≡ x7
        → Told f (b ∷ bs) (if x1 then sound nothing 1 else
        if x2 then line_piece (length (take_while is_in_line bs)) (command (take_while is_in_line bs)) else
        if x3 then comment_piece 2 (close_size (drop 1 bs)) else
        if x4 then name_piece (take_while is_name_byte (b ∷ bs)) (drop (length (take_while is_name_byte (b ∷ bs))) (b ∷ bs)) else
        if x5 then number_at decimal (b ∷ bs) else
        if x6 then number_at octal bs else
        if x7 then string_piece (string_from false bs) else mark_at b bs)
    by true x2 x3 x4 x5 x6 x7 h1 h2 h3 h4 h5 h6 h7 = Told.stands 1 (b ∷ []) bs refl refl (omega arith) (g.Stands.blank bs h1)
    by false true x3 x4 x5 x6 x7 h1 h2 h3 h4 h5 h6 h7 = let h = both f (b == 36) h2 in lined f h.0 h.1
    by false false true x4 x5 x6 x7 h1 h2 h3 h4 h5 h6 h7 = let h = both (b == 60) (begins (λ c. c == 60) bs) h3 in brackets bs h.0 h.1
    by false false false true x5 x6 x7 h1 h2 h3 h4 h5 h6 h7 = letter_told f b bs h4
    by false false false false true x6 x7 h1 h2 h3 h4 h5 h6 h7 = digits_told f decimal b bs (b ∷ bs) refl h5
    by false false false false false true x7 h1 h2 h3 h4 h5 h6 h7 = let h = both (b == 37) (begins is_octal_digit bs) h6 in percent bs h.0 h.1
    by false false false false false false true h1 h2 h3 h4 h5 h6 h7 = rw (eqb-true b 34 h7) (string_told f bs (string_from false bs) (stringed bs))
    by false false false false false false false h1 h2 h3 h4 h5 h6 h7 =
        mark_told f b bs h3 (λ m. record { blank = h1; line = h2; name = h4; decimal = h5; octal = h6; string = h7; mark = m })
