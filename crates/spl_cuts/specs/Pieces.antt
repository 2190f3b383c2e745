-- The pieces of a text: blanks, comments, command lines and tokens, each the longest at its place; and faulty pieces.
use Rattle.std.specs.Prelude.{ℕ, ◌≡◌, ◌<◌, ◌≤◌, Bool, true, false, ◌==◌, ◌&&◌, ◌||◌, not, is_some, List, [], ◌∷◌, ◌++◌, length, map, None, Some}
use Rattle.std.specs.List.{list_all}
use Rattle.spl_tree.specs.Symbols.{is_word}
use Rattle.spl_cuts.specs.declared.faults.LexKind.{LexKind}
use Rattle.spl_cuts.specs.declared.faults.LexKind.TheVariants as k
use Rattle.spl_cuts.specs.Signs.{Sign, word, number, wide, chars, mark}
use Rattle.spl_cuts.specs.Bytes.{is_blank, is_letter, is_digit, is_octal_digit, is_name_byte, is_suffix, is_quote, is_semicolon, is_in_line, capital, Stops, begins, mark_of, mark_of_two, Base, is_digit_of, prefix, value}
use Rattle.spl_cuts.specs.Commands.{Setting, command}

-- what a piece gives
pub data Item : Type 0 where
  nothing : Item
  token : Sign → Item
  settings : List Setting → Item

-- a comment's text up to the next >>, which belongs to it
pub data Closed : List ℕ → Type 0 where
  closes : Closed (62 ∷ 62 ∷ [])
  on : {b c : ℕ} {bs : List ℕ} → ((b == 62) && (c == 62)) ≡ false → Closed (c ∷ bs) → Closed (b ∷ c ∷ bs)

-- a text without >>
pub data Unclosed : List ℕ → Type 0 where
  ends : Unclosed []
  one : {b : ℕ} → Unclosed (b ∷ [])
  on : {b c : ℕ} {bs : List ℕ} → ((b == 62) && (c == 62)) ≡ false → Unclosed (c ∷ bs) → Unclosed (b ∷ c ∷ bs)

-- the characters of a string, and how they are written between its quotes: a quote twice, and no line end
pub data Quoted : List ℕ → List ℕ → Type 0 where
  none : Quoted [] []
  quote : {cs bs : List ℕ} → Quoted cs bs → Quoted (34 ∷ cs) (34 ∷ 34 ∷ bs)
  other : {b : ℕ} {cs bs : List ℕ} → is_quote b ≡ false → is_in_line b ≡ true → Quoted cs bs → Quoted (b ∷ cs) (b ∷ bs)

-- a name, with what follows it: letter, then letters, digits and apostrophes, as many as there are
pub record Name (w rest : List ℕ) : Type 0 where
  pub letter : begins is_letter w ≡ true
  pub all : list_all is_name_byte w ≡ true
  pub longest : Stops is_name_byte rest

-- digits of a number, one at least, and as many as there are
pub record Digits (base : Base) (ds rest : List ℕ) : Type 0 where
  pub some : begins (is_digit_of base) ds ≡ true
  pub all : list_all (is_digit_of base) ds ≡ true
  pub longest : Stops (is_digit_of base) rest

-- the word that begins a comment
abbrev pub is_comment_word : List ℕ → Bool
is_comment_word w = is_word (map capital w) "COMMENT"

-- a byte and the text behind it begin a longer piece than the mark that the byte alone is: a mark of two bytes, or a comment
abbrev pub is_longer : ℕ → List ℕ → Bool
is_longer b [] = false
is_longer b (c ∷ bs) = is_some (mark_of_two b c) || ((b == 60) && (c == 60))

-- These bytes are a piece which gives this, where rest follows them. The first argument says whether they begin a line.
pub data Stands : Bool → List ℕ → Item → List ℕ → Type 0 where
  blank : {f : Bool} {b : ℕ} (rest : List ℕ) → is_blank b ≡ true → Stands f (b ∷ []) nothing rest
  -- << up to the next >>
  comment : {f : Bool} (body rest : List ℕ) → Closed body → Stands f (60 ∷ 60 ∷ body) nothing rest
  -- the word COMMENT up to the next ;
  comment_word : {f : Bool} (w body rest : List ℕ) → Name w (body ++ 59 ∷ rest) → is_comment_word w ≡ true
      → list_all (λ b. not (is_semicolon b)) body ≡ true → Stands f (w ++ (body ++ 59 ∷ [])) nothing rest
  -- a line whose first byte is $
  line : (bs rest : List ℕ) (os : List Setting) → list_all is_in_line bs ≡ true → Stops is_in_line rest → command bs ≡ Some os
      → Stands true (36 ∷ bs) (settings os) rest
  name : {f : Bool} (w rest : List ℕ) → Name w rest → is_comment_word w ≡ false → length w ≤ 15
      → Stands f w (token (word (map capital w))) rest
  -- without the suffix D
  single : {f : Bool} (base : Base) (ds rest : List ℕ) → Digits base ds rest → Stops is_suffix rest → value base ds ≤ 65535
      → Stands f (prefix base ++ ds) (token (number (value base ds))) rest
  -- with the suffix D
  double : {f : Bool} (base : Base) (ds : List ℕ) (d : ℕ) (rest : List ℕ) → Digits base ds (d ∷ rest) → is_suffix d ≡ true
      → value base ds ≤ 4294967295 → Stands f (prefix base ++ (ds ++ d ∷ [])) (token (wide (value base ds))) rest
  string : {f : Bool} (cs bs rest : List ℕ) → Quoted cs bs → Stops is_quote rest → Stands f (34 ∷ (bs ++ 34 ∷ [])) (token (chars cs)) rest
  mark_one : {f : Bool} (b m : ℕ) (rest : List ℕ) → mark_of b ≡ Some m → is_longer b rest ≡ false → Stands f (b ∷ []) (token (mark m)) rest
  mark_two : {f : Bool} (b c m : ℕ) (rest : List ℕ) → mark_of_two b c ≡ Some m → Stands f (b ∷ c ∷ []) (token (mark m)) rest

-- a byte that begins no piece
pub record Begins_none (f : Bool) (b : ℕ) (rest : List ℕ) : Type 0 where
  pub blank : is_blank b ≡ false
  pub line : (f && (b == 36)) ≡ false
  pub name : is_letter b ≡ false
  pub decimal : is_digit b ≡ false
  pub octal : ((b == 37) && begins is_octal_digit rest) ≡ false
  pub string : is_quote b ≡ false
  pub mark : mark_of b ≡ None

-- These bytes are a faulty piece of this kind, where rest follows them.
pub data Faulty : Bool → List ℕ → LexKind → List ℕ → Type 0 where
  byte : {f : Bool} {b : ℕ} (rest : List ℕ) → Begins_none f b rest → Faulty f (b ∷ []) k.BadByte rest
  line : (bs rest : List ℕ) → list_all is_in_line bs ≡ true → Stops is_in_line rest → command bs ≡ None
      → Faulty true (36 ∷ bs) k.BadCommand rest
  -- the rest of the string's line
  string : {f : Bool} (cs bs rest : List ℕ) → Quoted cs bs → Stops is_in_line rest → Faulty f (34 ∷ bs) k.OpenString rest
  -- the rest of the text
  comment : {f : Bool} (body : List ℕ) → Unclosed body → Faulty f (60 ∷ 60 ∷ body) k.OpenComment []
  comment_word : {f : Bool} (w body : List ℕ) → Name w body → is_comment_word w ≡ true
      → list_all (λ b. not (is_semicolon b)) body ≡ true → Faulty f (w ++ body) k.OpenComment []
  name : {f : Bool} (w rest : List ℕ) → Name w rest → 15 < length w → Faulty f w k.NameTooLong rest
  single : {f : Bool} (base : Base) (ds rest : List ℕ) → Digits base ds rest → Stops is_suffix rest → 65535 < value base ds
      → Faulty f (prefix base ++ ds) k.NumberTooLarge rest
  double : {f : Bool} (base : Base) (ds : List ℕ) (d : ℕ) (rest : List ℕ) → Digits base ds (d ∷ rest) → is_suffix d ≡ true
      → 4294967295 < value base ds → Faulty f (prefix base ++ (ds ++ d ∷ [])) k.NumberTooLarge rest
