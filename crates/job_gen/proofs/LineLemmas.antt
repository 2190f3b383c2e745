-- The lines of a text that is made of lines: no draw and no piece has a line feed or a carriage return in it.
use Rattle.std.proofs.Common.{◌≡◌, ℕ, ◌+◌, ◌%◌, ◌-◌, ◌<◌, ◌^◌, Bool, true, false, cond, List, [], ◌∷◌, ◌++◌, length, get_or, refl, sym, ap, ◌∙◌, arith, append_assoc}
use Rattle.std.specs.Prelude.{◌==◌, ◌&&◌, not}
use Rattle.std.specs.List.{slice_split, onto_first}
use Rattle.std.specs.Fmt.{decimal}
use Rattle.std.proofs.lemmas.Fmt.{decimal_by_steps}
use Rattle.std.proofs.lemmas.Bool.Decides.{nat_tests}
use Rattle.job_text.specs.job_lines.Lines.{without_return, lines_of_parts, lines}
use Rattle.job_gen.specs.Draws.{next, drawn}
use Rattle.job_gen.specs.Pieces.{bytes, draw, Line, filled, behind, ended, text_of, behind_all}

-- a byte that ends no line
abbrev pub stays : ℕ → Bool
stays b = not (b == 10) && not (b == 13)

abbrev pub all_stay : List ℕ → Bool
all_stay [] = true
all_stay (b ∷ bs) = stays b && all_stay bs

-- and a line whose own bytes end none
abbrev pub is_one : Line → Bool
is_one [] = true
is_one (bytes b ∷ ps) = all_stay b && is_one ps
is_one (draw ∷ ps) = is_one ps

abbrev pub are_lines : List Line → Bool
are_lines [] = true
are_lines (l ∷ ls) = is_one l && are_lines ls

-- each line filled
abbrev pub filled_lines : ℕ → List Line → List (List ℕ)
filled_lines x [] = []
filled_lines x (l ∷ ls) = filled x l ∷ filled_lines (behind x l) ls

pub filled_append : (x : ℕ) (ls ms : List Line) → filled_lines x (ls ++ ms) ≡ filled_lines x ls ++ filled_lines (behind_all x ls) ms
filled_append x [] ms = refl
filled_append x (l ∷ ls) ms = ap (λ t. filled x l ∷ t) (filled_append (behind x l) ls ms)

pub both : (a b : Bool) → (a && b) ≡ true → (a ≡ true) × (b ≡ true)
both true true h = (refl, refl)
both true false h = cc
both false b h = cc

stay_append : (a b : List ℕ) → all_stay a ≡ true → all_stay b ≡ true → all_stay (a ++ b) ≡ true
stay_append [] b h k = k
stay_append (x ∷ a) b h k =
    let t = both (stays x) (all_stay a) h in
    ap (λ z. z && all_stay (a ++ b)) t.0 ∙ stay_append a b t.1 k

-- digits stay
digit_stays : (d : ℕ) → stays (48 + d) ≡ true
digit_stays d = grind (arith, nat_tests)

pub digits_stay : (n : ℕ) → n < 2 ^ 64 → all_stay (decimal n) ≡ true
digits_stay n small =
    decimal_by_steps (λ n ds. all_stay ds ≡ true) (λ n l. ap (λ z. z && true) (digit_stays n))
    (λ n ds l h. stay_append ds ((48 + n % 10) ∷ []) h (ap (λ z. z && true) (digit_stays (n % 10)))) n small

pub drawn_small : (x : ℕ) → drawn x < 1000
drawn_small x = omega arith

filled_stays : (x : ℕ) (l : Line) → is_one l ≡ true → all_stay (filled x l) ≡ true
filled_stays x [] h = refl
filled_stays x (bytes b ∷ ps) h = let t = both (all_stay b) (is_one ps) h in stay_append b (filled x ps) t.0 (filled_stays x ps t.1)
filled_stays x (draw ∷ ps) h =
    let few : drawn x < 1000 = drawn_small x in
    stay_append (decimal (drawn x)) (filled (next x) ps) (digits_stay (drawn x) (omega arith)) (filled_stays (next x) ps h)

-- the line feed at the end
pub filled_ended : (x : ℕ) (l : Line) → filled x (ended l) ≡ filled x l ++ 10 ∷ []
filled_ended x [] = refl
filled_ended x (bytes b ∷ ps) = ap (λ t. b ++ t) (filled_ended x ps) ∙ sym (append_assoc b (filled x ps) (10 ∷ []))
filled_ended x (draw ∷ ps) =
    ap (λ t. decimal (drawn x) ++ t) (filled_ended (next x) ps) ∙ sym (append_assoc (decimal (drawn x)) (filled (next x) ps) (10 ∷ []))

-- ---- the lines of the text

abbrev is_feed : ℕ → Bool
is_feed b = b == 10

no_feed : (b : ℕ) → stays b ≡ true → is_feed b ≡ false
no_feed b h = grind (arith, nat_tests)

split_line : (l rest : List ℕ) → all_stay l ≡ true → slice_split is_feed (l ++ 10 ∷ rest) ≡ l ∷ slice_split is_feed rest
split_line [] rest h = refl
split_line (b ∷ l) rest h =
    let t = both (stays b) (all_stay l) h in
    ap (λ z. cond z ([] ∷ slice_split is_feed (l ++ 10 ∷ rest)) (onto_first b (slice_split is_feed (l ++ 10 ∷ rest)))) (no_feed b t.0)
    ∙ ap (onto_first b) (split_line l rest t.1)

-- parts are at least one
parts_are : (text : List ℕ) → (part : List ℕ) × (parts : List (List ℕ)) × (slice_split is_feed text ≡ part ∷ parts)
parts_are [] = ([], [], refl)
parts_are (b ∷ bs) = by (is_feed b) (slice_split is_feed bs) where
  first : (ps : List (List ℕ)) → (part : List ℕ) × (parts : List (List ℕ)) × (onto_first b ps ≡ part ∷ parts)
  first [] = (b ∷ [], [], refl)
  first (p ∷ ps) = (b ∷ p, ps, refl)

  by : (t : Bool) (ps : List (List ℕ)) → (part : List ℕ) × (parts : List (List ℕ)) × (cond t ([] ∷ ps) (onto_first b ps) ≡ part ∷ parts)
  by true ps = ([], ps, refl)
  by false ps = first ps

more_parts : (part : List ℕ) (text : List ℕ) → lines_of_parts (part ∷ slice_split is_feed text) ≡ without_return part ∷ lines_of_parts (slice_split is_feed text)
more_parts part text = let p = parts_are text in rw p.2 refl

-- the last byte is no carriage return
last_stays : (b : ℕ) (l : List ℕ) → all_stay (b ∷ l) ≡ true → (get_or (b ∷ l) (length l) 0 == 13) ≡ false
last_stays b [] h = grind (arith, nat_tests)
last_stays b (c ∷ l) h = last_stays c l (both (stays b) (all_stay (c ∷ l)) h).1

kept_whole : (l : List ℕ) → all_stay l ≡ true → without_return l ≡ l
kept_whole [] h = refl
kept_whole (b ∷ l) h =
    let n : length (b ∷ l) - 1 ≡ length l = omega arith in
    let e : (get_or (b ∷ l) (length (b ∷ l) - 1) 0 == 13) ≡ false = rw n (last_stays b l h) in
    rw e refl

line_first : (l rest : List ℕ) → all_stay l ≡ true → lines (l ++ 10 ∷ rest) ≡ l ∷ lines rest
unfolding lines
line_first l rest h =
    ap lines_of_parts (split_line l rest h) ∙ more_parts l rest ∙ ap (λ p. p ∷ lines_of_parts (slice_split is_feed rest)) (kept_whole l h)

no_lines : lines [] ≡ []
unfolding lines
no_lines = refl

pub lines_of_text : (x : ℕ) (ls : List Line) → are_lines ls ≡ true → lines (text_of x ls) ≡ filled_lines x ls
lines_of_text x [] h = no_lines
lines_of_text x (l ∷ ls) h =
    let t = both (is_one l) (are_lines ls) h in
    let rest = text_of (behind x l) ls in
    ap lines (ap (λ z. z ++ rest) (filled_ended x l) ∙ append_assoc (filled x l) (10 ∷ []) rest)
    ∙ line_first (filled x l) rest (filled_stays x l t.0)
    ∙ ap (λ z. filled x l ∷ z) (lines_of_text (behind x l) ls t.1)
