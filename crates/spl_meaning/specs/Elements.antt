-- MOVE, SCAN and comparisons of bytes, one element after the other. A step is spent by each element that is moved, passed by
-- or compared.
use Rattle.std.specs.Prelude.{ℕ, zero, suc, ◌+◌, ◌-◌, ◌*◌, ◌/◌, ◌%◌, ℤ, pos, negsuc, ◌==◌, ◌&&◌, ◌||◌, not, Bool, true, false, if◌then◌else◌, nat_le, List, [], ◌∷◌}
use Rattle.hp_word.specs.declared.arithmetic.Code.{Code}
use Rattle.hp_word.specs.declared.arithmetic.Code.TheVariants.{Equal}
use Rattle.hp_word.specs.Words.{signed, logically_compared}
use Rattle.spl_tree.specs.declared.expressions.Kind.{Kind}
use Rattle.spl_tree.specs.declared.expressions.Kind.TheVariants as kind
use Rattle.spl_meaning.specs.Names.{truth_word}
use Rattle.spl_meaning.specs.References.{Located, read, store}
use Rattle.spl_meaning.specs.Operations.{related}
use Rattle.spl_meaning.specs.States.{State, Outcome, done, spent, has_no_meaning, then_go, stepping}

-- ---- neighbours

-- the element behind a location
abbrev pub next_located : Located → Located
next_located p = record p { address = (p.address + 1) % 65536 }

-- the element before it
abbrev pub previous_located : Located → Located
previous_located p = record p { address = (p.address + 65535) % 65536 }

-- upwards or downwards
abbrev pub neighbour : Bool → Located → Located
neighbour true p = next_located p
neighbour false p = previous_located p

-- the size of a signed count, and whether it is upwards
abbrev pub count_size : ℤ → ℕ
count_size (pos n) = n
count_size (negsuc n) = suc n

-- whether a count is not negative
abbrev pub is_upward : ℤ → Bool
is_upward (pos n) = true
is_upward (negsuc n) = false

-- the one word of a value
abbrev pub with_one : {A : Type 0} → List ℕ → State → (ℕ → State → Outcome A) → Outcome A
with_one (w ∷ []) s go = go w s
with_one vs s go = has_no_meaning s

-- how far an end address lies from the first, modulo 65,536
abbrev pub distance : Located → ℕ → ℕ
distance p first = (p.address + 65536 - first) % 65536

-- ---- MOVE. Each answers the location next to the last element that was stored: behind it, or before it where the move goes down.

-- so many elements: the source is read, then the target is stored
abbrev pub moved : Bool → ℕ → Located → Located → State → Outcome Located
moved up zero to from s = done to s
moved up (suc n) to from s =
    stepping s (λ s1. then_go (read from s1) (λ vs s2. then_go (store to vs s2) (λ _ s3. moved up n (neighbour up to) (neighbour up from) s3)))

-- the count is a word with its sign: upwards where it is positive, downwards where it is negative
abbrev pub moved_by : ℕ → Located → Located → State → Outcome Located
moved_by count to from s = moved (is_upward (signed count)) (count_size (signed count)) to from s

-- elements as they stand in a string
abbrev pub moved_list : List ℕ → Located → State → Outcome Located
moved_list [] to s = done to s
moved_list (v ∷ vs) to s = stepping s (λ s1. then_go (store to (v ∷ []) s1) (λ _ s2. moved_list vs (next_located to) s2))

-- the bytes of a string two and two, with a blank behind an odd last one
abbrev pub as_words : List ℕ → List ℕ
as_words [] = []
as_words (a ∷ []) = (256 * a + 32) % 65536 ∷ []
as_words (a ∷ b ∷ bs) = (256 * a + b) % 65536 ∷ as_words bs

-- a string as the elements of a kind
abbrev pub text_elements : Kind → List ℕ → List ℕ
text_elements kind.Byte bytes = bytes
text_elements _ bytes = as_words bytes

-- a string
abbrev pub moved_text : List ℕ → Located → State → Outcome Located
moved_text bytes to s = moved_list (text_elements to.kind bytes) to s

-- a letter, capital or small
abbrev pub is_letter : ℕ → Bool
is_letter b = (nat_le 65 b && nat_le b 90) || (nat_le 97 b && nat_le b 122)

-- a decimal digit
abbrev pub is_digit : ℕ → Bool
is_digit b = nat_le 48 b && nat_le b 57

-- the classes A, N, AN, AS, ANS by their numbers: letters, digits, or both
abbrev pub is_of_class : ℕ → ℕ → Bool
is_of_class c b =
    if c == 0 then is_letter b else if c == 1 then is_digit b else if c == 2 then is_letter b || is_digit b
    else if c == 3 then is_letter b else is_letter b || is_digit b

-- AS and ANS turn small letters into capitals
abbrev pub of_class : ℕ → ℕ → ℕ
of_class c b = if nat_le 3 c && nat_le 97 b && nat_le b 122 then b - 32 else b

-- bytes while they are of a class, upwards; each is read before it counts as moved
abbrev pub moved_while : ℕ → ℕ → Located → Located → State → Outcome Located
moved_while zero c to from s = spent s
moved_while (suc d) c to from s =
    then_go (read from s) (λ vs s1. with_one vs s1 (λ b s2.
    if is_of_class c b
    then stepping s2 (λ s3. then_go (store to (of_class c b ∷ []) s3) (λ _ s4. moved_while d c (next_located to) (next_located from) s4))
    else done to s2))

-- ---- SCAN. It answers the location at which it stops.

-- whether a byte is passed by: WHILE it equals the right byte of the test word; UNTIL it equals neither half
abbrev pub is_passed : Bool → ℕ → ℕ → Bool
is_passed true test b = not (b == test % 256) && not (b == test / 256)
is_passed false test b = b == test % 256

-- bytes while they are passed by, upwards
abbrev pub scanned : ℕ → Bool → ℕ → Located → State → Outcome Located
scanned zero until test from s = spent s
scanned (suc d) until test from s =
    then_go (read from s) (λ vs s1. with_one vs s1 (λ b s2.
    if is_passed until test b then stepping s2 (λ s3. scanned d until test (next_located from) s3) else done from s2))

-- ---- comparisons of bytes

-- how two bytes stand to each other, or what the bytes behind them say
abbrev pub told_apart : ℕ → ℕ → State → (State → Outcome Code) → Outcome Code
told_apart b a s go = if b == a then go s else done (logically_compared b a) s

-- so many bytes from two locations on: the first that differ decide
abbrev pub compared : Bool → ℕ → Located → Located → State → Outcome Code
compared up zero p q s = done Equal s
compared up (suc n) p q s =
    stepping s (λ s1. then_go (read p s1) (λ bs s2. then_go (read q s2) (λ as' s3.
    with_one bs s3 (λ b s4. with_one as' s4 (λ a s5. told_apart b a s5 (λ s6. compared up n (neighbour up p) (neighbour up q) s6))))))

-- as many as a word with its sign says
abbrev pub compared_by : ℕ → Located → Located → State → Outcome Code
compared_by count p q s = compared (is_upward (signed count)) (count_size (signed count)) p q s

-- the bytes from a location on with those of a string
abbrev pub compared_text : Located → List ℕ → State → Outcome Code
compared_text p [] s = done Equal s
compared_text p (a ∷ as') s =
    stepping s (λ s1. then_go (read p s1) (λ bs s2. with_one bs s2 (λ b s3. told_apart b a s3 (λ s4. compared_text (next_located p) as' s4))))

-- the answer of a relation by its number
abbrev pub relation_told : ℕ → Outcome Code → Outcome (List ℕ)
relation_told op o = then_go o (λ c s. done (truth_word (related op c) ∷ []) s)
