-- One turn of the reader, both ways: a piece or its fault at the front of a text with bytes that are allowed nowhere.
use Rattle.std.proofs.Common.{ℕ, suc, ◌≡◌, ◌+◌, ◌<◌, Bool, true, false, List, [], ◌∷◌, ◌++◌, length, map, take, drop, refl, sym, ap, subst, ◌∙◌, arith, length-append}
use Rattle.std.specs.Prelude.{nat_lt, if◌then◌else◌}
use Rattle.std.specs.List.{take_while, list_all}
use Rattle.std.proofs.lemmas.Bool.Decides.{nat_tests}
use Rattle.std.proofs.lemmas.List.{map-append, length-map, take-map, drop-map, take-append-drop}
use Rattle.std.proofs.Math.Seq.{take-append_seam}
use Rattle.spl_cuts.specs.declared.faults.LexKind.{LexKind}
use Rattle.spl_cuts.specs.declared.faults.LexKind.TheVariants as k
use Rattle.spl_cuts.specs.Bytes.{is_allowed, blanked, Stops, prefix}
use Rattle.spl_cuts.specs.Pieces as g
use Rattle.spl_cuts.specs.Pieces.{Item, Stands, Faulty, Name, Digits}
use Rattle.spl_cuts.specs.Reading.{Outcome, sound, piece, piece_at, Turn, go, fault, checked, turn}
use Rattle.spl_cuts.proofs.Fronts.{append_none, Split, split, taken_whole, taken_front, left_rest}
use Rattle.spl_cuts.proofs.PieceReads.{stands_read, faulty_read}
use Rattle.spl_cuts.proofs.PieceStands as p
use Rattle.spl_cuts.proofs.PieceStands.{Told, told}

-- a turn at a text whose front is a piece with blanks in place of what is allowed nowhere
checked_sound : (f : Bool) (front rest : List ℕ) (item : Item) → Stands f (map blanked front) item (map blanked rest)
    → turn f (front ++ rest) ≡ checked (front ++ rest) (sound item (length front))
unfolding turn
checked_sound f front rest item v =
    ap (checked (front ++ rest)) (ap (piece_at f) (map-append blanked front rest) ∙ stands_read v ∙ ap (sound item) (length-map front blanked))

pub turn_goes : (f : Bool) (front rest : List ℕ) (item : Item) → Stands f (map blanked front) item (map blanked rest) → list_all is_allowed front ≡ true
    → turn f (front ++ rest) ≡ go item (length front)
unfolding checked
turn_goes f front rest item v a =
    let t : take_while is_allowed (take (length front) (front ++ rest)) ≡ front = ap (take_while is_allowed) (take-append_seam front rest) ∙ whole front a in
    let l : nat_lt (length front) (length front) ≡ false = grind (arith, nat_tests) in
    checked_sound f front rest item v ∙ rw (t, l) refl
  where
    whole : (front : List ℕ) → list_all is_allowed front ≡ true → take_while is_allowed front ≡ front
    whole front a = ap (take_while is_allowed) (sym (append_none front)) ∙ taken_whole is_allowed front [] a tt

pub turn_finds : (f : Bool) (good more rest : List ℕ) (b : ℕ) (item : Item) → Stands f (map blanked (good ++ b ∷ more)) item (map blanked rest)
    → list_all is_allowed good ≡ true → is_allowed b ≡ false → turn f ((good ++ b ∷ more) ++ rest) ≡ fault k.BadByte (length good)
unfolding checked
turn_finds f good more rest b item v a h =
    let t : take_while is_allowed (take (length (good ++ b ∷ more)) ((good ++ b ∷ more) ++ rest)) ≡ good =
    ap (take_while is_allowed) (take-append_seam (good ++ b ∷ more) rest) ∙ taken_whole is_allowed good (b ∷ more) a h in
    let e : length (good ++ b ∷ more) ≡ length good + suc (length more) = length-append good (b ∷ more) in
    let l : nat_lt (length good) (length (good ++ b ∷ more)) ≡ true = grind (arith, nat_tests, e) in
    checked_sound f (good ++ b ∷ more) rest item v ∙ rw (t, l) refl

pub turn_fails : (f : Bool) (front rest : List ℕ) (kind : LexKind) → Faulty f (map blanked front) kind (map blanked rest) → turn f (front ++ rest) ≡ fault kind 0
unfolding turn checked
turn_fails f front rest kind v = ap (checked (front ++ rest)) (ap (piece_at f) (map-append blanked front rest) ∙ faulty_read v)

-- ---- what a turn says

pub data Turned (f : Bool) (text : List ℕ) : Turn → Type 0 where
  goes : {item : Item} (n : ℕ) (front rest : List ℕ) → front ++ rest ≡ text → n ≡ length front → 0 < n → Stands f (map blanked front) item (map blanked rest)
      → list_all is_allowed front ≡ true → Turned f text (go item n)
  finds : {item : Item} (n : ℕ) (good more rest : List ℕ) (b : ℕ) → (good ++ b ∷ more) ++ rest ≡ text → n ≡ length good
      → Stands f (map blanked (good ++ b ∷ more)) item (map blanked rest) → list_all is_allowed good ≡ true → is_allowed b ≡ false → Turned f text (fault k.BadByte n)
  fails : {kind : LexKind} (front rest : List ℕ) → front ++ rest ≡ text → Faulty f (map blanked front) kind (map blanked rest) → Turned f text (fault kind 0)

-- front and rest of the text, by those of the text with blanks
front_of : (text front rest : List ℕ) (n : ℕ) → front ++ rest ≡ map blanked text → n ≡ length front → front ≡ map blanked (take n text)
front_of text front rest n is e = sym (taken_front n front rest (map blanked text) e is) ∙ take-map blanked n text

rest_of : (text front rest : List ℕ) (n : ℕ) → front ++ rest ≡ map blanked text → n ≡ length front → rest ≡ map blanked (drop n text)
rest_of text front rest n is e = sym (left_rest n front rest (map blanked text) e is) ∙ drop-map blanked n text

checked_told : (f : Bool) (text : List ℕ) (item : Item) (n : ℕ) → n ≡ length (take n text) → 0 < n → Stands f (map blanked (take n text)) item (map blanked (drop n text))
    → Turned f text (checked text (sound item n))
unfolding checked
checked_told f text item n e long v =
    let s = split is_allowed (take n text) in rw s.taken (by s (nat_lt (length s.front) n) refl)
  where
    by : (s : Split is_allowed (take n text)) (b : Bool) → nat_lt (length s.front) n ≡ b → Turned f text (if b then fault k.BadByte (length s.front) else go item n)
    by s true l = at s.rest s.is s.stops
      where
        at : (rest : List ℕ) → s.front ++ rest ≡ take n text → Stops is_allowed rest → Turned f text (fault k.BadByte (length s.front))
        at [] is st =
            let g : length s.front ≡ n = ap (λ (xs : List ℕ). length xs) (sym (append_none s.front) ∙ is) ∙ sym e in
            absurd (grind (arith, nat_tests, l, g))
        at (b ∷ more) is st =
            Turned.finds (length s.front) s.front more (drop n text) b (ap (λ (xs : List ℕ). xs ++ drop n text) is ∙ take-append-drop n text) refl
            (subst (λ (xs : List ℕ). Stands f (map blanked xs) item (map blanked (drop n text))) (sym is) v) s.all st
    by s false l = at s.rest s.is
      where
        at : (rest : List ℕ) → s.front ++ rest ≡ take n text → Turned f text (go item n)
        at [] is =
            Turned.goes n (take n text) (drop n text) (take-append-drop n text) e long v
            (subst (λ (xs : List ℕ). list_all is_allowed xs ≡ true) (sym (append_none s.front) ∙ is) s.all)
        at (b ∷ more) is =
            let g : length (s.front ++ b ∷ more) ≡ n = ap (λ (xs : List ℕ). length xs) is ∙ sym e in
            let g' : length (s.front ++ b ∷ more) ≡ length s.front + suc (length more) = length-append s.front (b ∷ more) in
            absurd (grind (arith, nat_tests, l, g, g'))

outcome_told : (f : Bool) (text : List ℕ) (o : Outcome) → Told f (map blanked text) o → Turned f text (checked text o)
unfolding checked
outcome_told f text _ (p.Told.stands {item} n front rest is e long v) =
    let a = front_of text front rest n is e in
    let b = rest_of text front rest n is e in
    let l : n ≡ length (take n text) = e ∙ ap (λ (xs : List ℕ). length xs) a ∙ length-map (take n text) blanked in
    checked_told f text item n l long (subst (λ (xs : List ℕ). Stands f xs item (map blanked (drop n text))) a (subst (λ (xs : List ℕ). Stands f front item xs) b v))
outcome_told f text _ (p.Told.fails {kind} front rest is v) =
    let a = front_of text front rest (length front) is refl in
    let b = rest_of text front rest (length front) is refl in
    Turned.fails (take (length front) text) (drop (length front) text) (take-append-drop (length front) text)
    (subst (λ (xs : List ℕ). Faulty f xs kind (map blanked (drop (length front) text))) a (subst (λ (xs : List ℕ). Faulty f front kind xs) b v))

pub turn_told : (f : Bool) (b : ℕ) (bs : List ℕ) → Turned f (b ∷ bs) (turn f (b ∷ bs))
unfolding turn
turn_told f b bs = outcome_told f (b ∷ bs) (piece f (blanked b) (map blanked bs)) (told f (blanked b) (map blanked bs))

-- ---- a piece has a byte at least

lettered : (w rest : List ℕ) → Name w rest → 0 < length w
lettered [] rest n = let h = n.letter in cc
lettered (b ∷ bs) rest n = omega arith

pub stands_some : {f : Bool} {front : List ℕ} {item : Item} {rest : List ℕ} → Stands f front item rest → 0 < length front
stands_some (g.Stands.blank {b} rest h) = omega arith
stands_some (g.Stands.comment body rest c) = omega arith
stands_some (g.Stands.comment_word w body rest n c a) = let l = lettered w (body ++ 59 ∷ rest) n in let e = length-append w (body ++ 59 ∷ []) in omega (arith, l, e)
stands_some (g.Stands.line bs rest os a s c) = omega arith
stands_some (g.Stands.name w rest n c l) = lettered w rest n
stands_some (g.Stands.single base [] rest d s l) = let h = d.some in cc
stands_some (g.Stands.single base (x ∷ ds) rest d s l) = let e = length-append (prefix base) (x ∷ ds) in omega (arith, e)
stands_some (g.Stands.double base ds d rest g h l) = let e = length-append (prefix base) (ds ++ d ∷ []) in let e' = length-append ds (d ∷ []) in omega (arith, e, e')
stands_some (g.Stands.string cs bs rest q s) = omega arith
stands_some (g.Stands.mark_one b m rest h l) = omega arith
stands_some (g.Stands.mark_two b c m rest h) = omega arith

pub faulty_some : {f : Bool} {front : List ℕ} {kind : LexKind} {rest : List ℕ} → Faulty f front kind rest → 0 < length front
faulty_some (g.Faulty.byte {b} rest n) = omega arith
faulty_some (g.Faulty.line bs rest a s c) = omega arith
faulty_some (g.Faulty.string cs bs rest q s) = omega arith
faulty_some (g.Faulty.comment body u) = omega arith
faulty_some (g.Faulty.comment_word w body n c a) = let l = lettered w body n in let e = length-append w body in omega (arith, l, e)
faulty_some (g.Faulty.name w rest n l) = lettered w rest n
faulty_some (g.Faulty.single base [] rest d s l) = let h = d.some in cc
faulty_some (g.Faulty.single base (x ∷ ds) rest d s l) = let e = length-append (prefix base) (x ∷ ds) in omega (arith, e)
faulty_some (g.Faulty.double base ds d rest g h l) = let e = length-append (prefix base) (ds ++ d ∷ []) in let e' = length-append ds (d ∷ []) in omega (arith, e, e')
