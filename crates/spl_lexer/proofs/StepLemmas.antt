-- One piece of a text, and what is left behind it.
-- 1. the piece stands at the front of the text            (goes_of)
-- 2. what it gives is added as a state takes it            (adds_of)
-- 3. so room for segments and places is left behind        (left_behind)
-- 4. and what is left is read as the whole, faults with it (reads_on, turn_fails, add_fails)
use Rattle.std.proofs.Common.{◌≡◌, ℕ, ◌+◌, ◌<◌, ◌≤◌, Bool, true, false, List, [], ◌∷◌, ◌++◌, length, map, take, drop, Option, refl, sym, ap, subst, ◌∙◌, arith, length-append, length-drop, length-take-le}
use Rattle.std.specs.Prelude.{nat_lt, Result, Ok, Err, if◌then◌else◌, ◌==◌}
use Rattle.std.proofs.lemmas.List.{drop-map}
use Rattle.spl_tree.specs.declared.names_and_places.At.{At}
use Rattle.spl_cuts.specs.declared.faults.LexKind.{LexKind}
use Rattle.spl_cuts.specs.declared.faults.LexKind.TheVariants as k
use Rattle.spl_cuts.specs.Signs.{Found}
use Rattle.spl_cuts.specs.Bytes.{blanked, past, past_all}
use Rattle.spl_cuts.specs.Pieces.{Item, nothing, token, settings, Stands}
use Rattle.spl_cuts.specs.Defines.{State, Takes}
use Rattle.spl_cuts.specs.Cutting as c
use Rattle.spl_cuts.specs.Cutting.{Here, here, after, begins_line, Adds}
use Rattle.spl_cuts.specs.Reading.{Turn, go, fault, turn, fed, limited, added, finished, read, read_text}
use Rattle.spl_cuts.proofs.Fronts.{taken_front, left_rest}
use Rattle.spl_cuts.proofs.Turns as t
use Rattle.spl_cuts.proofs.Turns.{Turned, turn_told}
use Rattle.spl_cuts.proofs.DefineReads as d
use Rattle.spl_cuts.proofs.DefineReads.{Fed, fed_told}
use Rattle.spl_cuts.proofs.TextReads.{read_goes, read_stops, read_fails}
use Rattle.spl_cuts.proofs.FewSegments.{piece_names}
use Rattle.spl_lexer.specs.StateViews.{IsKept, FailsBy}
use Rattle.spl_pieces.specs.PieceViews.{FailsAt}
use Rattle.spl_lexer.specs.ReaderViews.{IsLeft, Faults, reading}

-- ---- the piece

-- a piece of n bytes that gives this stands at the front
pub record Goes (f : Bool) (text : List ℕ) (item : Item) (n : ℕ) : Type 0 where
  pub within : n ≤ length text
  pub stands : Stands f (map blanked (take n text)) item (map blanked (drop n text))

abbrev Facts : Bool → List ℕ → Turn → Type 0
Facts f text (go item n) = Goes f text item n
Facts f text (fault kind n) = Unit {0}

facts : (f : Bool) (text : List ℕ) (o : Turn) → Turned f text o → Facts f text o
facts f text _ (t.Turned.goes {item} n front rest is e long v a) =
    let l = length-append front rest in
    let m : length (front ++ rest) ≡ length text = ap (λ (xs : List ℕ). length xs) is in
    record {
      within = omega (arith, l, m, e);
      stands =
          subst (λ (xs : List ℕ). Stands f (map blanked xs) item (map blanked (drop n text))) (sym (taken_front n front rest text e is))
          (subst (λ (xs : List ℕ). Stands f (map blanked front) item (map blanked xs)) (sym (left_rest n front rest text e is)) v);
    }
facts f text _ (t.Turned.finds n good more rest b is e v a na) = tt
facts f text _ (t.Turned.fails front rest is v) = tt

pub goes_of : (f : Bool) (text : List ℕ) (item : Item) (n : ℕ) → 0 < length text → turn f text ≡ go item n
    → Goes f text item n
goes_of f [] item n l e = absurd (omega (arith, l))
goes_of f (b ∷ bs) item n l e = subst (Facts f (b ∷ bs)) e (facts f (b ∷ bs) (turn f (b ∷ bs)) (turn_told f b bs))

-- ---- what it gives

ok_state : State → Result State LexKind → State
ok_state d (Ok s) = s
ok_state d (Err e) = d

ok_is : {s s1 : State} → Path (Result State LexKind) (Ok s) (Ok s1) → s ≡ s1
unfolding ok_state
ok_is {s = s} e = ap (ok_state s) e

takes_of : (s s1 : State) (f : Found) (o : Option State) → Fed s f o → limited 262144 o ≡ Ok s1 → Takes s f s1
unfolding limited
takes_of s s1 f _ (d.Fed.takes {s1 = s2} v) e = by (nat_lt 262144 s2.count) e
  where
    by : (b : Bool) → (if b then Err k.TooManyTokens else Ok s2) ≡ Ok s1 → Takes s f s1
    by true e = cc
    by false e = subst (Takes s f) (ok_is e) v
takes_of s s1 f _ (d.Fed.breaks v) e = cc

pub adds_of : (h : Here) (s s1 : State) (item : Item) → added 262144 h s item ≡ Ok s1 → Adds h s item s1
unfolding added
adds_of h s s1 nothing e = subst (Adds h s nothing) (ok_is e) c.Adds.none
adds_of h s s1 (settings os) e = subst (Adds h s (settings os)) (ok_is e) c.Adds.command
adds_of h s s1 (token x) e = c.Adds.sign x s1 (takes_of s s1 (here h x) (fed s (here h x)) (fed_told s (here h x)) e)

-- ---- what is left

-- a byte passes one line or column at most
past_bound : (at : At) (b : ℕ) → ((past at b).line ≤ at.line + 1) × ((past at b).column ≤ at.column + 1)
past_bound at b = by (b == 10)
  where
    by : (x : Bool)
        → ((if x then record at { line = at.line + 1; column = 1 } else record at { column = at.column + 1 }).line ≤ at.line + 1)
        × ((if x then record at { line = at.line + 1; column = 1 } else record at { column = at.column + 1 }).column ≤ at.column + 1)
    by true = (omega arith, omega arith)
    by false = (omega arith, omega arith)

pub past_bounds : (at : At) (bs : List ℕ)
    → ((past_all at bs).line ≤ at.line + length bs) × ((past_all at bs).column ≤ at.column + length bs)
past_bounds at [] = (omega arith, omega arith)
past_bounds at (b ∷ bs) =
    let p = past_bound at b in
    let q = past_bounds (past at b) bs in
    (omega (arith, p.0, q.0), omega (arith, p.1, q.1))

after_place : (h : Here) (front : List ℕ) (item : Item) → (after h front item).at ≡ past_all h.at front
after_place h front nothing = refl
after_place h front (token x) = refl
after_place h front (settings os) = refl

pub left_behind : (h : Here) (s s1 : State) (item : Item) (n : ℕ) (text blanks : List ℕ) → IsLeft h s text blanks
    → 0 < length text
    → turn (begins_line h) text ≡ go item n → added 262144 h s item ≡ Ok s1 → IsKept s1
    → IsLeft (after h (take n text) item) s1 (drop n text) (drop n blanks)
left_behind h s s1 item n text blanks v l e a kept =
    let g = goes_of (begins_line h) text item n l e in
    let names = piece_names (take n text) (drop n text) g.stands (adds_of h s s1 item a) in
    let front : length (take n text) ≡ n = length-take-le n text g.within in
    let behind = length-drop n text in
    let bounds = past_bounds h.at (take n text) in
    let line : (after h (take n text) item).at.line ≡ (past_all h.at (take n text)).line = ap (λ (at : At). at.line) (after_place h (take n text) item) in
    let column : (after h (take n text) item).at.column ≡ (past_all h.at (take n text)).column = ap (λ (at : At). at.column) (after_place h (take n text) item) in
    let within = g.within in
    let segments = v.segments in
    let old_line = v.line in
    let old_column = v.column in
    record {
      blanked = ap (drop n) v.blanked ∙ drop-map blanked n text;
      kept = kept;
      segments = omega (arith, names, front, behind, within, segments);
      line = omega (arith, bounds.0, line, front, behind, within, old_line);
      column = omega (arith, bounds.1, column, front, behind, within, old_column);
    }

-- ---- how it is read

pub reads_on : (h : Here) (s s1 : State) (item : Item) (n : ℕ) (text : List ℕ) → 0 < n → 0 < length text
    → turn (begins_line h) text ≡ go item n
    → added 262144 h s item ≡ Ok s1 → reading (after h (take n text) item) s1 (drop n text) ≡ reading h s text
reads_on h s s1 item n text m l e a = sym (read_goes 262144 n h s s1 item text (drop n text) m l e a refl)

-- a fault in the piece
failed : (h : Here) (s : State) (text : List ℕ) (kind : LexKind) (n : ℕ) (at : At) → 0 < length text
    → turn (begins_line h) text ≡ fault kind n
    → at ≡ past_all h.at (take n text) → reading h s text ≡ Err (kind, at)
failed h s text kind n at l e p = read_fails 262144 n h s kind text l e ∙ ap (λ (a : At). Err (kind, a)) (sym p)

pub turn_fails : (h : Here) (s : State) (text : List ℕ) (kind : LexKind) (n : ℕ) (at : At) → 0 < length text
    → FailsAt (turn (begins_line h) text) kind n
    → at ≡ past_all h.at (take n text) → Faults (reading h s text) kind at
turn_fails h s text k.BadByte n at l e p = failed h s text k.BadByte n at l e p
turn_fails h s text k.BadCommand n at l e p = failed h s text k.BadCommand n at l e p
turn_fails h s text k.OpenString n at l e p = failed h s text k.OpenString n at l e p
turn_fails h s text k.OpenComment n at l e p = failed h s text k.OpenComment n at l e p
turn_fails h s text k.NameTooLong n at l e p = failed h s text k.NameTooLong n at l e p
turn_fails h s text k.NumberTooLarge n at l e p = failed h s text k.NumberTooLarge n at l e p
turn_fails h s text k.BadDefine n at l e p = failed h s text k.BadDefine n at l e p
turn_fails h s text k.TooManyTokens n at l e p = failed h s text k.TooManyTokens n at l e p
turn_fails h s text k.NoMemory n at l e p = tt

-- a fault in what it gives
pub add_fails : (h : Here) (s : State) (item : Item) (n : ℕ) (text : List ℕ) (kind : LexKind) → 0 < length text
    → turn (begins_line h) text ≡ go item n
    → FailsBy (added 262144 h s item) kind → Faults (reading h s text) kind h.at
add_fails h s item n text k.BadByte l e a = read_stops 262144 n h s item k.BadByte text l e a
add_fails h s item n text k.BadCommand l e a = read_stops 262144 n h s item k.BadCommand text l e a
add_fails h s item n text k.OpenString l e a = read_stops 262144 n h s item k.OpenString text l e a
add_fails h s item n text k.OpenComment l e a = read_stops 262144 n h s item k.OpenComment text l e a
add_fails h s item n text k.NameTooLong l e a = read_stops 262144 n h s item k.NameTooLong text l e a
add_fails h s item n text k.NumberTooLarge l e a = read_stops 262144 n h s item k.NumberTooLarge text l e a
add_fails h s item n text k.BadDefine l e a = read_stops 262144 n h s item k.BadDefine text l e a
add_fails h s item n text k.TooManyTokens l e a = read_stops 262144 n h s item k.TooManyTokens text l e a
add_fails h s item n text k.NoMemory l e a = tt

-- ---- the same by other names

pub left_same : {h there : Here} {s : State} {text rest blanks left : List ℕ} → there ≡ h → rest ≡ text
    → left ≡ blanks → IsLeft h s text blanks
    → IsLeft there s rest left
left_same {h = h} {there = there} {s = s} {text = text} {rest = rest} {blanks = blanks} {left = left} e f g v =
    subst (λ (x : Here). IsLeft x s rest left) (sym e)
    (subst (λ (xs : List ℕ). IsLeft h s xs left) (sym f) (subst (λ (xs : List ℕ). IsLeft h s text xs) (sym g) v))

-- ---- the beginning and the end of a text

pub left_first : (unit : ℕ) (text blanks : List ℕ) → blanks ≡ map blanked text → length text ≤ 1048576
    → IsLeft (c.start unit) c.fresh text blanks
left_first unit text blanks e l = record {
  blanked = e;
  kept = record { few = omega arith; new = tt };
  segments = let one : length (c.with_name (c.with_names [] []) (c.start unit).segment) ≡ 1 = refl in omega (arith, l, one);
  line = omega (arith, l);
  column = omega (arith, l);
}

-- the beginning, by other names
pub begins : (unit : ℕ) (h : Here) (s : State) (text blanks : List ℕ) → h ≡ c.start unit → s ≡ c.fresh
    → blanks ≡ map blanked text → length text ≤ 1048576
    → IsLeft h s text blanks × (reading h s text ≡ read_text unit 262144 text)
unfolding read_text
begins unit h s text blanks e f g l = (
  left_same e refl refl (subst (λ (x : State). IsLeft (c.start unit) x text blanks) (sym f) (left_first unit text blanks g l)),
  ap (λ (x : Here). reading x s text) e ∙ ap (λ (x : State). reading (c.start unit) x text) f,
)

pub read_end : (h : Here) (s : State) (text : List ℕ) → length text ≡ 0 → reading h s text ≡ finished h s
unfolding read
read_end h s [] e = refl
read_end h s (b ∷ bs) e = absurd (omega (arith, e))
