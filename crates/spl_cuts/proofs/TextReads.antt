-- A text is read as it is cut, piece by piece, and its fault where it is.
use Rattle.std.proofs.Common.{ℕ, zero, suc, ◌≡◌, ◌-◌, ◌<◌, ◌≤◌, true, false, List, [], ◌∷◌, ◌++◌, length, map, take, drop, Some, None, refl, sym, ap, ◌∙◌, arith, length-append}
use Rattle.std.specs.Prelude.{nat_lt, Ok, Err}
use Rattle.std.specs.List.{list_all}
use Rattle.std.proofs.lemmas.Bool.Decides.{nat_tests}
use Rattle.std.proofs.lemmas.List.{append_assoc, length-map}
use Rattle.std.proofs.Math.Seq.{take-append_seam}
use Rattle.spl_tree.specs.declared.names_and_places.At.{At}
use Rattle.spl_cuts.specs.declared.faults.LexKind.{LexKind}
use Rattle.spl_cuts.specs.declared.faults.LexKind.TheVariants as k
use Rattle.spl_cuts.specs.Signs.{Sign, Listed}
use Rattle.spl_cuts.specs.Bytes.{is_allowed, blanked, past_all}
use Rattle.spl_cuts.specs.Pieces.{Item, token}
use Rattle.spl_cuts.specs.Defines.{State, is_outside}
use Rattle.spl_cuts.specs.Cutting as c
use Rattle.spl_cuts.specs.Cutting.{Here, here, after, begins_line, start, fresh, listed, Adds, StandsBlanked, Cut, Fault, Cuts, Bad, Passes, CutsWithin, FirstFault}
use Rattle.spl_cuts.specs.Reading.{fed, limited, added, finished, continued, go, fault, turned, turn, read, read_text}
use Rattle.spl_cuts.proofs.Fronts.{left_rest}
use Rattle.spl_cuts.proofs.DefineReads.{takes_fed, breaks_fed, takes_grows}
use Rattle.spl_cuts.proofs.Turns.{turn_goes, turn_finds, turn_fails, stands_some, faulty_some}

-- what is passed over does not matter
pub read_past : (limit n : ℕ) (h : Here) (s : State) (text : List ℕ) → read limit n h s text ≡ read limit 0 h s (drop n text)
unfolding read
read_past limit zero h s text = refl
read_past limit (suc n) h s [] = refl
read_past limit (suc n) h s (b ∷ bs) = read_past limit n h s bs

-- the reading goes on behind a piece whose item is added
pub read_goes : (limit n : ℕ) (h : Here) (s s1 : State) (item : Item) (text rest : List ℕ) → 0 < n → 0 < length text → turn (begins_line h) text ≡ go item n → added limit h s item ≡ Ok s1
    → drop n text ≡ rest → read limit 0 h s text ≡ read limit 0 (after h (take n text) item) s1 rest
unfolding read turned continued
read_goes limit n h s s1 item [] rest m l t a d = absurd (omega (arith, l))
read_goes limit zero h s s1 item (b ∷ bs) rest m l t a d = absurd (omega (arith, m))
read_goes limit (suc n) h s s1 item (b ∷ bs) rest m l t a d =
    let e : suc n - 1 ≡ n = omega arith in
    rw (t, a, e, read_past limit n (after h (b ∷ take n bs) item) s1 bs, d) refl

pub read_stops : (limit n : ℕ) (h : Here) (s : State) (item : Item) (kind : LexKind) (text : List ℕ) → 0 < length text → turn (begins_line h) text ≡ go item n → added limit h s item ≡ Err kind
    → read limit 0 h s text ≡ Err (kind, h.at)
unfolding read turned continued
read_stops limit n h s item kind [] l t a = absurd (omega (arith, l))
read_stops limit n h s item kind (b ∷ bs) l t a = rw (t, a) refl

pub read_fails : (limit n : ℕ) (h : Here) (s : State) (kind : LexKind) (text : List ℕ) → 0 < length text → turn (begins_line h) text ≡ fault kind n
    → read limit 0 h s text ≡ Err (kind, past_all h.at (take n text))
unfolding read turned
read_fails limit n h s kind [] l t = absurd (omega (arith, l))
read_fails limit n h s kind (b ∷ bs) l t = rw t refl

pub adds_grows : {h : Here} {s s1 : State} {item : Item} → Adds h s item s1 → s.count ≤ s1.count
adds_grows c.Adds.none = omega arith
adds_grows c.Adds.command = omega arith
adds_grows (c.Adds.sign x s1 v) = takes_grows v

pub cut_grows : {h there : Here} {s s2 : State} {text left : List ℕ} → Cut h s text there s2 left → s.count ≤ s2.count
cut_grows c.Cut.done = omega arith
cut_grows (c.Cut.piece front rest left item v a d more) = let l = adds_grows d in let m = cut_grows more in omega (arith, l, m)

limited_few : (limit : ℕ) (s : State) → s.count ≤ limit → limited limit (Some s) ≡ Ok s
unfolding limited
limited_few limit s l = let h : nat_lt limit s.count ≡ false = grind (arith, nat_tests, l) in rw h refl

limited_many : (limit : ℕ) (s : State) → limit < s.count → limited limit (Some s) ≡ Err k.TooManyTokens
unfolding limited
limited_many limit s l = let h : nat_lt limit s.count ≡ true = grind (arith, nat_tests, l) in rw h refl

limited_none : (limit : ℕ) → limited limit None ≡ Err k.BadDefine
unfolding limited
limited_none limit = refl

adds_added : {h : Here} {s s1 : State} {item : Item} (limit : ℕ) → Adds h s item s1 → s1.count ≤ limit → added limit h s item ≡ Ok s1
unfolding added
adds_added limit c.Adds.none l = refl
adds_added limit c.Adds.command l = refl
adds_added limit (c.Adds.sign x s1 v) l = ap (limited limit) (takes_fed v) ∙ limited_few limit s1 l

-- a piece has a byte, with blanks or without
blanked_some : (front rest : List ℕ) → 0 < length (map blanked front) → (0 < length front) × (0 < length (front ++ rest))
blanked_some front rest l = let e = length-map front blanked in let e' = length-append front rest in (omega (arith, l, e), omega (arith, l, e, e'))

pub cut_read : {h there : Here} {s s2 : State} {text left : List ℕ} (limit : ℕ) → Cut h s text there s2 left → s2.count ≤ limit → read limit 0 h s text ≡ read limit 0 there s2 left
cut_read limit c.Cut.done l = refl
cut_read {h = h} {s = s} limit (c.Cut.piece {s1 = s1} front rest left item v a d more) l =
    let m = cut_grows more in
    let few : s1.count ≤ limit = omega (arith, l, m) in
    let some = blanked_some front rest (stands_some v) in
    read_goes limit (length front) h s s1 item (front ++ rest) rest some.0 some.1 (turn_goes (begins_line h) front rest item v a) (adds_added limit d few)
    (left_rest (length front) front rest (front ++ rest) refl refl)
    ∙ ap (λ (xs : List ℕ). read limit 0 (after h xs item) s1 rest) (take-append_seam front rest)
    ∙ cut_read limit more l

finished_open : (limit : ℕ) (h : Here) (s : State) → is_outside s.phase ≡ false → read limit 0 h s [] ≡ Err (k.BadDefine, h.at)
unfolding read finished
finished_open limit h s e = rw e refl

finished_closed : (limit : ℕ) (h : Here) (s : State) → is_outside s.phase ≡ true → read limit 0 h s [] ≡ Ok (listed h s)
unfolding read finished
finished_closed limit h s e = rw e refl

-- a token that the limit or a DEFINE refuses
token_stops : (limit : ℕ) (h : Here) (s : State) (x : Sign) (kind : LexKind) (front rest : List ℕ) → StandsBlanked h front (token x) rest → list_all is_allowed front ≡ true
    → limited limit (fed s (here h x)) ≡ Err kind → read limit 0 h s (front ++ rest) ≡ Err (kind, h.at)
unfolding added
token_stops limit h s x kind front rest v a e =
    let some = blanked_some front rest (stands_some v) in
    read_stops limit (length front) h s (token x) kind (front ++ rest) some.1 (turn_goes (begins_line h) front rest (token x) v a) e

pub fault_read : {h : Here} {s : State} {text : List ℕ} {kind : LexKind} {at : At} (limit : ℕ) → Fault h s text kind at → read limit 0 h s text ≡ Err (kind, at)
fault_read {h = h} {s = s} limit (c.Fault.piece front rest kind v) =
    let some = blanked_some front rest (faulty_some v) in
    read_fails limit 0 h s kind (front ++ rest) some.1 (turn_fails (begins_line h) front rest kind v)
fault_read {h = h} {s = s} limit (c.Fault.byte good more rest b item v a e) =
    let some = blanked_some (good ++ b ∷ more) rest (stands_some v) in
    read_fails limit (length good) h s k.BadByte ((good ++ b ∷ more) ++ rest) some.1 (turn_finds (begins_line h) good more rest b item v a e)
    ∙ ap (λ (xs : List ℕ). Err (k.BadByte, past_all h.at xs)) (ap (take (length good)) (append_assoc good (b ∷ more) rest) ∙ take-append_seam good (b ∷ more ++ rest))
fault_read {h = h} {s = s} limit (c.Fault.breaking front rest x v a b) =
    token_stops limit h s x k.BadDefine front rest v a (ap (limited limit) (breaks_fed b) ∙ limited_none limit)
fault_read {h = h} {s = s} limit (c.Fault.end e) = finished_open limit h s e

pub cuts_read : (unit limit : ℕ) (text : List ℕ) (x : Listed) → CutsWithin unit limit text x → read_text unit limit text ≡ Ok x
unfolding read_text
cuts_read unit limit text x w =
    let v = w.cuts in
    let l : v.state.count ≤ limit = let e = v.counted in let f = w.few in omega (arith, e, f) in
    cut_read limit v.cut l ∙ finished_closed limit v.there v.state v.closed ∙ ap (λ (y : Listed). Ok y) (sym v.is)

pub fault_is_read : (unit limit : ℕ) (text : List ℕ) (kind : LexKind) (at : At) → FirstFault unit limit text kind at → read_text unit limit text ≡ Err (kind, at)
unfolding read_text
fault_is_read unit limit text kind at (c.FirstFault.bad count v f) =
    let l : v.state.count ≤ limit = let e = v.counted in omega (arith, e, f) in
    cut_read limit v.cut l ∙ fault_read limit v.fault
fault_is_read unit limit text _ at (c.FirstFault.many v) =
    cut_read limit v.cut v.few
    ∙ token_stops limit v.there v.state v.what k.TooManyTokens v.front v.rest v.stands v.allowed (ap (limited limit) (takes_fed v.takes) ∙ limited_many limit v.next v.many)
    ∙ ap (λ (a : At). Err (k.TooManyTokens, a)) (sym v.is)
