-- A text names few segments: each is told by a command of at least 17 bytes, but for the first.
-- 1. the parts of a text that is split are no longer than it, with one byte between two
-- 2. so an option that names a segment has at least 9 bytes, and its command line 17 with the $
-- 3. tokens add no segment but the one in force, and a command at most one
use Rattle.std.proofs.Common.{ℕ, ◌≡◌, ◌+◌, ◌-◌, ◌*◌, ◌<◌, ◌≤◌, Bool, true, false, cond, List, [], ◌∷◌, ◌++◌, length, map, drop, Option, Some, None, refl, sym, ap, ◌∙◌, arith, length-append, length-drop, filter}
use Rattle.std.specs.Prelude.{◌&&◌, ◌||◌, nat_lt, nat_eq, codes, option_map, option_and_then, take_while, if◌then◌else◌}
use Rattle.std.specs.List.{slice_split, onto_first}
use Rattle.std.specs.Cmp.Lexicographic.{same_text}
use Rattle.std.proofs.lemmas.List.{length-map}
use Rattle.std.proofs.lemmas.Bool.{eq-eqb}
use lib.Pointwise.{pointwise}
use Rattle.spl_cuts.specs.Bytes.{is_blank, is_name_byte, capital, begins, blanked}
use Rattle.spl_cuts.specs.Commands.{Setting, segment, subprogram, other, is_name, is_number, words, plain, valued, only, setting, is_equals, option, is_comma, options, command_named, command, segment_after}
use Rattle.spl_cuts.specs.Signs.{Sign, Found, stop, Listed}
use Rattle.spl_cuts.specs.Pieces.{Item, nothing, token, settings, Stands}
use Rattle.spl_cuts.specs.Pieces as g
use Rattle.spl_cuts.specs.Defines as d
use Rattle.spl_cuts.specs.Defines.{State, Takes, at_use}
use Rattle.spl_cuts.specs.Cutting as c
use Rattle.spl_cuts.specs.Cutting.{Here, here, after, start, fresh, has_name, with_name, with_names, listed, Adds, Cut, Cuts}
use Rattle.spl_cuts.proofs.Fronts.{both, some_is}

-- ---- splits

-- the bytes of all parts, with one behind each
abbrev span : List (List ℕ) → ℕ
span [] = 0
span (p ∷ ps) = length p + 1 + span ps

span_onto : (x : ℕ) (ps : List (List ℕ)) → 0 < length ps → span (onto_first x ps) ≡ span ps + 1
span_onto x [] l = absurd (omega (arith, l))
span_onto x (p ∷ ps) l = omega arith

some_parts : (p : ℕ → Bool) (xs : List ℕ) → 0 < length (slice_split p xs)
some_parts p [] = omega arith
some_parts p (x ∷ xs) = by (p x) (some_parts p xs)
  where
    by : (b : Bool) → 0 < length (slice_split p xs) → 0 < length (cond b ([] ∷ slice_split p xs) (onto_first x (slice_split p xs)))
    by true l = omega arith
    by false l = onto (slice_split p xs) l
      where
        onto : (ps : List (List ℕ)) → 0 < length ps → 0 < length (onto_first x ps)
        onto [] l = absurd (omega (arith, l))
        onto (q ∷ qs) l = omega arith

pub span_split : (p : ℕ → Bool) (xs : List ℕ) → span (slice_split p xs) ≡ length xs + 1
span_split p [] = refl
span_split p (x ∷ xs) = by (p x) (span_split p xs) (some_parts p xs)
  where
    by : (b : Bool) → span (slice_split p xs) ≡ length xs + 1 → 0 < length (slice_split p xs) → span (cond b ([] ∷ slice_split p xs) (onto_first x (slice_split p xs))) ≡ length (x ∷ xs) + 1
    by true e l = omega (arith, e)
    by false e l = let f = span_onto x (slice_split p xs) l in omega (arith, e, f)

-- the only word of a text is no longer than it
only_among : (ps : List (List ℕ)) (w : List ℕ) → only (filter (λ w. nat_lt 0 (length w)) ps) ≡ Some w → length w + 1 ≤ span ps
only_among [] w e = cc
only_among (p ∷ ps) w e = by (nat_lt 0 (length p)) refl e (only_among ps w)
  where
    by : (b : Bool) → nat_lt 0 (length p) ≡ b → only (cond b (p ∷ filter (λ w. nat_lt 0 (length w)) ps) (filter (λ w. nat_lt 0 (length w)) ps)) ≡ Some w
        → (only (filter (λ w. nat_lt 0 (length w)) ps) ≡ Some w → length w + 1 ≤ span ps) → length w + 1 ≤ length p + 1 + span ps
    by true h f k = at (filter (λ w. nat_lt 0 (length w)) ps) f
      where
        at : (qs : List (List ℕ)) → only (p ∷ qs) ≡ Some w → length w + 1 ≤ length p + 1 + span ps
        at [] f = let q : length p ≡ length w = ap (λ (x : List ℕ). length x) (some_is f) in omega (arith, q)
        at (q ∷ qs) f = cc
    by false h f k = let l = k f in omega (arith, l)

word_within : (text w : List ℕ) → only (words text) ≡ Some w → length w ≤ length text
word_within text w e = let l = only_among (slice_split is_blank text) w e in let s = span_split is_blank text in omega (arith, l, s)

-- ---- options

-- what names a segment
abbrev is_segment : Setting → Bool
is_segment (segment s) = true
is_segment subprogram = false
is_segment other = false

abbrev names_segment : List Setting → Bool
names_segment [] = false
names_segment (o ∷ os) = is_segment o || names_segment os

plain_names_none : (n : List ℕ) (s : Setting) → plain n ≡ Some s → is_segment s ≡ false
plain_names_none n s e = by (is_name n) (pointwise nat_eq (map capital n) (codes "SUBPROGRAM")) e
  where
    by : (a b : Bool) → (if a then Some (if b then subprogram else other) else None) ≡ Some s → is_segment s ≡ false
    by true true e = sym (ap is_segment (some_is e))
    by true false e = sym (ap is_segment (some_is e))
    by false b e = cc

lettered : (p : ℕ → Bool) (v : List ℕ) → begins p v ≡ true → 0 < length v
lettered p [] h = cc
lettered p (b ∷ bs) h = omega arith

-- a word that is this one has its length
as_long : (n word : List ℕ) → pointwise nat_eq (map capital n) word ≡ true → length n ≡ length word
as_long n word h = sym (length-map n capital) ∙ ap (λ (xs : List ℕ). length xs) (same_text (map capital n) word (sym h))

valued_names : (n v : List ℕ) (s : Setting) → valued n v ≡ Some s → is_segment s ≡ true → (length n ≡ 7) × (0 < length v)
valued_names n v s e h = by (is_name n) (is_name v) (is_number v) (pointwise nat_eq (map capital n) (codes "SEGMENT")) refl refl e
  where
    by : (a b d w : Bool) → is_name v ≡ b → pointwise nat_eq (map capital n) (codes "SEGMENT") ≡ w
        → (if a && (b || d) then Some (if w && b then segment (map capital v) else other) else None) ≡ Some s → (length n ≡ 7) × (0 < length v)
    by true true d true f g e = (as_long n (codes "SEGMENT") g, lettered _ v (both _ _ (both _ _ f).0).0)
    by true true d false f g e = let q : false ≡ true = ap is_segment (some_is e) ∙ h in cc
    by true false true true f g e = let q : false ≡ true = ap is_segment (some_is e) ∙ h in cc
    by true false true false f g e = let q : false ≡ true = ap is_segment (some_is e) ∙ h in cc
    by true false false w f g e = cc
    by false b d w f g e = cc

-- the sides of an option that names a segment
sides_long : (ps : List (List ℕ)) (s : Setting) → setting (map (λ side. only (words side)) ps) ≡ Some s → is_segment s ≡ true → 10 ≤ span ps
unfolding setting
sides_long [] s e h = cc
sides_long (a ∷ []) s e h = by (only (words a)) e
  where
    by : (o : Option (List ℕ)) → option_and_then plain o ≡ Some s → 10 ≤ span (a ∷ [])
    by (Some n) e = let q : true ≡ false = sym h ∙ plain_names_none n s e in cc
    by None e = cc
sides_long (a ∷ b ∷ []) s e h = by (only (words a)) (only (words b)) refl refl e
  where
    by : (o r : Option (List ℕ)) → only (words a) ≡ o → only (words b) ≡ r → option_and_then (λ n. option_and_then (valued n) r) o ≡ Some s → 10 ≤ span (a ∷ b ∷ [])
    by (Some n) (Some v) f g e =
        let k = valued_names n v s e h in
        let x = word_within a n f in
        let y = word_within b v g in
        let k0 = k.0 in
        let k1 = k.1 in
        omega (arith, x, y, k0, k1)
    by (Some n) None f g e = cc
    by None r f g e = cc
sides_long (a ∷ b ∷ d ∷ ps) s e h = cc

option_long : (text : List ℕ) (s : Setting) → option text ≡ Some s → is_segment s ≡ true → 9 ≤ length text
unfolding option
option_long text s e h =
    let l = sides_long (slice_split is_equals text) s e h in
    let k = span_split is_equals text in
    omega (arith, l, k)

options_long : (ps : List (List ℕ)) (os : List Setting) → options ps ≡ Some os → names_segment os ≡ true → 10 ≤ span ps
unfolding options
options_long [] os e h = let q : false ≡ true = ap names_segment (some_is e) ∙ h in cc
options_long (p ∷ ps) os e h = by (option p) (options ps) refl e (options_long ps)
  where
    by : (o : Option Setting) (r : Option (List Setting)) → option p ≡ o → option_and_then (λ s. option_map (λ ss. s ∷ ss) r) o ≡ Some os
        → ((us : List Setting) → r ≡ Some us → names_segment us ≡ true → 10 ≤ span ps) → 10 ≤ length p + 1 + span ps
    by (Some s) (Some ss) f e k = at (is_segment s) refl (ap names_segment (some_is e) ∙ h)
      where
        at : (b : Bool) → is_segment s ≡ b → (b || names_segment ss) ≡ true → 10 ≤ length p + 1 + span ps
        at true g m = let l = option_long p s f g in omega (arith, l)
        at false g m = let l = k ss refl m in omega (arith, l)
    by (Some s) None f e k = cc
    by None r f e k = cc

-- a command that names a segment has 16 bytes behind its $
command_long : (line : List ℕ) (os : List Setting) → command line ≡ Some os → names_segment os ≡ true → 16 ≤ length line
unfolding command command_named
command_long line os e h =
    by (pointwise nat_eq (map capital name) (codes "PAGE")) (pointwise nat_eq (map capital name) (codes "TITLE")) (pointwise nat_eq (map capital name) (codes "CONTROL")) refl e
  where
    name : List ℕ
    name = take_while is_name_byte line

    by : (a b d : Bool) → pointwise nat_eq (map capital name) (codes "CONTROL") ≡ d
        → (if a || b then Some [] else if d then options (slice_split is_comma (drop (length name) line)) else None) ≡ Some os → 16 ≤ length line
    by true b d f e = let q : false ≡ true = ap names_segment (some_is e) ∙ h in cc
    by false true d f e = let q : false ≡ true = ap names_segment (some_is e) ∙ h in cc
    by false false true f e =
        let l : length name ≡ 7 = as_long name (codes "CONTROL") f in
        let m = options_long (slice_split is_comma (drop (length name) line)) os e h in
        let k = span_split is_comma (drop (length name) line) in
        let t : length (drop (length name) line) ≡ length line - length name = length-drop (length name) line in
        omega (arith, l, m, k, t)
    by false false false f e = cc

same_segment : (s : List ℕ) (os : List Setting) → names_segment os ≡ false → segment_after s os ≡ s
same_segment s [] h = refl
same_segment s (segment t ∷ os) h = cc
same_segment s (subprogram ∷ os) h = same_segment s os h
same_segment s (other ∷ os) h = same_segment s os h

-- ---- names

pub same_self : (n : List ℕ) → pointwise nat_eq n n ≡ true
same_self [] = refl
same_self (b ∷ bs) = rw (eq-eqb b b refl) (same_self bs)

has_last : (ms : List (List ℕ)) (n : List ℕ) → has_name (ms ++ n ∷ []) n ≡ true
has_last [] n = rw (same_self n) refl
has_last (m ∷ ms) n = by (pointwise nat_eq n m) (has_last ms n)
  where
    by : (b : Bool) → has_name (ms ++ n ∷ []) n ≡ true → (b || has_name (ms ++ n ∷ []) n) ≡ true
    by true k = refl
    by false k = k

pub has_with : (ms : List (List ℕ)) (n : List ℕ) → has_name (with_name ms n) n ≡ true
has_with ms n = by (has_name ms n) refl
  where
    by : (b : Bool) → has_name ms n ≡ b → has_name (if b then ms else ms ++ n ∷ []) n ≡ true
    by true h = h
    by false h = has_last ms n

pub with_again : (ms : List (List ℕ)) (n : List ℕ) → with_name (with_name ms n) n ≡ with_name ms n
with_again ms n = rw (has_with ms n) refl

pub with_behind : (ms : List (List ℕ)) (xs ys : List Found) → with_names ms (xs ++ ys) ≡ with_names (with_names ms xs) ys
with_behind ms [] ys = refl
with_behind ms (x ∷ xs) ys = with_behind (with_name ms x.segment) xs ys

pub uses_name : (ms : List (List ℕ)) (t : Found) (xs : List Sign) → with_name (with_names ms (at_use t xs)) t.segment ≡ with_name ms t.segment
uses_name ms t [] = refl
uses_name ms t (x ∷ xs) = uses_name (with_name ms t.segment) t xs ∙ with_again ms t.segment

pub longer_with : (ms : List (List ℕ)) (n : List ℕ) → (length ms ≤ length (with_name ms n)) × (length (with_name ms n) ≤ length ms + 1)
longer_with ms n = by (has_name ms n)
  where
    by : (b : Bool) → (length ms ≤ length (if b then ms else ms ++ n ∷ [])) × (length (if b then ms else ms ++ n ∷ []) ≤ length ms + 1)
    by true = (omega arith, omega arith)
    by false = let e = length-append ms (n ∷ []) in (omega (arith, e), omega (arith, e))

-- the names of the tokens so far, with the segment in force here
abbrev pub names_at : List ℕ → State → List (List ℕ)
names_at n s = with_name (with_names [] s.found) n

takes_names : (h : Here) {x : Sign} {s s1 : State} → Takes s (here h x) s1 → names_at h.segment s1 ≡ names_at h.segment s
takes_names h {x = x} {s = s} (d.Takes.listed p e u) =
    ap (λ (ms : List (List ℕ)). with_name ms h.segment) (with_behind [] s.found (here h x ∷ [])) ∙ with_again (with_names [] s.found) h.segment
takes_names h {x = x} {s = s} (d.Takes.used xs p e u) =
    ap (λ (ms : List (List ℕ)). with_name ms h.segment) (with_behind [] s.found (at_use (here h x) xs)) ∙ uses_name (with_names [] s.found) (here h x) xs
takes_names h (d.Takes.begun p e) = refl
takes_names h (d.Takes.named n p w i) = refl
takes_names h (d.Takes.opened n p e) = refl
takes_names h (d.Takes.kept n ks p m e u) = refl
takes_names h (d.Takes.kept_use n ks xs p m e u) = refl
takes_names h (d.Takes.defined_so n ks p m) = refl
takes_names h (d.Takes.next p m) = refl
takes_names h (d.Takes.ended p m) = refl

-- a command that names a segment has 17 bytes
settings_long : {f : Bool} {front rest : List ℕ} {os : List Setting} → Stands f front (settings os) rest → names_segment os ≡ true → 17 ≤ length front
settings_long (g.Stands.line bs rest os a s e) h = let l = command_long bs os e h in omega (arith, l)

pub piece_names : {h : Here} {s s1 : State} {item : Item} (front rest : List ℕ) → Stands (c.begins_line h) (map blanked front) item (map blanked rest) → Adds h s item s1
    → 17 * length (names_at (after h front item).segment s1) ≤ 17 * length (names_at h.segment s) + length front
piece_names front rest v c.Adds.none = omega arith
piece_names {h = h} {s = s} front rest v (c.Adds.command {os}) = by (names_segment os) refl
  where
    by : (b : Bool) → names_segment os ≡ b → 17 * length (names_at (segment_after h.segment os) s) ≤ 17 * length (names_at h.segment s) + length front
    by true e =
        let l = settings_long v e in
        let k = length-map front blanked in
        let m = (longer_with (with_names [] s.found) h.segment).0 in
        let n = (longer_with (with_names [] s.found) (segment_after h.segment os)).1 in
        omega (arith, l, k, m, n)
    by false e = let q = ap (λ (n : List ℕ). length (names_at n s)) (same_segment h.segment os e) in omega (arith, q)
piece_names {h = h} front rest v (c.Adds.sign x s1 t) = let q = ap (λ (ms : List (List ℕ)). length ms) (takes_names h t) in omega (arith, q)

cut_names : {h there : Here} {s s2 : State} {text left : List ℕ} → Cut h s text there s2 left
    → 17 * length (names_at there.segment s2) + length left ≤ 17 * length (names_at h.segment s) + length text
cut_names c.Cut.done = omega arith
cut_names (c.Cut.piece front rest left item v a d more) =
    let l = piece_names front rest v d in
    let m = cut_names more in
    let e = length-append front rest in
    omega (arith, l, m, e)

pub few_segments : (unit count : ℕ) (text : List ℕ) (x : Listed) → Cuts unit count text x → 17 * length x.segments ≤ 17 + length text
few_segments unit count text x v =
    let l = cut_names v.cut in
    let e : length x.segments ≡ length (names_at v.there.segment v.state) =
    ap (λ (y : Listed). length y.segments) v.is ∙ ap (λ (ms : List (List ℕ)). length ms) (with_behind [] v.state.found (here v.there stop ∷ [])) in
    omega (arith, l, e)
