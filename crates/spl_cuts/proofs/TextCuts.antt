-- What is read of a text is what it is cut into, or its first fault; so both are the only ones.
use Rattle.std.proofs.Common.{ℕ, zero, suc, ◌≡◌, ◌+◌, ◌-◌, ◌<◌, ◌≤◌, Bool, true, false, List, [], ◌∷◌, ◌++◌, take, drop, Option, refl, sym, ap, subst, ◌∙◌, arith}
use Rattle.std.specs.Prelude.{nat_lt, Result, Ok, Err, if◌then◌else◌}
use Rattle.std.specs.List.{list_all}
use Rattle.std.proofs.lemmas.Bool.Decides.{nat_tests}
use Rattle.std.proofs.lemmas.List.{append_assoc}
use Rattle.spl_tree.specs.declared.names_and_places.At.{At}
use Rattle.spl_cuts.specs.declared.faults.LexKind.{LexKind}
use Rattle.spl_cuts.specs.declared.faults.LexKind.TheVariants as k
use Rattle.spl_cuts.specs.Signs.{Sign, Listed}
use Rattle.spl_cuts.specs.Bytes.{is_allowed, past_all}
use Rattle.spl_cuts.specs.Pieces.{Item, nothing, token, settings}
use Rattle.spl_cuts.specs.Defines.{State, Takes, Breaks, is_outside}
use Rattle.spl_cuts.specs.Cutting as c
use Rattle.spl_cuts.specs.Cutting.{Here, here, after, begins_line, start, fresh, listed, Adds, StandsBlanked, Cut, Fault, Cuts, Bad, Passes, CutsWithin, FirstFault}
use Rattle.spl_cuts.specs.Reading.{fed, limited, added, finished, continued, Turn, turned, turn, read, read_text}
use Rattle.spl_cuts.proofs.Fronts.{taken_front, left_rest}
use Rattle.spl_cuts.proofs.DefineReads as d
use Rattle.spl_cuts.proofs.DefineReads.{Fed, fed_told}
use Rattle.spl_cuts.proofs.Turns as t
use Rattle.spl_cuts.proofs.Turns.{Turned, turn_told}
use Rattle.spl_cuts.proofs.TextReads.{cuts_read, fault_is_read}

-- what an answer says of a text that begins here behind what was found
data Explains (limit : ℕ) (h : Here) (s : State) (text : List ℕ) : Result Listed (LexKind × At) → Type 0 where
  got : (there : Here) (s2 : State) → Cut h s text there s2 [] → is_outside s2.phase ≡ true → s2.count ≤ limit → Explains limit h s text (Ok (listed there s2))
  bad : {kind : LexKind} {at : At} (there : Here) (s2 : State) (left : List ℕ) → Cut h s text there s2 left → s2.count ≤ limit → Fault there s2 left kind at
      → Explains limit h s text (Err (kind, at))
  many : (there : Here) (s2 s3 : State) (front rest : List ℕ) (x : Sign) → Cut h s text there s2 (front ++ rest) → s2.count ≤ limit → StandsBlanked there front (token x) rest
      → list_all is_allowed front ≡ true → Takes s2 (here there x) s3 → limit < s3.count → Explains limit h s text (Err (k.TooManyTokens, there.at))

-- behind a piece
explains_on : (limit : ℕ) (h : Here) (s s1 : State) (item : Item) (front rest : List ℕ) (r : Result Listed (LexKind × At)) → StandsBlanked h front item rest → list_all is_allowed front ≡ true
    → Adds h s item s1 → Explains limit (after h front item) s1 rest r → Explains limit h s (front ++ rest) r
explains_on limit h s s1 item front rest _ v a d (Explains.got there s2 cut o l) = Explains.got there s2 (c.Cut.piece front rest [] item v a d cut) o l
explains_on limit h s s1 item front rest _ v a d (Explains.bad there s2 left cut l f) = Explains.bad there s2 left (c.Cut.piece front rest left item v a d cut) l f
explains_on limit h s s1 item front rest _ v a d (Explains.many there s2 s3 f r x cut l st al tk m) =
    Explains.many there s2 s3 f r x (c.Cut.piece front rest (f ++ r) item v a d cut) l st al tk m

-- what the item of a piece comes to
data Added (limit : ℕ) (h : Here) (s : State) (item : Item) : Result State LexKind → Type 0 where
  adds : (s1 : State) → Adds h s item s1 → s1.count ≤ limit → Added limit h s item (Ok s1)
  breaks : (x : Sign) → item ≡ token x → Breaks s (here h x) → Added limit h s item (Err k.BadDefine)
  passes : (x : Sign) (s1 : State) → item ≡ token x → Takes s (here h x) s1 → limit < s1.count → Added limit h s item (Err k.TooManyTokens)

fed_added : (limit : ℕ) (h : Here) (s : State) (x : Sign) (o : Option State) → Fed s (here h x) o → Added limit h s (token x) (limited limit o)
unfolding limited
fed_added limit h s x _ (d.Fed.takes {s1} v) = by (nat_lt limit s1.count) refl
  where
    by : (b : Bool) → nat_lt limit s1.count ≡ b → Added limit h s (token x) (if b then Err k.TooManyTokens else Ok s1)
    by true l = Added.passes x s1 refl v (grind (arith, nat_tests, l))
    by false l = Added.adds s1 (c.Adds.sign x s1 v) (grind (arith, nat_tests, l))
fed_added limit h s x _ (d.Fed.breaks v) = Added.breaks x refl v

added_told : (limit : ℕ) (h : Here) (s : State) (item : Item) → s.count ≤ limit → Added limit h s item (added limit h s item)
unfolding added
added_told limit h s nothing l = Added.adds s c.Adds.none l
added_told limit h s (settings os) l = Added.adds s c.Adds.command l
added_told limit h s (token x) l = fed_added limit h s x (fed s (here h x)) (fed_told s (here h x))

-- a piece and what its item comes to, where what follows is explained
piece_told : (limit : ℕ) (h : Here) (s : State) (item : Item) (front rest : List ℕ) (r : Result State LexKind) (next : State → Result Listed (LexKind × At))
    → StandsBlanked h front item rest → list_all is_allowed front ≡ true → s.count ≤ limit
    → Added limit h s item r → ((s1 : State) → s1.count ≤ limit → Explains limit (after h front item) s1 rest (next s1))
    → Explains limit h s (front ++ rest) (continued h r next)
unfolding continued
piece_told limit h s item front rest _ next v a few (Added.adds s1 ad l) go_on = explains_on limit h s s1 item front rest (next s1) v a ad (go_on s1 l)
piece_told limit h s item front rest _ next v a few (Added.breaks x e b) go_on =
    Explains.bad h s (front ++ rest) c.Cut.done few (c.Fault.breaking front rest x (subst (λ (i : Item). StandsBlanked h front i rest) e v) a b)
piece_told limit h s item front rest _ next v a few (Added.passes x s1 e tk m) go_on =
    Explains.many h s s1 front rest x c.Cut.done few (subst (λ (i : Item). StandsBlanked h front i rest) e v) a tk m

-- the end of the text
ended_told : (limit : ℕ) (h : Here) (s : State) → s.count ≤ limit → Explains limit h s [] (finished h s)
unfolding finished
ended_told limit h s few = by (is_outside s.phase) refl
  where
    by : (b : Bool) → is_outside s.phase ≡ b → Explains limit h s [] (if b then Ok (listed h s) else Err (k.BadDefine, h.at))
    by true e = Explains.got h s c.Cut.done e few
    by false e = Explains.bad h s [] c.Cut.done few (c.Fault.end e)

-- a turn at a text, where what follows is explained
turn_explained : (limit : ℕ) (h : Here) (s : State) (b : ℕ) (bs : List ℕ) (o : Turn) → s.count ≤ limit → Turned (begins_line h) (b ∷ bs) o
    → ((m : ℕ) (there : Here) (s1 : State) → s1.count ≤ limit → Explains limit there s1 (drop m bs) (read limit m there s1 bs))
    → Explains limit h s (b ∷ bs) (turned limit h s (b ∷ bs) o (λ m there s1. read limit m there s1 bs))
unfolding turned
turn_explained limit h s b bs _ few (t.Turned.goes {item} n front rest is e long v a) next =
    let f : take n (b ∷ bs) ≡ front = taken_front n front rest (b ∷ bs) e is in
    let r : drop (n - 1) bs ≡ rest = behind n long ∙ left_rest n front rest (b ∷ bs) e is in
    subst (λ (xs : List ℕ). Explains limit h s xs (continued h (added limit h s item) (λ s1. read limit (n - 1) (after h (take n (b ∷ bs)) item) s1 bs))) is
    (piece_told limit h s item front rest (added limit h s item) (λ s1. read limit (n - 1) (after h (take n (b ∷ bs)) item) s1 bs) v a few (added_told limit h s item few)
    (λ s1 l. subst (λ (xs : List ℕ). Explains limit (after h xs item) s1 rest (read limit (n - 1) (after h (take n (b ∷ bs)) item) s1 bs)) f
    (subst (λ (xs : List ℕ). Explains limit (after h (take n (b ∷ bs)) item) s1 xs (read limit (n - 1) (after h (take n (b ∷ bs)) item) s1 bs)) r
    (next (n - 1) (after h (take n (b ∷ bs)) item) s1 l))))
  where
    behind : (n : ℕ) → 0 < n → drop (n - 1) bs ≡ drop n (b ∷ bs)
    behind zero l = absurd (omega (arith, l))
    behind (suc m) l = let e : suc m - 1 ≡ m = omega arith in ap (λ (i : ℕ). drop i bs) e
turn_explained limit h s b bs _ few (t.Turned.finds {item} n good more rest x is e v a na) next =
    let f : take n (b ∷ bs) ≡ good = taken_front n good (x ∷ more ++ rest) (b ∷ bs) e (sym (append_assoc good (x ∷ more) rest) ∙ is) in
    subst (λ (xs : List ℕ). Explains limit h s (b ∷ bs) (Err (k.BadByte, past_all h.at xs))) (sym f)
    (subst (λ (xs : List ℕ). Explains limit h s xs (Err (k.BadByte, past_all h.at good))) is
    (Explains.bad h s ((good ++ x ∷ more) ++ rest) c.Cut.done few (c.Fault.byte good more rest x item v a na)))
turn_explained limit h s b bs _ few (t.Turned.fails {kind} front rest is v) next =
    subst (λ (xs : List ℕ). Explains limit h s xs (Err (kind, h.at))) is (Explains.bad h s (front ++ rest) c.Cut.done few (c.Fault.piece front rest kind v))

read_told : (limit n : ℕ) (h : Here) (s : State) (text : List ℕ) → s.count ≤ limit → Explains limit h s (drop n text) (read limit n h s text)
unfolding read
read_told limit zero h s [] few = ended_told limit h s few
read_told limit (suc n) h s [] few = ended_told limit h s few
read_told limit (suc n) h s (b ∷ bs) few = read_told limit n h s bs few
read_told limit zero h s (b ∷ bs) few =
    turn_explained limit h s b bs (turn (begins_line h) (b ∷ bs)) few (turn_told (begins_line h) b bs) (λ m there s1 l. read_told limit m there s1 bs l)

text_told : (unit limit : ℕ) (text : List ℕ) → Explains limit (start unit) fresh text (read_text unit limit text)
unfolding read_text
text_told unit limit text = read_told limit 0 (start unit) fresh text (omega arith)

-- ---- what an answer is

value_of : {A B : Type 0} → A → Result A B → A
value_of d (Ok x) = x
value_of d (Err e) = d

error_of : {A B : Type 0} → B → Result A B → B
error_of d (Ok x) = d
error_of d (Err e) = e

ok_is : {A B : Type 0} {x y : A} → Path (Result A B) (Ok x) (Ok y) → x ≡ y
unfolding value_of
ok_is {x = x} e = ap (value_of x) e

err_is : {A B : Type 0} {x y : B} → Path (Result A B) (Err x) (Err y) → x ≡ y
unfolding error_of
err_is {x = x} e = ap (error_of x) e

-- ---- the laws

cuts_of : (unit limit : ℕ) (text : List ℕ) (x : Listed) (r : Result Listed (LexKind × At)) → r ≡ Ok x → Explains limit (start unit) fresh text r → CutsWithin unit limit text x
cuts_of unit limit text x _ e (Explains.got there s2 cut o l) =
    record { count = s2.count; cuts = record { there = there; state = s2; cut = cut; closed = o; counted = refl; is = sym (ok_is e) }; few = l }
cuts_of unit limit text x _ e (Explains.bad there s2 left cut l f) = cc
cuts_of unit limit text x _ e (Explains.many there s2 s3 front rest y cut l v a tk m) = cc

pub texts_cut : (unit limit : ℕ) (text : List ℕ) (x : Listed) → read_text unit limit text ≡ Ok x → CutsWithin unit limit text x
texts_cut unit limit text x e = cuts_of unit limit text x (read_text unit limit text) e (text_told unit limit text)

fault_of : (unit limit : ℕ) (text : List ℕ) (p : LexKind × At) (r : Result Listed (LexKind × At)) → r ≡ Err p → Explains limit (start unit) fresh text r
    → FirstFault unit limit text p.0 p.1
fault_of unit limit text p _ e (Explains.got there s2 cut o l) = cc
fault_of unit limit text p _ e (Explains.bad {kind} {at} there s2 left cut l f) =
    let q : (kind, at) ≡ p = err_is e in
    subst (λ (p : LexKind × At). FirstFault unit limit text p.0 p.1) q
    (c.FirstFault.bad s2.count (record { there = there; state = s2; left = left; cut = cut; counted = refl; fault = f }) l)
fault_of unit limit text p _ e (Explains.many there s2 s3 front rest y cut l v a tk m) =
    let q : (k.TooManyTokens, there.at) ≡ p = err_is e in
    subst (λ (p : LexKind × At). FirstFault unit limit text p.0 p.1) q
    (c.FirstFault.many (record {
      there = there;
      state = s2;
      next = s3;
      front = front;
      rest = rest;
      what = y;
      cut = cut;
      few = l;
      stands = v;
      allowed = a;
      takes = tk;
      many = m;
      is = refl;
    }))

pub faults_first : (unit limit : ℕ) (text : List ℕ) (kind : LexKind) (at : At) → read_text unit limit text ≡ Err (kind, at) → FirstFault unit limit text kind at
faults_first unit limit text kind at e = fault_of unit limit text (kind, at) (read_text unit limit text) e (text_told unit limit text)

-- with room for all tokens of both cuts
room : (unit m n : ℕ) (text : List ℕ) (x : Listed) → Cuts unit m text x → m ≤ n → read_text unit n text ≡ Ok x
room unit m n text x v l = cuts_read unit n text x (record { count = m; cuts = v; few = l })

bad_room : (unit m n : ℕ) (text : List ℕ) (kind : LexKind) (at : At) → Bad unit m text kind at → m ≤ n → read_text unit n text ≡ Err (kind, at)
bad_room unit m n text kind at v l = fault_is_read unit n text kind at (c.FirstFault.bad m v l)

pub cuts_unique : (unit m n : ℕ) (text : List ℕ) (x y : Listed) → Cuts unit m text x → Cuts unit n text y → x ≡ y
cuts_unique unit m n text x y v w = ok_is (sym (room unit m (m + n) text x v (omega arith)) ∙ room unit n (m + n) text y w (omega arith))

pub cuts_sound : (unit m n : ℕ) (text : List ℕ) (x : Listed) (kind : LexKind) (at : At) → Cuts unit m text x → Bad unit n text kind at → ⊥
cuts_sound unit m n text x kind at v w =
    let e : Path (Result Listed (LexKind × At)) (Ok x) (Err (kind, at)) = sym (room unit m (m + n) text x v (omega arith)) ∙ bad_room unit n (m + n) text kind at w (omega arith) in cc

pair_is : {kind other : LexKind} {at there : At} → Path (LexKind × At) (kind, at) (other, there) → (kind ≡ other) × (at ≡ there)
pair_is e = (ap (λ (p : LexKind × At). p.0) e, ap (λ (p : LexKind × At). p.1) e)

pub bad_unique : (unit m n : ℕ) (text : List ℕ) (kind other : LexKind) (at there : At) → Bad unit m text kind at → Bad unit n text other there → (kind ≡ other) × (at ≡ there)
bad_unique unit m n text kind other at there v w =
    pair_is (err_is (sym (bad_room unit m (m + n) text kind at v (omega arith)) ∙ bad_room unit n (m + n) text other there w (omega arith)))

pub faults_unique : (unit limit : ℕ) (text : List ℕ) (kind other : LexKind) (at there : At) → FirstFault unit limit text kind at → FirstFault unit limit text other there
    → (kind ≡ other) × (at ≡ there)
faults_unique unit limit text kind other at there v w =
    pair_is (err_is (sym (fault_is_read unit limit text kind at v) ∙ fault_is_read unit limit text other there w))
