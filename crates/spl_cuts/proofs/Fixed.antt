-- What is cut, and a fault, depend on no byte behind the byte that follows them.
-- 1. a piece depends on the first byte of what follows it   (stands_fixed, faulty_fixed)
-- 2. so does what a text is cut into up to a place           (cut_fixed)
-- 3. so a text with the same bytes up to the end of a fault's piece, and one more, has that fault; or it has the byte
--    that is allowed nowhere, which no text has that is cut
use Rattle.std.proofs.Common.{ℕ, suc, ◌≡◌, ◌+◌, ◌-◌, ◌<◌, ◌≤◌, Bool, true, false, List, [], ◌∷◌, ◌++◌, length, map, take, Option, Some, None, refl, sym, ap, subst, ◌∙◌, arith, length-append}
use Rattle.std.specs.Prelude.{◌&&◌, ◌==◌, nat_lt, Result, Ok, Err}
use Rattle.std.specs.List.{list_all}
use Rattle.std.proofs.lemmas.Bool.Decides.{nat_tests}
use Rattle.std.proofs.lemmas.List.{append_assoc}
use Rattle.spl_tree.specs.declared.names_and_places.At.{At}
use Rattle.spl_cuts.specs.declared.faults.LexKind.{LexKind}
use Rattle.spl_cuts.specs.declared.faults.LexKind.TheVariants as k
use Rattle.spl_cuts.specs.Signs.{Listed}
use Rattle.spl_cuts.specs.Bytes.{is_allowed, blanked, is_octal_digit, Stops, begins, Base}
use Rattle.spl_cuts.specs.Pieces as g
use Rattle.spl_cuts.specs.Pieces.{Item, token, Stands, Faulty, Name, Digits, Begins_none, is_longer}
use Rattle.spl_cuts.specs.Defines.{State}
use Rattle.spl_cuts.specs.Cutting as c
use Rattle.spl_cuts.specs.Cutting.{Here, start, fresh, Cut, Fault, FirstFault, Cuts, Passes}
use Rattle.spl_cuts.specs.FaultEnds as e
use Rattle.spl_cuts.specs.FaultEnds.{EndsBehind}
use Rattle.spl_cuts.proofs.Fronts.{some_is}
use Rattle.spl_cuts.proofs.TextReads.{cuts_read, fault_is_read}
use Rattle.spl_cuts.proofs.TextCuts.{cuts_sound}

-- the first byte of a text
abbrev pub first : List ℕ → Option ℕ
first [] = None
first (b ∷ bs) = Some b

first_in : (xs : List ℕ) (y : ℕ) (a b : List ℕ) → first (xs ++ y ∷ a) ≡ first (xs ++ y ∷ b)
first_in [] y a b = refl
first_in (x ∷ xs) y a b = refl

first_behind : (xs a b : List ℕ) → first a ≡ first b → first (xs ++ a) ≡ first (xs ++ b)
first_behind [] a b f = f
first_behind (x ∷ xs) a b f = refl

first_blanked : (a b : List ℕ) → first a ≡ first b → first (map blanked a) ≡ first (map blanked b)
first_blanked [] [] f = refl
first_blanked (x ∷ a) (y ∷ b) f = ap (λ (z : ℕ). Some (blanked z)) (some_is f)
first_blanked [] (y ∷ b) f = cc
first_blanked (x ∷ a) [] f = cc

-- ---- pieces

stops_fixed : (p : ℕ → Bool) (rest other : List ℕ) → Stops p rest → first other ≡ first rest → Stops p other
stops_fixed p rest [] s f = tt
stops_fixed p [] (b ∷ bs) s f = cc
stops_fixed p (d ∷ ds) (b ∷ bs) s f = ap p (some_is f) ∙ s

begins_fixed : (p : ℕ → Bool) (rest other : List ℕ) → first other ≡ first rest → begins p other ≡ begins p rest
begins_fixed p [] [] f = refl
begins_fixed p (d ∷ ds) (b ∷ bs) f = ap p (some_is f)
begins_fixed p [] (b ∷ bs) f = cc
begins_fixed p (d ∷ ds) [] f = cc

longer_fixed : (x : ℕ) (rest other : List ℕ) → first other ≡ first rest → is_longer x other ≡ is_longer x rest
longer_fixed x [] [] f = refl
longer_fixed x (d ∷ ds) (b ∷ bs) f = ap (λ (y : ℕ). is_longer x (y ∷ [])) (some_is f)
longer_fixed x [] (b ∷ bs) f = cc
longer_fixed x (d ∷ ds) [] f = cc

name_fixed : {w rest : List ℕ} → Name w rest → (other : List ℕ) → first other ≡ first rest → Name w other
name_fixed {rest = rest} n other f = record { letter = n.letter; all = n.all; longest = stops_fixed _ rest other n.longest f }

digits_fixed : {base : Base} {ds rest : List ℕ} → Digits base ds rest → (other : List ℕ) → first other ≡ first rest → Digits base ds other
digits_fixed {rest = rest} n other f = record { some = n.some; all = n.all; longest = stops_fixed _ rest other n.longest f }

stands_fixed : {f : Bool} {front : List ℕ} {item : Item} {rest : List ℕ} → Stands f front item rest → (other : List ℕ) → first other ≡ first rest
    → Stands f front item other
stands_fixed (g.Stands.blank rest h) other s = g.Stands.blank other h
stands_fixed (g.Stands.comment body rest v) other s = g.Stands.comment body other v
stands_fixed (g.Stands.comment_word w body rest n v a) other s =
    g.Stands.comment_word w body other (name_fixed n (body ++ 59 ∷ other) (first_in body 59 other rest)) v a
stands_fixed (g.Stands.line bs rest os a l v) other s = g.Stands.line bs other os a (stops_fixed _ rest other l s) v
stands_fixed (g.Stands.name w rest n v l) other s = g.Stands.name w other (name_fixed n other s) v l
stands_fixed (g.Stands.single base ds rest d l v) other s = g.Stands.single base ds other (digits_fixed d other s) (stops_fixed _ rest other l s) v
stands_fixed (g.Stands.double base ds d rest n h l) other s = g.Stands.double base ds d other (digits_fixed n (d ∷ other) refl) h l
stands_fixed (g.Stands.string cs bs rest q l) other s = g.Stands.string cs bs other q (stops_fixed _ rest other l s)
stands_fixed (g.Stands.mark_one b m rest h l) other s = g.Stands.mark_one b m other h (longer_fixed b rest other s ∙ l)
stands_fixed (g.Stands.mark_two b d m rest h) other s = g.Stands.mark_two b d m other h

faulty_fixed : {f : Bool} {front : List ℕ} {kind : LexKind} {rest : List ℕ} → Faulty f front kind rest → (other : List ℕ) → first other ≡ first rest
    → Faulty f front kind other
faulty_fixed (g.Faulty.byte {b} rest n) other s = g.Faulty.byte other (record {
  blank = n.blank;
  line = n.line;
  name = n.name;
  decimal = n.decimal;
  octal = ap (λ (t : Bool). (b == 37) && t) (begins_fixed is_octal_digit rest other s) ∙ n.octal;
  string = n.string;
  mark = n.mark;
})
faulty_fixed (g.Faulty.line bs rest a l v) other s = g.Faulty.line bs other a (stops_fixed _ rest other l s) v
faulty_fixed (g.Faulty.string cs bs rest q l) other s = g.Faulty.string cs bs other q (stops_fixed _ rest other l s)
faulty_fixed (g.Faulty.comment body v) [] s = g.Faulty.comment body v
faulty_fixed (g.Faulty.comment body v) (b ∷ bs) s = cc
faulty_fixed (g.Faulty.comment_word w body n v a) [] s = g.Faulty.comment_word w body n v a
faulty_fixed (g.Faulty.comment_word w body n v a) (b ∷ bs) s = cc
faulty_fixed (g.Faulty.name w rest n l) other s = g.Faulty.name w other (name_fixed n other s) l
faulty_fixed (g.Faulty.single base ds rest d l v) other s = g.Faulty.single base ds other (digits_fixed d other s) (stops_fixed _ rest other l s) v
faulty_fixed (g.Faulty.double base ds d rest n h l) other s = g.Faulty.double base ds d other (digits_fixed n (d ∷ other) refl) h l

-- ---- texts

-- what is cut of a text, whatever follows its next byte
record Fixed (h : Here) (s : State) (text : List ℕ) (there : Here) (s2 : State) (left : List ℕ) : Type 0 where
  pub before : List ℕ
  pub is : text ≡ before ++ left
  pub moved : (other : List ℕ) → first other ≡ first left → Cut h s (before ++ other) there s2 other

cut_fixed : {h there : Here} {s s2 : State} {text left : List ℕ} → Cut h s text there s2 left → Fixed h s text there s2 left
cut_fixed c.Cut.done = record { before = []; is = refl; moved = λ other f. c.Cut.done }
cut_fixed {h = h} {there = there} {s = s} {s2 = s2} (c.Cut.piece front rest left item v a d more) =
    let l = cut_fixed more in
    record {
      before = front ++ l.before;
      is = ap (λ (xs : List ℕ). front ++ xs) l.is ∙ sym (append_assoc front l.before left);
      moved = λ other f.
          subst (λ (xs : List ℕ). Cut h s xs there s2 other) (sym (append_assoc front l.before other))
          (c.Cut.piece front (l.before ++ other) other item
          (stands_fixed v (map blanked (l.before ++ other)) (first_blanked (l.before ++ other) rest (first_behind l.before other left f ∙ ap first (sym l.is)))) a d (l.moved other f));
    }

-- a text that begins as another, up to one byte behind a front of that
begins_so : (front rest other : List ℕ) → take (suc (length front)) other ≡ take (suc (length front)) (front ++ rest)
    → (after : List ℕ) × (other ≡ front ++ after) × (first after ≡ first rest)
begins_so [] [] [] f = ([], refl, refl)
begins_so [] (y ∷ ys) (x ∷ xs) f = (x ∷ xs, refl, cc)
begins_so [] [] (x ∷ xs) f = cc
begins_so [] (y ∷ ys) [] f = cc
begins_so (p ∷ ps) rest [] f = cc
begins_so (p ∷ ps) rest (x ∷ xs) f =
    let t : take (suc (length ps)) xs ≡ take (suc (length ps)) (ps ++ rest) = cc in
    let q : x ≡ p = cc in
    let r = begins_so ps rest xs t in
    (r.0, ap (λ (y : ℕ). y ∷ xs) q ∙ ap (λ (ys : List ℕ). p ∷ ys) r.1, r.2)

-- such a text is cut up to the same place
record Alike (unit : ℕ) (there : Here) (s : State) (front rest other : List ℕ) : Type 0 where
  pub after : List ℕ
  pub same : first after ≡ first rest
  pub cut : Cut (start unit) fresh other there s (front ++ after)

alike_of : {unit : ℕ} {there : Here} {s : State} (before front rest other after : List ℕ)
    → ((o : List ℕ) → first o ≡ first (front ++ rest) → Cut (start unit) fresh (before ++ o) there s o) → other ≡ (before ++ front) ++ after
    → first after ≡ first rest → Alike unit there s front rest other
alike_of {unit} {there} {s} before front rest other after moved is same = record {
  after = after;
  same = same;
  cut =
      let reached : Cut (start unit) fresh (before ++ (front ++ after)) there s (front ++ after) = moved (front ++ after) (first_behind front after rest same) in
      let e : before ++ (front ++ after) ≡ other = sym (append_assoc before front after) ∙ sym is in
      subst (λ (xs : List ℕ). Cut (start unit) fresh xs there s (front ++ after)) e reached;
}

alike : {unit : ℕ} {text : List ℕ} {there : Here} {s : State} (size : ℕ) (front rest : List ℕ) → Cut (start unit) fresh text there s (front ++ rest) → size + length rest ≡ length text
    → (other : List ℕ) → take (size + 1) other ≡ take (size + 1) text → Alike unit there s front rest other
alike {unit} {text} {there} {s} size front rest cut long other same = by (cut_fixed cut).before (cut_fixed cut).is (cut_fixed cut).moved
  where
    by : (before : List ℕ) → text ≡ before ++ (front ++ rest) → ((o : List ℕ) → first o ≡ first (front ++ rest) → Cut (start unit) fresh (before ++ o) there s o)
        → Alike unit there s front rest other
    by before is moved =
        let a = length-append before (front ++ rest) in
        let b = length-append front rest in
        let d = length-append before front in
        let m : length text ≡ length (before ++ (front ++ rest)) = ap (λ (xs : List ℕ). length xs) is in
        let n : size + 1 ≡ suc (length (before ++ front)) = omega (arith, a, b, d, m, long) in
        let all : text ≡ (before ++ front) ++ rest = is ∙ sym (append_assoc before front rest) in
        let f : take (suc (length (before ++ front))) other ≡ take (suc (length (before ++ front))) ((before ++ front) ++ rest) =
        subst (λ (i : ℕ). take i other ≡ take i ((before ++ front) ++ rest)) n (same ∙ ap (take (size + 1)) all) in
        on (begins_so (before ++ front) rest other f)
      where
        on : (after : List ℕ) × (other ≡ (before ++ front) ++ after) × (first after ≡ first rest) → Alike unit there s front rest other
        on r = alike_of before front rest other r.0 moved r.1 r.2

-- ---- bytes that are allowed nowhere

all_append : (p : ℕ → Bool) (xs ys : List ℕ) → list_all p xs ≡ true → list_all p ys ≡ true → list_all p (xs ++ ys) ≡ true
all_append p [] ys a b = b
all_append p (x ∷ xs) ys a b = by (p x) a (all_append p xs ys)
  where
    by : (t : Bool) → (t && list_all p xs) ≡ true → (list_all p xs ≡ true → list_all p ys ≡ true → list_all p (xs ++ ys) ≡ true) → (t && list_all p (xs ++ ys)) ≡ true
    by true a k = k a b
    by false a k = cc

-- a text that is cut has none
cut_allowed : {h there : Here} {s s2 : State} {text left : List ℕ} → Cut h s text there s2 left → left ≡ [] → list_all is_allowed text ≡ true
cut_allowed c.Cut.done f = ap (list_all is_allowed) f
cut_allowed (c.Cut.piece front rest left item v a d more) f = all_append is_allowed front rest a (cut_allowed more f)

not_all : (p : ℕ → Bool) (xs ys : List ℕ) (b : ℕ) → p b ≡ false → list_all p (xs ++ b ∷ ys) ≡ true → ⊥
not_all p [] ys b f a = by (p b) f a
  where
    by : (t : Bool) → t ≡ false → (t && list_all p ys) ≡ true → ⊥
    by true f a = cc
    by false f a = cc
not_all p (x ∷ xs) ys b f a = by (p x) a (not_all p xs ys b f)
  where
    by : (t : Bool) → (t && list_all p (xs ++ b ∷ ys)) ≡ true → (list_all p (xs ++ b ∷ ys) ≡ true → ⊥) → ⊥
    by true a k = k a
    by false a k = cc

-- a text that is cut up to such a byte has it
has_byte : {unit : ℕ} {there : Here} {s : State} (good after other : List ℕ) (b : ℕ) → Cut (start unit) fresh other there s ((good ++ b ∷ []) ++ after)
    → is_allowed b ≡ false → list_all is_allowed other ≡ true → ⊥
has_byte good after other b cut na a = by (cut_fixed cut).before (cut_fixed cut).is
  where
    by : (before : List ℕ) → other ≡ before ++ ((good ++ b ∷ []) ++ after) → ⊥
    by before is = not_all is_allowed (before ++ good) after b na (ap (list_all is_allowed) (sym e) ∙ a)
      where
        front : before ++ ((good ++ b ∷ []) ++ after) ≡ before ++ (good ++ b ∷ after)
        front = ap (λ (xs : List ℕ). before ++ xs) (append_assoc good (b ∷ []) after)

        e : other ≡ (before ++ good) ++ b ∷ after
        e = is ∙ front ∙ sym (append_assoc before good (b ∷ after))

-- ---- the laws

-- a text with a faulty piece is not cut
spoilt : {unit n : ℕ} {other left : List ℕ} {there : Here} {s : State} {kind : LexKind} {at : At} {x : Listed} {A : Type 0}
    → Cut (start unit) fresh other there s left → Fault there s left kind at → Cuts unit n other x → A
spoilt {unit} {n} {other} {left} {there} {s} {kind} {at} {x} cut f v =
    absurd (cuts_sound unit n s.count other x kind at v (record { there = there; state = s; left = left; cut = cut; counted = refl; fault = f }))

-- where too many tokens arise, no fewer do
too_many : {unit limit n : ℕ} {other : List ℕ} {at : At} {x : Listed} → Passes unit limit other at → Cuts unit n other x → limit < n
too_many {unit} {limit} {n} {other} {at} {x} p v = by (nat_lt limit n) refl
  where
    by : (b : Bool) → nat_lt limit n ≡ b → limit < n
    by true l = grind (arith, nat_tests, l)
    by false l =
        let few : n ≤ limit = grind (arith, nat_tests, l) in
        let e : Path (Result Listed (LexKind × At)) (Ok x) (Err (k.TooManyTokens, at)) =
        sym (cuts_read unit limit other x (record { count = n; cuts = v; few = few })) ∙ fault_is_read unit limit other k.TooManyTokens at (c.FirstFault.many p) in cc

pub faults_stand : (unit limit : ℕ) (text : List ℕ) (kind : LexKind) (at : At) (size : ℕ) → EndsBehind unit limit text kind at size
    → (other : List ℕ) → take (size + 1) other ≡ take (size + 1) text → (count : ℕ) (x : Listed) → Cuts unit count other x
    → (kind ≡ k.TooManyTokens) × (limit < count)
faults_stand unit limit text _ _ _ (e.EndsBehind.piece {there} {s} front rest kind size cut few v long) other same n x w =
    let a = alike size front rest cut long other same in
    spoilt a.cut (c.Fault.piece front a.after kind (faulty_fixed v (map blanked a.after) (first_blanked a.after rest a.same))) w
faults_stand unit limit text _ _ _ (e.EndsBehind.breaking {there} {s} front rest y size cut few v al b long) other same n x w =
    let a = alike size front rest cut long other same in
    spoilt a.cut (c.Fault.breaking front a.after y (stands_fixed v (map blanked a.after) (first_blanked a.after rest a.same)) al b) w
faults_stand unit limit text _ _ _ (e.EndsBehind.end {there} {s} cut few o) other same n x w =
    let a = alike (length text) [] [] cut (omega arith) other same in
    let none : a.after ≡ [] = no_more a.after a.same in
    spoilt (subst (λ (xs : List ℕ). Cut (start unit) fresh other there s xs) none a.cut) (c.Fault.end o) w
  where
    no_more : (xs : List ℕ) → first xs ≡ None → xs ≡ []
    no_more [] f = refl
    no_more (b ∷ bs) f = cc
faults_stand unit limit text _ _ _ (e.EndsBehind.byte {there} {s} good more rest b item size cut few v al na long) other same n x w =
    let m = length-append more rest in
    let split = append_assoc good (b ∷ more) rest ∙ sym (append_assoc good (b ∷ []) (more ++ rest)) in
    let a = alike size (good ++ b ∷ []) (more ++ rest) (subst (λ (xs : List ℕ). Cut (start unit) fresh text there s xs) split cut) (omega (arith, m, long)) other same in
    absurd (has_byte good a.after other b a.cut na (cut_allowed w.cut refl))
faults_stand unit limit text _ _ _ (e.EndsBehind.many {there} {s} {next} front rest y size cut few v al t m long) other same n x w =
    let a = alike size front rest cut long other same in (
      refl,
      too_many (record {
        there = there;
        state = s;
        next = next;
        front = front;
        rest = a.after;
        what = y;
        cut = a.cut;
        few = few;
        stands = stands_fixed v (map blanked a.after) (first_blanked a.after rest a.same);
        allowed = al;
        takes = t;
        many = m;
        is = refl;
      }) w,
    )

-- how many bytes there are up to the end of a fault's piece
left_within : {unit : ℕ} {text left : List ℕ} {there : Here} {s : State} → Cut (start unit) fresh text there s left → length left ≤ length text
left_within {left = left} cut =
    let l = cut_fixed cut in
    let a = length-append l.before left in
    let m = ap (λ (xs : List ℕ). length xs) l.is in
    omega (arith, a, m)

end_of : {unit limit : ℕ} {text left : List ℕ} {there : Here} {s : State} {kind : LexKind} {at : At} → Cut (start unit) fresh text there s left → s.count ≤ limit
    → Fault there s left kind at → (size : ℕ) × EndsBehind unit limit text kind at size
end_of {text = text} cut few (c.Fault.piece front rest kind v) =
    let l = left_within cut in
    let a = length-append front rest in
    (length text - length rest, e.EndsBehind.piece front rest kind (length text - length rest) cut few v (omega (arith, l, a)))
end_of {text = text} cut few (c.Fault.byte good more rest b item v al na) =
    let l = left_within cut in
    let a = length-append (good ++ b ∷ more) rest in
    let d = length-append good (b ∷ more) in
    let n = length text - (length more + length rest) in
    (n, e.EndsBehind.byte good more rest b item n cut few v al na (omega (arith, l, a, d)))
end_of {text = text} cut few (c.Fault.breaking front rest x v al b) =
    let l = left_within cut in
    let a = length-append front rest in
    (length text - length rest, e.EndsBehind.breaking front rest x (length text - length rest) cut few v al b (omega (arith, l, a)))
end_of {text = text} cut few (c.Fault.end o) = (length text, e.EndsBehind.end cut few o)

pub faults_end : (unit limit : ℕ) (text : List ℕ) (kind : LexKind) (at : At) → FirstFault unit limit text kind at → (size : ℕ) × EndsBehind unit limit text kind at size
faults_end unit limit text kind at (c.FirstFault.bad count v l) = end_of v.cut (let q = v.counted in omega (arith, l, q)) v.fault
faults_end unit limit text _ at (c.FirstFault.many v) =
    let l = left_within v.cut in
    let a = length-append v.front v.rest in
    let n = length text - length v.rest in (
      n,
      subst (λ (p : At). EndsBehind unit limit text k.TooManyTokens p n) (sym v.is)
          (e.EndsBehind.many v.front v.rest v.what n v.cut v.few v.stands v.allowed v.takes v.many (omega (arith, l, a))),
    )

-- a fault whose piece ends somewhere is a first one
pub ends_first : (unit limit : ℕ) (text : List ℕ) (kind : LexKind) (at : At) (size : ℕ) → EndsBehind unit limit text kind at size
    → FirstFault unit limit text kind at
ends_first unit limit text _ _ _ (e.EndsBehind.piece {there} {s} front rest kind size cut few v long) =
    c.FirstFault.bad s.count (record { there = there; state = s; left = front ++ rest; cut = cut; counted = refl; fault = c.Fault.piece front rest kind v }) few
ends_first unit limit text _ _ _ (e.EndsBehind.byte {there} {s} good more rest b item size cut few v al na long) =
    c.FirstFault.bad s.count (record {
      there = there;
      state = s;
      left = (good ++ b ∷ more) ++ rest;
      cut = cut;
      counted = refl;
      fault = c.Fault.byte good more rest b item v al na;
    }) few
ends_first unit limit text _ _ _ (e.EndsBehind.breaking {there} {s} front rest x size cut few v al b long) =
    c.FirstFault.bad s.count (record { there = there; state = s; left = front ++ rest; cut = cut; counted = refl; fault = c.Fault.breaking front rest x v al b }) few
ends_first unit limit text _ _ _ (e.EndsBehind.end {there} {s} cut few o) =
    c.FirstFault.bad s.count (record { there = there; state = s; left = []; cut = cut; counted = refl; fault = c.Fault.end o }) few
ends_first unit limit text _ _ _ (e.EndsBehind.many {there} {s} {next} front rest x size cut few v al t m long) =
    c.FirstFault.many (record {
      there = there;
      state = s;
      next = next;
      front = front;
      rest = rest;
      what = x;
      cut = cut;
      few = few;
      stands = v;
      allowed = al;
      takes = t;
      many = m;
      is = refl;
    })
