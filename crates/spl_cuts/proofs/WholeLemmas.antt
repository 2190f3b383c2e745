-- The list that a text is cut into ends with its only end, and each token has the unit and a segment of the list.
-- 1. a piece gives no end, so no token and no DEFINE has one      (takes_plain)
-- 2. places stay in the unit                                       (cut_plain)
-- 3. each token's segment is among the names of all               (all_named)
use Rattle.std.proofs.Common.{◌≡◌, ℕ, suc, ◌+◌, ◌<◌, ◌≤◌, Bool, true, false, List, [], ◌∷◌, ◌++◌, length, map, nat_eq, Some, refl, sym, subst, ◌∙◌, arith, length-append}
use Rattle.std.specs.Prelude.{◌||◌, ◌==◌, if◌then◌else◌}
use Rattle.std.proofs.lemmas.List.{length-map}
use lib.Pointwise.{pointwise}
use Rattle.spl_tree.specs.declared.names_and_places.At.{At}
use Rattle.spl_cuts.specs.Signs.{Sign, word, number, wide, chars, mark, stop, Found, Listed}
use Rattle.spl_cuts.specs.Bytes.{past, past_all}
use Rattle.spl_cuts.specs.Pieces as g
use Rattle.spl_cuts.specs.Pieces.{Item, nothing, token, settings, Stands}
use Rattle.spl_cuts.specs.Defines as d
use Rattle.spl_cuts.specs.Defines.{Define, Phase, State, defined, use_of, at_use, Takes}
use Rattle.spl_cuts.specs.Cutting as c
use Rattle.spl_cuts.specs.Cutting.{Here, here, after, start, fresh, has_name, with_name, with_names, number_of, placed, Adds, Cut, CutsWithin}
use Rattle.spl_cuts.proofs.Fronts.{some_is}
use Rattle.spl_cuts.proofs.FewSegments.{has_with}
use Rattle.spl_cuts.specs.Whole as w
use Rattle.spl_cuts.specs.Whole.{is_end, IsIn, Ends, IsWhole}

-- ---- numbers of names

-- a name that is there has a number of theirs
pub has_number : (ns : List (List ℕ)) (n : List ℕ) → has_name ns n ≡ true → number_of ns n < length ns
has_number [] n h = cc
has_number (m ∷ ns) n h = by (pointwise nat_eq n m) h (λ k. has_number ns n k)
  where
    by : (b : Bool) → (b || has_name ns n) ≡ true → (has_name ns n ≡ true → number_of ns n < length ns)
        → (if b then 0 else number_of ns n + 1) < suc (length ns)
    by true h k = omega arith
    by false h k = let l = k h in omega (arith, l)

-- ---- no end

abbrev NoEnd : List Sign → Type 0
NoEnd [] = Unit {0}
NoEnd (x ∷ xs) = (is_end x ≡ false) × NoEnd xs

abbrev NoEnds : List Define → Type 0
NoEnds [] = Unit {0}
NoEnds (x ∷ xs) = NoEnd x.signs × NoEnds xs

abbrev Open : Phase → Type 0
Open (Phase.inside n ks) = NoEnd ks
Open _ = Unit {0}

-- tokens of a unit before its end
abbrev Plain : ℕ → List Found → Type 0
Plain u [] = Unit {0}
Plain u (f ∷ fs) = (is_end f.what ≡ false) × (f.at.unit ≡ u) × Plain u fs

-- what holds of each state
record Keeps (u : ℕ) (s : State) : Type 0 where
  found : Plain u s.found
  defines : NoEnds s.defines
  phase : Open s.phase
  few : length s.found ≤ s.count

no_end_append : (xs ys : List Sign) → NoEnd xs → NoEnd ys → NoEnd (xs ++ ys)
no_end_append [] ys a b = b
no_end_append (x ∷ xs) ys a b = (a.0, no_end_append xs ys a.1 b)

no_ends_push : (xs : List Define) (y : Define) → NoEnds xs → NoEnd y.signs → NoEnds (xs ++ y ∷ [])
no_ends_push [] y a b = (b, tt)
no_ends_push (x ∷ xs) y a b = (a.0, no_ends_push xs y a.1 b)

plain_append : (u : ℕ) (xs ys : List Found) → Plain u xs → Plain u ys → Plain u (xs ++ ys)
plain_append u [] ys a b = b
plain_append u (x ∷ xs) ys a b = (a.0, a.1, plain_append u xs ys a.2 b)

plain_use : (u : ℕ) (t : Found) (xs : List Sign) → t.at.unit ≡ u → NoEnd xs → Plain u (at_use t xs)
plain_use u t [] e a = tt
plain_use u t (x ∷ xs) e a = (a.0, e, plain_use u t xs e a.1)

length_use : (t : Found) (xs : List Sign) → length (at_use t xs) ≡ length xs
length_use t [] = refl
length_use t (x ∷ xs) = let e = length_use t xs in omega (arith, e)

defined_plain : (n : List ℕ) (ds : List Define) (xs : List Sign) → NoEnds ds → defined n ds ≡ Some xs → NoEnd xs
defined_plain n [] xs a e = cc
defined_plain n (y ∷ ds) xs a e = by (pointwise nat_eq n y.name) e (defined_plain n ds xs a.1)
  where
    by : (b : Bool) → (if b then Some y.signs else defined n ds) ≡ Some xs → (defined n ds ≡ Some xs → NoEnd xs)
        → NoEnd xs
    by true e k = subst NoEnd (some_is e) a.0
    by false e k = k e

use_plain : (ds : List Define) (x : Sign) (xs : List Sign) → NoEnds ds → use_of ds x ≡ Some xs → NoEnd xs
use_plain ds (word n) xs a e = defined_plain n ds xs a e
use_plain ds (number n) xs a e = cc
use_plain ds (wide n) xs a e = cc
use_plain ds (chars cs) xs a e = cc
use_plain ds (mark m) xs a e = cc
use_plain ds stop xs a e = cc

takes_plain : (u : ℕ) {s s1 : State} {t : Found} → Takes s t s1 → is_end t.what ≡ false → t.at.unit ≡ u → Keeps u s
    → Keeps u s1
takes_plain u {s = s} {t = t} (d.Takes.listed p a o) e f k =
    let l = k.few in
    let m = length-append s.found (t ∷ []) in
    record { found = plain_append u s.found (t ∷ []) k.found (e, f, tt); defines = k.defines; phase = k.phase; few = omega (arith, l, m) }
takes_plain u {s = s} {t = t} (d.Takes.used xs p a o) e f k =
    let l = k.few in
    let m = length-append s.found (at_use t xs) in
    let n = length_use t xs in
    record {
      found = plain_append u s.found (at_use t xs) k.found (plain_use u t xs f (use_plain s.defines t.what xs k.defines o));
      defines = k.defines;
      phase = k.phase;
      few = omega (arith, l, m, n);
    }
takes_plain u (d.Takes.begun p a) e f k = record { found = k.found; defines = k.defines; phase = tt; few = k.few }
takes_plain u (d.Takes.named n p a i) e f k = record { found = k.found; defines = k.defines; phase = tt; few = k.few }
takes_plain u (d.Takes.opened n p a) e f k = record { found = k.found; defines = k.defines; phase = tt; few = k.few }
takes_plain u {s = s} {t = t} (d.Takes.kept n ks p a b o) e f k =
    let l = k.few in
    record { found = k.found; defines = k.defines; phase = no_end_append ks (t.what ∷ []) (subst Open p k.phase) (e, tt); few = omega (arith, l) }
takes_plain u {s = s} {t = t} (d.Takes.kept_use n ks xs p a b o) e f k =
    let l = k.few in
    record {
      found = k.found;
      defines = k.defines;
      phase = no_end_append ks xs (subst Open p k.phase) (use_plain s.defines t.what xs k.defines o);
      few = omega (arith, l);
    }
takes_plain u {s = s} (d.Takes.defined_so n ks p a) e f k =
    record { found = k.found; defines = no_ends_push s.defines (record { name = n; signs = ks }) k.defines (subst Open p k.phase); phase = tt; few = k.few }
takes_plain u (d.Takes.next p a) e f k = record { found = k.found; defines = k.defines; phase = tt; few = k.few }
takes_plain u (d.Takes.ended p a) e f k = record { found = k.found; defines = k.defines; phase = tt; few = k.few }

stands_plain : {f : Bool} {front : List ℕ} {x : Sign} {rest : List ℕ} → Stands f front (token x) rest → is_end x ≡ false
stands_plain (g.Stands.name w rest n a l) = refl
stands_plain (g.Stands.single base ds rest n s l) = refl
stands_plain (g.Stands.double base ds b rest n s l) = refl
stands_plain (g.Stands.string cs bs rest q s) = refl
stands_plain (g.Stands.mark_one b m rest h l) = refl
stands_plain (g.Stands.mark_two b a m rest h) = refl

-- ---- places

past_unit : (at : At) (b : ℕ) → (past at b).unit ≡ at.unit
past_unit at b = by (b == 10)
  where
    by : (x : Bool)
        → (if x then record at { line = at.line + 1; column = 1 } else record at { column = at.column + 1 }).unit ≡ at.unit
    by true = refl
    by false = refl

past_all_unit : (at : At) (bs : List ℕ) → (past_all at bs).unit ≡ at.unit
past_all_unit at [] = refl
past_all_unit at (b ∷ bs) = past_all_unit (past at b) bs ∙ past_unit at b

after_unit : (h : Here) (front : List ℕ) (item : Item) → (after h front item).at.unit ≡ h.at.unit
after_unit h front nothing = past_all_unit h.at front
after_unit h front (token x) = past_all_unit h.at front
after_unit h front (settings os) = past_all_unit h.at front

adds_plain : (u : ℕ) {h : Here} {s s1 : State} {item : Item} {front rest : List ℕ}
    → Stands (c.begins_line h) front item rest → Adds h s item s1 → h.at.unit ≡ u
    → Keeps u s → Keeps u s1
adds_plain u v c.Adds.none f k = k
adds_plain u v c.Adds.command f k = k
adds_plain u v (c.Adds.sign x s1 a) f k = takes_plain u a (stands_plain v) f k

cut_plain : (u : ℕ) {h there : Here} {s s2 : State} {text left : List ℕ} → Cut h s text there s2 left → h.at.unit ≡ u
    → Keeps u s → Keeps u s2 × (there.at.unit ≡ u)
cut_plain u c.Cut.done f k = (k, f)
cut_plain u {h = h} (c.Cut.piece front rest left item v a b more) f k = cut_plain u more (after_unit h front item ∙ f) (adds_plain u v b f k)

-- ---- segments

has_append : (ms : List (List ℕ)) (m n : List ℕ) → has_name ms n ≡ true → has_name (ms ++ m ∷ []) n ≡ true
has_append [] m n h = cc
has_append (x ∷ ms) m n h = by (pointwise nat_eq n x) h (has_append ms m n)
  where
    by : (b : Bool) → (b || has_name ms n) ≡ true → (has_name ms n ≡ true → has_name (ms ++ m ∷ []) n ≡ true)
        → (b || has_name (ms ++ m ∷ []) n) ≡ true
    by true h k = refl
    by false h k = k h

has_stays : (ms : List (List ℕ)) (m n : List ℕ) → has_name ms n ≡ true → has_name (with_name ms m) n ≡ true
has_stays ms m n h = by (has_name ms m)
  where
    by : (b : Bool) → has_name (if b then ms else ms ++ m ∷ []) n ≡ true
    by true = h
    by false = has_append ms m n h

has_grows : (fs : List Found) (ms : List (List ℕ)) (n : List ℕ) → has_name ms n ≡ true
    → has_name (with_names ms fs) n ≡ true
has_grows [] ms n h = h
has_grows (f ∷ fs) ms n h = has_grows fs (with_name ms f.segment) n (has_stays ms f.segment n h)

abbrev Named : List (List ℕ) → List Found → Type 0
Named ms [] = Unit {0}
Named ms (f ∷ fs) = (number_of ms f.segment < length ms) × Named ms fs

all_named : (ms : List (List ℕ)) (fs : List Found) → Named (with_names ms fs) fs
all_named ms [] = tt
all_named ms (f ∷ fs) =
    let ns = with_name ms f.segment in
    (has_number (with_names ns fs) f.segment (has_grows fs ns f.segment (has_with ms f.segment)), all_named ns fs)

-- ---- the list

ends_of : (u : ℕ) (ms : List (List ℕ)) (fs : List Found) (e : Found) → Plain u fs → e.what ≡ stop → e.at.unit ≡ u
    → Named ms (fs ++ e ∷ [])
    → Ends u (length ms) (map (placed ms) (fs ++ e ∷ []))
ends_of u ms [] e p s f n = w.Ends.last s (record { unit = f; segment = n.0 })
ends_of u ms (x ∷ fs) e p s f n = w.Ends.before p.0 (record { unit = p.1; segment = n.0 }) (ends_of u ms fs e p.2 s f n.1)

whole_of : (u limit : ℕ) (there : Here) (s : State) → Keeps u s → there.at.unit ≡ u → s.count ≤ limit
    → IsWhole u limit (c.listed there s)
whole_of u limit there s k f l =
    let all = s.found ++ here there stop ∷ [] in
    let names = with_names [] all in
    let m = length-map all (placed names) in
    let a = length-append s.found (here there stop ∷ []) in
    let few = k.few in
    record { few = omega (arith, l, few, m, a); ends = ends_of u names s.found (here there stop) k.found refl f (all_named [] all) }

pub cut_whole : (u limit : ℕ) (text : List ℕ) (x : Listed) → CutsWithin u limit text x → IsWhole u limit x
cut_whole u limit text x v =
    let r = cut_plain u v.cuts.cut refl (record { found = tt; defines = tt; phase = tt; few = omega arith }) in
    let n = v.cuts.counted in
    let m = v.few in
    subst (IsWhole u limit) (sym v.cuts.is) (whole_of u limit v.cuts.there v.cuts.state r.0 r.1 (omega (arith, n, m)))
