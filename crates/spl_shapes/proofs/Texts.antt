-- The letters of the tokens of a text are bytes.
-- 1. those of a piece                                   (stands_bytes)
-- 2. those of what is found, and of what is defined     (takes_bytes)
-- 3. those of a unit's list                             (texts_bytes)
use Rattle.std.proofs.Common.{ℕ, ◌≡◌, ◌-◌, ◌<◌, ◌≤◌, ◌==◌, ◌&&◌, ◌||◌, nat_lt, nat_le, nat_eq, Bool, true, false, if◌then◌else◌, List, [], ◌∷◌, ◌++◌, map, Some, refl, sym, ap, subst, arith}
use Rattle.std.proofs.lemmas.Bool.{and_parts, and_from, ltb-true, leb-true, eqb-true, lt-ltb}
use lib.Pointwise.{pointwise}
use Rattle.spl_cuts.specs.Signs.{Sign, word, number, wide, chars, mark, stop, Found, Listed}
use Rattle.spl_cuts.specs.Bytes.{blanked, capital}
use Rattle.spl_cuts.specs.Lexemes.{sign_letters, lexeme, lexemes}
use Rattle.spl_cuts.specs.Pieces as p
use Rattle.spl_cuts.specs.Pieces.{token, Quoted, Stands}
use Rattle.spl_cuts.specs.Defines.{Define, Phase, State, defined, use_of, at_use, Takes}
use Rattle.spl_cuts.specs.Cutting.{Here, here, placed, with_names, Adds, Cut}
use Rattle.spl_shapes.specs.Shapes.{are_bytes}
use Rattle.spl_shapes.specs.Laws.{HaveBytes, CutTokensHaveBytes}

-- ---- 1. pieces

abbrev HasBytes : Sign → Type 0
HasBytes x = are_bytes (sign_letters x) ≡ true

blanked_byte : (b : ℕ) → nat_lt (blanked b) 256 ≡ true
blanked_byte b = by (b == 10) (b == 9) (b == 13) (nat_le 32 b) (nat_le b 126) refl refl refl refl
  where
    less : (n : ℕ) → n ≤ 126 → n < 256
    less n h = omega (arith, h)

    by : (x y z u v : Bool) → (b == 10) ≡ x → (b == 9) ≡ y → (b == 13) ≡ z → nat_le b 126 ≡ v → nat_lt (if x || y || z || (u && v) then b else 32) 256 ≡ true
    by true y z u v p q r s = ap (λ (n : ℕ). nat_lt n 256) (eqb-true b 10 p)
    by false true z u v p q r s = ap (λ (n : ℕ). nat_lt n 256) (eqb-true b 9 q)
    by false false true u v p q r s = ap (λ (n : ℕ). nat_lt n 256) (eqb-true b 13 r)
    by false false false true true p q r s = lt-ltb b 256 (less b (leb-true b 126 s))
    by false false false true false p q r s = refl
    by false false false false v p q r s = refl

blanked_bytes : (bs : List ℕ) → are_bytes (map blanked bs) ≡ true
blanked_bytes [] = refl
blanked_bytes (b ∷ bs) = and_from (nat_lt (blanked b) 256) (are_bytes (map blanked bs)) (blanked_byte b) (blanked_bytes bs)

capital_byte : (b : ℕ) → nat_lt b 256 ≡ true → nat_lt (capital b) 256 ≡ true
capital_byte b small = by (nat_le 97 b && nat_le b 122)
  where
    less : (n : ℕ) → n < 256 → n - 32 < 256
    less n h = omega (arith, h)

    by : (x : Bool) → nat_lt (if x then b - 32 else b) 256 ≡ true
    by true = lt-ltb (b - 32) 256 (less b (ltb-true b 256 small))
    by false = small

capital_bytes : (w : List ℕ) → are_bytes w ≡ true → are_bytes (map capital w) ≡ true
capital_bytes [] small = refl
capital_bytes (b ∷ w) small =
    let two = and_parts (nat_lt b 256) (are_bytes w) small in
    and_from (nat_lt (capital b) 256) (are_bytes (map capital w)) (capital_byte b two.0) (capital_bytes w two.1)

front_bytes : (xs ys : List ℕ) → are_bytes (xs ++ ys) ≡ true → are_bytes xs ≡ true
front_bytes [] ys all = refl
front_bytes (x ∷ xs) ys all =
    let two = and_parts (nat_lt x 256) (are_bytes (xs ++ ys)) all in and_from (nat_lt x 256) (are_bytes xs) two.0 (front_bytes xs ys two.1)

quoted_bytes : {cs bs : List ℕ} → Quoted cs bs → are_bytes bs ≡ true → are_bytes cs ≡ true
quoted_bytes Quoted.none all = refl
quoted_bytes (Quoted.quote {cs = cs} {bs = bs} q) all =
    let two = and_parts (nat_lt 34 256) (nat_lt 34 256 && are_bytes bs) all in
    let more = and_parts (nat_lt 34 256) (are_bytes bs) two.1 in
    and_from (nat_lt 34 256) (are_bytes cs) refl (quoted_bytes q more.1)
quoted_bytes (Quoted.other {b = b} {cs = cs} {bs = bs} h i q) all =
    let two = and_parts (nat_lt b 256) (are_bytes bs) all in and_from (nat_lt b 256) (are_bytes cs) two.0 (quoted_bytes q two.1)

-- what an item gives
abbrev ItemBytes : p.Item → Type 0
ItemBytes (token x) = HasBytes x
ItemBytes _ = Unit {0}

stands_bytes : {f : Bool} {front rest : List ℕ} {item : p.Item} → Stands f front item rest → are_bytes front ≡ true → ItemBytes item
stands_bytes (Stands.blank rest h) all = tt
stands_bytes (Stands.comment body rest h) all = tt
stands_bytes (Stands.comment_word w body rest h i j) all = tt
stands_bytes (Stands.line bs rest os h i j) all = tt
stands_bytes (Stands.name w rest h i j) all = capital_bytes w all
stands_bytes (Stands.single base ds rest h i j) all = refl
stands_bytes (Stands.double base ds x rest h i j) all = refl
stands_bytes (Stands.string cs bs rest q h) all =
    let two = and_parts (nat_lt 34 256) (are_bytes (bs ++ 34 ∷ [])) all in quoted_bytes q (front_bytes bs (34 ∷ []) two.1)
stands_bytes (Stands.mark_one b m rest h i) all = refl
stands_bytes (Stands.mark_two b e m rest h) all = refl

-- ---- 2. what is found and defined

abbrev SignsBytes : List Sign → Type 0
SignsBytes [] = Unit {0}
SignsBytes (x ∷ xs) = HasBytes x × SignsBytes xs

abbrev DefinesBytes : List Define → Type 0
DefinesBytes [] = Unit {0}
DefinesBytes (x ∷ xs) = SignsBytes x.signs × DefinesBytes xs

abbrev FoundBytes : List Found → Type 0
FoundBytes [] = Unit {0}
FoundBytes (x ∷ xs) = HasBytes x.what × FoundBytes xs

abbrev PhaseBytes : Phase → Type 0
PhaseBytes (Phase.inside n ks) = SignsBytes ks
PhaseBytes _ = Unit {0}

record StateBytes (s : State) : Type 0 where
  defines : DefinesBytes s.defines
  phase : PhaseBytes s.phase
  found : FoundBytes s.found

signs_behind : (xs ys : List Sign) → SignsBytes xs → SignsBytes ys → SignsBytes (xs ++ ys)
signs_behind [] ys a b = b
signs_behind (x ∷ xs) ys a b = (a.0, signs_behind xs ys a.1 b)

found_behind : (xs ys : List Found) → FoundBytes xs → FoundBytes ys → FoundBytes (xs ++ ys)
found_behind [] ys a b = b
found_behind (x ∷ xs) ys a b = (a.0, found_behind xs ys a.1 b)

uses_bytes : (t : Found) (xs : List Sign) → SignsBytes xs → FoundBytes (at_use t xs)
uses_bytes t [] all = tt
uses_bytes t (x ∷ xs) all = (all.0, uses_bytes t xs all.1)

signs_same : (a b : List Sign) → Some a ≡ Some b → a ≡ b
signs_same a b e = cc

defined_bytes : (n : List ℕ) (ds : List Define) (xs : List Sign) → DefinesBytes ds → defined n ds ≡ Some xs → SignsBytes xs
defined_bytes n [] xs all is = cc
defined_bytes n (x ∷ ds) xs all is = by (pointwise nat_eq n x.name) is (defined_bytes n ds xs all.1)
  where
    by : (b : Bool) → (if b then Some x.signs else defined n ds) ≡ Some xs → (defined n ds ≡ Some xs → SignsBytes xs) → SignsBytes xs
    by true e later = subst SignsBytes (signs_same x.signs xs e) all.0
    by false e later = later e

use_bytes : (ds : List Define) (x : Sign) (xs : List Sign) → DefinesBytes ds → use_of ds x ≡ Some xs → SignsBytes xs
use_bytes ds (word n) xs all is = defined_bytes n ds xs all is
use_bytes ds (number v) xs all is = cc
use_bytes ds (wide v) xs all is = cc
use_bytes ds (chars bs) xs all is = cc
use_bytes ds (mark m) xs all is = cc
use_bytes ds stop xs all is = cc

defines_behind : (ds : List Define) (x : Define) → DefinesBytes ds → SignsBytes x.signs → DefinesBytes (ds ++ x ∷ [])
defines_behind [] x all one = (one, tt)
defines_behind (e ∷ ds) x all one = (all.0, defines_behind ds x all.1 one)

inside_bytes : (s : State) (n : List ℕ) (ks : List Sign) → StateBytes s → s.phase ≡ Phase.inside n ks → SignsBytes ks
inside_bytes s n ks b is = subst PhaseBytes is b.phase

takes_bytes : {s s1 : State} {t : Found} → Takes s t s1 → HasBytes t.what → StateBytes s → StateBytes s1
takes_bytes {s} {s1} {t} (Takes.listed o n u) one b = record { defines = b.defines; phase = b.phase; found = found_behind s.found (t ∷ []) b.found (one, tt) }
takes_bytes {s} {s1} {t} (Takes.used xs o n u) one b =
    record { defines = b.defines; phase = b.phase; found = found_behind s.found (at_use t xs) b.found (uses_bytes t xs (use_bytes s.defines t.what xs b.defines u)) }
takes_bytes (Takes.begun o n) one b = record { defines = b.defines; phase = tt; found = b.found }
takes_bytes (Takes.named n o w new) one b = record { defines = b.defines; phase = tt; found = b.found }
takes_bytes (Takes.opened n o w) one b = record { defines = b.defines; phase = tt; found = b.found }
takes_bytes {s} {s1} {t} (Takes.kept n ks o h w u) one b =
    record { defines = b.defines; phase = signs_behind ks (t.what ∷ []) (inside_bytes s n ks b o) (one, tt); found = b.found }
takes_bytes {s} {s1} {t} (Takes.kept_use n ks xs o h w u) one b =
    record { defines = b.defines; phase = signs_behind ks xs (inside_bytes s n ks b o) (use_bytes s.defines t.what xs b.defines u); found = b.found }
takes_bytes {s} (Takes.defined_so n ks o h) one b =
    record { defines = defines_behind s.defines _ b.defines (inside_bytes s n ks b o); phase = tt; found = b.found }
takes_bytes (Takes.next o h) one b = record { defines = b.defines; phase = tt; found = b.found }
takes_bytes (Takes.ended o h) one b = record { defines = b.defines; phase = tt; found = b.found }

adds_bytes : {h : Here} {s s1 : State} {item : p.Item} → Adds h s item s1 → ItemBytes item → StateBytes s → StateBytes s1
adds_bytes Adds.none one b = b
adds_bytes Adds.command one b = b
adds_bytes (Adds.sign x s1 k) one b = takes_bytes k one b

cut_bytes : {h there : Here} {s s2 : State} {text left : List ℕ} → Cut h s text there s2 left → StateBytes s → StateBytes s2
cut_bytes Cut.done b = b
cut_bytes (Cut.piece front rest left item k allowed adds more) b = cut_bytes more (adds_bytes adds (stands_bytes k (blanked_bytes front)) b)

-- ---- 3. the list of a unit

list_bytes : (ms : List (List ℕ)) (ts : List Found) → FoundBytes ts → HaveBytes (map lexeme (map (placed ms) ts))
list_bytes ms [] all = tt
list_bytes ms (t ∷ ts) all = (all.0, list_bytes ms ts all.1)

pub texts_bytes : CutTokensHaveBytes
texts_bytes n limit text x k =
    let b = cut_bytes k.cuts.cut (record { defines = tt; phase = tt; found = tt }) in
    let all = k.cuts.state.found ++ here k.cuts.there stop ∷ [] in
    subst (λ (l : Listed). HaveBytes (lexemes l)) (sym k.cuts.is)
    (list_bytes (with_names [] all) all (found_behind k.cuts.state.found (here k.cuts.there stop ∷ []) b.found (refl, tt)))
