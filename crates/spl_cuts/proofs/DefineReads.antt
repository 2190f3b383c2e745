-- What a token makes of what was found before is what is read, and where it breaks a DEFINE nothing is.
use Rattle.std.proofs.Common.{ℕ, ◌≡◌, ◌≤◌, Bool, true, false, List, [], ◌∷◌, ◌++◌, Option, Some, None, refl, sym, ap, ◌∙◌, arith}
use Rattle.std.specs.Prelude.{if◌then◌else◌}
use Rattle.spl_cuts.specs.Signs.{Sign, word, number, wide, chars, mark, stop, Found}
use Rattle.spl_cuts.specs.Defines as d
use Rattle.spl_cuts.specs.Defines.{Define, State, Phase, outside, before_name, before_equals, inside, behind_hash, Takes, Breaks, defined, use_of, is_reserved, is_define, is_mark, comma, semicolon, equals, hash, at_use, IsNew}
use Rattle.spl_cuts.specs.Reading.{fed, fed_at, listed_as, kept_as, named, name_found}

-- a word with this name is no new one, whether or not it is reserved
old_name : (s : State) (n : List ℕ) (r : Bool) (xs : List Sign) → named s n r (Some xs) ≡ None
unfolding named
old_name s n true xs = refl
old_name s n false xs = refl

reserved_name : (s : State) (n : List ℕ) (o : Option (List Sign)) → named s n true o ≡ None
unfolding named
reserved_name s n (Some xs) = refl
reserved_name s n None = refl

no_word : (s : State) (x : Sign) → ((n : List ℕ) → x ≡ word n → ⊥) → name_found s x ≡ None
unfolding name_found
no_word s (word n) h = absurd (h n refl)
no_word s (number v) h = refl
no_word s (wide v) h = refl
no_word s (chars cs) h = refl
no_word s (mark m) h = refl
no_word s stop h = refl

-- a nested DEFINE is no #
no_hash : (x : Sign) → is_define x ≡ true → is_mark hash x ≡ false
no_hash (word n) h = refl
no_hash (number v) h = refl
no_hash (wide v) h = refl
no_hash (chars cs) h = refl
no_hash (mark m) h = cc
no_hash stop h = refl

semicolon_apart : (x : Sign) → is_mark semicolon x ≡ true → is_mark comma x ≡ false
semicolon_apart (word n) h = refl
semicolon_apart (number v) h = refl
semicolon_apart (wide v) h = refl
semicolon_apart (chars cs) h = refl
semicolon_apart (mark m) h = grind (arith, h)
semicolon_apart stop h = refl

pub takes_fed : {s s1 : State} {t : Found} → Takes s t s1 → fed s t ≡ Some s1
unfolding fed fed_at listed_as kept_as named name_found
takes_fed (d.Takes.listed p h u) = rw (p, h, u) refl
takes_fed (d.Takes.used xs p h u) = rw (p, h, u) refl
takes_fed (d.Takes.begun p h) = rw (p, h) refl
takes_fed (d.Takes.named n p w i) = rw (p, w, i.free, i.once) refl
takes_fed (d.Takes.opened n p h) = rw (p, h) refl
takes_fed (d.Takes.kept n ks p m h u) = rw (p, m, h, u) refl
takes_fed (d.Takes.kept_use n ks xs p m h u) = rw (p, m, h, u) refl
takes_fed (d.Takes.defined_so n ks p m) = rw (p, m) refl
takes_fed (d.Takes.next p m) = rw (p, m) refl
takes_fed {t = t} (d.Takes.ended p m) = rw (p, semicolon_apart t.what m, m) refl

pub breaks_fed : {s : State} {t : Found} → Breaks s t → fed s t ≡ None
unfolding fed fed_at name_found named
breaks_fed {s = s} {t = t} (d.Breaks.no_name p h) = rw p (no_word s t.what h)
breaks_fed {s = s} (d.Breaks.reserved n p w h) = rw (p, w, h) (reserved_name s n (defined n s.defines))
breaks_fed {s = s} (d.Breaks.defined_before n xs p w h) = rw (p, w, h) (old_name s n (is_reserved n) xs)
breaks_fed (d.Breaks.no_equals n p h) = rw (p, h) refl
breaks_fed {t = t} (d.Breaks.nested n ks p h) = rw (p, no_hash t.what h, h) refl
breaks_fed (d.Breaks.no_next p c m) = rw (p, c, m) refl

-- what is read of a token says what it does
pub data Fed (s : State) (t : Found) : Option State → Type 0 where
  takes : {s1 : State} → Takes s t s1 → Fed s t (Some s1)
  breaks : Breaks s t → Fed s t None

listed_told : (s : State) (t : Found) (o : Option (List Sign)) → s.phase ≡ outside → is_define t.what ≡ false → use_of s.defines t.what ≡ o → Fed s t (Some (listed_as s t o))
unfolding listed_as
listed_told s t None p h u = Fed.takes (d.Takes.listed p h u)
listed_told s t (Some xs) p h u = Fed.takes (d.Takes.used xs p h u)

kept_told : (s : State) (t : Found) (n : List ℕ) (ks : List Sign) (o : Option (List Sign)) → s.phase ≡ inside n ks → is_mark hash t.what ≡ false → is_define t.what ≡ false
    → use_of s.defines t.what ≡ o → Fed s t (Some (kept_as s t.what n ks o))
unfolding kept_as
kept_told s t n ks None p m h u = Fed.takes (d.Takes.kept n ks p m h u)
kept_told s t n ks (Some xs) p m h u = Fed.takes (d.Takes.kept_use n ks xs p m h u)

named_told : (s : State) (t : Found) (n : List ℕ) (r : Bool) (o : Option (List Sign)) → s.phase ≡ before_name → t.what ≡ word n → is_reserved n ≡ r → defined n s.defines ≡ o
    → Fed s t (named s n r o)
unfolding named
named_told s t n true (Some xs) p w r e = Fed.breaks (d.Breaks.reserved n p w r)
named_told s t n true None p w r e = Fed.breaks (d.Breaks.reserved n p w r)
named_told s t n false (Some xs) p w r e = Fed.breaks (d.Breaks.defined_before n xs p w e)
named_told s t n false None p w r e = Fed.takes (d.Takes.named n p w (record { free = r; once = e }))

-- the letters of a word
letters : Sign → Option (List ℕ)
letters (word n) = Some n
letters _ = None

name_told : (s : State) (t : Found) (x : Sign) → s.phase ≡ before_name → t.what ≡ x → Fed s t (name_found s x)
unfolding name_found letters
name_told s t (word n) p w = named_told s t n (is_reserved n) (defined n s.defines) p w refl refl
name_told s t (number v) p w = Fed.breaks (d.Breaks.no_name p (λ n e. let f : None ≡ Some n = ap letters (sym w ∙ e) in cc))
name_told s t (wide v) p w = Fed.breaks (d.Breaks.no_name p (λ n e. let f : None ≡ Some n = ap letters (sym w ∙ e) in cc))
name_told s t (chars cs) p w = Fed.breaks (d.Breaks.no_name p (λ n e. let f : None ≡ Some n = ap letters (sym w ∙ e) in cc))
name_told s t (mark m) p w = Fed.breaks (d.Breaks.no_name p (λ n e. let f : None ≡ Some n = ap letters (sym w ∙ e) in cc))
name_told s t stop p w = Fed.breaks (d.Breaks.no_name p (λ n e. let f : None ≡ Some n = ap letters (sym w ∙ e) in cc))

pub fed_told : (s : State) (t : Found) → Fed s t (fed s t)
unfolding fed fed_at
fed_told s t = by s.phase refl
  where
    by : (p : Phase) → s.phase ≡ p → Fed s t (fed_at p s t)
    by outside p = at (is_define t.what) refl
      where
        at : (b : Bool) → is_define t.what ≡ b → Fed s t (if b then Some (record s { phase = before_name }) else Some (listed_as s t (use_of s.defines t.what)))
        at true h = Fed.takes (d.Takes.begun p h)
        at false h = listed_told s t (use_of s.defines t.what) p h refl
    by before_name p = name_told s t t.what p refl
    by (before_equals n) p = at (is_mark equals t.what) refl
      where
        at : (b : Bool) → is_mark equals t.what ≡ b → Fed s t (if b then Some (record s { phase = inside n [] }) else None)
        at true h = Fed.takes (d.Takes.opened n p h)
        at false h = Fed.breaks (d.Breaks.no_equals n p h)
    by (inside n ks) p = at (is_mark hash t.what) (is_define t.what) refl refl
      where
        at : (b c : Bool) → is_mark hash t.what ≡ b → is_define t.what ≡ c
            → Fed s t (if b then Some (record s { defines = s.defines ++ record { name = n; signs = ks } ∷ []; phase = behind_hash }) else
            if c then None else Some (kept_as s t.what n ks (use_of s.defines t.what)))
        at true c h g = Fed.takes (d.Takes.defined_so n ks p h)
        at false true h g = Fed.breaks (d.Breaks.nested n ks p g)
        at false false h g = kept_told s t n ks (use_of s.defines t.what) p h g refl
    by behind_hash p = at (is_mark comma t.what) (is_mark semicolon t.what) refl refl
      where
        at : (b c : Bool) → is_mark comma t.what ≡ b → is_mark semicolon t.what ≡ c
            → Fed s t (if b then Some (record s { phase = before_name }) else if c then Some (record s { phase = outside }) else None)
        at true c h g = Fed.takes (d.Takes.next p h)
        at false true h g = Fed.takes (d.Takes.ended p g)
        at false false h g = Fed.breaks (d.Breaks.no_next p h g)

-- the count never falls
pub takes_grows : {s s1 : State} {t : Found} → Takes s t s1 → s.count ≤ s1.count
takes_grows (d.Takes.listed p h u) = omega arith
takes_grows (d.Takes.used xs p h u) = omega arith
takes_grows (d.Takes.begun p h) = omega arith
takes_grows (d.Takes.named n p w i) = omega arith
takes_grows (d.Takes.opened n p h) = omega arith
takes_grows (d.Takes.kept n ks p m h u) = omega arith
takes_grows (d.Takes.kept_use n ks xs p m h u) = omega arith
takes_grows (d.Takes.defined_so n ks p m) = omega arith
takes_grows (d.Takes.next p m) = omega arith
takes_grows (d.Takes.ended p m) = omega arith
