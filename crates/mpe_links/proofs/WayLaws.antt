-- Laws of ways along links: a node is taken out of a way, or put into it, by the links before and behind it.
use Rattle.std.proofs.Common.{◌≡◌, ◌≢◌, ℕ, ◌+◌, ◌≤◌, Bool, true, false, cond, List, [], ◌∷◌, ◌++◌, refl, sym, ap, subst, ◌∙◌, arith}
use Rattle.std.specs.Prelude.{◌==◌}
use Rattle.std.proofs.lemmas.Bool.Decides.{nat_tests}
use Rattle.mpe_links.specs.Lists.{times, Apart, last_or, first_or}
use Rattle.mpe_links.specs.Ways.{Goes, Returns, Writes}

-- ---- lists

pub times_append : (k : ℕ) (xs ys : List ℕ) → times k (xs ++ ys) ≡ times k xs + times k ys
times_append k [] ys = omega arith
times_append k (x ∷ xs) ys = let rest = times_append k xs ys in grind (arith, nat_tests)

-- a number that does not stand in a list is not its first
pub not_first : (k x : ℕ) (xs : List ℕ) → times k (x ∷ xs) ≡ 0 → (x ≢ k) × (times k xs ≡ 0)
not_first k x xs h = by (x == k) refl h where
  by : (t : Bool) → (x == k) ≡ t → cond t (1 + times k xs) (times k xs) ≡ 0 → (x ≢ k) × (times k xs ≡ 0)
  by true e h = absurd (omega (arith, h))
  by false e h = ((λ same. grind (arith, nat_tests)), h)

pub absent_there : (k x : ℕ) (xs : List ℕ) → x ≢ k → times k xs ≡ 0 → times k (x ∷ xs) ≡ 0
absent_there k x xs n h = grind (arith, nat_tests)

-- nor its last, nor the first of what follows
pub not_last : (k p : ℕ) (xs ys : List ℕ) → times k (p ∷ xs ++ ys) ≡ 0 → last_or p xs ≢ k
not_last k p [] ys h = (not_first k p ys h).0
not_last k p (x ∷ xs) ys h = not_last k x xs ys (not_first k p (x ∷ xs ++ ys) h).1

pub not_next : (k e : ℕ) (xs : List ℕ) → e ≢ k → times k xs ≡ 0 → first_or xs e ≢ k
not_next k e [] n h = n
not_next k e (x ∷ xs) n h = (not_first k x xs h).0

-- ---- ways

pub goes_ext : (f g : ℕ → ℕ) (p e : ℕ) (xs : List ℕ) → ((k : ℕ) → times k (p ∷ xs) ≢ 0 → g k ≡ f k) → Goes f p xs e → Goes g p xs e
goes_ext f g p e [] s h = s p (grind (arith, nat_tests)) ∙ h
goes_ext f g p e (x ∷ xs) s h = (s p (grind (arith, nat_tests)) ∙ h.0, goes_ext f g x e xs (λ k n. s k (grind (arith, nat_tests))) h.1)

pub returns_ext : (f g : ℕ → ℕ) (p e : ℕ) (xs : List ℕ) → ((k : ℕ) → times k (e ∷ xs) ≢ 0 → g k ≡ f k) → Returns f p xs e → Returns g p xs e
returns_ext f g p e [] s h = s e (grind (arith, nat_tests)) ∙ h
returns_ext f g p e (x ∷ xs) s h = (s x (grind (arith, nat_tests)) ∙ h.0, returns_ext f g x e xs (λ k n. s k (grind (arith, nat_tests))) h.1)

-- a link elsewhere is written
pub goes_same : (f g : ℕ → ℕ) (p e at to : ℕ) (xs : List ℕ) → Writes f g at to → times at (p ∷ xs) ≡ 0 → Goes f p xs e → Goes g p xs e
goes_same f g p e at to [] w n h = w.others p (not_first at p [] n).0 ∙ h
goes_same f g p e at to (x ∷ xs) w n h =
    let t = not_first at p (x ∷ xs) n in
    (w.others p t.0 ∙ h.0, goes_same f g x e at to xs w t.1 h.1)

pub returns_same : (f g : ℕ → ℕ) (p e at to : ℕ) (xs : List ℕ) → Writes f g at to → e ≢ at → times at xs ≡ 0 → Returns f p xs e → Returns g p xs e
returns_same f g p e at to [] w d n h = w.others e d ∙ h
returns_same f g p e at to (x ∷ xs) w d n h =
    let t = not_first at x xs n in
    (w.others x t.0 ∙ h.0, returns_same f g x e at to xs w d t.1 h.1)

-- what comes next on the way, and what came before
pub goes_at : (f : ℕ → ℕ) (p x e : ℕ) (xs ys : List ℕ) → Goes f p (xs ++ x ∷ ys) e → f x ≡ first_or ys e
goes_at f p x e [] [] h = h.1
goes_at f p x e [] (y ∷ ys) h = h.1.0
goes_at f p x e (z ∷ xs) ys h = goes_at f z x e xs ys h.1

pub returns_at : (f : ℕ → ℕ) (p x e : ℕ) (xs ys : List ℕ) → Returns f p (xs ++ x ∷ ys) e → f x ≡ last_or p xs
returns_at f p x e [] ys h = h.0
returns_at f p x e (z ∷ xs) ys h = returns_at f z x e xs ys h.1

-- from the last before a place the links go on behind it
pub goes_from : (f : ℕ → ℕ) (p e : ℕ) (xs ys : List ℕ) → Goes f p (xs ++ ys) e → f (last_or p xs) ≡ first_or ys e
goes_from f p e [] [] h = h
goes_from f p e [] (y ∷ ys) h = h.0
goes_from f p e (z ∷ xs) ys h = goes_from f z e xs ys h.1

pub returns_from : (f : ℕ → ℕ) (p e : ℕ) (xs ys : List ℕ) → Returns f p (xs ++ ys) e → f (first_or ys e) ≡ last_or p xs
returns_from f p e [] [] h = h
returns_from f p e [] (y ∷ ys) h = h.0
returns_from f p e (z ∷ xs) ys h = returns_from f z e xs ys h.1

-- ---- a node taken out

pub goes_unlink : (f g : ℕ → ℕ) (p x e : ℕ) (xs ys : List ℕ) → Writes f g (last_or p xs) (first_or ys e) → Apart (p ∷ xs ++ ys)
    → Goes f p (xs ++ x ∷ ys) e → Goes g p (xs ++ ys) e
goes_unlink f g p x e [] [] w a h = w.there
goes_unlink f g p x e [] (y ∷ ys) w a h = (w.there, goes_same f g y e p y ys w a.0 h.1.1)
goes_unlink f g p x e (z ∷ xs) ys w a h =
    (w.others p (λ s. not_last p z xs ys a.0 (sym s)) ∙ h.0, goes_unlink f g z x e xs ys w a.1 h.1)

pub returns_unlink : (f g : ℕ → ℕ) (p x e : ℕ) (xs ys : List ℕ) → Writes f g (first_or ys e) (last_or p xs) → times e (xs ++ ys) ≡ 0 → Apart (xs ++ ys)
    → Returns f p (xs ++ x ∷ ys) e → Returns g p (xs ++ ys) e
returns_unlink f g p x e [] [] w n a h = w.there
returns_unlink f g p x e [] (y ∷ ys) w n a h =
    (w.there, returns_same f g y e y p ys w (λ s. (not_first e y ys n).0 (sym s)) a.0 h.1.1)
returns_unlink f g p x e (z ∷ xs) ys w n a h =
    let t = not_first e z (xs ++ ys) n in
    (w.others z (λ s. apart_next z e xs ys (λ q. t.0 (sym q)) a.0 (sym s)) ∙ h.0, returns_unlink f g z x e xs ys w t.1 a.1 h.1)
  where
    apart_next : (k e : ℕ) (xs ys : List ℕ) → e ≢ k → times k (xs ++ ys) ≡ 0 → first_or ys e ≢ k
    apart_next k e [] ys n h = not_next k e ys n h
    apart_next k e (x ∷ xs) ys n h = apart_next k e xs ys n (not_first k x (xs ++ ys) h).1

-- ---- a node put in

pub goes_link : (f g h : ℕ → ℕ) (p x e : ℕ) (xs ys : List ℕ) → Writes f g x (first_or ys e) → Writes g h (last_or p xs) x → times x (p ∷ xs ++ ys) ≡ 0
    → Apart (p ∷ xs ++ ys) → Goes f p (xs ++ ys) e → Goes h p (xs ++ x ∷ ys) e
goes_link f g h p x e [] [] v w n a way = (w.there, w.others x (λ s. (not_first x p [] n).0 (sym s)) ∙ v.there)
goes_link f g h p x e [] (y ∷ ys) v w n a way =
    let t = not_first x p (y ∷ ys) n in
    (w.there, (w.others x (λ s. t.0 (sym s)) ∙ v.there, goes_same g h y e p x ys w a.0 (goes_same f g y e x y ys v t.1 way.1)))
goes_link f g h p x e (z ∷ xs) ys v w n a way =
    let t = not_first x p (z ∷ xs ++ ys) n in
    (w.others p (λ s. not_last p z xs ys a.0 (sym s)) ∙ v.others p t.0 ∙ way.0, goes_link f g h z x e xs ys v w t.1 a.1 way.1)

pub returns_link : (f g h : ℕ → ℕ) (p x e : ℕ) (xs ys : List ℕ) → Writes f g x (last_or p xs) → Writes g h (first_or ys e) x → e ≢ x → times x (xs ++ ys) ≡ 0
    → times e (xs ++ ys) ≡ 0 → Apart (xs ++ ys) → Returns f p (xs ++ ys) e → Returns h p (xs ++ x ∷ ys) e
returns_link f g h p x e [] [] v w d n m a way = (w.others x (λ s. d (sym s)) ∙ v.there, w.there)
returns_link f g h p x e [] (y ∷ ys) v w d n m a way =
    let t = not_first x y ys n in (
      w.others x (λ s. t.0 (sym s)) ∙ v.there,
      (w.there, returns_same g h y e y x ys w (λ s. (not_first e y ys m).0 (sym s)) a.0 (returns_same f g y e x p ys v d t.1 way.1)),
    )
returns_link f g h p x e (z ∷ xs) ys v w d n m a way =
    let t = not_first x z (xs ++ ys) n in
    let u = not_first e z (xs ++ ys) m in
    (w.others z (λ s. apart_next z e xs ys (λ q. u.0 (sym q)) a.0 (sym s)) ∙ v.others z t.0 ∙ way.0, returns_link f g h z x e xs ys v w d t.1 u.1 a.1 way.1)
  where
    apart_next : (k e : ℕ) (xs ys : List ℕ) → e ≢ k → times k (xs ++ ys) ≡ 0 → first_or ys e ≢ k
    apart_next k e [] ys n h = not_next k e ys n h
    apart_next k e (x ∷ xs) ys n h = apart_next k e xs ys n (not_first k x (xs ++ ys) h).1

-- ---- rings

pub apart_less : (x : ℕ) (xs ys : List ℕ) → Apart (xs ++ x ∷ ys) → Apart (xs ++ ys)
apart_less x [] ys a = a.1
apart_less x (z ∷ xs) ys a =
    let here : times z (xs ++ ys) ≡ 0 = let t = times_append z xs (x ∷ ys) in let u = times_append z xs ys in let m = times_more z x ys in let h = a.0 in omega arith in
    (here, apart_less x xs ys a.1)
  where
    times_more : (k x : ℕ) (ys : List ℕ) → times k ys ≤ times k (x ∷ ys)
    times_more k x ys = grind (arith, nat_tests)

pub apart_more : (x : ℕ) (xs ys : List ℕ) → times x (xs ++ ys) ≡ 0 → Apart (xs ++ ys) → Apart (xs ++ x ∷ ys)
apart_more x [] ys n a = (n, a)
apart_more x (z ∷ xs) ys n a =
    let t = not_first x z (xs ++ ys) n in
    let other : times z (x ∷ ys) ≡ times z ys = times_other z x ys (λ s. t.0 (sym s)) in
    let here : times z (xs ++ x ∷ ys) ≡ 0 = let u = times_append z xs (x ∷ ys) in let v = times_append z xs ys in let h = a.0 in omega arith in
    (here, apart_more x xs ys t.1 a.1)
  where
    times_other : (k x : ℕ) (ys : List ℕ) → x ≢ k → times k (x ∷ ys) ≡ times k ys
    times_other k x ys d = grind (arith, nat_tests)

pub writes_from : (f f' g : ℕ → ℕ) (at to : ℕ) → ((k : ℕ) → f' k ≡ f k) → Writes f' g at to → Writes f g at to
writes_from f f' g at to s w = record { there = w.there; others = λ k d. w.others k d ∙ s k }

pub writes_to : (f g g' : ℕ → ℕ) (at to : ℕ) → ((k : ℕ) → g' k ≡ g k) → Writes f g at to → Writes f g' at to
writes_to f g g' at to s w = record { there = s at ∙ w.there; others = λ k d. s k ∙ w.others k d }

pub writes_at : (f g : ℕ → ℕ) (at at' to to' : ℕ) → at ≡ at' → to ≡ to' → Writes f g at to → Writes f g at' to'
writes_at f g at at' to to' e d w = subst (λ a. Writes f g a to') e (subst (λ t. Writes f g at t) d w)

pub record Ring (f g : ℕ → ℕ) (xs : List ℕ) : Type 0 where
  pub forward : Goes f 65535 xs 65535
  pub backward : Returns g 65535 xs 65535
  pub apart : Apart (65535 ∷ xs)

-- x is taken out of a ring
pub unlinked : (f f' g g' : ℕ → ℕ) (x : ℕ) (xs ys : List ℕ) → Writes f f' (g x) (f x) → Writes g g' (f x) (g x) → Ring f g (xs ++ x ∷ ys) → Ring f' g' (xs ++ ys)
unlinked f f' g g' x xs ys v w r =
    let next = goes_at f 65535 x 65535 xs ys r.forward in
    let prior = returns_at g 65535 x 65535 xs ys r.backward in
    let a = apart_less x (65535 ∷ xs) ys r.apart in
    record {
      forward = goes_unlink f f' 65535 x 65535 xs ys (writes_at f f' (g x) (last_or 65535 xs) (f x) (first_or ys 65535) prior next v) a r.forward;
      backward = returns_unlink g g' 65535 x 65535 xs ys (writes_at g g' (f x) (first_or ys 65535) (g x) (last_or 65535 xs) next prior w) a.0 a.1 r.backward;
      apart = a;
    }

-- x is put into one behind p
pub linked : (f f1 f2 g g1 g2 : ℕ → ℕ) (x p q : ℕ) (xs ys : List ℕ) → last_or 65535 xs ≡ p → f p ≡ q → x ≢ 65535 → times x (xs ++ ys) ≡ 0
    → Writes f f1 x q → Writes f1 f2 p x → Writes g g1 x p → Writes g1 g2 q x → Ring f g (xs ++ ys) → Ring f2 g2 (xs ++ x ∷ ys)
linked f f1 f2 g g1 g2 x p q xs ys e n d t v v' w w' r =
    let next : first_or ys 65535 ≡ q = sym (goes_from f 65535 65535 xs ys r.forward) ∙ ap f e ∙ n in
    let absent = absent_there x 65535 (xs ++ ys) (λ s. d (sym s)) t in
    record {
      forward = goes_link f f1 f2 65535 x 65535 xs ys (writes_at f f1 x x q (first_or ys 65535) refl (sym next) v)
          (writes_at f1 f2 p (last_or 65535 xs) x x (sym e) refl v') absent r.apart r.forward;
      backward = returns_link g g1 g2 65535 x 65535 xs ys (writes_at g g1 x x p (last_or 65535 xs) refl (sym e) w)
          (writes_at g1 g2 q (first_or ys 65535) x x (sym next) refl w') (λ s. d (sym s)) t r.apart.0 r.apart.1 r.backward;
      apart = apart_more x (65535 ∷ xs) ys absent r.apart;
    }
