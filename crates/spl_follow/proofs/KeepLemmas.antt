-- What parts keep, one after another; and values on top of one another.
use Rattle.std.proofs.Common.{◌≡◌, ℕ, ◌+◌, ◌-◌, ◌≤◌, ◌<◌, List, [], ◌∷◌, ◌++◌, length, refl, ap, subst, ◌∙◌, arith}
use Rattle.std.specs.Prelude.{Option, Some, None, slice_index}
use Rattle.std.proofs.lemmas.List.{length-append}
use Rattle.hp_flat.specs.hp_session.State.{Machine, word}
use Rattle.spl_code.specs.spl_meaning.References.{Setting}
use Rattle.spl_code.specs.spl_meaning.States.{Data, State, Begun}
use Rattle.spl_frames.specs.Words.{AreWords}
use Rattle.spl_follow.specs.Spots.{Spot, Point, on}
use Rattle.spl_follow.specs.Matching.{Footing, Matched, Kept, Stand, IsValue, Arrives}
use Rattle.spl_follow.specs.Parts.{Ready, Begins}
use Rattle.spl_follow.proofs.StackLemmas.{stand_kept, stand_join, stand_at}

-- ---- keeping

-- nothing is done
pub kept_same : (b : ℕ) (d : Data) (xs : List ℕ) → Kept b d xs d xs
kept_same b d xs = record { footing = refl; none = λ a h. h; word = λ a l h. refl }

-- one part, and then another
pub kept_on : (b : ℕ) (d : Data) (xs : List ℕ) (e : Data) (ys : List ℕ) (f : Data) (zs : List ℕ) → Kept b d xs e ys → Kept b e ys f zs
    → Kept b d xs f zs
kept_on b d xs e ys f zs k l = record {
  footing = l.footing ∙ k.footing;
  none = λ a h. l.none a (k.none a h);
  word = λ a low h. l.word a low (k.none a h) ∙ k.word a low h;
}

-- what is kept beneath an address is kept beneath a lower one
pub kept_lower : (b c : ℕ) (d : Data) (xs : List ℕ) (e : Data) (ys : List ℕ) → Kept c d xs e ys → b ≤ c → Kept b d xs e ys
kept_lower b c d xs e ys k low = record {
  footing = k.footing;
  none = k.none;
  word = λ a l h. k.word a (omega (arith, low, l)) h;
}

-- the frame's top is where it was
pub kept_top : (b : ℕ) (d : Data) (xs : List ℕ) (e : Data) (ys : List ℕ) → Kept b d xs e ys → e.top ≡ d.top
kept_top b d xs e ys k = ap (λ (f : Footing). f.top) k.footing

-- so is STACK
pub kept_stack : (b : ℕ) (d : Data) (xs : List ℕ) (e : Data) (ys : List ℕ) → Kept b d xs e ys → e.stack ≡ d.stack
kept_stack b d xs e ys k = ap (λ (f : Footing). f.stack) k.footing

-- an address from the frame's top on is that of no data word
pub above_none : (st : Setting) (d : Data) (m : Machine) (k a : ℕ) → Matched st d m k → d.top ≤ a → d.mem a ≡ None
above_none st d m k a x high = by (d.mem a) refl where
  by : (o : Option ℕ) → d.mem a ≡ o → o ≡ None
  by None e = refl
  by (Some v) e = let low = x.low a v e in absurd (omega (arith, low, high))

-- ---- after a part

-- what a value is after a part is what it is after both
pub value_after : (st : Setting) (p : Spot) (n k : ℕ) (d : Data) (m : Machine) (e : Data) (m1 : Machine) (vs : List ℕ) (s : State) (m2 : Machine)
    → Kept (d.top + k) d m.stack e m1.stack → IsValue st p n k e m1 vs s m2 → IsValue st p n k d m vs s m2
value_after st p n k d m e m1 vs s m2 before v =
    let top = kept_top (d.top + k) d m.stack e m1.stack before in
    record {
      at = v.at;
      wide = v.wide;
      matches = v.matches;
      stand = subst (λ (t : ℕ). Stand m2.stack (t + k) vs) top v.stand;
      small = v.small;
      kept = kept_on (d.top + k) d m.stack e m1.stack s.now m2.stack before
          (subst (λ (t : ℕ). Kept (t + k) e m1.stack s.now m2.stack) top v.kept);
      silent = v.silent;
    }

-- and so with a statement, where no more words wait than before
pub arrives_after : (st : Setting) (p : Spot) (k j : ℕ) (d : Data) (m : Machine) (e : Data) (m1 : Machine) (s : State) (m2 : Machine) → j ≤ k
    → Kept (d.top + k) d m.stack e m1.stack → Arrives st p j e m1 s m2 → Arrives st p j d m s m2
arrives_after st p k j d m e m1 s m2 fewer before x =
    let top = kept_top (d.top + k) d m.stack e m1.stack before in
    record {
      at = x.at;
      matches = x.matches;
      kept = kept_on (d.top + j) d m.stack e m1.stack s.now m2.stack
          (kept_lower (d.top + j) (d.top + k) d m.stack e m1.stack before (omega (arith, fewer)))
          (subst (λ (t : ℕ). Kept (t + j) e m1.stack s.now m2.stack) top x.kept);
      coded = x.coded;
    }

-- ---- values on top of one another

-- words and words are words
pub small_join : (vs ws : List ℕ) → AreWords vs → AreWords ws → AreWords (vs ++ ws)
small_join [] ws s t = t
small_join (v ∷ vs) ws s t = (s.0, small_join vs ws s.1 t)

-- A value that waits while another is made stays, and both are one of more words.
pub values_join : (st : Setting) (p q : Spot) (n o k : ℕ) (d : Data) (m : Machine) (vs ws : List ℕ) (s : State) (m1 : Machine) (t : State) (m2 : Machine)
    → IsValue st p n k d m vs s m1 → IsValue st q o (k + n) s.now m1 ws t m2 → IsValue st q (n + o) k d m (vs ++ ws) t m2
values_join st p q n o k d m vs ws s m1 t m2 v w =
    let top = kept_top (d.top + k) d m.stack s.now m1.stack v.kept in
    let wide = v.wide in
    let sum : k + n + o ≡ k + (n + o) = omega arith in
    let high : s.now.top + (k + n) ≡ d.top + k + length vs = omega (arith, top, wide) in
    let low : d.top + k + length vs ≤ s.now.top + (k + n) = omega (arith, high) in
    let from : d.top + k ≤ s.now.top + (k + n) = omega (arith, low) in
    record {
      at = w.at;
      wide = length-append vs ws ∙ ap (λ (i : ℕ). i + length ws) v.wide ∙ ap (λ (i : ℕ). n + i) w.wide;
      matches = subst (λ (i : ℕ). Matched st t.now m2 i) sum w.matches;
      stand = stand_join m2.stack vs ws (d.top + k)
          (stand_kept m1.stack m2.stack vs (d.top + k) (s.now.top + (k + n)) low
          (λ i above below. w.kept.word i below (above_none st s.now m1 (k + n) i v.matches (omega (arith, top, above)))) v.stand)
          (subst (λ (i : ℕ). Stand m2.stack i ws) high w.stand);
      small = small_join vs ws v.small w.small;
      kept = kept_on (d.top + k) d m.stack s.now m1.stack t.now m2.stack v.kept
          (kept_lower (d.top + k) (s.now.top + (k + n)) s.now m1.stack t.now m2.stack w.kept from);
      silent = w.silent;
    }

-- ---- what comes next begins

-- behind a value, which waits, the next part is ready
pub value_ready : (st : Setting) (b : ℕ) (p : Point) (q : Spot) (k need n more : ℕ) (s : State) (l : List Begun) (m : Machine) (vs : List ℕ) (t : State) (m1 : Machine)
    → Ready st b p k need s l m → IsValue st q n k s.now m vs t m1 → t.left ≤ s.left → n + more ≤ need → Ready st b (on q) (k + n) more t t.begun m1
value_ready st b p q k need n more s l m vs t m1 r v fewer enough =
    let top = kept_top (s.now.top + k) s.now m.stack t.now m1.stack v.kept in
    let stack = kept_stack (s.now.top + k) s.now m.stack t.now m1.stack v.kept in
    let room = r.room in
    let fuel = r.fuel in
    record {
      at = v.at;
      owes = refl;
      matches = v.matches;
      silent = v.silent;
      room = omega (arith, top, stack, room, enough);
      fuel = omega (arith, fuel, fewer);
    }

-- so it is behind a test, or another part that leaves no value and no condition code
pub arrives_ready : (st : Setting) (b : ℕ) (q : Spot) (k j need more : ℕ) (s : State) (m : Machine) (t : State) (m1 : Machine)
    → s.now.top + k + need ≤ s.now.stack → s.left ≤ b → Arrives st q j s.now m t m1 → t.code ≡ None → t.left ≤ s.left → j + more ≤ k + need
    → Ready st b (on q) j more t t.begun m1
arrives_ready st b q k j need more s m t m1 room fuel x silent fewer enough =
    let top = kept_top (s.now.top + j) s.now m.stack t.now m1.stack x.kept in
    let stack = kept_stack (s.now.top + j) s.now m.stack t.now m1.stack x.kept in
    record {
      at = x.at;
      owes = refl;
      matches = x.matches;
      silent = silent;
      room = omega (arith, top, stack, room, enough);
      fuel = omega (arith, fuel, fewer);
    }

-- behind a statement the next one begins
pub arrives_begins : (st : Setting) (b : ℕ) (q : Spot) (k j need more : ℕ) (s : State) (m : Machine) (t : State) (m1 : Machine)
    → s.now.top + k + need ≤ s.now.stack → s.left ≤ b → Arrives st q j s.now m t m1 → t.left ≤ s.left → j + more ≤ k + need → Begins st b q j more t m1
arrives_begins st b q k j need more s m t m1 room fuel x fewer enough =
    let top = kept_top (s.now.top + j) s.now m.stack t.now m1.stack x.kept in
    let stack = kept_stack (s.now.top + j) s.now m.stack t.now m1.stack x.kept in
    record {
      at = x.at;
      matches = x.matches;
      coded = x.coded;
      room = omega (arith, top, stack, room, enough);
      fuel = omega (arith, fuel, fewer);
    }

-- ---- words of the machine

-- how many words the stack has
pub matched_length : (st : Setting) (d : Data) (m : Machine) (k n b : ℕ) → Matched st d m (k + n) → d.top ≡ b → length m.stack ≡ b + k + n
matched_length st d m k n b x top = let words = x.words in omega (arith, words, top)

-- the words of a value, from the top: the word at depth i is that which has i behind it
pub value_word : (st : Setting) (p : Spot) (n k i j : ℕ) (d : Data) (m : Machine) (vs : List ℕ) (s : State) (m1 : Machine) → IsValue st p n k d m vs s m1
    → i + j + 1 ≡ n → word i m1 ≡ slice_index vs j
value_word st p n k i j d m vs s m1 v count =
    let top = kept_top (d.top + k) d m.stack s.now m1.stack v.kept in
    let words = v.matches.words in
    let wide = v.wide in
    let place : length m1.stack - 1 - i ≡ d.top + k + j = omega (arith, top, words, count) in
    let low : j < length vs = omega (arith, wide, count) in
    ap (λ (a : ℕ). slice_index m1.stack a) place ∙ stand_at m1.stack vs (d.top + k) j low v.stand
