-- Reading a part comes to what is spelled there, unless it is too deep before the part's end.
use Rattle.std.proofs.Common.{ℕ, suc, ◌≡◌, ◌<◌, ◌≤◌, Bool, true, false, List, ◌∷◌, length, Option, Some, if◌then◌else◌, ap, ◌∙◌, refl, arith, ◌⊎◌, inl, inr, rules}
use Rattle.spl_reading.specs.spl_tree.declared.symbols.Symbol.{Symbol}
use Rattle.spl_reading.specs.spl_tree.declared.symbols.Symbol.TheVariants as s
use Rattle.spl_reading.specs.spl_tree.Symbols.{Lexeme, Is}
use Rattle.spl_reading.specs.Readers.{Outcome, Got, Bad, Parser, and_then, followed, pure, refuse, by_symbol, take, at_place, allowed, same_symbol, expect, numbered, named_number, turns, repeat}
use Rattle.spl_grammar.proofs.LocalReaders.{Taking, turns_enough}
pub use Rattle.spl_grammar.specs.Answers.{DeepBefore, deep}

-- Reading from ts on comes to the outcome, which goes on at m; or it is too deep before m.
pub record Near {A : Type 0} (p : Parser A) (ts m : List Lexeme) (y : Outcome A) : Type 0 where
  pub within : length m ≤ length ts
  pub outcome : (p ts ≡ y) ⊎ DeepBefore (length m) (p ts)

pub near_same : {A : Type 0} {p : Parser A} {ts m : List Lexeme} {y : Outcome A} → length m ≤ length ts → p ts ≡ y
    → Near p ts m y
near_same h e = record { within = h; outcome = inl e }

-- to an equal outcome
pub near_to : {A : Type 0} {p : Parser A} {ts m : List Lexeme} {y z : Outcome A} → Near p ts m y → y ≡ z → Near p ts m z
near_to {p = p} {ts = ts} {m = m} n e = rw (← e) n

-- by another reader that reads the same there
pub near_from : {A : Type 0} {p q : Parser A} {ts m : List Lexeme} {y : Outcome A} → p ts ≡ q ts → Near q ts m y
    → Near p ts m y
near_from {p = p} {q = q} {ts = ts} {m = m} {y = y} e n = record { within = n.within; outcome = go (p ts) e }
  where
    go : (o : Outcome _) → o ≡ q ts → (o ≡ y) ⊎ DeepBefore (length m) o
    go o f = rw f n.outcome

-- one part after another
then_near : {A B : Type 0} (f : A → Parser B) (a : A) (m r : List Lexeme) (y : Outcome B) (o : Outcome A)
    → (o ≡ Got a m) ⊎ DeepBefore (length m) o → length r ≤ length m → (f a m ≡ y) ⊎ DeepBefore (length r) (f a m)
    → (and_then o f ≡ y) ⊎ DeepBefore (length r) (and_then o f)
unfolding and_then
then_near f a m r y o (inl e) l (inl k) = inl (rw e k)
then_near f a m r y o (inl e) l (inr k) = inr (rw e k)
then_near f a m r y _ (inr (deep d)) l k = inr (deep (omega arith))

pub near_then : {A B : Type 0} {p : Parser A} (f : A → Parser B) {a : A} {ts m r : List Lexeme} {y : Outcome B}
    → Near p ts m (Got a m) → Near (f a) m r y → Near (followed p f) ts r y
unfolding followed
near_then {p = p} f {a = a} {ts = ts} {m = m} {r = r} {y = y} n k =
    let l = n.within in let j = k.within in
    record { within = omega arith; outcome = then_near f a m r y (p ts) n.outcome k.within k.outcome }

pub near_pure : {A : Type 0} (a : A) (ts : List Lexeme) → Near (pure a) ts ts (Got a ts)
unfolding pure
near_pure a ts = near_same (omega arith) refl

pub near_take : {t : Lexeme} {ts : List Lexeme} → Near take (t ∷ ts) ts (Got t ts)
unfolding take
near_take = near_same (omega arith) refl

pub near_place : {t : Lexeme} {ts : List Lexeme} → Near at_place (t ∷ ts) (t ∷ ts) (Got t.at (t ∷ ts))
unfolding at_place
near_place = near_same (omega arith) refl

pub near_symbol : {A : Type 0} (f : Symbol → Parser A) {k : Symbol} {t : Lexeme} {ts m : List Lexeme} {y : Outcome A}
    → Is k t
    → Near (f k) (t ∷ ts) m y → Near (by_symbol f) (t ∷ ts) m y
unfolding by_symbol
near_symbol f {t = t} {ts = ts} e n = near_from (ap (λ k. f k (t ∷ ts)) e) n

-- whatever the symbol is
pub near_head : {A : Type 0} (f : Symbol → Parser A) {t : Lexeme} {ts m : List Lexeme} {y : Outcome A}
    → Near (f t.symbol) (t ∷ ts) m y → Near (by_symbol f) (t ∷ ts) m y
near_head f n = near_symbol f refl n

-- a symbol is the same as itself
pub same_self : (k : Symbol) → same_symbol k k ≡ true
unfolding same_symbol
same_self k = search rules

pub near_if : {A : Type 0} {p : Parser A} (q : Parser A) {b : Bool} {ts m : List Lexeme} {y : Outcome A} → b ≡ true
    → Near p ts m y
    → Near (if b then p else q) ts m y
near_if q e n = rw e n

pub near_else : {A : Type 0} (p : Parser A) {q : Parser A} {b : Bool} {ts m : List Lexeme} {y : Outcome A} → b ≡ false
    → Near q ts m y
    → Near (if b then p else q) ts m y
near_else p e n = rw e n

pub near_expect : {k : Symbol} {t : Lexeme} {ts : List Lexeme} → Is k t → Near (expect k) (t ∷ ts) ts (Got t ts)
unfolding expect
near_expect {k = k} e = near_symbol _ e (near_if refuse (same_self k) near_take)

-- a token that opens a construct, where so many may be open
pub near_allowed : {A : Type 0} (b : Bool) (f : Lexeme → Parser A) {t : Lexeme} {ts m : List Lexeme} {y : Outcome A}
    → length m ≤ length ts
    → (b ≡ true → Near (f t) ts m y) → Near (followed (allowed b) f) (t ∷ ts) m y
unfolding followed allowed and_then take by_symbol
near_allowed true f h k = let n = k refl in record { within = omega arith; outcome = n.outcome }
near_allowed false f h k = record { within = omega arith; outcome = inr (deep (omega arith)) }

pub near_numbered : (table : List ℕ → Option ℕ) {n : ℕ} {t : Lexeme} {ts : List Lexeme} → Is s.Name t
    → table t.letters ≡ Some n
    → Near (named_number table) (t ∷ ts) ts (Got n ts)
unfolding named_number numbered followed and_then take pure
near_numbered table {n = n} {t = t} {ts = ts} e f = near_same (omega arith)
    (go (same_symbol t.symbol s.Name) (table t.letters)
    (ap (λ k. same_symbol k s.Name) e ∙ same_self s.Name) f)
  where
    go : (b : Bool) (o : Option ℕ) → b ≡ true → o ≡ Some n
        → (if b then numbered o (t ∷ ts) else Bad (t ∷ ts)) ≡ Got n ts
    go b o x y = rw (x, y) refl

-- one more turn of a loop that goes on
pub near_turn : {S : Type 0} {step : S → Parser (Bool × S)} {u v : S} {ts m r : List Lexeme} {y : Outcome S}
    → ((w : S) (us : List Lexeme) → Taking (length us) (step w us)) → length m < length ts
    → Near (step u) ts m (Got (true, v) m) → Near (repeat step v) m r y → Near (repeat step u) ts r y
unfolding repeat turns
near_turn {step = step} {u = u} {v = v} {ts = ts} {m = m} {r = r} {y = y} t h n k = near_from refl (go n k)
  where
    go : Near (step u) ts m (Got (true, v) m) → Near (repeat step v) m r y
        → Near (turns step (suc (length ts)) u) ts r y
    go n k = near_then _ n (near_from
        (turns_enough step t (length ts) (suc (length m)) v m (omega arith) (omega arith)) k)

-- the last turn
pub near_last : {S : Type 0} (step : S → Parser (Bool × S)) {u v : S} {ts m : List Lexeme}
    → Near (step u) ts m (Got (false, v) m) → Near (repeat step u) ts m (Got v m)
unfolding repeat turns
near_last step {u = u} {v = v} {ts = ts} {m = m} n = near_from refl (go n)
  where
    go : Near (step u) ts m (Got (false, v) m) → Near (turns step (suc (length ts)) u) ts m (Got v m)
    go n = near_then _ n (near_pure v m)
