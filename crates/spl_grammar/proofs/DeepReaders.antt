-- Reading is too deep before some place: what it takes for readers that are put together.
use Rattle.std.proofs.Common.{ℕ, suc, ◌≡◌, ◌<◌, ◌≤◌, Bool, true, false, List, ◌∷◌, length, if◌then◌else◌, refl, arith, ap, ◌⊎◌, inl, inr, nat_lt}
use Rattle.spl_reading.specs.spl_tree.declared.names_and_places.At.{At}
use Rattle.spl_reading.specs.spl_tree.declared.symbols.Symbol.{Symbol}
use Rattle.spl_reading.specs.spl_tree.declared.symbols.Symbol.TheVariants as s
use Rattle.spl_reading.specs.spl_tree.Symbols.{Lexeme, Is}
use Rattle.spl_reading.specs.Readers.{Outcome, Got, Bad, Deep, Parser, and_then, followed, pure, by_symbol, take, at_place, allowed, turns, repeat}
use Rattle.spl_reading.specs.ReadExpressions.{opening}
use Rattle.spl_grammar.proofs.LocalReaders.{IsLocal, end_of, Taking, turns_enough}
use Rattle.spl_grammar.proofs.NearReaders.{DeepBefore, deep, Near, near_then}
use Rattle.spl_grammar.proofs.ExpressionClaims.{near_opening, stays}

-- reading from ts on is too deep where more than n tokens are left
pub record Sinks {A : Type 0} (n : ℕ) (p : Parser A) (ts : List Lexeme) : Type 0 where
  pub sinks : DeepBefore n (p ts)

-- what is read before comes to one that is too deep
on_go : {A : Type 0} (n : ℕ) (m : List Lexeme) (o y : Outcome A) → (o ≡ y) ⊎ DeepBefore (length m) o → n ≤ length m
    → DeepBefore n y → DeepBefore n o
on_go n m o y (inl e) l d = rw e d
on_go n m _ y (inr (deep k)) l d = deep (omega arith)

-- and so the reader is
deep_on : {A : Type 0} {n : ℕ} {p : Parser A} {ts m : List Lexeme} {y : Outcome A} → Near p ts m y → n ≤ length m
    → DeepBefore n y → Sinks n p ts
deep_on {n = n} {p = p} {ts = ts} {m = m} {y = y} a l d = record { sinks = on_go n m (p ts) y a.outcome l d }

-- one reader that comes to another
pub sink_on : {A : Type 0} {n : ℕ} {p q : Parser A} {ts m : List Lexeme} → Near p ts m (q m) → n ≤ length m
    → Sinks n q m → Sinks n p ts
sink_on a l d = deep_on a l d.sinks

-- a reader that reads the same
pub sink_from : {A : Type 0} {n : ℕ} {p q : Parser A} {ts : List Lexeme} → p ts ≡ q ts → Sinks n q ts → Sinks n p ts
sink_from e d = record { sinks = rw e d.sinks }

-- the first of two parts, and the second
then_go : {A B : Type 0} (n : ℕ) (f : A → Parser B) (o : Outcome A) → DeepBefore n o → DeepBefore n (and_then o f)
unfolding and_then
then_go n f _ (deep l) = deep l

-- the first of two parts sinks
pub sink_then : {A B : Type 0} {n : ℕ} {p : Parser A} (f : A → Parser B) {ts : List Lexeme} → Sinks n p ts
    → Sinks n (followed p f) ts
unfolding followed
sink_then {n = n} {p = p} f {ts = ts} d = record { sinks = then_go n f (p ts) d.sinks }

-- the second of two parts sinks
pub sink_behind : {A B : Type 0} {n : ℕ} {p : Parser A} (f : A → Parser B) {a : A} {ts m : List Lexeme}
    → Near p ts m (Got a m) → n ≤ length m → Sinks n (f a) m → Sinks n (followed p f) ts
sink_behind f a l d = deep_on (near_then f a stays) l d.sinks

-- choices
pub sink_symbol : {A : Type 0} {n : ℕ} (f : Symbol → Parser A) {k : Symbol} {t : Lexeme} {ts : List Lexeme} → Is k t
    → Sinks n (f k) (t ∷ ts) → Sinks n (by_symbol f) (t ∷ ts)
unfolding by_symbol
sink_symbol f {t = t} {ts = ts} e d = sink_from (ap (λ k. f k (t ∷ ts)) e) d

-- a choice by whatever symbol
pub sink_head : {A : Type 0} {n : ℕ} (f : Symbol → Parser A) {t : Lexeme} {ts : List Lexeme}
    → Sinks n (f t.symbol) (t ∷ ts) → Sinks n (by_symbol f) (t ∷ ts)
sink_head f d = sink_symbol f refl d

-- a choice whose test holds
pub sink_if : {A : Type 0} {n : ℕ} {p : Parser A} (q : Parser A) {b : Bool} {ts : List Lexeme} → b ≡ true
    → Sinks n p ts → Sinks n (if b then p else q) ts
sink_if q e d = rw e d

-- a choice whose test fails
pub sink_else : {A : Type 0} {n : ℕ} (p : Parser A) {q : Parser A} {b : Bool} {ts : List Lexeme} → b ≡ false
    → Sinks n q ts → Sinks n (if b then p else q) ts
sink_else p e d = rw e d

-- tokens that are taken
pub sink_place : {A : Type 0} {n : ℕ} (f : At → Parser A) {t : Lexeme} {ts : List Lexeme} → Sinks n (f t.at) (t ∷ ts)
    → Sinks n (followed at_place f) (t ∷ ts)
unfolding followed at_place and_then
sink_place f d = record { sinks = d.sinks }

-- behind a token
pub sink_take : {A : Type 0} {n : ℕ} (f : Lexeme → Parser A) {t : Lexeme} {ts : List Lexeme} → Sinks n (f t) ts
    → Sinks n (followed take f) (t ∷ ts)
unfolding followed take and_then
sink_take f d = record { sinks = d.sinks }

-- a token that opens a construct
pub sink_allowed : {A : Type 0} {n : ℕ} (b : Bool) (f : Lexeme → Parser A) {t : Lexeme} {ts : List Lexeme}
    → n ≤ length ts → (b ≡ true → Sinks n (f t) ts) → Sinks n (followed (allowed b) f) (t ∷ ts)
unfolding followed allowed and_then take by_symbol
sink_allowed true f l d = record { sinks = (d refl).sinks }
sink_allowed false f l d = record { sinks = deep (omega arith) }

-- behind a parenthesis
pub sink_opening : {A : Type 0} {n : ℕ} (room taken : ℕ) (f : Lexeme → Parser A) {o : Lexeme} {ts : List Lexeme}
    → Is s.Open o → n ≤ length ts → (nat_lt taken room ≡ true → Sinks n (f o) ts)
    → Sinks n (followed (opening room taken) f) (o ∷ ts)
sink_opening {A} {n = n} room taken f {o = o} {ts = ts} i l d = go (nat_lt taken room) refl
  where
    go : (b : Bool) → nat_lt taken room ≡ b → Sinks n (followed (opening room taken) f) (o ∷ ts)
    go true e = sink_on {q = f o} (near_opening room taken f i (omega arith) (λ ok. stays)) l (d e)
    go false e = deep_on {y = Deep (o ∷ ts)} (near_opening room taken f {m = ts} i (omega arith) (λ ok. cc)) l
        (deep (omega arith))

-- what is refused is not too deep
not_both : {A B : Type 0} (n : ℕ) (us : List Lexeme) (o : Outcome A) → o ≡ Bad us → DeepBefore n o → B
not_both n us _ e (deep l) = cc

-- a reader that refuses does not sink
pub not_bad : {A B : Type 0} {n : ℕ} {p : Parser A} {ts us : List Lexeme} → p ts ≡ Bad us → Sinks n p ts → B
not_bad {n = n} {p = p} {ts = ts} {us = us} e d = not_both n us (p ts) e d.sinks

-- what is too deep has a token
shorter_go : {A : Type 0} {n : ℕ} (o : Outcome A) → DeepBefore n o → n < length (end_of o)
shorter_go _ (deep l) = l

-- where a reader sinks there is a token
pub sink_shorter : {A : Type 0} {n : ℕ} {p : Parser A} {ts : List Lexeme} → IsLocal p → Sinks n p ts → n < length ts
sink_shorter {p = p} {ts = ts} l d = let a = shorter_go (p ts) d.sinks in let b = l.shrinks ts in omega arith

-- a loop, in its first turn
pub sink_turn : {S : Type 0} {n : ℕ} (step : S → Parser (Bool × S)) {u : S} {ts : List Lexeme} → Sinks n (step u) ts
    → Sinks n (repeat step u) ts
unfolding repeat turns
sink_turn {n = n} step {u = u} {ts = ts} d = record { sinks = go d }
  where
    go : Sinks n (step u) ts → DeepBefore n (turns step (suc (length ts)) u ts)
    go d = (sink_then _ d).sinks

-- a loop, behind the token of its turn: what its turn begins with, and then the loop
abbrev pub goes_on : {S : Type 0} → S → Bool × S
goes_on u = (true, u)

-- by the outcome of what the turn begins with
next_go : {S A : Type 0} (n : ℕ) (step : S → Parser (Bool × S))
    → ((w : S) (us : List Lexeme) → Taking (length us) (step w us)) → (g : A → S) (m : ℕ) (o : Outcome A)
    → length (end_of o) < m → DeepBefore n (and_then o (λ e. repeat step (g e)))
    → DeepBefore n (and_then (and_then o (λ e. pure (goes_on (g e)))) (λ r. if r.0 then turns step m r.1 else pure r.1))
unfolding and_then repeat pure
next_go n step t g m (Got a rest) l d =
    rw (turns_enough step t m (suc (length rest)) (g a) rest l (omega arith)) d
next_go n step t g m (Bad rest) l d = elim d [ ]
next_go n step t g m (Deep rest) l d = d

-- the next turn of a loop sinks
pub sink_next : {S A : Type 0} {n : ℕ} (step : S → Parser (Bool × S)) (q : Parser A) (g : A → S) {u : S} {k : Lexeme}
    {mid : List Lexeme} → ((w : S) (us : List Lexeme) → Taking (length us) (step w us)) → IsLocal q
    → step u (k ∷ mid) ≡ followed q (λ e. pure (goes_on (g e))) mid
    → Sinks n (followed q (λ e. repeat step (g e))) mid
    → Sinks n (repeat step u) (k ∷ mid)
unfolding repeat turns followed
sink_next {n = n} step q g {u = u} {k = k} {mid = mid} t l e d = record {
  sinks = rw e
      (next_go n step t g (suc (length mid)) (q mid) (let a = l.shrinks mid in omega arith) d.sinks);
}
