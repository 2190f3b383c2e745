-- Reading a part comes to what is spelled there, or goes on over the token behind it, or is too deep: that token is
-- not
-- refused.
use Rattle.std.proofs.Common.{ℕ, zero, suc, ◌≡◌, ◌<◌, ◌≤◌, Bool, true, false, List, ◌∷◌, length, if◌then◌else◌, refl, arith, ap, ◌⊎◌, inl, inr}
use Rattle.spl_grammar.specs.spl_tree.declared.symbols.Symbol.{Symbol}
use Rattle.spl_grammar.specs.spl_tree.Symbols.{Lexeme, Is}
use Rattle.spl_grammar.specs.spl_reading.Readers.{Outcome, Got, Bad, Deep, Parser, and_then, followed, pure, by_symbol, take, allowed, turns, repeat}
use Rattle.spl_grammar.proofs.LocalReaders.{IsLocal, end_of, Taking, turns_enough, local_refuse, local_pure, local_then, local_if}
use Rattle.spl_grammar.proofs.NearReaders.{DeepBefore, deep, Near}

-- Reading stops where fewer than n tokens are left, or is too deep where at least so many are.
pub data Leaves {A : Type 0} (n : ℕ) : Outcome A → Type 0 where
  past : {o : Outcome A} → length (end_of o) < n → Leaves n o
  sunk : {rest : List Lexeme} → n ≤ length rest → Leaves n (Deep rest)

-- Reading from ts on comes to a at m, or it leaves those tokens.
pub record Close {A : Type 0} (p : Parser A) (ts m : List Lexeme) (a : A) : Type 0 where
  pub within : length m ≤ length ts
  pub outcome : (p ts ≡ Got a m) ⊎ Leaves (length m) (p ts)

-- what is read exactly, or too deep before
sinks : {A : Type 0} (n : ℕ) (o : Outcome A) → DeepBefore n o → Leaves n o
sinks n _ (deep l) = sunk (omega arith)

near_go : {A : Type 0} (a : A) (m : List Lexeme) (o : Outcome A) → (o ≡ Got a m) ⊎ DeepBefore (length m) o
    → (o ≡ Got a m) ⊎ Leaves (length m) o
near_go a m o (inl e) = inl e
near_go a m o (inr d) = inr (sinks (length m) o d)

pub close_near : {A : Type 0} {p : Parser A} {ts m : List Lexeme} {a : A} → Near p ts m (Got a m) → Close p ts m a
close_near {p = p} {ts = ts} {m = m} {a = a} n = record { within = n.within; outcome = near_go a m (p ts) n.outcome }

-- another reader that reads the same there
pub close_from : {A : Type 0} {p q : Parser A} {ts m : List Lexeme} {a : A} → p ts ≡ q ts → Close q ts m a
    → Close p ts m a
close_from {p = p} {q = q} {ts = ts} {m = m} {a = a} e n = record { within = n.within; outcome = go (p ts) e }
  where
    go : (o : Outcome _) → o ≡ q ts → (o ≡ Got a m) ⊎ Leaves (length m) o
    go o f = rw f n.outcome

-- an equal answer
pub close_to : {A : Type 0} {p : Parser A} {ts m : List Lexeme} {a b : A} → Close p ts m a → a ≡ b → Close p ts m b
close_to n e = rw (← e) n

-- one reading goes on as the next
on_go : {A : Type 0} (m r : List Lexeme) (a : A) (o y : Outcome A) → length r ≤ length m
    → (o ≡ y) ⊎ DeepBefore (length m) o
    → (y ≡ Got a r) ⊎ Leaves (length r) y → (o ≡ Got a r) ⊎ Leaves (length r) o
on_go m r a o y l (inl e) k = rw e k
on_go m r a _ y l (inr (deep d)) k = inr (sunk (omega arith))

pub close_on : {A : Type 0} {p q : Parser A} {ts m r : List Lexeme} {a : A} → Near p ts m (q m) → Close q m r a
    → Close p ts r a
close_on {p = p} {q = q} {ts = ts} {m = m} {r = r} {a = a} n k = let l = n.within in let j = k.within in
    record { within = omega arith; outcome = on_go m r a (p ts) (q m) k.within n.outcome k.outcome }

-- a part that is read whole, and then one that may go on
then_go : {A B : Type 0} (f : A → Parser B) (a : A) (m r : List Lexeme) (b : B) (o : Outcome A)
    → (o ≡ Got a m) ⊎ DeepBefore (length m) o → length r ≤ length m → (f a m ≡ Got b r) ⊎ Leaves (length r) (f a m)
    → (and_then o f ≡ Got b r) ⊎ Leaves (length r) (and_then o f)
unfolding and_then
then_go f a m r b o (inl e) l k = rw e k
then_go f a m r b _ (inr (deep d)) l k = inr (sunk (omega arith))

pub close_then : {A B : Type 0} {p : Parser A} (f : A → Parser B) {a : A} {b : B} {ts m r : List Lexeme}
    → Near p ts m (Got a m) → Close (f a) m r b → Close (followed p f) ts r b
unfolding followed
close_then {p = p} f {a = a} {b = b} {ts = ts} {m = m} {r = r} n k = let l = n.within in let j = k.within in
    record { within = omega arith; outcome = then_go f a m r b (p ts) n.outcome k.within k.outcome }

-- a part that may go on, and then one that may do so too
behind_go : {A B : Type 0} (f : A → Parser B) (a : A) (m : List Lexeme) (b : B) → ((a : A) → IsLocal (f a))
    → (o : Outcome A)
    → (o ≡ Got a m) ⊎ Leaves (length m) o → (f a m ≡ Got b m) ⊎ Leaves (length m) (f a m)
    → (and_then o f ≡ Got b m) ⊎ Leaves (length m) (and_then o f)
unfolding and_then
behind_go f a m b l o (inl e) k = rw e k
behind_go f a m b l (Got x rest) (inr (past h)) k = inr (past (let s = (l x).shrinks rest in omega arith))
behind_go f a m b l (Bad rest) (inr (past h)) k = inr (past h)
behind_go f a m b l (Deep rest) (inr (past h)) k = inr (past h)
behind_go f a m b l _ (inr (sunk h)) k = inr (sunk h)

pub close_both : {A B : Type 0} {p : Parser A} {f : A → Parser B} {a : A} {b : B} {ts m : List Lexeme}
    → ((a : A) → IsLocal (f a)) → Close p ts m a → Close (f a) m m b → Close (followed p f) ts m b
unfolding followed
close_both {p = p} {f = f} {a = a} {b = b} {ts = ts} {m = m} l n k = record {
  within = n.within;
  outcome = behind_go f a m b l (p ts) n.outcome k.outcome;
}

pub close_pure : {A : Type 0} (a : A) (ts : List Lexeme) → Close (pure a) ts ts a
unfolding pure
close_pure a ts = record { within = omega arith; outcome = inl refl }

-- choices
pub close_symbol : {A : Type 0} (f : Symbol → Parser A) {k : Symbol} {t : Lexeme} {ts m : List Lexeme} {a : A}
    → Is k t
    → Close (f k) (t ∷ ts) m a → Close (by_symbol f) (t ∷ ts) m a
unfolding by_symbol
close_symbol f {t = t} {ts = ts} e n = close_from (ap (λ k. f k (t ∷ ts)) e) n

pub close_head : {A : Type 0} (f : Symbol → Parser A) {t : Lexeme} {ts m : List Lexeme} {a : A}
    → Close (f t.symbol) (t ∷ ts) m a → Close (by_symbol f) (t ∷ ts) m a
close_head f n = close_symbol f refl n

pub close_if : {A : Type 0} {p : Parser A} (q : Parser A) {b : Bool} {ts m : List Lexeme} {a : A} → b ≡ true
    → Close p ts m a → Close (if b then p else q) ts m a
close_if q e n = rw e n

pub close_else : {A : Type 0} (p : Parser A) {q : Parser A} {b : Bool} {ts m : List Lexeme} {a : A} → b ≡ false
    → Close q ts m a → Close (if b then p else q) ts m a
close_else p e n = rw e n

pub close_either : {A : Type 0} {p q : Parser A} (b : Bool) {ts m : List Lexeme} {a : A} → Close p ts m a
    → Close q ts m a → Close (if b then p else q) ts m a
close_either true n k = n
close_either false n k = k

-- a token that opens a construct or is an operator, where so many may be
pub close_allowed : {A : Type 0} (b : Bool) (f : Lexeme → Parser A) {t : Lexeme} {ts m : List Lexeme} {a : A}
    → length m ≤ length ts → (b ≡ true → Close (f t) ts m a) → Close (followed (allowed b) f) (t ∷ ts) m a
unfolding followed allowed and_then take by_symbol
close_allowed true f h k = let n = k refl in record { within = omega arith; outcome = n.outcome }
close_allowed false f h k = record { within = omega arith; outcome = inr (sunk (omega arith)) }

-- Reading goes on over the first token of the list, or is too deep there.
pub record Moves {A : Type 0} (p : Parser A) (ts : List Lexeme) : Type 0 where
  pub moves : Leaves (length ts) (p ts)

pub moves_take : {t : Lexeme} {ts : List Lexeme} → Moves take (t ∷ ts)
unfolding take
moves_take = record { moves = past (omega arith) }

pub moves_allowed : (b : Bool) {t : Lexeme} {ts : List Lexeme} → Moves (allowed b) (t ∷ ts)
unfolding allowed by_symbol
moves_allowed true = moves_take
moves_allowed false = record { moves = sunk (omega arith) }

-- by the first symbol, and by a test
pub moves_head : {A : Type 0} (f : Symbol → Parser A) {t : Lexeme} {ts : List Lexeme} → Moves (f t.symbol) (t ∷ ts)
    → Moves (by_symbol f) (t ∷ ts)
unfolding by_symbol
moves_head f h = record { moves = h.moves }

pub moves_if : {A : Type 0} {p : Parser A} (q : Parser A) {b : Bool} {ts : List Lexeme} → b ≡ true → Moves p ts
    → Moves (if b then p else q) ts
moves_if q e h = rw e h

moves_go : {A B : Type 0} (n : ℕ) (f : A → Parser B) → ((a : A) → IsLocal (f a)) → (o : Outcome A) → Leaves n o
    → Leaves n (and_then o f)
unfolding and_then
moves_go n f l (Got a rest) (past h) = past (let s = (l a).shrinks rest in omega arith)
moves_go n f l (Bad rest) (past h) = past h
moves_go n f l (Deep rest) (past h) = past h
moves_go n f l _ (sunk h) = sunk h

pub moves_then : {A B : Type 0} {p : Parser A} {f : A → Parser B} {ts : List Lexeme} → ((a : A) → IsLocal (f a))
    → Moves p ts → Moves (followed p f) ts
unfolding followed
moves_then {p = p} {f = f} {ts = ts} l h = record { moves = moves_go (length ts) f l (p ts) h.moves }

-- so that token is not refused
pub close_moves : {A : Type 0} {p : Parser A} {ts : List Lexeme} {a : A} → Moves p ts → Close p ts ts a
close_moves {ts = ts} h = record { within = omega arith; outcome = inr h.moves }

-- Loops.

turns_local : {S : Type 0} (step : S → Parser (Bool × S)) → ((s : S) → IsLocal (step s)) → (n : ℕ) (s : S)
    → IsLocal (turns step n s)
unfolding turns
turns_local step l zero s = local_refuse
turns_local step l (suc n) s = local_then (l s) (λ r. local_if r.0 (turns_local step l n r.1) (local_pure r.1))

-- what follows a turn
next_local : {S : Type 0} (step : S → Parser (Bool × S)) → ((s : S) → IsLocal (step s)) → (n : ℕ) (r : Bool × S)
    → IsLocal (if r.0 then turns step n r.1 else pure r.1)
next_local step l n r = local_if r.0 (turns_local step l n r.1) (local_pure r.1)

-- a turn that goes on
pub close_turn : {S : Type 0} {step : S → Parser (Bool × S)} {u v w : S} {ts m r : List Lexeme}
    → ((w : S) (us : List Lexeme) → Taking (length us) (step w us)) → length m < length ts
    → Near (step u) ts m (Got (true, v) m) → Close (repeat step v) m r w → Close (repeat step u) ts r w
unfolding repeat turns
close_turn {step = step} {u = u} {v = v} {w = w} {ts = ts} {m = m} {r = r} t h n k = close_from refl (go n k)
  where
    go : Near (step u) ts m (Got (true, v) m) → Close (repeat step v) m r w
        → Close (turns step (suc (length ts)) u) ts r w
    go n k = close_then _ n (close_from
        (turns_enough step t (length ts) (suc (length m)) v m (omega arith) (omega arith)) k)

-- a turn that may go on itself, and then the loop where it ends
pub close_last_turn : {S : Type 0} {step : S → Parser (Bool × S)} {u v : S} {ts m : List Lexeme}
    → ((s : S) → IsLocal (step s)) → ((w : S) (us : List Lexeme) → Taking (length us) (step w us))
    → length m < length ts
    → Close (step u) ts m (true, v) → Close (repeat step v) m m v → Close (repeat step u) ts m v
unfolding repeat turns
close_last_turn {step = step} {u = u} {v = v} {ts = ts} {m = m} l t h n k = close_from refl (go n k)
  where
    go : Close (step u) ts m (true, v) → Close (repeat step v) m m v → Close (turns step (suc (length ts)) u) ts m v
    go n k = close_both (next_local step l (length ts)) n (close_from
        (turns_enough step t (length ts) (suc (length m)) v m (omega arith) (omega arith)) k)

-- the last turn
pub close_last : {S : Type 0} (step : S → Parser (Bool × S)) {u v : S} {ts m : List Lexeme} → ((s : S)
    → IsLocal (step s))
    → Close (step u) ts m (false, v) → Close (repeat step u) ts m v
unfolding repeat turns
close_last step {u = u} {v = v} {ts = ts} {m = m} l n = close_from refl (go n)
  where
    go : Close (step u) ts m (false, v) → Close (turns step (suc (length ts)) u) ts m v
    go n = close_both (next_local step l (length ts)) n (close_pure v m)
