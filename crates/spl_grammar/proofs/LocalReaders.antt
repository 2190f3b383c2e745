-- What a reader answers depends on no token behind the one that it stops at. Stated of two lists that agree up to a
-- token.
use Rattle.std.proofs.Common.{ℕ, zero, suc, ◌+◌, ◌≡◌, ◌<◌, ◌≤◌, Bool, true, false, List, [], ◌∷◌, length, Option, Some, None, if◌then◌else◌, refl, arith, ◌⊎◌, inl, inr}
use Rattle.spl_reading.specs.spl_tree.declared.symbols.Symbol.{Symbol}
use Rattle.spl_reading.specs.spl_tree.declared.symbols.Symbol.TheVariants as s
use Rattle.spl_reading.specs.spl_tree.Symbols.{Lexeme}
use Rattle.spl_reading.specs.Readers.{Outcome, Got, Bad, Deep, Parser, and_then, followed, pure, refuse, by_symbol, take, at_place, allowed, same_symbol, expect, numbered, named_number, turns, repeat}
pub use Rattle.spl_grammar.specs.Answers.{Agrees, here, there, end_of}

-- the two outcomes are alike, unless the first is past the tokens that agree
pub data Like {A : Type 0} (us vs : List Lexeme) : Outcome A → Outcome A → Type 0 where
  got : {a : A} {ts more : List Lexeme} → Agrees us vs ts more → Like us vs (Got a ts) (Got a more)
  bad : {ts more : List Lexeme} → Agrees us vs ts more → Like us vs (Bad ts) (Bad more)
  deep : {ts more : List Lexeme} → Agrees us vs ts more → Like us vs (Deep ts) (Deep more)
  past : {o p : Outcome A} → length (end_of o) ≤ length us → Like us vs o p

-- the first list is what is left of the second behind some of its tokens
pub data Left : List Lexeme → List Lexeme → Type 0 where
  entire : {ts : List Lexeme} → Left ts ts
  cut : {t : Lexeme} {us ts : List Lexeme} → Left us ts → Left us (t ∷ ts)

pub left_then : {us vs ts : List Lexeme} → Left us vs → Left vs ts → Left us ts
left_then a entire = a
left_then a (cut b) = cut (left_then a b)

-- The reader gives back no token, stops in its list, and is alike on lists that agree.
pub record IsLocal {A : Type 0} (p : Parser A) : Type 0 where
  pub shrinks : (ts : List Lexeme) → length (end_of (p ts)) ≤ length ts
  pub left : (ts : List Lexeme) → Left (end_of (p ts)) ts
  pub alike : (us vs ts more : List Lexeme) → Agrees us vs ts more → Like us vs (p ts) (p more)

pub local_pure : {A : Type 0} (a : A) → IsLocal (pure a)
unfolding pure
local_pure a = record { shrinks = λ ts. omega arith; left = λ ts. entire; alike = λ us vs ts more h. got h }

pub local_refuse : {A : Type 0} → IsLocal (refuse {A = A})
unfolding refuse
local_refuse = record { shrinks = λ ts. omega arith; left = λ ts. entire; alike = λ us vs ts more h. bad h }

private_take_shrinks : (ts : List Lexeme) → length (end_of (take ts)) ≤ length ts
unfolding take
private_take_shrinks [] = omega arith
private_take_shrinks (t ∷ ts) = omega arith

private_take_left : (ts : List Lexeme) → Left (end_of (take ts)) ts
unfolding take
private_take_left [] = entire
private_take_left (t ∷ ts) = cut entire

private_take_alike : (us vs ts more : List Lexeme) → Agrees us vs ts more → Like us vs (take ts) (take more)
unfolding take
private_take_alike us vs ts more here = past (omega arith)
private_take_alike us vs ts more (there h) = got h

pub local_take : IsLocal take
local_take = record { shrinks = private_take_shrinks; left = private_take_left; alike = private_take_alike }

place_shrinks : (ts : List Lexeme) → length (end_of (at_place ts)) ≤ length ts
unfolding at_place
place_shrinks [] = omega arith
place_shrinks (t ∷ ts) = omega arith

place_left : (ts : List Lexeme) → Left (end_of (at_place ts)) ts
unfolding at_place
place_left [] = entire
place_left (t ∷ ts) = entire

place_alike : (us vs ts more : List Lexeme) → Agrees us vs ts more → Like us vs (at_place ts) (at_place more)
unfolding at_place
place_alike us vs ts more here = got here
place_alike us vs ts more (there h) = got (there h)

pub local_place : IsLocal at_place
local_place = record { shrinks = place_shrinks; left = place_left; alike = place_alike }

-- one part after another
then_shrinks : {A B : Type 0} (f : A → Parser B) (n : ℕ) → ((a : A) → IsLocal (f a)) → (o : Outcome A)
    → length (end_of o) ≤ n
    → length (end_of (and_then o f)) ≤ n
unfolding and_then
then_shrinks f n l (Got a rest) h = let s = (l a).shrinks rest in omega arith
then_shrinks f n l (Bad rest) h = h
then_shrinks f n l (Deep rest) h = h

then_left : {A B : Type 0} (f : A → Parser B) (ts : List Lexeme) → ((a : A) → IsLocal (f a)) → (o : Outcome A)
    → Left (end_of o) ts → Left (end_of (and_then o f)) ts
unfolding and_then
then_left f ts l (Got a rest) h = left_then ((l a).left rest) h
then_left f ts l (Bad rest) h = h
then_left f ts l (Deep rest) h = h

then_alike : {A B : Type 0} (f : A → Parser B) (us vs : List Lexeme) → ((a : A) → IsLocal (f a)) → (o p : Outcome A)
    → Like us vs o p
    → Like us vs (and_then o f) (and_then p f)
unfolding and_then
then_alike f us vs l _ _ (got {a = a} h) = (l a).alike us vs _ _ h
then_alike f us vs l _ _ (bad h) = bad h
then_alike f us vs l _ _ (deep h) = deep h
then_alike f us vs l o p (past h) = past (then_shrinks f _ l o h)

pub local_then : {A B : Type 0} {p : Parser A} {f : A → Parser B} → IsLocal p → ((a : A) → IsLocal (f a))
    → IsLocal (followed p f)
unfolding followed
local_then {p = p} {f = f} l m = record {
  shrinks = λ ts. then_shrinks f _ m (p ts) (l.shrinks ts);
  left = λ ts. then_left f ts m (p ts) (l.left ts);
  alike = λ us vs ts more h. then_alike f us vs m (p ts) (p more) (l.alike us vs ts more h);
}

-- a choice by the first symbol
symbol_shrinks : {A : Type 0} (f : Symbol → Parser A) → ((k : Symbol) → IsLocal (f k)) → (ts : List Lexeme)
    → length (end_of (by_symbol f ts)) ≤ length ts
unfolding by_symbol
symbol_shrinks f l [] = omega arith
symbol_shrinks f l (t ∷ ts) = (l t.symbol).shrinks (t ∷ ts)

symbol_left : {A : Type 0} (f : Symbol → Parser A) → ((k : Symbol) → IsLocal (f k)) → (ts : List Lexeme)
    → Left (end_of (by_symbol f ts)) ts
unfolding by_symbol
symbol_left f l [] = entire
symbol_left f l (t ∷ ts) = (l t.symbol).left (t ∷ ts)

symbol_alike : {A : Type 0} (f : Symbol → Parser A) → ((k : Symbol) → IsLocal (f k)) → (us vs ts more : List Lexeme)
    → Agrees us vs ts more → Like us vs (by_symbol f ts) (by_symbol f more)
unfolding by_symbol
symbol_alike f l us vs _ _ (here {t = t}) = (l t.symbol).alike us vs _ _ here
symbol_alike f l us vs _ _ (there {t = t} h) = (l t.symbol).alike us vs _ _ (there h)

pub local_symbol : {A : Type 0} {f : Symbol → Parser A} → ((k : Symbol) → IsLocal (f k)) → IsLocal (by_symbol f)
local_symbol {f = f} l = record { shrinks = symbol_shrinks f l; left = symbol_left f l; alike = symbol_alike f l }

-- a choice by a test
pub local_if : {A : Type 0} {p q : Parser A} (b : Bool) → IsLocal p → IsLocal q → IsLocal (if b then p else q)
local_if true l m = l
local_if false l m = m

pub local_deep : {A : Type 0} → IsLocal {A = A} (λ ts. Deep ts)
local_deep = record { shrinks = λ ts. omega arith; left = λ ts. entire; alike = λ us vs ts more h. deep h }

pub local_allowed : (b : Bool) → IsLocal (allowed b)
unfolding allowed
local_allowed true = local_take
local_allowed false = local_symbol (λ k. local_deep)

pub local_expect : (k : Symbol) → IsLocal (expect k)
unfolding expect
local_expect k = local_symbol (λ found. local_if (same_symbol found k) local_take local_refuse)

local_numbered : (o : Option ℕ) → IsLocal (numbered o)
unfolding numbered
local_numbered None = local_refuse
local_numbered (Some n) = local_then local_take (λ _. local_pure n)

local_bad : {A : Type 0} → IsLocal {A = A} (λ ts. Bad ts)
local_bad = record { shrinks = λ ts. omega arith; left = λ ts. entire; alike = λ us vs ts more h. bad h }

named_at : (table : List ℕ → Option ℕ) (t : Lexeme)
    → IsLocal (λ ts. if same_symbol t.symbol s.Name then numbered (table t.letters) ts else Bad ts)
named_at table t = go (same_symbol t.symbol s.Name)
  where
    go : (b : Bool) → IsLocal (λ ts. if b then numbered (table t.letters) ts else Bad ts)
    go true = local_numbered (table t.letters)
    go false = local_bad

named_shrinks : (table : List ℕ → Option ℕ) (ts : List Lexeme) → length (end_of (named_number table ts)) ≤ length ts
unfolding named_number
named_shrinks table [] = omega arith
named_shrinks table (t ∷ ts) = (named_at table t).shrinks (t ∷ ts)

named_left : (table : List ℕ → Option ℕ) (ts : List Lexeme) → Left (end_of (named_number table ts)) ts
unfolding named_number
named_left table [] = entire
named_left table (t ∷ ts) = (named_at table t).left (t ∷ ts)

named_alike : (table : List ℕ → Option ℕ) (us vs ts more : List Lexeme) → Agrees us vs ts more
    → Like us vs (named_number table ts) (named_number table more)
unfolding named_number
named_alike table us vs _ _ (here {t = t}) = (named_at table t).alike us vs _ _ here
named_alike table us vs _ _ (there {t = t} h) = (named_at table t).alike us vs _ _ (there h)

pub local_named : (table : List ℕ → Option ℕ) → IsLocal (named_number table)
local_named table = record { shrinks = named_shrinks table; left = named_left table; alike = named_alike table }

-- Loops.

-- a part that takes a token
pub data Shorter {A : Type 0} (n : ℕ) : Outcome A → Type 0 where
  got : {a : A} {rest : List Lexeme} → length rest < n → Shorter n (Got a rest)
  bad : {rest : List Lexeme} → Shorter n (Bad rest)
  deep : {rest : List Lexeme} → Shorter n (Deep rest)

-- a turn that takes a token where another turn follows
pub data Taking {S : Type 0} (n : ℕ) : Outcome (Bool × S) → Type 0 where
  stop : {s : S} {rest : List Lexeme} → Taking n (Got (false, s) rest)
  goes : {b : Bool} {s : S} {rest : List Lexeme} → length rest < n → Taking n (Got (b, s) rest)
  bad : {rest : List Lexeme} → Taking n (Bad rest)
  deep : {rest : List Lexeme} → Taking n (Deep rest)

abbrev pub Takes : {A : Type 0} → Parser A → Type 0
Takes p = (ts : List Lexeme) → Shorter (length ts) (p ts)

-- what follows a turn is the same, where it is the same behind each that goes on
then_same : {S : Type 0} (p q : Bool × S → Parser S) (n : ℕ) (o : Outcome (Bool × S)) → Taking n o
    → ((b : Bool) (s : S) (rest : List Lexeme) → (b ≡ false) ⊎ (length rest < n) → p (b, s) rest ≡ q (b, s) rest)
    → and_then o p ≡ and_then o q
unfolding and_then
then_same p q n _ (stop {s = s} {rest = rest}) h = h false s rest (inl refl)
then_same p q n _ (goes {b = b} {s = s} {rest = rest} l) h = h b s rest (inr l)
then_same p q n _ bad h = refl
then_same p q n _ deep h = refl

-- with more turns than there are tokens, no further turn changes what is read
pub turns_enough : {S : Type 0} (step : S → Parser (Bool × S))
    → ((s : S) (ts : List Lexeme) → Taking (length ts) (step s ts))
    → (n m : ℕ) (s : S) (ts : List Lexeme) → length ts < n → length ts < m → turns step n s ts ≡ turns step m s ts
unfolding turns followed pure
turns_enough step t zero m s ts h g = absurd (omega arith)
turns_enough step t (suc n) zero s ts h g = absurd (omega arith)
turns_enough {S} step t (suc n) (suc m) s ts h g = then_same _ _ (length ts) (step s ts) (t s ts)
    (next (turns_enough step t n m))
  where
    next : ((u : S) (rest : List Lexeme) → length rest < n → length rest < m
        → turns step n u rest ≡ turns step m u rest)
        → (b : Bool) (u : S) (rest : List Lexeme) → (b ≡ false) ⊎ (length rest < length ts)
        → (if b then turns step n u else pure u) rest ≡ (if b then turns step m u else pure u) rest
    next same false u rest l = refl
    next same true u rest (inl e) = cc
    next same true u rest (inr l) = same u rest (omega arith) (omega arith)

local_turns : {S : Type 0} (step : S → Parser (Bool × S)) → ((s : S) → IsLocal (step s)) → (n : ℕ) (s : S)
    → IsLocal (turns step n s)
unfolding turns
local_turns step l zero s = local_refuse
local_turns step l (suc n) s = local_then (l s) (λ r. local_if r.0 (local_turns step l n r.1) (local_pure r.1))

repeat_alike : {S : Type 0} (step : S → Parser (Bool × S)) → ((s : S) → IsLocal (step s))
    → ((s : S) (ts : List Lexeme) → Taking (length ts) (step s ts)) → (s : S)
    → (us vs ts more : List Lexeme) → Agrees us vs ts more → Like us vs (repeat step s ts) (repeat step s more)
unfolding repeat
repeat_alike step l t s us vs ts more h =
    let n = suc (length ts) + suc (length more) in
    rw (turns_enough step t (suc (length ts)) n s ts (omega arith) (omega arith))
    (rw (turns_enough step t (suc (length more)) n s more (omega arith) (omega arith))
    ((local_turns step l n s).alike us vs ts more h))

repeat_shrinks : {S : Type 0} (step : S → Parser (Bool × S)) → ((s : S) → IsLocal (step s)) → (s : S) (ts : List Lexeme)
    → length (end_of (repeat step s ts)) ≤ length ts
unfolding repeat
repeat_shrinks step l s ts = (local_turns step l (suc (length ts)) s).shrinks ts

repeat_left : {S : Type 0} (step : S → Parser (Bool × S)) → ((s : S) → IsLocal (step s)) → (s : S) (ts : List Lexeme)
    → Left (end_of (repeat step s ts)) ts
unfolding repeat
repeat_left step l s ts = (local_turns step l (suc (length ts)) s).left ts

-- a loop whose turns take tokens
pub local_repeat : {S : Type 0} {step : S → Parser (Bool × S)} (s : S) → ((s : S) → IsLocal (step s))
    → ((s : S) (ts : List Lexeme) → Taking (length ts) (step s ts)) → IsLocal (repeat step s)
local_repeat {step = step} s l t = record
    { shrinks = repeat_shrinks step l s; left = repeat_left step l s; alike = repeat_alike step l t s }

-- a reader that is the same as another
pub local_same : {A : Type 0} (p q : Parser A) → p ≡ q → IsLocal q → IsLocal p
local_same p q e l = rw e l

-- Turns that take tokens.

pub takes_take : Takes take
unfolding take
takes_take [] = bad
takes_take (t ∷ ts) = got (omega arith)

takes_then_go : {A B : Type 0} (f : A → Parser B) (n : ℕ) → ((a : A) → IsLocal (f a)) → (o : Outcome A) → Shorter n o
    → Shorter n (and_then o f)
unfolding and_then
takes_then_go {B = B} f n l _ (got {a = a} {rest = rest} h) = go (f a rest) (let s = (l a).shrinks rest in omega arith)
  where
    go : (o : Outcome B) → length (end_of o) < n → Shorter n o
    go (Got b r) g = got g
    go (Bad r) g = bad
    go (Deep r) g = deep
takes_then_go f n l _ bad = bad
takes_then_go f n l _ deep = deep

-- a part that begins with one that takes a token
pub takes_then : {A B : Type 0} {p : Parser A} {f : A → Parser B} → Takes p → ((a : A) → IsLocal (f a))
    → Takes (followed p f)
unfolding followed
takes_then {p = p} {f = f} h l ts = takes_then_go f (length ts) l (p ts) (h ts)

pub takes_symbol : {A : Type 0} {f : Symbol → Parser A} → ((k : Symbol) → Takes (f k)) → Takes (by_symbol f)
unfolding by_symbol
takes_symbol h [] = bad
takes_symbol h (t ∷ ts) = h t.symbol (t ∷ ts)

pub takes_allowed : (b : Bool) → Takes (allowed b)
unfolding allowed
takes_allowed true = takes_take
takes_allowed false = takes_symbol (λ k ts. deep)

taking_of : {S : Type 0} (n : ℕ) (o : Outcome (Bool × S)) → Shorter n o → Taking n o
taking_of n _ (got {a = (b, s)} h) = goes h
taking_of n _ bad = bad
taking_of n _ deep = deep

-- a turn that always takes a token
pub taking : {S : Type 0} {p : Parser (Bool × S)} → Takes p → (ts : List Lexeme) → Taking (length ts) (p ts)
taking {p = p} h ts = taking_of (length ts) (p ts) (h ts)

-- a turn that ends the loop
pub taking_none : {S : Type 0} (s : S) (ts : List Lexeme) → Taking (length ts) (pure (false, s) ts)
unfolding pure
taking_none s ts = stop

pub taking_if : {S : Type 0} {p q : Parser (Bool × S)} (b : Bool) → ((ts : List Lexeme) → Taking (length ts) (p ts))
    → ((ts : List Lexeme) → Taking (length ts) (q ts)) → (ts : List Lexeme)
    → Taking (length ts) ((if b then p else q) ts)
taking_if true h g = h
taking_if false h g = g

pub taking_symbol : {S : Type 0} {f : Symbol → Parser (Bool × S)}
    → ((k : Symbol) (ts : List Lexeme) → Taking (length ts) (f k ts))
    → (ts : List Lexeme) → Taking (length ts) (by_symbol f ts)
unfolding by_symbol
taking_symbol h [] = bad
taking_symbol h (t ∷ ts) = h t.symbol (t ∷ ts)

pub takes_if : {A : Type 0} {p q : Parser A} (b : Bool) → Takes p → Takes q → Takes (if b then p else q)
takes_if true h g = h
takes_if false h g = g

-- a refusal reads nothing
pub takes_refuse : {A : Type 0} → Takes (refuse {A = A})
unfolding refuse
takes_refuse ts = bad

-- how the readers are put together
pub ruleset locals = (
  local_pure,
  local_refuse,
  local_take,
  local_place,
  local_then,
  local_symbol,
  local_if,
  local_allowed,
  local_expect,
  local_named,
)
