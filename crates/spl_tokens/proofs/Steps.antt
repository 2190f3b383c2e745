-- How the readings of the grammar go on where one of their steps was made.
use Rattle.std.proofs.Common.{ℕ, ◌≡◌, List, [], ◌∷◌, ◌++◌, map, Bool, true, false, if◌then◌else◌, Option, Some, None, Result, Ok, Err, IsErr, IsErrAnd, refl, ap}
use Rattle.spl_tree.specs.declared.symbols.Symbol.{Symbol}
use Rattle.spl_tree.specs.declared.symbols.Symbol.TheVariants as s
use Rattle.spl_tree.specs.declared.tokens.Token.{Token}
use Rattle.spl_tree.specs.Symbols.{Lexeme}
use Rattle.spl_reading.specs.Readers.{Outcome, Got, Bad, Deep, Parser, by_symbol, pure, refuse, followed, and_then, named_number, numbered, same_symbol}
use Rattle.spl_tokens.specs.declared.faults.Fault.{Fault}
use Rattle.spl_tokens.specs.declared.faults.Fault.TheVariants.{Syntax, TooDeep, NoMemory}
use Rattle.spl_tokens.specs.Reads.{Fails, Reads, peeked, lexeme, named, named_by}

-- a rule that depends on the symbol of the next token
pub by_peek : {A : Type 0} (f : Symbol → Parser A) (ts us : List Lexeme) (k : Symbol) → peeked ts ≡ Got k us → by_symbol f ts ≡ f k ts
unfolding peeked by_symbol pure
by_peek f [] us k e = cc
by_peek f (t ∷ ts) us k e = let s : t.symbol ≡ k = cc in ap (λ k. f k (t ∷ ts)) s

-- and fails where there is none
pub no_peek : {A : Type 0} (f : Symbol → Parser A) (ts us : List Lexeme) (e : Fault) → Fails (peeked ts) e us → Fails (by_symbol f ts) e us
unfolding peeked by_symbol pure
no_peek f [] us Syntax h = cc
no_peek f [] us TooDeep h = cc
no_peek f [] us NoMemory h = tt
no_peek f (t ∷ ts) us Syntax h = cc
no_peek f (t ∷ ts) us TooDeep h = cc
no_peek f (t ∷ ts) us NoMemory h = tt

-- one part, and then what follows
pub goes_on : {A B : Type 0} (p : Parser A) (f : A → Parser B) (ts us : List Lexeme) (a : A) → p ts ≡ Got a us → followed p f ts ≡ f a us
unfolding followed and_then
goes_on p f ts us a e = rw e refl

pub fails : {A B : Type 0} (p : Parser A) (f : A → Parser B) (ts us : List Lexeme) (e : Fault) → Fails (p ts) e us → Fails (followed p f ts) e us
unfolding followed and_then
fails p f ts us Syntax h = rw h refl
fails p f ts us TooDeep h = rw h refl
fails p f ts us NoMemory h = tt

-- an answer that hands a fault on
pub handed : {X A : Type 0} (view : X → A) (o : Outcome A) (r : Result X Fault) (e : Fault) (us : List Lexeme) → IsErr r × IsErrAnd r (λ d. d ≡ e) → Fails o e us → Reads view o r us
handed view o (Ok x) e us h f = cc
handed view o (Err d) e us h f = rw h.1 f

-- the place of a token
pub lexeme_at : (t : Token) → (lexeme t).at ≡ t.at
unfolding lexeme
lexeme_at t = refl

-- a number from a table, by the letters of the next token
pub by_name : (table : List ℕ → Option ℕ) (ts us : List Lexeme) (letters : List ℕ) → named ts ≡ Got letters us → named_number table ts ≡ numbered (table letters) ts
unfolding named named_number pure refuse
by_name table [] us letters e = cc
by_name table (t ∷ ts) us letters e = go (same_symbol t.symbol s.Name) e
  where
    go : (b : Bool) → named_by (if b then Some t.letters else None) (t ∷ ts) ≡ Got letters us → (if b then numbered (table t.letters) (t ∷ ts) else Bad (t ∷ ts)) ≡ numbered (table letters) (t ∷ ts)
    go true e = let l : t.letters ≡ letters = cc in ap (λ l. numbered (table l) (t ∷ ts)) l
    go false e = cc

pub no_name : (table : List ℕ → Option ℕ) (ts us : List Lexeme) (e : Fault) → Fails (named ts) e us → Fails (named_number table ts) e us
unfolding named named_number pure refuse
no_name table [] us Syntax h = cc
no_name table [] us TooDeep h = cc
no_name table [] us NoMemory h = tt
no_name table (t ∷ ts) us NoMemory h = tt
no_name table (t ∷ ts) us Syntax h = go (same_symbol t.symbol s.Name) h
  where
    go : (b : Bool) → named_by (if b then Some t.letters else None) (t ∷ ts) ≡ Bad us → (if b then numbered (table t.letters) (t ∷ ts) else Bad (t ∷ ts)) ≡ Bad us
    go true e = cc
    go false e = cc
no_name table (t ∷ ts) us TooDeep h = go (same_symbol t.symbol s.Name) h
  where
    go : (b : Bool) → named_by (if b then Some t.letters else None) (t ∷ ts) ≡ Deep us → (if b then numbered (table t.letters) (t ∷ ts) else Bad (t ∷ ts)) ≡ Deep us
    go true e = cc
    go false e = cc

-- a list with one more at its end, through a view
pub pushed : {X A : Type 0} (view : X → A) (xs : List X) (x : X) → map view (xs ++ x ∷ []) ≡ map view xs ++ view x ∷ []
pushed view [] x = refl
pushed view (y ∷ ys) x = ap (λ zs. view y ∷ zs) (pushed view ys x)

pub ruleset steps = (by_peek, no_peek, goes_on, fails, handed, lexeme_at, by_name, no_name)
