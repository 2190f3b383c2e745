-- Where as many constructs may be open as there are tokens, nothing is too deep.
use Rattle.std.proofs.Common.{ℕ, zero, suc, ◌≤◌, Bool, true, false, List, [], ◌∷◌, length, if◌then◌else◌, arith}
use Rattle.spl_reading.specs.spl_tree.declared.symbols.Symbol.{Symbol}
use Rattle.spl_reading.specs.spl_tree.Symbols.{Lexeme}
use Rattle.spl_reading.specs.spl_tree.OpenExpressions.{Part}
use Rattle.spl_reading.specs.Readers.{Outcome, Got, Bad, Deep, Parser, and_then, followed, pure, refuse, by_symbol, take, expect, same_symbol, turns, repeat}
use Rattle.spl_grammar.specs.Answers.{Explains}
use Rattle.spl_grammar.specs.Answers as an
use Rattle.spl_reading.specs.ReadDeclarations.{by_token, next_segment}
use Rattle.spl_reading.specs.ReadExpressions.{constant}
use Rattle.spl_reading.specs.ReadStatements.{statement, statement_list}
use Rattle.spl_grammar.proofs.LocalReaders.{end_of, local_take}
use Rattle.spl_grammar.proofs.LocalExpressions.{local_constant}
use Rattle.spl_grammar.proofs.LocalStatements.{local_statement, local_list}
use Rattle.spl_grammar.proofs.SoundOperands.{constant_explained}
use Rattle.spl_grammar.proofs.SoundStatements.{statement_explained, list_explained}
use Rattle.spl_grammar.proofs.ExplainReaders.{explain_as}
use Rattle.spl_grammar.proofs.ChainBounds.{chain_bound}

-- not too deep
pub data Shallow {A : Type 0} : Outcome A → Type 0 where
  got : {a : A} {rest : List Lexeme} → Shallow (Got a rest)
  bad : {rest : List Lexeme} → Shallow (Bad rest)

-- The reader gives back no token, and is not too deep in lists of at most n tokens.
pub record Calm {A : Type 0} (n : ℕ) (p : Parser A) : Type 0 where
  pub shrinks : (ts : List Lexeme) → length (end_of (p ts)) ≤ length ts
  pub never : (ts : List Lexeme) → length ts ≤ n → Shallow (p ts)

pub calm_pure : {n : ℕ} {A : Type 0} (a : A) → Calm n (pure a)
unfolding pure
calm_pure a = record { shrinks = λ ts. omega arith; never = λ ts l. got }

pub calm_refuse : {n : ℕ} {A : Type 0} → Calm n (refuse {A = A})
unfolding refuse
calm_refuse = record { shrinks = λ ts. omega arith; never = λ ts l. bad }

take_calm : (ts : List Lexeme) → Shallow (take ts)
unfolding take
take_calm [] = bad
take_calm (t ∷ ts) = got

pub calm_take : {n : ℕ} → Calm n take
calm_take = record { shrinks = local_take.shrinks; never = λ ts l. take_calm ts }

then_shrinks : {A B : Type 0} (f : A → Parser B) (m n : ℕ) → ((a : A) → Calm n (f a)) → (o : Outcome A)
    → length (end_of o) ≤ m → length (end_of (and_then o f)) ≤ m
unfolding and_then
then_shrinks f m n c (Got a rest) h = let k = (c a).shrinks rest in omega arith
then_shrinks f m n c (Bad rest) h = h
then_shrinks f m n c (Deep rest) h = h

then_never : {A B : Type 0} (f : A → Parser B) (n : ℕ) → ((a : A) → Calm n (f a)) → (o : Outcome A) → Shallow o
    → length (end_of o) ≤ n → Shallow (and_then o f)
unfolding and_then
then_never f n c (Got a rest) h l = (c a).never rest l
then_never f n c (Bad rest) h l = bad
then_never f n c (Deep rest) h l = elim h [ ]

pub calm_then : {n : ℕ} {A B : Type 0} {p : Parser A} {f : A → Parser B} → Calm n p → ((a : A) → Calm n (f a))
    → Calm n (followed p f)
unfolding followed
calm_then {n = n} {p = p} {f = f} c d = record {
  shrinks = λ ts. then_shrinks f (length ts) n d (p ts) (c.shrinks ts);
  never = λ ts l. let k = c.shrinks ts in then_never f n d (p ts) (c.never ts l) (omega arith);
}

symbol_shrinks : {A : Type 0} {n : ℕ} (f : Symbol → Parser A) → ((k : Symbol) → Calm n (f k)) → (ts : List Lexeme)
    → length (end_of (by_symbol f ts)) ≤ length ts
unfolding by_symbol
symbol_shrinks f c [] = omega arith
symbol_shrinks f c (t ∷ ts) = (c t.symbol).shrinks (t ∷ ts)

symbol_never : {A : Type 0} {n : ℕ} (f : Symbol → Parser A) → ((k : Symbol) → Calm n (f k)) → (ts : List Lexeme)
    → length ts ≤ n → Shallow (by_symbol f ts)
unfolding by_symbol
symbol_never f c [] l = bad
symbol_never f c (t ∷ ts) l = (c t.symbol).never (t ∷ ts) l

pub calm_symbol : {n : ℕ} {A : Type 0} {f : Symbol → Parser A} → ((k : Symbol) → Calm n (f k)) → Calm n (by_symbol f)
calm_symbol {f = f} c = record { shrinks = symbol_shrinks f c; never = symbol_never f c }

token_shrinks : {A : Type 0} {n : ℕ} (f : Lexeme → Parser A) → ((t : Lexeme) → Calm n (f t)) → (ts : List Lexeme)
    → length (end_of (by_token f ts)) ≤ length ts
unfolding by_token
token_shrinks f c [] = omega arith
token_shrinks f c (t ∷ ts) = (c t).shrinks (t ∷ ts)

token_never : {A : Type 0} {n : ℕ} (f : Lexeme → Parser A) → ((t : Lexeme) → Calm n (f t)) → (ts : List Lexeme)
    → length ts ≤ n → Shallow (by_token f ts)
unfolding by_token
token_never f c [] l = bad
token_never f c (t ∷ ts) l = (c t).never (t ∷ ts) l

pub calm_token : {n : ℕ} {A : Type 0} {f : Lexeme → Parser A} → ((t : Lexeme) → Calm n (f t)) → Calm n (by_token f)
calm_token {f = f} c = record { shrinks = token_shrinks f c; never = token_never f c }

pub calm_if : {n : ℕ} {A : Type 0} {p q : Parser A} (b : Bool) → Calm n p → Calm n q → Calm n (if b then p else q)
calm_if true c d = c
calm_if false c d = d

pub calm_expect : {n : ℕ} (k : Symbol) → Calm n (expect k)
unfolding expect
calm_expect k = calm_symbol (λ found. calm_if (same_symbol found k) calm_take calm_refuse)

calm_turns : {n : ℕ} {S : Type 0} (step : S → Parser (Bool × S)) → ((s : S) → Calm n (step s)) → (m : ℕ) (s : S)
    → Calm n (turns step m s)
unfolding turns
calm_turns step c zero s = calm_refuse
calm_turns step c (suc m) s = calm_then (c s) (λ r. calm_if r.0 (calm_turns step c m r.1) (calm_pure r.1))

pub calm_repeat : {n : ℕ} {S : Type 0} {step : S → Parser (Bool × S)} (s : S) → ((s : S) → Calm n (step s))
    → Calm n (repeat step s)
unfolding repeat
calm_repeat {step = step} s c = record {
  shrinks = λ ts. (calm_turns step c (suc (length ts)) s).shrinks ts;
  never = λ ts l.
      (calm_turns step c (suc (length ts)) s).never ts l;
}

-- what is explained where so many may be open
shallow_of : {A : Type 0} {W : A → List Lexeme → Type 0} {p : Part} (most : ℕ) (ts : List Lexeme) (o : Outcome A)
    → Explains most W p 0 0 ts o → length ts ≤ most → Shallow o
shallow_of most ts _ (an.got w) l = got
shallow_of most ts _ (an.bad o m) l = bad
shallow_of most ts _ (an.deep o m) l = let b = chain_bound o.chain in absurd (omega arith)

pub calm_constant : {n : ℕ} → Calm n constant
calm_constant = record {
  shrinks = local_constant.shrinks;
  never = λ ts l. shallow_of (length ts) ts (constant ts)
      (constant_explained 0 0 ts (omega arith)) (omega arith);
}

pub calm_statement : (room : ℕ) → Calm room (statement room)
calm_statement room = record {
  shrinks = (local_statement room).shrinks;
  never = λ ts l. shallow_of room ts
      (statement room ts) (statement_explained room 0 ts (omega arith)) l;
}

pub calm_list : (room : ℕ) → Calm room (statement_list (statement room))
calm_list room = record {
  shrinks = (local_list (statement room) (local_statement room)).shrinks;
  never = λ ts l. shallow_of room ts (statement_list (statement room) ts)
      (list_explained room 0 (omega arith) (statement room)
      (λ us. explain_as (statement room us) (statement_explained room 0 us (omega arith)) (λ x rest v. v.spelled)) ts)
      l;
}

segment_shrinks : (ts : List Lexeme) → length (end_of (next_segment ts)) ≤ length ts
unfolding next_segment
segment_shrinks [] = omega arith
segment_shrinks (t ∷ ts) = omega arith

segment_never : (ts : List Lexeme) → Shallow (next_segment ts)
unfolding next_segment
segment_never [] = bad
segment_never (t ∷ ts) = got

pub calm_segment : {n : ℕ} → Calm n next_segment
calm_segment = record { shrinks = segment_shrinks; never = λ ts l. segment_never ts }

pub ruleset calms = (calm_pure, calm_refuse, calm_take, calm_then, calm_symbol, calm_if, calm_expect)
