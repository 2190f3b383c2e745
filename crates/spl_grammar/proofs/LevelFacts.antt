-- What is known of a level while it is read, and the steps of a comparison of bytes.
use Rattle.std.proofs.Common.{ℕ, suc, ◌+◌, ◌/◌, ◌≡◌, ◌==◌, ◌&&◌, ◌<◌, ◌≤◌, Bool, true, false, List, ◌∷◌, length, Option, Some, None, refl, arith}
use Rattle.std.proofs.lemmas.Bool.Decides.{nat_tests}
use Rattle.spl_reading.specs.spl_tree.declared.names_and_places.At.{At}
use Rattle.spl_reading.specs.spl_tree.declared.symbols.Symbol.{Symbol}
use Rattle.spl_reading.specs.spl_tree.declared.symbols.Symbol.TheVariants as s
use Rattle.spl_reading.specs.spl_tree.Symbols.{Lexeme, Is}
use Rattle.spl_reading.specs.spl_tree.Operators.{Form, reference, comparison, other, bytes_of, binds, is_sign}
use Rattle.spl_reading.specs.spl_tree.Expressions as g
use Rattle.spl_reading.specs.spl_tree.OpenExpressions as op
use Rattle.spl_reading.specs.spl_tree.OpenExpressions.{Part, Step, Opens, here, inner, OpensAt, limit, nesting}
use Rattle.spl_reading.specs.spl_tree.Trees as tree
use Rattle.spl_reading.specs.ReadExpressions.{Found, operator_of, begins, is_comparison}
pub use Rattle.spl_grammar.specs.Answers.{SpelledCondition}

-- the same behind an equal list
pub level_at : {c : Bool} {f : Option At} {h n : ℕ} {x : Form} {e : tree.Tree} {ts us vs : List Lexeme} → us ≡ vs
    → g.Level c f h n x e ts us → g.Level c f h n x e ts vs
level_at q p = rw (← q) p

-- A level that was read behind n operators: it is spelled, and its operators still fit.
pub record LevelGot (room taken : ℕ) (c : Bool) (f : Option At) (h n : ℕ) (ts : List Lexeme) (r : Found)
    (rest : List Lexeme) : Type 0 where
  pub own : ℕ
  pub counts : r.count ≡ n + own
  pub fits : taken + r.count / 8 ≤ room
  pub spelled : g.Level c f h own r.form r.tree ts rest

-- a minus before the number is there only below the sums
pub data Front : Option At → ℕ → Type 0 where
  free : {h : ℕ} → Front None h
  minus : {at : At} {h : ℕ} → h ≤ 2 → Front (Some at) h

pub front_below : {f : Option At} {h : ℕ} → Front f (suc h) → Front f h
front_below free = free
front_below (minus l) = minus (omega arith)

pub no_level : {A : Type 0} (h : ℕ) → (0 == suc h) ≡ true → A
no_level h e = absurd (grind (arith, nat_tests, e))

-- a symbol that binds is an operator,
pub operator_is : (k : Symbol) (h : ℕ) → (binds (operator_of k) == suc h) ≡ true → k ≡ s.Operator (operator_of k)
unfolding operator_of binds
operator_is (s.Operator o) h e = refl
operator_is k h e = no_level h e

-- and so is a sign
pub sign_is : (k : Symbol) → is_sign (operator_of k) ≡ true → k ≡ s.Operator (operator_of k)
unfolding operator_of
sign_is (s.Operator o) e = refl
sign_is k e = cc

pub comparison_is : (x : Form) → is_comparison x ≡ true → x ≡ comparison
comparison_is comparison e = refl
comparison_is reference e = cc
comparison_is other e = cc

pub two_tests : {A : Type 0} (h a b : ℕ) → (suc h == a) ≡ true → (suc h == b) ≡ true → (a == b) ≡ false → A
two_tests h a b e f g = absurd (grind (arith, nat_tests, e, f, g))

-- a relation of two references is no part with further operators
pub comparison_below : {c : Bool} {f : Option At} {h n : ℕ} {x : Form} {e : tree.Tree} {ts rest : List Lexeme}
    → g.Level c f (suc h) n x e ts rest → x ≡ comparison
    → (suc h == 8) ≡ true → g.Level c f h n x e ts rest
comparison_below (g.Level.up q l) z k = l
comparison_below {h = h} (g.Level.unsigned q l) z k = two_tests h 3 8 q k refl
comparison_below {h = h} (g.Level.signed q i b m l) z k = two_tests h 3 8 q k refl
comparison_below {h = h} (g.Level.negative q i l) z k = two_tests h 3 8 q k refl
comparison_below (g.Level.joined q l i e r) z k = absurd (other_no z)
  where
    other_no : other ≡ comparison → ⊥
    other_no z = cc
comparison_below {h = h} (g.Level.related q l i e r t) z k = two_tests h 4 8 q k refl
comparison_below {h = h} (g.Level.shifted q l i j t o v y) z k = two_tests h 1 8 q k refl
comparison_below (g.Level.bytes q l i o r y) z k = absurd (other_no z)
  where
    other_no : other ≡ comparison → ⊥
    other_no z = cc

pub below_three : (h : ℕ) → (suc h == 3) ≡ true → h ≤ 2
below_three h e = grind (arith, nat_tests, e)

pub sum_above : (h : ℕ) → (suc h == 3) ≡ true → suc h ≤ 2 → ⊥
sum_above h e l = grind (arith, nat_tests, e)

-- the steps and the production of a comparison of bytes, in a condition
pub comma_step : (c : Bool) {f : Option At} {h m d n : ℕ} {e : tree.Tree} {k : Lexeme} {ts mid : List Lexeme} → c ≡ true
    → (suc h == 8) ≡ true
    → g.Level c f h m comparison e ts (k ∷ mid) → Is s.Comma k
    → Step (op.level c f (suc h)) d n ts op.mark d (n + m) mid
comma_step true ct e p i = op.bytes_comma e p i
comma_step false ct e p i = cc

pub count_step : (c : Bool) {f : Option At} {h m d n : ℕ} {e : tree.Tree} {k o : Lexeme} {ts mid : List Lexeme} → c ≡ true
    → (suc h == 8) ≡ true
    → g.Level c f h m comparison e ts (k ∷ o ∷ mid) → Is s.Comma k → Is s.Open o
    → Step (op.level c f (suc h)) d n ts (op.level false None 10) (suc (d + (n + m) / 8)) 0 mid
count_step true ct e p i j = op.bytes_count e p i j
count_step false ct e p i j = cc

pub close_step : (c : Bool) {f : Option At} {h m a d n : ℕ} {x : Form} {e v : tree.Tree} {k o : Lexeme}
    {ts mid rest : List Lexeme} → c ≡ true → (suc h == 8) ≡ true
    → g.Level c f h m comparison e ts (k ∷ o ∷ mid) → Is s.Comma k → Is s.Open o → g.Level false None 10 a x v mid rest
    → Step (op.level c f (suc h)) d n ts op.mark (suc (d + (n + m) / 8)) 0 rest
close_step true ct e p i j v = op.bytes_close e p i j v
close_step false ct e p i j v = cc

pub whole_bytes : (c : Bool) {f : Option At} {h m a : ℕ} {x : Form} {e v : tree.Tree} {k o z : Lexeme}
    {ts mid rest : List Lexeme} → c ≡ true → (suc h == 8) ≡ true
    → g.Level c f h m comparison e ts (k ∷ o ∷ mid) → Is s.Comma k → Is s.Open o
    → g.Level false None 10 a x v mid (z ∷ rest) → Is s.Close z
    → g.Level c f (suc h) m other (bytes_of e v) ts rest
whole_bytes true ct e p i j v z = g.Level.bytes e p i j v z
whole_bytes false ct e p i j v z = cc

pub form_at : {c : Bool} {f : Option At} {h m : ℕ} {x y : Form} {e : tree.Tree} {ts rest : List Lexeme} → x ≡ y
    → g.Level c f h m x e ts rest → g.Level c f h m y e ts rest
form_at q p = rw (← q) p

pub all_true : (a b c d : Bool) → (a && b && c && d) ≡ true → (a ≡ true) × (b ≡ true) × (c ≡ true) × (d ≡ true)
all_true true true true true e = (refl, refl, refl, refl)
all_true false b c d e = cc
all_true true false c d e = cc
all_true true true false d e = cc
all_true true true true false e = cc

pub begins_is : (f : Option At) (t : Lexeme) (us : List Lexeme) → begins f t.at ≡ g.start f (t ∷ us)
begins_is None t us = refl
begins_is (Some at) t us = refl

-- what a loop has read: at the relations, a part of the level below
pub record LoopGot (room taken : ℕ) (c : Bool) (f : Option At) (h n : ℕ) (ts : List Lexeme) (r : Found)
    (rest : List Lexeme) : Type 0 where
  pub state : LevelGot room taken c f (suc h) n ts r rest
  pub relation : (suc h == 4) ≡ true → g.Level c f h state.own r.form r.tree ts rest

-- what a turn has read
pub record TurnGot (room taken : ℕ) (c : Bool) (f : Option At) (h n : ℕ) (ts now : List Lexeme) (r : Bool × Found)
    (rest : List Lexeme) : Type 0 where
  pub state : LevelGot room taken c f (suc h) n ts r.1 rest
  pub relation : r.0 ≡ true → (suc h == 4) ≡ true → g.Level c f h state.own r.1.form r.1.tree ts rest
  pub less : r.0 ≡ true → length rest < length now
