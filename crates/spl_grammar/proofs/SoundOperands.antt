-- What is read as a constant or an operand is spelled; a fault comes behind tokens that open it.
use Rattle.std.proofs.Common.{ℕ, zero, suc, ◌+◌, ◌≡◌, ◌==◌, ◌<◌, ◌≤◌, Bool, true, false, if◌then◌else◌, List, [], ◌∷◌, ◌++◌, length, Option, Some, None, refl, arith, ap, nat_lt, append_assoc}
use Rattle.std.proofs.lemmas.Bool.Decides.{nat_tests}
use Rattle.spl_reading.specs.spl_tree.declared.names_and_places.At.{At}
use Rattle.spl_reading.specs.spl_tree.declared.expressions.Kind.{Kind}
use Rattle.spl_reading.specs.spl_tree.declared.symbols.Symbol.{Symbol}
use Rattle.spl_reading.specs.spl_tree.declared.symbols.Symbol.TheVariants as s
use Rattle.spl_reading.specs.spl_tree.Symbols.{Lexeme, Is}
use Rattle.spl_reading.specs.spl_tree.Operators.{Form, other, form_of_call, is_sign}
use Rattle.spl_reading.specs.spl_tree.Expressions as g
use Rattle.spl_reading.specs.spl_tree.OpenExpressions as op
use Rattle.spl_reading.specs.spl_tree.OpenExpressions.{Part, Step, Opens, here, inner, OpensAt, limit, nesting}
use Rattle.spl_reading.specs.spl_tree.Trees as tree
use Rattle.spl_grammar.proofs.PartTokens as pt
use Rattle.spl_reading.specs.Readers.{Deep, Parser, and_then, followed, ◌>>=◌, ◌>>◌, by_symbol, pure, refuse, take, at_place, allowed, repeat, turns, expect}
use Rattle.spl_reading.specs.ReadExpressions.{Found, plain, is, constant, constant_by, signed_by, bits, field, negative_by, enter, opening, enclosed, more_arguments, arguments, named, addressed, primary_by, inverse, primary, unary_step}
use Rattle.spl_reading.proofs.SameSymbol.{same_is}
pub use Rattle.spl_grammar.specs.Answers.{Spelled}
use Rattle.spl_grammar.proofs.ExplainReaders.{Explains, got, bad, deep, stepped, at_here, explain_then, explain_expect, explain_next, explain_pure, explain_bad, explain_symbol, explain_if, explain_along, reached, along, followed_assoc}

-- a constant behind its sign
signed_explained : {most : ℕ} (d n : ℕ) (o : ℕ) (p u : Lexeme) (us : List Lexeme) (k : Symbol) → Is (s.Operator o) p
    → is_sign o ≡ true → Is k u → nesting d n ≤ most
    → Explains most (λ v rest. g.Constant v (p ∷ u ∷ us) rest) op.constant d n (p ∷ u ∷ us)
    (signed_by (o == 12) k (u ∷ us))
unfolding signed_by followed take and_then pure
signed_explained d n o p u us (s.Number v) i e j l = got (g.Constant.signed_number i e j)
signed_explained d n o p u us (s.Wide v) i e j l = got (g.Constant.signed_wide i e j)
signed_explained d n o p u us _ i e j l = explain_bad _ (stepped (op.constant_sign i e) (at_here op.mark d n _)) l

constant_explained_by : {most : ℕ} (d n : ℕ) (t : Lexeme) (ts : List Lexeme) (k : Symbol) → Is k t → nesting d n ≤ most
    → Explains most (λ v rest. g.Constant v (t ∷ ts) rest) op.constant d n (t ∷ ts) (constant_by k (t ∷ ts))
unfolding constant_by followed take and_then pure by_symbol
constant_explained_by d n t ts (s.Number v) i l = got (g.Constant.number i)
constant_explained_by d n t ts (s.Wide v) i l = got (g.Constant.wide i)
constant_explained_by d n t ts s.Text i l = got (g.Constant.text i)
constant_explained_by d n t ts (s.Truth b) i l = got (g.Constant.truth i)
constant_explained_by d n t ts s.Name i l = got (g.Constant.name i)
constant_explained_by {most = most} d n t ts (s.Operator o) i l = explain_if (is_sign o) _ _ _ (λ e. go ts e)
    (λ e. explain_bad _ (at_here _ _ _ _) l)
  where
    go : (us : List Lexeme) → is_sign o ≡ true
        → Explains most (λ v rest. g.Constant v (t ∷ us) rest) op.constant d n (t ∷ us)
        (by_symbol (signed_by (o == 12)) us)
    go [] e = bad (stepped (op.constant_sign i e) (at_here op.mark d n _)) l
    go (u ∷ us) e = signed_explained d n o t u us u.symbol i e refl l
constant_explained_by d n t ts _ i l = explain_bad _ (at_here _ _ _ _) l

pub constant_explained : {most : ℕ} (d n : ℕ) (ts : List Lexeme) → nesting d n ≤ most
    → Explains most (λ v rest. g.Constant v ts rest) op.constant d n ts (constant ts)
unfolding constant by_symbol
constant_explained d n [] l = bad (at_here _ _ _ _) l
constant_explained d n (t ∷ ts) l = constant_explained_by d n t ts t.symbol refl l

-- "(" expr ")"
pub data Enclosed (e : tree.Tree) : List Lexeme → List Lexeme → Type 0 where
  enclosed_by : {t z : Lexeme} {us rest : List Lexeme} → Is s.Open t → Spelled e us (z ∷ rest) → Is s.Close z
      → Enclosed e (t ∷ us) rest

-- "(" arguments ")"
data Listed (es : List tree.Tree) : List Lexeme → List Lexeme → Type 0 where
  listed_by : {t z : Lexeme} {us rest : List Lexeme} → Is s.Open t → g.Arguments es us (z ∷ rest) → Is s.Close z
      → Listed es (t ∷ us) rest

-- arguments that are read, each with its comma
record Before (es : List tree.Tree) (ts mid : List Lexeme) : Type 0 where
  pub gives : (more : List tree.Tree) (rest : List Lexeme) → g.Arguments more mid rest
      → g.Arguments (es ++ more) ts rest
  pub opens : (d : ℕ) → Opens op.arguments d 0 ts op.arguments d 0 mid

-- `is` of a symbol
pub is_it : (k : Symbol) (t : Lexeme) → is k t.symbol ≡ true → Is k t
is_it k t e = same_is t.symbol k e

-- too many are open: no more may be, so one more is too many
pub one_more : {most : ℕ} (d room taken : ℕ) → d + room ≡ most + taken → nat_lt taken room ≡ false
    → most < nesting (suc d) 0
one_more d room taken e f = let l : room ≤ taken = grind (arith, nat_tests, f) in omega arith

pub few : {most : ℕ} (d room taken : ℕ) → d + room ≡ most + taken → taken ≤ room → nesting d 0 ≤ most
few d room taken e l = omega arith

pub few_more : {most : ℕ} (d room taken : ℕ) → d + room ≡ most + taken → nat_lt taken room ≡ true
    → nesting (suc d) 0 ≤ most
few_more d room taken e f = let l : taken < room = grind (arith, nat_tests, f) in omega arith

-- a chain with too many open
pub record TooMany (most : ℕ) (p : Part) (d n : ℕ) (ts rest : List Lexeme) : Type 0 where
  pub at : OpensAt p d n ts rest
  pub over : most < nesting at.constructs at.operators

-- a step to a part around which too many are open
pub too_many : {most : ℕ} {p q : Part} {d n j k : ℕ} {ts rest : List Lexeme} → Step p d n ts q j k rest
    → most < nesting j k → TooMany most p d n ts rest
too_many step l = record { at = stepped step (at_here _ _ _ _); over = l }

pub deep_of : {most : ℕ} {A : Type 0} {W : A → List Lexeme → Type 0} {p : Part} {d n : ℕ} {ts rest : List Lexeme}
    (t : Lexeme) → TooMany most p d n ts rest → Explains most W p d n ts (Deep (t ∷ rest))
deep_of t m = deep m.at m.over

pub explain_enter : {most : ℕ} {B : Type 0} {W : B → List Lexeme → Type 0} {p : Part} {d n : ℕ} {ts : List Lexeme}
    (b : Bool) (f : Lexeme → Parser B) (t : Lexeme) (us : List Lexeme)
    → (b ≡ true → Explains most W p d n ts (f t us)) → (b ≡ false → TooMany most p d n ts us)
    → Explains most W p d n ts (followed (allowed b) f (t ∷ us))
unfolding followed allowed and_then take by_symbol
explain_enter true f t us h m = h refl
explain_enter false f t us h m = deep_of t (m refl)

-- "(" where a construct may be opened
pub explain_opening : {most : ℕ} {B : Type 0} {W : B → List Lexeme → Type 0} {p : Part} {d n : ℕ} {ts : List Lexeme}
    (room taken : ℕ) (f : Lexeme → Parser B) (us : List Lexeme)
    (o : OpensAt p d n ts us) → nesting o.constructs o.operators ≤ most
    → ((t : Lexeme) (rest : List Lexeme) → us ≡ t ∷ rest → Is s.Open t → nat_lt taken room ≡ true
    → Explains most W p d n ts (f t rest))
    → ((t : Lexeme) (rest : List Lexeme) → us ≡ t ∷ rest → Is s.Open t → nat_lt taken room ≡ false
    → TooMany most p d n ts rest)
    → Explains most W p d n ts (followed (opening room taken) f us)
unfolding followed opening by_symbol and_then enter refuse
explain_opening room taken f [] o l h m = bad o l
explain_opening {most = most} {W = W} {p = p} {d = d} {n = n} {ts = ts} room taken f (t ∷ us) o l h m = go
    (is s.Open t.symbol) refl
  where
    go : (b : Bool) → is s.Open t.symbol ≡ b
        → Explains most W p d n ts (and_then ((if b then allowed (nat_lt taken room) else refuse) (t ∷ us)) f)
    go true e = explain_enter (nat_lt taken room) f t us (h t us refl (is_it s.Open t e))
        (m t us refl (is_it s.Open t e))
    go false e = bad o l

-- "(" expr ")" in a production that has come to us, where the expression and then its ")" are the open part
pub enclosed_explained : {most : ℕ} {p : Part} {d n : ℕ} {ts : List Lexeme} (b room taken : ℕ)
    (inner_one : Parser Found) (whole : Parser tree.Tree) (us : List Lexeme)
    → b + room ≡ most + taken
    → ((rest : List Lexeme) → nat_lt taken room ≡ true
    → Explains most (λ e more. Spelled e rest more) (op.level false None 10) (suc b) 0 rest (whole rest))
    → (o : OpensAt p d n ts us) → nesting o.constructs o.operators ≤ most
    → ((t : Lexeme) (rest : List Lexeme) → us ≡ t ∷ rest → Is s.Open t
    → Step p d n ts (op.level false None 10) (suc b) 0 rest)
    → ((t : Lexeme) (rest : List Lexeme) → us ≡ t ∷ rest → Is s.Open t → (e : tree.Tree) (more : List Lexeme)
    → Spelled e rest more → Step p d n ts op.mark (suc b) 0 more)
    → Explains most (λ e rest. Enclosed e us rest) p d n ts (enclosed room inner_one whole taken us)
unfolding enclosed
enclosed_explained {p = p} {d = d} {n = n} {ts = ts} b room taken inner_one whole us sum w o l into out =
    explain_opening room taken _ us o l
    (λ t rest q i ok. explain_then whole _ (into t rest q i) (w rest ok) (λ e more v.
    explain_expect s.Close _ more (stepped (out t rest q i e more v) (at_here op.mark (suc b) 0 more))
    (few_more b room taken sum ok)
    (λ z final r j. explain_pure e final (rw q (enclosed_by i (rw r at v) j)))))
    (λ t rest q i no. too_many (into t rest q i) (one_more b room taken sum no))

-- the arguments read so far, the last of them without its comma
record SoFar (es : List tree.Tree) (ts now : List Lexeme) : Type 0 where
  pub before : List tree.Tree
  pub last : tree.Tree
  pub middle : List Lexeme
  pub all : es ≡ before ++ last ∷ []
  pub first : Before before ts middle
  pub spelled : Spelled last middle now

so_far_is : {es : List tree.Tree} {ts now : List Lexeme} → SoFar es ts now → g.Arguments es ts now
so_far_is {ts = ts} {now = now} x = rw x.all (x.first.gives (x.last ∷ []) now (g.Arguments.one x.spelled.spelled))

-- behind one more comma
comma_behind : {es : List tree.Tree} {ts us : List Lexeme} {t : Lexeme} → SoFar es ts (t ∷ us) → Is s.Comma t
    → Before es ts us
comma_behind {es = es} {ts = ts} {us = us} {t = t} x i = record {
  gives = λ more rest a. rw (x.all, append_assoc x.before (x.last ∷ []) more)
      (x.first.gives (x.last ∷ more) rest (g.Arguments.several x.spelled.spelled i a));
  opens = λ d. along (x.first.opens d) (inner (op.next_argument x.spelled.spelled i) here);
}

one_so_far : {e : tree.Tree} {ts rest : List Lexeme} → Spelled e ts rest → SoFar (e ∷ []) ts rest
one_so_far {e = e} {ts = ts} v = record {
  before = [];
  last = e;
  middle = ts;
  all = refl;
  first = record { gives = λ more rest a. a; opens = λ d. here };
  spelled = v;
}

-- what a turn of the arguments leaves
record ArgumentTurn (ts now : List Lexeme) (r : Bool × List tree.Tree) (rest : List Lexeme) : Type 0 where
  pub state : SoFar r.1 ts rest
  pub less : r.0 ≡ true → length rest < length now

module _ (most : ℕ) (b room taken : ℕ) (sum : b + room ≡ most + taken) (ok : nat_lt taken room ≡ true)
    (inner_one : Parser Found) (whole : Parser tree.Tree)
    (w : (rest : List Lexeme) → Explains most (λ e more. Spelled e rest more) (op.level false None 10) (suc b) 0 rest
    (whole rest)) where
  comma_explained : (es : List tree.Tree) (ts : List Lexeme) (t : Lexeme) (us : List Lexeme) → SoFar es ts (t ∷ us)
      → Is s.Comma t
      → Explains most (ArgumentTurn ts (t ∷ us)) op.arguments (suc b) 0 ts
      (((take >> whole) >>= (λ e. pure (true, es ++ e ∷ []))) (t ∷ us))
  unfolding followed take and_then
  comma_explained es ts t us x i = explain_along whole _
      (along ((comma_behind x i).opens (suc b)) (inner op.argument here)) (w us)
      (λ e rest v. explain_pure _ rest (record {
        state = record { before = es; last = e; middle = us; all = refl; first = comma_behind x i; spelled = v };
        less = λ _. let a = pt.shorter v.spelled in omega arith;
      }))

  argument_turn_explained : (es : List tree.Tree) (ts now : List Lexeme) → SoFar es ts now
      → Explains most (ArgumentTurn ts now) op.arguments (suc b) 0 ts (more_arguments room inner_one whole taken es now)
  unfolding more_arguments
  argument_turn_explained es ts now x = explain_symbol _ now
      (reached (x.first.opens (suc b)) (stepped (op.argument_whole x.spelled.spelled) (at_here op.mark (suc b) 0 now)))
      (few_more b room taken sum ok) (λ t us q. rw q (explain_if (is s.Comma t.symbol) _ _ (t ∷ us)
      (λ e. comma_explained es ts t us (rw q at x) (is_it s.Comma t e))
      (λ e. explain_pure _ (t ∷ us) (record { state = rw q at x; less = λ f. cc }))))

  turns_explained : (fuel : ℕ) (es : List tree.Tree) (ts now : List Lexeme) → length now < fuel → SoFar es ts now
      → Explains most (λ fs rest. g.Arguments fs ts rest) op.arguments (suc b) 0 ts
      (turns (more_arguments room inner_one whole taken) fuel es now)
  unfolding turns
  turns_explained zero es ts now l x = absurd (omega arith)
  turns_explained (suc fuel) es ts now l x = explain_next _ _ now (argument_turn_explained es ts now x) (λ r rest v.
      explain_if r.0 _ _ rest (λ e. let m = v.less e in turns_explained fuel r.1 ts rest (omega arith) v.state)
      (λ e. explain_pure r.1 rest (so_far_is v.state)))

  -- expr { "," expr }
  pub arguments_explained : (ts : List Lexeme)
      → Explains most (λ fs rest. g.Arguments fs ts rest) op.arguments (suc b) 0 ts
      ((whole >>= (λ e. repeat (more_arguments room inner_one whole taken) (e ∷ []))) ts)
  unfolding repeat
  arguments_explained ts = explain_then whole _ op.argument (w ts)
      (λ e rest v. turns_explained (suc (length rest)) (e ∷ []) ts rest (omega arith) (one_so_far v))

-- the operand readers, where d constructs are open around them
module _ (most : ℕ) (d room taken : ℕ) (sum : d + room ≡ most + taken) (fits : taken ≤ room) (inner_one : Parser Found)
    (whole : Parser tree.Tree)
    (n : (rest : List Lexeme) → nat_lt taken room ≡ true
    → Explains most (λ r more. g.Unary None r.form r.tree rest more) (op.unary None) (suc d) 0 rest
    (inner_one rest))
    (w : (rest : List Lexeme) → nat_lt taken room ≡ true
    → Explains most (λ e more. Spelled e rest more) (op.level false None 10) (suc d) 0 rest (whole rest)) where
  -- "(" arguments ")" behind a name
  listed_explained : (t : Lexeme) (us : List Lexeme) → Is s.Name t
      → Explains most (λ es rest. Listed es us rest) (op.primary None) d 0 (t ∷ us)
      (arguments room inner_one whole taken us)
  unfolding arguments
  listed_explained t us i = explain_opening room taken _ us
      (stepped (op.whole_primary (g.Primary.name i)) (at_here op.mark d 0 us)) (few d room taken sum fits)
      (λ o rest q j ok. rw q (rw (followed_assoc whole
      (λ e. repeat (more_arguments room inner_one whole taken) (e ∷ [])) (λ es. expect s.Close >>= (λ _. pure es))
      rest)
      (explain_then _ _ (op.call_arguments i j)
      (arguments_explained most d room taken sum ok inner_one whole (λ more. w more ok) rest) (λ es more a.
      explain_expect s.Close _ more (stepped (op.call_close i j a) (at_here op.mark (suc d) 0 more))
      (few_more d room taken sum ok)
      (λ z final r k. explain_pure es final (listed_by j (rw r at a) k))))))
      (λ o rest q j no. rw q (too_many (op.call_arguments i j) (one_more d room taken sum no)))

  -- a name, with what is in parentheses behind it
  named_explained : (t : Lexeme) (us : List Lexeme) → Is s.Name t
      → Explains most (λ r rest. g.Primary None r.form r.tree (t ∷ us) rest) (op.primary None) d 0 (t ∷ us)
      (named room inner_one whole taken t us)
  unfolding named
  named_explained t us i = explain_symbol _ us (stepped (op.whole_primary (g.Primary.name i)) (at_here op.mark d 0 us))
      (few d room taken sum fits) (λ u rest q.
      rw q (explain_if (is s.Open u.symbol) _ _ (u ∷ rest)
      (λ e. explain_next _ _ (u ∷ rest) (listed_explained t (u ∷ rest) i)
      (λ es more v. explain_pure _ more (called t es (u ∷ rest) more i v)))
      (λ e. explain_pure _ (u ∷ rest) (g.Primary.name i))))
    where
      called : (t : Lexeme) (es : List tree.Tree) (us more : List Lexeme) → Is s.Name t → Listed es us more
          → g.Primary None (form_of_call es) (tree.Tree.named t.letters (tree.trees es) t.at) (t ∷ us) more
      called t es _ more i (listed_by j a z) = g.Primary.call i j a z

  -- "@" and a name, with what is in parentheses behind it
  addressed_explained : (a t : Lexeme) (us : List Lexeme) → Is s.AtSign a → Is s.Name t
      → Explains most (λ r rest. g.Primary None r.form r.tree (a ∷ t ∷ us) rest) (op.primary None) d 0 (a ∷ t ∷ us)
      (addressed room inner_one whole taken a t us)
  unfolding addressed
  addressed_explained a t us i j = explain_symbol _ us
      (stepped (op.whole_primary (g.Primary.address i j)) (at_here op.mark d 0 us)) (few d room taken sum fits)
      (λ u rest q.
      rw q (explain_if (is s.Open u.symbol) _ _ (u ∷ rest)
      (λ e. explain_next _ _ (u ∷ rest) (enclosed_explained d room taken inner_one whole (u ∷ rest) sum w
      (stepped (op.whole_primary (g.Primary.address i j)) (at_here op.mark d 0 (u ∷ rest))) (few d room taken sum fits)
      (λ o more r k. rw r (op.address_index i j k)) (λ o more r k e f v. rw r (op.address_close i j k v.spelled)))
      (λ f more v. explain_pure _ more (indexed f (u ∷ rest) more v)))
      (λ e. explain_pure _ (u ∷ rest) (g.Primary.address i j))))
    where
      indexed : (e : tree.Tree) (us more : List Lexeme) → Enclosed e us more
          → g.Primary None other (tree.Tree.address t.letters (tree.trees (e ∷ [])) a.at) (a ∷ t ∷ us) more
      indexed e _ more (enclosed_by o v z) = g.Primary.address_of i j o v.spelled z

  -- "(" expr ")"
  parens_explained : (t : Lexeme) (us : List Lexeme)
      → Explains most (λ r rest. g.Primary None r.form r.tree (t ∷ us) rest) (op.primary None) d 0 (t ∷ us)
      ((enclosed room inner_one whole taken >>= (λ e. pure (plain other e))) (t ∷ us))
  parens_explained t us = explain_next _ _ (t ∷ us)
      (enclosed_explained d room taken inner_one whole (t ∷ us) sum w (at_here _ _ _ _) (few d room taken sum fits)
      (λ o more r k. rw r (op.inside k)) (λ o more r k e f v. rw r (op.close k v.spelled)))
      (λ f more v. explain_pure _ more (go f (t ∷ us) more v))
    where
      go : (e : tree.Tree) (us more : List Lexeme) → Enclosed e us more → g.Primary None other e us more
      go e _ more (enclosed_by o v z) = g.Primary.parens o v.spelled z

  -- type "(" expr ")"
  transfer_explained : (k : Kind) (t : Lexeme) (us : List Lexeme) → Is (s.Type k) t
      → Explains most (λ r rest. g.Primary None r.form r.tree (t ∷ us) rest) (op.primary None) d 0 (t ∷ us)
      ((enclosed room inner_one whole taken >>= (λ e. pure (plain other (tree.Tree.transfer k e t.at)))) us)
  transfer_explained k t us i = explain_next _ _ us
      (enclosed_explained d room taken inner_one whole us sum w (stepped (op.transfer_open i) (at_here op.mark d 0 us))
      (few d room taken sum fits)
      (λ o more r j. rw r (op.transfer_inside i j)) (λ o more r j e f v. rw r (op.transfer_close i j v.spelled)))
      (λ f more v. explain_pure _ more (go f us more v))
    where
      go : (e : tree.Tree) (us more : List Lexeme) → Enclosed e us more
          → g.Primary None other (tree.Tree.transfer k e t.at) (t ∷ us) more
      go e _ more (enclosed_by o v z) = g.Primary.transfer i o v.spelled z

  primary_explained_by : (t : Lexeme) (us : List Lexeme) (k : Symbol) → Is k t
      → Explains most (λ r rest. g.Primary None r.form r.tree (t ∷ us) rest) (op.primary None) d 0 (t ∷ us)
      (primary_by room inner_one whole taken k (t ∷ us))
  unfolding primary_by followed take and_then pure
  primary_explained_by t us (s.Number v) i = got (g.Primary.number i)
  primary_explained_by t us (s.Wide v) i = got (g.Primary.wide i)
  primary_explained_by t us s.Text i = got (g.Primary.text i)
  primary_explained_by t us (s.Truth b) i = got (g.Primary.truth i)
  primary_explained_by t us s.Name i = named_explained t us i
  primary_explained_by t us s.AtSign i = explain_expect s.Name _ us
      (stepped (op.address_name i) (at_here op.mark d 0 us)) (few d room taken sum fits)
      (λ u rest q j. rw q (addressed_explained t u rest i j))
  primary_explained_by t us s.Open i = parens_explained t us
  primary_explained_by t us (s.Type k) i = transfer_explained k t us i
  primary_explained_by t us _ i = explain_bad _ (at_here _ _ _ _) (few d room taken sum fits)

-- a number behind the minus that negates it
negative_explained_by : {most : ℕ} (d : ℕ) (at : At) (t : Lexeme) (us : List Lexeme) (k : Symbol) → Is k t
    → nesting d 0 ≤ most
    → Explains most (λ r rest. g.Primary (Some at) r.form r.tree (t ∷ us) rest) (op.primary (Some at)) d 0 (t ∷ us)
    (negative_by at k (t ∷ us))
unfolding negative_by followed take and_then pure
negative_explained_by d at t us (s.Number v) i l = got (g.Primary.negative_number i)
negative_explained_by d at t us (s.Wide v) i l = got (g.Primary.negative_wide i)
negative_explained_by d at t us _ i l = explain_bad _ (at_here _ _ _ _) l

-- the same behind an equal list
pub primary_at : {f : Option At} {x : Form} {e : tree.Tree} {ts us vs : List Lexeme} → us ≡ vs → g.Primary f x e ts us
    → g.Primary f x e ts vs
primary_at q p = rw (← q) p

pub constant_at : {v : tree.Constant} {ts us vs : List Lexeme} → us ≡ vs → g.Constant v ts us → g.Constant v ts vs
constant_at q p = rw (← q) p

-- a bit field, from its dot on
bits_explained : {most : ℕ} (d : ℕ) (f : Option At) (r : Found) (ts : List Lexeme) (t : Lexeme) (us : List Lexeme)
    → nesting d 0 ≤ most → g.Primary f r.form r.tree ts (t ∷ us) → Is s.Dot t
    → Explains most (λ r rest. g.Unary f r.form r.tree ts rest) (op.unary f) d 0 ts (bits (g.start f ts) r (t ∷ us))
unfolding bits
bits_explained d f r ts t us l p i = explain_expect s.Dot _ (t ∷ us)
    (stepped op.primary_of (stepped (op.whole_primary p) (at_here op.mark d 0 (t ∷ us)))) l (λ b after_dot q j.
    let p1 = primary_at q p in
    explain_expect s.Open _ after_dot (stepped (op.bits_dot p1 j) (at_here op.mark d 0 after_dot)) l
    (λ o after_open q2 j2.
    let p2 = primary_at (ap (λ vs. b ∷ vs) q2) p1 in
    explain_then constant _ (op.bits_start p2 j j2) (constant_explained d 0 after_open l) (λ v after_start c1.
    explain_expect s.Colon _ after_start (stepped (op.bits_colon p2 j j2 c1) (at_here op.mark d 0 after_start)) l
    (λ k after_colon q3 j3.
    let c2 = constant_at q3 c1 in
    explain_then constant _ (op.bits_length p2 j j2 c2 j3) (constant_explained d 0 after_colon l) (λ w after_length c3.
    explain_expect s.Close _ after_length (stepped (op.bits_close p2 j j2 c2 j3 c3) (at_here op.mark d 0 after_length))
    l (λ z rest q4 j4.
    explain_pure _ rest (g.Unary.bits p2 j j2 c2 j3 (constant_at q4 c3) j4)))))))

-- what stands behind a primary
field_explained : {most : ℕ} (d : ℕ) (f : Option At) (r : Found) (ts us : List Lexeme) → nesting d 0 ≤ most
    → g.Primary f r.form r.tree ts us
    → Explains most (λ r rest. g.Unary f r.form r.tree ts rest) (op.unary f) d 0 ts (field (g.start f ts) r us)
unfolding field
field_explained d f r ts us l p = explain_symbol _ us
    (stepped op.primary_of (stepped (op.whole_primary p) (at_here op.mark d 0 us))) l (λ t rest q.
    explain_if (is s.Dot t.symbol) _ _ (t ∷ rest)
    (λ e. bits_explained d f r ts t rest l (primary_at q p) (is_it s.Dot t e))
    (λ e. explain_pure _ (t ∷ rest) (g.Unary.plain (primary_at q p))))

module _ (most : ℕ) (d room taken : ℕ) (sum : d + room ≡ most + taken) (fits : taken ≤ room) (inner_one : Parser Found)
    (whole : Parser tree.Tree)
    (n : (rest : List Lexeme) → nat_lt taken room ≡ true
    → Explains most (λ r more. g.Unary None r.form r.tree rest more) (op.unary None) (suc d) 0 rest
    (inner_one rest))
    (w : (rest : List Lexeme) → nat_lt taken room ≡ true
    → Explains most (λ e more. Spelled e rest more) (op.level false None 10) (suc d) 0 rest (whole rest)) where
  inverse_explained : (t : Lexeme) (us : List Lexeme) → Is s.Not t
      → Explains most (λ r rest. g.Unary None r.form r.tree (t ∷ us) rest) (op.unary None) d 0 (t ∷ us)
      (inverse room inner_one whole taken (t ∷ us))
  unfolding inverse enter
  inverse_explained t us i = explain_enter (nat_lt taken room) _ t us
      (λ ok. explain_then inner_one _ (op.inverse i) (n us ok) (λ r rest v. explain_pure _ rest (g.Unary.inverse i v)))
      (λ no. too_many (op.inverse i) (one_more d room taken sum no))

  -- an operand
  pub unary_step_explained : (f : Option At) (ts : List Lexeme)
      → Explains most (λ r rest. g.Unary f r.form r.tree ts rest) (op.unary f) d 0 ts
      (unary_step room inner_one whole taken f ts)
  unfolding unary_step primary by_symbol at_place followed and_then
  unary_step_explained None [] = bad (at_here _ _ _ _) (few d room taken sum fits)
  unary_step_explained None (t ∷ us) = explain_if (is s.Not t.symbol) _ _ (t ∷ us)
      (λ e. inverse_explained t us (is_it s.Not t e))
      (λ e. explain_then (primary_by room inner_one whole taken t.symbol) (field t.at) op.primary_of
      (primary_explained_by most d room taken sum fits inner_one whole n w t us t.symbol refl)
      (λ r rest p. field_explained d None r (t ∷ us) rest (few d room taken sum fits) p))
  unary_step_explained (Some at) [] = bad (at_here _ _ _ _) (few d room taken sum fits)
  unary_step_explained (Some at) (t ∷ us) = explain_then (negative_by at t.symbol) (field at) op.primary_of
      (negative_explained_by d at t us t.symbol refl (few d room taken sum fits))
      (λ r rest p. field_explained d (Some at) r (t ∷ us) rest (few d room taken sum fits) p)
