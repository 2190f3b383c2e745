-- A part depends on no token behind it: with other tokens there it stands as well.
use Rattle.std.proofs.Common.{ℕ, ◌≡◌, ◌<◌, ◌≤◌, ◌+◌, Bool, false, List, ◌∷◌, length, Option, refl, arith, ap, sym, ◌∙◌, ◌⊎◌, inl, inr}
use Rattle.spl_reading.specs.spl_tree.declared.names_and_places.At.{At}
use Rattle.spl_reading.specs.spl_tree.Symbols.{Lexeme}
use Rattle.spl_reading.specs.spl_tree.Operators.{Form, other, form_of_call}
use Rattle.spl_reading.specs.spl_tree.Expressions as g
use Rattle.spl_reading.specs.spl_tree.Trees as tree
use Rattle.spl_grammar.specs.Answers.{Agrees}
use Rattle.spl_grammar.proofs.LocalReaders as lr
use Rattle.spl_grammar.proofs.PartTokens as pt

-- the second list is the first, with `more` in the place of `rest`
pub data Swap (rest more : List Lexeme) : List Lexeme → List Lexeme → Type 0 where
  same : Swap rest more rest more
  behind : {t : Lexeme} {ts us : List Lexeme} → Swap rest more ts us → Swap rest more (t ∷ ts) (t ∷ us)

-- a swap in what a swap put there
pub along : {rest more mid next ts us : List Lexeme} → Swap mid next ts us → Swap rest more mid next
    → Swap rest more ts us
along same b = b
along (behind a) b = behind (along a b)

-- the lists that stand before the two are as long as one another
pub swap_length : {rest more ts us : List Lexeme} → Swap rest more ts us
    → length us + length rest ≡ length ts + length more
swap_length same = omega arith
swap_length (behind a) = let b = swap_length a in omega arith

-- what is left is no longer
pub swap_longer : {rest more ts us : List Lexeme} → Swap rest more ts us → length rest ≤ length ts
swap_longer same = omega arith
swap_longer (behind a) = let b = swap_longer a in omega arith

-- nothing stands before, or some token does, and then the lists agree up to the last
agrees_next : {rest more ts us : List Lexeme} (t : Lexeme) → Swap rest more ts us
    → (ts ≡ rest) ⊎ Agrees rest more ts us → Agrees rest more (t ∷ ts) (t ∷ us)
agrees_next t a (inr b) = lr.there b
agrees_next t same (inl e) = lr.here
agrees_next t (behind b) (inl e) = let l = swap_longer b in let k = ap (λ xs. length xs) e in absurd (omega arith)

-- by the first token
pub swap_agrees : {rest more ts us : List Lexeme} → Swap rest more ts us → (ts ≡ rest) ⊎ Agrees rest more ts us
swap_agrees same = inl refl
swap_agrees (behind {t = t} a) = inr (agrees_next t a (swap_agrees a))

-- The part that stands at ts, before rest, stands at another list that has `next` there, before `more`.
pub record Moved (P : List Lexeme → List Lexeme → Type 0) (ts rest next more : List Lexeme) : Type 0 where
  pub to : List Lexeme
  pub swap : Swap rest next ts to
  pub whole : P to more

-- some part that is spelled, of these numbers
pub record SomeConstant (ts rest : List Lexeme) : Type 0 where
  pub tree : tree.Constant
  pub spelled : g.Constant tree ts rest

pub record SomeLevel (c : Bool) (f : Option At) (h n : ℕ) (x : Form) (ts rest : List Lexeme) : Type 0 where
  pub tree : tree.Tree
  pub spelled : g.Level c f h n x tree ts rest

pub record SomeUnary (f : Option At) (x : Form) (ts rest : List Lexeme) : Type 0 where
  pub tree : tree.Tree
  pub spelled : g.Unary f x tree ts rest

pub record SomePrimary (f : Option At) (x : Form) (ts rest : List Lexeme) : Type 0 where
  pub tree : tree.Tree
  pub spelled : g.Primary f x tree ts rest

pub record SomeArguments (x : Form) (ts rest : List Lexeme) : Type 0 where
  pub trees : List tree.Tree
  pub form : form_of_call trees ≡ x
  pub spelled : g.Arguments trees ts rest

-- what stands at a list, as the part moved to it
pub constant_to : {v : tree.Constant} {ts rest next to more : List Lexeme} → Swap rest next ts to → g.Constant v to more
    → Moved SomeConstant ts rest next more
constant_to w s = record { to = _; swap = w; whole = record { tree = _; spelled = s } }

-- a level
pub level_to : {c : Bool} {f : Option At} {h n : ℕ} {x : Form} {e : tree.Tree} {ts rest next to more : List Lexeme}
    → Swap rest next ts to → g.Level c f h n x e to more → Moved (SomeLevel c f h n x) ts rest next more
level_to w s = record { to = _; swap = w; whole = record { tree = _; spelled = s } }

-- an operand
pub unary_to : {f : Option At} {x : Form} {e : tree.Tree} {ts rest next to more : List Lexeme}
    → Swap rest next ts to → g.Unary f x e to more → Moved (SomeUnary f x) ts rest next more
unary_to w s = record { to = _; swap = w; whole = record { tree = _; spelled = s } }

-- a primary
pub primary_to : {f : Option At} {x : Form} {e : tree.Tree} {ts rest next to more : List Lexeme}
    → Swap rest next ts to → g.Primary f x e to more → Moved (SomePrimary f x) ts rest next more
primary_to w s = record { to = _; swap = w; whole = record { tree = _; spelled = s } }

-- arguments
pub arguments_to : {es : List tree.Tree} {x : Form} {ts rest next to more : List Lexeme} → form_of_call es ≡ x
    → Swap rest next ts to → g.Arguments es to more → Moved (SomeArguments x) ts rest next more
arguments_to e w s = record { to = _; swap = w; whole = record { trees = _; form = e; spelled = s } }

-- constants
pub move_constant : {v : tree.Constant} {ts rest : List Lexeme} → g.Constant v ts rest → (more : List Lexeme)
    → Moved SomeConstant ts rest more more
move_constant (g.Constant.number i) more = constant_to (behind same) (g.Constant.number i)
move_constant (g.Constant.wide i) more = constant_to (behind same) (g.Constant.wide i)
move_constant (g.Constant.signed_number i e j) more = constant_to (behind (behind same)) (g.Constant.signed_number i e j)
move_constant (g.Constant.signed_wide i e j) more = constant_to (behind (behind same)) (g.Constant.signed_wide i e j)
move_constant (g.Constant.text i) more = constant_to (behind same) (g.Constant.text i)
move_constant (g.Constant.truth i) more = constant_to (behind same) (g.Constant.truth i)
move_constant (g.Constant.name i) more = constant_to (behind same) (g.Constant.name i)

-- a minus negates what stands behind it, wherever the number's own rest is
still_negates : (op : ℕ) {ts rest to more : List Lexeme} → Swap rest more ts to → length rest < length ts
    → g.negates op ts ≡ false → g.negates op to ≡ false
still_negates op same l e = absurd (omega arith)
still_negates op (behind a) l e = e

-- several arguments are no reference
two_forms : (e : tree.Tree) {es : List tree.Tree} {ts rest : List Lexeme} → g.Arguments es ts rest
    → form_of_call (e ∷ es) ≡ other
two_forms e (g.Arguments.one l) = refl
two_forms e (g.Arguments.several l i a) = refl

-- the form of a call is that of its arguments
of_form : {f : Option At} {x y : Form} {ts rest next more : List Lexeme} → x ≡ y
    → Moved (SomePrimary f x) ts rest next more → Moved (SomePrimary f y) ts rest next more
of_form e p = rw (← e) p

-- lists of several arguments have the same form
same_form : (d e : tree.Tree) {es fs : List tree.Tree} {ts us vs ws : List Lexeme} → g.Arguments es ts us
    → g.Arguments fs vs ws → form_of_call (d ∷ fs) ≡ form_of_call (e ∷ es)
same_form d e a b = two_forms d b ∙ sym (two_forms e a)

mutual
  -- parts of expressions
  pub move : {c : Bool} {f : Option At} {h n : ℕ} {x : Form} {e : tree.Tree} {ts rest : List Lexeme}
      → g.Level c f h n x e ts rest → (more : List Lexeme) → Moved (SomeLevel c f h n x) ts rest more more
  move (g.Level.operand u) more = let a = move_unary u more in level_to a.swap (g.Level.operand a.whole.spelled)
  move (g.Level.up q l) more = let a = move l more in level_to a.swap (g.Level.up q a.whole.spelled)
  move (g.Level.unsigned q l) more = let a = move l more in level_to a.swap (g.Level.unsigned q a.whole.spelled)
  move (g.Level.signed q i b z l) more = let a = move l more in
      level_to (behind a.swap) (g.Level.signed q i b (still_negates _ a.swap (pt.shorter l) z) a.whole.spelled)
  move (g.Level.negative q i l) more = let a = move l more in
      level_to (behind a.swap) (g.Level.negative q i a.whole.spelled)
  move (g.Level.joined {o = o} q l i e r) more = let b = move r more in let a = move l (o ∷ b.to) in
      level_to (along a.swap (behind b.swap)) (g.Level.joined q a.whole.spelled i e b.whole.spelled)
  move (g.Level.related {o = o} q l i e r z) more = let b = move r more in let a = move l (o ∷ b.to) in
      level_to (along a.swap (behind b.swap)) (g.Level.related q a.whole.spelled i e b.whole.spelled z)
  move (g.Level.shifted {a = m} {w = w} {o = o} {z = z} q l i j t p v y) more =
      let b = move_constant v (z ∷ more) in let a = move l (m ∷ w ∷ o ∷ b.to) in
      level_to (along a.swap (behind (behind (behind (along b.swap (behind same))))))
      (g.Level.shifted q a.whole.spelled i j t p b.whole.spelled y)
  move (g.Level.bytes {k = k} {o = o} {z = z} q l i p r y) more =
      let b = move r (z ∷ more) in let a = move l (k ∷ o ∷ b.to) in
      level_to (along a.swap (behind (behind (along b.swap (behind same)))))
      (g.Level.bytes q a.whole.spelled i p b.whole.spelled y)

  -- operands
  pub move_unary : {f : Option At} {x : Form} {e : tree.Tree} {ts rest : List Lexeme} → g.Unary f x e ts rest
      → (more : List Lexeme) → Moved (SomeUnary f x) ts rest more more
  move_unary (g.Unary.inverse i u) more = let a = move_unary u more in
      unary_to (behind a.swap) (g.Unary.inverse i a.whole.spelled)
  move_unary (g.Unary.plain p) more = let a = move_primary p more in unary_to a.swap (g.Unary.plain a.whole.spelled)
  move_unary (g.Unary.bits {d = d} {o = o} {k = k} {z = z} p i j v q w y) more =
      let b = move_constant w (z ∷ more) in let m = move_constant v (k ∷ b.to) in
      let a = move_primary p (d ∷ o ∷ m.to) in
      unary_to (along a.swap (behind (behind (along m.swap (behind (along b.swap (behind same)))))))
      (g.Unary.bits a.whole.spelled i j m.whole.spelled q b.whole.spelled y)

  -- primaries
  pub move_primary : {f : Option At} {x : Form} {e : tree.Tree} {ts rest : List Lexeme} → g.Primary f x e ts rest
      → (more : List Lexeme) → Moved (SomePrimary f x) ts rest more more
  move_primary (g.Primary.number i) more = primary_to (behind same) (g.Primary.number i)
  move_primary (g.Primary.wide i) more = primary_to (behind same) (g.Primary.wide i)
  move_primary (g.Primary.negative_number i) more = primary_to (behind same) (g.Primary.negative_number i)
  move_primary (g.Primary.negative_wide i) more = primary_to (behind same) (g.Primary.negative_wide i)
  move_primary (g.Primary.text i) more = primary_to (behind same) (g.Primary.text i)
  move_primary (g.Primary.truth i) more = primary_to (behind same) (g.Primary.truth i)
  move_primary (g.Primary.name i) more = primary_to (behind same) (g.Primary.name i)
  move_primary (g.Primary.call {z = z} i j a y) more = let b = move_arguments a (z ∷ more) in
      of_form b.whole.form (primary_to (behind (behind (along b.swap (behind same)))) (g.Primary.call i j b.whole.spelled y))
  move_primary (g.Primary.address i j) more = primary_to (behind (behind same)) (g.Primary.address i j)
  move_primary (g.Primary.address_of {z = z} i j k l y) more = let b = move l (z ∷ more) in
      primary_to (behind (behind (behind (along b.swap (behind same))))) (g.Primary.address_of i j k b.whole.spelled y)
  move_primary (g.Primary.parens {z = z} i l y) more = let b = move l (z ∷ more) in
      primary_to (behind (along b.swap (behind same))) (g.Primary.parens i b.whole.spelled y)
  move_primary (g.Primary.transfer {z = z} i j l y) more = let b = move l (z ∷ more) in
      primary_to (behind (behind (along b.swap (behind same)))) (g.Primary.transfer i j b.whole.spelled y)

  -- arguments
  pub move_arguments : {es : List tree.Tree} {ts rest : List Lexeme} → g.Arguments es ts rest → (more : List Lexeme)
      → Moved (SomeArguments (form_of_call es)) ts rest more more
  move_arguments (g.Arguments.one l) more = let a = move l more in
      arguments_to refl a.swap (g.Arguments.one a.whole.spelled)
  move_arguments (g.Arguments.several {e = e} {k = k} l i a) more =
      let b = move_arguments a more in let m = move l (k ∷ b.to) in
      arguments_to (same_form m.whole.tree e a b.whole.spelled) (along m.swap (behind b.swap))
      (g.Arguments.several m.whole.spelled i b.whole.spelled)
