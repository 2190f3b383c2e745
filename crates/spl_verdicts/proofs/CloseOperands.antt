-- Behind an operand that is spelled no token is refused: it is read there, or reading goes on.
use Rattle.std.proofs.Common.{ℕ, zero, suc, ◌≡◌, ◌<◌, Bool, true, false, List, [], ◌∷◌, length, Option, Some, None, if◌then◌else◌, refl, arith, ap, nat_lt}
use Rattle.std.proofs.lemmas.Bool.Decides.{nat_tests}
use Rattle.spl_grammar.specs.spl_tree.declared.names_and_places.At.{At}
use Rattle.spl_grammar.specs.spl_tree.declared.expressions.Kind.{Kind}
use Rattle.spl_grammar.specs.spl_tree.declared.symbols.Symbol.{Symbol}
use Rattle.spl_grammar.specs.spl_tree.declared.symbols.Symbol.TheVariants as s
use Rattle.spl_grammar.specs.spl_tree.Symbols.{Lexeme, Is}
use Rattle.spl_grammar.specs.spl_tree.Operators.{Form, reference, other, form_of_call}
use Rattle.spl_grammar.specs.spl_tree.Expressions as g
use Rattle.spl_grammar.specs.spl_tree.Trees as tree
use Rattle.spl_grammar.specs.spl_reading.Readers.{Got, Parser, by_symbol, expect, followed, pure, same_symbol, symbol_number}
use Rattle.spl_grammar.specs.spl_reading.ReadExpressions.{Found, plain, is, bits, field, negative_by, opening, enter, enclosed, arguments, named, addressed, primary_by, inverse, primary, unary_step, unary, within}
use Rattle.spl_grammar.proofs.LocalReaders.{IsLocal, local_refuse, local_pure, local_then, local_repeat, locals}
use Rattle.spl_grammar.proofs.LocalExpressions.{local_constant, local_field, local_more, local_within, local_unary, takes_more}
use Rattle.spl_grammar.proofs.NearReaders.{Near, near_from, near_then, near_pure, near_take, near_place, near_symbol, near_head, near_if, near_else, near_expect, same_self}
use Rattle.spl_grammar.proofs.PartTokens as pt
use Rattle.spl_grammar.proofs.FirstTokens as ft
use Rattle.spl_grammar.proofs.FollowLemmas.{follow_is, stops_close}
use Rattle.spl_grammar.proofs.ExpressionClaims.{near_enclosed, complete_constant, expression_of, behind_not, unary_is}
use Rattle.spl_grammar.proofs.CompleteExpressions.{near_arguments, primary_reader, complete, complete_primary, complete_arguments}
use Rattle.spl_verdicts.proofs.CloseReaders.{Close, close_near, close_from, close_then, close_both, close_pure, close_symbol, close_head, close_if, close_else, close_allowed, close_moves, Moves, moves_take, moves_allowed, moves_head, moves_if, moves_then}

-- "(" is gone over, or too deep
moves_opening : (room taken : ℕ) {t : Lexeme} {ts : List Lexeme} → is s.Open t.symbol ≡ true
    → Moves (opening room taken) (t ∷ ts)
unfolding opening enter
moves_opening room taken e = moves_head _ (moves_if _ e (moves_allowed _))

moves_expect : (k : Symbol) {t : Lexeme} {ts : List Lexeme} → is k t.symbol ≡ true → Moves (expect k) (t ∷ ts)
unfolding expect
moves_expect k e = moves_head _ (moves_if _ e moves_take)

local_behind : (room taken : ℕ) → IsLocal (behind_not room taken)
local_behind zero taken = local_refuse
local_behind (suc room) taken = local_unary room taken None

-- and so are the parts that begin with it
moves_enclosed : (room taken : ℕ) {t : Lexeme} {ts : List Lexeme} → is s.Open t.symbol ≡ true
    → Moves (enclosed room (behind_not room taken) (within room taken) taken) (t ∷ ts)
unfolding enclosed
moves_enclosed room taken e = moves_then (λ _. local_then (local_within room taken) (λ e. search locals))
    (moves_opening room taken e)

moves_arguments : (room taken : ℕ) {t : Lexeme} {ts : List Lexeme} → is s.Open t.symbol ≡ true
    → Moves (arguments room (behind_not room taken) (within room taken) taken) (t ∷ ts)
unfolding arguments
moves_arguments room taken e = let lw = local_within room taken in moves_then (λ _. local_then lw (λ e. local_then
    (local_repeat (e ∷ []) (local_more room (behind_not room taken) (within room taken) taken
    (local_behind room taken) lw)
    (takes_more room (behind_not room taken) (within room taken) taken lw)) (λ es. search locals)))
    (moves_opening room taken e)

-- a bit field
moves_bits : (at : At) (r : Found) {t : Lexeme} {ts : List Lexeme} → is s.Dot t.symbol ≡ true
    → Moves (bits at r) (t ∷ ts)
unfolding bits
moves_bits at r e = moves_then (λ _. search (locals, local_constant) depth 8) (moves_expect s.Dot e)

-- What may follow: it does, or the part ends there.
may_follow : {A : Type 0} (k : Symbol) (p : Parser A) (a : A) (ts : List Lexeme) → 0 < length ts
    → ((t : Lexeme) (us : List Lexeme) → is k t.symbol ≡ true → Moves p (t ∷ us))
    → Close (by_symbol (λ j. if is k j then p else pure a)) ts ts a
may_follow k p a [] h f = absurd (omega arith)
may_follow k p a (t ∷ us) h f = close_head _ (go (is k t.symbol) refl)
  where
    go : (b : Bool) → is k t.symbol ≡ b → Close (if b then p else pure a) (t ∷ us) (t ∷ us) a
    go true e = close_moves (f t us e)
    go false e = close_pure a (t ∷ us)

named_end : (room taken : ℕ) (t : Lexeme) (ts : List Lexeme) → 0 < length ts
    → Close (named room (behind_not room taken) (within room taken) taken t) ts ts
    (plain reference (tree.Tree.named t.letters (tree.trees []) t.at))
unfolding named
named_end room taken t ts h = may_follow s.Open _ _ ts h
    (λ u us e. moves_then (λ _. local_pure _) (moves_arguments room taken e))

addressed_end : (room taken : ℕ) (a t : Lexeme) (ts : List Lexeme) → 0 < length ts
    → Close (addressed room (behind_not room taken) (within room taken) taken a t) ts ts
    (plain other (tree.Tree.address t.letters (tree.trees []) a.at))
unfolding addressed
addressed_end room taken a t ts h = may_follow s.Open _ _ ts h
    (λ u us e. moves_then (λ _. local_pure _) (moves_enclosed room taken e))

field_end : (at : At) (r : Found) (ts : List Lexeme) → 0 < length ts → Close (field at r) ts ts r
unfolding field
field_end at r ts h = may_follow s.Dot _ _ ts h (λ u us e. moves_bits at r e)

-- Primaries.

-- one token that is a primary
one_token : {x : Form} {e : tree.Tree} {k : Symbol} {t : Lexeme} {rest : List Lexeme} (room taken : ℕ) → Is k t
    → Near (primary_by room (behind_not room taken) (within room taken) taken k) (t ∷ rest) rest (Got
    (plain x e) rest)
    → Close (primary_reader None room taken) (t ∷ rest) rest (plain x e)
one_token room taken i n = close_near (near_symbol _ i n)

-- a name with arguments
call_closed : {es : List tree.Tree} {t o z : Lexeme} {ts rest : List Lexeme} (room taken : ℕ) → Is s.Name t
    → Is s.Open o
    → g.Arguments es ts (z ∷ rest) → Is s.Close z
    → Close (primary_reader None room taken) (t ∷ o ∷ ts) rest (plain (form_of_call es) (tree.Tree.named t.letters
    (tree.trees es) t.at))
unfolding primary_by named
call_closed room taken i o a z = close_near (near_symbol _ i (near_then _ near_take (near_symbol _ o
    (near_if _ (same_self s.Open) (near_then _
    (near_arguments room taken _ o (complete_arguments a (follow_is z (stops_close false 10)) z) z)
    (near_pure _ _))))))

-- the address of an element
address_closed : {n : ℕ} {x : Form} {e : tree.Tree} {a t o z : Lexeme} {ts rest : List Lexeme} (room taken : ℕ)
    → Is s.AtSign a
    → Is s.Name t → Is s.Open o → g.Level false None 10 n x e ts (z ∷ rest) → Is s.Close z
    → Close (primary_reader None room taken) (a ∷ t ∷ o ∷ ts) rest
    (plain other (tree.Tree.address t.letters (tree.trees (e ∷ [])) a.at))
unfolding primary_by addressed
address_closed room taken i j o l z = let k = pt.shorter l in close_near
    (near_symbol _ i (near_then _ near_take (near_then _ (near_expect j) (near_symbol _ o (near_if _
    (same_self s.Open)
    (near_then _ (near_enclosed room taken _ o (expression_of (complete l) (follow_is z (stops_close false 10))) z
    (omega arith))
    (near_pure _ _)))))))

-- what stands in parentheses
parens_closed : {n : ℕ} {x : Form} {e : tree.Tree} {o z : Lexeme} {ts rest : List Lexeme} (room taken : ℕ)
    → Is s.Open o
    → g.Level false None 10 n x e ts (z ∷ rest) → Is s.Close z
    → Close (primary_reader None room taken) (o ∷ ts) rest (plain other e)
unfolding primary_by
parens_closed room taken o l z = let k = pt.shorter l in close_near (near_symbol _ o (near_then _
    (near_enclosed room taken _ o (expression_of (complete l) (follow_is z (stops_close false 10))) z (omega arith))
    (near_pure _ _)))

-- a value taken as one of another kind
transfer_closed : {k : Kind} {n : ℕ} {x : Form} {e : tree.Tree} {t o z : Lexeme} {ts rest : List Lexeme}
    (room taken : ℕ)
    → Is (s.Type k) t → Is s.Open o → g.Level false None 10 n x e ts (z ∷ rest) → Is s.Close z
    → Close (primary_reader None room taken) (t ∷ o ∷ ts) rest (plain other (tree.Tree.transfer k e t.at))
unfolding primary_by
transfer_closed room taken i o l z = let k = pt.shorter l in close_near (near_symbol _ i (near_then _ near_take
    (near_then _
    (near_enclosed room taken _ o (expression_of (complete l) (follow_is z (stops_close false 10))) z (omega arith))
    (near_pure _ _))))

pub closes_primary : {f : Option At} {x : Form} {e : tree.Tree} {ts rest : List Lexeme} → g.Primary f x e ts rest
    → 0 < length rest → (room taken : ℕ) → Close (primary_reader f room taken) ts rest (plain x e)
unfolding primary_by negative_by
closes_primary (g.Primary.number i) h room taken = one_token room taken i (near_then _ near_take (near_pure _ _))
closes_primary (g.Primary.wide i) h room taken = one_token room taken i (near_then _ near_take (near_pure _ _))
closes_primary (g.Primary.negative_number i) h room taken = close_near
    (near_symbol _ i (near_then _ near_take (near_pure _ _)))
closes_primary (g.Primary.negative_wide i) h room taken = close_near
    (near_symbol _ i (near_then _ near_take (near_pure _ _)))
closes_primary (g.Primary.text i) h room taken = one_token room taken i (near_then _ near_take (near_pure _ _))
closes_primary (g.Primary.truth i) h room taken = one_token room taken i (near_then _ near_take (near_pure _ _))
closes_primary (g.Primary.name {t = t} {rest = rest} i) h room taken = close_symbol _ i
    (close_then _ near_take (named_end room taken t rest h))
closes_primary (g.Primary.call i o a z) h room taken = call_closed room taken i o a z
closes_primary (g.Primary.address {a = a} {t = t} {rest = rest} i j) h room taken = close_symbol _ i
    (close_then _ near_take (close_then _ (near_expect j) (addressed_end room taken a t rest h)))
closes_primary (g.Primary.address_of i j o l z) h room taken = address_closed room taken i j o l z
closes_primary (g.Primary.parens o l z) h room taken = parens_closed room taken o l z
closes_primary (g.Primary.transfer i o l z) h room taken = transfer_closed room taken i o l z

-- Operands.

-- a primary and what may follow it
front_closed : (f : Option At) {x : Form} {e : tree.Tree} {ts rest : List Lexeme} → ft.Begins (is s.Not) false ts
    → (room taken : ℕ) → Close (primary_reader f room taken) ts rest (plain x e) → 0 < length rest
    → Close (unary room taken f) ts rest (plain x e)
unfolding unary_step primary
front_closed None {x = x} {e = e} {ts = ts} {rest = rest} (ft.with_first b) room taken n h = close_from
    (ap (λ p. p ts) (unary_is room taken None)) (close_head _ (close_else _ b (close_then _ near_place
    (close_both (local_field _) n (field_end _ (plain x e) rest h)))))
front_closed (Some a) {x = x} {e = e} {ts = ts} {rest = rest} (ft.with_first b) room taken n h = close_from
    (ap (λ p. p ts) (unary_is room taken (Some a))) (close_both (local_field a) n (field_end a (plain x e) rest h))

-- a primary and its bit field
dot_first : {t : Lexeme} {ts : List Lexeme} → Is s.Dot t → ft.Begins (is s.Open) false (t ∷ ts)
unfolding same_symbol symbol_number
dot_first i = ft.by_is _ _ _ _ _ i refl

front_read : (f : Option At) {x y : Form} {e d : tree.Tree} {ts mid rest : List Lexeme}
    → ft.Begins (is s.Not) false ts
    → (room taken : ℕ) → Near (primary_reader f room taken) ts mid (Got (plain x e) mid)
    → Near (field (g.start f ts) (plain x e)) mid rest (Got (plain y d) rest)
    → Close (unary room taken f) ts rest (plain y d)
unfolding unary_step primary
front_read None {ts = ts} (ft.with_first b) room taken n k = close_near (near_from
    (ap (λ p. p ts) (unary_is room taken None)) (near_head _ (near_else _ b (near_then _ near_place
    (near_then _ n k)))))
front_read (Some a) {ts = ts} (ft.with_first b) room taken n k = close_near (near_from
    (ap (λ p. p ts) (unary_is room taken (Some a))) (near_then _ n k))

bits_closed : {f : Option At} {x : Form} {e : tree.Tree} {v w : tree.Constant} {d o k z : Lexeme}
    {ts mid next rest : List Lexeme} (room taken : ℕ) → g.Primary f x e ts (d ∷ o ∷ mid) → Is s.Dot d → Is s.Open o
    → g.Constant v mid (k ∷ next) → Is s.Colon k → g.Constant w next (z ∷ rest) → Is s.Close z
    → Close (unary room taken f) ts rest (plain other (tree.Tree.field e v w (g.start f ts)))
unfolding field bits
bits_closed {f = f} room taken p i o a k b z = front_read f (ft.primary_no_not p) room taken
    ((complete_primary p).reads (dot_first i) room taken)
    (near_symbol _ i (near_if _ (same_self s.Dot) (near_then _ (near_expect i) (near_then _ (near_expect o)
    (near_then _ (complete_constant a) (near_then _ (near_expect k) (near_then _ (complete_constant b)
    (near_then _ (near_expect z) (near_pure _ _)))))))))

pub closes_unary : {f : Option At} {x : Form} {e : tree.Tree} {ts rest : List Lexeme} → g.Unary f x e ts rest
    → 0 < length rest → (room taken : ℕ) → Close (unary room taken f) ts rest (plain x e)
unfolding unary_step inverse enter
closes_unary (g.Unary.inverse {x = x} {e = e} {t = t} {ts = ts} {rest = rest} i u) h room taken = close_from
    (ap (λ p. p (t ∷ ts)) (unary_is room taken None)) (close_symbol _ i (close_if _ (same_self s.Not)
    (close_allowed _ _ (let l = pt.shorter_unary u in omega arith) (go (λ room. closes_unary u h room taken) room))))
  where
    go : ((room : ℕ) → Close (unary room taken None) ts rest (plain x e)) → (room : ℕ) → nat_lt taken room ≡ true
        → Close (followed (behind_not room taken) (λ r. pure (plain other (tree.Tree.unary 2 r.tree t.at)))) ts rest
        (plain other (tree.Tree.unary 2 e t.at))
    go f zero ok = absurd (grind (arith, nat_tests, ok))
    go f (suc room) ok = close_both (λ r. local_pure _) (f room) (close_pure _ _)
closes_unary (g.Unary.plain {f = f} p) h room taken = front_closed f (ft.primary_no_not p) room taken
    (closes_primary p h room taken) h
closes_unary (g.Unary.bits p i o a k b z) h room taken = bits_closed room taken p i o a k b z
