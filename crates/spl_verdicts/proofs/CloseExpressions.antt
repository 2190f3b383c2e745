-- Behind an expression or a condition that is spelled no token is refused: it is read there, or reading goes on.
use Rattle.std.proofs.Common.{ℕ, suc, ◌+◌, ◌/◌, ◌≡◌, ◌==◌, ◌&&◌, not, ◌<◌, ◌≤◌, Bool, true, false, List, [], ◌∷◌, length, Option, Some, None, if◌then◌else◌, refl, arith, ap, inr}
use Rattle.std.proofs.lemmas.Bool.Decides.{nat_tests}
use Rattle.spl_grammar.specs.spl_tree.declared.names_and_places.At.{At}
use Rattle.spl_grammar.specs.spl_tree.declared.symbols.Symbol.{Symbol}
use Rattle.spl_grammar.specs.spl_tree.declared.symbols.Symbol.TheVariants as s
use Rattle.spl_grammar.specs.spl_tree.Symbols.{Lexeme, Is}
use Rattle.spl_grammar.specs.spl_tree.Operators.{Form, comparison, other, compared, bytes_of, binds, is_sign, sign_number, is_number, shift_of}
use Rattle.spl_grammar.specs.spl_tree.Expressions as g
use Rattle.spl_grammar.specs.spl_tree.Trees as tree
use Rattle.spl_grammar.specs.spl_reading.Readers.{Got, pure, same_symbol, symbol_number}
use Rattle.spl_grammar.specs.spl_reading.ReadExpressions.{Found, is, is_comparison, operator_of, counted, signed_by_next, first, join, shifted, bytes, turn, turn_by, level, unary, expression, condition, whole}
use Rattle.spl_grammar.proofs.LocalReaders.{IsLocal, Taking, local_pure, locals, local_repeat}
use Rattle.spl_grammar.proofs.LocalExpressions.{local_constant, local_opening, local_level, local_turn, takes_turn, local_unary}
use Rattle.spl_grammar.proofs.NearReaders.{near_to, near_then, near_pure, near_take, near_place, near_symbol, near_if, near_else, near_expect, near_allowed, near_numbered}
use Rattle.spl_grammar.proofs.PartTokens as pt
use Rattle.spl_grammar.proofs.FirstTokens as ft
use Rattle.spl_grammar.proofs.FollowLemmas.{follow_is, stops_close, stops_operator, stops_mark, stops_comma_below, not_mark}
use Rattle.spl_grammar.proofs.ExpressionClaims.{near_opening, complete_constant, expression_of, counts, part, loop, local_counts, seen, found, part_of, loop_of, near_level, stays}
use Rattle.spl_grammar.proofs.CompleteLevels.{no_number, seen_else, binds_more, turned, not_sum, no_operator, is_one, is_eight, below_eight, not_three, is_zero}
use Rattle.spl_grammar.proofs.CompleteExpressions.{complete}
use Rattle.spl_verdicts.proofs.CloseReaders.{Close, close_to, close_on, close_then, close_both, close_pure, close_symbol, close_head, close_if, close_else, close_allowed, close_moves, moves_take, moves_allowed, moves_then, close_turn, close_last_turn, close_last}
use Rattle.spl_verdicts.proofs.CloseOperands.{closes_unary}

-- What a level is made of.

-- each turn of its loop depends on no token behind it, and takes one where it goes on
turns_local : (c : Bool) (room taken h : ℕ) (at : At) (r : Found)
    → IsLocal (turn (unary room) (counts c room) room c taken (part c room taken h) h at r)
turns_local c room taken h at r = local_turn (unary room) (counts c room) room c taken (local_unary room)
    (local_counts c room)
    (part c room taken h) (local_level (unary room) (counts c room) room c taken (local_unary room)
    (local_counts c room) h) h at r

turns_take : (c : Bool) (room taken h : ℕ) (at : At) (r : Found) (ts : List Lexeme)
    → Taking (length ts) (turn (unary room) (counts c room) room c taken (part c room taken h) h at r ts)
turns_take c room taken h at r ts = takes_turn (unary room) (counts c room) room c taken (local_unary room)
    (local_counts c room)
    (part c room taken h) (local_level (unary room) (counts c room) room c taken (local_unary room)
    (local_counts c room) h) h at r ts

loop_local : (c : Bool) (room taken h : ℕ) (at : At) (r : Found) → IsLocal (loop c room taken h at r)
loop_local c room taken h at r = local_repeat r (turns_local c room taken h at) (turns_take c room taken h at)

-- a turn goes on over the token, or ends the loop
turn_end : (c : Bool) (room taken h : ℕ) (at : At) (r : Found) (t : Lexeme) (ts : List Lexeme)
    → Close (turn (unary room) (counts c room) room c taken (part c room taken h) h at r) (t ∷ ts) (t ∷ ts) (false, r)
unfolding turn turn_by join shifted bytes counted
turn_end c room taken h at r t ts = close_head _ (go (binds (operator_of t.symbol) == suc h)
    ((suc h == 1) && is s.Ampersand t.symbol) (c && (suc h == 8) && is s.Comma t.symbol && is_comparison r.form))
  where
    below : (n : ℕ) (f : Option At) → IsLocal (part c room taken h n f)
    below n f = local_level (unary room) (counts c room) room c taken (local_unary room) (local_counts c room) h n f

    go : (a b d : Bool) → Close (if a then join (unary room) (counts c room) room c taken (part c room taken h) h at r
        else if b then shifted (unary room) (counts c room) room c taken at r
        else if d then bytes (unary room) (counts c room) room c taken r else pure (false, r)) (t ∷ ts) (t ∷ ts)
        (false, r)
    go true b d = close_moves (moves_then (λ o. search (locals, below)) (moves_allowed _))
    go false true d = close_moves (moves_then (λ o. search (locals, local_constant) depth 8) (moves_allowed _))
    go false false true = close_moves (moves_then (λ o. search
        (locals, local_opening, local_counts) depth 8) moves_take)
    go false false false = close_pure _ _

loop_end : (c : Bool) (room taken h : ℕ) (at : At) (r : Found) (ts : List Lexeme) → 0 < length ts
    → Close (loop c room taken h at r) ts ts r
loop_end c room taken h at r [] l = absurd (omega arith)
loop_end c room taken h at r (t ∷ ts) l = close_last _ (turns_local c room taken h at)
    (turn_end c room taken h at r t ts)

-- the first operand and the loop of a level
close_level : (c : Bool) (h k : ℕ) (f : Option At) (room taken : ℕ) {ts rest : List Lexeme} {r : Found}
    → 0 < length ts
    → 0 < length rest
    → Close (first (unary room) (counts c room) room c taken (part c room taken h) h k f) ts rest r
    → Close (part c room taken (suc h) k f) ts rest r
unfolding level
close_level c h k f room taken {ts = []} l m n = absurd (omega arith)
close_level c h k None room taken {ts = t ∷ us} {rest = rest} {r = r} l m n = close_then _ near_place
    (close_both (loop_local c room taken h t.at) n (loop_end c room taken h t.at r rest m))
close_level c h k (Some a) room taken {ts = t ∷ us} {rest = rest} {r = r} l m n = close_then _ near_place
    (close_both (loop_local c room taken h a) n (loop_end c room taken h a r rest m))

-- What is claimed of a level.
pub record PartClosed (c : Bool) (f : Option At) (h n : ℕ) (x : Form) (e : tree.Tree)
    (ts rest : List Lexeme) : Type 0 where
  pub closes : (room taken k : ℕ) → Close (part c room taken h k f) ts rest (found (k + n) x e)

-- an operand
operand_closed : {c : Bool} {f : Option At} {x : Form} {e : tree.Tree} {ts rest : List Lexeme} → g.Unary f x e ts rest
    → 0 < length rest → PartClosed c f 0 0 x e ts rest
unfolding level
operand_closed {x = x} {e = e} u z = record {
  closes = λ room taken k. close_to (close_both (λ r. local_pure _)
      (closes_unary u z room (taken + k / 8)) (close_pure _ _)) (ap (λ n. found n x e) (omega arith));
}

-- a level stands for the one below
up_closed : {c : Bool} {f : Option At} {h n : ℕ} {x : Form} {e : tree.Tree} {ts rest : List Lexeme}
    → (suc h == 3) ≡ false
    → length rest < length ts → 0 < length rest → PartClosed c f h n x e ts rest
    → PartClosed c f (suc h) n x e ts rest
unfolding first
up_closed {c = c} {f = f} {h = h} q l z p = record {
  closes = λ room taken k. close_level c h k f room taken (omega arith) z
      (close_else _ q (p.closes room taken k));
}

-- a sum without a sign
unsigned_closed : {c : Bool} {h n : ℕ} {x : Form} {e : tree.Tree} {ts rest : List Lexeme} → (suc h == 3) ≡ true
    → 0 < length rest → ft.Begins (λ k. is_sign (operator_of k)) false ts → PartClosed c None h n x e ts rest
    → PartClosed c None (suc h) n x e ts rest
unfolding first
unsigned_closed {c = c} {h = h} q z (ft.with_first b) p = record {
  closes = λ room taken k.
      close_level c h k None room taken (omega arith) z (close_if _ q (close_head _ (close_else _ b
      (p.closes room taken k))));
}

-- a sum with a sign
signed_closed : {c : Bool} {h n op : ℕ} {x : Form} {e : tree.Tree} {t : Lexeme} {ts rest : List Lexeme}
    → (suc h == 3) ≡ true
    → Is (s.Operator op) t → is_sign op ≡ true → g.negates op ts ≡ false → length rest < length ts → 0 < length rest
    → PartClosed c None h n x e ts rest
    → PartClosed c None (suc h) n other (tree.Tree.unary (sign_number op) e t.at) (t ∷ ts) rest
unfolding first signed_by_next operator_of
signed_closed {ts = []} q i b y l z p = absurd (omega arith)
signed_closed {c = c} {h = h} {n = n} {op = op} {e = e} {t = t} {ts = u ∷ us} q i b y l z p = record {
  closes = λ room taken k.
      close_level c h k None room taken (omega arith) z (close_if _ q (close_symbol _ i (close_if _ b
      (close_then _ near_take (close_head _ (close_else _ (no_number op t.symbol u.symbol i y)
      (close_both (λ r. local_pure _) (p.closes room taken k) (close_to (close_pure _ _)
      (ap (λ j. found (k + n) other (tree.Tree.unary (sign_number (operator_of j)) e t.at)) i)))))))));
}

-- a sum that begins with a negated number
negative_closed : {c : Bool} {h n : ℕ} {x : Form} {e : tree.Tree} {t : Lexeme} {ts rest : List Lexeme}
    → (suc h == 3) ≡ true
    → Is (s.Operator 12) t → 0 < length rest → ft.Begins is_number true ts → PartClosed c (Some t.at) h n x e ts rest
    → PartClosed c None (suc h) n other e (t ∷ ts) rest
unfolding first signed_by_next operator_of
negative_closed {c = c} {h = h} {t = t} q i z (ft.with_first {t = u} b) p = record {
  closes = λ room taken k.
      close_level c h k None room taken (omega arith) z (close_if _ q (close_symbol _ i (close_then _ near_take
      (close_head _ (close_if _ (go t.symbol i) (close_both (λ r. local_pure _) (p.closes room taken k)
      (close_pure _ _)))))));
}
  where
    go : (k : Symbol) → k ≡ s.Operator 12 → ((operator_of k == 12) && is_number u.symbol) ≡ true
    go k f = rw (f, b) refl

-- what a turn at an operator gives
joined_pair : (d : Bool) (j : Symbol) (op p q : ℕ) (u : Form) (a b : tree.Tree) (at : At) → d ≡ false
    → j ≡ s.Operator op → p ≡ q
    → turned (not d) (found p (if d then u else other) (tree.Tree.binary (operator_of j) a b at))
    ≡ turned true (found q other (tree.Tree.binary op a b at))
unfolding operator_of
joined_pair d j op p q u a b at e f g = rw (e, f, g) refl

related_pair : (d : Bool) (j : Symbol) (op p q : ℕ) (u : Form) (a b : tree.Tree) (at : At) → d ≡ true
    → j ≡ s.Operator op → p ≡ q
    → turned (not d) (found p (if d then u else other) (tree.Tree.binary (operator_of j) a b at))
    ≡ turned false (found q u (tree.Tree.binary op a b at))
unfolding operator_of
related_pair d j op p q u a b at e f g = rw (e, f, g) refl

-- left operator right
joined_closed : {c : Bool} {f : Option At} {h m n op : ℕ} {x y : Form} {a b : tree.Tree} {o : Lexeme} {ts mid rest :
    List Lexeme}
    → (suc h == 4) ≡ false → g.Level c f (suc h) m x a ts (o ∷ mid) → Is (s.Operator op) o
    → (binds op == suc h) ≡ true
    → length rest < length mid → 0 < length rest → PartClosed c None h n y b mid rest
    → PartClosed c f (suc h) (suc (m + n)) other (tree.Tree.binary op a b (g.start f ts)) ts rest
unfolding turn turn_by join counted operator_of
joined_closed {c = c} {f = f} {h = h} {m = m} {n = n} {op = op} {a = a} {b = b} {o = o} {ts = ts} {mid = mid} {rest =
    rest} q l i e
    j z p = record {
      closes = λ room taken k. close_on
          (loop_of (complete l) (follow_is i (stops_operator c (seen h) op (rw (seen_else h q) (binds_more h
          (binds op) e)))) room taken k)
          (close_last_turn {v = found (k + suc (m + n)) other (tree.Tree.binary op a b (g.start f ts))}
          (turns_local c room taken h (g.start f ts)) (turns_take c room taken h (g.start f ts)) (omega arith)
          (close_symbol _ i (close_if _ e (close_allowed _ _ (omega arith) (λ ok. close_both (λ b. local_pure _)
          (p.closes room taken (suc (k + m)))
          (close_to (close_pure _ _) (joined_pair _ _ _ _ _ _ _ _ _ q i (omega arith)))))))
          (loop_end c room taken h (g.start f ts) _ rest z));
    }

-- a relation, which no other follows
related_closed : {c : Bool} {f : Option At} {h m n op : ℕ} {x y : Form} {a b : tree.Tree} {o : Lexeme} {ts mid rest :
    List Lexeme}
    → (suc h == 4) ≡ true → g.Level c f h m x a ts (o ∷ mid) → Is (s.Operator op) o → (binds op == suc h) ≡ true
    → length rest < length mid → 0 < length rest → PartClosed c None h n y b mid rest
    → PartClosed c f (suc h) (suc (m + n)) (compared x y) (tree.Tree.binary op a b (g.start f ts)) ts rest
unfolding turn turn_by join counted operator_of first
related_closed {c = c} {f = f} {h = h} {m = m} {n = n} {op = op} {x = x} {y = y} {a = a} {b = b} {o = o} {ts = ts}
    {mid = mid}
    {rest = rest} q l i e j z p = record {
      closes = λ room taken k. close_on
          (near_level c h k f room taken (pt.shorter l)
          (near_else _ (not_sum h q) (part_of (complete l) (follow_is i (stops_operator c h op (binds_more h
          (binds op) e))) room taken k))
          stays)
          (close_last _ {v = found (k + suc (m + n)) (compared x y) (tree.Tree.binary op a b (g.start f ts))}
          (turns_local c room taken h (g.start f ts))
          (close_symbol _ i (close_if _ e (close_allowed _ _ (omega arith) (λ ok. close_both (λ b. local_pure _)
          (p.closes room taken (suc (k + m)))
          (close_to (close_pure _ _) (related_pair _ _ _ _ _ _ _ _ _ q i (omega arith))))))));
    }

-- a shift
shifted_closed : {c : Bool} {f : Option At} {h n kind : ℕ} {x : Form} {e : tree.Tree} {v : tree.Constant} {a w o z :
    Lexeme}
    {ts mid rest : List Lexeme} → (suc h == 1) ≡ true → g.Level c f (suc h) n x e ts (a ∷ w ∷ o ∷ mid)
    → Is s.Ampersand a
    → Is s.Name w → shift_of w.letters ≡ Some kind → Is s.Open o → g.Constant v mid (z ∷ rest) → Is s.Close z
    → 0 < length rest
    → PartClosed c f (suc h) (suc n) other (tree.Tree.shift kind e v (g.start f ts)) ts rest
unfolding turn turn_by shifted counted operator_of binds same_symbol symbol_number
shifted_closed {c = c} {f = f} {h = h} {n = n} {kind = kind} {e = e} {v = v} {ts = ts} {mid = mid} {rest = rest} q l
    i j t o u y z =
    record {
      closes = λ room taken k. let w = pt.shorter_constant u in close_on
          (loop_of (complete l) (follow_is i (rw (is_zero h q) (stops_mark c))) room taken k)
          (close_turn {v = found (k + suc n) other (tree.Tree.shift kind e v (g.start f ts))} {m = rest}
          (turns_take c room taken h (g.start f ts)) (omega arith)
          (near_symbol _ i (near_else _ (no_operator h) (near_if _ (is_one h q) (near_allowed _ _ (omega arith) (λ ok.
          near_then _ (near_numbered shift_of j t) (near_then _ (near_expect o) (near_then _ (complete_constant u)
          (near_then _ (near_expect y) (near_to (near_pure _ _)
          (ap (λ j. Got (turned true (found j other (tree.Tree.shift kind e v (g.start f ts)))) rest)
          (omega arith)))))))))))
          (loop_end c room taken h (g.start f ts) _ rest z));
    }

-- a comparison of bytes
bytes_closed : {f : Option At} {h m n : ℕ} {x : Form} {e count : tree.Tree} {k o z : Lexeme} {ts mid rest : List
    Lexeme}
    → (suc h == 8) ≡ true → g.Level true f h m comparison e ts (k ∷ o ∷ mid) → Is s.Comma k → Is s.Open o
    → g.Level false None 10 n x count mid (z ∷ rest) → Is s.Close z → 0 < length rest
    → PartClosed true f (suc h) m other (bytes_of e count) ts rest
unfolding turn turn_by bytes operator_of binds same_symbol symbol_number first
bytes_closed {f = f} {h = h} {m = m} {e = e} {count = count} {ts = ts} {mid = mid} {rest = rest} q l i o r y z =
    record {
      closes = λ room taken k. let w = pt.shorter r in close_on
          (near_level true h k f room taken (pt.shorter l)
          (near_else _ (not_three h q) (part_of (complete l) (follow_is i (stops_comma_below true h
          (below_eight h q))) room taken k))
          stays)
          (close_turn {v = found (k + m) other (bytes_of e count)} {m = rest} (turns_take true room taken h
          (g.start f ts)) (omega arith)
          (near_symbol _ i (near_else _ (no_operator h) (near_else _ (not_mark h _ (inr refl)) (near_if _
          (is_eight h q)
          (near_then _ near_take (near_opening room (taken + (k + m) / 8) _ o (omega arith)
          (λ ok. near_then _ ((expression_of (complete r) (follow_is y (stops_close false 10))).reads room (taken +
          (k + m) / 8) ok)
          (near_then _ (near_expect y) (near_pure _ _)))))))))
          (loop_end true room taken h (g.start f ts) _ rest z));
    }

form_to : {c : Bool} {f : Option At} {h n : ℕ} {x y : Form} {e : tree.Tree} {ts rest : List Lexeme} → x ≡ y
    → PartClosed c f h n x e ts rest → PartClosed c f h n y e ts rest
form_to q p = rw (← q) p

below_sum : (h : ℕ) → (suc h == 3) ≡ true → h ≤ 2
below_sum h e = grind (arith, nat_tests, e)

-- a part of each level, by induction on how it is spelled
pub closes : {c : Bool} {f : Option At} {h n : ℕ} {x : Form} {e : tree.Tree} {ts rest : List Lexeme}
    → g.Level c f h n x e ts rest → 0 < length rest → PartClosed c f h n x e ts rest
closes (g.Level.operand u) z = operand_closed u z
closes (g.Level.up q l) z = up_closed q (pt.shorter l) z (closes l z)
closes (g.Level.unsigned q l) z = unsigned_closed q z (ft.no_sign l (below_sum _ q)) (closes l z)
closes (g.Level.signed q i b y l) z = signed_closed q i b y (pt.shorter l) z (closes l z)
closes (g.Level.negative q i l) z = negative_closed q i z (ft.number_first l) (closes l z)
closes (g.Level.joined q l i e r) z = joined_closed q l i e (pt.shorter r) z (closes r z)
closes (g.Level.related q l i e r y) z = form_to y (related_closed q l i e (pt.shorter r) z (closes r z))
closes (g.Level.shifted q l i j t o v y) z = shifted_closed q l i j t o v y z
closes (g.Level.bytes q l i o r y) z = bytes_closed q l i o r y z

-- whole expressions and conditions
pub expression_closes : {n : ℕ} {x : Form} {e : tree.Tree} {ts rest : List Lexeme}
    → g.Level false None 10 n x e ts rest
    → 0 < length rest → (room taken : ℕ) → Close (expression room taken) ts rest e
unfolding expression whole
expression_closes l z room taken = close_both (λ r. local_pure _) ((closes l z).closes room taken 0) (close_pure _ _)

pub condition_closes : {n : ℕ} {x : Form} {e : tree.Tree} {ts rest : List Lexeme} → g.Level true None 10 n x e ts rest
    → 0 < length rest → (room taken : ℕ) → Close (condition room taken) ts rest e
unfolding condition
condition_closes l z room taken = close_both (λ r. local_pure _) ((closes l z).closes room taken 0) (close_pure _ _)
