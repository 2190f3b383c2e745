-- What is spelled as a part of each level is read, given the claims for its own parts.
use Rattle.std.proofs.Common.{ℕ, suc, ◌+◌, ◌≡◌, ◌==◌, ◌&&◌, ◌/◌, not, ◌<◌, Bool, true, false, if◌then◌else◌, List, [], ◌∷◌, length, Option, Some, None, refl, arith, ap, sym, inr}
use Rattle.std.proofs.lemmas.Bool.Decides.{nat_tests}
use Rattle.spl_reading.specs.spl_tree.declared.names_and_places.At.{At}
use Rattle.spl_reading.specs.spl_tree.declared.symbols.Symbol.{Symbol}
use Rattle.spl_reading.specs.spl_tree.declared.symbols.Symbol.TheVariants as s
use Rattle.spl_reading.specs.spl_tree.Symbols.{Lexeme, Is}
use Rattle.spl_reading.specs.spl_tree.Operators.{Form, comparison, other, compared, bytes_of, binds, is_sign, sign_number, is_number, shift_of}
use Rattle.spl_reading.specs.spl_tree.Expressions as g
use Rattle.spl_reading.specs.spl_tree.Trees as tree
use Rattle.spl_reading.specs.Readers.{Got, same_symbol, symbol_number}
use Rattle.spl_reading.specs.ReadExpressions.{Found, operator_of, constant, counted, signed_by_next, first, join, shifted, bytes, turn, turn_by, unary}
use Rattle.spl_grammar.proofs.LocalExpressions.{takes_turn, local_level, local_unary}
use Rattle.spl_grammar.proofs.NearReaders.{Near, near_to, near_then, near_pure, near_take, near_symbol, near_head, near_if, near_else, near_expect, near_allowed, near_numbered, near_turn, near_last}
use Rattle.spl_grammar.proofs.FirstTokens as ft
use Rattle.spl_grammar.proofs.FollowLemmas.{follow_below, follow_is, stops_close, stops_operator, stops_mark, stops_comma_below, repeat_is, not_mark}
pub use Rattle.spl_grammar.proofs.ExpressionClaims.{on_go, near_on, near_opening, complete_constant, ExpressionRead, behind_not, unary_is, counts, part, loop, local_counts, seen, found, PartRead, seen_at_most, part_of, loop_of, expression_of, near_enclosed, ArgumentsRead, has_first, near_level, stays, at_seen, operand, looped}

-- a level stands for the one below
pub up_case : {c : Bool} {f : Option At} {h n : ℕ} {x : Form} {e : tree.Tree} {ts rest : List Lexeme}
    → (suc h == 3) ≡ false → PartRead c f h n x e ts rest
    → length rest < length ts → PartRead c f (suc h) n x e ts rest
unfolding first
up_case {c = c} {f = f} {h = h} q p l = looped (λ w room taken k. near_level c h k f room taken l
    (near_else _ q (part_of p (follow_below c (seen h) h (at_seen h) w) room taken k)) stays)

-- a sum without a sign
pub unsigned_case : {c : Bool} {h n : ℕ} {x : Form} {e : tree.Tree} {ts rest : List Lexeme} → (suc h == 3) ≡ true
    → PartRead c None h n x e ts rest
    → length rest < length ts → ft.Begins (λ k. is_sign (operator_of k)) false ts
    → PartRead c None (suc h) n x e ts rest
unfolding first
unsigned_case {c = c} {h = h} q p l (ft.with_first b) = looped (λ w room taken k. near_level c h k None room taken l
    (near_if _ q (near_head _ (near_else _ b (part_of p (follow_below c (seen h) h (at_seen h) w) room taken k))))
    stays)

-- the test for a number behind a minus
pub no_number : (op : ℕ) (k j : Symbol) → k ≡ s.Operator op → ((op == 12) && is_number j) ≡ false
    → ((operator_of k == 12) && is_number j) ≡ false
unfolding operator_of
no_number op k j e f = rw e f

-- a sum with a sign
pub signed_case : {c : Bool} {h n op : ℕ} {x : Form} {e : tree.Tree} {t : Lexeme} {ts rest : List Lexeme}
    → (suc h == 3) ≡ true → Is (s.Operator op) t
    → is_sign op ≡ true → g.negates op ts ≡ false → PartRead c None h n x e ts rest → length rest < length ts
    → PartRead c None (suc h) n other (tree.Tree.unary (sign_number op) e t.at) (t ∷ ts) rest
unfolding first signed_by_next operator_of
signed_case {ts = []} q i b z p l = absurd (omega arith)
signed_case {c = c} {h = h} {n = n} {op = op} {e = e} {t = t} {ts = u ∷ us} {rest = rest} q i b z p l = looped
    (λ w room taken k. near_level c h k None room taken (omega arith)
    (near_if _ q (near_symbol _ i (near_if _ b
    (near_then _ near_take (near_head _ (near_else _ (no_number op t.symbol u.symbol i z)
    (near_then _ (part_of p (follow_below c (seen h) h (at_seen h) w) room taken k)
    (near_to (near_pure _ _) (ap (λ j. Got (found (k + n) other (tree.Tree.unary (sign_number (operator_of j)) e t.at))
    rest) i))))))))) stays)

-- a sum that begins with a negated number
pub negative_case : {c : Bool} {h n : ℕ} {x : Form} {e : tree.Tree} {t : Lexeme} {ts rest : List Lexeme}
    → (suc h == 3) ≡ true → Is (s.Operator 12) t
    → PartRead c (Some t.at) h n x e ts rest → length rest < length ts → ft.Begins is_number true ts
    → PartRead c None (suc h) n other e (t ∷ ts) rest
unfolding first signed_by_next operator_of
negative_case {c = c} {h = h} {t = t} q i p l (ft.with_first {t = u} b) = looped
    (λ w room taken k. near_level c h k None room taken (omega arith)
    (near_if _ q (near_symbol _ i (near_then _ near_take (near_head _ (near_if _ (go t.symbol i)
    (near_then _ (part_of p (follow_below c (seen h) h (at_seen h) w) room taken k) (near_pure _ _))))))) stays)
  where
    go : (k : Symbol) → k ≡ s.Operator 12 → ((operator_of k == 12) && is_number u.symbol) ≡ true
    go k f = rw (f, b) refl

pub seen_else : (h : ℕ) → (suc h == 4) ≡ false → seen h ≡ h
seen_else h e = rw e refl

pub seen_four : (h : ℕ) → (suc h == 4) ≡ true → seen h ≡ suc h
seen_four h e = rw e refl

pub binds_more : (h b : ℕ) → (b == suc h) ≡ true → h < b
binds_more h b e = grind (arith, nat_tests, e)

-- what a turn answers
abbrev pub turned : Bool → Found → Bool × Found
turned b r = (b, r)

-- what a turn at an operator gives
pub joined_same : (d : Bool) (j : Symbol) (op p q : ℕ) (u : Form) (a b : tree.Tree) (at : At) (rest : List Lexeme)
    → d ≡ false → j ≡ s.Operator op → p ≡ q
    → Got (turned (not d) (found p (if d then u else other) (tree.Tree.binary (operator_of j) a b at))) rest ≡ Got
    (turned true (found q other (tree.Tree.binary op a b at))) rest
unfolding operator_of
joined_same d j op p q u a b at rest e f g = rw (e, f, g) refl

pub related_same : (d : Bool) (j : Symbol) (op p q : ℕ) (u : Form) (a b : tree.Tree) (at : At) (rest : List Lexeme)
    → d ≡ true → j ≡ s.Operator op → p ≡ q
    → Got (turned (not d) (found p (if d then u else other) (tree.Tree.binary (operator_of j) a b at))) rest ≡ Got
    (turned false (found q u (tree.Tree.binary op a b at))) rest
unfolding operator_of
related_same d j op p q u a b at rest e f g = rw (e, f, g) refl

-- left operator right
pub joined_case : {c : Bool} {f : Option At} {h m n op : ℕ} {x y : Form} {a b : tree.Tree} {o : Lexeme}
    {ts mid rest : List Lexeme}
    → (suc h == 4) ≡ false → PartRead c f (suc h) m x a ts (o ∷ mid) → Is (s.Operator op) o → (binds op == suc h) ≡ true
    → PartRead c None h n y b mid rest → length rest < length mid
    → PartRead c f (suc h) (suc (m + n)) other (tree.Tree.binary op a b (g.start f ts)) ts rest
unfolding turn turn_by join counted operator_of
joined_case {c = c} {f = f} {h = h} {m = m} {n = n} {op = op} {x = x} {y = y} {a = a} {b = b} {o = o} {ts = ts}
    {mid = mid} {rest = rest} q p i e r l = looped (λ w room taken k.
    near_on (loop_of p (follow_is i (stops_operator c (seen h) op (rw (seen_else h q) (binds_more h (binds op) e))))
    room taken k)
    (near_turn {v = found (k + suc (m + n)) other (tree.Tree.binary op a b (g.start f ts))} {m = rest}
    (takes_turn _ _ room c taken (local_unary room) (local_counts c room) _
    (local_level _ _ room c taken (local_unary room) (local_counts c room) h) h _) (omega arith)
    (near_symbol _ i (near_if _ e (near_allowed _ _ (omega arith) (λ ok.
    near_then _ (part_of r (rw (seen_else h q) at w) room taken (suc (k + m))) (near_to (near_pure _ _)
    (joined_same _ _ _ _ _ _ _ _ _ _ q i (omega arith)))))))
    stays))

pub not_sum : (h : ℕ) → (suc h == 4) ≡ true → (suc h == 3) ≡ false
not_sum h e = grind (arith, nat_tests, e)

pub no_operator : (h : ℕ) → (0 == suc h) ≡ false
no_operator h = grind (arith, nat_tests)

pub is_one : (h : ℕ) → (suc h == 1) ≡ true → ((suc h == 1) && true) ≡ true
is_one h e = rw e refl

pub is_eight : (h : ℕ) → (suc h == 8) ≡ true → (true && (suc h == 8) && true && true) ≡ true
is_eight h e = rw e refl

pub below_eight : (h : ℕ) → (suc h == 8) ≡ true → h < 8
below_eight h e = grind (arith, nat_tests, e)

pub not_three : (h : ℕ) → (suc h == 8) ≡ true → (suc h == 3) ≡ false
not_three h e = grind (arith, nat_tests, e)

-- a relation, which no other follows
pub related_case : {c : Bool} {f : Option At} {h m n op : ℕ} {x y : Form} {a b : tree.Tree} {o : Lexeme}
    {ts mid rest : List Lexeme}
    → (suc h == 4) ≡ true → PartRead c f h m x a ts (o ∷ mid) → length (o ∷ mid) < length ts → Is (s.Operator op) o
    → (binds op == suc h) ≡ true
    → PartRead c None h n y b mid rest → length rest < length mid
    → PartRead c f (suc h) (suc (m + n)) (compared x y) (tree.Tree.binary op a b (g.start f ts)) ts rest
unfolding turn turn_by join counted operator_of first
related_case {c = c} {f = f} {h = h} {m = m} {n = n} {op = op} {x = x} {y = y} {a = a} {b = b} {o = o} {ts = ts}
    {mid = mid} {rest = rest} q p j i e r l = looped (λ w room taken k.
    near_to (near_level c h k f room taken j
    (near_else _ (not_sum h q) (part_of p (follow_is i (stops_operator c h op (binds_more h (binds op) e))) room taken
    k))
    (near_last _ {v = found (k + suc (m + n)) (compared x y) (tree.Tree.binary op a b (g.start f ts))}
    (near_symbol _ i (near_if _ e (near_allowed _ _ (omega arith) (λ ok.
    near_then _ (part_of r (follow_below c (seen h) h (at_seen h) w) room taken (suc (k + m))) (near_to (near_pure _ _)
    (related_same _ _ _ _ _ _ _ _ _ _ q i (omega arith)))))))))
    (sym (repeat_is (unary room) (counts c room) room c taken (part c room taken h) h (g.start f ts) _ _
    (rw (seen_four h q) at w))))

pub is_zero : (h : ℕ) → (suc h == 1) ≡ true → h ≡ 0
is_zero h e = grind (arith, nat_tests, e)

-- a shift
pub shifted_case : {c : Bool} {f : Option At} {h n k : ℕ} {x : Form} {e : tree.Tree} {v : tree.Constant} {a w o z : Lexeme}
    {ts mid rest : List Lexeme}
    → (suc h == 1) ≡ true → PartRead c f (suc h) n x e ts (a ∷ w ∷ o ∷ mid) → Is s.Ampersand a → Is s.Name w
    → shift_of w.letters ≡ Some k → Is s.Open o → Near constant mid (z ∷ rest) (Got v (z ∷ rest)) → Is s.Close z
    → PartRead c f (suc h) (suc n) other (tree.Tree.shift k e v (g.start f ts)) ts rest
unfolding turn turn_by shifted counted operator_of binds same_symbol symbol_number
shifted_case {c = c} {f = f} {h = h} {n = n} {k = kind} {x = x} {e = e} {v = v} {ts = ts} {mid = mid} {rest = rest} q p
    i j t o u z = looped (λ w room taken k.
    let zero_level = is_zero h q in
    near_on (loop_of p (follow_is i (rw (zero_level) (stops_mark c))) room taken k)
    (near_turn {v = found (k + suc n) other (tree.Tree.shift kind e v (g.start f ts))} {m = rest}
    (takes_turn _ _ room c taken (local_unary room) (local_counts c room) _
    (local_level _ _ room c taken (local_unary room) (local_counts c room) h) h _) (let a = u.within in omega arith)
    (near_symbol _ i (near_else _ (no_operator h)
    (near_if _ (is_one h q) (near_allowed _ _ (let a = u.within in omega arith) (λ ok.
    near_then _ (near_numbered shift_of j t) (near_then _ (near_expect o) (near_then _ u (near_then _ (near_expect z)
    (near_to (near_pure _ _) (ap (λ j. Got (turned true (found j other (tree.Tree.shift kind e v (g.start f ts))))
    rest) (omega arith)))))))))))
    stays))

-- a comparison of bytes
pub bytes_case : {f : Option At} {h m n : ℕ} {x : Form} {e count : tree.Tree} {k o z : Lexeme} {ts mid rest : List Lexeme}
    → (suc h == 8) ≡ true → PartRead true f h m comparison e ts (k ∷ o ∷ mid) → length (k ∷ o ∷ mid) < length ts
    → Is s.Comma k → Is s.Open o
    → PartRead false None 10 n x count mid (z ∷ rest) → length (z ∷ rest) < length mid → Is s.Close z
    → PartRead true f (suc h) m other (bytes_of e count) ts rest
unfolding turn turn_by bytes operator_of binds same_symbol symbol_number first
bytes_case {f = f} {h = h} {m = m} {e = e} {count = count} {ts = ts} {mid = mid} {rest = rest} q p l i o r j z = looped
    (λ w room taken k.
    near_level true h k f room taken l
    (near_else _ (not_three h q) (part_of p (follow_is i (stops_comma_below true h (below_eight h q))) room taken
    k))
    (near_turn {v = found (k + m) other (bytes_of e count)} {m = rest}
    (takes_turn _ _ room true taken (local_unary room) (local_counts true room) _
    (local_level _ _ room true taken (local_unary room) (local_counts true room) h) h _) (omega arith)
    (near_symbol _ i (near_else _ (no_operator h)
    (near_else _ (not_mark h _ (inr refl)) (near_if _ (is_eight h q) (near_then _ near_take
    (near_opening room (taken + (k + m) / 8) _ o (omega arith)
    (λ ok. near_then _ ((expression_of r (follow_is z (stops_close false 10))).reads room (taken + (k + m) / 8) ok)
    (near_then _ (near_expect z) (near_pure _ _)))))))))
    stays))
