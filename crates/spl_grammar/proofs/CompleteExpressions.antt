-- What is spelled is read, unless it is too deep before its end. By induction on the spelling: a level above the
-- operands
-- comes to its loop with what was read so far, so that a rule that begins with its own level goes through.
use Rattle.std.proofs.Common.{ℕ, zero, suc, ◌+◌, ◌≡◌, ◌==◌, ◌/◌, ◌<◌, ◌≤◌, Bool, true, false, if◌then◌else◌, List, [], ◌∷◌, ◌++◌, length, Option, Some, None, refl, arith, ap, nat_lt, append_assoc}
use Rattle.std.proofs.lemmas.Bool.Decides.{nat_tests}
use Rattle.spl_reading.specs.spl_tree.declared.names_and_places.At.{At}
use Rattle.spl_reading.specs.spl_tree.declared.expressions.Kind.{Kind}
use Rattle.spl_reading.specs.spl_tree.declared.symbols.Symbol.{Symbol}
use Rattle.spl_reading.specs.spl_tree.declared.symbols.Symbol.TheVariants as s
use Rattle.spl_reading.specs.spl_tree.Symbols.{Lexeme, Is}
use Rattle.spl_reading.specs.spl_tree.Operators.{Form, reference, other, form_of_call, negated}
use Rattle.spl_reading.specs.spl_tree.Expressions as g
use Rattle.spl_reading.specs.spl_tree.Trees as tree
use Rattle.spl_reading.specs.Readers.{Outcome, Got, Parser, followed, by_symbol, pure, same_symbol, symbol_number}
use Rattle.spl_reading.specs.ReadExpressions.{Found, plain, is, constant, bits, field, negative_by, enter, more_arguments, arguments, named, addressed, primary_by, inverse, primary, unary_step, level, unary, within}
use Rattle.spl_grammar.specs.Following.{Follow, behind}
use Rattle.spl_grammar.proofs.LocalExpressions.{takes_more, local_within}
use Rattle.spl_grammar.proofs.NearReaders.{Near, near_to, near_from, near_then, near_pure, near_take, near_place, near_symbol, near_head, near_if, near_else, near_expect, near_allowed, near_turn, near_last, same_self}
use Rattle.spl_grammar.proofs.PartTokens as pt
use Rattle.spl_grammar.proofs.FirstTokens as ft
use Rattle.spl_grammar.proofs.FollowLemmas.{follow_is, stops_close, stops_comma}
pub use Rattle.spl_grammar.proofs.ExpressionClaims.{on_go, near_on, near_opening, complete_constant, ExpressionRead, behind_not, unary_is, counts, part, loop, local_counts, seen, found, PartRead, seen_at_most, part_of, loop_of, expression_of, near_enclosed, ArgumentsRead, has_first, near_level, stays, at_seen, operand, looped}
pub use Rattle.spl_grammar.proofs.CompleteLevels.{up_case, unsigned_case, no_number, signed_case, negative_case, seen_else, seen_four, binds_more, turned, joined_same, related_same, joined_case, not_sum, no_operator, is_one, is_eight, below_eight, not_three, related_case, is_zero, shifted_case, bytes_case}

-- Operands.

-- an operand, read by its parts
pub record UnaryRead (f : Option At) (x : Form) (e : tree.Tree) (ts rest : List Lexeme) : Type 0 where
  pub reads : (c : Bool) → Follow c 0 rest → (room taken : ℕ) → Near (unary room taken f) ts rest (Got (plain x e) rest)

-- a primary; its reader depends on the minus before it
abbrev pub primary_reader : Option At → ℕ → ℕ → Parser Found
primary_reader None room taken = by_symbol (primary_by room (behind_not room taken) (within room taken) taken)
primary_reader (Some at) room taken = by_symbol (negative_by at)

pub record PrimaryRead (f : Option At) (x : Form) (e : tree.Tree) (ts rest : List Lexeme) : Type 0 where
  pub reads : ft.Begins (is s.Open) false rest → (room taken : ℕ)
      → Near (primary_reader f room taken) ts rest (Got (plain x e) rest)

-- one token that is a primary
one_token : {x : Form} {e : tree.Tree} {k : Symbol} {t : Lexeme} {rest : List Lexeme} → Is k t
    → ((room taken : ℕ) → Near (primary_by room (behind_not room taken) (within room taken) taken k) (t ∷ rest) rest
    (Got (plain x e) rest)) → PrimaryRead None x e (t ∷ rest) rest
one_token i n = record { reads = λ w room taken. near_symbol _ i (n room taken) }

-- what a name without parentheses is followed by
no_open : {A : Type 0} (p q : Parser A) {rest : List Lexeme} {y : Outcome A} → ft.Begins (is s.Open) false rest
    → Near q rest rest y
    → Near (by_symbol (λ k. if is s.Open k then p else q)) rest rest y
no_open p q (ft.with_first b) n = near_head _ (near_else _ b n)

pub near_arguments : (room taken : ℕ) (inner : Parser Found) {es : List tree.Tree} {o z : Lexeme}
    {ts rest : List Lexeme} → Is s.Open o → ArgumentsRead es ts (z ∷ rest)
    → Is s.Close z → Near (arguments room inner (within room taken) taken) (o ∷ ts) rest (Got es rest)
unfolding arguments
near_arguments room taken inner {rest = rest} i a j = near_opening room taken _ i (let l = a.shorter in omega arith)
    (λ ok. near_then _ (a.reads.reads room taken ok)
    (near_then _ (a.others room taken inner ok []) (near_then _ (near_expect j) (near_pure _ _))))

module _ (room taken : ℕ) (rest : List Lexeme) {t : Lexeme} where
  number_token : (v : ℕ) → Near (primary_by room (behind_not room taken) (within room taken) taken (s.Number v))
      (t ∷ rest) rest (Got (plain other (tree.Tree.number v)) rest)
  unfolding primary_by
  number_token v = near_then _ near_take (near_pure _ _)

  wide_token : (v : ℕ) → Near (primary_by room (behind_not room taken) (within room taken) taken (s.Wide v)) (t ∷ rest)
      rest (Got (plain other (tree.Tree.wide v)) rest)
  unfolding primary_by
  wide_token v = near_then _ near_take (near_pure _ _)

  text_token : Near (primary_by room (behind_not room taken) (within room taken) taken s.Text) (t ∷ rest) rest
      (Got (plain other (tree.Tree.text t.letters)) rest)
  unfolding primary_by
  text_token = near_then _ near_take (near_pure _ _)

  truth_token : (b : Bool) → Near (primary_by room (behind_not room taken) (within room taken) taken (s.Truth b))
      (t ∷ rest) rest (Got (plain other (tree.Tree.truth b)) rest)
  unfolding primary_by
  truth_token b = near_then _ near_take (near_pure _ _)

negative_number_case : {at : At} {v : ℕ} {t : Lexeme} {rest : List Lexeme} → Is (s.Number v) t
    → PrimaryRead (Some at) other (tree.Tree.number (negated 65536 v)) (t ∷ rest) rest
unfolding negative_by
negative_number_case i = record { reads = λ w room taken. near_symbol _ i (near_then _ near_take (near_pure _ _)) }

negative_wide_case : {at : At} {v : ℕ} {t : Lexeme} {rest : List Lexeme} → Is (s.Wide v) t
    → PrimaryRead (Some at) other (tree.Tree.wide (negated 4294967296 v)) (t ∷ rest) rest
unfolding negative_by
negative_wide_case i = record { reads = λ w room taken. near_symbol _ i (near_then _ near_take (near_pure _ _)) }

name_case : {t : Lexeme} {rest : List Lexeme} → Is s.Name t
    → PrimaryRead None reference (tree.Tree.named t.letters (tree.trees []) t.at) (t ∷ rest) rest
unfolding primary_by named
name_case i = record { reads = λ w room taken. near_symbol _ i (near_then _ near_take (no_open _ _ w (near_pure _ _))) }

call_case : {es : List tree.Tree} {t o z : Lexeme} {ts rest : List Lexeme} → Is s.Name t → Is s.Open o
    → ArgumentsRead es ts (z ∷ rest) → Is s.Close z
    → PrimaryRead None (form_of_call es) (tree.Tree.named t.letters (tree.trees es) t.at) (t ∷ o ∷ ts) rest
unfolding primary_by named
call_case i o r z = record {
  reads = λ w room taken. near_symbol _ i (near_then _ near_take (near_symbol _ o
      (near_if _ (same_self s.Open) (near_then _ (near_arguments room taken _ o r z) (near_pure _ _)))));
}

address_case : {a t : Lexeme} {rest : List Lexeme} → Is s.AtSign a → Is s.Name t
    → PrimaryRead None other (tree.Tree.address t.letters (tree.trees []) a.at) (a ∷ t ∷ rest) rest
unfolding primary_by addressed
address_case i j = record {
  reads = λ w room taken. near_symbol _ i
      (near_then _ near_take (near_then _ (near_expect j) (no_open _ _ w (near_pure _ _))));
}

address_of_case : {e : tree.Tree} {a t o z : Lexeme} {ts rest : List Lexeme} → Is s.AtSign a → Is s.Name t
    → Is s.Open o → ExpressionRead e ts (z ∷ rest)
    → Is s.Close z → length (z ∷ rest) < length ts
    → PrimaryRead None other (tree.Tree.address t.letters (tree.trees (e ∷ [])) a.at) (a ∷ t ∷ o ∷ ts) rest
unfolding primary_by addressed
address_of_case i j o r z l = record {
  reads = λ w room taken. near_symbol _ i (near_then _ near_take (near_then _ (near_expect j) (near_symbol _ o
      (near_if _ (same_self s.Open) (near_then _ (near_enclosed room taken _ o r z (omega arith)) (near_pure _ _))))));
}

parens_case : {e : tree.Tree} {o z : Lexeme} {ts rest : List Lexeme} → Is s.Open o → ExpressionRead e ts (z ∷ rest)
    → Is s.Close z → length (z ∷ rest) < length ts → PrimaryRead None other e (o ∷ ts) rest
unfolding primary_by
parens_case o r z l = record {
  reads = λ w room taken. near_symbol _ o
      (near_then _ (near_enclosed room taken _ o r z (omega arith)) (near_pure _ _));
}

transfer_case : {k : Kind} {e : tree.Tree} {t o z : Lexeme} {ts rest : List Lexeme} → Is (s.Type k) t → Is s.Open o
    → ExpressionRead e ts (z ∷ rest)
    → Is s.Close z → length (z ∷ rest) < length ts
    → PrimaryRead None other (tree.Tree.transfer k e t.at) (t ∷ o ∷ ts) rest
unfolding primary_by
transfer_case i o r z l = record {
  reads = λ w room taken. near_symbol _ i (near_then _ near_take
      (near_then _ (near_enclosed room taken _ o r z (omega arith)) (near_pure _ _)));
}

-- arguments
pub one_case : {e : tree.Tree} {z : Lexeme} {ts rest : List Lexeme} → ExpressionRead e ts (z ∷ rest) → Is s.Close z
    → length (z ∷ rest) < length ts
    → ArgumentsRead (e ∷ []) ts (z ∷ rest)
unfolding more_arguments same_symbol symbol_number
one_case {e = e} {z = z} {rest = rest} r i l = record {
  first = e;
  middle = z ∷ rest;
  shorter = l;
  reads = r;
  others = λ room taken inner ok so_far. near_last _ (near_symbol _ i (near_pure _ _));
}

several_case : {e : tree.Tree} {es : List tree.Tree} {k : Lexeme} {ts mid rest : List Lexeme}
    → ExpressionRead e ts (k ∷ mid) → Is s.Comma k
    → ArgumentsRead es mid rest → length (k ∷ mid) < length ts → ArgumentsRead (e ∷ es) ts rest
unfolding more_arguments
several_case {e = e} {es = es} {k = k} {mid = mid} {rest = rest} r i a l = record {
  first = e;
  middle = k ∷ mid;
  shorter = let b = a.shorter in omega arith;
  reads = r;
  others = λ room taken inner ok so_far. near_turn {v = (so_far ++ e ∷ []) ++ a.first ∷ []} {m = a.middle}
      (takes_more room inner (within room taken) taken (local_within room taken))
      (let b = (a.reads.reads room taken ok).within in omega arith)
      (near_symbol _ i (near_if _ (same_self s.Comma)
      (near_then _ (near_then _ near_take (a.reads.reads room taken ok)) (near_pure _ _))))
      (near_to (a.others room taken inner ok (so_far ++ e ∷ []))
      (ap (λ us. Got us rest) (append_assoc so_far (e ∷ []) es)));
}

-- NOT and an operand
inverse_case : {x : Form} {e : tree.Tree} {t : Lexeme} {ts rest : List Lexeme} → Is s.Not t
    → UnaryRead None x e ts rest → length rest < length ts
    → UnaryRead None other (tree.Tree.unary 2 e t.at) (t ∷ ts) rest
unfolding unary_step inverse enter
inverse_case {x = x} {e = e} {t = t} {ts = ts} {rest = rest} i u l = record {
  reads = λ c w room taken. near_from (ap (λ p. p (t ∷ ts)) (unary_is room taken None))
      (near_symbol _ i (near_if _ (same_self s.Not) (near_allowed _ _ (omega arith) (go c w room taken))));
}
  where
    go : (c : Bool) → Follow c 0 rest → (room taken : ℕ) → nat_lt taken room ≡ true
        → Near (followed (behind_not room taken) (λ r. pure (plain other (tree.Tree.unary 2 r.tree t.at)))) ts rest
        (Got (plain other (tree.Tree.unary 2 e t.at)) rest)
    go c w zero taken ok = absurd (grind (arith, nat_tests, ok))
    go c w (suc room) taken ok = near_then _ (u.reads c w room taken) (near_pure _ _)

-- the first token of a primary, and what may follow it
near_front : (f : Option At) {x y : Form} {e d : tree.Tree} {ts mid rest : List Lexeme} → ft.Begins (is s.Not) false ts
    → (room taken : ℕ) → Near (primary_reader f room taken) ts mid (Got (plain x e) mid)
    → Near (field (g.start f ts) (plain x e)) mid rest (Got (plain y d) rest)
    → Near (unary room taken f) ts rest (Got (plain y d) rest)
unfolding unary_step primary
near_front None {ts = ts} (ft.with_first b) room taken n k = near_from (ap (λ p. p ts) (unary_is room taken None))
    (near_head _ (near_else _ b (near_then _ near_place (near_then _ n k))))
near_front (Some a) {ts = ts} (ft.with_first b) room taken n k = near_from
    (ap (λ p. p ts) (unary_is room taken (Some a))) (near_then _ n k)

-- a primary alone
plain_case : {f : Option At} {x : Form} {e : tree.Tree} {ts rest : List Lexeme} → ft.Begins (is s.Not) false ts
    → PrimaryRead f x e ts rest → UnaryRead f x e ts rest
unfolding field
plain_case {f = f} {x = x} {e = e} {ts = ts} {rest = rest} b p = record
    { reads = λ c w room taken. near_front _ b room taken (p.reads (closed w) room taken) (go c rest w) }
  where
    closed : {c : Bool} {us : List Lexeme} → Follow c 0 us → ft.Begins (is s.Open) false us
    closed (behind st) = ft.with_first st.opening

    go : (c : Bool) (us : List Lexeme) → Follow c 0 us
        → Near (field (g.start f ts) (plain x e)) us us (Got (plain x e) us)
    go c _ (behind st) = near_head _ (near_else _ st.dot (near_pure _ _))

dot_first : {t : Lexeme} {ts : List Lexeme} → Is s.Dot t → ft.Begins (is s.Open) false (t ∷ ts)
unfolding same_symbol symbol_number
dot_first i = ft.by_is _ _ _ _ _ i refl

-- a bit field
bits_case : {f : Option At} {x : Form} {e : tree.Tree} {a b : tree.Constant} {d o k z : Lexeme}
    {ts mid next rest : List Lexeme} → ft.Begins (is s.Not) false ts
    → PrimaryRead f x e ts (d ∷ o ∷ mid) → Is s.Dot d → Is s.Open o → Near constant mid (k ∷ next) (Got a (k ∷ next))
    → Is s.Colon k
    → Near constant next (z ∷ rest) (Got b (z ∷ rest)) → Is s.Close z
    → UnaryRead f other (tree.Tree.field e a b (g.start f ts)) ts rest
unfolding field bits
bits_case b p i o m k n z = record {
  reads = λ c w room taken. near_front _ b room taken (p.reads (dot_first i) room taken)
      (near_symbol _ i (near_if _ (same_self s.Dot)
      (near_then _ (near_expect i) (near_then _ (near_expect o) (near_then _ m (near_then _ (near_expect k)
      (near_then _ n (near_then _ (near_expect z) (near_pure _ _)))))))));
}

form_to : {c : Bool} {f : Option At} {h n : ℕ} {x y : Form} {e : tree.Tree} {ts rest : List Lexeme} → x ≡ y
    → PartRead c f h n x e ts rest → PartRead c f h n y e ts rest
form_to q p = rw (← q) p

below_sum : (h : ℕ) → (suc h == 3) ≡ true → h ≤ 2
below_sum h e = grind (arith, nat_tests, e)

operand_case : {c : Bool} {f : Option At} {x : Form} {e : tree.Tree} {ts rest : List Lexeme} → UnaryRead f x e ts rest
    → PartRead c f 0 0 x e ts rest
unfolding level
operand_case {c = c} u = operand (λ w room taken k. near_then _ (u.reads c w room (taken + k / 8)) (near_pure _ _))

mutual
  -- a part of each level, by induction on how it is spelled
  pub complete : {c : Bool} {f : Option At} {h n : ℕ} {x : Form} {e : tree.Tree} {ts rest : List Lexeme}
      → g.Level c f h n x e ts rest → PartRead c f h n x e ts rest
  complete (g.Level.operand u) = operand_case (complete_unary u)
  complete (g.Level.up q l) = up_case q (complete l) (pt.shorter l)
  complete (g.Level.unsigned q l) = unsigned_case q (complete l) (pt.shorter l) (ft.no_sign l (below_sum _ q))
  complete (g.Level.signed q i b z l) = signed_case q i b z (complete l) (pt.shorter l)
  complete (g.Level.negative q i l) = negative_case q i (complete l) (pt.shorter l) (ft.number_first l)
  complete (g.Level.joined q l i e r) = joined_case q (complete l) i e (complete r) (pt.shorter r)
  complete (g.Level.related q l i e r z) = form_to z
      (related_case q (complete l) (pt.shorter l) i e (complete r) (pt.shorter r))
  complete (g.Level.shifted q l i j t o v z) = shifted_case q (complete l) i j t o (complete_constant v) z
  complete (g.Level.bytes q l i o r z) = bytes_case q (complete l) (pt.shorter l) i o (complete r) (pt.shorter r) z

  pub complete_unary : {f : Option At} {x : Form} {e : tree.Tree} {ts rest : List Lexeme} → g.Unary f x e ts rest
      → UnaryRead f x e ts rest
  complete_unary (g.Unary.inverse i u) = inverse_case i (complete_unary u) (pt.shorter_unary u)
  complete_unary (g.Unary.plain p) = plain_case (ft.primary_no_not p) (complete_primary p)
  complete_unary (g.Unary.bits p i o a k b z) = bits_case (ft.primary_no_not p) (complete_primary p) i o
      (complete_constant a) k (complete_constant b) z

  pub complete_primary : {f : Option At} {x : Form} {e : tree.Tree} {ts rest : List Lexeme} → g.Primary f x e ts rest
      → PrimaryRead f x e ts rest
  complete_primary (g.Primary.number i) = one_token i (λ room taken. number_token _ _ _ _)
  complete_primary (g.Primary.wide i) = one_token i (λ room taken. wide_token _ _ _ _)
  complete_primary (g.Primary.negative_number i) = negative_number_case i
  complete_primary (g.Primary.negative_wide i) = negative_wide_case i
  complete_primary (g.Primary.text i) = one_token i (λ room taken. text_token _ _ _)
  complete_primary (g.Primary.truth i) = one_token i (λ room taken. truth_token _ _ _ _)
  complete_primary (g.Primary.name i) = name_case i
  complete_primary (g.Primary.call i o a z) = call_case i o
      (complete_arguments a (follow_is z (stops_close false 10)) z) z
  complete_primary (g.Primary.address i j) = address_case i j
  complete_primary (g.Primary.address_of i j o l z) = address_of_case i j o
      (expression_of (complete l) (follow_is z (stops_close false 10))) z (pt.shorter l)
  complete_primary (g.Primary.parens o l z) = parens_case o
      (expression_of (complete l) (follow_is z (stops_close false 10))) z (pt.shorter l)
  complete_primary (g.Primary.transfer i o l z) = transfer_case i o
      (expression_of (complete l) (follow_is z (stops_close false 10))) z (pt.shorter l)

  pub complete_arguments : {es : List tree.Tree} {z : Lexeme} {ts rest : List Lexeme} → g.Arguments es ts (z ∷ rest)
      → Follow false 10 (z ∷ rest) → Is s.Close z → ArgumentsRead es ts (z ∷ rest)
  complete_arguments (g.Arguments.one l) w z = one_case (expression_of (complete l) w) z (pt.shorter l)
  complete_arguments (g.Arguments.several l i a) w z = several_case
      (expression_of (complete l) (follow_is i (stops_comma 10))) i (complete_arguments a w z) (pt.shorter l)
