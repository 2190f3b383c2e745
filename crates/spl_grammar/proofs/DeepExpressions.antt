-- Where more is open than may be, reading an expression is too deep, one production at a time.
use Rattle.std.proofs.Common.{ℕ, zero, suc, ◌+◌, ◌/◌, ◌≡◌, ◌==◌, ◌&&◌, ◌<◌, ◌≤◌, Bool, true, false, if◌then◌else◌, List, [], ◌∷◌, ◌++◌, length, Option, Some, None, refl, arith, ap, ◌∙◌, ◌⊎◌, inl, inr, nat_lt, nat_le}
use Rattle.std.proofs.lemmas.Bool.Decides.{nat_tests}
use Rattle.spl_reading.specs.spl_tree.declared.names_and_places.At.{At}
use Rattle.spl_reading.specs.spl_tree.declared.symbols.Symbol.{Symbol}
use Rattle.spl_reading.specs.spl_tree.declared.symbols.Symbol.TheVariants as s
use Rattle.spl_reading.specs.spl_tree.declared.symbols.Reserved.{Reserved}
use Rattle.spl_reading.specs.spl_tree.declared.expressions.Kind.{Kind}
use Rattle.spl_reading.specs.spl_tree.Symbols.{Lexeme, Is}
use Rattle.spl_reading.specs.spl_tree.Operators.{Form, comparison, binds, is_sign, is_number}
use Rattle.spl_reading.specs.spl_tree.Expressions as g
use Rattle.spl_reading.specs.spl_tree.OpenExpressions as op
use Rattle.spl_reading.specs.spl_tree.OpenExpressions.{Step, limit, nesting}
use Rattle.spl_reading.specs.spl_tree.Parts as of_kind
use Rattle.spl_reading.specs.spl_tree.Parts.{Part}
use Rattle.spl_reading.specs.spl_tree.Trees as tree
use Rattle.spl_reading.specs.spl_tree.StatementTrees as stat
use Rattle.spl_reading.specs.Readers.{Outcome, Got, Bad, Parser, and_then, followed, pure, refuse, by_symbol, take, at_place, repeat, same_symbol, symbol_number}
use Rattle.spl_reading.specs.ReadExpressions.{Found, is, operator_of, negative_by, enter, enclosed, more_arguments, arguments, named, addressed, primary_by, inverse, primary, unary_step, counted, signed_by_next, first, join, shifted, bytes, turn, turn_by, level, whole, unary, expression, within}
use Rattle.spl_reading.specs.ReadStatements.{reference, source, effect, if_test, statement, statement_step, more_statements}
use Rattle.spl_grammar.proofs.LocalReaders.{IsLocal, end_of}
use Rattle.spl_grammar.proofs.LocalReaders as lr
use Rattle.spl_grammar.proofs.LocalExpressions.{local_primary_by, local_negative, takes_more, local_within, local_unary, local_level}
use Rattle.spl_grammar.proofs.NearReaders.{DeepBefore, deep, near_else, near_expect, same_self}
use Rattle.spl_grammar.proofs.PartTokens as pt
use Rattle.spl_reading.proofs.SameSymbol.{same_is}
use Rattle.spl_grammar.proofs.FollowLemmas.{follow_is, stops_close, stops_comma, stops_operator, stops_mark, stops_comma_below, not_mark}
use Rattle.spl_grammar.proofs.ExpressionClaims.{behind_not, unary_is, counts, part, local_counts, seen, found, part_of, loop_of, expression_of, near_level, stays}
use Rattle.spl_grammar.proofs.CompleteLevels.{seen_else, binds_more, not_sum, no_operator, is_one, is_eight, below_eight, not_three, is_zero}
use Rattle.spl_grammar.proofs.CompleteExpressions.{complete, primary_reader}
use Rattle.spl_grammar.proofs.ExplainReaders.{followed_assoc}
use Rattle.spl_grammar.proofs.ExplainReaders as er
use Rattle.spl_grammar.proofs.SoundExpressions.{level_explained, unary_explained, within_explained}
use Rattle.spl_grammar.proofs.LevelFacts as lf
use Rattle.spl_grammar.proofs.MovedParts.{swap_agrees, move}
use Rattle.spl_grammar.proofs.CompletedParts.{Inside, free, minus, token}
use Rattle.spl_grammar.proofs.DeepReaders.{Sinks, sink_on, sink_from, sink_then, sink_behind, sink_symbol, sink_head, sink_if, sink_else, sink_place, sink_take, sink_allowed, sink_opening, not_bad, sink_shorter, sink_turn, sink_next, goes_on}

-- a reference, which a statement can begin with
pub record SinksReference (n room : ℕ) (ts : List Lexeme) : Type 0 where
  pub alone : Sinks n (reference room) ts
  pub first : (below : ℕ) (inner : Parser stat.Statement) → Sinks n (statement_step room below inner) ts

-- Reading the part with d constructs open around it and k operators before it is too deep where more than n tokens are left, or
-- at a mark more is open than may be.
abbrev pub Claim : ℕ → Part → ℕ → ℕ → List Lexeme → Type 0
Claim n (of_kind.level c f h) d k ts = (room taken : ℕ) → d + room ≡ limit + taken → taken + k / 8 ≤ room
    → Sinks n (part c room taken h k f) ts
Claim n (of_kind.unary f) d k ts = (room taken : ℕ) → d + room ≡ limit + taken → taken + k / 8 ≤ room
    → Sinks n (unary room taken f) ts
Claim n (of_kind.primary f) d k ts = (room taken : ℕ) → d + room ≡ limit + taken → taken + k / 8 ≤ room
    → Sinks n (primary_reader f room taken) ts
Claim n of_kind.arguments d k ts = (room taken : ℕ) (inner : Parser Found) (so_far : List tree.Tree)
    → d + room ≡ limit + taken → taken + k / 8 ≤ room
    → Sinks n (followed (within (suc room) taken)
    (λ e. repeat (more_arguments (suc room) inner (within (suc room) taken) taken) (so_far ++ e ∷ []))) ts
Claim n of_kind.reference d k ts = (room : ℕ) → d + room ≡ limit → k / 8 ≤ room → SinksReference n room ts
Claim n of_kind.source d k ts = (room : ℕ) → d + room ≡ limit → k / 8 ≤ room → Sinks n (source room) ts
Claim n of_kind.effect d k ts = (room : ℕ) → d + room ≡ limit → k / 8 ≤ room → Sinks n (effect room) ts
Claim n of_kind.test d k ts = (room : ℕ) → d + room ≡ limit → k / 8 ≤ room → Sinks n (if_test room) ts
Claim n of_kind.statement d k ts = (room : ℕ) → d + room ≡ limit → k / 8 ≤ room → Sinks n (statement room) ts
Claim n of_kind.statements d k ts = (room : ℕ) (so_far : List stat.Statement) → d + room ≡ limit → k / 8 ≤ room
    → Sinks n (followed (statement room) (λ x. repeat (more_statements (statement room)) (so_far ++ x ∷ []))) ts
Claim n _ d k ts = limit < d + k / 8

pub record SinksIn (n : ℕ) (p : Part) (d k : ℕ) (ts : List Lexeme) : Type 0 where
  pub claim : Claim n p d k ts

-- Numbers.

-- more is open than may be, and no more than may be
pub over : {A : Type 0} (d k room taken : ℕ) → limit < d + k / 8 → d + room ≡ limit + taken → taken + k / 8 ≤ room → A
over d k room taken m e l = absurd (omega arith)

-- no construct can be opened
pub no_more : {A : Type 0} (d room taken : ℕ) → limit < suc d → d + room ≡ limit + taken → nat_lt taken room ≡ true → A
no_more d room taken m e ok = absurd (grind (arith, nat_tests, m, e, ok))

-- a test of order as a fact
pub le_of : (a b : ℕ) → nat_le a b ≡ true → a ≤ b
le_of a b e = grind (arith, nat_tests, e)

-- what is left behind a token that opens a construct
pub room_left : (taken room : ℕ) → nat_lt taken (suc room) ≡ true → taken + 0 / 8 ≤ room
room_left taken room e = grind (arith, nat_tests, e)

-- there is room for one more
pub still_room : (taken room : ℕ) → taken + 0 / 8 ≤ room → nat_lt taken (suc room) ≡ true
still_room taken room l = grind (arith, nat_tests, l)

-- no room at all
pub none_left : {A : Type 0} (taken : ℕ) → nat_lt taken 0 ≡ true → A
none_left taken e = absurd (grind (arith, nat_tests, e))

-- a level depends on no token behind its end
pub local_part : (c : Bool) (room taken h k : ℕ) (f : Option At) → IsLocal (part c room taken h k f)
local_part c room taken h k f = local_level (unary room) (counts c room) room c taken (local_unary room)
    (local_counts c room) h k f

-- the first operand of a level
pub sink_level : {n : ℕ} (c : Bool) (h k : ℕ) (f : Option At) (room taken : ℕ) {t : Lexeme} {ts : List Lexeme}
    → Sinks n (first (unary room) (counts c room) room c taken (part c room taken h) h k f) (t ∷ ts)
    → Sinks n (part c room taken (suc h) k f) (t ∷ ts)
unfolding level
sink_level c h k f room taken d = sink_from refl (sink_place _ (sink_then _ d))

-- a list that has a token
pub some_token : {A : Type 0} {n : ℕ} {p : Parser A} (P : List Lexeme → Type 0) (ts : List Lexeme) → IsLocal p → Sinks n p ts
    → ((t : Lexeme) (us : List Lexeme) → Sinks n p (t ∷ us) → P (t ∷ us)) → P ts
some_token P [] l d h = let a = sink_shorter l d in absurd (omega arith)
some_token P (t ∷ us) l d h = h t us d

-- A part that is whole reads all its operators.

-- what a level answers is explained
pub part_explained : (c : Bool) (f : Option At) (h k : ℕ) (room taken d : ℕ) (ts : List Lexeme) → d + room ≡ limit + taken
    → lf.Front f h → taken + k / 8 ≤ room
    → er.Explains limit (lf.LevelGot room taken c f h k ts) (op.level c f h) d k ts (part c room taken h k f ts)
part_explained false f h k room taken d ts sum w l = level_explained limit (unary room) (counts false room) room false taken d sum
    (unary_explained room) (λ j i us q. cc) h f k ts w l
part_explained true f h k room taken d ts sum w l = level_explained limit (unary room) (counts true room) room true taken d sum
    (unary_explained room) (λ j i us q s ok. within_explained room j i us s ok) h f k ts w l

-- a minus stands below the sums
pub front_of : {c : Bool} {f : Option At} {h : ℕ} → Inside (of_kind.level c f h) → lf.Front f h
front_of free = lf.free
front_of (minus l) = lf.minus l

-- the operators that were read fit
pub got_fits : {room taken d k n : ℕ} {c : Bool} {f : Option At} {h : ℕ} {x : Form} {e : tree.Tree} {ts rest : List Lexeme}
    (o : Outcome Found) → er.Explains limit (lf.LevelGot room taken c f h k ts) (op.level c f h) d k ts o
    → o ≡ Got (found n x e) rest → taken + n / 8 ≤ room
got_fits _ (er.got {a = r} v) q = let i = ap (λ o. count_of o) q in rw (← i) v.fits
  where
    count_of : Outcome Found → ℕ
    count_of (Got r rest) = r.count
    count_of _ = 0
got_fits _ (er.bad a b) q = cc
got_fits _ (er.deep a b) q = cc

-- agreeing lists, the other way round
pub agrees_back : {us vs ts more : List Lexeme} → lr.Agrees us vs ts more → lr.Agrees vs us more ts
agrees_back lr.here = lr.here
agrees_back (lr.there a) = lr.there (agrees_back a)

-- the agreeing list is longer than its rest
pub agrees_longer : {us vs ts more : List Lexeme} → lr.Agrees us vs ts more → length us < length ts
agrees_longer lr.here = omega arith
agrees_longer (lr.there a) = let l = agrees_longer a in omega arith

-- too deep before its rest, a list like it is so too
pub like_deep : {A : Type 0} (us vs : List Lexeme) (o p : Outcome A) → lr.Like us vs o p → DeepBefore (length us) o
    → DeepBefore (length vs) p
like_deep us vs _ _ (lr.got a) d = elim d [ ]
like_deep us vs _ _ (lr.bad a) d = elim d [ ]
like_deep us vs _ _ (lr.deep a) d = deep (agrees_longer (agrees_back a))
like_deep {A} us vs o p (lr.past l) d = go o d l
  where
    go : (o : Outcome A) → DeepBefore (length us) o → length (end_of o) ≤ length us → DeepBefore (length vs) p
    go _ (deep k) l = absurd (omega arith)

-- too deep before a place is so before a later one
pub weaker : {A : Type 0} (n m : ℕ) (o : Outcome A) → n ≤ m → DeepBefore m o → DeepBefore n o
weaker n m _ l (deep i) = deep (omega arith)

-- a part that is whole, with too many operators
pub whole_sinks : {n : ℕ} {c : Bool} {f : Option At} {h m d k : ℕ} {x : Form} {e : tree.Tree} {ts rest : List Lexeme}
    → Inside (of_kind.level c f h) → g.Level c f h m x e ts rest → n ≤ length rest → limit < d + (k + m) / 8
    → SinksIn n (of_kind.level c f h) d k ts
whole_sinks {n = n} {c = c} {f = f} {h = h} {m = m} {d = d} {k = k} {x = x} {ts = ts} {rest = rest} v l q many = record {
  claim = λ room taken sum fits.
      let a = move l (token s.Close ∷ []) in
      let b = part_of (complete a.whole.spelled) (follow_is refl (stops_close c h)) room taken k in
      record { sinks = go room taken sum fits a.to a.whole.tree b.outcome (swap_agrees a.swap) };
}
  where
    go : (room taken : ℕ) → d + room ≡ limit + taken → taken + k / 8 ≤ room → (to : List Lexeme) (e : tree.Tree)
        → (part c room taken h k f to ≡ Got (found (k + m) x e) (token s.Close ∷ [])) ⊎ DeepBefore 1 (part c room taken h k f to)
        → (ts ≡ rest) ⊎ lr.Agrees rest (token s.Close ∷ []) ts to → DeepBefore n (part c room taken h k f ts)
    go room taken sum fits to e _ (inl z) = let i = pt.shorter l in let j = ap (λ us. length us) z in absurd (omega arith)
    go room taken sum fits to e (inl i) (inr a) = let j = got_fits (part c room taken h k f to)
        (part_explained c f h k room taken d to sum (front_of v) fits) i in absurd (omega arith)
    go room taken sum fits to e (inr i) (inr a) = weaker n (length rest) (part c room taken h k f ts) q (like_deep (token s.Close ∷ []) rest _ _
        ((local_part c room taken h k f).alike (token s.Close ∷ []) rest to ts (agrees_back a)) i)

-- What can't begin a part is refused.

-- symbols that no operand begins with
pub data Refused : Symbol → Type 0 where
  an_operator : {op : ℕ} → Refused (s.Operator op)
  a_word : {w : Reserved} → Refused (s.Word w)

-- they are refused
pub primary_refused : (k : Symbol) → Refused k → (room taken : ℕ) {t : Lexeme} {ts : List Lexeme} → Is k t
    → unary room taken None (t ∷ ts) ≡ Bad (t ∷ ts)
unfolding unary_step by_symbol same_symbol symbol_number primary at_place followed and_then primary_by refuse
primary_refused _ (an_operator {op = o}) room taken {t = t} {ts = ts} i = rw (unary_is room taken None, i) refl
primary_refused _ (a_word {w = w}) room taken {t = t} {ts = ts} i = rw (unary_is room taken None, i) refl

-- what is no number is refused behind its minus
pub no_number : (k : Symbol) (at : At) (ts : List Lexeme) → is_number k ≡ false → negative_by at k ts ≡ Bad ts
unfolding negative_by refuse
no_number (s.Number v) at ts e = cc
no_number (s.Wide v) at ts e = cc
no_number _ at ts e = refl

-- and so is the operand
pub number_refused : (room taken : ℕ) (at : At) {t : Lexeme} {ts : List Lexeme} → is_number t.symbol ≡ false
    → unary room taken (Some at) (t ∷ ts) ≡ Bad (t ∷ ts)
unfolding unary_step by_symbol followed and_then
number_refused room taken at {t = t} {ts = ts} e = rw (unary_is room taken (Some at), no_number t.symbol at (t ∷ ts) e) refl

-- below the sums, what no operand begins with is refused,
pub low_refused : (c : Bool) (room taken h k : ℕ) (f : Option At) {t : Lexeme} {ts : List Lexeme} → h ≤ 2
    → ((j : ℕ) → unary room j f (t ∷ ts) ≡ Bad (t ∷ ts)) → part c room taken h k f (t ∷ ts) ≡ Bad (t ∷ ts)
unfolding level first followed and_then at_place
low_refused c room taken zero k f l e = rw (e (taken + k / 8)) refl
low_refused c room taken (suc h) k f l e = let b : (suc h == 3) ≡ false = grind (arith, nat_tests, l) in
    rw (b, low_refused c room taken h k f (omega arith) e) refl

-- and above them what is no sign
pub level_refused : (c : Bool) (room taken h k : ℕ) {t : Lexeme} {ts : List Lexeme} → is_sign (operator_of t.symbol) ≡ false
    → ((j : ℕ) → unary room j None (t ∷ ts) ≡ Bad (t ∷ ts)) → part c room taken h k None (t ∷ ts) ≡ Bad (t ∷ ts)
unfolding level first followed and_then at_place by_symbol
level_refused c room taken zero k z e = rw (e (taken + k / 8)) refl
level_refused c room taken (suc h) k {t = t} {ts = ts} z e = go (suc h == 3) refl (level_refused c room taken h k z e)
  where
    go : (b : Bool) → (suc h == 3) ≡ b → part c room taken h k None (t ∷ ts) ≡ Bad (t ∷ ts)
        → part c room taken (suc h) k None (t ∷ ts) ≡ Bad (t ∷ ts)
    go true b i = rw (b, z, i) refl
    go false b i = rw (b, i) refl

-- One step, and what the part behind it sinks in.

-- in the level below
pub below_case : {n : ℕ} {c : Bool} {f : Option At} {h d k : ℕ} {ts : List Lexeme} → (suc h == 3) ≡ false
    → SinksIn n (of_kind.level c f h) d k ts → SinksIn n (of_kind.level c f (suc h)) d k ts
unfolding first
below_case {n = n} {c = c} {f = f} {h = h} {k = k} {ts = ts} q o = record {
  claim = λ room taken sum fits.
      some_token (λ ts. Sinks n (part c room taken (suc h) k f) ts) ts (local_part c room taken h k f)
      (o.claim room taken sum fits) (λ t us d. sink_level c h k f room taken (sink_else _ q d));
}

-- in a sum without a sign
pub unsigned_case : {n : ℕ} {c : Bool} {h d k : ℕ} {ts : List Lexeme} → (suc h == 3) ≡ true
    → SinksIn n (of_kind.level c None h) d k ts → SinksIn n (of_kind.level c None (suc h)) d k ts
unfolding first
unsigned_case {n = n} {c = c} {h = h} {k = k} {ts = ts} q o = record {
  claim = λ room taken sum fits.
      some_token (λ ts. Sinks n (part c room taken (suc h) k None) ts) ts (local_part c room taken h k None)
      (o.claim room taken sum fits) (λ t us d. go room taken t us d (is_sign (operator_of t.symbol)) refl);
}
  where
    go : (room taken : ℕ) (t : Lexeme) (us : List Lexeme) → Sinks n (part c room taken h k None) (t ∷ us)
        → (b : Bool) → is_sign (operator_of t.symbol) ≡ b → Sinks n (part c room taken (suc h) k None) (t ∷ us)
    go room taken t us d false e = sink_level c h k None room taken (sink_if _ q (sink_head _ (sink_else _ e d)))
    go room taken t us d true e = not_bad (low_refused c room taken h k None (lf.below_three h q)
        (λ j. primary_refused _ an_operator room j (lf.sign_is t.symbol e))) d

-- no minus before a number
pub no_minus_number : (o : ℕ) (k j : Symbol) → k ≡ s.Operator o → ((o == 12) && is_number j) ≡ false
    → ((operator_of k == 12) && is_number j) ≡ false
unfolding operator_of
no_minus_number o k j e f = rw e f

-- behind a sign
pub signed_case : {n : ℕ} {c : Bool} {h d k o : ℕ} {t : Lexeme} {ts : List Lexeme} → (suc h == 3) ≡ true
    → Is (s.Operator o) t → is_sign o ≡ true → g.negates o ts ≡ false
    → SinksIn n (of_kind.level c None h) d k ts → SinksIn n (of_kind.level c None (suc h)) d k (t ∷ ts)
unfolding first signed_by_next operator_of
signed_case {n = n} {c = c} {h = h} {k = k} {o = o} {t = t} {ts = ts} q i b z f = record {
  claim = λ room taken sum fits.
      some_token (λ ts. g.negates o ts ≡ false → Sinks n (part c room taken (suc h) k None) (t ∷ ts)) ts
      (local_part c room taken h k None) (f.claim room taken sum fits) (λ u us d z. sink_level c h k None room taken
      (sink_if _ q (sink_symbol _ i (sink_if _ b (sink_take _ (sink_head _
      (sink_else _ (no_minus_number o t.symbol u.symbol i z) (sink_then _ d)))))))) z;
}

-- a minus before a number
pub minus_number : (k j : Symbol) → k ≡ s.Operator 12 → is_number j ≡ true → ((operator_of k == 12) && is_number j) ≡ true
unfolding operator_of
minus_number k j e f = rw (e, f) refl

-- a number behind its minus, or none
pub negative_go : {n : ℕ} {t : Lexeme} (c : Bool) (h k room taken : ℕ) (u : Lexeme) (us : List Lexeme)
    → (suc h == 3) ≡ true → Is (s.Operator 12) t → Sinks n (part c room taken h k (Some t.at)) (u ∷ us)
    → (b : Bool) → is_number u.symbol ≡ b → Sinks n (part c room taken (suc h) k None) (t ∷ u ∷ us)
unfolding first signed_by_next operator_of
negative_go {t = t} c h k room taken u us q i d true e = sink_level c h k None room taken
    (sink_if _ q (sink_symbol _ i (sink_take _ (sink_head _
    (sink_if _ (minus_number t.symbol u.symbol i e) (sink_then _ d))))))
negative_go {t = t} c h k room taken u us q i d false e = not_bad
    (low_refused c room taken h k (Some t.at) (lf.below_three h q) (λ j. number_refused room j t.at e)) d

-- behind the minus of a number
pub negative_case : {n : ℕ} {c : Bool} {h d k : ℕ} {t : Lexeme} {ts : List Lexeme} → (suc h == 3) ≡ true
    → Is (s.Operator 12) t → SinksIn n (of_kind.level c (Some t.at) h) d k ts
    → SinksIn n (of_kind.level c None (suc h)) d k (t ∷ ts)
negative_case {n = n} {c = c} {h = h} {k = k} {t = t} {ts = ts} q i f = record {
  claim = λ room taken sum fits.
      some_token (λ ts. Sinks n (part c room taken (suc h) k None) (t ∷ ts)) ts (local_part c room taken h k (Some t.at))
      (f.claim room taken sum fits) (λ u us d. negative_go c h k room taken u us q i d (is_number u.symbol) refl);
}

-- behind an operator
pub right_case : {n : ℕ} {c : Bool} {f : Option At} {h m d k o : ℕ} {x : Form} {a : tree.Tree} {z : Lexeme}
    {ts mid : List Lexeme} → (suc h == 4) ≡ false → g.Level c f (suc h) m x a ts (z ∷ mid) → Is (s.Operator o) z
    → (binds o == suc h) ≡ true → n ≤ length mid → SinksIn n (of_kind.level c None h) d (suc (k + m)) mid
    → SinksIn n (of_kind.level c f (suc h)) d k ts
unfolding turn turn_by join counted operator_of
right_case {c = c} {h = h} {o = o} q l i e w y = record {
  claim = λ room taken sum fits. sink_on
      (loop_of (complete l) (follow_is i (stops_operator c (seen h) o (rw (seen_else h q) (binds_more h (binds o) e))))
      room taken _) (omega arith)
      (sink_turn _ (sink_symbol _ i (sink_if _ e (sink_allowed _ _ w (λ ok. sink_then _ (y.claim room taken sum (le_of _ _ ok)))))));
}

-- behind a relation
pub relation_case : {n : ℕ} {c : Bool} {f : Option At} {h m d k o : ℕ} {x : Form} {a : tree.Tree} {z : Lexeme}
    {ts mid : List Lexeme} → (suc h == 4) ≡ true → g.Level c f h m x a ts (z ∷ mid) → Is (s.Operator o) z
    → (binds o == suc h) ≡ true → n ≤ length mid → SinksIn n (of_kind.level c None h) d (suc (k + m)) mid
    → SinksIn n (of_kind.level c f (suc h)) d k ts
unfolding turn turn_by join counted operator_of first
relation_case {c = c} {f = f} {h = h} {k = k} {o = o} q l i e w y = record {
  claim = λ room taken sum fits. sink_on
      (near_level c h k f room taken (pt.shorter l) (near_else _ (not_sum h q)
      (part_of (complete l) (follow_is i (stops_operator c h o (binds_more h (binds o) e))) room taken k)) stays) (omega arith)
      (sink_turn _ (sink_symbol _ i (sink_if _ e (sink_allowed _ _ w (λ ok. sink_then _ (y.claim room taken sum (le_of _ _ ok)))))));
}

-- a mark of a shift that is one operator too many
pub too_many : {A : Type 0} (d k room taken : ℕ) → limit < d + k / 8 → d + room ≡ limit + taken
    → nat_le (taken + k / 8) room ≡ true → A
too_many d k room taken m e ok = over d k room taken m e (le_of _ _ ok)

-- a mark of a shift
pub shift_case : {n : ℕ} {c : Bool} {f : Option At} {h m d k : ℕ} {x : Form} {e : tree.Tree} {a : Lexeme}
    {ts us : List Lexeme} → (suc h == 1) ≡ true → g.Level c f (suc h) m x e ts (a ∷ us) → Is s.Ampersand a
    → n ≤ length us → limit < d + suc (k + m) / 8 → SinksIn n (of_kind.level c f (suc h)) d k ts
unfolding turn turn_by shifted counted operator_of binds same_symbol symbol_number
shift_case {c = c} {h = h} {m = m} {d = d} {k = k} q l i w y = record {
  claim = λ room taken sum fits. let zero_level = is_zero h q in sink_on
      (loop_of (complete l) (follow_is i (rw (zero_level) (stops_mark c))) room taken k) (omega arith)
      (sink_turn _ (sink_symbol _ i (sink_else _ (no_operator h) (sink_if _ (is_one h q)
      (sink_allowed _ _ w (λ ok. too_many d (suc (k + m)) room taken y sum ok))))));
}

-- the number of a comparison of bytes
pub bytes_case : {n : ℕ} {f : Option At} {h m d k : ℕ} {e : tree.Tree} {z o : Lexeme} {ts mid : List Lexeme}
    → (suc h == 8) ≡ true → g.Level true f h m comparison e ts (z ∷ o ∷ mid) → Is s.Comma z → Is s.Open o
    → n ≤ length mid
    → ((room taken : ℕ) → (d + (k + m) / 8) + room ≡ limit + taken → nat_lt taken room ≡ true → Sinks n (within room taken) mid)
    → SinksIn n (of_kind.level true f (suc h)) d k ts
unfolding turn turn_by bytes operator_of binds same_symbol symbol_number first
bytes_case {f = f} {h = h} {m = m} {d = d} {k = k} q l i j w y = record {
  claim = λ room taken sum fits. sink_on
      (near_level true h k f room taken (pt.shorter l) (near_else _ (not_three h q)
      (part_of (complete l) (follow_is i (stops_comma_below true h (below_eight h q))) room taken k)) stays) (omega arith)
      (sink_turn _ (sink_symbol _ i (sink_else _ (no_operator h) (sink_else _ (not_mark h _ (inr refl))
      (sink_if _ (is_eight h q) (sink_take _ (sink_opening room (taken + (k + m) / 8) _ j w
      (λ ok. sink_then _ (y room (taken + (k + m) / 8) (omega arith) ok)))))))));
}

-- an expression in parentheses
pub sinks_within : {n d : ℕ} {ts : List Lexeme} → SinksIn n (of_kind.level false None 10) (suc d) 0 ts → (room taken : ℕ)
    → d + room ≡ limit + taken → nat_lt taken room ≡ true → Sinks n (within room taken) ts
unfolding within expression whole
sinks_within o zero taken sum ok = none_left taken ok
sinks_within o (suc room) taken sum ok = sink_then _ (o.claim room taken (omega arith) (room_left taken room ok))

-- NOT and an operand
pub not_case : {n d : ℕ} {t : Lexeme} {ts : List Lexeme} → Is s.Not t → n ≤ length ts
    → SinksIn n (of_kind.unary None) (suc d) 0 ts → SinksIn n (of_kind.unary None) d 0 (t ∷ ts)
unfolding unary_step inverse enter
not_case {n = n} {d = d} {t = t} {ts = ts} i w o = record {
  claim = λ room taken sum fits. sink_from (ap (λ p. p (t ∷ ts)) (unary_is room taken None))
      (sink_symbol _ i (sink_if _ (same_self s.Not) (sink_allowed _ _ w (λ ok. sink_then _ (go room taken sum ok)))));
}
  where
    go : (room taken : ℕ) → d + room ≡ limit + taken → nat_lt taken room ≡ true → Sinks n (behind_not room taken) ts
    go zero taken sum ok = none_left taken ok
    go (suc room) taken sum ok = o.claim room taken (omega arith) (room_left taken room ok)

-- NOT is no primary
pub not_primary : (room taken : ℕ) (t : Lexeme) (us : List Lexeme) → is s.Not t.symbol ≡ true
    → primary_reader None room taken (t ∷ us) ≡ Bad (t ∷ us)
unfolding by_symbol primary_by refuse
not_primary room taken t us e = rw (same_is t.symbol s.Not e) refl

-- a primary depends on no token behind its end
pub local_primary_reader : (f : Option At) (room taken : ℕ) → IsLocal (primary_reader f room taken)
local_primary_reader None room taken = lr.local_symbol (local_primary_by room (behind_not room taken) (within room taken) taken
    (local_behind_not room) (local_within room taken))
  where
    local_behind_not : (room : ℕ) → IsLocal (behind_not room taken)
    local_behind_not zero = lr.local_refuse
    local_behind_not (suc room) = local_unary room taken None
local_primary_reader (Some at) room taken = lr.local_symbol (local_negative at)

-- in a primary
pub operand_case : {n d : ℕ} {f : Option At} {ts : List Lexeme} → SinksIn n (of_kind.primary f) d 0 ts
    → SinksIn n (of_kind.unary f) d 0 ts
unfolding unary_step primary
operand_case {f = Some at} {ts = ts} o = record {
  claim = λ room taken sum fits. sink_from
      (ap (λ p. p ts) (unary_is room taken (Some at))) (sink_then _ (o.claim room taken sum fits));
}
operand_case {n = n} {f = None} {ts = ts} o = record {
  claim = λ room taken sum fits.
      some_token (λ ts. Sinks n (unary room taken None) ts) ts (local_primary_reader None room taken)
      (o.claim room taken sum fits) (λ t us d. go room taken t us d (is s.Not t.symbol) refl);
}
  where
    go : (room taken : ℕ) (t : Lexeme) (us : List Lexeme) → Sinks n (primary_reader None room taken) (t ∷ us)
        → (b : Bool) → is s.Not t.symbol ≡ b → Sinks n (unary room taken None) (t ∷ us)
    go room taken t us d false e = sink_from (ap (λ p. p (t ∷ us)) (unary_is room taken None))
        (sink_head _ (sink_else _ e (sink_place _ (sink_then _ d))))
    go room taken t us d true e = not_bad (not_primary room taken t us e) d

-- Primaries.

-- a name with arguments
pub named_case : {n : ℕ} {t o : Lexeme} {ts : List Lexeme} (room taken : ℕ) → Is s.Name t → Is s.Open o
    → Sinks n (arguments room (behind_not room taken) (within room taken) taken) (o ∷ ts)
    → Sinks n (primary_reader None room taken) (t ∷ o ∷ ts)
unfolding primary_by named
named_case room taken i j d = sink_symbol _ i (sink_take _ (sink_symbol _ j (sink_if _ (same_self s.Open) (sink_then _ d))))

-- an expression in parentheses
pub sink_enclosed : {n : ℕ} {o : Lexeme} {ts : List Lexeme} (room taken : ℕ) (inner : Parser Found) → Is s.Open o
    → n ≤ length ts → (nat_lt taken room ≡ true → Sinks n (within room taken) ts)
    → Sinks n (enclosed room inner (within room taken) taken) (o ∷ ts)
unfolding enclosed
sink_enclosed room taken inner i w d = sink_opening room taken _ i w (λ ok. sink_then _ (d ok))

-- arguments in parentheses
pub sink_arguments : {n : ℕ} {o : Lexeme} {ts : List Lexeme} (room taken : ℕ) (inner : Parser Found) → Is s.Open o
    → n ≤ length ts → (nat_lt taken room ≡ true → Sinks n (followed (within room taken)
    (λ e. repeat (more_arguments room inner (within room taken) taken) (e ∷ []))) ts)
    → Sinks n (arguments room inner (within room taken) taken) (o ∷ ts)
unfolding arguments
sink_arguments room taken inner i w d = sink_opening room taken _ i w (λ ok. sink_from
    (followed_assoc _ _ _ _) (sink_then _ (d ok)))

-- what the first arguments sink in
pub arguments_of : {n d : ℕ} {ts : List Lexeme} (room taken : ℕ) (inner : Parser Found)
    → SinksIn n of_kind.arguments (suc d) 0 ts → d + room ≡ limit + taken → nat_lt taken room ≡ true
    → Sinks n (followed (within room taken) (λ e. repeat (more_arguments room inner (within room taken) taken) (e ∷ []))) ts
arguments_of zero taken inner o sum ok = none_left taken ok
arguments_of (suc room) taken inner o sum ok = o.claim room taken inner [] (omega arith) (room_left taken room ok)

-- an address with an index
pub address_case : {n : ℕ} {a t o : Lexeme} {ts : List Lexeme} (room taken : ℕ) → Is s.AtSign a → Is s.Name t → Is s.Open o
    → n ≤ length ts → (nat_lt taken room ≡ true → Sinks n (within room taken) ts)
    → Sinks n (primary_reader None room taken) (a ∷ t ∷ o ∷ ts)
unfolding primary_by addressed
address_case room taken i j k w d = sink_symbol _ i (sink_take _ (sink_behind _ (near_expect j) (omega arith)
    (sink_symbol _ k (sink_if _ (same_self s.Open) (sink_then _ (sink_enclosed room taken _ k w d))))))

-- parentheses
pub parens_case : {n : ℕ} {o : Lexeme} {ts : List Lexeme} (room taken : ℕ) → Is s.Open o
    → n ≤ length ts → (nat_lt taken room ≡ true → Sinks n (within room taken) ts)
    → Sinks n (primary_reader None room taken) (o ∷ ts)
unfolding primary_by
parens_case room taken k w d = sink_symbol _ k (sink_then _ (sink_enclosed room taken _ k w d))

-- a transfer
pub transfer_case : {n : ℕ} {k : Kind} {t o : Lexeme} {ts : List Lexeme} (room taken : ℕ) → Is (s.Type k) t → Is s.Open o
    → n ≤ length ts → (nat_lt taken room ≡ true → Sinks n (within room taken) ts)
    → Sinks n (primary_reader None room taken) (t ∷ o ∷ ts)
unfolding primary_by
transfer_case room taken i j w d = sink_symbol _ i (sink_take _ (sink_then _ (sink_enclosed room taken _ j w d)))

-- a choice whose test holds
pub chosen : {A : Type 0} (p q : Parser A) (b : Bool) (ts : List Lexeme) → b ≡ true → (if b then p else q) ts ≡ p ts
chosen p q b ts e = rw e refl

-- the next of some arguments
pub comma_turn : (room taken : ℕ) (inner : Parser Found) (es : List tree.Tree) (z : Lexeme) (mid : List Lexeme) → Is s.Comma z
    → more_arguments (suc room) inner (within (suc room) taken) taken es (z ∷ mid)
    ≡ followed (within (suc room) taken) (λ f. pure (goes_on (es ++ f ∷ []))) mid
unfolding more_arguments followed by_symbol take and_then
comma_turn room taken inner es z mid i = chosen _ _ (is s.Comma z.symbol) (z ∷ mid) (ap (is s.Comma) i ∙ same_self s.Comma)

-- behind a comma or a semicolon
pub next_case : {n d k : ℕ} {x : Form} {e : tree.Tree} {z : Lexeme} {ts mid : List Lexeme}
    → g.Level false None 10 k x e ts (z ∷ mid) → Is s.Comma z → n ≤ length mid
    → SinksIn n of_kind.arguments d 0 mid → SinksIn n of_kind.arguments d 0 ts
next_case {e = e} {z = z} {mid = mid} l i w o = record {
  claim = λ room taken inner so_far sum fits. sink_behind _
      ((expression_of (complete l) (follow_is i (stops_comma 10))).reads (suc room) taken (still_room taken room fits)) (omega arith)
      (sink_next (more_arguments (suc room) inner (within (suc room) taken) taken) (within (suc room) taken)
      (λ f. (so_far ++ e ∷ []) ++ f ∷ []) (takes_more (suc room) inner (within (suc room) taken) taken (local_within (suc room) taken))
      (local_within (suc room) taken) (comma_turn room taken inner (so_far ++ e ∷ []) z mid i)
      (o.claim room taken inner (so_far ++ e ∷ []) sum fits));
}

-- a mark in parentheses
pub full : {A : Type 0} {n d : ℕ} {us : List Lexeme} (room taken : ℕ) → SinksIn n of_kind.mark (suc d) 0 us
    → d + room ≡ limit + taken → nat_lt taken room ≡ true → A
full {d = d} room taken o sum ok = no_more d room taken (let a = o.claim in omega arith) sum ok

-- a level in parentheses
pub of_level : {n d : ℕ} {us : List Lexeme} (room taken : ℕ) → SinksIn n (of_kind.level false None 10) (suc d) 0 us
    → d + room ≡ limit + taken → nat_lt taken room ≡ true → Sinks n (within room taken) us
of_level room taken o sum ok = sinks_within o room taken sum ok
