-- A chain goes no further than the reader: with what it can be completed with, the part would be read to its end.
use Rattle.std.proofs.Common.{ℕ, ◌+◌, ◌/◌, ◌≡◌, ◌<◌, ◌≤◌, true, false, Bool, List, [], ◌∷◌, ◌++◌, length, None, refl, arith, ap, ◌⊎◌, inl, inr, nat_lt}
use Rattle.std.proofs.lemmas.Bool.Decides.{nat_tests}
use Rattle.spl_reading.specs.spl_tree.declared.symbols.Symbol.TheVariants as s
use Rattle.spl_reading.specs.spl_tree.Symbols.{Lexeme}
use Rattle.spl_reading.specs.spl_tree.OpenExpressions as op
use Rattle.spl_reading.specs.spl_tree.OpenExpressions.{Opens, limit, nesting}
use Rattle.spl_reading.specs.spl_tree.Parts as of_kind
use Rattle.spl_reading.specs.spl_tree.Parts.{Part}
use Rattle.spl_reading.specs.Readers.{Outcome, Got, Bad, Deep, Parser}
use Rattle.spl_reading.specs.ReadExpressions.{expression, condition}
use Rattle.spl_reading.specs.ReadStatements.{statement}
use Rattle.spl_grammar.specs.Answers.{DeepBefore, deep, Reaches, sinks, goes_on, ChainsReach, DeepFirst, Longest, FaultFirst}
use Rattle.spl_grammar.specs.Following as af
use Rattle.spl_grammar.proofs.LocalReaders as lr
use Rattle.spl_grammar.proofs.LocalReaders.{IsLocal, Like, Agrees, end_of}
use Rattle.spl_grammar.proofs.LocalExpressions.{local_expression, local_condition}
use Rattle.spl_grammar.proofs.LocalStatements.{local_statement}
use Rattle.spl_grammar.proofs.NearReaders.{Near}
use Rattle.spl_grammar.proofs.ExpressionLaws.{expression_read, condition_read}
use Rattle.spl_grammar.proofs.CompleteStatements.{complete_statement, follow_stopper, semicolon}
use Rattle.spl_grammar.proofs.MovedParts.{swap_agrees}
use Rattle.spl_grammar.proofs.CompletedParts.{Inside, free, minus, a_constant, an_operand, a_primary, some_arguments, a_reference, a_source, an_effect, a_test, a_statement, some_statements, a_mark, Whole, Completed, append_length, token}
use Rattle.spl_grammar.proofs.CompletedExpressions.{completed}
use Rattle.spl_grammar.proofs.ChainLengths.{chain_shorter}
use Rattle.spl_grammar.proofs.DeepExpressions.{SinksIn, over, agrees_back, agrees_longer}
use Rattle.spl_grammar.proofs.DeepStatements.{expr_sinks, cond_sinks}
use Rattle.spl_grammar.proofs.DeepSteps.{step_sinks}

-- What a chain has not begun is read with nothing too deep, unless too much is open around it.
not_begun_sinks : {n d k : ℕ} {p : Part} {ts : List Lexeme} → Inside p → limit < d + k / 8 → SinksIn n p d k ts
not_begun_sinks {d = d} {k = k} free m = record { claim = λ room taken sum fits. over d k room taken m sum fits }
not_begun_sinks {d = d} {k = k} (minus l) m = record { claim = λ room taken sum fits. over d k room taken m sum fits }
not_begun_sinks a_constant m = record { claim = m }
not_begun_sinks {d = d} {k = k} an_operand m = record { claim = λ room taken sum fits. over d k room taken m sum fits }
not_begun_sinks {d = d} {k = k} a_primary m = record { claim = λ room taken sum fits. over d k room taken m sum fits }
not_begun_sinks {d = d} {k = k} some_arguments m = record
    { claim = λ room taken inner so_far sum fits. over d k room taken m sum fits }
not_begun_sinks {d = d} {k = k} a_reference m = record { claim = λ room sum fits. over d k room 0 m (omega arith) (omega arith) }
not_begun_sinks {d = d} {k = k} a_source m = record { claim = λ room sum fits. over d k room 0 m (omega arith) (omega arith) }
not_begun_sinks {d = d} {k = k} an_effect m = record { claim = λ room sum fits. over d k room 0 m (omega arith) (omega arith) }
not_begun_sinks {d = d} {k = k} a_test m = record { claim = λ room sum fits. over d k room 0 m (omega arith) (omega arith) }
not_begun_sinks {d = d} {k = k} a_statement m = record { claim = λ room sum fits. over d k room 0 m (omega arith) (omega arith) }
not_begun_sinks {d = d} {k = k} some_statements m = record
    { claim = λ room so_far sum fits. over d k room 0 m (omega arith) (omega arith) }
not_begun_sinks a_mark m = record { claim = m }

-- where a chain has more open than may be, reading is too deep before its end
pub chain_sinks : {p q : Part} {d k j m : ℕ} {ts rest : List Lexeme} → Inside p → Opens p d k ts q j m rest
    → limit < nesting j m → SinksIn (length rest) p d k ts
chain_sinks v op.here w = not_begun_sinks v w
chain_sinks v (op.inner step c) w = step_sinks v step (chain_shorter c) (λ u. chain_sinks u c w)

-- the token that ends what is completed
abbrev pub a_semicolon : Lexeme
a_semicolon = token s.Semicolon

-- a reader that reads the completed part to its end is no shorter than the chain
like_reach : {A : Type 0} (mid next stop : List Lexeme) (a : A) (o p : Outcome A) → Like mid next o p
    → length stop ≤ length next → (p ≡ Got a stop) ⊎ DeepBefore (length stop) p
    → (length (end_of o) ≤ length mid) ⊎ DeepBefore (length mid) o
like_reach mid next stop a _ _ (lr.got h) l (inl e) = let i = agrees_longer (agrees_back h) in
    let k = ap (λ o. length (end_of o)) e in absurd (omega arith)
like_reach mid next stop a _ _ (lr.got h) l (inr d) = elim d [ ]
like_reach mid next stop a _ _ (lr.bad h) l (inl e) = cc
like_reach mid next stop a _ _ (lr.bad h) l (inr d) = elim d [ ]
like_reach mid next stop a _ _ (lr.deep h) l e = inr (deep (agrees_longer h))
like_reach mid next stop a o p (lr.past h) l e = inl h

-- so no chain goes over what the reader leaves, where the part is read when these tokens end it
pub no_further : {A : Type 0} {p : Part} {r : Parser A} {ts mid : List Lexeme} (stop : List Lexeme) → IsLocal r
    → Completed p ts mid → (part_of : (us : List Lexeme) → Whole p us stop → A)
    → ((us : List Lexeme) (x : Whole p us stop) → Near r us stop (Got (part_of us x) stop))
    → (length (end_of (r ts)) ≤ length mid) ⊎ DeepBefore (length mid) (r ts)
no_further {r = r} {ts = ts} {mid = mid} stop l o part_of f = let w = o.whole stop in go (swap_agrees w.swap)
  where
    go : (ts ≡ mid) ⊎ Agrees mid (o.tail ++ stop) ts (o.whole stop).to
        → (length (end_of (r ts)) ≤ length mid) ⊎ DeepBefore (length mid) (r ts)
    go (inl e) = inl (let a = l.shrinks ts in let b = ap (λ us. length us) e in omega arith)
    go (inr a) = let w = o.whole stop in let n = f w.to w.whole in
        like_reach mid (o.tail ++ stop) stop (part_of w.to w.whole) (r ts) (r w.to) (l.alike mid _ ts w.to a)
        (append_length o.tail stop) n.outcome

-- both halves of the claim
pub reach_of : {A : Type 0} (j k : ℕ) (mid : List Lexeme) (o : Outcome A)
    → (length (end_of o) ≤ length mid) ⊎ DeepBefore (length mid) o → (limit < nesting j k → DeepBefore (length mid) o)
    → Reaches j k mid o
reach_of j k mid o (inr d) f = sinks d
reach_of j k mid o (inl l) f = go (nat_lt limit (nesting j k)) refl
  where
    go : (b : Bool) → nat_lt limit (nesting j k) ≡ b → Reaches j k mid o
    go true e = sinks (f (grind (arith, nat_tests, e)))
    go false e = goes_on l (grind (arith, nat_tests, e))

-- expressions
pub expressions_reach : ChainsReach (op.level false None 10) (λ room. expression room 0)
expressions_reach room d q j k ts mid sum c = reach_of j k mid (expression room 0 ts)
    (no_further (a_semicolon ∷ []) (local_expression room 0) (completed free c) (λ us x. x.tree)
    (λ us x. expression_read x.spelled (follow_stopper refl semicolon) room 0))
    (λ w. (expr_sinks (chain_sinks free c w) room sum).sinks)

-- conditions
pub conditions_reach : ChainsReach (op.level true None 10) (λ room. condition room 0)
conditions_reach room d q j k ts mid sum c = reach_of j k mid (condition room 0 ts)
    (no_further (a_semicolon ∷ []) (local_condition room 0) (completed free c) (λ us x. x.tree)
    (λ us x. condition_read x.spelled (follow_stopper refl semicolon) room 0))
    (λ w. (cond_sinks (chain_sinks free c w) room sum).sinks)

-- statements
pub statements_reach : ChainsReach of_kind.statement statement
statements_reach room d q j k ts mid sum c = reach_of j k mid (statement room ts)
    (no_further (a_semicolon ∷ []) (local_statement room) (completed a_statement c) (λ us x. x.tree)
    (λ us x. (complete_statement x.spelled (af.semicolon refl)).reads room))
    (λ w. ((chain_sinks a_statement c w).claim room sum (omega arith)).sinks)

-- What follows where reading is too deep, where it answers a part, and where it has a fault.

-- by the claim
deep_go : {A : Type 0} (j k : ℕ) (mid us : List Lexeme) (o : Outcome A) → Reaches j k mid o → o ≡ Deep us
    → length us ≤ length mid → nesting j k ≤ limit
deep_go j k mid us _ (sinks (deep i)) e l = let m = ap (λ o. length (end_of o)) e in absurd (omega arith)
deep_go j k mid us o (goes_on i n) e l = n

-- where it is too deep
pub deep_first : {A : Type 0} (p : Part) (read : ℕ → Parser A) → ChainsReach p read → DeepFirst p read
deep_first p read h room d q j k ts mid us sum c e l = deep_go j k mid us (read room ts) (h room d q j k ts mid sum c) e l

-- by the claim
longest_go : {A : Type 0} (j k : ℕ) (mid us : List Lexeme) (a : A) (o : Outcome A) → Reaches j k mid o → o ≡ Got a us
    → length us ≤ length mid
longest_go j k mid us a _ (sinks (deep i)) e = cc
longest_go j k mid us a o (goes_on i n) e = let m = ap (λ o. length (end_of o)) e in omega arith

-- where a part was read
pub longest : {A : Type 0} (p : Part) (read : ℕ → Parser A) → ChainsReach p read → Longest p read
longest p read h room d q j k ts mid us a sum c e = longest_go j k mid us a (read room ts) (h room d q j k ts mid sum c) e

-- by the claim
fault_go : {A : Type 0} (j k : ℕ) (mid us : List Lexeme) (o : Outcome A) → Reaches j k mid o → o ≡ Bad us
    → length us ≤ length mid
fault_go j k mid us _ (sinks (deep i)) e = cc
fault_go j k mid us o (goes_on i n) e = let m = ap (λ o. length (end_of o)) e in omega arith

-- where a fault stands
pub fault_first : {A : Type 0} (p : Part) (read : ℕ → Parser A) → ChainsReach p read → FaultFirst p read
fault_first p read h room d q j k ts mid us sum c e = fault_go j k mid us (read room ts) (h room d q j k ts mid sum c) e
