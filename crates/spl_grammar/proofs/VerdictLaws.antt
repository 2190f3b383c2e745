-- A list has at most one verdict, at one place; and in a list that ends the reader's answer is the verdict.
use Rattle.std.proofs.Common.{ℕ, ◌≡◌, ◌<◌, ◌≤◌, Bool, true, false, List, [], ◌∷◌, ◌++◌, length, refl, arith, ap, inr, nat_lt}
use Rattle.std.proofs.lemmas.Bool.Decides.{nat_tests}
use Rattle.spl_reading.specs.spl_tree.Symbols.{Lexeme}
use Rattle.spl_reading.specs.spl_tree.DeclarationTrees.{UnitTree}
use Rattle.spl_reading.specs.spl_tree.OpenExpressions as op
use Rattle.spl_reading.specs.spl_tree.OpenExpressions.{OpensAt, limit, nesting}
use Rattle.spl_reading.specs.spl_tree.Parts as part
use Rattle.spl_reading.specs.spl_tree.Parts.{Part}
use Rattle.spl_reading.specs.spl_tree.Units.{Unit_of}
use Rattle.spl_reading.specs.Readers.{Outcome, Got, Bad, Deep}
use Rattle.spl_reading.specs.ReadDeclarations.{unit}
use Rattle.spl_grammar.specs.Answers.{DeepBefore, deep, Agrees, here, there, Reaches, sinks, goes_on}
use Rattle.spl_grammar.specs.Answers as an
use Rattle.spl_grammar.specs.UnitLaws.{SpelledUnit}
use Rattle.spl_grammar.specs.Ends.{Ended}
use Rattle.spl_grammar.specs.Verdicts.{NotTooDeep, NoUnit, Verdict, spelled, refused, too_deep}
use Rattle.spl_grammar.proofs.LocalReaders.{Left, entire, cut, end_of}
use Rattle.spl_grammar.proofs.LocalDeclarations.{local_unit}
use Rattle.spl_grammar.proofs.MovedParts.{Swap, same, behind}
use Rattle.spl_grammar.proofs.CompletedUnits.{a_unit, all_completed}
use Rattle.spl_grammar.proofs.CutUnits.{spelled_alone, unit_explained}
use Rattle.spl_grammar.proofs.UnitLaws.{unit_fault, unit_unique}
use Rattle.spl_grammar.proofs.ReachLaws.{deep_first}
use Rattle.spl_grammar.proofs.UnitReachLaws.{units_reach}
use Rattle.spl_grammar.proofs.UnitEnds.{unit_chain_ended, unit_whole}

-- What is left of a list.

-- it is no longer
left_shorter : {us ts : List Lexeme} → Left us ts → length us ≤ length ts
left_shorter entire = omega arith
left_shorter (cut a) = let b = left_shorter a in omega arith

-- and its length determines it
left_same : {us vs ts : List Lexeme} → Left us ts → Left vs ts → length us ≡ length vs → us ≡ vs
left_same entire entire e = refl
left_same entire (cut b) e = let l = left_shorter b in absurd (omega arith)
left_same (cut a) entire e = let l = left_shorter a in absurd (omega arith)
left_same (cut a) (cut b) e = left_same a b e

-- the list agrees with itself up to a token that is left
agrees_self : {t : Lexeme} {us ts : List Lexeme} → Left (t ∷ us) ts → Agrees us us ts ts
agrees_self entire = here
agrees_self (cut a) = there (agrees_self a)

-- what was taken
front_of : {us ts : List Lexeme} → Left us ts → (front : List Lexeme) × (ts ≡ front ++ us)
front_of entire = ([], refl)
front_of (cut {t = t} a) = let b = front_of a in (t ∷ b.0, ap (λ us. t ∷ us) b.1)

-- behind a front it is left
left_behind : (front us : List Lexeme) → Left us (front ++ us)
left_behind [] us = entire
left_behind (t ∷ front) us = cut (left_behind front us)

-- in a list that begins with the front
left_of : {us ts : List Lexeme} (front : List Lexeme) → ts ≡ front ++ us → Left us ts
left_of {us = us} front e = rw e (left_behind front us)

-- what is swapped is left
left_swapped : {us next ts to : List Lexeme} → Swap us next ts to → Left us ts
left_swapped same = entire
left_swapped (behind a) = cut (left_swapped a)

-- Chains.

-- what is behind a chain is left
chain_left : {q : Part} {d n j k : ℕ} {ts mid : List Lexeme} → op.Opens part.unit d n ts q j k mid → Left mid ts
chain_left c = let o = all_completed (inr a_unit) c in let w = o.whole [] in left_swapped w.swap

-- a list that agrees with another
record Meets (us ts more : List Lexeme) : Type 0 where
  pub rest : List Lexeme
  pub agrees : Agrees us rest ts more

-- with other tokens behind a later place
one_more : {t : Lexeme} {us ts more : List Lexeme} → Meets us ts more → Meets us (t ∷ ts) (t ∷ more)
one_more m = record { rest = m.rest; agrees = there m.agrees }

swap_meets : {t : Lexeme} {us mid next ts to : List Lexeme} → Swap mid next ts to → Left (t ∷ us) ts
    → length mid ≤ length us → Meets us ts to
swap_meets same a l = let b = left_shorter a in absurd (omega arith)
swap_meets (behind {us = to} a) entire l = record { rest = to; agrees = here }
swap_meets (behind a) (cut b) l = one_more (swap_meets a b l)

-- where no unit begins with the tokens up to t, no chain goes over t
no_chain : {A : Type 0} {t : Lexeme} {us ts mid : List Lexeme} {q : Part} {d n j k : ℕ} → NoUnit us ts
    → Left (t ∷ us) ts → op.Opens part.unit d n ts q j k mid → length mid ≤ length us → A
no_chain n a c l = let o = all_completed (inr a_unit) c in let w = o.whole [] in let u = w.whole refl in
    let m = swap_meets w.swap a l in absurd (n u.tree m.rest w.to m.agrees u.spelled)

-- One verdict.

-- a number is no more than another, or more
at_most : {A : Type 0} (m n : ℕ) → (m ≤ n → A) → (n < m → A) → A
at_most {A} m n f g = go (nat_lt n m) refl
  where
    go : (b : Bool) → nat_lt n m ≡ b → A
    go true e = g (grind (arith, nat_tests, e))
    go false e = f (grind (arith, nat_tests, e))

-- a unit that is spelled is not refused
not_refused : {A : Type 0} {u : UnitTree} {t : Lexeme} {us ts : List Lexeme} → Unit_of u ts → Left (t ∷ us) ts
    → NoUnit us ts → A
not_refused {u = u} {us = us} {ts = ts} v a n = absurd (n u us ts (agrees_self a) v)

-- nor is what is not too deep before some tokens so before them
not_too_deep : {A : Type 0} {mid ts : List Lexeme} (us : List Lexeme) → NotTooDeep us ts
    → (o : OpensAt part.unit 0 0 ts mid) → limit < nesting o.constructs o.operators → length us ≤ length mid → A
not_too_deep us n o d l = let a = n o.part o.constructs o.operators _ o.chain l in absurd (omega arith)

-- a fault at a place, and too much open
abbrev bad_at : List Lexeme → Outcome UnitTree
bad_at us = Bad us

abbrev deep_at : List Lexeme → Outcome UnitTree
deep_at us = Deep us

-- two places at which no unit goes on are one
same_refusal : {t s : Lexeme} {us vs ts : List Lexeme} → NoUnit us ts → NoUnit vs ts
    → OpensAt part.unit 0 0 ts (t ∷ us) → OpensAt part.unit 0 0 ts (s ∷ vs) → bad_at (t ∷ us) ≡ bad_at (s ∷ vs)
same_refusal {us = us} {vs = vs} n m o p = at_most (length us) (length vs)
    (λ l. at_most (length vs) (length us)
    (λ k. ap bad_at (left_same (chain_left o.chain) (chain_left p.chain) (omega arith)))
    (λ k. no_chain m (chain_left p.chain) o.chain (omega arith)))
    (λ l. no_chain n (chain_left o.chain) p.chain (omega arith))

-- no unit goes on, and too much is open: before that place, or over it
not_both : {A : Type 0} {t : Lexeme} {us vs ts : List Lexeme} → NoUnit us ts → NotTooDeep (t ∷ us) ts
    → OpensAt part.unit 0 0 ts (t ∷ us) → (o : OpensAt part.unit 0 0 ts vs)
    → limit < nesting o.constructs o.operators → A
not_both {t = t} {us = us} {vs = vs} n d p o m = at_most (length (t ∷ us)) (length vs)
    (λ l. not_too_deep (t ∷ us) d o m l) (λ l. no_chain n (chain_left p.chain) o.chain (omega arith))

-- two places at which it is first too deep are one
same_depth : {t s : Lexeme} {us vs ts : List Lexeme} → Left (t ∷ us) ts → Left (s ∷ vs) ts
    → (o : OpensAt part.unit 0 0 ts us) → limit < nesting o.constructs o.operators → NotTooDeep (t ∷ us) ts
    → (p : OpensAt part.unit 0 0 ts vs) → limit < nesting p.constructs p.operators → NotTooDeep (s ∷ vs) ts
    → deep_at (t ∷ us) ≡ deep_at (s ∷ vs)
same_depth {t = t} {s = s} {us = us} {vs = vs} a b o d n p e m = at_most (length us) (length vs)
    (λ l. at_most (length vs) (length us) (λ k. ap deep_at (left_same a b (omega arith)))
    (λ k. not_too_deep (t ∷ us) n p e (omega arith)))
    (λ l. not_too_deep (s ∷ vs) m o d (omega arith))

pub one_verdict : {ts : List Lexeme} {o p : Outcome UnitTree} → Verdict ts o → Verdict ts p → o ≡ p
one_verdict (spelled v n) (spelled w m) = ap (λ u. Got u []) (unit_unique v w)
one_verdict (spelled v n) (refused o d m) = not_refused v (chain_left o.chain) m
one_verdict (spelled v n) (too_deep front e o d m) = not_too_deep [] n o d (omega arith)
one_verdict (refused o d n) (spelled v m) = not_refused v (chain_left o.chain) n
one_verdict (refused o d n) (refused p e m) = same_refusal n m o p
one_verdict (refused o d n) (too_deep front e p k m) = not_both n d o p k
one_verdict (too_deep front e o d n) (spelled v m) = not_too_deep [] m o d (omega arith)
one_verdict (too_deep front e p k m) (refused o d n) = not_both n d o p k
one_verdict (too_deep front e o d n) (too_deep back f p k m) = same_depth (left_of front e) (left_of back f) o d n p k m

-- The reader's answer.

-- no chain has more open than may be where a unit is read,
calm_got : {A : Type 0} (j k : ℕ) (mid us : List Lexeme) (a : A) (o : Outcome A) → Reaches j k mid o → o ≡ Got a us
    → nesting j k ≤ limit
calm_got j k mid us a _ (sinks (deep i)) e = cc
calm_got j k mid us a o (goes_on i n) e = n

-- or a fault stands
calm_bad : {A : Type 0} (j k : ℕ) (mid us : List Lexeme) (o : Outcome A) → Reaches j k mid o → o ≡ Bad us
    → nesting j k ≤ limit
calm_bad j k mid us _ (sinks (deep i)) e = cc
calm_bad j k mid us o (goes_on i n) e = n

-- a fault at the end
no_fault_at_end : {A : Type 0} → Ended [] → A
no_fault_at_end e = elim e [ ]

-- so it is the verdict, by cases of the answer
verdict_by : {ts : List Lexeme} (o : Outcome UnitTree) → Ended ts → unit limit ts ≡ o
    → an.Explains limit (λ u rest. SpelledUnit u ts rest) part.unit 0 0 ts o → Verdict ts o
verdict_by {ts = ts} _ e q (an.got {a = u} {rest = rest} v) = let z = unit_whole limit e q in rw z
    (spelled (spelled_alone limit u ts (rw (← z) q))
    (λ p j k mid c l. calm_got j k mid rest u (unit limit ts) (units_reach limit 0 p j k ts mid refl c) q))
verdict_by {ts = ts} _ e q (an.bad {rest = []} o l) = no_fault_at_end (unit_chain_ended o.chain e)
verdict_by {ts = ts} _ e q (an.bad {rest = t ∷ us} o l) = refused o
    (λ p j k mid c l. calm_bad j k mid (t ∷ us) (unit limit ts) (units_reach limit 0 p j k ts mid refl c) q)
    (λ u vs more a v. let f = unit_fault limit q a in f.1 u v)
verdict_by {ts = ts} _ e q (an.deep {t = t} {rest = us} o d) = let a = left_at q in let f = front_of a in
    too_deep f.0 f.1 o d
    (λ p j k mid c l. deep_first part.unit unit units_reach limit 0 p j k ts mid (t ∷ us) refl c q l)
  where
    left_at : unit limit ts ≡ Deep (t ∷ us) → Left (t ∷ us) ts
    left_at q = rw (← ap (λ o. end_of o) q) ((local_unit limit).left ts)

verdict_of : {ts : List Lexeme} → Ended ts → Verdict ts (unit limit ts)
verdict_of {ts = ts} e = verdict_by (unit limit ts) e refl (unit_explained {most = limit} limit 0 ts (omega arith))

-- and each verdict is the reader's answer
pub verdict_exact : {ts : List Lexeme} (o : Outcome UnitTree) → Ended ts
    → (unit limit ts ≡ o → Verdict ts o) × (Verdict ts o → unit limit ts ≡ o)
verdict_exact o e = (λ q. rw (← q) (verdict_of e), λ v. one_verdict (verdict_of e) v)
