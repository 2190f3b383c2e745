-- A list has at most one verdict as an expression or a condition, at one place; and in a list that ends what is read
-- is it.
-- 1. what is known of the two readers              (explained to got_begins_none)
-- 2. a part that stands before a token with which none begins is read to there   (same_tree)
-- 3. of two verdicts neither place is before the other                (one_verdict)
-- 4. each answer is a verdict                      (verdict_by)
use Rattle.std.proofs.Common.{ℕ, ◌≡◌, ◌+◌, ◌<◌, ◌≤◌, Bool, true, false, List, [], ◌∷◌, length, refl, arith, ap, sym, ◌∙◌, ◌⊎◌, inl, inr}
use Rattle.spl_grammar.specs.spl_tree.declared.symbols.Symbol.TheVariants as s
use Rattle.spl_grammar.specs.spl_tree.Symbols.{Lexeme}
use Rattle.spl_grammar.specs.spl_tree.OpenExpressions.{OpensAt, limit, nesting}
use Rattle.spl_grammar.specs.spl_tree.Trees.{Tree}
use Rattle.spl_grammar.specs.spl_reading.Readers.{Outcome, Got, Bad, Deep}
use Rattle.spl_grammar.specs.Answers as an
use Rattle.spl_grammar.specs.Answers.{Explains, Spelled, SpelledCondition, ChainsReach, Reaches, Agrees}
use Rattle.spl_grammar.specs.Ends.{Ended}
use Rattle.spl_grammar.proofs.LocalReaders as lr
use Rattle.spl_grammar.proofs.LocalReaders.{Left, IsLocal, Like, end_of}
use Rattle.spl_grammar.proofs.LocalExpressions.{local_expression, local_condition}
use Rattle.spl_grammar.proofs.NearReaders.{Near, deep}
use Rattle.spl_grammar.proofs.SoundExpressions.{expression_explained, condition_explained}
use Rattle.spl_grammar.proofs.CompleteStatements.{follow_stopper, semicolon}
use Rattle.spl_grammar.proofs.CompletedParts.{token}
use Rattle.spl_grammar.proofs.ExpressionLaws.{expression_read, condition_read, never_deep, same_got, like_bad, not_near}
use Rattle.spl_grammar.proofs.ReachLaws.{expressions_reach, conditions_reach, deep_first}
use Rattle.spl_verdicts.specs.PartVerdicts.{part, Stands, NoPart, NotWhole, NotTooDeep, Verdict, spelled, refused, too_deep, read}
use Rattle.spl_verdicts.proofs.CloseReaders.{Leaves, past, sunk, Close}
use Rattle.spl_verdicts.proofs.CloseExpressions.{expression_closes, condition_closes}
use Rattle.spl_verdicts.proofs.PartChains.{left_same, front_of, left_of, at_most, chain_left, no_chain, whole_chain, chain_ended, stopped}

-- Readers.

-- an explanation in other words
explained_as : {A : Type 0} {V W : A → List Lexeme
    → Type 0} {most d n : ℕ} {c : Bool} {ts : List Lexeme} {o : Outcome A}
    → ((a : A) (rest : List Lexeme) → V a rest → W a rest) → Explains most V (part c) d n ts o
    → Explains most W (part c) d n ts o
explained_as f (an.got v) = an.got (f _ _ v)
explained_as f (an.bad o l) = an.bad o l
explained_as f (an.deep o l) = an.deep o l

spelled_stands : {e : Tree} {ts rest : List Lexeme} → Spelled e ts rest → Stands false e ts rest
spelled_stands x = record { operators = x.operators; form = x.form; spelled = x.spelled }

condition_stands : {e : Tree} {ts rest : List Lexeme} → SpelledCondition e ts rest → Stands true e ts rest
condition_stands x = record { operators = x.operators; form = x.form; spelled = x.spelled }

explained : {most : ℕ} (c : Bool) (d room : ℕ) (ts : List Lexeme) → d + room ≡ most
    → Explains most (λ e rest. Stands c e ts rest) (part c) d 0 ts (read c room ts)
explained false d room ts sum = explained_as (λ e rest v. spelled_stands v)
    (expression_explained room 0 d ts (omega arith) (omega arith))
explained true d room ts sum = explained_as (λ e rest v. condition_stands v)
    (condition_explained room 0 d ts (omega arith) (omega arith))

reach : (c : Bool) → ChainsReach (part c) (read c)
reach false = expressions_reach
reach true = conditions_reach

pub local : (c : Bool) (room : ℕ) → IsLocal (read c room)
local false room = local_expression room 0
local true room = local_condition room 0

-- behind a part no token is refused
closes : {c : Bool} {e : Tree} {ts rest : List Lexeme} → Stands c e ts rest → 0 < length rest → (room : ℕ)
    → Close (read c room) ts rest e
closes {c = false} v z room = expression_closes v.spelled z room 0
closes {c = true} v z room = condition_closes v.spelled z room 0

-- and behind one a semicolon ends it
stops : {c : Bool} {e : Tree} {ts : List Lexeme} (room : ℕ) → Stands c e ts (token s.Semicolon ∷ [])
    → Near (read c room) ts (token s.Semicolon ∷ []) (Got e (token s.Semicolon ∷ []))
stops {c = false} room v = expression_read v.spelled (follow_stopper refl semicolon) room 0
stops {c = true} room v = condition_read v.spelled (follow_stopper refl semicolon) room 0

-- where a part may end, the next token is not refused
close_bad : {A : Type 0} {e : Tree} {us : List Lexeme} (o : Outcome Tree) → (o ≡ Got e us) ⊎ Leaves (length us) o
    → o ≡ Bad us → A
close_bad o (inl e) q = cc
close_bad o (inr (past h)) q = let l = ap (λ o. length (end_of o)) q in absurd (omega arith)
close_bad _ (inr (sunk h)) q = cc

pub not_refused : {A : Type 0} {c : Bool} {e : Tree} {t : Lexeme} {us ts : List Lexeme} (room : ℕ)
    → Stands c e ts (t ∷ us)
    → read c room ts ≡ Bad (t ∷ us) → A
not_refused {c = c} {ts = ts} room v q = let n = closes v (omega arith) room in close_bad (read c room ts) n.outcome q

-- no part begins with the tokens up to a fault,
pub bad_begins_none : {c : Bool} {t : Lexeme} {us ts : List Lexeme} (room : ℕ) → read c room ts ≡ Bad (t ∷ us)
    → NoPart c us ts
bad_begins_none {c = c} {t = t} {us = us} {ts = ts} room q e vs more a v = let m = stopped (token s.Semicolon) a v in
    not_near (stops room m.stands) (like_bad us m.rest t _ _ ((local c room).alike us m.rest ts m.to m.agrees) q)

-- nor with those of a part and the token behind it
like_got : {e : Tree} (us vs : List Lexeme) (t : Lexeme) (o p : Outcome Tree) → Like us vs o p → o ≡ Got e (t ∷ us)
    → (f : Tree) × (r : List Lexeme) × (p ≡ Got f r) × (length vs < length r)
like_got us vs t _ _ (lr.got {a = a} {more = more} h) q = (a, more, refl, back_longer h)
  where
    back_longer : {us vs ts more : List Lexeme} → Agrees us vs ts more → length vs < length more
    back_longer an.here = omega arith
    back_longer (an.there a) = let l = back_longer a in omega arith
like_got us vs t _ _ (lr.bad h) q = cc
like_got us vs t _ _ (lr.deep h) q = cc
like_got us vs t o p (lr.past l) q = let k = ap (λ o. length (end_of o)) q in absurd (omega arith)

near_length : {e f : Tree} {r us : List Lexeme} (o : Outcome Tree) → (o ≡ Got e r) ⊎ an.DeepBefore (length r) o
    → o ≡ Got f us
    → length us ≡ length r
near_length o (inl e) q = let l = ap (λ o. length (end_of o)) e in let k = ap (λ o. length
    (end_of o)) q in omega arith
near_length _ (inr (deep h)) q = cc

got_begins_none : {c : Bool} {e : Tree} {t : Lexeme} {us ts : List Lexeme} (room : ℕ)
    → read c room ts ≡ Got e (t ∷ us)
    → NoPart c us ts
got_begins_none {c = c} {t = t} {us = us} {ts = ts} room q e vs more a v = let m = stopped (token s.Semicolon) a v in
    let g = like_got us m.rest t _ _ ((local c room).alike us m.rest ts m.to m.agrees) q in
    let n = stops room m.stands in let l = near_length (read c room m.to) n.outcome g.2 in let k = m.some in
    let j = g.3 in absurd (omega arith)

-- Trees.

-- a part that stands before a token with which none begins is read to there, where nothing is too deep
read_exactly : {c : Bool} {e : Tree} {t : Lexeme} {us ts : List Lexeme} → NoPart c us ts → Left (t ∷ us) ts
    → (o : Outcome Tree)
    → Explains (length ts) (λ e rest. Stands c e ts rest) (part c) 0 0 ts o
    → (o ≡ Got e (t ∷ us)) ⊎ Leaves (length (t ∷ us)) o
    → o ≡ Got e (t ∷ us)
read_exactly n a o x (inl q) = q
read_exactly n a _ (an.got v) (inr (past h)) = let w = whole_chain {d = 0} v in no_chain n a w.chain (omega arith)
read_exactly n a _ (an.bad o l) (inr (past h)) = no_chain n a o.chain (omega arith)
read_exactly n a _ (an.deep o l) (inr (past h)) = no_chain n a o.chain (omega arith)
read_exactly {ts = ts} n a o x (inr (sunk h)) = absurd (never_deep ts o 0 x (deep (omega arith)))

same_tree : {c : Bool} {e f : Tree} {t : Lexeme} {us ts : List Lexeme} → NoPart c us ts → Stands c e ts (t ∷ us)
    → Stands c f ts (t ∷ us) → e ≡ f
same_tree {c = c} {e = e} {f = f} {t = t} {us = us} {ts = ts} n v w = let a = (whole_chain {d = 0} v).chain in
    let x = explained {most = length ts} c 0 (length ts) ts (omega arith) in
    let p = read_exactly n (chain_left a) (read c (length ts) ts) x (closes v (omega arith) (length ts)).outcome in
    let q = read_exactly n (chain_left a) (read c (length ts) ts) x (closes w (omega arith) (length ts)).outcome in
    (same_got e f (t ∷ us) (t ∷ us) (sym p ∙ q)).0

-- One verdict.

-- a chain that is not too deep before some tokens is not so before them
not_deep : {A : Type 0} {c : Bool} {d : ℕ} {mid ts : List Lexeme} (us : List Lexeme) → NotTooDeep c d us ts
    → (o : OpensAt (part c) d 0 ts mid) → limit < nesting o.constructs o.operators → length us ≤ length mid → A
not_deep us n o l k = let a = n o.part o.constructs o.operators _ o.chain k in absurd (omega arith)

-- a part, a fault, and too much open at a place
abbrev got_at : Tree → List Lexeme → Outcome Tree
got_at e us = Got e us

abbrev bad_at : List Lexeme → Outcome Tree
bad_at us = Bad us

abbrev deep_at : List Lexeme → Outcome Tree
deep_at us = Deep us

-- two places over which no chain goes are one, where a chain goes to each
one_place : {c : Bool} {d : ℕ} {t u : Lexeme} {us vs ts : List Lexeme} → NoPart c us ts → NoPart c vs ts
    → OpensAt (part c) d 0 ts (t ∷ us) → OpensAt (part c) d 0 ts (u ∷ vs) → t ∷ us ≡ u ∷ vs
one_place {us = us} {vs = vs} n m o p = at_most (length us) (length vs)
    (λ l. at_most (length vs) (length us) (λ k. left_same (chain_left o.chain) (chain_left p.chain) (omega arith))
    (λ k. no_chain m (chain_left p.chain) o.chain (omega arith)))
    (λ l. no_chain n (chain_left o.chain) p.chain (omega arith))

same_parts : {c : Bool} {e f : Tree} {t u : Lexeme} {us vs ts : List Lexeme} → Stands c e ts (t ∷ us) → NoPart c us ts
    → Stands c f ts (u ∷ vs) → NoPart c vs ts → got_at e (t ∷ us) ≡ got_at f (u ∷ vs)
same_parts {c = c} {e = e} {f = f} {t = t} {us = us} {ts = ts} v n w m =
    let q = one_place n m (whole_chain {d = 0} v) (whole_chain {d = 0} w) in
    let x : Stands c f ts (t ∷ us) = rw q w in ap (λ e. got_at e (t ∷ us)) (same_tree n v x) ∙ ap
    (λ us. got_at f us) q

-- a part is not refused where it ends, nor before or behind
part_or_fault : {A : Type 0} {c : Bool} {d : ℕ} {e : Tree} {t u : Lexeme} {us vs ts : List Lexeme}
    → Stands c e ts (t ∷ us)
    → NoPart c us ts → OpensAt (part c) d 0 ts (u ∷ vs) → NotWhole c (u ∷ vs) ts → NoPart c vs ts → A
part_or_fault {c = c} {e = e} {u = u} {vs = vs} {ts = ts} v n o w m = let q = one_place n m (whole_chain v) o in
    let x : Stands c e ts (u ∷ vs) = rw (← q) v in absurd (w e x)

-- over a place with which none begins nothing is open, and before it not too much
not_both : {A : Type 0} {c : Bool} {d : ℕ} {t : Lexeme} {us vs ts : List Lexeme} → NoPart c us ts
    → NotTooDeep c d (t ∷ us) ts
    → OpensAt (part c) d 0 ts (t ∷ us) → (o : OpensAt (part c) d 0 ts vs)
    → limit < nesting o.constructs o.operators → A
not_both {t = t} {us = us} {vs = vs} n m p o l = at_most (length (t ∷ us)) (length vs) (λ k. not_deep
    (t ∷ us) m o l k)
    (λ k. no_chain n (chain_left p.chain) o.chain (omega arith))

-- two places at which it is first too deep are one
same_depth : {c : Bool} {d : ℕ} {t u : Lexeme} {us vs ts : List Lexeme} → Left (t ∷ us) ts → Left (u ∷ vs) ts
    → (o : OpensAt (part c) d 0 ts us) → limit < nesting o.constructs o.operators → NotTooDeep c d (t ∷ us) ts
    → (p : OpensAt (part c) d 0 ts vs) → limit < nesting p.constructs p.operators → NotTooDeep c d (u ∷ vs) ts
    → deep_at (t ∷ us) ≡ deep_at (u ∷ vs)
same_depth {t = t} {u = u} {us = us} {vs = vs} a b o l n p k m = at_most (length us) (length vs)
    (λ i. at_most (length vs) (length us) (λ j. ap deep_at (left_same a b (omega arith)))
    (λ j. not_deep (t ∷ us) n p k (omega arith)))
    (λ i. not_deep (u ∷ vs) m o l (omega arith))

pub one_verdict : {c : Bool} {d : ℕ} {ts : List Lexeme} {o p : Outcome Tree} → Verdict c d ts o → Verdict c d ts p
    → o ≡ p
one_verdict (spelled v a n) (spelled w b m) = same_parts v n w m
one_verdict (spelled v a n) (refused o b w m) = part_or_fault v n o w m
one_verdict (spelled v a n) (too_deep front e o l b) = not_both n a (whole_chain v) o l
one_verdict (refused o b w m) (spelled v a n) = part_or_fault v n o w m
one_verdict (refused o a w n) (refused p b x m) = ap bad_at (one_place n m o p)
one_verdict (refused o a w n) (too_deep front e p l b) = not_both n a o p l
one_verdict (too_deep front e o l b) (spelled v a n) = not_both n a (whole_chain v) o l
one_verdict (too_deep front e p l b) (refused o a w n) = not_both n a o p l
one_verdict (too_deep front e o l a) (too_deep back f p k b) = same_depth (left_of front e)
    (left_of back f) o l a p k b

-- The reader's answer.

-- no chain has more open than may be where a part is read,
calm_got : {A : Type 0} (j k : ℕ) (mid us : List Lexeme) (a : A) (o : Outcome A) → Reaches j k mid o → o ≡ Got a us
    → nesting j k ≤ limit
calm_got j k mid us a _ (an.sinks (deep i)) e = cc
calm_got j k mid us a o (an.goes_on i n) e = n

-- or a fault stands
calm_bad : {A : Type 0} (j k : ℕ) (mid us : List Lexeme) (o : Outcome A) → Reaches j k mid o → o ≡ Bad us
    → nesting j k ≤ limit
calm_bad j k mid us _ (an.sinks (deep i)) e = cc
calm_bad j k mid us o (an.goes_on i n) e = n

-- nothing stands behind the end
no_end : {A : Type 0} → Ended [] → A
no_end e = elim e [ ]

verdict_by : {c : Bool} {d : ℕ} {ts : List Lexeme} (room : ℕ) (o : Outcome Tree) → d + room ≡ limit → Ended ts
    → read c room ts ≡ o → Explains limit (λ e rest. Stands c e ts rest) (part c) d 0 ts o → Verdict c d ts o
verdict_by room _ sum e q (an.got {rest = []} v) = let w = whole_chain {d = 0} v in no_end (chain_ended w.chain e)
verdict_by {c = c} {d = d} {ts = ts} room _ sum e q (an.got {a = a} {rest = t ∷ us} v) = spelled v
    (λ p j k mid ch l. calm_got j k mid (t ∷ us) a (read c room ts) (reach c room d p j k ts mid sum ch) q)
    (got_begins_none room q)
verdict_by room _ sum e q (an.bad {rest = []} o l) = no_end (chain_ended o.chain e)
verdict_by {c = c} {d = d} {ts = ts} room _ sum e q (an.bad {rest = t ∷ us} o l) = refused o
    (λ p j k mid ch l. calm_bad j k mid (t ∷ us) (read c room ts) (reach c room d p j k ts mid sum ch) q)
    (λ f v. not_refused room v q) (bad_begins_none room q)
verdict_by {c = c} {d = d} {ts = ts} room _ sum e q (an.deep {t = t} {rest = us} o l) = let f = front_of
    (left_at q) in
    too_deep f.0 f.1 o l
    (λ p j k mid ch l. deep_first (part c) (read c) (reach c) room d p j k ts mid (t ∷ us) sum ch q l)
  where
    left_at : read c room ts ≡ Deep (t ∷ us) → Left (t ∷ us) ts
    left_at q = rw (← ap (λ o. end_of o) q) ((local c room).left ts)

pub verdict_of : {c : Bool} {d : ℕ} {ts : List Lexeme} (room : ℕ) → d + room ≡ limit → Ended ts
    → Verdict c d ts (read c room ts)
verdict_of {c = c} {d = d} {ts = ts} room sum e = verdict_by room (read c room ts) sum e refl
    (explained c d room ts sum)

-- and each verdict is the reader's answer
pub verdict_exact : {c : Bool} {d : ℕ} {ts : List Lexeme} (room : ℕ) (o : Outcome Tree) → d + room ≡ limit → Ended ts
    → (read c room ts ≡ o → Verdict c d ts o) × (Verdict c d ts o → read c room ts ≡ o)
verdict_exact room o sum e = (λ q. rw (← q) (verdict_of room sum e), λ v. one_verdict (verdict_of room sum e) v)
