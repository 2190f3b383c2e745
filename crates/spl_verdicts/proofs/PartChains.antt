-- Chains of an expression or a condition, and what is left of a list.
use Rattle.std.proofs.Common.{ℕ, ◌≡◌, ◌<◌, ◌≤◌, Bool, true, false, List, [], ◌∷◌, ◌++◌, length, refl, arith, ap, nat_lt}
use Rattle.std.proofs.lemmas.Bool.Decides.{nat_tests}
use Rattle.spl_grammar.specs.spl_tree.declared.symbols.Symbol.TheVariants as s
use Rattle.spl_grammar.specs.spl_tree.Symbols.{Lexeme, Is}
use Rattle.spl_grammar.specs.spl_tree.OpenExpressions as op
use Rattle.spl_grammar.specs.spl_tree.OpenExpressions.{Part, Opens, OpensAt}
use Rattle.spl_grammar.specs.spl_tree.Trees.{Tree}
use Rattle.spl_grammar.specs.Answers.{Agrees, here, there}
use Rattle.spl_grammar.specs.Ends.{is_stop, Ended, last, before}
use Rattle.spl_grammar.proofs.LocalReaders.{Left, entire, cut}
use Rattle.spl_grammar.proofs.MovedParts.{Swap, same, behind, swap_length, swap_longer, move}
use Rattle.spl_grammar.proofs.CompletedParts.{free, token}
use Rattle.spl_grammar.proofs.CompletedExpressions.{completed}
use Rattle.spl_grammar.proofs.EndedParts.{ended_level}
use Rattle.spl_verdicts.specs.PartVerdicts.{part, Stands, NoPart}

-- What is left of a list.

-- it is no longer
pub left_shorter : {us ts : List Lexeme} → Left us ts → length us ≤ length ts
left_shorter entire = omega arith
left_shorter (cut a) = let b = left_shorter a in omega arith

-- and its length determines it
pub left_same : {us vs ts : List Lexeme} → Left us ts → Left vs ts → length us ≡ length vs → us ≡ vs
left_same entire entire e = refl
left_same entire (cut b) e = let l = left_shorter b in absurd (omega arith)
left_same (cut a) entire e = let l = left_shorter a in absurd (omega arith)
left_same (cut a) (cut b) e = left_same a b e

-- what was taken
pub front_of : {us ts : List Lexeme} → Left us ts → (front : List Lexeme) × (ts ≡ front ++ us)
front_of entire = ([], refl)
front_of (cut {t = t} a) = let b = front_of a in (t ∷ b.0, ap (λ us. t ∷ us) b.1)

-- in a list that begins with the front
left_behind : (front us : List Lexeme) → Left us (front ++ us)
left_behind [] us = entire
left_behind (t ∷ front) us = cut (left_behind front us)

pub left_of : {us ts : List Lexeme} (front : List Lexeme) → ts ≡ front ++ us → Left us ts
left_of {us = us} front e = rw e (left_behind front us)

-- what is swapped is left
left_swapped : {us next ts to : List Lexeme} → Swap us next ts to → Left us ts
left_swapped same = entire
left_swapped (behind a) = cut (left_swapped a)

-- a number is no more than another, or more
pub at_most : {A : Type 0} (m n : ℕ) → (m ≤ n → A) → (n < m → A) → A
at_most {A} m n f g = go (nat_lt n m) refl
  where
    go : (b : Bool) → nat_lt n m ≡ b → A
    go true e = g (grind (arith, nat_tests, e))
    go false e = f (grind (arith, nat_tests, e))

-- Chains.

-- what is behind a chain is left
pub chain_left : {c : Bool} {q : Part} {d n j k : ℕ} {ts mid : List Lexeme} → Opens (part c) d n ts q j k mid
    → Left mid ts
chain_left o = let a = completed free o in let w = a.whole [] in left_swapped w.swap

-- a list that agrees with another
record Meets (us ts more : List Lexeme) : Type 0 where
  pub rest : List Lexeme
  pub agrees : Agrees us rest ts more

-- with other tokens behind a later place
one_more : {t : Lexeme} {us ts more : List Lexeme} → Meets us ts more → Meets us (t ∷ ts) (t ∷ more)
one_more m = record { rest = m.rest; agrees = there m.agrees }

swap_meets : {t : Lexeme} {us mid next ts to : List Lexeme} → Swap mid next ts to → Left (t ∷ us) ts
    → length mid ≤ length us → Meets us ts to
swap_meets same a l = let b = left_shorter a in absurd (omega arith)
swap_meets (behind {us = to} a) entire l = record { rest = to; agrees = here }
swap_meets (behind a) (cut b) l = one_more (swap_meets a b l)

-- where no part begins with the tokens up to t, no chain goes over t
pub no_chain : {A : Type 0} {c : Bool} {t : Lexeme} {us ts mid : List Lexeme} {q : Part} {d n j k : ℕ}
    → NoPart c us ts
    → Left (t ∷ us) ts → Opens (part c) d n ts q j k mid → length mid ≤ length us → A
no_chain n a o l = let b = completed free o in let w = b.whole [] in let m = swap_meets w.swap a l in
    absurd (n w.whole.tree m.rest w.to m.agrees (record { operators = _; form = _; spelled = w.whole.spelled }))

-- behind a part that is whole an operator may go on
pub whole_chain : {c : Bool} {d : ℕ} {e : Tree} {ts rest : List Lexeme} → Stands c e ts rest
    → OpensAt (part c) d 0 ts rest
whole_chain v = record { part = _; constructs = _; operators = _; chain = op.inner (op.whole v.spelled) op.here }

-- The end of the text.

-- the end is no other token
no_end : {A : Type 0} (t : Lexeme) → is_stop t.symbol ≡ false → Is s.Stop t → A
no_end t e i = let f = ap is_stop i in cc

-- what stands before some token of a list that ends leaves another list that ends one that ends
swap_ended : {mid next ts to : List Lexeme} → Swap mid next ts to → 1 ≤ length next → Ended to → Ended ts → Ended mid
swap_ended same l e f = f
swap_ended (behind a) l (before i e) (before j f) = swap_ended a l e f
swap_ended (behind {t = t} a) l (before i e) (last j) = no_end t i j
swap_ended (behind a) l (last i) f = let b = swap_length a in let m = swap_longer a in absurd (omega arith)

-- a list is no shorter than what it ends with
behind_longer : (ts us : List Lexeme) → length us ≤ length (ts ++ us)
behind_longer [] us = omega arith
behind_longer (t ∷ ts) us = let a = behind_longer ts us in omega arith

-- so a chain leaves a list that ends: the part that completes it has no end in it
pub chain_ended : {c : Bool} {q : Part} {d n j k : ℕ} {ts mid : List Lexeme} → Opens (part c) d n ts q j k mid
    → Ended ts
    → Ended mid
chain_ended o e = let a = completed free o in let w = a.whole (token s.Stop ∷ []) in
    swap_ended w.swap (behind_longer a.tail (token s.Stop ∷ [])) (ended_level w.whole.spelled (last refl)) e

-- Other tokens behind.

-- a list that agrees with one that is a part, with a token behind it
pub record Stopped (c : Bool) (us ts : List Lexeme) (stop : Lexeme) : Type 0 where
  pub tree : Tree
  pub rest : List Lexeme
  pub to : List Lexeme
  pub agrees : Agrees us rest ts to
  pub some : 0 < length rest
  pub stands : Stands c tree to (stop ∷ [])

record Joined (us next ts to : List Lexeme) : Type 0 where
  pub rest : List Lexeme
  pub agrees : Agrees us rest ts to
  pub some : length next ≤ length rest

join : {us vs ts more next to : List Lexeme} → Agrees us vs ts more → Swap [] next more to → Joined us next ts to
join here (behind {us = to} a) = let b = swap_length a in record { rest = to; agrees = here; some = omega arith }
join (there a) (behind b) = let m = join a b in record { rest = m.rest; agrees = there m.agrees; some = m.some }

pub stopped : {c : Bool} {e : Tree} {us vs ts more : List Lexeme} (stop : Lexeme) → Agrees us vs ts more
    → Stands c e more []
    → Stopped c us ts stop
stopped stop a v = let m = move v.spelled (stop ∷ []) in let j = join a m.swap in record {
  tree = m.whole.tree;
  rest = j.rest;
  to = m.to;
  agrees = j.agrees;
  some = let l = j.some in omega arith;
  stands = record { operators = _; form = _; spelled = m.whole.spelled };
}
