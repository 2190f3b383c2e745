-- What follows from the laws of the readers: a list spells at most one expression, and a fault is one for every list
-- that agrees
-- up to its token.
use Rattle.std.proofs.Common.{ℕ, ◌≡◌, ◌<◌, true, false, List, [], ◌∷◌, length, None, arith, ap, sym, ◌∙◌, ◌⊎◌, inl, inr}
use Rattle.spl_reading.specs.spl_tree.Symbols.{Lexeme}
use Rattle.spl_reading.specs.spl_tree.Operators.{Form}
use Rattle.spl_reading.specs.spl_tree.Expressions as g
use Rattle.spl_reading.specs.spl_tree.OpenExpressions.{Part}
use Rattle.spl_reading.specs.spl_tree.Trees as tree
use Rattle.spl_reading.specs.Readers.{Outcome, Got, Bad, Deep, Parser}
use Rattle.spl_reading.specs.ReadExpressions.{expression, condition, whole}
use Rattle.spl_grammar.specs.Following.{Follow}
use Rattle.spl_grammar.proofs.LocalReaders as lr
use Rattle.spl_grammar.proofs.LocalReaders.{Agrees, Like, end_of, past}
use Rattle.spl_grammar.proofs.LocalExpressions.{local_expression, local_condition}
use Rattle.spl_grammar.proofs.NearReaders.{Near, DeepBefore, deep, near_then, near_pure}
use Rattle.spl_grammar.proofs.CompleteExpressions.{complete, part_of}
use Rattle.spl_grammar.proofs.ExplainReaders as er
use Rattle.spl_grammar.proofs.ExplainReaders.{Explains}
use Rattle.spl_grammar.proofs.SoundExpressions.{expression_explained, condition_explained}
use Rattle.spl_grammar.proofs.ChainBounds.{chain_bound}

-- what is spelled as an expression is read, unless it is too deep before its end
pub expression_read : {n : ℕ} {x : Form} {e : tree.Tree} {ts rest : List Lexeme} → g.Level false None 10 n x e ts rest
    → Follow false 10 rest
    → (room taken : ℕ) → Near (expression room taken) ts rest (Got e rest)
unfolding expression whole
expression_read l w room taken = near_then _ (part_of (complete l) w room taken 0) (near_pure _ _)

pub condition_read : {n : ℕ} {x : Form} {e : tree.Tree} {ts rest : List Lexeme} → g.Level true None 10 n x e ts rest
    → Follow true 10 rest
    → (room taken : ℕ) → Near (condition room taken) ts rest (Got e rest)
unfolding condition
condition_read l w room taken = near_then _ (part_of (complete l) w room taken 0) (near_pure _ _)

-- nothing is too deep where as many constructs may be open as there are tokens
pub never_deep : {A : Type 0} {W : A → List Lexeme → Type 0} {p : Part} (ts : List Lexeme) (o : Outcome A) (n : ℕ)
    → Explains (length ts) W p 0 0 ts o → DeepBefore n o → ⊥
never_deep ts _ n (er.got _) h = elim h [ ]
never_deep ts _ n (er.bad o _) h = elim h [ ]
never_deep ts _ n (er.deep o l) (deep h) = let b = chain_bound o.chain in omega arith

pub read_whole : {A : Type 0} {W : A → List Lexeme → Type 0} {p : Part} {r : Parser A} {ts rest : List Lexeme}
    {y : Outcome A} → Near r ts rest y → Explains (length ts) W p 0 0 ts (r ts) → r ts ≡ y
read_whole {r = r} {ts = ts} {rest = rest} {y = y} n e = go n.outcome
  where
    go : (r ts ≡ y) ⊎ DeepBefore (length rest) (r ts) → r ts ≡ y
    go (inl q) = q
    go (inr d) = absurd (never_deep ts (r ts) _ e d)

-- the part that was read, or else this one
pub part_or : {A : Type 0} → A → Outcome A → A
part_or a (Got b rest) = b
part_or a (Bad rest) = a
part_or a (Deep rest) = a

pub same_got : {A : Type 0} (a b : A) (r q : List Lexeme) → Got a r ≡ Got b q → (a ≡ b) × (r ≡ q)
unfolding part_or
same_got a b r q e = (ap (part_or a) e, ap end_of e)

-- a list begins with at most one expression that ends where no token goes on
pub expression_unique : {n m : ℕ} {x y : Form} {e d : tree.Tree} {ts rest more : List Lexeme}
    → g.Level false None 10 n x e ts rest → Follow false 10 rest
    → g.Level false None 10 m y d ts more → Follow false 10 more → (e ≡ d) × (rest ≡ more)
expression_unique {ts = ts} l w k v =
    let a = expression_explained (length ts) 0 0 ts (omega arith) (omega arith) in
    same_got _ _ _ _ (sym (read_whole (expression_read l w (length ts) 0) a) ∙ read_whole
    (expression_read k v (length ts) 0) a)

pub condition_unique : {n m : ℕ} {x y : Form} {e d : tree.Tree} {ts rest more : List Lexeme}
    → g.Level true None 10 n x e ts rest → Follow true 10 rest
    → g.Level true None 10 m y d ts more → Follow true 10 more → (e ≡ d) × (rest ≡ more)
condition_unique {ts = ts} l w k v =
    let a = condition_explained (length ts) 0 0 ts (omega arith) (omega arith) in
    same_got _ _ _ _ (sym (read_whole (condition_read l w (length ts) 0) a) ∙ read_whole
    (condition_read k v (length ts) 0) a)

-- a list that agrees up to a token has that token
pub agrees_longer : {us vs ts more : List Lexeme} → Agrees us vs ts more → length us < length ts
agrees_longer lr.here = omega arith
agrees_longer (lr.there a) = let l = agrees_longer a in omega arith

-- the first token, where there is one
unfoldable pub first_or : Lexeme → List Lexeme → Lexeme
first_or u [] = u
first_or u (t ∷ ts) = t

-- a fault stays where it is, whatever follows its token
pub like_bad : {A : Type 0} (us vs : List Lexeme) (t : Lexeme) (o p : Outcome A) → Like us vs o p → o ≡ Bad (t ∷ us)
    → p ≡ Bad (t ∷ vs)
unfolding first_or
like_bad us vs t _ _ (lr.got a) e = cc
like_bad us vs t _ _ (lr.bad (lr.here {t = u})) e = ap (λ v. Bad (v ∷ vs)) (ap (λ o. first_or t (end_of o)) e)
like_bad us vs t _ _ (lr.bad (lr.there a)) e = let l = agrees_longer a in let k = ap (λ o. length (end_of o)) e in
    absurd (omega arith)
like_bad us vs t _ _ (lr.deep a) e = cc
like_bad us vs t o p (past l) e = let k = ap (λ o. length (end_of o)) e in absurd (omega arith)

pub not_near : {A : Type 0} {r : Parser A} {ts rest us : List Lexeme} {a : A} → Near r ts rest (Got a rest)
    → r ts ≡ Bad us → ⊥
not_near {r = r} {ts = ts} {rest = rest} {us = us} {a = a} n e = go (r ts) n.outcome e
  where
    go : (o : Outcome _) → (o ≡ Got a rest) ⊎ DeepBefore (length rest) o → o ≡ Bad us → ⊥
    go _ (inl q) e = cc
    go _ (inr (deep h)) e = cc

-- a fault in an expression is one for each list that agrees up to its token, and no such list begins with an expression
pub expression_fault : (room taken : ℕ) {t : Lexeme} {us vs ts more : List Lexeme}
    → expression room taken ts ≡ Bad (t ∷ us) → Agrees us vs ts more
    → (expression room taken more ≡ Bad (t ∷ vs)) ×
    ((n : ℕ) (x : Form) (e : tree.Tree) (rest : List Lexeme) → g.Level false None 10 n x e more rest
    → Follow false 10 rest → ⊥)
expression_fault room taken {t = t} {us = us} {vs = vs} {ts = ts} {more = more} e a =
    let b = like_bad us vs t _ _ ((local_expression room taken).alike us vs ts more a) e in
    (b, λ n x d rest l w. not_near (expression_read l w room taken) b)

pub condition_fault : (room taken : ℕ) {t : Lexeme} {us vs ts more : List Lexeme}
    → condition room taken ts ≡ Bad (t ∷ us) → Agrees us vs ts more
    → (condition room taken more ≡ Bad (t ∷ vs)) ×
    ((n : ℕ) (x : Form) (e : tree.Tree) (rest : List Lexeme) → g.Level true None 10 n x e more rest
    → Follow true 10 rest → ⊥)
condition_fault room taken {t = t} {us = us} {vs = vs} {ts = ts} {more = more} e a =
    let b = like_bad us vs t _ _ ((local_condition room taken).alike us vs ts more a) e in
    (b, λ n x d rest l w. not_near (condition_read l w room taken) b)
