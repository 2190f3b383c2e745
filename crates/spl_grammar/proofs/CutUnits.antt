-- A unit that was read is spelled by the tokens up to the end of the text. The reader looks at none behind them.
use Rattle.std.proofs.Common.{ℕ, ◌+◌, ◌≡◌, ◌<◌, Bool, true, false, if◌then◌else◌, List, [], ◌∷◌, ◌++◌, length, map, refl, arith, ap, sym, ◌∙◌, ◌⊎◌, inl, inr}
use Rattle.spl_reading.specs.spl_tree.declared.symbols.Symbol.TheVariants as s
use Rattle.spl_reading.specs.spl_tree.declared.symbols.Reserved.TheVariants as w
use Rattle.spl_reading.specs.spl_tree.Symbols.{Lexeme}
use Rattle.spl_reading.specs.spl_tree.Parts as part
use Rattle.spl_reading.specs.spl_tree.DeclarationTrees.{UnitTree}
use Rattle.spl_reading.specs.spl_tree.Units.{Unit_of}
use Rattle.spl_reading.specs.Readers.{Outcome, Got, Bad, Deep, Parser, followed, and_then, ◌>>=◌, pure, refuse, take, by_symbol, expect, same_symbol}
use Rattle.spl_reading.specs.ReadStatements.{statement, statement_list}
use Rattle.spl_reading.specs.ReadDeclarations.{declaration_list, body, next_segment, of_segment}
use Rattle.spl_reading.specs.ReadDeclarations as rd
use Rattle.spl_grammar.specs.Answers.{Explains, got, bad, deep, Agrees, end_of}
use Rattle.spl_grammar.specs.UnitLaws.{SpelledUnit}
use Rattle.spl_grammar.proofs.LocalReaders as lr
use Rattle.spl_grammar.proofs.LocalReaders.{Like, IsLocal, local_then, local_pure, local_expect}
use Rattle.spl_grammar.proofs.LocalStatements.{local_statement, local_list}
use Rattle.spl_grammar.proofs.LocalDeclarations.{local_declaration_list, local_body, local_segment}
use Rattle.spl_grammar.proofs.ExpressionLaws.{same_got, agrees_longer, first_or}
use Rattle.spl_grammar.proofs.MovedParts.{Swap, same, behind, along, swap_agrees}
use Rattle.spl_grammar.proofs.MovedStatements.{move_statements}
use Rattle.spl_grammar.proofs.MovedDeclarations.{move_declarations}
use Rattle.spl_grammar.proofs.SoundUnits.{UnitRead, unit_parts, unit_is}

-- a unit up to the end of the text
before_stop : ℕ → Parser UnitTree
before_stop room = do
  b ← expect (s.Word w.Begin)
  ds ← declaration_list room (body room) true 0
  segment ← next_segment
  xs ← statement_list (statement room)
  _ ← expect (s.Word w.End)
  _ ← expect s.Dot
  pure (record { items = map (of_segment segment) ds; statements = xs; segment = segment; at = b.at })

-- it looks at no token behind the one at which it stops
local_before : (room : ℕ) → IsLocal (before_stop room)
unfolding before_stop
local_before room = local_then (local_expect _)
    (λ b. local_then (local_declaration_list room (body room) true (local_body room) 0)
    (λ ds. local_then local_segment (λ segment. local_then (local_list (statement room) (local_statement room))
    (λ xs. local_then (local_expect _) (λ _. local_then (local_expect _) (λ _. local_pure _))))))

-- the end of the text, behind a unit
stop_behind : UnitTree → Parser UnitTree
stop_behind u = expect s.Stop >>= (λ _. pure u)

-- readers in a row, where what follows the first is grouped otherwise
regroup_go : {A B C : Type 0} (f : A → Parser B) (g : A → Parser C) (h : B → Parser C)
    → ((a : A) (us : List Lexeme) → g a us ≡ followed (f a) h us) → (o : Outcome A)
    → and_then o g ≡ and_then (and_then o f) h
unfolding followed and_then
regroup_go f g h e (Got a rest) = e a rest
regroup_go f g h e (Bad rest) = refl
regroup_go f g h e (Deep rest) = refl

-- so a chain of readers is split before its last
regroup : {A B C : Type 0} (r : Parser A) (f : A → Parser B) (g : A → Parser C) (h : B → Parser C)
    → ((a : A) (us : List Lexeme) → g a us ≡ followed (f a) h us) → (ts : List Lexeme)
    → followed r g ts ≡ followed (followed r f) h ts
unfolding followed
regroup r f g h e ts = regroup_go f g h e (r ts)

-- a unit is that, and then the end of the text
stop_last : (u : UnitTree) (us : List Lexeme) → (expect s.Stop >>= (λ _. pure u)) us ≡ followed (pure u) stop_behind us
unfolding followed and_then pure stop_behind
stop_last u us = refl

-- that is how a unit is read
unit_splits : (room : ℕ) (ts : List Lexeme) → rd.unit room ts ≡ followed (before_stop room) stop_behind ts
unfolding rd.unit before_stop
unit_splits room ts = regroup _ _ _ stop_behind
    (λ b. regroup _ _ _ stop_behind
    (λ ds. regroup _ _ _ stop_behind
    (λ segment. regroup _ _ _ stop_behind
    (λ xs. regroup _ _ _ stop_behind (λ _. regroup _ _ _ stop_behind (λ _ us. stop_last _ us)))))) ts

-- The end of the text stands behind what was read.
record StopRead (u : UnitTree) (o : Outcome UnitTree) (rest : List Lexeme) : Type 0 where
  pub stop : Lexeme
  pub is : same_symbol stop.symbol s.Stop ≡ true
  pub at : o ≡ Got u (stop ∷ rest)

-- where it is read, it stands there
stop_read : (u : UnitTree) (rest : List Lexeme) (o : Outcome UnitTree) → and_then o stop_behind ≡ Got u rest
    → StopRead u o rest
unfolding and_then stop_behind followed expect by_symbol take refuse pure
stop_read u rest (Got v []) e = cc
stop_read u rest (Got v (t ∷ us)) e = go (same_symbol t.symbol s.Stop) refl e
  where
    go : (b : Bool) → same_symbol t.symbol s.Stop ≡ b
        → and_then ((if b then take else refuse) (t ∷ us)) (λ _. pure v) ≡ Got u rest
        → StopRead u (Got v (t ∷ us)) rest
    go true q e = let k = same_got _ _ _ _ e in
        record { stop = t; is = q; at = rw (k.0, k.1) refl }
    go false q e = cc
stop_read u rest (Bad us) e = cc
stop_read u rest (Deep us) e = cc

-- and it is read where it stands
stop_stands : (u : UnitTree) (t : Lexeme) (vs : List Lexeme) → same_symbol t.symbol s.Stop ≡ true
    → and_then (Got u (t ∷ vs)) stop_behind ≡ Got u vs
unfolding and_then stop_behind followed expect by_symbol take refuse pure
stop_stands u t vs q = rw q refl

-- with other tokens behind the first that is left
cut_behind : {A : Type 0} → Lexeme → List Lexeme → Outcome A → Outcome A
unfolding first_or
cut_behind t vs (Got a rest) = Got a (first_or t rest ∷ vs)
cut_behind t vs o = o

-- what is read before a token is read before it, whatever follows the token
like_got : {A : Type 0} (us vs : List Lexeme) (t : Lexeme) (a : A) (o p : Outcome A) → Like us vs o p
    → o ≡ Got a (t ∷ us) → p ≡ Got a (t ∷ vs)
unfolding first_or cut_behind
like_got us vs t a _ _ (lr.got (lr.here {t = u})) e = ap (cut_behind t vs) e
like_got us vs t a _ _ (lr.got (lr.there b)) e = let l = agrees_longer b in let k = ap (λ o. length (end_of o)) e in
    absurd (omega arith)
like_got us vs t a _ _ (lr.bad b) e = cc
like_got us vs t a _ _ (lr.deep b) e = cc
like_got us vs t a o p (lr.past l) e = let k = ap (λ o. length (end_of o)) e in absurd (omega arith)

-- a list, and the tokens of it that stand before the second
record Swapped (ts rest : List Lexeme) : Type 0 where
  pub to : List Lexeme
  pub swap : Swap rest [] ts to

-- the same of an equal list
swapped_at : {ts us rest : List Lexeme} → ts ≡ us → Swapped ts rest → Swapped us rest
swapped_at q x = rw (← q) x

-- the tokens up to the end of the text, and none behind them
cut_unit : {u : UnitTree} {ts rest : List Lexeme} → UnitRead u ts rest → Swapped ts rest
cut_unit {ts = ts} {rest = rest} x =
    let n = move_statements x.spelled (x.end ∷ x.dot ∷ x.stop ∷ []) in let m = move_declarations 0 x.declared n.to in
    swapped_at (sym x.all) (record {
      to = x.begin ∷ m.to;
      swap = behind (along m.swap (along n.swap (behind (behind (behind same)))));
    })

-- the tokens before the second list, and then that list
swap_splits : {rest ts to : List Lexeme} → Swap rest [] ts to → ts ≡ to ++ rest
swap_splits same = refl
swap_splits (behind {t = t} a) = ap (λ us. t ∷ us) (swap_splits a)

-- a list that is read agrees with those tokens up to the last
swap_up_to : {rest ts to : List Lexeme} → Swap rest [] ts to → length rest < length ts → Agrees rest [] ts to
swap_up_to {rest = rest} {ts = ts} {to = to} a l = go (swap_agrees a)
  where
    go : (ts ≡ rest) ⊎ Agrees rest [] ts to → Agrees rest [] ts to
    go (inl e) = let k = ap (λ us. length us) e in absurd (omega arith)
    go (inr b) = b

-- the same tokens alone are read as the same unit
read_alone : (room : ℕ) (u : UnitTree) (ts rest to : List Lexeme) → Swap rest [] ts to → rd.unit room ts ≡ Got u rest
    → rd.unit room to ≡ Got u []
unfolding followed
read_alone room u ts rest to a e =
    let x = stop_read u rest (before_stop room ts) (sym (unit_splits room ts) ∙ e) in
    let l : length rest < length ts = shrunk x in
    let b = like_got rest [] x.stop u (before_stop room ts) (before_stop room to)
    ((local_before room).alike rest [] ts to (swap_up_to a l)) x.at in
    unit_splits room to ∙ ap (λ o. and_then o stop_behind) b ∙ stop_stands u x.stop [] x.is
  where
    shrunk : StopRead u (before_stop room ts) rest → length rest < length ts
    shrunk x = let m = (local_before room).shrinks ts in let k = ap (λ o. length (end_of o)) x.at in omega arith

-- what was read, where the outcome is known to be that
explain_got : {most : ℕ} {A : Type 0} {V W : A → List Lexeme → Type 0} {p : part.Part} {d n : ℕ} {ts : List Lexeme}
    (o : Outcome A) → Explains most V p d n ts o
    → ((a : A) (rest : List Lexeme) → o ≡ Got a rest → V a rest → W a rest) → Explains most W p d n ts o
explain_got _ (got v) h = got (h _ _ refl v)
explain_got _ (bad o l) h = bad o l
explain_got _ (deep o l) h = deep o l

-- the unit that the tokens alone spell
pub spelled_alone : (room : ℕ) (u : UnitTree) (us : List Lexeme) → rd.unit room us ≡ Got u [] → Unit_of u us
spelled_alone room u us e = go (rd.unit room us) (unit_parts {most = room} room 0 us (omega arith)) e
  where
    go : (o : Outcome UnitTree) → Explains room (λ v rest. UnitRead v us rest) part.unit 0 0 us o → o ≡ Got u []
        → Unit_of u us
    go _ (got x) e = let k = same_got _ _ _ _ e in unit_is (rw (← k.0, ← k.1) x)
    go _ (bad o l) e = cc
    go _ (deep o l) e = cc

-- a unit, where d constructs are open around it
pub unit_explained : {most : ℕ} (room d : ℕ) (ts : List Lexeme) → d + room ≡ most + 0
    → Explains most (λ u rest. SpelledUnit u ts rest) part.unit d 0 ts (rd.unit room ts)
unit_explained room d ts sum = explain_got (rd.unit room ts) (unit_parts room d ts sum) (λ u rest e x.
    let y = cut_unit x in record {
      front = y.to;
      before = swap_splits y.swap;
      spelled = spelled_alone room u y.to (read_alone room u ts rest y.to y.swap e);
    })
