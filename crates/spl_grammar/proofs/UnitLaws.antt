-- What follows from the laws of the reader of units.
use Rattle.std.proofs.Common.{ℕ, ◌≡◌, ◌+◌, ◌≤◌, List, [], ◌∷◌, length, arith, ap, sym, ◌∙◌, ◌⊎◌, inl, inr}
use Rattle.spl_reading.specs.spl_tree.Symbols.{Lexeme}
use Rattle.spl_reading.specs.spl_tree.DeclarationTrees.{UnitTree}
use Rattle.spl_reading.specs.spl_tree.Parts as part
use Rattle.spl_reading.specs.spl_tree.OpenExpressions.{Part, Opens, limit, nesting}
use Rattle.spl_reading.specs.spl_tree.Units.{Unit_of}
use Rattle.spl_reading.specs.Readers.{Outcome, Got, Bad, Deep}
use Rattle.spl_reading.specs.ReadDeclarations.{unit}
use Rattle.spl_grammar.specs.Answers.{DeepBefore, Agrees, Explains, Completes, end_of, got, bad, deep}
use Rattle.spl_grammar.specs.UnitLaws.{SpelledUnit}
use Rattle.spl_grammar.proofs.LocalDeclarations.{local_unit}
use Rattle.spl_grammar.proofs.CompleteUnits.{unit_read}
use Rattle.spl_grammar.proofs.CompletedLaws.{completes}
use Rattle.spl_grammar.proofs.CompletedUnits.{a_unit, all_completed}
use Rattle.spl_grammar.proofs.CutUnits.{spelled_alone, unit_explained}
use Rattle.spl_grammar.proofs.CalmReaders.{Shallow}
use Rattle.spl_grammar.proofs.CalmDeclarations.{calm_unit}
use Rattle.spl_grammar.proofs.ExpressionLaws.{same_got, like_bad, not_near}

pub unit_fault : (room : ℕ) {t : Lexeme} {us vs ts more : List Lexeme} → unit room ts ≡ Bad (t ∷ us)
    → Agrees us vs ts more
    → (unit room more ≡ Bad (t ∷ vs)) × ((u : UnitTree) → Unit_of u more → ⊥)
unit_fault room {t = t} {us = us} {vs = vs} {ts = ts} {more = more} e a =
    let b = like_bad us vs t _ _ ((local_unit room).alike us vs ts more a) e in
    (b, λ u v. not_near (unit_read v room) b)

-- an outcome that is not too deep
not_deep : {A : Type 0} (n : ℕ) (o : Outcome A) → Shallow o → DeepBefore n o → ⊥
not_deep n (Got a rest) s d = elim d [ ]
not_deep n (Bad rest) s d = elim d [ ]
not_deep n (Deep rest) s d = elim s [ ]

-- where as many constructs may be open as there are tokens, the unit is read
read_unit : {u : UnitTree} {ts : List Lexeme} → Unit_of u ts → unit (length ts) ts ≡ Got u []
read_unit {u = u} {ts = ts} v = go (unit_read v (length ts)).outcome
  where
    go : (unit (length ts) ts ≡ Got u []) ⊎ DeepBefore 0 (unit (length ts) ts) → unit (length ts) ts ≡ Got u []
    go (inl e) = e
    go (inr d) = absurd (not_deep 0 _ ((calm_unit (length ts)).never ts (omega arith)) d)

pub unit_unique : {u v : UnitTree} {ts : List Lexeme} → Unit_of u ts → Unit_of v ts → u ≡ v
unit_unique a b = (same_got _ _ _ _ (sym (read_unit a) ∙ read_unit b)).0

-- What is known of a reading by its explanation.

-- what is read to the end is a unit, and is not too deep
pub read_exactly : (room : ℕ) (u : UnitTree) (ts : List Lexeme) → unit room ts ≡ Got u []
    → Unit_of u ts × (DeepBefore 0 (unit room ts) → ⊥)
read_exactly room u ts e = (spelled_alone room u ts e, λ d. go (unit room ts) e d)
  where
    go : (o : Outcome UnitTree) → o ≡ Got u [] → DeepBefore 0 o → ⊥
    go (Got v rest) e d = elim d [ ]
    go (Bad rest) e d = cc
    go (Deep rest) e d = cc

-- what is spelled is read, unless it is too deep
pub exactly_read : (room : ℕ) (u : UnitTree) (ts : List Lexeme) → Unit_of u ts → (DeepBefore 0 (unit room ts) → ⊥)
    → unit room ts ≡ Got u []
exactly_read room u ts v h = go (unit_read v room).outcome
  where
    go : (unit room ts ≡ Got u []) ⊎ DeepBefore 0 (unit room ts) → unit room ts ≡ Got u []
    go (inl e) = e
    go (inr d) = absurd (h d)

-- where no chain has more open than may be, nothing is too deep
pub shallow_read : (room d : ℕ) (u : UnitTree) (ts : List Lexeme) → d + room ≡ limit → Unit_of u ts
    → ((q : Part) (j k : ℕ) (mid : List Lexeme) → Opens part.unit d 0 ts q j k mid → nesting j k ≤ limit)
    → unit room ts ≡ Got u []
shallow_read room d u ts sum v h = exactly_read room u ts v
    (go (unit room ts) (unit_explained {most = limit} room d ts (omega arith)))
  where
    go : (o : Outcome UnitTree) → Explains limit (λ u rest. SpelledUnit u ts rest) part.unit d 0 ts o → DeepBefore 0 o
        → ⊥
    go _ (got v) x = elim x [ ]
    go _ (bad o l) x = elim x [ ]
    go _ (deep o l) x = let m = h o.part o.constructs o.operators _ o.chain in absurd (omega arith)

-- the tokens before a fault can be completed
pub before_fault : (room : ℕ) (us ts : List Lexeme) → unit room ts ≡ Bad us
    → Completes (λ vs rest. rest ≡ [] → (u : UnitTree) × Unit_of u vs) ts us
before_fault room us ts e = go (unit room ts) (unit_explained {most = room} room 0 ts (omega arith)) e
  where
    unit_completed : {q : Part} {j k : ℕ} {vs : List Lexeme} → Opens part.unit 0 0 ts q j k vs → vs ≡ us
        → Completes (λ vs rest. rest ≡ [] → (u : UnitTree) × Unit_of u vs) ts us
    unit_completed c r = rw (← r) (completes (all_completed (inr a_unit) c)
        (λ ws more x f. let y = x f in (y.tree, y.spelled)))

    go : (o : Outcome UnitTree) → Explains room (λ u rest. SpelledUnit u ts rest) part.unit 0 0 ts o → o ≡ Bad us
        → Completes (λ vs rest. rest ≡ [] → (u : UnitTree) × Unit_of u vs) ts us
    go _ (got v) e = cc
    go _ (bad o l) e = unit_completed o.chain (ap end_of e)
    go _ (deep o l) e = cc
