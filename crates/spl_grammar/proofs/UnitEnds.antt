-- A list that ends has one end of the text: no chain of a unit goes over it, and a unit that is read goes up to it.
use Rattle.std.proofs.Common.{ℕ, ◌≡◌, ◌≤◌, false, List, [], ◌∷◌, ◌++◌, length, refl, arith, ap, sym, ◌∙◌, inr}
use Rattle.spl_reading.specs.spl_tree.declared.symbols.Symbol.TheVariants as s
use Rattle.spl_reading.specs.spl_tree.Symbols.{Lexeme, Is}
use Rattle.spl_reading.specs.spl_tree.DeclarationTrees.{UnitTree}
use Rattle.spl_reading.specs.spl_tree.OpenExpressions as op
use Rattle.spl_reading.specs.spl_tree.Parts as part
use Rattle.spl_reading.specs.spl_tree.Parts.{Part}
use Rattle.spl_reading.specs.Readers.{Outcome, Got}
use Rattle.spl_reading.specs.ReadDeclarations.{unit}
use Rattle.spl_grammar.specs.Answers.{Explains, got, bad, deep, end_of}
use Rattle.spl_grammar.specs.UnitLaws.{SpelledUnit}
use Rattle.spl_grammar.specs.Ends.{is_stop, Ended, last, before}
use Rattle.spl_grammar.proofs.MovedParts.{Swap, same, behind, swap_length, swap_longer}
use Rattle.spl_grammar.proofs.CompletedUnits.{a_unit, all_completed, unit_tail}
use Rattle.spl_grammar.proofs.CutUnits.{unit_explained}
use Rattle.spl_grammar.proofs.EndedDeclarations.{ended_unit}

-- Chains.

-- the end is no other token
no_end : {A : Type 0} (t : Lexeme) → is_stop t.symbol ≡ false → Is s.Stop t → A
no_end t e i = let f = ap is_stop i in cc

-- what stands before some token of a list that ends leaves another list that ends one that ends
swap_ended : {mid next ts to : List Lexeme} → Swap mid next ts to → 1 ≤ length next → Ended to → Ended ts → Ended mid
swap_ended same l e f = f
swap_ended (behind a) l (before i e) (before j f) = swap_ended a l e f
swap_ended (behind {t = t} a) l (before i e) (last j) = no_end t i j
swap_ended (behind a) l (last i) f = let b = swap_length a in let m = swap_longer a in absurd (omega arith)

-- a list is no shorter with others behind it
longer_with : (ts us : List Lexeme) → length ts ≤ length (ts ++ us)
longer_with [] us = omega arith
longer_with (t ∷ ts) us = let a = longer_with ts us in omega arith

-- so a chain leaves a list that ends: the unit that completes it has no end before its last token
pub unit_chain_ended : {q : Part} {d n j k : ℕ} {ts mid : List Lexeme} → op.Opens part.unit d n ts q j k mid → Ended ts
    → Ended mid
unit_chain_ended c e = let o = all_completed (inr a_unit) c in let w = o.whole [] in let u = w.whole refl in
    swap_ended w.swap (let a = unit_tail c in let b = longer_with o.tail [] in omega arith) (ended_unit u.spelled) e

-- Reading.

-- the first tokens of equal lists, and what is behind them
same_first : {t u : Lexeme} {ts us : List Lexeme} → t ∷ ts ≡ u ∷ us → t ≡ u
same_first e = cc

same_rest : {t u : Lexeme} {ts us : List Lexeme} → t ∷ ts ≡ u ∷ us → ts ≡ us
same_rest e = cc

-- no token is both
end_is : {A : Type 0} (t u : Lexeme) → t ≡ u → is_stop t.symbol ≡ false → Is s.Stop u → A
end_is t u e i j = no_end t i (rw e j)

-- nothing stands behind a front that ends
nothing_behind : {front ts rest : List Lexeme} → Ended front → Ended ts → ts ≡ front ++ rest → rest ≡ []
nothing_behind (last i) (last j) e = sym (same_rest e)
nothing_behind (last {t = t} i) (before {t = u} j f) e = end_is u t (same_first e) j i
nothing_behind (before {t = t} i f) (last {t = u} j) e = end_is t u (sym (same_first e)) i j
nothing_behind (before i f) (before j g) e = nothing_behind f g (same_rest e)

-- so what is read is the whole list, since it is spelled by the tokens up to its end
pub unit_whole : (room : ℕ) {u : UnitTree} {ts us : List Lexeme} → Ended ts → unit room ts ≡ Got u us → us ≡ []
unit_whole room {u = u} {ts = ts} {us = us} e q = go (unit room ts) (unit_explained {most = room} room 0 ts (omega arith)) q
  where
    go : (o : Outcome UnitTree) → Explains room (λ u rest. SpelledUnit u ts rest) part.unit 0 0 ts o → o ≡ Got u us
        → us ≡ []
    go _ (got {rest = rest} v) q = let z : rest ≡ us = ap (λ o. end_of o) q in
        sym z ∙ nothing_behind (ended_unit v.spelled) e v.before
    go _ (bad o l) q = cc
    go _ (deep o l) q = cc
