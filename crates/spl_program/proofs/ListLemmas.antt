-- Texts taken one by one.
use Rattle.std.proofs.Common.{ℕ, zero, suc, ◌≡◌, ◌+◌, List, [], ◌∷◌, ◌++◌, length, Some, refl, ap, subst, ◌∙◌, arith}
use Rattle.std.specs.Prelude.{slice_get}
use Rattle.spl_tree.specs.declared.names_and_places.At.{At}
use Rattle.spl_tree.specs.declared.fault_kinds.FaultKind.{FaultKind}
use Rattle.spl_cuts.specs.Signs.{Listed}
use Rattle.spl_cuts.specs.Cutting.{CutsWithin}
use Rattle.spl_cuts.specs.Whole.{IsWhole}
use Rattle.spl_cuts.proofs.WholeLemmas.{cut_whole}
use Rattle.spl_sound.specs.spl_meaning.Tables.{Source}
use Rattle.spl_sound.specs.Spelled.{AreSpelled, Spelled}
use Rattle.spl_program.specs.Texts.{AreCut, IsUncut, FirstUncut, IsSpelled, AreUnits, IsUnspelled, FirstUnspelled}
use Rattle.spl_program.specs.Texts as t

-- ---- tokens

-- one text more is cut
pub cut_more : {n : ℕ} {texts : List (List ℕ)} {xs : List Listed} (m : ℕ) (text : List ℕ) (x : Listed) → AreCut n texts xs → m ≡ n + length texts
    → CutsWithin m 262144 text x → AreCut n (texts ++ text ∷ []) (xs ++ x ∷ [])
cut_more {n} m text x t.AreCut.none e v = t.AreCut.more (subst (λ k. CutsWithin k 262144 text x) (e ∙ omega arith) v) t.AreCut.none
cut_more {n} m text x (t.AreCut.more {texts = ts} w ws) e v = t.AreCut.more w (cut_more m text x ws (omega (arith, e)) v)

-- the next is not, and so it is the first
pub uncut_next : {n : ℕ} {texts : List (List ℕ)} {xs : List Listed} {k : FaultKind} {at : At} (m : ℕ) (text : List ℕ) (rest : List (List ℕ)) → AreCut n texts xs
    → m ≡ n + length texts → IsUncut m text k at → FirstUncut n (texts ++ text ∷ rest) k at
uncut_next {n} {k = k} {at = at} m text rest t.AreCut.none e u = t.FirstUncut.here (subst (λ j. IsUncut j text k at) (e ∙ omega arith) u)
uncut_next {n} m text rest (t.AreCut.more {x = x} w ws) e u = t.FirstUncut.behind x w (uncut_next m text rest ws (omega (arith, e)) u)

-- ---- spelling

pub spelled_more : {xs : List Listed} {us : List Source} (x : Listed) (u : Source) → AreUnits xs us → IsSpelled x u → AreUnits (xs ++ x ∷ []) (us ++ u ∷ [])
spelled_more x u t.AreUnits.none v = t.AreUnits.more v t.AreUnits.none
spelled_more x u (t.AreUnits.more w ws) v = t.AreUnits.more w (spelled_more x u ws v)

pub unspelled_next : {xs : List Listed} {us : List Source} {k : FaultKind} {at : At} (x : Listed) (rest : List Listed) → AreUnits xs us → IsUnspelled x k at
    → FirstUnspelled (xs ++ x ∷ rest) k at
unspelled_next x rest t.AreUnits.none v = t.FirstUnspelled.here v
unspelled_next x rest (t.AreUnits.more {u = u} w ws) v = t.FirstUnspelled.behind u w (unspelled_next x rest ws v)

-- ---- as the checker takes them

-- tokens spell each unit
spelled_at : {n : ℕ} {texts : List (List ℕ)} {xs : List Listed} {us : List Source} (i : ℕ) (u : Source) → AreCut n texts xs → AreUnits xs us → slice_get us i ≡ Some u
    → Spelled (n + i) u
spelled_at i u t.AreCut.none t.AreUnits.none e = cc
spelled_at {n} zero u (t.AreCut.more {text = text} {x = x} w ws) (t.AreUnits.more {u = v} s ss) e =
    let same : v ≡ u = cc in
    subst (λ (z : Source). Spelled (n + 0) z) same (record {
      listed = x;
      whole = subst (λ k. IsWhole k 262144 x) (omega arith) (cut_whole n 262144 text x w);
      subprogram = s.subprogram;
      segments = s.segments;
      spelled = s.spelled;
    })
spelled_at {n} (suc i) u (t.AreCut.more w ws) (t.AreUnits.more s ss) e = subst (λ k. Spelled k u) (omega arith) (spelled_at i u ws ss e)

pub all_spelled : {texts : List (List ℕ)} {xs : List Listed} {us : List Source} → AreCut 1 texts xs → AreUnits xs us → AreSpelled us
all_spelled c s i u e = ∣ subst (λ k. Spelled k u) (omega arith) (spelled_at i u c s e) ∣₁

-- as many units as texts
pub cut_count : {n : ℕ} {texts : List (List ℕ)} {xs : List Listed} → AreCut n texts xs → length xs ≡ length texts
cut_count t.AreCut.none = refl
cut_count (t.AreCut.more w ws) = ap suc (cut_count ws)

pub unit_count : {xs : List Listed} {us : List Source} → AreUnits xs us → length us ≡ length xs
unit_count t.AreUnits.none = refl
unit_count (t.AreUnits.more w ws) = ap suc (unit_count ws)
