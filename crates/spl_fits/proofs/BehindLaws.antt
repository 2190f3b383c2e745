-- OWN items stand behind all globals.
use Rattle.std.proofs.Common.{ℕ, ◌≤◌, ◌+◌, true, false, [], ◌∷◌, arith}
use Rattle.spl_globals.specs.spl_meaning.Tables.{routine_table, routines_of}
use Rattle.spl_globals.specs.spl_meaning.Places.{sum, list_words}
use Rattle.spl_globals.specs.spl_meaning.Bodies.{reached_behind, own_table, global_words}
use Rattle.spl_globals.proofs.spl_places_proofs.ApartLaws.{within}
use Rattle.spl_fits.specs.OwnBehind.{UnitsStandInOrder, OwnItemsStandApart}

before : (p w g m : ℕ) → p + (w + g) ≤ m → p + w ≤ m
before p w g m le = omega arith

after : (p w g m : ℕ) → p + (w + g) ≤ m → p + w + g ≤ m
after p w g m le = omega arith

behind : (m o s : ℕ) → m ≤ o → m ≤ o + s
behind m o s le = omega arith

pub in_order : UnitsStandInOrder
in_order [] at m le own = tt
in_order (u ∷ us) at m le own =
    let w = list_words false (own_table u) in
    let s = sum (λ r. list_words true (routine_table r)) (routines_of u) in
    ((before at.primary w (global_words us) m le, own), in_order us (reached_behind u at) m (after at.primary w (global_words us) m le) (behind m at.own s own))

less : (a b m o c : ℕ) → a ≤ b → b ≤ m → m ≤ o → o ≤ c → a ≤ c
less a b m o c p q r s = omega arith

pub apart : OwnItemsStandApart
apart m own here u r x y p q ends begins px pown qy qown =
    let global = (within 0 here (own_table u) x p px).other pown in
    let kept = (within own 1 (routine_table r) y q qy).own qown in
    less _ _ m own q.word global.1 ends begins kept.0
