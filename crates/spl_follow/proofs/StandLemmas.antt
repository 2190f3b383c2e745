-- Pieces one behind the other: where some end the others begin, and how far that is.
use Rattle.std.proofs.Common.{◌≡◌, ◌≤◌, Bool, true, false, List, [], ◌∷◌, ◌++◌, refl, sym, ap, subst, ◌∙◌, arith}
use Rattle.std.specs.Prelude.{Option, Some, None, is_some}
use Rattle.std.proofs.lemmas.Bool.{false≢true}
use Rattle.spl_code.specs.spl_tree.declared.names_and_places.At.{At}
use Rattle.spl_code.specs.spl_branch.declared.pieces.Piece.{Piece}
use Rattle.spl_code.specs.spl_branch.declared.pieces.Piece.TheVariants.{Do, Literal, Place, Branch, Mark, Call, Begin}
use Rattle.spl_follow.specs.Spots.{Spot, half, pos, next_word, Point, on, Ground}
use Rattle.spl_follow.specs.Standing.{Sites, Stands, due_behind, due_after, IsClosed}

-- ---- what is due

-- where nothing is due, a point is its place
point_on : (p : Point) → is_some p.due ≡ false → p ≡ on p.at
point_on p h = by p.due refl h where
  by : (o : Option At) → p.due ≡ o → is_some o ≡ false → p ≡ on p.at
  by None is h = ap (λ (o : Option At). record p { due = o }) is
  by (Some at) is h = absurd (false≢true (sym h))

-- what is due behind pieces and then others
pub due_add : (d : Bool) (a b : List Piece) → due_after d (a ++ b) ≡ due_after (due_after d a) b
due_add d [] b = refl
due_add d (x ∷ a) b = due_add (due_behind d x) a b

-- where nothing is due behind pieces before which something was, nothing is if nothing was
closed_clear : (ps : List Piece) → due_after true ps ≡ false → due_after false ps ≡ false
closed_clear [] h = refl
closed_clear (Do by ∷ ps) h = h
closed_clear (Literal v ∷ ps) h = h
closed_clear (Place l ∷ ps) h = h
closed_clear (Branch by l ∷ ps) h = h
closed_clear (Mark l ∷ ps) h = closed_clear ps h
closed_clear (Call by wanted index ∷ ps) h = h
closed_clear (Begin at ∷ ps) h = h

-- nothing is due behind closed pieces, whatever was before
pub closed_any : (d : Bool) (ps : List Piece) → IsClosed ps → due_after d ps ≡ false
closed_any true ps h = h
closed_any false ps h = closed_clear ps h

-- the last pieces close those before
pub closed_last : (a b : List Piece) → IsClosed b → IsClosed (a ++ b)
closed_last a b h = due_add true a b ∙ closed_any (due_after true a) b h

-- ---- one behind the other

-- Where pieces and then others stand, there is a place at which the first end and the others begin, if nothing is due there.
pub split : (g : Ground) (w : Sites) (a b : List Piece) (p : Point) (q : Spot) → due_after (is_some p.due) a ≡ false → Stands g w p (a ++ b) q
    → (r : Spot) × Stands g w p a r × Stands g w (on r) b q
split g w [] b p q h s = (p.at, point_on p h, subst (λ (x : Point). Stands g w x b q) (point_on p h) s)
split g w (Do by ∷ a) b p q h s = let x = split g w a b (on s.0) q h s.2 in (x.0, (s.0, s.1, x.1), x.2)
split g w (Literal v ∷ a) b p q h s = let x = split g w a b (on (next_word p.at)) q h s.2 in (x.0, (s.0, s.1, x.1), x.2)
split g w (Place l ∷ a) b p q h s = let x = split g w a b (on (next_word p.at)) q h s.2 in (x.0, (s.0, s.1, x.1), x.2)
split g w (Branch by l ∷ a) b p q h s = let x = split g w a b (on s.0) q h s.2 in (x.0, (s.0, s.1, x.1), x.2)
split g w (Mark l ∷ a) b p q h s = let x = split g w a b p q h s.2 in (x.0, (s.0, s.1, x.1), x.2)
split g w (Call by wanted index ∷ a) b p q h s =
    let x = split g w a b (on s.0) q h s.4 in (x.0, (s.0, s.1, s.2, s.3, x.1), x.2)
split g w (Begin at ∷ a) b p q h s = let x = split g w a b (record p { due = Some at }) q h s.1 in (x.0, (s.0, x.1), x.2)

-- closed pieces end where the others begin, whatever is due before them
pub split_closed : (g : Ground) (w : Sites) (a b : List Piece) (p : Point) (q : Spot) → IsClosed a → Stands g w p (a ++ b) q
    → (r : Spot) × Stands g w p a r × Stands g w (on r) b q
split_closed g w a b p q h s = split g w a b p q (closed_any (is_some p.due) a h) s

-- from a place at which nothing is due, it need only be that nothing is due behind the first
pub split_on : (g : Ground) (w : Sites) (a b : List Piece) (p q : Spot) → due_after false a ≡ false → Stands g w (on p) (a ++ b) q
    → (r : Spot) × Stands g w (on p) a r × Stands g w (on r) b q
split_on g w a b p q h s = split g w a b (on p) q h s

-- and the other way round
pub stands_join : (g : Ground) (w : Sites) (a b : List Piece) (p : Point) (r q : Spot) → Stands g w p a r → Stands g w (on r) b q
    → Stands g w p (a ++ b) q
stands_join g w [] b p r q s z = subst (λ (x : Point). Stands g w x b q) (sym s) z
stands_join g w (Do by ∷ a) b p r q s z = (s.0, s.1, stands_join g w a b (on s.0) r q s.2 z)
stands_join g w (Literal v ∷ a) b p r q s z = (s.0, s.1, stands_join g w a b (on (next_word p.at)) r q s.2 z)
stands_join g w (Place l ∷ a) b p r q s z = (s.0, s.1, stands_join g w a b (on (next_word p.at)) r q s.2 z)
stands_join g w (Branch by l ∷ a) b p r q s z = (s.0, s.1, stands_join g w a b (on s.0) r q s.2 z)
stands_join g w (Mark l ∷ a) b p r q s z = (s.0, s.1, stands_join g w a b p r q s.2 z)
stands_join g w (Call by wanted index ∷ a) b p r q s z = (s.0, s.1, s.2, s.3, stands_join g w a b (on s.0) r q s.4 z)
stands_join g w (Begin at ∷ a) b p r q s z = (s.0, stands_join g w a b (record p { due = Some at }) r q s.1 z)

-- ---- how far

-- a half is one at most
pub half_few : (right : Bool) → half right ≤ 1
half_few true = omega arith
half_few false = omega arith

-- the next word is not before
next_later : (p : Spot) → pos p ≤ pos (next_word p)
next_later p = let few = half_few p.right in omega (arith, few)

-- pieces end where they begin, or behind
pub stands_le : (g : Ground) (w : Sites) (ps : List Piece) (p : Point) (q : Spot) → Stands g w p ps q → pos p.at ≤ pos q
stands_le g w [] p q s = let same : pos p.at ≡ pos q = ap (λ (x : Point). pos x.at) s in omega (arith, same)
stands_le g w (Do by ∷ ps) p q s = let rest = stands_le g w ps (on s.0) q s.2 in let rise = s.1.rise in omega (arith, rest, rise)
stands_le g w (Literal v ∷ ps) p q s =
    let rest = stands_le g w ps (on (next_word p.at)) q s.2 in let rise = next_later p.at in omega (arith, rest, rise)
stands_le g w (Place l ∷ ps) p q s =
    let rest = stands_le g w ps (on (next_word p.at)) q s.2 in let rise = next_later p.at in omega (arith, rest, rise)
stands_le g w (Branch by l ∷ ps) p q s = let rest = stands_le g w ps (on s.0) q s.2 in let rise = s.1.rise in omega (arith, rest, rise)
stands_le g w (Mark l ∷ ps) p q s = stands_le g w ps p q s.2
stands_le g w (Call by wanted index ∷ ps) p q s =
    let rest = stands_le g w ps (on s.0) q s.4 in let rise = s.1.rise in omega (arith, rest, rise)
stands_le g w (Begin at ∷ ps) p q s = stands_le g w ps (record p { due = Some at }) q s.1
