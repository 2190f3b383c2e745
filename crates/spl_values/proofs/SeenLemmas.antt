-- Which places are seen and which are reached, and what is asked of those that are counted from the top.
use Rattle.std.proofs.Common.{◌≡◌, ℕ, ◌+◌, ◌<◌, ◌≤◌, Bool, true, false, refl}
use Rattle.std.specs.Prelude.{◌&&◌, nat_lt, nat_le}
use Rattle.std.proofs.lemmas.Bool.{ltb-true, leb-true, false≢true}
use Rattle.hp_yields.specs.spl_meaning.Places.{Place, data_word, above_base, below_base, below_return}
use Rattle.hp_yields.specs.spl_meaning.References.{Setting}
use Rattle.spl_values.specs.Reached.{is_reached, is_seen, is_fixed}

-- both of two tests
pub both : (a b : Bool) → (a && b) ≡ true → (a ≡ true) × (b ≡ true)
both true b e = (refl, e)
both false b e = absurd (false≢true e)

-- What is reached is seen; and what is seen and does not move is reached.
pub reached_seen : (st : Setting) (k : ℕ) (place : Place) → is_reached st k place ≡ true → is_seen st k place ≡ true
reached_seen st k (data_word a) e = e
reached_seen st k (above_base n) e = e
reached_seen st k (below_base n) e = e
reached_seen st k (below_return n) e = absurd (false≢true e)

pub seen_reached : (st : Setting) (k : ℕ) (place : Place) → is_seen st k place ≡ true → is_fixed place ≡ true → is_reached st k place ≡ true
seen_reached st k (data_word a) e fixed = e
seen_reached st k (above_base n) e fixed = e
seen_reached st k (below_base n) e fixed = e
seen_reached st k (below_return n) e fixed = absurd (false≢true fixed)

-- what is asked of a distance below the return word, while k words wait
pub record IsBelow (st : Setting) (k n : ℕ) : Type 0 where
  pub inside : st.inside ≡ true
  pub few : n ≤ st.held
  pub near : k + n < 64

pub below_is : (st : Setting) (k n : ℕ) → is_seen st k (below_return n) ≡ true → IsBelow st k n
below_is st k n e =
    let two = both st.inside (nat_le n st.held && nat_lt (k + n) 64) e in
    let rest = both (nat_le n st.held) (nat_lt (k + n) 64) two.1 in
    record { inside = two.0; few = leb-true n st.held rest.0; near = ltb-true (k + n) 64 rest.1 }
