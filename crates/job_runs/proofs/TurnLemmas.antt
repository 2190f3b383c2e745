-- Turns one by one, and that each session goes on in them as if it ran alone.
use Rattle.std.proofs.Common.{◌≡◌, ℕ, zero, suc, ◌+◌, ◌-◌, ◌*◌, ◌<◌, ◌≤◌, List, Option, None, Some, refl, sym, ap, ◌∙◌, arith}
use Rattle.std.proofs.Math.Nat.{mul-suc}
use Rattle.std.specs.Prelude.{is_some, if◌then◌else◌}
use Rattle.mpe_turns.specs.mpe_worlds.Worlds.{World}
use Rattle.mpe_turns.specs.mpe_worlds.Turns.{turned}
use Rattle.mpe_turns.specs.mpe_worlds.Dispatch.{after, next_of, turned_if}
use Rattle.mpe_turns.specs.mpe_worlds.Alone.{EachGoesOn}
use Rattle.mpe_turns.proofs.mpe_worlds_proofs.AloneLaws.{each_stays, each_goes_on_twice, turned_goes_on}

-- no turn is left
pub no_turn : (codes : List (List (List ℕ))) (quantum n : ℕ) (w : World) → n ≡ 0 → after codes quantum n w ≡ w
unfolding after
no_turn codes quantum n w e = rw e refl

-- no session is live
pub no_session : (codes : List (List (List ℕ))) (quantum n : ℕ) (w : World) → next_of w ≡ None → after codes quantum n w ≡ w
unfolding after
no_session codes quantum zero w e = refl
no_session codes quantum (suc n) w e = rw e refl

-- one turn more
turn_suc : (codes : List (List (List ℕ))) (quantum n who : ℕ) (w : World) → next_of w ≡ Some who
    → after codes quantum (suc n) w ≡ after codes quantum n (turned codes who quantum w)
unfolding after
turn_suc codes quantum n who w e = rw e refl

pub turn_more : (codes : List (List (List ℕ))) (quantum n who : ℕ) (w : World) → 0 < n → next_of w ≡ Some who
    → after codes quantum (n - 1) (turned codes who quantum w) ≡ after codes quantum n w
turn_more codes quantum n who w l e =
    let p : n ≡ suc (n - 1) = omega (arith, l) in sym (ap (λ k. after codes quantum k w) p ∙ turn_suc codes quantum (n - 1) who w e)

-- each session goes on in all of them
pub turns_go_on : (codes : List (List (List ℕ))) (quantum turns : ℕ) (w : World) → EachGoesOn codes w (after codes quantum turns w)
unfolding after
turns_go_on codes quantum zero w = each_stays codes w w refl
turns_go_on codes quantum (suc n) w = by (next_of w) (turns_go_on codes quantum n) where
  by : (o : Option ℕ) → ((v : World) → EachGoesOn codes v (after codes quantum n v))
      → EachGoesOn codes w (if is_some o then after codes quantum n (turned_if codes quantum w o) else w)
  by None rest = each_stays codes w w refl
  by (Some who) rest = each_goes_on_twice codes w (turned codes who quantum w) (after codes quantum n (turned codes who quantum w))
      (turned_goes_on codes who quantum w) (rest (turned codes who quantum w))

-- what may still be spent, behind one turn
pub less_to_spend : (spent q n most : ℕ) → 0 < n → spent + q * n ≤ most → spent + q + q * (n - 1) ≤ most
less_to_spend spent q n most l h =
    let e : n ≡ suc (n - 1) = omega (arith, l) in
    let d : q * n ≡ q * (n - 1) + q = ap (λ x. q * x) e ∙ mul-suc q (n - 1) in
    omega (arith, h, d)
