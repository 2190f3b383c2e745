-- Addresses at the edge, worked by hand.
use Rattle.std.proofs.Common.{◌≡◌, [], ◌∷◌, refl}
use Rattle.std.specs.declared.result.Result.TheVariants.{Ok, Err}
use Rattle.hp_window.specs.Window.{read_below}

-- the last word in bounds
read_below-last : read_below (7 ∷ 8 ∷ 9 ∷ []) 1 2 ≡ Ok 8
read_below-last = refl

-- at top itself, though the room has a word there
read_below-top : read_below (7 ∷ 8 ∷ 9 ∷ []) 2 2 ≡ Err (record { address = 2; top = 2 })
read_below-top = refl

-- no address is in bounds of no words
read_below-none : read_below [] 0 0 ≡ Err (record { address = 0; top = 0 })
read_below-none = refl
