-- Room and zeros, worked by hand.
use Rattle.std.specs.Prelude.{◌≡◌, [], ◌∷◌}
use Rattle.std.proofs.Common.{refl}
use Rattle.spl_code.specs.Instructions.{LDI, LDNI, LSL, ORI}
use Rattle.spl_body_code.specs.Frames.{ROOM, ADDS, granted, zeroed}

-- ---- room

few_words : granted 8 ≡ ROOM 8 ∷ []
few_words = refl

most_by_one : granted 255 ≡ ROOM 255 ∷ []
most_by_one = refl

-- 256 = 1 * 256; 308 = 1 * 256 + 52
by_their_number : granted 256 ≡ LDI 1 ∷ LSL 8 ∷ ORI 0 ∷ ROOM 0 ∷ []
by_their_number = refl

number_308 : granted 308 ≡ LDI 1 ∷ LSL 8 ∷ ORI 52 ∷ ROOM 0 ∷ []
number_308 = refl

-- 32,008 = 125 * 256 + 8
number_32008 : granted 32008 ≡ LDI 125 ∷ LSL 8 ∷ ORI 8 ∷ ROOM 0 ∷ []
number_32008 = refl

-- 65,535 = -1, and no more than that
greatest_word : granted 65535 ≡ LDNI 1 ∷ ROOM 0 ∷ []
greatest_word = refl

more_than_a_word : granted 97535 ≡ LDNI 1 ∷ ROOM 0 ∷ []
more_than_a_word = refl

-- ROOM 0 takes the number from the top
no_words : granted 0 ≡ LDI 0 ∷ ROOM 0 ∷ []
no_words = refl

-- ---- zeros

no_zeros : zeroed 0 ≡ []
no_zeros = refl

two_zeros : zeroed 2 ≡ ADDS 2 ∷ []
two_zeros = refl

zeros_255 : zeroed 255 ≡ ADDS 255 ∷ []
zeros_255 = refl

zeros_256 : zeroed 256 ≡ ADDS 255 ∷ ADDS 1 ∷ []
zeros_256 = refl

-- 300 = 255 + 45
zeros_300 : zeroed 300 ≡ ADDS 255 ∷ ADDS 45 ∷ []
zeros_300 = refl

zeros_510 : zeroed 510 ≡ ADDS 255 ∷ ADDS 255 ∷ []
zeros_510 = refl
