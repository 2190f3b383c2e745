-- The rows of major 0: operations on the top words. A is the top word, B and C are those beneath it.
use Rattle.std.specs.Prelude.{ℕ, ◌+◌, ◌-◌, ◌%◌, ◌==◌, ◌&&◌, ◌||◌, nat_le, bit_and, bit_or, bit_xor, [], ◌∷◌, Ok, Err, if◌then◌else◌}
use Rattle.hp_word.specs.declared.arithmetic.Arith.{Arith}
use Rattle.hp_word.specs.declared.arithmetic.Wide.{Wide}
use Rattle.hp_word.specs.declared.arithmetic.Code.{Code}
use Rattle.hp_word.specs.declared.arithmetic.Code.TheVariants.{Greater, Less, Equal}
use Rattle.hp_word.specs.declared.endings.Trap.TheVariants.{Illegal}
use Rattle.hp_word.specs.Words.{added, subtracted, multiplied, negated, divided, logically_added, logically_subtracted, logically_multiplied, logically_divided, double_added, double_subtracted, double_negated, words_compared, logically_compared, doubles_compared, word_code, double_code}
use Rattle.hp_word.specs.Bytes.{double, high_word, low_word}
use Rattle.hp_session.specs.State.{Machine, Outcome, word, taking, without, replaced, instead, pushing, pushing_all, with_x, with_code, wrapped, deleted}
use Rattle.hp_session.specs.Results.{settled, keeping_carry, settled_below, settled_double, keeping_double_carry, logical, coded, quotient, logical_quotient}

-- an operation on B and A
unfoldable pub binary : (ℕ → ℕ → Arith) → Machine → Outcome
binary operation m = taking 2 m (settled 2 (operation (word 1 m) (word 0 m)) m)

-- MPY: the carry stays
unfoldable pub product : Machine → Outcome
product m = taking 2 m (settled 2 (keeping_carry m (multiplied (word 1 m) (word 0 m))) m)

-- NEG: the carry stays
unfoldable pub negative : Machine → Outcome
negative m = taking 1 m (settled 1 (keeping_carry m (negated (word 0 m))) m)

-- INCA, DECA: an operation on A and 1
unfoldable pub stepped : (ℕ → ℕ → Arith) → Machine → Outcome
stepped operation m = taking 1 m (settled 1 (operation (word 0 m) 1) m)

-- INCB, DECB: an operation on B and 1
unfoldable pub stepped_below : (ℕ → ℕ → Arith) → Machine → Outcome
stepped_below operation m = taking 2 m (settled_below (operation (word 1 m) 1) m)

unfoldable pub division : Machine → Outcome
division m = taking 2 m (quotient (divided (word 1 m) (word 0 m)) m)

unfoldable pub logical_division : Machine → Outcome
logical_division m = taking 3 m (logical_quotient (logically_divided (double (word 2 m) (word 1 m)) (word 0 m)) m)

-- LADD, LSUB: a logical operation on B and A
unfoldable pub logical_binary : (ℕ → ℕ → Arith) → Machine → Outcome
logical_binary operation m = taking 2 m (logical (operation (word 1 m) (word 0 m)) m)

-- LMPY: the whole product, its low word on top; the overflow bit stays
unfoldable pub logical_product : Machine → Outcome
logical_product m = taking 2 m (by (logically_multiplied (word 1 m) (word 0 m))) where
  by : Wide → Outcome
  by r = Ok (record (replaced 2 (high_word r.value ∷ low_word r.value ∷ []) m) { regs = record m.regs { carry = r.carry; code = r.code } })

-- the double in the two top words, and that in the two beneath them
abbrev pub upper_double : Machine → ℕ
upper_double m = double (word 1 m) (word 0 m)

abbrev pub lower_double : Machine → ℕ
lower_double m = double (word 3 m) (word 2 m)

-- DADD, DSUB: an operation on the lower double and the upper one
unfoldable pub double_binary : (ℕ → ℕ → Wide) → Machine → Outcome
double_binary operation m = taking 4 m (settled_double 4 (operation (lower_double m) (upper_double m)) m)

-- DNEG: the carry stays
unfoldable pub double_negative : Machine → Outcome
double_negative m = taking 2 m (settled_double 2 (keeping_double_carry m (double_negated (upper_double m))) m)

-- OR, XOR, AND: the bits of B and A
unfoldable pub bitwise : (ℕ → ℕ → ℕ) → Machine → Outcome
bitwise operation m = taking 2 m (Ok (coded 2 (operation (word 1 m) (word 0 m)) m))

-- NOT: each bit of A inverted
unfoldable pub inverted : Machine → Outcome
inverted m = taking 1 m (Ok (coded 1 (65535 - word 0 m) m))

-- CMP, LCMP: B against A; both are deleted
unfoldable pub comparison : (ℕ → ℕ → Code) → Machine → Outcome
comparison against m = taking 2 m (Ok (with_code (against (word 1 m) (word 0 m)) (without 2 m)))

-- DCMP: the lower double against the upper one; both are deleted
unfoldable pub double_comparison : Machine → Outcome
double_comparison m = taking 4 m (Ok (with_code (doubles_compared (lower_double m) (upper_double m)) (without 4 m)))

-- TEST and DTST: the code of a word and of a double that stay
unfoldable pub tested : Machine → Outcome
tested m = taking 1 m (Ok (with_code (word_code (word 0 m)) m))

unfoldable pub double_tested : Machine → Outcome
double_tested m = taking 2 m (Ok (with_code (double_code (upper_double m)) m))

-- the code of a byte as a character: a letter CCE, a digit CCG, any other CCL
unfoldable pub character_code : ℕ → Code
character_code byte =
    if nat_le 65 byte && nat_le byte 90 || nat_le 97 byte && nat_le byte 122 then Equal else
    if nat_le 48 byte && nat_le byte 57 then Greater else Less

-- BTST: the code of A's right byte; A stays
unfoldable pub byte_tested : Machine → Outcome
byte_tested m = taking 1 m (Ok (with_code (character_code (word 0 m % 256)) m))

-- STBX: X becomes B. STAX: X becomes A, which is deleted. ADAX: X becomes X plus A, which is deleted
unfoldable pub x_from_below : Machine → Outcome
x_from_below m = taking 2 m (Ok (with_x (word 1 m) m))

unfoldable pub x_from_top : Machine → Outcome
x_from_top m = taking 1 m (Ok (with_x (word 0 m) (without 1 m)))

unfoldable pub x_plus_top : Machine → Outcome
x_plus_top m = taking 1 m (Ok (with_x (wrapped (m.regs.x + word 0 m)) (without 1 m)))

-- ADXA: A becomes A plus X
unfoldable pub top_plus_x : Machine → Outcome
top_plus_x m = taking 1 m (Ok (instead 1 (wrapped (word 0 m + m.regs.x)) m))

-- XAX, XBX: X exchanged with A, with B
unfoldable pub x_and_top : Machine → Outcome
x_and_top m = taking 1 m (Ok (with_x (word 0 m) (instead 1 m.regs.x m)))

unfoldable pub x_and_below : Machine → Outcome
x_and_below m = taking 2 m (Ok (with_x (word 1 m) (replaced 2 (m.regs.x ∷ word 0 m ∷ []) m)))

-- ZROB, LDXB: B becomes a word
unfoldable pub below_becomes : ℕ → Machine → Outcome
below_becomes w m = taking 2 m (Ok (replaced 2 (w ∷ word 0 m ∷ []) m))

-- XCH, DXCH, CAB: top words in another order
unfoldable pub exchanged : Machine → Outcome
exchanged m = taking 2 m (Ok (replaced 2 (word 0 m ∷ word 1 m ∷ []) m))

unfoldable pub doubles_exchanged : Machine → Outcome
doubles_exchanged m = taking 4 m (Ok (replaced 4 (word 1 m ∷ word 0 m ∷ word 3 m ∷ word 2 m ∷ []) m))

unfoldable pub rotated : Machine → Outcome
rotated m = taking 3 m (Ok (replaced 3 (word 1 m ∷ word 0 m ∷ word 2 m ∷ []) m))

unfoldable pub below_deleted : Machine → Outcome
below_deleted m = taking 2 m (Ok (instead 2 (word 0 m) m))

-- DUP, DDUP: words copied
unfoldable pub copied : Machine → Outcome
copied m = taking 1 m (pushing (word 0 m) m)

unfoldable pub double_copied : Machine → Outcome
double_copied m = taking 2 m (pushing_all (word 1 m ∷ word 0 m ∷ []) m)

-- the operation with each code
unfoldable pub operated : ℕ → Machine → Outcome
operated code m =
    if code == 0o00 then Ok m else  -- NOP
    if code == 0o01 then below_deleted m else  -- DELB
    if code == 0o02 then deleted 2 m else  -- DDEL
    if code == 0o03 then Ok (with_x 0 m) else  -- ZROX
    if code == 0o04 then Ok (with_x (wrapped (m.regs.x + 1)) m) else  -- INCX
    if code == 0o05 then Ok (with_x (wrapped (m.regs.x + 65535)) m) else  -- DECX
    if code == 0o06 then pushing 0 m else  -- ZERO
    if code == 0o07 then pushing_all (0 ∷ 0 ∷ []) m else  -- DZRO
    if code == 0o10 then double_comparison m else  -- DCMP
    if code == 0o11 then double_binary double_added m else  -- DADD
    if code == 0o12 then double_binary double_subtracted m else  -- DSUB
    if code == 0o15 then double_negative m else  -- DNEG
    if code == 0o16 then doubles_exchanged m else  -- DXCH
    if code == 0o17 then comparison words_compared m else  -- CMP
    if code == 0o20 then binary added m else  -- ADD
    if code == 0o21 then binary subtracted m else  -- SUB
    if code == 0o22 then product m else  -- MPY
    if code == 0o23 then division m else  -- DIV
    if code == 0o24 then negative m else  -- NEG
    if code == 0o25 then tested m else  -- TEST
    if code == 0o26 then x_from_below m else  -- STBX
    if code == 0o27 then double_tested m else  -- DTST
    if code == 0o31 then byte_tested m else  -- BTST
    if code == 0o32 then exchanged m else  -- XCH
    if code == 0o33 then stepped added m else  -- INCA
    if code == 0o34 then stepped subtracted m else  -- DECA
    if code == 0o35 then x_and_top m else  -- XAX
    if code == 0o36 then x_plus_top m else  -- ADAX
    if code == 0o37 then top_plus_x m else  -- ADXA
    if code == 0o40 then deleted 1 m else  -- DEL
    if code == 0o41 then below_becomes 0 m else  -- ZROB
    if code == 0o42 then below_becomes m.regs.x m else  -- LDXB
    if code == 0o43 then x_from_top m else  -- STAX
    if code == 0o44 then pushing m.regs.x m else  -- LDXA
    if code == 0o45 then copied m else  -- DUP
    if code == 0o46 then double_copied m else  -- DDUP
    if code == 0o56 then rotated m else  -- CAB
    if code == 0o60 then comparison logically_compared m else  -- LCMP
    if code == 0o61 then logical_binary logically_added m else  -- LADD
    if code == 0o62 then logical_binary logically_subtracted m else  -- LSUB
    if code == 0o63 then logical_product m else  -- LMPY
    if code == 0o64 then logical_division m else  -- LDIV
    if code == 0o65 then inverted m else  -- NOT
    if code == 0o66 then bitwise bit_or m else  -- OR
    if code == 0o67 then bitwise bit_xor m else  -- XOR
    if code == 0o70 then bitwise bit_and m else  -- AND
    if code == 0o74 then stepped_below added m else  -- INCB
    if code == 0o75 then stepped_below subtracted m else  -- DECB
    if code == 0o76 then x_and_below m else  -- XBX
    Err Illegal
