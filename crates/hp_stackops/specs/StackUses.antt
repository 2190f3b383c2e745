-- How many words each operation of major 0 takes, from the deepest that it names up to the top, and how many stand in their
-- place afterwards. A word that is named counts as taken also where it stays, and where it is not read.
use Rattle.std.specs.Prelude.{ℕ, ◌==◌, if◌then◌else◌}
use Rattle.hp_rows.specs.Numbers.{Uses, uses}

-- those of the operation with each code
unfoldable pub used_by : ℕ → Uses
used_by code =
    if code == 0o00 then uses 0 0 else  -- NOP
    if code == 0o01 then uses 2 1 else  -- DELB
    if code == 0o02 then uses 2 0 else  -- DDEL
    if code == 0o03 then uses 0 0 else  -- ZROX
    if code == 0o04 then uses 0 0 else  -- INCX
    if code == 0o05 then uses 0 0 else  -- DECX
    if code == 0o06 then uses 0 1 else  -- ZERO
    if code == 0o07 then uses 0 2 else  -- DZRO
    if code == 0o10 then uses 4 0 else  -- DCMP
    if code == 0o11 then uses 4 2 else  -- DADD
    if code == 0o12 then uses 4 2 else  -- DSUB
    if code == 0o15 then uses 2 2 else  -- DNEG
    if code == 0o16 then uses 4 4 else  -- DXCH
    if code == 0o17 then uses 2 0 else  -- CMP
    if code == 0o20 then uses 2 1 else  -- ADD
    if code == 0o21 then uses 2 1 else  -- SUB
    if code == 0o22 then uses 2 1 else  -- MPY
    if code == 0o23 then uses 2 2 else  -- DIV
    if code == 0o24 then uses 1 1 else  -- NEG
    if code == 0o25 then uses 1 1 else  -- TEST
    if code == 0o26 then uses 2 2 else  -- STBX
    if code == 0o27 then uses 2 2 else  -- DTST
    if code == 0o31 then uses 1 1 else  -- BTST
    if code == 0o32 then uses 2 2 else  -- XCH
    if code == 0o33 then uses 1 1 else  -- INCA
    if code == 0o34 then uses 1 1 else  -- DECA
    if code == 0o35 then uses 1 1 else  -- XAX
    if code == 0o36 then uses 1 0 else  -- ADAX
    if code == 0o37 then uses 1 1 else  -- ADXA
    if code == 0o40 then uses 1 0 else  -- DEL
    if code == 0o41 then uses 2 2 else  -- ZROB
    if code == 0o42 then uses 2 2 else  -- LDXB
    if code == 0o43 then uses 1 0 else  -- STAX
    if code == 0o44 then uses 0 1 else  -- LDXA
    if code == 0o45 then uses 1 2 else  -- DUP
    if code == 0o46 then uses 2 4 else  -- DDUP
    if code == 0o56 then uses 3 3 else  -- CAB
    if code == 0o60 then uses 2 0 else  -- LCMP
    if code == 0o61 then uses 2 1 else  -- LADD
    if code == 0o62 then uses 2 1 else  -- LSUB
    if code == 0o63 then uses 2 2 else  -- LMPY
    if code == 0o64 then uses 3 2 else  -- LDIV
    if code == 0o65 then uses 1 1 else  -- NOT
    if code == 0o66 then uses 2 1 else  -- OR
    if code == 0o67 then uses 2 1 else  -- XOR
    if code == 0o70 then uses 2 1 else  -- AND
    if code == 0o74 then uses 2 2 else  -- INCB
    if code == 0o75 then uses 2 2 else  -- DECB
    if code == 0o76 then uses 2 2 else  -- XBX
    uses 0 0
