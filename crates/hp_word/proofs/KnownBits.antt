-- Shifts and fields worked by hand. %123456 is 1 010 011 100 101 110 in bits.
use Rattle.std.proofs.Common.{◌≡◌, refl}
use Rattle.hp_word.specs.declared.shifts.Shift.TheVariants.{Asl, Asr, Lsl, Lsr, Csl, Csr}
use Rattle.hp_word.specs.Bits.{bit, number_of, shifted, field, with_field}

-- ASL keeps the sign, also where another bit reaches it
shifted-Asl-one : shifted Asl 0o100001 1 ≡ 0o100002
unfolding shifted bit number_of
shifted-Asl-one = refl

-- the bit beside the sign goes out
shifted-Asl-lost : shifted Asl 0o040001 1 ≡ 0o000002
unfolding shifted bit number_of
shifted-Asl-lost = refl

-- the sign alone is left
shifted-Asl-all : shifted Asl 0o177777 63 ≡ 0o100000
unfolding shifted bit number_of
shifted-Asl-all = refl

-- ASR copies it
shifted-Asr-one : shifted Asr 0o100002 1 ≡ 0o140001
unfolding shifted bit number_of
shifted-Asr-one = refl

-- the sign is everywhere
shifted-Asr-all : shifted Asr 0o100000 16 ≡ 0o177777
unfolding shifted bit number_of
shifted-Asr-all = refl

-- zeros come in
shifted-Lsl-all_but_one : shifted Lsl 0o000003 15 ≡ 0o100000
unfolding shifted bit number_of
shifted-Lsl-all_but_one = refl

-- the first bit is the last
shifted-Lsr-all_but_one : shifted Lsr 0o140000 15 ≡ 0o000001
unfolding shifted bit number_of
shifted-Lsr-all_but_one = refl

-- nothing is left
shifted-Lsr-all : shifted Lsr 0o177777 16 ≡ 0
unfolding shifted bit number_of
shifted-Lsr-all = refl

-- what goes out comes in
shifted-Csl-one : shifted Csl 0o100001 1 ≡ 0o000003
unfolding shifted bit number_of
shifted-Csl-one = refl

-- at the left too
shifted-Csr-one : shifted Csr 0o000001 1 ≡ 0o100000
unfolding shifted bit number_of
shifted-Csr-one = refl

-- sixteen places are none, and seventeen are one
shifted-Csl-word : shifted Csl 0o123456 16 ≡ 0o123456
unfolding shifted bit number_of
shifted-Csl-word = refl

-- seventeen places are one
shifted-Csr-word : shifted Csr 0o000006 17 ≡ 0o000003
unfolding shifted bit number_of
shifted-Csr-word = refl

-- bits 4 to 7 are 0111
field-inside : field 0o123456 4 4 ≡ 7
unfolding field bit number_of
field-inside = refl

-- bit 0 alone, and the whole word
field-first : field 0o123456 0 1 ≡ 1
unfolding field bit number_of
field-first = refl

-- a field of sixteen bits
field-whole : field 0o123456 0 16 ≡ 0o123456
unfolding field bit number_of
field-whole = refl

-- only the last four bits of the new value count
with_field-inside : with_field 0o123456 4 4 0o177761 ≡ 0o120456
unfolding with_field bit number_of
with_field-inside = refl
