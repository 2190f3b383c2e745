-- The label in a word of a segment's table, and the word of a label.
use Rattle.std.specs.Prelude.{◌≡◌, ◌&&◌, ◌+◌, ℕ, ◌^◌, ◌<◌, Bool, true, false, nat_lt, if◌then◌else◌}
use Rattle.hp_instr.specs.declared.labels.Label.{Label}
use Rattle.hp_instr.specs.declared.labels.Label.TheVariants.{Local, External, Bad}
use Rattle.hp_instr.specs.Bits.{bits, bit}
use Rattle.hp_instr.specs.Encoded.{up_to, flag}

-- bit 0 one: an external label, with the entry in bits 1 to 7 and the segment in bits 8 to 15; bits 0 and 1 zero: a local
-- label, with the offset in bits 2 to 15; no other word is a label
unfoldable pub label : ℕ → Label
label w =
    if bit 0 w then External (bits 8 15 w) (bits 1 7 w) else
    if bit 1 w then Bad w else
    Local (bits 2 15 w)

-- the word of a label; one that is bad is its own word
unfoldable pub label_bits : Label → ℕ
label_bits (Local offset) = up_to 15 offset
label_bits (External seg entry) = flag 0 true + up_to 7 entry + up_to 15 seg
label_bits (Bad w) = w

-- some word has this label
abbrev pub IsLabel : Label → Type 0
IsLabel l = (w : ℕ) × (w < 2 ^ 16) × (label w ≡ l)

-- whether a label is a bad word
abbrev pub is_bad : Label → Bool
is_bad (Bad w) = true
is_bad l = false

-- whether some word has this label, by its fields: each number has the bits that it needs; a bad one is no label
unfoldable pub is_label : Label → Bool
is_label (Local offset) = nat_lt offset (2 ^ 14)
is_label (External seg entry) = nat_lt seg 256 && nat_lt entry 128
is_label (Bad w) = nat_lt w (2 ^ 16) && is_bad (label w)
