-- A table word read as a label and written again is the same word, and a label written and read again is the same label.
use Rattle.std.proofs.Common.{◌≡◌, ℕ, ◌<◌, ◌^◌, true, nat_lt, IsTrue, ◌↔◌, subst, refl, arith}
use Rattle.std.proofs.lemmas.Bool.{ltb-true, lt-ltb, and_parts, and_from}
use Rattle.std.proofs.lemmas.Bool.Decides.{nat_tests}
use Rattle.hp_instr.specs.declared.labels.Label.{Label}
use Rattle.hp_instr.specs.declared.labels.Label.TheVariants.{Local, External, Bad}
use Rattle.hp_instr.specs.Labels.{label, label_bits, is_label, IsLabel, is_bad}

-- a word read and written again
pub label_bits-label : (w : ℕ) → w < 2 ^ 16 → label_bits (label w) ≡ w
unfolding label label_bits
label_bits-label w h = grind arith

-- a word with bit 0 zero and bit 1 one is no label
is_label-Bad : (w : ℕ) → w < 2 ^ 16 → label w ≡ Bad w → is_label (Bad w) ≡ true
unfolding is_label
is_label-Bad w h e = rw e (and_from _ _ (lt-ltb w (2 ^ 16) h) refl)

-- each word's label has fields such as words have
pub is_label-label : (w : ℕ) → w < 2 ^ 16 → is_label (label w) ≡ true
unfolding label is_label
is_label-label w h = grind (arith, nat_tests)

-- a local label
label-Local : (offset : ℕ) → offset < 2 ^ 14 → label (label_bits (Local offset)) ≡ Local offset
unfolding label label_bits
label-Local offset h = grind arith

-- an external label
label-External : (seg entry : ℕ) → seg < 256 → entry < 128 → label (label_bits (External seg entry)) ≡ External seg entry
unfolding label label_bits
label-External seg entry h k = grind arith

-- a bad label is its own word
bad_word : (l : Label) → is_bad l ≡ true → l ≡ Bad (label_bits l)
unfolding label_bits
bad_word (Bad w) h = refl
bad_word l h = cc

-- a bad label
label-Bad : (w : ℕ) → w < 2 ^ 16 → is_bad (label w) ≡ true → label (label_bits (Bad w)) ≡ Bad w
unfolding label_bits
label-Bad w below h = rw (label_bits-label w below) at (bad_word (label w) h)

-- a label whose fields are such as words have, written and read again
pub label-label_bits : (l : Label) → is_label l ≡ true → label (label_bits l) ≡ l
unfolding is_label
label-label_bits (Local offset) h = label-Local offset (ltb-true offset (2 ^ 14) h)
label-label_bits (External seg entry) h =
    let both = and_parts (nat_lt seg 256) (nat_lt entry 128) h in
    label-External seg entry (ltb-true seg 256 both.0) (ltb-true entry 128 both.1)
label-label_bits (Bad w) h =
    let both = and_parts (nat_lt w (2 ^ 16)) (is_bad (label w)) h in label-Bad w (ltb-true w (2 ^ 16) both.0) both.1

-- the word of a label has sixteen bits
pub label_bits-below : (l : Label) → is_label l ≡ true → label_bits l < 2 ^ 16
unfolding is_label label_bits
label_bits-below (Local offset) h = omega (arith, ltb-true offset (2 ^ 14) h)
label_bits-below (External seg entry) h =
    let both = and_parts (nat_lt seg 256) (nat_lt entry 128) h in
    omega (arith, ltb-true seg 256 both.0, ltb-true entry 128 both.1)
label_bits-below (Bad w) h = ltb-true w (2 ^ 16) (and_parts (nat_lt w (2 ^ 16)) (is_bad (label w)) h).0

-- the fields are such as words have exactly where some word has the label
pub is_label_iff : (l : Label) → IsTrue (is_label l) ↔ IsLabel l
is_label_iff l =
    (λ fit. (label_bits l, label_bits-below l fit, label-label_bits l fit), λ some. subst (λ m. is_label m ≡ true) some.2 (is_label-label some.0 some.1))
