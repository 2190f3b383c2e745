-- The fixes of pieces stand in order at words of their own, and each names a define, a want or an offset.
use Rattle.std.proofs.Common.{◌≡◌, ℕ, ◌+◌, ◌≤◌, true, false, if◌then◌else◌, List, [], ◌∷◌, length, refl, ap, add-zero, arith}
use Rattle.std.specs.List.{list_all}
use Rattle.std.proofs.lemmas.Bool.{and_parts, and_from, lt-ltb, le-leb, eq-eqb}
use Rattle.spl_branch.specs.declared.pieces.Piece.{Piece}
use Rattle.spl_branch.specs.declared.pieces.Piece.TheVariants.{Do, Literal, Place, Branch, Mark, Call, Begin}
use Rattle.spl_branch.specs.declared.modules.Fix.{Fix}
use Rattle.spl_branch.specs.declared.modules.FixKind.TheVariants as kind
use Rattle.spl_branch.specs.declared.spots.Spot.{Spot}
use Rattle.hp_instr.specs.Instructions.{op}
use Rattle.spl_branch.specs.Pieces.{is_indexed}
use Rattle.spl_branch.specs.Stands.{at_left, ahead, operation, after, end_of}
use Rattle.spl_branch.specs.Fixes.{fixes_of}
use Rattle.spl_branch.specs.Kept.{is_sized, rises, has_aim}
use Rattle.spl_branch.specs.Words.{piece_words, words_of}
use Rattle.spl_branch.proofs.StandingLemmas.{Waits, start_of, left_unless, next_waits, next_start, no_wait, length-words_of}

-- pieces end no further back than the word where they begin
start_rises : (ps : List Piece) (marks : ℕ → ℕ) (p : Spot) → Waits p (ahead ps) → start_of p ≤ start_of (end_of marks p ps)
start_rises ps marks p w = omega (arith, length-words_of ps marks p w)

-- what is known of the pieces behind
abbrev Rest : List Piece → (ℕ → ℕ) → ℕ → Type 0
Rest ps marks size = (q : Spot) → Waits q (ahead ps) → (from : ℕ) → from ≤ start_of q → start_of (end_of marks q ps) ≤ size → rises from size (fixes_of marks q ps) ≡ true

-- the fixes of pieces that begin at p stand from there on, each at a word of its own
pub rising : (ps : List Piece) (marks : ℕ → ℕ) (p : Spot) (from size : ℕ) → Waits p (ahead ps) → from ≤ start_of p → start_of (end_of marks p ps) ≤ size → rises from size (fixes_of marks p ps) ≡ true
rising [] marks p from size w low high = refl
rising (x ∷ ps) marks p from size w low high = go x w high (next_waits x marks p (ahead ps) w) (next_start x marks p (ahead ps) w) (λ q next from' low' high'. rising ps marks q from' size next low' high') where
  -- a piece that has a fix has one word
  one : (q : Spot) (f : Fix) → q ≡ at_left (p.offset + 1) → f.offset ≡ p.offset → Waits p (op 0) → Waits q (ahead ps) → start_of (end_of marks q ps) ≤ size → Rest ps marks size → rises from size (f ∷ fixes_of marks q ps) ≡ true
  one q f e at w next high rest =
      let left : p.right ≡ false = left_unless p (op 0) w refl in
      let start : start_of q ≡ p.offset + 1 = omega (arith, ap start_of e) in
      let here : start_of p ≡ p.offset = rw left (add-zero p.offset) in
      let beyond : start_of q ≤ start_of (end_of marks q ps) = start_rises ps marks q next in
      and_from _ _ (and_from _ _ (le-leb from f.offset (omega arith)) (lt-ltb f.offset size (omega arith)))
      (rest q next (f.offset + 1) (omega arith) high)

  -- behind a piece that has none
  none : (q : Spot) → Waits q (ahead ps) → start_of p ≤ start_of q → start_of (end_of marks q ps) ≤ size → Rest ps marks size → rises from size (fixes_of marks q ps) ≡ true
  none q next start high rest = rest q next from (omega arith) high

  go : (x : Piece) → Waits p (operation x) → start_of (end_of marks p (x ∷ ps)) ≤ size → Waits (after marks p x (ahead ps)) (ahead ps) → start_of (after marks p x (ahead ps)) ≡ start_of p + length (piece_words marks p x (ahead ps)) → Rest ps marks size
      → rises from size (fixes_of marks p (x ∷ ps)) ≡ true
  go (Do by) w high next start rest = none (after marks p (Do by) (ahead ps)) next (omega (arith, start)) high rest
  go (Literal v) w high next start rest = none (after marks p (Literal v) (ahead ps)) next (omega (arith, start)) high rest
  go (Place l) w high next start rest = one (after marks p (Place l) (ahead ps)) (record { offset = p.offset; kind = kind.Place; index = marks l }) refl refl w next high rest
  go (Branch by l) w high next start rest = none (after marks p (Branch by l) (ahead ps)) next (omega (arith, start)) high rest
  go (Mark l) w high next start rest = none (after marks p (Mark l) (ahead ps)) next (omega (arith, start)) high rest
  go (Call by wanted index) w high next start rest = one (after marks p (Call by wanted index) (ahead ps)) (record { offset = p.offset; kind = (if wanted then kind.Want else kind.Define); index = index }) refl refl w next high rest
  go (Begin at) w high next start rest = none (after marks p (Begin at) (ahead ps)) next (omega (arith, start)) high rest

-- so do those of a module
pub rises_all : (ps : List Piece) (marks : ℕ → ℕ) → rises 0 (length (words_of marks (at_left 0) ps)) (fixes_of marks (at_left 0) ps) ≡ true
rises_all ps marks = rising ps marks (at_left 0) 0 _ (no_wait (ahead ps)) (omega arith) (omega (arith, length-words_of ps marks (at_left 0) (no_wait (ahead ps))))

-- each fix names what its call names, or its mark's offset
pub aims : (ps : List Piece) (marks : ℕ → ℕ) (p : Spot) (defines wants : ℕ) → ((l : ℕ) → marks l ≤ 16383) → list_all (is_indexed wants defines) ps ≡ true → list_all (has_aim defines wants) (fixes_of marks p ps) ≡ true
aims [] marks p defines wants low h = refl
aims (x ∷ ps) marks p defines wants low h =
    let both = and_parts (is_indexed wants defines x) (list_all (is_indexed wants defines) ps) h in
    go x both.0 (aims ps marks (after marks p x (ahead ps)) defines wants low both.1) where
      go : (x : Piece) → is_indexed wants defines x ≡ true → list_all (has_aim defines wants) (fixes_of marks (after marks p x (ahead ps)) ps) ≡ true → list_all (has_aim defines wants) (fixes_of marks p (x ∷ ps)) ≡ true
      go (Do by) h rest = rest
      go (Literal v) h rest = rest
      go (Place l) h rest = and_from _ _ (le-leb (marks l) 16383 (low l)) rest
      go (Branch by l) h rest = rest
      go (Mark l) h rest = rest
      go (Call by true index) h rest = and_from _ _ h rest
      go (Call by false index) h rest = and_from _ _ h rest
      go (Begin at) h rest = rest

-- words of which there are at most 16,383 are counted
pub small_sized : (size words : ℕ) → size ≡ words → words ≤ 16383 → is_sized size words ≡ true
small_sized size words e h = rw (le-leb size 16383 (omega arith)) (eq-eqb size words e)
