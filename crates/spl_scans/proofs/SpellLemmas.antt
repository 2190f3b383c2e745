-- A string in the code: where its words stand, its elements are what a move reads there.
use Rattle.std.proofs.Common.{◌≡◌, ℕ, suc, ◌+◌, ◌*◌, ◌/◌, ◌%◌, ◌≤◌, Bool, true, false, List, [], ◌∷◌, map, length, refl, sym, ap, subst, ◌∙◌, arith}
use Rattle.std.specs.Prelude.{Some, Ok, Result}
use Rattle.std.proofs.lemmas.Bool.{false≢true}
use Rattle.spl_moves.specs.hp_word.Bytes.{byte_at}
use Rattle.spl_moves.specs.hp_word.declared.endings.Trap.{Trap}
use Rattle.spl_moves.specs.hp_program.Programs.{code_word}
use Rattle.spl_moves.specs.hp_session.State.{Machine, then_with}
use Rattle.spl_moves.specs.hp_memory_rows.MemoryRows.{present, code_read}
use Rattle.spl_moves.specs.hp_memory_rows.MoveRows.{source_word, source_byte}
use Rattle.spl_moves.specs.spl_tree.declared.expressions.Kind.{Kind}
use Rattle.spl_moves.specs.spl_tree.declared.expressions.Kind.TheVariants as kind
use Rattle.spl_moves.specs.spl_branch.declared.pieces.Piece.{Piece}
use Rattle.spl_moves.specs.spl_branch.declared.pieces.Piece.TheVariants.{Do, Literal, Place, Branch, Mark, Call, Begin}
use Rattle.spl_moves.specs.spl_meaning.Elements.{as_words, text_elements}
use Rattle.spl_moves.specs.spl_meaning.Kinds.{is_byte}
use Rattle.spl_moves.specs.spl_statement_code.Effects.{text_count}
use Rattle.spl_moves.specs.spl_frames.Words.{AreWords}
use Rattle.spl_moves.specs.spl_follow.Spots.{Spot, Point, on, Ground}
use Rattle.spl_moves.specs.spl_follow.Standing.{Sites, Stands, due_after}
use Rattle.spl_scans.specs.Laws.{AreBytes}
use Rattle.spl_moves.proofs.UnitLemmas.{source}
use Rattle.spl_moves.proofs.MoveLemmas.{Spelled}

-- ---- elements

-- a string as bytes or as words
abbrev pub text_units : Bool → List ℕ → List ℕ
text_units true text = text
text_units false text = as_words text

pub units_of_kind : (bytes : Bool) (t : Kind) (text : List ℕ) → is_byte (Some t) ≡ bytes → text_elements t text ≡ text_units bytes text
units_of_kind true kind.Byte text same = refl
units_of_kind true kind.Integer text same = absurd (false≢true same)
units_of_kind true kind.Logical text same = absurd (false≢true same)
units_of_kind true kind.Double text same = absurd (false≢true same)
units_of_kind false kind.Byte text same = absurd (false≢true (sym same))
units_of_kind false kind.Integer text same = refl
units_of_kind false kind.Logical text same = refl
units_of_kind false kind.Double text same = refl

pub units_counted : (bytes : Bool) (text : List ℕ) → text_count bytes text ≡ length (text_units bytes text)
units_counted true text = refl
units_counted false text = refl

-- two bytes to a word
few_bytes : (text : List ℕ) → length text ≤ 2 * length (as_words text)
few_bytes [] = omega arith
few_bytes (a ∷ []) = omega arith
few_bytes (a ∷ b ∷ bs) = let few = few_bytes bs in omega (arith, few)

pub few_units : (bytes : Bool) (text : List ℕ) → length (text_units bytes text) ≤ 2 * length (as_words text)
few_units true text = few_bytes text
few_units false text = omega arith

words_small : (text : List ℕ) → AreWords (as_words text)
words_small [] = tt
words_small (a ∷ []) = (omega arith, tt)
words_small (a ∷ b ∷ bs) = (omega arith, words_small bs)

-- ---- in the code

module _ (g : Ground) where
  -- words stand in the code of a segment from an offset on
  abbrev pub WordsIn : ℕ → ℕ → List ℕ → Type 0
  WordsIn seg o [] = Unit {0}
  WordsIn seg o (v ∷ vs) = (code_word g.segments seg o ≡ Some v) × WordsIn seg (o + 1) vs

  words_spelled : (vs : List ℕ) (seg o : ℕ) → WordsIn seg o vs → AreWords vs → Spelled g false seg o vs
  unfolding source_word code_read
  words_spelled [] seg o h small = tt
  words_spelled (v ∷ vs) seg o h small =
      let low = g.short seg o v h.0 in
      let next : o + 1 ≡ (o + 1) % 65536 = omega (arith, low) in (
        λ n same. ap present (ap (λ (a : ℕ). code_word g.segments a o) same ∙ h.0),
        small.0,
        subst (λ (b : ℕ). Spelled g false seg b vs) next (words_spelled vs seg (o + 1) h.1 small.1),
      )

  -- a byte of a word
  byte_spelled : (seg o v c b : ℕ) → code_word g.segments seg o ≡ Some v → c / 2 ≡ o → byte_at c v ≡ b
      → (n : Machine) → n.regs.seg ≡ seg → source true g.segments true c n ≡ Ok b
  unfolding source_byte code_read
  byte_spelled seg o v c b there half is n same =
      ap (λ (x : Result ℕ Trap). then_with x (λ u. let y : Result ℕ Trap = Ok (byte_at c u) in y))
      (ap present (ap (λ (i : ℕ). code_word g.segments n.regs.seg i) half ∙ ap (λ (a : ℕ). code_word g.segments a o) same ∙ there))
      ∙ ap (λ (x : ℕ). let y : Result ℕ Trap = Ok x in y) is

  byte_even : (c v : ℕ) → c % 2 ≡ 0 → byte_at c v ≡ v / 256
  unfolding byte_at
  byte_even c v even = rw even refl

  byte_odd : (c v : ℕ) → c % 2 ≡ 1 → byte_at c v ≡ v % 256
  unfolding byte_at
  byte_odd c v odd = rw odd refl

  bytes_spelled : (bs : List ℕ) (seg o : ℕ) → WordsIn seg o (as_words bs) → AreBytes bs → Spelled g true seg (2 * o) bs
  bytes_spelled [] seg o h small = tt
  bytes_spelled (a ∷ []) seg o h small =
      let one = small.0 in
      let half : 2 * o / 2 ≡ o = omega arith in
      let even : 2 * o % 2 ≡ 0 = omega arith in
      let left : (256 * a + 32) % 65536 / 256 ≡ a = omega (arith, one) in
      (byte_spelled seg o ((256 * a + 32) % 65536) (2 * o) a h.0 half (byte_even (2 * o) ((256 * a + 32) % 65536) even ∙ left), one, tt)
  bytes_spelled (a ∷ b ∷ bs) seg o h small =
      let one = small.0 in
      let two = small.1.0 in
      let v = (256 * a + b) % 65536 in
      let low = g.short seg o v h.0 in
      let c = (2 * o + 1) % 65536 in
      let half : 2 * o / 2 ≡ o = omega arith in
      let even : 2 * o % 2 ≡ 0 = omega arith in
      let left : (256 * a + b) % 65536 / 256 ≡ a = omega (arith, one, two) in
      let next_half : (2 * o + 1) % 65536 / 2 ≡ o = omega (arith, low) in
      let odd : (2 * o + 1) % 65536 % 2 ≡ 1 = omega arith in
      let right : (256 * a + b) % 65536 % 256 ≡ b = omega (arith, one, two) in
      let next : 2 * (o + 1) ≡ ((2 * o + 1) % 65536 + 1) % 65536 = omega (arith, low) in (
        byte_spelled seg o v (2 * o) a h.0 half (byte_even (2 * o) v even ∙ left),
        one,
        (
          byte_spelled seg o v c b h.0 next_half (byte_odd c v odd ∙ right),
          two,
          subst (λ (i : ℕ). Spelled g true seg i bs) next (bytes_spelled bs seg (o + 1) h.1 small.1.1),
        ),
      )

  -- where a move finds its elements: words by their offset, and bytes by twice that
  abbrev pub unit_offset : Bool → ℕ → ℕ
  unit_offset true o = 2 * o
  unit_offset false o = o

  pub text_spelled : (bytes : Bool) (text : List ℕ) (seg o : ℕ) → WordsIn seg o (as_words text) → AreBytes text
      → Spelled g bytes seg (unit_offset bytes o) (text_units bytes text)
  text_spelled true text seg o h small = bytes_spelled text seg o h small
  text_spelled false text seg o h small = words_spelled (as_words text) seg o h (words_small text)

  -- ---- where pieces stand

  module _ (w : Sites) where
    -- pieces stand in one segment
    pub stands_inside : (ps : List Piece) (p : Point) (q : Spot) → Stands g w p ps q → q.seg ≡ p.at.seg
    stands_inside [] p q stands = ap (λ (x : Point). x.at.seg) (sym stands)
    stands_inside (Do by ∷ ps) p q stands = stands_inside ps (on stands.0) q stands.2 ∙ stands.1.inside
    stands_inside (Literal v ∷ ps) p q stands = stands_inside ps (on (record { seg = p.at.seg; offset = p.at.offset + 1; right = false })) q stands.2
    stands_inside (Place l ∷ ps) p q stands = stands_inside ps (on (record { seg = p.at.seg; offset = p.at.offset + 1; right = false })) q stands.2
    stands_inside (Branch by l ∷ ps) p q stands = stands_inside ps (on stands.0) q stands.2 ∙ stands.1.inside
    stands_inside (Mark l ∷ ps) p q stands = stands_inside ps p q stands.2
    stands_inside (Call by wanted index ∷ ps) p q stands = stands_inside ps (on stands.0) q stands.4 ∙ stands.1.inside
    stands_inside (Begin at ∷ ps) p q stands = stands_inside ps (record p { due = Some at }) q stands.1

    -- literals are words in the code
    pub literals_stand : (vs : List ℕ) (p q : Spot) → Stands g w (on p) (map Literal vs) q
        → (q.seg ≡ p.seg) × (q.offset ≡ p.offset + length vs) × WordsIn p.seg p.offset vs
    literals_stand [] p q stands =
        let none : p.offset ≡ p.offset + 0 = omega arith in
        (ap (λ (x : Point). x.at.seg) (sym stands), ap (λ (x : Point). x.at.offset) (sym stands) ∙ none, tt)
    literals_stand (v ∷ vs) p q stands =
        let f = literals_stand vs (record { seg = p.seg; offset = p.offset + 1; right = false }) q stands.2 in
        let end : p.offset + 1 + length vs ≡ p.offset + suc (length vs) = omega arith in
        (f.0, f.1 ∙ end, (stands.0, f.2))

    -- nothing is due behind them
    pub literals_clear : (vs : List ℕ) → due_after false (map Literal vs) ≡ false
    literals_clear [] = refl
    literals_clear (v ∷ vs) = literals_clear vs
