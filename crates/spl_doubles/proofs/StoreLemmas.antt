-- A DOUBLE that is stored in a variable: STD puts both of its words.
use Rattle.std.proofs.Common.{◌≡◌, ℕ, zero, suc, ◌+◌, ◌-◌, ◌%◌, ◌<◌, ◌≤◌, Bool, true, false, List, [], ◌∷◌, ◌++◌, length, take, refl, sym, ap, subst, ◌∙◌, arith}
use Rattle.std.specs.Prelude.{Option, Some, nat_eq, Ok, if◌then◌else◌, slice_index, slice_set}
use Rattle.std.proofs.lemmas.List.{append-nil, length-set, get_or-set_same, get_or-set_other}
use Rattle.std.proofs.lemmas.Option.{none-some}
use Rattle.std.proofs.Math.Logic.{⊎_elim}
use Rattle.spl_operators.specs.hp_word.declared.arithmetic.Code.{Code}
use Rattle.spl_operators.specs.hp_word.declared.endings.Trap.TheVariants.{Bounds}
use Rattle.spl_operators.specs.hp_instr.declared.instruction.Instr.TheVariants as instr
use Rattle.spl_operators.specs.hp_instr.declared.instruction.Mode.{Mode}
use Rattle.spl_operators.specs.hp_session.State.{Machine, Outcome as Row, word, without}
use Rattle.spl_operators.specs.hp_session.Places.{address, moved}
use Rattle.spl_operators.specs.hp_memory_rows.MemoryRows.{memory_row}
use Rattle.spl_operators.specs.hp_flat.Step.{at_left}
use Rattle.spl_operators.specs.hp_yields.Rows.{held, with_held}
use Rattle.spl_operators.proofs.hp_yields_proofs.MemoryYields as rows
use Rattle.spl_operators.specs.spl_tree.declared.expressions.Kind.TheVariants as kind
use Rattle.spl_operators.specs.spl_frames.Words.{AreWords}
use Rattle.spl_operators.specs.spl_meaning.Places.{Place, put}
use Rattle.spl_operators.specs.spl_meaning.References.{Setting, address_of, word_at, placed_word, variable_located, store_by, store}
use Rattle.spl_operators.specs.spl_meaning.States.{Data, State, Outcome, done, then_go, stopping}
use Rattle.spl_operators.specs.spl_code.Operands.{mode_of}
use Rattle.spl_operators.specs.spl_code.Parts.{pieces, piece, nothing, ◌⨟◌}
use Rattle.spl_operators.specs.spl_code.Stores.{own_stored}
use Rattle.spl_operators.specs.spl_branch.declared.pieces.Piece.TheVariants.{Do, Begin}
use Rattle.spl_operators.specs.spl_follow.Spots.{Spot, spot, pos, on, landed, Ground}
use Rattle.spl_operators.specs.spl_follow.Leading.{Leads}
use Rattle.spl_operators.specs.spl_follow.Matching.{Outer, outer, Matches, Matched, Kept, Coded, IsValue}
use Rattle.spl_operators.specs.spl_follow.Following.{Rate, tally, Follows, NoExit}
use Rattle.spl_operators.specs.spl_follow.Doing.{doing}
use Rattle.spl_operators.specs.spl_follow.Yielding.{Becomes}
use Rattle.spl_operators.specs.spl_follow.Parts.{Completes}
use Rattle.spl_operators.specs.spl_follow.Simulating.{Performs}
use Rattle.spl_operators.proofs.spl_follow_proofs.KeepLemmas.{kept_top, value_word}
use Rattle.spl_operators.proofs.spl_follow_proofs.RowLemmas.{stray_here, row_trap, becomes_goes, becomes_matches, yields_matched, yields_kept, put_cases, put_none}
use Rattle.spl_operators.specs.spl_values.Reached.{is_reached}
use Rattle.spl_operators.proofs.spl_values_proofs.GiveLemmas.{last_leads}
use Rattle.spl_variables.specs.spl_operands.Operands.{Finds, Seen}
use Rattle.spl_variables.proofs.spl_operands_proofs.SeeLemmas.{see}
use Rattle.spl_variables.proofs.spl_operands_proofs.OperandLemmas.{place_based, moved_address, moved_side}
use Rattle.spl_variables.proofs.spl_operands_proofs.LoadLemmas.{seen_read, past_read}
use Rattle.spl_variables.proofs.spl_operands_proofs.AssignLemmas.{value_stored}
use Rattle.spl_variables.proofs.OwnLemmas.{place_low, own_finds, not_from_top}
use Rattle.spl_doubles.specs.Laws.{DoubleVariablesAssigned}

-- ---- a word that is put

-- a data word is one still
put_there : (mem : ℕ → Option ℕ) (a v b old : ℕ) → mem b ≡ Some old → (x : ℕ) × (put a v mem b ≡ Some x)
put_there mem a v b old e = by (nat_eq a b) where
  by : (t : Bool) → (x : ℕ) × ((if t then Some v else mem b) ≡ Some x)
  by true = (v, refl)
  by false = (old, e)

-- so what matches does with it
put_matched : (st : Setting) (d : Data) (xs : List ℕ) (u : Outer) (k a v old : ℕ) → Matches st d xs u k → d.mem a ≡ Some old → v < 65536
    → Matches st (record d { mem = put a v d.mem }) (slice_set xs a v) u k
put_matched st d xs u k a v old x there small =
    let below = x.low a old there in
    let words = x.words in
    record {
      words = length-set xs a v ∙ x.words;
      lies = x.lies;
      low = λ b z e. ⊎_elim (λ i. subst (λ (i : ℕ). i < d.top) (sym i.0) below) (λ i. x.low b z i.1) (put_cases d.mem a v b z e);
      holds = λ b z e. ⊎_elim
          (λ i. ap (λ (c : ℕ). slice_index (slice_set xs a v) c) i.0 ∙ get_or-set_same xs a v 0 (omega (arith, words, below)) ∙ sym i.1)
          (λ i. get_or-set_other xs a b v 0 i.0 ∙ x.holds b z i.1) (put_cases d.mem a v b z e);
      of_words = record {
        stack = λ b z e. ⊎_elim (λ i. subst (λ (i : ℕ). i < 65536) (sym i.1) small) (λ i. x.of_words.stack b z i.1) (put_cases d.mem a v b z e);
        extra = x.of_words.extra;
        lines = x.of_words.lines;
      };
      outer = x.outer;
    }

-- and what is kept is
put_kept : (b : ℕ) (d : Data) (xs : List ℕ) (e : Data) (ys : List ℕ) (a v old : ℕ) → Kept b d xs e ys → e.mem a ≡ Some old
    → Kept b d xs (record e { mem = put a v e.mem }) (slice_set ys a v)
put_kept b d xs e ys a v old k there = record {
  footing = k.footing;
  none = λ c h. put_none e.mem a v old c there (k.none c h);
  word = λ c low h. get_or-set_other ys a c v 0 (λ same. none-some old (sym (k.none c h) ∙ ap e.mem same ∙ there)) ∙ k.word c low h;
}

-- ---- STD

-- STD stands at p, with the words h and l on top of k that wait, in a part that began with d0 and m0.
pub record StoringDouble (st : Setting) (p : Spot) (k : ℕ) (d0 : Data) (m0 : Machine) (h l : ℕ) (s : State) (m : Machine) : Type 0 where
  pub at : spot m ≡ p
  pub matches : Matched st s.now m (k + 2)
  pub high : word 1 m ≡ h
  pub low : word 0 m ≡ l
  pub high_small : h < 65536
  pub low_small : l < 65536
  pub kept : Kept (d0.top + k) d0 m0.stack s.now m.stack
  pub coded : Coded s.code m.regs.code
  pub room : s.now.top + (k + 2) ≤ s.now.stack

-- behind a value it may stand
pub value_storing : (st : Setting) (p : Spot) (k h l : ℕ) (d0 : Data) (m0 : Machine) (s : State) (m : Machine) → IsValue st p 2 k d0 m0 (h ∷ l ∷ []) s m
    → s.now.top + (k + 2) ≤ s.now.stack → StoringDouble st p k d0 m0 h l s m
value_storing st p k h l d0 m0 s m x room = record {
  at = x.at;
  matches = x.matches;
  high = value_word st p 2 k 1 0 d0 m0 (h ∷ l ∷ []) s m x refl;
  low = value_word st p 2 k 0 1 d0 m0 (h ∷ l ∷ []) s m x refl;
  high_small = x.small.0;
  low_small = x.small.1.0;
  kept = x.kept;
  coded = subst (λ (c : Option Code). Coded c m.regs.code) (sym x.silent) tt;
  room = room;
}

-- the row of STD where both words are there
put_row : (mode : Mode) (i x far : Bool) (a h l : ℕ) (m : Machine) → 2 ≤ length m.stack → word 1 m ≡ h → word 0 m ≡ l
    → Finds kind.Double mode i x far a (at_left m) → a < length (held far (at_left m)) → (a + 1) % 65536 < length (held far (at_left m))
    → memory_row 14 true mode i x (at_left m)
    ≡ Ok (without 2 (with_held far (slice_set (slice_set (held far (at_left m)) a h) ((a + 1) % 65536) l) (at_left m)))
put_row mode i x far a h l m enough high low f first second =
    let c = (a + 1) % 65536 in
    let n = at_left m in
    let at : address (moved 1 f.place) ≡ c = moved_address 1 f.place ∙ ap (λ (b : ℕ). (b + 1) % 65536) f.at in
    let same : slice_set (slice_set (held far n) (address f.place) (word 1 m)) (address (moved 1 f.place)) (word 0 m) ≡ slice_set (slice_set (held far n) a h) c l =
    ap (λ (b : ℕ). slice_set (slice_set (held far n) b (word 1 m)) (address (moved 1 f.place)) (word 0 m)) f.at
    ∙ ap (λ (b : ℕ). slice_set (slice_set (held far n) a (word 1 m)) b (word 0 m)) at
    ∙ ap (λ (b : ℕ). slice_set (slice_set (held far n) a b) c (word 0 m)) high
    ∙ ap (λ (b : ℕ). slice_set (slice_set (held far n) a h) c b) low in
    rows.double_puts mode i x far f.place n enough f.is f.side (moved_side 1 f.place far n f.side)
    (subst (λ (b : ℕ). b < length (held far n)) (sym f.at) first) (subst (λ (b : ℕ). b < length (held far n)) (sym at) second)
    ∙ ap (λ (zs : List ℕ). let left : Row = Ok (without 2 (with_held far zs n)) in left) same

-- two words less are on top
less_matched : (st : Setting) (d : Data) (m : Machine) (k : ℕ) → Matched st d m (k + 2) → Matches st d (take (length m.stack - 2) m.stack) (outer m) k
less_matched st d m k x =
    let none : k + 0 ≡ k = omega arith in
    subst (λ (xs : List ℕ). Matches st d xs (outer m) k) (append-nil (take (length m.stack - 2) m.stack))
    (subst (λ (j : ℕ). Matches st d (take (length m.stack - 2) m.stack ++ []) (outer m) j) none (yields_matched st d m k 2 [] x))

less_kept : (b : ℕ) (d : Data) (xs : List ℕ) (e : Data) (ys : List ℕ) → Kept b d xs e ys → length ys ≡ b + 2
    → Kept b d xs e (take (length ys - 2) ys)
less_kept b d xs e ys k long =
    subst (λ (zs : List ℕ). Kept b d xs e zs) (append-nil (take (length ys - 2) ys)) (yields_kept b d xs e ys [] 2 k long)

-- a list of words with another word in it
words_set : (xs : List ℕ) (a v : ℕ) → AreWords xs → v < 65536 → AreWords (slice_set xs a v)
words_set [] a v h l = tt
words_set (x ∷ xs) zero v h l = (l, h.1)
words_set (x ∷ xs) (suc a) v h l = (h.0, words_set xs a v h.1 l)

-- both words are put, on the stack or in the extra segment, and deleted
words_put : (g : Ground) (w : Rate) (p q : Spot) (st : Setting) (mode : Mode) (i x far : Bool) (a k h l v u : ℕ) (d0 : Data) (m0 : Machine) (s : State) (m : Machine)
    → Leads g (on p) q (doing g.segments (instr.Memory 14 true x i mode) q) → StoringDouble st p k d0 m0 h l s m
    → Finds kind.Double mode i x far a (at_left m) → Seen far a v s (at_left m) → Seen far ((a + 1) % 65536) u s (at_left m)
    → Follows g w (pos q - pos p) 0 w.reach (tally s) m (Completes st q k d0 m0) NoExit
    (done tt (placed_word far ((a + 1) % 65536) l (placed_word far a h s)))
words_put g w p q st mode i x false a k h l v u d0 m0 s m leads y f seen next =
    let c = (a + 1) % 65536 in
    let words = y.matches.words in
    let enough : 2 ≤ length m.stack = omega (arith, words) in
    let ys : List ℕ = slice_set (slice_set m.stack a h) c l in
    let row : Becomes (take (length ys - 2) ys) (outer m) (memory_row 14 true mode i x (at_left m)) = record {
      left = without 2 (with_held false ys (at_left m));
      is = put_row mode i x false a h l m enough y.high y.low f seen.there next.there;
      words = refl;
      same = refl;
    } in
    let d1 : Data = record s.now { mem = put a h s.now.mem } in
    let t : State = placed_word false c l (placed_word false a h s) in
    let there = put_there s.now.mem a h c u (next.known refl) in
    let first = put_matched st s.now m.stack (outer m) (k + 2) a h v y.matches (seen.known refl) y.high_small in
    let second : Matches st t.now ys (outer m) (k + 2) =
    put_matched st d1 (slice_set m.stack a h) (outer m) (k + 2) c l there.0 first there.1 y.low_small in
    let top = kept_top (d0.top + k) d0 m0.stack s.now m.stack y.kept in
    let count = second.words in
    let kept = put_kept (d0.top + k) d0 m0.stack d1 (slice_set m.stack a h) c l there.0
    (put_kept (d0.top + k) d0 m0.stack s.now m.stack a h v y.kept (seen.known refl)) there.1 in (
      landed q row.left,
      becomes_goes g w (on p) q (doing g.segments (instr.Memory 14 true x i mode) q) st s.begun s m (k + 2) (memory_row 14 true mode i x (at_left m))
          (take (length ys - 2) ys) (outer m) row leads refl y.at refl y.matches refl,
      record {
        at = refl;
        matches = becomes_matches st t.now k (memory_row 14 true mode i x (at_left m)) (take (length ys - 2) ys) (outer m) row
            (less_matched st t.now (record m { stack = ys }) k second);
        kept = less_kept (d0.top + k) d0 m0.stack t.now ys kept (omega (arith, count, top));
        coded = y.coded;
      },
    )
words_put g w p q st mode i x true a k h l v u d0 m0 s m leads y f seen next =
    let c = (a + 1) % 65536 in
    let words = y.matches.words in
    let enough : 2 ≤ length m.stack = omega (arith, words) in
    let xs : List ℕ = take (length m.stack - 2) m.stack in
    let ys : List ℕ = slice_set (slice_set m.extra a h) c l in
    let out : Outer = record (outer m) { extra = ys } in
    let row : Becomes xs out (memory_row 14 true mode i x (at_left m)) = record {
      left = without 2 (with_held true ys (at_left m));
      is = put_row mode i x true a h l m enough y.high y.low f seen.there next.there;
      words = refl;
      same = refl;
    } in
    let t : State = placed_word true c l (placed_word true a h s) in
    let before = less_matched st s.now m k y.matches in
    let matches : Matches st t.now xs out k = record {
      words = before.words;
      lies = before.lies;
      low = before.low;
      holds = before.holds;
      of_words = record {
        stack = before.of_words.stack;
        extra = words_set (slice_set s.now.extra a h) c l (words_set s.now.extra a h before.of_words.extra y.high_small) y.low_small;
        lines = before.of_words.lines;
      };
      outer = ap (λ (b : Outer). record b { extra = slice_set (slice_set b.extra a h) c l }) before.outer;
    } in
    let top = kept_top (d0.top + k) d0 m0.stack s.now m.stack y.kept in
    let kept = less_kept (d0.top + k) d0 m0.stack s.now m.stack y.kept (omega (arith, words, top)) in (
      landed q row.left,
      becomes_goes g w (on p) q (doing g.segments (instr.Memory 14 true x i mode) q) st s.begun s m (k + 2) (memory_row 14 true mode i x (at_left m))
          xs out row leads refl y.at refl y.matches refl,
      record {
        at = refl;
        matches = becomes_matches st t.now k (memory_row 14 true mode i x (at_left m)) xs out row matches;
        kept = record { footing = kept.footing; none = kept.none; word = kept.word };
        coded = y.coded;
      },
    )

-- STD where its operand is at an address: both words are seen, the run strays, or both trap.
pub double_put : (g : Ground) (w : Rate) (p q : Spot) (st : Setting) (mode : Mode) (i x far : Bool) (a k h l : ℕ) (d0 : Data) (m0 : Machine) (s : State) (m : Machine)
    → Leads g (on p) q (doing g.segments (instr.Memory 14 true x i mode) q) → StoringDouble st p k d0 m0 h l s m
    → Finds kind.Double mode i x far a (at_left m)
    → Follows g w (pos q - pos p) 0 w.reach (tally s) m (Completes st q k d0 m0) NoExit (store_by kind.Double far a (h ∷ l ∷ []) s)
double_put g w p q st mode i x far a k h l d0 m0 s m leads y f =
    let c = (a + 1) % 65536 in
    let words = y.matches.words in
    let enough : 2 ≤ length m.stack = omega (arith, words) in
    let at : address (moved 1 f.place) ≡ c = moved_address 1 f.place ∙ ap (λ (b : ℕ). (b + 1) % 65536) f.at in
    let side = moved_side 1 f.place far (at_left m) f.side in
    see (λ (o : Outcome (Unit {0})). Follows g w (pos q - pos p) 0 w.reach (tally s) m (Completes st q k d0 m0) NoExit o) far a (k + 2) st s (at_left m)
    (λ v s1. then_go (word_at far c s1) (λ u s2. done tt (placed_word far c l (placed_word far a h s2)))) y.matches y.room
    (λ v seen. see (λ (o : Outcome (Unit {0})). Follows g w (pos q - pos p) 0 w.reach (tally s) m (Completes st q k d0 m0) NoExit o) far c (k + 2) st s (at_left m)
    (λ u s2. done tt (placed_word far c l (placed_word far a h s2))) y.matches y.room
    (λ u next. words_put g w p q st mode i x far a k h l v u d0 m0 s m leads y f seen next)
    (stray_here g w (pos q - pos p) 0 w.reach st (on p) (k + 2) s s.begun m (Completes st q k d0 m0) NoExit leads.start y.at refl y.matches)
    (λ past. row_trap g w w.reach (on p) q (doing g.segments (instr.Memory 14 true x i mode) q) st s.begun s m (k + 2) (memory_row 14 true mode i x (at_left m))
    Bounds (Completes st q k d0 m0) NoExit leads refl y.at refl y.matches
    (rows.low_not_stored mode i x f.place v Bounds (at_left m) enough f.is (seen_read f.place far a v s (at_left m) f.side f.at seen)
    (past_read (moved 1 f.place) far c (at_left m) side at past))))
    (stray_here g w (pos q - pos p) 0 w.reach st (on p) (k + 2) s s.begun m (Completes st q k d0 m0) NoExit leads.start y.at refl y.matches)
    (λ past. row_trap g w w.reach (on p) q (doing g.segments (instr.Memory 14 true x i mode) q) st s.begun s m (k + 2) (memory_row 14 true mode i x (at_left m))
    Bounds (Completes st q k d0 m0) NoExit leads refl y.at refl y.matches
    (rows.high_not_stored mode i x f.place Bounds (at_left m) enough f.is (past_read f.place far a (at_left m) f.side f.at past)))

-- ---- variables

-- by the words of the value, of which there are two
variable_put : (g : Ground) (w : Rate) (p q : Spot) (st : Setting) (place : Place) (k : ℕ) (vs : List ℕ) (d0 : Data) (m0 : Machine) (s : State) (m : Machine)
    → is_reached st k place ≡ true → Leads g (on p) q (doing g.segments (instr.Memory 14 true false false (mode_of k place)) q)
    → IsValue st p 2 k d0 m0 vs s m → s.now.top + (k + 2) ≤ s.now.stack
    → Follows g w (pos q - pos p) 0 w.reach (tally s) m (Completes st q k d0 m0) NoExit (store (variable_located kind.Double (address_of place s.now)) vs s)
variable_put g w p q st place k (h ∷ l ∷ []) d0 m0 s m reached leads y room =
    double_put g w p q st (mode_of k place) false false false (address_of place s.now) k h l d0 m0 s m leads (value_storing st p k h l d0 m0 s m y room)
    (own_finds kind.Double (mode_of k place) (address_of place s.now) (at_left m) (place_based st s.now k (k + 2) place (at_left m) reached y.matches)
    (place_low st s.now k (k + 2) place (at_left m) reached y.matches))
variable_put g w p q st place k [] d0 m0 s m reached leads y room = let wide = y.wide in absurd (omega (arith, wide))
variable_put g w p q st place k (h ∷ []) d0 m0 s m reached leads y room = let wide = y.wide in absurd (omega (arith, wide))
variable_put g w p q st place k (h ∷ l ∷ v ∷ vs) d0 m0 s m reached leads y room = let wide = y.wide in absurd (omega (arith, wide))

pub variables_assigned : DoubleVariablesAssigned
variables_assigned z d k need number at place a value reached enough whole sim =
    subst (λ (b : Bool). Performs z d k need (piece (Begin at) ⨟ (nothing ⨟ a ⨟ pieces (own_stored kind.Double b (mode_of k place)))) meant) (sym (not_from_top z.setting k place reached))
    (value_stored z d k need 2 number at a (Do (instr.Memory 14 true false false (mode_of k place)) ∷ []) value
    (λ vs v. store (variable_located kind.Double (address_of place v.now)) vs v) whole sim
    (λ p q vs s m d0 m0 stands is room.
    variable_put z.ground z.rate p q z.setting place k vs d0 m0 s m reached
    (last_leads z.ground z.sites (on p) (instr.Memory 14 true false false (mode_of k place)) q stands) is (omega (arith, room, enough)))) where
      meant : State → Outcome (Unit {0})
      meant s = stopping number at s (λ u. then_go (value u) (λ vs v. store (variable_located kind.Double (address_of place v.now)) vs v))
