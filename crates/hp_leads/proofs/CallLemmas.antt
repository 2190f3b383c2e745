-- Calls: a PCAL through an entry that leads to a procedure or to the gate, and a SCAL through a local entry.
use Rattle.std.proofs.Common.{◌≡◌, ℕ, ◌+◌, ◌<◌, Bool, true, false, List, None, Some, Ok, Err, refl, sym, ap, subst, ◌∙◌, arith}
use Rattle.std.specs.Prelude.{◌==◌, ◌||◌, nat_lt, if◌then◌else◌}
use Rattle.spl_follow.specs.hp_word.declared.endings.Trap.TheVariants.{BadEntry, Mode}
use Rattle.spl_follow.specs.hp_instr.declared.instruction.Instr.TheVariants as i
use Rattle.spl_follow.specs.hp_instr.declared.labels.Label.{Label}
use Rattle.spl_follow.specs.hp_instr.declared.labels.Label.TheVariants.{Local, External, Bad}
use Rattle.spl_follow.specs.hp_instr.Labels.{label}
use Rattle.spl_follow.specs.hp_program.Programs.{words_of}
use Rattle.spl_follow.specs.hp_program.Valid.{entries_of, label_of}
use Rattle.spl_follow.specs.hp_session.State.{Machine, Outcome, then_with, pushing, wrapped, at_place, passing}
use Rattle.spl_follow.specs.hp_call_rows.CallRows.{label_at, entered, called_through, called as pcal_row, subroutine_at, subroutine_called as scal_row}
use Rattle.spl_follow.specs.hp_call_rows.GateRows.{served}
use Rattle.spl_follow.specs.hp_flat.Step.{at_left, control_row, word_row, row, ended, step}
use Rattle.hp_steady.specs.Rest.{Stays}
use Rattle.hp_steady.proofs.StayForms.{pushing-stays}
use Rattle.hp_steady.proofs.GateStays.{served-stays}
use Rattle.spl_follow.specs.Spots.{Spot, spot, landed, next_word, Point, Ground}
use Rattle.spl_follow.specs.Leading.{Leads}
use Rattle.spl_follow.specs.Doing.{Way, gate, body, procedure_called, subroutine_called, called, calling}
use Rattle.hp_leads.specs.Words.{HasInstr, way_of, entry_way, local_way, subroutine_way}
use Rattle.hp_leads.proofs.StepLemmas.{at_seg, at_offset, word_step, one_step, passing_lands}
use Rattle.hp_leads.proofs.WordLemmas.{near, next_rises}

-- ---- procedures and the gate

-- through a label, from a machine at a place
through_label : (segments : List (List ℕ)) (p : Spot) (k : Machine) (l : Label) (way : Way) → k.regs.seg ≡ p.seg
    → k.regs.p ≡ p.offset → p.offset < 65535
    → way_of segments k.regs.seg l ≡ Some way → called_through segments l k ≡ procedure_called way (next_word p) k
unfolding called_through
through_label segments p k (Local offset) way seg at near is =
    let same : body (record { seg = k.regs.seg; offset = offset; right = false }) ≡ way = cc in
    ap (λ (w : Way). procedure_called w (next_word p) k) same
through_label segments p k (External s entry) way seg at near is = by (s == 255) is where
  by : (c : Bool)
      → (if c then Some (gate entry) else Some (body (record { seg = s; offset = label_of (words_of segments s) entry; right = false }))) ≡ Some way
      → (if c then passing (served entry k) else entered s (label_of (words_of segments s) entry) k) ≡ procedure_called way (next_word p) k
  by true e =
      let same : gate entry ≡ way = cc in
      passing_lands p k (served entry k) seg at near (served-stays k entry) ∙ ap (λ (w : Way). procedure_called w (next_word p) k) same
  by false e =
      let same : body (record { seg = s; offset = label_of (words_of segments s) entry; right = false }) ≡ way = cc in
      ap (λ (w : Way). procedure_called w (next_word p) k) same
through_label segments p k (Bad w) way seg at near is = cc

-- through an entry
through_entry : (segments : List (List ℕ)) (p : Spot) (k : Machine) (none : Bool) (l : Label) (way : Way) → k.regs.seg ≡ p.seg
    → k.regs.p ≡ p.offset → p.offset < 65535
    → (if none then None else way_of segments k.regs.seg l) ≡ Some way
    → then_with (if none then Err BadEntry else Ok l) (λ x. called_through segments x k) ≡ procedure_called way (next_word p) k
through_entry segments p k true l way seg at near is = cc
through_entry segments p k false l way seg at near is = through_label segments p k l way seg at near is

-- unless in split mode
unless_split : (c : Bool) (a b : Outcome) → a ≡ b → (if c then Err Mode else a) ≡ (if c then Err Mode else b)
unless_split true a b e = refl
unless_split false a b e = e

pcal_goes : (segments : List (List ℕ)) (p : Spot) (k : Machine) (n e : ℕ) (way : Way) → k.regs.seg ≡ p.seg → k.regs.p ≡ p.offset
    → p.offset < 65535
    → entry_way segments p.seg n ≡ Some way → pcal_row segments n k ≡ called (i.Control 0 e) way (next_word p) k
unfolding pcal_row label_at
pcal_goes segments p k n e way seg at near is =
    unless_split k.split _ _ (through_entry segments p k ((n == 0) || nat_lt (entries_of (words_of segments k.regs.seg)) n) (label (label_of (words_of segments k.regs.seg) n)) way seg at near
    (subst (λ (s : ℕ). entry_way segments s n ≡ Some way) (sym seg) is))

-- the row of PCAL, and that of SCAL
pcal_rowed : (segments : List (List ℕ)) (n : ℕ) (m : Machine) → row segments (i.Control 0 n) m ≡ pcal_row segments n (at_left m)
unfolding row word_row control_row
pcal_rowed segments n m = refl

scal_rowed : (segments : List (List ℕ)) (n : ℕ) (m : Machine) → row segments (i.Control 3 n) m ≡ scal_row segments n (at_left m)
unfolding row word_row control_row
scal_rowed segments n m = refl

-- PCAL through an entry that leads to a way; the entry that the piece has does not matter
pub procedure_leads : (g : Ground) (p : Point) (n e : ℕ) (way : Way) → HasInstr g p (i.Control 0 n)
    → entry_way g.segments p.at.seg n ≡ Some way
    → Leads g p (next_word p.at) (calling (i.Control 0 e) way (next_word p.at))
procedure_leads g p n e way has is = one_step g p (next_word p.at) _ has.start (next_rises p.at) refl (λ m at runs. stepped m at) where
  stepped : (m : Machine) → spot m ≡ p.at → step g.segments m ≡ calling (i.Control 0 e) way (next_word p.at) m
  stepped m at =
      word_step g p (i.Control 0 n) has m at
      ∙ ap (ended m) (pcal_rowed g.segments n m ∙ pcal_goes g.segments p.at (at_left m) n e way (at_seg p.at m at) (at_offset p.at m at) (near g p _ has) is)

-- ---- subroutines

-- where a word was pushed, and then on at an offset of the same segment
pushed_lands : (offset : ℕ) (k : Machine) (o : Outcome) → Stays k o
    → then_with o (λ n. Ok (at_place offset n)) ≡ then_with o (λ n. Ok (landed (record { seg = k.regs.seg; offset = offset; right = false }) n))
pushed_lands offset k (Ok n) stays =
    let same : n.regs.seg ≡ k.regs.seg = ap (λ r. r.seat.seg) stays in
    ap (λ (a : ℕ). let left : Outcome = Ok (record n { regs = record n.regs { seg = a; p = offset; right = false } }) in left) same
pushed_lands offset k (Err t) stays = refl

-- through a label within the segment
to_subroutine : (segments : List (List ℕ)) (p : Spot) (k : Machine) (none : Bool) (l : Label) (way : Way) → k.regs.seg ≡ p.seg
    → k.regs.p ≡ p.offset → p.offset < 65535
    → (if none then None else local_way k.regs.seg l) ≡ Some way
    → then_with (if none then Err BadEntry else Ok l) (λ x. subroutine_at x k) ≡ subroutine_called way (next_word p) k
to_subroutine segments p k true l way seg at near is = cc
to_subroutine segments p k false (Local offset) way seg at near is =
    let same : body (record { seg = k.regs.seg; offset = offset; right = false }) ≡ way = cc in
    let next : wrapped (k.regs.p + 1) ≡ p.offset + 1 = omega (arith, at, near) in
    let lands : then_with (pushing (wrapped (k.regs.p + 1)) k) (λ n. Ok (at_place offset n))
    ≡ then_with (pushing (p.offset + 1) k) (λ n. Ok (landed (record { seg = k.regs.seg; offset = offset; right = false }) n)) =
    ap (λ (a : ℕ). then_with (pushing a k) (λ n. Ok (at_place offset n))) next ∙ pushed_lands offset k (pushing (p.offset + 1) k) (pushing-stays k (p.offset + 1)) in
    lands ∙ ap (λ (w : Way). subroutine_called w (next_word p) k) same
to_subroutine segments p k false (External s entry) way seg at near is = cc
to_subroutine segments p k false (Bad w) way seg at near is = cc

scal_goes : (segments : List (List ℕ)) (p : Spot) (k : Machine) (n e : ℕ) (way : Way) → k.regs.seg ≡ p.seg → k.regs.p ≡ p.offset
    → p.offset < 65535
    → subroutine_way segments p.seg n ≡ Some way → scal_row segments n k ≡ called (i.Control 3 e) way (next_word p) k
unfolding scal_row label_at
scal_goes segments p k n e way seg at near is =
    to_subroutine segments p k ((n == 0) || nat_lt (entries_of (words_of segments k.regs.seg)) n) (label (label_of (words_of segments k.regs.seg) n)) way seg at near
    (subst (λ (s : ℕ). subroutine_way segments s n ≡ Some way) (sym seg) is)

-- SCAL through an entry that is local
pub subroutine_leads : (g : Ground) (p : Point) (n e : ℕ) (way : Way) → HasInstr g p (i.Control 3 n)
    → subroutine_way g.segments p.at.seg n ≡ Some way
    → Leads g p (next_word p.at) (calling (i.Control 3 e) way (next_word p.at))
subroutine_leads g p n e way has is = one_step g p (next_word p.at) _ has.start (next_rises p.at) refl (λ m at runs. stepped m at) where
  stepped : (m : Machine) → spot m ≡ p.at → step g.segments m ≡ calling (i.Control 3 e) way (next_word p.at) m
  stepped m at =
      word_step g p (i.Control 3 n) has m at
      ∙ ap (ended m) (scal_rowed g.segments n m ∙ scal_goes g.segments p.at (at_left m) n e way (at_seg p.at m at) (at_offset p.at m at) (near g p _ has) is)
