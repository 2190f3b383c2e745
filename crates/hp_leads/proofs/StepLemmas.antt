-- One step from a place whose word is known.
-- 1. the step does the row of the word's instruction                      (word_step)
-- 2. a row that stays, passed, goes on behind its word                    (passing_lands), or in the right half (half_lands)
-- 3. a machine that a place leads to by one step is reached               (one_step)
use Rattle.std.proofs.Common.{◌≡◌, ℕ, ◌+◌, ◌-◌, ◌<◌, true, false, [], ◌++◌, Ok, Err, refl, ap, ◌∙◌, arith}
use Rattle.std.proofs.lemmas.Bool.{cond-true}
use Rattle.std.proofs.lemmas.List.{append-nil}
use Rattle.spl_follow.specs.hp_word.declared.endings.Ending.TheVariants.{Running}
use Rattle.spl_follow.specs.hp_instr.declared.instruction.Instr.{Instr}
use Rattle.spl_follow.specs.hp_session.State.{Machine, Outcome, then_with, wrapped, passing}
use Rattle.spl_follow.specs.hp_flat.Step.{at_right, row, ended, is_running, outcome, step, after}
use Rattle.hp_steady.specs.Rest.{Stays, StaysSeated}
use Rattle.spl_follow.specs.Spots.{Spot, spot, landed, next_word, pos, Point, Ground, start_at, print_between}
use Rattle.spl_follow.specs.Leading.{Reaches, Leads}
use Rattle.hp_leads.specs.Words.{right_half, HasInstr}

-- ---- where a machine stands

pub at_seg : (p : Spot) (m : Machine) → spot m ≡ p → m.regs.seg ≡ p.seg
at_seg p m at = ap (λ (s : Spot). s.seg) at

pub at_offset : (p : Spot) (m : Machine) → spot m ≡ p → m.regs.p ≡ p.offset
at_offset p m at = ap (λ (s : Spot). s.offset) at

pub at_half : (p : Spot) (m : Machine) → spot m ≡ p → m.regs.right ≡ p.right
at_half p m at = ap (λ (s : Spot). s.right) at

-- ---- a step

-- the step of a word that is there
pub word_step : (g : Ground) (p : Point) (by : Instr) → HasInstr g p by → (m : Machine) → spot m ≡ p.at
    → step g.segments m ≡ ended m (row g.segments by m)
unfolding step outcome
word_step g p by has m at = rw (at_seg p.at m at, at_offset p.at m at, has.there, has.is) refl

-- one step, and that is all
pub reached_once : (g : Ground) (b : ℕ) (m n : Machine) → 0 < b → m.ending ≡ Running → step g.segments m ≡ n → Reaches g b m n
unfolding after
reached_once g b m n some runs stepped = record {
  more = 0;
  few = some;
  brief = omega arith;
  goes = cond-true (is_running m.ending) (step g.segments m) m (ap is_running runs) ∙ stepped;
  quiet = refl;
  wrote =
      cond-true (is_running m.ending) (print_between m (step g.segments m) ++ []) [] (ap is_running runs)
      ∙ append-nil (print_between m (step g.segments m)) ∙ ap (print_between m) stepped;
}

-- a place that leads on by one step
pub one_step : (g : Ground) (p : Point) (r : Spot) (F : Machine → Machine) → start_at g p.at ≡ p.due → pos p.at < pos r
    → r.seg ≡ p.at.seg → ((m : Machine) → spot m ≡ p.at → m.ending ≡ Running → step g.segments m ≡ F m) → Leads g p r F
one_step g p r F start rise inside does = record {
  start = start;
  rise = rise;
  inside = inside;
  goes = λ m at runs. reached_once g (pos r - pos p.at) m (F m) (omega (arith, rise)) runs (does m at runs);
}

-- ---- where a row goes on

-- what stays has the same seat
pub seated : (m : Machine) (o : Outcome) → Stays m o → StaysSeated m o
seated m (Ok n) stays = ap (λ r. r.seat) stays
seated m (Err t) stays = tt

-- a row that stays, and passes its word, goes on behind it
pub passing_lands : (p : Spot) (k : Machine) (o : Outcome) → k.regs.seg ≡ p.seg → k.regs.p ≡ p.offset → p.offset < 65535 → StaysSeated k o
    → passing o ≡ then_with o (λ n. Ok (landed (next_word p) n))
passing_lands p k (Err t) seg at near stays = refl
passing_lands p k (Ok n) seg at near stays =
    let here : n.regs.seg ≡ p.seg = ap (λ s. s.seg) stays ∙ seg in
    let there : n.regs.p ≡ p.offset = ap (λ s. s.p) stays ∙ at in
    let next : wrapped (n.regs.p + 1) ≡ p.offset + 1 = omega (arith, there, near) in
    ap (λ (a : ℕ). let left : Outcome = Ok (record n { regs = record n.regs { p = a; right = false } }) in left) next
    ∙ ap (λ (a : ℕ). let left : Outcome = Ok (record n { regs = record n.regs { seg = a; p = p.offset + 1; right = false } }) in left) here

-- a row that stays goes on in the right half
pub half_lands : (p : Spot) (k : Machine) (o : Outcome) → k.regs.seg ≡ p.seg → k.regs.p ≡ p.offset → StaysSeated k o
    → then_with o (λ n. Ok (at_right n)) ≡ then_with o (λ n. Ok (landed (right_half p) n))
half_lands p k (Err t) seg at stays = refl
half_lands p k (Ok n) seg at stays =
    let here : n.regs.seg ≡ p.seg = ap (λ s. s.seg) stays ∙ seg in
    let there : n.regs.p ≡ p.offset = ap (λ s. s.p) stays ∙ at in
    ap (λ (a : ℕ). let left : Outcome = Ok (record n { regs = record n.regs { seg = a; right = true } }) in left) here
    ∙ ap (λ (a : ℕ). let left : Outcome = Ok (record n { regs = record n.regs { seg = p.seg; p = a; right = true } }) in left) there
