-- Branches: one word that goes to a place within reach, a BR through the word behind it, and the long form of each other branch, over such a BR.
use Rattle.std.proofs.Common.{◌≡◌, ℕ, ◌+◌, ◌*◌, ◌-◌, ◌<◌, ◌≤◌, Bool, true, false, [], ◌++◌, None, Result, Ok, Err, refl, sym, ap, subst, ◌∙◌, arith}
use Rattle.std.specs.Prelude.{◌%◌, nat_lt, if◌then◌else◌}
use Rattle.std.proofs.lemmas.Bool.{cond-true}
use Rattle.std.proofs.lemmas.Bool.Decides.{nat_tests}
use Rattle.std.proofs.lemmas.List.{append-nil}
use Rattle.spl_follow.specs.hp_word.declared.endings.Trap.{Trap}
use Rattle.spl_follow.specs.hp_word.declared.endings.Ending.TheVariants.{Running}
use Rattle.spl_follow.specs.hp_instr.declared.instruction.Instr.{Instr}
use Rattle.spl_follow.specs.hp_instr.declared.instruction.Instr.TheVariants as i
use Rattle.spl_follow.specs.hp_program.Programs.{code_word}
use Rattle.spl_follow.specs.hp_session.State.{Machine, Outcome, then_with, wrapped, displaced, branching}
use Rattle.spl_follow.specs.hp_memory_rows.MemoryRows.{code_read, branched}
use Rattle.spl_follow.specs.hp_flat.Step.{at_left, word_row, row, ended, is_running, step, after}
use Rattle.spl_follow.specs.spl_branch.Branches.{aimed, gap, toward, through, past}
use Rattle.spl_follow.specs.spl_branch.Pieces.{is_direct}
use Rattle.spl_follow.specs.Spots.{Spot, spot, landed, next_word, pos, Point, on, Ground, start_at, visit_of, met, visits, print_between, prints}
use Rattle.spl_follow.specs.Leading.{Reaches, Leads}
use Rattle.spl_follow.specs.Doing.{turned, turning}
use Rattle.spl_follow.proofs.RowLemmas.{no_print}
use Rattle.hp_leads.specs.Words.{word_at, HasInstr, Points}
use Rattle.hp_leads.specs.Choices.{Choice, choice, goes_back, distance}
use Rattle.hp_leads.proofs.StepLemmas.{at_seg, at_offset, word_step, reached_once, one_step}
use Rattle.hp_leads.proofs.WordLemmas.{near, next_rises}
use Rattle.hp_leads.proofs.ChoiceLemmas.{branch_row, turned_by_choice, ChoiceStays, choice_stays}

-- ---- one word

-- where a branch goes on, of a machine that stands at a place
branching_lands : (p : Spot) (n : Machine) (taken back : Bool) (d t : ℕ) → n.regs.seg ≡ p.seg → n.regs.p ≡ p.offset → p.offset < 65535
    → displaced back d p.offset ≡ t → branching taken back d n ≡ landed (if taken then word_at p t else next_word p) n
branching_lands p n true back d t seg at near to =
    let there : displaced back d n.regs.p ≡ t = ap (displaced back d) at ∙ to in
    ap (λ (a : ℕ). record n { regs = record n.regs { p = a; right = false } }) there
    ∙ ap (λ (a : ℕ). record n { regs = record n.regs { seg = a; p = t; right = false } }) seg
branching_lands p n false back d t seg at near to =
    let next : wrapped (n.regs.p + 1) ≡ p.offset + 1 = omega (arith, at, near) in
    ap (λ (a : ℕ). record n { regs = record n.regs { p = a; right = false } }) next
    ∙ ap (λ (a : ℕ). record n { regs = record n.regs { seg = a; p = p.offset + 1; right = false } }) seg

-- the choice of a branch, and then on
choice_lands : (p : Spot) (m : Machine) (back : Bool) (d t : ℕ) (r : Result Choice Trap) → m.regs.seg ≡ p.seg → m.regs.p ≡ p.offset
    → p.offset < 65535
    → displaced back d p.offset ≡ t → ChoiceStays (at_left m) r
    → then_with r (λ c. Ok (branching c.taken back d c.machine)) ≡ then_with r (λ c. Ok (landed (if c.taken then word_at p t else next_word p) c.machine))
choice_lands p m back d t (Err e) seg at near to stays = refl
choice_lands p m back d t (Ok c) seg at near to stays =
    ap (λ (n : Machine). let left : Outcome = Ok n in left)
    (branching_lands p c.machine c.taken back d t (ap (λ r. r.seat.seg) stays ∙ seg) (ap (λ r. r.seat.p) stays ∙ at) near to)

-- a step of a direct branch
branch_step : (g : Ground) (p : Point) (by : Instr) (t : ℕ) → is_direct by ≡ true → HasInstr g p by
    → displaced (goes_back by) (distance by) p.at.offset ≡ t
    → (m : Machine) → spot m ≡ p.at → step g.segments m ≡ turning by (word_at p.at t) (next_word p.at) m
branch_step g p by t direct has to m at =
    word_step g p by has m at
    ∙ ap (ended m) (branch_row g.segments by m direct
    ∙ choice_lands p.at m (goes_back by) (distance by) t (choice by (at_left m)) (at_seg p.at m at) (at_offset p.at m at) (near g p by has) to (choice_stays by (at_left m))
    ∙ sym (turned_by_choice (word_at p.at t) (next_word p.at) by (at_left m) direct))

-- a direct branch leads on
pub direct_leads : (g : Ground) (p : Point) (by : Instr) (t : ℕ) → is_direct by ≡ true → HasInstr g p by
    → displaced (goes_back by) (distance by) p.at.offset ≡ t
    → Leads g p (next_word p.at) (turning by (word_at p.at t) (next_word p.at))
direct_leads g p by t direct has to = one_step g p (next_word p.at) _ has.start (next_rises p.at) refl (λ m at runs. branch_step g p by t direct has to m at)

-- ---- branches by their aim

-- an aimed branch goes where it is aimed
aimed_back : (by : Instr) (back : Bool) (d : ℕ) → is_direct by ≡ true → goes_back (aimed by back d) ≡ back
aimed_back (i.Pair a b) back d direct = cc
aimed_back (i.Shifted kind count) back d direct = cc
aimed_back (i.Short test b n) back d direct = refl
aimed_back (i.Immediate which n) back d direct = cc
aimed_back (i.Control which n) back d direct = cc
aimed_back (i.Memory major second x indirect mode) back d direct = cc
aimed_back (i.LoadCode b n) back d direct = cc
aimed_back (i.Branch indirect b n) back d direct = refl
aimed_back (i.OnCode mask b n) back d direct = refl
aimed_back (i.Loop modify b n) back d direct = refl
aimed_back (i.Illegal w) back d direct = cc

aimed_distance : (by : Instr) (back : Bool) (d : ℕ) → is_direct by ≡ true → distance (aimed by back d) ≡ d
aimed_distance (i.Pair a b) back d direct = cc
aimed_distance (i.Shifted kind count) back d direct = cc
aimed_distance (i.Short test b n) back d direct = refl
aimed_distance (i.Immediate which n) back d direct = cc
aimed_distance (i.Control which n) back d direct = cc
aimed_distance (i.Memory major second x indirect mode) back d direct = cc
aimed_distance (i.LoadCode b n) back d direct = cc
aimed_distance (i.Branch indirect b n) back d direct = refl
aimed_distance (i.OnCode mask b n) back d direct = refl
aimed_distance (i.Loop modify b n) back d direct = refl
aimed_distance (i.Illegal w) back d direct = cc

aimed_direct : (by : Instr) (back : Bool) (d : ℕ) → is_direct by ≡ true → is_direct (aimed by back d) ≡ true
aimed_direct (i.Pair a b) back d direct = cc
aimed_direct (i.Shifted kind count) back d direct = cc
aimed_direct (i.Short test b n) back d direct = refl
aimed_direct (i.Immediate which n) back d direct = cc
aimed_direct (i.Control which n) back d direct = cc
aimed_direct (i.Memory major second x indirect mode) back d direct = cc
aimed_direct (i.LoadCode b n) back d direct = cc
aimed_direct (i.Branch indirect b n) back d direct = direct
aimed_direct (i.OnCode mask b n) back d direct = refl
aimed_direct (i.Loop modify b n) back d direct = refl
aimed_direct (i.Illegal w) back d direct = cc

-- it does the same as a piece, wherever it is aimed
aimed_turns : (by : Instr) (back : Bool) (d : ℕ) (to r : Spot) (m : Machine) → turned (aimed by back d) to r m ≡ turned by to r m
aimed_turns (i.Pair a b) back d to r m = refl
aimed_turns (i.Shifted kind count) back d to r m = refl
aimed_turns (i.Short test b n) back d to r m = refl
aimed_turns (i.Immediate which n) back d to r m = refl
aimed_turns (i.Control which n) back d to r m = refl
aimed_turns (i.Memory major second x indirect mode) back d to r m = refl
aimed_turns (i.LoadCode b n) back d to r m = refl
aimed_turns (i.Branch indirect b n) back d to r m = refl
aimed_turns (i.OnCode mask b n) back d to r m = refl
aimed_turns (i.Loop modify b n) back d to r m = refl
aimed_turns (i.Illegal w) back d to r m = refl

-- a step of a branch that is aimed
aimed_step : (g : Ground) (p : Point) (by : Instr) (back : Bool) (d t : ℕ) → is_direct by ≡ true → HasInstr g p (aimed by back d)
    → displaced back d p.at.offset ≡ t
    → (m : Machine) → spot m ≡ p.at → step g.segments m ≡ turning by (word_at p.at t) (next_word p.at) m
aimed_step g p by back d t direct has to m at =
    branch_step g p (aimed by back d) t (aimed_direct by back d direct) has
    (ap (λ (b : Bool). displaced b (distance (aimed by back d)) p.at.offset) (aimed_back by back d direct)
    ∙ ap (λ (n : ℕ). displaced back n p.at.offset) (aimed_distance by back d direct) ∙ to) m at
    ∙ ap (ended m) (aimed_turns by back d (word_at p.at t) (next_word p.at) (at_left m))

-- the distance of two offsets leads from one to the other
gap_leads : (p t : ℕ) → p < 65536 → t < 65536 → displaced (nat_lt t p) (gap p t) p ≡ t
gap_leads p t small less = by (nat_lt t p) refl where
  by : (c : Bool) → nat_lt t p ≡ c → wrapped (if c then p + 65536 - gap p t else p + gap p t) ≡ t
  by true is =
      let below : t < p = grind (arith, nat_tests, is) in
      let sum : p + 65536 - ((p - t) + (t - p)) ≡ 65536 + t = omega (arith, below) in
      rw sum (omega (arith, less))
  by false is =
      let above : p ≤ t = grind (arith, nat_tests, is) in
      let sum : p + ((p - t) + (t - p)) ≡ t = omega (arith, above) in
      rw sum (omega (arith, less))

-- a branch within reach
pub toward_leads : (g : Ground) (p : Point) (by : Instr) (t : ℕ) → is_direct by ≡ true → t < 65536 → HasInstr g p (toward by p.at.offset t)
    → Leads g p (next_word p.at) (turning by (word_at p.at t) (next_word p.at))
toward_leads g p by t direct small has =
    let here = near g p _ has in
    one_step g p (next_word p.at) _ has.start (next_rises p.at) refl (λ m at runs.
    aimed_step g p by (nat_lt t p.at.offset) (gap p.at.offset t) t direct has (gap_leads p.at.offset t (omega (arith, here)) small) m at)

-- ---- BR through a word

-- a step through the word behind
through_step : (g : Ground) (p : Point) (t : ℕ) → HasInstr g p through → Points g p.at.seg (p.at.offset + 1) t → (m : Machine)
    → spot m ≡ p.at
    → step g.segments m ≡ landed (word_at p.at t) m
unfolding row word_row branched code_read
through_step g p t has points m at =
    let here = near g p through has in
    let next : wrapped (p.at.offset + 1) ≡ p.at.offset + 1 = omega (arith, here) in
    word_step g p through has m at ∙ rw (at_seg p.at m at, at_offset p.at m at, next, points.there, points.sum) refl

-- a step past the two words of such a BR
past_step : (g : Ground) (p : Point) → HasInstr g p past → p.at.offset + 3 < 65536 → (m : Machine) → spot m ≡ p.at
    → step g.segments m ≡ landed (word_at p.at (p.at.offset + 3)) m
unfolding row word_row branched
past_step g p has small m at =
    let next : wrapped (p.at.offset + 3) ≡ p.at.offset + 3 = omega (arith, small) in
    word_step g p past has m at ∙ rw (at_seg p.at m at, at_offset p.at m at, next) refl

-- BR out of reach
pub far_jump_leads : (g : Ground) (p : Point) (t : ℕ) (back : Bool) (d : ℕ) → HasInstr g p through → Points g p.at.seg (p.at.offset + 1) t
    → Leads g p (word_at p.at (p.at.offset + 2)) (turning (i.Branch false back d) (word_at p.at t) (word_at p.at (p.at.offset + 2)))
far_jump_leads g p t back d has points =
    one_step g p _ _ has.start (two_rise p.at) refl (λ m at runs. through_step g p t has points m at)
  where
    two_rise : (q : Spot) → pos q < pos (word_at q (q.offset + 2))
    two_rise q = by q.right where
      by : (c : Bool) → 2 * q.offset + (if c then 1 else 0) < 2 * (q.offset + 2) + 0
      by true = omega arith
      by false = omega arith

-- ---- other branches out of reach

-- two steps that print nothing, between which the machine is at no start
reached_twice : (g : Ground) (b : ℕ) (m k n : Machine) → 1 < b → m.ending ≡ Running → step g.segments m ≡ k → k.ending ≡ Running
    → k.printed ≡ m.printed
    → start_at g (spot k) ≡ None → step g.segments k ≡ n → n.printed ≡ m.printed → Reaches g b m n
unfolding after
reached_twice g b m k n some runs first runs_on same none second still = record {
  more = 1;
  few = some;
  brief = omega arith;
  goes = cond-true (is_running m.ending) (after g.segments 1 (step g.segments m)) m (ap is_running runs) ∙ ap (after g.segments 1) first ∙ onward;
  quiet = ap (visits g 1) first ∙ cond-true (is_running k.ending) (met g k ++ []) [] (ap is_running runs_on) ∙ append-nil (met g k) ∙ ap (λ o. visit_of o k) none;
  wrote =
      cond-true (is_running m.ending) (print_between m (step g.segments m) ++ prints g 1 (step g.segments m)) [] (ap is_running runs)
      ∙ ap (λ x. print_between m x ++ prints g 1 x) first
      ∙ ap (λ ps. ps ++ prints g 1 k) (no_print m k same)
      ∙ cond-true (is_running k.ending) (print_between k (step g.segments k) ++ []) [] (ap is_running runs_on)
      ∙ append-nil (print_between k (step g.segments k)) ∙ ap (print_between k) second
      ∙ no_print k n (still ∙ sym same) ∙ sym (no_print m n still);
} where
  onward : after g.segments 1 k ≡ n
  onward = cond-true (is_running k.ending) (step g.segments k) k (ap is_running runs_on) ∙ second

-- The long form: the branch goes two words on where it is taken, and there a BR goes to its place through the word behind; else a BR goes past
-- both. No start is among the words in between.
module _ (g : Ground) (p : Point) (by : Instr) (t : ℕ) (direct : is_direct by ≡ true) (small : t < 65536)
    (has : HasInstr g p (aimed by false 2))
    (over : HasInstr g (on (word_at p.at (p.at.offset + 1))) past)
    (under : HasInstr g (on (word_at p.at (p.at.offset + 2))) through)
    (points : Points g p.at.seg (p.at.offset + 3) t)
  where
    abbrev one : Spot
    one = word_at p.at (p.at.offset + 1)

    abbrev two : Spot
    two = word_at p.at (p.at.offset + 2)

    abbrev end : Spot
    end = word_at p.at (p.at.offset + 4)

    -- the offsets are small
    low : p.at.offset < 16383
    low = g.short p.at.seg p.at.offset has.word has.there

    far_by_half : (c : Bool) → 1 < 2 * (p.at.offset + 4) + 0 - (2 * p.at.offset + (if c then 1 else 0))
    far_by_half true = omega arith
    far_by_half false = omega arith

    far : 1 < pos end - pos p.at
    far = far_by_half p.at.right

    rises : pos p.at < pos end
    rises = let more = far in omega (arith, more)

    -- the first step
    first_step : (m : Machine) → spot m ≡ p.at → step g.segments m ≡ turning by two one m
    first_step m at =
        let e : displaced false 2 p.at.offset ≡ p.at.offset + 2 = let l = low in omega (arith, l) in
        aimed_step g p by false 2 (p.at.offset + 2) direct has e m at

    -- the second one
    second_step : (taken : Bool) (k : Machine) → spot k ≡ (if taken then two else one)
        → step g.segments k ≡ landed (if taken then word_at p.at t else end) k
    second_step true k at =
        let e : p.at.offset + 2 + 1 ≡ p.at.offset + 3 = omega arith in
        through_step g (on two) t under (record { word = points.word; there = ap (λ n. code_word g.segments p.at.seg n) e ∙ points.there; sum = ap (λ n. (n + points.word) % 65536) e ∙ points.sum }) k at
    second_step false k at =
        let l = low in
        let e : p.at.offset + 1 + 3 ≡ p.at.offset + 4 = omega arith in
        past_step g (on one) over (omega (arith, l)) k at ∙ ap (λ n. landed (word_at p.at n) k) e

    -- where the first step goes, no start is
    no_start : (taken : Bool) → start_at g (if taken then two else one) ≡ None
    no_start true = under.start
    no_start false = over.start

    by_choice : (m : Machine) (r : Result Choice Trap) → m.ending ≡ Running → ChoiceStays (at_left m) r
        → step g.segments m ≡ ended m (then_with r (λ c. Ok (landed (if c.taken then two else one) c.machine)))
        → Reaches g (pos end - pos p.at) m (ended m (then_with r (λ c. Ok (landed (if c.taken then word_at p.at t else end) c.machine))))
    by_choice m (Err e) runs stays stepped = reached_once g _ m _ (let more = far in omega (arith, more)) runs stepped
    by_choice m (Ok c) runs stays stepped =
        let running : c.machine.ending ≡ Running = ap (λ r. r.ending) stays ∙ runs in
        let printed : c.machine.printed ≡ m.printed = ap (λ r. r.printed) stays in
        let k = landed (if c.taken then two else one) c.machine in
        reached_twice g _ m k _ far runs stepped running printed (no_start c.taken) (second_step c.taken k refl) printed

    pub far_leads : Leads g p end (turning by (word_at p.at t) end)
    far_leads = record {
      start = has.start;
      rise = rises;
      inside = refl;
      goes = λ m at runs.
          let reached = by_choice m (choice by (at_left m)) runs (choice_stays by (at_left m))
          (first_step m at ∙ ap (ended m) (turned_by_choice two one by (at_left m) direct)) in
          subst (λ (n : Machine). Reaches g (pos end - pos p.at) m n) (ap (ended m) (sym (turned_by_choice (word_at p.at t) end by (at_left m) direct))) reached;
    }
