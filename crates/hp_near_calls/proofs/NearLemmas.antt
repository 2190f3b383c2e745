-- A step stays near, and so a subroutine's call is within its segment: one or two steps from split mode to split mode do not leave it.
use Rattle.std.proofs.Common.{◌≡◌, ℕ, zero, suc, ◌<◌, Bool, true, false, List, [], inl, inr, refl, sym, ap, subst, ◌∙◌, arith}
use Rattle.std.specs.Prelude.{Option, None, Some, Ok, Err, if◌then◌else◌}
use Rattle.std.proofs.lemmas.Bool.{cond-true, false≢true}
use Rattle.spl_follow.specs.hp_word.declared.arithmetic.Code.TheVariants.{Equal}
use Rattle.spl_follow.specs.hp_word.declared.endings.Ending.TheVariants.{Running}
use Rattle.spl_follow.specs.hp_instr.declared.instruction.Instr.TheVariants as i
use Rattle.spl_follow.specs.hp_instr.Instructions.{instruction}
use Rattle.spl_follow.specs.hp_program.Programs.{code_word}
use Rattle.spl_follow.specs.hp_session.State.{Machine, Outcome}
use Rattle.spl_follow.specs.hp_flat.Step.{by_word, outcome, ended, is_running, step, after}
use Rattle.spl_follow.specs.Spots.{Spot}
use Rattle.spl_follow.specs.Doing.{body, calling}
use Rattle.hp_near_calls.specs.Near.{IsNear, StaysNear}
use Rattle.hp_near_calls.specs.Laws.{StepsStayNear, SubroutineCallsAreNear}
use Rattle.hp_near_calls.proofs.RowLemmas.{row_near}

outcome_near : (segments : List (List ℕ)) (m : Machine) → StaysNear m (outcome segments m)
unfolding outcome
outcome_near segments m = by (code_word segments m.regs.seg m.regs.p) where
  by : (w : Option ℕ) → StaysNear m (by_word segments w m)
  by None = tt
  by (Some w) = row_near segments m (instruction w)

-- a trap changes the ending alone
pub steps_near : StepsStayNear
unfolding step
steps_near segments m = by (outcome segments m) (outcome_near segments m) where
  by : (o : Outcome) → StaysNear m o → IsNear m (ended m o)
  by (Ok n) p = p
  by (Err t) p = inl refl

-- ---- two steps

-- from split mode
from_split : (m n : Machine) → m.split ≡ true → IsNear m n → n.regs.seg ≡ m.regs.seg
from_split m n split (inl same) = same
from_split m n split (inr two) = absurd (false≢true (sym two.0 ∙ split))

-- to split mode
to_split : (m n : Machine) → n.split ≡ true → IsNear m n → n.regs.seg ≡ m.regs.seg
to_split m n split (inl same) = same
to_split m n split (inr two) = absurd (false≢true (sym two.1 ∙ split))

-- one more step, or none where the session has ended
once : (segments : List (List ℕ)) (m n : Machine) → after segments 1 m ≡ n → n.split ≡ true → n.regs.seg ≡ m.regs.seg
unfolding after
once segments m n goes split = by (is_running m.ending) goes where
  by : (c : Bool) → (if c then step segments m else m) ≡ n → n.regs.seg ≡ m.regs.seg
  by true e = to_split m n split (subst (λ (k : Machine). IsNear m k) e (steps_near segments m))
  by false e = sym (ap (λ (k : Machine). k.regs.seg) e)

-- at most two from a running machine
twice : (segments : List (List ℕ)) (more : ℕ) (m n : Machine) → more < 2 → m.ending ≡ Running → m.split ≡ true → n.split ≡ true
    → after segments (suc more) m ≡ n → n.regs.seg ≡ m.regs.seg
unfolding after
twice segments zero m n few runs split splits goes = once segments m n goes splits
twice segments (suc zero) m n few runs split splits goes =
    once segments (step segments m) n (sym (cond-true (is_running m.ending) (after segments 1 (step segments m)) m (ap is_running runs)) ∙ goes) splits
    ∙ from_split m (step segments m) split (steps_near segments m)
twice segments (suc (suc more)) m n few runs split splits goes = absurd (omega (arith, few))

-- ---- calls

-- a machine in split mode at a place, with room for a word
abbrev standing : Spot → Machine
standing p = record {
  regs = record { x = 0; q = 0; p = p.offset; seg = p.seg; traps = true; right = p.right; overflow = false; carry = false; code = Equal };
  split = true;
  stack = [];
  extra = [];
  lines = [];
  next_line = 0;
  printed = [];
  ending = Running;
  stack_limit = 1;
  room = 0;
}

pub calls_near : SubroutineCallsAreNear
calls_near g p r to n leads =
    let reaches = leads.goes (standing p.at) refl refl in
    twice g.segments reaches.more (standing p.at) (calling (i.Control 3 n) (body to) r (standing p.at)) reaches.brief refl refl refl reaches.goes
