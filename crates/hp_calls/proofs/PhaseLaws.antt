-- A transfer that is finished over a store of a program's segments goes where the program says.
use Rattle.std.proofs.Common.{◌≡◌, ℕ, List, [], slice_get, refl, sym, ap, subst, ◌∙◌}
use Rattle.std.specs.Prelude.{Option, None, Some, IfSome, unwrap_or, Result, Ok, Err}
use Rattle.hp_word.specs.declared.endings.Trap.{Trap}
use Rattle.hp_program.specs.Valid.{label_of}
use Rattle.hp_tos.specs.Seen.{Seen}
use Rattle.hp_session.specs.declared.registers.Regs.{Regs}
use Rattle.hp_session.specs.State.{Machine, Outcome}
use Rattle.hp_rows.specs.Standing.{standing}
use Rattle.hp_calls.specs.declared.phases.Phase.{Phase}
use Rattle.hp_calls.specs.declared.phases.Phase.TheVariants.{Ready, Entering, Returning}
use Rattle.hp_calls.specs.declared.phases.Called.{Called}
use Rattle.hp_calls.specs.declared.phases.Called.TheVariants.{Went}
use Rattle.hp_calls.specs.Phases.{HoldsOf, arrived, destination, finished, present}
use Rattle.hp_calls.specs.Transfers.{Transfers}

-- nothing is left to be done
pub finished_ready : (held : ℕ → Option (List ℕ)) (regs : Regs) → finished held Ready regs ≡ regs
unfolding finished
finished_ready held regs = refl

-- a segment that is held has the program's words
same_words : (held known : Option (List ℕ)) (seg : ℕ) → IfSome held (λ words. known ≡ Some words) → present seg held ≡ Ok tt
    → unwrap_or held [] ≡ unwrap_or known []
same_words None known seg of here = cc
same_words (Some words) known seg of here = rw of refl

pub finished_of : (held : ℕ → Option (List ℕ)) (segments : List (List ℕ)) (phase : Phase) (regs : Regs)
    → HoldsOf segments held → arrived held phase ≡ Ok tt → finished held phase regs ≡ finished (slice_get segments) phase regs
unfolding arrived finished
finished_of held segments Ready regs of here = refl
finished_of held segments (Entering seg entry) regs of here =
    ap (λ (words : List ℕ). record regs { seg = seg; p = label_of words entry }) (same_words (held seg) (slice_get segments seg) seg (of seg) here)
finished_of held segments (Returning seg offset) regs of here = refl

-- a segment that is no answer's but its own number's is not there
missing : (known held : Option (List ℕ)) (seg gone : ℕ) → present seg known ≡ Err gone → known ≡ held → held ≡ None
missing None held seg gone e same = sym same
missing (Some words) held seg gone e same = cc

-- the segment that is waited for is not held
pub absent_of : (held : ℕ → Option (List ℕ)) (phase : Phase) (seg gone : ℕ) → arrived held phase ≡ Err gone → destination phase ≡ Some seg
    → held seg ≡ None
unfolding arrived
absent_of held Ready seg gone e is = cc
absent_of held (Entering to entry) seg gone e is = missing (held to) (held seg) to gone e (ap (λ (o : Option ℕ). held (unwrap_or o seg)) is)
absent_of held (Returning to offset) seg gone e is = missing (held to) (held seg) to gone e (ap (λ (o : Option ℕ). held (unwrap_or o seg)) is)

-- what a call answers that went
abbrev on_its_way : Phase → Result Called Trap
on_its_way phase = Ok (Went phase)

abbrev leaving : Machine → Outcome
leaving m = Ok m

-- a transfer of which the second part was tried is one of the same row: either it is finished, or it is as it was
pub transfers_on : (segments : List (List ℕ)) (row : Machine → Outcome) (left : ℕ) (regs : Regs) (s : Seen) (phase further : Phase)
    (next later : Regs) (after : Seen)
    → finished (slice_get segments) further later ≡ finished (slice_get segments) phase next
    → ((seg : ℕ) → destination further ≡ Some seg → (further ≡ phase) × (later ≡ next))
    → Transfers segments row left regs s (on_its_way phase) next after
    → Transfers segments row left regs s (on_its_way further) later after
transfers_on segments row left regs s phase further next later after same waits t = by further same waits where
  arrange : (further : Phase) → finished (slice_get segments) further later ≡ finished (slice_get segments) phase next → (further ≡ phase) × (later ≡ next)
      → Transfers segments row left regs s (on_its_way further) later after
  arrange further same (e, f) =
      subst (λ p. Transfers segments row left regs s (on_its_way p) later after) (sym e)
      (subst (λ r. Transfers segments row left regs s (on_its_way phase) r after) (sym f) t)

  by : (further : Phase) → finished (slice_get segments) further later ≡ finished (slice_get segments) phase next
      → ((seg : ℕ) → destination further ≡ Some seg → (further ≡ phase) × (later ≡ next))
      → Transfers segments row left regs s (on_its_way further) later after
  by Ready same waits = record {
    goes = λ rest. ((t.goes rest).0 ∙ ap (λ (r : Regs). leaving (standing r after rest)) (sym same), tt);
    moves = t.moves;
    same_capacity = t.same_capacity;
    same_extra_capacity = t.same_extra_capacity;
  }
  by (Entering seg entry) same waits = arrange (Entering seg entry) same (waits seg refl)
  by (Returning seg offset) same waits = arrange (Returning seg offset) same (waits seg refl)
