-- IF on the condition code: one branch, by the code that a call has left.
use Rattle.std.proofs.Common.{◌≡◌, ℕ, ◌+◌, ◌-◌, Bool, true, false, refl, ap, subst, ◌∙◌, arith, inl}
use Rattle.std.specs.Prelude.{Option, Some, None, if◌then◌else◌}
use Rattle.spl_statement_code.specs.hp_word.declared.arithmetic.Code.{Code}
use Rattle.spl_statement_code.specs.hp_instr.declared.instruction.Instr.TheVariants as i
use Rattle.spl_control.specs.hp_session.State.{Machine}
use Rattle.spl_control.specs.hp_memory_rows.MemoryRows.{is_named}
use Rattle.spl_statement_code.specs.spl_tree.declared.names_and_places.At.{At}
use Rattle.spl_statement_code.specs.spl_meaning.Names.{truth_word}
use Rattle.spl_statement_code.specs.spl_meaning.Operations as run
use Rattle.spl_statement_code.specs.spl_meaning.Operations.{is_odd}
use Rattle.spl_statement_code.specs.spl_meaning.States.{State, Outcome, done, without_code, noted, code_dropped}
use Rattle.spl_statement_code.specs.spl_meaning.Statements.{code_tested}
use Rattle.spl_statement_code.specs.spl_code.Code.{related}
use Rattle.spl_statement_code.specs.spl_code.Operators.{failing_codes}
use Rattle.spl_control.specs.spl_follow.Spots.{Spot, pos, landed}
use Rattle.spl_control.specs.spl_follow.Leading.{Leads}
use Rattle.spl_control.specs.spl_follow.Matching.{Coded}
use Rattle.spl_control.specs.spl_follow.Following.{Owes, tally, tally_with, Follows}
use Rattle.spl_control.specs.spl_follow.Doing.{turning}
use Rattle.spl_control.specs.spl_follow.Parts.{Begins, Completes, Leaving}
use Rattle.spl_control.specs.spl_follow.Simulating.{Surroundings}
use Rattle.spl_control.proofs.spl_follow_proofs.FollowLemmas.{spend_follows}
use Rattle.spl_control.proofs.spl_follow_proofs.KeepLemmas.{kept_same}
use Rattle.spl_control.proofs.spl_follow_proofs.RowLemmas.{no_print, shown, stray_here}
use Rattle.spl_control.proofs.spl_follow_proofs.WayLemmas.{goes_wider, lead}
use Rattle.spl_conditions.proofs.spl_values_proofs.WholeLemmas.{whole_pieces}
use Rattle.spl_conditions.proofs.BranchLemmas.{branch_leads}
use Rattle.spl_conditions.proofs.RelationLemmas.{fails_where}
use Rattle.spl_choices.specs.Laws.{told, CodeChoicesPerform, CodeEitherPerforms}
use Rattle.spl_choices.proofs.ChoiceLemmas.{Tests, choice_inside, either_inside}

-- ---- the test

-- a truth value is odd where it is true
truth_odd : (b : Bool) → is_odd (truth_word b) ≡ b
truth_odd true = refl
truth_odd false = refl

-- what a statement that begins owes, with the code that is known
begun_owes : (z : Surroundings) (d number : ℕ) (at : At) (p : Spot) (k need : ℕ) (s : State) (m : Machine) (left : ℕ) → Begins z.setting d p k need s m
    → Owes (Some at) s.begun (without_code (noted number at (record s { left = left }))) m
begun_owes z d number at p k need s m left b = (
  record { number = number; at = at; data' = s.now; code = s.code },
  record { place = refl; setting = z.setting; waiting = k; matches = b.matches; coded = b.coded },
  refl,
)

-- BCC leads to the mark where the relation does not hold of the code
code_tests : (z : Surroundings) (d number op : ℕ) (at : At) (p : Spot) (k need : ℕ) (s : State) (m : Machine) (left : ℕ) (c : Code) → Begins z.setting d p k need s m
    → s.code ≡ Some c
    → Tests z k (λ fail. related op fail) (record { at = p; due = Some at }) (without_code (noted number at (record s { left = left }))) s.begun m
    (done (run.related op c) (without_code (noted number at (record s { left = left }))))
code_tests z d number op at p k need s m left c b known = record {
  whole = λ fail. whole_pieces _ refl;
  follows = λ fail h ws r stands front.
      let g = z.ground in
      let w = z.rate in
      let to = z.sites.marks fail in
      let t = without_code (noted number at (record s { left = left })) in
      let n : Machine = landed (if is_named (failing_codes op) m.regs.code then to else r) m in
      let leads = branch_leads g z.sites (record { at = p; due = Some at }) (i.OnCode (failing_codes op) false 0) fail r stands in
      let shows = shown z.setting s m k b.matches in
      let code : m.regs.code ≡ c = subst (λ (o : Option Code). Coded o m.regs.code) known b.coded in
      let turn : (if is_named (failing_codes op) m.regs.code then to else r) ≡ (if run.related op c then r else to) =
      ap (λ (x : Code). if is_named (failing_codes op) x then to else r) code ∙ fails_where op c to r ∙ ap (λ (x : Bool). if x then r else to) (truth_odd (run.related op c)) in (
        n,
        goes_wider g w (pos r - pos p) 0 w.reach (pos r - pos p) 1 w.reach (tally_with s.begun t) m (tally t) n
            (lead g w (record { at = p; due = Some at }) r (turning (i.OnCode (failing_codes op) false 0) to r) s.begun t m n leads b.at shows.ending
            (begun_owes z d number at p k need s m left b) refl (no_print m n refl)) (omega arith) (omega arith),
        (record { at = turn; matches = b.matches; kept = kept_same (s.now.top + k) s.now m.stack; coded = tt }, refl),
      );
}

-- ---- the statement

-- A statement on the code begins: it spends a step, and where a code is known what is followed from the test on is followed.
code_begins : (z : Surroundings) (d number op : ℕ) (at : At) (p q : Spot) (k need : ℕ) (s : State) (m : Machine) (go : Bool → State → Outcome (Unit {0}))
    → Begins z.setting d p k need s m → (r : Spot) (F : Machine → Machine) → Leads z.ground (record { at = p; due = Some at }) r F
    → ((n : ℕ) (c : Code) → s.left ≡ n + 1 → s.code ≡ Some c
    → Follows z.ground z.rate z.rate.step 2 3 (tally_with s.begun (record s { left = n })) m (Completes z.setting q k s.now m) (Leaving z.setting z.exits k s.now m)
    (go (run.related op c) (without_code (noted number at (record s { left = n })))))
    → Follows z.ground z.rate 0 3 3 (tally s) m (Completes z.setting q k s.now m) (Leaving z.setting z.exits k s.now m) (told number op at s go)
code_begins z d number op at p q k need s m go b r F leads rest =
    spend_follows z.ground z.rate z.rate.step 2 0 3 3 s s.begun m (Completes z.setting q k s.now m) (Leaving z.setting z.exits k s.now m)
    (λ t. code_tested op t.code (noted number at t) (λ x u. go x (without_code u))) (shown z.setting s m k b.matches) (inl refl)
    (λ n is. by n (omega (arith, is)) s.code refl) (omega arith) (omega arith) where
      by : (n : ℕ) → s.left ≡ n + 1 → (o : Option Code) → s.code ≡ o
          → Follows z.ground z.rate z.rate.step 2 3 (tally_with s.begun (record s { left = n })) m (Completes z.setting q k s.now m) (Leaving z.setting z.exits k s.now m)
          (code_tested op o (noted number at (record s { left = n })) (λ x u. go x (without_code u)))
      by n is (Some c) known = rest n c is known
      by n is None known =
          stray_here z.ground z.rate z.rate.step 2 3 z.setting (record { at = p; due = Some at }) k (noted number at (record s { left = n })) s.begun m
          (Completes z.setting q k s.now m) (Leaving z.setting z.exits k s.now m) leads.start b.at (begun_owes z d number at p k need s m n b) b.matches

pub code_choices : CodeChoicesPerform
code_choices z d k need number op at a yes' whole x = record {
  does = λ h ws p q s m stands front pays b.
      code_begins z d number op at p q k need s m (λ c v. code_dropped (if c then yes' v else done tt v)) b stands.1.0 _ stands.1.1
      (λ n c is known. let fuel = b.fuel in
      let v = without_code (noted number at (record s { left = n })) in
      choice_inside z d k need (h + 0) ws at (λ fail. related op fail) a (done (run.related op c) v) yes' p q v s.begun m
      (code_tests z d number op at p k need s m n c b known) whole x stands.1 front pays b.room (omega (arith, fuel, is)));
}

pub code_eithers : CodeEitherPerforms
code_eithers z d k need number op at a b yes' no' wa wb xa xb = record {
  does = λ h ws p q s m stands front pays begins.
      code_begins z d number op at p q k need s m (λ c v. code_dropped (if c then yes' v else no' v)) begins stands.1.0 _ stands.1.1
      (λ n c is known. let fuel = begins.fuel in
      let v = without_code (noted number at (record s { left = n })) in
      either_inside z d k need (h + 0) ws at (λ fail. related op fail) a b (done (run.related op c) v) yes' no' p q v s.begun m
      (code_tests z d number op at p k need s m n c begins known) wa wb xa xb stands.1 front pays begins.room (omega (arith, fuel, is)));
}
