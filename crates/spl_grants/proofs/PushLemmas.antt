-- A constant that is pushed, by one instruction or by three: where STACK has no room for it the first one traps.
use Rattle.std.proofs.Common.{◌≡◌, ℕ, ◌-◌, ◌*◌, ◌/◌, ◌%◌, ◌<◌, ◌≤◌, Bool, true, false, [], ◌∷◌, length, refl, ap, subst, ◌∙◌, arith}
use Rattle.std.specs.Prelude.{◌^◌, nat_lt, if◌then◌else◌, bit_or, Err}
use Rattle.std.proofs.lemmas.Bool.{ltb-true}
use Rattle.std.proofs.lemmas.Bool.Decides.{nat_tests}
use Rattle.spl_body_code.specs.hp_word.Bits.{shifted}
use Rattle.spl_body_code.proofs.hp_word_proofs.ShiftLemmas.{shifted-Lsl}
use Rattle.spl_body_code.specs.hp_word.declared.endings.Ending.TheVariants.{Running, Trapped}
use Rattle.spl_body_code.specs.hp_word.declared.endings.Trap.TheVariants.{StackOverflow}
use Rattle.spl_body_code.specs.hp_instr.declared.instruction.Instr.TheVariants as i
use Rattle.spl_values.specs.hp_session.State.{Machine, Outcome as Row, pushing}
use Rattle.spl_values.specs.hp_word_rows.WordRows.{minus, shift_of, shifting, immediate_row}
use Rattle.spl_values.specs.hp_flat.Step.{at_left}
use Rattle.spl_values.proofs.hp_yields_proofs.WordYields as rows
use Rattle.spl_body_code.specs.spl_code.Constants.{constant}
use Rattle.spl_body_code.specs.spl_code.Instructions.{LDI, LDNI, LSL, ORI}
use Rattle.spl_values.specs.spl_follow.Spots.{Spot, spot, pos, landed, on, Ground}
use Rattle.spl_values.specs.spl_follow.Leading.{Leads}
use Rattle.spl_values.specs.spl_follow.Following.{Rate, Tally, Goes}
use Rattle.spl_values.specs.spl_follow.Doing.{going, doing}
use Rattle.spl_values.specs.spl_follow.Standing.{Sites, Stands}
use Rattle.spl_values.specs.spl_follow.Yielding.{Yields}
use Rattle.spl_values.proofs.spl_follow_proofs.WayLemmas.{goes_on, goes_wider}
use Rattle.spl_values.proofs.ConstantLemmas.{minus_is, bytes_joined}
use Rattle.spl_values.proofs.GiveLemmas.{last_leads}
use Rattle.spl_grants.proofs.StepLemmas.{step_goes, step_traps, Holds, holds_runs, holds_top, holds_one, row_holds, row_replaces}

-- From p to r a word is pushed: where there is room for it the machine has it on top, and where there is none it traps.
pub record Pushes (g : Ground) (w : Rate) (p r : Spot) (v : ℕ) : Type 0 where
  pub enough : (m : Machine) → spot m ≡ p → m.ending ≡ Running → length m.stack < m.stack_limit → (t : Tally)
      → (n : Machine) × Goes g w (pos r - pos p) 0 w.reach t m t n × Holds r m v n
  pub lacking : (m : Machine) → spot m ≡ p → m.ending ≡ Running → m.stack_limit ≤ length m.stack → (t : Tally)
      → (n : Machine) × Goes g w (pos r - pos p) 0 0 t m t n × (n.ending ≡ Trapped StackOverflow) × (n.printed ≡ m.printed)

-- ---- one instruction

-- a row that pushes, or traps where there is no room
row_pushes : (g : Ground) (w : Rate) (p r : Spot) (F : Machine → Machine) (v : ℕ) (o : Machine → Row) → Leads g (on p) r F
    → ((m : Machine) → F m ≡ going r (o m) m) → ((m : Machine) → length m.stack < m.stack_limit → Yields 0 (v ∷ []) m (o m))
    → ((m : Machine) → m.stack_limit ≤ length m.stack → o m ≡ Err StackOverflow) → Pushes g w p r v
row_pushes g w p r F v o leads is yields traps = record {
  enough = λ m at runs room t.
      let y = yields m room in (landed r y.left, step_goes g w p r F t m 0 (v ∷ []) (o m) leads (is m) at runs y, row_holds r m v (o m) y);
  lacking = λ m at runs full t. (record m { ending = Trapped StackOverflow }, step_traps g w p r F t m (o m) StackOverflow leads (is m) at runs (traps m full), refl, refl);
}

-- no room for a word
not_pushed : (v : ℕ) (m : Machine) → m.stack_limit ≤ length m.stack → pushing v m ≡ Err StackOverflow
not_pushed v m full = let none : nat_lt (length m.stack) m.stack_limit ≡ false = grind (arith, nat_tests, full) in rw none refl

number_not_pushed : (v : ℕ) (m : Machine) → m.stack_limit ≤ length m.stack → immediate_row 1 v m ≡ Err StackOverflow
unfolding immediate_row
number_not_pushed v m full = not_pushed v m full

minus_not_pushed : (v : ℕ) (m : Machine) → m.stack_limit ≤ length m.stack → immediate_row 8 v m ≡ Err StackOverflow
unfolding immediate_row
minus_not_pushed v m full = not_pushed (minus v) m full

-- LDI
number_pushes : (g : Ground) (w : Rate) (p r : Spot) (v : ℕ) → Leads g (on p) r (doing g.segments (i.Immediate 1 v) r) → Pushes g w p r v
number_pushes g w p r v leads =
    row_pushes g w p r (doing g.segments (i.Immediate 1 v) r) v (λ m. immediate_row 1 v (at_left m)) leads (λ m. refl)
    (λ m room. (rows.number_pushed v (at_left m) room).words) (λ m full. number_not_pushed v (at_left m) full)

-- LDNI
minus_pushes : (g : Ground) (w : Rate) (p r : Spot) (v c : ℕ) → minus v ≡ c → Leads g (on p) r (doing g.segments (i.Immediate 8 v) r) → Pushes g w p r c
minus_pushes g w p r v c same leads =
    row_pushes g w p r (doing g.segments (i.Immediate 8 v) r) c (λ m. immediate_row 8 v (at_left m)) leads (λ m. refl)
    (λ m room. subst (λ (u : ℕ). Yields 0 (u ∷ []) m (immediate_row 8 v (at_left m))) same (rows.minus_pushed v (at_left m) room).words)
    (λ m full. minus_not_pushed v (at_left m) full)

-- ---- more than one

-- a word that is pushed, and then one in its place
push_replaced : (g : Ground) (w : Rate) (p r q : Spot) (F : Machine → Machine) (v u : ℕ) (o : Machine → Row) → pos p ≤ pos r → Leads g (on r) q F
    → ((m : Machine) → F m ≡ going q (o m) m) → ((m n : Machine) → Holds r m v n → Yields 1 (u ∷ []) n (o n)) → Pushes g w p r v → Pushes g w p q u
push_replaced g w p r q F v u o before leads is yields first = record {
  enough = λ m at runs room t.
      let a = first.enough m at runs room t in
      let y = yields m a.0 a.2 in
      let rise = leads.rise in
      let many = w.enough in (
        landed q y.left,
        goes_on g w (pos r - pos p) 0 w.reach (pos q - pos r) 0 w.reach (pos q - pos p) 0 w.reach t m t a.0 t (landed q y.left) a.1
            (step_goes g w r q F t a.0 1 (u ∷ []) (o a.0) leads (is a.0) a.2.at (holds_runs r m v a.0 a.2 runs) y) (omega (arith, before, rise)) (omega (arith, many)),
        row_replaces r q m v u a.0 (o a.0) y a.2,
      );
  lacking = λ m at runs full t.
      let a = first.lacking m at runs full t in
      let rise = leads.rise in
      (a.0, goes_wider g w (pos r - pos p) 0 0 (pos q - pos p) 0 0 t m t a.0 a.1 (omega (arith, before, rise)) (omega arith), a.2, a.3);
}

-- LSL by eight, and ORI
shift_yields : (v : ℕ) (p : Spot) (m n : Machine) → v < 256 → Holds p m v n → Yields 1 (v * 2 ^ 8 ∷ []) n (shifting 2 8 (at_left n))
unfolding shift_of
shift_yields v p m n low h =
    let fits : v * 2 ^ 8 % 65536 ≡ v * 2 ^ 8 = omega (arith, low) in
    subst (λ (u : ℕ). Yields 1 (u ∷ []) n (shifting 2 8 (at_left n)))
    (ap (λ (u : ℕ). shifted (shift_of 2) u 8) (holds_top p m v n h) ∙ shifted-Lsl v 8 (omega arith) ∙ fits)
    (rows.shift 2 8 (at_left n) (holds_one p m v n h)).words

or_yields : (v u c : ℕ) (p : Spot) (m n : Machine) → bit_or v u ≡ c → Holds p m v n → Yields 1 (c ∷ []) n (immediate_row 14 u (at_left n))
or_yields v u c p m n is h =
    subst (λ (x : ℕ). Yields 1 (x ∷ []) n (immediate_row 14 u (at_left n))) (ap (λ (x : ℕ). bit_or x u) (holds_top p m v n h) ∙ is)
    (rows.number_or u (at_left n) (holds_one p m v n h)).words

-- By which instructions: one of the first 256, one of the last 255, and each other.
pub constant_pushes : (g : Ground) (w : Rate) (sites : Sites) (p q : Spot) (c : ℕ) → c < 65536 → Stands g sites (on p) (constant c) q → Pushes g w p q c
constant_pushes g w sites p q c small = by (nat_lt c 256) refl (nat_lt 65280 c) refl where
  by : (x : Bool) → nat_lt c 256 ≡ x → (y : Bool) → nat_lt 65280 c ≡ y
      → Stands g sites (on p) (if x then LDI c ∷ [] else if y then LDNI (65536 - c) ∷ [] else LDI (c / 256) ∷ LSL 8 ∷ ORI (c % 256) ∷ []) q
      → Pushes g w p q c
  by true e y f stands = number_pushes g w p q c (last_leads g sites (on p) (i.Immediate 1 c) q stands)
  by false e true f stands =
      minus_pushes g w p q (65536 - c) c (minus_is c (ltb-true 65280 c f) small) (last_leads g sites (on p) (i.Immediate 8 (65536 - c)) q stands)
  by false e false f stands =
      let high : c / 256 < 256 = omega (arith, small) in
      let one = stands.1.rise in
      let two = stands.2.1.rise in
      push_replaced g w p stands.2.0 q (doing g.segments (i.Immediate 14 (c % 256)) q) (c / 256 * 2 ^ 8) c (λ m. immediate_row 14 (c % 256) (at_left m))
      (omega (arith, one, two)) (last_leads g sites (on stands.2.0) (i.Immediate 14 (c % 256)) q stands.2.2) (λ m. refl)
      (λ m n h. or_yields (c / 256 * 2 ^ 8) (c % 256) c stands.2.0 m n (bytes_joined c) h)
      (push_replaced g w p stands.0 stands.2.0 (doing g.segments (i.Shifted 2 8) stands.2.0) (c / 256) (c / 256 * 2 ^ 8) (λ m. shifting 2 8 (at_left m))
      (omega (arith, one)) stands.2.1 (λ m. refl) (λ m n h. shift_yields (c / 256) stands.0 m n high h)
      (number_pushes g w p stands.0 (c / 256) stands.1))
