-- One part after another: each lemma once, for every outcome.
use Rattle.std.proofs.Common.{◌≡◌, ℕ, zero, suc, ◌+◌, ◌*◌, ◌≤◌, refl, sym, ap, subst, ◌∙◌, arith, inl}
use Rattle.std.specs.Prelude.{List, ◌++◌}
use Rattle.hp_flat.specs.hp_word.declared.endings.Ending.TheVariants.{Running}
use Rattle.hp_flat.specs.hp_session.State.{Machine}
use Rattle.spl_code.specs.spl_meaning.References.{Setting}
use Rattle.spl_code.specs.spl_meaning.Runs.{returned}
use Rattle.spl_code.specs.spl_meaning.States.{Data, State, Begun, Exit, Outcome, done, leaves, spent, ends, strays, to_label, back, then_go, step_of, stepping, without_code, code_dropped}
use Rattle.spl_follow.specs.Spots.{Spot, Ground, visits, prints}
use Rattle.spl_follow.specs.Matching.{Shows}
use Rattle.spl_follow.specs.Following.{Logged, Rate, Tally, tally, tally_with, Goes, Behind, Follows, NoExit}
use Rattle.spl_follow.specs.Parts.{Completes, Returning}
use Rattle.spl_follow.proofs.WayLemmas.{goes_none, goes_on, goes_wider}

-- ---- one after another

-- a stretch, and then a part
pub then_follows : {A : Type 0} (g : Ground) (w : Rate) (a ga ea b gb eb c lag e : ℕ) (t : Tally) (m : Machine) (t1 : Tally) (m1 : Machine)
    (P : A → State → Machine → Type 0) (J : Exit → State → Machine → Type 0) (o : Outcome A) → Goes g w a ga ea t m t1 m1
    → Follows g w b gb eb t1 m1 P J o → a + b ≤ c → ga + gb ≤ lag + ea → ga + gb + e ≤ lag + ea + eb → Follows g w c lag e t m P J o
then_follows g w a ga ea b gb eb c lag e t m t1 m1 P J (done x s) before f charges first spare =
    (f.0, goes_on g w a ga ea b gb eb c lag e t m t1 m1 (tally s) f.0 before f.1 charges spare, f.2)
then_follows g w a ga ea b gb eb c lag e t m t1 m1 P J (leaves x s) before f charges first spare =
    (f.0, goes_on g w a ga ea b gb w.reach c lag w.reach t m t1 m1 (tally s) f.0 before f.1 charges (omega (arith, first)), f.2)
then_follows g w a ga ea b gb eb c lag e t m t1 m1 P J (spent s) before f charges first spare =
    (f.0, f.1, goes_on g w a ga ea b gb 0 c lag 0 t m t1 m1 (tally_with f.1 s) f.0 before f.2 charges (omega (arith, first)), f.3, f.4, f.5)
then_follows g w a ga ea b gb eb c lag e t m t1 m1 P J (ends x s) before f charges first spare =
    (f.0, goes_on g w a ga ea b gb 0 c lag 0 t m t1 m1 (tally s) f.0 before f.1 charges (omega (arith, first)), f.2)
then_follows g w a ga ea b gb eb c lag e t m t1 m1 P J (strays s) before f charges first spare =
    (f.0, f.1, goes_on g w a ga ea b gb 0 c lag 0 t m t1 m1 (tally_with f.1 s) f.0 before f.2 charges (omega (arith, first)), f.3, f.4)

-- a part, and then what follows from its value, which may know that no step has come back
pub bind_follows : {A B : Type 0} (g : Ground) (w : Rate) (a ga ea b gb eb c lag e : ℕ) (t : Tally) (m : Machine)
    (Q : A → State → Machine → Type 0) (P : B → State → Machine → Type 0) (J : Exit → State → Machine → Type 0) (o : Outcome A)
    (go : A → State → Outcome B) → Follows g w a ga ea t m Q J o
    → ((x : A) (s1 : State) (m1 : Machine) → Q x s1 m1 → s1.left ≤ t.left → Follows g w b gb eb (tally s1) m1 P J (go x s1))
    → a + b ≤ c → ga ≤ lag → ga + gb ≤ lag + ea → ga + gb + e ≤ lag + ea + eb → Follows g w c lag e t m P J (then_go o go)
bind_follows g w a ga ea b gb eb c lag e t m Q P J (done x s) go f rest charges before first spare =
    then_follows g w a ga ea b gb eb c lag e t m (tally s) f.0 P J (go x s) f.1 (rest x s f.0 f.2 f.1.less) charges first spare
bind_follows g w a ga ea b gb eb c lag e t m Q P J (leaves x s) go f rest charges before first spare =
    (f.0, goes_wider g w a ga w.reach c lag w.reach t m (tally s) f.0 f.1 (omega (arith, charges)) (omega (arith, before)), f.2)
bind_follows g w a ga ea b gb eb c lag e t m Q P J (spent s) go f rest charges before first spare =
    (f.0, f.1, goes_wider g w a ga 0 c lag 0 t m (tally_with f.1 s) f.0 f.2 (omega (arith, charges)) (omega (arith, before)), f.3, f.4, f.5)
bind_follows g w a ga ea b gb eb c lag e t m Q P J (ends x s) go f rest charges before first spare =
    (f.0, goes_wider g w a ga 0 c lag 0 t m (tally s) f.0 f.1 (omega (arith, charges)) (omega (arith, before)), f.2)
bind_follows g w a ga ea b gb eb c lag e t m Q P J (strays s) go f rest charges before first spare =
    (f.0, f.1, goes_wider g w a ga 0 c lag 0 t m (tally_with f.1 s) f.0 f.2 (omega (arith, charges)) (omega (arith, before)), f.3, f.4)

-- ---- weaker

-- charges may be more, and what is to spare less
pub widen : {A : Type 0} (g : Ground) (w : Rate) (a ga ea c lag e : ℕ) (t : Tally) (m : Machine) (P : A → State → Machine → Type 0)
    (J : Exit → State → Machine → Type 0) (o : Outcome A) → Follows g w a ga ea t m P J o → a ≤ c → ga ≤ lag → ga + e ≤ lag + ea
    → Follows g w c lag e t m P J o
widen g w a ga ea c lag e t m P J (done x s) f charges before spare =
    (f.0, goes_wider g w a ga ea c lag e t m (tally s) f.0 f.1 charges spare, f.2)
widen g w a ga ea c lag e t m P J (leaves x s) f charges before spare =
    (f.0, goes_wider g w a ga w.reach c lag w.reach t m (tally s) f.0 f.1 charges (omega (arith, before)), f.2)
widen g w a ga ea c lag e t m P J (spent s) f charges before spare =
    (f.0, f.1, goes_wider g w a ga 0 c lag 0 t m (tally_with f.1 s) f.0 f.2 charges (omega (arith, before)), f.3, f.4, f.5)
widen g w a ga ea c lag e t m P J (ends x s) f charges before spare =
    (f.0, goes_wider g w a ga 0 c lag 0 t m (tally s) f.0 f.1 charges (omega (arith, before)), f.2)
widen g w a ga ea c lag e t m P J (strays s) f charges before spare =
    (f.0, f.1, goes_wider g w a ga 0 c lag 0 t m (tally_with f.1 s) f.0 f.2 charges (omega (arith, before)), f.3, f.4)

-- what holds where a part is done, or left, may be less
pub weaken : {A : Type 0} (g : Ground) (w : Rate) (c lag e : ℕ) (t : Tally) (m : Machine) (P Q : A → State → Machine → Type 0)
    (J K : Exit → State → Machine → Type 0) (o : Outcome A) → Follows g w c lag e t m P J o
    → ((x : A) (s : State) (n : Machine) → P x s n → s.left ≤ t.left → Q x s n) → ((x : Exit) (s : State) (n : Machine) → J x s n → K x s n)
    → Follows g w c lag e t m Q K o
weaken g w c lag e t m P Q J K (done x s) f less out = (f.0, f.1, less x s f.0 f.2 f.1.less)
weaken g w c lag e t m P Q J K (leaves x s) f less out = (f.0, f.1, out x s f.0 f.2)
weaken g w c lag e t m P Q J K (spent s) f less out = f
weaken g w c lag e t m P Q J K (ends x s) f less out = f
weaken g w c lag e t m P Q J K (strays s) f less out = f

-- a part without a way out stands among others
pub no_exit : {A : Type 0} (g : Ground) (w : Rate) (c lag e : ℕ) (t : Tally) (m : Machine) (P : A → State → Machine → Type 0)
    (J : Exit → State → Machine → Type 0) (o : Outcome A) → Follows g w c lag e t m P NoExit o → Follows g w c lag e t m P J o
no_exit g w c lag e t m P J o f = weaken g w c lag e t m P P NoExit J o f (λ x s n h l. h) (λ x s n h. absurd h)

-- ---- a step of the run

-- a stretch behind a step that was spent
paid : (g : Ground) (w : Rate) (a b c lag e : ℕ) (t t1 : Tally) (m : Machine) (t2 : Tally) (m2 : Machine) → t.left ≡ suc t1.left → t.begun ≡ t1.begun
    → t.printed ≡ t1.printed → Goes g w a b e t1 m t2 m2 → a ≤ c + w.step → b + 1 ≤ lag → Goes g w c lag e t m t2 m2
paid g w a b c lag e t t1 m t2 m2 is begun printed x pays before =
    let worth : w.step * t.left ≡ w.step * t1.left + w.step = ap (λ (i : ℕ). w.step * i) is ∙ omega arith in
    record {
      n = x.n;
      goes = x.goes;
      cost = omega (arith, x.cost, worth, pays);
      gain = omega (arith, x.gain, is, before);
      less = omega (arith, x.less, is);
      log = subst (λ (b : List Begun). Logged b (visits g x.n m) t2.begun) (sym begun) x.log;
      wrote = ap (λ (ps : List (List ℕ)). ps ++ prints g x.n m) printed ∙ x.wrote;
    }

-- each outcome behind it
paid_follows : {A : Type 0} (g : Ground) (w : Rate) (a b c lag e : ℕ) (t t1 : Tally) (m : Machine) (P : A → State → Machine → Type 0)
    (J : Exit → State → Machine → Type 0) (o : Outcome A) → t.left ≡ suc t1.left → t.begun ≡ t1.begun → t.printed ≡ t1.printed
    → Follows g w a b e t1 m P J o → a ≤ c + w.step → b + 1 ≤ lag → Follows g w c lag e t m P J o
paid_follows g w a b c lag e t t1 m P J (done x s) i j k f u v = (f.0, paid g w a b c lag e t t1 m (tally s) f.0 i j k f.1 u v, f.2)
paid_follows g w a b c lag e t t1 m P J (leaves x s) i j k f u v = (f.0, paid g w a b c lag w.reach t t1 m (tally s) f.0 i j k f.1 u v, f.2)
paid_follows g w a b c lag e t t1 m P J (spent s) i j k f u v =
    (f.0, f.1, paid g w a b c lag 0 t t1 m (tally_with f.1 s) f.0 i j k f.2 u v, f.3, f.4, f.5)
paid_follows g w a b c lag e t t1 m P J (ends x s) i j k f u v = (f.0, paid g w a b c lag 0 t t1 m (tally s) f.0 i j k f.1 u v, f.2)
paid_follows g w a b c lag e t t1 m P J (strays s) i j k f u v =
    (f.0, f.1, paid g w a b c lag 0 t t1 m (tally_with f.1 s) f.0 i j k f.2 u v, f.3, f.4)

-- A step of the run pays for as many of the machine as it is worth, and may come before the part's first instruction. The log may lack the
-- statement at which the machine stands.
pub spend_follows : {A : Type 0} (g : Ground) (w : Rate) (a b c lag e : ℕ) (s : State) (l : List Begun) (m : Machine)
    (P : A → State → Machine → Type 0) (J : Exit → State → Machine → Type 0) (go : State → Outcome A) → Shows Running s.now m → Behind g l s m
    → ((n : ℕ) → s.left ≡ suc n → Follows g w a b e (tally_with l (record s { left = n })) m P J (go (record s { left = n })))
    → a ≤ c + w.step → b + 1 ≤ lag → Follows g w c lag e (tally_with l s) m P J (stepping s go)
spend_follows {A = A} g w a b c lag e s l m P J go shows behind rest pays before = by s.left refl where
  by : (n : ℕ) → s.left ≡ n → Follows g w c lag e (tally_with l s) m P J (step_of n s go)
  by zero is = (m, l, goes_none g w c lag (tally_with l s) m, shows, is, behind)
  by (suc n) is =
      paid_follows g w a b c lag e (tally_with l s) (tally_with l (record s { left = n })) m P J (go (record s { left = n })) is refl refl (rest n is)
      pays before

-- ---- what stands behind a value

-- what is done with a value and nothing else is that value
pub go_done : {A : Type 0} (o : Outcome A) → then_go o (λ a s. done a s) ≡ o
go_done (done a s) = refl
go_done (leaves x s) = refl
go_done (spent s) = refl
go_done (ends e s) = refl
go_done (strays s) = refl

-- a part, and then a stretch of code in which the run does nothing
pub tail_follows : {A : Type 0} (g : Ground) (w : Rate) (a ga ea b gb eb c lag e : ℕ) (t : Tally) (m : Machine) (Q P : A → State → Machine → Type 0)
    (J : Exit → State → Machine → Type 0) (o : Outcome A) → Follows g w a ga ea t m Q J o
    → ((x : A) (s1 : State) (m1 : Machine) → Q x s1 m1 → s1.left ≤ t.left → Follows g w b gb eb (tally s1) m1 P J (done x s1))
    → a + b ≤ c → ga ≤ lag → ga + gb ≤ lag + ea → ga + gb + e ≤ lag + ea + eb → Follows g w c lag e t m P J o
tail_follows g w a ga ea b gb eb c lag e t m Q P J o f rest charges before first spare =
    subst (λ o. Follows g w c lag e t m P J o) (go_done o)
    (bind_follows g w a ga ea b gb eb c lag e t m Q P J o (λ x s. done x s) f rest charges before first spare)

-- what is kept of a part whose condition code is dropped
pub dropped_follows : {A : Type 0} (g : Ground) (w : Rate) (c lag e : ℕ) (t : Tally) (m : Machine) (P Q : A → State → Machine → Type 0)
    (J : Exit → State → Machine → Type 0) (o : Outcome A) → Follows g w c lag e t m P J o
    → ((a : A) (s : State) (n : Machine) → P a s n → Q a (without_code s) n) → Follows g w c lag e t m Q J (code_dropped o)
dropped_follows g w c lag e t m P Q J (done a s) f less = (f.0, f.1, less a s f.0 f.2)
dropped_follows g w c lag e t m P Q J (leaves x s) f less = f
dropped_follows g w c lag e t m P Q J (spent s) f less = f
dropped_follows g w c lag e t m P Q J (ends x s) f less = f
dropped_follows g w c lag e t m P Q J (strays s) f less = f

-- ---- bodies

-- a body that is left by RETURN is done, and one that is left by a jump strays
pub returned_follows : (g : Ground) (w : Rate) (c lag e : ℕ) (t : Tally) (m : Machine) (st : Setting) (q : Spot) (k : ℕ) (d : Data) (m0 : Machine)
    (o : Outcome (Unit {0})) → e ≤ w.reach → Follows g w c lag e t m (Completes st q k d m0) (Returning st q k d m0) o
    → Follows g w c lag e t m (Completes st q k d m0) NoExit (returned o)
returned_follows g w c lag e t m st q k d m0 (done u s) few f = f
returned_follows g w c lag e t m st q k d m0 (leaves back s) few f =
    (f.0, goes_wider g w c lag w.reach c lag e t m (tally s) f.0 f.1 (omega arith) (omega (arith, few)), f.2)
returned_follows g w c lag e t m st q k d m0 (leaves (to_label x) s) few f =
    (f.0, s.begun, goes_wider g w c lag w.reach c lag 0 t m (tally s) f.0 f.1 (omega arith) (omega arith), f.2, inl refl)
returned_follows g w c lag e t m st q k d m0 (spent s) few f = f
returned_follows g w c lag e t m st q k d m0 (ends x s) few f = f
returned_follows g w c lag e t m st q k d m0 (strays s) few f = f
