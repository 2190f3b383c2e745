-- Parts of a run, from where it is not lost: that they do not come to what has no meaning, and what is said of their values.
use Rattle.std.proofs.Common.{◌≡◌, ℕ, zero, suc, Bool, true, false, List, [], ◌∷◌, length, arith}
use Rattle.std.specs.Prelude.{if◌then◌else◌}
use Rattle.spl_covered.specs.spl_meaning.Elements.{with_one}
use Rattle.spl_covered.specs.spl_meaning.States.{State, End, Outcome, done, leaves, spent, ends, strays, then_go, step_of, stepping, code_dropped}
use Rattle.spl_covered.specs.spl_values.spl_frames.Sizes.{IsDone}
use Rattle.spl_safe_values.specs.Safe.{Safe}

-- a safe outcome, with what is said of its value, where there is one
abbrev pub Came : {A : Type 0} → (A → Type 0) → Outcome A → Type 0
Came P (done a t) = (t.lost ≡ false) × P a
Came P (leaves x t) = ⊥
Came P (spent t) = t.lost ≡ false
Came P (ends e t) = t.lost ≡ false
Came P (strays t) = t.lost ≡ false

-- a part that comes to such from where the run is not lost
pub record Comes {A : Type 0} (P : A → Type 0) (f : State → Outcome A) : Type 0 where
  pub is : (s : State) → s.lost ≡ false → Came P (f s)

-- nothing is said
abbrev pub Free : {A : Type 0} → A → Type 0
Free a = Unit {0}

-- one word, two words
abbrev pub One : List ℕ → Type 0
One vs = length vs ≡ 1

abbrev pub Two : List ℕ → Type 0
Two vs = length vs ≡ 2

-- ---- what it says

pub came_safe : {A : Type 0} (P : A → Type 0) (o : Outcome A) → Came P o → Safe o
came_safe P (done a t) h = h.0
came_safe P (leaves x t) h = absurd h
came_safe P (spent t) h = h
came_safe P (ends e t) h = h
came_safe P (strays t) h = h

pub came_done : {A : Type 0} (P : A → Type 0) (o : Outcome A) → Came P o → IsDone P o
came_done P (done a t) h = h.1
came_done P (leaves x t) h = tt
came_done P (spent t) h = tt
came_done P (ends e t) h = tt
came_done P (strays t) h = tt

-- and what makes it up
pub safe_came : {A : Type 0} (P : A → Type 0) (o : Outcome A) → Safe o → IsDone P o → Came P o
safe_came P (done a t) h p = (h, p)
safe_came P (leaves x t) h p = absurd h
safe_came P (spent t) h p = h
safe_came P (ends e t) h p = h
safe_came P (strays t) h p = h

-- ---- composition

pub came_go : {A B : Type 0} (P : A → Type 0) (Q : B → Type 0) (o : Outcome A) (g : A → State → Outcome B) → Came P o
    → ((a : A) → P a → Comes Q (g a)) → Came Q (then_go o g)
came_go P Q (done a t) g h more = (more a h.1).is t h.0
came_go P Q (leaves x t) g h more = absurd h
came_go P Q (spent t) g h more = h
came_go P Q (ends e t) g h more = h
came_go P Q (strays t) g h more = h

pub comes_go : {A B : Type 0} {P : A → Type 0} {Q : B → Type 0} {f : State → Outcome A} {g : A → State → Outcome B} → Comes P f
    → ((a : A) → P a → Comes Q (g a)) → Comes Q (λ s. then_go (f s) g)
comes_go {P = P} {Q = Q} {f = f} {g = g} h more = record { is = λ s e. came_go P Q (f s) g (h.is s e) more }

pub came_more : {A : Type 0} (P Q : A → Type 0) (o : Outcome A) → Came P o → ((a : A) → P a → Q a) → Came Q o
came_more P Q (done a t) h more = (h.0, more a h.1)
came_more P Q (leaves x t) h more = absurd h
came_more P Q (spent t) h more = h
came_more P Q (ends e t) h more = h
came_more P Q (strays t) h more = h

pub comes_more : {A : Type 0} {P Q : A → Type 0} {f : State → Outcome A} → Comes P f → ((a : A) → P a → Q a) → Comes Q f
comes_more {P = P} {Q = Q} {f = f} h more = record { is = λ s e. came_more P Q (f s) (h.is s e) more }

pub comes_done : {A : Type 0} {P : A → Type 0} (a : A) → P a → Comes P (λ s. done a s)
comes_done a p = record { is = λ s e. (e, p) }

pub comes_ends : {A : Type 0} {P : A → Type 0} (x : End) → Comes {A = A} P (λ s. ends x s)
comes_ends x = record { is = λ s e. e }

pub comes_spent : {A : Type 0} {P : A → Type 0} → Comes {A = A} P (λ s. spent s)
comes_spent = record { is = λ s e. e }

pub comes_if : {A : Type 0} {P : A → Type 0} (b : Bool) {f g : State → Outcome A} → Comes P f → Comes P g → Comes P (λ s. if b then f s else g s)
comes_if true h i = h
comes_if false h i = i

pub came_step : {A : Type 0} (P : A → Type 0) (n : ℕ) (s : State) (g : State → Outcome A) → s.lost ≡ false → Comes P g → Came P (step_of n s g)
came_step P zero s g e h = e
came_step P (suc n) s g e h = h.is (record s { left = n }) e

pub comes_step : {A : Type 0} {P : A → Type 0} {g : State → Outcome A} → Comes P g → Comes P (λ s. stepping s g)
comes_step {P = P} {g = g} h = record { is = λ s e. came_step P s.left s g e h }

-- the condition code is dropped
pub came_dropped : {A : Type 0} (P : A → Type 0) (o : Outcome A) → Came P o → Came P (code_dropped o)
came_dropped P (done a t) h = h
came_dropped P (leaves x t) h = absurd h
came_dropped P (spent t) h = h
came_dropped P (ends e t) h = h
came_dropped P (strays t) h = h

pub comes_dropped : {A : Type 0} {P : A → Type 0} {f : State → Outcome A} → Comes P f → Comes P (λ s. code_dropped (f s))
comes_dropped {P = P} {f = f} h = record { is = λ s e. came_dropped P (f s) (h.is s e) }

-- the word of a value that has one
pub comes_one : {A : Type 0} {P : A → Type 0} (vs : List ℕ) {g : ℕ → State → Outcome A} → One vs → ((w : ℕ) → Comes P (g w))
    → Comes P (λ s. with_one vs s g)
comes_one [] one h = absurd (omega (arith, one))
comes_one (w ∷ []) one h = h w
comes_one (w ∷ x ∷ vs) one h = absurd (omega (arith, one))
