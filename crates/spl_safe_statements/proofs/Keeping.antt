-- Parts that are never lost, put together.
use Rattle.std.proofs.Common.{◌≡◌, ℕ, zero, suc, Bool, true, false, List, [], ◌∷◌, refl, sym}
use Rattle.std.specs.Prelude.{if◌then◌else◌}
use Rattle.spl_meaning.specs.spl_tree.declared.names_and_places.At.{At}
use Rattle.spl_meaning.specs.Elements.{with_one}
use Rattle.spl_meaning.specs.States.{State, End, Exit, Outcome, done, leaves, spent, ends, strays, then_go, step_of, stepping, without_code, noted, beginning, stopping, code_dropped}
use Rattle.spl_safe_statements.specs.Safe.{Fine, Comes, Keeps, IsWord, NoWay}

-- ---- what is never so

pub never : {A : Type 0} → false ≡ true → A
never e = cc

-- ---- what does nothing

-- less is known of a condition code
pub less : {known : Bool} {s : State} → Fine known s → Fine false s
less g = record { found = g.found; code = λ e. never e }

pub keeps_done : {A : Type 0} {known : Bool} {P : A → Type 0} {Q : Exit → Type 0} (a : A) → P a → Keeps known known P Q (λ s. done a s)
keeps_done a p = record { comes = λ s g. (g, p) }

pub keeps_ended : {A : Type 0} {known : Bool} {P : A → Type 0} {Q : Exit → Type 0} (a : A) → P a → Keeps known false P Q (λ s. done a s)
keeps_ended a p = record { comes = λ s g. (less g, p) }

pub keeps_ends : {A : Type 0} {known after : Bool} {P : A → Type 0} {Q : Exit → Type 0} (e : End) → Keeps known after P Q (λ s. ends e s)
keeps_ends e = record { comes = λ s g. g.found }

pub keeps_spent : {A : Type 0} {known after : Bool} {P : A → Type 0} {Q : Exit → Type 0} → Keeps known after P Q (λ s. spent s)
keeps_spent = record { comes = λ s g. g.found }

pub keeps_strays : {A : Type 0} {known after : Bool} {P : A → Type 0} {Q : Exit → Type 0} → Keeps known after P Q (λ s. strays s)
keeps_strays = record { comes = λ s g. g.found }

pub keeps_leaves : {A : Type 0} {known after : Bool} {P : A → Type 0} {Q : Exit → Type 0} (x : Exit) → Q x → Keeps known after P Q (λ s. leaves x s)
keeps_leaves x q = record { comes = λ s g. (g.found, q) }

-- ---- one part after another

comes_go : {A B : Type 0} (m e : Bool) (P : A → Type 0) (R : B → Type 0) (Q : Exit → Type 0) (o : Outcome A) (go : A → State → Outcome B) → Comes m P Q o
    → ((a : A) → P a → Keeps m e R Q (go a)) → Comes e R Q (then_go o go)
comes_go m e P R Q (done a t) go c next = (next a c.1).comes t c.0
comes_go m e P R Q (leaves x t) go c next = c
comes_go m e P R Q (spent t) go c next = c
comes_go m e P R Q (ends x t) go c next = c
comes_go m e P R Q (strays t) go c next = c

pub keeps_go : {A B : Type 0} {b m e : Bool} {P : A → Type 0} {R : B → Type 0} {Q : Exit → Type 0} {f : State → Outcome A} {go : A → State → Outcome B}
    → Keeps b m P Q f → ((a : A) → P a → Keeps m e R Q (go a)) → Keeps b e R Q (λ s. then_go (f s) go)
keeps_go {m = m} {e = e} {P = P} {R = R} {Q = Q} {f = f} {go = go} k next = record { comes = λ s g. comes_go m e P R Q (f s) go (k.comes s g) next }

-- ---- more may be known before, and less is said behind

pub keeps_known : {A : Type 0} {b e : Bool} {P : A → Type 0} {Q : Exit → Type 0} {f : State → Outcome A} → Keeps false e P Q f → Keeps b e P Q f
keeps_known k = record { comes = λ s g. k.comes s (less g) }

comes_less : {A : Type 0} (m e : Bool) (P R : A → Type 0) (Q S : Exit → Type 0) (o : Outcome A) → ((s : State) → Fine m s → Fine e s) → ((a : A) → P a → R a)
    → ((x : Exit) → Q x → S x) → Comes m P Q o → Comes e R S o
comes_less m e P R Q S (done a t) fine values ways c = (fine t c.0, values a c.1)
comes_less m e P R Q S (leaves x t) fine values ways c = (c.0, ways x c.1)
comes_less m e P R Q S (spent t) fine values ways c = c
comes_less m e P R Q S (ends x t) fine values ways c = c
comes_less m e P R Q S (strays t) fine values ways c = c

pub keeps_ways : {A : Type 0} {b e : Bool} {P : A → Type 0} {Q S : Exit → Type 0} {f : State → Outcome A} → ((x : Exit) → Q x → S x) → Keeps b e P Q f → Keeps b e P S f
keeps_ways {e = e} {P = P} {Q = Q} {S = S} {f = f} ways k = record { comes = λ s g. comes_less e e P P Q S (f s) (λ t h. h) (λ a p. p) ways (k.comes s g) }

-- what leaves by no way may be said to leave by any
pub keeps_inside : {A : Type 0} {b e : Bool} {P : A → Type 0} {S : Exit → Type 0} {f : State → Outcome A} → Keeps b e P NoWay f → Keeps b e P S f
keeps_inside k = keeps_ways (λ x q. absurd q) k

pub keeps_less : {A : Type 0} {b m : Bool} {P : A → Type 0} {Q : Exit → Type 0} {f : State → Outcome A} → Keeps b m P Q f → Keeps b false P Q f
keeps_less {m = m} {P = P} {Q = Q} {f = f} k = record { comes = λ s g. comes_less m false P P Q Q (f s) (λ t h. less h) (λ a p. p) (λ x q. q) (k.comes s g) }

-- ---- steps

comes_step : {A : Type 0} (b e : Bool) (P : A → Type 0) (Q : Exit → Type 0) (n : ℕ) (s : State) (go : State → Outcome A) → Fine b s → Keeps b e P Q go
    → Comes e P Q (step_of n s go)
comes_step b e P Q zero s go g k = g.found
comes_step b e P Q (suc n) s go g k = k.comes (record s { left = n }) (record { found = g.found; code = g.code })

pub keeps_step : {A : Type 0} {b e : Bool} {P : A → Type 0} {Q : Exit → Type 0} {go : State → Outcome A} → Keeps b e P Q go → Keeps b e P Q (λ s. stepping s go)
keeps_step {b = b} {e = e} {P = P} {Q = Q} {go = go} k = record { comes = λ s g. comes_step b e P Q s.left s go g k }

-- a statement begins
pub keeps_begin : {A : Type 0} {b e : Bool} {P : A → Type 0} {Q : Exit → Type 0} {go : State → Outcome A} → Keeps false e P Q go → Keeps b e P Q (λ s. beginning s go)
keeps_begin k = keeps_step (record { comes = λ s g. k.comes (without_code s) (record { found = g.found; code = λ e. never e }) })

pub keeps_stop : {A : Type 0} {b e : Bool} {P : A → Type 0} {Q : Exit → Type 0} {go : State → Outcome A} (i : ℕ) (at : At) → Keeps false e P Q go
    → Keeps b e P Q (λ s. stopping i at s go)
keeps_stop i at k = keeps_step (record { comes = λ s g. k.comes (without_code (noted i at s)) (record { found = g.found; code = λ e. never e }) })

-- no condition code is known behind it
pub keeps_dropped : {A : Type 0} {b m : Bool} {P : A → Type 0} {Q : Exit → Type 0} {f : State → Outcome A} → Keeps b m P Q f → Keeps b false P Q (λ s. code_dropped (f s))
keeps_dropped k = keeps_go k (λ a p. record { comes = λ s g. (record { found = g.found; code = λ e. never e }, p) })

-- ---- choices

pub keeps_if : {A : Type 0} {b e : Bool} {P : A → Type 0} {Q : Exit → Type 0} (c : Bool) {f g : State → Outcome A} → Keeps b e P Q f → Keeps b e P Q g
    → Keeps b e P Q (λ s. if c then f s else g s)
keeps_if true k l = k
keeps_if false k l = l

-- by how a test comes out
pub keeps_either : {A : Type 0} {b e : Bool} {P : A → Type 0} {Q : Exit → Type 0} (c : Bool) {f g : State → Outcome A} → (c ≡ true → Keeps b e P Q f)
    → (c ≡ false → Keeps b e P Q g) → Keeps b e P Q (λ s. if c then f s else g s)
keeps_either true k l = k refl
keeps_either false k l = l refl

pub other_true : (a b : Bool) → (if a then true else b) ≡ true → a ≡ false → b ≡ true
other_true true b is none = never (sym none)
other_true false b is none = is

-- the one word of a value
pub keeps_one : {A : Type 0} {b e : Bool} {P : A → Type 0} {Q : Exit → Type 0} (vs : List ℕ) {go : ℕ → State → Outcome A} → IsWord vs
    → ((w : ℕ) → Keeps b e P Q (go w)) → Keeps b e P Q (λ s. with_one vs s go)
keeps_one [] one k = cc
keeps_one (w ∷ []) one k = k w
keeps_one (w ∷ v ∷ vs) one k = cc
