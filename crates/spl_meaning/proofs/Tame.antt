-- Parts of a run that take steps only off their budget and only add to what is printed and begun; and what a step more changes.
use Rattle.std.proofs.Common.{ℕ, zero, suc, ◌≡◌, ◌≤◌, ◌<◌, ◌+◌, Bool, true, false, List, [], ◌∷◌, ◌++◌, length, refl, sym, ap, subst, ◌∙◌, arith}
use Rattle.std.specs.Prelude.{Option, if◌then◌else◌}
use Rattle.hp_word.specs.declared.arithmetic.Code.{Code}
use Rattle.std.proofs.lemmas.List.{append-nil, append_assoc, length-append}
use Rattle.spl_tree.specs.declared.names_and_places.At.{At}
use Rattle.spl_meaning.specs.Laws.{more}
use Rattle.spl_meaning.specs.States.{Data, State, Begun, End, Outcome, done, leaves, spent, ends, strays, has_no_meaning, then_go, step_of, stepping, without_code, noted, beginning, stopping, code_dropped}

-- at most so many steps are left; who leaves has taken one
abbrev pub Within : {A : Type 0} → ℕ → Outcome A → Type 0
Within n (done a s) = s.left ≤ n
Within n (leaves x s) = s.left < n
Within n (spent s) = s.left ≤ n
Within n (ends e s) = s.left ≤ n
Within n (strays s) = s.left ≤ n

-- the second state has printed and begun what the first has, and perhaps more
pub record Grown (s t : State) : Type 0 where
  pub prints : List (List ℕ)
  pub printed : t.now.printed ≡ s.now.printed ++ prints
  pub log : List Begun
  pub begun : t.begun ≡ s.begun ++ log

abbrev pub Grows : {A : Type 0} → State → Outcome A → Type 0
Grows s (done a t) = Grown s t
Grows s (leaves x t) = Grown s t
Grows s (spent t) = Grown s t
Grows s (ends e t) = Grown s t
Grows s (strays t) = Grown s t

-- at most so many steps are left, however it is left
abbrev pub AtMost : {A : Type 0} → ℕ → Outcome A → Type 0
AtMost n (done a s) = s.left ≤ n
AtMost n (leaves x s) = s.left ≤ n
AtMost n (spent s) = s.left ≤ n
AtMost n (ends e s) = s.left ≤ n
AtMost n (strays s) = s.left ≤ n

-- so many prints more at most, and so many statements begun
pub record Few (p n : ℕ) (s t : State) : Type 0 where
  pub prints : length t.now.printed ≤ length s.now.printed + p
  pub log : length t.begun ≤ length s.begun + n

-- What a part without a step does: it prints nothing but before the step that it lacks, and begins so many statements at most.
abbrev pub Rests : {A : Type 0} → ℕ → State → Outcome A → Type 0
Rests n s (done a t) = Few 0 n s t
Rests n s (leaves x t) = Few 0 n s t
Rests n s (spent t) = Few 1 n s t
Rests n s (ends e t) = Few 0 n s t
Rests n s (strays t) = Few 0 n s t

-- The second outcome is that of one step more: the same, with that step left, unless the steps were spent; then none is left, and it
-- goes on from there by one step.
abbrev pub OneMore : {A : Type 0} → Outcome A → Outcome A → Type 0
OneMore (done a s) o = o ≡ done a (more s)
OneMore (leaves x s) o = o ≡ leaves x (more s)
OneMore (spent s) o = AtMost 0 o × Grows s o × Rests 1 s o
OneMore (ends e s) o = o ≡ ends e (more s)
OneMore (strays s) o = o ≡ strays (more s)

-- a part that keeps to its budget, of fewer than b steps
pub record Calm {A : Type 0} (b : ℕ) (f : State → Outcome A) : Type 0 where
  pub within : (s : State) → s.left < b → Within s.left (f s)
  pub grows : (s : State) → s.left < b → Grows s (f s)
  pub rests : (s : State) → s.left ≡ 0 → 0 < b → Rests 0 s (f s)

-- two parts, of which the second does with one step more what the first does, and the same with as many
pub record Tame {A : Type 0} (b : ℕ) (f g : State → Outcome A) : Type 0 where
  pub first : Calm b f
  pub second : Calm (suc b) g
  pub shifts : (s : State) → s.left < b → OneMore (f s) (g (more s))
  pub alike : (s : State) → s.left < b → g s ≡ f s

-- ---- growth

pub grown_same : (s : State) → Grown s s
grown_same s = record { prints = []; printed = sym (append-nil s.now.printed); log = []; begun = sym (append-nil s.begun) }

-- whatever is left
grown_left : (n : ℕ) (s : State) → Grown s (record s { left = n })
grown_left n s = record { prints = []; printed = sym (append-nil s.now.printed); log = []; begun = sym (append-nil s.begun) }

pub grown_on : (s t u : State) → Grown s t → Grown t u → Grown s u
grown_on s t u g h = record {
  prints = g.prints ++ h.prints;
  printed = h.printed ∙ ap (λ x. x ++ h.prints) g.printed ∙ append_assoc s.now.printed g.prints h.prints;
  log = g.log ++ h.log;
  begun = h.begun ∙ ap (λ x. x ++ h.log) g.begun ∙ append_assoc s.begun g.log h.log;
}

pub grows_on : {A : Type 0} (s t : State) (o : Outcome A) → Grown s t → Grows t o → Grows s o
grows_on s t (done a u) g h = grown_on s t u g h
grows_on s t (leaves x u) g h = grown_on s t u g h
grows_on s t (spent u) g h = grown_on s t u g h
grows_on s t (ends e u) g h = grown_on s t u g h
grows_on s t (strays u) g h = grown_on s t u g h

pub within_on : {A : Type 0} (m n : ℕ) (o : Outcome A) → Within m o → m ≤ n → Within n o
within_on m n (done a s) w l = omega (arith, w, l)
within_on m n (leaves x s) w l = omega (arith, w, l)
within_on m n (spent s) w l = omega (arith, w, l)
within_on m n (ends e s) w l = omega (arith, w, l)
within_on m n (strays s) w l = omega (arith, w, l)

pub most_of : {A : Type 0} (n : ℕ) (o : Outcome A) → Within n o → AtMost n o
most_of n (done a s) w = w
most_of n (leaves x s) w = omega (arith, w)
most_of n (spent s) w = w
most_of n (ends e s) w = w
most_of n (strays s) w = w

pub few_same : (p n : ℕ) (s : State) → Few p n s s
few_same p n s = record { prints = omega arith; log = omega arith }

few_left : (p n k : ℕ) (s : State) → Few p n s (record s { left = k })
few_left p n k s = record { prints = omega arith; log = omega arith }

few_on : (p n : ℕ) (s t u : State) → Few 0 n s t → Few p 0 t u → Few p n s u
few_on p n s t u g h = record { prints = omega (arith, g.prints, h.prints); log = omega (arith, g.log, h.log) }

pub rests_on : {A : Type 0} (n : ℕ) (s t : State) (o : Outcome A) → Few 0 n s t → Rests 0 t o → Rests n s o
rests_on n s t (done a u) g h = few_on 0 n s t u g h
rests_on n s t (leaves x u) g h = few_on 0 n s t u g h
rests_on n s t (spent u) g h = few_on 1 n s t u g h
rests_on n s t (ends e u) g h = few_on 0 n s t u g h
rests_on n s t (strays u) g h = few_on 0 n s t u g h

-- ---- what does nothing

pub calm_done : {A : Type 0} (b : ℕ) (a : A) → Calm b (λ s. done a s)
calm_done b a = record { within = λ s l. omega arith; grows = λ s l. grown_same s; rests = λ s e l. few_same 0 0 s }

pub tame_done : {A : Type 0} (b : ℕ) (a : A) → Tame b (λ s. done a s) (λ s. done a s)
tame_done b a = record { first = calm_done b a; second = calm_done (suc b) a; shifts = λ s l. refl; alike = λ s l. refl }

pub calm_ends : {A : Type 0} (b : ℕ) (e : End) → Calm {A = A} b (λ s. ends e s)
calm_ends b e = record { within = λ s l. omega arith; grows = λ s l. grown_same s; rests = λ s z l. few_same 0 0 s }

pub tame_ends : {A : Type 0} (b : ℕ) (e : End) → Tame {A = A} b (λ s. ends e s) (λ s. ends e s)
tame_ends b e = record { first = calm_ends b e; second = calm_ends (suc b) e; shifts = λ s l. refl; alike = λ s l. refl }

pub calm_strays : {A : Type 0} (b : ℕ) → Calm {A = A} b (λ s. strays s)
calm_strays b = record { within = λ s l. omega arith; grows = λ s l. grown_same s; rests = λ s e l. few_same 0 0 s }

pub tame_strays : {A : Type 0} (b : ℕ) → Tame {A = A} b (λ s. strays s) (λ s. strays s)
tame_strays b = record { first = calm_strays b; second = calm_strays (suc b); shifts = λ s l. refl; alike = λ s l. refl }

-- what has no meaning: a state that is lost has printed and begun what it had
pub grown_lost : (s t : State) → Grown s t → Grown s (record t { lost = true })
grown_lost s t g = record { prints = g.prints; printed = g.printed; log = g.log; begun = g.begun }

pub few_lost : (p n : ℕ) (s t : State) → Few p n s t → Few p n s (record t { lost = true })
few_lost p n s t f = record { prints = f.prints; log = f.log }

pub calm_lost : {A : Type 0} (b : ℕ) → Calm {A = A} b (λ s. has_no_meaning s)
calm_lost b = record { within = λ s l. omega arith; grows = λ s l. grown_lost s s (grown_same s); rests = λ s e l. few_lost 0 0 s s (few_same 0 0 s) }

pub tame_lost : {A : Type 0} (b : ℕ) → Tame {A = A} b (λ s. has_no_meaning s) (λ s. has_no_meaning s)
tame_lost b = record { first = calm_lost b; second = calm_lost (suc b); shifts = λ s l. refl; alike = λ s l. refl }

-- ---- one part after another

within_go : {A B : Type 0} (b n : ℕ) (o : Outcome A) (g : A → State → Outcome B) → n < b → Within n o → ((a : A) → Calm b (g a))
    → Within n (then_go o g)
within_go b n (done a s) g l w h = within_on s.left n (g a s) ((h a).within s (omega (arith, l, w))) w
within_go b n (leaves x s) g l w h = w
within_go b n (spent s) g l w h = w
within_go b n (ends e s) g l w h = w
within_go b n (strays s) g l w h = w

grows_go : {A B : Type 0} (b n : ℕ) (s : State) (o : Outcome A) (g : A → State → Outcome B) → n < b → Within n o → Grows s o
    → ((a : A) → Calm b (g a)) → Grows s (then_go o g)
grows_go b n s (done a t) g l w i h = grows_on s t (g a t) i ((h a).grows t (omega (arith, l, w)))
grows_go b n s (leaves x t) g l w i h = i
grows_go b n s (spent t) g l w i h = i
grows_go b n s (ends e t) g l w i h = i
grows_go b n s (strays t) g l w i h = i

-- the same where it may be left without a step
most_go : {A B : Type 0} (b n : ℕ) (o : Outcome A) (g : A → State → Outcome B) → n < b → AtMost n o → ((a : A) → Calm b (g a))
    → AtMost n (then_go o g)
most_go b n (done a s) g l w h = most_of n (g a s) (within_on s.left n (g a s) ((h a).within s (omega (arith, l, w))) w)
most_go b n (leaves x s) g l w h = w
most_go b n (spent s) g l w h = w
most_go b n (ends e s) g l w h = w
most_go b n (strays s) g l w h = w

grown_go : {A B : Type 0} (b n : ℕ) (s : State) (o : Outcome A) (g : A → State → Outcome B) → n < b → AtMost n o → Grows s o
    → ((a : A) → Calm b (g a)) → Grows s (then_go o g)
grown_go b n s (done a t) g l w i h = grows_on s t (g a t) i ((h a).grows t (omega (arith, l, w)))
grown_go b n s (leaves x t) g l w i h = i
grown_go b n s (spent t) g l w i h = i
grown_go b n s (ends e t) g l w i h = i
grown_go b n s (strays t) g l w i h = i

-- one behind which no step is left
rests_go : {A B : Type 0} (b n : ℕ) (s : State) (o : Outcome A) (g : A → State → Outcome B) → 0 < b → AtMost 0 o → Rests n s o
    → ((a : A) → Calm b (g a)) → Rests n s (then_go o g)
rests_go b n s (done a t) g l w r h = let z : t.left ≡ 0 = omega (arith, w) in rests_on n s t (g a t) r ((h a).rests t z l)
rests_go b n s (leaves x t) g l w r h = r
rests_go b n s (spent t) g l w r h = r
rests_go b n s (ends e t) g l w r h = r
rests_go b n s (strays t) g l w r h = r

-- what is left of none is none
pub none_left_of : {A : Type 0} (n : ℕ) (o : Outcome A) → n ≡ 0 → Within n o → AtMost 0 o
none_left_of n o e w = most_of 0 o (within_on n 0 o w (omega (arith, e)))

pub calm_go : {A B : Type 0} {b : ℕ} {f : State → Outcome A} {g : A → State → Outcome B} → Calm b f → ((a : A) → Calm b (g a))
    → Calm b (λ s. then_go (f s) g)
calm_go {b = b} {f = f} {g = g} t h = record {
  within = λ s l. within_go b s.left (f s) g l (t.within s l) h;
  grows = λ s l. grows_go b s.left s (f s) g l (t.within s l) (t.grows s l) h;
  rests = λ s e l. rests_go b 0 s (f s) g l (none_left_of s.left (f s) e (t.within s (omega (arith, e, l)))) (t.rests s e l) h;
}

shifts_go : {A B : Type 0} (b n : ℕ) (o p : Outcome A) (g h : A → State → Outcome B) → n < b → Within n o → OneMore o p
    → ((a : A) → Tame b (g a) (h a)) → OneMore (then_go o g) (then_go p h)
shifts_go {A = A} b n (done a s) p g h l w m t =
    subst (λ (p : Outcome A). OneMore (g a s) (then_go p h)) (sym m) ((t a).shifts s (omega (arith, l, w)))
shifts_go {A = A} b n (leaves x s) p g h l w m t = ap (λ (p : Outcome A). then_go p h) m
shifts_go b n (spent s) p g h l w m t = (
  most_go (suc b) 0 p h (omega arith) m.0 (λ a. (t a).second),
  grown_go (suc b) 0 s p h (omega arith) m.0 m.1 (λ a. (t a).second),
  rests_go (suc b) 1 s p h (omega arith) m.0 m.2 (λ a. (t a).second),
)
shifts_go {A = A} b n (ends e s) p g h l w m t = ap (λ (p : Outcome A). then_go p h) m
shifts_go {A = A} b n (strays s) p g h l w m t = ap (λ (p : Outcome A). then_go p h) m

alike_go : {A B : Type 0} (b n : ℕ) (o : Outcome A) (g h : A → State → Outcome B) → n < b → Within n o → ((a : A) → Tame b (g a) (h a))
    → then_go o h ≡ then_go o g
alike_go b n (done a s) g h l w t = (t a).alike s (omega (arith, l, w))
alike_go b n (leaves x s) g h l w t = refl
alike_go b n (spent s) g h l w t = refl
alike_go b n (ends e s) g h l w t = refl
alike_go b n (strays s) g h l w t = refl

pub tame_go : {A B : Type 0} {b : ℕ} {f g : State → Outcome A} {h k : A → State → Outcome B} → Tame b f g
    → ((a : A) → Tame b (h a) (k a)) → Tame b (λ s. then_go (f s) h) (λ s. then_go (g s) k)
tame_go {A = A} {b = b} {f = f} {g = g} {h = h} {k = k} t u = record {
  first = calm_go t.first (λ a. (u a).first);
  second = calm_go t.second (λ a. (u a).second);
  shifts = λ s l. shifts_go b s.left (f s) (g (more s)) h k l (t.first.within s l) (t.shifts s l) u;
  alike = λ s l. ap (λ (o : Outcome A). then_go o k) (t.alike s l) ∙ alike_go b s.left (f s) h k l (t.first.within s l) u;
}

-- ---- a step

within_step : {A : Type 0} (b n : ℕ) (s : State) (g : State → Outcome A) → s.left ≡ n → n < suc b → Calm b g → Within n (step_of n s g)
within_step b zero s g e l t = omega (arith, e)
within_step b (suc n) s g e l t = within_on n (suc n) (g (record s { left = n })) (t.within (record s { left = n }) (omega (arith, l))) (omega arith)

grows_step : {A : Type 0} (b n : ℕ) (s : State) (g : State → Outcome A) → n < suc b → Calm b g → Grows s (step_of n s g)
grows_step b zero s g l t = grown_same s
grows_step b (suc n) s g l t =
    grows_on s (record s { left = n }) (g (record s { left = n })) (grown_left n s) (t.grows (record s { left = n }) (omega (arith, l)))

-- none is left for it
rests_step : {A : Type 0} (n : ℕ) (s : State) (g : State → Outcome A) → n ≡ 0 → Rests 0 s (step_of n s g)
rests_step zero s g e = few_same 1 0 s
rests_step (suc n) s g e = absurd (omega (arith, e))

alike_step : {A : Type 0} (b n : ℕ) (s : State) (g h : State → Outcome A) → n < suc b → Tame b g h → step_of n s h ≡ step_of n s g
alike_step b zero s g h l t = refl
alike_step b (suc n) s g h l t = t.alike (record s { left = n }) (omega (arith, l))

pub calm_step : {A : Type 0} {b : ℕ} {g : State → Outcome A} → Calm b g → Calm (suc b) (λ s. stepping s g)
calm_step {b = b} {g = g} t = record {
  within = λ s l. within_step b s.left s g refl l t;
  grows = λ s l. grows_step b s.left s g l t;
  rests = λ s e l. rests_step s.left s g e;
}

shifts_step : {A : Type 0} (b n : ℕ) (s : State) (g h : State → Outcome A) → s.left ≡ n → n < suc b → Tame b g h
    → OneMore (step_of n s g) (step_of (suc n) (more s) h)
shifts_step b zero s g h e l t = (
  most_of 0 (h (record s { left = zero })) (t.second.within (record s { left = zero }) (omega arith)),
  grows_on s (record s { left = zero }) (h (record s { left = zero })) (grown_left zero s)
      (t.second.grows (record s { left = zero }) (omega arith)),
  rests_on 1 s (record s { left = zero }) (h (record s { left = zero })) (few_left 0 1 zero s)
      (t.second.rests (record s { left = zero }) refl (omega arith)),
)
shifts_step b (suc n) s g h e l t = t.shifts (record s { left = n }) (omega (arith, l))

-- a step before a part leaves it fewer
pub tame_step : {A : Type 0} {b : ℕ} {g h : State → Outcome A} → Tame b g h → Tame (suc b) (λ s. stepping s g) (λ s. stepping s h)
tame_step {b = b} {g = g} {h = h} t = record {
  first = calm_step t.first;
  second = calm_step t.second;
  shifts = λ s l. shifts_step b s.left s g h refl l t;
  alike = λ s l. alike_step b s.left s g h l t;
}

pub calm_less : {A : Type 0} {b : ℕ} {f : State → Outcome A} → Calm (suc b) f → Calm b f
calm_less t = record {
  within = λ s l. t.within s (omega (arith, l));
  grows = λ s l. t.grows s (omega (arith, l));
  rests = λ s e l. t.rests s e (omega arith);
}

pub tame_less : {A : Type 0} {b : ℕ} {f g : State → Outcome A} → Tame (suc b) f g → Tame b f g
tame_less t = record {
  first = calm_less t.first;
  second = calm_less t.second;
  shifts = λ s l. t.shifts s (omega (arith, l));
  alike = λ s l. t.alike s (omega (arith, l));
}

-- ---- choices

pub tame_if : {A : Type 0} {b : ℕ} (c : Bool) {f g h k : State → Outcome A} → Tame b f g → Tame b h k
    → Tame b (λ s. if c then f s else h s) (λ s. if c then g s else k s)
tame_if true t u = t
tame_if false t u = u

pub calm_if : {A : Type 0} {b : ℕ} (c : Bool) {f g : State → Outcome A} → Calm b f → Calm b g → Calm b (λ s. if c then f s else g s)
calm_if true t u = t
calm_if false t u = u

-- With no steps at all there is no state to begin with.
pub calm_nowhere : {A : Type 0} {f : State → Outcome A} → Calm 0 f
calm_nowhere = record {
  within = λ s l. absurd (omega (arith, l));
  grows = λ s l. absurd (omega (arith, l));
  rests = λ s e l. absurd (omega (arith, l));
}

pub tame_nowhere : {A : Type 0} {f g : State → Outcome A} → Calm 1 g → Tame 0 f g
tame_nowhere c = record {
  first = calm_nowhere;
  second = c;
  shifts = λ s l. absurd (omega (arith, l));
  alike = λ s l. absurd (omega (arith, l));
}

-- a part that looks at its data
pub tame_now : {A : Type 0} {b : ℕ} (f g : Data → State → Outcome A) → ((d : Data) → Tame b (f d) (g d))
    → Tame b (λ s. f s.now s) (λ s. g s.now s)
tame_now f g t = record {
  first = record {
    within = λ s l. (t s.now).first.within s l;
    grows = λ s l. (t s.now).first.grows s l;
    rests = λ s e l. (t s.now).first.rests s e l;
  };
  second = record {
    within = λ s l. (t s.now).second.within s l;
    grows = λ s l. (t s.now).second.grows s l;
    rests = λ s e l. (t s.now).second.rests s e l;
  };
  shifts = λ s l. (t s.now).shifts s l;
  alike = λ s l. (t s.now).alike s l;
}

-- a part that looks at the condition code
pub tame_coded : {A : Type 0} {b : ℕ} (f g : Option Code → State → Outcome A) → ((c : Option Code) → Tame b (f c) (g c))
    → Tame b (λ s. f s.code s) (λ s. g s.code s)
tame_coded f g t = record {
  first = record {
    within = λ s l. (t s.code).first.within s l;
    grows = λ s l. (t s.code).first.grows s l;
    rests = λ s e l. (t s.code).first.rests s e l;
  };
  second = record {
    within = λ s l. (t s.code).second.within s l;
    grows = λ s l. (t s.code).second.grows s l;
    rests = λ s e l. (t s.code).second.rests s e l;
  };
  shifts = λ s l. (t s.code).shifts s l;
  alike = λ s l. (t s.code).alike s l;
}

-- ---- states that are changed before a part

-- a change that takes no step, and only adds to what was printed and begun
pub record Adds (f : State → State) : Type 0 where
  pub left : (s : State) → (f s).left ≡ s.left
  pub grown : (s : State) → Grown s (f s)
  pub same : (s : State) → f (more s) ≡ more (f s)

-- one that adds nothing
pub record Keeps (f : State → State) : Type 0 where
  pub adds : Adds f
  pub few : (s : State) → Few 0 0 s (f s)

calm_adding : {A : Type 0} (b : ℕ) (g : State → Outcome A) (f : State → State) → Adds f → Calm b g
    → ((s : State) → s.left ≡ 0 → 0 < b → Rests 0 s (g (f s))) → Calm b (λ s. g (f s))
calm_adding b g f k t r = record {
  within = λ s l. within_on (f s).left s.left (g (f s)) (t.within (f s) (omega (arith, k.left s, l))) (omega (arith, k.left s));
  grows = λ s l. grows_on s (f s) (g (f s)) (k.grown s) (t.grows (f s) (omega (arith, k.left s, l)));
  rests = r;
}

pub tame_in : {A : Type 0} {b : ℕ} {g h : State → Outcome A} {f : State → State} → Keeps f → Tame b g h → Tame b (λ s. g (f s)) (λ s. h (f s))
tame_in {b = b} {g = g} {h = h} {f = f} k t = record {
  first = calm_adding b g f k.adds t.first (λ s e l. rests_on 0 s (f s) (g (f s)) (k.few s) (t.first.rests (f s) (k.adds.left s ∙ e) l));
  second = calm_adding (suc b) h f k.adds t.second (λ s e l. rests_on 0 s (f s) (h (f s)) (k.few s) (t.second.rests (f s) (k.adds.left s ∙ e) l));
  shifts = λ s l. subst (λ (u : State). OneMore (g (f s)) (h u)) (sym (k.adds.same s)) (t.shifts (f s) (omega (arith, k.adds.left s, l)));
  alike = λ s l. t.alike (f s) (omega (arith, k.adds.left s, l));
}

-- a change behind a step, which may note one statement
calm_step_in : {A : Type 0} (b : ℕ) (g : State → Outcome A) (f : State → State) → Adds f → Calm b g
    → Calm (suc b) (λ s. stepping s (λ s1. g (f s1)))
calm_step_in b g f k t = record {
  within = λ s l. within s.left s refl l;
  grows = λ s l. grows s.left s l;
  rests = λ s e l. rests_step s.left s (λ s1. g (f s1)) e;
}
  where
    within : (n : ℕ) (s : State) → s.left ≡ n → n < suc b → Within n (step_of n s (λ s1. g (f s1)))
    within zero s e l = omega (arith, e)
    within (suc n) s e l =
        let s1 : State = record s { left = n } in
        within_on (f s1).left (suc n) (g (f s1)) (t.within (f s1) (omega (arith, k.left s1, l))) (omega (arith, k.left s1))

    grows : (n : ℕ) (s : State) → n < suc b → Grows s (step_of n s (λ s1. g (f s1)))
    grows zero s l = grown_same s
    grows (suc n) s l =
        let s1 : State = record s { left = n } in
        grows_on s (f s1) (g (f s1)) (grown_on s s1 (f s1) (grown_left n s) (k.grown s1)) (t.grows (f s1) (omega (arith, k.left s1, l)))

pub tame_step_in : {A : Type 0} {b : ℕ} {g h : State → Outcome A} {f : State → State} → Adds f → ((s : State) → Few 0 1 s (f s)) → Tame b g h
    → Tame (suc b) (λ s. stepping s (λ s1. g (f s1))) (λ s. stepping s (λ s1. h (f s1)))
tame_step_in {A = A} {b = b} {g = g} {h = h} {f = f} k few t = record {
  first = calm_step_in b g f k t.first;
  second = calm_step_in (suc b) h f k t.second;
  shifts = λ s l. shifts s.left s l;
  alike = λ s l. alike s.left s l;
}
  where
    shifts : (n : ℕ) (s : State) → n < suc b → OneMore (step_of n s (λ s1. g (f s1))) (step_of (suc n) (more s) (λ s1. h (f s1)))
    shifts zero s l =
        let s1 : State = record s { left = zero } in
        let z : (f s1).left ≡ 0 = k.left s1 in (
          none_left_of (f s1).left (h (f s1)) z (t.second.within (f s1) (omega (arith, z))),
          grows_on s (f s1) (h (f s1)) (grown_on s s1 (f s1) (grown_left zero s) (k.grown s1)) (t.second.grows (f s1) (omega (arith, z))),
          rests_on 1 s (f s1) (h (f s1)) (record { prints = (few s1).prints; log = (few s1).log }) (t.second.rests (f s1) z (omega arith)),
        )
    shifts (suc n) s l =
        let s1 : State = record s { left = n } in
        subst (λ (u : State). OneMore (g (f s1)) (h u)) (sym (k.same s1)) (t.shifts (f s1) (omega (arith, k.left s1, l)))

    alike : (n : ℕ) (s : State) → n < suc b → step_of n s (λ s1. h (f s1)) ≡ step_of n s (λ s1. g (f s1))
    alike zero s l = refl
    alike (suc n) s l = let s1 : State = record s { left = n } in t.alike (f s1) (omega (arith, k.left s1, l))

-- a change before a step, which may print once
pub tame_in_step : {A : Type 0} {b : ℕ} {g h : State → Outcome A} {f : State → State} → Adds f → ((s : State) → Few 1 0 s (f s)) → Tame b g h
    → Tame b (λ s. stepping (f s) g) (λ s. stepping (f s) h)
tame_in_step {A = A} {b = b} {g = g} {h = h} {f = f} k few t = record {
  first = calm_adding b (λ s. stepping s g) f k u.first (λ s e l. rests (f s).left s g (k.left s ∙ e));
  second = calm_adding (suc b) (λ s. stepping s h) f k u.second (λ s e l. rests (f s).left s h (k.left s ∙ e));
  shifts = λ s l. subst (λ (v : State). OneMore (stepping (f s) g) (stepping v h)) (sym (k.same s)) (u.shifts (f s) (omega (arith, k.left s, l)));
  alike = λ s l. u.alike (f s) (omega (arith, k.left s, l));
}
  where
    u : Tame b (λ s. stepping s g) (λ s. stepping s h)
    u = tame_less (tame_step t)

    rests : (n : ℕ) (s : State) (go : State → Outcome A) → n ≡ 0 → Rests 0 s (step_of n (f s) go)
    rests zero s go e = few s
    rests (suc n) s go e = absurd (omega (arith, e))

pub keeps_without_code : Keeps without_code
keeps_without_code = record {
  adds = record { left = λ s. refl; grown = λ s. grown_code s; same = λ s. refl };
  few = λ s. record { prints = omega arith; log = omega arith };
}
  where
    grown_code : (s : State) → Grown s (without_code s)
    grown_code s = record { prints = []; printed = sym (append-nil s.now.printed); log = []; begun = sym (append-nil s.begun) }

adds_noted : (i : ℕ) (at : At) → Adds (noted i at)
adds_noted i at = record {
  left = λ s. refl;
  grown = λ s. record {
    prints = [];
    printed = sym (append-nil s.now.printed);
    log = record { number = i; at = at; data' = s.now; code = s.code } ∷ [];
    begun = refl;
  };
  same = λ s. refl;
}

-- one statement more
pub few_noted : (i : ℕ) (at : At) (s : State) → Few 0 1 s (noted i at s)
few_noted i at s = record {
  prints = omega arith;
  log =
      let e : length (s.begun ++ record { number = i; at = at; data' = s.now; code = s.code } ∷ []) ≡ length s.begun + 1 = length-append s.begun _ in
      omega (arith, e);
}

-- a statement begins
pub tame_begin : {A : Type 0} {b : ℕ} {g h : State → Outcome A} → Tame b g h → Tame (suc b) (λ s. beginning s g) (λ s. beginning s h)
tame_begin t = tame_step (tame_in keeps_without_code t)

-- and is noted behind its step
pub tame_noted : {A : Type 0} {b : ℕ} (i : ℕ) (at : At) {g h : State → Outcome A} → Tame b g h
    → Tame (suc b) (λ s. stepping s (λ s1. g (noted i at s1))) (λ s. stepping s (λ s1. h (noted i at s1)))
tame_noted i at t = tame_step_in (adds_noted i at) (few_noted i at) t

pub tame_stop : {A : Type 0} {b : ℕ} (i : ℕ) (at : At) {g h : State → Outcome A} → Tame b g h
    → Tame (suc b) (λ s. stopping i at s g) (λ s. stopping i at s h)
tame_stop i at t = tame_noted i at (tame_in keeps_without_code t)

pub tame_dropped : {A : Type 0} {b : ℕ} {f g : State → Outcome A} → Tame b f g → Tame b (λ s. code_dropped (f s)) (λ s. code_dropped (g s))
tame_dropped {b = b} t = tame_go t (λ a. tame_in keeps_without_code (tame_done b a))
