-- Parts of a run that leave the live frame as it is, and keep what is known of words.
use Rattle.std.proofs.Common.{ℕ, zero, suc, ◌≡◌, ◌≤◌, ◌<◌, ◌/◌, ◌%◌, Bool, true, false, List, [], ◌∷◌, ◌++◌, Option, Some, refl, sym, subst, ◌∙◌, arith}
use Rattle.std.specs.Prelude.{if◌then◌else◌, slice_get}
use Rattle.spl_meaning.specs.hp_word.Bytes.{with_byte}
use Rattle.spl_meaning.specs.hp_word.Intrinsics as gate
use Rattle.spl_meaning.specs.hp_word.declared.arithmetic.Code.{Code}
use Rattle.spl_meaning.specs.hp_word.declared.intrinsics.Intrinsic.{Intrinsic}
use Rattle.spl_meaning.specs.spl_tree.declared.names_and_places.At.{At}
use Rattle.spl_meaning.specs.Serving.{byte_of}
use Rattle.spl_meaning.specs.States.{Data, State, End, Outcome, done, leaves, spent, ends, strays, has_no_meaning, then_go, step_of, stepping, without_code, noted, beginning, stopping, code_dropped}
use Rattle.spl_frames.specs.Frames as frame
use Rattle.spl_frames.specs.Frames.{StaysIn}
use Rattle.spl_frames.specs.Words.{AllOf}

-- ---- what is known of words

-- each data word is
abbrev pub MemOf : (ℕ → Type 0) → (ℕ → Option ℕ) → Type 0
MemOf W mem = (a v : ℕ) → mem a ≡ Some v → W v

-- bytes that may be stored
abbrev pub BytesOf : (ℕ → Type 0) → List (ℕ × ℕ) → Type 0
BytesOf W [] = Unit {0}
BytesOf W (p ∷ ps) = ((w : ℕ) → W w → W (with_byte p.0 p.1 w)) × BytesOf W ps

-- the words and the lines of data are known
pub record Holds (W : ℕ → Type 0) (L : List (List ℕ) → Type 0) (d : Data) : Type 0 where
  pub mem : MemOf W d.mem
  pub extra : AllOf W d.extra
  pub lines : L d.lines

-- What may be known of words and lines: all that operators make is, where they are given such.
pub record Knowledge : Type 1 where
  pub W : ℕ → Type 0
  pub L : List (List ℕ) → Type 0
  pub small : (n : ℕ) → n < 65536 → W n
  pub less : (w n : ℕ) → W w → n ≤ w → W n
  pub byte : (address b w : ℕ) → W w → W (with_byte address (b % 256) w)
  pub answer : (d : Data) (i : Intrinsic) (ws : List ℕ) → Holds W L d → AllOf W ws
      → AllOf W (gate.called (byte_of d.mem) (slice_get d.lines d.taken) i ws).answer
  pub stores : (d : Data) (i : Intrinsic) (ws : List ℕ) → Holds W L d → AllOf W ws
      → BytesOf W (gate.called (byte_of d.mem) (slice_get d.lines d.taken) i ws).stores

-- data of which that is known
abbrev pub Known : Knowledge → Data → Type 0
Known v d = Holds v.W v.L d

-- nothing is said of a value
abbrev pub Any : {A : Type 0} → A → Type 0
Any a = Unit {0}

-- an outcome, whose value is of a kind
abbrev pub GivesIn : {A : Type 0} → Knowledge → (A → Type 0) → Outcome A → Type 0
GivesIn v P (done a t) = P a × Known v t.now
GivesIn v P (leaves x t) = Known v t.now
GivesIn v P (spent t) = Known v t.now
GivesIn v P (ends e t) = Known v t.now
GivesIn v P (strays t) = Known v t.now

-- what a part makes of data
abbrev pub Good : {A : Type 0} → Knowledge → (A → Type 0) → Data → Outcome A → Type 0
Good v P d o = StaysIn d o × GivesIn v P o

-- a part that does
pub record Steady {A : Type 0} (v : Knowledge) (P : A → Type 0) (f : State → Outcome A) : Type 0 where
  pub is : (s : State) → Known v s.now → Good v P s.now (f s)

pub same_data : (d : Data) → frame.Stays d d
same_data d = record {
  top = refl;
  base = refl;
  inner = refl;
  words = λ a l m. m;
  none = λ a m. m;
  stack = refl;
  room = refl;
  lines = refl;
  extra = refl;
}

pub stays_on : (d e f : Data) → frame.Stays d e → frame.Stays e f → frame.Stays d f
stays_on d e f s t = record {
  top = t.top ∙ s.top;
  base = t.base ∙ s.base;
  inner = t.inner ∙ s.inner;
  words = λ a l m. t.words a (subst (λ (n : ℕ). a < n) (sym s.top) l) (s.words a l m);
  none = λ a m. t.none a (s.none a m);
  stack = t.stack ∙ s.stack;
  room = t.room ∙ s.room;
  lines = t.lines ∙ s.lines;
  extra = t.extra ∙ s.extra;
}

pub stays_in_on : {A : Type 0} (d e : Data) (o : Outcome A) → frame.Stays d e → StaysIn e o → StaysIn d o
stays_in_on d e (done a t) s h = stays_on d e t.now s h
stays_in_on d e (leaves x t) s h = stays_on d e t.now s h
stays_in_on d e (spent t) s h = h
stays_in_on d e (ends x t) s h = h
stays_in_on d e (strays t) s h = h

-- ---- what does nothing

pub steady_give : {A : Type 0} {P : A → Type 0} (v : Knowledge) (a : A) → P a → Steady v P (λ s. done a s)
steady_give v a p = record { is = λ s h. (same_data s.now, (p, h)) }

pub steady_done : {A : Type 0} (v : Knowledge) (a : A) → Steady {A = A} v Any (λ s. done a s)
steady_done v a = record { is = λ s h. (same_data s.now, (tt, h)) }

-- a word
pub steady_word_of : (v : Knowledge) (w : ℕ) → w < 65536 → Steady v (AllOf v.W) (λ s. done (w ∷ []) s)
steady_word_of v w l = steady_give v (w ∷ []) (v.small w l, tt)

pub steady_ends : {A : Type 0} {P : A → Type 0} (v : Knowledge) (e : End) → Steady {A = A} v P (λ s. ends e s)
steady_ends v e = record { is = λ s h. (tt, h) }

pub steady_strays : {A : Type 0} {P : A → Type 0} (v : Knowledge) → Steady {A = A} v P (λ s. strays s)
steady_strays v = record { is = λ s h. (tt, h) }

-- what has no meaning
pub steady_lost : {A : Type 0} {P : A → Type 0} (v : Knowledge) → Steady {A = A} v P (λ s. has_no_meaning s)
steady_lost v = record { is = λ s h. (tt, h) }

pub steady_spent : {A : Type 0} {P : A → Type 0} (v : Knowledge) → Steady {A = A} v P (λ s. spent s)
steady_spent v = record { is = λ s h. (tt, h) }

pub steady_left : {A : Type 0} {P : A → Type 0} (v : Knowledge) (x : _) → Steady {A = A} v P (λ s. leaves x s)
steady_left v x = record { is = λ s h. (same_data s.now, h) }

-- ---- one part after another

pub good_on : {A : Type 0} (P : A → Type 0) (v : Knowledge) (d e : Data) (o : Outcome A) → frame.Stays d e → Good v P e o → Good v P d o
good_on P v d e o s g = (stays_in_on d e o s g.0, g.1)

pub good_go : {A B : Type 0} (P : A → Type 0) (Q : B → Type 0) (v : Knowledge) (d : Data) (o : Outcome A) (g : A → State → Outcome B)
    → Good v P d o → ((a : A) → P a → Steady v Q (g a)) → Good v Q d (then_go o g)
good_go P Q v d (done a t) g i h = good_on Q v d t.now (g a t) i.0 ((h a i.1.0).is t i.1.1)
good_go P Q v d (leaves x t) g i h = (i.0, i.1)
good_go P Q v d (spent t) g i h = (i.0, i.1)
good_go P Q v d (ends e t) g i h = (i.0, i.1)
good_go P Q v d (strays t) g i h = (i.0, i.1)

pub steady_go : {A B : Type 0} {P : A → Type 0} {Q : B → Type 0} {v : Knowledge} {f : State → Outcome A} {h : A → State → Outcome B}
    → Steady v P f → ((a : A) → P a → Steady v Q (h a)) → Steady v Q (λ s. then_go (f s) h)
steady_go {P = P} {Q = Q} {v = v} {f = f} {h = h} t u = record { is = λ s k. good_go P Q v s.now (f s) h (t.is s k) u }

-- ---- a step

good_step : {A : Type 0} (P : A → Type 0) (v : Knowledge) (n : ℕ) (s : State) (g : State → Outcome A) → Known v s.now → Steady v P g
    → Good v P s.now (step_of n s g)
good_step P v zero s g h t = (tt, h)
good_step P v (suc n) s g h t = t.is (record s { left = n }) h

pub steady_step : {A : Type 0} {P : A → Type 0} {v : Knowledge} {g : State → Outcome A} → Steady v P g → Steady v P (λ s. stepping s g)
steady_step {P = P} {v = v} {g = g} t = record { is = λ s h. good_step P v s.left s g h t }

-- ---- choices

pub steady_if : {A : Type 0} {P : A → Type 0} {v : Knowledge} (c : Bool) {f g : State → Outcome A} → Steady v P f → Steady v P g
    → Steady v P (λ s. if c then f s else g s)
steady_if true t u = t
steady_if false t u = u

-- a part that looks at its data
pub steady_now : {A : Type 0} {P : A → Type 0} {v : Knowledge} (f : Data → State → Outcome A)
    → ((d : Data) → Known v d → Steady v P (f d)) → Steady v P (λ s. f s.now s)
steady_now f t = record { is = λ s h. (t s.now h).is s h }

-- a part that looks at the condition code
pub steady_coded : {A : Type 0} {P : A → Type 0} {v : Knowledge} (f : Option Code → State → Outcome A)
    → ((c : Option Code) → Steady v P (f c)) → Steady v P (λ s. f s.code s)
steady_coded f t = record { is = λ s h. (t s.code).is s h }

-- ---- states that are changed before a part

pub record Stays (v : Knowledge) (f : State → State) : Type 0 where
  pub is : (s : State) → frame.Stays s.now (f s).now
  pub known : (s : State) → Known v s.now → Known v (f s).now

pub steady_in : {A : Type 0} {P : A → Type 0} {v : Knowledge} {g : State → Outcome A} {f : State → State} → Stays v f → Steady v P g
    → Steady v P (λ s. g (f s))
steady_in {P = P} {v = v} {g = g} {f = f} k t = record { is = λ s h. good_on P v s.now (f s).now (g (f s)) (k.is s) (t.is (f s) (k.known s h)) }

pub stays_without_code : (v : Knowledge) → Stays v without_code
stays_without_code v = record { is = λ s. same_data s.now; known = λ s h. h }

pub stays_noted : (v : Knowledge) (i : ℕ) (at : At) → Stays v (noted i at)
stays_noted v i at = record { is = λ s. same_data s.now; known = λ s h. h }

-- a statement begins
pub steady_begin : {A : Type 0} {P : A → Type 0} {v : Knowledge} {g : State → Outcome A} → Steady v P g → Steady v P (λ s. beginning s g)
steady_begin {v = v} t = steady_step (steady_in (stays_without_code v) t)

-- and is noted
pub steady_stop : {A : Type 0} {P : A → Type 0} {v : Knowledge} (i : ℕ) (at : At) {g : State → Outcome A} → Steady v P g
    → Steady v P (λ s. stopping i at s g)
steady_stop {v = v} i at t = steady_step (steady_in (stays_noted v i at) (steady_in (stays_without_code v) t))

pub steady_dropped : {A : Type 0} {P : A → Type 0} {v : Knowledge} {f : State → Outcome A} → Steady v P f → Steady v P (λ s. code_dropped (f s))
steady_dropped {v = v} t = steady_go t (λ a p. steady_in (stays_without_code v) (steady_give v a p))

-- ---- words that are known

pub all_append : (W : ℕ → Type 0) (xs ys : List ℕ) → AllOf W xs → AllOf W ys → AllOf W (xs ++ ys)
all_append W [] ys p q = q
all_append W (x ∷ xs) ys p q = (p.0, all_append W xs ys p.1 q)

-- two words of a double
pub all_double : (v : Knowledge) (d : ℕ) → d < 4294967296 → AllOf v.W (d / 65536 ∷ d % 65536 ∷ [])
all_double v d l = (v.small (d / 65536) (omega (arith, l)), (v.small (d % 65536) (omega arith), tt))
