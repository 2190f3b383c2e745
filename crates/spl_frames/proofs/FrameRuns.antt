-- Calls leave the frame of their caller as it is.
use Rattle.std.proofs.Common.{ℕ, zero, suc, ◌≡◌, ◌+◌, ◌*◌, ◌/◌, ◌%◌, ◌<◌, ◌≤◌, Bool, true, false, List, [], ◌∷◌, ◌++◌, length, Option, Some, None, refl, sym, ap, subst, ◌∙◌, arith}
use Rattle.std.specs.Prelude.{ℤ, if◌then◌else◌, nat_lt, nat_eq, is_some, replicate}
use Rattle.std.proofs.lemmas.Bool.{lt-ltb, ltb-true, eqb-true}
use Rattle.spl_meaning.specs.hp_word.declared.endings.Trap.TheVariants.{StackOverflow, Bounds}
use Rattle.spl_meaning.specs.hp_word.Words.{word_of, double_of}
use Rattle.spl_meaning.specs.hp_word.Bytes.{high_word, low_word, with_byte}
use Rattle.spl_meaning.proofs.hp_word_proofs.WordLaws.{word_of-below, double_of-below}
use Rattle.spl_meaning.specs.spl_tree.declared.expressions.Kind.{Kind}
use Rattle.spl_meaning.specs.spl_tree.declared.expressions.Kind.TheVariants as kind
use Rattle.spl_meaning.specs.Names.{Profile}
use Rattle.spl_meaning.specs.Kinds.{width}
use Rattle.spl_meaning.specs.Tables.{Subroutine, subroutine_named}
use Rattle.spl_meaning.specs.Places.{Place, Cell, Initial, put, stored, word_or_zero, put_cells, put_initials, put_value, put_values, cell_word, viewed}
use Rattle.spl_meaning.specs.Pending.{result_words, return_words}
use Rattle.spl_meaning.specs.References.{address_of, data_word_read, word_at}
use Rattle.spl_meaning.specs.Operations.{result_value}
use Rattle.spl_meaning.specs.Values.{procedure, subroutine, Callee}
use Rattle.spl_meaning.specs.Statements.{run_body}
use Rattle.spl_meaning.specs.Bodies.{Body, Named, subroutine_body, body_named}
use Rattle.spl_meaning.specs.States.{Data, State, trapped, to_label, back, Outcome, done, leaves, spent, ends, strays, then_go, step_of}
use Rattle.spl_meaning.specs.Runs.{link_of, locals_of, parameters_put, procedure_framed, cells_set, subroutine_framed, framed, put_words, cut_at, zeroed, words_at, result_at, left_to, called_back, run_statement, enter_procedure, enter_subroutine, call_procedure, call_subroutine, calls}
use Rattle.spl_frames.specs.Frames as frame
use Rattle.spl_frames.specs.Words.{AllOf}
use Rattle.spl_frames.proofs.Steady.{MemOf, Knowledge, Known, Any, Good, Steady, steady_lost, steady_spent, same_data, stays_on, all_append}
use Rattle.spl_frames.proofs.FrameReferences.{put_there, mem_put, stored_there, mem_stored}
use Rattle.spl_frames.proofs.FrameOperations.{result_known}
use Rattle.spl_frames.proofs.FrameElements.{word_known}
use Rattle.spl_frames.proofs.FrameValues.{SteadyCalls}
use Rattle.spl_frames.proofs.FrameStatements.{steady_run_all, steady_body}

-- ---- new data words

-- the data words of one memory are those of another too
abbrev pub HasAll : (ℕ → Option ℕ) → (ℕ → Option ℕ) → Type 0
HasAll mem now = (a : ℕ) → is_some (mem a) ≡ true → is_some (now a) ≡ true

pub has_put : (a v : ℕ) (mem : ℕ → Option ℕ) → HasAll mem (put a v mem)
has_put a v mem b m = put_there a v mem b m

-- a word that is put is at its address alone
pub put_other : (a v : ℕ) (mem : ℕ → Option ℕ) (b : ℕ) → (a ≡ b → ⊥) → put a v mem b ≡ mem b
put_other a v mem b n = by (nat_eq a b) refl
  where
    by : (t : Bool) → nat_eq a b ≡ t → (if t then Some v else mem b) ≡ mem b
    by true e = absurd (n (eqb-true a b e))
    by false e = refl

pub has_words : (a : ℕ) (ws : List ℕ) (mem : ℕ → Option ℕ) → HasAll mem (put_words a ws mem)
has_words a [] mem b m = m
has_words a (w ∷ ws) mem b m = has_words (suc a) ws (put a w mem) b (has_put a w mem b m)

-- words put from an address on are not below it
pub words_above : (a : ℕ) (ws : List ℕ) (mem : ℕ → Option ℕ) (b : ℕ) → b < a → put_words a ws mem b ≡ mem b
words_above a [] mem b l = refl
words_above a (w ∷ ws) mem b l = words_above (suc a) ws (put a w mem) b (omega (arith, l)) ∙ put_other a w mem b (λ e. omega (arith, e, l))

words_put_known : (v : Knowledge) (a : ℕ) (ws : List ℕ) (mem : ℕ → Option ℕ) → AllOf v.W ws → MemOf v.W mem → MemOf v.W (put_words a ws mem)
words_put_known v a [] mem p h = h
words_put_known v a (w ∷ ws) mem p h = words_put_known v (suc a) ws (put a w mem) p.1 (mem_put v a w mem h p.0)

pub zeros_known : (v : Knowledge) (n : ℕ) → AllOf v.W (replicate n 0)
zeros_known v zero = tt
zeros_known v (suc n) = (v.small 0 (omega arith), zeros_known v n)

-- ---- cells and initial values are stored at data words

value_there : (k : Kind) (a j : ℕ) (z : ℤ) (mem : ℕ → Option ℕ) (b : ℕ) → is_some (put_value k a j z mem b) ≡ is_some (mem b)
value_there kind.Double a j z mem b =
    stored_there (a + 2 * j) (high_word (double_of z)) (stored (a + 2 * j + 1) (low_word (double_of z)) mem) b
    ∙ stored_there (a + 2 * j + 1) (low_word (double_of z)) mem b
value_there kind.Byte a j z mem b =
    stored_there ((2 * a + j) / 2) (with_byte (2 * a + j) (word_of z % 256) (word_or_zero (mem ((2 * a + j) / 2)))) mem b
value_there kind.Integer a j z mem b = stored_there (a + j) (word_of z) mem b
value_there kind.Logical a j z mem b = stored_there (a + j) (word_of z) mem b

values_there : (k : Kind) (a j : ℕ) (zs : List ℤ) (mem : ℕ → Option ℕ) (b : ℕ) → is_some (put_values k a j zs mem b) ≡ is_some (mem b)
values_there k a j [] mem b = refl
values_there k a j (z ∷ zs) mem b = values_there k a (suc j) zs (put_value k a j z mem) b ∙ value_there k a j z mem b

pub cells_there : (at : Place → ℕ) (cs : List Cell) (mem : ℕ → Option ℕ) (b : ℕ) → is_some (put_cells at cs mem b) ≡ is_some (mem b)
cells_there at [] mem b = refl
cells_there at (c ∷ cs) mem b =
    let w = viewed c.as_bytes (cell_word c.array.kind c.array.low (at c.array.from)) in
    cells_there at cs (stored (at c.place) w mem) b ∙ stored_there (at c.place) w mem b

pub initials_there : (at : Place → ℕ) (is : List Initial) (mem : ℕ → Option ℕ) (b : ℕ) → is_some (put_initials at is mem b) ≡ is_some (mem b)
initials_there at [] mem b = refl
initials_there at (i ∷ is) mem b =
    initials_there at is (put_values i.kind (at i.from) 0 i.values mem) b ∙ values_there i.kind (at i.from) 0 i.values mem b

pub set_there : (b : Body) (d : Data) (a : ℕ) → is_some ((cells_set b d).mem a) ≡ is_some (d.mem a)
set_there b d a =
    initials_there (λ p. address_of p d) b.initials (put_cells (λ p. address_of p d) b.cells d.mem) a
    ∙ cells_there (λ p. address_of p d) b.cells d.mem a

-- and are words
high_below : (z : ℤ) → high_word (double_of z) < 65536
unfolding high_word
high_below z = let l : double_of z < 4294967296 = double_of-below z in omega (arith, l)

low_below : (z : ℤ) → low_word (double_of z) < 65536
unfolding low_word
low_below z = omega arith

value_known : (v : Knowledge) (k : Kind) (a j : ℕ) (z : ℤ) (mem : ℕ → Option ℕ) → MemOf v.W mem → MemOf v.W (put_value k a j z mem)
value_known v kind.Double a j z mem h =
    mem_stored v (a + 2 * j) (high_word (double_of z)) (stored (a + 2 * j + 1) (low_word (double_of z)) mem)
    (mem_stored v (a + 2 * j + 1) (low_word (double_of z)) mem h (v.small _ (low_below z))) (v.small _ (high_below z))
value_known v kind.Byte a j z mem h =
    mem_stored v ((2 * a + j) / 2) (with_byte (2 * a + j) (word_of z % 256) (word_or_zero (mem ((2 * a + j) / 2)))) mem h
    (v.byte (2 * a + j) (word_of z) (word_or_zero (mem ((2 * a + j) / 2))) (word_known v mem ((2 * a + j) / 2) h))
value_known v kind.Integer a j z mem h = mem_stored v (a + j) (word_of z) mem h (v.small (word_of z) (word_of-below z))
value_known v kind.Logical a j z mem h = mem_stored v (a + j) (word_of z) mem h (v.small (word_of z) (word_of-below z))

values_known : (v : Knowledge) (k : Kind) (a j : ℕ) (zs : List ℤ) (mem : ℕ → Option ℕ) → MemOf v.W mem → MemOf v.W (put_values k a j zs mem)
values_known v k a j [] mem h = h
values_known v k a j (z ∷ zs) mem h = values_known v k a (suc j) zs (put_value k a j z mem) (value_known v k a j z mem h)

cell_below : (k : Kind) (low : ℤ) (a : ℕ) → cell_word k low a < 65536
cell_below kind.Double low a = word_of-below _
cell_below kind.Byte low a = word_of-below _
cell_below kind.Integer low a = word_of-below _
cell_below kind.Logical low a = word_of-below _

viewed_below : (t : Bool) (w : ℕ) → w < 65536 → viewed t w < 65536
viewed_below true w l = omega arith
viewed_below false w l = l

pub cells_known : (v : Knowledge) (at : Place → ℕ) (cs : List Cell) (mem : ℕ → Option ℕ) → MemOf v.W mem → MemOf v.W (put_cells at cs mem)
cells_known v at [] mem h = h
cells_known v at (c ∷ cs) mem h =
    let w = viewed c.as_bytes (cell_word c.array.kind c.array.low (at c.array.from)) in
    cells_known v at cs (stored (at c.place) w mem) (mem_stored v (at c.place) w mem h (v.small w
    (viewed_below c.as_bytes (cell_word c.array.kind c.array.low (at c.array.from)) (cell_below c.array.kind c.array.low (at c.array.from)))))

pub initials_known : (v : Knowledge) (at : Place → ℕ) (is : List Initial) (mem : ℕ → Option ℕ) → MemOf v.W mem → MemOf v.W (put_initials at is mem)
initials_known v at [] mem h = h
initials_known v at (i ∷ is) mem h =
    initials_known v at is (put_values i.kind (at i.from) 0 i.values mem) (values_known v i.kind (at i.from) 0 i.values mem h)

set_known : (v : Knowledge) (b : Body) (d : Data) → Known v d → Known v (cells_set b d)
set_known v b d h = record {
  mem = initials_known v (λ p. address_of p d) b.initials (put_cells (λ p. address_of p d) b.cells d.mem)
      (cells_known v (λ p. address_of p d) b.cells d.mem h.mem);
  extra = h.extra;
  lines = h.lines;
}

-- ---- a callee's run, seen from its caller

-- what a callee leaves to its caller: its frame is above, the data words below the caller's top, and what no step changes
record Below (caller d : Data) : Type 0 where
  pub above : caller.top ≤ d.top
  pub words : (a : ℕ) → a < caller.top → is_some (caller.mem a) ≡ true → is_some (d.mem a) ≡ true
  pub none : (a : ℕ) → a < caller.top → is_some (caller.mem a) ≡ false → is_some (d.mem a) ≡ false
  pub stack : d.stack ≡ caller.stack
  pub room : d.room ≡ caller.room
  pub lines : d.lines ≡ caller.lines
  pub extra : length d.extra ≡ length caller.extra

abbrev BelowIn : {A : Type 0} → Knowledge → Data → Outcome A → Type 0
BelowIn v caller (done a t) = Below caller t.now × Known v t.now
BelowIn v caller (leaves x t) = Below caller t.now × Known v t.now
BelowIn v caller (spent t) = Known v t.now
BelowIn v caller (ends e t) = Known v t.now
BelowIn v caller (strays t) = Known v t.now

below_on : (caller d e : Data) → Below caller d → frame.Stays d e → Below caller e
below_on caller d e i s = record {
  above = subst (λ (n : ℕ). caller.top ≤ n) (sym s.top) i.above;
  words = λ a l m. s.words a (omega (arith, i.above, l)) (i.words a l m);
  none = λ a l m. s.none a (i.none a l m);
  stack = s.stack ∙ i.stack;
  room = s.room ∙ i.room;
  lines = s.lines ∙ i.lines;
  extra = s.extra ∙ i.extra;
}

below_in_on : (v : Knowledge) (caller d : Data) (o : Outcome (Unit {0})) → Below caller d → Good v Any d o → BelowIn v caller o
below_in_on v caller d (done a t) i s = (below_on caller d t.now i s.0, s.1.1)
below_in_on v caller d (leaves x t) i s = (below_on caller d t.now i s.0, s.1)
below_in_on v caller d (spent t) i s = s.1
below_in_on v caller d (ends e t) i s = s.1
below_in_on v caller d (strays t) i s = s.1

-- ---- leaving

-- a part that is only read, and is left by no jump
abbrev Reads : {A : Type 0} → Knowledge → (A → Type 0) → Data → Outcome A → Type 0
Reads v P d (done a t) = frame.Stays d t.now × P a × Known v t.now
Reads v P d (leaves x t) = ⊥
Reads v P d (spent t) = Known v t.now
Reads v P d (ends e t) = Known v t.now
Reads v P d (strays t) = Known v t.now

reads_on : {A : Type 0} (P : A → Type 0) (v : Knowledge) (d e : Data) (o : Outcome A) → frame.Stays d e → Reads v P e o → Reads v P d o
reads_on P v d e (done a t) s h = (stays_on d e t.now s h.0, h.1, h.2)
reads_on P v d e (leaves x t) s h = h
reads_on P v d e (spent t) s h = h
reads_on P v d e (ends x t) s h = h
reads_on P v d e (strays t) s h = h

reads_go : {A B : Type 0} (P : A → Type 0) (Q : B → Type 0) (v : Knowledge) (d : Data) (o : Outcome A) (g : A → State → Outcome B)
    → Reads v P d o → ((a : A) (t : State) → P a → Known v t.now → Reads v Q t.now (g a t)) → Reads v Q d (then_go o g)
reads_go P Q v d (done a t) g i h = reads_on Q v d t.now (g a t) i.0 (h a t i.1 i.2)
reads_go P Q v d (leaves x t) g i h = absurd i
reads_go P Q v d (spent t) g i h = i
reads_go P Q v d (ends e t) g i h = i
reads_go P Q v d (strays t) g i h = i

reads_word : (v : Knowledge) (a : ℕ) (s : State) → Known v s.now → Reads v v.W s.now (word_at false a s)
reads_word v a s h = by (nat_lt a s.now.stack) (s.now.mem a) refl
  where
    by : (t : Bool) (o : Option ℕ) → s.now.mem a ≡ o → Reads {A = ℕ} v v.W s.now (if t then data_word_read o s else ends (trapped Bounds) s)
    by true None e = h
    by true (Some w) e = (same_data s.now, h.mem a w e, h)
    by false o e = h

reads_words : (v : Knowledge) (n a : ℕ) (s : State) → Known v s.now → Reads v (AllOf v.W) s.now (words_at n a s)
reads_words v zero a s h = (same_data s.now, tt, h)
reads_words v (suc n) a s h =
    reads_go v.W (AllOf v.W) v s.now (word_at false a s) (λ w s1. then_go (words_at n (suc a) s1) (λ ws s2. done (w ∷ ws) s2))
    (reads_word v a s h) (λ w t p k.
    reads_go (AllOf v.W) (AllOf v.W) v t.now (words_at n (suc a) t) (λ ws s2. done (w ∷ ws) s2) (reads_words v n (suc a) t k)
    (λ ws u q l. (same_data u.now, (p, q), l)))

reads_result : (v : Knowledge) (k : Option Kind) (a : ℕ) (s : State) → Known v s.now → Reads v (AllOf v.W) s.now (result_at k a s)
reads_result v None a s h = (same_data s.now, tt, h)
reads_result v (Some k) a s h =
    reads_go (AllOf v.W) (AllOf v.W) v s.now (words_at (width k) a s) (λ ws s1. done (result_value k ws) s1) (reads_words v (width k) a s h)
    (λ ws t p l. (same_data t.now, result_known v k ws p, l))

-- the frame of the caller is there again, and nothing above it
left_stays : (caller : Data) (s : State) → Below caller s.now → frame.Stays caller (left_to caller s).now
left_stays caller s i = record {
  top = refl;
  base = refl;
  inner = refl;
  words = λ a l m. cut a l (i.words a l m);
  none = λ a m. gone a m;
  stack = i.stack;
  room = i.room;
  lines = i.lines;
  extra = i.extra;
}
  where
    cut : (a : ℕ) → a < caller.top → is_some (s.now.mem a) ≡ true → is_some (cut_at caller.top s.now.mem a) ≡ true
    cut a l m = subst (λ (t : Bool). is_some (if t then s.now.mem a else None) ≡ true) (sym (lt-ltb a caller.top l)) m

    gone : (a : ℕ) → is_some (caller.mem a) ≡ false → is_some (cut_at caller.top s.now.mem a) ≡ false
    gone a m = by (nat_lt a caller.top) refl
      where
        by : (t : Bool) → nat_lt a caller.top ≡ t → is_some (if t then s.now.mem a else None) ≡ false
        by true e = i.none a (ltb-true a caller.top e) m
        by false e = refl

left_known : (v : Knowledge) (caller : Data) (s : State) → Known v s.now → Known v (left_to caller s).now
left_known v caller s h = record { mem = cut; extra = h.extra; lines = h.lines }
  where
    cut : MemOf v.W (cut_at caller.top s.now.mem)
    cut a u e = by (nat_lt a caller.top) e
      where
        by : (t : Bool) → (if t then s.now.mem a else None) ≡ Some u → v.W u
        by true e = h.mem a u e
        by false e = cc

keeps_result : (v : Knowledge) (caller d : Data) (o : Outcome (List ℕ)) → Below caller d → Reads v (AllOf v.W) d o
    → Good v (AllOf v.W) caller (then_go o (λ vs s1. done vs (left_to caller s1)))
keeps_result v caller d (done vs t) i s = (left_stays caller t (below_on caller d t.now i s.0), (s.1, left_known v caller t s.2))
keeps_result v caller d (leaves x t) i s = absurd s
keeps_result v caller d (spent t) i s = (tt, s)
keeps_result v caller d (ends e t) i s = (tt, s)
keeps_result v caller d (strays t) i s = (tt, s)

keeps_called : (v : Knowledge) (caller : Data) (p : Profile) (first : ℕ) (o : Outcome (Unit {0})) → BelowIn v caller o
    → Good v (AllOf v.W) caller (called_back caller p first o)
keeps_called v caller p first (done a t) i = keeps_result v caller t.now (result_at p.result first t) i.0 (reads_result v p.result first t i.1)
keeps_called v caller p first (leaves back t) i = keeps_result v caller t.now (result_at p.result first t) i.0 (reads_result v p.result first t i.1)
keeps_called v caller p first (leaves (to_label x) t) i = (tt, i.1)
keeps_called v caller p first (spent t) i = (tt, i)
keeps_called v caller p first (ends e t) i = (tt, i)
keeps_called v caller p first (strays t) i = (tt, i)

-- ---- entering

-- a word of zero above the caller
below_zero : (v : Knowledge) (caller d : Data) (a : ℕ) → caller.top ≤ a → Below caller d → Below caller (record d { mem = put a 0 d.mem })
below_zero v caller d a h i = record {
  above = i.above;
  words = λ b l m. has_put a 0 d.mem b (i.words b l m);
  none = λ b l m. ap is_some (put_other a 0 d.mem b (λ e. omega (arith, e, l, h))) ∙ i.none b l m;
  stack = i.stack;
  room = i.room;
  lines = i.lines;
  extra = i.extra;
}

zero_known : (v : Knowledge) (d : Data) (a : ℕ) → Known v d → Known v (record d { mem = put a 0 d.mem })
zero_known v d a h = record { mem = mem_put v a 0 d.mem h.mem (v.small 0 (omega arith)); extra = h.extra; lines = h.lines }

keeps_zeroed : (v : Knowledge) (n a : ℕ) (caller : Data) (s : State) (go : State → Outcome (List ℕ)) → caller.top ≤ a → Below caller s.now
    → Known v s.now → ((t : State) → Below caller t.now → Known v t.now → Good v (AllOf v.W) caller (go t))
    → Good v (AllOf v.W) caller (zeroed n a s go)
keeps_zeroed v zero a caller s go h i k g = g s i k
keeps_zeroed v (suc n) a caller s go h i k g =
    by s.left (λ m.
    keeps_zeroed v n (suc a) caller (record s { left = m; now = record s.now { mem = put a 0 s.now.mem } }) go (omega (arith, h))
    (below_zero v caller s.now a h i) (zero_known v s.now a k) g)
  where
    by : (left : ℕ)
        → ((m : ℕ) → Good v (AllOf v.W) caller (zeroed n (suc a) (record s { left = m; now = record s.now { mem = put a 0 s.now.mem } }) go))
        → Good v (AllOf v.W) caller (step_of left s (λ s1. zeroed n (suc a) (record s1 { now = record s1.now { mem = put a 0 s1.now.mem } }) go))
    by zero f = (tt, k)
    by (suc m) f = f m

-- the result and the parameters stand above the caller
below_put : (caller d : Data) (k : ℕ) (b : Body) (ws : List ℕ) → caller.top ≤ d.top
    → d.mem ≡ parameters_put caller.top k b ws caller.mem → d.stack ≡ caller.stack → d.room ≡ caller.room → d.lines ≡ caller.lines
    → length d.extra ≡ length caller.extra → Below caller d
below_put caller d k b ws t m s r l x = record {
  above = t;
  words = λ a l m1. ap (λ (f : ℕ → Option ℕ). is_some (f a)) m ∙ has_words (caller.top + k) (replicate (result_words b.profile) 0 ++ ws) caller.mem a m1;
  none = λ a l m1.
      ap (λ (f : ℕ → Option ℕ). is_some (f a)) m
      ∙ ap is_some (words_above (caller.top + k) (replicate (result_words b.profile) 0 ++ ws) caller.mem a (omega (arith, l))) ∙ m1;
  stack = s;
  room = r;
  lines = l;
  extra = x;
}

put_known : (v : Knowledge) (d : Data) (k : ℕ) (b : Body) (ws : List ℕ) → AllOf v.W ws → Known v d → MemOf v.W (parameters_put d.top k b ws d.mem)
put_known v d k b ws p h =
    words_put_known v (d.top + k) (replicate (result_words b.profile) 0 ++ ws) d.mem
    (all_append v.W (replicate (result_words b.profile) 0) ws (zeros_known v (result_words b.profile)) p) h.mem

steady_enter : (v : Knowledge) (d : ℕ) (c : Callee) → SteadyCalls v c → (b : Body) (ws : List ℕ) (k : ℕ) → AllOf v.W ws
    → Steady v (AllOf v.W) (enter_procedure c d b ws k)
steady_enter v d c t b ws k p = record { is = λ s h. entered s h }
  where
    by : (s : State) (t : Bool) (o : Outcome (List ℕ)) → Known v s.now → Good v (AllOf v.W) s.now o
        → Good v (AllOf v.W) s.now (if t then ends (trapped StackOverflow) s else o)
    by s true o k h = (tt, k)
    by s false o k h = h

    body : (first : ℕ) (caller : Data) (s1 : State) → Below caller s1.now → Known v s1.now
        → Good v (AllOf v.W) caller (called_back caller b.profile first (run_body b.here c d b.number b.statements (record s1 { now = cells_set b s1.now })))
    body first caller s1 i h =
        let s2 = record s1 { now = cells_set b s1.now } in
        let j : Below caller s2.now = record {
          above = i.above;
          words = λ a l m. set_there b s1.now a ∙ i.words a l m;
          none = λ a l m. set_there b s1.now a ∙ i.none a l m;
          stack = i.stack;
          room = i.room;
          lines = i.lines;
          extra = i.extra;
        } in
        keeps_called v caller b.profile first (run_body b.here c d b.number b.statements s2)
        (below_in_on v caller s2.now (run_body b.here c d b.number b.statements s2) j
        ((steady_body v d b.number b.here c t b.statements).is s2 (set_known v b s1.now h)))

    entered : (s : State) → Known v s.now → Good v (AllOf v.W) s.now (enter_procedure c d b ws k s)
    entered s h =
        by s (nat_lt s.now.stack (locals_of s.now.top k b + b.words + b.depth')) _ h
        (keeps_zeroed v b.words (locals_of s.now.top k b) s.now (framed (procedure_framed k b ws s.now) s)
        (λ s1. called_back s.now b.profile (s.now.top + k) (run_body b.here c d b.number b.statements (record s1 { now = cells_set b s1.now })))
        (omega arith)
        (below_put s.now (procedure_framed k b ws s.now) k b ws (omega arith) refl refl refl refl refl)
        (record { mem = put_known v s.now k b ws p h; extra = h.extra; lines = h.lines })
        (λ s1 i g. body (s.now.top + k) s.now s1 i g))

steady_enter_subroutine : (v : Knowledge) (d : ℕ) (c : Callee) → SteadyCalls v c → (b : Body) (ws : List ℕ) (k : ℕ) → AllOf v.W ws
    → Steady v (AllOf v.W) (enter_subroutine c d b ws k)
steady_enter_subroutine v d c t b ws k p = record { is = λ s h. entered s h }
  where
    by : (s : State) (t : Bool) (o : Outcome (List ℕ)) → Known v s.now → Good v (AllOf v.W) s.now o
        → Good v (AllOf v.W) s.now (if t then ends (trapped StackOverflow) s else o)
    by s true o k h = (tt, k)
    by s false o k h = h

    entered : (s : State) → Known v s.now → Good v (AllOf v.W) s.now (enter_subroutine c d b ws k s)
    entered s h =
        let s1 = framed (subroutine_framed k b ws s.now) s in
        let known : Known v s1.now = record { mem = put_known v s.now k b ws p h; extra = h.extra; lines = h.lines } in
        by s (nat_lt s.now.stack (link_of s.now.top k b + return_words + b.depth')) _ h
        (keeps_called v s.now b.profile (s.now.top + k) (run_statement b c d s1)
        (below_in_on v s.now s1.now (run_statement b c d s1)
        (below_put s.now s1.now k b ws (omega arith) refl refl refl refl refl)
        ((steady_run_all v d b.number b.here c t b.statements 0).is s1 known)))

steady_call_procedure : (v : Knowledge) (d : ℕ) (o : Option Body) (c : Body → Callee) → ((b : Body) → SteadyCalls v (c b)) → (ws : List ℕ) (k : ℕ)
    → AllOf v.W ws → Steady v (AllOf v.W) (call_procedure o c d ws k)
steady_call_procedure v d (Some b) c t ws k p = steady_enter v d (c b) (t b) b ws k p
steady_call_procedure v d None c t ws k p = steady_lost v

steady_call_subroutine : (v : Knowledge) (d : ℕ) (o : Option Subroutine) (b : Body) (c : Callee) → SteadyCalls v c → (ws : List ℕ) (k : ℕ)
    → AllOf v.W ws → Steady v (AllOf v.W) (call_subroutine o b c d ws k)
steady_call_subroutine v d (Some x) b c t ws k p = steady_enter_subroutine v d c t (subroutine_body b x) ws k p
steady_call_subroutine v d None b c t ws k p = steady_lost v

pub steady_calls : (v : Knowledge) (procedures : List Named) (d : ℕ) (b : Body) → SteadyCalls v (calls procedures d b)
steady_calls v procedures zero b who ws k p = steady_spent v
steady_calls v procedures (suc d) b (procedure x) ws k p =
    steady_call_procedure v d (body_named procedures x) (λ c. calls procedures d c) (λ c. steady_calls v procedures d c) ws k p
steady_calls v procedures (suc d) b (subroutine x) ws k p =
    steady_call_subroutine v d (subroutine_named b.subroutines x) b (calls procedures d b) (steady_calls v procedures d b) ws k p
