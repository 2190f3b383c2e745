-- MOVE, SCAN, comparisons of bytes and intrinsics are steady.
use Rattle.std.proofs.Common.{ℕ, zero, suc, ◌≡◌, ◌/◌, Option, Some, None, Bool, true, false, ◌+◌, ◌-◌, ◌*◌, ◌%◌, ◌==◌, List, [], ◌∷◌, length, refl, ◌∙◌, arith}
use Rattle.std.specs.Prelude.{if◌then◌else◌, ◌&&◌, nat_le, not, slice_get, is_some}
use Rattle.spl_meaning.specs.hp_word.declared.arithmetic.Code.{Code}
use Rattle.spl_meaning.specs.hp_word.declared.arithmetic.Code.TheVariants.{Equal}
use Rattle.spl_meaning.specs.hp_word.declared.endings.Ending.{Ending}
use Rattle.spl_meaning.specs.hp_word.declared.endings.Ending.TheVariants as ending
use Rattle.spl_meaning.specs.hp_word.declared.endings.Trap.TheVariants.{Bounds, OutputLimit}
use Rattle.spl_meaning.specs.hp_word.declared.intrinsics.Intrinsic.{Intrinsic}
use Rattle.spl_meaning.specs.hp_word.Words.{signed, logically_compared}
use Rattle.spl_meaning.specs.hp_word.Bytes.{with_byte}
use Rattle.spl_meaning.specs.hp_word.Intrinsics as gate
use Rattle.spl_meaning.specs.spl_tree.declared.expressions.Kind.{Kind}
use Rattle.spl_meaning.specs.spl_tree.declared.expressions.Kind.TheVariants as kind
use Rattle.spl_meaning.specs.Places.{put_byte, word_or_zero}
use Rattle.spl_meaning.specs.States.{Data, State, terminated, quit, trapped, Outcome, ends, strays, stepping, printed_size}
use Rattle.spl_meaning.specs.References.{Located}
use Rattle.spl_meaning.specs.Operations.{related}
use Rattle.spl_meaning.specs.Elements.{next_located, neighbour, count_size, is_upward, with_one, moved, moved_by, moved_list, moved_text, as_words, text_elements, is_of_class, of_class, moved_while, is_passed, scanned, told_apart, compared, compared_by, compared_text, relation_told}
use Rattle.spl_meaning.specs.Serving.{with_bytes, touched, all_below, all_data, carried_out, answered, effected, served, byte_of}
use Rattle.spl_frames.specs.Words.{AllOf}
use Rattle.spl_frames.proofs.Steady.{MemOf, BytesOf, Knowledge, Any, Steady, steady_give, steady_done, steady_ends, steady_strays, steady_lost, steady_spent, steady_go, steady_step, steady_if, steady_now, Stays, steady_in}
use Rattle.spl_frames.proofs.FrameReferences.{Storable, stored_there, mem_stored, steady_read, steady_store, steady_store_one}
use Rattle.spl_frames.proofs.FrameOperations.{steady_truth}

-- the one word of a value
pub steady_one : {A : Type 0} {P : A → Type 0} (v : Knowledge) (vs : List ℕ) → AllOf v.W vs → {g : ℕ → State → Outcome A}
    → ((w : ℕ) → v.W w → Steady v P (g w)) → Steady v P (λ s. with_one vs s g)
steady_one v [] p t = steady_lost v
steady_one v (w ∷ []) p t = t w p.0
steady_one v (w ∷ x ∷ vs) p t = steady_lost v

-- ---- MOVE

steady_moved : (v : Knowledge) (up : Bool) (n : ℕ) (to from : Located) → Steady v Any (moved up n to from)
steady_moved v up zero to from = steady_done v to
steady_moved v up (suc n) to from =
    steady_step (steady_go (steady_read v from) (λ vs p. steady_go (steady_store v to vs p) (λ _ _.
    steady_moved v up n (neighbour up to) (neighbour up from))))

pub steady_moved_by : (v : Knowledge) (count : ℕ) (to from : Located) → Steady v Any (moved_by count to from)
steady_moved_by v count to from = steady_moved v (is_upward (signed count)) (count_size (signed count)) to from

-- values that may be stored, of one kind
abbrev Elements : Knowledge → Kind → List ℕ → Type 0
Elements v k [] = Unit {0}
Elements v k (x ∷ xs) = Storable v k x × Elements v k xs

steady_moved_list : (v : Knowledge) (vs : List ℕ) (to : Located) → Elements v to.kind vs → Steady v Any (moved_list vs to)
steady_moved_list v [] to h = steady_done v to
steady_moved_list v (x ∷ vs) to h =
    steady_step (steady_go (steady_store_one v to x h.0) (λ _ _. steady_moved_list v vs (next_located to) h.1))

words_known : (v : Knowledge) (bs : List ℕ) → AllOf v.W (as_words bs)
words_known v [] = tt
words_known v (a ∷ []) = (v.small ((256 * a + 32) % 65536) (omega arith), tt)
words_known v (a ∷ b ∷ bs) = (v.small ((256 * a + b) % 65536) (omega arith), words_known v bs)

elements_known : (v : Knowledge) (k : Kind) (bs : List ℕ) → Elements v k (text_elements k bs)
elements_known v kind.Byte bs = bytes bs
  where
    bytes : (bs : List ℕ) → Elements v kind.Byte bs
    bytes [] = tt
    bytes (b ∷ bs) = (tt, bytes bs)
elements_known v kind.Integer bs = each (as_words bs) (words_known v bs)
  where
    each : (ws : List ℕ) → AllOf v.W ws → Elements v kind.Integer ws
    each [] p = tt
    each (w ∷ ws) p = (p.0, each ws p.1)
elements_known v kind.Logical bs = each (as_words bs) (words_known v bs)
  where
    each : (ws : List ℕ) → AllOf v.W ws → Elements v kind.Logical ws
    each [] p = tt
    each (w ∷ ws) p = (p.0, each ws p.1)
elements_known v kind.Double bs = each (as_words bs) (words_known v bs)
  where
    each : (ws : List ℕ) → AllOf v.W ws → Elements v kind.Double ws
    each [] p = tt
    each (w ∷ ws) p = (p.0, each ws p.1)

pub steady_moved_text : (v : Knowledge) (bytes : List ℕ) (to : Located) → Steady v Any (moved_text bytes to)
steady_moved_text v bytes to = steady_moved_list v (text_elements to.kind bytes) to (elements_known v to.kind bytes)

-- a small letter's capital is less
class_known : (v : Knowledge) (c b : ℕ) → v.W b → v.W (of_class c b)
class_known v c b p = by (nat_le 3 c && nat_le 97 b && nat_le b 122)
  where
    by : (t : Bool) → v.W (if t then b - 32 else b)
    by true = v.less b (b - 32) p (omega arith)
    by false = p

pub steady_moved_while : (v : Knowledge) (d c : ℕ) (to from : Located) → Steady v Any (moved_while d c to from)
steady_moved_while v zero c to from = steady_spent v
steady_moved_while v (suc d) c to from =
    steady_go (steady_read v from) (λ vs p. steady_one v vs p (λ x q. steady_if (is_of_class c x)
    (steady_step (steady_go (steady_store v to (of_class c x ∷ []) (class_known v c x q, tt)) (λ _ _.
    steady_moved_while v d c (next_located to) (next_located from))))
    (steady_done v to)))

-- ---- SCAN

pub steady_scanned : (v : Knowledge) (d : ℕ) (until : Bool) (test : ℕ) (from : Located) → Steady v Any (scanned d until test from)
steady_scanned v zero until test from = steady_spent v
steady_scanned v (suc d) until test from =
    steady_go (steady_read v from) (λ vs p. steady_one v vs p (λ x q. steady_if (is_passed until test x)
    (steady_step (steady_scanned v d until test (next_located from))) (steady_done v from)))

-- ---- comparisons of bytes

steady_told : (v : Knowledge) (x y : ℕ) {g : State → Outcome Code} → Steady v Any g → Steady v Any (λ s. told_apart x y s g)
steady_told v x y t = steady_if (x == y) t (steady_done v (logically_compared x y))

steady_compared : (v : Knowledge) (up : Bool) (n : ℕ) (p q : Located) → Steady v Any (compared up n p q)
steady_compared v up zero p q = steady_done v Equal
steady_compared v up (suc n) p q =
    steady_step (steady_go (steady_read v p) (λ xs k. steady_go (steady_read v q) (λ ys l. steady_one v xs k (λ x _. steady_one v ys l (λ y _.
    steady_told v x y (steady_compared v up n (neighbour up p) (neighbour up q)))))))

pub steady_compared_by : (v : Knowledge) (count : ℕ) (p q : Located) → Steady v Any (compared_by count p q)
steady_compared_by v count p q = steady_compared v (is_upward (signed count)) (count_size (signed count)) p q

pub steady_compared_text : (v : Knowledge) (p : Located) (ys : List ℕ) → Steady v Any (compared_text p ys)
steady_compared_text v p [] = steady_done v Equal
steady_compared_text v p (y ∷ ys) =
    steady_step (steady_go (steady_read v p) (λ xs k. steady_one v xs k (λ x _. steady_told v x y (steady_compared_text v (next_located p) ys))))

pub steady_relation_told : (v : Knowledge) (op : ℕ) {f : State → Outcome Code} → Steady v Any f → Steady v (AllOf v.W) (λ s. relation_told op (f s))
steady_relation_told v op t = steady_go t (λ c _. steady_truth v (related op c))

-- ---- intrinsics

steady_answered : (v : Knowledge) (e : Ending) (answer : List ℕ) → AllOf v.W answer → Steady v (AllOf v.W) (answered e answer)
steady_answered v ending.Running answer p = steady_give v answer p
steady_answered v ending.Terminated answer p = steady_ends v terminated
steady_answered v (ending.Quit q) answer p = steady_ends v (quit q)
steady_answered v (ending.Trapped t) answer p = steady_ends v (trapped t)

-- bytes that are stored leave the same data words
bytes_there : (ps : List (ℕ × ℕ)) (mem : ℕ → Option ℕ) (b : ℕ) → is_some (with_bytes ps mem b) ≡ is_some (mem b)
bytes_there [] mem b = refl
bytes_there (p ∷ ps) mem b =
    bytes_there ps (put_byte p.0 p.1 mem) b ∙ stored_there (p.0 / 2) (with_byte p.0 p.1 (word_or_zero (mem (p.0 / 2)))) mem b

-- a data word, or zero
pub word_known : (v : Knowledge) (mem : ℕ → Option ℕ) (a : ℕ) → MemOf v.W mem → v.W (word_or_zero (mem a))
word_known v mem a h = by (mem a) refl
  where
    by : (o : Option ℕ) → mem a ≡ o → v.W (word_or_zero o)
    by (Some w) e = h a w e
    by None e = v.small 0 (omega arith)

bytes_known : (v : Knowledge) (ps : List (ℕ × ℕ)) (mem : ℕ → Option ℕ) → BytesOf v.W ps → MemOf v.W mem → MemOf v.W (with_bytes ps mem)
bytes_known v [] mem p h = h
bytes_known v (b ∷ ps) mem p h =
    bytes_known v ps (put_byte b.0 b.1 mem) p.1
    (mem_stored v (b.0 / 2) (with_byte b.0 b.1 (word_or_zero (mem (b.0 / 2)))) mem h (p.0 _ (word_known v mem (b.0 / 2) h)))

stays_carried : (v : Knowledge) (e : gate.Effect) → BytesOf v.W e.stores → Stays v (carried_out e)
stays_carried v e p = record {
  is = λ s. record {
    top = refl;
    base = refl;
    inner = refl;
    words = λ a l m. bytes_there e.stores s.now.mem a ∙ m;
    none = λ a m. bytes_there e.stores s.now.mem a ∙ m;
    stack = refl;
    room = refl;
    lines = refl;
    extra = refl;
  };
  known = λ s h. record { mem = bytes_known v e.stores s.now.mem p h.mem; extra = h.extra; lines = h.lines };
}

-- a call, by the data that it finds
abbrev by : gate.Effect → Data → State → Outcome (List ℕ)
by e d s =
    if not (all_below d.stack (touched e)) then ends (trapped Bounds) s
    else if not (all_data d.mem (touched e)) then strays s
    else if not (nat_le (length e.prints) (d.room - printed_size d.printed)) then ends (trapped OutputLimit) s
    else stepping (carried_out e s) (λ s1. answered e.ending e.answer s1)

steady_effected : (v : Knowledge) (e : gate.Effect) → AllOf v.W e.answer → BytesOf v.W e.stores → Steady v (AllOf v.W) (effected e)
steady_effected v e p q = steady_now (by e) (λ d h.
    steady_if (not (all_below d.stack (touched e))) (steady_ends v (trapped Bounds))
    (steady_if (not (all_data d.mem (touched e))) (steady_strays v)
    (steady_if (not (nat_le (length e.prints) (d.room - printed_size d.printed))) (steady_ends v (trapped OutputLimit))
    (steady_in (stays_carried v e q) (steady_step (steady_answered v e.ending e.answer p))))))

pub steady_served : (v : Knowledge) (i : Intrinsic) (ws : List ℕ) → AllOf v.W ws → Steady v (AllOf v.W) (served i ws)
steady_served v i ws p =
    steady_now (λ d s. effected (gate.called (byte_of d.mem) (slice_get d.lines d.taken) i ws) s)
    (λ d h. steady_effected v (gate.called (byte_of d.mem) (slice_get d.lines d.taken) i ws) (v.answer d i ws h p) (v.stores d i ws h p))
