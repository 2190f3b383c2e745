-- MOVE, SCAN, comparisons of bytes and intrinsics are tame.
use Rattle.std.proofs.Common.{ℕ, zero, suc, ◌≡◌, ◌≤◌, ◌+◌, ◌-◌, ◌==◌, Bool, List, [], ◌∷◌, ◌++◌, length, refl, sym, arith}
use Rattle.std.proofs.lemmas.List.{append-nil, length-append}
use Rattle.std.specs.Prelude.{if◌then◌else◌, nat_le, not, slice_get}
use Rattle.hp_word.specs.declared.arithmetic.Code.{Code}
use Rattle.hp_word.specs.declared.arithmetic.Code.TheVariants.{Equal}
use Rattle.hp_word.specs.declared.endings.Ending.{Ending}
use Rattle.hp_word.specs.declared.endings.Ending.TheVariants as ending
use Rattle.hp_word.specs.declared.endings.Trap.TheVariants.{Bounds, OutputLimit}
use Rattle.hp_word.specs.declared.intrinsics.Intrinsic.{Intrinsic}
use Rattle.hp_word.specs.Words.{signed, logically_compared}
use Rattle.hp_word.specs.Intrinsics as gate
use Rattle.spl_meaning.specs.Names.{truth_word}
use Rattle.spl_meaning.specs.States.{Data, State, terminated, quit, trapped, Outcome, ends, strays, stepping, printed_size}
use Rattle.spl_meaning.specs.References.{Located}
use Rattle.spl_meaning.specs.Operations.{related}
use Rattle.spl_meaning.specs.Elements.{next_located, neighbour, count_size, is_upward, with_one, moved, moved_by, moved_list, moved_text, text_elements, is_of_class, of_class, moved_while, is_passed, scanned, told_apart, compared, compared_by, compared_text, relation_told}
use Rattle.spl_meaning.specs.Serving.{with_print, touched, all_below, all_data, carried_out, answered, effected, served, byte_of}
use Rattle.spl_meaning.proofs.Tame.{Grown, Calm, Tame, calm_go, calm_step, calm_done, calm_lost, calm_if, calm_nowhere, tame_nowhere, tame_done, tame_ends, tame_strays, tame_lost, tame_go, tame_step, tame_less, tame_if, tame_now, Few, Adds, tame_in_step}
use Rattle.spl_meaning.proofs.TameReferences.{tame_read, tame_store}

-- the one word of a value
pub tame_one : {A : Type 0} (b : ℕ) (vs : List ℕ) {g h : ℕ → State → Outcome A} → ((w : ℕ) → Tame b (g w) (h w))
    → Tame b (λ s. with_one vs s g) (λ s. with_one vs s h)
tame_one b [] t = tame_lost b
tame_one b (w ∷ []) t = t w
tame_one b (w ∷ v ∷ vs) t = tame_lost b

-- ---- MOVE

tame_moved : (b : ℕ) (up : Bool) (n : ℕ) (to from : Located) → Tame b (moved up n to from) (moved up n to from)
tame_moved b up zero to from = tame_done b to
tame_moved b up (suc n) to from =
    tame_less (tame_step (tame_go (tame_read b from) (λ vs. tame_go (tame_store b to vs) (λ _.
    tame_moved b up n (neighbour up to) (neighbour up from)))))

pub tame_moved_by : (b count : ℕ) (to from : Located) → Tame b (moved_by count to from) (moved_by count to from)
tame_moved_by b count to from = tame_moved b (is_upward (signed count)) (count_size (signed count)) to from

tame_moved_list : (b : ℕ) (vs : List ℕ) (to : Located) → Tame b (moved_list vs to) (moved_list vs to)
tame_moved_list b [] to = tame_done b to
tame_moved_list b (v ∷ vs) to = tame_less (tame_step (tame_go (tame_store b to (v ∷ [])) (λ _. tame_moved_list b vs (next_located to))))

pub tame_moved_text : (b : ℕ) (bytes : List ℕ) (to : Located) → Tame b (moved_text bytes to) (moved_text bytes to)
tame_moved_text b bytes to = tame_moved_list b (text_elements to.kind bytes) to

pub calm_one : {A : Type 0} (b : ℕ) (vs : List ℕ) {g : ℕ → State → Outcome A} → ((w : ℕ) → Calm b (g w)) → Calm b (λ s. with_one vs s g)
calm_one b [] t = calm_lost b
calm_one b (w ∷ []) t = t w
calm_one b (w ∷ v ∷ vs) t = calm_lost b

-- A loop has more turns than steps are left, so it never lacks one.
pub tame_moved_while : (b c : ℕ) (to from : Located) → Tame b (moved_while b c to from) (moved_while (suc b) c to from)
tame_moved_while zero c to from =
    tame_nowhere (calm_go (tame_read 1 from).first (λ vs. calm_one 1 vs (λ x. calm_if (is_of_class c x)
    (calm_step (calm_go (tame_store 0 to (of_class c x ∷ [])).first (λ _. calm_nowhere))) (calm_done 1 to))))
tame_moved_while (suc b) c to from =
    tame_go (tame_read (suc b) from) (λ vs. tame_one (suc b) vs (λ x. tame_if (is_of_class c x)
    (tame_step (tame_go (tame_store b to (of_class c x ∷ [])) (λ _. tame_moved_while b c (next_located to) (next_located from))))
    (tame_done (suc b) to)))

-- ---- SCAN

pub tame_scanned : (b : ℕ) (until : Bool) (test : ℕ) (from : Located) → Tame b (scanned b until test from) (scanned (suc b) until test from)
tame_scanned zero until test from =
    tame_nowhere (calm_go (tame_read 1 from).first (λ vs. calm_one 1 vs (λ x. calm_if (is_passed until test x)
    (calm_step calm_nowhere) (calm_done 1 from))))
tame_scanned (suc b) until test from =
    tame_go (tame_read (suc b) from) (λ vs. tame_one (suc b) vs (λ x. tame_if (is_passed until test x)
    (tame_step (tame_scanned b until test (next_located from))) (tame_done (suc b) from)))

-- ---- comparisons of bytes

tame_told : (b x y : ℕ) {g h : State → Outcome Code} → Tame b g h → Tame b (λ s. told_apart x y s g) (λ s. told_apart x y s h)
tame_told b x y t = tame_if (x == y) t (tame_done b (logically_compared x y))

tame_compared : (b : ℕ) (up : Bool) (n : ℕ) (p q : Located) → Tame b (compared up n p q) (compared up n p q)
tame_compared b up zero p q = tame_done b Equal
tame_compared b up (suc n) p q =
    tame_less (tame_step (tame_go (tame_read b p) (λ xs. tame_go (tame_read b q) (λ ys. tame_one b xs (λ x. tame_one b ys (λ y.
    tame_told b x y (tame_compared b up n (neighbour up p) (neighbour up q))))))))

pub tame_compared_by : (b count : ℕ) (p q : Located) → Tame b (compared_by count p q) (compared_by count p q)
tame_compared_by b count p q = tame_compared b (is_upward (signed count)) (count_size (signed count)) p q

pub tame_compared_text : (b : ℕ) (p : Located) (ys : List ℕ) → Tame b (compared_text p ys) (compared_text p ys)
tame_compared_text b p [] = tame_done b Equal
tame_compared_text b p (y ∷ ys) =
    tame_less (tame_step (tame_go (tame_read b p) (λ xs. tame_one b xs (λ x. tame_told b x y (tame_compared_text b (next_located p) ys)))))

pub tame_relation_told : (b op : ℕ) {f g : State → Outcome Code} → Tame b f g → Tame b (λ s. relation_told op (f s)) (λ s. relation_told op (g s))
tame_relation_told b op t = tame_go t (λ c. tame_done b (truth_word (related op c) ∷ []))

-- ---- intrinsics

tame_answered : (b : ℕ) (e : Ending) (answer : List ℕ) → Tame b (answered e answer) (answered e answer)
tame_answered b ending.Running answer = tame_done b answer
tame_answered b ending.Terminated answer = tame_ends b terminated
tame_answered b (ending.Quit q) answer = tame_ends b (quit q)
tame_answered b (ending.Trapped t) answer = tame_ends b (trapped t)

adds_carried : (e : gate.Effect) → Adds (carried_out e)
adds_carried e = record { left = λ s. refl; grown = λ s. grown e.prints s; same = λ s. refl }
  where
    grown : (p : List ℕ) (s : State) → Grown s (carried_out (record e { prints = p }) s)
    grown [] s = record { prints = []; printed = sym (append-nil s.now.printed); log = []; begun = sym (append-nil s.begun) }
    grown (x ∷ xs) s = record { prints = (x ∷ xs) ∷ []; printed = refl; log = []; begun = sym (append-nil s.begun) }

-- one print more
few_carried : (e : gate.Effect) (s : State) → Few 1 0 s (carried_out e s)
few_carried e s = record { prints = by e.prints; log = omega arith }
  where
    by : (p : List ℕ) → length (with_print p s.now.printed) ≤ length s.now.printed + 1
    by [] = omega arith
    by (x ∷ xs) = let l : length (s.now.printed ++ (x ∷ xs) ∷ []) ≡ length s.now.printed + 1 = length-append s.now.printed _ in omega (arith, l)

-- a call, by the data that it finds
abbrev by : gate.Effect → Data → State → Outcome (List ℕ)
by e d s =
    if not (all_below d.stack (touched e)) then ends (trapped Bounds) s
    else if not (all_data d.mem (touched e)) then strays s
    else if not (nat_le (length e.prints) (d.room - printed_size d.printed)) then ends (trapped OutputLimit) s
    else stepping (carried_out e s) (λ s1. answered e.ending e.answer s1)

tame_effected : (b : ℕ) (e : gate.Effect) → Tame b (effected e) (effected e)
tame_effected b e = tame_now (by e) (by e) (λ d.
    tame_if (not (all_below d.stack (touched e))) (tame_ends b (trapped Bounds))
    (tame_if (not (all_data d.mem (touched e))) (tame_strays b)
    (tame_if (not (nat_le (length e.prints) (d.room - printed_size d.printed))) (tame_ends b (trapped OutputLimit))
    (tame_in_step (adds_carried e) (few_carried e) (tame_answered b e.ending e.answer)))))

pub tame_served : (b : ℕ) (i : Intrinsic) (words : List ℕ) → Tame b (served i words) (served i words)
tame_served b i words =
    tame_now (λ d s. effected (gate.called (byte_of d.mem) (slice_get d.lines d.taken) i words) s)
    (λ d s. effected (gate.called (byte_of d.mem) (slice_get d.lines d.taken) i words) s)
    (λ d. tame_effected b (gate.called (byte_of d.mem) (slice_get d.lines d.taken) i words))
