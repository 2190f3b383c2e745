-- Programs that are equal in all that counts open, run and fit alike, at seats that say the same.
use Rattle.std.proofs.Common.{◌≡◌, ℕ, zero, suc, ◌+◌, ◌-◌, List, [], ◌∷◌, ◌++◌, map, length, None, Some, refl, sym, ap, ◌∙◌}
use Rattle.std.specs.Prelude.{slice_get, nat_lt, if◌then◌else◌}
use Rattle.hp_program.specs.declared.program.Program.{Program}
use Rattle.hp_program.specs.Programs.{segments_of}
use Rattle.spl_numbered.specs.hp_flat.Views.{start_of, opened_of}
use Rattle.job_gen.specs.hp_session.State.{Machine, opened}
use Rattle.job_gen.specs.hp_session.SessionView.{lines_of}
use Rattle.job_gen.specs.hp_session.declared.terminal.Line.{Line}
use Rattle.job_gen.specs.job_text.States.{SeatValue}
use Rattle.job_gen.specs.job_text.Views.{seat_value}
use Rattle.job_runs.specs.mpe_overlay.Codes.{codes_of}
use Rattle.job_gen.specs.mpe_session.declared.seat.Seat.{Seat}
use Rattle.job_runs.specs.mpe_worlds.Worlds.{Run}
use Rattle.job_runs.specs.mpe_worlds.Opening.{opening_run, opening_with, opening_runs, opening, seated_words, largest, memory_needed, nothing_moved}
use Rattle.job_runs.specs.mpe_turns.declared.fault.OpenFault.TheVariants.{StackTooSmall}
use Rattle.job_runs.specs.mpe_turns.Opening.{first_of_two, small_stack, small_stack_from, small_memory, refusal}
use Rattle.hp3000_top.specs.Steps.{IsCopy, AreCopies, none, more}

-- ---- codes

pub same_codes : {ps qs : List Program} → AreCopies ps qs → codes_of qs ≡ codes_of ps
same_codes none = refl
same_codes (more {p = p} {qs = qs} c cs) = ap (λ s. s ∷ codes_of qs) c.segments ∙ ap (λ ss. segments_of p ∷ ss) (same_codes cs)

-- ---- how sessions open

same_start : {p q : Program} → IsCopy p q → start_of q ≡ start_of p
same_start {p} {q} c = start c.segments c.main c.entry
  where
    start : segments_of q ≡ segments_of p → q.main ≡ p.main → q.entry ≡ p.entry → start_of q ≡ start_of p
    start a b d = rw (a, b, d) refl

same_opened : {p q : Program} (lines : List Line) (stack extra room : ℕ) → IsCopy p q → opened_of q lines stack extra room ≡ opened_of p lines stack extra room
same_opened {p} {q} lines stack extra room c =
    ap (λ g. opened g q.main (start_of q) (lines_of lines) stack extra room) c.globals
    ∙ ap (λ m. opened p.globals.items m (start_of q) (lines_of lines) stack extra room) c.main
    ∙ ap (λ s. opened p.globals.items p.main s (lines_of lines) stack extra room) (same_start c)

same_run : {p q : Program} (seat : Seat) → IsCopy p q → opening_run q seat ≡ opening_run p seat
same_run seat c =
    ap (λ (m : Machine). record { program = seat.program; machine = m; steps = 0; numbers = nothing_moved }) (same_opened seat.lines.items seat.stack seat.extra seat.room c)

same_with : {ps qs : List Program} (k : ℕ) (seat : Seat) → AreCopies ps qs → opening_with (slice_get qs k) seat ≡ opening_with (slice_get ps k) seat
same_with k seat none = refl
same_with zero seat (more c cs) = ap (λ (r : Run). r ∷ []) (same_run seat c)
same_with (suc k) seat (more c cs) = same_with k seat cs

same_runs : {ps qs : List Program} (seats : List Seat) → AreCopies ps qs → opening_runs qs seats ≡ opening_runs ps seats
same_runs [] cs = refl
same_runs {ps} {qs} (seat ∷ seats) cs =
    ap (λ rs. rs ++ opening_runs qs seats) (same_with seat.program seat cs) ∙ ap (λ rs. opening_with (slice_get ps seat.program) seat ++ rs) (same_runs seats cs)

pub same_opening : {ps qs : List Program} (memory : ℕ) (seats : List Seat) → AreCopies ps qs → opening memory seats qs ≡ opening memory seats ps
same_opening memory seats cs =
    ap (λ rs. record { runs = rs; area = record { size = memory - seated_words seats; list = []; order = [] }; turns = 0; loads = 0; last = 255 }) (same_runs seats cs)

-- ---- why they don't

same_small : {ps qs : List Program} (n k given : ℕ) (a b : Seat) → AreCopies ps qs → a.stack ≡ b.stack
    → small_stack n (slice_get qs k) b ≡ small_stack n (slice_get ps k) a
same_small n k given a b none e = refl
same_small n zero given a b (more {p = p} {q = q} c cs) e =
    ap (λ s. if nat_lt s (length q.globals.items + 4) then Some (StackTooSmall n (length q.globals.items + 4) s) else None) (sym e)
    ∙ ap (λ g. if nat_lt a.stack (length g + 4) then Some (StackTooSmall n (length g + 4) a.stack) else None) c.globals
same_small n (suc k) given a b (more c cs) e = same_small n k given a b cs e

head_same : (x y : SeatValue) (xs ys : List SeatValue) → x ∷ xs ≡ y ∷ ys → (x ≡ y) × (xs ≡ ys)
head_same x y xs ys e = (cc, cc)

same_smalls : {ps qs : List Program} (n : ℕ) (xs ys : List Seat) → AreCopies ps qs → map seat_value xs ≡ map seat_value ys
    → small_stack_from n qs ys ≡ small_stack_from n ps xs
same_smalls n [] [] cs e = refl
same_smalls n [] (b ∷ ys) cs e = cc
same_smalls n (a ∷ xs) [] cs e = cc
same_smalls {ps} {qs} n (a ∷ xs) (b ∷ ys) cs e =
    let h = head_same (seat_value a) (seat_value b) (map seat_value xs) (map seat_value ys) e in
    let number : a.program ≡ b.program = ap (λ (s : SeatValue). s.program) h.0 in
    let words : a.stack ≡ b.stack = ap (λ (s : SeatValue). s.stack) h.0 in
    ap (λ o. first_of_two o (small_stack_from (n + 1) qs ys)) (ap (λ k. small_stack n (slice_get qs k) b) (sym number) ∙ same_small n a.program 0 a b cs words)
    ∙ ap (λ o. first_of_two (small_stack n (slice_get ps a.program) a) o) (same_smalls (n + 1) xs ys cs h.1)

same_words : (xs ys : List Seat) → map seat_value xs ≡ map seat_value ys → seated_words ys ≡ seated_words xs
same_words [] [] e = refl
same_words [] (b ∷ ys) e = cc
same_words (a ∷ xs) [] e = cc
same_words (a ∷ xs) (b ∷ ys) e =
    let h = head_same (seat_value a) (seat_value b) (map seat_value xs) (map seat_value ys) e in
    ap (λ n. n + b.extra + seated_words ys) (ap (λ (s : SeatValue). s.stack) (sym h.0)) ∙ ap (λ n. a.stack + n + seated_words ys) (ap (λ (s : SeatValue). s.extra) (sym h.0))
    ∙ ap (λ n. a.stack + a.extra + n) (same_words xs ys h.1)

pub same_refusal : {ps qs : List Program} (memory : ℕ) (xs ys : List Seat) → AreCopies ps qs → map seat_value xs ≡ map seat_value ys
    → refusal memory ys qs ≡ refusal memory xs ps
same_refusal {ps} {qs} memory xs ys cs e =
    ap (λ o. first_of_two o (small_memory (memory_needed ys (codes_of qs)) memory)) (same_smalls 0 xs ys cs e)
    ∙ ap (λ n. first_of_two (small_stack_from 0 ps xs) (small_memory (n + largest (codes_of qs)) memory)) (same_words xs ys e)
    ∙ ap (λ c. first_of_two (small_stack_from 0 ps xs) (small_memory (seated_words xs + largest c) memory)) (same_codes cs)
