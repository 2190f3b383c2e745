-- How a monitor opens, list by list.
-- 0. seats within the limits          (seats_none, seats_more)
-- 1. stacks in order                  (stack_enough, stack_small, all_enough)
-- 2. words and largest segments       (segment_more, largest_more, fits_largest)
-- 3. a session, and one after another (opened_stack, opened_more)
use Rattle.std.proofs.Common.{◌≡◌, ℕ, zero, suc, ◌+◌, ◌-◌, ◌/◌, ◌%◌, ◌<◌, ◌≤◌, true, false, List, [], ◌∷◌, ◌++◌, length, get_or, take, drop, Vec, Global, replicate, max, Option, None, Some, refl, sym, ap, subst, ◌∙◌, arith, inl, inr}
use Rattle.std.specs.Prelude.{slice_get, option_map, ◌⊎◌}
use Rattle.std.proofs.lemmas.Bool.{cases_lt, le-ltb, lt-ltb}
use Rattle.std.proofs.lemmas.List.{append-nil, append_assoc, map-append, length-append, drop-replicate, replicate-append-replicate, take_at, take-take, at_drop_more}
use Rattle.std.proofs.lemmas.Option.{same_Some, get_or_from_slice_get, slice_get-map, slice_get_read, slice_get_within, option_and_then_some}
use Rattle.hp_program.specs.declared.program.Program.{Program}
use Rattle.hp_program.specs.Programs.{segments_of}
use Rattle.hp_word.specs.declared.arithmetic.Code.TheVariants.{Equal}
use Rattle.hp_word.specs.declared.endings.Ending.TheVariants.{Running}
use Rattle.mpe_gate.specs.hp_tos.declared.stack.Stack.{Stack}
use Rattle.mpe_gate.specs.hp_tos.Seen.{made}
use Rattle.mpe_gate.specs.hp_tos.StackView.{seen}
use Rattle.mpe_worlds.specs.hp_calls.declared.phases.Phase.TheVariants.{Ready}
use Rattle.mpe_worlds.specs.hp_calls.Phases.{finished}
use Rattle.mpe_worlds.specs.hp_flat.Views.{start_of}
use Rattle.mpe_session.specs.declared.terminal.Terminal.{Terminal}
use Rattle.mpe_session.specs.Terminals.{IsFresh}
use Rattle.mpe_session.specs.declared.seat.Seat.{Seat}
use Rattle.mpe_overlay.specs.Codes.{codes_of, segment_at}
use Rattle.mpe_worlds.specs.Worlds.{Run, segments_at}
use Rattle.mpe_worlds.specs.Opening.{largest, largest_segment, opening_run, opening_runs, opening_with}
use Rattle.mpe_turns.specs.declared.fault.OpenFault.{OpenFault}
use Rattle.mpe_turns.specs.declared.fault.OpenFault.TheVariants.{StackTooSmall}
use Rattle.mpe_turns.specs.declared.session.Session.{Session}
use Rattle.mpe_turns.specs.Opening.{AreSeats, first_of_two, small_stack, small_stack_from, stack_needed}
use Rattle.mpe_turns.specs.Opened.{AreOpened}
use Rattle.mpe_turns.specs.Stands.{IsKept, IsSessionOf, run_of, runs_of}
use Rattle.mpe_turns.proofs.TurnLemmas.{program_segments}

-- Seats within the limits.

pub seats_none : (programs : List Program) → AreSeats programs []
seats_none programs = record { few = omega arith; program = λ k seat at. cc; stack = λ k seat at. cc; extra = λ k seat at. cc }

pub seats_more : (programs : List Program) (seats : List Seat) (seat : Seat) → AreSeats programs seats → length seats < 16
    → seat.program < length programs → seat.stack ≤ 32000 → seat.extra ≤ 32000 → AreSeats programs (seat ∷ seats)
seats_more programs seats seat are few program stack extra = record {
  few = omega arith;
  program = at_each (λ (s : Seat). s.program < length programs) program are.program;
  stack = at_each (λ (s : Seat). s.stack ≤ 32000) stack are.stack;
  extra = at_each (λ (s : Seat). s.extra ≤ 32000) extra are.extra;
} where
  at_each : (P : Seat → Type 0) → P seat → ((k : ℕ) (s : Seat) → slice_get seats k ≡ Some s → P s)
      → (k : ℕ) (s : Seat) → slice_get (seat ∷ seats) k ≡ Some s → P s
  at_each P first rest zero s at = subst P (same_Some seat s at) first
  at_each P first rest (suc k) s at = rest k s at

-- Stacks.

module _ (programs : List Program) (n : ℕ) (seat : Seat) (seats : List Seat) (p : Program) (of : slice_get programs seat.program ≡ Some p) where
  pub stack_enough : stack_needed p ≤ seat.stack → small_stack_from n programs (seat ∷ seats) ≡ small_stack_from (n + 1) programs seats
  stack_enough le = rw (of, le-ltb seat.stack (stack_needed p) le) refl

  pub stack_small : seat.stack < stack_needed p → small_stack_from n programs (seat ∷ seats) ≡ Some (StackTooSmall n (stack_needed p) seat.stack)
  stack_small lt = rw (of, lt-ltb seat.stack (stack_needed p) lt) refl

-- the same in a list, at a seat that was read there
module _ (programs : List Program) (seats : List Seat) (i : ℕ) (seat : Seat) (p : Program) (lt : i < length seats) (is : seat ≡ get_or seats i seat)
    (there : seat.program < length programs) (its : p ≡ get_or programs seat.program p) where
  pub program_of : slice_get programs seat.program ≡ Some p
  program_of = slice_get_read programs (length programs) seat.program p refl there its

  next_seat : small_stack_from i programs (drop i seats) ≡ small_stack_from i programs (seat ∷ drop (i + 1) seats)
  next_seat = at_drop_more (small_stack_from i programs) seats i seat lt ∙ ap (λ (s : Seat). small_stack_from i programs (s ∷ drop (i + 1) seats)) (sym is)

  pub seat_enough : stack_needed p ≤ seat.stack → small_stack_from (i + 1) programs (drop (i + 1) seats) ≡ small_stack_from i programs (drop i seats)
  seat_enough le = sym (next_seat ∙ stack_enough programs i seat (drop (i + 1) seats) p program_of le)

  pub seat_small : seat.stack < stack_needed p → small_stack_from i programs (drop i seats) ≡ Some (StackTooSmall i (stack_needed p) seat.stack)
  seat_small less = next_seat ∙ stack_small programs i seat (drop (i + 1) seats) p program_of less

-- where no stack is too small each is large enough
pub all_enough : (programs : List Program) (n : ℕ) (seats : List Seat) → small_stack_from n programs seats ≡ None
    → (k : ℕ) (seat : Seat) (p : Program) → slice_get seats k ≡ Some seat → slice_get programs seat.program ≡ Some p → stack_needed p ≤ seat.stack
all_enough programs n [] none k seat p at of = cc
all_enough programs n (first ∷ seats) none zero seat p at of =
    let same : first ≡ seat = same_Some first seat at in
    here (cases_lt seat.stack (stack_needed p)) (subst (λ (s : Seat). small_stack_from n programs (s ∷ seats) ≡ None) same none)
  where
    here : (seat.stack < stack_needed p) ⊎ (stack_needed p ≤ seat.stack) → small_stack_from n programs (seat ∷ seats) ≡ None → stack_needed p ≤ seat.stack
    here (inl lt) e = let small = stack_small programs n seat seats p of lt in cc
    here (inr le) e = le
all_enough programs n (first ∷ seats) none (suc k) seat p at of = all_enough programs (n + 1) seats (rest (small_stack n (slice_get programs first.program) first) none) k seat p at of
  where
    rest : (o : Option OpenFault) → first_of_two o (small_stack_from (n + 1) programs seats) ≡ None → small_stack_from (n + 1) programs seats ≡ None
    rest None e = e
    rest (Some fault) e = cc

-- The largest segment.

pub max_assoc : (a b c : ℕ) → max (max a b) c ≡ max a (max b c)
max_assoc a b c = omega arith

pub max_none : (a : ℕ) → max a 0 ≡ a
max_none a = omega arith

-- one more of a program, and of all programs
pub segment_more : (segments : List (List ℕ)) (i size : ℕ) (words : List ℕ) → slice_get segments i ≡ Some words
    → max (max size (length words)) (largest_segment (drop (i + 1) segments)) ≡ max size (largest_segment (drop i segments))
segment_more segments i size words at = max_assoc size (length words) (largest_segment (drop (i + 1) segments))
    ∙ ap (max size) (sym (at_drop_more largest_segment segments i [] (slice_get_within segments i words at)
    ∙ ap (λ (w : List ℕ). max (length w) (largest_segment (drop (i + 1) segments))) (get_or_from_slice_get segments i words [] at)))

pub largest_more : (codes : List (List (List ℕ))) (i size : ℕ) (segments : List (List ℕ)) → slice_get codes i ≡ Some segments
    → max (max size (largest_segment segments)) (largest (drop (i + 1) codes)) ≡ max size (largest (drop i codes))
largest_more codes i size segments at = max_assoc size (largest_segment segments) (largest (drop (i + 1) codes))
    ∙ ap (max size) (sym (at_drop_more largest codes i [] (slice_get_within codes i segments at)
    ∙ ap (λ (s : List (List ℕ)). max (largest_segment s) (largest (drop (i + 1) codes))) (get_or_from_slice_get codes i segments [] at)))

-- a segment of a program, where it was read
pub segment_read : (p : Program) (i : ℕ) (v : Vec ℕ Global) → i < length p.segments.items → v ≡ get_or p.segments.items i v
    → slice_get (segments_of p) i ≡ Some v.items
segment_read p i v lt is = slice_get-map (λ (w : Vec ℕ Global). w.items) p.segments.items i
    ∙ ap (option_map (λ (w : Vec ℕ Global). w.items)) (slice_get_read p.segments.items (length p.segments.items) i v refl lt is)

-- no segment of a program is larger than its largest
within_segment : (segments : List (List ℕ)) (k : ℕ) (words : List ℕ) → slice_get segments k ≡ Some words → length words ≤ largest_segment segments
within_segment [] k words at = cc
within_segment (first ∷ segments) zero words at = let same : first ≡ words = same_Some first words at in rw (← same) (omega arith)
within_segment (first ∷ segments) (suc k) words at = let le = within_segment segments k words at in omega (arith, le)

within_largest : (codes : List (List (List ℕ))) (k : ℕ) (segments : List (List ℕ)) → slice_get codes k ≡ Some segments → largest_segment segments ≤ largest codes
within_largest [] k segments at = cc
within_largest (first ∷ codes) zero segments at = let same : first ≡ segments = same_Some first segments at in rw (← same) (omega arith)
within_largest (first ∷ codes) (suc k) segments at = let le = within_largest codes k segments at in omega (arith, le)

-- nor that of any program than the largest of all
pub fits_largest : (codes : List (List (List ℕ))) (key : ℕ) (words : List ℕ) → segment_at codes key ≡ Some words → length words ≤ largest codes
unfolding segment_at
fits_largest codes key words is = option_and_then_some (λ segments. slice_get segments (key % 256)) (slice_get codes (key / 256)) words is
    (λ segments at found.
    let first : length words ≤ largest_segment segments = within_segment segments (key % 256) words found in
    let second : largest_segment segments ≤ largest codes = within_largest codes (key / 256) segments at in
    omega arith)

-- A session.

-- the data words and the marker are the first words of the room
pub opened_stack : (globals : List ℕ) (limit : ℕ) → length globals + 4 ≤ limit
    → take (length globals + 4) (globals ++ drop (length globals) (replicate limit 0)) ≡ globals ++ replicate 4 0
opened_stack globals limit le =
    let split : limit - length globals ≡ 4 + (limit - length globals - 4) = omega arith in
    let behind : drop (length globals) (replicate limit 0) ≡ replicate 4 0 ++ replicate (limit - length globals - 4) 0 =
    drop-replicate (length globals) limit 0 ∙ ap (λ (n : ℕ). replicate n 0) split ∙ sym (replicate-append-replicate 4 (limit - length globals - 4) 0) in
    ap (λ (zs : List ℕ). take (length globals + 4) (globals ++ zs)) behind
    ∙ ap (take (length globals + 4)) (sym (append_assoc globals (replicate 4 0) (replicate (limit - length globals - 4) 0)))
    ∙ take_at (globals ++ replicate 4 0) (replicate (limit - length globals - 4) 0) (length globals + 4) (length-append globals (replicate 4 0))

pub opened_room : (globals : List ℕ) (limit : ℕ) → length globals + 4 ≤ limit
    → take (length globals + 4) (take limit (globals ++ drop (length globals) (replicate limit 0))) ≡ globals ++ replicate 4 0
opened_room globals limit le = take-take (length globals + 4) limit (globals ++ drop (length globals) (replicate limit 0)) le ∙ opened_stack globals limit le

-- the session as it is made
abbrev pub made_session : Program → Seat → ℕ → ℕ → Stack → ℕ → Terminal → Session
made_session p seat q start stack count t = record {
  cpu = record {
    regs = record { x = 0; q = q; p = start; seg = p.main; traps = true; right = false; overflow = false; carry = false; code = Equal };
    phase = Ready;
    stack = stack;
    segments = count;
  };
  terminal = t;
  program = seat.program;
  ending = Running;
  steps = 0;
}

pub opened_run : (p : Program) (seat : Seat) (q start : ℕ) (stack : Stack) (count : ℕ) (t : Terminal) (room extra : List ℕ) (c d words : ℕ)
    → seen stack ≡ made room c extra d words → words ≡ length p.globals.items + 4 → take (length p.globals.items + 4) room ≡ p.globals.items ++ replicate 4 0
    → length room ≡ seat.stack → extra ≡ replicate seat.extra 0 → IsFresh t seat.lines.items seat.room → q ≡ length p.globals.items + 3 → start ≡ start_of p
    → run_of (segments_of p) (made_session p seat q start stack count t) ≡ opening_run p seat
unfolding finished
opened_run p seat q start stack count t room extra c d words is many front long filled fresh q_is start_is =
    rw (is, many, front, long, filled, fresh.lines, fresh.taken, fresh.printed, fresh.room, q_is, start_is) refl

-- Sessions.

-- the element behind those that were taken
front_read : (xs ys : List Seat) (x : Seat) → slice_get (xs ++ x ∷ ys) (length xs) ≡ Some x
front_read [] ys x = refl
front_read (z ∷ xs) ys x = front_read xs ys x

pub at_front : (xs ys all : List Seat) (x : Seat) → xs ++ x ∷ ys ≡ all → slice_get all (length xs) ≡ Some x
at_front xs ys all x is = ap (λ (zs : List Seat). slice_get zs (length xs)) (sym is) ∙ front_read xs ys x

pub opening_runs-push : (programs : List Program) (seats : List Seat) (seat : Seat)
    → opening_runs programs (seats ++ seat ∷ []) ≡ opening_runs programs seats ++ opening_with (slice_get programs seat.program) seat
opening_runs-push programs [] seat = append-nil (opening_with (slice_get programs seat.program) seat)
opening_runs-push programs (first ∷ seats) seat =
    ap (λ (runs : List Run). opening_with (slice_get programs first.program) first ++ runs) (opening_runs-push programs seats seat)
    ∙ sym (append_assoc (opening_with (slice_get programs first.program) first) (opening_runs programs seats) (opening_with (slice_get programs seat.program) seat))

-- the last of a list, or one before it
last_or : {A : Type 0} (xs : List A) (x y : A) (k : ℕ) → slice_get (xs ++ x ∷ []) k ≡ Some y → (slice_get xs k ≡ Some y) ⊎ (x ≡ y)
last_or [] x y zero at = inr (same_Some x y at)
last_or [] x y (suc k) at = cc
last_or (z ∷ xs) x y zero at = inl at
last_or (z ∷ xs) x y (suc k) at = last_or xs x y k at

-- no session is opened yet
pub opened_none : (programs : List Program) → AreOpened programs [] []
opened_none programs = record {
  runs = refl;
  count = refl;
  there = λ who s at. cc;
  each = λ who s p at of. cc;
  steps = λ who s at. cc;
}

-- one more
pub opened_more : (programs : List Program) (seats : List Seat) (sessions : List Session) (seat : Seat) (s : Session) (p : Program)
    → AreOpened programs seats sessions → slice_get programs seat.program ≡ Some p
    → run_of (segments_of p) s ≡ opening_run p seat → IsSessionOf p s
    → AreOpened programs (seats ++ seat ∷ []) (sessions ++ s ∷ [])
opened_more programs seats sessions seat s p opened of run session = record {
  runs = map-append (λ (x : Session). run_of (segments_at (codes_of programs) x.program) x) sessions (s ∷ [])
      ∙ ap (λ (r : Run). runs_of (codes_of programs) sessions ++ r ∷ []) shown
      ∙ ap (λ (runs : List Run). runs ++ opening_run p seat ∷ []) opened.runs
      ∙ ap (λ (o : Option Program). opening_runs programs seats ++ opening_with o seat) (sym of)
      ∙ sym (opening_runs-push programs seats seat);
  count = length-append sessions (s ∷ []) ∙ ap (λ (n : ℕ). n + 1) opened.count ∙ sym (length-append seats (seat ∷ []));
  there = λ who x at. elim (last_or sessions s x who at) [
    | inl old ↦ opened.there who x old
    | inr new ↦ subst (λ (y : Session). y.program < length programs) new (rw program (slice_get_within programs seat.program p of))
  ];
  each = λ who x q at its. elim (last_or sessions s x who at) [
    | inl old ↦ opened.each who x q old its
    | inr new ↦
        let same : p ≡ q = same_Some p q (sym of ∙ ap (slice_get programs) (sym program ∙ ap (λ (y : Session). y.program) new) ∙ its) in
        subst (λ (y : Session). IsSessionOf q y) new (subst (λ (y : Program). IsSessionOf y s) same session)
  ];
  steps = λ who x at. elim (last_or sessions s x who at) [
    | inl old ↦ opened.steps who x old
    | inr new ↦ ap (λ (y : Session). y.steps) (sym new) ∙ ap (λ (r : Run). r.steps) run
  ];
} where
  program : s.program ≡ seat.program
  program = ap (λ (r : Run). r.program) run

  shown : run_of (segments_at (codes_of programs) s.program) s ≡ opening_run p seat
  shown = ap (λ (segments : List (List ℕ)). run_of segments s) (ap (segments_at (codes_of programs)) program ∙ program_segments programs seat.program p of) ∙ run

-- what a monitor of such sessions keeps, where the largest segment fits
pub opened_kept : (programs : List Program) (seats : List Seat) (sessions : List Session) (size loads : ℕ) → AreOpened programs seats sessions
    → length seats ≤ 16 → largest (codes_of programs) ≤ size → loads ≡ 0 → IsKept programs size sessions loads 0 0
opened_kept programs seats sessions size loads opened few fit none = record {
  few = subst (λ (n : ℕ). n ≤ 16) (sym opened.count) few;
  there = opened.there;
  each = opened.each;
  steps = λ who s at. let zero_steps = opened.steps who s at in omega (arith, zero_steps);
  fit = λ key words is. let le = fits_largest (codes_of programs) key words is in omega (arith, le, fit);
  loads = omega (arith, none);
  turns = omega arith;
}
