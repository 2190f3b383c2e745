-- Each session follows the run of its program's units.
use Rattle.std.proofs.Common.{◌≡◌, ℕ, zero, suc, ◌+◌, ◌<◌, ◌≤◌, Bool, true, false, List, [], ◌∷◌, ◌++◌, map, length, Option, None, Some, refl, sym, ap, subst, ◌∙◌, arith}
use Rattle.std.specs.Prelude.{slice_get, unwrap_or, nat_lt, if◌then◌else◌, option_map}
use Rattle.std.proofs.lemmas.Bool.Decides.{nat_tests}
use Rattle.std.proofs.lemmas.List.{length-map}
use Rattle.std.proofs.lemmas.Option.{slice_get-map}
use Rattle.hp_program.specs.declared.program.Program.{Program}
use Rattle.hp_program.specs.Programs.{segments_of}
use Rattle.spl_numbered.specs.hp_flat.Step as flat
use Rattle.spl_numbered.specs.hp_flat.Views.{opened_of}
use Rattle.job_gen.specs.hp_session.State.{Machine}
use Rattle.job_gen.specs.job_text.Fits.{Each, SeatFits}
use Rattle.job_gen.specs.job_text.Jobs.{JobValue}
use Rattle.job_gen.specs.job_text.States.{TextValue, SeatValue}
use Rattle.job_gen.specs.job_text.Views.{seat_value}
use Rattle.job_gen.proofs.job_text_proofs.FitLemmas.{jobs_fit}
use Rattle.job_runs.proofs.TurnLemmas.{turns_go_on}
use Rattle.job_runs.specs.mpe_overlay.Codes.{codes_of}
use Rattle.job_gen.specs.mpe_session.declared.seat.Seat.{Seat}
use Rattle.job_runs.specs.mpe_worlds.Alone.{EachGoesOn, GoesOn}
use Rattle.job_runs.specs.mpe_worlds.Worlds.{Run, World, segments_at}
use Rattle.job_runs.specs.mpe_worlds.Opening.{opening_run, opening_with, opening_runs, opening}
use Rattle.job_runs.specs.mpe_turns.declared.fault.OpenFault.{OpenFault}
use Rattle.job_runs.specs.mpe_turns.declared.fault.OpenFault.TheVariants.{StackTooSmall}
use Rattle.job_runs.specs.mpe_turns.Opening.{first_of_two, small_stack, small_stack_from, small_memory}
use Rattle.spl_numbered.specs.spl_carries.Carries.{Carries}
use Rattle.hp3000_top.specs.Programs.{IsMade, AreMade}
use Rattle.hp3000_top.specs.Programs as p
use Rattle.hp3000_top.specs.Causes.{Runs}
use Rattle.hp3000_top.specs.Answers.{EachIsAsAlone}
use Rattle.std.specs.List.{list_all}
use Rattle.spl_program.specs.spl_meaning.Tables.{Source}
use Rattle.job_gen.proofs.job_text_proofs.LineBytes.{lines_of_texts}
use Rattle.spl_program.specs.Programs.{IsProgram}
use Rattle.hp3000_top.specs.Carried.{is_byte, AreNeverLost, CarryTheirs, FollowsUnits}
use Rattle.hp3000_top.proofs.CarriedSessions.{TextsCarry, units_carried, follows_units}
use Rattle.hp3000_top.proofs.Loops.{each_slice}
use Rattle.hp3000_top.proofs.Sureness.{some_is}

-- ---- programs and seats

-- as many programs as texts
pub made_count : {ts : List TextValue} {ps : List Program} → AreMade ts ps → length ps ≡ length ts
made_count p.AreMade.none = refl
made_count (p.AreMade.more v vs) = ap suc (made_count vs)

-- what is made of a text is made of the same text
made_same : (s t : TextValue) (q : Program) → IsMade s.units q → Some s ≡ Some t → IsMade t.units q
made_same s t q v e = subst (λ (x : TextValue). IsMade x.units q) (some_is e) v

-- what holds of a program that is made of the text at this place
made_at : {A : Type 0} {ts : List TextValue} {ps : List Program} (k : ℕ) (t : TextValue) → AreMade ts ps → slice_get ts k ≡ Some t
    → ((q : Program) → slice_get ps k ≡ Some q → IsMade t.units q → A) → A
made_at k t p.AreMade.none e so = cc
made_at zero t (p.AreMade.more {t = s} {p = q} v vs) e so = so q refl (made_same s t q v e)
made_at (suc k) t (p.AreMade.more v vs) e so = made_at k t vs e so

-- the seat that a value is of
record SeatAt (seats : List Seat) (k : ℕ) (value : SeatValue) : Type 0 where
  seat : Seat
  at : slice_get seats k ≡ Some seat
  is : seat_value seat ≡ value

seat_at : (seats : List Seat) (k : ℕ) (value : SeatValue) → slice_get (map seat_value seats) k ≡ Some value → SeatAt seats k value
seat_at seats k value e = by (slice_get seats k) refl where
  by : (o : Option Seat) → slice_get seats k ≡ o → SeatAt seats k value
  by None d = let f = sym (ap (option_map seat_value) d) ∙ sym (slice_get-map seat_value seats k) ∙ e in cc
  by (Some s) d = record { seat = s; at = d; is = some_is (sym (ap (option_map seat_value) d) ∙ sym (slice_get-map seat_value seats k) ∙ e) }

-- ---- how they open

there : (ps : List Program) (k : ℕ) → k < length ps → (q : Program) × (slice_get ps k ≡ Some q)
there [] k l = absurd (omega (arith, l))
there (q ∷ ps) zero l = (q, refl)
there (q ∷ ps) (suc k) l = there ps k (omega (arith, l))

opening_first : (ps : List Program) (seat : Seat) (seats : List Seat) (q : Program) → slice_get ps seat.program ≡ Some q
    → opening_runs ps (seat ∷ seats) ≡ opening_run q seat ∷ opening_runs ps seats
opening_first ps seat seats q e = ap (λ o. opening_with o seat ++ opening_runs ps seats) e

-- each seat has its session
opened_at : (ps : List Program) (seats : List Seat) (k : ℕ) (seat : Seat) (q : Program) → Each (SeatFits (length ps)) (map seat_value seats)
    → slice_get seats k ≡ Some seat → slice_get ps seat.program ≡ Some q → slice_get (opening_runs ps seats) k ≡ Some (opening_run q seat)
opened_at ps [] k seat q fit e d = cc
opened_at ps (s ∷ seats) zero seat q fit e d =
    let same : seat ≡ s = sym (some_is e) in
    ap (λ rs. slice_get rs 0) (opening_first ps s seats q (ap (λ (x : Seat). slice_get ps x.program) (sym same) ∙ d)) ∙ ap (λ x. Some (opening_run q x)) (sym same)
opened_at ps (s ∷ seats) (suc k) seat q fit e d =
    let t = there ps s.program (fit.0.program) in
    ap (λ rs. slice_get rs (suc k)) (opening_first ps s seats t.0 t.1) ∙ opened_at ps seats k seat q fit.1 e d

opened_count : (ps : List Program) (seats : List Seat) → Each (SeatFits (length ps)) (map seat_value seats) → length (opening_runs ps seats) ≡ length seats
opened_count ps [] fit = refl
opened_count ps (s ∷ seats) fit =
    let t = there ps s.program (fit.0.program) in ap length (opening_first ps s seats t.0 t.1) ∙ ap suc (opened_count ps seats fit.1)

-- where no stack is too small each holds what its program needs
first_none : (a b : Option OpenFault) → first_of_two a b ≡ None → (a ≡ None) × (b ≡ None)
first_none None b e = (refl, e)
first_none (Some f) b e = cc

large_stack : (n : ℕ) (q : Program) (seat : Seat) → small_stack n (Some q) seat ≡ None → length q.globals.items + 4 ≤ seat.stack
large_stack n q seat e = by (nat_lt seat.stack (length q.globals.items + 4)) refl e where
  by : (b : Bool) → nat_lt seat.stack (length q.globals.items + 4) ≡ b
      → (if b then Some (StackTooSmall n (length q.globals.items + 4) seat.stack) else None) ≡ None → length q.globals.items + 4 ≤ seat.stack
  by true d e = cc
  by false d e = grind (arith, nat_tests, d)

stack_holds : (n : ℕ) (ps : List Program) (seats : List Seat) (k : ℕ) (seat : Seat) (q : Program) → small_stack_from n ps seats ≡ None → slice_get seats k ≡ Some seat
    → slice_get ps seat.program ≡ Some q → length q.globals.items + 4 ≤ seat.stack
stack_holds n ps [] k seat q none e d = cc
stack_holds n ps (s ∷ seats) zero seat q none e d =
    let f = first_none (small_stack n (slice_get ps s.program) s) (small_stack_from (n + 1) ps seats) none in
    let same : seat ≡ s = sym (some_is e) in
    large_stack n q seat (ap (λ o. small_stack n o seat) (sym d) ∙ ap (λ (x : Seat). small_stack n (slice_get ps x.program) x) same ∙ f.0)
stack_holds n ps (s ∷ seats) (suc k) seat q none e d =
    let f = first_none (small_stack n (slice_get ps s.program) s) (small_stack_from (n + 1) ps seats) none in
    stack_holds (n + 1) ps seats k seat q f.1 e d

-- ---- where they stand

segments_there : (ps : List Program) (k : ℕ) (q : Program) → slice_get ps k ≡ Some q → segments_at (codes_of ps) k ≡ segments_of q
segments_there ps k q e = ap (λ o. unwrap_or o []) (slice_get-map segments_of ps k ∙ ap (option_map segments_of) e)

no_steps : (ss : List (List ℕ)) (m : Machine) → m ≡ flat.after ss 0 m
unfolding flat.after
no_steps ss m = refl

-- a session stands where its program's flat run stands after its steps
flat_run : (ps : List Program) (q : Program) (seat : Seat) (r : Run) → slice_get ps seat.program ≡ Some q
    → GoesOn (segments_at (codes_of ps) seat.program) (opening_run q seat) r
    → r.machine ≡ flat.after (segments_of q) r.steps (opened_of q seat.lines.items seat.stack seat.extra seat.room)
flat_run ps q seat r e g =
    let start = opened_of q seat.lines.items seat.stack seat.extra seat.room in
    g.alone start (no_steps (segments_at (codes_of ps) seat.program) start) ∙ ap (λ ss. flat.after ss r.steps start) (segments_there ps seat.program q e)

-- programs that are made of texts carry what these are the texts of
pub carry_theirs : TextsCarry → (ts : List TextValue) (ps : List Program) → AreMade ts ps → CarryTheirs ts ps
carry_theirs law ts ps made k t p of_text at us c =
    made_at k t made of_text
    (λ q there is. subst (λ (x : Program). Carries x us × AreNeverLost us) (some_is (sym there ∙ at)) (units_carried law t.units us q c is))

-- each follows the run of its units
each_follows : TextsCarry → (bytes : List ℕ) → list_all is_byte bytes ≡ true → (job : JobValue) (made : List Program) (w : World)
    → (v : Runs bytes job made w) → Each (SeatFits (length made)) (map seat_value v.seats) → EachGoesOn (codes_of made) (opening job.memory v.seats made) w
    → (k : ℕ) (value : SeatValue) (t : TextValue) (r : Run) → slice_get job.sessions k ≡ Some value → slice_get job.programs value.program ≡ Some t
    → slice_get w.runs k ≡ Some r → (us : List Source) → IsProgram t.units us → FollowsUnits us value r
each_follows law bytes small job made w v fit goes k value t r here of_text there us units =
    let s = seat_at v.seats k value (ap (λ xs. slice_get xs k) v.is.are_seats ∙ here) in
    let smalls = first_none (small_stack_from 0 made v.seats) (small_memory _ job.memory) v.opens in
    let typed : Each (λ (x : SeatValue). list_all (λ line. list_all is_byte line) x.lines ≡ true) (map seat_value v.seats) =
    subst (λ xs. Each (λ (x : SeatValue). list_all (λ line. list_all is_byte line) x.lines ≡ true) xs) (sym v.is.are_seats)
    (lines_of_texts bytes false job v.is.is is_byte small) in
    made_at value.program t v.is.are_made of_text
    (λ q placed is.
    let at : slice_get made s.seat.program ≡ Some q = ap (λ (x : SeatValue). slice_get made x.program) s.is ∙ placed in
    let l = stack_holds 0 made v.seats k s.seat q smalls.0 s.at at in
    let g = goes.each k (opening_run q s.seat) r (opened_at made v.seats k s.seat q fit s.at at) there in
    subst (λ (x : SeatValue). FollowsUnits us x r) s.is
    (follows_units law (length made) t.units us q s.seat r units is (each_slice (SeatFits (length made)) seat_value v.seats k s.seat fit s.at)
    (each_slice (λ (x : SeatValue). list_all (λ line. list_all is_byte line) x.lines ≡ true) seat_value v.seats k s.seat typed s.at) l
    (flat_run made q s.seat r at g)))

pub each_is_as_alone : TextsCarry → (bytes : List ℕ) → list_all is_byte bytes ≡ true → (job : JobValue) (made : List Program) (w : World)
    → Runs bytes job made w → EachIsAsAlone job w.runs
each_is_as_alone law bytes small job made w v =
    let fits = jobs_fit bytes false job v.is.is in
    let count : length made ≡ length job.programs = made_count v.is.are_made in
    let fit : Each (SeatFits (length made)) (map seat_value v.seats) =
    subst (λ xs. Each (SeatFits (length made)) xs) (sym v.is.are_seats) (subst (λ n. Each (SeatFits n) job.sessions) (sym count) fits.each_session) in
    let goes : EachGoesOn (codes_of made) (opening job.memory v.seats made) w =
    subst (λ (x : World). EachGoesOn (codes_of made) (opening job.memory v.seats made) x) (sym v.world)
    (turns_go_on (codes_of made) job.quantum job.turns (opening job.memory v.seats made)) in
    record {
      count = goes.same_count ∙ opened_count made v.seats fit ∙ sym (length-map v.seats seat_value) ∙ ap length v.is.are_seats;
      follows = each_follows law bytes small job made w v fit goes;
    }
