-- Whatever is made of programs that no line refuses needs no more than they surely need, so the sessions of a job open where these fit.
-- 1. what is made of a program fits its need         (all_fit)
-- 2. stacks are as small for the one as for the other (smalls_same)
-- 3. and the memory as large                          (opens_so)
use Rattle.std.proofs.Common.{ℕ, zero, suc, ◌≡◌, ◌+◌, ◌≤◌, Bool, List, [], ◌∷◌, map, length, None, Some, slice_get, refl, ap, subst, ◌∙◌, arith}
use Rattle.std.specs.Prelude.{nat_lt, max, if◌then◌else◌}
use Rattle.std.proofs.Math.Nat.{max-le, le-max_left, le-max_right}
use Rattle.std.proofs.lemmas.Bool.{le-ltb}
use Rattle.job_gen.specs.job_text.States.{TextValue}
use Rattle.job_gen.specs.job_text.Views.{seat_value}
use Rattle.hp_program.specs.declared.program.Program.{Program}
use Rattle.hp_program.specs.Programs.{segments_of, words_of}
use Rattle.job_runs.specs.mpe_overlay.Codes.{codes_of}
use Rattle.job_gen.specs.mpe_session.declared.seat.Seat.{Seat}
use Rattle.job_runs.specs.mpe_worlds.Opening.{seated_words, largest_segment, largest, memory_needed}
use Rattle.job_runs.specs.mpe_turns.declared.fault.OpenFault.{OpenFault}
use Rattle.job_runs.specs.mpe_turns.declared.fault.OpenFault.TheVariants.{StackTooSmall, MemoryTooSmall}
use Rattle.job_runs.specs.mpe_turns.Opening.{first_of_two, stack_needed, small_stack, small_stack_from, small_memory, refusal}
use Rattle.spl_program.specs.spl_meaning.Tables.{Source}
use Rattle.spl_program.specs.spl_meaning.Bodies.{data_words}
use Rattle.spl_linkable.specs.spl_built.Built.{IsBuilt}
use Rattle.spl_numbered.specs.spl_bounds.Programs.{IsOf, most_words}
use Rattle.spl_numbered.proofs.spl_bounds_proofs.Words.{keep_bounds}
use Rattle.spl_numbered.proofs.spl_bounds_proofs.Data.{initial_data}
use Rattle.spl_numbered.proofs.spl_bounds_proofs.Few.{segments_few}
use Rattle.spl_linkable.specs.Linkable as l
use Rattle.spl_program.proofs.ProgramLaws.{programs_unique}
use Rattle.hp3000_top.specs.Programs.{IsMade, AreMade, IsSure, AreSure}
use Rattle.hp3000_top.specs.Programs as p
use Rattle.hp3000_top.specs.Needs.{Need, Needs, AllNeed, small_by, first_small, held_words, most_needed}
use Rattle.hp3000_top.specs.Needs as d
use Rattle.hp3000_top.proofs.Sureness.{kept_rules}

-- ---- 1. programs

-- it needs such a stack, and no more words
pub record Fits (q : Program) (n : Need) : Type 0 where
  pub stack : stack_needed q ≡ n.stack
  pub words : largest_segment (segments_of q) ≤ n.words

pub data AllFit : List Program → List Need → Type 0 where
  none : AllFit [] []
  more : {q : Program} {qs : List Program} {n : Need} {ns : List Need} → Fits q n → AllFit qs ns → AllFit (q ∷ qs) (n ∷ ns)

no_more : (n : ℕ) → n ≤ n
no_more n = omega arith

largest_few : (ss : List (List ℕ)) (n : ℕ) → ((s : ℕ) → length (words_of ss s) ≤ n) → largest_segment ss ≤ n
largest_few [] n h = least n
  where
    least : (n : ℕ) → 0 ≤ n
    least n = omega arith
largest_few (s ∷ ss) n h = max-le (h 0) (largest_few ss n (λ i. h (suc i)))

-- a program that is built is one of its units
built_of : (us : List Source) (q : Program) → l.KeepRules us → (b : IsBuilt us q) → IsOf us b.modules b.layout.globals.items q
built_of us q w b = record {
  sound = w.sound;
  spelled = w.spelled;
  within = w.limits;
  are_modules = b.are_modules;
  makes = b.linked.makes;
  links = b.linked.links;
}

built_fits : (us : List Source) (q : Program) → l.KeepRules us → IsBuilt us q → Fits q (record { stack = data_words us + 4; words = most_words us })
built_fits us q w b = record {
  stack = ap (λ n. n + 4) (ap length b.linked.makes.data_words ∙ (initial_data us b.layout.globals.items b.is_layout.globals).0);
  words = largest_few (segments_of q) (most_words us) (λ s. segments_few keep_bounds us b.modules b.layout.globals.items q s (built_of us q w b));
}

one_fits : (t : TextValue) (n : Need) (q : Program) → Needs t n → IsMade t.units q → Fits q n
one_fits t n q (d.Needs.is_linkable us k h) v =
    built_fits us q (kept_rules t.units us k) (subst (λ (ys : List Source). IsBuilt ys q) (programs_unique t.units v.units us v.are k) v.built)

pub all_fit : {ts : List TextValue} {ns : List Need} {qs : List Program} → AllNeed ts ns → AreMade ts qs → AllFit qs ns
all_fit d.AllNeed.none p.AreMade.none = none
all_fit (d.AllNeed.more {t = t} {d = n} k ks) (p.AreMade.more {p = q} v vs) = more (one_fits t n q k v) (all_fit ks vs)

one_sure : (t : TextValue) (n : Need) → Needs t n → IsSure t
one_sure t n (d.Needs.is_linkable us k h) = record { units = us; are = k; linkable = h }

-- no line refuses them
pub all_sure : {ts : List TextValue} {ns : List Need} → AllNeed ts ns → AreSure ts
all_sure d.AllNeed.none = p.AreSure.none
all_sure (d.AllNeed.more {t = t} {d = n} k ks) = p.AreSure.more (one_sure t n k) (all_sure ks)

-- ---- 2. stacks

small_same : {qs : List Program} {ns : List Need} (n k : ℕ) (seat : Seat) → AllFit qs ns → small_stack n (slice_get qs k) seat ≡ small_by n (slice_get ns k) (seat_value seat)
small_same n k seat none = refl
small_same n zero seat (more {q = q} {n = m} f fs) = ap (λ w. if nat_lt seat.stack w then Some (StackTooSmall n w seat.stack) else None) f.stack
small_same n (suc k) seat (more f fs) = small_same n k seat fs

pub smalls_same : {qs : List Program} {ns : List Need} (n : ℕ) (seats : List Seat) → AllFit qs ns → small_stack_from n qs seats ≡ first_small n ns (map seat_value seats)
smalls_same n [] fs = refl
smalls_same {qs} {ns} n (seat ∷ seats) fs =
    ap (λ o. first_of_two o (small_stack_from (n + 1) qs seats)) (small_same n seat.program seat fs)
    ∙ ap (λ o. first_of_two (small_by n (slice_get ns seat.program) (seat_value seat)) o) (smalls_same (n + 1) seats fs)

-- ---- 3. the memory

held_same : (seats : List Seat) → held_words (map seat_value seats) ≡ seated_words seats
held_same [] = refl
held_same (seat ∷ seats) = ap (λ n. seat.stack + seat.extra + n) (held_same seats)

further : (a b c : ℕ) → a ≤ b → b ≤ c → a ≤ c
further a b c h1 h2 = omega (arith, h1, h2)

largest_fits : {qs : List Program} {ns : List Need} → AllFit qs ns → largest (codes_of qs) ≤ most_needed ns
largest_fits none = no_more 0
largest_fits (more {q = q} {qs = qs} {n = n} {ns = ns} f fs) =
    max-le (further (largest_segment (segments_of q)) n.words (max n.words (most_needed ns)) f.words (le-max_left n.words (most_needed ns)))
    (further (largest (codes_of qs)) (most_needed ns) (max n.words (most_needed ns)) (largest_fits fs) (le-max_right n.words (most_needed ns)))

fits_memory : (need memory : ℕ) → need ≤ memory → small_memory need memory ≡ None
fits_memory need memory le = ap (λ (b : Bool). if b then Some (MemoryTooSmall need memory) else None) (le-ltb memory need le)

together : (held seated words most memory : ℕ) → held ≡ seated → words ≤ most → held + most ≤ memory → seated + words ≤ memory
together held seated words most memory h1 h2 h3 = omega (arith, h1, h2, h3)

pub opens_so : {qs : List Program} {ns : List Need} (memory : ℕ) (seats : List Seat) → AllFit qs ns → first_small 0 ns (map seat_value seats) ≡ None
    → held_words (map seat_value seats) + most_needed ns ≤ memory → refusal memory seats qs ≡ None
opens_so {qs} {ns} memory seats fs stacks room =
    ap (λ o. first_of_two o (small_memory (memory_needed seats (codes_of qs)) memory)) (smalls_same 0 seats fs ∙ stacks)
    ∙ fits_memory (memory_needed seats (codes_of qs)) memory
    (together (held_words (map seat_value seats)) (seated_words seats) (largest (codes_of qs)) (most_needed ns) memory (held_same seats) (largest_fits fs) room)

-- a stack that is too small for the need refuses
pub stacks_refuse : {qs : List Program} {ns : List Need} (memory : ℕ) (seats : List Seat) (f : OpenFault) → AllFit qs ns
    → first_small 0 ns (map seat_value seats) ≡ Some f → refusal memory seats qs ≡ Some f
stacks_refuse {qs} {ns} memory seats f fs is =
    ap (λ o. first_of_two o (small_memory (memory_needed seats (codes_of qs)) memory)) (smalls_same 0 seats fs ∙ is)
