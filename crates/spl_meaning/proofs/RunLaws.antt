-- The run of a program is tame, so what fewer steps decided stays.
use Rattle.std.proofs.Common.{ℕ, zero, suc, ◌≡◌, ◌+◌, ◌-◌, ◌≤◌, false, List, [], ◌∷◌, ◌++◌, length, Option, Some, None, refl, sym, ap, subst, ◌∙◌, arith}
use Rattle.std.proofs.lemmas.List.{append-nil, append_assoc, length-append}
use Rattle.std.specs.Prelude.{if◌then◌else◌, nat_lt}
use Rattle.hp_word.specs.declared.endings.Ending.TheVariants.{Running}
use Rattle.hp_word.specs.declared.endings.Trap.TheVariants.{StackOverflow}
use Rattle.spl_tree.specs.declared.expressions.Kind.{Kind}
use Rattle.spl_meaning.specs.Names.{Profile}
use Rattle.spl_meaning.specs.Kinds.{width}
use Rattle.spl_meaning.specs.Tables.{Source, Subroutine, subroutine_named}
use Rattle.spl_meaning.specs.Places.{put}
use Rattle.spl_meaning.specs.Pending.{return_words}
use Rattle.spl_meaning.specs.Operations.{result_value}
use Rattle.spl_meaning.specs.Values.{procedure, subroutine, Callee, value}
use Rattle.spl_meaning.specs.Statements.{run_all, run_body}
use Rattle.spl_meaning.specs.Bodies.{Body, Named, Program, subroutine_body, program_of, body_named}
use Rattle.spl_meaning.specs.States.{Data, State, terminated, trapped, to_label, back, Outcome, done, leaves, spent, ends, strays, has_no_meaning, then_go, stepping, all_printed}
use Rattle.spl_meaning.specs.Runs.{link_of, locals_of, procedure_framed, cells_set, subroutine_framed, framed, zeroed, returned, words_at, result_at, left_to, called_back, run_statement, enter_procedure, enter_subroutine, call_procedure, call_subroutine, calls, run_main, run_program, Seat, opening, Point, point_of, begun_of, run_of, alone, begins, stands}
use Rattle.spl_meaning.specs.Laws.{IsFront, more, Onward, Beyond, GoesOnAs, StepsGoOn, BoundsDoNotMatter}
use Rattle.spl_meaning.proofs.Tame.{Within, AtMost, Grown, Grows, Few, Rests, OneMore, Tame, tame_done, tame_ends, tame_lost, tame_go, tame_step, tame_less, tame_if, tame_now, Keeps, tame_in, tame_nowhere, calm_lost, grown_lost, few_lost}
use Rattle.spl_meaning.proofs.TameReferences.{tame_word}
use Rattle.spl_meaning.proofs.TameValues.{TameCalls, tame_value}
use Rattle.spl_meaning.proofs.TameStatements.{tame_run_all, tame_body}

-- a state whose data are changed, but not what was printed
keeps_data : (f : Data → Data) → ((d : Data) → (f d).printed ≡ d.printed) → Keeps (λ s. record s { now = f s.now })
keeps_data f same = record {
  adds = record {
    left = λ s. refl;
    grown = λ s. record {
      prints = [];
      printed = same s.now ∙ sym (append-nil s.now.printed);
      log = [];
      begun = sym (append-nil s.begun);
    };
    same = λ s. refl;
  };
  few = λ s. let e : length (f s.now).printed ≡ length s.now.printed = ap length (same s.now) in record { prints = omega (arith, e); log = omega arith };
}

-- and at which no condition code is known
keeps_framed : (f : Data → Data) → ((d : Data) → (f d).printed ≡ d.printed) → Keeps (λ s. framed (f s.now) s)
keeps_framed f same = record {
  adds = record {
    left = λ s. refl;
    grown = λ s. record {
      prints = [];
      printed = same s.now ∙ sym (append-nil s.now.printed);
      log = [];
      begun = sym (append-nil s.begun);
    };
    same = λ s. refl;
  };
  few = λ s. let e : length (f s.now).printed ≡ length s.now.printed = ap length (same s.now) in record { prints = omega (arith, e); log = omega arith };
}

-- ---- entering and leaving

tame_zeroed : (b n a : ℕ) {f g : State → Outcome (List ℕ)} → Tame b f g → Tame b (λ s. zeroed n a s f) (λ s. zeroed n a s g)
tame_zeroed b zero a t = t
tame_zeroed b (suc n) a t =
    tame_less (tame_step (tame_in (keeps_data (λ d. record d { mem = put a 0 d.mem }) (λ d. refl)) (tame_zeroed b n (suc a) t)))

-- what is left of a body that is left
within_returned : (n : ℕ) (o : Outcome (Unit {0})) → Within n o → Within n (returned o)
within_returned n (done a s) w = w
within_returned n (leaves back s) w = omega (arith, w)
within_returned n (leaves (to_label x) s) w = omega (arith, w)
within_returned n (spent s) w = w
within_returned n (ends e s) w = w
within_returned n (strays s) w = w

grows_returned : (s : State) (o : Outcome (Unit {0})) → Grows s o → Grows s (returned o)
grows_returned s (done a t) g = g
grows_returned s (leaves back t) g = g
grows_returned s (leaves (to_label x) t) g = grown_lost s t g
grows_returned s (spent t) g = g
grows_returned s (ends e t) g = g
grows_returned s (strays t) g = g

rests_returned : (n : ℕ) (s : State) (o : Outcome (Unit {0})) → Rests n s o → Rests n s (returned o)
rests_returned n s (done a t) r = r
rests_returned n s (leaves back t) r = r
rests_returned n s (leaves (to_label x) t) r = few_lost 0 n s t r
rests_returned n s (spent t) r = r
rests_returned n s (ends e t) r = r
rests_returned n s (strays t) r = r

spent_returned : (s : State) (o : Outcome (Unit {0})) → AtMost 0 o × Grows s o × Rests 1 s o
    → AtMost 0 (returned o) × Grows s (returned o) × Rests 1 s (returned o)
spent_returned s (done a t) w = w
spent_returned s (leaves back t) w = w
spent_returned s (leaves (to_label x) t) w = (w.0, grown_lost s t w.1, few_lost 0 1 s t w.2)
spent_returned s (spent t) w = w
spent_returned s (ends e t) w = w
spent_returned s (strays t) w = w

more_returned : (o p : Outcome (Unit {0})) → OneMore o p → OneMore (returned o) (returned p)
more_returned (done a s) p m = ap returned m
more_returned (leaves back s) p m = ap returned m
more_returned (leaves (to_label x) s) p m = ap returned m
more_returned (spent s) p m = spent_returned s p m
more_returned (ends e s) p m = ap returned m
more_returned (strays s) p m = ap returned m

tame_returned : {b : ℕ} {f g : State → Outcome (Unit {0})} → Tame b f g → Tame b (λ s. returned (f s)) (λ s. returned (g s))
tame_returned {f = f} {g = g} t = record {
  first = record {
    within = λ s l. within_returned s.left (f s) (t.first.within s l);
    grows = λ s l. grows_returned s (f s) (t.first.grows s l);
    rests = λ s e l. rests_returned 0 s (f s) (t.first.rests s e l);
  };
  second = record {
    within = λ s l. within_returned s.left (g s) (t.second.within s l);
    grows = λ s l. grows_returned s (g s) (t.second.grows s l);
    rests = λ s e l. rests_returned 0 s (g s) (t.second.rests s e l);
  };
  shifts = λ s l. more_returned (f s) (g (more s)) (t.shifts s l);
  alike = λ s l. ap returned (t.alike s l);
}

tame_words_at : (b n a : ℕ) → Tame b (words_at n a) (words_at n a)
tame_words_at b zero a = tame_done b []
tame_words_at b (suc n) a = tame_go (tame_word b false a) (λ w. tame_go (tame_words_at b n (suc a)) (λ ws. tame_done b (w ∷ ws)))

tame_result_at : (b : ℕ) (k : Option Kind) (a : ℕ) → Tame b (result_at k a) (result_at k a)
tame_result_at b None a = tame_done b []
tame_result_at b (Some k) a = tame_go (tame_words_at b (width k) a) (λ ws. tame_done b (result_value k ws))

keeps_left_to : (caller : Data) → Keeps (left_to caller)
keeps_left_to caller = record {
  adds = record {
    left = λ s. refl;
    grown = λ s. record { prints = []; printed = sym (append-nil s.now.printed); log = []; begun = sym (append-nil s.begun) };
    same = λ s. refl;
  };
  few = λ s. record { prints = omega arith; log = omega arith };
}

tame_called_back : (b : ℕ) (caller : Data) (p : Profile) (first : ℕ) {f g : State → Outcome (Unit {0})} → Tame b f g
    → Tame b (λ s. called_back caller p first (f s)) (λ s. called_back caller p first (g s))
tame_called_back b caller p first t =
    tame_go (tame_returned t) (λ _. tame_go (tame_result_at b p.result first) (λ vs. tame_in (keeps_left_to caller) (tame_done b vs)))

-- ---- calls, by the data that they find

abbrev procedure_entered : Callee → ℕ → Body → List ℕ → ℕ → Data → State → Outcome (List ℕ)
procedure_entered call d b ws k now s =
    if nat_lt now.stack (locals_of now.top k b + b.words + b.depth')
    then ends (trapped StackOverflow) s
    else zeroed b.words (locals_of now.top k b) (framed (procedure_framed k b ws s.now) s) (λ s1.
    called_back now b.profile (now.top + k) (run_body b.here call d b.number b.statements (record s1 { now = cells_set b s1.now })))

tame_enter : (d : ℕ) (c e : Callee) → TameCalls d c e → (b : Body) (ws : List ℕ) (k : ℕ)
    → Tame (suc d) (enter_procedure c d b ws k) (enter_procedure e (suc d) b ws k)
tame_enter d c e t b ws k = tame_now (procedure_entered c d b ws k) (procedure_entered e (suc d) b ws k) (λ now.
    tame_if (nat_lt now.stack (locals_of now.top k b + b.words + b.depth')) (tame_ends (suc d) (trapped StackOverflow))
    (tame_in (keeps_framed (procedure_framed k b ws) (λ x. refl))
    (tame_zeroed (suc d) b.words (locals_of now.top k b)
    (tame_called_back (suc d) now b.profile (now.top + k)
    (tame_in (keeps_data (cells_set b) (λ x. refl)) (tame_body d b.number b.here c e t b.statements))))))

abbrev subroutine_entered : Callee → ℕ → Body → List ℕ → ℕ → Data → State → Outcome (List ℕ)
subroutine_entered call d b ws k now s =
    if nat_lt now.stack (link_of now.top k b + return_words + b.depth')
    then ends (trapped StackOverflow) s
    else called_back now b.profile (now.top + k) (run_statement b call d (framed (subroutine_framed k b ws s.now) s))

tame_enter_subroutine : (d : ℕ) (c e : Callee) → TameCalls d c e → (b : Body) (ws : List ℕ) (k : ℕ)
    → Tame (suc d) (enter_subroutine c d b ws k) (enter_subroutine e (suc d) b ws k)
tame_enter_subroutine d c e t b ws k = tame_now (subroutine_entered c d b ws k) (subroutine_entered e (suc d) b ws k) (λ now.
    tame_if (nat_lt now.stack (link_of now.top k b + return_words + b.depth')) (tame_ends (suc d) (trapped StackOverflow))
    (tame_called_back (suc d) now b.profile (now.top + k)
    (tame_in (keeps_framed (subroutine_framed k b ws) (λ x. refl)) (tame_run_all d b.number b.here c e t b.statements 0))))

tame_call_procedure : (d : ℕ) (o : Option Body) (c e : Body → Callee) → ((b : Body) → TameCalls d (c b) (e b)) → (ws : List ℕ) (k : ℕ)
    → Tame (suc d) (call_procedure o c d ws k) (call_procedure o e (suc d) ws k)
tame_call_procedure d (Some b) c e t ws k = tame_enter d (c b) (e b) (t b) b ws k
tame_call_procedure d None c e t ws k = tame_lost (suc d)

tame_call_subroutine : (d : ℕ) (o : Option Subroutine) (b : Body) (c e : Callee) → TameCalls d c e → (ws : List ℕ) (k : ℕ)
    → Tame (suc d) (call_subroutine o b c d ws k) (call_subroutine o b e (suc d) ws k)
tame_call_subroutine d (Some x) b c e t ws k = tame_enter_subroutine d c e t (subroutine_body b x) ws k
tame_call_subroutine d None b c e t ws k = tame_lost (suc d)

-- a callee that is not there
abbrev astray : Callee
astray who ws k s = has_no_meaning s

none_left : (procedures : List Named) (b : Body) → TameCalls 0 (calls procedures 0 b) astray
none_left procedures b who ws k = tame_nowhere (calm_lost 1)

tame_calls : (procedures : List Named) (d : ℕ) (b : Body) → TameCalls d (calls procedures d b) (calls procedures (suc d) b)
tame_calls procedures zero b (procedure x) ws k =
    tame_nowhere (tame_call_procedure 0 (body_named procedures x) (λ c. calls procedures 0 c) (λ c. astray) (λ c. none_left procedures c) ws k).first
tame_calls procedures zero b (subroutine x) ws k =
    tame_nowhere (tame_call_subroutine 0 (subroutine_named b.subroutines x) b (calls procedures 0 b) astray (none_left procedures b) ws k).first
tame_calls procedures (suc d) b (procedure x) ws k =
    tame_call_procedure d (body_named procedures x) (λ c. calls procedures d c) (λ c. calls procedures (suc d) c) (λ c. tame_calls procedures d c) ws k
tame_calls procedures (suc d) b (subroutine x) ws k =
    tame_call_subroutine d (subroutine_named b.subroutines x) b (calls procedures d b) (calls procedures (suc d) b) (tame_calls procedures d b) ws k

-- ---- the main body

abbrev main_entered : List Named → ℕ → Body → Data → State → Outcome (Unit {0})
main_entered procedures d b now s1 =
    if nat_lt now.stack (now.top + b.depth') then ends (trapped StackOverflow) s1
    else then_go (returned (run_body b.here (calls procedures d b) d b.number b.statements s1)) (λ _ s2. stepping s2 (λ s3. ends terminated s3))

tame_main : (procedures : List Named) (d : ℕ) (b : Body) → Tame (suc d) (run_main procedures d b) (run_main procedures (suc d) b)
tame_main procedures d b =
    tame_step (tame_less (tame_now (main_entered procedures d b) (main_entered procedures (suc d) b) (λ now.
    tame_if (nat_lt now.stack (now.top + b.depth')) (tame_ends (suc d) (trapped StackOverflow))
    (tame_go (tame_returned (tame_body d b.number b.here (calls procedures d b) (calls procedures (suc d) b) (tame_calls procedures d b) b.statements))
    (λ _. tame_step (tame_ends d terminated))))))

tame_program : (p : Program) (o : Option Body) (d : ℕ) → Tame (suc d) (run_program p o d) (run_program p o (suc d))
tame_program p (Some b) d = tame_main p.procedures d b
tame_program p None d = tame_lost (suc d)

-- one step more
next : (us : List Source) (seat : Seat) (n : ℕ) → OneMore (run_of us seat n) (run_of us seat (suc n))
next us seat n = (tame_program (program_of us) (program_of us).main n).shifts (opening (program_of us) seat n) (omega arith)

-- ---- a run that has ended stays

same_point : (o p : Outcome (Unit {0})) → ((point_of o).standing ≡ stands Running → ⊥) → OneMore o p → point_of p ≡ point_of o
same_point (done a s) p h m = absurd (h refl)
same_point (leaves x s) p h m = absurd (h refl)
same_point (spent s) p h m = absurd (h refl)
same_point (ends e s) p h m = ap point_of m
same_point (strays s) p h m = ap point_of m

stays : (us : List Source) (seat : Seat) (n k : ℕ) → ((alone us seat n).standing ≡ stands Running → ⊥)
    → alone us seat (n + k) ≡ alone us seat n
stays us seat n zero h = let e : n + 0 ≡ n = omega arith in ap (alone us seat) e
stays us seat n (suc k) h =
    let e : n + suc k ≡ suc (n + k) = omega arith in
    let before = stays us seat n k h in
    ap (alone us seat) e
    ∙ same_point (run_of us seat (n + k)) (run_of us seat (suc (n + k))) (λ r. h (sym (ap (λ (p : Point). p.standing) before) ∙ r))
    (next us seat (n + k))
    ∙ before

pub ended_stays : (us : List Source) (seat : Seat) (n m : ℕ) → ((alone us seat n).standing ≡ stands Running → ⊥) → n ≤ m
    → alone us seat m ≡ alone us seat n
ended_stays us seat n m h l =
    let e : m ≡ n + (m - n) = omega (arith, l) in
    ap (alone us seat) e ∙ stays us seat n (m - n) h

-- ---- what was printed and begun stays

all_printed_append : (xs ys : List (List ℕ)) → all_printed (xs ++ ys) ≡ all_printed xs ++ all_printed ys
all_printed_append [] ys = refl
all_printed_append (x ∷ xs) ys =
    ap (λ z. x ++ z) (all_printed_append xs ys) ∙ sym (append_assoc x (all_printed xs) (all_printed ys))

front_same : {A : Type 0} (xs : List A) → IsFront xs xs
front_same xs = record { rest = []; is = sym (append-nil xs) }

front_on : {A : Type 0} (xs ys zs : List A) → IsFront xs ys → IsFront ys zs → IsFront xs zs
front_on xs ys zs f g = record { rest = f.rest ++ g.rest; is = g.is ∙ ap (λ z. z ++ g.rest) f.is ∙ append_assoc xs f.rest g.rest }

printed_grown : (s t : State) → Grown s t → IsFront (all_printed s.now.printed) (all_printed t.now.printed)
printed_grown s t g = record { rest = all_printed g.prints; is = ap all_printed g.printed ∙ all_printed_append s.now.printed g.prints }

log_grown : (s t : State) → Grown s t → IsFront s.begun t.begun
log_grown s t g = record { rest = g.log; is = g.begun }

more_printed : (o p : Outcome (Unit {0})) → OneMore o p → IsFront (point_of o).printed (point_of p).printed
more_printed (done a s) p m = subst (λ (q : Outcome (Unit {0})). IsFront (all_printed s.now.printed) (point_of q).printed) (sym m) (front_same (all_printed s.now.printed))
more_printed (leaves x s) p m = subst (λ (q : Outcome (Unit {0})). IsFront (all_printed s.now.printed) (point_of q).printed) (sym m) (front_same (all_printed s.now.printed))
more_printed (ends e s) p m = subst (λ (q : Outcome (Unit {0})). IsFront (all_printed s.now.printed) (point_of q).printed) (sym m) (front_same (all_printed s.now.printed))
more_printed (strays s) p m = subst (λ (q : Outcome (Unit {0})). IsFront (all_printed s.now.printed) (point_of q).printed) (sym m) (front_same (all_printed s.now.printed))
more_printed (spent s) p m = by p m.1
  where
    by : (q : Outcome (Unit {0})) → Grows s q → IsFront (all_printed s.now.printed) (point_of q).printed
    by (done a t) g = printed_grown s t g
    by (leaves x t) g = printed_grown s t g
    by (spent t) g = printed_grown s t g
    by (ends e t) g = printed_grown s t g
    by (strays t) g = printed_grown s t g

more_begun : (o p : Outcome (Unit {0})) → OneMore o p → IsFront (begun_of o) (begun_of p)
more_begun (done a s) p m = subst (λ (q : Outcome (Unit {0})). IsFront s.begun (begun_of q)) (sym m) (front_same s.begun)
more_begun (leaves x s) p m = subst (λ (q : Outcome (Unit {0})). IsFront s.begun (begun_of q)) (sym m) (front_same s.begun)
more_begun (ends e s) p m = subst (λ (q : Outcome (Unit {0})). IsFront s.begun (begun_of q)) (sym m) (front_same s.begun)
more_begun (strays s) p m = subst (λ (q : Outcome (Unit {0})). IsFront s.begun (begun_of q)) (sym m) (front_same s.begun)
more_begun (spent s) p m = by p m.1
  where
    by : (q : Outcome (Unit {0})) → Grows s q → IsFront s.begun (begun_of q)
    by (done a t) g = log_grown s t g
    by (leaves x t) g = log_grown s t g
    by (spent t) g = log_grown s t g
    by (ends e t) g = log_grown s t g
    by (strays t) g = log_grown s t g

-- what grows with each step grows with all
fronts : {A : Type 0} (f : ℕ → List A) → ((n : ℕ) → IsFront (f n) (f (suc n))) → (n k : ℕ) → IsFront (f n) (f (n + k))
fronts f h n zero = let e : n ≡ n + 0 = omega arith in subst (λ (m : ℕ). IsFront (f n) (f m)) e (front_same (f n))
fronts f h n (suc k) =
    let e : suc (n + k) ≡ n + suc k = omega arith in
    subst (λ (m : ℕ). IsFront (f n) (f m)) e (front_on (f n) (f (n + k)) (f (suc (n + k))) (fronts f h n k) (h (n + k)))

fronts_to : {A : Type 0} (f : ℕ → List A) → ((n : ℕ) → IsFront (f n) (f (suc n))) → (n m : ℕ) → n ≤ m → IsFront (f n) (f m)
fronts_to f h n m l =
    let e : n + (m - n) ≡ m = omega (arith, l) in
    subst (λ (j : ℕ). IsFront (f n) (f j)) e (fronts f h n (m - n))

pub prints_grow : (us : List Source) (seat : Seat) (n m : ℕ) → n ≤ m → IsFront (alone us seat n).printed (alone us seat m).printed
prints_grow us seat n m l =
    fronts_to (λ j. (alone us seat j).printed) (λ j. more_printed (run_of us seat j) (run_of us seat (suc j)) (next us seat j)) n m l

pub logs_grow : (us : List Source) (seat : Seat) (n m : ℕ) → n ≤ m → IsFront (begins us seat n) (begins us seat m)
logs_grow us seat n m l =
    fronts_to (λ j. begins us seat j) (λ j. more_begun (run_of us seat j) (run_of us seat (suc j)) (next us seat j)) n m l

-- ---- what one step more does

-- what a list grows by is as long as it grows
onward_of : (p : ℕ) (s t : State) → t.left ≤ 0 → Grown s t → Few p 1 s t → Onward p s t
onward_of p s t l g f =
    let prints : length t.now.printed ≡ length s.now.printed + length g.prints = ap length g.printed ∙ length-append s.now.printed g.prints in
    let log : length t.begun ≡ length s.begun + length g.log = ap length g.begun ∙ length-append s.begun g.log in record {
      left = omega (arith, l);
      prints = g.prints;
      printed = g.printed;
      few = omega (arith, prints, f.prints);
      log = g.log;
      begun = g.begun;
      one = omega (arith, log, f.log);
    }

beyond_of : {A : Type 0} (s : State) (o : Outcome A) → AtMost 0 o → Grows s o → Rests 1 s o → Beyond s o
beyond_of s (done a t) l g r = onward_of 0 s t l g r
beyond_of s (leaves x t) l g r = onward_of 0 s t l g r
beyond_of s (spent t) l g r = onward_of 1 s t l g r
beyond_of s (ends e t) l g r = onward_of 0 s t l g r
beyond_of s (strays t) l g r = onward_of 0 s t l g r

goes_on : {A : Type 0} (o p : Outcome A) → OneMore o p → GoesOnAs o p
goes_on (done a s) p m = m
goes_on (leaves x s) p m = m
goes_on (spent s) p m = beyond_of s p m.0 m.1 m.2
goes_on (ends e s) p m = m
goes_on (strays s) p m = m

pub steps_go_on : StepsGoOn
steps_go_on us seat n = goes_on (run_of us seat n) (run_of us seat (suc n)) (next us seat n)

-- ---- the bound

-- a larger bound changes nothing, one after another
alike_from : {A : Type 0} (F : ℕ → State → Outcome A) (s : State) (n : ℕ) → ((d : ℕ) → n ≤ d → F (suc d) s ≡ F d s) → (j : ℕ)
    → F (n + j) s ≡ F n s
alike_from F s n h zero = let e : n + 0 ≡ n = omega arith in ap (λ d. F d s) e
alike_from F s n h (suc j) =
    let e : n + suc j ≡ suc (n + j) = omega arith in ap (λ d. F d s) e ∙ h (n + j) (omega arith) ∙ alike_from F s n h j

alike_to : {A : Type 0} (F : ℕ → State → Outcome A) (s : State) (n d : ℕ) → ((d : ℕ) → n ≤ d → F (suc d) s ≡ F d s) → n ≤ d → F d s ≡ F n s
alike_to F s n d h l = let e : d ≡ n + (d - n) = omega (arith, l) in ap (λ d. F d s) e ∙ alike_from F s n h (d - n)

-- of parts that are tame of one step more than their bound
bound_of : {A : Type 0} (F : ℕ → State → Outcome A) → ((d : ℕ) → Tame (suc d) (F d) (F (suc d))) → (d : ℕ) (s : State) → s.left ≤ d
    → F d s ≡ F s.left s
bound_of F t d s l = alike_to F s s.left d (λ e m. (t e).alike s (omega (arith, m))) l

pub bounds_do_not_matter : BoundsDoNotMatter
bounds_do_not_matter = record {
  programs = λ p o d s l. bound_of (λ d. run_program p o d) (λ d. tame_program p o d) d s l;
  callees = λ procedures d b who ws k s l.
      alike_to (λ d. calls procedures d b who ws k) s (suc s.left) d (λ e m. (tame_calls procedures e b who ws k).alike s (omega (arith, m))) l;
  values = λ procedures d b x k s l.
      bound_of (λ d. value b.here (calls procedures d b) x k)
      (λ d. tame_value d b.here (calls procedures d b) (calls procedures (suc d) b) (tame_calls procedures d b) x k) d s l;
  lists = λ procedures d i b ss k s l.
      bound_of (λ d. run_all b.here (calls procedures d b) d i ss k)
      (λ d. tame_run_all d i b.here (calls procedures d b) (calls procedures (suc d) b) (tame_calls procedures d b) ss k) d s l;
  bodies = λ procedures d i b ss s l.
      bound_of (λ d. run_body b.here (calls procedures d b) d i ss)
      (λ d. tame_body d i b.here (calls procedures d b) (calls procedures (suc d) b) (tame_calls procedures d b) ss) d s l;
}
