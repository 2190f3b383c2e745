-- What the gate does with a call is what the run does: it strays, traps, or answers.
use Rattle.std.proofs.Common.{◌≡◌, ℕ, zero, suc, ◌+◌, ◌-◌, ◌*◌, ◌≤◌, Bool, true, false, List, [], ◌∷◌, ◌++◌, map, length, Option, None, Some, refl, sym, ap, subst, ◌∙◌, arith, inl}
use Rattle.std.specs.Prelude.{Err, drop, take, slice_get, slice_index, nat_le, not, if◌then◌else◌}
use Rattle.std.proofs.Math.ListN.{drop_of_length-le}
use Rattle.std.proofs.Math.Seq.{drop-cons, drop-append_seam}
use Rattle.std.proofs.lemmas.List.{append-nil, append_assoc, length-append}
use Rattle.spl_statement_code.specs.hp_word.declared.arithmetic.Code.{Code}
use Rattle.spl_statement_code.specs.hp_word.declared.endings.Ending.{Ending}
use Rattle.spl_statement_code.specs.hp_word.declared.endings.Ending.TheVariants.{Running}
use Rattle.spl_statement_code.specs.hp_word.declared.endings.Trap.TheVariants.{Mode, Bounds, OutputLimit}
use Rattle.spl_statement_code.specs.hp_word.declared.intrinsics.Intrinsic.{Intrinsic}
use Rattle.spl_statement_code.specs.hp_word.Intrinsics.{Effect, called, parameter_words, answer_words, taken_words, is_in_bounds, has_room}
use Rattle.spl_statement_code.specs.hp_instr.declared.instruction.Instr.TheVariants as op
use Rattle.spl_endings.specs.hp_session.State.{Machine, Outcome as Row}
use Rattle.spl_endings.specs.hp_call_rows.GateRows as row
use Rattle.spl_endings.specs.hp_call_rows.GateRows.{stack_byte, effect, ending_or, code_or, after_call, served}
use Rattle.spl_endings.specs.hp_flat.Step.{at_left, ended}
use Rattle.spl_endings.proofs.hp_call_yields_proofs.GateYields.{intrinsic_done, intrinsic_out, intrinsic_full}
use Rattle.spl_statement_code.specs.spl_meaning.References.{Setting}
use Rattle.spl_statement_code.specs.spl_meaning.Serving.{byte_of, touched, all_below, all_data, with_bytes, with_print, lines_taken, carried_out, answered}
use Rattle.spl_statement_code.specs.spl_meaning.States.{Data, State, Begun, trapped, ends, strays, step_of, stepping, printed_size, all_printed}
use Rattle.spl_endings.specs.spl_frames.Words.{AreWords}
use Rattle.spl_endings.proofs.spl_frames_proofs.Steady.{BytesOf}
use Rattle.spl_endings.proofs.spl_frames_proofs.WordFacts.{IsWord, line_bytes, called_right}
use Rattle.spl_endings.specs.spl_follow.Spots.{Spot, pos, landed, Point, Ground, as_print, print_between}
use Rattle.spl_endings.specs.spl_follow.Leading.{Leads}
use Rattle.spl_endings.specs.spl_follow.Matching.{Outer, outer, expected, Matched, Stand, Coded, Shows, IsAnswer}
use Rattle.spl_endings.specs.spl_follow.Following.{Rate, Tally, tally, tally_with, Goes, Follows, NoExit}
use Rattle.spl_endings.specs.spl_follow.Doing.{Way, going, calling, procedure_called}
use Rattle.spl_endings.proofs.spl_follow_proofs.FollowLemmas.{widen}
use Rattle.spl_endings.proofs.spl_follow_proofs.KeepLemmas.{kept_on, kept_top, matched_length}
use Rattle.spl_endings.proofs.spl_follow_proofs.RowLemmas.{shown, stray_here, row_trap}
use Rattle.spl_endings.proofs.spl_follow_proofs.StackLemmas.{replaced_length, beneath, stand_behind}
use Rattle.spl_endings.proofs.spl_follow_proofs.WayLemmas.{goes_wider, lead_printing}
use Rattle.spl_endings.specs.Gates.{Served}
use Rattle.spl_intrinsics.specs.Laws.{Asks, IntrinsicsAnswer}
use Rattle.spl_intrinsics.proofs.EffectLemmas.{Alike, calls_alike, calls_same, Answers, calls_answer, bounds_are, not_below, data_below, bytes_agree, data_parts}
use Rattle.spl_intrinsics.proofs.StoreLemmas.{Standing, Puts, bytes_put}

-- ---- the words of the parameters

-- words that stand to the end of the stack are the last of it
stand_drop : (xs vs : List ℕ) (a : ℕ) → length xs ≡ a + length vs → Stand xs a vs → drop a xs ≡ vs
stand_drop xs [] a e s = drop_of_length-le xs (omega (arith, e))
stand_drop xs (v ∷ vs) a e s =
    drop-cons xs a 0 (omega (arith, e)) ∙ ap (λ (w : ℕ). w ∷ drop (suc a) xs) s.0
    ∙ ap (λ (ws : List ℕ). v ∷ ws) (stand_drop xs vs (suc a) (omega (arith, e)) s.1)

-- what the gate does is what is done with these words, by the bytes of the stack
effect_is : (st : Setting) (p : Point) (i : Intrinsic) (k : ℕ) (vs : List ℕ) (d0 : Data) (m0 : Machine) (s : State) (l : List Begun) (m : Machine)
    → Asks st p i k vs d0 m0 s l m → effect i (at_left m) ≡ called (stack_byte m.stack) (slice_get s.now.lines s.now.taken) i vs
effect_is st p i k vs d0 m0 s l m x =
    let words = x.matches.words in
    let wide = x.wide in
    let place : length m.stack - parameter_words i ≡ s.now.top + (k + answer_words i) = omega (arith, words) in
    let long : length m.stack ≡ s.now.top + (k + answer_words i) + length vs = omega (arith, words, wide) in
    ap (λ (u : Outer). called (stack_byte m.stack) (slice_get u.lines u.taken) i (drop (length m.stack - parameter_words i) m.stack)) x.matches.outer
    ∙ ap (λ (ws : List ℕ). called (stack_byte m.stack) (slice_get s.now.lines s.now.taken) i ws)
    (ap (λ (j : ℕ). drop j m.stack) place ∙ stand_drop m.stack vs (s.now.top + (k + answer_words i)) long x.stand)

-- ---- prints

all_behind : (ps : List (List ℕ)) (bs : List ℕ) → all_printed (ps ++ bs ∷ []) ≡ all_printed ps ++ bs
all_behind [] bs = append-nil bs
all_behind (p ∷ ps) bs = ap (λ (xs : List ℕ). p ++ xs) (all_behind ps bs) ∙ sym (append_assoc p (all_printed ps) bs)

printed_same : (ps : List (List ℕ)) (bs : List ℕ) → all_printed ps ++ bs ≡ all_printed (with_print bs ps)
printed_same ps [] = append-nil (all_printed ps)
printed_same ps (b ∷ bs) = sym (all_behind ps (b ∷ bs))

printed_count : (ps : List (List ℕ)) → length (all_printed ps) ≡ printed_size ps
printed_count [] = refl
printed_count (p ∷ ps) = length-append p (all_printed ps) ∙ ap (λ (n : ℕ). length p + n) (printed_count ps)

-- what a machine prints is one print more, if it prints
print_is : (ps : List (List ℕ)) (m n : Machine) (bs : List ℕ) → n.printed ≡ m.printed ++ bs → ps ++ print_between m n ≡ with_print bs ps
print_is ps m n bs e = ap (λ (xs : List ℕ). ps ++ as_print (drop (length m.printed) xs)) e ∙ ap (λ (xs : List ℕ). ps ++ as_print xs) (drop-append_seam m.printed bs) ∙ by bs where
  by : (bs : List ℕ) → ps ++ as_print bs ≡ with_print bs ps
  by [] = append-nil ps
  by (b ∷ bs) = refl

-- ---- what a call leaves

taken_same : (t : Bool) (n : ℕ) → (if t then n + 1 else n) ≡ lines_taken t n
taken_same true n = omega arith
taken_same false n = refl

-- beside the stack
outer_is : (st : Setting) (s : State) (m : Machine) (e : Effect) (r : Spot) (n left : ℕ) → outer m ≡ expected st s.now → e.ending ≡ Running
    → outer (landed r (after_call n e (at_left m))) ≡ expected st (record (carried_out e s) { left = left }).now
unfolding after_call
outer_is st s m e r n left is runs =
    ap (λ (u : Outer). record u { taken = if e.takes_line then u.taken + 1 else u.taken; printed = u.printed ++ e.prints; ending = ending_or e.ending u.ending }) is
    ∙ ap (λ (t : ℕ). record (expected st s.now) { taken = t; printed = all_printed s.now.printed ++ e.prints; ending = ending_or e.ending Running }) (taken_same e.takes_line s.now.taken)
    ∙ ap (λ (bs : List ℕ). record (expected st s.now) { taken = lines_taken e.takes_line s.now.taken; printed = bs; ending = ending_or e.ending Running }) (printed_same s.now.printed e.prints)
    ∙ ap (λ (x : Ending). record (expected st s.now) { taken = lines_taken e.takes_line s.now.taken; printed = all_printed (with_print e.prints s.now.printed); ending = ending_or x Running }) runs

coded_so : (o : Option Code) (c : Code) → Coded o (code_or o c)
coded_so None c = tt
coded_so (Some x) c = refl

-- the data words as they stand before
standing : (st : Setting) (d : Data) (m : Machine) (k : ℕ) → Matched st d m k → Standing d.top d.mem m.stack
standing st d m k x = record {
  low = x.low;
  holds = x.holds;
  small = x.of_words.stack;
  long = let words = x.words in omega (arith, words);
}

-- the answer, in place of all words that the call takes
answer_is : (st : Setting) (p : Point) (r : Spot) (i : Intrinsic) (k : ℕ) (vs : List ℕ) (d0 : Data) (m0 : Machine) (s : State) (l : List Begun) (m : Machine)
    (e : Effect) (left : ℕ) → Asks st p i k vs d0 m0 s l m → Answers i e → AreWords e.answer
    → Puts s.now.top s.now.mem m.stack (with_bytes e.stores s.now.mem) (row.with_bytes m.stack e.stores)
    → IsAnswer st r (answer_words i) k d0 m0 e.answer (record (carried_out e s) { left = left }) (landed r (after_call (taken_words i) e (at_left m)))
unfolding after_call
answer_is st p r i k vs d0 m0 s l m e left x answers small puts = record {
  at = refl;
  wide = answers.wide;
  matches = record {
    words = let wide = answers.wide in omega (arith, count, wide, top);
    lies = x.matches.lies;
    low = puts.standing.low;
    holds = λ a v h. let low = puts.standing.low a v h in
        subst (λ (zs : List ℕ). slice_index zs a ≡ v) moved (beneath ys e.answer n b a long (omega (arith, low, top)) ∙ puts.standing.holds a v h);
    of_words = record { stack = puts.standing.small; extra = x.matches.of_words.extra; lines = x.matches.of_words.lines };
    outer = outer_is st s m e r n left x.matches.outer answers.runs;
  };
  stand = subst (λ (zs : List ℕ). Stand zs b e.answer) moved (stand_behind ys e.answer n b long);
  small = small;
  kept = kept_on b d0 m0.stack s.now m.stack s1.now xs x.kept (record {
    footing = refl;
    none = puts.beside.none;
    word = λ a low h. subst (λ (zs : List ℕ). slice_index zs a ≡ slice_index m.stack a) moved (beneath ys e.answer n b a long low ∙ puts.beside.word a h);
  });
  coded = coded_so e.code m.regs.code;
}
  where
    n : ℕ
    n = taken_words i

    b : ℕ
    b = d0.top + k

    s1 : State
    s1 = record (carried_out e s) { left = left }

    ys : List ℕ
    ys = row.with_bytes m.stack e.stores

    xs : List ℕ
    xs = take (length m.stack - n) ys ++ e.answer

    top : s.now.top ≡ d0.top
    top = kept_top b d0 m0.stack s.now m.stack x.kept

    long : length ys ≡ b + n
    long = puts.beside.count ∙ matched_length st s.now m k n d0.top x.matches top

    moved : take (length ys - n) ys ++ e.answer ≡ xs
    moved = ap (λ (j : ℕ). take (j - n) ys ++ e.answer) puts.beside.count

    count : length xs ≡ b + length e.answer
    count = ap (λ (zs : List ℕ). length zs) (sym moved) ∙ replaced_length ys e.answer n b long

-- ---- where the call leads

-- a call of the gate is its row
gate_going : (way : Way) (i : Intrinsic) (r : Spot) (m : Machine) (v : Served way i) → m.split ≡ false
    → calling (op.Control 0 0) way r m ≡ going r (served v.entry (at_left m)) m
gate_going way i r m v whole =
    ap (λ (b : Bool). ended m (if b then Err Mode else procedure_called way r (at_left m))) whole
    ∙ ap (λ (w : Way). ended m (procedure_called w r (at_left m))) v.leads

-- a step that is spent behind a stretch
goes_spending : (g : Ground) (w : Rate) (c e : ℕ) (t : Tally) (m : Machine) (t1 : Tally) (m1 : Machine) (n : ℕ) → t1.left ≡ suc n
    → Goes g w c 0 e t m t1 m1 → Goes g w c 1 e t m (record t1 { left = n }) m1
goes_spending g w c e t m t1 m1 n is x =
    let worth : w.step * t1.left ≡ w.step * n + w.step = ap (λ (i : ℕ). w.step * i) is ∙ omega arith in
    record {
      n = x.n;
      goes = x.goes;
      cost = omega (arith, x.cost, worth);
      gain = omega (arith, x.gain, is);
      less = omega (arith, x.less, is);
      log = x.log;
      wrote = x.wrote;
    }

-- the call is carried out, and then its step is spent
answer_follows : (g : Ground) (w : Rate) (st : Setting) (p : Point) (r : Spot) (way : Way) (i : Intrinsic) (k : ℕ) (vs : List ℕ) (d0 : Data)
    (m0 : Machine) (s : State) (l : List Begun) (m : Machine) (e : Effect) → Leads g p r (calling (op.Control 0 0) way r) → Asks st p i k vs d0 m0 s l m
    → Answers i e → AreWords e.answer → Puts s.now.top s.now.mem m.stack (with_bytes e.stores s.now.mem) (row.with_bytes m.stack e.stores)
    → calling (op.Control 0 0) way r m ≡ landed r (after_call (taken_words i) e (at_left m))
    → Follows g w (pos r - pos p.at) 1 w.reach (tally_with l s) m (IsAnswer st r (answer_words i) k d0 m0) NoExit
    (stepping (carried_out e s) (λ s1. answered Running e.answer s1))
unfolding after_call
answer_follows g w st p r way i k vs d0 m0 s l m e leads x answers small puts is = by s.left refl where
  n : Machine
  n = landed r (after_call (taken_words i) e (at_left m))

  shows : Shows Running s.now m
  shows = shown st s m (k + (answer_words i + parameter_words i)) x.matches

  goes : Goes g w (pos r - pos p.at) 0 w.reach (tally_with l s) m (record (tally s) { printed = with_print e.prints s.now.printed }) n
  goes =
      subst (λ (ps : List (List ℕ)). Goes g w (pos r - pos p.at) 0 w.reach (tally_with l s) m (record (tally s) { printed = ps }) n)
      (print_is s.now.printed m n e.prints refl)
      (lead_printing g w p r (calling (op.Control 0 0) way r) l s m n leads x.at shows.ending x.owes is)

  by : (j : ℕ) → s.left ≡ j
      → Follows g w (pos r - pos p.at) 1 w.reach (tally_with l s) m (IsAnswer st r (answer_words i) k d0 m0) NoExit
      (step_of j (carried_out e s) (λ s1. answered Running e.answer s1))
  by zero none =
      let a = answer_is st p r i k vs d0 m0 s l m e 0 x answers small puts in (
        n,
        s.begun,
        goes_wider g w (pos r - pos p.at) 0 w.reach (pos r - pos p.at) 1 0 (tally_with l s) m (record (tally s) { printed = with_print e.prints s.now.printed }) n goes
            (omega arith) (omega arith),
        record { ending = ap (λ (u : Outer). u.ending) a.matches.outer; printed = ap (λ (u : Outer). u.printed) a.matches.outer },
        none,
        inl refl,
      )
  by (suc j) more = (
    n,
    goes_spending g w (pos r - pos p.at) w.reach (tally_with l s) m (record (tally s) { printed = with_print e.prints s.now.printed }) n j more goes,
    answer_is st p r i k vs d0 m0 s l m e j x answers small puts,
  )

-- the room for what is printed
room_is : (room : ℕ) (e : Effect) → has_room room e ≡ nat_le (length e.prints) room
unfolding has_room
room_is room e = refl

-- ---- the call

pub answers : IntrinsicsAnswer
answers g w st p r way i k vs d0 m0 s l m is_one v whole leads x = below (all_below s.now.stack (touched e)) refl where
  line : Option (List ℕ)
  line = slice_get s.now.lines s.now.taken

  e : Effect
  e = called (byte_of s.now.mem) line i vs

  f : Effect
  f = called (stack_byte m.stack) line i vs

  there : effect i (at_left m) ≡ f
  there = effect_is st p i k vs d0 m0 s l m x

  alike : Alike e f
  alike = calls_alike (byte_of s.now.mem) (stack_byte m.stack) line i vs

  same_touched : touched f ≡ touched e
  same_touched =
      ap (λ (bs : List ℕ). bs ++ map (λ q. q.0) f.stores) (sym alike.reads) ∙ ap (λ (ps : List (ℕ × ℕ)). e.reads ++ map (λ q. q.0) ps) (sym alike.stores)

  split : m.split ≡ false
  split = ap (λ (u : Outer). u.split) x.matches.outer ∙ whole

  enough : taken_words i ≤ length m.stack
  enough = let words = x.matches.words in omega (arith, words)

  short : length m.stack ≤ s.now.stack
  short = let words = x.matches.words in let room = x.room in omega (arith, words, room)

  within : is_in_bounds (length m.stack) (effect i (at_left m)) ≡ all_below (length m.stack) (touched e)
  within = ap (λ (u : Effect). is_in_bounds (length m.stack) u) there ∙ bounds_are (length m.stack) f ∙ ap (λ (bs : List ℕ). all_below (length m.stack) bs) same_touched

  traps : (t : _) → served v.entry (at_left m) ≡ Err t
      → Follows g w (pos r - pos p.at) 1 w.reach (tally_with l s) m (IsAnswer st r (answer_words i) k d0 m0) NoExit (ends (trapped t) s)
  traps t o =
      widen g w (pos r - pos p.at) 0 w.reach (pos r - pos p.at) 1 w.reach (tally_with l s) m (IsAnswer st r (answer_words i) k d0 m0) NoExit (ends (trapped t) s)
      (row_trap g w w.reach p r (calling (op.Control 0 0) way r) st l s m (k + (answer_words i + parameter_words i)) (served v.entry (at_left m)) t
      (IsAnswer st r (answer_words i) k d0 m0) NoExit leads (gate_going way i r m v split) x.at x.owes x.matches o) (omega arith) (omega arith) (omega arith)

  full : (b : Bool) → nat_le (length e.prints) (s.now.room - printed_size s.now.printed) ≡ b → all_data s.now.mem (touched e) ≡ true
      → Follows g w (pos r - pos p.at) 1 w.reach (tally_with l s) m (IsAnswer st r (answer_words i) k d0 m0) NoExit
      (if not b then ends (trapped OutputLimit) s else stepping (carried_out e s) (λ s1. answered e.ending e.answer s1))
  full b room filled = by b room where
    parts : (all_data s.now.mem e.reads ≡ true) × (all_data s.now.mem (map (λ q. q.0) e.stores) ≡ true)
    parts = data_parts s.now.mem e.reads (map (λ q. q.0) e.stores) filled

    same : e ≡ f
    same = calls_same (byte_of s.now.mem) (stack_byte m.stack) line i vs (bytes_agree s.now.mem m.stack e.reads x.matches.holds parts.0)

    is : effect i (at_left m) ≡ e
    is = there ∙ sym same

    inside : is_in_bounds (length m.stack) (effect i (at_left m)) ≡ true
    inside =
        let words = x.matches.words in
        within ∙ data_below s.now.mem s.now.top (length m.stack) (touched e) x.matches.low (omega (arith, words)) filled

    fits : has_room (m.room - length m.printed) (effect i (at_left m)) ≡ nat_le (length e.prints) (s.now.room - printed_size s.now.printed)
    fits =
        room_is (m.room - length m.printed) (effect i (at_left m)) ∙ ap (λ (u : Effect). nat_le (length u.prints) (m.room - length m.printed)) is
        ∙ ap (λ (u : Outer). nat_le (length e.prints) (u.room - length u.printed)) x.matches.outer
        ∙ ap (λ (n : ℕ). nat_le (length e.prints) (s.now.room - n)) (printed_count s.now.printed)

    answers_are : Answers i e
    answers_are = calls_answer (byte_of s.now.mem) line i vs is_one

    right : AreWords e.answer × BytesOf IsWord e.stores
    right = called_right (byte_of s.now.mem) line i vs (λ bs h. line_bytes s.now.lines s.now.taken bs x.matches.of_words.lines h) x.small

    puts : Puts s.now.top s.now.mem m.stack (with_bytes e.stores s.now.mem) (row.with_bytes m.stack e.stores)
    puts = bytes_put s.now.top e.stores s.now.mem m.stack (standing st s.now m (k + (answer_words i + parameter_words i)) x.matches) parts.1 right.1

    by : (b : Bool) → nat_le (length e.prints) (s.now.room - printed_size s.now.printed) ≡ b
        → Follows g w (pos r - pos p.at) 1 w.reach (tally_with l s) m (IsAnswer st r (answer_words i) k d0 m0) NoExit
        (if not b then ends (trapped OutputLimit) s else stepping (carried_out e s) (λ s1. answered e.ending e.answer s1))
    by false room = traps OutputLimit (intrinsic_full v.entry i (at_left m) v.serves enough inside (fits ∙ room))
    by true room =
        subst (λ (z : Ending). Follows g w (pos r - pos p.at) 1 w.reach (tally_with l s) m (IsAnswer st r (answer_words i) k d0 m0) NoExit
        (stepping (carried_out e s) (λ s1. answered z e.answer s1))) (sym answers_are.runs)
        (answer_follows g w st p r way i k vs d0 m0 s l m e leads x answers_are right.0 puts
        (gate_going way i r m v split ∙ ap (λ (o : Row). going r o m) (intrinsic_done v.entry i (at_left m) v.serves enough inside (fits ∙ room))
        ∙ ap (λ (u : Effect). landed r (after_call (taken_words i) u (at_left m))) is))

  known : (b : Bool) → all_data s.now.mem (touched e) ≡ b
      → Follows g w (pos r - pos p.at) 1 w.reach (tally_with l s) m (IsAnswer st r (answer_words i) k d0 m0) NoExit
      (if not b then strays s else if not (nat_le (length e.prints) (s.now.room - printed_size s.now.printed)) then ends (trapped OutputLimit) s
      else stepping (carried_out e s) (λ s1. answered e.ending e.answer s1))
  known false filled =
      stray_here g w (pos r - pos p.at) 1 w.reach st p (k + (answer_words i + parameter_words i)) s l m (IsAnswer st r (answer_words i) k d0 m0) NoExit leads.start x.at x.owes x.matches
  known true filled = full (nat_le (length e.prints) (s.now.room - printed_size s.now.printed)) refl filled

  below : (b : Bool) → all_below s.now.stack (touched e) ≡ b
      → Follows g w (pos r - pos p.at) 1 w.reach (tally_with l s) m (IsAnswer st r (answer_words i) k d0 m0) NoExit
      (if not b then ends (trapped Bounds) s else if not (all_data s.now.mem (touched e)) then strays s
      else if not (nat_le (length e.prints) (s.now.room - printed_size s.now.printed)) then ends (trapped OutputLimit) s
      else stepping (carried_out e s) (λ s1. answered e.ending e.answer s1))
  below false high =
      traps Bounds (intrinsic_out v.entry i (at_left m) v.serves enough (within ∙ not_below (length m.stack) s.now.stack (touched e) short high))
  below true low = known (all_data s.now.mem (touched e)) refl
