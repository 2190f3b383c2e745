-- What a job says is within its limits, since each of its lines is.
-- 1. how long lines are                     (part_weights to text_weight)
-- 2. what one line adds                     (line_length to after_word)
-- 3. what all of them say                   (fits_read, jobs_fit)
use Rattle.std.proofs.Common.{◌≡◌, ℕ, zero, suc, ◌+◌, ◌-◌, ◌<◌, ◌≤◌, ◌&&◌, Bool, true, false, List, [], ◌∷◌, ◌++◌, length, take, drop, map, Option, None, Some, cond, refl, sym, ap, subst, arith}
use Rattle.std.specs.Prelude.{Result, Ok, Err, nat_lt, unwrap_or, ◌==◌, slice_index, if◌then◌else◌, is_some}
use Rattle.std.specs.List.{slice_split, position_from, onto_first}
use Rattle.std.proofs.lemmas.Bool.Decides.{nat_tests}
use Rattle.std.proofs.lemmas.List.{length-append}
use Rattle.job_lines.specs.declared.place.Place.{Place}
use Rattle.job_lines.specs.declared.place.Place.TheVariants as place
use Rattle.job_lines.specs.declared.settings.Setting.{Setting}
use Rattle.job_lines.specs.declared.settings.Setting.TheVariants as st
use Rattle.job_lines.specs.declared.settings.Settings.{Settings}
use Rattle.job_lines.specs.declared.sizes.Sizes.{Sizes}
use Rattle.job_lines.specs.declared.sizes.Size.TheVariants as sz
use Rattle.job_lines.specs.Lines.{lines, lines_of_parts, without_return, same, words, is_blank_line}
use Rattle.std.specs.Char.{to_ascii_uppercase}
use Rattle.job_lines.specs.Numbers.{is_between}
use Rattle.job_lines.specs.Settings.{setting_fits, setting_in, with_setting, value_of, default_setting, no_settings}
use Rattle.job_lines.specs.Sizes.{sizes_fit, fits_if_given}
use Rattle.job_lines.specs.Commands.{Command}
use Rattle.job_lines.specs.Commands as cmd
use Rattle.job_lines.specs.Says as say
use Rattle.job_lines.specs.Says.{Said, said_at, command_said, said_by_words, is_command, end_of_text}
use Rattle.job_text.specs.States.{TextValue, SeatValue, State, start, after, after_command, at_last, with_unit, with_unit_line, with_terminal_line, opened, program_number}
use Rattle.job_text.specs.Rules.{broken, last_units}
use Rattle.job_text.specs.Jobs.{JobValue, job_of, JobIs}
use Rattle.job_text.specs.Fits.{Each, ProgramFits, SeatFits, JobFits}
use Rattle.job_text.specs.Laws.{JobsFit}
use Rattle.job_text.specs.Verdicts.{Fault, going_on, verdict_from, with_job, verdict}
use Rattle.job_text.proofs.JobLaws.{job_is, jobs_are_unique, jobs_break_nothing, job_breaks}
use Rattle.job_text.proofs.RuleLemmas.{limits_kept, room_kept, seat_kept, program_kept}

-- ---- 1. how long lines are

-- the bytes of lines, with a line feed for each
abbrev weight : List (List ℕ) → ℕ
weight [] = 0
weight (l ∷ ls) = length l + 1 + weight ls

-- the parts of a text, each with a line feed, have one byte more than the text
record Parts (n : ℕ) (parts : List (List ℕ)) : Type 0 where
  some : 0 < length parts
  weighs : weight parts ≡ n + 1

onto_parts : (b n : ℕ) (parts : List (List ℕ)) → Parts n parts → Parts (suc n) (onto_first b parts)
onto_parts b n [] k = let l = k.some in absurd (omega (arith, l))
onto_parts b n (p ∷ ps) k = let m = k.weighs in record { some = omega arith; weighs = omega (arith, m) }

part_weights : (text : List ℕ) → Parts (length text) (slice_split (λ b. b == 10) text)
part_weights [] = record { some = omega arith; weighs = refl }
part_weights (b ∷ bs) = by (b == 10) (slice_split (λ b. b == 10) bs) (part_weights bs) where
  by : (t : Bool) (ps : List (List ℕ)) → Parts (length bs) ps → Parts (suc (length bs)) (cond t ([] ∷ ps) (onto_first b ps))
  by true ps k = let m = k.weighs in record { some = omega arith; weighs = omega (arith, m) }
  by false ps k = onto_parts b (length bs) ps k

take_less : (n : ℕ) (l : List ℕ) → length (take n l) ≤ length l
take_less zero l = omega arith
take_less (suc n) [] = omega arith
take_less (suc n) (b ∷ l) = let m = take_less n l in omega (arith, m)

return_less : (l : List ℕ) → length (without_return l) ≤ length l
return_less l = by (slice_index l (length l - 1) == 13) where
  by : (t : Bool) → length (if t then take (length l - 1) l else l) ≤ length l
  by true = take_less (length l - 1) l
  by false = omega arith

parts_less : (parts : List (List ℕ)) → weight (lines_of_parts parts) ≤ weight parts
parts_less [] = omega arith
parts_less ([] ∷ []) = omega arith
parts_less ((b ∷ bs) ∷ []) = omega arith
parts_less (p ∷ q ∷ ps) = let m = parts_less (q ∷ ps) in let n = return_less p in omega (arith, m, n)

-- the lines of a text, each with a line feed, have at most one byte more than the text
text_weight : (text : List ℕ) → weight (lines text) ≤ length text + 1
unfolding lines
text_weight text =
    let m = parts_less (slice_split (λ b. b == 10) text) in let n = (part_weights text).weighs in omega (arith, m, n)

-- ---- 2. what one line adds

-- a program whose units have been read from lines of this weight
record UnitsFit (w : ℕ) (p : TextValue) : Type 0 where
  few : length p.units ≤ 32
  short : Each (λ text. length text + 1 ≤ w) p.units

-- what lines of this weight say
record Fits (w : ℕ) (s : State) : Type 0 where
  settings : (k : Setting) (n : ℕ) → setting_in k s.settings ≡ Some n → setting_fits k n ≡ true
  programs : length s.programs ≤ 16
  each_program : Each (UnitsFit w) s.programs
  sessions : length s.sessions ≤ 16
  each_session : Each (SeatFits (length s.programs)) s.sessions

pub each_append : {X : Type 0} (P : X → Type 0) (xs ys : List X) → Each P xs → Each P ys → Each P (xs ++ ys)
each_append P [] ys a b = b
each_append P (x ∷ xs) ys a b = (a.0, each_append P xs ys a.1 b)

all_weaken : {X : Type 0} (P Q : X → Type 0) (xs : List X) → ((x : X) → P x → Q x) → Each P xs → Each Q xs
all_weaken P Q [] f a = tt
all_weaken P Q (x ∷ xs) f a = (f x a.0, all_weaken P Q xs f a.1)

pub last_all : {X : Type 0} (P Q : X → Type 0) (f : X → X) (xs : List X) → ((x : X) → P x → Q x) → ((x : X) → P x → Q (f x)) → Each P xs → Each Q (at_last f xs)
last_all P Q f [] g h a = tt
last_all P Q f (x ∷ []) g h a = (h x a.0, tt)
last_all P Q f (x ∷ y ∷ xs) g h a = (g x a.0, last_all P Q f (y ∷ xs) g h a.1)

last_length : {X : Type 0} (f : X → X) (xs : List X) → length (at_last f xs) ≡ length xs
last_length f [] = refl
last_length f (x ∷ []) = refl
last_length f (x ∷ y ∷ xs) = ap suc (last_length f (y ∷ xs))

longer : (w v : ℕ) (units : List (List ℕ)) → w ≤ v → Each (λ text. length text + 1 ≤ w) units → Each (λ text. length text + 1 ≤ v) units
longer w v units l a = all_weaken (λ text. length text + 1 ≤ w) (λ text. length text + 1 ≤ v) units (λ x m. omega (arith, l, m)) a

units_longer : (w v : ℕ) (p : TextValue) → w ≤ v → UnitsFit w p → UnitsFit v p
units_longer w v p l k = record { few = k.few; short = longer w v p.units l k.short }

seats_more : (m n : ℕ) (xs : List SeatValue) → m ≤ n → Each (SeatFits m) xs → Each (SeatFits n) xs
seats_more m n xs l a =
    all_weaken (SeatFits m) (SeatFits n) xs (λ x k. let t = k.program in record { program = omega (arith, l, t); least_stack = k.least_stack; stack = k.stack; extra = k.extra; least_room = k.least_room; room = k.room }) a

-- nothing new was said
stays : (w v : ℕ) (s : State) → w ≤ v → Fits w s → Fits v s
stays w v s l k = record {
  settings = k.settings;
  programs = k.programs;
  each_program = all_weaken (UnitsFit w) (UnitsFit v) s.programs (λ p u. units_longer w v p l u) k.each_program;
  sessions = k.sessions;
  each_session = k.each_session;
}

-- a line of a unit
line_length : (u line : List ℕ) → length (u ++ line ++ 10 ∷ []) ≡ length u + (length line + 1)
line_length u line = let a = length-append (u ++ line) (10 ∷ []) in let b = length-append u line in omega (arith, a, b)

line_fits : (w v : ℕ) (line u : List ℕ) → w + (length line + 1) ≤ v → length u + 1 ≤ w → length (u ++ line ++ 10 ∷ []) + 1 ≤ v
line_fits w v line u l k = let m = line_length u line in omega (arith, l, k, m)

unit_line_fits : (w v : ℕ) (line : List ℕ) (p : TextValue) → w + (length line + 1) ≤ v → UnitsFit w p → UnitsFit v (with_unit_line line p)
unit_line_fits w v line p l k = record {
  few = let m = last_length (λ u. u ++ line ++ 10 ∷ []) p.units in let n = k.few in omega (arith, m, n);
  short = last_all (λ text. length text + 1 ≤ w) (λ text. length text + 1 ≤ v) (λ u. u ++ line ++ 10 ∷ []) p.units (λ x m. omega (arith, l, m))
      (λ x m. line_fits w v line x l m) k.short;
}

after_unit_line : (w v : ℕ) (line : List ℕ) (s : State) → w + (length line + 1) ≤ v → Fits w s → Fits v (record s { programs = at_last (with_unit_line line) s.programs })
after_unit_line w v line s l k = record {
  settings = k.settings;
  programs = let m = last_length (with_unit_line line) s.programs in let n = k.programs in omega (arith, m, n);
  each_program = last_all (UnitsFit w) (UnitsFit v) (with_unit_line line) s.programs (λ p u. units_longer w v p (omega (arith, l)) u)
      (λ p u. unit_line_fits w v line p l u) k.each_program;
  sessions = k.sessions;
  each_session = subst (λ n. Each (SeatFits n) s.sessions) (sym (last_length (with_unit_line line) s.programs)) k.each_session;
}

-- a terminal line
seat_line_fits : (n : ℕ) (line : List ℕ) (x : SeatValue) → SeatFits n x → SeatFits n (with_terminal_line line x)
seat_line_fits n line x k =
    record { program = k.program; least_stack = k.least_stack; stack = k.stack; extra = k.extra; least_room = k.least_room; room = k.room }

after_terminal_line : (w v : ℕ) (line : List ℕ) (s : State) → w ≤ v → Fits w s → Fits v (record s { sessions = at_last (with_terminal_line line) s.sessions })
after_terminal_line w v line s l k = let t = stays w v s l k in record {
  settings = k.settings;
  programs = k.programs;
  each_program = t.each_program;
  sessions = let m = last_length (with_terminal_line line) s.sessions in let n = k.sessions in omega (arith, m, n);
  each_session = last_all (SeatFits (length s.programs)) (SeatFits (length s.programs)) (with_terminal_line line) s.sessions (λ x f. f)
      (λ x f. seat_line_fits (length s.programs) line x f) k.each_session;
}

-- a setting
set_in : (k j : Setting) (n m : ℕ) (settings : Settings) → ((k : Setting) (n : ℕ) → setting_in k settings ≡ Some n → setting_fits k n ≡ true)
    → setting_fits j m ≡ true → setting_in k (with_setting j m settings) ≡ Some n → setting_fits k n ≡ true
set_in st.Memory st.Memory n m settings f g e = let same : m ≡ n = cc in subst (λ x. setting_fits st.Memory x ≡ true) same g
set_in st.Memory st.Quantum n m settings f g e = f st.Memory n e
set_in st.Memory st.Turns n m settings f g e = f st.Memory n e
set_in st.Quantum st.Memory n m settings f g e = f st.Quantum n e
set_in st.Quantum st.Quantum n m settings f g e = let same : m ≡ n = cc in subst (λ x. setting_fits st.Quantum x ≡ true) same g
set_in st.Quantum st.Turns n m settings f g e = f st.Quantum n e
set_in st.Turns st.Memory n m settings f g e = f st.Turns n e
set_in st.Turns st.Quantum n m settings f g e = f st.Turns n e
set_in st.Turns st.Turns n m settings f g e = let same : m ≡ n = cc in subst (λ x. setting_fits st.Turns x ≡ true) same g

after_setting : (w v : ℕ) (j : Setting) (m : ℕ) (s : State) → w ≤ v → setting_fits j m ≡ true → Fits w s → Fits v (record s { settings = with_setting j m s.settings })
after_setting w v j m s l g k = let t = stays w v s l k in record {
  settings = λ i n e. set_in i j n m s.settings k.settings g e;
  programs = k.programs;
  each_program = t.each_program;
  sessions = k.sessions;
  each_session = k.each_session;
}

-- a program
after_program : (w v : ℕ) (name : List ℕ) (s : State) → w ≤ v → nat_lt (length s.programs) 16 ≡ true → Fits w s
    → Fits v (record s { place = place.Outside; programs = s.programs ++ record { name = name; units = [] } ∷ [] })
after_program w v name s l g k =
    let t = stays w v s l k in
    let more : length (s.programs ++ record { name = name; units = [] } ∷ []) ≡ length s.programs + 1 = length-append s.programs (record { name = name; units = [] } ∷ []) in
    record {
      settings = k.settings;
      programs = grind (arith, nat_tests, g, more);
      each_program = each_append (UnitsFit v) s.programs (record { name = name; units = [] } ∷ []) t.each_program (record { few = omega arith; short = tt }, tt);
      sessions = k.sessions;
      each_session = seats_more (length s.programs) (length (s.programs ++ record { name = name; units = [] } ∷ [])) s.sessions (omega (arith, more)) k.each_session;
    }

-- a unit
unit_fits : (w v : ℕ) (p : TextValue) → w + 1 ≤ v → nat_lt (length p.units) 32 ≡ true → UnitsFit w p → UnitsFit v (with_unit p)
unit_fits w v p l g k = record {
  few = let m = length-append p.units ([] ∷ []) in grind (arith, nat_tests, g, m);
  short = each_append (λ text. length text + 1 ≤ v) p.units ([] ∷ []) (longer w v p.units (omega (arith, l)) k.short) (omega (arith, l), tt);
}

units_fit : (w v : ℕ) (ps : List TextValue) → w + 1 ≤ v → nat_lt (length (last_units ps)) 32 ≡ true → Each (UnitsFit w) ps → Each (UnitsFit v) (at_last with_unit ps)
units_fit w v [] l g a = tt
units_fit w v (p ∷ []) l g a = (unit_fits w v p l g a.0, tt)
units_fit w v (p ∷ q ∷ ps) l g a = (units_longer w v p (omega (arith, l)) a.0, units_fit w v (q ∷ ps) l g a.1)

after_unit : (w v : ℕ) (s : State) → w + 1 ≤ v → nat_lt (length (last_units s.programs)) 32 ≡ true → Fits w s
    → Fits v (record s { place = place.InUnit; programs = at_last with_unit s.programs })
after_unit w v s l g k = record {
  settings = k.settings;
  programs = let m = last_length with_unit s.programs in let n = k.programs in omega (arith, m, n);
  each_program = units_fit w v s.programs l g k.each_program;
  sessions = k.sessions;
  each_session = subst (λ n. Each (SeatFits n) s.sessions) (sym (last_length with_unit s.programs)) k.each_session;
}

-- a session
found_below : (t : TextValue → Bool) (ps : List TextValue) (n i : ℕ) → position_from t n ps ≡ Some i → i < n + length ps
found_below t [] n i e = cc
found_below t (p ∷ ps) n i e = by (t p) (found_below t ps (n + 1) i) e where
  by : (b : Bool) → (position_from t (n + 1) ps ≡ Some i → i < n + 1 + length ps) → (cond b (Some n) (position_from t (n + 1) ps)) ≡ Some i → i < n + suc (length ps)
  by true rest f = let same : n ≡ i = cc in omega (arith, same)
  by false rest f = let m = rest f in omega (arith, m)

number_below : (name : List ℕ) (ps : List TextValue) → is_some (program_number name ps) ≡ true → unwrap_or (program_number name ps) 0 < length ps
number_below name ps h = by (program_number name ps) refl h where
  by : (o : Option ℕ) → program_number name ps ≡ o → is_some o ≡ true → unwrap_or o 0 < length ps
  by None e h = cc
  by (Some i) e h = let m = found_below (λ p. same p.name name) ps 0 i e in omega (arith, m)

between_at_most : (low high n : ℕ) → is_between low high n ≡ true → n ≤ high
between_at_most low high n h = grind (arith, nat_tests, h)

between_at_least : (low high n : ℕ) → is_between low high n ≡ true → low ≤ n
between_at_least low high n h = grind (arith, nat_tests, h)

pub and_first : (a b : Bool) → (a && b) ≡ true → a ≡ true
and_first true b h = refl
and_first false b h = cc

pub and_second : (a b : Bool) → (a && b) ≡ true → b ≡ true
and_second true b h = h
and_second false b h = cc

seat_opens : (n number : ℕ) (sizes : Sizes) → number < n → sizes_fit sizes ≡ true → SeatFits n (opened number sizes)
seat_opens n number sizes l h =
    let both = and_first (fits_if_given sz.Stack sizes.stack && fits_if_given sz.Extra sizes.extra) (fits_if_given sz.Print sizes.print) h in
    let a = and_first (fits_if_given sz.Stack sizes.stack) (fits_if_given sz.Extra sizes.extra) both in
    let c = and_second (fits_if_given sz.Stack sizes.stack) (fits_if_given sz.Extra sizes.extra) both in
    let d = and_second (fits_if_given sz.Stack sizes.stack && fits_if_given sz.Extra sizes.extra) (fits_if_given sz.Print sizes.print) h in
    record {
      program = l;
      least_stack = least_stack sizes.stack a;
      stack = stack sizes.stack a;
      extra = extra sizes.extra c;
      least_room = least_room sizes.print d;
      room = room sizes.print d;
    }
  where
    least_stack : (o : Option ℕ) → fits_if_given sz.Stack o ≡ true → 64 ≤ unwrap_or o 1024
    least_stack None h = omega arith
    least_stack (Some n) h = between_at_least 64 32000 n h

    least_room : (o : Option ℕ) → fits_if_given sz.Print o ≡ true → 1 ≤ unwrap_or o 16384
    least_room None h = omega arith
    least_room (Some n) h = between_at_least 1 1048576 n h

    stack : (o : Option ℕ) → fits_if_given sz.Stack o ≡ true → unwrap_or o 1024 ≤ 32000
    stack None h = omega arith
    stack (Some n) h = between_at_most 64 32000 n h

    extra : (o : Option ℕ) → fits_if_given sz.Extra o ≡ true → unwrap_or o 0 ≤ 32000
    extra None h = omega arith
    extra (Some n) h = between_at_most 0 32000 n h

    room : (o : Option ℕ) → fits_if_given sz.Print o ≡ true → unwrap_or o 16384 ≤ 1048576
    room None h = omega arith
    room (Some n) h = between_at_most 1 1048576 n h

after_session : (w v : ℕ) (name : List ℕ) (sizes : Sizes) (s : State) → w ≤ v → sizes_fit sizes ≡ true → is_some (program_number name s.programs) ≡ true
    → nat_lt (length s.sessions) 16 ≡ true → Fits w s
    → Fits v (record s { place = place.InSession; sessions = s.sessions ++ opened (unwrap_or (program_number name s.programs) 0) sizes ∷ [] })
after_session w v name sizes s l g h f k =
    let t = stays w v s l k in
    let one = opened (unwrap_or (program_number name s.programs) 0) sizes in
    let more : length (s.sessions ++ one ∷ []) ≡ length s.sessions + 1 = length-append s.sessions (one ∷ []) in
    record {
      settings = k.settings;
      programs = k.programs;
      each_program = t.each_program;
      sessions = grind (arith, nat_tests, f, more);
      each_session = each_append (SeatFits (length s.programs)) s.sessions (one ∷ []) k.each_session
          (seat_opens (length s.programs) (unwrap_or (program_number name s.programs) 0) sizes (number_below name s.programs h) g, tt);
    }

-- a command that breaks no rule
after_word : (prep : Bool) (w v : ℕ) (c : Command) (s : State) → w + 1 ≤ v → broken prep s (say.command c) ≡ None → Fits w s → Fits v (after_command c s)
after_word prep w v cmd.job s l b k = let t = stays w v s (omega (arith, l)) k in
    record { settings = t.settings; programs = t.programs; each_program = t.each_program; sessions = t.sessions; each_session = t.each_session }
after_word prep w v (cmd.setting j m) s l b k = after_setting w v j m s (omega (arith, l)) (limits_kept prep s (say.command (cmd.setting j m)) b) k
after_word prep w v cmd.statistics s l b k = let t = stays w v s (omega (arith, l)) k in
    record { settings = t.settings; programs = t.programs; each_program = t.each_program; sessions = t.sessions; each_session = t.each_session }
after_word prep w v (cmd.program name) s l b k = after_program w v name s (omega (arith, l)) (room_kept prep s (say.command (cmd.program name)) b) k
after_word prep w v cmd.unit s l b k = after_unit w v s l (room_kept prep s (say.command cmd.unit) b) k
after_word prep w v (cmd.session name sizes) s l b k =
    after_session w v name sizes s (omega (arith, l)) (limits_kept prep s (say.command (cmd.session name sizes)) b)
    (program_kept prep s (say.command (cmd.session name sizes)) b) (seat_kept prep s (say.command (cmd.session name sizes)) b) k
after_word prep w v cmd.end_of_job s l b k = let t = stays w v s (omega (arith, l)) k in
    record { settings = t.settings; programs = t.programs; each_program = t.each_program; sessions = t.sessions; each_session = t.each_session }

-- how much of a line is said of a unit
abbrev unit_part : Said → ℕ
unit_part (say.unit_line line) = length line
unit_part _ = 0

fits_said : (prep : Bool) (w v : ℕ) (x : Said) (s : State) → w + (unit_part x + 1) ≤ v → broken prep s x ≡ None → Fits w s → Fits v (after x s)
unfolding after
fits_said prep w v say.nothing s l b k = stays w v s (omega (arith, l)) k
fits_said prep w v say.stray s l b k = stays w v s (omega (arith, l)) k
fits_said prep w v say.late s l b k = stays w v s (omega (arith, l)) k
fits_said prep w v (say.unit_line line) s l b k = after_unit_line w v line s l k
fits_said prep w v (say.terminal_line line) s l b k = after_terminal_line w v line s (omega (arith, l)) k
fits_said prep w v (say.command c) s l b k = after_word prep w v c s l b k
fits_said prep w v say.wrong s l b k = stays w v s (omega (arith, l)) k
fits_said prep w v say.end_of_text s l b k = stays w v s (omega (arith, l)) k

part_of_words : (o : Option Command) → unit_part (said_by_words o) ≡ 0
part_of_words None = refl
part_of_words (Some c) = refl

part_of_command : (line : List ℕ) → unit_part (command_said line) ≡ 0
unfolding command_said
part_of_command line = part_of_words (cmd.command_of (words (map to_ascii_uppercase line)))

no_more : (n m : ℕ) → n ≡ 0 → n ≤ m
no_more n m e = omega (arith, e)

outside : (line : List ℕ) (t u : Bool) → unit_part (if t then command_said line else if u then say.nothing else say.stray) ≤ length line
outside line true u = no_more (unit_part (command_said line)) (length line) (part_of_command line)
outside line false true = omega arith
outside line false false = omega arith

part_at : (p : Place) (line : List ℕ) → unit_part (said_at p line) ≤ length line
unfolding said_at
part_at place.Ended line = by (is_blank_line line) where
  by : (t : Bool) → unit_part (if t then say.nothing else say.late) ≤ length line
  by true = omega arith
  by false = omega arith
part_at place.InSession line = by (is_command line) (is_command (drop 1 line)) where
  by : (t u : Bool) → unit_part (if t then (if u then say.terminal_line (drop 1 line) else command_said line) else say.terminal_line line) ≤ length line
  by true true = omega arith
  by true false = no_more (unit_part (command_said line)) (length line) (part_of_command line)
  by false u = omega arith
part_at place.InUnit line = by (is_command line) where
  by : (t : Bool) → unit_part (if t then command_said line else say.unit_line line) ≤ length line
  by true = no_more (unit_part (command_said line)) (length line) (part_of_command line)
  by false = omega arith
part_at place.Outside line = outside line (is_command line) (is_blank_line line)
part_at place.Start line = outside line (is_command line) (is_blank_line line)

-- ---- 3. what all of them say

pub going : {A : Type 0} (n : ℕ) (o : Option ℕ) (rest : Result A Fault) (t : A) → going_on n o rest ≡ Ok t → (o ≡ None) × (rest ≡ Ok t)
going n None rest t e = (refl, e)
going n (Some r) rest t e = cc

fits_read : (prep : Bool) (ls : List (List ℕ)) (n w : ℕ) (s t : State) → Fits w s → verdict_from prep n ls s ≡ Ok t → Fits (w + weight ls) t
unfolding verdict_from
fits_read prep [] n w s t k e =
    let g = going n (broken prep s end_of_text) (Ok s) t e in
    let same : s ≡ t = cc (g.1) in
    subst (λ x. Fits (w + 0) x) same (stays w (w + 0) s (omega arith) k)
fits_read prep (l ∷ ls) n w s t k e =
    let g = going n (broken prep s (said_at s.place l)) (verdict_from prep (n + 1) ls (after (said_at s.place l) s)) t e in
    let m = part_at s.place l in
    let one = fits_said prep w (w + (length l + 1)) (said_at s.place l) s (omega (arith, m)) g.0 k in
    let all = fits_read prep ls (n + 1) (w + (length l + 1)) (after (said_at s.place l) s) t one g.1 in
    subst (λ x. Fits x t) (omega arith) all

started : Fits 0 start
started = record {
  settings = λ k n e. none k n e;
  programs = omega arith;
  each_program = tt;
  sessions = omega arith;
  each_session = tt;
}
  where
    none : (k : Setting) (n : ℕ) → setting_in k no_settings ≡ Some n → setting_fits k n ≡ true
    none st.Memory n e = cc
    none st.Quantum n e = cc
    none st.Turns n e = cc

value_fits : (k : Setting) (s : State) (w : ℕ) → Fits w s → setting_fits k (value_of k s.settings) ≡ true
value_fits k s w f = by k (setting_in k s.settings) refl where
  by : (k : Setting) (o : Option ℕ) → setting_in k s.settings ≡ o → setting_fits k (unwrap_or o (default_setting k)) ≡ true
  by k (Some n) e = f.settings k n e
  by st.Memory None e = refl
  by st.Quantum None e = refl
  by st.Turns None e = refl

program_fits : (w n : ℕ) (p : TextValue) → w ≤ n + 1 → UnitsFit w p → ProgramFits n p
program_fits w n p l k = record {
  few = k.few;
  short = all_weaken (λ text. length text + 1 ≤ w) (λ text. length text ≤ n) p.units (λ x m. omega (arith, l, m)) k.short;
}

state_fits : (w n : ℕ) (s : State) → w ≤ n + 1 → Fits w s → JobFits n (job_of s)
state_fits w n s l k = record {
  memory = between_at_most 1 1048576 (value_of st.Memory s.settings) (value_fits st.Memory s w k);
  some_steps = between_at_least 1 10000 (value_of st.Quantum s.settings) (value_fits st.Quantum s w k);
  quantum = between_at_most 1 10000 (value_of st.Quantum s.settings) (value_fits st.Quantum s w k);
  turns = between_at_most 1 1000000 (value_of st.Turns s.settings) (value_fits st.Turns s w k);
  programs = k.programs;
  each_program = all_weaken (UnitsFit w) (ProgramFits n) s.programs (λ p u. program_fits w n p l u) k.each_program;
  sessions = k.sessions;
  each_session = k.each_session;
}

job_fits_by : (bytes : List ℕ) (prep : Bool) (r : Result State Fault) (job : JobValue) → verdict_from prep 1 (lines bytes) start ≡ r → with_job r ≡ Ok job
    → JobFits (length bytes) job
job_fits_by bytes prep (Ok t) job e h =
    let same : job_of t ≡ job = cc in
    subst (λ j. JobFits (length bytes) j) same (state_fits (0 + weight (lines bytes)) (length bytes) t (let m = text_weight bytes in omega (arith, m)) (fits_read prep (lines bytes) 1 0 start t started e))
job_fits_by bytes prep (Err f) job e h = cc

-- a text that is this job is read as it
pub job_read : (bytes : List ℕ) (prep : Bool) (job : JobValue) → JobIs bytes prep job → (r : Result JobValue Fault) → verdict prep bytes ≡ r → r ≡ Ok job
job_read bytes prep job is (Ok other) e = ap Ok (jobs_are_unique bytes prep other job (job_is bytes prep other e) is)
job_read bytes prep job is (Err f) e = absurd (jobs_break_nothing bytes prep job f.line f.rule is (job_breaks bytes prep f e))

pub jobs_fit : JobsFit
unfolding verdict
jobs_fit bytes prep job is =
    job_fits_by bytes prep (verdict_from prep 1 (lines bytes) start) job refl (job_read bytes prep job is (verdict prep bytes) refl)
