-- The way out of a procedure: its result is read by the run where the machine has it, and EXIT goes back to the caller, whose frame is as it was.
-- 1. the words of the result stand on the stack     (words_found)
-- 2. EXIT goes on behind the call                   (exit_goes)
-- 3. and the machine is the caller's, with a result  (left_value)
use Rattle.std.proofs.Common.{◌≡◌, ◌⊎◌, inl, inr, ℕ, zero, suc, ◌+◌, ◌-◌, ◌≤◌, ◌<◌, Bool, true, false, List, [], ◌∷◌, length, refl, sym, ap, subst, ◌∙◌, arith}
use Rattle.std.specs.Prelude.{Option, Some, None, take, slice_index, nat_lt, if◌then◌else◌}
use Rattle.std.proofs.Math.Logic.{⊎_elim}
use Rattle.std.proofs.lemmas.Bool.{lt-ltb, ltb-true}
use Rattle.std.proofs.lemmas.List.{length-take-le, get_or-take}
use Rattle.std.proofs.lemmas.Option.{none-some}
use Rattle.hp_call_yields.specs.hp_word.declared.endings.Ending.TheVariants.{Running}
use Rattle.hp_call_yields.specs.hp_word.declared.endings.Trap.TheVariants.{Bounds}
use Rattle.hp_call_yields.specs.hp_instr.declared.instruction.Instr.TheVariants as i
use Rattle.hp_call_yields.specs.hp_session.State.{Machine, Outcome as Row, wrapped}
use Rattle.hp_call_yields.specs.hp_call_rows.CallRows.{status, marker}
use Rattle.hp_call_yields.specs.Steps.{with_status_of}
use Rattle.hp_call_yields.proofs.CallYields as calls
use Rattle.hp_call_yields.specs.hp_flat.Step.{at_left, ended}
use Rattle.spl_grants.specs.spl_tree.declared.expressions.Kind.{Kind}
use Rattle.spl_grants.specs.spl_meaning.Names.{Profile}
use Rattle.spl_grants.specs.spl_meaning.Kinds.{width, result_width}
use Rattle.spl_grants.specs.spl_meaning.Operations.{result_value}
use Rattle.spl_grants.specs.spl_meaning.Pending.{result_words}
use Rattle.spl_grants.specs.spl_meaning.References.{Setting, data_word_read}
use Rattle.spl_grants.specs.spl_meaning.Runs.{words_at, result_at, left_to}
use Rattle.spl_grants.specs.spl_meaning.States.{Data, State, trapped, Outcome, done, ends, strays, then_go}
use Rattle.hp_call_yields.specs.spl_frames.Words.{AreWords}
use Rattle.hp_call_yields.specs.spl_follow.Spots.{Spot, spot, pos, on, Ground, next_word, Real}
use Rattle.hp_call_yields.specs.spl_follow.Leading.{Leads}
use Rattle.hp_call_yields.specs.spl_follow.Matching.{Outer, outer, expected, Matches, Matched, Kept, Stand, IsValue, Footing, footing, Lies}
use Rattle.hp_call_yields.specs.spl_follow.Following.{Rate, tally, Goes}
use Rattle.hp_call_yields.specs.spl_follow.Calling.{result_of}
use Rattle.hp_call_yields.specs.spl_follow.Doing.{doing}
use Rattle.hp_call_yields.proofs.spl_follow_proofs.StackLemmas.{stand_kept}
use Rattle.hp_call_yields.proofs.spl_follow_proofs.WayLemmas.{lead}
use Rattle.hp_call_yields.proofs.spl_follow_proofs.RowLemmas.{no_print, shown}
use Rattle.spl_procedures.specs.Procedures.{procedure_setting}
use Rattle.spl_procedures.proofs.FrameLemmas.{Over}

-- ---- the result

-- words from an address on that the run reads where they stand on the stack
pub record Found (n a : ℕ) (s : State) (m : Machine) : Type 0 where
  pub words : List ℕ
  pub are : words_at n a s ≡ done words s
  pub count : length words ≡ n
  pub stand : Stand m.stack a words
  pub small : AreWords words

-- below the frame's top each word is read, or it is none and the run strays
pub words_found : (st : Setting) (j n a : ℕ) (s : State) (m : Machine) → Matched st s.now m j → a + n ≤ s.now.top
    → Found n a s m ⊎ (words_at n a s ≡ strays s)
words_found st j zero a s m x low = inl (record { words = []; are = refl; count = refl; stand = tt; small = tt })
words_found st j (suc n) a s m x low = by (s.now.mem a) refl (words_found st j n (suc a) s m x (omega (arith, low))) where
  others : ℕ → State → Outcome (List ℕ)
  others w t = then_go (words_at n (suc a) t) (λ ws u. done (w ∷ ws) u)

  first : (o : Option ℕ) → s.now.mem a ≡ o → words_at (suc n) a s ≡ then_go (data_word_read o s) others
  first o e =
      let inside = x.lies.within in
      ap (λ (t : Bool). then_go (if t then data_word_read (s.now.mem a) s else ends (trapped Bounds) s) others)
      (lt-ltb a s.now.stack (omega (arith, low, inside)))
      ∙ ap (λ (q : Option ℕ). then_go (data_word_read q s) others) e

  by : (o : Option ℕ) → s.now.mem a ≡ o → Found n (suc a) s m ⊎ (words_at n (suc a) s ≡ strays s) → Found (suc n) a s m ⊎ (words_at (suc n) a s ≡ strays s)
  by None e rest = inr (first None e)
  by (Some v) e (inl f) =
      let count = f.count in
      inl (record {
        words = v ∷ f.words;
        are = first (Some v) e ∙ ap (λ (o : Outcome (List ℕ)). then_go o (λ ws u. done (v ∷ ws) u)) f.are;
        count = ap (λ (k : ℕ). suc k) count;
        stand = (x.holds a v e, f.stand);
        small = (x.of_words.stack a v e, f.small);
      })
  by (Some v) e (inr f) = inr (first (Some v) e ∙ ap (λ (o : Outcome (List ℕ)). then_go o (λ ws u. done (v ∷ ws) u)) f)

-- the words of a result, by which the run has its value
pub record Result (r : Option Kind) (a : ℕ) (s : State) (m : Machine) : Type 0 where
  pub words : List ℕ
  pub are : result_at r a s ≡ done (result_of r words) s
  pub count : length words ≡ result_width r
  pub stand : Stand m.stack a words
  pub small : AreWords words

pub result_found : (st : Setting) (j a : ℕ) (r : Option Kind) (s : State) (m : Machine) → Matched st s.now m j → a + result_width r ≤ s.now.top
    → Result r a s m ⊎ (result_at r a s ≡ strays s)
result_found st j a None s m x low = inl (record { words = []; are = refl; count = refl; stand = tt; small = tt })
result_found st j a (Some kind) s m x low =
    ⊎_elim (λ f. inl (record {
      words = f.words;
      are = ap (λ (o : Outcome (List ℕ)). then_go o (λ ws u. done (result_value kind ws) u)) f.are;
      count = f.count;
      stand = f.stand;
      small = f.small;
    })) (λ f. inr (ap (λ (o : Outcome (List ℕ)). then_go o (λ ws u. done (result_value kind ws) u)) f))
    (words_found st j (width kind) a s m x low)

-- ---- modes

-- what matches in one mode matches in the other, where the machine is in that
pub mode_matched : (split other : Bool) (p : Profile) (d : Data) (xs : List ℕ) (u : Outer) (k : ℕ) → Matches (procedure_setting split p) d xs u k
    → Matches (procedure_setting other p) d xs (record u { split = other }) k
mode_matched split other p d xs u k x = record {
  words = x.words;
  lies = record { live = x.lies.live; deep = x.lies.deep; link = x.lies.link; held = x.lies.held; within = x.lies.within; least = x.lies.least };
  low = x.low;
  holds = x.holds;
  of_words = x.of_words;
  outer = ap (λ (v : Outer). record v { split = other }) x.outer;
}

-- ---- EXIT

-- the words of a marker
marker_first : (c : Machine) → slice_index (marker c) 0 ≡ c.regs.x
unfolding marker
marker_first c = refl

marker_second : (c : Machine) → slice_index (marker c) 1 ≡ wrapped (c.regs.p + 1)
unfolding marker
marker_second c = refl

marker_third : (c : Machine) → slice_index (marker c) 2 ≡ status c.regs
unfolding marker
marker_third c = refl

marker_last : (c : Machine) → slice_index (marker c) 3 ≡ wrapped (length c.stack + 3 + 65536 - c.regs.q)
unfolding marker
marker_last c = refl

pub marker_four : (c : Machine) → length (marker c) ≡ 4
unfolding marker
marker_four c = refl

-- the machine behind a call from c, of whose words n are deleted
abbrev pub gone : ℕ → Machine → Machine → Machine
gone n c m = record (at_left m) {
  stack = take (length c.stack - n) m.stack;
  regs = record (with_status_of c.regs (at_left m).regs) { x = c.regs.x; q = c.regs.q; p = wrapped (c.regs.p + 1) };
}

-- EXIT over the marker of a call from c
pub exit_goes : (g : Ground) (w : Rate) (p q : Spot) (n : ℕ) (s : State) (c m : Machine) → Leads g (on p) q (doing g.segments (i.Control 1 n) q) → spot m ≡ p
    → m.ending ≡ Running → m.split ≡ false → m.regs.q ≡ length c.stack + 3 → length c.stack + 3 < length m.stack → length c.stack + 3 < 65536
    → ((i : ℕ) → i < 4 → slice_index m.stack (length c.stack + i) ≡ slice_index (marker c) i) → c.regs.seg < 256 → c.regs.seg < length g.segments
    → c.regs.q + n < length c.stack → Goes g w (pos q - pos p) 0 w.reach (tally s) m (tally s) (gone n c m)
exit_goes g w p q n s c m leads at runs whole q_is less small mark byte there below =
    let here : length c.stack ≡ length c.stack + 0 = omega arith in
    lead g w (on p) q (doing g.segments (i.Control 1 n) q) s.begun s m (gone n c m) leads at runs refl
    (ap (λ (o : Row). ended m o)
    (calls.exit_row g.segments n (at_left m)
    ∙ calls.procedure_returns g.segments n c (at_left m) whole q_is less small
    (ap (λ (a : ℕ). slice_index m.stack a) here ∙ mark 0 (omega arith) ∙ marker_first c) (mark 1 (omega arith) ∙ marker_second c)
    (mark 2 (omega arith) ∙ marker_third c) (mark 3 (omega arith) ∙ marker_last c) byte there below))
    (no_print m (gone n c m) refl)

-- ---- the caller again

-- a data word below an address
cut_some : (b : Bool) (o : Option ℕ) (v : ℕ) → (if b then o else None) ≡ Some v → (b ≡ true) × (o ≡ Some v)
cut_some true o v e = (refl, e)
cut_some false o v e = absurd (none-some v e)

cut_none : (b : Bool) (o : Option ℕ) → (b ≡ true → o ≡ None) → (if b then o else None) ≡ None
cut_none true o none = none refl
cut_none false o none = refl

-- Behind EXIT the machine is the caller's, with the words of the result on top of those that waited.
module _ (st : Setting) (whole : st.split ≡ false) (g : Ground) (p : Spot) (k n : ℕ) (profile : Profile) (d : Data) (m0 : Machine)
    (at : spot m0 ≡ p) (real : Real g p) (x0 : Matched st d m0 (k + result_words profile + n)) (s : State) (m : Machine)
    (x : Matched (procedure_setting false profile) s.now m 0)
    (over : Over d m0.stack (d.top + k) (length m0.stack) (marker (at_left m0)) s.now m.stack) where
  -- the machine behind EXIT
  abbrev pub after_exit : Machine
  after_exit = gone n (at_left m0) m

  -- what stands below the parameters stays
  stays : (a : ℕ) → a < d.top + k + result_words profile → slice_index after_exit.stack a ≡ slice_index m.stack a
  stays a low = let words = x0.words in get_or-take (length m0.stack - n) m.stack a 0 (omega (arith, low, words))

  left_length : length after_exit.stack ≡ d.top + (k + result_words profile)
  left_length =
      let words = x0.words in
      let here = x.words in
      let top = over.top in
      let few : length m0.stack - n ≤ length m.stack = omega (arith, words, here, top) in
      let same : length m0.stack - n ≡ d.top + (k + result_words profile) = omega (arith, words) in
      length-take-le (length m0.stack - n) m.stack few ∙ same

  left_footing : footing (left_to d s).now ≡ footing d
  left_footing =
      ap (λ (i : ℕ). record (footing (left_to d s).now) { stack = i }) over.stack ∙ ap (λ (i : ℕ). record (footing d) { room = i }) over.room

  left_outer : outer after_exit ≡ expected st (left_to d s).now
  left_outer =
      ap (λ (u : Outer). record u { q = m0.regs.q; traps = m0.regs.traps }) x.outer
      ∙ ap (λ (u : Outer). record (expected (procedure_setting false profile) s.now) { q = u.q; traps = u.traps }) x0.outer
      ∙ ap (λ (b : Bool). record (expected st (left_to d s).now) { split = b }) (sym whole)

  left_word : (a v : ℕ) → (left_to d s).now.mem a ≡ Some v → (a < d.top) × (s.now.mem a ≡ Some v)
  left_word a v e = let c = cut_some (nat_lt a d.top) (s.now.mem a) v e in (ltb-true a d.top c.0, c.1)

  left_matches : Matched st (left_to d s).now after_exit (k + result_words profile)
  left_matches = record {
    words = left_length;
    lies = subst (λ (f : Footing). Lies st f) (sym left_footing) x0.lies;
    low = λ a v e. (left_word a v e).0;
    holds = λ a v e. let c = left_word a v e in let low = c.0 in stays a (omega (arith, low)) ∙ x.holds a v c.1;
    of_words = record {
      stack = λ a v e. x.of_words.stack a v (left_word a v e).1;
      extra = x.of_words.extra;
      lines = x.of_words.lines;
    };
    outer = left_outer;
  }

  left_kept : Kept (d.top + k) d m0.stack (left_to d s).now after_exit.stack
  left_kept = record {
    footing = left_footing;
    none = λ a h. cut_none (nat_lt a d.top) (s.now.mem a) (λ e. let low = ltb-true a d.top e in over.none a (omega (arith, low)) h);
    word = λ a low h. stays a (omega (arith, low)) ∙ over.word a low h;
  }

  left_at : spot after_exit ≡ next_word p
  left_at =
      let few = real.offset in
      let next : wrapped (p.offset + 1) ≡ p.offset + 1 = omega (arith, few) in
      ap (λ (z : Spot). record { seg = z.seg; offset = wrapped (z.offset + 1); right = false }) at
      ∙ ap (λ (i : ℕ). record { seg = p.seg; offset = i; right = false }) next

  pub left_value : (words : List ℕ) → length words ≡ result_words profile → Stand m.stack (d.top + k) words → AreWords words
      → IsValue st (next_word p) (result_words profile) k d m0 words (left_to d s) after_exit
  left_value words count stand small = record {
    at = left_at;
    wide = count;
    matches = left_matches;
    stand = stand_kept m.stack after_exit.stack words (d.top + k) (d.top + k + result_words profile) (omega (arith, count))
        (λ i above below. stays i below) stand;
    small = small;
    kept = left_kept;
    silent = refl;
  }

  -- EXIT's charge is its halves of words
  pub exit_left : (w : Rate) (q r : Spot) → Leads g (on q) r (doing g.segments (i.Control 1 n) r) → spot m ≡ q
      → Goes g w (pos r - pos q) 0 w.reach (tally s) m (tally s) after_exit
  exit_left w q r leads here =
      let shows = shown (procedure_setting false profile) s m 0 x in
      let words = x.words in
      let top = over.top in
      let before = x0.words in
      let live = x0.lies.live in
      let within = x.lies.within in
      let least = x.lies.least in
      let base = over.base in
      let q_is : m.regs.q ≡ s.now.base = ap (λ (u : Outer). u.q) x.outer in
      let q_was : m0.regs.q ≡ d.base = ap (λ (u : Outer). u.q) x0.outer in
      let seg : m0.regs.seg ≡ p.seg = ap (λ (z : Spot). z.seg) at in
      let byte = real.byte in
      let there = real.there in
      exit_goes g w q r n s (at_left m0) m leads here shows.ending (ap (λ (u : Outer). u.split) x.outer) (q_is ∙ base) (omega (arith, words, top))
      (omega (arith, top, within, least)) over.mark (omega (arith, seg, byte)) (omega (arith, seg, there)) (omega (arith, q_was, before, live))
