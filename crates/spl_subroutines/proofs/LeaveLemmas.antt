-- The way out of a subroutine: SXIT takes the return word, and goes back to the caller, whose frame is as it was.
use Rattle.std.proofs.Common.{◌≡◌, ℕ, ◌+◌, ◌-◌, ◌≤◌, ◌<◌, Bool, true, false, List, length, refl, sym, ap, subst, ◌∙◌, arith}
use Rattle.std.specs.Prelude.{Option, Some, None, slice_index, nat_lt, if◌then◌else◌}
use Rattle.std.proofs.lemmas.Bool.{ltb-true}
use Rattle.std.proofs.lemmas.List.{length-take-le, get_or-take}
use Rattle.std.proofs.lemmas.Option.{none-some}
use Rattle.spl_procedures.specs.hp_word.declared.endings.Ending.TheVariants.{Running}
use Rattle.spl_procedures.specs.hp_instr.declared.instruction.Instr.TheVariants as i
use Rattle.spl_procedures.specs.hp_session.State.{Machine, Outcome as Row, word, without, at_place}
use Rattle.spl_procedures.proofs.hp_call_yields_proofs.CallYields as calls
use Rattle.spl_procedures.specs.hp_flat.Step.{at_left, ended}
use Rattle.spl_procedures.specs.spl_meaning.Names.{Profile}
use Rattle.spl_procedures.specs.spl_meaning.Pending.{result_words}
use Rattle.spl_procedures.specs.spl_meaning.References.{Setting}
use Rattle.spl_procedures.specs.spl_meaning.Runs.{left_to}
use Rattle.spl_procedures.specs.spl_meaning.States.{Data, State}
use Rattle.hp_near_calls.specs.spl_frames.Words.{AreWords}
use Rattle.spl_procedures.specs.spl_follow.Spots.{Spot, spot, pos, on, Ground, next_word}
use Rattle.spl_procedures.specs.spl_follow.Leading.{Leads}
use Rattle.spl_procedures.specs.spl_follow.Matching.{outer, expected, Matched, Kept, Stand, IsValue, Footing, footing, Lies}
use Rattle.spl_procedures.specs.spl_follow.Following.{Rate, tally, Goes}
use Rattle.spl_procedures.specs.spl_follow.Doing.{doing}
use Rattle.spl_procedures.proofs.spl_follow_proofs.StackLemmas.{stand_kept}
use Rattle.spl_procedures.proofs.spl_follow_proofs.WayLemmas.{lead}
use Rattle.spl_procedures.proofs.spl_follow_proofs.RowLemmas.{no_print, shown}
use Rattle.spl_subroutines.specs.Subroutines.{subroutine_setting}
use Rattle.spl_subroutines.proofs.FrameLemmas.{Over}

-- ---- SXIT

-- the machine behind a call, of whose words n are deleted beneath the return word
abbrev pub gone : ℕ → Machine → Machine
gone n m = at_place (word 0 m) (without (n + 1) m)

-- SXIT over a return word
pub exit_goes : (g : Ground) (w : Rate) (p q : Spot) (n : ℕ) (s : State) (m : Machine) → Leads g (on p) q (doing g.segments (i.Control 2 n) q) → spot m ≡ p
    → m.ending ≡ Running → n + 1 ≤ length m.stack → Goes g w (pos q - pos p) 0 w.reach (tally s) m (tally s) (gone n m)
exit_goes g w p q n s m leads at runs enough =
    lead g w (on p) q (doing g.segments (i.Control 2 n) q) s.begun s m (gone n m) leads at runs refl
    (ap (λ (o : Row). ended m o) (calls.subroutine_exit_row g.segments n (at_left m) ∙ calls.subroutine_returns n (at_left m) enough))
    (no_print m (gone n m) refl)

-- ---- the caller again

-- a data word below an address
cut_some : (b : Bool) (o : Option ℕ) (v : ℕ) → (if b then o else None) ≡ Some v → (b ≡ true) × (o ≡ Some v)
cut_some true o v e = (refl, e)
cut_some false o v e = absurd (none-some v e)

cut_none : (b : Bool) (o : Option ℕ) → (b ≡ true → o ≡ None) → (if b then o else None) ≡ None
cut_none true o none = none refl
cut_none false o none = refl

-- Behind SXIT the machine is the caller's, with the words of the result on top of those that waited.
module _ (st : Setting) (p : Spot) (k n : ℕ) (profile : Profile) (d : Data) (m0 : Machine) (x0 : Matched st d m0 (k + result_words profile + n))
    (s : State) (m : Machine) (x : Matched (subroutine_setting st profile) s.now m 0) (seg : m.regs.seg ≡ p.seg)
    (over : Over d m0.stack (d.top + k) (length m0.stack) (next_word p).offset s.now m.stack) where
  -- the machine behind SXIT
  abbrev pub after_exit : Machine
  after_exit = gone n m

  -- how many words there are with the return word, and without the parameters
  framed : length m.stack ≡ length m0.stack + 1
  framed = let here = x.words in let top = over.top in omega (arith, here, top)

  fewer : length m.stack - (n + 1) ≡ d.top + (k + result_words profile)
  fewer = let words = x0.words in omega (arith, framed, words)

  -- what stands below the parameters stays
  stays : (a : ℕ) → a < d.top + k + result_words profile → slice_index after_exit.stack a ≡ slice_index m.stack a
  stays a low = get_or-take (length m.stack - (n + 1)) m.stack a 0 (omega (arith, low, fewer))

  left_length : length after_exit.stack ≡ d.top + (k + result_words profile)
  left_length = length-take-le (length m.stack - (n + 1)) m.stack (omega arith) ∙ fewer

  left_footing : footing (left_to d s).now ≡ footing d
  left_footing =
      ap (λ (i : ℕ). record (footing (left_to d s).now) { stack = i }) over.stack ∙ ap (λ (i : ℕ). record (footing d) { room = i }) over.room

  left_outer : outer after_exit ≡ expected st (left_to d s).now
  left_outer = x.outer ∙ ap (λ (i : ℕ). record (expected (subroutine_setting st profile) s.now) { q = i }) over.base

  left_word : (a v : ℕ) → (left_to d s).now.mem a ≡ Some v → (a < d.top) × (s.now.mem a ≡ Some v)
  left_word a v e = let c = cut_some (nat_lt a d.top) (s.now.mem a) v e in (ltb-true a d.top c.0, c.1)

  left_matches : Matched st (left_to d s).now after_exit (k + result_words profile)
  left_matches = record {
    words = left_length;
    lies = subst (λ (f : Footing). Lies st f) (sym left_footing) x0.lies;
    low = λ a v e. (left_word a v e).0;
    holds = λ a v e. let c = left_word a v e in let low = c.0 in stays a (omega (arith, low)) ∙ x.holds a v c.1;
    of_words = record {
      stack = λ a v e. x.of_words.stack a v (left_word a v e).1;
      extra = x.of_words.extra;
      lines = x.of_words.lines;
    };
    outer = left_outer;
  }

  left_kept : Kept (d.top + k) d m0.stack (left_to d s).now after_exit.stack
  left_kept = record {
    footing = left_footing;
    none = λ a h. cut_none (nat_lt a d.top) (s.now.mem a) (λ e. let low = ltb-true a d.top e in over.none a (omega (arith, low)) h);
    word = λ a low h. stays a (omega (arith, low)) ∙ over.word a low h;
  }

  -- the return word is on top
  top_word : word 0 m ≡ p.offset + 1
  top_word =
      let last : length m.stack - 1 - 0 ≡ length m0.stack = omega (arith, framed) in
      ap (λ (a : ℕ). slice_index m.stack a) last ∙ over.mark

  left_at : spot after_exit ≡ next_word p
  left_at =
      ap (λ (a : ℕ). record { seg = a; offset = word 0 m; right = false }) seg
      ∙ ap (λ (a : ℕ). record { seg = p.seg; offset = a; right = false }) top_word

  pub left_value : (words : List ℕ) → length words ≡ result_words profile → Stand m.stack (d.top + k) words → AreWords words
      → IsValue st (next_word p) (result_words profile) k d m0 words (left_to d s) after_exit
  left_value words count stand small = record {
    at = left_at;
    wide = count;
    matches = left_matches;
    stand = stand_kept m.stack after_exit.stack words (d.top + k) (d.top + k + result_words profile) (omega (arith, count))
        (λ i above below. stays i below) stand;
    small = small;
    kept = left_kept;
    silent = refl;
  }

  -- SXIT's charge is its halves of words
  pub exit_left : (g : Ground) (w : Rate) (q r : Spot) → Leads g (on q) r (doing g.segments (i.Control 2 n) r) → spot m ≡ q
      → Goes g w (pos r - pos q) 0 w.reach (tally s) m (tally s) after_exit
  exit_left g w q r leads here =
      let shows = shown (subroutine_setting st profile) s m 0 x in
      let words = x0.words in
      exit_goes g w q r n s m leads here shows.ending (omega (arith, framed, words))
