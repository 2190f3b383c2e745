-- The frame that a call makes: its data match the machine's stack, on which the words of the parameters, a marker and zeros stand, and beneath
-- it all is as it was.
-- 1. each data word is one of those put or one of the caller's     (framed_cases)
-- 2. it stands on the stack                                        (frame_matches)
-- 3. what the callee may not touch stands as it did                (frame_over)
use Rattle.std.proofs.Common.{◌≡◌, ◌⊎◌, inl, inr, ℕ, ◌+◌, ◌≤◌, ◌<◌, false, List, ◌++◌, length, refl, sym, ap, subst, ◌∙◌, arith}
use Rattle.std.specs.Prelude.{Some, None, is_some, replicate, slice_index}
use Rattle.std.proofs.Math.Logic.{⊎_elim}
use Rattle.std.proofs.lemmas.Bool.{false≢true}
use Rattle.std.proofs.lemmas.List.{length-append, length-replicate, get_or-replicate}
use Rattle.hp_call_yields.specs.hp_session.State.{Machine}
use Rattle.spl_grants.specs.spl_meaning.Pending.{formals_words, result_words}
use Rattle.spl_grants.specs.spl_meaning.References.{Setting}
use Rattle.spl_grants.specs.spl_meaning.Bodies.{Body}
use Rattle.spl_grants.specs.spl_meaning.Runs.{put_words, link_of, locals_of}
use Rattle.spl_grants.specs.spl_meaning.States.{Data}
use Rattle.hp_call_yields.specs.spl_frames.Words.{AreWords}
use Rattle.hp_call_yields.specs.spl_frames.Entries.{data_zeroed}
use Rattle.hp_call_yields.specs.spl_follow.Matching.{Outer, expected, Matches, Matched, Kept, Stand}
use Rattle.hp_call_yields.proofs.spl_follow_proofs.StackLemmas.{stand_at}
use Rattle.hp_call_yields.proofs.spl_follow_proofs.KeepLemmas.{above_none, small_join}
use Rattle.spl_procedures.specs.Procedures.{procedure_setting, HasLocals}
use Rattle.spl_procedures.proofs.PutLemmas.{IsPut, words_cases, words_there, words_none, word_of_words, zeros_are_words, zeros_small}
use Rattle.spl_procedures.proofs.PutLemmas.{behind, before}

-- ---- above a caller

-- A frame with its data and a stack, above a caller's data and stack, of which what is beneath b is not the callee's: the caller's words there
-- that are no data words are as they were, and the marker's four words stand from `link` on.
pub record Over (d : Data) (xs : List ℕ) (b link : ℕ) (marker : List ℕ) (e : Data) (ys : List ℕ) : Type 0 where
  pub base : e.base ≡ link + 3
  pub top : link + 4 ≤ e.top
  pub stack : e.stack ≡ d.stack
  pub room : e.room ≡ d.room
  pub none : (a : ℕ) → a < b → d.mem a ≡ None → e.mem a ≡ None
  pub word : (a : ℕ) → a < b → d.mem a ≡ None → slice_index ys a ≡ slice_index xs a
  pub free : (i : ℕ) → i < 4 → e.mem (link + i) ≡ None
  pub mark : (i : ℕ) → i < 4 → slice_index ys (link + i) ≡ slice_index marker i

-- what a part of the callee keeps is so still
pub over_kept : (d : Data) (xs : List ℕ) (b link : ℕ) (marker : List ℕ) (e : Data) (ys : List ℕ) (f : Data) (zs : List ℕ) → b ≤ link
    → Over d xs b link marker e ys → Kept e.top e ys f zs → Over d xs b link marker f zs
over_kept d xs b link marker e ys f zs low x kept =
    let top = x.top in
    record {
      base = ap (λ z. z.base) kept.footing ∙ x.base;
      top = let same : f.top ≡ e.top = ap (λ z. z.top) kept.footing in omega (arith, top, same);
      stack = ap (λ z. z.stack) kept.footing ∙ x.stack;
      room = ap (λ z. z.room) kept.footing ∙ x.room;
      none = λ a l h. kept.none a (x.none a l h);
      word = λ a l h. kept.word a (omega (arith, l, low, top)) (x.none a l h) ∙ x.word a l h;
      free = λ i l. kept.none (link + i) (x.free i l);
      mark = λ i l. kept.word (link + i) (omega (arith, l, top)) (x.free i l) ∙ x.mark i l;
    }

-- ---- the frame

module _ (st : Setting) (b : Body) (k : ℕ) (vs : List ℕ) (d : Data) (m : Machine) (marker : List ℕ) (four : length marker ≡ 4)
    (x : Matched st d m (k + result_words b.profile + length vs)) (wide : length vs ≡ formals_words b.profile.formals)
    (stand : Stand m.stack (d.top + k) (replicate (result_words b.profile) 0 ++ vs)) (small : AreWords vs) where
  -- the words of the result and of the parameters, the frame's data, and its stack
  abbrev params : List ℕ
  params = replicate (result_words b.profile) 0 ++ vs

  abbrev frame : Data
  frame = data_zeroed d k b vs

  abbrev stacked : List ℕ
  stacked = (m.stack ++ marker) ++ replicate b.words 0

  -- how many these are
  params_length : length params ≡ result_words b.profile + formals_words b.profile.formals
  params_length =
      length-append (replicate (result_words b.profile) 0) vs ∙ ap (λ (i : ℕ). i + length vs) (length-replicate (result_words b.profile) 0)
      ∙ ap (λ (i : ℕ). result_words b.profile + i) wide

  long : length m.stack ≡ link_of d.top k b
  long = let words = x.words in omega (arith, words, wide)

  marked_length : length (m.stack ++ marker) ≡ locals_of d.top k b
  marked_length = length-append m.stack marker ∙ ap (λ (i : ℕ). i + length marker) long ∙ ap (λ (i : ℕ). link_of d.top k b + i) four

  stacked_length : length stacked ≡ locals_of d.top k b + b.words
  stacked_length =
      length-append (m.stack ++ marker) (replicate b.words 0) ∙ ap (λ (i : ℕ). i + length {A = ℕ} (replicate b.words 0)) marked_length
      ∙ ap (λ (i : ℕ). locals_of d.top k b + i) (length-replicate b.words 0)

  -- a word of the caller, of the marker, and a local one
  caller_word : (a : ℕ) → a < link_of d.top k b → slice_index stacked a ≡ slice_index m.stack a
  caller_word a low =
      before (m.stack ++ marker) (replicate b.words 0) a (omega (arith, low, marked_length)) ∙ before m.stack marker a (omega (arith, low, long))

  marker_word : (i : ℕ) → i < 4 → slice_index stacked (link_of d.top k b + i) ≡ slice_index marker i
  marker_word i few =
      before (m.stack ++ marker) (replicate b.words 0) (link_of d.top k b + i) (omega (arith, few, marked_length))
      ∙ behind m.stack marker (link_of d.top k b + i) i (ap (λ (j : ℕ). j + i) (sym long))

  local_word : (i : ℕ) → i < b.words → slice_index stacked (locals_of d.top k b + i) ≡ 0
  local_word i few =
      behind (m.stack ++ marker) (replicate b.words 0) (locals_of d.top k b + i) i (ap (λ (j : ℕ). j + i) (sym marked_length))
      ∙ get_or-replicate b.words i 0 0 few

  -- the frame's data words
  frame_mem : put_words (locals_of d.top k b) (replicate b.words 0) (put_words (d.top + k) params d.mem) ≡ frame.mem
  frame_mem = zeros_are_words b.words (locals_of d.top k b) (put_words (d.top + k) params d.mem)

  -- by where they come from
  framed_cases : (a v : ℕ) → frame.mem a ≡ Some v
      → IsPut (locals_of d.top k b) (replicate b.words 0) a v ⊎ (IsPut (d.top + k) params a v ⊎ (d.mem a ≡ Some v))
  framed_cases a v e =
      ⊎_elim (λ i. inl i) (λ f. inr (words_cases (d.top + k) params d.mem a v f))
      (words_cases (locals_of d.top k b) (replicate b.words 0) (put_words (d.top + k) params d.mem) a v (ap (λ f. f a) frame_mem ∙ e))

  -- what is none of the caller's is none of the frame's but above it
  framed_none : (a : ℕ) → d.mem a ≡ None → (d.top + k ≤ a → a < link_of d.top k b → ⊥) → (locals_of d.top k b ≤ a → a < locals_of d.top k b + b.words → ⊥)
      → frame.mem a ≡ None
  framed_none a none not_param not_local =
      ap (λ f. f a) (sym frame_mem)
      ∙ words_none (locals_of d.top k b) (replicate b.words 0) (put_words (d.top + k) params d.mem) a
      (words_none (d.top + k) params d.mem a none (λ h l. not_param h (omega (arith, l, params_length))))
      (λ h l. let count = length-replicate {A = ℕ} b.words 0 in not_local h (omega (arith, l, count)))

  -- a word that was put stands on the stack, below the frame's top, and is one of sixteen bits
  zero_holds : (a v : ℕ) → IsPut (locals_of d.top k b) (replicate b.words 0) a v → (a < frame.top) × (slice_index stacked a ≡ v) × (v < 65536)
  zero_holds a v i =
      let count = length-replicate {A = ℕ} b.words 0 in
      let few = i.few in
      let at = i.at in
      let low : i.i < b.words = omega (arith, few, count) in
      let zero : v ≡ 0 = sym i.is ∙ get_or-replicate b.words i.i 0 0 low in (
        omega (arith, at, low),
        ap (λ (j : ℕ). slice_index stacked j) at ∙ local_word i.i low ∙ sym zero,
        omega (arith, zero),
      )

  param_holds : (a v : ℕ) → IsPut (d.top + k) params a v → (a < frame.top) × (slice_index stacked a ≡ v) × (v < 65536)
  param_holds a v i =
      let few = i.few in
      let at = i.at in
      let low : i.i < result_words b.profile + formals_words b.profile.formals = omega (arith, few, params_length) in
      let words : AreWords params = small_join (replicate (result_words b.profile) 0) vs (zeros_small (result_words b.profile)) small in (
        omega (arith, at, low),
        ap (λ (j : ℕ). slice_index stacked j) at ∙ caller_word (d.top + k + i.i) (omega (arith, low))
            ∙ stand_at m.stack params (d.top + k) i.i few stand ∙ i.is,
        subst (λ (j : ℕ). j < 65536) i.is (word_of_words params i.i words few),
      )

  old_holds : (a v : ℕ) → d.mem a ≡ Some v → (a < frame.top) × (slice_index stacked a ≡ v) × (v < 65536)
  old_holds a v e =
      let low = x.low a v e in
      (omega (arith, low), caller_word a (omega (arith, low)) ∙ x.holds a v e, x.of_words.stack a v e)

  word_holds : (a v : ℕ) → frame.mem a ≡ Some v → (a < frame.top) × (slice_index stacked a ≡ v) × (v < 65536)
  word_holds a v e = ⊎_elim (zero_holds a v) (⊎_elim (param_holds a v) (old_holds a v)) (framed_cases a v e)

  -- so the frame matches, where it is within STACK
  pub frame_matches : (u : Outer) → u ≡ expected (procedure_setting false b.profile) frame → frame.top ≤ d.stack
      → Matches (procedure_setting false b.profile) frame stacked u 0
  frame_matches u rest within =
      let none : locals_of d.top k b + b.words ≡ locals_of d.top k b + b.words + 0 = omega arith in
      record {
        words = stacked_length ∙ none;
        lies = record {
          live = omega arith;
          deep = omega arith;
          link = λ e. absurd (false≢true e);
          held = omega arith;
          within = within;
          least = x.lies.least;
        };
        low = λ a v e. (word_holds a v e).0;
        holds = λ a v e. (word_holds a v e).1;
        of_words = record { stack = λ a v e. (word_holds a v e).2; extra = x.of_words.extra; lines = x.of_words.lines };
        outer = rest;
      }

  -- its local words are there
  pub frame_has_locals : HasLocals b frame
  frame_has_locals = record {
    top = omega arith;
    there = λ a above below.
        let count = length-replicate {A = ℕ} b.words 0 in
        ap (λ f. is_some (f a)) (sym frame_mem)
        ∙ words_there (locals_of d.top k b) (replicate b.words 0) (put_words (d.top + k) params d.mem) a (omega (arith, above)) (omega (arith, below, count));
  }

  -- and it stands over the caller
  pub frame_over : Over d m.stack (d.top + k) (link_of d.top k b) marker frame stacked
  frame_over = record {
    base = omega arith;
    top = omega arith;
    stack = refl;
    room = refl;
    none = λ a low none. framed_none a none (λ h l. omega (arith, h, low)) (λ h l. omega (arith, h, low));
    word = λ a low none. caller_word a (omega (arith, low));
    free = λ i few.
        framed_none (link_of d.top k b + i) (above_none st d m (k + result_words b.profile + length vs) (link_of d.top k b + i) x (omega arith))
        (λ h l. omega (arith, l)) (λ h l. omega (arith, h, few));
    mark = marker_word;
  }
