-- The frame that a call of a subroutine makes: its data match the machine's stack, on which the words of the parameters and a return word stand,
-- and beneath it all is as it was.
-- 1. each data word is one of the parameters' or the caller's    (framed_cases)
-- 2. it stands on the stack                                      (frame_matches)
-- 3. what the callee may not touch stands as it did              (frame_over)
use Rattle.std.proofs.Common.{◌≡◌, ◌⊎◌, ℕ, ◌+◌, ◌≤◌, ◌<◌, List, [], ◌∷◌, ◌++◌, length, refl, ap, subst, ◌∙◌, arith}
use Rattle.std.specs.Prelude.{Some, None, replicate, slice_index}
use Rattle.std.proofs.Math.Logic.{⊎_elim}
use Rattle.std.proofs.lemmas.List.{length-append, length-replicate}
use Rattle.spl_procedures.specs.hp_session.State.{Machine}
use Rattle.spl_procedures.specs.spl_meaning.Pending.{formals_words, result_words, return_words}
use Rattle.spl_procedures.specs.spl_meaning.References.{Setting}
use Rattle.spl_procedures.specs.spl_meaning.Bodies.{Body}
use Rattle.spl_procedures.specs.spl_meaning.Runs.{link_of, subroutine_framed}
use Rattle.spl_procedures.specs.spl_meaning.States.{Data}
use Rattle.hp_near_calls.specs.spl_frames.Words.{AreWords}
use Rattle.spl_procedures.specs.spl_follow.Matching.{Outer, expected, Matches, Matched, Kept, Stand}
use Rattle.spl_procedures.proofs.spl_follow_proofs.StackLemmas.{stand_at}
use Rattle.spl_procedures.proofs.spl_follow_proofs.KeepLemmas.{above_none, small_join}
use Rattle.spl_procedures.proofs.PutLemmas.{IsPut, words_cases, words_none, word_of_words, zeros_small, behind, before}
use Rattle.spl_subroutines.specs.Subroutines.{subroutine_setting}

-- ---- above a caller

-- A subroutine's frame with its data and a stack, above a caller's data and stack, of which what is beneath b is not the callee's: the caller's
-- words there that are no data words are as they were, and the return word stands at `link`, the last of the frame.
pub record Over (d : Data) (xs : List ℕ) (b link return : ℕ) (e : Data) (ys : List ℕ) : Type 0 where
  pub base : e.base ≡ d.base
  pub top : e.top ≡ link + 1
  pub stack : e.stack ≡ d.stack
  pub room : e.room ≡ d.room
  pub none : (a : ℕ) → a < b → d.mem a ≡ None → e.mem a ≡ None
  pub word : (a : ℕ) → a < b → d.mem a ≡ None → slice_index ys a ≡ slice_index xs a
  pub free : e.mem link ≡ None
  pub mark : slice_index ys link ≡ return

-- what a part of the callee keeps is so still
pub over_kept : (d : Data) (xs : List ℕ) (b link return : ℕ) (e : Data) (ys : List ℕ) (f : Data) (zs : List ℕ) → b ≤ link
    → Over d xs b link return e ys → Kept e.top e ys f zs → Over d xs b link return f zs
over_kept d xs b link return e ys f zs low x kept =
    let top = x.top in
    record {
      base = ap (λ z. z.base) kept.footing ∙ x.base;
      top = ap (λ z. z.top) kept.footing ∙ x.top;
      stack = ap (λ z. z.stack) kept.footing ∙ x.stack;
      room = ap (λ z. z.room) kept.footing ∙ x.room;
      none = λ a l h. kept.none a (x.none a l h);
      word = λ a l h. kept.word a (omega (arith, l, low, top)) (x.none a l h) ∙ x.word a l h;
      free = kept.none link x.free;
      mark = kept.word link (omega (arith, top)) x.free ∙ x.mark;
    }

-- ---- the frame

module _ (st : Setting) (b : Body) (k : ℕ) (vs : List ℕ) (d : Data) (m : Machine) (return : ℕ)
    (x : Matched st d m (k + result_words b.profile + length vs)) (wide : length vs ≡ formals_words b.profile.formals)
    (stand : Stand m.stack (d.top + k) (replicate (result_words b.profile) 0 ++ vs)) (small : AreWords vs) where
  -- the words of the result and of the parameters, the frame's data, and its stack
  abbrev params : List ℕ
  params = replicate (result_words b.profile) 0 ++ vs

  abbrev frame : Data
  frame = subroutine_framed k b vs d

  abbrev stacked : List ℕ
  stacked = m.stack ++ return ∷ []

  -- how many these are
  params_length : length params ≡ result_words b.profile + formals_words b.profile.formals
  params_length =
      length-append (replicate (result_words b.profile) 0) vs ∙ ap (λ (i : ℕ). i + length vs) (length-replicate (result_words b.profile) 0)
      ∙ ap (λ (i : ℕ). result_words b.profile + i) wide

  long : length m.stack ≡ link_of d.top k b
  long = let words = x.words in omega (arith, words, wide)

  stacked_length : length stacked ≡ link_of d.top k b + return_words
  stacked_length = length-append m.stack (return ∷ []) ∙ ap (λ (i : ℕ). i + 1) long

  -- a word of the caller, and the return word
  caller_word : (a : ℕ) → a < link_of d.top k b → slice_index stacked a ≡ slice_index m.stack a
  caller_word a low = before m.stack (return ∷ []) a (omega (arith, low, long))

  return_word : slice_index stacked (link_of d.top k b) ≡ return
  return_word =
      let here : link_of d.top k b ≡ length m.stack + 0 = omega (arith, long) in
      behind m.stack (return ∷ []) (link_of d.top k b) 0 here

  -- the frame's data words by where they come from
  framed_cases : (a v : ℕ) → frame.mem a ≡ Some v → IsPut (d.top + k) params a v ⊎ (d.mem a ≡ Some v)
  framed_cases a v e = words_cases (d.top + k) params d.mem a v e

  -- what is none of the caller's is none of the frame's but for the parameters
  framed_none : (a : ℕ) → d.mem a ≡ None → (d.top + k ≤ a → a < link_of d.top k b → ⊥) → frame.mem a ≡ None
  framed_none a none not_param = words_none (d.top + k) params d.mem a none (λ h l. not_param h (omega (arith, l, params_length)))

  -- a word that was put stands on the stack, below the frame's top, and is one of sixteen bits
  param_holds : (a v : ℕ) → IsPut (d.top + k) params a v → (a < frame.top) × (slice_index stacked a ≡ v) × (v < 65536)
  param_holds a v i =
      let few = i.few in
      let at = i.at in
      let low : i.i < result_words b.profile + formals_words b.profile.formals = omega (arith, few, params_length) in
      let words : AreWords params = small_join (replicate (result_words b.profile) 0) vs (zeros_small (result_words b.profile)) small in (
        omega (arith, at, low),
        ap (λ (j : ℕ). slice_index stacked j) at ∙ caller_word (d.top + k + i.i) (omega (arith, low))
            ∙ stand_at m.stack params (d.top + k) i.i few stand ∙ i.is,
        subst (λ (j : ℕ). j < 65536) i.is (word_of_words params i.i words few),
      )

  old_holds : (a v : ℕ) → d.mem a ≡ Some v → (a < frame.top) × (slice_index stacked a ≡ v) × (v < 65536)
  old_holds a v e =
      let low = x.low a v e in
      (omega (arith, low), caller_word a (omega (arith, low)) ∙ x.holds a v e, x.of_words.stack a v e)

  word_holds : (a v : ℕ) → frame.mem a ≡ Some v → (a < frame.top) × (slice_index stacked a ≡ v) × (v < 65536)
  word_holds a v e = ⊎_elim (param_holds a v) (old_holds a v) (framed_cases a v e)

  -- so the frame matches, where it is within STACK
  pub frame_matches : (u : Outer) → u ≡ expected (subroutine_setting st b.profile) frame → frame.top ≤ d.stack
      → Matches (subroutine_setting st b.profile) frame stacked u 0
  frame_matches u rest within =
      let none : link_of d.top k b + return_words ≡ link_of d.top k b + return_words + 0 = omega arith in
      let live = x.lies.live in
      record {
        words = stacked_length ∙ none;
        lies = record {
          live = omega (arith, live);
          deep = x.lies.deep;
          link = λ e. refl;
          held = omega arith;
          within = within;
          least = x.lies.least;
        };
        low = λ a v e. (word_holds a v e).0;
        holds = λ a v e. (word_holds a v e).1;
        of_words = record { stack = λ a v e. (word_holds a v e).2; extra = x.of_words.extra; lines = x.of_words.lines };
        outer = rest;
      }

  -- and it stands over the caller
  pub frame_over : Over d m.stack (d.top + k) (link_of d.top k b) return frame stacked
  frame_over = record {
    base = refl;
    top = refl;
    stack = refl;
    room = refl;
    none = λ a low none. framed_none a none (λ h l. omega (arith, h, low));
    word = λ a low none. caller_word a (omega (arith, low));
    free =
        framed_none (link_of d.top k b) (above_none st d m (k + result_words b.profile + length vs) (link_of d.top k b) x (omega arith))
        (λ h l. omega (arith, l));
    mark = return_word;
  }
