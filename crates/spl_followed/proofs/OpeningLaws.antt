-- A session opens as its run does: the program's words are the run's, and behind them stands the main body's marker.
use Rattle.std.proofs.Common.{◌≡◌, ℕ, zero, suc, ◌+◌, ◌-◌, ◌<◌, List, [], ◌∷◌, length, refl, sym, ap, subst, ◌∙◌, arith}
use Rattle.std.specs.Prelude.{Option, Some, is_some, nat_lt, replicate, slice_index}
use Rattle.std.proofs.lemmas.Bool.{false≢true, ltb-true}
use Rattle.std.proofs.lemmas.List.{length-append, get_or_append_left}
use Rattle.spl_carries.specs.spl_meaning.Tables.{Source}
use Rattle.spl_carries.specs.spl_meaning.Places.{word_or_zero}
use Rattle.spl_carries.specs.spl_meaning.Bodies.{Reached, reached_behind, program_from, program_of, data_words}
use Rattle.spl_carries.specs.spl_meaning.Runs.{Seat, opening}
use Rattle.spl_carries.specs.Segments.{words_from, initial_words}
use Rattle.spl_follow.specs.spl_frames.Laws.{WordsStayWords, OpeningsHaveTheirWords}
use Rattle.spl_follow.specs.Matching.{outer}
use Rattle.spl_followed.specs.Followed.{start}
use Rattle.spl_followed.specs.Mains.{SessionsOpenAsRuns}

-- ---- the program's words

-- a program has the data words that it is given
program_words : (words : ℕ) (at : Reached) (us : List Source) → (program_from words at us).words ≡ words
program_words words at [] = refl
program_words words at (u ∷ us) = program_words words (reached_behind u at) us

-- so many words from an address on
words_length : (word : ℕ → ℕ) (a n : ℕ) → length (words_from word a n) ≡ n
words_length word a zero = refl
words_length word a (suc n) = ap (λ (i : ℕ). suc i) (words_length word (suc a) n)

-- each of which is that at its address
words_at : (word : ℕ → ℕ) (a n i : ℕ) → i < n → slice_index (words_from word a n) i ≡ word (a + i)
words_at word a zero i l = absurd (omega (arith, l))
words_at word a (suc n) zero l = let e : a ≡ a + 0 = omega arith in ap word e
words_at word a (suc n) (suc i) l =
    let e : suc a + i ≡ a + suc i = omega arith in words_at word (suc a) n i (omega (arith, l)) ∙ ap word e

-- no seat at all
abbrev no_seat : Seat
no_seat = record { stack = 0; extra = 0; room = 0; lines = [] }

-- a data word is below the program's words
word_below : (o : Option ℕ) (v a n : ℕ) → o ≡ Some v → is_some o ≡ nat_lt a n → a < n
word_below o v a n e is = ltb-true a n (sym is ∙ ap is_some e)

-- the word at an address of a program that has the units' data words
opened_word : (us : List Source) (words : List ℕ) (a v : ℕ) → words ≡ initial_words us → a < (program_of us).words
    → (opening (program_of us) no_seat 0).now.mem a ≡ Some v → slice_index words a ≡ v
opened_word us words a v is low e =
    ap (λ (ws : List ℕ). slice_index ws a) is
    ∙ words_at (λ i. word_or_zero ((opening (program_of us) no_seat 0).now.mem i)) 0 (program_of us).words a low ∙ ap word_or_zero here where
      none : 0 + a ≡ a
      none = omega arith

      here : (opening (program_of us) no_seat 0).now.mem (0 + a) ≡ Some v
      here = ap (λ (i : ℕ). (opening (program_of us) no_seat 0).now.mem i) none ∙ e

pub sessions_open : WordsStayWords → OpeningsHaveTheirWords → SessionsOpenAsRuns
sessions_open words_stay openings_have p us seat n globals sits =
    let words : ℕ = (program_of us).words in
    let count : words ≡ data_words us = program_words (data_words us) _ us in
    let long : length p.globals.items ≡ words = ap length globals ∙ words_length _ 0 words in
    let data' = sits.data' in
    let most = sits.most_stack in
    let base : length p.globals.items + 3 ≡ words + 4 - 1 = omega (arith, long) in
    let whole : length p.globals.items + 4 ≡ words + 4 + 0 = omega (arith, long) in
    let below : (a v : ℕ) → (opening (program_of us) seat n).now.mem a ≡ Some v → a < words =
    λ a v e. word_below ((opening (program_of us) seat n).now.mem a) v a words e (openings_have (program_of us) seat n a) in
    record {
      words = length-append p.globals.items (replicate 4 0) ∙ whole;
      lies = record {
        live = omega arith;
        deep = omega arith;
        link = λ e. absurd (false≢true e);
        held = omega arith;
        within = omega (arith, data', count);
        least = omega (arith, most);
      };
      low = λ a v e. let less = below a v e in omega (arith, less);
      holds = λ a v e.
          get_or_append_left p.globals.items (replicate 4 0) 0 a (subst (λ (i : ℕ). a < i) (sym long) (below a v e))
          ∙ opened_word us p.globals.items a v globals (below a v e) e;
      of_words = words_stay.openings (program_of us) seat n sits.bytes;
      outer = ap (λ (q : ℕ). record (outer (start p seat)) { q = q }) base;
    }
