-- One step of a move: where it goes on, and what stands then on the words that wait.
use Rattle.std.proofs.Common.{◌≡◌, ℕ, zero, suc, ◌+◌, ◌-◌, ◌<◌, Bool, true, false, List, [], ◌∷◌, ◌++◌, length, take, refl, sym, ap, subst, ◌∙◌, arith}
use Rattle.std.specs.Prelude.{◌==◌, Some, None, Ok, slice_index, slice_set}
use Rattle.std.proofs.lemmas.Bool.{cond-true, cond-false, eq-eqb, ne_eqb}
use Rattle.std.proofs.lemmas.List.{length-set, get_or-set_same, get_or-set_other}
use Rattle.std.proofs.lemmas.Option.{none-some}
use Rattle.std.proofs.Math.Logic.{⊎_elim}
use Rattle.hp_call_yields.specs.hp_session.State.{Machine, wrapped, word}
use Rattle.hp_call_yields.specs.hp_yields.Rows.{held, with_held}
use Rattle.hp_call_yields.specs.spl_frames.Words.{AreWords}
use Rattle.spl_statement_code.specs.spl_meaning.Places.{put}
use Rattle.spl_statement_code.specs.spl_meaning.References.{Setting, placed_word}
use Rattle.spl_statement_code.specs.spl_meaning.States.{Data, State}
use Rattle.hp_call_yields.specs.spl_follow.Spots.{Spot, spot, landed}
use Rattle.hp_call_yields.specs.spl_follow.Matching.{Outer, outer, Matches, Matched, Kept, Stand, IsValue}
use Rattle.hp_call_yields.specs.spl_follow.Doing.{moving}
use Rattle.hp_call_yields.proofs.spl_follow_proofs.KeepLemmas.{kept_top, matched_length}
use Rattle.hp_call_yields.proofs.spl_follow_proofs.StackLemmas.{stand_behind}
use Rattle.hp_call_yields.proofs.spl_follow_proofs.RowLemmas.{yields_matched, yields_kept, put_cases, put_none}
use Rattle.spl_operands.specs.Operands.{Seen}

-- ---- where a step goes on

-- at its own place
pub stays : (r : Spot) (e m : Machine) → e.regs.p ≡ m.regs.p → moving r (Ok e) m ≡ landed (spot m) e
stays r e m same =
    ap (λ (q : Spot). landed q e) (cond-true (e.regs.p == m.regs.p) (spot m) r (eq-eqb e.regs.p m.regs.p same))

-- or behind it
pub passes : (r : Spot) (e m : Machine) → e.regs.p ≡ wrapped (m.regs.p + 1) → moving r (Ok e) m ≡ landed r e
passes r e m next =
    ap (λ (q : Spot). landed q e) (cond-false (e.regs.p == m.regs.p) (spot m) r
    (ne_eqb e.regs.p m.regs.p (λ same. absurd (omega (arith, next, same)))))

-- ---- a word that is put

-- what matches does with another value of a data word
put_matched : (st : Setting) (d : Data) (xs : List ℕ) (u : Outer) (k a v old : ℕ) → Matches st d xs u k → d.mem a ≡ Some old → v < 65536
    → Matches st (record d { mem = put a v d.mem }) (slice_set xs a v) u k
put_matched st d xs u k a v old x there small =
    let below = x.low a old there in
    let words = x.words in
    record {
      words = length-set xs a v ∙ x.words;
      lies = x.lies;
      low = λ b z e. ⊎_elim (λ i. subst (λ (i : ℕ). i < d.top) (sym i.0) below) (λ i. x.low b z i.1) (put_cases d.mem a v b z e);
      holds = λ b z e. ⊎_elim
          (λ i. ap (λ (c : ℕ). slice_index (slice_set xs a v) c) i.0 ∙ get_or-set_same xs a v 0 (omega (arith, words, below)) ∙ sym i.1)
          (λ i. get_or-set_other xs a b v 0 i.0 ∙ x.holds b z i.1) (put_cases d.mem a v b z e);
      of_words = record {
        stack = λ b z e. ⊎_elim (λ i. subst (λ (i : ℕ). i < 65536) (sym i.1) small) (λ i. x.of_words.stack b z i.1) (put_cases d.mem a v b z e);
        extra = x.of_words.extra;
        lines = x.of_words.lines;
      };
      outer = x.outer;
    }

-- a list of words with another word in it
words_set : (xs : List ℕ) (a v : ℕ) → AreWords xs → v < 65536 → AreWords (slice_set xs a v)
words_set [] a v h l = tt
words_set (x ∷ xs) zero v h l = (l, h.1)
words_set (x ∷ xs) (suc a) v h l = (h.0, words_set xs a v h.1 l)

-- a word that is put where one is seen, on the stack or in the extra segment
pub placed_matched : (far : Bool) (st : Setting) (s : State) (m : Machine) (j a v old : ℕ) → Matched st s.now m j → Seen far a old s m → v < 65536
    → Matched st (placed_word far a v s).now (with_held far (slice_set (held far m) a v) m) j
placed_matched false st s m j a v old x seen small = put_matched st s.now m.stack (outer m) j a v old x (seen.known refl) small
placed_matched true st s m j a v old x seen small = record {
  words = x.words;
  lies = x.lies;
  low = x.low;
  holds = x.holds;
  of_words = record { stack = x.of_words.stack; extra = words_set s.now.extra a v x.of_words.extra small; lines = x.of_words.lines };
  outer = ap (λ (z : Outer). record z { extra = slice_set z.extra a v }) x.outer;
}

pub placed_kept : (far : Bool) (b : ℕ) (d : Data) (xs : List ℕ) (s : State) (m : Machine) (a v old : ℕ) → Kept b d xs s.now m.stack → Seen far a old s m
    → Kept b d xs (placed_word far a v s).now (with_held far (slice_set (held far m) a v) m).stack
placed_kept false b d xs s m a v old k seen = record {
  footing = k.footing;
  none = λ c h. put_none s.now.mem a v old c (seen.known refl) (k.none c h);
  word = λ c low h.
      get_or-set_other m.stack a c v 0 (λ same. none-some old (sym (k.none c h) ∙ ap s.now.mem same ∙ seen.known refl)) ∙ k.word c low h;
}
placed_kept true b d xs s m a v old k seen = record { footing = k.footing; none = k.none; word = k.word }

-- ---- words that are left

-- Words in place of the n on top, of a part that began with d0 and m0 while k words waited.
pub value_left : (st : Setting) (q : Spot) (k n width : ℕ) (ws : List ℕ) (d0 : Data) (m0 : Machine) (t : State) (m e : Machine) → spot e ≡ q
    → e.stack ≡ take (length m.stack - n) m.stack ++ ws → outer e ≡ outer m → Matched st t.now m (k + n)
    → Kept (d0.top + k) d0 m0.stack t.now m.stack → t.code ≡ None → AreWords ws → length ws ≡ width → IsValue st q width k d0 m0 ws t e
value_left st q k n width ws d0 m0 t m e at stack same x kept silent small wide =
    let top = kept_top (d0.top + k) d0 m0.stack t.now m.stack kept in
    let long : length m.stack ≡ d0.top + k + n = matched_length st t.now m k n d0.top x top in
    let matches : Matched st t.now e (k + length ws) =
    subst (λ (u : Outer). Matches st t.now e.stack u (k + length ws)) (sym same)
    (subst (λ (xs : List ℕ). Matches st t.now xs (outer m) (k + length ws)) (sym stack) (yields_matched st t.now m k n ws x)) in
    record {
      at = at;
      wide = wide;
      matches = subst (λ (i : ℕ). Matched st t.now e (k + i)) wide matches;
      stand = subst (λ (xs : List ℕ). Stand xs (d0.top + k) ws) (sym stack) (stand_behind m.stack ws n (d0.top + k) long);
      small = small;
      kept = subst (λ (xs : List ℕ). Kept (d0.top + k) d0 m0.stack t.now xs) (sym stack)
          (yields_kept (d0.top + k) d0 m0.stack t.now m.stack ws n kept long);
      silent = silent;
    }

-- one word more of a list
take_more : (xs : List ℕ) (j : ℕ) → j < length xs → take (suc j) xs ≡ take j xs ++ slice_index xs j ∷ []
take_more [] j l = absurd (omega (arith, l))
take_more (x ∷ xs) zero l = refl
take_more (x ∷ xs) (suc j) l = ap (λ (ys : List ℕ). x ∷ ys) (take_more xs j (omega (arith, l)))

-- the first of some words is left where those behind it are deleted
pub first_left : (n : ℕ) (m : Machine) → n < length m.stack
    → take (length m.stack - n) m.stack ≡ take (length m.stack - suc n) m.stack ++ word n m ∷ []
first_left n m there =
    let xs = m.stack in
    let j = length xs - suc n in
    let next : length xs - n ≡ suc j = omega (arith, there) in
    let place : j ≡ length xs - 1 - n = omega (arith, there) in
    ap (λ (h : ℕ). take h xs) next ∙ take_more xs j (omega (arith, there)) ∙ ap (λ (h : ℕ). take j xs ++ slice_index xs h ∷ []) place
