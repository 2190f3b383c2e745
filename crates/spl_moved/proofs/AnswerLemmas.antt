-- MOVE and SCAN along the tree, whose answer is used: their code is whole, and gives it.
use Rattle.std.proofs.Common.{◌≡◌, ℕ, ◌+◌, ◌-◌, ◌%◌, ◌≤◌, Bool, true, false, List, [], ◌∷◌, Option, refl, sym, arith}
use Rattle.std.proofs.lemmas.List.{append-nil}
use Rattle.std.specs.Prelude.{max}
use Rattle.std.proofs.lemmas.Bool.{false≢true}
use Rattle.spl_choices.specs.spl_tree.declared.expressions.Kind.{Kind}
use Rattle.spl_choices.specs.spl_tree.Trees.{Tree}
use Rattle.spl_choices.specs.spl_tree.StatementTrees as stat
use Rattle.spl_choices.specs.spl_tree.StatementTrees.{Source}
use Rattle.spl_choices.specs.spl_meaning.Places.{Place}
use Rattle.spl_choices.specs.spl_meaning.Pending.{most, source_most}
use Rattle.spl_choices.specs.spl_meaning.References.{Here, Setting}
use Rattle.spl_choices.specs.spl_meaning.Statements.{effect_done}
use Rattle.spl_choices.specs.spl_meaning.Values.{Who, Callee, value, located}
use Rattle.spl_choices.specs.spl_code.Calls.{Scope}
use Rattle.spl_choices.specs.spl_code.Code.{as_value, code, reference}
use Rattle.spl_choices.specs.spl_code.Parts.{pieces, piece, ◌⨟◌}
use Rattle.spl_choices.specs.spl_code.Constants.{constant, text_offset}
use Rattle.spl_choices.specs.spl_statement_code.Instructions.{MVBW}
use Rattle.spl_choices.specs.spl_statement_code.Effects.{leads_to_bytes, kept_first, told, move_of, text_scaled, text_count, class_letters, scan_of, source_moved}
use Rattle.spl_choices.specs.spl_follow.Simulating.{Surroundings}
use Rattle.spl_choices.proofs.spl_follow_proofs.StandLemmas.{closed_last}
use Rattle.spl_covered.specs.spl_values.Reached.{IsWhole}
use Rattle.spl_covered.proofs.spl_values_proofs.VariableLemmas.{both}
use Rattle.spl_covered.proofs.spl_values_proofs.WholeLemmas.{whole_then, whole_behind}
use Rattle.spl_covered.specs.spl_links.Links.{MayCall}
use Rattle.spl_covered.specs.spl_names.Names.{read_with}
use Rattle.spl_covered.specs.Covered.{is_covered}
use Rattle.spl_covered.proofs.CoverLemmas.{covered_whole}
use Rattle.spl_covered.specs.spl_moves.Moving.{Answers}
use Rattle.spl_covered.specs.spl_moves.Laws.{CountedMovesAnswer}
use Rattle.spl_covered.proofs.spl_moves_proofs.AnswerLemmas.{counted_answer}
use Rattle.spl_covered.specs.spl_scans.Laws.{TextMovesAnswer, ClassMovesAnswer, ScansAnswer}
use Rattle.spl_covered.proofs.spl_scans_proofs.AnswerLemmas.{text_answer, class_answer, scan_answer}
use Rattle.spl_moved.specs.Moved.{is_moved, is_moved_source}
use Rattle.spl_moved.specs.Laws.{AnswersAreWhole, MovesAnswer}
use Rattle.spl_moved.proofs.ReferenceLemmas.{moved_case, reference_whole, reference_is}
use Rattle.spl_covered.proofs.spl_byte_tests_proofs.LeadLemmas.{bytes_are}
use Rattle.spl_moved.proofs.EffectLemmas.{moves_close, scans_close, word_gives}

-- ---- whole code

source_whole : (may : Who → Bool) (c : Scope) (st : Setting) (bytes : Bool) (from : Source) (k : ℕ) → is_moved_source may c st true bytes from k ≡ true
    → IsWhole (source_moved c true bytes from k)
source_whole may c st bytes (stat.Source.counted from count) k h =
    let two = both (is_moved may c st bytes from (k + 2)) (is_covered may c st count (k + 3)) h in
    whole_behind (reference c from (k + 2) ⨟ code c count as_value (k + 3)) (move_of bytes 0 ∷ [])
    (whole_then (reference c from (k + 2)) (code c count as_value (k + 3)) (reference_whole may c st bytes from (k + 2) two.0) (covered_whole may c st count (k + 3) two.1))
    (moves_close bytes 0)
source_whole may c st bytes (stat.Source.text text) k h = record {
  closed = λ l ws. closed_last ((text_offset text ⨟ pieces (text_scaled bytes) ⨟ pieces (constant (text_count bytes text % 65536))) l ws).pieces (move_of bytes 1 ∷ [])
      (moves_close bytes 1);
  keeps = λ l ws. record { rest = []; is = sym (append-nil ws) };
}
source_whole may c st bytes (stat.Source.class_of from class) k h =
    let two = both bytes (is_moved may c st true from (k + 2)) h in
    whole_behind (reference c from (k + 2)) (MVBW (class_letters class) ∷ []) (reference_whole may c st true from (k + 2) two.1) refl

pub answers_whole : AnswersAreWhole
answers_whole may c st (stat.Effect.move to from) k h =
    let bytes = leads_to_bytes c to in
    let two = both (is_moved may c st bytes to k) (is_moved_source may c st true bytes from k) h in
    whole_behind (reference c to k ⨟ pieces (kept_first true) ⨟ source_moved c true bytes from k) (told true)
    (whole_then (reference c to k ⨟ pieces (kept_first true)) (source_moved c true bytes from k)
    (whole_behind (reference c to k) (kept_first true) (reference_whole may c st bytes to k two.0) refl) (source_whole may c st bytes from k two.1)) refl
answers_whole may c st (stat.Effect.scan from until e) k h =
    let two = both (is_moved may c st true from k) (is_covered may c st e (k + 2)) h in
    whole_behind (reference c from k ⨟ pieces (kept_first true) ⨟ code c e as_value (k + 2) ⨟ piece (scan_of until)) (told true)
    (whole_behind (reference c from k ⨟ pieces (kept_first true) ⨟ code c e as_value (k + 2)) (scan_of until ∷ [])
    (whole_then (reference c from k ⨟ pieces (kept_first true)) (code c e as_value (k + 2))
    (whole_behind (reference c from k) (kept_first true) (reference_whole may c st true from k two.0) refl) (covered_whole may c st e (k + 2) two.1)) (scans_close until)) refl

-- ---- answers

module _ (counted : CountedMovesAnswer) (text_law : TextMovesAnswer) (class_law : ClassMovesAnswer) (may : Who → Bool) (c : Scope)
    (results : List ℕ → Option (Kind × Place)) (z : Surroundings) (call : Callee) (d k need : ℕ) (around : MayCall may c z d call) where
  abbrev v : Here
  v = read_with c results z.setting

  move_answers : (to : Tree) (from : Source) (bytes : Bool) → is_moved may c z.setting bytes to k ≡ true
      → is_moved_source may c z.setting true bytes from k ≡ true → max (most c.names to) (source_most c.names true from) + 8 ≤ need
      → Answers z d k need (reference c to k ⨟ pieces (kept_first true) ⨟ source_moved c true bytes from k ⨟ pieces (told true))
      (λ s. effect_done v call d true (stat.Effect.move to from) k s)
  move_answers to (stat.Source.counted from count) bytes h j enough =
      let two = both (is_moved may c z.setting bytes from (k + 2)) (is_covered may c z.setting count (k + 3)) j in
      counted z d k need (need - 2) (need - 3) bytes (moved_case may c z.setting bytes to k h).kinds.type
      (moved_case may c z.setting bytes from (k + 2) two.0).kinds.type (reference c to k) (reference c from (k + 2))
      (code c count as_value (k + 3)) (λ s. located v call to k s) (λ s. located v call from (k + 2) s) (λ s. value v call count (k + 3) s)
      (moved_case may c z.setting bytes to k h).kinds.units (moved_case may c z.setting bytes from (k + 2) two.0).kinds.units
      (reference_is may c results z call d bytes to k need around h (omega (arith, enough)))
      (reference_is may c results z call d bytes from (k + 2) (need - 2) around two.0 (omega (arith, enough)))
      (covered_whole may c z.setting count (k + 3) two.1)
      (word_gives may c results z call d count (k + 3) (need - 3) around two.1 (omega (arith, enough)))
      (omega (arith, enough)) (omega (arith, enough)) (omega (arith, enough))
  move_answers to (stat.Source.text text) bytes h j enough =
      text_law z d k need bytes (moved_case may c z.setting bytes to k h).kinds.type (reference c to k)
      (λ s. located v call to k s) text (moved_case may c z.setting bytes to k h).kinds.units (bytes_are text j)
      (reference_is may c results z call d bytes to k need around h (omega (arith, enough))) (omega (arith, enough))
  move_answers to (stat.Source.class_of from class) true h j enough =
      class_law z d k need (need - 2) (moved_case may c z.setting true to k h).kinds.type
      (moved_case may c z.setting true from (k + 2) j).kinds.type class (reference c to k) (reference c from (k + 2))
      (λ s. located v call to k s) (λ s. located v call from (k + 2) s)
      (moved_case may c z.setting true to k h).kinds.units (moved_case may c z.setting true from (k + 2) j).kinds.units
      (reference_is may c results z call d true to k need around h (omega (arith, enough)))
      (reference_is may c results z call d true from (k + 2) (need - 2) around j (omega (arith, enough)))
      (omega (arith, enough)) (omega (arith, enough))
  move_answers to (stat.Source.class_of from class) false h j enough = absurd (false≢true j)

pub moves_answer : CountedMovesAnswer → TextMovesAnswer → ClassMovesAnswer → ScansAnswer → MovesAnswer
moves_answer counted text class scan may c results z call d (stat.Effect.move to from) k need around h enough =
    let bytes = leads_to_bytes c to in
    let two = both (is_moved may c z.setting bytes to k) (is_moved_source may c z.setting true bytes from k) h in
    (move_answers counted text class may c results z call d k need around to from bytes two.0 two.1 enough).simulates
moves_answer counted text class scan may c results z call d (stat.Effect.scan from until e) k need around h enough =
    let two = both (is_moved may c z.setting true from k) (is_covered may c z.setting e (k + 2)) h in
    let v = read_with c results z.setting in
    (scan z d k need (need - 2) (moved_case may c z.setting true from k two.0).kinds.type until (reference c from k)
    (code c e as_value (k + 2)) (λ s. located v call from k s) (λ s. value v call e (k + 2) s)
    (moved_case may c z.setting true from k two.0).kinds.units
    (reference_is may c results z call d true from k need around two.0 (omega (arith, enough)))
    (covered_whole may c z.setting e (k + 2) two.1)
    (word_gives may c results z call d e (k + 2) (need - 2) around two.1 (omega (arith, enough)))
    (omega (arith, enough)) (omega (arith, enough))).simulates

pub covered_moves_answer : MovesAnswer
covered_moves_answer = moves_answer counted_answer text_answer class_answer scan_answer
