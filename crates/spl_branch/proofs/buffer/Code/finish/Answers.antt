-- The words that are written are those of the pieces, with the marks where they stand.
use Rattle.std.proofs.Common.{◌≡◌, ◌∙◌, ◌≤◌, ℕ, Some, Bool, length, slice_index, ap, sym, subst, refl, arith, List}
use Rattle.std.specs.List.{list_all}
use Rattle.std.proofs.lemmas.List.{length-map}
use Rattle.spl_branch.specs.declared.modules.Fix.{Fix}
use Rattle.spl_branch.specs.Stands.{at_left}
use Rattle.spl_branch.specs.Words.{words_of}
use Rattle.spl_branch.specs.Fixes.{fixes_of}
use Rattle.spl_branch.specs.Modules.{Placed, StandWherever, define_of}
use Rattle.spl_branch.specs.Kept.{rises, has_aim}
use Rattle.spl_branch.proofs.StandingLemmas.{length-words, stand_wherever}
use Rattle.spl_branch.proofs.FixLemmas.{small_sized, rises_all, aims}
use Rattle.spl_branch.proofs.buffer.Code.finish.Goals as goal

pub overflow_cast-result : goal.overflow_cast-result
overflow_cast-result c =
    let slice : c.as_slice.result.now ≡ c.args.self.pieces.items = c.as_slice.ensures.value in
    let placed : Placed (Some c.in-Some.at) c.args.self.pieces.items = rw slice at (rw c.in-Some.is at c.in_ok-place_marks.ensures) in
    let words : c.in_ok-out-in-Some.out.words.items ≡ words_of (λ l. slice_index c.in-Some.at.items l) (at_left 0) c.args.self.pieces.items =
    c.in_ok-out-in-Some.ensures.words ∙ rw (c.as_slice-in-Some.ensures.value, c.as_slice-in-Some-2.ensures.value) refl in
    omega (arith, c.len.ensures, c.in_ok-out-in-Some.out.words.ok, ap length words, length-words c.args.self.pieces.items (λ l. slice_index c.in-Some.at.items l), placed.1)

pub returns-clause-count : goal.returns-clause-count
returns-clause-count c =
    let slice : c.as_slice.result.now ≡ c.args.self.pieces.items = c.as_slice.ensures.value in
    let placed : Placed (Some c.in-Some.at) c.args.self.pieces.items = rw slice at (rw c.in-Some.is at c.in_ok-place_marks.ensures) in
    let words : c.in_ok-out-in-Some.out.words.items ≡ words_of (λ l. slice_index c.in-Some.at.items l) (at_left 0) c.args.self.pieces.items =
    c.in_ok-out-in-Some.ensures.words ∙ rw (c.as_slice-in-Some.ensures.value, c.as_slice-in-Some-2.ensures.value) refl in
    omega (arith, c.len.ensures, c.in_ok-out-in-Some.out.words.ok, ap length words, length-words c.args.self.pieces.items (λ l. slice_index c.in-Some.at.items l), placed.2)

pub returns-clause-oversized : goal.returns-clause-oversized
returns-clause-oversized c =
    let slice : c.as_slice.result.now ≡ c.args.self.pieces.items = c.as_slice.ensures.value in
    let placed : Placed (Some c.in-Some.at) c.args.self.pieces.items = rw slice at (rw c.in-Some.is at c.in_ok-place_marks.ensures) in
    let words : c.in_ok-out-in-Some.out.words.items ≡ words_of (λ l. slice_index c.in-Some.at.items l) (at_left 0) c.args.self.pieces.items =
    c.in_ok-out-in-Some.ensures.words ∙ rw (c.as_slice-in-Some.ensures.value, c.as_slice-in-Some-2.ensures.value) refl in
    λ large. absurd (omega (arith, large, c.len.ensures, c.in_ok-out-in-Some.out.words.ok, ap length words, length-words c.args.self.pieces.items (λ l. slice_index c.in-Some.at.items l), placed.1))

pub returns-clause-finished : goal.returns-clause-finished
returns-clause-finished c =
    let slice : c.as_slice.result.now ≡ c.args.self.pieces.items = c.as_slice.ensures.value in
    let placed : Placed (Some c.in-Some.at) c.args.self.pieces.items = rw slice at (rw c.in-Some.is at c.in_ok-place_marks.ensures) in
    let marks : ℕ → ℕ = λ l. slice_index c.in-Some.at.items l in
    let words : c.in_ok-out-in-Some.out.words.items ≡ words_of marks (at_left 0) c.args.self.pieces.items =
    c.in_ok-out-in-Some.ensures.words ∙ rw (c.as_slice-in-Some.ensures.value, c.as_slice-in-Some-2.ensures.value) refl in
    let fixes : c.in_ok-out-in-Some.out.fixes.items ≡ fixes_of marks (at_left 0) c.args.self.pieces.items =
    c.in_ok-out-in-Some.ensures.fixes ∙ rw (c.as_slice-in-Some.ensures.value, c.as_slice-in-Some-2.ensures.value) refl in
    let P : List ℕ → Type 0 = λ ws. StandWherever ws c.in_ok-out-in-Some.out.fixes.items marks c.args.self.pieces.items in
    let Q : List Fix → Type 0 = λ fs. StandWherever (words_of marks (at_left 0) c.args.self.pieces.items) fs marks c.args.self.pieces.items in
    λ small. record {
      marks = marks;
      settled = placed.0;
      size = omega (arith, c.len.ensures, c.in_ok-out-in-Some.out.words.ok);
      stands = subst P (sym words) (subst Q (sym fixes) (stand_wherever c.args.self.pieces.items marks c.args.self.formed placed.0 placed.1 placed.3));
      fixes = fixes;
      starts = c.in_ok-out-in-Some.ensures.starts ∙ rw (c.as_slice-in-Some.ensures.value, c.as_slice-in-Some-2.ensures.value) refl;
      defines = c.in_ok-defines_of-in-Some.ensures ∙ rw c.as_slice-in-Some-3.ensures.value refl;
      main = c.main_of-in-Some.ensures ∙ rw c.as_slice-in-Some-4.ensures.value refl;
    }

pub invariant_of-result-in-Some : goal.invariant_of-result-in-Some
invariant_of-result-in-Some c =
    let slice : c.as_slice.result.now ≡ c.args.self.pieces.items = c.as_slice.ensures.value in
    let placed : Placed (Some c.in-Some.at) c.args.self.pieces.items = rw slice at (rw c.in-Some.is at c.in_ok-place_marks.ensures) in
    let marks : ℕ → ℕ = λ l. slice_index c.in-Some.at.items l in
    let words : c.in_ok-out-in-Some.out.words.items ≡ words_of marks (at_left 0) c.args.self.pieces.items =
    c.in_ok-out-in-Some.ensures.words ∙ rw (c.as_slice-in-Some.ensures.value, c.as_slice-in-Some-2.ensures.value) refl in
    let fixes : c.in_ok-out-in-Some.out.fixes.items ≡ fixes_of marks (at_left 0) c.args.self.pieces.items =
    c.in_ok-out-in-Some.ensures.fixes ∙ rw (c.as_slice-in-Some.ensures.value, c.as_slice-in-Some-2.ensures.value) refl in
    let count : length c.in_ok-defines_of-in-Some.field-0.items ≡ length c.args.self.entries.items =
    ap length (c.in_ok-defines_of-in-Some.ensures ∙ rw c.as_slice-in-Some-3.ensures.value refl) ∙ length-map c.args.self.entries.items (define_of marks) in
    let size : length c.in_ok-out-in-Some.out.words.items ≤ 16383 = omega (arith, ap length words, length-words c.args.self.pieces.items marks, placed.1) in
    record {
      sized = small_sized c.len.result (length c.in_ok-out-in-Some.out.words.items) (omega (arith, c.len.ensures, c.in_ok-out-in-Some.out.words.ok)) size;
      in_order = ap {B = Bool} (λ ws. rises 0 (length ws) c.in_ok-out-in-Some.out.fixes.items) words ∙ ap (λ fs. rises 0 (length (words_of marks (at_left 0) c.args.self.pieces.items)) fs) fixes ∙ rises_all c.args.self.pieces.items marks;
      aimed = ap {B = Bool} (λ n. list_all (has_aim n (length c.args.self.wants.items)) c.in_ok-out-in-Some.out.fixes.items) count ∙ ap (λ fs. list_all (has_aim (length c.args.self.entries.items) (length c.args.self.wants.items)) fs) fixes
          ∙ aims c.args.self.pieces.items marks (at_left 0) (length c.args.self.entries.items) (length c.args.self.wants.items) placed.3 c.requires.calls;
    }
