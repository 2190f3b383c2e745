-- A lawful state stays lawful.
use Rattle.std.proofs.Common.{ℕ, ◌≡◌, ◌<◌, Bool, true, false, List, ◌∷◌, refl, sym, subst, ◌∙◌}
use Rattle.std.specs.Prelude.{is_some}
use Rattle.spl_meaning.specs.spl_tree.StatementTrees.{Statements}
use Rattle.spl_meaning.specs.Bodies.{Body, Named}
use Rattle.spl_meaning.specs.Statements.{run_body}
use Rattle.spl_meaning.specs.Runs.{calls}
use Rattle.spl_meaning.specs.States.{Data, State, Outcome, done, leaves, spent, ends, strays}
use Rattle.spl_frames.specs.Frames.{Frame, HasRoom, Lawful, LawfulIn, Stays, StaysIn}
use Rattle.spl_frames.proofs.PartLaws.{parts_keep}

lawful_on : (words : ℕ) (live : Frame) (others : List Frame) (d e : Data) → Lawful words live others d → Stays d e → Lawful words live others e
lawful_on words live others d e h s = record {
  top = s.top ∙ h.top;
  base = s.base ∙ h.base;
  inner = s.inner ∙ h.inner;
  words_are_there = λ a m.
      let old : (a < d.top) × (is_some (d.mem a) ≡ true) = h.words_are_there a m in
      (subst (λ (n : ℕ). a < n) (sym s.top) old.0, s.words a old.0 old.1);
  no_others = λ a m. h.no_others a (by a (is_some (d.mem a)) refl m);
  room = subst (λ (n : ℕ). HasRoom n (live ∷ others)) (sym s.stack) h.room;
}
  where
    by : (a : ℕ) (t : Bool) → is_some (d.mem a) ≡ t → is_some (e.mem a) ≡ true → is_some (d.mem a) ≡ true
    by a true n m = n
    by a false n m = let o : is_some (e.mem a) ≡ false = s.none a n in cc

lawful_in : (words : ℕ) (live : Frame) (others : List Frame) (d : Data) (o : Outcome (Unit {0})) → Lawful words live others d → StaysIn d o
    → LawfulIn words live others o
lawful_in words live others d (done a t) h s = lawful_on words live others d t.now h s
lawful_in words live others d (leaves x t) h s = lawful_on words live others d t.now h s
lawful_in words live others d (spent t) h s = tt
lawful_in words live others d (ends e t) h s = tt
lawful_in words live others d (strays t) h s = tt

pub lawful_stays : (words : ℕ) (live : Frame) (others : List Frame) (procedures : List Named) (d i : ℕ) (b : Body) (ss : Statements) (s : State)
    → Lawful words live others s.now → LawfulIn words live others (run_body b.here (calls procedures d b) d i ss s)
lawful_stays words live others procedures d i b ss s h =
    lawful_in words live others s.now (run_body b.here (calls procedures d b) d i ss s) h (parts_keep.bodies procedures d i b ss s)
